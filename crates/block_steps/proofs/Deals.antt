-- Each step of a conversion and of a splitting is the next one of the miner's part.
use Rattle.std.proofs.Common.{◌≡◌, ℕ, ◌*◌, List, [], ◌∷◌, ◌++◌, length, refl, sym, ◌∙◌, ap, false, Some}
use Rattle.proto_core.specs.Rings.{add_ring, xor_ring}
use Rattle.proto_core.specs.declared.party.Number.{Number}
use Rattle.proto_core.specs.declared.party.Number.TheVariants.{One, Two, Three}
use Rattle.proto_core.specs.declared.link.Link.TheVariants.{Link12, Link13, Link23, Link31, Link32}
use Rattle.proto_core.specs.declared.refused.BadMessage.{BadMessage}
use Rattle.proto_core.specs.Parties.{to_next, to_previous, from_previous, from_next}
use Rattle.proto_core.specs.Elementwise.{minus, zeros}
use Rattle.proto_core.specs.Lists.{part}
use Rattle.proto_core.specs.Strand.{Sent, Mail, Ends, Acts, run, rest_of, one_field}
use Rattle.proto_core.specs.Net.{mail_of}
use Rattle.proto_core.proofs.ElementwiseLaws.{length-minus}
use Rattle.proto_core.proofs.MessageFields.{accepts-one_words}
use Rattle.proto_core.proofs.Parts.{length-part}
use Rattle.proto_core.proofs.Refusing.{bits_between_words, bits_behind_words, bits_before_words, bits_alone}
use Rattle.share_convert.specs.ConvStrand.{Held, shape12, shape13, shape23, shape32, one_ends, two_ends, two_passes, three_ends, three_passes}
use Rattle.share_convert.specs.ConvStrand.{awaits12, awaits31, awaits32, awaits13, awaits23, conv_strand, to_two, to_three}
use Rattle.share_convert.specs.ConvStrand.{one_held, two_held, three_held, one_share, two_share, three_share}
use Rattle.share_convert.specs.Steps.{HasBits, LacksBits}
use Rattle.share_convert.proofs.BitFields.{accepts12, accepts13, accepts23, accepts32}
use Rattle.split_share.specs.SplitStrand as split
use Rattle.split_share.proofs.Tails as splitting
use Rattle.block_steps.specs.Inboxes.{FrontIs}
use Rattle.block_steps.specs.Outcomes.{outcome, HasNoneOf}
use Rattle.block_steps.proofs.Turns.{outcome-sent_next, outcome-sent_previous, took-previous, took-next, refused-previous, refused-next}

module _ (i : Number) where
  -- ---- converting

  pub dealt-turn :
      (after : Held) (u words : List ℕ) (n n2 p p2 : List (List ℕ)) (o : List ℕ) (x : Mail) → i ≡ One → after ≡ one_held (length u) words →
      n2 ≡ n ++ to_two (length u) words ∷ [] → p2 ≡ p ++ to_three (length u) u words ∷ [] →
      outcome i n2 p2 o (run (awaits31 (length after.mask) after) x) ≡ outcome i n p o (run (conv_strand (length u) One u words) x)
  dealt-turn after u words n n2 p p2 o x me is next previous =
      let size = length u in
      let a = to_two size words in
      let b = to_three size u words in
      let s = awaits31 size after in
      let same : length after.mask ≡ size = ap (λ (w : Held). length w.mask) is ∙ length-part size 3 words in
      ap (λ w. outcome i n2 p2 o (run (awaits31 w after) x)) same
      ∙ outcome-sent_previous i n2 p p2 o b Link13 s x (ap to_previous (sym me)) previous
      ∙ outcome-sent_next i n n2 p o a Link12 (Acts (Sent Link13 b) s) x (ap to_next (sym me)) next
      ∙ ap (λ w. outcome i n p o (run (Acts (Sent Link12 a) (Acts (Sent Link13 b) (awaits31 size w))) x)) is

  pub turn31 :
      (held : Held) (m made : List ℕ) (front front2 q n p : List (List ℕ)) (o : List ℕ) → i ≡ One → FrontIs (Some m) front → front2 ≡ rest_of front →
      length m ≡ length held.mask → made ≡ one_share (length held.mask) held m →
      outcome i n p o (run (Ends (made ∷ [])) (mail_of i front2 q)) ≡ outcome i n p o (run (awaits31 (length held.mask) held) (mail_of i front q))
  turn31 held m made front front2 q n p o me h e fits is =
      let size = length held.mask in
      took-previous i Link31 (one_field size) (one_ends size held) m (Ends (made ∷ [])) front front2 q n p o
      (ap from_previous (sym me)) h e (accepts-one_words size m fits) (ap (λ w. Ends (w ∷ [])) (sym is))

  pub turn12 :
      (held after : Held) (m : List ℕ) (front front2 q n n2 p : List (List ℕ)) (o : List ℕ) → i ≡ Two → FrontIs (Some m) front → front2 ≡ rest_of front →
      HasBits m (3 * length held.mask) (length held.mask) (length held.mask) → after ≡ two_held (length held.mask) held m →
      n2 ≡ n ++ ((two_held (length held.mask) held m).bits ++ held.mask) ∷ [] →
      outcome i n2 p o (run (awaits32 (length after.mask) after) (mail_of i front2 q))
      ≡ outcome i n p o (run (awaits12 (length held.mask) held) (mail_of i front q))
  turn12 held after m front front2 q n n2 p o me h e fits is next =
      let size = length held.mask in
      let a = (two_held size held m).bits ++ held.mask in
      let s = awaits32 size after in
      let same : length after.mask ≡ size = ap (λ (w : Held). length w.mask) is ∙ length-minus add_ring size held.mask (part size 2 m) in
      ap (λ w. outcome i n2 p o (run (awaits32 w after) (mail_of i front2 q))) same
      ∙ outcome-sent_next i n n2 p o a Link23 s (mail_of i front2 q) (ap to_next (sym me)) next
      ∙ took-previous i Link12 (shape12 size) (two_passes size held) m (Acts (Sent Link23 a) s) front front2 q n p o
      (ap from_previous (sym me)) h e (accepts12 size m fits) (ap (λ w. Acts (Sent Link23 a) (awaits32 size w)) (sym is))

  pub turn32 :
      (held : Held) (m made : List ℕ) (front front2 q n p : List (List ℕ)) (o : List ℕ) → i ≡ Two → FrontIs (Some m) front → front2 ≡ rest_of front →
      HasBits m (length held.mask) 0 (length held.mask) → made ≡ two_share (length held.mask) held m →
      outcome i n p o (run (Ends (made ∷ [])) (mail_of i q front2)) ≡ outcome i n p o (run (awaits32 (length held.mask) held) (mail_of i q front))
  turn32 held m made front front2 q n p o me h e fits is =
      let size = length held.mask in
      took-next i Link32 (shape32 size) (two_ends size held) m (Ends (made ∷ [])) front front2 q n p o
      (ap from_next (sym me)) h e (accepts32 size m fits) (ap (λ w. Ends (w ∷ [])) (sym is))

  pub turn13 :
      (held after : Held) (m : List ℕ) (front front2 q n p p2 : List (List ℕ)) (o : List ℕ) → i ≡ Three → FrontIs (Some m) front →
      front2 ≡ rest_of front → HasBits m (2 * length held.mask) (length held.mask) (length held.mask) → after ≡ three_held (length held.mask) held m →
      p2 ≡ p ++ (three_held (length held.mask) held m).bits ∷ [] →
      outcome i n p2 o (run (awaits23 (length after.mask) after) (mail_of i q front2))
      ≡ outcome i n p o (run (awaits13 (length held.mask) held) (mail_of i q front))
  turn13 held after m front front2 q n p p2 o me h e fits is previous =
      let size = length held.mask in
      let a = (three_held size held m).bits in
      let s = awaits23 size after in
      ap (λ w. outcome i n p2 o (run (awaits23 w after) (mail_of i q front2))) (ap (λ (w : Held). length w.mask) is)
      ∙ outcome-sent_previous i n p p2 o a Link32 s (mail_of i q front2) (ap to_previous (sym me)) previous
      ∙ took-next i Link13 (shape13 size) (three_passes size held) m (Acts (Sent Link32 a) s) front front2 q n p o
      (ap from_next (sym me)) h e (accepts13 size m fits) (ap (λ w. Acts (Sent Link32 a) (awaits23 size w)) (sym is))

  pub turn23 :
      (held : Held) (m made : List ℕ) (front front2 q n p : List (List ℕ)) (o : List ℕ) → i ≡ Three → FrontIs (Some m) front → front2 ≡ rest_of front →
      HasBits m (2 * length held.mask) 0 (length held.mask) → made ≡ three_share (length held.mask) held m →
      outcome i n p o (run (Ends (made ∷ [])) (mail_of i front2 q)) ≡ outcome i n p o (run (awaits23 (length held.mask) held) (mail_of i front q))
  turn23 held m made front front2 q n p o me h e fits is =
      let size = length held.mask in
      took-previous i Link23 (shape23 size) (three_ends size held) m (Ends (made ∷ [])) front front2 q n p o
      (ap from_previous (sym me)) h e (accepts23 size m fits) (ap (λ w. Ends (w ∷ [])) (sym is))

  -- ---- a message is refused for its fault

  module _ (n : ℕ) (m : List ℕ) (cause : BadMessage) (front q : List (List ℕ)) where
    pub refused12 : i ≡ Two → FrontIs (Some m) front → LacksBits m (3 * n) n n cause → HasNoneOf (shape12 n) (Some cause) (mail_of i front q Link12)
    refused12 me h why =
        refused-previous i Link12 (shape12 n) front q m cause (ap from_previous (sym me)) h
        (bits_between_words n n m (record { state = n; cause = cause }) (record { state = refl; why = why }))

    pub refused32 : i ≡ Two → FrontIs (Some m) front → LacksBits m n 0 n cause → HasNoneOf (shape32 n) (Some cause) (mail_of i q front Link32)
    refused32 me h why =
        refused-next i Link32 (shape32 n) front q m cause (ap from_next (sym me)) h
        (bits_alone n n m (record { state = n; cause = cause }) (record { state = refl; why = why }))

    pub refused13 : i ≡ Three → FrontIs (Some m) front → LacksBits m (2 * n) n n cause → HasNoneOf (shape13 n) (Some cause) (mail_of i q front Link13)
    refused13 me h why =
        refused-next i Link13 (shape13 n) front q m cause (ap from_next (sym me)) h
        (bits_behind_words n n m (record { state = n; cause = cause }) (record { state = refl; why = why }))

    pub refused23 : i ≡ Three → FrontIs (Some m) front → LacksBits m (2 * n) 0 n cause → HasNoneOf (shape23 n) (Some cause) (mail_of i front q Link23)
    refused23 me h why =
        refused-previous i Link23 (shape23 n) front q m cause (ap from_previous (sym me)) h
        (bits_before_words n n m (record { state = n; cause = cause }) (record { state = refl; why = why }))

  -- ---- splitting

  pub split-dealt :
      (u words x y : List ℕ) (n n2 p p2 : List (List ℕ)) (o : List ℕ) (mail : Mail) → i ≡ One → n2 ≡ n ++ words ∷ [] →
      p2 ≡ p ++ minus add_ring (length u) u words ∷ [] → x ≡ zeros xor_ring (length u) → y ≡ zeros xor_ring (length u) →
      outcome i n2 p2 o (run (Ends (x ∷ y ∷ [])) mail) ≡ outcome i n p o (run (split.split_strand false (length u) One u words) mail)
  split-dealt u words x y n n2 p p2 o mail me next previous first second =
      let size = length u in
      let b = minus add_ring size u words in
      let s = split.one_ends size in
      ap (λ w. outcome i n2 p2 o (run (Ends (w ∷ y ∷ [])) mail)) first
      ∙ ap (λ w. outcome i n2 p2 o (run (Ends (zeros xor_ring size ∷ w ∷ [])) mail)) second
      ∙ outcome-sent_previous i n2 p p2 o b Link13 s mail (ap to_previous (sym me)) previous
      ∙ outcome-sent_next i n n2 p o words Link12 (Acts (Sent Link13 b) s) mail (ap to_next (sym me)) next

  pub split12 :
      (held : split.Held) (m x y : List ℕ) (front front2 q n p : List (List ℕ)) (o : List ℕ) → i ≡ Two → FrontIs (Some m) front →
      front2 ≡ rest_of front → length m ≡ length held.share → x ≡ split.signed_sum false (length held.share) held.share m →
      y ≡ zeros xor_ring (length held.share) →
      outcome i n p o (run (Ends (x ∷ y ∷ [])) (mail_of i front2 q)) ≡ outcome i n p o (run (split.awaits12 (length held.share) held) (mail_of i front q))
  split12 held m x y front front2 q n p o me h e fits first second =
      let size = length held.share in
      took-previous i Link12 (one_field size) (split.two_ends size held) m (Ends (x ∷ y ∷ [])) front front2 q n p o
      (ap from_previous (sym me)) h e (splitting.accepts-words size m fits)
      (ap (λ w. Ends (w ∷ zeros xor_ring size ∷ [])) (sym first) ∙ ap (λ w. Ends (x ∷ w ∷ [])) (sym second))

  pub split13 :
      (held : split.Held) (m x y : List ℕ) (front front2 q n p : List (List ℕ)) (o : List ℕ) → i ≡ Three → FrontIs (Some m) front →
      front2 ≡ rest_of front → length m ≡ length held.share → x ≡ zeros xor_ring (length held.share) →
      y ≡ split.signed_sum held.negated (length held.share) held.share m →
      outcome i n p o (run (Ends (x ∷ y ∷ [])) (mail_of i q front2)) ≡ outcome i n p o (run (split.awaits13 (length held.share) held) (mail_of i q front))
  split13 held m x y front front2 q n p o me h e fits first second =
      let size = length held.share in
      took-next i Link13 (one_field size) (split.three_ends size held) m (Ends (x ∷ y ∷ [])) front front2 q n p o
      (ap from_next (sym me)) h e (splitting.accepts-words size m fits)
      (ap (λ w. Ends (w ∷ split.signed_sum held.negated size held.share m ∷ [])) (sym first) ∙ ap (λ w. Ends (x ∷ w ∷ [])) (sym second))
