-- One message changes nothing of what a miner has done and will do.
use Rattle.std.proofs.Common.{◌≡◌, ◌≢◌, ℕ, ◌*◌, true, List, [], ◌∷◌, ◌++◌, length, refl, sym, ◌∙◌, ap, subst, arith, append_assoc, Some, None}
use Rattle.proto_core.specs.declared.party.Number.{Number}
use Rattle.proto_core.specs.declared.party.Number.TheVariants.{One, Two, Three}
use Rattle.proto_core.specs.declared.link.Link.{Link}
use Rattle.proto_core.specs.declared.refused.BadMessage.{BadMessage}
use Rattle.proto_core.specs.declared.refused.BadMessage.TheVariants.{BadLength}
use Rattle.proto_core.specs.Parties.{to_next, to_previous, from_previous, from_next}
use Rattle.proto_core.specs.Strand.{Words, Shape, shaped, accepts, Sent, Opened, Mail, Strand, Acts, Waits, Ran, acted, run, rest_of, on_link, opened_in}
use Rattle.proto_core.specs.Net.{mail_of}
use Rattle.proto_core.specs.Standing.{fault_of}
use Rattle.proto_core.proofs.Nodes.{mail-previous, mail-next, run-previous, run-next}
use Rattle.proto_core.proofs.Refusing.{wrong_length_is_told}
use Rattle.block_steps.specs.Inboxes.{FrontIs}
use Rattle.block_steps.specs.Outcomes.{Outcome, outcome, HasNoneOf}

module _ {A : Type 0} where
  abbrev made : (next previous : List (List ℕ)) → (opened : List ℕ) → Ran A → Outcome A
  made next previous opened ran = record { to_next = next; to_previous = previous; opened = opened; left = ran.left; unread = ran.unread }

  -- ---- what is sent or opened first comes after what was

  by_next :
      (i : Number) (p : List (List ℕ)) (o : List ℕ) (ran : Ran A) {n n2 : List (List ℕ)} → n ≡ n2 →
      made n (p ++ on_link (to_previous i) ran.acts) (o ++ opened_in ran.acts) ran
      ≡ made n2 (p ++ on_link (to_previous i) ran.acts) (o ++ opened_in ran.acts) ran
  by_next i p o ran e = ap (λ v. made v (p ++ on_link (to_previous i) ran.acts) (o ++ opened_in ran.acts) ran) e

  by_previous :
      (i : Number) (n : List (List ℕ)) (o : List ℕ) (ran : Ran A) {p p2 : List (List ℕ)} → p ≡ p2 →
      made (n ++ on_link (to_next i) ran.acts) p (o ++ opened_in ran.acts) ran
      ≡ made (n ++ on_link (to_next i) ran.acts) p2 (o ++ opened_in ran.acts) ran
  by_previous i n o ran e = ap (λ v. made (n ++ on_link (to_next i) ran.acts) v (o ++ opened_in ran.acts) ran) e

  sent_next :
      (i : Number) (n p : List (List ℕ)) (o m : List ℕ) (ran : Ran A) →
      outcome i (n ++ m ∷ []) p o ran ≡ outcome i n p o (acted (Sent (to_next i) m) ran)
  sent_next One n p o m ran = by_next One p o ran (append_assoc n (m ∷ []) (on_link (to_next One) ran.acts))
  sent_next Two n p o m ran = by_next Two p o ran (append_assoc n (m ∷ []) (on_link (to_next Two) ran.acts))
  sent_next Three n p o m ran = by_next Three p o ran (append_assoc n (m ∷ []) (on_link (to_next Three) ran.acts))

  sent_previous :
      (i : Number) (n p : List (List ℕ)) (o m : List ℕ) (ran : Ran A) →
      outcome i n (p ++ m ∷ []) o ran ≡ outcome i n p o (acted (Sent (to_previous i) m) ran)
  sent_previous One n p o m ran = by_previous One n o ran (append_assoc p (m ∷ []) (on_link (to_previous One) ran.acts))
  sent_previous Two n p o m ran = by_previous Two n o ran (append_assoc p (m ∷ []) (on_link (to_previous Two) ran.acts))
  sent_previous Three n p o m ran = by_previous Three n o ran (append_assoc p (m ∷ []) (on_link (to_previous Three) ran.acts))

  pub outcome-sent_next :
      (i : Number) (n n2 p : List (List ℕ)) (o m : List ℕ) (link : Link) (s : Strand A) (x : Mail) → link ≡ to_next i → n2 ≡ n ++ m ∷ [] →
      outcome i n2 p o (run s x) ≡ outcome i n p o (run (Acts (Sent link m) s) x)
  outcome-sent_next i n n2 p o m link s x e h =
      ap (λ v. outcome i v p o (run s x)) h ∙ sent_next i n p o m (run s x) ∙ ap (λ l. outcome i n p o (acted (Sent l m) (run s x))) (sym e)

  pub outcome-sent_previous :
      (i : Number) (n p p2 : List (List ℕ)) (o m : List ℕ) (link : Link) (s : Strand A) (x : Mail) → link ≡ to_previous i → p2 ≡ p ++ m ∷ [] →
      outcome i n p2 o (run s x) ≡ outcome i n p o (run (Acts (Sent link m) s) x)
  outcome-sent_previous i n p p2 o m link s x e h =
      ap (λ v. outcome i n v o (run s x)) h ∙ sent_previous i n p o m (run s x) ∙ ap (λ l. outcome i n p o (acted (Sent l m) (run s x))) (sym e)

  pub outcome-opened :
      (i : Number) (n p : List (List ℕ)) (o o2 m : List ℕ) (s : Strand A) (x : Mail) → o2 ≡ o ++ m →
      outcome i n p o2 (run s x) ≡ outcome i n p o (run (Acts (Opened m) s) x)
  outcome-opened i n p o o2 m s x h =
      let ran = run s x in
      ap (λ v. outcome i n p v ran) h
      ∙ ap (λ v. made (n ++ on_link (to_next i) ran.acts) (p ++ on_link (to_previous i) ran.acts) v ran) (append_assoc o m (opened_in ran.acts))

-- ---- a message is taken

module _ {A : Type 0} (i : Number) (link : Link) (shape : Shape) (k : List ℕ → Strand A)
    (m : List ℕ) (s : Strand A) (front front2 q n p : List (List ℕ)) (o : List ℕ) where
  pub took-previous :
      link ≡ from_previous i → FrontIs (Some m) front → front2 ≡ rest_of front → accepts shape m ≡ true → k m ≡ s →
      outcome i n p o (run s (mail_of i front2 q)) ≡ outcome i n p o (run (Waits link shape k) (mail_of i front q))
  took-previous on h e good is =
      ap (λ v. outcome i n p o (run v (mail_of i front2 q))) (sym is)
      ∙ ap (outcome i n p o) (goes front h e) ∙ ap (λ l. outcome i n p o (run (Waits l shape k) (mail_of i front q))) (sym on)
    where
      goes :
          (front : List (List ℕ)) → FrontIs (Some m) front → front2 ≡ rest_of front →
          run (k m) (mail_of i front2 q) ≡ run (Waits (from_previous i) shape k) (mail_of i front q)
      goes [] h e = absurd h
      goes (m2 ∷ ms) h e =
          ap (λ v. run (k m) (mail_of i v q)) e ∙ sym (run-previous i shape k m ms q good)
          ∙ ap (λ v. run (Waits (from_previous i) shape k) (mail_of i (v ∷ ms) q)) h

  pub took-next :
      link ≡ from_next i → FrontIs (Some m) front → front2 ≡ rest_of front → accepts shape m ≡ true → k m ≡ s →
      outcome i n p o (run s (mail_of i q front2)) ≡ outcome i n p o (run (Waits link shape k) (mail_of i q front))
  took-next on h e good is =
      ap (λ v. outcome i n p o (run v (mail_of i q front2))) (sym is)
      ∙ ap (outcome i n p o) (goes front h e) ∙ ap (λ l. outcome i n p o (run (Waits l shape k) (mail_of i q front))) (sym on)
    where
      goes :
          (front : List (List ℕ)) → FrontIs (Some m) front → front2 ≡ rest_of front →
          run (k m) (mail_of i q front2) ≡ run (Waits (from_next i) shape k) (mail_of i q front)
      goes [] h e = absurd h
      goes (m2 ∷ ms) h e =
          ap (λ v. run (k m) (mail_of i q v)) e ∙ sym (run-next i shape k m q ms good)
          ∙ ap (λ v. run (Waits (from_next i) shape k) (mail_of i q (v ∷ ms))) h

-- ---- none is there that fits

none-there : (shape : Shape) (front : List (List ℕ)) → FrontIs None front → HasNoneOf shape None front
none-there shape [] h = tt
none-there shape (m ∷ ms) h = absurd h

refused-there :
    (shape : Shape) (m : List ℕ) (cause : BadMessage) (front : List (List ℕ)) → FrontIs (Some m) front → fault_of shape m ≡ Some cause →
    HasNoneOf shape (Some cause) front
refused-there shape m cause [] h told = absurd h
refused-there shape m cause (m2 ∷ ms) h told = ap (fault_of shape) (sym h) ∙ told

module _ (i : Number) (link : Link) (shape : Shape) (front q : List (List ℕ)) where
  at-previous : link ≡ from_previous i → mail_of i front q link ≡ front
  at-previous on = ap (mail_of i front q) on ∙ mail-previous i front q

  at-next : link ≡ from_next i → mail_of i q front link ≡ front
  at-next on = ap (mail_of i q front) on ∙ mail-next i q front

  pub none-previous : link ≡ from_previous i → FrontIs None front → HasNoneOf shape None (mail_of i front q link)
  none-previous on h = subst (HasNoneOf shape None) (sym (at-previous on)) (none-there shape front h)

  pub none-next : link ≡ from_next i → FrontIs None front → HasNoneOf shape None (mail_of i q front link)
  none-next on h = subst (HasNoneOf shape None) (sym (at-next on)) (none-there shape front h)

  pub refused-previous :
      (m : List ℕ) (cause : BadMessage) → link ≡ from_previous i → FrontIs (Some m) front → fault_of shape m ≡ Some cause →
      HasNoneOf shape (Some cause) (mail_of i front q link)
  refused-previous m cause on h told = subst (HasNoneOf shape (Some cause)) (sym (at-previous on)) (refused-there shape m cause front h told)

  pub refused-next :
      (m : List ℕ) (cause : BadMessage) → link ≡ from_next i → FrontIs (Some m) front → fault_of shape m ≡ Some cause →
      HasNoneOf shape (Some cause) (mail_of i q front link)
  refused-next m cause on h told = subst (HasNoneOf shape (Some cause)) (sym (at-next on)) (refused-there shape m cause front h told)

-- ---- a message of one field that has a wrong length is refused, with both lengths

one-times : (n : ℕ) → n ≡ 1 * n
one-times n = omega arith

wrong_field :
    (n want have : ℕ) (m : List ℕ) → want ≡ n → have ≡ length m → have ≢ want → fault_of (shaped n (Words ∷ [])) m ≡ Some (BadLength want have)
wrong_field n want have m w h differs =
    wrong_length_is_told n (shaped n (Words ∷ [])) want m (record { state = n; cause = BadLength want have }) (w ∙ one-times n)
    (record { differs = λ e. differs (h ∙ e); state = refl; cause = ap (BadLength want) h })

module _ (i : Number) (link : Link) (n want have : ℕ) (m : List ℕ) (front q : List (List ℕ)) where
  pub wrong-previous :
      link ≡ from_previous i → FrontIs (Some m) front → want ≡ n → have ≡ length m → have ≢ want →
      HasNoneOf (shaped n (Words ∷ [])) (Some (BadLength want have)) (mail_of i front q link)
  wrong-previous on h w l differs =
      refused-previous i link (shaped n (Words ∷ [])) front q m (BadLength want have) on h (wrong_field n want have m w l differs)

  pub wrong-next :
      link ≡ from_next i → FrontIs (Some m) front → want ≡ n → have ≡ length m → have ≢ want →
      HasNoneOf (shaped n (Words ∷ [])) (Some (BadLength want have)) (mail_of i q front link)
  wrong-next on h w l differs =
      refused-next i link (shaped n (Words ∷ [])) front q m (BadLength want have) on h (wrong_field n want have m w l differs)
