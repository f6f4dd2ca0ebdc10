-- Dealing corresponds one to one, and a miner's input shares are made of what corresponds.
use Rattle.std.proofs.Common.{◌≡◌, ℕ, ◌+◌, ◌-◌, ◌*◌, ◌≤◌, List, [], ◌∷◌, ◌++◌, length, take, drop, refl, sym, ◌∙◌, ap, arith}
use Rattle.std.proofs.lemmas.List.{length-take-le, length-drop, length-append, take-append-drop}
use Rattle.std.proofs.lemmas.List.Sums.{sum_by-cons}
use Rattle.proto_core.specs.declared.party.Number.{Number}
use Rattle.proto_core.specs.Lists.{AreWords}
use Rattle.proto_core.proofs.Parts.{AreWords-append}
use Rattle.proto_core.proofs.MessageFields.{take-front, drop-front}
use Rattle.protocol_model.proofs.Sizes.{AreWords-take, AreWords-drop}
use Rattle.value_file.specs.declared.value.Domain.{Domain}
use Rattle.value_file.specs.declared.value.Domain.TheVariants as domain
use Rattle.value_file.specs.declared.value.Value.{Value}
use Rattle.value_file.specs.declared.inputs.Entry.{Entry}
use Rattle.value_file.specs.Values.{type_of, count_of, shape_of, size_of}
use Rattle.value_file.specs.Public.{shown}
use Rattle.value_file.specs.Public as public
use Rattle.input_share.specs.declared.entry.Part.TheVariants as part
use Rattle.input_share.specs.Values.{shared_words, shared_size, ring_of}
use Rattle.input_share.specs.Dealing.{share_of, draws_for, draws_of, need_of, part_of, dealt_entries}
use Rattle.input_share.proofs.Elements.{length-shared_words}
use Rattle.input_share.proofs.AddUpLaws.{ring_laws}
use Rattle.input_share.proofs.FormLaws.{size_of-shape_of}
use Rattle.view_model.specs.Dealing.{seen_masks, seen_for, seen_dealer, made_share, made_part, made_entries, hidden_draws}
use Rattle.view_model.proofs.Masks.{share_front, made_front, masks_length, masks_words, masks_made, masks_twice}

-- ---- one entry

twice : (a b c : ℕ) → a ≡ 2 * b → c ≡ b → a ≡ 2 * c
twice a b c h e = omega arith

module _ (d : Domain) (v : Value) (words : List ℕ) (size : length words ≡ draws_for d (shared_size (type_of v) (count_of v))) where
  seen_for_length : (i : Number) → length (seen_for i d v words) ≡ length words
  seen_for_length i = by_domain d size
    where
      by_domain : (d : Domain) → length words ≡ draws_for d (shared_size (type_of v) (count_of v)) → length (seen_for i d v words) ≡ length words
      by_domain domain.Public h = refl
      by_domain domain.Private h = masks_length (ring_of (type_of v)) (ring_laws (type_of v)) (shared_words v) words (twice _ _ _ h (length-shared_words v)) i

  seen_for_words : (i : Number) → AreWords words → AreWords (seen_for i d v words)
  seen_for_words i are = by_domain d size
    where
      by_domain : (d : Domain) → length words ≡ draws_for d (shared_size (type_of v) (count_of v)) → AreWords (seen_for i d v words)
      by_domain domain.Public h = are
      by_domain domain.Private h = masks_words (ring_of (type_of v)) (ring_laws (type_of v)) (shared_words v) words (twice _ _ _ h (length-shared_words v)) i are

  seen_for_twice : (i : Number) → AreWords words → seen_for i d v (seen_for i d v words) ≡ words
  seen_for_twice i are = by_domain d size
    where
      by_domain : (d : Domain) → length words ≡ draws_for d (shared_size (type_of v) (count_of v)) → seen_for i d v (seen_for i d v words) ≡ words
      by_domain domain.Public h = refl
      by_domain domain.Private h = masks_twice (ring_of (type_of v)) (ring_laws (type_of v)) (shared_words v) words (twice _ _ _ h (length-shared_words v)) i are

  -- with any words after them, and after what corresponds to them
  part_is_made : (i : Number) (later later2 : List ℕ) → part_of i d v (words ++ later) ≡ made_part i (shown d v) (seen_for i d v words ++ later2)
  part_is_made i later later2 = by_domain d size
    where
      by_domain :
          (d : Domain) → length words ≡ draws_for d (shared_size (type_of v) (count_of v)) →
          part_of i d v (words ++ later) ≡ made_part i (shown d v) (seen_for i d v words ++ later2)
      by_domain domain.Public h = refl
      by_domain domain.Private h =
          let r = ring_of (type_of v) in
          let es = shared_words v in
          let size : length words ≡ 2 * length es = twice _ _ _ h (length-shared_words v) in
          let n : ℕ = shared_size (type_of v) (size_of (shape_of v)) in
          let count : length es ≡ n = length-shared_words v ∙ sym (ap (λ k. shared_size (type_of v) k) (size_of-shape_of v)) in
          let len = masks_length r (ring_laws (type_of v)) es words size i in
          let share : share_of i r es (words ++ later) ≡ made_share i n (seen_masks i r es words ++ later2) =
          share_front i r es words later (omega arith)
          ∙ masks_made r (ring_laws (type_of v)) es words size i
          ∙ sym (made_front i (length es) (seen_masks i r es words) later2 (omega arith))
          ∙ ap (λ k. made_share i k (seen_masks i r es words ++ later2)) count in
          ap (λ ws. part.Private (record { data_type = type_of v; shape = shape_of v; words = ws })) share

pub draws_are_known : (d : Domain) (v : Value) → hidden_draws (shown d v) ≡ draws_for d (shared_size (type_of v) (count_of v))
draws_are_known domain.Public v = refl
draws_are_known domain.Private v = ap (λ n. 2 * shared_size (type_of v) n) (size_of-shape_of v)

-- ---- all entries

need_first : (e : Entry) (es : List Entry) (words : List ℕ) → need_of (e ∷ es) ≤ length words → length (take (draws_of e) words) ≡ draws_of e
need_first e es words h =
    let need : need_of (e ∷ es) ≡ draws_of e + need_of es = sum_by-cons draws_of e es in
    length-take-le (draws_of e) words (omega arith)

pub need_rest : (e : Entry) (es : List Entry) (words : List ℕ) → need_of (e ∷ es) ≤ length words → need_of es ≤ length (drop (draws_of e) words)
need_rest e es words h =
    let need : need_of (e ∷ es) ≡ draws_of e + need_of es = sum_by-cons draws_of e es in
    let behind : length (drop (draws_of e) words) ≡ length words - draws_of e = length-drop (draws_of e) words in
    omega arith

pub seen_length : (i : Number) (es : List Entry) (words : List ℕ) → need_of es ≤ length words → length (seen_dealer i es words) ≡ length words
seen_length i [] words h = refl
seen_length i (e ∷ es) words h =
    let here = seen_for_length e.domain e.value (take (draws_of e) words) (need_first e es words h) i in
    let first = need_first e es words h in
    let later = seen_length i es (drop (draws_of e) words) (need_rest e es words h) in
    let behind : length (drop (draws_of e) words) ≡ length words - draws_of e = length-drop (draws_of e) words in
    let need : need_of (e ∷ es) ≡ draws_of e + need_of es = sum_by-cons draws_of e es in
    let both = length-append (seen_for i e.domain e.value (take (draws_of e) words)) (seen_dealer i es (drop (draws_of e) words)) in
    omega arith

pub seen_words : (i : Number) (es : List Entry) (words : List ℕ) → need_of es ≤ length words → AreWords words → AreWords (seen_dealer i es words)
seen_words i [] words h are = are
seen_words i (e ∷ es) words h are =
    AreWords-append _ _
    (seen_for_words e.domain e.value (take (draws_of e) words) (need_first e es words h) i (AreWords-take (draws_of e) words are))
    (seen_words i es (drop (draws_of e) words) (need_rest e es words h) (AreWords-drop (draws_of e) words are))

pub seen_twice :
    (i : Number) (es : List Entry) (words : List ℕ) → need_of es ≤ length words → AreWords words →
    seen_dealer i es (seen_dealer i es words) ≡ words
seen_twice i [] words h are = refl
seen_twice i (e ∷ es) words h are =
    let first = need_first e es words h in
    let here : List ℕ = seen_for i e.domain e.value (take (draws_of e) words) in
    let later : List ℕ = seen_dealer i es (drop (draws_of e) words) in
    let size : length here ≡ draws_of e = seen_for_length e.domain e.value (take (draws_of e) words) first i ∙ first in
    ap (λ w. seen_for i e.domain e.value w ++ seen_dealer i es (drop (draws_of e) (here ++ later))) (take-front (draws_of e) here later size)
    ∙ ap (λ w. seen_for i e.domain e.value here ++ seen_dealer i es w) (drop-front (draws_of e) here later size)
    ∙ ap (λ w. w ++ seen_dealer i es later) (seen_for_twice e.domain e.value (take (draws_of e) words) first i (AreWords-take (draws_of e) words are))
    ∙ ap (λ w. take (draws_of e) words ++ w) (seen_twice i es (drop (draws_of e) words) (need_rest e es words h) (AreWords-drop (draws_of e) words are))
    ∙ take-append-drop (draws_of e) words

pub entries_made :
    (i : Number) (es : List Entry) (words : List ℕ) → need_of es ≤ length words →
    dealt_entries i es words ≡ made_entries i (public.part_of es) (seen_dealer i es words)
entries_made i [] words h = refl
entries_made i (e ∷ es) words h =
    let first = need_first e es words h in
    let front : List ℕ = take (draws_of e) words in
    let rest : List ℕ = drop (draws_of e) words in
    let here : List ℕ = seen_for i e.domain e.value front in
    let later : List ℕ = seen_dealer i es rest in
    let size : length here ≡ hidden_draws (shown e.domain e.value) =
    seen_for_length e.domain e.value front first i ∙ first ∙ sym (draws_are_known e.domain e.value) in
    let mine : part_of i e.domain e.value words ≡ made_part i (shown e.domain e.value) (here ++ later) =
    ap (part_of i e.domain e.value) (sym (take-append-drop (draws_of e) words)) ∙ part_is_made e.domain e.value front first i rest later in
    ap (λ p. record { name = e.name; part = p } ∷ dealt_entries i es rest) mine
    ∙ ap (λ es'. record { name = e.name; part = made_part i (shown e.domain e.value) (here ++ later) } ∷ es') (entries_made i es rest (need_rest e es words h))
    ∙ ap (λ w. record { name = e.name; part = made_part i (shown e.domain e.value) (here ++ later) } ∷ made_entries i (public.part_of es) w)
    (sym (drop-front (hidden_draws (shown e.domain e.value)) here later size))
