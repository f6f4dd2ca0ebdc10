-- The dealer's words of a view: for the third miner, input by input, its share and the second one's, and then the words after the need.
use Rattle.std.proofs.Common.{
  ◌≡◌,
  ℕ,
  ◌+◌,
  ◌-◌,
  ◌*◌,
  ◌≤◌,
  List,
  [],
  ◌∷◌,
  ◌++◌,
  length,
  take,
  drop,
  refl,
  sym,
  ◌∙◌,
  ap,
  arith,
  append_assoc,
  length-drop,
  take-append-drop,
}
use Rattle.std.proofs.lemmas.List.{drop-drop, take_all, length-take-le}
use Rattle.std.proofs.lemmas.List.Sums.{sum_by-cons}
use Rattle.proto_core.specs.Ring.{Ring}
use Rattle.proto_core.specs.declared.party.Number.{Number}
use Rattle.proto_core.specs.declared.party.Number.TheVariants.{One, Two, Three}
use Rattle.gates.specs.Clear.{Values}
use Rattle.value_file.specs.declared.value.Domain.{Domain}
use Rattle.value_file.specs.declared.value.Domain.TheVariants as domain
use Rattle.value_file.specs.declared.value.Value.{Value}
use Rattle.value_file.specs.declared.inputs.Entry.{Entry}
use Rattle.value_file.specs.Values.{type_of, count_of}
use Rattle.input_share.specs.Values.{shared_words, shared_size, ring_of}
use Rattle.input_share.specs.Dealing.{share_of, draws_for, draws_of, need_of, part_of}
use Rattle.input_share.proofs.Elements.{length-shared_words}
use Rattle.view_model.specs.Dealing.{dealt_to, private_then, seen_for, seen_dealer}
use Rattle.view_model.proofs.Masks.{share_front}
use Rattle.view_model.proofs.Dealings.{need_rest}
use Rattle.tape_twin.specs.Pairs.{pairs}

-- ---- the first two miners' views

kept : (i : Number) → ((d : Domain) (v : Value) (w : List ℕ) → seen_for i d v w ≡ w) → (es : List Entry) (words : List ℕ) → seen_dealer i es words ≡ words
kept i same [] words = refl
kept i same (e ∷ es) words =
    ap (λ w. w ++ seen_dealer i es (drop (draws_of e) words)) (same e.domain e.value (take (draws_of e) words))
    ∙ ap (λ w. take (draws_of e) words ++ w) (kept i same es (drop (draws_of e) words))
    ∙ take-append-drop (draws_of e) words

first-same : (d : Domain) (v : Value) (w : List ℕ) → seen_for One d v w ≡ w
first-same domain.Public v w = refl
first-same domain.Private v w = refl

second-same : (d : Domain) (v : Value) (w : List ℕ) → seen_for Two d v w ≡ w
second-same domain.Public v w = refl
second-same domain.Private v w = refl

pub kept-first : (es : List Entry) (words : List ℕ) → words ≡ seen_dealer One es words
kept-first es words = sym (kept One first-same es words)

pub kept-second : (es : List Entry) (words : List ℕ) → words ≡ seen_dealer Two es words
kept-second es words = sym (kept Two second-same es words)

-- ---- the third miner's

share-taken :
    (i : Number) (r : Ring) (xs words : List ℕ) (n : ℕ) → 2 * length xs ≤ n → n ≤ length words → share_of i r xs words ≡ share_of i r xs (take n words)
share-taken i r xs words n h enough =
    let len : length (take n words) ≡ n = length-take-le n words enough in
    ap (share_of i r xs) (sym (take-append-drop n words)) ∙ share_front i r xs (take n words) (drop n words) (omega arith)

regrouped : (x y p d : List ℕ) → (x ++ (y ++ p)) ++ d ≡ (x ++ y) ++ (p ++ d)
regrouped x y p d = simp append_assoc

module _ (v : Value) (words : List ℕ) (T S : Values) (tail seen : List ℕ) (later : pairs T S ++ tail ≡ seen) where
  -- in how many words it is shared
  abbrev m : ℕ
  m = shared_size (type_of v) (count_of v)

  one-value :
      (d : Domain) → draws_for d m ≤ length words → length (shared_words v) ≡ m →
      pairs (private_then (part_of Three d v words) T) (private_then (part_of Two d v words) S) ++ tail
      ≡ seen_for Three d v (take (draws_for d m) words) ++ seen
  one-value domain.Public enough count = later
  one-value domain.Private enough count =
      let r : Ring = ring_of (type_of v) in
      let xs : List ℕ = shared_words v in
      let n : ℕ = 2 * m in
      let size : 2 * length xs ≤ n = omega arith in
      regrouped (share_of Three r xs words) (share_of Two r xs words) (pairs T S) tail
      ∙ ap (λ w. (share_of Three r xs words ++ share_of Two r xs words) ++ w) later
      ∙ ap (λ w. (w ++ share_of Two r xs words) ++ seen) (share-taken Three r xs words n size enough)
      ∙ ap (λ w. (share_of Three r xs (take n words) ++ w) ++ seen) (share-taken Two r xs words n size enough)

pub pairs-seen :
    (es : List Entry) (words : List ℕ) → need_of es ≤ length words →
    pairs (dealt_to es words Three) (dealt_to es words Two) ++ drop (need_of es) words ≡ seen_dealer Three es words
pairs-seen [] words h = refl
pairs-seen (e ∷ es) words h =
    let need : need_of (e ∷ es) ≡ draws_of e + need_of es = sum_by-cons draws_of e es in
    let rest : List ℕ = drop (draws_of e) words in
    ap (λ w. pairs (dealt_to (e ∷ es) words Three) (dealt_to (e ∷ es) words Two) ++ w)
    (ap (λ k. drop k words) need ∙ sym (drop-drop (need_of es) (draws_of e) words))
    ∙ one-value e.value words (dealt_to es rest Three) (dealt_to es rest Two) (drop (need_of es) rest) (seen_dealer Three es rest)
    (pairs-seen es rest (need_rest e es words h)) e.domain (omega arith) (length-shared_words e.value)

-- the words from a place on, as the code takes them
pub rest-of : (words : List ℕ) (n : ℕ) → take (length words - n) (drop n words) ≡ drop n words
rest-of words n = take_all (length words - n) (drop n words) (let behind : length (drop n words) ≡ length words - n = length-drop n words in omega arith)
