-- Entries that may stand in a share file.
use Rattle.std.proofs.Common.{◌≡◌, ℕ, suc, ◌+◌, ◌-◌, ◌*◌, ◌≤◌, List, [], ◌∷◌, ◌++◌, All, length, map, drop, ap, sym, ◌∙◌, subst, refl, arith}
use Rattle.std.proofs.lemmas.List.{length-take-le, length-drop, map-append}
use Rattle.std.proofs.lemmas.List.Elements.{All-cons, All-push}
use Rattle.std.proofs.lemmas.List.Sums.{sum_by-cons}
use Rattle.proto_core.specs.Ring.{Ring}
use Rattle.proto_core.specs.declared.party.Number.{Number}
use Rattle.proto_core.specs.declared.party.Number.TheVariants.{One, Two, Three}
use Rattle.value_file.specs.declared.value.Domain.{Domain}
use Rattle.value_file.specs.declared.value.Domain.TheVariants as domain
use Rattle.value_file.specs.declared.value.Value.{Value}
use Rattle.value_file.specs.declared.value.Value.TheVariants as value
use Rattle.value_file.specs.declared.inputs.Entry.{Entry}
use Rattle.value_file.specs.Values.{type_of, count_of, shape_of, size_of}
use Rattle.value_file.specs.Input.{name_of, elements_of as entry_elements, AreEntries, AreInputs}
use Rattle.input_share.specs.declared.entry.ShareEntry.{ShareEntry}
use Rattle.input_share.specs.Values.{shared_words, shared_size, ring_of}
use Rattle.input_share.specs.Dealing.{left_of, first_masks, second_masks, share_of, draws_for, draws_of, need_of, part_of, dealt_entry, dealt_entries}
use Rattle.input_share.specs.Reading.{part_count, share_name_of, share_count_of, IsWhole, IsWholePart, AreWritable}
use Rattle.input_share.proofs.Elements.{length-shared_words}

length-left_of : (r : Ring) (xs d1s d2s : List ℕ) → length d1s ≡ length xs → length d2s ≡ length xs → length (left_of r xs d1s d2s) ≡ length xs
length-left_of r [] d1s d2s h1 h2 = refl
length-left_of r (x ∷ xs) [] d2s h1 h2 = absurd (omega arith)
length-left_of r (x ∷ xs) (d1 ∷ d1s) [] h1 h2 = absurd (omega arith)
length-left_of r (x ∷ xs) (d1 ∷ d1s) (d2 ∷ d2s) h1 h2 = ap suc (length-left_of r xs d1s d2s (omega arith) (omega arith))

length-first_masks : (count : ℕ) (words : List ℕ) → 2 * count ≤ length words → length (first_masks count words) ≡ count
length-first_masks count words enough = length-take-le count words (omega arith)

length-second_masks : (count : ℕ) (words : List ℕ) → 2 * count ≤ length words → length (second_masks count words) ≡ count
length-second_masks count words enough =
    let behind : length (drop count words) ≡ length words - count = length-drop count words in
    length-take-le count (drop count words) (omega arith)

length-share_of : (miner : Number) (r : Ring) (xs words : List ℕ) → 2 * length xs ≤ length words → length (share_of miner r xs words) ≡ length xs
length-share_of One r xs words enough = length-first_masks (length xs) words enough
length-share_of Two r xs words enough = length-second_masks (length xs) words enough
length-share_of Three r xs words enough =
    length-left_of r xs (first_masks (length xs) words) (second_masks (length xs) words) (length-first_masks (length xs) words enough)
    (length-second_masks (length xs) words enough)

pub size_of-shape_of : (v : Value) → size_of (shape_of v) ≡ count_of v
size_of-shape_of (value.Number n) = refl
size_of-shape_of (value.Integer x) = refl
size_of-shape_of (value.Truth b) = refl
size_of-shape_of (value.Numbers ns) = refl
size_of-shape_of (value.Integers xs) = refl
size_of-shape_of (value.Truths bs) = refl

part_count-part_of : (miner : Number) (d : Domain) (v : Value) (words : List ℕ) → part_count (part_of miner d v words) ≡ count_of v
part_count-part_of miner domain.Public v words = refl
part_count-part_of miner domain.Private v words = size_of-shape_of v

part_of-whole : (miner : Number) (d : Domain) (v : Value) (words : List ℕ) → draws_for d (shared_size (type_of v) (count_of v)) ≤ length words
    → IsWholePart (part_of miner d v words)
part_of-whole miner domain.Public v words enough = tt
part_of-whole miner domain.Private v words enough =
    let count = length-shared_words v in
    length-share_of miner (ring_of (type_of v)) (shared_words v) words (omega arith) ∙ count
    ∙ ap (λ n. shared_size (type_of v) n) (sym (size_of-shape_of v))

-- the names are those of the inputs
dealt-form :
    (miner : Number) (before es : List Entry) (dealt : List ShareEntry) (words : List ℕ) → map name_of before ≡ map share_name_of dealt →
    AreEntries name_of entry_elements before es → AreEntries share_name_of share_count_of dealt (dealt_entries miner es words)
dealt-form miner before [] dealt words same good = tt
dealt-form miner before (e ∷ es) dealt words same good =
    let mine = dealt_entry miner e words in
    let names : map name_of (before ++ e ∷ []) ≡ map share_name_of (dealt ++ mine ∷ []) =
    map-append name_of before (e ∷ []) ∙ ap (λ (ns : List (List ℕ)). ns ++ e.name ∷ []) same ∙ sym (map-append share_name_of dealt (mine ∷ [])) in (
      rw (← same, part_count-part_of miner e.domain e.value words) good.0,
      dealt-form miner (before ++ e ∷ []) es (dealt ++ mine ∷ []) (drop (draws_of e) words) names good.1,
    )

dealt-whole : (miner : Number) (es : List Entry) (words : List ℕ) → need_of es ≤ length words → All IsWhole (dealt_entries miner es words)
dealt-whole miner [] words enough = λ k d h. absurd (omega arith)
dealt-whole miner (e ∷ es) words enough =
    let need : need_of (e ∷ es) ≡ draws_of e + need_of es = sum_by-cons draws_of e es in
    let rest : length (drop (draws_of e) words) ≡ length words - draws_of e = length-drop (draws_of e) words in
    All-cons IsWhole (dealt_entry miner e words) (dealt_entries miner es (drop (draws_of e) words))
    (part_of-whole miner e.domain e.value words (omega arith)) (dealt-whole miner es (drop (draws_of e) words) (omega arith))

-- what is dealt of good inputs
pub dealt-writable : (miner : Number) (inputs : List Entry) (words : List ℕ) → AreInputs inputs → need_of inputs ≤ length words
    → AreWritable (dealt_entries miner inputs words)
dealt-writable miner inputs words good enough = record {
  form = dealt-form miner [] inputs [] words refl good;
  whole = dealt-whole miner inputs words enough;
}

-- one more entry that is whole
pub whole-more : (before after : List ShareEntry) (e : ShareEntry) → All IsWhole before → IsWhole e → after ≡ before ++ e ∷ [] → All IsWhole after
whole-more before after e whole here joined = subst (All IsWhole) (sym joined) (All-push IsWhole before e whole here)
