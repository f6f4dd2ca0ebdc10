-- The dealer's words after those that are needed change nothing.
use Rattle.std.proofs.Common.{◌≡◌, ℕ, ◌+◌, ◌-◌, ◌*◌, ◌≤◌, List, [], ◌∷◌, ◌++◌, length, take, drop, refl, ap, ap₂, arith}
use Rattle.std.proofs.Common.{◌∙◌}
use Rattle.std.proofs.lemmas.List.{drop-append-le, length-drop, take-append-le}
use Rattle.std.proofs.lemmas.List.Sums.{sum_by-cons}
use Rattle.proto_core.specs.Ring.{Ring}
use Rattle.proto_core.specs.declared.party.Number.{Number}
use Rattle.proto_core.specs.declared.party.Number.TheVariants.{One, Two, Three}
use Rattle.value_file.specs.declared.value.Domain.{Domain}
use Rattle.value_file.specs.declared.value.Domain.TheVariants as domain
use Rattle.value_file.specs.declared.value.Value.{Value}
use Rattle.value_file.specs.declared.inputs.Entry.{Entry}
use Rattle.value_file.specs.Values.{type_of, count_of, shape_of}
use Rattle.input_share.specs.declared.entry.Part.{Part}
use Rattle.input_share.specs.declared.entry.Part.TheVariants as part
use Rattle.input_share.specs.declared.entry.ShareEntry.{ShareEntry}
use Rattle.input_share.specs.Values.{shared_words, shared_size, ring_of}
use Rattle.input_share.specs.Dealing.{dealt_entries, dealt_entry, draws_for, draws_of, first_masks, left_of, need_of, part_of, second_masks, share_of}
use Rattle.input_share.proofs.Elements.{length-shared_words}

first_masks-front : (n : ℕ) (ws more : List ℕ) → 2 * n ≤ length ws → first_masks n (ws ++ more) ≡ first_masks n ws
first_masks-front n ws more enough = take-append-le n ws more (omega arith)

second_masks-front : (n : ℕ) (ws more : List ℕ) → 2 * n ≤ length ws → second_masks n (ws ++ more) ≡ second_masks n ws
second_masks-front n ws more enough =
    let left : length (drop n ws) ≡ length ws - n = length-drop n ws in
    ap (take n) (drop-append-le n ws more (omega arith)) ∙ take-append-le n (drop n ws) more (omega arith)

share_of-front : (miner : Number) (r : Ring) (xs ws more : List ℕ) → 2 * length xs ≤ length ws → share_of miner r xs (ws ++ more) ≡ share_of miner r xs ws
share_of-front One r xs ws more enough = first_masks-front (length xs) ws more enough
share_of-front Two r xs ws more enough = second_masks-front (length xs) ws more enough
share_of-front Three r xs ws more enough =
    ap₂ (left_of r xs) (first_masks-front (length xs) ws more enough) (second_masks-front (length xs) ws more enough)

part_of-front : (miner : Number) (d : Domain) (v : Value) (ws more : List ℕ) → draws_for d (shared_size (type_of v) (count_of v)) ≤ length ws
    → part_of miner d v (ws ++ more) ≡ part_of miner d v ws
part_of-front miner domain.Public v ws more enough = refl
part_of-front miner domain.Private v ws more enough =
    let of_words : List ℕ → Part = λ w. part.Private (record { data_type = type_of v; shape = shape_of v; words = w }) in
    ap of_words (share_of-front miner (ring_of (type_of v)) (shared_words v) ws more (rw (length-shared_words v) enough))

pub dealt-front : (miner : Number) (xs : List Entry) (ws more : List ℕ) → need_of xs ≤ length ws
    → dealt_entries miner xs (ws ++ more) ≡ dealt_entries miner xs ws
dealt-front miner [] ws more enough = refl
dealt-front miner (e ∷ es) ws more enough =
    let need : need_of (e ∷ es) ≡ draws_of e + need_of es = sum_by-cons draws_of e es in
    let left : length (drop (draws_of e) ws) ≡ length ws - draws_of e = length-drop (draws_of e) ws in
    let of_part : Part → ShareEntry = λ p. record { name = e.name; part = p } in
    let here : dealt_entry miner e (ws ++ more) ≡ dealt_entry miner e ws = ap of_part (part_of-front miner e.domain e.value ws more (omega arith)) in
    let rest : dealt_entries miner es (drop (draws_of e) (ws ++ more)) ≡ dealt_entries miner es (drop (draws_of e) ws) =
    ap (dealt_entries miner es) (drop-append-le (draws_of e) ws more (omega arith)) ∙ dealt-front miner es (drop (draws_of e) ws) more (omega arith) in
    ap₂ (λ (x : ShareEntry) (l : List ShareEntry). x ∷ l) here rest
