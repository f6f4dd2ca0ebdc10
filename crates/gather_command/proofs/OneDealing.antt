-- What owners deal apart is what one dealer deals.
use Rattle.std.proofs.Common.{◌≡◌, ℕ, suc, ◌+◌, ◌-◌, ◌*◌, ◌<◌, ◌≤◌, ◌^◌, List, [], ◌∷◌, ◌++◌, All, length, map, take, drop, Some, None, Ok, Result}
use Rattle.std.proofs.Common.{refl, ap, ap₂, sym, subst, ◌∙◌, arith, append_assoc, zero-add, lt-ltb, eq-eqb, Bool, true, false, not, ◌&&◌, if◌then◌else◌}
use Rattle.std.proofs.Math.ListN.{drop_of_length-le}
use Rattle.sc_text.specs.Name.{is_name}
use Rattle.std.proofs.lemmas.List.{append-nil, drop-append-le, drop-drop, length-append, length-drop, length-take-le, map-append, take-append-drop}
use Rattle.std.proofs.lemmas.List.{take-append-le}
use Rattle.std.proofs.lemmas.List.Sums.{sum_by-cons}
use Rattle.std.specs.List.{list_any}
use Rattle.std.specs.Str.{bytes_eq}
use Rattle.proto_core.specs.Ring.{Ring}
use Rattle.proto_core.specs.declared.party.Number.{Number}
use Rattle.proto_core.specs.declared.party.Number.TheVariants.{One, Two, Three}
use Rattle.value_file.specs.declared.value.Domain.{Domain}
use Rattle.value_file.specs.declared.value.Domain.TheVariants as domain
use Rattle.value_file.specs.declared.value.Value.{Value}
use Rattle.value_file.specs.declared.inputs.Entry.{Entry}
use Rattle.value_file.specs.Input.{name_of, elements_of as entry_elements, new_name, AreEntries, AreInputs}
use Rattle.value_file.specs.Values.{type_of, count_of, shape_of}
use Rattle.input_share.specs.declared.entry.Part.{Part}
use Rattle.input_share.specs.declared.entry.Part.TheVariants as part
use Rattle.input_share.specs.declared.entry.ShareEntry.{ShareEntry}
use Rattle.gather_command.specs.declared.gathering.GatherErr.{GatherErr}
use Rattle.input_share.specs.Values.{shared_words, shared_size, ring_of}
use Rattle.input_share.specs.Dealing.{dealt, dealt_entries, dealt_entry, draws_for, draws_of, first_masks, left_of, need_of, part_of, second_masks, share_of}
use Rattle.input_share.specs.Reading.{share_name_of}
use Rattle.input_share.specs.ShareFile.{MinerFile}
use Rattle.input_share.proofs.Elements.{length-shared_words}
use Rattle.gather_command.specs.Gathering.{entries_in, gathered, joined_lens, lens_from, name_again}
use Rattle.gather_command.specs.Owners.{all_inputs, dealt_by, dealt_by_all, dealt_by_one, lens_of, one_tape, words_left, words_used, CanDeal, Lengths, Owner}

-- ---- words after those that are needed

first_masks-front : (n : ℕ) (ws more : List ℕ) → 2 * n ≤ length ws → first_masks n (ws ++ more) ≡ first_masks n ws
first_masks-front n ws more enough = take-append-le n ws more (omega arith)

second_masks-front : (n : ℕ) (ws more : List ℕ) → 2 * n ≤ length ws → second_masks n (ws ++ more) ≡ second_masks n ws
second_masks-front n ws more enough =
    let left : length (drop n ws) ≡ length ws - n = length-drop n ws in
    ap (take n) (drop-append-le n ws more (omega arith)) ∙ take-append-le n (drop n ws) more (omega arith)

share_of-front : (miner : Number) (r : Ring) (xs ws more : List ℕ) → 2 * length xs ≤ length ws → share_of miner r xs (ws ++ more) ≡ share_of miner r xs ws
share_of-front One r xs ws more enough = first_masks-front (length xs) ws more enough
share_of-front Two r xs ws more enough = second_masks-front (length xs) ws more enough
share_of-front Three r xs ws more enough =
    ap₂ (left_of r xs) (first_masks-front (length xs) ws more enough) (second_masks-front (length xs) ws more enough)

part_of-front : (miner : Number) (d : Domain) (v : Value) (ws more : List ℕ) → draws_for d (shared_size (type_of v) (count_of v)) ≤ length ws
    → part_of miner d v (ws ++ more) ≡ part_of miner d v ws
part_of-front miner domain.Public v ws more enough = refl
part_of-front miner domain.Private v ws more enough =
    let of_words : List ℕ → Part = λ w. part.Private (record { data_type = type_of v; shape = shape_of v; words = w }) in
    ap of_words (share_of-front miner (ring_of (type_of v)) (shared_words v) ws more (rw (length-shared_words v) enough))

-- words that aren't needed change nothing
pub dealt-front : (miner : Number) (xs : List Entry) (ws more : List ℕ) → need_of xs ≤ length ws
    → dealt_entries miner xs (ws ++ more) ≡ dealt_entries miner xs ws
dealt-front miner [] ws more enough = refl
dealt-front miner (e ∷ es) ws more enough =
    let need : need_of (e ∷ es) ≡ draws_of e + need_of es = sum_by-cons draws_of e es in
    let left : length (drop (draws_of e) ws) ≡ length ws - draws_of e = length-drop (draws_of e) ws in
    let of_part : Part → ShareEntry = λ p. record { name = e.name; part = p } in
    let here : dealt_entry miner e (ws ++ more) ≡ dealt_entry miner e ws = ap of_part (part_of-front miner e.domain e.value ws more (omega arith)) in
    let rest : dealt_entries miner es (drop (draws_of e) (ws ++ more)) ≡ dealt_entries miner es (drop (draws_of e) ws) =
    ap (dealt_entries miner es) (drop-append-le (draws_of e) ws more (omega arith)) ∙ dealt-front miner es (drop (draws_of e) ws) more (omega arith) in
    ap₂ (λ (x : ShareEntry) (l : List ShareEntry). x ∷ l) here rest

-- inputs end to end
pub dealt-append : (miner : Number) (xs ys : List Entry) (ws : List ℕ)
    → dealt_entries miner (xs ++ ys) ws ≡ dealt_entries miner xs ws ++ dealt_entries miner ys (drop (need_of xs) ws)
dealt-append miner [] ys ws = refl
dealt-append miner (e ∷ es) ys ws =
    let need : need_of (e ∷ es) ≡ draws_of e + need_of es = sum_by-cons draws_of e es in
    let rest : drop (need_of es) (drop (draws_of e) ws) ≡ drop (need_of (e ∷ es)) ws =
    drop-drop (need_of es) (draws_of e) ws ∙ ap (λ n. drop n ws) (sym need) in
    ap (λ (l : List ShareEntry). dealt_entry miner e ws ∷ l)
    (dealt-append miner es ys (drop (draws_of e) ws)
    ∙ ap (λ (w : List ℕ). dealt_entries miner es (drop (draws_of e) ws) ++ dealt_entries miner ys w) rest)

-- ---- one tape

abbrev front : Owner → List ℕ
front o = take (need_of o.inputs) o.words

abbrev rear : Owner → List ℕ
rear o = drop (need_of o.inputs) o.words

length-front : (o : Owner) → CanDeal o → length (front o) ≡ need_of o.inputs
length-front o can = length-take-le (need_of o.inputs) o.words can

owner-front : (miner : Number) (o : Owner) (more : List ℕ) → CanDeal o
    → dealt_entries miner o.inputs (front o ++ more) ≡ dealt_entries miner o.inputs o.words
owner-front miner o more can =
    let len = length-front o can in
    dealt-front miner o.inputs (front o) more (omega (arith, len)) ∙ sym (dealt-front miner o.inputs (front o) (rear o) (omega (arith, len)))
    ∙ ap (dealt_entries miner o.inputs) (take-append-drop (need_of o.inputs) o.words)

drop-front : (o : Owner) (more : List ℕ) → CanDeal o → drop (need_of o.inputs) (front o ++ more) ≡ more
drop-front o more can =
    let len = length-front o can in
    let none : drop (need_of o.inputs) (front o) ≡ [] = all (need_of o.inputs) (front o) (omega (arith, len)) in
    drop-append-le (need_of o.inputs) (front o) more (omega (arith, len)) ∙ ap (λ l. l ++ more) none
  where
    all : (n : ℕ) (l : List ℕ) → length l ≤ n → drop n l ≡ []
    all n l h = drop_of_length-le l h

pub all_dealt : (miner : Number) (miners : Lengths) (owners : List Owner) (more : List ℕ) → All CanDeal owners
    → dealt_entries miner (all_inputs owners) (words_used owners ++ more) ≡ entries_in (dealt_by_all miner miners owners)
all_dealt miner miners [] more can = refl
all_dealt miner miners (o ∷ os) more can =
    let here = can 0 o (omega arith) in
    let there : All CanDeal os = λ k d h. can (suc k) d (omega arith) in
    ap (dealt_entries miner (o.inputs ++ all_inputs os)) (append_assoc (front o) (words_used os) more)
    ∙ dealt-append miner o.inputs (all_inputs os) (front o ++ (words_used os ++ more))
    ∙ ap₂ (λ (a b : List ShareEntry). a ++ b) (owner-front miner o (words_used os ++ more) here)
    (ap (dealt_entries miner (all_inputs os)) (drop-front o (words_used os ++ more) here) ∙ all_dealt miner miners os more there)

-- the tapes' lengths together
abbrev total : List Owner → ℕ
total [] = 0
total (o ∷ os) = length o.words + total os

length-one_tape : (os : List Owner) → length (one_tape os) ≡ total os
length-one_tape [] = refl
length-one_tape (o ∷ os) =
    let cut : length (front o) + length (rear o) ≡ length o.words =
    sym (length-append (front o) (rear o)) ∙ ap length (take-append-drop (need_of o.inputs) o.words) in
    let rest = length-one_tape os in
    omega (
      arith,
      length-append (words_used (o ∷ os)) (words_left (o ∷ os)),
      length-append (front o) (words_used os),
      length-append (rear o) (words_left os),
      length-append (words_used os) (words_left os),
      cut,
      rest,
    )

-- ---- lengths

lens-joined : (d e : ℕ) (miners : Lengths) → d + e < 2 ^ 64 → joined_lens (lens_of d miners) (lens_of e miners) ≡ Some (lens_of (d + e) miners)
unfolding joined_lens
lens-joined d e miners small =
    rw (eq-eqb miners.one miners.one refl, eq-eqb miners.two miners.two refl, eq-eqb miners.three miners.three refl, lt-ltb (d + e) (2 ^ 64) small) refl

abbrev lens_told : Lengths → ℕ → Result (List ℕ) GatherErr
lens_told miners n = Ok (lens_of n miners)

all_lens : (miner : Number) (miners : Lengths) (place d : ℕ) (os : List Owner) → d + total os < 2 ^ 64
    → lens_from place (lens_of d miners) (dealt_by_all miner miners os) ≡ Ok (lens_of (d + total os) miners)
all_lens miner miners place d [] small =
    let same : d ≡ d + 0 = omega arith in
    ap (lens_told miners) same
all_lens miner miners place d (o ∷ os) small =
    let same : d + length o.words + total os ≡ d + (length o.words + total os) = omega arith in
    rw (lens-joined d (length o.words) miners (omega arith))
    (all_lens miner miners (place + 1) (d + length o.words) os (omega arith) ∙ ap (lens_told miners) same)

-- ---- names

dealt_names : (miner : Number) (xs : List Entry) (ws : List ℕ) → map share_name_of (dealt_entries miner xs ws) ≡ map name_of xs
dealt_names miner [] ws = refl
dealt_names miner (e ∷ es) ws = ap (λ ns. e.name ∷ ns) (dealt_names miner es (drop (draws_of e) ws))

fresh : (before : List (List ℕ)) (name : List ℕ) → new_name before name ≡ Some name → list_any (bytes_eq name) before ≡ false
unfolding new_name
fresh before name new = go (is_name name) (list_any (bytes_eq name) before) new
  where
    go : (a b : Bool) → (if a && not b then Some name else None) ≡ Some name → b ≡ false
    go a false h = refl
    go true true h = absurd cc
    go false true h = absurd cc

none_twice : (before xs : List Entry) → AreEntries name_of entry_elements before xs → name_again (map name_of before) (map name_of xs) ≡ None
unfolding name_again
none_twice before [] are = refl
none_twice before (e ∷ es) are =
    let next : map name_of before ++ e.name ∷ [] ≡ map name_of (before ++ e ∷ []) = sym (map-append name_of before (e ∷ [])) in
    rw (fresh (map name_of before) e.name are.0.fresh, next) (none_twice (before ++ e ∷ []) es are.1)

-- ---- together

abbrev told : Number → Lengths → List ShareEntry → ℕ → Result MinerFile GatherErr
told miner miners entries n = Ok (record { entries = entries; lens = lens_of n miners; miner = miner })

pub gathered_is_dealt : (miner : Number) (miners : Lengths) (o : Owner) (os : List Owner) → All CanDeal (o ∷ os) → AreInputs (all_inputs (o ∷ os))
    → length (one_tape (o ∷ os)) < 2 ^ 64
    → gathered (dealt_by miner miners o) (dealt_by_all miner miners os) ≡ Ok (dealt_by_one miner miners (o ∷ os))
unfolding gathered
gathered_is_dealt miner miners o os can good small =
    let len = length-one_tape (o ∷ os) in
    let entries : dealt_entries miner (all_inputs (o ∷ os)) (one_tape (o ∷ os)) ≡ entries_in (dealt_by_all miner miners (o ∷ os)) =
    all_dealt miner miners (o ∷ os) (words_left (o ∷ os)) can in
    let names : name_again [] (map share_name_of (entries_in (dealt_by_all miner miners (o ∷ os)))) ≡ None =
    ap (λ es. name_again [] (map share_name_of es)) (sym entries)
    ∙ ap (name_again []) (dealt_names miner (all_inputs (o ∷ os)) (one_tape (o ∷ os))) ∙ none_twice [] (all_inputs (o ∷ os)) good in
    let lens = all_lens miner miners 1 (length o.words) os (omega (arith, len)) in
    rw (names, lens) (ap₂ (told miner miners) (sym entries) (sym len))

need_of-append : (xs ys : List Entry) → need_of (xs ++ ys) ≡ need_of xs + need_of ys
need_of-append [] ys = sym (zero-add (need_of ys))
need_of-append (e ∷ es) ys =
    omega (arith, sum_by-cons draws_of e (es ++ ys), sum_by-cons draws_of e es, need_of-append es ys)

within : (owners : List Owner) → All CanDeal owners → need_of (all_inputs owners) ≤ total owners
within [] can = omega arith
within (o ∷ os) can =
    let here = can 0 o (omega arith) in
    let rest = within os (λ k d h. can (suc k) d (omega arith)) in
    omega (arith, need_of-append o.inputs (all_inputs os), here, rest)

pub one_can_deal : (owners : List Owner) → All CanDeal owners → need_of (all_inputs owners) ≤ length (one_tape owners)
one_can_deal owners can = omega (arith, within owners can, length-one_tape owners)
