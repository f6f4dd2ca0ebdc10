-- What a miner is dealt of inputs that may stand in a file has names and words.
use Rattle.std.proofs.Common.{◌≡◌, ℕ, suc, ◌*◌, ◌+◌, ◌≤◌, List, [], ◌∷◌, ◌++◌, length, map, drop, Bool, true, false, cond, refl, arith}
use Rattle.std.specs.Prelude.{Some, None, ◌&&◌, not, bytes_eq}
use Rattle.std.specs.List.{list_any}
use Rattle.std.proofs.lemmas.List.Sums.{sum_by-cons}
use Rattle.sc_text.specs.Name.{is_name}
use Rattle.proto_core.specs.RingsKeepLaws.{add_ring_laws, xor_ring_laws}
use Rattle.proto_core.specs.declared.party.Number.{Number}
use Rattle.proto_core.specs.declared.party.Number.TheVariants.{One, Two, Three}
use Rattle.proto_core.specs.Lists.{AreWords}
use Rattle.proto_core.proofs.MessageFields.{first_true}
use Rattle.protocol_model.proofs.Sizes.{AreWords-take, AreWords-drop}
use Rattle.value_file.specs.declared.value.DataType.{DataType}
use Rattle.value_file.specs.declared.value.DataType.TheVariants as data_type
use Rattle.value_file.specs.declared.value.Domain.{Domain}
use Rattle.value_file.specs.declared.value.Domain.TheVariants as domain
use Rattle.value_file.specs.declared.inputs.Entry.{Entry}
use Rattle.value_file.specs.Values.{type_of, count_of}
use Rattle.value_file.specs.Input.{new_name, AreEntries, name_of}
use Rattle.value_file.specs.Input as input
use Rattle.input_share.specs.Values.{shared_words, shared_size, ring_of}
use Rattle.input_share.specs.Dealing.{first_masks, second_masks, share_of, draws_for, draws_of, need_of, part_of, dealt_entries}
use Rattle.view_text.specs.View.{Words, InputShare, AreInputs}
use Rattle.view_model.proofs.Masks.{left_of_words}
use Rattle.program_views.specs.Views.{input_shares, share_then}

-- ---- words

pub are_words : (xs : List ℕ) → AreWords xs → Words xs
are_words [] h = tt
are_words (x ∷ xs) h = (h 0, are_words xs (λ k. h (suc k)))

share_words : (i : Number) (t : DataType) (xs words : List ℕ) → AreWords words → AreWords (share_of i (ring_of t) xs words)
share_words One t xs words h = AreWords-take (length xs) words h
share_words Two t xs words h = AreWords-take (length xs) (drop (length xs) words) (AreWords-drop (length xs) words h)
share_words Three data_type.Uint64 xs words h = left_of_words add_ring_laws xs (first_masks (length xs) words) (second_masks (length xs) words)
share_words Three data_type.Int64 xs words h = left_of_words add_ring_laws xs (first_masks (length xs) words) (second_masks (length xs) words)
share_words Three data_type.Bool xs words h = left_of_words xor_ring_laws xs (first_masks (length xs) words) (second_masks (length xs) words)

-- ---- names

some_if : (b : Bool) (x : List ℕ) → cond b (Some x) None ≡ Some x → b ≡ true
some_if true x e = refl
some_if false x e = cc

pub is_named : (earlier : List (List ℕ)) (name : List ℕ) → new_name earlier name ≡ Some name → is_name name ≡ true
unfolding new_name
is_named earlier name e =
    first_true (is_name name) (not (list_any (bytes_eq name) earlier)) (some_if (is_name name && not (list_any (bytes_eq name) earlier)) name e)

-- ---- inputs

abbrev AreGood : (before entries : List Entry) → Type 0
AreGood before entries = AreEntries name_of input.elements_of before entries

share_is : (i : Number) (e : Entry) (d : Domain) (words : List ℕ) (more : List InputShare) → is_name e.name ≡ true → AreWords words → AreInputs more
    → AreInputs (share_then e.name (part_of i d e.value words) more)
share_is i e domain.Public words more named are h = h
share_is i e domain.Private words more named are h =
    ((named, are_words _ (share_words i (type_of e.value) (shared_words e.value) words are)), h)

pub shares_are : (i : Number) (before entries : List Entry) (words : List ℕ) → AreGood before entries → AreWords words
    → AreInputs (input_shares (dealt_entries i entries words))
shares_are i before [] words good are = tt
shares_are i before (e ∷ es) words good are =
    share_is i e e.domain words (input_shares (dealt_entries i es (drop (draws_of e) words)))
    (is_named (map name_of before) e.name good.0.fresh) are
    (shares_are i (before ++ e ∷ []) es (drop (draws_of e) words) good.1 (AreWords-drop (draws_of e) words are))

-- ---- how many words the dealer needs

size_most : (t : DataType) (n : ℕ) → shared_size t n ≤ n
size_most data_type.Uint64 n = omega arith
size_most data_type.Int64 n = omega arith
size_most data_type.Bool n = omega arith

draws_most : (d : Domain) (t : DataType) (n : ℕ) → n ≤ 65536 → draws_for d (shared_size t n) ≤ 131072
draws_most domain.Public t n h = omega arith
draws_most domain.Private t n h = let s = size_most t n in omega (arith, h, s)

pub need_most : (before entries : List Entry) → AreGood before entries → need_of entries ≤ 131072 * length entries
need_most before [] good = omega arith
need_most before (e ∷ es) good =
    let first = draws_most e.domain (type_of e.value) (count_of e.value) good.0.short in
    let rest = need_most (before ++ e ∷ []) es good.1 in
    let both : need_of (e ∷ es) ≡ draws_of e + need_of es = sum_by-cons draws_of e es in
    omega (arith, first, rest, both)
