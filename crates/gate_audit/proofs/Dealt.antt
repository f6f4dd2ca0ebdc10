-- In the shares of inputs that were dealt the steps over `in` lines find nothing wrong.
use Rattle.std.proofs.Common.{◌≡◌, ℕ, suc, ◌+◌, ◌-◌, ◌*◌, ◌<◌, ◌≤◌, ◌^◌, ◌&&◌, ◌==◌, Bool}
use Rattle.std.proofs.Common.{true, false, if◌then◌else◌, List, [], ◌∷◌, All, length, map, drop, Some, None}
use Rattle.std.proofs.Common.{refl, ◌∙◌, ap, arith}
use Rattle.std.proofs.lemmas.Bool.{and_from, eq-eqb}
use Rattle.std.proofs.lemmas.List.{length-drop}
use Rattle.std.proofs.lemmas.List.Sums.{sum_by-cons}
use Rattle.std.proofs.lemmas.Slice.Eq.{bytes_eq-Decides}
use Rattle.std.specs.Prelude.{option_map}
use Rattle.std.specs.Str.{bytes_eq}
use Rattle.proto_core.specs.declared.party.Number.{Number}
use Rattle.proto_core.specs.declared.party.Number.TheVariants.{One, Two, Three}
use Rattle.value_file.specs.declared.value.Domain.{Domain}
use Rattle.value_file.specs.declared.value.Domain.TheVariants as domain
use Rattle.value_file.specs.declared.value.Value.{Value}
use Rattle.value_file.specs.declared.value.DataType.{DataType}
use Rattle.value_file.specs.declared.value.DataType.TheVariants.{Uint64, Int64, Bool as Truths_}
use Rattle.value_file.specs.declared.inputs.Entry.{Entry}
use Rattle.value_file.specs.Values.{count_of, shape_of, size_of, type_of}
use Rattle.value_file.specs.Public.{part_of}
use Rattle.input_share.specs.declared.entry.Part.{Part}
use Rattle.input_share.specs.declared.entry.Part.TheVariants as part
use Rattle.input_share.specs.declared.entry.ShareEntry.{ShareEntry}
use Rattle.input_share.specs.AddUp.{HasWords, sums_of}
use Rattle.input_share.specs.Dealing.{draws_of, need_of, share_of}
use Rattle.input_share.specs.Values.{elements_of, shared_words, shared_size, ring_of}
use Rattle.input_share.proofs.AddUpLaws.{together-part_of}
use Rattle.input_share.proofs.Elements.{length-shared_words}
use Rattle.view_text.specs.View.{InputShare}
use Rattle.view_model.specs.Dealing.{private_shares}
use Rattle.view_model.proofs.DealtSizes.{length_share}
use Rattle.audit_steps.specs.Places.{one_later}
use Rattle.audit_steps.specs.Shares.{wrong_share_at}
use Rattle.found_inputs.specs.Found.{input_shares, IsSumOf}
use Rattle.found_inputs.specs.FoundLaws.{lines_of}
use Rattle.found_inputs.specs.Sums.{are_of_type, wrong_sums_at}
use Rattle.found_inputs.proofs.Found.{words_are}

-- ---- the words of a value are of its type

pub of_type_from : (kind : DataType) (count : ℕ) (ws : List ℕ) → IsSumOf kind count ws → are_of_type kind count ws ≡ true
of_type_from Uint64 count ws e = refl
of_type_from Int64 count ws e = refl
of_type_from Truths_ count ws e = (bytes_eq-Decides _ ws).1 e

value_of_type : (v : Value) → are_of_type (type_of v) (size_of (shape_of v)) (shared_words v) ≡ true
value_of_type v = of_type_from (type_of v) (size_of (shape_of v)) (shared_words v) (words_are v)

-- ---- input by input

module _ (name : List ℕ) (v : Value) (es : List Entry) (dealer : List ℕ) where
  abbrev entry : Domain → Entry
  entry d = record { name = name; domain = d; value = v }

  share_right : (i : Number) (d : Domain) → draws_of (entry d) ≤ length dealer
      → wrong_share_at (part_of es) (lines_of es (drop (draws_of (entry d)) dealer) i) ≡ None
      → wrong_share_at (part_of (entry d ∷ es)) (lines_of (entry d ∷ es) dealer i) ≡ None
  share_right i domain.Public enough later = later
  share_right i domain.Private enough later =
      let m : ℕ = shared_size (type_of v) (count_of v) in
      let n = length-shared_words v in
      let enough_words : 2 * length (shared_words v) ≤ length dealer = omega (arith, n, enough) in
      let words : List ℕ = share_of i (ring_of (type_of v)) (shared_words v) dealer in
      let long : length words ≡ m = length_share i (ring_of (type_of v)) (shared_words v) dealer enough_words ∙ n in
      let is : (bytes_eq name name && (length words == m)) ≡ true =
      and_from (bytes_eq name name) (length words == m) ((bytes_eq-Decides name name).1 refl) (eq-eqb (length words) m long) in
      ap (λ b. if b then one_later (wrong_share_at (part_of es) (lines_of es (drop (2 * m) dealer) i)) else Some 0) is
      ∙ ap one_later later

  sums_right : (d : Domain) → draws_of (entry d) ≤ length dealer → All (λ n. n < 2 ^ 64) (elements_of v)
      → wrong_sums_at (part_of es) (lines_of es (drop (draws_of (entry d)) dealer) One) (lines_of es (drop (draws_of (entry d)) dealer) Two)
      (lines_of es (drop (draws_of (entry d)) dealer) Three) ≡ None
      → wrong_sums_at (part_of (entry d ∷ es)) (lines_of (entry d ∷ es) dealer One) (lines_of (entry d ∷ es) dealer Two)
      (lines_of (entry d ∷ es) dealer Three) ≡ None
  sums_right domain.Public enough fit later = ap (option_map (λ k. 0 + k)) later
  sums_right domain.Private enough fit later =
      let r = ring_of (type_of v) in
      let rest : List ℕ = drop (2 * shared_size (type_of v) (count_of v)) dealer in
      let sums : sums_of r (share_of One r (shared_words v) dealer) (share_of Two r (shared_words v) dealer) (share_of Three r (shared_words v) dealer)
      ≡ shared_words v = together-part_of domain.Private v dealer enough fit in
      ap (λ ws. if are_of_type (type_of v) (size_of (shape_of v)) ws
      then option_map (λ k. 1 + k) (wrong_sums_at (part_of es) (lines_of es rest One) (lines_of es rest Two) (lines_of es rest Three)) else Some 0) sums
      ∙ ap (λ b. if b
      then option_map (λ k. 1 + k) (wrong_sums_at (part_of es) (lines_of es rest One) (lines_of es rest Two) (lines_of es rest Three)) else Some 0)
      (value_of_type v)
      ∙ ap (option_map (λ k. 1 + k)) later

module _ (e : Entry) (es : List Entry) (dealer : List ℕ) (enough : need_of (e ∷ es) ≤ length dealer) where
  enough_here : draws_of e ≤ length dealer
  enough_here = let need : need_of (e ∷ es) ≡ draws_of e + need_of es = sum_by-cons draws_of e es in omega arith

  enough_later : need_of es ≤ length (drop (draws_of e) dealer)
  enough_later =
      let need : need_of (e ∷ es) ≡ draws_of e + need_of es = sum_by-cons draws_of e es in
      let left : length (drop (draws_of e) dealer) ≡ length dealer - draws_of e = length-drop (draws_of e) dealer in
      omega arith

pub shares_right : (i : Number) (entries : List Entry) (dealer : List ℕ) → need_of entries ≤ length dealer
    → wrong_share_at (part_of entries) (lines_of entries dealer i) ≡ None
shares_right i [] dealer enough = refl
shares_right i (e ∷ es) dealer enough =
    share_right e.name e.value es dealer i e.domain (enough_here e es dealer enough)
    (shares_right i es (drop (draws_of e) dealer) (enough_later e es dealer enough))

pub all_sums_right : (entries : List Entry) (dealer : List ℕ) → All HasWords entries → need_of entries ≤ length dealer
    → wrong_sums_at (part_of entries) (lines_of entries dealer One) (lines_of entries dealer Two) (lines_of entries dealer Three) ≡ None
all_sums_right [] dealer words enough = refl
all_sums_right (e ∷ es) dealer words enough =
    sums_right e.name e.value es dealer e.domain (enough_here e es dealer enough) (words 0 e (omega arith))
    (all_sums_right es (drop (draws_of e) dealer) (λ k d lt. words (suc k) d (omega arith)) (enough_later e es dealer enough))

-- ---- the words of the lines are those of the private shares

line_words : List InputShare → List (List ℕ)
line_words ss = map (λ s. s.words) ss

pub private_are : (es : List ShareEntry) → private_shares es ≡ map (λ (s : InputShare). s.words) (input_shares es)
private_are [] = refl
private_are (e ∷ es) = by_part e.part (private_are es)
  where
    by_part : (p : Part) → private_shares es ≡ map (λ (s : InputShare). s.words) (input_shares es)
        → private_shares (record { name = e.name; part = p } ∷ es) ≡ map (λ (s : InputShare). s.words) (input_shares (record { name = e.name; part = p } ∷ es))
    by_part (part.Public value) later = later
    by_part (part.Private shared) later = ap (λ ws. shared.words ∷ ws) later
