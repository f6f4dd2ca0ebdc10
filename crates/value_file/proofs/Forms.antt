-- Entries that may stand in a file.
use Rattle.std.proofs.Common.{◌≡◌, ℕ, List, [], ◌∷◌, ◌++◌, map, refl, ap, sym, subst}
use Rattle.std.proofs.lemmas.List.{append_assoc, append-nil, map-append}
use Rattle.value_file.specs.declared.value.Domain.{Domain}
use Rattle.value_file.specs.declared.value.Domain.TheVariants as domain
use Rattle.value_file.specs.declared.value.Value.{Value}
use Rattle.value_file.specs.declared.value.Value.TheVariants.{Number, Integer, Truth, Numbers, Integers, Truths}
use Rattle.value_file.specs.declared.inputs.Entry.{Entry}
use Rattle.value_file.specs.declared.public.PublicEntry.{PublicEntry}
use Rattle.value_file.specs.Values.{count_of}
use Rattle.value_file.specs.Public.{public_entry, part_of, shown}
use Rattle.value_file.specs.PublicFile.{public_count, public_name_of, public_elements_of, IsWritable}
use Rattle.value_file.specs.Input.{name_of, elements_of, AreEntries, AreInputs, IsEntry}

module _ {E : Type 0} (name : E → List ℕ) (count : E → ℕ) where
  -- one more entry
  pub AreEntries-push : (before es : List E) (e : E) → AreEntries name count before es → IsEntry (map name (before ++ es)) (name e) (count e)
      → AreEntries name count before (es ++ e ∷ [])
  AreEntries-push before [] e good more = (subst (λ (b : List E). IsEntry (map name b) (name e) (count e)) (append-nil before) more, tt)
  AreEntries-push before (x ∷ es) e good more = (
    good.0,
    AreEntries-push (before ++ x ∷ []) es e good.1
        (subst (λ (b : List E). IsEntry (map name b) (name e) (count e)) (sym (append_assoc before (x ∷ []) es)) more),
  )

  -- one more entry, whose name and count were tested
  pub AreEntries-more : (before after : List E) (e : E) (names : List (List ℕ)) → AreEntries name count [] before → names ≡ map name before
      → IsEntry names (name e) (count e) → after ≡ before ++ e ∷ [] → AreEntries name count [] after
  AreEntries-more before after e names good same more joined =
      subst (AreEntries name count []) (sym joined) (AreEntries-push [] before e good (subst (λ (n : List (List ℕ)). IsEntry n (name e) (count e)) same more))

public_count-shown : (d : Domain) (v : Value) → public_count (shown d v) ≡ count_of v
public_count-shown domain.Public v = refl
public_count-shown domain.Private (Number n) = refl
public_count-shown domain.Private (Integer x) = refl
public_count-shown domain.Private (Truth b) = refl
public_count-shown domain.Private (Numbers ns) = refl
public_count-shown domain.Private (Integers xs) = refl
public_count-shown domain.Private (Truths bs) = refl

names-part_of : (es : List Entry) → map name_of es ≡ map public_name_of (part_of es)
names-part_of [] = refl
names-part_of (e ∷ es) = ap (λ ns. e.name ∷ ns) (names-part_of es)

part_of-entries : (before es : List Entry) → AreEntries name_of elements_of before es
    → AreEntries public_name_of public_elements_of (part_of before) (part_of es)
part_of-entries before [] good = tt
part_of-entries before (e ∷ es) good =
    let names = names-part_of before in
    let count = public_count-shown e.domain e.value in
    let joined : part_of (before ++ e ∷ []) ≡ part_of before ++ public_entry e ∷ [] = map-append public_entry before (e ∷ []) in (
      rw (← names, count) good.0,
      subst (λ (b : List PublicEntry). AreEntries public_name_of public_elements_of b (part_of es)) joined (part_of-entries (before ++ e ∷ []) es good.1),
    )

-- the public part of good inputs
pub IsWritable-part_of : (inputs : List Entry) → AreInputs inputs → IsWritable (part_of inputs)
IsWritable-part_of inputs good = part_of-entries [] inputs good
