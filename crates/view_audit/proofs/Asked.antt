-- Steps that name no line.
use Rattle.std.proofs.Common.{◌≡◌, ℕ, Bool, true, false, if◌then◌else◌, Option, Some, None, refl, ◌∙◌, ap}
use Rattle.std.specs.Option.{option_map_or}
use Rattle.std.specs.Prelude.{option_map}
use Rattle.proto_core.specs.declared.party.Number.{Number}
use Rattle.proto_core.specs.declared.party.Number.TheVariants.{One, Two, Three}
use Rattle.view_audit.specs.Places.{Place, lowest, place_in, then_ask}

pub some_is_none : {A P : Type 0} (x : A) → Some x ≡ None → P
some_is_none x e = cc

pub none_before : {A B : Type 0} (f : A → B) (o : Option A) → option_map f o ≡ None → o ≡ None
none_before f None e = refl
none_before f (Some x) e = some_is_none (f x) e

pub tested : {A : Type 0} (b : Bool) (o : Option A) (x : A) → (if b then o else Some x) ≡ None → (b ≡ true) × (o ≡ None)
tested true o x e = (refl, e)
tested false o x e = some_is_none x e

-- a test that names a line where it fails
pub none_named : {A : Type 0} (b : Bool) (x : A) → (if b then None else Some x) ≡ None → b ≡ true
none_named true x e = refl
none_named false x e = some_is_none x e

pub both_none : (first later : Option Place) → then_ask first later ≡ None → (first ≡ None) × (later ≡ None)
both_none None later e = (refl, e)
both_none (Some place) later e = some_is_none place e

pub ask_none : (first later : Option Place) → first ≡ None → later ≡ None → then_ask first later ≡ None
ask_none first later a b = ap (λ o. then_ask o later) a ∙ b

module _ (at : Number → Option ℕ) where
  abbrev three : (one two third : Option ℕ) → Option Place
  three one two third =
      option_map_or (λ n. Some (place_in One n)) one (option_map_or (λ n. Some (place_in Two n)) two (option_map (place_in Three) third))

  all_three : (one two third : Option ℕ) → three one two third ≡ None → (one ≡ None) × (two ≡ None) × (third ≡ None)
  all_three None None third e = (refl, refl, none_before (place_in Three) third e)
  all_three None (Some n) third e = some_is_none (place_in Two n) e
  all_three (Some n) two third e = some_is_none (place_in One n) e

  pub none_of_three : lowest at ≡ None → (i : Number) → at i ≡ None
  none_of_three e = by_number
    where
      all : (at One ≡ None) × (at Two ≡ None) × (at Three ≡ None)
      all = all_three (at One) (at Two) (at Three) e

      by_number : (i : Number) → at i ≡ None
      by_number One = all.0
      by_number Two = all.1
      by_number Three = all.2

  pub three_none : ((i : Number) → at i ≡ None) → lowest at ≡ None
  three_none h =
      ap (λ o. three o (at Two) (at Three)) (h One) ∙ ap (λ o. three None o (at Three)) (h Two) ∙ ap (λ o. three None None o) (h Three)
