-- What an option that has something is made of.
use Rattle.std.proofs.Common.{◌≡◌, Bool, true, false, if◌then◌else◌, refl, subst}
use Rattle.std.specs.Prelude.{List, ◌∷◌, Option, Some, None, option_map, option_and_then}

module _ {A : Type 0} where
  pub nothing_found : {P : Type 0} (x : A) → None ≡ Some x → P
  nothing_found x e = cc

  pub same_found : (x y : A) → Some x ≡ Some y → x ≡ y
  same_found x y e = cc

  -- of a test the found case
  pub if_found : {P : Type 0} (b : Bool) (first second : Option A) (x : A) → (if b then first else second) ≡ Some x →
      (b ≡ true → first ≡ Some x → P) → (second ≡ Some x → P) → P
  if_found true first second x e on_first on_second = on_first refl e
  if_found false first second x e on_first on_second = on_second e

  -- where there is something only if the test holds
  pub then_found : {P : Type 0} (b : Bool) (x y : A) → (if b then Some x else None) ≡ Some y → (b ≡ true → x ≡ y → P) → P
  then_found true x y e more = more refl (same_found x y e)
  then_found false x y e more = nothing_found y e

module _ {A B : Type 0} where
  pub map_found : (P : B → Type 0) (f : A → B) (o : Option A) (y : B) → option_map f o ≡ Some y → ((x : A) → o ≡ Some x → P (f x)) → P y
  map_found P f None y e more = nothing_found y e
  map_found P f (Some x) y e more = subst P (same_found (f x) y e) (more x refl)

  pub next_found : {P : Type 0} (f : A → Option B) (o : Option A) (y : B) → option_and_then f o ≡ Some y →
      ((x : A) → o ≡ Some x → f x ≡ Some y → P) → P
  next_found f None y e more = nothing_found y e
  next_found f (Some x) y e more = more x refl e

-- one more in front, where both are there
abbrev pub both : {A : Type 0} → Option A → Option (List A) → Option (List A)
both one more = option_and_then (λ x. option_map (λ xs. x ∷ xs) more) one
