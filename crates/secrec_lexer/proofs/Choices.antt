-- Tests and choices.
use Rattle.std.proofs.Common.{◌≡◌, refl, Bool, true, false}
use Rattle.std.specs.Prelude.{◌&&◌, if◌then◌else◌}

pub and_left : (a b : Bool) → (a && b) ≡ true → a ≡ true
and_left true b h = refl
and_left false b h = h

pub and_right : (a b : Bool) → (a && b) ≡ true → b ≡ true
and_right true b h = h
and_right false b h = cc

pub and_both : (a b : Bool) → a ≡ true → b ≡ true → (a && b) ≡ true
and_both a b g h = rw (g, h)

pub not_true : (test : Bool) → (test ≡ true → ⊥) → test ≡ false
not_true true h = absurd (h refl)
not_true false h = refl

-- what holds of both sides of a choice holds of it
pub split : {A : Type 0} (P : A → Type 0) (test : Bool) (x y : A) → (test ≡ true → P x) → (test ≡ false → P y) → P (if test then x else y)
split P true x y first second = first refl
split P false x y first second = second refl
