-- What was dealt, by what is said of it where there is such.
use Rattle.std.proofs.Common.{◌≡◌, subst}
use Rattle.std.specs.Prelude.{Option, Some, IfSome}

pub some-says : {A : Type 0} (P : A → Type 0) (o : Option A) (x : A) → o ≡ Some x → IfSome o P → P x
some-says P o x is h = subst (λ o. IfSome o P) is h
