-- An element of a list by its number.
use Rattle.std.proofs.Common.{◌≡◌, ℕ, zero, suc, ◌<◌, ◌≤◌, List, [], ◌∷◌, length, get_or, refl, sym, ap, Option, Some, None, arith}
use Rattle.std.specs.List.{slice_get}
use Rattle.std.specs.Option.{option_copied, IfSome, MatchOption}
use denote.Ref.{Bor}

pub past_end : {A : Type 0} (xs : List A) (n : ℕ) → length xs ≤ n → slice_get xs n ≡ None
past_end [] n h = refl
past_end (x ∷ xs) zero h = absurd (omega arith)
past_end (x ∷ xs) (suc n) h = past_end xs n (omega arith)

pub there_at : {A : Type 0} (xs : List A) (n : ℕ) (x : A) → n < length xs → x ≡ get_or xs n x → slice_get xs n ≡ Some x
there_at [] n x within e = absurd (omega arith)
there_at (y ∷ ys) zero x within e = ap Some (sym e)
there_at (y ∷ ys) (suc n) x within e = there_at ys n x (omega arith) e

pub copied_is : {A : Type 0} (r : Option (Bor A)) (xs : List A) (n : ℕ) (Here : Bor A → Type 0) → IfSome r (λ x. x.now ≡ get_or xs n x.now)
    → MatchOption r (length xs ≤ n) (λ x. n < length xs × Here x) → option_copied r ≡ slice_get xs n
copied_is None xs n Here i m = sym (past_end xs n m)
copied_is (Some x) xs n Here i m = sym (there_at xs n x.now m.0 i)
