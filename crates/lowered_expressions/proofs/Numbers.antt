-- The number of an instance, as it is found and as it is counted.
use Rattle.std.proofs.Common.{◌≡◌, ℕ, ◌+◌, ◌≤◌, List, length, Some, None, Bool, true, false, cond, refl, sym, ap, ◌∙◌, arith}
use Rattle.std.specs.Prelude.{nat_lt, not}
use Rattle.std.specs.List.{position_or_len}
use Rattle.std.proofs.lemmas.List.Recursion.{is_position_or_len}
use Rattle.std.proofs.lemmas.Bool.Decides.{nat_tests}
use Rattle.std.proofs.lemmas.List.Sums.{prefix_len-le-length}
use Rattle.reached_instances.specs.Instances.{Instance, same_instance, number_in}
use Rattle.code_model.specs.Programs.{place_of}

place_is : (i : Instance) (is : List Instance) → place_of i is ≡ position_or_len (same_instance i) is
place_is i is =
    is_position_or_len (place_of i) (same_instance i) refl
    (λ j js. let one : place_of i js + 1 ≡ 1 + place_of i js = omega arith in ap (cond (same_instance i j) 0) one) is

pub told : (n m k : ℕ) → cond (nat_lt n m) (Some n) None ≡ Some k → k ≡ n
told n m k = go (nat_lt n m)
  where
    go : (b : Bool) → cond b (Some n) None ≡ Some k → k ≡ n
    go true e = cc
    go false e = cc

pub number_found : (i : Instance) (is : List Instance) (k : ℕ) → number_in is i ≡ Some k → k ≡ place_of i is
number_found i is k e = told (position_or_len (same_instance i) is) (length is) k e ∙ sym (place_is i is)

pub missed : (n m : ℕ) → n ≤ m → cond (nat_lt n m) (Some n) None ≡ None → m ≡ n
missed n m l e = go (nat_lt n m) refl e
  where
    go : (b : Bool) → nat_lt n m ≡ b → cond b (Some n) None ≡ None → m ≡ n
    go true same f = cc
    go false same f = let past : m ≤ n = grind (arith, nat_tests) in omega arith

pub number_missing : (i : Instance) (is : List Instance) → number_in is i ≡ None → length is ≡ place_of i is
number_missing i is e =
    missed (position_or_len (same_instance i) is) (length is) (prefix_len-le-length (λ x. not (same_instance i x)) is) e ∙ sym (place_is i is)
