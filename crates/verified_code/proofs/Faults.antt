-- The loops that look for the first fault.
use Rattle.std.proofs.Common.{◌≡◌, ℕ, zero, suc, ◌+◌, ◌<◌, ◌≤◌, List, [], ◌∷◌, length, map, drop, get_or, Bool, true, false, ◌&&◌, Option, Some, None}
use Rattle.std.proofs.Common.{refl, sym, ap, ◌∙◌, arith}
use Rattle.std.specs.List.{list_all}
use Rattle.std.specs.Option.{option_or}
use Rattle.std.proofs.Math.Seq.{drop-cons, drop-nil}
use Rattle.std.proofs.lemmas.List.{drop-map}
use Rattle.bytecode.specs.declared.kind.Kind.{Kind}
use Rattle.bytecode.specs.Raw.{Raw, RawFunction, RawCode}
use Rattle.verified_code.specs.declared.fault.CodeProblem.{CodeProblem}
use Rattle.verified_code.specs.declared.fault.VerifyErr.{VerifyErr}
use Rattle.verified_code.specs.Fitting.{same_kind, kind_at, arguments_fit}
use Rattle.verified_code.specs.Verified.{problem_at, here, fault_if_any, body_fault, function_fault, functions_fault}

-- ---- lists

-- the element as a loop over a list has it
next_one : {A : Type 0} (xs : List A) (i : ℕ) (x : A) → x ≡ get_or xs i x → i < length xs → drop i xs ≡ x ∷ drop (i + 1) xs
next_one xs i x e l =
    let behind : suc i ≡ i + 1 = omega arith in
    drop-cons xs i x l ∙ ap (λ z. z ∷ drop (suc i) xs) (sym e) ∙ ap (λ m. x ∷ drop m xs) behind

next_mapped : {A B : Type 0} (g : A → B) (xs : List A) (i : ℕ) (x : A) → x ≡ get_or xs i x → i < length xs → drop i (map g xs) ≡ g x ∷ drop (i + 1) (map g xs)
next_mapped g xs i x e l =
    drop-map g i xs ∙ ap (map g) (next_one xs i x e l) ∙ ap (λ z. g x ∷ z) (sym (drop-map g (i + 1) xs))

drop_all : {A : Type 0} (xs : List A) (i : ℕ) → length xs ≤ i → drop i xs ≡ []
drop_all [] i l = drop-nil i
drop_all (x ∷ xs) zero l = absurd (omega (arith, l))
drop_all (x ∷ xs) (suc i) l = drop_all xs i (omega (arith, l))

drop_mapped : {A B : Type 0} (g : A → B) (xs : List A) (i : ℕ) → length xs ≤ i → drop i (map g xs) ≡ []
drop_mapped g xs i l = drop-map g i xs ∙ ap (map g) (drop_all xs i l)

pub list_all_map : {A B : Type 0} (p : B → Bool) (g : A → B) (xs : List A) → list_all p (map g xs) ≡ list_all (λ x. p (g x)) xs
list_all_map p g [] = refl
list_all_map p g (x ∷ xs) = ap (λ b. p (g x) && b) (list_all_map p g xs)

-- ---- instructions

pub body_more : {A : Type 0} (c : RawCode) (n : ℕ) (f : RawFunction) (g : A → Raw) (xs : List A) (k : ℕ) (x : A) (r : Option VerifyErr)
    → x ≡ get_or xs k x → k < length xs
    → problem_at n (here c f k) (g x) ≡ None → r ≡ body_fault c n f k (drop k (map g xs)) → r ≡ body_fault c n f (k + 1) (drop (k + 1) (map g xs))
body_more c n f g xs k x r e l p h =
    h ∙ ap (body_fault c n f k) (next_mapped g xs k x e l) ∙ ap (λ o. fault_if_any n k o (body_fault c n f (k + 1) (drop (k + 1) (map g xs)))) p

pub body_found : {A : Type 0} (c : RawCode) (n : ℕ) (f : RawFunction) (g : A → Raw) (xs : List A) (k : ℕ) (x : A) (r : Option VerifyErr)
    (p : CodeProblem) → x ≡ get_or xs k x → k < length xs
    → problem_at n (here c f k) (g x) ≡ Some p → r ≡ body_fault c n f k (drop k (map g xs)) → r ≡ Some (record { problem = p; function = n; instruction = k })
body_found c n f g xs k x r p e l q h =
    h ∙ ap (body_fault c n f k) (next_mapped g xs k x e l) ∙ ap (λ o. fault_if_any n k o (body_fault c n f (k + 1) (drop (k + 1) (map g xs)))) q

pub body_done : {A : Type 0} (c : RawCode) (n : ℕ) (f : RawFunction) (g : A → Raw) (xs : List A) (k : ℕ) (r : Option VerifyErr) → length xs ≤ k
    → r ≡ body_fault c n f k (drop k (map g xs)) → r ≡ None
body_done c n f g xs k r l h = h ∙ ap (body_fault c n f k) (drop_mapped g xs k l)

-- ---- functions

pub functions_more : {A : Type 0} (c : RawCode) (g : A → RawFunction) (xs : List A) (k : ℕ) (x : A) (r : Option VerifyErr) → x ≡ get_or xs k x → k < length xs
    → function_fault c k (g x) ≡ None → r ≡ functions_fault c k (drop k (map g xs)) → r ≡ functions_fault c (k + 1) (drop (k + 1) (map g xs))
functions_more c g xs k x r e l p h =
    h ∙ ap (functions_fault c k) (next_mapped g xs k x e l) ∙ ap (λ o. option_or o (functions_fault c (k + 1) (drop (k + 1) (map g xs)))) p

pub functions_found : {A : Type 0} (c : RawCode) (g : A → RawFunction) (xs : List A) (k : ℕ) (x : A) (r : Option VerifyErr) (q : VerifyErr)
    → x ≡ get_or xs k x → k < length xs
    → function_fault c k (g x) ≡ Some q → r ≡ functions_fault c k (drop k (map g xs)) → r ≡ Some q
functions_found c g xs k x r q e l p h =
    h ∙ ap (functions_fault c k) (next_mapped g xs k x e l) ∙ ap (λ o. option_or o (functions_fault c (k + 1) (drop (k + 1) (map g xs)))) p

pub functions_done : {A : Type 0} (c : RawCode) (g : A → RawFunction) (xs : List A) (k : ℕ) (r : Option VerifyErr) → length xs ≤ k
    → r ≡ functions_fault c k (drop k (map g xs)) → r ≡ None
functions_done c g xs k r l h = h ∙ ap (functions_fault c k) (drop_mapped g xs k l)

-- ---- arguments

pub arguments_more : {A : Type 0} (kinds : List Kind) (g : A → ℕ) (xs : List A) (ks : List Kind) (i : ℕ) (x : A) (k : Kind) (r : Bool)
    → x ≡ get_or xs i x → k ≡ get_or ks i k
    → i < length xs → i < length ks → same_kind (kind_at kinds (g x)) k ≡ true → r ≡ arguments_fit kinds (drop i (map g xs)) (drop i ks)
    → r ≡ arguments_fit kinds (drop (i + 1) (map g xs)) (drop (i + 1) ks)
arguments_more kinds g xs ks i x k r e d l m s h =
    h ∙ ap (λ rs. arguments_fit kinds rs (drop i ks)) (next_mapped g xs i x e l)
    ∙ ap (arguments_fit kinds (g x ∷ drop (i + 1) (map g xs))) (next_one ks i k d m)
    ∙ ap (λ b. b && arguments_fit kinds (drop (i + 1) (map g xs)) (drop (i + 1) ks)) s

pub arguments_wrong : {A : Type 0} (kinds : List Kind) (g : A → ℕ) (xs : List A) (ks : List Kind) (i : ℕ) (x : A) (k : Kind) (r : Bool)
    → x ≡ get_or xs i x → k ≡ get_or ks i k
    → i < length xs → i < length ks → same_kind (kind_at kinds (g x)) k ≡ false → r ≡ arguments_fit kinds (drop i (map g xs)) (drop i ks) → r ≡ false
arguments_wrong kinds g xs ks i x k r e d l m s h =
    h ∙ ap (λ rs. arguments_fit kinds rs (drop i ks)) (next_mapped g xs i x e l)
    ∙ ap (arguments_fit kinds (g x ∷ drop (i + 1) (map g xs))) (next_one ks i k d m)
    ∙ ap (λ b. b && arguments_fit kinds (drop (i + 1) (map g xs)) (drop (i + 1) ks)) s

pub arguments_done : {A : Type 0} (kinds : List Kind) (g : A → ℕ) (xs : List A) (ks : List Kind) (i : ℕ) (r : Bool) → length xs ≤ i → length ks ≤ i
    → r ≡ arguments_fit kinds (drop i (map g xs)) (drop i ks) → r ≡ true
arguments_done kinds g xs ks i r l m h =
    h ∙ ap (λ rs. arguments_fit kinds rs (drop i ks)) (drop_mapped g xs i l) ∙ ap (arguments_fit kinds []) (drop_all ks i m)
