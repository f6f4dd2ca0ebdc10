-- Code is verified where each instruction passes, and only there.
use Rattle.std.proofs.Common.{◌≡◌, ℕ, zero, suc, ◌+◌, ◌==◌, ◌<◌, List, [], ◌∷◌, length, Bool, true, false, not, ◌&&◌, ◌||◌, Option, Some, None}
use Rattle.std.proofs.Common.{slice_get, IsTrue, refl, sym, ap, ◌∙◌, subst, arith}
use Rattle.std.specs.Prelude.{if◌then◌else◌}
use Rattle.std.specs.Option.{option_or}
use Rattle.bytecode.specs.Raw.{Raw, RawFunction, RawCode}
use Rattle.verified_code.specs.declared.fault.CodeProblem.{CodeProblem}
use Rattle.verified_code.specs.declared.fault.CodeProblem.TheVariants.{BadRegister, BadKind, BadJump}
use Rattle.verified_code.specs.declared.fault.VerifyErr.{VerifyErr}
use Rattle.verified_code.specs.Fitting.{names_there, operands_fit, target_fits, goes_on}
use Rattle.verified_code.specs.Verified.{problem_at, head_fits, here, fault_if_any, body_fault, function_problem}
use Rattle.verified_code.specs.Verified.{function_fault, functions_fault, main_problem, IsVerified}
use Rattle.verified_code.specs.Sound.{passes, IsSoundFunction, IsSound}

-- ---- one instruction

abbrev problem_of : (there fit leads : Bool) → Option CodeProblem
problem_of there fit leads = if not there then Some BadRegister else if not fit then Some BadKind else if not leads then Some BadJump else None

bools_none : (a b d t g : Bool) → problem_of a (b && d) (t && g) ≡ None → ((a && b && t && g) ≡ true) × (d ≡ true)
bools_none false b d t g h = cc
bools_none true false d t g h = cc
bools_none true true false t g h = cc
bools_none true true true false g h = cc
bools_none true true true true false h = cc
bools_none true true true true true h = (refl, refl)

none_bools : (a b d t g : Bool) → (a && b && t && g) ≡ true → d ≡ true → problem_of a (b && d) (t && g) ≡ None
none_bools false b d t g h e = cc
none_bools true false d t g h e = cc
none_bools true true false t g h e = cc
none_bools true true true false g h e = cc
none_bools true true true true false h e = cc
none_bools true true true true true h e = refl

abbrev head_counts : ℕ → RawFunction → ℕ → Bool
head_counts n f k = head_fits n f || not (k == 0)

passing : (n : ℕ) (c : RawCode) (f : RawFunction) (k : ℕ) (i : Raw) → problem_at n (here c f k) i ≡ None
    → IsTrue (passes (here c f k) i) × (head_counts n f k ≡ true)
passing n c f k i h =
    bools_none (names_there (here c f k) i) (operands_fit (here c f k) i) (head_counts n f k) (target_fits (here c f k) i) (goes_on (here c f k) i) h

passed : (n : ℕ) (c : RawCode) (f : RawFunction) (k : ℕ) (i : Raw) → IsTrue (passes (here c f k) i) → head_fits n f ≡ true → problem_at n (here c f k) i ≡ None
passed n c f k i p h =
    none_bools (names_there (here c f k) i) (operands_fit (here c f k) i) (head_counts n f k) (target_fits (here c f k) i) (goes_on (here c f k) i) p
    (ap (λ b. b || not (k == 0)) h)

-- ---- lists of them

fault_none : (n k : ℕ) (o : Option CodeProblem) (later : Option VerifyErr) → fault_if_any n k o later ≡ None → (o ≡ None) × (later ≡ None)
fault_none n k None later h = (refl, h)
fault_none n k (Some p) later h = cc

later_none : (o later : Option VerifyErr) → option_or o later ≡ None → (o ≡ None) × (later ≡ None)
later_none None later h = (refl, h)
later_none (Some e) later h = cc

some_same : {A : Type 0} (x y : A) → Some x ≡ Some y → x ≡ y
some_same x y h = cc

at_first : (k : ℕ) → k ≡ k + zero
at_first k = omega arith

at_next : (k j : ℕ) → k + 1 + j ≡ k + suc j
at_next k j = omega arith

body_ok : (c : RawCode) (n : ℕ) (f : RawFunction) (is : List Raw) (k : ℕ) → body_fault c n f k is ≡ None → (j : ℕ) (i : Raw)
    → slice_get is j ≡ Some i → problem_at n (here c f (k + j)) i ≡ None
body_ok c n f [] k h j i g = cc
body_ok c n f (x ∷ is) k h zero i g =
    subst (λ z. problem_at n (here c f z) i ≡ None) (at_first k)
    (subst (λ z. problem_at n (here c f k) z ≡ None) (some_same x i g) (fault_none n k (problem_at n (here c f k) x) (body_fault c n f (k + 1) is) h).0)
body_ok c n f (x ∷ is) k h (suc j) i g =
    subst (λ z. problem_at n (here c f z) i ≡ None) (at_next k j)
    (body_ok c n f is (k + 1) (fault_none n k (problem_at n (here c f k) x) (body_fault c n f (k + 1) is) h).1 j i g)

body_back : (c : RawCode) (n : ℕ) (f : RawFunction) → head_fits n f ≡ true → (is : List Raw) (k : ℕ)
    → ((j : ℕ) (i : Raw) → slice_get is j ≡ Some i → IsTrue (passes (here c f (k + j)) i)) → body_fault c n f k is ≡ None
body_back c n f h [] k all = refl
body_back c n f h (x ∷ is) k all =
    let own : IsTrue (passes (here c f k) x) = subst (λ z. IsTrue (passes (here c f z) x)) (sym (at_first k)) (all zero x refl) in
    ap (λ o. fault_if_any n k o (body_fault c n f (k + 1) is)) (passed n c f k x own h)
    ∙ body_back c n f h is (k + 1) (λ j i g. subst (λ z. IsTrue (passes (here c f z) i)) (sym (at_next k j)) (all (suc j) i g))

functions_ok : (c : RawCode) (fs : List RawFunction) (k : ℕ) → functions_fault c k fs ≡ None → (j : ℕ) (f : RawFunction) → slice_get fs j ≡ Some f
    → function_fault c (k + j) f ≡ None
functions_ok c [] k h j f g = cc
functions_ok c (x ∷ fs) k h zero f g =
    subst (λ z. function_fault c z f ≡ None) (at_first k)
    (subst (λ z. function_fault c k z ≡ None) (some_same x f g) (later_none (function_fault c k x) (functions_fault c (k + 1) fs) h).0)
functions_ok c (x ∷ fs) k h (suc j) f g =
    subst (λ z. function_fault c z f ≡ None) (at_next k j)
    (functions_ok c fs (k + 1) (later_none (function_fault c k x) (functions_fault c (k + 1) fs) h).1 j f g)

functions_back : (c : RawCode) (fs : List RawFunction) (k : ℕ)
    → ((j : ℕ) (f : RawFunction) → slice_get fs j ≡ Some f → function_fault c (k + j) f ≡ None) → functions_fault c k fs ≡ None
functions_back c [] k all = refl
functions_back c (x ∷ fs) k all =
    ap (λ o. option_or o (functions_fault c (k + 1) fs)) (subst (λ z. function_fault c z x ≡ None) (sym (at_first k)) (all zero x refl))
    ∙ functions_back c fs (k + 1) (λ j f g. subst (λ z. function_fault c z f ≡ None) (sym (at_next k j)) (all (suc j) f g))

-- ---- one function

without_or : (b : Bool) → (b || false) ≡ true → b ≡ true
without_or true h = refl
without_or false h = cc

head_of : (c : RawCode) (n : ℕ) (f : RawFunction) (is : List Raw) → function_problem n f is ≡ None → body_fault c n f 0 is ≡ None
    → (head_fits n f ≡ true) × (0 < length is)
head_of c n f [] p h = cc
head_of c n f (x ∷ is) p h =
    let own = passing n c f 0 x (fault_none n 0 (problem_at n (here c f 0) x) (body_fault c n f 1 is) h).0 in
    (without_or (head_fits n f) own.1, omega arith)

function_ok : (c : RawCode) (n : ℕ) (f : RawFunction) → function_fault c n f ≡ None → IsSoundFunction c n f
function_ok c n f h =
    let both = fault_none n 0 (function_problem n f f.body) (body_fault c n f 0 f.body) h in
    let head = head_of c n f f.body both.0 both.1 in
    record {
      head = head.0;
      some_instruction = head.1;
      instructions = λ k i g.
          let there : 0 + k ≡ k = omega arith in
          subst (λ z. IsTrue (passes (here c f z) i)) there (passing n c f (0 + k) i (body_ok c n f f.body 0 both.1 k i g)).0;
    }

no_problem : (n : ℕ) (f : RawFunction) (is : List Raw) → 0 < length is → function_problem n f is ≡ None
no_problem n f [] l = absurd (omega (arith, l))
no_problem n f (x ∷ is) l = refl

function_back : (c : RawCode) (n : ℕ) (f : RawFunction) → IsSoundFunction c n f → function_fault c n f ≡ None
function_back c n f s =
    ap (λ o. fault_if_any n 0 o (body_fault c n f 0 f.body)) (no_problem n f f.body s.some_instruction)
    ∙ body_back c n f s.head f.body 0 (λ j i g.
    let there : j ≡ 0 + j = omega arith in
    subst (λ z. IsTrue (passes (here c f z) i)) there (s.instructions j i g))

-- ---- the code

some_main : (fs : List RawFunction) → main_problem fs ≡ None → 0 < length fs
some_main [] h = cc
some_main (f ∷ fs) h = omega arith

main_there : (fs : List RawFunction) → 0 < length fs → main_problem fs ≡ None
main_there [] l = absurd (omega (arith, l))
main_there (f ∷ fs) l = refl

pub verified_is_sound : (code : RawCode) → IsVerified code → IsSound code
verified_is_sound code h =
    let both = fault_none 0 0 (main_problem code.functions) (functions_fault code 0 code.functions) h in
    record {
      some_function = some_main code.functions both.0;
      functions = λ n f g.
          let there : 0 + n ≡ n = omega arith in
          function_ok code n f (subst (λ z. function_fault code z f ≡ None) there (functions_ok code code.functions 0 both.1 n f g));
    }

pub sound_is_verified : (code : RawCode) → IsSound code → IsVerified code
sound_is_verified code s =
    ap (λ o. fault_if_any 0 0 o (functions_fault code 0 code.functions)) (main_there code.functions s.some_function)
    ∙ functions_back code code.functions 0 (λ n f g.
    let there : n ≡ 0 + n = omega arith in
    subst (λ z. function_fault code z f ≡ None) there (function_back code n f (s.functions n f g)))
