-- The names of code: none stands twice, each is one of a step, and there are no more than the steps have.
use Rattle.std.proofs.Common.{◌≡◌, ℕ, zero, suc, ◌+◌, ◌≤◌, List, [], ◌∷◌, ◌++◌, length, Some, Bool, true, false, cond, not, ◌&&◌, ◌||◌, refl, arith}
use Rattle.std.specs.Prelude.{slice_get, IsTrue}
use Rattle.std.specs.List.{AllByRecursion as Each, flat_map, list_any}
use Rattle.std.specs.Str.{bytes_eq}
use Rattle.std.proofs.Common.{length-append}
use Rattle.std.proofs.lemmas.Bool.{and_parts}
use Rattle.sc_text.specs.Name.{is_name, IsName}
use Rattle.bytecode.specs.Writable.{is_new_name, AreNewNames}
use Rattle.verified_code.specs.Steps.{Function}
use Rattle.lowered_code.specs.Instructions.{function_names, naming, naming_all, names_of}

-- ---- LISTS

pub each_joined : {A : Type 0} (P : A → Type 0) (a b : List A) → Each P a → Each P b → Each P (a ++ b)
each_joined P [] b h k = k
each_joined P (x ∷ a) b h k = (h.0, each_joined P a b h.1 k)

pub each_of : {A B : Type 0} (P : B → Type 0) (g : A → List B) (xs : List A) → ((k : ℕ) (x : A) → slice_get xs k ≡ Some x → Each P (g x))
    → Each P (flat_map g xs)
each_of P g [] h = tt
each_of P g (x ∷ xs) h = each_joined P (g x) (flat_map g xs) (h zero x refl) (each_of P g xs (λ k y e. h (suc k) y e))

both_true : {a b : Bool} → IsTrue a → IsTrue b → IsTrue (a && b)
both_true {a = true} h k = k
both_true {a = false} h k = cc

either_false : (a b : Bool) → (a || b) ≡ false → (a ≡ false) × (b ≡ false)
either_false true b h = cc
either_false false b h = (refl, h)

neither : {a b : Bool} → a ≡ false → b ≡ false → (a || b) ≡ false
neither {a = true} h k = cc
neither {a = false} h k = k

is_new : (earlier : List (List ℕ)) (text : List ℕ) → IsName text → list_any (bytes_eq text) earlier ≡ false → IsTrue (is_new_name earlier text)
is_new earlier text h k = both_true h (not_true k)
  where
    not_true : {b : Bool} → b ≡ false → IsTrue (not b)
    not_true {b = true} e = cc
    not_true {b = false} e = refl

-- ---- NEW NAMES

behind_new : (earlier names : List (List ℕ)) (text : List ℕ) → AreNewNames earlier names → IsName text → list_any (bytes_eq text) earlier ≡ false
    → list_any (bytes_eq text) names ≡ false
    → AreNewNames earlier (names ++ text ∷ [])
behind_new earlier [] text h n e f = (is_new earlier text n e, tt)
behind_new earlier (name ∷ names) text h n e f =
    let parts = either_false (bytes_eq text name) (list_any (bytes_eq text) names) f in
    (h.0, behind_new (name ∷ earlier) names text h.1 n (neither parts.0 e) parts.1)

one_new : (names : List (List ℕ)) (text : List ℕ) → AreNewNames [] names → IsName text → AreNewNames [] (naming names text)
one_new names text h n = go (list_any (bytes_eq text) names) refl
  where
    go : (b : Bool) → list_any (bytes_eq text) names ≡ b → AreNewNames [] (cond b names (names ++ text ∷ []))
    go true e = h
    go false e = behind_new [] names text h n refl e

all_new : (names texts : List (List ℕ)) → AreNewNames [] names → Each IsName texts → AreNewNames [] (naming_all names texts)
all_new names [] h n = h
all_new names (text ∷ texts) h n = all_new (naming names text) texts (one_new names text h n.0) n.1

one_more : (names : List (List ℕ)) (text : List ℕ) → length (naming names text) ≤ length names + 1
one_more names text = go (list_any (bytes_eq text) names)
  where
    go : (b : Bool) → length (cond b names (names ++ text ∷ [])) ≤ length names + 1
    go true = omega arith
    go false = let e = length-append names (text ∷ []) in omega (arith, e)

no_more : (names texts : List (List ℕ)) → length (naming_all names texts) ≤ length names + length texts
no_more names [] = omega arith
no_more names (text ∷ texts) =
    let one = one_more names text in
    let rest = no_more (naming names text) texts in
    omega (arith, one, rest)

pub each_name : (earlier names : List (List ℕ)) → AreNewNames earlier names → Each IsName names
each_name earlier [] h = tt
each_name earlier (name ∷ names) h =
    ((and_parts (is_name name) (not (list_any (bytes_eq name) earlier)) h.0).0, each_name (name ∷ earlier) names h.1)

-- ---- CODE

pub code_names : (c : List Function) → Each IsName (flat_map function_names c) → AreNewNames [] (names_of c)
code_names c h = all_new [] (flat_map function_names c) tt h

pub few_names : (c : List Function) → length (names_of c) ≤ length (flat_map function_names c)
few_names c = let e = no_more [] (flat_map function_names c) in omega (arith, e)
