-- Instructions that stand at a place of the code, and registers.
use Rattle.std.proofs.Common.{◌≡◌, ◌≢◌, ℕ, ◌+◌, ◌<◌, List, [], ◌∷◌, ◌++◌, length, Option, Some, None, Bool, true, false, cond, refl, sym}
use Rattle.std.proofs.Common.{ap, ◌∙◌, subst, arith, append_assoc, length-append}
use Rattle.std.specs.Prelude.{slice_get, nat_eq}
use Rattle.std.proofs.Math.Seq.{get_or-append_seam}
use Rattle.std.proofs.lemmas.Bool.{eqb-true, eqb-false}
use Rattle.std.proofs.lemmas.Option.{slice_get-get_or}
use Rattle.blind_evaluation.specs.Values.{Value}
use Rattle.blind_evaluation.specs.Evaluation.{Frame, put}
use Rattle.verified_code.specs.Steps.{Step}
use Rattle.code_model.specs.Machine.{received}

-- these steps stand there
abbrev pub HasAt : List Step → ℕ → List Step → Type 0
HasAt code pc [] = Unit {0}
HasAt code pc (i ∷ is) = (slice_get code pc ≡ Some i) × HasAt code (pc + 1) is

pub has_front : (code : List Step) (pc : ℕ) (a b : List Step) → HasAt code pc (a ++ b) → HasAt code pc a
has_front code pc [] b h = tt
has_front code pc (i ∷ a) b h = (h.0, has_front code (pc + 1) a b h.1)

pub has_back : (code : List Step) (pc : ℕ) (a b : List Step) → HasAt code pc (a ++ b) → HasAt code (pc + length a) b
has_back code pc [] b h = let e : pc ≡ pc + 0 = omega arith in subst (λ n. HasAt code n b) e h
has_back code pc (i ∷ a) b h =
    let e : pc + 1 + length a ≡ pc + length (i ∷ a) = omega arith in
    subst (λ n. HasAt code n b) e (has_back code (pc + 1) a b h.1)

pub has_all : (is pre : List Step) → HasAt (pre ++ is) (length pre) is
has_all [] pre = tt
has_all (i ∷ is) pre =
    let within : length pre < length (pre ++ i ∷ is) = omega (arith, length-append pre (i ∷ is)) in
    let here = slice_get-get_or (pre ++ i ∷ is) (length pre) i within ∙ ap Some (get_or-append_seam pre i is i) in
    let n : length (pre ++ i ∷ []) ≡ length pre + 1 = omega (arith, length-append pre (i ∷ [])) in
    let rest = has_all is (pre ++ i ∷ []) in
    let rest' = subst (λ l. HasAt l (length (pre ++ i ∷ [])) is) (append_assoc pre (i ∷ []) is) rest in
    (here, subst (λ m. HasAt (pre ++ i ∷ is) m is) n rest')

pub put_same : (x : ℕ) (v : Value) (fr : Frame) → put x v fr x ≡ v
put_same x v fr = go (nat_eq x x) refl
  where
    go : (b : Bool) → nat_eq x x ≡ b → cond b v (fr x) ≡ v
    go true e = refl
    go false e = absurd (eqb-false x x e refl)

pub put_other : (x i : ℕ) (v : Value) (fr : Frame) → i ≢ x → put x v fr i ≡ fr i
put_other x i v fr h = go (nat_eq i x) refl
  where
    go : (b : Bool) → nat_eq i x ≡ b → cond b v (fr i) ≡ fr i
    go true e = absurd (h (eqb-true i x e))
    go false e = refl

pub put_agrees : (x i : ℕ) (v v' : Value) (fr fr' : Frame) → v ≡ v' → fr i ≡ fr' i → put x v fr i ≡ put x v' fr' i
put_agrees x i v v' fr fr' e f = go (nat_eq i x)
  where
    go : (b : Bool) → cond b v (fr i) ≡ cond b v' (fr' i)
    go true = e
    go false = f

-- what holds of the stored value, and of all that stood there, holds of all after a store
pub put_all : (P : ℕ → Value → Type 0) (x : ℕ) (v : Value) (fr : Frame) → P x v → ((i : ℕ) → P i (fr i)) → (i : ℕ) → P i (put x v fr i)
put_all P x v fr h k i = go (nat_eq i x) refl
  where
    go : (b : Bool) → nat_eq i x ≡ b → P i (cond b v (fr i))
    go true e = subst (λ j. P j v) (sym (eqb-true i x e)) h
    go false e = k i

pub received_agrees : (d : Option ℕ) (i : ℕ) (v : Value) (fr fr' : Frame) → fr i ≡ fr' i → received d v fr i ≡ received d v fr' i
received_agrees None i v fr fr' e = e
received_agrees (Some d) i v fr fr' e = put_agrees d i v v fr fr' refl e

-- the same steps at the same place of the same code
pub stands : (c c' : List Step) (pc pc' : ℕ) (is : List Step) → c' ≡ c → pc' ≡ pc → HasAt c pc is → HasAt c' pc' is
stands c c' pc pc' is e f h = subst (λ z. HasAt z pc' is) (sym e) (subst (λ z. HasAt c z is) (sym f) h)
