-- The registers that verified code names are among those that a function has.
use Rattle.std.proofs.Common.{◌≡◌, ℕ, zero, suc, ◌<◌, ◌≤◌, List, [], ◌∷◌, length, get_or, Option}
use Rattle.std.proofs.Common.{Some, None, Bool, true, false, ◌&&◌, ◌||◌, refl, sym, subst, arith}
use Rattle.std.specs.Prelude.{map, if◌then◌else◌}
use Rattle.std.specs.List.{list_all, slice_get}
use Rattle.std.proofs.lemmas.Bool.{ltb-true, and_parts}
use Rattle.std.proofs.lemmas.Option.{none-some, same_Some}
use Rattle.bytecode.specs.declared.instruction.Register.{Register}
use Rattle.bytecode.specs.Raw.{Raw, RawFunction, RawCode}
use Rattle.bytecode.specs.Raw as raw
use Rattle.verified_code.specs.Fitting.{Here, is_none, is_there, names_there, operands_fit, target_fits, goes_on}
use Rattle.verified_code.specs.InMemory.{steps_of, step_at}
use Rattle.verified_code.specs.Settled.{result_at, settle, settled, settled_function}
use Rattle.verified_code.specs.Sound.{passes}
use Rattle.verified_code.specs.Steps.{Function, Step}
use Rattle.verified_code.specs.Verified.{IsVerified, here}
use Rattle.verified_code.proofs.Sound.{verified_is_sound}
use Rattle.named_values.specs.Machine.{kinds_of}
use Rattle.code_machine.specs.Standing.{AreBelow, AreThere, HasAny, kinds_at}

-- what a mapped list has at a place comes from there
unmapped : {A B : Type 0} (g : A → B) (xs : List A) (k : ℕ) (y : B) → slice_get (map g xs) k ≡ Some y → (x : A) × (slice_get xs k ≡ Some x) × (g x ≡ y)
unmapped g [] k y e = absurd (none-some _ e)
unmapped g (x ∷ xs) zero y e = (x, refl, same_Some _ _ e)
unmapped g (x ∷ xs) (suc k) y e = unmapped g xs k y e

module _ (h : Here) (n : ℕ) (enough : length h.own.registers ≤ n) where
  abbrev there : ℕ → Bool
  there = is_there h.own.registers

  one : (r : ℕ) → there r ≡ true → r < n
  one r t = let l = ltb-true r (length h.own.registers) t in omega (arith, l, enough)

  two : (r s : ℕ) → (there r && there s) ≡ true → (r < n) × (s < n)
  two r s t = let p = and_parts (there r) (there s) t in (one r p.0, one s p.1)

  three : (r s u : ℕ) → (there r && there s && there u) ≡ true → (r < n) × (s < n) × (u < n)
  three r s u t = let p = and_parts (there r && there s) (there u) t in let q = two r s p.0 in (q.0, q.1, one u p.1)

  all : (rs : List ℕ) → list_all there rs ≡ true → AreBelow n rs
  all [] t = tt
  all (r ∷ rs) t = let p = and_parts (there r) (list_all there rs) t in (one r p.0, all rs p.1)

  any : (d : ℕ) → (is_none d || there d) ≡ true → HasAny n (result_at d)
  any d t = go (is_none d) t
    where
      go : (b : Bool) → (b || there d) ≡ true → HasAny n (if b then None else Some d)
      go true t = tt
      go false t = one d t

  named : (i : Raw) → names_there h i ≡ true → AreThere n (settle h.code.names h.own.registers i)
  named (raw.Literal d x) t = one d t
  named (raw.Move d r) t = two d r t
  named (raw.Store d r) t = two d r t
  named (raw.Binary o d a b line) t = three d a b t
  named (raw.Not d r) t = two d r t
  named (raw.Cast d r) t = two d r t
  named (raw.Classify d r) t = two d r t
  named (raw.Fill d k x line) t = three d k x t
  named (raw.At d a i line) t = three d a i t
  named (raw.Put a i x line) t = three a i x t
  named (raw.Size d r) t = two d r t
  named (raw.Cat d a b line) t = three d a b t
  named (raw.Sum d r) t = two d r t
  named (raw.Bits d r line) t = two d r t
  named (raw.Lookup d a i line) t = three d a i t
  named (raw.Declassify d r) t = two d r t
  named (raw.Argument d name line) t = one d (and_parts (there d) (is_there h.code.names name) t).0
  named (raw.Publish name r) t = one r (and_parts (is_there h.code.names name) (there r) t).1
  named (raw.Assert r line) t = one r t
  named (raw.Branch r v target) t = one r t
  named (raw.Jump target) t = tt
  named (raw.Call f d rs line) t =
      let p = and_parts (is_there h.code.functions f && (is_none d || there d)) (list_all there rs) t in
      (any d (and_parts (is_there h.code.functions f) (is_none d || there d) p.0).1, all rs p.1)
  named (raw.Return r) t = one r t
  named raw.ReturnNone t = tt

named-first : (h : Here) (i : Raw) → passes h i ≡ true → names_there h i ≡ true
named-first h i t =
    let a = and_parts (names_there h i && operands_fit h i && target_fits h i) (goes_on h i) t in
    let b = and_parts (names_there h i && operands_fit h i) (target_fits h i) a.0 in
    (and_parts (names_there h i) (operands_fit h i) b.0).0

-- the step of a place names registers that are there, where there is one for each kind of the function
pub step-there : (code : RawCode) → IsVerified code → (function place n : ℕ) → length (kinds_at code function) ≤ n → (i : Step)
    → step_at code function place ≡ Some i
    → AreThere n i
step-there code v function place n = go (slice_get (settled code) function) refl
  where
    at : (f : RawFunction) → slice_get code.functions function ≡ Some f → (i : Step) → slice_get (settled_function code.names f).steps place ≡ Some i
        → length f.registers ≤ n → AreThere n i
    at f e i s l =
        let u = unmapped (settle code.names f.registers) f.body place i s in
        let t = ((verified_is_sound code v).functions function f e).instructions place u.0 u.1 in
        subst (AreThere n) u.2 (named (here code f place) n l u.0 (named-first (here code f place) u.0 t))

    go : (o : Option Function) → slice_get (settled code) function ≡ o → length (kinds_of o) ≤ n → (i : Step) → slice_get (steps_of o) place
        ≡ Some i → AreThere n i
    go None e l i s = absurd (none-some _ s)
    go (Some g) e l i s =
        let u = unmapped (settled_function code.names) code.functions function g e in
        at u.0 u.1 i (subst (λ (z : Function). slice_get z.steps place ≡ Some i) (sym u.2) s) (subst (λ (z : Function). length z.kinds ≤ n) (sym u.2) l)

-- each of these registers is there
pub argument-there : (n : ℕ) (rs : List Register) (i : ℕ) (d : Register) → AreBelow n (map (λ r. r.0) rs) → i < length rs → (get_or rs i d).0 < n
argument-there n [] i d h l = absurd (omega (arith, l))
argument-there n (r ∷ rs) zero d h l = h.0
argument-there n (r ∷ rs) (suc i) d h l = argument-there n rs i d h.1 (omega (arith, l))
