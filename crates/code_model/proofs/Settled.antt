-- The steps of verified code fit, so that its registers keep their kinds.
use Rattle.std.proofs.Common.{◌≡◌, ℕ, zero, suc, ◌+◌, ◌<◌, ◌==◌, List, [], ◌∷◌, length, Option, Some, None, Bool, true, false, not, ◌&&◌, ◌||◌, refl, sym, ap}
use Rattle.std.proofs.Common.{◌∙◌, subst, arith}
use Rattle.std.specs.Prelude.{slice_get, unwrap_or, map, take, nat_lt, nat_le, if◌then◌else◌}
use Rattle.std.specs.List.{list_all}
use Rattle.std.proofs.lemmas.Bool.{ltb-true, and_parts}
use Rattle.std.proofs.lemmas.List.{length-map}
use Rattle.std.proofs.lemmas.Option.{slice_get-get_or, none-some, same_Some}
use Rattle.program_trees.specs.declared.expression.DataType.{DataType}
use Rattle.program_trees.specs.declared.expression.DataType.TheVariants.{Uint64, Int64}
use Rattle.program_trees.specs.declared.expression.DataType.TheVariants as datatype
use Rattle.program_trees.specs.Operators.{element_made, operands_of}
use Rattle.program_trees.specs.declared.operators.BinaryOperator.{BinaryOperator}
use Rattle.blind_evaluation.specs.Operations.{result_shape}
use Rattle.bytecode.specs.declared.kind.Kind.{Kind}
use Rattle.bytecode.specs.Raw.{Raw, RawFunction, RawCode}
use Rattle.bytecode.specs.Raw as raw
use Rattle.verified_code.specs.Steps.{Step, Function}
use Rattle.verified_code.specs.Steps as steps
use Rattle.verified_code.specs.Fitting as fitting
use Rattle.verified_code.specs.Verified.{here}
use Rattle.verified_code.specs.Settled.{settle, settled_function, settled, result_at}
use Rattle.verified_code.specs.Sound.{passes, IsSoundFunction, IsSound}
use Rattle.code_model.specs.Meaning.{AreForward}
use Rattle.code_model.specs.Kinds.{kind_of}
use Rattle.code_model.specs.Kinded.{left_array, right_array, HasKind, ArgumentsHave}
use Rattle.code_model.specs.Kinded.{ResultFits, StepFits, is_return, IsFitting, IsIn}

clash : false ≡ true → ⊥
clash h = cc

three_parts : (a b d : Bool) → (a && b && d) ≡ true → (a ≡ true) × (b ≡ true) × (d ≡ true)
three_parts a b d h =
    let two = and_parts (a && b) d h in
    let one = and_parts a b two.0 in
    (one.0, one.1, two.1)

four_parts : (a b d e : Bool) → (a && b && d && e) ≡ true → (a ≡ true) × (b ≡ true) × (d ≡ true) × (e ≡ true)
four_parts a b d e h =
    let two = and_parts (a && b && d) e h in
    let one = three_parts a b d two.0 in
    (one.0, one.1, one.2, two.1)

-- ---- KINDS

truths : (a b : Bool) → fitting.same_truth a b ≡ true → a ≡ b
truths true true h = refl
truths true false h = absurd (clash h)
truths false true h = absurd (clash h)
truths false false h = refl

elements : (a b : DataType) → fitting.same_element a b ≡ true → a ≡ b
elements Uint64 Uint64 h = refl
elements Uint64 Int64 h = absurd (clash h)
elements Uint64 datatype.Bool h = absurd (clash h)
elements Int64 Uint64 h = absurd (clash h)
elements Int64 Int64 h = refl
elements Int64 datatype.Bool h = absurd (clash h)
elements datatype.Bool Uint64 h = absurd (clash h)
elements datatype.Bool Int64 h = absurd (clash h)
elements datatype.Bool datatype.Bool h = refl

kinds_same : (k l : Kind) → fitting.same_kind k l ≡ true → k ≡ l
kinds_same k l h =
    let m = three_parts (fitting.same_truth k.secret l.secret) (fitting.same_element k.element l.element) (fitting.same_truth k.array l.array) h in
    ap (λ z. record { secret = z; element = k.element; array = k.array }) (truths k.secret l.secret m.0)
    ∙ ap (λ z. record { secret = l.secret; element = z; array = k.array }) (elements k.element l.element m.1)
    ∙ ap (λ z. record { secret = l.secret; element = l.element; array = z }) (truths k.array l.array m.2)

has : (ks : List Kind) (r : ℕ) → fitting.is_there ks r ≡ true → HasKind ks r (fitting.kind_at ks r)
has ks r h =
    let e = slice_get-get_or ks r (fitting.public_scalar Uint64) (ltb-true r (length ks) h) in
    e ∙ ap Some (sym (ap (λ o. unwrap_or o (fitting.public_scalar Uint64)) e))

has_as : (ks : List Kind) (r : ℕ) (k : Kind) → fitting.is_there ks r ≡ true → fitting.same_kind (fitting.kind_at ks r) k ≡ true → HasKind ks r k
has_as ks r k h e = has ks r h ∙ ap Some (kinds_same (fitting.kind_at ks r) k e)

left_is : (p q : Bool) → p ≡ left_array (operands_of p q)
left_is false false = refl
left_is true false = refl
left_is false true = refl
left_is true true = refl

right_is : (p q : Bool) → q ≡ right_array (operands_of p q)
right_is false false = refl
right_is true false = refl
right_is false true = refl
right_is true true = refl

result_is : (op : BinaryOperator) (s p q : Bool) → ◌≡◌ {A = Kind} (record { secret = s; element = element_made op; array = p || q })
    (kind_of s (result_shape op (operands_of p q)))
result_is op s false false = refl
result_is op s true false = refl
result_is op s false true = refl
result_is op s true true = refl

-- ---- LISTS

mapped : {A B : Type 0} (g : A → B) (xs : List A) (k : ℕ) (x : A) → slice_get xs k ≡ Some x → slice_get (map g xs) k ≡ Some (g x)
mapped g [] k x e = absurd (none-some _ e)
mapped g (y ∷ ys) zero x e = ap (λ z. Some (g z)) (same_Some _ _ e)
mapped g (y ∷ ys) (suc k) x e = mapped g ys k x e

unmapped : {A B : Type 0} (g : A → B) (xs : List A) (k : ℕ) (y : B) → slice_get (map g xs) k ≡ Some y → (x : A) × (slice_get xs k ≡ Some x) × (g x ≡ y)
unmapped g [] k y e = absurd (none-some _ e)
unmapped g (x ∷ xs) zero y e = (x, refl, same_Some _ _ e)
unmapped g (x ∷ xs) (suc k) y e = unmapped g xs k y e

arguments_have : (kinds : List Kind) (rs : List ℕ) (ks : List Kind) (n : ℕ) → list_all (fitting.is_there kinds) rs ≡ true → fitting.arguments_fit kinds rs
    (take n ks) ≡ true → ArgumentsHave kinds rs ks
arguments_have kinds [] ks n t h = tt
arguments_have kinds (r ∷ rs) [] zero t h = absurd (clash h)
arguments_have kinds (r ∷ rs) [] (suc n) t h = absurd (clash h)
arguments_have kinds (r ∷ rs) (k ∷ ks) zero t h = absurd (clash h)
arguments_have kinds (r ∷ rs) (k ∷ ks) (suc n) t h =
    let t2 = and_parts (fitting.is_there kinds r) (list_all (fitting.is_there kinds) rs) t in
    let h2 = and_parts (fitting.same_kind (fitting.kind_at kinds r) k) (fitting.arguments_fit kinds rs (take n ks)) h in
    (has_as kinds r k t2.0 h2.0, arguments_have kinds rs ks n t2.1 h2.1)

other_one : (a b : Bool) → a ≡ false → (a || b) ≡ true → b ≡ true
other_one a b e h = sym (ap (λ z. z || b) e) ∙ h

result_fits : (kinds : List Kind) (d : ℕ) (given : Option Kind) → (fitting.is_none d || fitting.is_there kinds d) ≡ true
    → (fitting.is_none d || fitting.gives_fits given (fitting.kind_at kinds d)) ≡ true → ResultFits kinds (result_at d) given
result_fits kinds d given t h = go (fitting.is_none d) refl
  where
    some : (g : Option Kind) → fitting.is_there kinds d ≡ true → fitting.gives_fits g (fitting.kind_at kinds d) ≡ true → ResultFits kinds (Some d) g
    some None t h = absurd (clash h)
    some (Some k) t h = (k, refl, has_as kinds d k t h)

    go : (b : Bool) → fitting.is_none d ≡ b → ResultFits kinds (if b then None else Some d) given
    go true e = tt
    go false e = some given (other_one (fitting.is_none d) (fitting.is_there kinds d) e t)
        (other_one (fitting.is_none d) (fitting.gives_fits given (fitting.kind_at kinds d)) e h)

-- ---- STEPS

module _ (c : RawCode) (f : RawFunction) (place : ℕ) where
  abbrev own : Function
  own = settled_function c.names f

  abbrev ks : List Kind
  ks = f.registers

  abbrev its_kind : ℕ → Kind
  its_kind = fitting.kind_at f.registers

  abbrev at : fitting.Here
  at = here c f place

  two_there : (d r : ℕ) → (fitting.is_there ks d && fitting.is_there ks r) ≡ true → (fitting.is_there ks d ≡ true) × (fitting.is_there ks r ≡ true)
  two_there d r h = and_parts (fitting.is_there ks d) (fitting.is_there ks r) h

  three_there : (d a b : ℕ) → (fitting.is_there ks d && fitting.is_there ks a && fitting.is_there ks b) ≡ true → (fitting.is_there ks d ≡ true)
      × (fitting.is_there ks a ≡ true) × (fitting.is_there ks b ≡ true)
  three_there d a b h = three_parts (fitting.is_there ks d) (fitting.is_there ks a) (fitting.is_there ks b) h

  call_fits : (g d : ℕ) (args : List ℕ) (o : Option RawFunction) → slice_get c.functions g ≡ o → (fitting.is_none d || fitting.is_there ks d) ≡ true
      → list_all (fitting.is_there ks) args ≡ true → fitting.call_fits ks o d args ≡ true
      → (h : Function) × (slice_get (settled c) g ≡ Some h) × ArgumentsHave ks args h.kinds × ResultFits ks (result_at d) h.gives
  call_fits g d args None e t l h = absurd (clash h)
  call_fits g d args (Some r) e t l h =
      let m = four_parts (nat_le r.parameters (length r.registers)) (length args == r.parameters)
      (fitting.arguments_fit ks args (take r.parameters r.registers)) (fitting.is_none d || fitting.gives_fits r.gives (its_kind d)) h in (
        settled_function c.names r,
        mapped (settled_function c.names) c.functions g r e,
        arguments_have ks args r.registers r.parameters l m.2,
        result_fits ks
            d r.gives t m.3,
      )

  gives_this : (g : Option Kind) (r : ℕ) → fitting.is_there ks r ≡ true → fitting.gives_fits g (its_kind r) ≡ true → (k : Kind) × (g ≡ Some k) × HasKind ks r k
  gives_this None r t h = absurd (clash h)
  gives_this (Some k) r t h = (k, refl, has_as ks r k t h)

  gives_nothing : (g : Option Kind) → fitting.gives_none g ≡ true → g ≡ None
  gives_nothing None h = refl
  gives_nothing (Some k) h = absurd (clash h)

  step_fits : (i : Raw) → fitting.names_there at i ≡ true → fitting.operands_fit at i ≡ true → fitting.target_fits at i ≡ true → StepFits (settled c) own
      (settle c.names ks i)
  step_fits (raw.Literal d x) n o t = has_as ks d _ n (and_parts (fitting.same_kind (its_kind d) (fitting.public_scalar (its_kind d).element))
      (fitting.may_be_literal (its_kind d).element x) o).0
  step_fits (raw.Move d r) n o t = let m = two_there d r n in (its_kind r, has ks r m.1, has_as ks d (its_kind r) m.0 o)
  step_fits (raw.Store d r) n o t = let m = two_there d r n in (its_kind r, has ks r m.1, has_as ks d (its_kind r) m.0 o)
  step_fits (raw.Binary q d a b line) n o t =
      let m = three_there d a b n in
      let op = fitting.operator_at (its_kind a).element q in
      let last = fitting.same_kind (its_kind d) (fitting.result_kind op (its_kind a) (its_kind b)) in
      let secrecy = fitting.secrecy_fits op (its_kind a).secret (its_kind b).secret in
      let four = four_parts (fitting.same_element (its_kind a).element (its_kind b).element) (fitting.operator_exists (its_kind a).element q) secrecy last o
      in (
        its_kind a,
        its_kind b,
        has ks a m.1,
        has ks b m.2,
        left_is (its_kind a).array (its_kind b).array,
        right_is (its_kind a).array (its_kind b).array,
        has_as ks d _ m.0 four.3 ∙ ap Some
            (result_is op ((its_kind a).secret || (its_kind b).secret) (its_kind a).array (its_kind b).array),
      )
  step_fits (raw.Not d r) n o t = let m = two_there d r n
      in (
        its_kind r,
        has ks r m.1,
        has_as ks d (its_kind r) m.0 (and_parts (fitting.same_kind (its_kind d) (its_kind r))
            (fitting.is_truth (its_kind r).element) o).0,
      )
  step_fits (raw.Cast d r) n o t =
      let m = two_there d r n in
      let two = and_parts (fitting.same_truth (its_kind d).secret (its_kind r).secret) (fitting.same_truth (its_kind d).array (its_kind r).array) o in (
        (its_kind r).secret,
        (its_kind r).array,
        has ks r m.1,
        has ks d m.0 ∙ ap (λ z. Some (record { secret = z; element = (its_kind d).element; array = (its_kind d).array }))
            (truths (its_kind d).secret (its_kind r).secret two.0)
            ∙ ap (λ z. Some (record { secret = (its_kind r).secret; element = (its_kind d).element; array = z }))
            (truths (its_kind d).array (its_kind r).array two.1),
      )
  step_fits (raw.Classify d r) n o t = let m = two_there d r n
      in (
        its_kind r,
        has ks r m.1,
        has_as ks d _ m.0 (and_parts (not (its_kind r).secret) (fitting.same_kind (its_kind d) (fitting.private_as (its_kind r)))
            o).1,
      )
  step_fits (raw.Fill d q x line) n o t =
      let m = three_there d q x n in
      let last = fitting.same_kind (its_kind d) (fitting.array_of (its_kind x)) in (
        its_kind x,
        has ks x m.2,
        has_as ks d _ m.0 (three_parts (fitting.same_kind (its_kind q) (fitting.public_scalar Uint64)) (not (its_kind x).array) last
            o).2,
      )
  step_fits (raw.At d a i line) n o t =
      let m = three_there d a i n in
      let last = fitting.same_kind (its_kind d) (fitting.element_of (its_kind a)) in
      (its_kind a, has ks a m.1, has_as ks d _ m.0 (three_parts (its_kind a).array (fitting.same_kind (its_kind i) (fitting.public_scalar Uint64)) last o).2)
  step_fits (raw.Put a i x line) n o t =
      let m = three_there a i x n in (
        its_kind a,
        has ks a m.0,
        (three_parts (its_kind a).array (fitting.same_kind (its_kind i) (fitting.public_scalar Uint64))
            (fitting.same_kind (its_kind x) (fitting.element_of (its_kind a))) o).0,
      )
  step_fits (raw.Size d r) n o t = let m = two_there d r n in has_as ks d _ m.0
      (and_parts (its_kind r).array (fitting.same_kind (its_kind d) (fitting.public_scalar Uint64)) o).1
  step_fits (raw.Cat d a b line) n o t =
      let m = three_there d a b n in
      let parts = three_parts (its_kind d).array (fitting.same_kind (its_kind a) (its_kind d)) (fitting.same_kind (its_kind b) (its_kind d)) o in
      (its_kind d, has_as ks a (its_kind d) m.1 parts.1, has_as ks b (its_kind d) m.2 parts.2, parts.0, has ks d m.0)
  step_fits (raw.Sum d r) n o t =
      let m = two_there d r n in
      let last = fitting.same_kind (its_kind d) (fitting.element_of (its_kind r)) in
      (its_kind r, has ks r m.1, has_as ks d _ m.0 (three_parts (its_kind r).array (fitting.is_number (its_kind r).element) last o).2)
  step_fits (raw.Bits d r line) n o t = let m = two_there d r n
      in (
        its_kind r,
        has ks r m.1,
        has_as ks d _ m.0 (and_parts (fitting.is_unsigned (its_kind r).element)
            (fitting.same_kind (its_kind d) (fitting.bits_of (its_kind r))) o).1,
      )
  step_fits (raw.Lookup d a i line) n o t =
      let m = three_there d a i n in
      let k = its_kind a in
      let l = its_kind i in
      let before = k.secret && k.array && fitting.is_number k.element && l.secret && fitting.is_unsigned l.element in
      (k, l, has ks a m.1, has ks i m.2, has_as ks d _ m.0 (and_parts before (fitting.same_kind (its_kind d) (fitting.looked_up_of k l)) o).1)
  step_fits (raw.Declassify d r) n o t = let m = two_there d r n in (its_kind r, has ks r m.1, has_as ks d _ m.0 o)
  step_fits (raw.Argument d name line) n o t = has ks d (and_parts (fitting.is_there ks d) (fitting.is_there c.names name) n).0
  step_fits (raw.Publish name r) n o t = tt
  step_fits (raw.Assert r line) n o t = tt
  step_fits (raw.Branch r v target) n o t = let l = ltb-true target (length f.body) t in omega (arith, l, length-map f.body (settle c.names ks))
  step_fits (raw.Jump target) n o t =
      let l = ltb-true target (length f.body) (and_parts (nat_lt place target) (nat_lt target (length f.body)) t).1 in
      omega (arith, l, length-map f.body (settle c.names ks))
  step_fits (raw.Call g d args line) n o t =
      let parts = three_parts (fitting.is_there c.functions g) (fitting.is_none d || fitting.is_there ks d) (list_all (fitting.is_there ks) args) n in
      call_fits g d args (slice_get c.functions g) refl parts.1 parts.2 o
  step_fits (raw.Return r) n o t = gives_this f.gives r n o
  step_fits raw.ReturnNone n o t = gives_nothing f.gives o

  return_same : (i : Raw) → is_return (settle c.names ks i) ≡ fitting.is_return i
  return_same (raw.Literal d x) = refl
  return_same (raw.Move d r) = refl
  return_same (raw.Store d r) = refl
  return_same (raw.Binary q d a b line) = refl
  return_same (raw.Not d r) = refl
  return_same (raw.Cast d r) = refl
  return_same (raw.Classify d r) = refl
  return_same (raw.Fill d q x line) = refl
  return_same (raw.At d a i line) = refl
  return_same (raw.Put a i x line) = refl
  return_same (raw.Size d r) = refl
  return_same (raw.Cat d a b line) = refl
  return_same (raw.Sum d r) = refl
  return_same (raw.Bits d r line) = refl
  return_same (raw.Lookup d a i line) = refl
  return_same (raw.Declassify d r) = refl
  return_same (raw.Argument d name line) = refl
  return_same (raw.Publish name r) = refl
  return_same (raw.Assert r line) = refl
  return_same (raw.Branch r v target) = refl
  return_same (raw.Jump target) = refl
  return_same (raw.Call g d args line) = refl
  return_same (raw.Return r) = refl
  return_same raw.ReturnNone = refl

-- what passes fits, and goes on
passed : (c : RawCode) (f : RawFunction) (place : ℕ) (i : Raw) → passes (here c f place) i ≡ true → StepFits (settled c) (settled_function c.names f)
    (settle c.names f.registers i) × (fitting.goes_on (here c f place) i ≡ true)
passed c f place i h =
    let at = here c f place in
    let m = four_parts (fitting.names_there at i) (fitting.operands_fit at i) (fitting.target_fits at i) (fitting.goes_on at i) h in
    (step_fits c f place i m.0 m.1 m.2, m.3)

function_fits : (c : RawCode) (number : ℕ) (f : RawFunction) → IsSoundFunction c number f → IsFitting (settled c) (settled_function c.names f)
function_fits c number f sound =
    let length_same = length-map f.body (settle c.names f.registers) in
    record {
      some = omega (arith, sound.some_instruction, length_same);
      fits = λ place i e. let x = unmapped (settle c.names f.registers) f.body place i e in subst (StepFits (settled c) (settled_function c.names f)) x.2
          (passed c f place x.0 (sound.instructions place x.0 x.1)).0;
      goes_on = λ place i e r.
          let x = unmapped (settle c.names f.registers) f.body place i e in
          let last = sym (return_same c f place x.0) ∙ ap is_return x.2 ∙ r in
          let l = ltb-true (place + 1) (length f.body) (other_one (fitting.is_return x.0) (nat_lt (place + 1) (length f.body)) last
          (passed c f place x.0 (sound.instructions place x.0 x.1)).1) in
          omega (arith, l, length_same);
    }

pub sound_fits : (c : RawCode) → IsSound c → (f : Function) → IsIn (settled c) f → IsFitting (settled c) f
sound_fits c sound f there =
    let x = unmapped (settled_function c.names) c.functions there.0 f there.1 in
    subst (IsFitting (settled c)) x.2 (function_fits c there.0 x.0 (sound.functions there.0 x.0 x.1))

-- ---- JUMPS

abbrev LeadsOn : ℕ → Step → Type 0
LeadsOn place (steps.Jump target) = place < target
LeadsOn place i = Unit {0}

leads_on : (c : RawCode) (f : RawFunction) (place : ℕ) (i : Raw) → fitting.target_fits (here c f place) i ≡ true → LeadsOn place (settle c.names f.registers i)
leads_on c f place (raw.Jump target) t = ltb-true place target (and_parts (nat_lt place target) (nat_lt target (length f.body)) t).0
leads_on c f place (raw.Literal d x) t = tt
leads_on c f place (raw.Move d r) t = tt
leads_on c f place (raw.Store d r) t = tt
leads_on c f place (raw.Binary q d a b line) t = tt
leads_on c f place (raw.Not d r) t = tt
leads_on c f place (raw.Cast d r) t = tt
leads_on c f place (raw.Classify d r) t = tt
leads_on c f place (raw.Fill d q x line) t = tt
leads_on c f place (raw.At d a i line) t = tt
leads_on c f place (raw.Put a i x line) t = tt
leads_on c f place (raw.Size d r) t = tt
leads_on c f place (raw.Cat d a b line) t = tt
leads_on c f place (raw.Sum d r) t = tt
leads_on c f place (raw.Bits d r line) t = tt
leads_on c f place (raw.Lookup d a i line) t = tt
leads_on c f place (raw.Declassify d r) t = tt
leads_on c f place (raw.Argument d name line) t = tt
leads_on c f place (raw.Publish name r) t = tt
leads_on c f place (raw.Assert r line) t = tt
leads_on c f place (raw.Branch r v target) t = tt
leads_on c f place (raw.Call g d args line) t = tt
leads_on c f place (raw.Return r) t = tt
leads_on c f place raw.ReturnNone t = tt

pub sound_forward : (c : RawCode) → IsSound c → AreForward (settled c)
sound_forward c sound g f e pc target j =
    let x = unmapped (settled_function c.names) c.functions g f e in
    let y = unmapped (settle c.names x.0.registers) x.0.body pc (steps.Jump target) (ap (λ z. slice_get z.steps pc) x.2 ∙ j) in
    let at = here c x.0 pc in
    let m = four_parts (fitting.names_there at y.0) (fitting.operands_fit at y.0) (fitting.target_fits at y.0) (fitting.goes_on at y.0)
    ((sound.functions g x.0 x.1).instructions pc y.0 y.1) in
    subst (LeadsOn pc) y.2 (leads_on c x.0 pc y.0 m.2)
