-- The steps of verified code fit, and take values that have gates.
use Rattle.std.proofs.Common.{◌≡◌, ℕ, zero, suc, ◌+◌, ◌<◌, ◌^◌, List, [], ◌∷◌, length, map, take, Option, Some, None, Bool, true, false, not, ◌&&◌, ◌||◌}
use Rattle.std.proofs.Common.{refl, sym, ap, ◌∙◌, subst, arith}
use Rattle.std.specs.Prelude.{slice_get, nat_lt, nat_le, ◌==◌, if◌then◌else◌}
use Rattle.std.specs.List.{list_all}
use Rattle.std.proofs.lemmas.Bool.{and_parts, ltb-true}
use Rattle.std.proofs.lemmas.List.{length-map}
use Rattle.program_trees.specs.declared.expression.DataType.{DataType}
use Rattle.program_trees.specs.declared.expression.DataType.TheVariants.{Uint64, Int64}
use Rattle.program_trees.specs.declared.expression.DataType.TheVariants as datatype
use Rattle.program_trees.specs.declared.operators.BinaryOperator.{BinaryOperator}
use Rattle.program_trees.specs.Operators.{element_made, is_product, operands_of, cast_between}
use Rattle.language_model.specs.Operations as row
use Rattle.bytecode.specs.declared.kind.Kind.{Kind}
use Rattle.bytecode.specs.Raw.{Raw, RawFunction, RawCode}
use Rattle.bytecode.specs.Raw as raw
use Rattle.verified_code.specs.Fitting.{Here, is_unsigned, is_truth, is_number, may_be_literal, same_element, same_truth, same_kind, public_scalar, private_as, public_as, element_of, array_of, bits_of, looked_up_of}
use Rattle.verified_code.specs.Fitting.{kind_at, is_there, is_none, operator_at, may_be_private, secrecy_fits, result_kind, gives_fits, gives_none}
use Rattle.verified_code.specs.Fitting.{arguments_fit, call_fits, names_there, operands_fit, target_fits, goes_on}
use Rattle.verified_code.specs.Fitting as fitting
use Rattle.verified_code.specs.Verified.{here}
use Rattle.verified_code.specs.Settled.{settle, settled_function, settled, result_at}
use Rattle.verified_code.specs.Sound.{IsSound}
use Rattle.verified_code.proofs.Sound.{verified_is_sound}
use Rattle.verified_code.specs.Steps.{Step, Function}
use Rattle.code_model.specs.Kinds.{kind_of}
use Rattle.code_model.specs.Kinded.{HasKind, ArgumentsHave, ResultFits, StepFits, is_return, IsFitting, left_array, right_array}
use Rattle.gate_laws.specs.Dealt.{bound}
use Rattle.gate_laws.specs.Rows.{element_taken, secrecy_suits}
use Rattle.gate_laws.specs.Machines.{StepTakes}
use Rattle.code_model.specs.Laws.{AreFitting}
use Rattle.gate_laws.specs.Machines.{AreTaking}
use Rattle.gate_laws.specs.Laws.{LiteralIsWord, LiteralsAreWords, VerifiedSuits}

-- ---- tests

truths_same : (a b : Bool) → same_truth a b ≡ true → a ≡ b
truths_same true true h = refl
truths_same true false h = cc
truths_same false true h = cc
truths_same false false h = refl

elements_same : (a b : DataType) → same_element a b ≡ true → a ≡ b
elements_same Uint64 Uint64 h = refl
elements_same Int64 Int64 h = refl
elements_same datatype.Bool datatype.Bool h = refl
elements_same a b h = cc

kinds_same : (k l : Kind) → same_kind k l ≡ true → k ≡ l
kinds_same k l h =
    let one = and_parts (same_truth k.secret l.secret && same_element k.element l.element) (same_truth k.array l.array) h in
    let two = and_parts (same_truth k.secret l.secret) (same_element k.element l.element) one.0 in
    ap (λ z. record { secret = z; element = k.element; array = k.array }) (truths_same k.secret l.secret two.0)
    ∙ ap (λ z. record { secret = l.secret; element = z; array = k.array }) (elements_same k.element l.element two.1)
    ∙ ap (λ z. record { secret = l.secret; element = l.element; array = z }) (truths_same k.array l.array one.1)

is_false : (b : Bool) → not b ≡ true → b ≡ false
is_false true h = cc
is_false false h = refl

are_words : (e : DataType) → is_unsigned e ≡ true → e ≡ Uint64
are_words Uint64 h = refl
are_words Int64 h = cc
are_words datatype.Bool h = cc

are_bools : (e : DataType) → is_truth e ≡ true → e ≡ datatype.Bool
are_bools Uint64 h = cc
are_bools Int64 h = cc
are_bools datatype.Bool h = refl

found_kind : (kinds : List Kind) (r : ℕ) → r < length kinds → HasKind kinds r (kind_at kinds r)
found_kind [] r h = absurd (omega (arith, h))
found_kind (k ∷ kinds) zero h = refl
found_kind (k ∷ kinds) (suc r) h = found_kind kinds r (omega (arith, h))

there_kind : (kinds : List Kind) (r : ℕ) → is_there kinds r ≡ true → HasKind kinds r (kind_at kinds r)
there_kind kinds r h = found_kind kinds r (ltb-true r (length kinds) h)

-- ---- operators

secrecy_same : (op : BinaryOperator) (a b : Bool) → secrecy_fits op a b ≡ true → secrecy_suits op a b
secrecy_same op true true h = h
secrecy_same op true false h = (and_parts (is_product op) (may_be_private op) h).0
secrecy_same op false true h = (and_parts (is_product op) (may_be_private op) h).0
secrecy_same op false false h = tt

taken_same : (e : DataType) (o : ℕ) → e ≡ element_taken (operator_at e o)
taken_same Uint64 o = refl
taken_same Int64 o = refl
taken_same datatype.Bool o = refl

left_same : (a b : Bool) → a ≡ left_array (operands_of a b)
left_same true true = refl
left_same true false = refl
left_same false true = refl
left_same false false = refl

right_same : (a b : Bool) → b ≡ right_array (operands_of a b)
right_same true true = refl
right_same true false = refl
right_same false true = refl
right_same false false = refl

made_same : (s : Bool) (op : BinaryOperator) (a b : Bool)
    → record { secret = s; element = element_made op; array = a || b } ≡ kind_of s (row.result_shape op (operands_of a b))
made_same s op true true = refl
made_same s op true false = refl
made_same s op false true = refl
made_same s op false false = refl

literal_low : (e : DataType) (x : ℕ) → x < 2 ^ 64 → may_be_literal e x ≡ true → x < bound e
literal_low Uint64 x h t = h
literal_low Int64 x h t = h
literal_low datatype.Bool x h t = ltb-true x 2 t

-- ---- calls

arguments_have : (kinds : List Kind) (rs : List ℕ) (n : ℕ) (ks : List Kind) → list_all (is_there kinds) rs ≡ true
    → arguments_fit kinds rs (take n ks) ≡ true → ArgumentsHave kinds rs ks
arguments_have kinds [] n ks t h = tt
arguments_have kinds (r ∷ rs) zero ks t h = cc
arguments_have kinds (r ∷ rs) (suc n) [] t h = cc
arguments_have kinds (r ∷ rs) (suc n) (k ∷ ks) t h =
    let there = and_parts (is_there kinds r) (list_all (is_there kinds) rs) t in
    let fit = and_parts (same_kind (kind_at kinds r) k) (arguments_fit kinds rs (take n ks)) h in
    (subst (HasKind kinds r) (kinds_same (kind_at kinds r) k fit.0) (there_kind kinds r there.0), arguments_have kinds rs n ks there.1 fit.1)

given_kind : (given : Option Kind) (k : Kind) → gives_fits given k ≡ true → given ≡ Some k
given_kind None k h = cc
given_kind (Some l) k h = ap (λ z. Some z) (sym (kinds_same k l h))

given_none : (given : Option Kind) → gives_none given ≡ true → given ≡ None
given_none None h = refl
given_none (Some k) h = cc

result_fits : (kinds : List Kind) (d : ℕ) (given : Option Kind) → (is_none d || is_there kinds d) ≡ true
    → (is_none d || gives_fits given (kind_at kinds d)) ≡ true
    → ResultFits kinds (result_at d) given
result_fits kinds d given t h = go (is_none d) t h
  where
    go : (b : Bool) → (b || is_there kinds d) ≡ true → (b || gives_fits given (kind_at kinds d)) ≡ true → ResultFits kinds (if b then None else Some d) given
    go true t h = tt
    go false t h = (kind_at kinds d, given_kind given (kind_at kinds d) h, there_kind kinds d t)

settled_there : (names : List (List ℕ)) (fs : List RawFunction) (g : ℕ) (f : RawFunction) → slice_get fs g ≡ Some f
    → slice_get (map (settled_function names) fs) g ≡ Some (settled_function names f)
settled_there names [] g f e = cc
settled_there names (x ∷ fs) zero f e = ap (λ o. step o) e
  where
    step : Option RawFunction → Option Function
    step None = None
    step (Some x) = Some (settled_function names x)
settled_there names (x ∷ fs) (suc g) f e = settled_there names fs g f e

-- ---- instructions

both : (a b : Bool) → (a && b) ≡ true → (a ≡ true) × (b ≡ true)
both a b h = and_parts a b h

three : (a b c : Bool) → (a && b && c) ≡ true → (a ≡ true) × (b ≡ true) × (c ≡ true)
three a b c h = let x = both (a && b) c h in let y = both a b x.0 in (y.0, y.1, x.1)

four : (a b c d : Bool) → (a && b && c && d) ≡ true → (a ≡ true) × (b ≡ true) × (c ≡ true) × (d ≡ true)
four a b c d h = let x = both (a && b && c) d h in let y = three a b c x.0 in (y.0, y.1, y.2, x.1)

six : (a b c d e f : Bool) → (a && b && c && d && e && f) ≡ true
    → (a ≡ true) × (b ≡ true) × (c ≡ true) × (d ≡ true) × (e ≡ true) × (f ≡ true)
six a b c d e f h =
    let x = both (a && b && c && d && e) f h in let y = both (a && b && c && d) e x.0 in let z = four a b c d y.0 in (z.0, z.1, z.2, z.3, y.1, x.1)

module _ (code : RawCode) (f : RawFunction) (place : ℕ) where
  abbrev at : Here
  at = here code f place

  abbrev kinds : List Kind
  kinds = f.registers

  abbrev of : ℕ → Kind
  of r = kind_at kinds r

  abbrev own : Function
  own = settled_function code.names f

  abbrev Suited : Step → Type 0
  Suited i = StepFits (settled code) own i × StepTakes kinds i

  there : (r : ℕ) → is_there kinds r ≡ true → HasKind kinds r (of r)
  there r h = there_kind kinds r h

  -- a register of a kind that is the same as this one
  there_as : (r : ℕ) (k : Kind) → is_there kinds r ≡ true → same_kind (of r) k ≡ true → HasKind kinds r k
  there_as r k h e = subst (HasKind kinds r) (kinds_same (of r) k e) (there r h)

  inside : (target : ℕ) → nat_lt target (length f.body) ≡ true → target < length own.steps
  inside target h = subst (λ n. target < n) (sym (length-map f.body (settle code.names kinds))) (ltb-true target (length f.body) h)

  binary_suited : (o d a b line : ℕ) → names_there at (raw.Binary o d a b line) ≡ true → operands_fit at (raw.Binary o d a b line) ≡ true
      → Suited (settle code.names kinds (raw.Binary o d a b line))
  binary_suited o d a b line n h =
      let op = operator_at (of a).element o in
      let names = three (is_there kinds d) (is_there kinds a) (is_there kinds b) n in
      let fit = four (same_element (of a).element (of b).element) (fitting.operator_exists (of a).element o) (secrecy_fits op (of a).secret (of b).secret)
      (same_kind (of d) (result_kind op (of a) (of b))) h in
      let x = there a names.1 in
      let y = there b names.2 in
      let left = left_same (of a).array (of b).array in
      let right = right_same (of a).array (of b).array in
      let taken = taken_same (of a).element o in
      let result = subst (HasKind kinds d) (made_same ((of a).secret || (of b).secret) op (of a).array (of b).array)
      (there_as d (result_kind op (of a) (of b)) names.0 fit.3) in (
        (of a, of b, x, y, left, right, result),
        (
          of a,
          of b,
          x,
          y,
          taken,
          sym (elements_same (of a).element (of b).element fit.0)
              ∙ taken,
          left,
          right,
          secrecy_same op (of a).secret (of b).secret fit.2,
        ),
      )

  cast_suited : (d r : ℕ) → is_there kinds d ≡ true → is_there kinds r ≡ true → fitting.cast_fits (of d) (of r) ≡ true
      → Suited (settle code.names kinds (raw.Cast d r))
  cast_suited d r to from h =
      let fit = both (same_truth (of d).secret (of r).secret) (same_truth (of d).array (of r).array) h in
      let made : HasKind kinds d (record { secret = (of r).secret; element = (of d).element; array = (of r).array }) =
      subst (λ s. HasKind kinds d (record { secret = s; element = (of d).element; array = (of r).array }))
      (truths_same (of d).secret (of r).secret fit.0)
      (subst (λ a. HasKind kinds d (record { secret = (of d).secret; element = (of d).element; array = a }))
      (truths_same (of d).array (of r).array fit.1) (there d to)) in
      (((of r).secret, (of r).array, there r from, made), (of r, there r from, refl))

  call_suited : (g d : ℕ) (rs : List ℕ) (line : ℕ) → names_there at (raw.Call g d rs line) ≡ true → operands_fit at (raw.Call g d rs line) ≡ true
      → Suited (settle code.names kinds (raw.Call g d rs line))
  call_suited g d rs line n h = go (slice_get code.functions g) refl h
    where
      go : (o : Option RawFunction) → slice_get code.functions g ≡ o → call_fits kinds o d rs ≡ true → Suited (settle code.names kinds (raw.Call g d rs line))
      go None e h = cc
      go (Some c) e h =
          let fit = four (nat_le c.parameters (length c.registers)) (length rs == c.parameters) (arguments_fit kinds rs (take c.parameters c.registers))
          (is_none d || gives_fits c.gives (of d)) h in
          let names = three (is_there code.functions g) (is_none d || is_there kinds d) (list_all (is_there kinds) rs) n in (
            (
              settled_function code.names c,
              settled_there code.names code.functions g c e,
              arguments_have kinds rs c.parameters c.registers names.2 fit.2,
              result_fits kinds d c.gives names.1 fit.3,
            ),
            tt,
          )

  suited : (i : Raw) → LiteralIsWord i → names_there at i ≡ true → operands_fit at i ≡ true → target_fits at i ≡ true → Suited (settle code.names kinds i)
  suited (raw.Literal d x) l n o t =
      let fit = both (same_kind (of d) (public_scalar (of d).element)) (may_be_literal (of d).element x) o in
      (there_as d (public_scalar (of d).element) n fit.0, literal_low (of d).element x l fit.1)
  suited (raw.Move d r) l n o t =
      let names = both (is_there kinds d) (is_there kinds r) n in ((of r, there r names.1, there_as d (of r) names.0 o), tt)
  suited (raw.Store d r) l n o t =
      let names = both (is_there kinds d) (is_there kinds r) n in ((of r, there r names.1, there_as d (of r) names.0 o), tt)
  suited (raw.Binary op d a b line) l n o t = binary_suited op d a b line n o
  suited (raw.Not d r) l n o t =
      let names = both (is_there kinds d) (is_there kinds r) n in
      let fit = both (same_kind (of d) (of r)) (is_truth (of r).element) o in
      ((of r, there r names.1, there_as d (of r) names.0 fit.0), (of r, there r names.1, are_bools (of r).element fit.1))
  suited (raw.Cast d r) l n o t = let names = both (is_there kinds d) (is_there kinds r) n in cast_suited d r names.0 names.1 o
  suited (raw.Classify d r) l n o t =
      let names = both (is_there kinds d) (is_there kinds r) n in
      let fit = both (not (of r).secret) (same_kind (of d) (private_as (of r))) o in
      ((of r, there r names.1, there_as d (private_as (of r)) names.0 fit.1), tt)
  suited (raw.Fill d s x line) l n o t =
      let names = three (is_there kinds d) (is_there kinds s) (is_there kinds x) n in
      let fit = three (same_kind (of s) (public_scalar Uint64)) (not (of x).array) (same_kind (of d) (array_of (of x))) o in
      ((of x, there x names.2, there_as d (array_of (of x)) names.0 fit.2), (of x, there x names.2, is_false (of x).array fit.1))
  suited (raw.At d a i line) l n o t =
      let names = three (is_there kinds d) (is_there kinds a) (is_there kinds i) n in
      let fit = three (of a).array (same_kind (of i) (public_scalar Uint64)) (same_kind (of d) (element_of (of a))) o in
      ((of a, there a names.1, there_as d (element_of (of a)) names.0 fit.2), tt)
  suited (raw.Put a i x line) l n o t =
      let names = three (is_there kinds a) (is_there kinds i) (is_there kinds x) n in
      let fit = three (of a).array (same_kind (of i) (public_scalar Uint64)) (same_kind (of x) (element_of (of a))) o in
      let same = kinds_same (of x) (element_of (of a)) fit.2 in (
        (of a, there a names.0, fit.0),
        (of a, of x, there a names.0, there x names.2, ap (λ z. z.element) same, ap (λ z. z.array) same),
      )
  suited (raw.Size d r) l n o t =
      let names = both (is_there kinds d) (is_there kinds r) n in
      let fit = both (of r).array (same_kind (of d) (public_scalar Uint64)) o in
      (there_as d (public_scalar Uint64) names.0 fit.1, tt)
  suited (raw.Cat d a b line) l n o t =
      let names = three (is_there kinds d) (is_there kinds a) (is_there kinds b) n in
      let fit = three (of d).array (same_kind (of a) (of d)) (same_kind (of b) (of d)) o in
      let left = kinds_same (of a) (of d) fit.1 in
      let right = kinds_same (of b) (of d) fit.2 in (
        (of d, there_as a (of d) names.1 fit.1, there_as b (of d) names.2 fit.2, fit.0, there d names.0),
        (of a, of b, there a names.1, there b names.2, ap (λ z. z.element) (right ∙ sym left)),
      )
  suited (raw.Sum d r) l n o t =
      let names = both (is_there kinds d) (is_there kinds r) n in
      let fit = three (of r).array (is_number (of r).element) (same_kind (of d) (element_of (of r))) o in
      ((of r, there r names.1, there_as d (element_of (of r)) names.0 fit.2), (of r, there r names.1, fit.1))
  suited (raw.Bits d r line) l n o t =
      let names = both (is_there kinds d) (is_there kinds r) n in
      let fit = both (is_unsigned (of r).element) (same_kind (of d) (bits_of (of r))) o in
      ((of r, there r names.1, there_as d (bits_of (of r)) names.0 fit.1), (of r, there r names.1, are_words (of r).element fit.0))
  suited (raw.Lookup d a i line) l n o t =
      let names = three (is_there kinds d) (is_there kinds a) (is_there kinds i) n in
      let fit = six (of a).secret (of a).array (is_number (of a).element) (of i).secret (is_unsigned (of i).element)
      (same_kind (of d) (looked_up_of (of a) (of i))) o in (
        (of a, of i, there a names.1, there i names.2, there_as d (looked_up_of (of a) (of i)) names.0 fit.5),
        ((of a, there a names.1, fit.2), (of i, there i names.2, are_words (of i).element fit.4)),
      )
  suited (raw.Declassify d r) l n o t =
      let names = both (is_there kinds d) (is_there kinds r) n in ((of r, there r names.1, there_as d (public_as (of r)) names.0 o), tt)
  suited (raw.Argument d name line) l n o t =
      let names = both (is_there kinds d) (is_there code.names name) n in (there d names.0, tt)
  suited (raw.Publish name r) l n o t = (tt, tt)
  suited (raw.Assert r line) l n o t = (tt, tt)
  suited (raw.Branch r v target) l n o t = (inside target t, tt)
  suited (raw.Jump target) l n o t = (inside target (both (nat_lt place target) (nat_lt target (length f.body)) t).1, tt)
  suited (raw.Call g d rs line) l n o t = call_suited g d rs line n o
  suited (raw.Return r) l n o t = ((of r, given_kind f.gives (of r) o, there r n), tt)
  suited raw.ReturnNone l n o t = (given_none f.gives o, tt)

-- ---- functions

mapped_found : {A B : Type 0} (g : A → B) (xs : List A) (k : ℕ) (y : B) → slice_get (map g xs) k ≡ Some y → (x : A) × (slice_get xs k ≡ Some x) × (y ≡ g x)
mapped_found g [] k y e = cc
mapped_found {B = B} g (x ∷ xs) zero y e = (x, refl, same y (g x) e)
  where
    same : (y z : B) → ◌≡◌ {A = Option B} (Some z) (Some y) → y ≡ z
    same y z e = sym (ap or_this e)
      where
        or_this : Option B → B
        or_this None = z
        or_this (Some v) = v
mapped_found g (x ∷ xs) (suc k) y e = mapped_found g xs k y e

return_same : (names : List (List ℕ)) (ks : List Kind) (i : Raw) → is_return (settle names ks i) ≡ fitting.is_return i
return_same names ks (raw.Return r) = refl
return_same names ks raw.ReturnNone = refl
return_same names ks (raw.Literal d x) = refl
return_same names ks (raw.Move d r) = refl
return_same names ks (raw.Store d r) = refl
return_same names ks (raw.Binary o d a b line) = refl
return_same names ks (raw.Not d r) = refl
return_same names ks (raw.Cast d r) = refl
return_same names ks (raw.Classify d r) = refl
return_same names ks (raw.Fill d n x line) = refl
return_same names ks (raw.At d a i line) = refl
return_same names ks (raw.Put a i x line) = refl
return_same names ks (raw.Size d r) = refl
return_same names ks (raw.Cat d a b line) = refl
return_same names ks (raw.Sum d r) = refl
return_same names ks (raw.Bits d r line) = refl
return_same names ks (raw.Lookup d a i line) = refl
return_same names ks (raw.Declassify d r) = refl
return_same names ks (raw.Argument d name line) = refl
return_same names ks (raw.Publish name r) = refl
return_same names ks (raw.Assert r line) = refl
return_same names ks (raw.Branch r v target) = refl
return_same names ks (raw.Jump target) = refl
return_same names ks (raw.Call g d rs line) = refl

other : (a b : Bool) → (a || b) ≡ true → a ≡ false → b ≡ true
other true b h e = cc
other false b h e = h

-- what an instruction that passes comes to
record Passed (code : RawCode) (f : RawFunction) (place : ℕ) (s : Step) : Type 0 where
  fits : StepFits (settled code) (settled_function code.names f) s
  takes : StepTakes f.registers s
  goes_on : is_return s ≡ false → place + 1 < length (map (settle code.names f.registers) f.body)

module _ (code : RawCode) (sound : IsSound code) (literals : LiteralsAreWords code) (n : ℕ) (f : RawFunction) (e : slice_get code.functions n ≡ Some f) where
  passed : (place : ℕ) (s : Step) → slice_get (map (settle code.names f.registers) f.body) place ≡ Some s → Passed code f place s
  passed place s at =
      let x = mapped_found (settle code.names f.registers) f.body place s at in
      let h = here code f place in
      let all = four (names_there h x.0) (operands_fit h x.0) (target_fits h x.0) (goes_on h x.0) ((sound.functions n f e).instructions place x.0 x.1) in
      let two = suited code f place x.0 (literals n f e place x.0 x.1) all.0 all.1 all.2 in
      subst (Passed code f place) (sym x.2) (record {
        fits = two.0;
        takes = two.1;
        goes_on = λ r. subst (λ n. place + 1 < n) (sym (length-map f.body (settle code.names f.registers)))
            (ltb-true (place + 1) (length f.body)
            (other (fitting.is_return x.0) (nat_lt (place + 1) (length f.body)) all.3 (sym (return_same code.names f.registers x.0) ∙ r)));
      })

  fitting_function : IsFitting (settled code) (settled_function code.names f)
  fitting_function =
      record {
        some = subst (λ n. 0 < n) (sym (length-map f.body (settle code.names f.registers))) (sound.functions n f e).some_instruction;
        fits = λ place i at. (passed place i at).fits;
        goes_on = λ place i at. (passed place i at).goes_on;
      }

-- ---- the code

pub verified_suits : (code : RawCode) → VerifiedSuits code
verified_suits code verified literals = (fits, takes)
  where
    sound : IsSound code
    sound = verified_is_sound code verified

    fits : AreFitting (settled code)
    fits g x =
        let found = mapped_found (settled_function code.names) code.functions x.0 g x.1 in
        subst (IsFitting (settled code)) (sym found.2) (fitting_function code sound literals x.0 found.0 found.1)

    takes : AreTaking (settled code)
    takes g x =
        let found = mapped_found (settled_function code.names) code.functions x.0 g x.1 in
        subst (λ h. (place : ℕ) (i : Step) → slice_get h.steps place ≡ Some i → StepTakes h.kinds i) (sym found.2)
        (λ place i at. (passed code sound literals x.0 found.0 found.1 place i at).takes)
