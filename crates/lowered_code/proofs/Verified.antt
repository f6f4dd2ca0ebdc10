-- The code of a well-typed program is right.
use Rattle.std.proofs.Common.{◌≡◌, ℕ, zero, suc, ◌+◌, ◌*◌, ◌<◌, ◌≤◌, List, [], ◌∷◌, ◌++◌, length, map, Some}
use Rattle.std.proofs.Common.{None, Bool, true, false, cond, refl, sym, ap, ◌∙◌, subst}
use Rattle.std.proofs.Common.{arith, length-append, ◌⊎◌, inl, inr}
use Rattle.std.specs.Prelude.{slice_get}
use Rattle.std.proofs.lemmas.List.{length-map}
use Rattle.std.proofs.lemmas.Option.{none-some, same_Some}
use Rattle.sc_text.specs.Lists.{Among}
use Rattle.program_trees.specs.declared.expression.DataType.{DataType}
use Rattle.program_trees.specs.declared.expression.DataType.TheVariants.{Uint64, Int64}
use Rattle.program_trees.specs.declared.expression.DataType.TheVariants as datatype
use Rattle.program_trees.specs.Shapes.{shape_of}
use Rattle.program_trees.specs.declared.kinds.Shape.{Shape}
use Rattle.program_trees.specs.declared.kinds.Slot.{Slot}
use Rattle.program_trees.specs.declared.typed_function.Returned.{Returned}
use Rattle.program_trees.specs.declared.typed_function.Returned.TheVariants.{Nothing, Value}
use Rattle.program_trees.specs.TypedPrograms.{TypedFunctionTree, TypedProgramTree}
use Rattle.reached_instances.specs.declared.instance.BoundDomain.{BoundDomain}
use Rattle.reached_instances.specs.Domains.{Setting}
use Rattle.reached_instances.specs.Instances.{Instance, same_instance}
use Rattle.reached_instances.specs.Reached.{IsReachedList}
use Rattle.reached_instances.proofs.Listing.{same_instance-Decides}
use Rattle.language_model.specs.Evaluation.{place_in, slots_of}
use Rattle.bytecode.specs.declared.kind.Kind.{Kind}
use Rattle.verified_code.specs.Steps.{Step, Function, Jump}
use Rattle.code_model.specs.Fit.{AreFitStatements, IsKnownIn, IsFitProgram, the_main}
use Rattle.code_model.specs.Kinds.{kind_of, slot_kind, rows_kinds}
use Rattle.code_model.specs.Kinded.{HasKind, is_return, IsIn}
use Rattle.code_model.specs.Expressions.{Numbers}
use Rattle.code_model.specs.Statements.{shape_number, default_kinds, defaults_behind, first_free, statements_depth}
use Rattle.code_model.specs.Statements.{statements_code}
use Rattle.code_model.specs.Programs.{given_kind, last_kinds, last_step, body_end, function_code, place_of, numbers_in, code_of_found, instance_code, code_of}
use Rattle.code_model.proofs.Forward.{all_forward}
use Rattle.code_model.proofs.Lengths.{statements_length}
use Rattle.code_model.specs.Instructions.{nowhere}
use Rattle.code_model.specs.Right.{IsRight, IsRightFunction, AreRight}
use Rattle.code_model.proofs.Passing.{mapped, unmapped}
use Rattle.code_model.proofs.Whole.{verified, settles_again}
use Rattle.program_trees.specs.Programs.{ProgramTree}
use Rattle.code_model.specs.Meaning.{mean_in}
use Rattle.well_typed.proofs.Reaching.{accepted_well_typed}
use Rattle.well_typed.specs.Statements.{AreWellTypedStatements}
use Rattle.well_typed.specs.Programs.{IsWellTypedInstance, IsWellTyped}
use Rattle.lowered_code.specs.Laws.{HasNumberedRegisters, IsVerifiedWhereWellTyped, RunsWhereAccepted}
use Rattle.lowered_code.proofs.Fits.{well_typed_fits, accepted_means}
use Rattle.lowered_code.proofs.Standing.{clash, front, found_among, Stands, stands_itself, stands_left, stands_right, stands_first, rows_stand}
use Rattle.lowered_code.proofs.Standing.{both_right, right_at}
use Rattle.lowered_code.proofs.Calling.{parameters_of}
use Rattle.lowered_code.proofs.Limits.{within_small}
use Rattle.code_model.proofs.Widths.{rows_length}
use Rattle.lowered_code.proofs.RegistersOfPrograms.{small_numbered}
use Rattle.lowered_code.proofs.Expressions.{IsCallee}
use Rattle.lowered_code.proofs.Statements.{statements_right}

-- ---- LISTS

truths_apart : {b : Bool} → b ≡ true → b ≡ false → ⊥
truths_apart {b = true} e f = cc
truths_apart {b = false} e f = cc

place_found : {A : Type 0} (f : Instance → A) (i : Instance) (is : List Instance) → Among i is → slice_get (map f is) (place_of i is) ≡ Some (f i)
place_found f i [] h = absurd h
place_found {A = A} f i (j ∷ js) h = go (same_instance i j) refl h (place_found f i js)
  where
    go : (b : Bool) → same_instance i j ≡ b → (i ≡ j) ⊎ Among i js → (Among i js → slice_get (map f js) (place_of i js) ≡ Some (f i)) → slice_get
        (f j ∷ map f js) (cond b 0 (place_of i js + 1)) ≡ Some (f i)
    go true e m rest = ap (λ z. Some (f z)) (sym ((same_instance-Decides i j).0 e))
    go false e (inl same) rest = absurd (truths_apart ((same_instance-Decides i j).1 same) e)
    go false e (inr m) rest = let n : place_of i js + 1 ≡ suc (place_of i js) = omega arith in ap (slice_get (f j ∷ map f js)) n ∙ rest m

-- after all but the last step there is one
last_returns : (code : List Step) (last : Step) → is_return last ≡ true → (place : ℕ) (i : Step) → slice_get (code ++ last ∷ []) place ≡ Some i
    → is_return i ≡ false
    → place + 1 < length (code ++ last ∷ [])
last_returns [] last r zero i e f = absurd (clash (sym f ∙ sym (ap is_return (same_Some last i e)) ∙ r))
last_returns [] last r (suc k) i e f = absurd (none-some _ e)
last_returns (j ∷ code) last r zero i e f = let n = length-append code (last ∷ []) in omega (arith, n)
last_returns (j ∷ code) last r (suc k) i e f = let n = last_returns code last r k i e f in omega (arith, n)

-- ---- REGISTERS

default_there : (e : DataType) (a : Bool) → slice_get default_kinds (shape_number (shape_of e a)) ≡ Some (kind_of false (shape_of e a))
default_there Uint64 true = refl
default_there Uint64 false = refl
default_there Int64 true = refl
default_there Int64 false = refl
default_there datatype.Bool true = refl
default_there datatype.Bool false = refl

defaults_found : (ks : List Kind) (ss : List Slot) (more : List Kind) → Stands ks (length ss) (defaults_behind ss ++ more) → (s : Shape) → 0 < length ss
    → HasKind ks (length ss + shape_number s) (kind_of false s)
defaults_found ks [] more h s some = absurd (omega (arith, some))
defaults_found ks (x ∷ ss) more h s some = (stands_left default_kinds more h).at (shape_number s) (kind_of false s) (default_there s.element s.array)

-- ---- FUNCTIONS

module _ (number : Numbers) (c : List Function) (fs : List TypedFunctionTree) (f : TypedFunctionTree) (b : List BoundDomain) where
  abbrev own : Function
  own = function_code number fs f b

  abbrev here : Setting
  here = record { functions = fs; slots = f.slots; binding = b }

  abbrev end : ℕ
  end = body_end number fs f b

  abbrev body : List Step
  body = statements_code number (place_in fs f b) (first_free f.slots) end end 0 f.body

  abbrev last_register : ℕ
  last_register = first_free f.slots + 12 * statements_depth f.body

  abbrev behind_slots : List Kind
  behind_slots = defaults_behind f.slots ++ (rows_kinds (statements_depth f.body) ++ last_kinds b f.given)

  from_slots : Stands own.kinds (length f.slots) behind_slots
  from_slots =
      let many = length-map f.slots (slot_kind b) in
      let place : length f.slots ≡ 0 + length (map (slot_kind b) f.slots) = omega (arith, many) in
      stands_right (length f.slots) (map (slot_kind b) f.slots) place (stands_itself own.kinds)

  from_body : Stands own.kinds (first_free f.slots) (rows_kinds (statements_depth f.body) ++ last_kinds b f.given)
  from_body = stands_right (first_free f.slots) (defaults_behind f.slots) refl from_slots

  from_last : Stands own.kinds last_register (last_kinds b f.given)
  from_last =
      let many = rows_length (statements_depth f.body) in
      let place : last_register ≡ first_free f.slots + length (rows_kinds (statements_depth f.body)) = omega (arith, many) in
      stands_right last_register (rows_kinds (statements_depth f.body)) place from_body

  slots_stand : (k : ℕ) (s : Slot) → slice_get f.slots k ≡ Some s → HasKind own.kinds k (slot_kind b s)
  slots_stand k s there = front (map (slot_kind b) f.slots) behind_slots k (slot_kind b s) (mapped (slot_kind b) f.slots k s there)

  last_right : (g : Returned) → Stands own.kinds last_register (last_kinds b g)
      → IsRight c own.kinds (given_kind b g) (length own.steps) (last_step g last_register)
  last_right Nothing h = refl
  last_right (Value s) h = (slot_kind b s, refl, stands_first h)

  last_is_return : (g : Returned) (r : ℕ) → is_return (last_step g r) ≡ true
  last_is_return Nothing r = refl
  last_is_return (Value s) r = refl

  function_right : (Known : ℕ → List BoundDomain → Type 0) → ((k : ℕ) (d : List BoundDomain) → Known k d → IsCallee number c own.kinds None 0 here k d)
      → AreWellTypedStatements here f.given false f.body → AreFitStatements Known (place_in fs f b) false f.body → f.parameters ≤ length f.slots
      → length own.kinds ≤ nowhere → ((place target : ℕ) → slice_get own.steps place ≡ Some (Jump target) → place < target) → IsRightFunction c own
  function_right Known known typed fit enough few forward =
      let last = last_step f.given last_register in
      let whole = length-append body (last ∷ []) in
      let same = statements_length number (place_in fs f b) f.body (first_free f.slots) end end 0 0 0 0 in
      let within : end < length own.steps = omega (arith, whole, same) in
      let ends : 0 + length body < length own.steps = omega (arith, whole) in
      let many = length-map f.slots (slot_kind b) in
      let all = length-append (map (slot_kind b) f.slots) behind_slots in
      record {
        registers = few;
        parameters = omega (arith, enough, many, all);
        some = omega (arith, whole);
        goes_on = last_returns body last (last_is_return f.given last_register);
        forward = forward;
        steps = right_at c own.kinds own.gives (length own.steps) own.steps
            (both_right c own.kinds own.gives (length own.steps) body (last ∷ [])
            (statements_right number c own.kinds (length own.steps) here Known slots_stand
            (defaults_found own.kinds f.slots (rows_kinds (statements_depth f.body) ++ last_kinds b f.given) from_slots) known f.given false f.body typed fit
            (first_free f.slots) end end 0 within within
            (rows_stand (first_free f.slots) (statements_depth f.body) (stands_left (rows_kinds (statements_depth f.body)) (last_kinds b f.given) from_body))
            ends)
            (last_right f.given from_last, tt));
      }

-- ---- PROGRAMS

module _ (p : TypedProgramTree) (is : List Instance) (typed : IsWellTyped p) (reached : IsReachedList p is) where
  abbrev fs : List TypedFunctionTree
  fs = p.functions

  abbrev number : Numbers
  number = numbers_in is

  abbrev code : List Function
  code = code_of p is

  fits : IsFitProgram p is
  fits = well_typed_fits p is typed reached

  well : (i : Instance) → Among i is → IsWellTypedInstance p i
  well i m = typed.instances i (reached.reached i m)

  known : (k : ℕ) (b : List BoundDomain) → IsKnownIn is k b
      → (parameters_of (slice_get fs k) ≤ length (slots_of (slice_get fs k)))
      × (slice_get code (number k b) ≡ Some (code_of_found number fs b (slice_get fs k)))
  known k b m =
      let i : Instance = record { function = k; binding = b } in
      let w = well i m in
      (subst (λ o. parameters_of o ≤ length (slots_of o)) (sym w.there) w.parameters, place_found (instance_code fs number) i is m)

  instance_right : HasNumberedRegisters code → (i : Instance) → Among i is → IsIn code (instance_code fs number i)
      → IsRightFunction code (instance_code fs number i)
  instance_right few i m there =
      let w = well i m in
      let f = w.called in
      let x = fits.instances i m in
      let same : x.called ≡ f = same_Some x.called f (sym x.there ∙ w.there) in
      let is_code : instance_code fs number i ≡ function_code number fs f i.binding = ap (code_of_found number fs i.binding) w.there in
      let fit = subst (λ z. AreFitStatements (IsKnownIn is) (place_in fs z i.binding) false z.body) same x.fit.body in
      let at : IsIn code (function_code number fs f i.binding) = subst (IsIn code) is_code there in
      subst (IsRightFunction code) (sym is_code)
      (function_right number code fs f i.binding (IsKnownIn is) known w.body fit w.parameters (few (function_code number fs f i.binding) at)
      (λ place target e. all_forward p is at.0 (function_code number fs f i.binding) at.1 place target e))

  pub code_right : HasNumberedRegisters code → AreRight code
  code_right few =
      let main = typed.main in
      record {
        main = instance_code fs number the_main;
        begins = ap (λ z. slice_get (map (instance_code fs number) z) 0) fits.begins;
        plain = ap (λ o. (code_of_found number fs [] o).parameters) main.there ∙ main.parameters;
        nothing = ap (λ o. (code_of_found number fs [] o).gives) main.there ∙ ap (given_kind []) main.given;
        functions = λ f there.
            let x = unmapped (instance_code fs number) is there.0 f there.1 in
            let at : IsIn code (instance_code fs number x.0) = (there.0, there.1 ∙ ap Some (sym x.2)) in
            subst (IsRightFunction code) x.2 (instance_right few x.0 (found_among is there.0 x.0 x.1) at);
      }

-- ---- RAW CODE

pub well_typed_verified : (p : TypedProgramTree) (is : List Instance) → IsVerifiedWhereWellTyped p is
well_typed_verified p is typed reached few =
    let right = code_right p is typed reached few in (verified (code_of p is) right, settles_again (code_of p is) right)

pub accepted_runs : (source : ProgramTree) → RunsWhereAccepted source
accepted_runs source accepted written p resolved is reached within =
    let few = small_numbered source p resolved is (within_small p is within reached) in
    let both = well_typed_verified p is (accepted_well_typed source accepted written p resolved) reached few in (
      both.0,
      λ w budget answers.
          ap (λ c. mean_in w c budget answers) both.1 ∙ accepted_means source accepted written p resolved is reached w budget answers,
    )
