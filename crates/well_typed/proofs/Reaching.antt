-- Each instance that `main` reaches was checked, and so is well typed.
use Rattle.std.proofs.Common.{◌≡◌, ℕ, zero, suc, ◌+◌, List, [], ◌∷◌, inl, inr, length, refl, sym, ap, ◌∙◌, subst, Option, Some, None, Bool, true, false, cond}
use Rattle.std.specs.Prelude.{codes, bytes_eq, ◌&&◌, ◌||◌}
use Rattle.std.specs.List.{slice_get}
use Rattle.std.proofs.lemmas.Bool.{and_parts}
use Rattle.program_trees.specs.declared.function.DomainVariable.{DomainVariable}
use Rattle.program_trees.specs.declared.function.Parameter.{Parameter}
use Rattle.program_trees.specs.declared.function.ResultType.{ResultType}
use Rattle.program_trees.specs.declared.function.ResultType.TheVariants as result
use Rattle.program_trees.specs.Programs.{FunctionTree, ProgramTree}
use Rattle.domain_types.specs.Declarations.{Declared, declared_by, functions_of, defined, function_named, callee}
use Rattle.sc_text.specs.Lists.{Among}
use Rattle.domain_types.specs.Reached.{plain}
use Rattle.domain_types.specs.Types.{is_without}
use Rattle.domain_types.specs.ProgramTypes.{is_void, is_main, has_main}
use Rattle.domain_types.specs.Typing.{IsTypedProgram}
use Rattle.domain_types.proofs.TypingPrograms.{accepted_is_typed}
use Rattle.program_trees.specs.declared.typed_function.Returned.TheVariants as given
use Rattle.program_trees.specs.TypedPrograms.{TypedFunctionTree, TypedProgramTree}
use Rattle.name_resolution.specs.Functions.{given_back, typed_function, typed_functions, program_of}
use Rattle.name_resolution.specs.Order as order
use Rattle.name_resolution.specs.Order.{is_found, with_callee, read_one, known_after}
use Rattle.name_resolution.proofs.SoundValues.{mapped, some_is, callee_there}
use Rattle.reached_instances.specs.declared.instance.BoundDomain.{BoundDomain}
use Rattle.reached_instances.specs.Domains.{bound_below, binding_of}
use Rattle.reached_instances.specs.Instances.{Instance}
use Rattle.reached_instances.specs.Calls.{called, main_of}
use Rattle.reached_instances.specs.Reached.{IsReached, begins, follows}
use Rattle.program_typing.proofs.ReachedFunctions.{text_is, text_same, at_extended, extends_read}
use Rattle.program_typing.proofs.TreesOfPrograms.{main_is_main}
use Rattle.well_typed.specs.Sources.{IsWellWritten}
use Rattle.well_typed.specs.Programs.{HasPlainMain, IsWellTyped}
use Rattle.well_typed.specs.Laws.{IsCheckedInstance, IsWellTypedWhereAccepted, AreInstancesChecked}
use Rattle.well_typed.proofs.Heads.{IsMade, is_made, function_at}
use Rattle.well_typed.proofs.Calling.{known_in}
use Rattle.well_typed.proofs.Functions.{good_instance}

abbrev main_text : List ℕ
main_text = codes "main"

-- THERE IS A `main`, AND IT IS PLAIN

record IsPlainMain (f : FunctionTree) : Type 0 where
  pub name : f.function.text ≡ main_text
  pub variables : f.variables ≡ []
  pub returned : f.returned ≡ result.Void
  pub parameters : f.parameters ≡ []

no_variables : (vs : List DomainVariable) → is_without vs ≡ true → vs ≡ []
no_variables [] e = refl
no_variables (v ∷ vs) e = cc

no_parameters : (ps : List Parameter) → is_without ps ≡ true → ps ≡ []
no_parameters [] e = refl
no_parameters (p ∷ ps) e = cc

no_result : (r : ResultType) → is_void r ≡ true → r ≡ result.Void
no_result result.Void e = refl
no_result (result.Value t) e = cc

plain_main : (f : FunctionTree) → is_main f ≡ true → IsPlainMain f
plain_main f e =
    let name = bytes_eq f.function.text main_text in
    let one = and_parts (name && is_without f.variables && is_void f.returned) (is_without f.parameters) e in
    let two = and_parts (name && is_without f.variables) (is_void f.returned) one.0 in
    let three = and_parts name (is_without f.variables) two.0 in
    record {
      name = text_is f.function.text main_text three.0;
      variables = no_variables f.variables three.1;
      returned = no_result f.returned two.1;
      parameters = no_parameters f.parameters one.1;
    }

-- a function of that name is there
main_named : (fs : List FunctionTree) (n : ℕ) → has_main fs ≡ true → (k : ℕ) × (f : FunctionTree) × (function_named main_text n fs ≡ Some (defined k f))
main_named [] n e = cc
main_named (g ∷ gs) n e = go (bytes_eq main_text g.function.text) (is_main g) refl refl e (main_named gs (n + 1))
  where
    go : (b c : Bool) → bytes_eq main_text g.function.text ≡ b → is_main g ≡ c → (c || has_main gs) ≡ true
        → (has_main gs ≡ true → (k : ℕ) × (f : FunctionTree) × (function_named main_text (n + 1) gs ≡ Some (defined k f)))
        → (k : ℕ) × (f : FunctionTree) × (cond b (Some (defined n g)) (function_named main_text (n + 1) gs) ≡ Some (defined k f))
    go true c q r h rest = (n, g, refl)
    go false true q r h rest =
        let no : false ≡ true = sym q ∙ text_same main_text g.function.text (sym (plain_main g r).name) in
        cc
    go false false q r h rest = rest h

-- the function that runs first
record IsFirst (p : ProgramTree) : Type 0 where
  pub number : ℕ
  pub function : FunctionTree
  pub named : callee (declared_by p) main_text ≡ Some (defined number function)
  pub plain : IsPlainMain function

first_is : (p : ProgramTree) → IsTypedProgram p → IsFirst p
first_is p t =
    let r = main_named (functions_of p.items) 0 t.main in
    record {
      number = r.0;
      function = r.1;
      named = r.2;
      plain = plain_main r.1 (main_is_main (declared_by p) p.items [] [] 0 r.0 r.1 t.items t.main r.2);
    }

-- it is the first that is reached, and so number 0
known_first : (d : Declared) (n : ℕ) (f : FunctionTree) → callee d main_text ≡ Some (defined n f) → (m : ℕ) → slice_get (known_after d m) zero ≡ Some f
known_first d n f e zero = ap (λ c. slice_get (with_callee [] main_text c) zero) e
known_first d n f e (suc m) = go (slice_get (known_after d m) m) (known_first d n f e m)
  where
    go : (o : Option FunctionTree) → slice_get (known_after d m) zero ≡ Some f → slice_get (read_one d (known_after d m) o) zero ≡ Some f
    go None h = h
    go (Some g) h = at_extended (known_after d m) (read_one d (known_after d m) (Some g)) zero f (extends_read d (known_after d m) g) h

first_at : (p : ProgramTree) (m : IsFirst p) → slice_get (order.reached (declared_by p)) zero ≡ Some m.function
first_at p m = known_first (declared_by p) m.number m.function m.named (length (functions_of p.items))

-- A TYPED PROGRAM

module _ (p : ProgramTree) (accepted : IsTypedProgram p) (functions : List TypedFunctionTree)
    (made : typed_functions (known_in p) (order.reached (declared_by p)) ≡ Some functions) where
  abbrev program : TypedProgramTree
  program = record { functions = functions }

  first : IsFirst p
  first = first_is p accepted

  typed_main : (t : TypedFunctionTree) × (slice_get functions zero ≡ Some t) × (typed_function (known_in p) first.function ≡ Some t)
  typed_main = function_at (known_in p) (order.reached (declared_by p)) functions zero first.function made (first_at p first)

  main_made : IsMade (known_in p) first.function typed_main.0
  main_made = is_made (known_in p) first.function typed_main.0 typed_main.2

  no_variable : typed_main.0.variables ≡ 0
  no_variable = main_made.variables ∙ ap length first.plain.variables

  pub has_plain_main : HasPlainMain program
  has_plain_main = record {
    called = typed_main.0;
    there = typed_main.1;
    variables = no_variable;
    parameters = main_made.parameters ∙ ap length first.plain.parameters;
    given = some_is typed_main.0.given given.Nothing (sym main_made.given ∙ ap (given_back (known_in p) first.function.variables) first.plain.returned);
  }

  main_checked : (i : Instance) → Among i (main_of program) → IsCheckedInstance p i
  main_checked i among = go (slice_get functions zero) typed_main.1 among
    where
      is_checked : (b : List BoundDomain) → b ≡ [] → IsCheckedInstance p (record { function = zero; binding = b })
      is_checked b e =
          let there = callee_there (declared_by p) main_text first.number first.function first.named in
          record {
            function = first.function;
            number = first.number;
            domains = [];
            named = first_at p first;
            there = there;
            count = sym (ap length first.plain.variables);
            binding = e;
            checked = plain first.number first.function there first.plain.variables;
          }

      go : (o : Option TypedFunctionTree) → o ≡ Some typed_main.0 → Among i (called zero o []) → IsCheckedInstance p i
      go None e m = cc
      go (Some t) e (inl same) =
          let count : t.variables ≡ 0 = ap (λ (z : TypedFunctionTree). z.variables) (some_is t typed_main.0 e) ∙ no_variable in
          subst (IsCheckedInstance p) (sym same) (is_checked (binding_of t []) (ap (λ n. bound_below n t.slots []) count))
      go (Some t) e (inr m) = absurd m

  pub checked_where_reached : IsWellWritten p → (i : Instance) → IsReached program i → IsCheckedInstance p i
  checked_where_reached w i (begins j m) = main_checked j m
  checked_where_reached w i (follows j k r m) = (good_instance p functions accepted w made j (checked_where_reached w j r)).called k m

  pub well_typed_where_reached : IsWellWritten p → IsWellTyped program
  well_typed_where_reached w =
      record { main = has_plain_main; instances = λ i r. (good_instance p functions accepted w made i (checked_where_reached w i r)).typed }

-- THE LAWS

pub accepted_well_typed : (p : ProgramTree) → IsWellTypedWhereAccepted p
accepted_well_typed p accepted w t e =
    let m = mapped program_of (typed_functions (known_in p) (order.reached (declared_by p))) t e in
    subst IsWellTyped m.is (well_typed_where_reached p (accepted_is_typed p accepted) m.part m.there w)

pub reached_checked : (p : ProgramTree) → AreInstancesChecked p
reached_checked p accepted w t e =
    let m = mapped program_of (typed_functions (known_in p) (order.reached (declared_by p))) t e in
    subst (λ z. (i : Instance) → IsReached z i → IsCheckedInstance p i) m.is (checked_where_reached p (accepted_is_typed p accepted) m.part m.there w)
