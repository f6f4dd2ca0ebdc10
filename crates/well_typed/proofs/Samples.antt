-- A program with a private call, for which all premises of the laws are proved, and what the laws say of it.
use Rattle.std.proofs.Common.{◌≡◌, ℕ, zero, suc, List, [], ◌∷◌, ◌⊎◌, inl, inr, refl, sym, ap, ap₂, ◌∙◌, subst, Some, None, false, arith}
use Rattle.std.specs.Prelude.{codes}
use Rattle.std.specs.List.{slice_get}
use Rattle.std.proofs.lemmas.Option.{same_Some}
use Rattle.sc_text.specs.declared.span.Span.{Span}
use Rattle.program_trees.specs.declared.expression.DataType.TheVariants.{Uint64}
use Rattle.program_trees.specs.declared.expression.Operator.TheVariants.{Add}
use Rattle.program_trees.specs.declared.statement.Domain.{Domain}
use Rattle.program_trees.specs.declared.statement.Domain.TheVariants as domain
use Rattle.program_trees.specs.declared.statement.Identifier.{Identifier}
use Rattle.program_trees.specs.declared.statement.DeclaredType.{DeclaredType}
use Rattle.program_trees.specs.declared.function.ResultType.TheVariants as result
use Rattle.program_trees.specs.Tree.{number, variable, call, binary, declassify, argument, publish, trees_of}
use Rattle.program_trees.specs.Statements.{returns, declaration, evaluation, statements_of}
use Rattle.program_trees.specs.Programs.{FunctionTree, imports, domain as domains_item, defines, ProgramTree}
use Rattle.domain_types.specs.declared.value_type.Protection.TheVariants as checked
use Rattle.domain_types.specs.declared.value_type.ValueType.{ValueType}
use Rattle.domain_types.specs.declared.value_type.ExpressionType.TheVariants.{Void}
use Rattle.domain_types.specs.Types.{public_scalar}
use Rattle.domain_types.specs.Declarations.{Declared, declared_by, functions_of, defined}
use Rattle.domain_types.specs.ExpressionTypes.{within, defined_faults}
use Rattle.sc_text.specs.Lists.{Among}
use Rattle.domain_types.specs.Reached.{Call, Instance, Calls, IsChecked, plain, reached, function_calls}
use Rattle.domain_types.specs.ProgramTypes.{IsAccepted}
use Rattle.domain_types.specs.Typing.{IsTypedFunction, AreDomainVariables, IsTypedProgram}
use Rattle.domain_types.proofs.TypingPrograms.{typed_is_accepted}
use Rattle.program_trees.specs.declared.kinds.SlotDomain.TheVariants as slot
use Rattle.program_trees.specs.declared.typed_function.Returned.TheVariants.{Nothing, Value}
use Rattle.program_trees.specs.declared.operators.OperatorSign.TheVariants as word
use Rattle.program_trees.specs.declared.operators.BinaryOperator.TheVariants.{Words}
use Rattle.program_trees.specs.declared.operators.Operands.TheVariants.{Scalars}
use Rattle.program_trees.specs.TypedTree.{word_node, slot_node, call_node, binary_node, declassify_node, typed_trees_of}
use Rattle.program_trees.specs.TypedStatements.{return_statement, input_statement, publish_statement, typed_statements_of}
use Rattle.program_trees.specs.TypedPrograms.{TypedProgramTree}
use Rattle.program_trees.specs.Shapes.{shape_of}
use Rattle.name_resolution.specs.Functions.{typed_of}
use Rattle.reached_instances.specs.declared.instance.BoundDomain.TheVariants.{Private}
use Rattle.reached_instances.specs.Reached.{IsReached, begins, follows}
use Rattle.reached_instances.specs.Instances as typed
use Rattle.well_typed.specs.Sources.{IsWellWritten}
use Rattle.well_typed.specs.Programs.{IsWellTyped, IsWellTypedInstance}
use Rattle.well_typed.specs.Laws.{IsCheckedInstance}
use Rattle.well_typed.proofs.Reaching.{accepted_well_typed, reached_checked}

-- import shared3p;
-- domain p shared3p;
-- template <domain D> D uint64 f(D uint64 x) { return x + 1; }
-- void main() { p uint64 a = argument("a"); publish("c", declassify(f(a))); }

abbrev at : Span
at = record { line = 1; column = 1 }

abbrev named : List ℕ → Identifier
named x = record { place = at; text = x }

abbrev word_in : Domain → DeclaredType
word_in d = record { place = at; domain = d; element = Uint64; array = false }

abbrev template : FunctionTree
template =
    record {
      variables = record { variable = named (codes "D"); kind = None } ∷ [];
      returned = result.Value (word_in (domain.Named (named (codes "D"))));
      function = named (codes "f");
      parameters = record { declared = word_in (domain.Named (named (codes "D"))); variable = named (codes "x") } ∷ [];
      body = record { place = at; statements = statements_of (returns at (Some (binary at Add (variable at (codes "x")) (number at 1))) ∷ []) };
    }

abbrev main : FunctionTree
main =
    record {
      variables = [];
      returned = result.Void;
      function = named (codes "main");
      parameters = [];
      body = record {
        place = at;
        statements = statements_of (declaration
            (record {
              declared = word_in (domain.Named (named (codes "p")));
              variable = named (codes "a");
              size = None;
              value =
                  Some (argument at (codes "a"));
            })
            ∷ evaluation (publish at (codes "c") (declassify at (call at (codes "f") (trees_of (variable at (codes "a") ∷ []))))) ∷ []);
      };
    }

abbrev sample : ProgramTree
sample =
    record {
      items = imports (named (codes "shared3p")) ∷ domains_item (named (codes "p")) (named (codes "shared3p")) ∷ defines template
          ∷ defines main ∷ [];
      end = at;
    }

abbrev d : Declared
d = declared_by sample

-- IT IS TYPED

abbrev private_word : ValueType
private_word = record { domain = checked.Private 0; element = Uint64; array = false }

template_typed : IsTypedFunction (within d template (checked.Private 0 ∷ [])) template
template_typed =
    record {
      parameters = (refl, refl, tt);
      body = (
        (
          private_word,
          refl,
          (
            private_word,
            (
              private_word,
              public_scalar Uint64,
              private_word,
              (private_word, refl, refl),
              refl,
              record { same = refl; meets = refl; operates = (inl refl, refl); dimension = refl },
              refl,
            ),
            (refl, refl, refl),
          ),
        ),
        tt,
      );
      result = (refl, refl);
    }

main_typed : IsTypedFunction (within d main []) main
main_typed =
    record {
      parameters = tt;
      body = (
        record { held = private_word; written = refl; new = refl; initial = inl refl },
        (
          (
            Void,
            (
              public_scalar Uint64,
              (
                private_word,
                (
                  defined 0 template,
                  record { place = at; given = private_word } ∷ [],
                  refl,
                  ((private_word, refl, refl), refl, refl),
                  record { domains = checked.Private 0 ∷ []; bound = (refl, tt, refl); taken = ((refl, refl, refl), tt); gives = refl },
                ),
                refl,
              ),
              refl,
            ),
          ),
          tt,
        ),
      );
      result = tt;
    }

template_head : AreDomainVariables d sample.items template.parameters [] template.variables
template_head = (record { kind = tt; new = refl; no_domain = refl; not_imported = refl; used = refl }, tt)

abbrev instance_of_main : Instance
instance_of_main = record { function = 1; binding = [] }

abbrev instance_of_template : Instance
instance_of_template = record { function = 0; binding = checked.Private 0 ∷ [] }

abbrev the_call : Call
the_call = record { function = 0; binding = Some (checked.Private 0 ∷ []) }

-- the one call
main_calls : function_calls (within d main []) main ≡ the_call ∷ []
unfolding defined_faults
main_calls = refl

-- each checked instance is one of the two
abbrev IsOne : Instance → Type 0
IsOne i = (i ≡ instance_of_main) ⊎ (i ≡ instance_of_template)

plain_is_one : (k : ℕ) (f : FunctionTree) → slice_get (functions_of sample.items) k ≡ Some f → f.variables ≡ [] → IsOne (record { function = k; binding = [] })
plain_is_one zero f e v = let no : template.variables ≡ [] = ap (λ (z : FunctionTree). z.variables) (same_Some template f e) ∙ v in cc
plain_is_one (suc zero) f e v = inl refl
plain_is_one (suc (suc k)) f e v = cc

calls_of_main : (c : Call) (f : FunctionTree) → slice_get (functions_of sample.items) 1 ≡ Some f → Among c (function_calls (within d f []) f) → c ≡ the_call
calls_of_main c f e m = go (subst (Among c) (ap (λ z. function_calls (within d z []) z) (sym (same_Some main f e)) ∙ main_calls) m)
  where
    go : Among c (the_call ∷ []) → c ≡ the_call
    go (inl q) = q
    go (inr n) = absurd n

calls_of_template : (c : Call) (f : FunctionTree) → slice_get (functions_of sample.items) 0 ≡ Some f
    → Among c (function_calls (within d f (checked.Private 0 ∷ [])) f) → ⊥
calls_of_template c f e m = subst (λ z. Among c (function_calls (within d z (checked.Private 0 ∷ [])) z) → ⊥) (same_Some template f e) (λ n. n) m

-- a call of one of the two
call_is : (i : Instance) (c : Call) → IsOne i → Calls sample i c → (i ≡ instance_of_main) × (c ≡ the_call)
call_is i c (inl q) h =
    let there = sym (ap (λ (z : Instance). slice_get (functions_of sample.items) z.function) q) ∙ h.there in
    (q, calls_of_main c h.called_in there (subst (λ (z : Instance). Among c (function_calls (within d h.called_in z.binding) h.called_in)) q h.calls))
call_is i c (inr q) h =
    let there = sym (ap (λ (z : Instance). slice_get (functions_of sample.items) z.function) q) ∙ h.there in
    absurd (calls_of_template c h.called_in there (subst (λ (z : Instance). Among c (function_calls (within d h.called_in z.binding) h.called_in)) q h.calls))

checked_is_one : (i : Instance) → IsChecked sample i → IsOne i
checked_is_one i (plain k f e v) = plain_is_one k f e v
checked_is_one i (reached j k ds c h) =
    let r = call_is j (record { function = k; binding = Some ds }) (checked_is_one j c) h in
    inr (same r.1)
  where
    same : (record { function = k; binding = Some ds }) ≡ the_call → (record { function = k; binding = ds }) ≡ instance_of_template
    same e =
        let number : k ≡ 0 = ap (λ (z : Call). z.function) e in
        let domains = same_Some ds (checked.Private 0 ∷ []) (ap (λ (z : Call). z.binding) e) in
        ap₂ (λ n bs. record { function = n; binding = bs }) number domains

one_typed : (i : Instance) → IsOne i → (f : FunctionTree) → slice_get (functions_of sample.items) i.function ≡ Some f → IsTypedFunction (within d f i.binding) f
one_typed i (inl q) f e =
    let there = sym (ap (λ (z : Instance). slice_get (functions_of sample.items) z.function) q) ∙ e in
    subst (λ (z : Instance). IsTypedFunction (within d f z.binding) f) (sym q)
    (subst (λ g. IsTypedFunction (within d g []) g) (same_Some main f there) main_typed)
one_typed i (inr q) f e =
    let there = sym (ap (λ (z : Instance). slice_get (functions_of sample.items) z.function) q) ∙ e in
    subst (λ (z : Instance). IsTypedFunction (within d f z.binding) f) (sym q)
    (subst (λ g. IsTypedFunction (within d g (checked.Private 0 ∷ [])) g) (same_Some template f there) template_typed)

sample_typed : IsTypedProgram sample
sample_typed =
    record {
      items = (refl, (((refl, refl), refl), ((refl, refl), ((refl, refl), tt))));
      main = refl;
      functions = λ i f c e. one_typed i (checked_is_one i c) f e;
      heads = λ i c f k h e.
          let r = call_is i c (checked_is_one i k) h in
          let there = sym (ap (λ (z : Call). slice_get (functions_of sample.items) z.function) r.1) ∙ e in
          subst (λ (g : FunctionTree). AreDomainVariables d sample.items g.parameters [] g.variables) (same_Some template f there) template_head;
    }

sample_accepted : IsAccepted sample
sample_accepted = typed_is_accepted sample sample_typed

sample_written : IsWellWritten sample
sample_written = (((tt, omega arith), tt), (((tt, tt), ((tt, tt), tt)), tt))

-- WHAT THE LAWS SAY OF IT

abbrev sample_tree : TypedProgramTree
sample_tree =
    record {
      functions = record {
        name = codes "main";
        variables = 0;
        parameters = 0;
        slots = record { domain = slot.Private 0; shape = shape_of Uint64 false } ∷ [];
        given = Nothing;
        body = typed_statements_of (input_statement 1 0 (codes "a")
            ∷ publish_statement (codes "c") (declassify_node (call_node 1 1 (typed_trees_of (slot_node 0 ∷ [])))) ∷ []);
        size = 9;
      } ∷ record {
        name = codes "f";
        variables = 1;
        parameters = 1;
        slots = record { domain = slot.Variable 0; shape = shape_of Uint64 false } ∷ [];
        given = Value (record { domain = slot.Variable 0; shape = shape_of Uint64 false });
        body = typed_statements_of (return_statement (Some (binary_node 1 (Words word.Add) Scalars (slot_node 0) (word_node 1))) ∷ []);
        size = 7;
      } ∷ [];
    }

sample_resolved : typed_of sample ≡ Some sample_tree
sample_resolved = refl

sample_well_typed : IsWellTyped sample_tree
sample_well_typed = accepted_well_typed sample sample_accepted sample_written sample_tree sample_resolved

-- `f` is reached with its domain variable bound to p
abbrev private_template : typed.Instance
private_template = record { function = 1; binding = Private 0 ∷ [] }

template_reached : IsReached sample_tree private_template
template_reached = follows (record { function = 0; binding = [] }) private_template (begins (record { function = 0; binding = [] }) (inl refl)) (inl refl)

template_well_typed : IsWellTypedInstance sample_tree private_template
template_well_typed = sample_well_typed.instances private_template template_reached

template_checked : IsCheckedInstance sample private_template
template_checked = reached_checked sample sample_accepted sample_written sample_tree sample_resolved private_template template_reached
