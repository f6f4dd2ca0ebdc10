-- Two programs whose typing was worked out by hand: one that is typed, and one that isn't.
use Rattle.std.proofs.Common.{◌≡◌, ℕ, zero, suc, List, [], ◌∷◌, inl, refl, sym, subst, Some, None, false}
use Rattle.std.specs.Prelude.{codes}
use Rattle.std.specs.List.{slice_get}
use Rattle.std.proofs.lemmas.Option.{none-some, same_Some}
use Rattle.sc_text.specs.declared.span.Span.{Span}
use Rattle.program_trees.specs.declared.expression.DataType.TheVariants as datatype
use Rattle.program_trees.specs.declared.expression.Operator.TheVariants.{Multiply}
use Rattle.program_trees.specs.declared.statement.Domain.TheVariants as domain
use Rattle.program_trees.specs.declared.statement.Identifier.{Identifier}
use Rattle.program_trees.specs.declared.statement.DeclaredType.{DeclaredType}
use Rattle.program_trees.specs.declared.function.ResultType.TheVariants as returned
use Rattle.program_trees.specs.Tree.{variable, binary, declassify, argument, publish}
use Rattle.program_trees.specs.Statements.{StatementTree, declaration, evaluation, statements_of}
use Rattle.program_trees.specs.Programs.{FunctionTree, imports, domain as domain_item, defines, ProgramTree}
use Rattle.domain_types.specs.declared.fault.TypeProblem.TheVariants.{PrivateToPublic}
use Rattle.domain_types.specs.declared.value_type.Protection.{Protection}
use Rattle.declarations.specs.Declarations.{declared_by}
use Rattle.domain_types.specs.ExpressionTypes.{within, operator_faults, operator_type}
use Rattle.sc_text.specs.Lists.{Among}
use Rattle.domain_types.specs.Reached.{Call, Calls, Instance, function_calls, plain}
use Rattle.domain_types.specs.ProgramTypes.{inside}
use Rattle.domain_types.specs.Typing.{IsTypedFunction, IsTypedProgram}
use Rattle.domain_types.proofs.TypingFunctions.{is_typed_function}
use Rattle.domain_types.proofs.TypingPrograms.{typed_is_accepted}

-- a place: line and column
abbrev at : ℕ → ℕ → Span
at l c = record { line = l; column = c }

abbrev named : Span → List ℕ → Identifier
named p x = record { place = p; text = x }

abbrev private_word : Span → DeclaredType
private_word p = record { place = p; domain = domain.Named (named p (codes "p")); element = datatype.Uint64; array = false }

abbrev public_word : Span → DeclaredType
public_word p = record { place = p; domain = domain.Public; element = datatype.Uint64; array = false }

-- line 1 is `import shared3p; domain p shared3p; void main() {`, line 2 these statements, line 3 `}`
abbrev main_of : List StatementTree → FunctionTree
main_of ss =
    record {
      variables = [];
      returned = returned.Void;
      function = named (at 1 42) (codes "main");
      parameters = [];
      body = record { place = at 1 49; statements = statements_of ss };
    }

abbrev program_of : List StatementTree → ProgramTree
program_of ss =
    record {
      items = imports (named (at 1 8) (codes "shared3p")) ∷ domain_item (named (at 1 25) (codes "p")) (named (at 1 27) (codes "shared3p"))
          ∷ defines (main_of ss) ∷ [];
      end = at 3 2;
    }

-- p uint64 a = argument("a");
abbrev input : StatementTree
input = declaration (record {
  declared = private_word (at 2 1);
  variable = named (at 2 10) (codes "a");
  size = None;
  value =
      Some (argument (at 2 14) (codes "a"));
})

-- publish("c", declassify(a * a));
abbrev output : StatementTree
output = evaluation (publish (at 2 29) (codes "c")
    (declassify (at 2 42) (binary (at 2 53) Multiply (variable (at 2 53) (codes "a")) (variable (at 2 57) (codes "a")))))

-- uint64 c = a;
abbrev leak : StatementTree
leak = declaration (record {
  declared = public_word (at 2 29);
  variable = named (at 2 36) (codes "c");
  size = None;
  value =
      Some (variable (at 2 40) (codes "a"));
})

abbrev square : List StatementTree
square = input ∷ output ∷ []

only_main : (k : ℕ) (f : FunctionTree) → slice_get (main_of square ∷ []) k ≡ Some f → main_of square ≡ f
only_main zero f e = same_Some (main_of square) f e
only_main (suc k) f e = absurd (none-some f e)

main_typed : (ds : List Protection) → IsTypedFunction (within (declared_by (program_of square)) (main_of square) ds) (main_of square)
unfolding operator_faults operator_type
main_typed ds = is_typed_function (within (declared_by (program_of square)) (main_of square) ds) (main_of square) (λ c m. absurd m) refl

calls_nothing : (i : Instance) (c : Call) → Calls (program_of square) i c → ⊥
calls_nothing i c h =
    subst (λ f. Among c (function_calls (within (declared_by (program_of square)) f i.binding) f)) (sym (only_main i.function h.called_in h.there)) h.calls

-- a private word may be squared, and its square published
square_is_typed : IsTypedProgram (program_of square)
square_is_typed =
    record {
      items = (refl, ((((refl, refl)), refl), ((refl, refl), tt)));
      main = refl;
      functions =
          λ i f c there. subst (λ g. IsTypedFunction (within (declared_by (program_of square)) g i.binding) g) (only_main i.function f there)
          (main_typed i.binding);
      heads = λ i c f checked made there. absurd (calls_nothing i c made);
    }

abbrev leaking : List StatementTree
leaking = input ∷ leak ∷ []

-- but not stored where it's public
leak_is_not_typed : IsTypedProgram (program_of leaking) → ⊥
leak_is_not_typed t =
    (typed_is_accepted (program_of leaking) t).faultless (record { place = at 2 40; problem = PrivateToPublic })
    (inside (record { function = 0; binding = [] }) (main_of leaking) (record { place = at 2 40; problem = PrivateToPublic })
    (plain 0 (main_of leaking) refl refl) refl (inl refl))
