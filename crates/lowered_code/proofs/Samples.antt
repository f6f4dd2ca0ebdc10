-- A program with a template that main calls with a private value: all premises of the laws are there, and its raw code is computed.
use Rattle.std.proofs.Common.{◌≡◌, ℕ, zero, suc, ◌≤◌, length, List, [], ◌∷◌, Some, None, true, false, refl, sym, subst, arith, inl, inr}
use Rattle.std.specs.Prelude.{codes, slice_get}
use Rattle.std.proofs.lemmas.Option.{none-some, same_Some}
use Rattle.sc_text.specs.Lists.{Among}
use Rattle.program_trees.specs.declared.expression.DataType.TheVariants.{Uint64, Int64}
use Rattle.program_trees.specs.declared.expression.DataType.TheVariants as datatype
use Rattle.program_trees.specs.declared.kinds.SlotDomain.TheVariants as slot
use Rattle.program_trees.specs.declared.typed_function.Returned.TheVariants.{Nothing, Value}
use Rattle.program_trees.specs.declared.operators.OperatorSign.TheVariants as word
use Rattle.program_trees.specs.declared.operators.BinaryOperator.TheVariants.{Words}
use Rattle.program_trees.specs.declared.operators.Operands.TheVariants.{Scalars}
use Rattle.program_trees.specs.TypedTree.{word_node, slot_node, call_node, binary_node, declassify_node, typed_trees_of}
use Rattle.program_trees.specs.TypedStatements.{return_statement, input_statement, publish_statement, typed_statements_of}
use Rattle.program_trees.specs.TypedPrograms.{TypedFunctionTree, TypedProgramTree}
use Rattle.program_trees.specs.Shapes.{shape_of}
use Rattle.reached_instances.specs.declared.instance.BoundDomain.TheVariants.{Private}
use Rattle.reached_instances.specs.Instances.{Instance}
use Rattle.reached_instances.specs.Reached.{IsReached, begins, follows, IsReachedList}
use Rattle.reached_instances.proofs.ReachedLists.{has_each_reached}
use Rattle.bytecode.specs.declared.kind.Kind.{Kind}
use Rattle.bytecode.specs.Raw.{RawCode}
use Rattle.bytecode.specs.Raw as raw
use Rattle.verified_code.specs.Settled.{settled}
use Rattle.verified_code.specs.Steps.{Function}
use Rattle.verified_code.specs.Verified.{IsVerified}
use Rattle.code_model.specs.Fit.{the_main}
use Rattle.code_model.specs.Programs.{code_of}
use Rattle.well_typed.specs.Programs.{IsWellTypedInstance, IsWellTyped}
use Rattle.lowered_code.specs.Laws.{HasNumberedRegisters}
use Rattle.lowered_code.specs.RawCodes.{raw_code_of_program}
use Rattle.lowered_code.proofs.Verified.{well_typed_verified}

-- template <domain D> D uint64 f(D uint64 x) { return x + 1; }
-- void main() { p uint64 a = argument("a"); publish("c", declassify(f(a))); }

abbrev main_function : TypedFunctionTree
main_function =
    record {
      name = codes "main";
      variables = 0;
      parameters = 0;
      slots = record { domain = slot.Private 0; shape = shape_of Uint64 false } ∷ [];
      given = Nothing;
      body = typed_statements_of (input_statement 1 0 (codes "a")
          ∷ publish_statement (codes "c") (declassify_node (call_node 1 1 (typed_trees_of (slot_node 0 ∷ [])))) ∷ []);
      size = 9;
    }

abbrev template : TypedFunctionTree
template =
    record {
      name = codes "f";
      variables = 1;
      parameters = 1;
      slots = record { domain = slot.Variable 0; shape = shape_of Uint64 false } ∷ [];
      given = Value (record { domain = slot.Variable 0; shape = shape_of Uint64 false });
      body = typed_statements_of (return_statement (Some (binary_node 1 (Words word.Add) Scalars (slot_node 0) (word_node 1))) ∷ []);
      size = 7;
    }

abbrev program : TypedProgramTree
program = record { functions = main_function ∷ template ∷ [] }

abbrev the_template : Instance
the_template = record { function = 1; binding = Private 0 ∷ [] }

abbrev instances : List Instance
instances = the_main ∷ the_template ∷ []

-- ---- PREMISES

main_reached : IsReached program the_main
main_reached = begins the_main (inl refl)

listed : IsReachedList program instances
listed = record {
  in_order = refl;
  reached = λ i m. of i m;
}
  where
    of : (i : Instance) → Among i instances → IsReached program i
    of i (inl e) = subst (IsReached program) (sym e) main_reached
    of i (inr (inl e)) = subst (IsReached program) (sym e) (follows the_main the_template main_reached (inl refl))
    of i (inr (inr e)) = absurd e

main_typed : IsWellTypedInstance program the_main
main_typed = record {
  called = main_function;
  there = refl;
  bound = refl;
  parameters = omega arith;
  body = (
    (record { domain = slot.Private 0; shape = shape_of Uint64 false }, refl),
    (
      (
        shape_of Uint64 false,
        (shape_of Uint64 false, (template, refl, ((record { domain = slot.Private 0; shape = shape_of Uint64 false }, refl, refl), refl, tt), refl), refl),
      ),
      tt,
    ),
  );
  returns = tt;
}

template_typed : IsWellTypedInstance program the_template
template_typed = record {
  called = template;
  there = refl;
  bound = refl;
  parameters = omega arith;
  body = (
    (
      ((record { domain = slot.Variable 0; shape = shape_of Uint64 false }, refl, refl), (omega arith, refl), tt, (λ e. cc), refl),
      refl,
    ),
    tt,
  );
  returns = refl;
}

well_typed : IsWellTyped program
well_typed = record {
  main = record { called = main_function; there = refl; variables = refl; parameters = refl; given = refl };
  instances = λ i r. of i (has_each_reached program instances i listed r);
}
  where
    of : (i : Instance) → Among i instances → IsWellTypedInstance program i
    of i (inl e) = subst (IsWellTypedInstance program) (sym e) main_typed
    of i (inr (inl e)) = subst (IsWellTypedInstance program) (sym e) template_typed
    of i (inr (inr e)) = absurd e

-- ---- ITS RAW CODE

abbrev private_word : Kind
private_word = record { secret = true; element = Uint64; array = false }

abbrev word_kind : Kind
word_kind = record { secret = false; element = Uint64; array = false }

abbrev signed_kind : Kind
signed_kind = record { secret = false; element = Int64; array = false }

abbrev default_registers : List Kind → List Kind
default_registers more =
    word_kind ∷ record { secret = false; element = Uint64; array = true } ∷ signed_kind ∷ record { secret = false; element = Int64; array = true }
    ∷ record { secret = false; element = datatype.Bool; array = false } ∷ record { secret = false; element = datatype.Bool; array = true } ∷ more

-- the registers of one row
abbrev a_row : List Kind → List Kind
a_row more =
    default_registers (private_word ∷ record { secret = true; element = Uint64; array = true } ∷ record { secret = true; element = Int64; array = false }
    ∷ record { secret = true; element = Int64; array = true } ∷ record { secret = true; element = datatype.Bool; array = false }
    ∷ record { secret = true; element = datatype.Bool; array = true } ∷ more)

sample_code : RawCode
sample_code =
    record {
      names = codes "a" ∷ codes "c" ∷ [];
      functions = record {
        parameters = 0;
        gives = None;
        registers = private_word ∷ default_registers (a_row []);
        body = raw.Argument 13 0 1 ∷ raw.Store 0 13 ∷ raw.Call 1 13 (0 ∷ []) 1 ∷ raw.Declassify 7 13 ∷ raw.Publish 1 7 ∷ raw.ReturnNone ∷ [];
      } ∷ record {
        parameters = 1;
        gives = Some private_word;
        registers = private_word ∷ default_registers (a_row (a_row (private_word ∷ [])));
        body = raw.Literal 19 1 ∷ raw.Classify 25 19 ∷ raw.Binary 0 13 0 25 1 ∷ raw.Return 13 ∷ raw.Return 31 ∷ [];
      } ∷ [];
    }

sample_lowered : raw_code_of_program program instances ≡ sample_code
unfolding sample_code
sample_lowered = refl

few_registers : HasNumberedRegisters (code_of program instances)
few_registers f there = go there.0 there.1
  where
    go : (g : ℕ) → slice_get (code_of program instances) g ≡ Some f → length f.kinds ≤ 65535
    go zero e = subst (λ (h : Function). length h.kinds ≤ 65535) (same_Some _ f e) (omega arith)
    go (suc zero) e = subst (λ (h : Function). length h.kinds ≤ 65535) (same_Some _ f e) (omega arith)
    go (suc (suc g)) e = absurd (none-some _ e)

-- so it is verified, and settles to the code that means what the program does
sample_verified : IsVerified (raw_code_of_program program instances) × (settled (raw_code_of_program program instances) ≡ code_of program instances)
sample_verified = well_typed_verified program instances well_typed listed few_registers
