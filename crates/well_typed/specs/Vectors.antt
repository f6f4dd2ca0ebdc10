-- Which expressions and statements are well typed, worked out by hand.
use Rattle.std.specs.Prelude.{◌≡◌, ℕ, Bool, true, false, [], ◌∷◌, take, Option, Some, refl}
use Rattle.std.proofs.Common.{ap, sym, ◌∙◌, subst, arith}
use Rattle.std.proofs.lemmas.Option.{same_Some}
use Rattle.program_trees.specs.declared.expression.DataType.{DataType}
use Rattle.program_trees.specs.declared.expression.DataType.TheVariants.{Uint64, Int64}
use Rattle.program_trees.specs.declared.expression.DataType.TheVariants as datatype
use Rattle.program_trees.specs.declared.kinds.Shape.{Shape}
use Rattle.program_trees.specs.declared.kinds.SlotDomain.{SlotDomain}
use Rattle.program_trees.specs.declared.kinds.SlotDomain.TheVariants as slot
use Rattle.program_trees.specs.declared.kinds.Slot.{Slot}
use Rattle.program_trees.specs.declared.typed_function.Returned.TheVariants.{Nothing, Value}
use Rattle.program_trees.specs.declared.operators.OperatorSign.TheVariants.{Add, Divide, Less, And}
use Rattle.program_trees.specs.declared.operators.BinaryOperator.TheVariants.{Words, Ints}
use Rattle.program_trees.specs.declared.operators.Operands.TheVariants.{Scalars, ArrayAndScalar}
use Rattle.program_trees.specs.TypedTree.{TypedTree, truth_node, slot_node, call_node, sum_node, lookup_node, element_node, cast_node, binary_node, declassify_node, typed_trees_of}
use Rattle.program_trees.specs.TypedStatements.{if_statement, loop_statement, empty_statement, break_statement, return_statement, store_statement, typed_statements_of}
use Rattle.program_trees.specs.TypedPrograms.{TypedFunctionTree}
use Rattle.program_trees.specs.Operators.{cast_between}
use Rattle.program_trees.specs.Shapes.{shape_of}
use Rattle.reached_instances.specs.declared.instance.BoundDomain.TheVariants.{Private}
use Rattle.reached_instances.specs.Domains.{Setting, domain_under, binding_of}
use Rattle.well_typed.specs.Kinds.{scalar, array, GoesTo}
use Rattle.well_typed.specs.Expressions.{Gives, AreTaken}
use Rattle.well_typed.specs.Statements.{IsWellTypedStatement}

abbrev slot_of : SlotDomain → DataType → (array : Bool) → Slot
slot_of d element array = record { domain = d; shape = shape_of element array }

-- `template <domain D> D uint64 f(D uint64 x) { return x; }`
abbrev template : TypedFunctionTree
template =
    record {
      name = [];
      variables = 1;
      parameters = 1;
      slots = slot_of (slot.Variable 0) Uint64 false ∷ [];
      given = Value (slot_of (slot.Variable 0) Uint64 false);
      body = typed_statements_of (return_statement (Some (slot_node 0)) ∷ []);
      size = 5;
    }

-- slot 0 a public word, 1 one in the domain 0, 2 one in what is bound to the domain 5, 3 an array of words in the domain 0
abbrev here : Setting
here =
    record {
      functions = template ∷ [];
      slots = slot_of slot.Public Uint64 false ∷ slot_of (slot.Private 0) Uint64 false ∷ slot_of (slot.Variable 0) Uint64 false
          ∷ slot_of (slot.Private 0) Uint64 true ∷ [];
      binding = Private 5 ∷ [];
    }

-- EXPRESSIONS

abbrev public_slot : Slot
public_slot = slot_of slot.Public Uint64 false

abbrev private_slot : Slot
private_slot = slot_of (slot.Private 0) Uint64 false

abbrev array_slot : Slot
array_slot = slot_of (slot.Private 0) Uint64 true

-- a private word and a public one may be added, a private array and a public word too
added : Gives here (binary_node 2 (Words Add) Scalars (slot_node 1) (slot_node 0)) (Some (scalar Uint64))
added = ((private_slot, refl, refl), (public_slot, refl, refl), tt, (λ e. cc), refl)

array_added : Gives here (binary_node 2 (Words Add) ArrayAndScalar (slot_node 3) (slot_node 0)) (Some (array Uint64))
array_added = ((array_slot, refl, refl), (public_slot, refl, refl), tt, (λ e. cc), refl)

-- two private domains do not meet, and what is private is not divided
two_domains : (g : Option Shape) → Gives here (binary_node 2 (Words Add) Scalars (slot_node 1) (slot_node 2)) g → ⊥
two_domains g h = no_five h.2
  where
    no_five : ◌≡◌ {A = ℕ} 0 5 → ⊥
    no_five e = omega arith

private_divided : (g : Option Shape) → Gives here (binary_node 2 (Words Divide) Scalars (slot_node 1) (slot_node 0)) g → ⊥
private_divided g h = let same = h.3 refl in cc

-- an index is public
indexed : Gives here (element_node 2 (slot_node 3) (slot_node 0)) (Some (scalar Uint64))
indexed = (Uint64, (array_slot, refl, refl), (public_slot, refl, refl), refl, refl)

private_index : (g : Option Shape) → Gives here (element_node 2 (slot_node 3) (slot_node 1)) g → ⊥
private_index g h = let seen = h.3 in cc

-- a look-up has a private operand, be it the array or the index, and an index without a sign
looked_up : Gives here (lookup_node 2 (slot_node 3) (slot_node 0)) (Some (scalar Uint64))
looked_up = (Uint64, false, (array_slot, refl, refl), (public_slot, refl, refl), tt, tt, refl, refl)

looked_up_in_secret : Gives here (lookup_node 2 (slot_node 3) (slot_node 1)) (Some (scalar Uint64))
looked_up_in_secret = (Uint64, false, (array_slot, refl, refl), (private_slot, refl, refl), tt, refl, refl, refl)

looked_up_by_many : Gives here (lookup_node 2 (slot_node 3) (slot_node 3)) (Some (array Uint64))
looked_up_by_many = (Uint64, true, (array_slot, refl, refl), (array_slot, refl, refl), tt, refl, refl, refl)

public_looked_up : (g : Option Shape) → Gives here (lookup_node 2 (slot_node 0) (slot_node 0)) g → ⊥
public_looked_up g h = let seen = h.6 in cc

-- numbers with a sign meet their like alone, and no operator works on their bits
abbrev as_signed : TypedTree → TypedTree
as_signed e = cast_node (cast_between Uint64 Int64) e

signed_added : Gives here (binary_node 2 (Ints Add) Scalars (as_signed (slot_node 1)) (as_signed (slot_node 0))) (Some (scalar Int64))
signed_added = ((false, (private_slot, refl, refl), refl), (false, (public_slot, refl, refl), refl), tt, (refl, λ e. cc), refl)

signed_summed : Gives here (sum_node (as_signed (slot_node 3))) (Some (scalar Int64))
signed_summed = (Int64, (true, (array_slot, refl, refl), refl), tt, refl)

signs_mixed : (g : Option Shape) → Gives here (binary_node 2 (Ints Add) Scalars (as_signed (slot_node 0)) (slot_node 0)) g → ⊥
signs_mixed g h = go h.1.0 h.1.1 h.1.2
  where
    go : (s : Slot) → Some public_slot ≡ Some s → Some (scalar Int64) ≡ Some s.shape → ⊥
    go s e f = let no : Uint64 ≡ Int64 = ap (λ (z : Shape). z.element) (ap (λ (z : Slot). z.shape) (same_Some public_slot s e) ∙ sym (same_Some (scalar Int64) s.shape f)) in cc

bits_of_signed : (g : Option Shape) → Gives here (binary_node 2 (Ints And) Scalars (as_signed (slot_node 0)) (as_signed (slot_node 0))) g → ⊥
bits_of_signed g h = let no = h.3.0 in cc

-- a call binds its parameter's domain to that of its argument, and gives back a value of its shape
called : Gives here (call_node 2 0 (typed_trees_of (slot_node 1 ∷ []))) (Some (scalar Uint64))
called = (template, refl, ((private_slot, refl, refl), refl, tt), refl)

-- as many arguments as parameters
without_argument : (g : Option Shape) → Gives here (call_node 2 0 (typed_trees_of [])) g → ⊥
without_argument g h = go h.0 h.1 h.2
  where
    go : (f : TypedFunctionTree) → Some template ≡ Some f → AreTaken here (binding_of f []) (take f.parameters f.slots) (typed_trees_of []) → ⊥
    go f e = subst (λ (z : TypedFunctionTree). AreTaken here (binding_of z []) (take z.parameters z.slots) (typed_trees_of []) → ⊥)
        (same_Some template f e) (λ n. n)

-- STATEMENTS

-- a private value is stored in a slot of its own domain, and not in a public one
stored : IsWellTypedStatement here Nothing false (store_statement 1 (slot_node 1))
stored = (private_slot, refl, ((private_slot, refl, refl), refl))

stored_in_public : IsWellTypedStatement here Nothing false (store_statement 0 (slot_node 1)) → ⊥
stored_in_public h = go h.0 h.1 h.2.1
  where
    go : (s : Slot) → Some public_slot ≡ Some s → GoesTo (Private 0) (domain_under here.binding s.domain) → ⊥
    go s e = subst (λ (z : Slot). GoesTo (Private 0) (domain_under here.binding z.domain) → ⊥) (same_Some public_slot s e) (λ n. n)

-- a loop's body may break, and nothing else may
broken : IsWellTypedStatement here Nothing false (loop_statement (truth_node true) empty_statement break_statement)
broken = ((refl, refl), tt, refl)

broken_outside : IsWellTypedStatement here Nothing false (if_statement (truth_node true) break_statement empty_statement) → ⊥
broken_outside h = let inside = h.1 in cc

-- a condition is public, if only by `declassify`
private_condition : IsWellTypedStatement here Nothing false
    (if_statement (binary_node 2 (Words Less) Scalars (slot_node 1) (slot_node 0)) empty_statement empty_statement) → ⊥
private_condition h = let seen = h.0.1 in cc

opened_condition : IsWellTypedStatement here Nothing false
    (if_statement (declassify_node (binary_node 2 (Words Less) Scalars (slot_node 1) (slot_node 0))) empty_statement empty_statement)
opened_condition = (((scalar datatype.Bool, ((private_slot, refl, refl), (public_slot, refl, refl), tt, (λ e. cc), refl), refl), refl), tt, tt)
