-- Who may see what an expression gives, where the domain variables of its function are bound.
use Rattle.std.specs.Prelude.{ℕ, zero, suc, Bool, true, false, nat_eq, if◌then◌else◌, List, [], ◌∷◌, ◌++◌, Option, Some, None, unwrap_or}
use Rattle.std.specs.List.{slice_get}
use Rattle.program_trees.specs.declared.expression.DataType.TheVariants.{Uint64}
use Rattle.program_trees.specs.declared.kinds.Shape.{Shape}
use Rattle.program_trees.specs.declared.kinds.SlotDomain.{SlotDomain}
use Rattle.program_trees.specs.declared.kinds.SlotDomain.TheVariants as slot
use Rattle.program_trees.specs.declared.kinds.Slot.{Slot}
use Rattle.program_trees.specs.declared.typed_function.Returned.{Returned}
use Rattle.program_trees.specs.declared.typed_function.Returned.TheVariants.{Nothing, Value}
use Rattle.program_trees.specs.TypedTree.{TypedTree, TypedTrees, slot_node, call_node, cat_node, sum_node, bits_node, lookup_node}
use Rattle.program_trees.specs.TypedTree.{element_node, not_node, cast_node, binary_node, cut_node}
use Rattle.program_trees.specs.TypedTree as Tree'
use Rattle.program_trees.specs.TypedPrograms.{TypedFunctionTree}
use Rattle.program_trees.specs.Shapes.{shape_of}
use Rattle.reached_instances.specs.declared.instance.BoundDomain.{BoundDomain}
use Rattle.reached_instances.specs.declared.instance.BoundDomain.TheVariants.{Public, Private}

-- one of those whose values nobody sees alone
abbrev pub is_private : BoundDomain → Bool
is_private Public = false
is_private (Private k) = true

-- the domain that is written at a slot or a result, under a binding
abbrev pub domain_under : List BoundDomain → SlotDomain → BoundDomain
domain_under b slot.Public = Public
domain_under b (slot.Private k) = Private k
domain_under b (slot.Variable v) = unwrap_or (slice_get b v) Public

-- of two together: private where one of them is. Where the checker accepts, two private ones are the same
abbrev pub joined_domain : BoundDomain → BoundDomain → BoundDomain
joined_domain Public d = d
joined_domain (Private k) d = Private k

-- WHAT A CALL BINDS

abbrev pub is_variable : ℕ → SlotDomain → Bool
is_variable v (slot.Variable u) = nat_eq u v
is_variable v _ = false

-- to what a domain variable is bound: the arguments at the parameters that name it, together. The parameters are the first slots
abbrev pub bound_to : ℕ → List Slot → List BoundDomain → BoundDomain
bound_to v (s ∷ ss) (d ∷ ds) = if is_variable v s.domain then joined_domain d (bound_to v ss ds) else bound_to v ss ds
bound_to v _ _ = Public

-- the domain variables below n
abbrev pub bound_below : ℕ → List Slot → List BoundDomain → List BoundDomain
bound_below zero ss ds = []
bound_below (suc n) ss ds = bound_below n ss ds ++ bound_to n ss ds ∷ []

-- where a function is called with arguments of these domains
abbrev pub binding_of : TypedFunctionTree → List BoundDomain → List BoundDomain
binding_of f ds = bound_below f.variables f.slots ds

-- EXPRESSIONS

-- where an expression stands: in a function of these that has these slots, whose domain variables are so bound
pub record Setting : Type 0 where
  pub functions : List TypedFunctionTree
  pub slots : List Slot
  pub binding : List BoundDomain

abbrev pub slot_domain : List BoundDomain → Option Slot → BoundDomain
slot_domain b None = Public
slot_domain b (Some s) = domain_under b s.domain

abbrev pub slot_is_private : Setting → ℕ → Bool
slot_is_private here k = is_private (slot_domain here.binding (slice_get here.slots k))

-- the parameter of the first of these slots, where a function is called under a binding
abbrev pub next_is_private : List BoundDomain → List Slot → Bool
next_is_private b [] = false
next_is_private b (s ∷ ss) = is_private (domain_under b s.domain)

-- the shape of what stands in a slot; where there is none, that of a number
abbrev pub shape_at : Option Slot → Shape
shape_at None = shape_of Uint64 false
shape_at (Some s) = s.shape

abbrev pub slot_shape : Setting → ℕ → Shape
slot_shape here k = shape_at (slice_get here.slots k)

abbrev pub given_domain : List BoundDomain → Returned → BoundDomain
given_domain b Nothing = Public
given_domain b (Value s) = domain_under b s.domain

-- what a called function gives back
abbrev pub call_domain : Option TypedFunctionTree → List BoundDomain → BoundDomain
call_domain None ds = Public
call_domain (Some f) ds = given_domain (binding_of f ds) f.given

abbrev mutual
  pub domain : Setting → TypedTree → BoundDomain
  domain w (slot_node k) = slot_domain w.binding (slice_get w.slots k)
  domain w (call_node line k es) = call_domain (slice_get w.functions k) (domains w es)
  domain w (cat_node line a b) = joined_domain (domain w a) (domain w b)
  domain w (sum_node e) = domain w e
  domain w (bits_node line e) = domain w e
  domain w (lookup_node line a i) = joined_domain (domain w a) (domain w i)
  domain w (element_node line a i) = domain w a
  domain w (not_node e) = domain w e
  domain w (cast_node c e) = domain w e
  domain w (binary_node line op ds a b) = joined_domain (domain w a) (domain w b)
  domain w (cut_node c a b) = joined_domain (domain w a) (domain w b)
  domain w _ = Public

  pub domains : Setting → TypedTrees → List BoundDomain
  domains w Tree'.none = []
  domains w (Tree'.also e es) = domain w e ∷ domains w es
