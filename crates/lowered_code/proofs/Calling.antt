-- The instruction of a call is right.
use Rattle.std.proofs.Common.{◌≡◌, ℕ, ◌≤◌, List, ◌++◌, length, take, map, Option, Some, None, refl, ◌∙◌}
use Rattle.std.proofs.Common.{arith}
use Rattle.std.proofs.lemmas.List.{length-map, take-append-le, take-map}
use Rattle.std.proofs.lemmas.Option.{none-some}
use Rattle.program_trees.specs.declared.kinds.Shape.{Shape}
use Rattle.program_trees.specs.declared.typed_function.Returned.{Returned}
use Rattle.program_trees.specs.declared.typed_function.Returned.TheVariants.{Nothing, Value}
use Rattle.program_trees.specs.TypedPrograms.{TypedFunctionTree}
use Rattle.reached_instances.specs.declared.instance.BoundDomain.{BoundDomain}
use Rattle.reached_instances.specs.Domains.{given_domain, call_domain}
use Rattle.language_model.specs.Evaluation.{is_private, bound_at, slots_of}
use Rattle.bytecode.specs.declared.kind.Kind.{Kind}
use Rattle.code_model.specs.Kinds.{kind_of, slot_kind, rows_kinds, returned_shape, called_shape}
use Rattle.code_model.specs.Kinded.{HasKind, ResultFits}
use Rattle.code_model.specs.Statements.{defaults_behind, statements_depth}
use Rattle.code_model.specs.Expressions.{Numbers, given_at, result_at}
use Rattle.code_model.specs.Programs.{given_kind, last_kinds, code_of_found}
use Rattle.well_typed.specs.Expressions.{shape_given}

abbrev pub parameters_of : Option TypedFunctionTree → ℕ
parameters_of None = 0
parameters_of (Some f) = f.parameters

module _ (number : Numbers) (fs : List TypedFunctionTree) where
  -- the parameters are the first registers
  pub first_kinds : (b : List BoundDomain) (o : Option TypedFunctionTree) → parameters_of o ≤ length (slots_of o)
      → take (code_of_found number fs b o).parameters (code_of_found number fs b o).kinds ≡ map (slot_kind b) (take (parameters_of o) (slots_of o))
  first_kinds b None few = refl
  first_kinds b (Some f) few =
      let own = map (slot_kind b) f.slots in
      let many = length-map f.slots (slot_kind b) in
      let enough : f.parameters ≤ length own = omega (arith, few, many) in
      take-append-le f.parameters own (defaults_behind f.slots ++ (rows_kinds (statements_depth f.body) ++ last_kinds b f.given)) enough
      ∙ take-map (slot_kind b) f.parameters f.slots

  module _ (ks : List Kind) (t : ℕ) where
    value_given : (b : List BoundDomain) (g : Returned) (s : Shape) → shape_given g ≡ Some s
        → HasKind ks t (kind_of (is_private (given_domain b g)) (returned_shape g))
        → ResultFits ks (Some t) (given_kind b g)
    value_given b Nothing s e h = absurd (none-some _ e)
    value_given b (Value v) s e h = (slot_kind b v, refl, h)

    given_or_not : (b : List BoundDomain) (g : Returned) → HasKind ks t (kind_of (is_private (given_domain b g)) (returned_shape g))
        → ResultFits ks (given_at g t) (given_kind b g)
    given_or_not b Nothing h = tt
    given_or_not b (Value v) h = (slot_kind b v, refl, h)

    abbrev ValueStands : Option TypedFunctionTree → List BoundDomain → Type 0
    ValueStands o ds = HasKind ks t (kind_of (is_private (call_domain o ds)) (called_shape o))

    -- a call that gives a value
    pub result_fits : (o : Option TypedFunctionTree) (ds : List BoundDomain) (f : TypedFunctionTree) (s : Shape) → o ≡ Some f → shape_given f.given ≡ Some s
        → ValueStands o ds → ResultFits ks (Some t) (code_of_found number fs (bound_at o ds) o).gives
    result_fits None ds f s e g h = absurd (none-some _ e)
    result_fits (Some f') ds f s e g h = value_given (bound_at (Some f') ds) f'.given s (same f' f e ∙ g) h
      where
        same : (x y : TypedFunctionTree) → Some x ≡ Some y → shape_given x.given ≡ shape_given y.given
        same x y e = cc

    -- a call whose value nobody reads
    pub unread_fits : (o : Option TypedFunctionTree) (ds : List BoundDomain) → ValueStands o ds
        → ResultFits ks (result_at o t) (code_of_found number fs (bound_at o ds) o).gives
    unread_fits None ds h = tt
    unread_fits (Some f) ds h = given_or_not (bound_at (Some f) ds) f.given h
