-- A call, in its parts.
use Rattle.std.proofs.Common.{◌≡◌, ℕ, zero, suc, ◌-◌, List, sym, ap, ◌∙◌, arith}
use Rattle.std.specs.List.{slice_get}
use Rattle.std.specs.Prelude.{map, sum}
use Rattle.sc_text.specs.declared.end.Ending.TheVariants as ending
use Rattle.sc_text.specs.declared.end.TrapKind.TheVariants as trap
use Rattle.program_trees.specs.TypedPrograms.{TypedFunctionTree}
use Rattle.reached_instances.specs.declared.instance.BoundDomain.{BoundDomain}
use Rattle.language_model.specs.Effects.{World, Stage, Effect, carry, end, charge}
use Rattle.language_model.specs.Values.{Value}
use Rattle.language_model.specs.Evaluation.{call_at, body_of, array_elements}
use Rattle.value_steps.specs.Views.{world_seen}
use Rattle.clear_eval.specs.declared.place.Around.{Around}
use Rattle.clear_eval.specs.inner.Calling.{call_charged}
use Rattle.clear_eval.specs.inner.Views.{functions_around, calls_from}
use Rattle.clear_eval.proofs.Runs.{carry-carry}

abbrev then_body : World → List TypedFunctionTree → (depth k : ℕ) → List BoundDomain → List Value → Unit {0} → Effect Value
then_body w fs depth k b xs u = body_of w (call_at w fs (depth - 1)) fs (slice_get fs k) b xs

charged_first : (w : World) (fs : List TypedFunctionTree) (depth line k : ℕ) (b : List BoundDomain) (xs : List Value) (s : Stage)
    → call_at w fs depth line k b xs s ≡ carry (call_charged depth line xs s) (then_body w fs depth k b xs)
unfolding call_at
charged_first w fs zero line k b xs s = sym (carry-carry (charge 1 s) (λ u. end {A = Unit {0}} (ending.Trap trap.Depth line)) (then_body w fs zero k b xs))
charged_first w fs (suc d) line k b xs s =
    let less : d ≡ suc d - 1 = omega arith in
    ap (λ n. carry (charge 1 s) (λ u t. carry (charge (sum (map array_elements xs)) t) (λ v. body_of w (call_at w fs n) fs (slice_get fs k) b xs))) less
    ∙ sym (carry-carry (charge 1 s) (λ u. charge (sum (map array_elements xs))) (then_body w fs (suc d) k b xs))

abbrev pub body_behind : Around → (k : ℕ) → List BoundDomain → List Value → Unit {0} → Effect Value
body_behind around = then_body (world_seen around.world.now) (functions_around around.at) around.at.depth

-- what a call is charged comes first, and then the body
pub call_run : (around : Around) (line k : ℕ) (b : List BoundDomain) (xs ys : List Value) (s : Stage) → ys ≡ xs
    → calls_from around line k b xs s ≡ carry (call_charged around.at.depth line ys s) (body_behind around k b xs)
call_run around line k b xs ys s same = charged_first (world_seen around.world.now) (functions_around around.at) around.at.depth line k b xs s
    ∙ ap (λ l. carry (call_charged around.at.depth line l s) (body_behind around k b xs)) (sym same)
