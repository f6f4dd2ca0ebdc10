use Rattle.std.proofs.Common.{◌≡◌, ◌+◌, ◌-◌, ◌<◌, [], ◌∷◌, ◌++◌, length, drop, sym, ap, ◌∙◌, subst, arith, rules}
use Rattle.std.specs.Prelude.{map}
use Rattle.std.proofs.lemmas.List.{map-append, length-append}
use Rattle.program_trees.specs.declared.typed_expression.TypedExpression.{TypedExpression}
use Rattle.program_trees.specs.TypedTree.{also, call_node, cat_node, cut_node, typed_tree}
use Rattle.program_trees.specs.TypedStatements.{block_statement, if_statement, loop_statement, do_statement, typed_statement, typed_statements_of}
use Rattle.program_trees.specs.TypedPrograms.{typed_function_tree}
use Rattle.program_trees.specs.Sound.{count_of}
use Rattle.reached_instances.specs.Views.{setting}
use Rattle.language_model.specs.Effects.{carry}
use Rattle.language_model.specs.Operations.{concatenated}
use Rattle.language_model.specs.Evaluation.{arguments, is_private, next_is_private}
use Rattle.value_steps.specs.Steps.{itself}
use Rattle.value_steps.specs.Views.{value_seen, stage_seen, world_seen}
use Rattle.clear_eval.specs.inner.Calling.{call_charged}
use Rattle.clear_eval.specs.inner.Measures.{weight, weight_of_all, statement_weight, statements_weight, work}
use Rattle.clear_eval.specs.inner.Parts.{HasOne, HasTwo, HasOneWithin, HasTwoWithin}
use Rattle.clear_eval.specs.inner.Standing.{AreSoundAmong, IsSoundAround, IsSoundIn, AreSoundIn, IsSoundNode, IsSoundStatement, AreSoundStatements, HasRoomFor}
use Rattle.clear_eval.specs.inner.Standing.{evaluation_at, parameters_around, wanted_at}
use Rattle.clear_eval.specs.inner.Views.{frame_seen, flow_seen, functions_around, calls_from}
use Rattle.clear_eval.proofs.Arguments.{behind_those, arguments_more, joined_both, joined_right}
use Rattle.clear_eval.proofs.Calls.{call_run, body_behind}
use Rattle.clear_eval.proofs.Lists.{trees, typed_statements, item_lighter, item_sound, statement_lighter, statement_sound, trees-drop, behind-drop, counted}
use Rattle.clear_eval.proofs.Loops.{ended, stopped_in_test, stopped_in_body, left_behind_body, at_step, stopped_in_step, left_behind_step, next_turn}
use Rattle.clear_eval.proofs.Loops.{again_stopped_in_body, again_left, again_stopped_in_test, again_ended, next_repeat}
use Rattle.clear_eval.proofs.Runs.{stop_run, go_run, rest_run}
use Rattle.clear_eval.proofs.Sound.{room_for, still_sound, still_sound_statement, sound_statements}
use Rattle.clear_eval.proofs.Work.{weight_of, weight_of_statement, falls, work_less, work_body}
use Rattle.clear_eval.proofs.evaluation.+evaluation.Goals as goal

-- ---- ARGUMENTS

pub arguments-value-requires : goal.arguments-value-requires
arguments-value-requires t c =
    let es = c.deref-e-items.result.now in
    let list = c.args.list.now.items in
    let i = c.loop-e.e-index in
    let x = c.e-item.result in
    let lighter = item_lighter es list i x c.deref-e-items.ensures.value c.e-item.is c.loop-e-test.true in
    let smaller = falls c.args.around.now (weight_of x) (weight_of_all (trees list) + 1) (omega arith) in
    let here = item_sound c.args.around.now.at c.args.frame.now.items es list i x c.deref-e-items.ensures.value c.e-item.is c.loop-e-test.true
    c.requires.here in
    search rules

pub arguments-loop-e-preserved : goal.arguments-loop-e-preserved
arguments-loop-e-preserved t c =
    let es = c.deref-e-items.result.now in
    let i = c.loop-e.e-index in
    let x = c.e-item.result in
    let w = world_seen c.args.around.now.world.now in
    let calls = calls_from c.args.around.now in
    let here = setting c.args.around.now.at.here in
    let b = c.args.binding.now in
    let ss = c.args.slots.now in
    let fr = frame_seen c.args.frame.now.items in
    let s = stage_seen c.loop-e.stage in
    let s1 = stage_seen c.value.new.stage in
    let s2 = stage_seen c.wanted.new.stage in
    let vs = map value_seen c.loop-e.values.items in
    let v = value_seen c.in_ok-value.value in
    let a = value_seen c.in_ok-argument.argument in
    let count : c.len.result ≡ i = c.len.ensures ∙ c.loop-e.values.ok.0 ∙ c.loop-e.invariant.each in
    let from : trees (drop i es) ≡ also (typed_tree x) (trees (drop (i + 1) es)) =
    trees-drop es i x c.loop-e-test.true ∙ ap (λ (y : TypedExpression). also (typed_tree y) (trees (drop (i + 1) es))) (sym c.e-item.is) in
    let private : c.next_is_private-private.result ≡ next_is_private b (drop i ss) =
    c.next_is_private-private.ensures ∙ ap (λ k. next_is_private b (drop k ss)) count in
    let more = c.in_ok-add_argument.ensures in
    let same : map value_seen c.add_argument.new.arguments.items ≡ vs ++ a ∷ [] =
    ap (map value_seen) more ∙ map-append value_seen c.loop-e.values.items (c.in_ok-argument.argument ∷ []) in
    record {
      each = omega (arith, c.loop-e.invariant.each, simp length-append at (ap length more));
      spends = omega (arith, c.loop-e.invariant.spends, c.in_ok-value.ensures.spends, c.in_ok-argument.ensures.spends);
      step =
          c.loop-e.invariant.step
          ∙ ap (λ ts. carry (arguments w calls here b (drop i ss) ts fr s) (behind_those vs)) from
          ∙ arguments_more w calls here b (drop i ss) (typed_tree x) (trees (drop (i + 1) es)) fr vs c.next_is_private-private.result v a s s1 s2
          private c.in_ok-value.ensures.step c.in_ok-argument.ensures.step
          ∙ ap (λ sl. carry (arguments w calls here b sl (trees (drop (i + 1) es)) fr s2) (behind_those (vs ++ a ∷ []))) (behind-drop ss i)
          ∙ ap (λ l. carry (arguments w calls here b (drop (i + 1) ss) (trees (drop (i + 1) es)) fr s2) (behind_those l)) (sym same);
    }

-- ---- CALLS

pub call-arguments-requires : goal.call-arguments-requires
call-arguments-requires t c =
    let n = weight_of_all (trees c.args.list.now.items) in
    let smaller = falls c.args.around.now (n + 1) (n + 3) (omega arith) in
    let here : AreSoundIn c.args.around.now.at c.args.frame.now.items c.args.list.now.items = c.requires.here.1 in
    search rules

pub call-called-requires : goal.call-called-requires
call-called-requires t c =
    let es = c.args.list.now.items in
    let functions = c.args.around.now.at.here.functions.now in
    let smaller = falls c.args.around.now 1 (weight_of_all (trees es) + 3) (omega arith) in
    let fitting : HasRoomFor functions c.args.number (length c.in_ok-arguments.arguments.items) =
    subst (HasRoomFor functions c.args.number) (counted es ∙ sym c.in_ok-arguments.ensures.each)
    (room_for functions c.args.number (count_of (trees es)) c.requires.program c.requires.here.0) in
    search rules

pub called-body-requires : goal.called-body-requires
called-body-requires t c =
    let fs = functions_around c.args.around.now.at in
    let depth = c.args.around.now.at.depth in
    let some : 0 < depth = c.in_ok-charge_call.ensures.depth in
    let back : depth - 1 + 1 ≡ depth = omega arith in
    let smaller : work fs (depth - 1 + 1) 0 < work fs depth 1 = subst (λ r. work fs r 0 < work fs depth 1) (sym back) (work_less fs depth 0 1 (omega arith)) in
    search rules

pub called-returns-in_err-charge_call-clause-step : goal.called-returns-in_err-charge_call-clause-step
called-returns-in_err-charge_call-clause-step t c =
    let around = c.args.around.now in
    let s = stage_seen c.args.stage.now in
    let b = c.args.binding.now in
    let xs = map value_seen c.args.arguments.items in
    let ys = map value_seen c.deref.result.now in
    stop_run itself value_seen (calls_from around c.args.line c.args.number b xs) s (call_charged around.at.depth c.args.line ys) s
    (stage_seen c.charge_call.new.stage) (body_behind around c.args.number b xs) c.in_err-charge_call.field-0.0 c.from_residual.result
    (call_run around c.args.line c.args.number b xs ys s (ap (map value_seen) c.deref.ensures.value)) c.in_err-charge_call.ensures.step
    c.from_residual.ensures.1

pub called-returns-clause-step : goal.called-returns-clause-step
called-returns-clause-step t c =
    let around = c.args.around.now in
    let s = stage_seen c.args.stage.now in
    let b = c.args.binding.now in
    let xs = map value_seen c.args.arguments.items in
    let ys = map value_seen c.deref.result.now in
    go_run itself value_seen (calls_from around c.args.line c.args.number b xs) s (call_charged around.at.depth c.args.line ys) s
    (stage_seen c.charge_call.new.stage) (stage_seen c.body.new.stage) (body_behind around c.args.number b xs) tt c.body.result
    (call_run around c.args.line c.args.number b xs ys s (ap (map value_seen) c.deref.ensures.value)) c.in_ok-charge_call.ensures.step c.body.ensures.step

pub body-statements-requires : goal.body-statements-requires
body-statements-requires t c =
    let begun = c.in_ok-at.field-0 in
    let is = c.in_ok-at.ensures in
    let depth = c.args.callee.now.depth in
    let fs = map typed_function_tree c.args.callee.now.functions.now in
    let n = statements_weight (typed_statements_of (map typed_statement begun.body.now.items)) in
    let smaller : work (functions_around begun.at) begun.at.depth n < work fs (depth + 1) 0 =
    subst (λ l. work (map typed_function_tree l) begun.at.depth n < work fs (depth + 1) 0) (sym is.around)
    (subst (λ r. work fs r n < work fs (depth + 1) 0) (sym is.depth) (work_body fs depth n is.lighter)) in
    let program : IsSoundAround begun.at = subst (λ l. AreSoundAmong (map typed_function_tree l)) (sym is.around) c.requires.program in
    let here : AreSoundStatements begun.at begun.frame.items begun.body.now.items = is.sound in
    search rules

-- ---- EXPRESSIONS

pub value-on_value-requires : goal.value-on_value-requires
value-on_value-requires t c =
    let around = c.args.around.now in
    let frame = c.args.frame.now.items in
    let x = c.in-One.x.now in
    let is : HasOne (typed_tree c.args.e.now) (typed_tree x) = c.in-One.ensures in
    let here : IsSoundIn around.at frame x = is.sound (length frame) (parameters_around around.at) c.requires.here in
    let smaller = falls around (weight_of x + 3) (weight_of c.args.e.now) (omega (arith, is.lighter)) in
    search rules

pub value-on_values-requires : goal.value-on_values-requires
value-on_values-requires t c =
    let around = c.args.around.now in
    let frame = c.args.frame.now.items in
    let x = c.in-Two.x.now in
    let y = c.in-Two.y.now in
    let is : HasTwo (typed_tree c.args.e.now) (typed_tree x) (typed_tree y) = c.in-Two.ensures in
    let both = is.sound (length frame) (parameters_around around.at) c.requires.here in
    let left : IsSoundIn around.at frame x = both.0 in
    let right : IsSoundIn around.at frame y = both.1 in
    let smaller = falls around (weight_of x + weight_of y + 3) (weight_of c.args.e.now) (omega (arith, is.lighter)) in
    search rules

pub value-on_arrays-requires : goal.value-on_arrays-requires
value-on_arrays-requires t c =
    let around = c.args.around.now in
    let frame = c.args.frame.now.items in
    let x = c.in-Joined.arrays.left.now in
    let y = c.in-Joined.arrays.right.now in
    let node = cat_node c.in-Joined.arrays.line (typed_tree x) (typed_tree y) in
    let is : typed_tree c.args.e.now ≡ node = c.in-Joined.ensures in
    let both : IsSoundNode around.at frame node = subst (IsSoundNode around.at frame) is c.requires.here in
    let left : IsSoundIn around.at frame x = both.0 in
    let right : IsSoundIn around.at frame y = both.1 in
    let same : weight (typed_tree c.args.e.now) ≡ weight node = ap weight is in
    let smaller = falls around (weight_of x + weight_of y + 3) (weight_of c.args.e.now) (omega arith) in
    search rules

pub value-call-requires : goal.value-call-requires
value-call-requires t c =
    let around = c.args.around.now in
    let frame = c.args.frame.now.items in
    let es = trees c.in-Call.list.now.items in
    let node = call_node c.in-Call.line c.in-Call.number es in
    let is : typed_tree c.args.e.now ≡ node = c.in-Call.ensures in
    let here : IsSoundNode around.at frame node = subst (IsSoundNode around.at frame) is c.requires.here in
    let same : weight (typed_tree c.args.e.now) ≡ weight node = ap weight is in
    let smaller = falls around (weight_of_all es + 3) (weight_of c.args.e.now) (omega arith) in
    search rules

pub value-connected-requires : goal.value-connected-requires
value-connected-requires t c =
    let around = c.args.around.now in
    let frame = c.args.frame.now.items in
    let x = c.in-Connected.x.now in
    let y = c.in-Connected.y.now in
    let node = cut_node c.in-Connected.connective (typed_tree x) (typed_tree y) in
    let is : typed_tree c.args.e.now ≡ node = c.in-Connected.ensures in
    let both : IsSoundNode around.at frame node = subst (IsSoundNode around.at frame) is c.requires.here in
    let left : IsSoundIn around.at frame x = both.0 in
    let right : IsSoundIn around.at frame y = both.1 in
    let same : weight (typed_tree c.args.e.now) ≡ weight node = ap weight is in
    let smaller = falls around (weight_of x + weight_of y + 3) (weight_of c.args.e.now) (omega arith) in
    search rules

pub operand-value-requires : goal.operand-value-requires
operand-value-requires t c =
    let smaller = falls c.args.around.now (weight_of c.args.e.now) (weight_of c.args.e.now + 1) (omega arith) in
    search rules

pub value_wanted-value-requires : goal.value_wanted-value-requires
value_wanted-value-requires t c =
    let smaller = falls c.args.around.now (weight_of c.args.e.now) (weight_of c.args.e.now + 1) (omega arith) in
    search rules

pub on_value-operand-requires : goal.on_value-operand-requires
on_value-operand-requires t c =
    let smaller = falls c.args.around.now (weight_of c.args.x.now + 1) (weight_of c.args.x.now + 3) (omega arith) in
    search rules

pub on_values-operand-requires : goal.on_values-operand-requires
on_values-operand-requires t c =
    let smaller = falls c.args.around.now (weight_of c.args.x.now + 1) (weight_of c.args.x.now + weight_of c.args.y.now + 3) (omega arith) in
    search rules

pub on_values-operand-requires-2 : goal.on_values-operand-requires-2
on_values-operand-requires-2 t c =
    let smaller = falls c.args.around.now (weight_of c.args.y.now + 1) (weight_of c.args.x.now + weight_of c.args.y.now + 3) (omega arith) in
    search rules

pub on_arrays-value_wanted-requires : goal.on_arrays-value_wanted-requires
on_arrays-value_wanted-requires t c =
    let x = c.args.arrays.left.now in
    let smaller = falls c.args.around.now (weight_of x + 1) (weight_of x + weight_of c.args.arrays.right.now + 3) (omega arith) in
    search rules

pub on_arrays-value_wanted-requires-2 : goal.on_arrays-value_wanted-requires-2
on_arrays-value_wanted-requires-2 t c =
    let y = c.args.arrays.right.now in
    let smaller = falls c.args.around.now (weight_of y + 1) (weight_of c.args.arrays.left.now + weight_of y + 3) (omega arith) in
    search rules

pub on_arrays-returns-clause-step : goal.on_arrays-returns-clause-step
on_arrays-returns-clause-step t c =
    let around = c.args.around.now in
    let frame = c.args.frame.now.items in
    let e = typed_tree c.args.e.now in
    let a = typed_tree c.args.arrays.left.now in
    let b = typed_tree c.args.arrays.right.now in
    let x = value_seen c.in_ok-x.x in
    let y = value_seen c.in_ok-y.y in
    let s = stage_seen c.args.stage.now in
    let s2 = stage_seen c.value_wanted-2.new.stage in
    rest_run value_seen (evaluation_at around frame c.args.e.now) s (concatenated c.args.arrays.line x y) s2
    (stage_seen c.concatenated.new.stage) c.concatenated.result
    (joined_both (world_seen around.world.now) (calls_from around) (setting around.at.here) c.args.arrays.line a b e (frame_seen frame)
    c.is_private-private.result x y s (stage_seen c.value_wanted.new.stage) s2 c.requires.parts
    (c.is_private-private.ensures ∙ ap is_private c.in_ok-domain.ensures) c.in_ok-x.ensures.step c.in_ok-y.ensures.step)
    c.concatenated.ensures.step

pub on_arrays-returns-in_err-y-clause-step : goal.on_arrays-returns-in_err-y-clause-step
on_arrays-returns-in_err-y-clause-step t c =
    let around = c.args.around.now in
    let frame = c.args.frame.now.items in
    let right = c.args.arrays.right.now in
    let private = c.is_private-private.result in
    let x = value_seen c.in_ok-x.x in
    let s = stage_seen c.args.stage.now in
    let s1 = stage_seen c.value_wanted.new.stage in
    stop_run value_seen value_seen (evaluation_at around frame c.args.e.now) s (wanted_at around frame private right) s1
    (stage_seen c.value_wanted-2.new.stage) (concatenated c.args.arrays.line x) c.in_err-y.field-0.0 c.from_residual-in_err-y.result
    (joined_right (world_seen around.world.now) (calls_from around) (setting around.at.here) c.args.arrays.line (typed_tree c.args.arrays.left.now)
    (typed_tree right) (typed_tree c.args.e.now) (frame_seen frame) private x s s1 c.requires.parts
    (c.is_private-private.ensures ∙ ap is_private c.in_ok-domain.ensures) c.in_ok-x.ensures.step)
    c.in_err-y.ensures.step c.from_residual-in_err-y.ensures.1

pub connected-value-requires : goal.connected-value-requires
connected-value-requires t c =
    let smaller = falls c.args.around.now (weight_of c.args.x.now) (weight_of c.args.x.now + weight_of c.args.y.now + 3) (omega arith) in
    search rules

pub connected-not_cut_short-requires : goal.connected-not_cut_short-requires
connected-not_cut_short-requires t c =
    let smaller = falls c.args.around.now (weight_of c.args.y.now + 1) (weight_of c.args.x.now + weight_of c.args.y.now + 3) (omega arith) in
    search rules

pub connected-cut_short-requires : goal.connected-cut_short-requires
connected-cut_short-requires t c =
    let smaller = falls c.args.around.now (weight_of c.args.y.now + 1) (weight_of c.args.x.now + weight_of c.args.y.now + 3) (omega arith) in
    search rules

pub cut_short-value-requires : goal.cut_short-value-requires
cut_short-value-requires t c =
    let smaller = falls c.args.around.now (weight_of c.args.right.now) (weight_of c.args.right.now + 1) (omega arith) in
    search rules

pub not_cut_short-value-requires : goal.not_cut_short-value-requires
not_cut_short-value-requires t c =
    let smaller = falls c.args.around.now (weight_of c.args.right.now) (weight_of c.args.right.now + 1) (omega arith) in
    search rules

pub holds-value-requires : goal.holds-value-requires
holds-value-requires t c =
    let smaller = falls c.args.around.now (weight_of c.args.condition.now) (weight_of c.args.condition.now + 1) (omega arith) in
    search rules

-- ---- STATEMENTS

pub statement-one_within-requires : goal.statement-one_within-requires
statement-one_within-requires t c =
    let x = c.in-One.x.now in
    let is : HasOneWithin (typed_statement c.args.s.now) (typed_tree x) = c.in-One.ensures in
    let smaller = falls c.args.around.now (weight_of x + 3) (weight_of_statement c.args.s.now) (omega (arith, is.lighter)) in
    search rules

pub statement-two_within-requires : goal.statement-two_within-requires
statement-two_within-requires t c =
    let x = c.in-Two.x.now in
    let y = c.in-Two.y.now in
    let is : HasTwoWithin (typed_statement c.args.s.now) (typed_tree x) (typed_tree y) = c.in-Two.ensures in
    let smaller = falls c.args.around.now (weight_of x + weight_of y + 3) (weight_of_statement c.args.s.now) (omega (arith, is.lighter)) in
    search rules

pub statement-statements-requires : goal.statement-statements-requires
statement-statements-requires t c =
    let around = c.args.around.now in
    let all = typed_statements c.in-Block.list.now.items in
    let is : typed_statement c.args.s.now ≡ block_statement all = c.in-Block.ensures in
    let here = sound_statements around.at c.args.frame.now.items c.args.s.now (block_statement all) is c.requires.here in
    let same : statement_weight (typed_statement c.args.s.now) ≡ statement_weight (block_statement all) = ap statement_weight is in
    let smaller = falls around (statements_weight all) (weight_of_statement c.args.s.now) (omega arith) in
    search rules

pub statement-branch-around-requires : goal.statement-branch-around-requires
statement-branch-around-requires t c =
    let around = c.args.around.now in
    let frame = c.args.frame.now.items in
    let e = c.in-If.condition.now in
    let a = c.in-If.first.now in
    let b = c.in-If.second.now in
    let whole = if_statement (typed_tree e) (typed_statement a) (typed_statement b) in
    let is : typed_statement c.args.s.now ≡ whole = c.in-If.ensures in
    let all = sound_statements around.at frame c.args.s.now whole is c.requires.here in
    let tested_one : IsSoundIn around.at frame e = all.0 in
    let first_one : IsSoundStatement around.at frame a = all.1 in
    let second_one : IsSoundStatement around.at frame b = all.2 in
    let same : statement_weight (typed_statement c.args.s.now) ≡ statement_weight whole = ap statement_weight is in
    let smaller =
    falls around (weight_of e + weight_of_statement a + weight_of_statement b + 3) (weight_of_statement c.args.s.now) (omega arith) in
    search rules

pub statement-turns-requires : goal.statement-turns-requires
statement-turns-requires t c =
    let around = c.args.around.now in
    let frame = c.args.frame.now.items in
    let e = c.in-Loop.condition.now in
    let a = c.in-Loop.step.now in
    let b = c.in-Loop.body.now in
    let whole = loop_statement (typed_tree e) (typed_statement a) (typed_statement b) in
    let is : typed_statement c.args.s.now ≡ whole = c.in-Loop.ensures in
    let all = sound_statements around.at frame c.args.s.now whole is c.requires.here in
    let tested_one : IsSoundIn around.at frame e = all.0 in
    let step_one : IsSoundStatement around.at frame a = all.1 in
    let body_one : IsSoundStatement around.at frame b = all.2 in
    let same : statement_weight (typed_statement c.args.s.now) ≡ statement_weight whole = ap statement_weight is in
    let smaller =
    falls around (weight_of e + weight_of_statement a + weight_of_statement b + 2) (weight_of_statement c.args.s.now) (omega arith) in
    search rules

pub statement-repeats-requires : goal.statement-repeats-requires
statement-repeats-requires t c =
    let around = c.args.around.now in
    let frame = c.args.frame.now.items in
    let e = c.in-DoWhile.condition.now in
    let b = c.in-DoWhile.body.now in
    let whole = do_statement (typed_statement b) (typed_tree e) in
    let is : typed_statement c.args.s.now ≡ whole = c.in-DoWhile.ensures in
    let all = sound_statements around.at frame c.args.s.now whole is c.requires.here in
    let body_one : IsSoundStatement around.at frame b = all.0 in
    let tested_one : IsSoundIn around.at frame e = all.1 in
    let same : statement_weight (typed_statement c.args.s.now) ≡ statement_weight whole = ap statement_weight is in
    let smaller = falls around (weight_of_statement b + weight_of e + 2) (weight_of_statement c.args.s.now) (omega arith) in
    search rules

pub one_within-value-requires : goal.one_within-value-requires
one_within-value-requires t c =
    let around = c.args.around.now in
    let frame = c.args.frame.now.items in
    let here : IsSoundIn around.at frame c.args.x.now = c.requires.parts.sound (length frame) (parameters_around around.at) c.requires.here in
    let smaller = falls around (weight_of c.args.x.now) (weight_of c.args.x.now + 3) (omega arith) in
    search rules

pub two_within-value-requires : goal.two_within-value-requires
two_within-value-requires t c =
    let around = c.args.around.now in
    let frame = c.args.frame.now.items in
    let both = c.requires.parts.sound (length frame) (parameters_around around.at) c.requires.here in
    let here : IsSoundIn around.at frame c.args.x.now = both.0 in
    let smaller = falls around (weight_of c.args.x.now) (weight_of c.args.x.now + weight_of c.args.y.now + 3) (omega arith) in
    search rules

pub two_within-value-requires-2 : goal.two_within-value-requires-2
two_within-value-requires-2 t c =
    let around = c.args.around.now in
    let frame = c.args.frame.now.items in
    let both = c.requires.parts.sound (length frame) (parameters_around around.at) c.requires.here in
    let here : IsSoundIn around.at frame c.args.y.now = both.1 in
    let smaller = falls around (weight_of c.args.y.now) (weight_of c.args.x.now + weight_of c.args.y.now + 3) (omega arith) in
    search rules

pub branch-holds-requires : goal.branch-holds-requires
branch-holds-requires t c =
    let e = weight_of c.args.condition.now in
    let whole = e + weight_of_statement c.args.first.now + weight_of_statement c.args.second.now + 3 in
    let smaller = falls c.args.around.now (e + 1) whole (omega arith) in
    search rules

pub branch-statement-requires : goal.branch-statement-requires
branch-statement-requires t c =
    let a = weight_of_statement c.args.first.now in
    let whole = weight_of c.args.condition.now + a + weight_of_statement c.args.second.now + 3 in
    let smaller = falls c.args.around.now a whole (omega arith) in
    search rules

pub branch-statement-requires-else-branch : goal.branch-statement-requires-else-branch
branch-statement-requires-else-branch t c =
    let b = weight_of_statement c.args.second.now in
    let whole = weight_of c.args.condition.now + weight_of_statement c.args.first.now + b + 3 in
    let smaller = falls c.args.around.now b whole (omega arith) in
    search rules

pub statements-statement-requires : goal.statements-statement-requires
statements-statement-requires t c =
    let ss = c.deref-s-items.result.now in
    let list = c.args.list.now.items in
    let i = c.loop-s.s-index in
    let x = c.s-item.result in
    let at = c.args.around.now.at in
    let lighter = statement_lighter ss list i x c.deref-s-items.ensures.value c.s-item.is c.loop-s-test.true in
    let smaller = falls c.args.around.now (weight_of_statement x) (statements_weight (typed_statements list)) lighter in
    let there = statement_sound at c.args.frame.now.items ss list i x c.deref-s-items.ensures.value c.s-item.is c.loop-s-test.true c.requires.here in
    let here = still_sound_statement at c.args.frame.now.items c.loop-s.frame.items x c.loop-s.invariant.slots there in
    search rules

-- ---- LOOPS WITH THE CONDITION BEFORE

pub turns-holds-requires : goal.turns-holds-requires
turns-holds-requires t c =
    let e = c.args.condition.now in
    let whole = weight_of e + weight_of_statement c.args.step.now + weight_of_statement c.args.body.now + 2 in
    let here = still_sound c.args.around.now.at c.args.frame.now.items c.loop-again.frame.items e c.loop-again.invariant.slots c.requires.condition in
    let smaller = falls c.args.around.now (weight_of e + 1) whole (omega arith) in
    search rules

pub turns-statement-requires : goal.turns-statement-requires
turns-statement-requires t c =
    let b = c.args.body.now in
    let whole = weight_of c.args.condition.now + weight_of_statement c.args.step.now + weight_of_statement b + 2 in
    let here = still_sound_statement c.args.around.now.at c.args.frame.now.items c.loop-again.frame.items b c.loop-again.invariant.slots c.requires.body in
    let smaller = falls c.args.around.now (weight_of_statement b) whole (omega arith) in
    search rules

pub turns-statement-requires-in-loop-again : goal.turns-statement-requires-in-loop-again
turns-statement-requires-in-loop-again t c =
    let a = c.args.step.now in
    let whole = weight_of c.args.condition.now + weight_of_statement a + weight_of_statement c.args.body.now + 2 in
    let same : length c.statement.new.frame.items ≡ length c.args.frame.now.items = c.in_ok-flow.ensures.slots ∙ c.loop-again.invariant.slots in
    let here = still_sound_statement c.args.around.now.at c.args.frame.now.items c.statement.new.frame.items a same c.requires.step in
    let smaller = falls c.args.around.now (weight_of_statement a) whole (omega arith) in
    search rules

pub turns-returns-in_err-again-clause-step : goal.turns-returns-in_err-again-clause-step
turns-returns-in_err-again-clause-step t c =
    stopped_in_test c.loop-again.invariant.turns (flow_seen c.loop-again.frame.items) (stage_seen c.holds.new.stage) c.in_err-again.field-0.0
    c.from_residual.result c.in_err-again.ensures.step c.from_residual.ensures.1

pub turns-returns-then-not-again-clause-step : goal.turns-returns-then-not-again-clause-step
turns-returns-then-not-again-clause-step t c =
    ended c.loop-again.invariant.turns c.in_ok-again.again (stage_seen c.holds.new.stage) c.in_ok-again.ensures.step c.if-not-again.true

pub turns-returns-in_err-flow-clause-step : goal.turns-returns-in_err-flow-clause-step
turns-returns-in_err-flow-clause-step t c =
    stopped_in_body c.loop-again.invariant.turns (flow_seen c.statement.new.frame.items) c.in_ok-again.again (stage_seen c.holds.new.stage)
    (stage_seen c.statement.new.stage) c.in_err-flow.field-0.0 c.from_residual-in_err-flow.result c.in_ok-again.ensures.step c.if-not-again.false
    c.in_err-flow.ensures.step c.from_residual-in_err-flow.ensures.1

pub turns-returns-in-Some-clause-step : goal.turns-returns-in-Some-clause-step
turns-returns-in-Some-clause-step t c =
    let vs = c.statement.new.frame.items in
    left_behind_body c.loop-again.invariant.turns c.in_ok-again.again (stage_seen c.holds.new.stage) (stage_seen c.statement.new.stage)
    (flow_seen vs c.in_ok-flow.flow) (flow_seen vs c.in-Some.flow) c.in_ok-again.ensures.step c.if-not-again.false c.in_ok-flow.ensures.step
    (λ next. c.in-Some.ensures vs next)

pub turns-returns-in_err-flow-2-clause-step : goal.turns-returns-in_err-flow-2-clause-step
turns-returns-in_err-flow-2-clause-step t c =
    let r = c.loop-again.invariant.turns in
    let vs = c.statement.new.frame.items in
    let s3 = stage_seen c.statement.new.stage in
    let in_step = at_step r c.in_ok-again.again (stage_seen c.holds.new.stage) s3 (flow_seen vs c.in_ok-flow.flow) (frame_seen vs)
    c.in_ok-again.ensures.step c.if-not-again.false c.in_ok-flow.ensures.step (λ next. c.in-None.ensures vs next) in
    stopped_in_step r (flow_seen c.statement-in-loop-again.new.frame.items) s3 (stage_seen c.statement-in-loop-again.new.stage) (frame_seen vs)
    c.in_err-flow-2.field-0.0 c.from_residual-in_err-flow-2.result in_step c.in_err-flow-2.ensures.step c.from_residual-in_err-flow-2.ensures.1

pub turns-returns-in-Some-behind_loop-clause-step : goal.turns-returns-in-Some-behind_loop-clause-step
turns-returns-in-Some-behind_loop-clause-step t c =
    let r = c.loop-again.invariant.turns in
    let vs = c.statement.new.frame.items in
    let us = c.statement-in-loop-again.new.frame.items in
    let s3 = stage_seen c.statement.new.stage in
    let in_step = at_step r c.in_ok-again.again (stage_seen c.holds.new.stage) s3 (flow_seen vs c.in_ok-flow.flow) (frame_seen vs)
    c.in_ok-again.ensures.step c.if-not-again.false c.in_ok-flow.ensures.step (λ next. c.in-None.ensures vs next) in
    left_behind_step r s3 (stage_seen c.statement-in-loop-again.new.stage) (frame_seen vs) (flow_seen us c.in_ok-flow-2.flow)
    (flow_seen us c.in-Some-behind_loop.flow) in_step c.in_ok-flow-2.ensures.step (λ next. c.in-Some-behind_loop.ensures us next)

pub turns-loop-again-preserved : goal.turns-loop-again-preserved
turns-loop-again-preserved t c =
    let r = c.loop-again.invariant.turns in
    let vs = c.statement.new.frame.items in
    let us = c.statement-in-loop-again.new.frame.items in
    let s = stage_seen c.loop-again.stage in
    let s3 = stage_seen c.statement.new.stage in
    let s4 = stage_seen c.statement-in-loop-again.new.stage in
    let in_step = at_step r c.in_ok-again.again (stage_seen c.holds.new.stage) s3 (flow_seen vs c.in_ok-flow.flow) (frame_seen vs)
    c.in_ok-again.ensures.step c.if-not-again.false c.in_ok-flow.ensures.step (λ next. c.in-None.ensures vs next) in
    let less : s4.left < s.left = omega (arith, c.in_ok-again.ensures.spends, c.in_ok-flow.ensures.spends, c.in_ok-flow-2.ensures.spends) in
    record {
      slots = c.in_ok-flow-2.ensures.slots ∙ c.in_ok-flow.ensures.slots ∙ c.loop-again.invariant.slots;
      spends = omega (arith, less, c.loop-again.invariant.spends);
      turns = next_turn r s3 s4 (frame_seen vs) (frame_seen us) (flow_seen us c.in_ok-flow-2.flow) in_step c.in_ok-flow-2.ensures.step
          (λ next. c.in-None-behind_loop.ensures us next) less;
    }

-- ---- LOOPS WITH THE CONDITION BEHIND

pub repeats-statement-requires : goal.repeats-statement-requires
repeats-statement-requires t c =
    let b = c.args.body.now in
    let whole = weight_of_statement b + weight_of c.args.condition.now + 2 in
    let here = still_sound_statement c.args.around.now.at c.args.frame.now.items c.loop-flow.frame.items b c.loop-flow.invariant.slots c.requires.body in
    let smaller = falls c.args.around.now (weight_of_statement b) whole (omega arith) in
    search rules

pub repeats-holds-requires : goal.repeats-holds-requires
repeats-holds-requires t c =
    let e = c.args.condition.now in
    let whole = weight_of_statement c.args.body.now + weight_of e + 2 in
    let same : length c.statement.new.frame.items ≡ length c.args.frame.now.items = c.in_ok-flow.ensures.slots ∙ c.loop-flow.invariant.slots in
    let here = still_sound c.args.around.now.at c.args.frame.now.items c.statement.new.frame.items e same c.requires.condition in
    let smaller = falls c.args.around.now (weight_of e + 1) whole (omega arith) in
    search rules

pub repeats-returns-in_err-flow-clause-step : goal.repeats-returns-in_err-flow-clause-step
repeats-returns-in_err-flow-clause-step t c =
    again_stopped_in_body c.loop-flow.invariant.turns (flow_seen c.statement.new.frame.items) (stage_seen c.statement.new.stage) c.in_err-flow.field-0.0
    c.from_residual.result c.in_err-flow.ensures.step c.from_residual.ensures.1

pub repeats-returns-in-Some-clause-step : goal.repeats-returns-in-Some-clause-step
repeats-returns-in-Some-clause-step t c =
    let vs = c.statement.new.frame.items in
    again_left c.loop-flow.invariant.turns (stage_seen c.statement.new.stage) (flow_seen vs c.in_ok-flow.flow) (flow_seen vs c.in-Some.flow)
    c.in_ok-flow.ensures.step (λ next. c.in-Some.ensures vs next)

pub repeats-returns-in_err-again-clause-step : goal.repeats-returns-in_err-again-clause-step
repeats-returns-in_err-again-clause-step t c =
    let vs = c.statement.new.frame.items in
    again_stopped_in_test c.loop-flow.invariant.turns (flow_seen vs) (stage_seen c.statement.new.stage) (stage_seen c.holds.new.stage)
    (flow_seen vs c.in_ok-flow.flow) (frame_seen vs) c.in_err-again.field-0.0 c.from_residual-in_err-again.result c.in_ok-flow.ensures.step
    (λ next. c.in-None.ensures vs next) c.in_err-again.ensures.step c.from_residual-in_err-again.ensures.1

pub repeats-returns-then-not-again-clause-step : goal.repeats-returns-then-not-again-clause-step
repeats-returns-then-not-again-clause-step t c =
    let vs = c.statement.new.frame.items in
    again_ended c.loop-flow.invariant.turns c.in_ok-again.again (stage_seen c.statement.new.stage) (stage_seen c.holds.new.stage)
    (flow_seen vs c.in_ok-flow.flow) (frame_seen vs) c.in_ok-flow.ensures.step (λ next. c.in-None.ensures vs next) c.in_ok-again.ensures.step
    c.if-not-again.true

pub repeats-loop-flow-preserved : goal.repeats-loop-flow-preserved
repeats-loop-flow-preserved t c =
    let vs = c.statement.new.frame.items in
    let s = stage_seen c.loop-flow.stage in
    let s3 = stage_seen c.holds.new.stage in
    let less : s3.left < s.left = omega (arith, c.in_ok-again.ensures.spends, c.in_ok-flow.ensures.spends) in
    record {
      slots = c.in_ok-flow.ensures.slots ∙ c.loop-flow.invariant.slots;
      spends = omega (arith, less, c.loop-flow.invariant.spends);
      turns = next_repeat c.loop-flow.invariant.turns c.in_ok-again.again (stage_seen c.statement.new.stage) s3 (flow_seen vs c.in_ok-flow.flow)
          (frame_seen vs) c.in_ok-flow.ensures.step (λ next. c.in-None.ensures vs next) c.in_ok-again.ensures.step c.if-not-again.false less;
    }
