use Rattle.std.proofs.Common.{rules, ◌≡◌, [], subst, sym, ap, ◌∙◌}
use Rattle.program_trees.specs.TypedPrograms.{typed_program_tree}
use Rattle.language_model.specs.Reports.{Report, eval}
use Rattle.blind_evaluation.specs.Courses.{IsEnded}
use Rattle.clear_eval.specs.Offers.{offered}
use Rattle.clear_eval.specs.Reports.{stop_seen, ran_seen}
use Rattle.clear_eval.proofs.running.eval.Goals as goal

pub unreachable-requires : goal.unreachable-requires
unreachable-requires c =
    let p = typed_program_tree c.args.program.now in
    let o = offered c.args.inputs.now c.args.lengths in
    let laws = c.blind_runs_take_the_same_course.ensures in
    let clear_ends : IsEnded (eval p o c.args.budget).stop =
    subst IsEnded (sym (laws.same p o c.args.budget []).stop) (laws.never_short p o c.args.budget []) in
    let ran_so : ran_seen c.in_ok-ran.ran ≡ eval p o c.args.budget = search rules in
    subst IsEnded (sym (ap (λ (r : Report). r.stop) ran_so) ∙ ap stop_seen c.in-Short.is) clear_ends
