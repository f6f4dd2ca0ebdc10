use Rattle.std.proofs.Common.{◌≡◌, ◌<◌, List, ℕ, [], length, All, ◌∙◌, ap, subst}
use Rattle.tape_twin.proofs.Passing.{if-ok}
use Rattle.program_trees.specs.TypedPrograms.{typed_program_tree}
use Rattle.value_file.specs.declared.inputs.Entry.{Entry}
use Rattle.input_share.specs.AddUp.{HasWords}
use Rattle.input_share.specs.Dealing.{need_of}
use Rattle.language_model.specs.Reports.{Report, eval}
use Rattle.clear_eval.specs.Offers.{offered}
use Rattle.clear_eval.specs.Reports.{report_seen}
use Rattle.program_views.proofs.Undealt.{no_gates}
use Rattle.view_model.specs.TapeMaps.{AreTapes, CanRun}
use Rattle.tape_twin.proofs.Runs.{gates-run}
use Rattle.tape_twin.proofs.Whole.{lt_false}
use Rattle.tape_twin.proofs.running.report_on.Goals as goal

pub returns-clause-can : goal.returns-clause-can
returns-clause-can c =
    let p = typed_program_tree c.args.program.now in
    let es = c.args.inputs.now in
    let t = c.args.tapes.now in
    let words : All HasWords es = subst (λ (xs : List Entry). All HasWords xs) c.entries.ensures c.see_entries.ensures in
    let are : AreTapes t = c.see_tapes.ensures.words in
    if-ok (λ report. report_seen report ≡ eval p (offered es c.lengths.result) c.args.budget) (λ report. CanRun es report.gates.items t)
    (λ report same.
    gates-run p es t c.args.budget report.gates.items c.requires.accepted c.requires.inputs words are
    (ap (λ (r : Report). r.gates) (same ∙ ap (λ (ls : List ℕ). eval p (offered es ls) c.args.budget) c.lengths.ensures)))
    c.eval.result c.eval.ensures

pub returns-clause-none : goal.returns-clause-none
returns-clause-none c =
    let p = typed_program_tree c.args.program.now in
    let es = c.args.inputs.now in
    let t = c.args.tapes.now in
    if-ok (λ report. report_seen report ≡ eval p (offered es c.lengths.result) c.args.budget)
    (λ report. length t.dealer < need_of es → report.gates.items ≡ [])
    (λ report same short.
    ap (λ (r : Report). r.gates) (same ∙ ap (λ (ls : List ℕ). eval p (offered es ls) c.args.budget) c.lengths.ensures)
    ∙ no_gates p es t c.args.budget (lt_false (need_of es) (length t.dealer) short))
    c.eval.result c.eval.ensures
