use Rattle.std.proofs.Common.{◌≡◌, List, ℕ, sym, ◌∙◌, ap, subst}
use Rattle.tape_twin.proofs.Whole.{none-says}
use Rattle.gates.specs.declared.gate.Gate.{Gate}
use Rattle.program_trees.specs.TypedPrograms.{typed_program_tree}
use Rattle.clear_eval.specs.Reports.{report_seen}
use Rattle.view_model.specs.TapeMaps.{from_simulated, to_simulated, CanRun}
use Rattle.value_file.specs.Public.{part_of}
use Rattle.language_model.specs.Reports.{Report}
use Rattle.program_views.specs.Views.{lengths_of, run_on}
use Rattle.tape_twin.specs.Alike.{OneBegins}
use Rattle.tape_twin.proofs.Runs.{alike-so, runs-on-seen, twin-is}
use Rattle.tape_twin.proofs.twinning.twin.Goals as goal

pub returns-clause-alike : goal.returns-clause-alike
returns-clause-alike c =
    let p = typed_program_tree c.args.program.now in
    let first = c.args.inputs.first.now in
    let second = c.args.inputs.second.now in
    let ls = lengths_of c.args.tapes.now in
    let known : part_of first ≡ part_of second =
    sym (ap part_of c.entries.ensures)
    ∙ none-says (part_of c.entries.result.now ≡ part_of c.entries-2.result.now) c.in_ok-name.field-0 c.in-None.is c.in_ok-name.ensures.none
    ∙ ap part_of c.entries-2.ensures in
    let one : c.deref.result.now ≡ (run_on p first ls c.args.budget).opened =
    c.deref.ensures.value ∙ ap (λ (r : Report). r.opened) c.in_ok-one.ensures.report in
    let other : c.deref-2.result.now ≡ (run_on p second ls c.args.budget).opened =
    c.deref-2.ensures.value ∙ ap (λ (r : Report). r.opened) c.in_ok-other.ensures.report in
    alike-so p ls c.args.budget first second known
    (subst (λ (xs : List ℕ). OneBegins xs (run_on p second ls c.args.budget).opened) one
    (subst (λ (ys : List ℕ). OneBegins c.deref.result.now ys) other c.in-None-first_difference.ensures.none))

pub from_simulated-requires : goal.from_simulated-requires
from_simulated-requires c =
    let first = c.args.inputs.first.now in
    let second = c.args.inputs.second.now in
    let t = c.args.tapes.now in
    let seen = c.in_ok-seen-in-None-first_difference.seen in
    let there : seen ≡ to_simulated c.args.miner first c.in_ok-one.one.gates.items t =
    c.in_ok-seen-in-None-first_difference.ensures
    ∙ ap (λ (gs : List Gate). to_simulated c.args.miner first gs t) c.deref-in-None-first_difference.ensures.value in
    subst (λ (gs : List Gate). CanRun second gs seen) (sym c.deref-in-None-first_difference-2.ensures.value)
    (runs-on-seen c.args.miner first second c.in_ok-one.one.gates.items c.in_ok-other.other.gates.items t seen c.see_tapes.ensures.words
    c.in_ok-one.ensures.can c.in_ok-other.ensures.can there)

pub returns-clause-twin : goal.returns-clause-twin
returns-clause-twin c =
    let first = c.args.inputs.first.now in
    let second = c.args.inputs.second.now in
    let t = c.args.tapes.now in
    let seen = c.in_ok-seen-in-None-first_difference.seen in
    let made = c.in_ok-from_simulated-in-None-first_difference.field-0 in
    let there : seen ≡ to_simulated c.args.miner first c.in_ok-one.one.gates.items t =
    c.in_ok-seen-in-None-first_difference.ensures
    ∙ ap (λ (gs : List Gate). to_simulated c.args.miner first gs t) c.deref-in-None-first_difference.ensures.value in
    let back : made ≡ from_simulated c.args.miner second c.in_ok-other.other.gates.items seen =
    c.in_ok-from_simulated-in-None-first_difference.ensures
    ∙ ap (λ (gs : List Gate). from_simulated c.args.miner second gs seen) c.deref-in-None-first_difference-2.ensures.value in
    twin-is c.args.miner (typed_program_tree c.args.program.now) first second t seen made c.args.budget (report_seen c.in_ok-one.one)
    (report_seen c.in_ok-other.other) c.see_tapes.ensures.words c.in_ok-one.ensures.can c.in_ok-one.ensures.report c.in_ok-other.ensures.report
    there back
