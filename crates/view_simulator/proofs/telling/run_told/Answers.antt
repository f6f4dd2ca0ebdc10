use Rattle.std.proofs.Common.{◌<◌, ◌^◌, ℕ, List, [], length, All, subst, arith}
use Rattle.proto_core.specs.declared.party.Number.TheVariants.{One}
use Rattle.gates.specs.declared.gate.Gate.{Gate}
use Rattle.program_trees.specs.TypedPrograms.{typed_program_tree}
use Rattle.value_file.specs.declared.public.PublicEntry.{PublicEntry}
use Rattle.language_model.specs.Reports.{Report}
use Rattle.clear_eval.specs.Reports.{IsBlindAnswer}
use Rattle.view_simulator.specs.Sizes.{SizesFit}
use Rattle.view_model.specs.Dealing.{private_shares, hidden_sizes, made_entries}
use Rattle.view_model.specs.TapeMaps.{AreTapes}
use Rattle.program_views.specs.Views.{lengths_of, told_run}
use Rattle.view_simulator.specs.Making.{IsOfWords, CanBeMade}
use Rattle.view_simulator.specs.Laws.{IsTold}
use Rattle.view_simulator.proofs.Suiting.{can_be_made}
use Rattle.view_simulator.proofs.Answering.{of_report}
use Rattle.view_simulator.proofs.telling.run_told.Goals as goal

pub returns : goal.returns
returns c =
    let p = typed_program_tree c.args.program.now in
    let part = c.args.part.now in
    let opened = c.args.opened.now in
    let s = c.args.tapes.now in
    let run : Report = told_run p part opened (lengths_of s) c.args.budget in
    let accepted = c.requires.accepted in
    let known : All IsOfWords part = subst (λ (es : List PublicEntry). All IsOfWords es) c.entries.ensures c.see_part.ensures in
    let are : AreTapes s = c.see_tapes.ensures.words in
    let told : IsTold part opened s =
    record { form = c.requires.part; known = known; opened_words = c.see_words.ensures.words; tapes = are } in
    let can : CanBeMade part run.gates s =
    can_be_made accepted.source p accepted.instances accepted.accepted part opened s c.args.budget told in
    let few : length s.one < 2 ^ 64 = c.see_tapes.ensures.few One in
    let reach = can.reach One One in
    let fit : SizesFit (hidden_sizes part) [] run.gates =
    c.few_words_fit.ensures (λ k. private_shares (made_entries One part s.dealer)) (hidden_sizes part) [] run.gates (omega (arith, reach, few)) in
    let answer : IsBlindAnswer c.blind.result run (length opened) =
    subst (λ (ls : List ℕ). IsBlindAnswer c.blind.result (told_run p part opened ls c.args.budget) (length opened)) c.lengths.ensures c.blind.ensures in
    record {
      report = answer;
      can = of_report (λ (gates : List Gate). CanBeMade part gates s) c.blind.result run (length opened) answer can;
      fit = of_report (λ (gates : List Gate). SizesFit (hidden_sizes part) [] gates) c.blind.result run (length opened) answer fit;
    }
