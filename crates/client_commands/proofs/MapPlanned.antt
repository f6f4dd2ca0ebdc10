-- What `client-map` plans is what is decided of the files.
use Rattle.std.proofs.Common.{◌≡◌, ℕ, List, Ok, sym, ◌∙◌, ap}
use Rattle.outside.specs.Files.{FilesState}
use Rattle.command_frame.specs.Answer.{Effect}
use Rattle.command_words.specs.Ask.{ClientMapAsk}
use Rattle.clear_eval.specs.Reports.{report_seen}
use Rattle.language_model.specs.Reports.{Report}
use Rattle.program_trees.specs.TypedPrograms.{TypedProgramTree}
use Rattle.value_file.specs.declared.inputs.Entry.{Entry}
use Rattle.value_file.specs.Public.{part_bytes, part_of}
use Rattle.tape_file.specs.Format.{tape_bytes}
use Rattle.tape_file.specs.Tapes.{FourTapes}
use Rattle.view_reader.specs.Opened.{opened_bytes}
use Rattle.client_view.specs.TapeMaps.{client_mapped}
use Rattle.view_reader.specs.Published.{published_bytes}
use Rattle.program_views.specs.Views.{lengths_of, openings, run_on}
use Rattle.client_runs.specs.declared.maps.MappedRun.{MappedRun}
use Rattle.program_commands.specs.Judging.{Finding}
use Rattle.tape_commands.specs.Map.{open_bytes}
use Rattle.client_commands.specs.Map.{publications, made_effect, client_map_effect, client_map_of, handed_bytes, client_sim_bytes, writes_to}
use Rattle.program_commands.specs.Programs.{program_at}
use Rattle.program_commands.specs.Reading.{inputs_at, tape_file_at}

-- the file of the tapes in memory, and the lines of what was opened
sim_so : (ask : ClientMapAsk) (p : TypedProgramTree) (entries : List Entry) (tapes made : FourTapes) → made ≡ client_mapped p entries tapes ask.budget
    → client_sim_bytes p entries tapes ask.budget ≡ tape_bytes made
unfolding client_sim_bytes
sim_so ask p entries tapes made is = ap tape_bytes (sym is)

open_so : (ask : ClientMapAsk) (p : TypedProgramTree) (entries : List Entry) (tapes : FourTapes) (r : Report) → r ≡ run_on p entries (lengths_of tapes) ask.budget
    → open_bytes p entries tapes ask.budget ≡ opened_bytes (openings r.events)
unfolding open_bytes
open_so ask p entries tapes r is = ap (λ (x : Report). opened_bytes (openings x.events)) (sym is)

handed_so : (ask : ClientMapAsk) (p : TypedProgramTree) (entries : List Entry) (tapes : FourTapes) (r : Report)
    → r ≡ run_on p entries (lengths_of tapes) ask.budget → handed_bytes p entries tapes ask.budget ≡ published_bytes (publications r.events)
unfolding handed_bytes
handed_so ask p entries tapes r is = ap (λ (x : Report). published_bytes (publications x.events)) (sym is)

pub effect_so : (ask : ClientMapAsk) (p : TypedProgramTree) (entries : List Entry) (tapes : FourTapes) (run : MappedRun)
    → report_seen run.report ≡ run_on p entries (lengths_of tapes) ask.budget → run.tapes ≡ client_mapped p entries tapes ask.budget
    → client_map_effect ask p entries tapes ≡ made_effect ask entries run
effect_so ask p entries tapes run report made =
    let public : List ℕ = part_bytes (part_of entries) in
    let sim : List ℕ = tape_bytes run.tapes in
    ap (λ (s : List ℕ). writes_to ask s public (open_bytes p entries tapes ask.budget) (handed_bytes p entries tapes ask.budget))
    (sim_so ask p entries tapes run.tapes made)
    ∙ ap (λ (opened : List ℕ). writes_to ask sim public opened (handed_bytes p entries tapes ask.budget))
    (open_so ask p entries tapes (report_seen run.report) report)
    ∙ ap (λ (handed : List ℕ). writes_to ask sim public (opened_bytes (openings run.report.events.items)) handed)
    (handed_so ask p entries tapes (report_seen run.report) report)

pub mapped_so : (found : Finding) (ask : ClientMapAsk) (f : FilesState) (p : TypedProgramTree) (entries : List Entry) (tapes : FourTapes) (effect : Effect)
    → program_at found f.contents ask.program ≡ Ok p → inputs_at f.contents ask.input ≡ Ok entries → tape_file_at f.contents ask.tape ≡ Ok tapes
    → client_map_effect ask p entries tapes ≡ effect → client_map_of found ask f.contents ≡ Ok effect
unfolding client_map_of
mapped_so found ask f p entries tapes effect program inputs taped is = rw (program, inputs, taped) (ap (λ (e : Effect). Ok e) is)
