-- What `map` plans is what is decided of the files.
use Rattle.std.proofs.Common.{◌≡◌, ℕ, List, Ok, sym, ◌∙◌, ap}
use Rattle.outside.specs.Files.{FilesState}
use Rattle.command_frame.specs.Answer.{Effect}
use Rattle.command_words.specs.Ask.{MapAsk}
use Rattle.clear_eval.specs.Reports.{report_seen}
use Rattle.language_model.specs.Reports.{Report}
use Rattle.program_trees.specs.TypedPrograms.{TypedProgramTree}
use Rattle.value_file.specs.declared.inputs.Entry.{Entry}
use Rattle.value_file.specs.Public.{part_bytes, part_of}
use Rattle.tape_file.specs.Format.{tape_bytes}
use Rattle.tape_file.specs.Tapes.{FourTapes}
use Rattle.view_reader.specs.Opened.{opened_bytes}
use Rattle.tape_twin.specs.TapeMaps.{mapped}
use Rattle.tape_twin.specs.Views.{lengths_of, openings, run_on}
use Rattle.tape_twin.specs.declared.mapped_run.MappedRun.{MappedRun}
use Rattle.program_commands.specs.Judging.{Finding}
use Rattle.tape_commands.specs.Map.{made_effect, map_effect, map_of, open_bytes, sim_bytes, writes_to}
use Rattle.program_commands.specs.Programs.{program_at}
use Rattle.program_commands.specs.Reading.{inputs_at, tape_file_at}

-- the file of the tapes in memory, and the lines of what was opened
sim_so : (ask : MapAsk) (p : TypedProgramTree) (entries : List Entry) (tapes made : FourTapes) → made ≡ mapped ask.miner p entries tapes ask.budget
    → sim_bytes ask.miner p entries tapes ask.budget ≡ tape_bytes made
unfolding sim_bytes
sim_so ask p entries tapes made is = ap tape_bytes (sym is)

open_so : (ask : MapAsk) (p : TypedProgramTree) (entries : List Entry) (tapes : FourTapes) (r : Report) → r ≡ run_on p entries (lengths_of tapes) ask.budget
    → open_bytes p entries tapes ask.budget ≡ opened_bytes (openings r.events)
unfolding open_bytes
open_so ask p entries tapes r is = ap (λ (x : Report). opened_bytes (openings x.events)) (sym is)

pub effect_so : (ask : MapAsk) (p : TypedProgramTree) (entries : List Entry) (tapes : FourTapes) (run : MappedRun)
    → report_seen run.report ≡ run_on p entries (lengths_of tapes) ask.budget → run.tapes ≡ mapped ask.miner p entries tapes ask.budget
    → map_effect ask p entries tapes ≡ made_effect ask entries run
effect_so ask p entries tapes run report made =
    ap (λ (sim : List ℕ). writes_to ask sim (part_bytes (part_of entries)) (open_bytes p entries tapes ask.budget)) (sim_so ask p entries tapes run.tapes made)
    ∙ ap (λ (opened : List ℕ). writes_to ask (tape_bytes run.tapes) (part_bytes (part_of entries)) opened)
    (open_so ask p entries tapes (report_seen run.report) report)

pub mapped_so : (found : Finding) (ask : MapAsk) (f : FilesState) (p : TypedProgramTree) (entries : List Entry) (tapes : FourTapes) (effect : Effect)
    → program_at found f.contents ask.program ≡ Ok p → inputs_at f.contents ask.input ≡ Ok entries → tape_file_at f.contents ask.tape ≡ Ok tapes
    → map_effect ask p entries tapes ≡ effect → map_of found ask f.contents ≡ Ok effect
unfolding map_of
mapped_so found ask f p entries tapes effect program inputs taped is = rw (program, inputs, taped) (ap (λ (e : Effect). Ok e) is)
