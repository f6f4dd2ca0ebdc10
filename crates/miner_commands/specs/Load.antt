-- The command `load`: three miners run the program of the workload of a number, their messages delivered always on the first link that
-- has one; what they open and publish is what evaluation in the clear does. No file is read or written.
use Rattle.std.specs.Prelude.{ℕ, List, [], ◌++◌, length, codes, Ok}
use Rattle.std.specs.Fmt.{decimal}
use Rattle.proto_core.specs.declared.link.Link.{Link}
use Rattle.protocol_model.specs.Network.{Default}
use Rattle.sc_text.specs.Event.{run_text}
use Rattle.tape_file.specs.Seeds.{seed_tapes}
use Rattle.tape_file.specs.Tapes.{FourTapes}
use Rattle.workload.specs.Load.{load_entries, load_seed}
use Rattle.workload.specs.LoadTree.{load_typed}
use Rattle.language_model.specs.Reports.{Report}
use Rattle.program_run.specs.Reports.{eval_with}
use Rattle.viewed_run.specs.Deliveries.{delivered_of}
use Rattle.viewed_run.specs.DeliveredRun.{DeliveredRun}
use Rattle.command_frame.specs.Answer.{Answer, Effect}
use Rattle.program_commands.specs.Ends.{ending_status}
use Rattle.program_commands.specs.Eval.{end_status, eval_text}

-- ---- the run

abbrev pub load_budget : ℕ
load_budget = 1000000

unfoldable pub load_tapes : (number : ℕ) → FourTapes
load_tapes number = seed_tapes (load_seed number) 131072

unfoldable pub load_report : (number : ℕ) → Report
load_report number = eval_with load_typed (load_entries number) (load_tapes number) load_budget

-- the links on which messages are delivered
unfoldable pub load_links : (number : ℕ) → List Link
load_links number = delivered_of load_typed (load_entries number) (load_tapes number) load_budget Default

-- ---- what is printed of it

-- how many messages are delivered
unfoldable pub messages_text : (count : ℕ) → List ℕ
messages_text count = codes "messages " ++ decimal count ++ codes "\n"

-- the text of the run, and how many messages are delivered
abbrev pub load_effect : (number : ℕ) → Effect
load_effect number =
    record {
      writes = [];
      text = eval_text (load_report number) ++ messages_text (length (load_links number));
      status = end_status (load_report number);
    }

-- the same of a run in memory
abbrev pub loaded_effect : DeliveredRun → Effect
loaded_effect ran =
    record {
      writes = [];
      text = run_text ran.report.events.items ran.report.end ++ messages_text (length ran.delivered.items);
      status = ending_status ran.report.end.how;
    }

-- it is never refused
unfoldable pub load_of : (number : ℕ) → Answer
load_of number = Ok (load_effect number)
