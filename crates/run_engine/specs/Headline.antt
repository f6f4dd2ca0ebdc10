-- THE HEADLINE: what is promised of a call of `run`, sentence by sentence.
use Rattle.std.specs.Prelude.{◌≡◌, ◌≤◌, ◌⊎◌, ◌↔◌, ◌++◌, ℕ, List, [], Bool, true, false, Option, Some, Err}
use Rattle.outside.specs.Files.{Contents, file_at}
use Rattle.outside.specs.Sink.{SinkState, Appends}
use Rattle.command_frame.specs.declared.status.Status.{Status}
use Rattle.command_frame.specs.declared.status.Status.TheVariants.{Memory, Schedule}
use Rattle.command_frame.specs.Answer.{after_writes}
use Rattle.command_frame.specs.Finish.{PutLine}
use Rattle.command_frame.specs.Moments.{AreSteady, Moment, files_alone}
use Rattle.command_words.specs.Ask.{RunAsk, run, scheduled, words_of}
use Rattle.sc_text.specs.declared.end.End.{End}
use Rattle.sc_text.specs.declared.event.Event.{Event}
use Rattle.sc_text.specs.Event.{run_text}
use Rattle.sc_text.specs.declared.end.Ending.TheVariants.{Done, Trap, Budget, Tape}
use Rattle.proto_core.specs.declared.link.Link.{Link}
use Rattle.proto_core.specs.declared.party.Number.{Number}
use Rattle.protocol_model.specs.Network.{Accepted, Answer, Delivery, EmptyLink, Stalled}
use Rattle.schedule_file.specs.Reading.{links_of}
use Rattle.clear_eval.specs.Offers.{offered}
use Rattle.language_model.specs.Effects.{Clear, RunStop, Ended, Short}
use Rattle.language_model.specs.Reports.{Report, eval, world_of}
use Rattle.language_model.specs.Tapes.{HasWords}
use Rattle.program_commands.specs.Reports.{eval_with, lengths_of}
use Rattle.miner_commands.specs.Deliveries.{delivered_of, net_of}
use Rattle.program_views.specs.Views.{view_of}
use Rattle.view_text.specs.View.{View}
use Rattle.tape_file.specs.Tapes.{FourTapes}
use Rattle.program_trees.specs.TypedPrograms.{TypedProgramTree}
use Rattle.value_file.specs.declared.inputs.Entry.{Entry}
use Rattle.program_commands.specs.Eval.{end_status, eval_text}
use Rattle.miner_commands.specs.CodeViews.{SeesItsView}
use Rattle.miner_commands.specs.Premises.{IsMade}
use Rattle.miner_commands.specs.Programs.{OwnRunsOnShares}
use Rattle.miner_commands.specs.Run.{recorded_links}
use Rattle.net_laws.specs.MinersTold.{AreToldByMiners}
use Rattle.program_commands.specs.Dealt.{CanBeDealt}
use Rattle.program_commands.specs.Ends.{ending_status}
use Rattle.program_views.specs.Simulated.{ViewIsSimulated}
use Rattle.program_views.specs.TapeMaps.{MapsCorrespond}
use Rattle.program_commands.specs.Schedules.{empty_line, stalled_line}
use Rattle.run_engine.specs.Runs.{HoldsRun, IsNotTaken}
use Rattle.miner_commands.specs.Views.{view_files}

-- ---- WHAT IS GIVEN

-- what the words ask for, and what the files hold: an accepted program, inputs, four tapes and an order of delivery
pub record Given : Type 0 where
  pub ask : RunAsk
  pub program : TypedProgramTree
  pub entries : List Entry
  pub tapes : FourTapes
  pub delivery : Delivery

-- the words ask for this, and the files hold it, as they must
pub record IsGiven (words : List (List ℕ)) (files : Contents) (g : Given) : Type 0 where
  pub asks : words_of words ≡ Some (run g.ask)
  pub held : HoldsRun g.ask files g.program g.entries g.tapes g.delivery

module _ (g : Given) where
  -- evaluation of what is given
  abbrev pub report_given : Report
  report_given = eval_with g.program g.entries g.tapes g.ask.budget

  -- what the delivery comes to, by the lengths of messages alone, and the links that are delivered
  abbrev pub net_given : Answer
  net_given = net_of g.program g.entries g.tapes g.ask.budget g.delivery

  abbrev pub links_given : List Link
  links_given = delivered_of g.program g.entries g.tapes g.ask.budget g.delivery

  -- what miner i sees
  abbrev pub view_given : Number → Option View
  view_given i = view_of i g.program g.entries g.tapes g.ask.budget g.delivery

  -- ---- WHAT IS DONE WHERE THE DELIVERY IS COMPLETE

  -- the text and the end are those of the evaluation, or memory ran out
  abbrev pub PrintsEvaluation : (before after : SinkState) → Status → Type 0
  PrintsEvaluation before after given =
      ((given ≡ end_status report_given) × Appends before after (eval_text report_given)) ⊎ (given ≡ Memory)

  -- the text is that of what three miners tell who run the program's code, each by its shares and tape alone, their messages delivered in this order: put
  -- together as the client does, and then the end at which all three have stopped; or memory ran out
  abbrev pub PrintsWhatMinersTell : (before after : SinkState) → Status → Type 0
  PrintsWhatMinersTell before after given =
      ((events : List Event) × (end : End) × AreToldByMiners g.program g.entries g.tapes g.ask.budget g.delivery events end
      × (given ≡ ending_status end.how) × Appends before after (run_text events end))
      ⊎ (given ≡ Memory)

  -- the views and the delivered links are written, where they are asked for, and nothing else
  abbrev pub WritesViewsAndLinks : (before after : Contents) → Status → Type 0
  WritesViewsAndLinks before after given =
      (after ≡ after_writes (view_files g.ask.views view_given ++ recorded_links g.ask.recorded links_given) before) ⊎ (given ≡ Memory)

-- ---- WHERE IT DOESN'T

-- the entry that has no message, or the miner that is left waiting
abbrev pub refused_line : Answer → List ℕ
refused_line Accepted = []
refused_line (EmptyLink entry link sent) = empty_line entry link sent
refused_line (Stalled miner link) = stalled_line miner link

-- it is named, or memory ran out
abbrev pub RefusesSchedule : Given → (before after : SinkState) → Status → Type 0
RefusesSchedule g before after given =
    ((given ≡ Schedule) × PutLine (refused_line (net_given g)) before after) ⊎ (given ≡ Memory)

-- why a call of `run` is refused for its schedule: the file is there and not of its form, or the delivery isn't complete
pub data ScheduleRefused (ask : RunAsk) (files : Contents) : Type 0 where
  not_a_schedule : (path bytes : List ℕ) (line : ℕ) → ask.order ≡ scheduled path → file_at files path ≡ Some bytes → links_of bytes ≡ Err line
      → ScheduleRefused ask files
  not_complete : (g : Given) → g.ask ≡ ask → HoldsRun g.ask files g.program g.entries g.tapes g.delivery → IsNotTaken (net_given g)
      → ScheduleRefused ask files

-- ---- HOW IT ENDS

-- the program came to its end or to a trap, and wanted neither budget nor words
abbrev pub is_whole : RunStop → Bool
is_whole (Ended Done) = true
is_whole (Ended (Trap kind line)) = true
is_whole (Ended Budget) = false
is_whole (Ended (Tape owner need have)) = false
is_whole Short = false

module _ (p : TypedProgramTree) (entries : List Entry) where
  -- the program as it is evaluated with some budget and lengths of tapes
  abbrev pub evaluated_with : (budget : ℕ) → (lengths : List ℕ) → Report
  evaluated_with budget lengths = eval p (offered entries lengths) budget

  -- with some budget and lengths it ends whole, at a cost within this budget, and needs no more words than these tapes have
  pub record EndsSomewhere (t : FourTapes) (budget : ℕ) : Type 0 where
    pub budget_then : ℕ
    pub lengths_then : List ℕ
    pub whole : is_whole (evaluated_with budget_then lengths_then).stop ≡ true
    pub cost : (evaluated_with budget_then lengths_then).cost ≤ budget
    pub needs : HasWords (world_of Clear (offered entries (lengths_of t))) (evaluated_with budget_then lengths_then)

  -- it ends whole exactly where it does somewhere
  abbrev pub EndsByBudgetAndTapes : FourTapes → (budget : ℕ) → Type 0
  EndsByBudgetAndTapes t budget = (is_whole (eval_with p entries t budget).stop ≡ true) ↔ EndsSomewhere t budget

-- ---- THE HEADLINE

pub record Headline (g : Given) (before after : Moment) (given : Status) : Type 0 where
  -- Where the order of delivery is complete (each message is delivered once, and no entry is without one) the three miners open and publish
  -- exactly what evaluation in the clear does with tapes of these lengths, and end as it ends; or memory ran out.
  pub run_prints_evaluation :
      net_given g ≡ Accepted → before.sources.files.told ≡ true → AreSteady files_alone before → PrintsEvaluation g before.out after.out given
  -- This text is what the three miners tell, each by its shares and tape alone, also where no views and no schedule are asked for; or memory ran out.
  pub run_prints_what_miners_tell :
      CanBeDealt g.entries g.tapes → net_given g ≡ Accepted → before.sources.files.told ≡ true → AreSteady files_alone before
      → PrintsWhatMinersTell g before.out after.out given
  -- The delivery that takes always the first link with a message, and each that words choose, is complete.
  pub made_deliveries_are_complete : IsMade g.delivery → net_given g ≡ Accepted
  -- It ends done, or with a trap, exactly where some budget and some tapes let evaluation end so, at a cost within the budget and with
  -- no more words than these tapes have.
  pub run_ends_by_budget_and_tapes : EndsByBudgetAndTapes g.program g.entries g.tapes g.ask.budget
  -- What each miner saw is written, where it is asked for: its shares of the private inputs, the words that it drew, the messages that came
  -- to it, in order of arrival, what was opened, and the end; and after the views the links that were delivered.
  pub run_writes_views_and_links :
      net_given g ≡ Accepted → before.sources.files.told ≡ true → AreSteady files_alone before
      → WritesViewsAndLinks g before.sources.files.contents after.sources.files.contents given
  -- Each such view is the simulator's output on the public part of the inputs, the opened words, the budget and the delivery alone, over
  -- tapes that correspond one to one with the real ones; each of these is as long as its own, and the miner's own is as it was.
  pub views_are_simulated : (i : Number) → ViewIsSimulated i g.program g.entries g.tapes g.ask.budget g.delivery
  -- And it is what its miner has where the three run the program's code, each by its own shares and tape alone: its shares of the private
  -- inputs, the messages that come to it in order of arrival, the openings that it tells, its end, and the words of its tape that it drew.
  pub views_are_what_miners_see :
      (i : Number) → CanBeDealt g.entries g.tapes → net_given g ≡ Accepted → SeesItsView i g.program g.entries g.tapes g.ask.budget g.delivery
  -- The tapes of the simulator are found from the real ones, and these from them.
  pub tapes_correspond : (i : Number) → MapsCorrespond i g.program g.entries g.tapes g.ask.budget
  -- A delivery that isn't complete is refused: the entry that has no message is named, or else the miner that is left waiting; or memory
  -- ran out.
  pub schedule_refused_if :
      IsNotTaken (net_given g) → before.sources.files.told ≡ true → AreSteady files_alone before → RefusesSchedule g before.err after.err given
  -- This is what three miners do who run the program's code, each with its shares of the inputs and its own tape alone: under every
  -- complete order of delivery they open and publish what that evaluation does, and end as it does, where the dealer's tape has words
  -- enough.
  pub runs_on_shares : CanBeDealt g.entries g.tapes → OwnRunsOnShares g.program g.entries g.tapes g.ask.budget
