-- The sentences of the headline, from what `run` keeps and from the laws of evaluation and of views.
use Rattle.std.proofs.Common.{◌≡◌, ◌≢◌, ◌≤◌, ◌⊎◌, ℕ, List, [], true, false, Some, Err, refl, ap, subst, sym, ◌∙◌, inl, inr}
use Rattle.outside.specs.Files.{Contents}
use Rattle.command_frame.specs.declared.status.Status.{Status}
use Rattle.command_frame.specs.declared.status.Status.TheVariants as statuses
use Rattle.command_frame.specs.Answer.{Cause, at_once}
use Rattle.command_frame.specs.Finish.{PutLine}
use Rattle.command_frame.specs.Moments.{AreSteady, AreTold, Moment, Reach, files_alone}
use Rattle.command_frame.specs.Status.{can_refuse, is_end}
use Rattle.command_frame.specs.Whole.{CarriedOut, HasFailed, IsDone}
use Rattle.command_words.specs.Ask.{RunAsk, run, words_of}
use Rattle.net_laws.specs.MinersTold.{IsToldByMiners}
use Rattle.outside.specs.Sink.{Appends, SinkState}
use Rattle.program_commands.specs.Ends.{ending_status}
use Rattle.program_commands.specs.Eval.{end_of, ending_of}
use Rattle.sc_text.specs.declared.end.End.{End}
use Rattle.sc_text.specs.declared.end.Ending.{Ending}
use Rattle.sc_text.specs.Event.{run_text}
use Rattle.sc_text.specs.declared.end.Ending.TheVariants.{Done, Trap, Budget, Tape}
use Rattle.clear_eval.specs.Offers.{offered}
use Rattle.language_model.specs.Effects.{Clear, RunStop, Ended, Short, World}
use Rattle.language_model.specs.Reports.{Report, evaluated, world_of}
use Rattle.language_model.specs.Tapes.{lacks_words}
use Rattle.language_model.proofs.Budgets.{budgets_same}
use Rattle.language_model.proofs.Kept.{cost_kept, words_kept}
use Rattle.language_model.proofs.TapesDecide.{enough_words}
use Rattle.program_commands.specs.Reports.{eval_with, lengths_of}
use Rattle.protocol_model.specs.Network.{Accepted}
use Rattle.tape_file.specs.Tapes.{FourTapes}
use Rattle.program_trees.specs.TypedPrograms.{TypedProgramTree}
use Rattle.value_file.specs.declared.inputs.Entry.{Entry}
use Rattle.run_engine.specs.Headline.{EndsByBudgetAndTapes, EndsSomewhere, Given, IsGiven, PrintsEvaluation, PrintsWhatMinersTell, RefusesSchedule}
use Rattle.run_engine.specs.Headline.{ScheduleRefused, WritesViewsAndLinks, is_whole, net_given, not_a_schedule, not_complete, refused_line, report_given}
use Rattle.run_engine.specs.Call.{Call}
use Rattle.run_engine.specs.Promises.{Gives, Keeps, RunEffect}
use Rattle.run_engine.specs.Told.{contents_in, outside_of}
use Rattle.miner_commands.specs.Run.{run_told}
use Rattle.program_commands.specs.Schedules.{refused_with}
use Rattle.run_engine.specs.Runs.{IsNotTaken, RunRefused, bad_program, bad_input, bad_tape, bad_schedule, not_taken}
use Rattle.program_commands.specs.Held.{ProgramRefused, bad_text, too_large}
use Rattle.run_engine.specs.Words.{reach_in}
use Rattle.run_engine.proofs.Promises.{told_alone}
use Rattle.run_engine.proofs.RunRefusals.{run_refused_by_net}
use Rattle.run_engine.proofs.Runs.{AnswersAtOnce, reach_by}

-- ---- a complete delivery

module _ (words : List (List ℕ)) (m m' : Moment) (s : Status)
    (gives : (ask : RunAsk) → words_of words ≡ Some (run ask) → Gives files_alone (RunEffect ask (contents_in m)) m m' s)
    (g : Given) (given : IsGiven words (contents_in m) g) (taken : net_given g ≡ Accepted) (steady : AreSteady files_alone m) where
  done : IsDone m m' (run_told g.ask g.program g.entries g.tapes g.delivery) s ⊎ (s ≡ statuses.Memory)
  done =
      gives g.ask given.asks (run_told g.ask g.program g.entries g.tapes g.delivery)
      (g.program, g.entries, g.tapes, g.delivery, given.held, taken, refl) steady

  pub prints : PrintsEvaluation g m.out m'.out s
  prints = elim done [ inl whole ↦ inl (whole.status, whole.text) | inr memory ↦ inr memory ]

  pub writes : WritesViewsAndLinks g (contents_in m) (contents_in m') s
  writes = elim done [ inl whole ↦ inl whole.files | inr memory ↦ inr memory ]

-- what evaluation tells is what three miners tell
module _ (g : Given) (told : IsToldByMiners g.program g.entries g.tapes g.ask.budget g.delivery (report_given g)) where
  abbrev end_with : Ending → (cost : ℕ) → End
  end_with how cost = record { how = how; cost = cost }

  end_is : end_of (report_given g) ≡ told.end
  end_is =
      ap (λ (stop : RunStop). end_with (ending_of stop) (report_given g).cost) told.how ∙ ap (λ (cost : ℕ). end_with told.end.how cost) told.cost

  pub tells_so : (before after : SinkState) (s : Status) → PrintsEvaluation g before after s → PrintsWhatMinersTell g before after s
  tells_so before after s (inl printed) =
      inl (
        (report_given g).events,
        told.end,
        told.are,
        printed.0 ∙ ap (λ (end : End). ending_status end.how) end_is,
        subst (λ (end : End). Appends before after (run_text (report_given g).events end)) end_is printed.1,
      )
  tells_so before after s (inr memory) = inr memory

-- ---- one that is refused

-- a status that tells no fault is that of an answer that is carried out
said : (m m' : Moment) (s : Status) (c : Cause) → c.status ≡ statuses.Schedule → s ≡ c.status
    → CarriedOut m m' s (at_once (Err c)) ⊎ HasFailed files_alone m m' s → PutLine c.line m.err m'.err
said m m' s c is same (inl carried) = carried.1
said m m' s c is same (inr failed) =
    let wrong : HasFailed files_alone m m' statuses.Schedule = subst (λ (x : Status). HasFailed files_alone m m' x) (same ∙ is) failed in
    absurd wrong

module _ (words : List (List ℕ)) (m m' : Moment) (s : Status) (call : Call words m m' s) where
  pub refuses : (g : Given) → IsGiven words (contents_in m) g → IsNotTaken (net_given g) → m.sources.files.told ≡ true → AreSteady files_alone m
      → RefusesSchedule g m.err m'.err s
  refuses g given refused t steady =
      let cause : Cause = refused_with (refused_line (net_given g)) in
      let answer : AnswersAtOnce words (outside_of m.sources m'.sources) (Err cause) =
      run_refused_by_net words g.ask (outside_of m.sources m'.sources) g.program g.entries g.tapes g.delivery given.asks given.held refused in
      let alone : files_alone ≡ reach_in words = sym (reach_by words (run g.ask) given.asks) in
      let told : AreTold (reach_in words) m.sources = subst (λ (r : Reach). AreTold r m.sources) alone (told_alone m.sources t) in
      elim (call.complete (at_once (Err cause)) answer (subst (λ (r : Reach). AreSteady r m) alone steady) told) [
        | inl is ↦
            inl (
              is,
              said m m' s cause refl is
                  (subst (λ (r : Reach). CarriedOut m m' s (at_once (Err cause)) ⊎ HasFailed r m m' s) (sym alone)
                  (call.answer_carried_out (at_once (Err cause)) answer told)),
            )
        | inr memory ↦ inr memory
      ]

-- only so
at_program : (path : List ℕ) (files : Contents) → ProgramRefused path files statuses.Schedule → ⊥
at_program path files (bad_text is bad) = absurd cc
at_program path files (too_large is error large) = absurd cc

only_refused : (ask : RunAsk) (files : Contents) → RunRefused ask files statuses.Schedule → ScheduleRefused ask files
only_refused ask files (bad_program refused) = absurd (at_program ask.program files refused)
only_refused ask files (bad_input is p h bytes err there bad) = absurd cc
only_refused ask files (bad_tape is p h entries inputs path bytes place source there bad) = absurd cc
only_refused ask files (bad_schedule is p h entries inputs tapes taped path bytes line order there bad) = not_a_schedule path bytes line order there bad
only_refused ask files (not_taken is p entries tapes delivery h refused) =
    not_complete (record { ask = ask; program = p; entries = entries; tapes = tapes; delivery = delivery }) refl h refused

pub schedule_refused : (ask : RunAsk) (m m' : Moment) (s : Status) → s ≡ statuses.Schedule
    → Keeps (RunEffect ask (contents_in m)) (RunRefused ask (contents_in m)) is_end m m' s → ScheduleRefused ask (contents_in m)
schedule_refused ask m m' s is keeps =
    only_refused ask (contents_in m) (subst (RunRefused ask (contents_in m)) is (keeps.refused_only (ap can_refuse is) (ap is_end is)))

-- ---- how a run ends

not_lacking : (s : RunStop) → is_whole s ≡ true → lacks_words s ≡ false
not_lacking (Ended Done) whole = refl
not_lacking (Ended (Trap kind line)) whole = refl
not_lacking (Ended Budget) whole = refl
not_lacking (Ended (Tape owner need have)) whole = absurd cc
not_lacking Short whole = refl

not_budget : (s : RunStop) → is_whole s ≡ true → s ≢ Ended Budget
not_budget s whole is = let wrong : is_whole (Ended Budget) ≡ true = subst (λ (x : RunStop). is_whole x ≡ true) is whole in absurd cc

module _ (p : TypedProgramTree) (entries : List Entry) (t : FourTapes) (budget : ℕ) where
  abbrev here : World
  here = world_of Clear (offered entries (lengths_of t))

  ends_somewhere : is_whole (eval_with p entries t budget).stop ≡ true → EndsSomewhere p entries t budget
  ends_somewhere whole = record {
    budget_then = budget;
    lengths_then = lengths_of t;
    whole = whole;
    cost = cost_kept here p budget [];
    needs = words_kept here p budget [];
  }

  ends_here : EndsSomewhere p entries t budget → is_whole (eval_with p entries t budget).stop ≡ true
  ends_here e =
      let there = world_of Clear (offered entries e.lengths_then) in
      let on_tapes : evaluated here p e.budget_then [] ≡ evaluated there p e.budget_then [] =
      enough_words there here p e.budget_then [] refl refl (not_lacking (evaluated there p e.budget_then []).stop e.whole) e.needs in
      let whole : is_whole (evaluated here p e.budget_then []).stop ≡ true = ap (λ (r : Report). is_whole r.stop) on_tapes ∙ e.whole in
      let cost : (evaluated here p e.budget_then []).cost ≤ budget = subst (λ (r : Report). r.cost ≤ budget) (sym on_tapes) e.cost in
      ap (λ (r : Report). is_whole r.stop)
      (budgets_same here p e.budget_then budget [] (not_budget (evaluated here p e.budget_then []).stop whole) cost)
      ∙ whole

  pub ends_by_budget_and_tapes : EndsByBudgetAndTapes p entries t budget
  ends_by_budget_and_tapes = (ends_somewhere, ends_here)
