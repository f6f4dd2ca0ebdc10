-- What is promised of each call, whatever its words ask for.
--
-- The answer is what the words ask for: the files to write, the text and the status, or a refusal. It is decided by the words, by what the objects
-- that they reach tell as they are handed over, and by what the text of the program that the words name is judged to be.
use Rattle.std.specs.Prelude.{◌≡◌, ◌≢◌, ◌⊎◌, List, ℕ, true, false, None, Err}
use Rattle.outside.specs.Causes.{Rose}
use Rattle.outside.specs.Sink.{SameSink}
use Rattle.command_frame.specs.declared.status.Status.{Status}
use Rattle.command_frame.specs.declared.status.Status.TheVariants as statuses
use Rattle.command_frame.specs.Answer.{Course, usage}
use Rattle.command_frame.specs.Decides.{AfterWrites, ChildrenFailed}
use Rattle.command_frame.specs.Finish.{OnlyAmong, PutLine}
use Rattle.command_frame.specs.Moments.{AreSteady, AreTold, Moment, Reach}
use Rattle.command_frame.specs.Objects.{child_line, link_line, write_line}
use Rattle.command_frame.specs.Reads.{cut_off}
use Rattle.command_frame.specs.Status.{can_refuse, is_end}
use Rattle.command_frame.specs.Stops.{memory_line}
use Rattle.command_frame.specs.Whole.{CarriedOut, ChildrenRose, CutsText, FileTold, HasFailed, IsAnswered, IsMissed, LinksRose, OnlyWritten, OutFaulted}
use Rattle.command_frame.specs.Whole.{PutsNothing, RunsShort, SaysError}
use Rattle.command_words.specs.Ask.{words_of}
use Rattle.run_engine.specs.Told.{Outside, outside_of}
use Rattle.run_engine.specs.Words.{HasAnswer, IsAnswer, ends_in, paths_in, reach_in, reach_miners, written_by}

module _ (words : List (List ℕ)) (before after : Moment) where
  abbrev pub outside : Outside
  outside = outside_of before.sources after.sources

  -- this is so of each answer to the words
  abbrev pub OfEachAnswer : (Course → Type 0) → Type 0
  OfEachAnswer So = (answer : Course) → IsAnswer words outside answer → So answer

  -- there is an answer
  abbrev pub Answered : Type 0
  Answered = HasAnswer words outside

module _ (words : List (List ℕ)) (before : Moment) where
  abbrev pub reach : Reach
  reach = reach_in words

  -- all objects tell that the words reach
  abbrev pub AllTold : Type 0
  AllTold = AreTold reach before.sources

-- why a call stops at what another miner did: the words read from peers, or miners' texts, or start other programs
pub record StopsByOthers (reach : Reach) (before after : Moment) (given : Status) : Type 0 where
  pub peer : given ≡ statuses.Peer → reach.breach statuses.Peer ≡ true
  pub child : given ≡ statuses.Child → (reach.breach statuses.Child ≡ true) ⊎ ChildrenRose reach before after
  pub disagree : given ≡ statuses.Disagree → reach.breach statuses.Disagree ≡ true

pub record Call (words : List (List ℕ)) (before after : Moment) (given : Status) : Type 0 where
  -- Usage comes exactly where the words spell no command.
  pub usage_only_without_command : given ≡ statuses.Usage → words_of words ≡ None
  pub usage_without_command : words_of words ≡ None → (given ≡ statuses.Usage) ⊎ (given ≡ statuses.Memory)
  pub usage_said : given ≡ statuses.Usage → PutLine usage.line before.err after.err
  -- There is an answer, unless memory ran out or a file failed, and a file of a steady store fails only where there is an answer. Nothing is
  -- printed without an answer.
  pub answered :
      before.sources.files.told ≡ true → given ≢ statuses.Memory → (given ≡ statuses.File → before.sources.files.steady ≡ true) → Answered words before after
  pub printed_if_answered : PutsNothing before after ⊎ (before.sources.files.told ≡ true → Answered words before after)
  -- The answer is carried out: all of its files and its text and nothing on `err`; or its refusal's line on `err`, nothing on `out`, and no
  -- file but those that are to be written before it is decided. Or a fault is told by the status of the object that failed, whose count
  -- rose, or memory ran out. A line is on `err` whole, or a prefix of it where the count of `err`'s faults rose, or that of its calls without
  -- memory, and the rest of this same line is what `err` lost. So want of memory doesn't stand in for another stop whose line `err` didn't take.
  pub answer_carried_out :
      OfEachAnswer words before after (λ answer. AllTold words before
      → CarriedOut before after given answer ⊎ HasFailed (reach words before) before after given)
  -- A file failed, and its line is on `err`: a file that is read, and no file changed, or those written before it is read; or one that is
  -- written, and exactly those before it are written. Over steady files it is one that is read and missing.
  pub file_fault_counted : given ≡ statuses.File → Rose before.sources.files.faults after.sources.files.faults
  pub file_fault_told : given ≡ statuses.File → FileTold (paths_in words) (reach words before) (IsAnswer words (outside words before after)) before after
  pub file_missing_if_steady :
      OfEachAnswer words before after (λ answer. given ≡ statuses.File → before.sources.files.steady ≡ true → AllTold words before
      → IsMissed answer before after)
  -- The output failed: all files are written, and it holds a prefix of the text.
  pub write_fault_counted : given ≡ statuses.Write → OutFaulted before.out after.out
  pub write_fault_said : given ≡ statuses.Write → PutLine write_line before.err after.err
  pub write_fault_cuts_text : OfEachAnswer words before after (λ answer. given ≡ statuses.Write → CutsText (reach words before) answer before after)
  -- The links failed, of words that reach other miners; steady ones only where the bytes of a peer end before or within a hello or a frame that
  -- is awaited. No file is changed but those that are written before the answer is decided, and these are written.
  pub link_fault_counted : given ≡ statuses.Link → LinksRose (reach words before) before after
  pub link_fault_said : given ≡ statuses.Link → PutLine link_line before.err after.err
  pub links_cut_off_if_steady :
      OfEachAnswer words before after (λ answer. given ≡ statuses.Link → before.sources.links.steady ≡ true → AllTold words before
      → answer.answer ≡ Err cut_off)
  pub link_fault_leaves :
      OfEachAnswer words before after (λ answer. given ≡ statuses.Link → AllTold words before
      → AfterWrites answer.first before.sources.files after.sources.files)
  -- A child ended as no run does, or a miner's text is none, and the answer says so; or a child could not be started or waited for: the count of
  -- the other programs rose, which that of steady ones doesn't, the line is on `err`, and the files are written that come before the answer
  -- is decided, and no other.
  pub child_fault_told :
      OfEachAnswer words before after (λ answer. given ≡ statuses.Child → AllTold words before
      → CarriedOut before after given answer
      ⊎ (ChildrenFailed (reach words before) answer before.sources after.sources × PutLine child_line before.err after.err))
  -- Memory ran out: the output is as it was, and of the files none is written, or those before one of them, which then holds any bytes, or those
  -- that come before the answer is decided; or all files are written, and the output, which had no memory itself, holds a prefix of the text. What
  -- `err` was given and lost is memory's line, so where the line of another stop was tried and `err` failed, the status is that of this stop.
  pub memory_said : given ≡ statuses.Memory → PutLine memory_line before.err after.err
  pub memory_cuts_text : given ≡ statuses.Memory → PutsNothing before after ⊎ Rose before.out.shortages after.out.shortages
  pub memory_leaves : OfEachAnswer words before after (λ answer. given ≡ statuses.Memory → RunsShort (reach words before) answer before after)
  -- A command that comes to its end says nothing. One that doesn't, as for it 8 is no end of `deal`, prints nothing, unless it stops for the output
  -- or for memory, and says a line that begins with `error: `; and this whatever the objects tell.
  pub end_says_nothing : is_end given ≡ true → can_refuse given ≡ false → SameSink before.err after.err
  pub refused_prints_nothing : ends_in words given ≡ false → given ≢ statuses.Write → given ≢ statuses.Memory → PutsNothing before after
  pub stops_say_error : ends_in words given ≡ false → SaysError before.err after.err
  -- Only paths that the words name to be written change, of them only those of the answer, and nothing else. No link fails, and no peer, no child
  -- and no miner's text stops a command that has nothing to do with them.
  pub files_only_as_answered : OfEachAnswer words before after (λ answer. OnlyWritten (reach words before) answer before.sources after.sources)
  pub files_only_as_named : OnlyAmong (written_by words) before.sources.files after.sources.files
  pub links_fail_if_reached : given ≡ statuses.Link → reach_miners words ≡ true
  pub no_peer_or_child_stops : StopsByOthers (reach words before) before after given
  -- Over steady objects the status is the answer's, or memory ran out.
  pub complete :
      OfEachAnswer words before after (λ answer. AreSteady (reach words before) before → AllTold words before
      → IsAnswered answer given ⊎ (given ≡ statuses.Memory))
