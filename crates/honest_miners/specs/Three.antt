-- THREE CALLS OF `miner` with the files of one dealing, on hosts of their own. To each has come on its links a front of the bytes that the others have
-- sent.
use Rattle.std.specs.Prelude.{◌≡◌, ◌⊎◌, ℕ, List, if◌then◌else◌, Some, Ok, Err}
use Rattle.outside.specs.Files.{Contents}
use Rattle.command_frame.specs.Answer.{Answer}
use Rattle.command_frame.specs.Reads.{cut_off}
use Rattle.command_words.specs.Ask.{MinerAsk}
use Rattle.sc_text.specs.declared.end.End.{End}
use Rattle.sc_text.specs.Event.{run_text}
use Rattle.proto_core.specs.declared.party.Number.{Number}
use Rattle.proto_core.specs.declared.link.Link.{Link}
use Rattle.proto_core.specs.Parties.{count_of, is_forward, receiver_of, sender_of}
use Rattle.proto_core.specs.Strand.{Begins, Notice}
use Rattle.bytecode.specs.Raw.{RawCode}
use Rattle.program_trees.specs.TypedPrograms.{TypedProgramTree}
use Rattle.value_file.specs.declared.inputs.Entry.{Entry}
use Rattle.tape_file.specs.Tapes.{FourTapes}
use Rattle.language_model.specs.Effects as effects
use Rattle.language_model.specs.Reports.{Report}
use Rattle.program_run.specs.Accepted.{IsAccepted}
use Rattle.program_run.specs.Codes.{IsCodeOf}
use Rattle.program_run.specs.Dealt.{CanBeDealt}
use Rattle.program_run.specs.Reports.{eval_with}
use Rattle.code_runs.specs.Telling.{Tells}
use Rattle.miner_text.specs.Lines.{text_of}
use Rattle.miner_text.specs.Texts.{IsEnd}
use Rattle.view_laws.specs.Views.{AreCounted}
use Rattle.honest_miners.specs.Told.{lines_told}
use Rattle.trio.specs.Answers.{join_of}
use Rattle.honest_miners.specs.Nodes.{Outgoing}
use Rattle.honest_miners.specs.Served.{part_of, run_bytes}
use Rattle.miner_command.specs.Files.{Given}
use Rattle.miner_command.specs.Held.{HoldsMiner}
use Rattle.miner_command.specs.Miner.{miner_of, own_of, sent_of, text_effect}

module _ (p : TypedProgramTree) (entries : List Entry) (t : FourTapes) (budget : ℕ) (digest : List ℕ) (code : RawCode) where
  -- the words ask for the miner of this number, with this budget, and its host's files hold its part of the dealing
  pub record HoldsItsPart (i : Number) (ask : MinerAsk) (files : Contents) : Type 0 where
    pub me : ask.me ≡ i
    pub given : Given
    pub held : HoldsMiner ask files given
    pub part : own_of ask given ≡ part_of p entries t budget digest code i

  -- by the words of each, the files on its host, and the bytes that have come to it from a peer of this number
  module _ (asks : Number → MinerAsk) (files : Number → Contents) (coming : Number → ℕ → List ℕ) where
    abbrev pub sent_by : Number → Outgoing
    sent_by i = sent_of (asks i) (files i) (coming i)

    -- the bytes that were sent on a link, and those that have come on it
    abbrev pub sent_on : Link → List ℕ
    sent_on l = if is_forward l then (sent_by (sender_of l)).to_next else (sent_by (sender_of l)).to_previous

    abbrev pub came_on : Link → List ℕ
    came_on l = coming (receiver_of l) (count_of (sender_of l))

    pub record AreCalled : Type 0 where
      pub accepted : IsAccepted p
      pub written : IsCodeOf p code
      pub can : CanBeDealt entries t
      pub holds : (i : Number) → HoldsItsPart i (asks i) (files i)
      pub came : (l : Link) → Begins (came_on l) (sent_on l)

    abbrev pub answer : Number → Answer
    answer i = miner_of (asks i) (files i) (coming i)

    -- beside this report of the run in the clear
    pub record AnswerTheRun (r : Report) : Type 0 where
      -- each has sent a front of the hellos and frames of the joint run
      pub sent : (l : Link) → Begins (sent_on l) (run_bytes p entries t budget digest code l)
      -- three lists of notices tell the report's events, and this is its end
      pub all : Number → List Notice
      pub tells : Tells r.events all
      pub end : End
      pub how : r.stop ≡ effects.Ended end.how
      pub cost : end.cost ≡ r.cost
      -- where all that was sent has come, each writes its own list and the end to its file; before that it does so, or its peers' bytes end too early
      pub finished :
          ((l : Link) → came_on l ≡ sent_on l) → (i : Number) → answer i ≡ Ok (text_effect (asks i).out (text_of (lines_told (all i) end)) end)
      pub each : (i : Number) → (answer i ≡ Err cut_off) ⊎ (answer i ≡ Ok (text_effect (asks i).out (text_of (lines_told (all i) end)) end))
      -- this end can be written: its numbers have room, where 64 bits count the steps of the budget, the inputs, and the words of each tape
      pub end_fits : AreCounted entries t budget → IsEnd end
      -- and then these texts are put together to the text of the run
      pub texts :
          IsEnd end → join_of (λ i. Some (text_of (lines_told (all i) end))) ≡ Ok (record { text = run_text r.events end; end = end })

    abbrev pub ThreeMinersAnswer : Type 0
    ThreeMinersAnswer = AreCalled → AnswerTheRun (eval_with p entries t budget)
