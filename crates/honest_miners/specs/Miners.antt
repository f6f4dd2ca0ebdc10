-- The command `miner` with the files of one dealing, and with honest peers.
use Rattle.std.specs.Prelude.{◌≡◌, ℕ, List, Ok}
use Rattle.outside.specs.Files.{Contents}
use Rattle.command_words.specs.Ask.{MinerAsk}
use Rattle.sc_text.specs.declared.end.End.{End}
use Rattle.proto_core.specs.declared.party.Number.{Number}
use Rattle.proto_core.specs.Strand.{Notice}
use Rattle.program_trees.specs.TypedPrograms.{TypedProgramTree}
use Rattle.value_file.specs.declared.inputs.Entry.{Entry}
use Rattle.tape_file.specs.Tapes.{FourTapes, lengths_of}
use Rattle.input_share.specs.Dealing.{dealt}
use Rattle.view_model.specs.TapeMaps.{miners_of}
use Rattle.language_model.specs.Effects as effects
use Rattle.language_model.specs.Reports.{Report}
use Rattle.program_run.specs.Accepted.{IsAccepted}
use Rattle.program_run.specs.Codes.{IsCodeOf}
use Rattle.program_run.specs.Dealt.{CanBeDealt}
use Rattle.program_run.specs.Reports.{eval_with}
use Rattle.code_runs.specs.Telling.{Tells}
use Rattle.miner_text.specs.Lines.{text_of}
use Rattle.honest_miners.specs.Told.{lines_told}
use Rattle.miner_node.specs.Laws.{AreHonest}
use Rattle.honest_miners.specs.Nodes.{own_hello}
use Rattle.honest_miners.specs.Honest.{run_messages}
use Rattle.miner_command.specs.Files.{Given}
use Rattle.miner_command.specs.Held.{HoldsMiner}
use Rattle.miner_command.specs.Miner.{miner_of, own_of, text_effect}

module _ (p : TypedProgramTree) (entries : List Entry) (t : FourTapes) (ask : MinerAsk) (files : Contents) where
  -- the files hold the code of an accepted program, the miner's share file of one dealing, and its own tape
  pub record HasItsFiles (given : Given) : Type 0 where
    pub held : HoldsMiner ask files given
    pub accepted : IsAccepted p
    pub code : IsCodeOf p given.code.code
    pub can : CanBeDealt entries t
    pub share : given.share ≡ dealt ask.me entries t.dealer (lengths_of t)
    pub tape : given.tape ≡ miners_of t ask.me

  -- it writes its own part of what three miners tell who tell the events of the evaluation, and then the end and the cost of that; its
  -- status is the end's
  pub record WritesItsText (r : Report) (coming : ℕ → List ℕ) : Type 0 where
    pub end : End
    pub how : r.stop ≡ effects.Ended end.how
    pub cost : end.cost ≡ r.cost
    pub all : Number → List Notice
    pub tells : Tells r.events all
    pub answer : miner_of ask files coming ≡ Ok (text_effect ask.out (text_of (lines_told (all ask.me) end)) end)

  -- where each peer sends the hello that it has to send, and then the frames of all messages of the run
  abbrev pub WritesWithHonestPeers : Given → (coming : ℕ → List ℕ) → Type 0
  WritesWithHonestPeers given coming =
      HasItsFiles given → AreHonest ask.me (own_hello ask.me (own_of ask given)) (run_messages p entries t ask.me ask.budget) coming →
      WritesItsText (eval_with p entries t ask.budget) coming
