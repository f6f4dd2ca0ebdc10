-- A miner of a program's run, whose peers send all that the run sends.
use Rattle.std.specs.Prelude.{◌≡◌, ℕ, List, Some, length}
use Rattle.sc_text.specs.declared.end.End.{End}
use Rattle.proto_core.specs.declared.party.Number.{Number}
use Rattle.proto_core.specs.Strand.{Mail, Notice, told_in}
use Rattle.program_trees.specs.TypedPrograms.{TypedProgramTree}
use Rattle.value_file.specs.declared.inputs.Entry.{Entry}
use Rattle.tape_file.specs.Tapes.{FourTapes}
use Rattle.input_share.specs.Dealing.{dealt}
use Rattle.view_model.specs.TapeMaps.{miners_of}
use Rattle.language_model.specs.Effects as effects
use Rattle.language_model.specs.Reports.{Report}
use Rattle.program_run.specs.Accepted.{IsAccepted}
use Rattle.program_run.specs.Codes.{IsCodeOf}
use Rattle.program_run.specs.Dealt.{CanBeDealt}
use Rattle.program_run.specs.Inputs.{dealt_of}
use Rattle.program_run.specs.Reports.{eval_with, lengths_of}
use Rattle.joined_nodes.specs.Runs.{messages}
use Rattle.joined_nodes.specs.Telling.{Tells}
use Rattle.own_code.specs.OwnCode.{Ended}
use Rattle.miner_node.specs.Laws.{AreHonest}
use Rattle.miner_node.specs.Serving.{Finished, Serving}
use Rattle.node_run.specs.Nodes.{Own, end_in, own_hello, own_serving}

-- it ends as evaluation does, at the same cost, and has told its own part of what three miners tell who tell the events of that
pub record EndsAsEvaluated (me : Number) (own : Own) (r : Report) (served : Serving) : Type 0 where
  pub last : Ended
  pub comes : served.outcome ≡ Finished last
  pub end : End
  pub ends : end_in own.budget last ≡ Some end
  pub how : r.stop ≡ effects.Ended end.how
  pub cost : end.cost ≡ r.cost
  pub all : Number → List Notice
  pub tells : Tells r.events all
  pub told : told_in served.acts ≡ all me

module _ (p : TypedProgramTree) (entries : List Entry) (t : FourTapes) (me : Number) where
  -- a miner has the code of an accepted program, its share file of one dealing, and its own tape
  pub record HasItsPart (own : Own) : Type 0 where
    pub accepted : IsAccepted p
    pub code : IsCodeOf p own.code
    pub can : CanBeDealt entries t
    pub digest : length own.digest ≡ 32
    pub share : own.share ≡ dealt me entries t.dealer (lengths_of t)
    pub tape : own.tape ≡ miners_of t me

  -- all messages of the run of the three
  abbrev pub run_messages : (budget : ℕ) → Mail
  run_messages budget = messages (dealt_of entries t.dealer) (eval_with p entries t budget) (miners_of t)

  -- where each peer sends the hello that it has to send, and then the frames of all messages of the run
  abbrev pub EndsWithTheRun : Own → (coming : ℕ → List ℕ) → Type 0
  EndsWithTheRun own coming =
      HasItsPart own → AreHonest me (own_hello me own) (run_messages own.budget) coming →
      EndsAsEvaluated me own (eval_with p entries t own.budget) (own_serving me own coming)
