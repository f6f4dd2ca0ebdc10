-- What is promised of three served miners.
use Rattle.std.specs.Prelude.{ℕ, List}
use Rattle.bytecode.specs.Raw.{RawCode}
use Rattle.honest_miners.specs.Honest.{EndsWithTheRun}
use Rattle.node_run.specs.Nodes.{Own}
use Rattle.joined_nodes.specs.Laws.{JoinedNodesAgreeOnPrograms}
use Rattle.honest_miners.specs.Texts.{TextsOfARunAreItsText}
use Rattle.miner_core.specs.Story.{Story}
use Rattle.miner_node.specs.Laws.{DoesAsItsMiner}
use Rattle.joined_nodes.specs.OwnCode.{Ended}
use Rattle.proto_core.specs.declared.party.Number.{Number}
use Rattle.proto_core.specs.Strand.{Mail, Strand}
use Rattle.tape_file.specs.Tapes.{FourTapes}
use Rattle.program_trees.specs.TypedPrograms.{TypedProgramTree}
use Rattle.value_file.specs.declared.inputs.Entry.{Entry}
use Rattle.honest_miners.specs.Served.{ServedAgree}

pub record ThreeServedMiners : Type 0 where
  -- Three with the code of one accepted program, the share files and own tapes of one dealing and one budget, to each of which has come a front of the
  -- bytes that its peers have sent: what each has sent begins the hellos and frames of the joint run, what it has opened and told begins what
  -- evaluation opens and tells, it refuses nothing, and where it has ended it has ended as evaluation does, having told all.
  pub serve_as_evaluated :
      (p : TypedProgramTree) (entries : List Entry) (tapes : FourTapes) (budget : ℕ) (digest : List ℕ) (code : RawCode) (coming : Number → ℕ → List ℕ)
      → ServedAgree p entries tapes budget digest code coming
  -- One whose peers send all that the joint run sends comes to its end as evaluation does, whatever its peers have received.
  pub end_with_honest_peers :
      (p : TypedProgramTree) (entries : List Entry) (tapes : FourTapes) (me : Number) (own : Own) (coming : ℕ → List ℕ)
      → EndsWithTheRun p entries tapes me own coming
  -- Once both hellos were read, each does what its miner does on the messages that it has received, whatever these are.
  pub does_as_its_miner : (i : Number) (s : Strand Ended) (coming : ℕ → List ℕ) → DoesAsItsMiner i s coming
  -- What three come to by the messages that each has received.
  pub agree_with_evaluation :
      (p : TypedProgramTree) (code : RawCode) (entries : List Entry) (tapes : FourTapes) (budget : ℕ) (nodes : Number → Story) (mail : Mail)
      → JoinedNodesAgreeOnPrograms p code entries tapes budget nodes mail
  -- The texts of three that tell a run's events are put together to the text of the run.
  pub texts_make_the_run_text : TextsOfARunAreItsText
