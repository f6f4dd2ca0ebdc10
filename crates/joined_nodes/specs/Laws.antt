-- What is promised of three nodes that are joined.
use Rattle.std.specs.Prelude.{ℕ, List}
use Rattle.proto_core.specs.declared.party.Number.{Number}
use Rattle.proto_core.specs.Strand.{Mail}
use Rattle.protocol_model.specs.Runs.{Tapes}
use Rattle.bytecode.specs.Raw.{RawCode}
use Rattle.tape_file.specs.Tapes.{FourTapes}
use Rattle.value_file.specs.declared.inputs.Entry.{Entry}
use Rattle.language_model.specs.Reports.{Offered}
use Rattle.program_trees.specs.TypedPrograms.{TypedProgramTree}
use Rattle.verified_code.specs.Settled.{settled}
use Rattle.verified_code.specs.Steps.{Function}
use Rattle.code_places.specs.Dealt.{Dealt}
use Rattle.code_runs.specs.Laws.{MayRunShared}
use Rattle.view_model.specs.TapeMaps.{miners_of}
use Rattle.miner_runs.specs.Accepted.{IsAccepted}
use Rattle.miner_runs.specs.Codes.{IsCodeOf}
use Rattle.miner_runs.specs.Dealt.{CanBeDealt}
use Rattle.miner_runs.specs.Inputs.{dealt_of}
use Rattle.miner_runs.specs.Offers.{offered}
use Rattle.miner_runs.specs.Reports.{eval_with, lengths_of}
use Rattle.miner_core.specs.Meaning.{mean}
use Rattle.miner_core.specs.Story.{Story}
use Rattle.joined_nodes.specs.Joined.{AreJoined, AgreeWith}

-- with code that may run, they agree with its run in the clear
abbrev pub JoinedNodesAgree : Offered → Dealt → List Function → (budget : ℕ) → Tapes → (Number → Story) → Mail → Type 0
JoinedNodesAgree o d c budget tapes nodes mail =
    MayRunShared o d c tapes → AreJoined o d c budget tapes nodes mail → AgreeWith o d c budget tapes (mean c o budget) nodes

-- with the code of an accepted program, and inputs that can be dealt, they agree with its evaluation
abbrev pub JoinedNodesAgreeOnPrograms :
    TypedProgramTree → RawCode → List Entry → FourTapes → (budget : ℕ) → (Number → Story) → Mail → Type 0
JoinedNodesAgreeOnPrograms p given entries t budget nodes mail =
    IsAccepted p → IsCodeOf p given → CanBeDealt entries t →
    AreJoined (offered entries (lengths_of t)) (dealt_of entries t.dealer) (settled given) budget (miners_of t) nodes mail →
    AgreeWith (offered entries (lengths_of t)) (dealt_of entries t.dealer) (settled given) budget (miners_of t) (eval_with p entries t budget) nodes
