-- What is promised of honest miners.
use Rattle.std.specs.Prelude.{ℕ, List}
use Rattle.proto_core.specs.declared.party.Number.{Number}
use Rattle.proto_core.specs.Strand.{Mail}
use Rattle.protocol_model.specs.Runs.{Tapes}
use Rattle.bytecode.specs.Raw.{RawCode}
use Rattle.tape_file.specs.Tapes.{FourTapes}
use Rattle.value_file.specs.declared.inputs.Entry.{Entry}
use Rattle.language_model.specs.Reports.{Offered}
use Rattle.program_trees.specs.TypedPrograms.{TypedProgramTree}
use Rattle.verified_code.specs.Settled.{settled}
use Rattle.verified_code.specs.Steps.{Function}
use Rattle.code_places.specs.Dealt.{Dealt}
use Rattle.code_runs.specs.Laws.{MayRunShared}
use Rattle.view_model.specs.TapeMaps.{miners_of}
use Rattle.program_run.specs.Accepted.{IsAccepted}
use Rattle.program_run.specs.Codes.{IsCodeOf}
use Rattle.program_run.specs.Dealt.{CanBeDealt}
use Rattle.program_run.specs.Inputs.{dealt_of}
use Rattle.program_run.specs.Offers.{offered}
use Rattle.program_run.specs.Reports.{eval_with, lengths_of}
use Rattle.miner_core.specs.Meaning.{mean}
use Rattle.miner_core.specs.Story.{Story}
use Rattle.link_schedule.specs.Net.{NetState}
use Rattle.joined_nodes.specs.Joined.{AreJoined}
use Rattle.net_laws.specs.Honest.{NodesGoOn, IsNetOf, NetGoesOn}

-- ---- of code that may run in the clear

module _ (o : Offered) (d : Dealt) (c : List Function) (budget : ℕ) (tapes : Tapes) where
  abbrev pub JoinedNodesGoOn : (Number → Story) → Mail → Type 0
  JoinedNodesGoOn nodes mail =
      MayRunShared o d c tapes → AreJoined o d c budget tapes nodes mail → NodesGoOn d tapes (mean c o budget) nodes mail

  abbrev pub NetsGoOn : NetState → Type 0
  NetsGoOn net = MayRunShared o d c tapes → IsNetOf o d c budget tapes net → NetGoesOn d tapes (mean c o budget) net

-- ---- of the code of an accepted program, on inputs that can be dealt

module _ (p : TypedProgramTree) (given : RawCode) (entries : List Entry) (t : FourTapes) (budget : ℕ) where
  abbrev pub JoinedNodesGoOnWithPrograms : (Number → Story) → Mail → Type 0
  JoinedNodesGoOnWithPrograms nodes mail =
      IsAccepted p → IsCodeOf p given → CanBeDealt entries t
      → AreJoined (offered entries (lengths_of t)) (dealt_of entries t.dealer) (settled given) budget (miners_of t) nodes mail
      → NodesGoOn (dealt_of entries t.dealer) (miners_of t) (eval_with p entries t budget) nodes mail

  abbrev pub NetsGoOnWithPrograms : NetState → Type 0
  NetsGoOnWithPrograms net =
      IsAccepted p → IsCodeOf p given → CanBeDealt entries t
      → IsNetOf (offered entries (lengths_of t)) (dealt_of entries t.dealer) (settled given) budget (miners_of t) net
      → NetGoesOn (dealt_of entries t.dealer) (miners_of t) (eval_with p entries t budget) net
