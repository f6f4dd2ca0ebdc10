-- A miner, and the hello that it sends, by its share file.
use Rattle.std.specs.Prelude.{◌≡◌, ℕ, nat_le, if◌then◌else◌, List, [], false, Option, Some, None}
use Rattle.sha2.specs.Sha256.{sha256}
use Rattle.outside.specs.Tapes.{TapesState, Drew}
use Rattle.sc_text.specs.declared.end.Ending.{Ending}
use Rattle.sc_text.specs.declared.end.Ending.TheVariants.{Tape}
use Rattle.sc_text.specs.declared.end.TapeOwner.TheVariants.{Dealer}
use Rattle.proto_core.specs.declared.party.Number.{Number}
use Rattle.proto_core.specs.Parties.{count_of}
use Rattle.proto_core.specs.Strand.{Strand, Ends}
use Rattle.input_share.specs.ShareFile.{MinerFile}
use Rattle.input_share.specs.Shapes.{shapes_of}
use Rattle.value_file.specs.Public.{part_bytes}
use Rattle.view_model.specs.Dealing.{private_shares}
use Rattle.language_model.specs.Effects.{World, Answers}
use Rattle.language_model.specs.Reports.{world_of, dealing}
use Rattle.clear_eval.specs.Offers.{offered_part}
use Rattle.bytecode.specs.Raw.{RawCode}
use Rattle.node_run.specs.Idle.{idle_code}
use Rattle.verified_code.specs.Steps.{Function}
use Rattle.verified_code.specs.Settled.{settled}
use Rattle.wire.specs.declared.fields.Hello.{Hello}
use Rattle.wire.specs.Digests.{public_text}
use Rattle.driven_nodes.specs.Steps.{Stopped}
use Rattle.miner_core.specs.Places.{first_place}
use Rattle.miner_core.specs.OwnCode.{Ended, Reached}
use Rattle.miner_core.specs.Story.{Story, strand_in}
use Rattle.miner_core.specs.Drawing.{left_for}
use Rattle.miner_core.specs.Streams.{StreamState}

-- ---- what a miner knows

-- the public part of the inputs, and the lengths of all tapes; it is told the words that are opened
abbrev pub share_world : MinerFile → World
share_world share = world_of Answers (offered_part (shapes_of share.entries) share.lens)

-- the dealer's tape is too short for the inputs: so the run ends before it begins
abbrev pub undealt_in : World → Option Ending
undealt_in w = if nat_le (dealing w) w.dealer then None else Some (Tape Dealer (dealing w) w.dealer)

abbrev pub undealt : MinerFile → Option Ending
undealt share = undealt_in (share_world share)

-- ---- the miner

-- one to which nothing was delivered, with this code, its shares of the inputs, and its tape
abbrev pub first_story : RawCode → MinerFile → (tape : List ℕ) → (budget : ℕ) → Story
first_story code share tape budget =
    record {
      world = share_world share;
      code = settled code;
      dealt = private_shares share.entries;
      tape = tape;
      budget = budget;
      from_previous = [];
      from_next = [];
      lost = false;
    }

-- where a run stands that has ended so before it began
abbrev pub ended_first : Ending → List Function → (budget : ℕ) → Ended
ended_first how code budget = Reached (Stopped (record (first_place code budget) { ended = Some how })) []

-- what it does: nothing, where the inputs are not dealt; else its part of the code's run
abbrev pub unless_undealt : Option Ending → Number → Story → Strand Ended
unless_undealt None me s = strand_in me s
unless_undealt (Some how) me s = Ends (ended_first how s.code s.budget)

abbrev pub strand_of : Number → RawCode → MinerFile → (tape : List ℕ) → (budget : ℕ) → Strand Ended
strand_of me code share tape budget = unless_undealt (undealt share) me (first_story code share tape budget)

-- ---- the miner in memory

abbrev pub run_code : Option Ending → RawCode → RawCode
run_code None code = code
run_code (Some how) code = idle_code

-- where the inputs are not dealt, it runs code that does nothing
abbrev pub made_story : RawCode → MinerFile → (tape : List ℕ) → (budget : ℕ) → Story
made_story code share tape budget = first_story (run_code (undealt share) code) share tape budget

-- of its tape these words were drawn, and as many are left after them as the source has
pub record IsMadeOf (i : Number) (code : RawCode) (share : MinerFile) (budget : ℕ) (old new : TapesState) (m : StreamState) : Type 0 where
  pub going : m.lost ≡ None
  pub taken : List ℕ
  pub drew : Drew old new (count_of i) taken
  pub story : m.story ≡ made_story code share taken budget
  pub left : left_for i new ≡ m.ahead

-- ---- the hello

-- what everybody knows of the run: the text of the public file, a newline, and a line with the budget and the lengths of the tapes, without a
-- newline at its end
abbrev pub known_text : MinerFile → (budget : ℕ) → List ℕ
known_text share budget = public_text (part_bytes (shapes_of share.entries)) budget share.lens

-- the hello of a miner, by the digest of the file of its code; each peer is sent it with the peer's number as the receiver
abbrev pub hello_of : Number → (code : List ℕ) → MinerFile → (budget : ℕ) → Hello
hello_of me code share budget =
    record { version = 2; sender = count_of me; receiver = 0; code = code; public = sha256 (known_text share budget) }
