-- The tapes that a miner's view of a whole run is made of, the dealer's with them, and the way back.
use Rattle.std.specs.Prelude.{◌≡◌, ◌≤◌, ℕ, Bool, nat_le, if◌then◌else◌, List, [], length}
use Rattle.proto_core.specs.Parties.{of_three}
use Rattle.proto_core.specs.declared.party.Number.{Number}
use Rattle.proto_core.specs.declared.party.Number.TheVariants.{One, Two, Three}
use Rattle.proto_core.specs.Lists.{AreWords}
use Rattle.protocol_model.specs.Gates as model
use Rattle.protocol_model.specs.Runs.{Shares, Tapes}
use Rattle.protocol_model.specs.Views.{to_view, from_view}
use Rattle.gates.specs.declared.gate.Gate.{Gate}
use Rattle.gates.specs.Counts.{words_of_all}
use Rattle.shared_gates.specs.Model.{AllSizesSuit, run_gates, sizes_after, miner_of}
use Rattle.value_file.specs.declared.inputs.Entry.{Entry}
use Rattle.input_share.specs.Dealing.{need_of}
use Rattle.tape_file.specs.Tapes.{FourTapes}
use Rattle.view_model.specs.Dealing.{dealt_to, private_sizes, seen_dealer}

abbrev pub miners_of : FourTapes → Tapes
miners_of t = of_three t.one t.two t.three

abbrev pub four_of : List ℕ → Tapes → FourTapes
four_of dealer tapes = record { dealer = dealer; one = tapes One; two = tapes Two; three = tapes Three }

abbrev pub no_values : Shares
no_values i = []

-- the gates of a run whose inputs are dealt with these words
abbrev pub gates_dealt : List Entry → (dealer : List ℕ) → List Gate → List model.Gate
gates_dealt entries dealer gates = run_gates (dealt_to entries dealer) (private_sizes entries) [] gates

-- the dealer's tape suffices
abbrev pub is_dealt : List Entry → FourTapes → Bool
is_dealt entries t = nat_le (need_of entries) (length t.dealer)

-- where dealing ended the run, all words stay
unfoldable pub to_simulated : Number → List Entry → List Gate → FourTapes → FourTapes
to_simulated i entries gates t =
    if is_dealt entries t
    then four_of (seen_dealer i entries t.dealer) (to_view i (gates_dealt entries t.dealer gates) no_values (miners_of t))
    else t

-- the dealer's words first, since all shares come of them
unfoldable pub from_simulated : Number → List Entry → List Gate → FourTapes → FourTapes
from_simulated i entries gates s =
    if is_dealt entries s
    then four_of (seen_dealer i entries s.dealer)
    (from_view i (gates_dealt entries (seen_dealer i entries s.dealer) gates) no_values (miners_of s))
    else s

abbrev pub twin : Number → (first second : List Entry) → List Gate → FourTapes → FourTapes
twin i first second gates t = from_simulated i second gates (to_simulated i first gates t)

pub record AreTapes (t : FourTapes) : Type 0 where
  pub dealer : AreWords t.dealer
  pub miners : (i : Number) → AreWords (miners_of t i)

-- these gates can run on tapes as long as these: the operands are there and have the sizes that are wanted, and each
-- miner's tape has the words that are counted
pub record Reaches (entries : List Entry) (gates : List Gate) (t : FourTapes) : Type 0 where
  pub suit : AllSizesSuit (private_sizes entries) [] gates
  pub reach : (i : Number) → words_of_all (sizes_after (private_sizes entries) [] gates) (miner_of i) gates ≤ length (miners_of t i)

-- the gates that run where the inputs are dealt
abbrev pub CanRun : List Entry → List Gate → FourTapes → Type 0
CanRun entries gates t = need_of entries ≤ length t.dealer → Reaches entries gates t

abbrev pub SameLengths : FourTapes → FourTapes → Type 0
SameLengths t s = (length t.dealer ≡ length s.dealer) × ((i : Number) → length (miners_of t i) ≡ length (miners_of s i))

pub record Correspond (i : Number) (entries : List Entry) (gates : List Gate) (t : FourTapes) : Type 0 where
  pub there_and_back : from_simulated i entries gates (to_simulated i entries gates t) ≡ t
  pub back_and_there : to_simulated i entries gates (from_simulated i entries gates t) ≡ t
  pub kept : SameLengths (to_simulated i entries gates t) t
  pub back_kept : SameLengths (from_simulated i entries gates t) t
  pub words : AreTapes (to_simulated i entries gates t)
  pub back_words : AreTapes (from_simulated i entries gates t)
  pub own : miners_of (to_simulated i entries gates t) i ≡ miners_of t i
