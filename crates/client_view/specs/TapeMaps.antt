-- The tapes that the client's view of the run of a program is made of, the way back, and the twins.
use Rattle.std.specs.Prelude.{◌≡◌, ℕ, List}
use Rattle.gates.specs.declared.gate.Gate.{Gate}
use Rattle.value_file.specs.declared.inputs.Entry.{Entry}
use Rattle.value_file.specs.Public.{part_of}
use Rattle.tape_file.specs.Tapes.{FourTapes}
use Rattle.program_trees.specs.TypedPrograms.{TypedProgramTree}
use Rattle.view_model.specs.Dealing.{dealt_to, private_sizes}
use Rattle.view_model.specs.TapeMaps.{miners_of, four_of, AreTapes, SameLengths}
use Rattle.program_views.specs.Views.{lengths_of, run_on}
use Rattle.handed_shares.specs.Handed.{all_of}
use Rattle.client_model.specs.ClientMaps.{to_client, from_client}
use Rattle.client_view.specs.Views.{client_view_of, published_of}

-- ---- THE MAPS

-- the dealer's tape stays: the client looks at what is handed over alone
abbrev pub to_seen : List Entry → List Gate → FourTapes → FourTapes
to_seen entries gates t = four_of t.dealer (to_client all_of (dealt_to entries t.dealer) (private_sizes entries) gates (miners_of t))

abbrev pub from_seen : List Entry → List Gate → FourTapes → FourTapes
from_seen entries gates s = four_of s.dealer (from_client all_of (dealt_to entries s.dealer) (private_sizes entries) gates (miners_of s))

abbrev pub client_mapped : TypedProgramTree → List Entry → FourTapes → (budget : ℕ) → FourTapes
client_mapped p entries t budget = to_seen entries (run_on p entries (lengths_of t) budget).gates t

abbrev pub client_mapped_back : TypedProgramTree → List Entry → FourTapes → (budget : ℕ) → FourTapes
client_mapped_back p entries s budget = from_seen entries (run_on p entries (lengths_of s) budget).gates s

-- each is the other's inverse; all words stay words, each tape keeps its length, and the dealer's tape and the third miner's their words
pub record ClientMapsCorrespond (p : TypedProgramTree) (entries : List Entry) (t : FourTapes) (budget : ℕ) : Type 0 where
  pub there_and_back : client_mapped_back p entries (client_mapped p entries t budget) budget ≡ t
  pub back_and_there : client_mapped p entries (client_mapped_back p entries t budget) budget ≡ t
  pub kept : SameLengths (client_mapped p entries t budget) t
  pub back_kept : SameLengths (client_mapped_back p entries t budget) t
  pub words : AreTapes (client_mapped p entries t budget)
  pub back_words : AreTapes (client_mapped_back p entries t budget)
  pub dealer : (client_mapped p entries t budget).dealer ≡ t.dealer
  pub third : (client_mapped p entries t budget).three ≡ t.three

-- ---- TWINS

-- the tapes with which the second inputs give the client's view of the first
abbrev pub client_twinned : TypedProgramTree → (first second : List Entry) → FourTapes → (budget : ℕ) → FourTapes
client_twinned p first second t budget = client_mapped_back p second (client_mapped p first t budget) budget

-- on tapes as long as these: two inputs that differ in private values alone, with which the same words are opened and the same
-- handed over
pub record AreAlikeToClient (p : TypedProgramTree) (first second : List Entry) (lengths : List ℕ) (budget : ℕ) : Type 0 where
  pub known : part_of first ≡ part_of second
  pub opened : (run_on p first lengths budget).opened ≡ (run_on p second lengths budget).opened
  pub published : published_of (run_on p first lengths budget).events ≡ published_of (run_on p second lengths budget).events

-- tapes as long, with which the second inputs give the same view, and the way back leads back
pub record IsClientTwin (p : TypedProgramTree) (first second : List Entry) (t t2 : FourTapes) (budget : ℕ) : Type 0 where
  pub words : AreTapes t2
  pub lengths : lengths_of t2 ≡ lengths_of t
  pub sees : client_view_of p second t2 budget ≡ client_view_of p first t budget
  pub back : client_twinned p second first t2 budget ≡ t
