-- What the client sees of three miners that run a program: what they tell, notice by notice, and of a value that is handed over each one's share.
use Rattle.std.specs.Prelude.{◌≡◌, ℕ, List, [], ◌∷◌, Some}
use Rattle.sc_text.specs.declared.end.End.{End}
use Rattle.proto_core.specs.declared.party.Number.{Number}
use Rattle.proto_core.specs.declared.party.Number.TheVariants.{One, Two, Three}
use Rattle.proto_core.specs.declared.link.Link.{Link}
use Rattle.proto_core.specs.Net.{nothing, run_of, all_delivered}
use Rattle.proto_core.specs.Strand.{Notice, Shown, Published, Handed, Strand, told_in}
use Rattle.protocol_model.specs.Network.{Accepted, walked}
use Rattle.tape_file.specs.Tapes.{FourTapes}
use Rattle.value_file.specs.declared.inputs.Entry.{Entry}
use Rattle.program_trees.specs.TypedPrograms.{TypedProgramTree}
use Rattle.reached_instances.specs.Instances.{Instance}
use Rattle.code_runs.specs.Telling.{elements_told}
use Rattle.code_runs.specs.ClientTold.{all_added_up, first_words, behind_first}
use Rattle.code_runs.specs.Places.{Place}
use Rattle.code_runs.specs.Runs.{miners}
use Rattle.driven_nodes.specs.Steps.{Stand}
use Rattle.program_run.specs.Accepted.{IsAccepted}
use Rattle.program_run.specs.Dealt.{CanBeDealt}
use Rattle.program_run.specs.Inputs.{dealt_of}
use Rattle.program_run.specs.Miners.{RunsOnShares}
use Rattle.program_run.specs.Offers.{offered}
use Rattle.program_run.specs.RawCodes.{raw_code_of_program}
use Rattle.program_run.specs.Reports.{lengths_of}
use Rattle.verified_code.specs.Settled.{settled}
use Rattle.view_model.specs.TapeMaps.{miners_of}
use Rattle.client_view.specs.Views.{Sighting, Opened, Said, Got, client_view_of}

-- ---- NOTICES BESIDE ONE ANOTHER

-- one sighting, by what the first miner tells and the words that the others tell beside it
abbrev pub seen_of_three : Notice → (second third : List ℕ) → Sighting
seen_of_three (Shown form words) ys zs = Opened (elements_told form words)
seen_of_three (Published text form words) ys zs = Said text (elements_told form words)
seen_of_three (Handed text form count words) ys zs =
    Got text (record { first = words; second = ys; third = zs }) (elements_told form (all_added_up form.element count words ys zs))

abbrev pub seen_beside : (first second third : List Notice) → List Sighting
seen_beside [] ms ks = []
seen_beside (n ∷ ns) ms ks = seen_of_three n (first_words ms) (first_words ks) ∷ seen_beside ns (behind_first ms) (behind_first ks)

abbrev pub seen_together : (Number → List Notice) → List Sighting
seen_together tell = seen_beside (tell One) (tell Two) (tell Three)

-- ---- THE MINERS

-- three that run the program's code, each with its shares of the inputs and its tape
abbrev pub miners_on : TypedProgramTree → List Instance → List Entry → FourTapes → (budget : ℕ) → Number → Strand (Stand Place × List (List ℕ))
miners_on p reached entries t budget =
    miners (offered entries (lengths_of t)) (dealt_of entries t.dealer) (settled (raw_code_of_program p reached)) budget (miners_of t)

-- what each has told after these deliveries
abbrev pub told_after : (Number → Strand (Stand Place × List (List ℕ))) → List Link → Number → List Notice
told_after nodes order i = told_in (run_of nodes (all_delivered nodes nothing order) i).acts

-- ---- WHAT IS PROMISED

-- after every accepted order of deliveries, what they tell is the client's view, with the end of the run
pub record TellTheView (p : TypedProgramTree) (entries : List Entry) (t : FourTapes) (budget : ℕ) : Type 0 where
  pub runs : RunsOnShares p entries t budget
  pub end : End
  pub sees :
      (order : List Link) → walked (miners_on p runs.reached entries t budget) 0 nothing order ≡ Accepted
      → client_view_of p entries t budget
      ≡ Some (record { sightings = seen_together (told_after (miners_on p runs.reached entries t budget) order); end = end })

abbrev pub ClientSees : TypedProgramTree → List Entry → FourTapes → (budget : ℕ) → Type 0
ClientSees p entries t budget = IsAccepted p → CanBeDealt entries t → TellTheView p entries t budget
