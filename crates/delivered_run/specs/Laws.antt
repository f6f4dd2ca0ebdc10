-- Which deliveries leave nothing to come, whatever the program.
use Rattle.std.specs.Prelude.{◌≡◌, ℕ, List}
use Rattle.protocol_model.specs.Network.{Accepted, Delivery}
use Rattle.tape_file.specs.Tapes.{FourTapes}
use Rattle.value_file.specs.declared.inputs.Entry.{Entry}
use Rattle.program_trees.specs.TypedPrograms.{TypedProgramTree}
use Rattle.program_run.specs.Accepted.{IsAccepted}
use Rattle.delivered_run.specs.Deliveries.{net_of}
use Rattle.delivered_run.specs.Premises.{HaveWords, IsMade}

abbrev pub MadeIsTaken : TypedProgramTree → List Entry → FourTapes → (budget : ℕ) → Delivery → Type 0
MadeIsTaken p entries t budget delivery = IsAccepted p → HaveWords entries t → IsMade delivery → net_of p entries t budget delivery ≡ Accepted
