-- The messages that a view has received on a link are those that three miners send each other there.
use Rattle.std.specs.Prelude.{◌≡◌, ℕ, List, [], ◌∷◌, if◌then◌else◌, Some}
use Rattle.proto_core.specs.declared.party.Number.{Number}
use Rattle.proto_core.specs.declared.link.Link.{Link}
use Rattle.proto_core.specs.Parties.{receiver_of}
use Rattle.proto_core.specs.Strand.{same_link}
use Rattle.protocol_model.specs.Network.{Accepted, Delivery}
use Rattle.value_file.specs.declared.inputs.Entry.{Entry}
use Rattle.tape_file.specs.Tapes.{FourTapes}
use Rattle.program_trees.specs.TypedPrograms.{TypedProgramTree}
use Rattle.view_text.specs.View.{Received, View}
use Rattle.view_model.specs.TapeMaps.{miners_of}
use Rattle.code_runs.specs.Runs.{messages}
use Rattle.program_run.specs.Accepted.{IsAccepted}
use Rattle.program_run.specs.Dealt.{CanBeDealt}
use Rattle.program_run.specs.Inputs.{dealt_of}
use Rattle.program_run.specs.Reports.{eval_with}
use Rattle.program_views.specs.Views.{view_of}
use Rattle.viewed_run.specs.Deliveries.{net_of}

-- those that came on this link, in order
abbrev pub received_on : Link → List Received → List (List ℕ)
received_on l [] = []
received_on l (r ∷ more) = if same_link r.link l then r.message ∷ received_on l more else received_on l more

-- under any complete order of delivery
abbrev pub HasItsMessages : Link → TypedProgramTree → List Entry → FourTapes → (budget : ℕ) → Delivery → Type 0
HasItsMessages l p entries t budget delivery =
    IsAccepted p → CanBeDealt entries t → net_of p entries t budget delivery ≡ Accepted
    → (view : View) → view_of (receiver_of l) p entries t budget delivery ≡ Some view
    → received_on l view.got ≡ messages (dealt_of entries t.dealer) (eval_with p entries t budget) (miners_of t) l
