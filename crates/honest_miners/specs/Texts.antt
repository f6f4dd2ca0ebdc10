-- The texts that three miners write of one run.
use Rattle.std.specs.Prelude.{◌≡◌, ◌≤◌, ℕ, List, [], ◌∷◌, length, Some, Ok}
use Rattle.sc_text.specs.declared.end.End.{End}
use Rattle.sc_text.specs.declared.event.Event.{Event}
use Rattle.sc_text.specs.declared.event.Event.TheVariants.{Open, Publish, Hand}
use Rattle.sc_text.specs.Event.{run_text}
use Rattle.proto_core.specs.declared.party.Number.{Number}
use Rattle.proto_core.specs.Strand.{Notice}
use Rattle.code_runs.specs.Telling.{Tells}
use Rattle.miner_text.specs.Lines.{text_of}
use Rattle.miner_text.specs.Texts.{IsEnd}
use Rattle.view_laws.specs.Named.{AreNamed}
use Rattle.node_run.specs.Told.{lines_told}
use Rattle.trio.specs.Answers.{join_of}

-- each value that is handed over has no more elements than the run has cost
abbrev pub ArePaid : (cost : ℕ) → List Event → Type 0
ArePaid cost [] = Unit {0}
ArePaid cost (Open elements ∷ events) = ArePaid cost events
ArePaid cost (Publish name elements ∷ events) = ArePaid cost events
ArePaid cost (Hand name kind elements ∷ events) = (length elements ≤ cost) × ArePaid cost events

-- of events that are told under names and are paid for, as those of each accepted program are, and an end that can be written; that the miners' words
-- have 64 bits, and the numbers of elements, follows
abbrev pub TextsOfARunAreItsText : Type 0
TextsOfARunAreItsText =
    (events : List Event) (notices : Number → List Notice) (end : End) → Tells events notices → AreNamed events → ArePaid end.cost events → IsEnd end
    → join_of (λ i. Some (text_of (lines_told (notices i) end))) ≡ Ok (record { text = run_text events end; end = end })
