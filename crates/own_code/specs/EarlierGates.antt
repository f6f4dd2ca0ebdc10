-- A miner that runs code does the same, whatever gates it has run before, so it needs no list of them.
use Rattle.std.specs.Prelude.{◌≡◌, ℕ, List, []}
use Rattle.proto_core.specs.declared.party.Number.{Number}
use Rattle.proto_core.specs.Strand.{Strand, Ends, then_do}
use Rattle.gates.specs.declared.gate.Gate.{Gate}
use Rattle.gates.specs.Clear.{Values}
use Rattle.language_model.specs.Effects.{World}
use Rattle.verified_code.specs.Steps.{Function}
use Rattle.driven_nodes.specs.Steps.{Stand, Running, Stopped, Short}
use Rattle.code_places.specs.Places.{Place}
use Rattle.named_values.specs.Besides.{with_gates}
use Rattle.own_code.specs.OwnCode.{Ended, Reached, Unfit, own_code}

-- a place with these gates in place of its own
abbrev pub place_with_gates : List Gate → Place → Place
place_with_gates gates p = record p { stage = with_gates gates p.stage }

-- an end, whatever its gates are
abbrev pub stand_without_gates : Stand Place → Stand Place
stand_without_gates (Running p) = Running (place_with_gates [] p)
stand_without_gates (Stopped p) = Stopped (place_with_gates [] p)
stand_without_gates (Short p) = Short (place_with_gates [] p)

abbrev pub end_without_gates : Ended → Ended
end_without_gates (Reached stand values) = Reached (stand_without_gates stand) values
end_without_gates Unfit = Unfit

abbrev pub without_gates : Strand Ended → Strand Ended
without_gates s = then_do s (λ e. Ends (end_without_gates e))

-- from a place with other gates the miner sends, opens and tells the same, and comes to the same end
abbrev pub CodeNeedsNoEarlierGates :
    World → List Function → Number → (dealt : Values) → (fuel : ℕ) → Place → (before : List Gate) → (values : Values) → (tape : List ℕ) → Type 0
CodeNeedsNoEarlierGates w c i dealt fuel p before values tape =
    without_gates (own_code w c i dealt fuel p values tape)
    ≡ without_gates (own_code w c i dealt fuel (place_with_gates before p) values tape)
