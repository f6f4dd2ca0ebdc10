-- Code that does nothing.
use Rattle.std.specs.Prelude.{◌≡◌, ℕ, List, [], ◌∷◌, None}
use Rattle.proto_core.specs.declared.party.Number.{Number}
use Rattle.proto_core.specs.Strand.{Strand, Ends}
use Rattle.gates.specs.Clear.{Values}
use Rattle.language_model.specs.Effects.{World}
use Rattle.bytecode.specs.Raw.{RawCode, ReturnNone}
use Rattle.verified_code.specs.Settled.{settled}
use Rattle.own_code.specs.OwnCode.{Ended, own_code}
use Rattle.code_machine.specs.Meaning.{fuel}
use Rattle.code_places.specs.Places.{first_place}

-- `main` returns at once
abbrev pub idle_code : RawCode
idle_code = record { names = []; functions = record { parameters = 0; gives = None; registers = []; body = ReturnNone ∷ [] } ∷ [] }

-- nothing is sent, opened or told
abbrev pub IsOver : Strand Ended → Type 0
IsOver s = (e : Ended) × (s ≡ Ends e)

-- a miner that runs it has ended before any message comes
abbrev pub IdlesAtOnce : World → Number → (dealt : Values) → (tape : List ℕ) → (budget : ℕ) → Type 0
IdlesAtOnce w i dealt tape budget =
    IsOver (own_code w (settled idle_code) i dealt (fuel (settled idle_code) budget) (first_place (settled idle_code) budget) [] tape)
