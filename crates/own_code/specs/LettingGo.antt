-- A miner that lets go the values that nothing names any more does what it did with all of them.
use Rattle.std.specs.Prelude.{◌≡◌, ℕ, List, [], ◌++◌, length, drop}
use Rattle.proto_core.specs.declared.party.Number.{Number}
use Rattle.proto_core.specs.Strand.{Mail, Strand, Ends, run, then_do}
use Rattle.gates.specs.declared.gate.Gate.{Gate}
use Rattle.gates.specs.Clear.{Values}
use Rattle.gates.specs.Counts.{made_by_all}
use Rattle.language_model.specs.Effects.{World}
use Rattle.verified_code.specs.Steps.{Function}
use Rattle.driven_nodes.specs.Steps.{last_of}
use Rattle.code_places.specs.Places.{Place}
use Rattle.gate_node.specs.OwnGates.{GatesEnd, Whole, Stuck, own_gates}
use Rattle.named_values.specs.Named.{or_from, AllTake, MachineNames, AreAmong}
use Rattle.named_values.specs.Laws.{HaveSame}
use Rattle.own_code.specs.OwnCode.{Ended, Reached, Unfit, own_code}

-- ---- gates

-- an end with so many values after these
abbrev pub HasBehind : Values → ℕ → GatesEnd → Type 0
HasBehind values n (Whole all tape) = (made : Values) × (all ≡ values ++ made) × (length made ≡ n)
HasBehind values n Stuck = Unit {0}

-- whatever messages come, gates that come to an end have made as many values as they count
abbrev pub MakeWhatTheyCount : Number → (dealt : Values) → List Gate → (values : Values) → (tape : List ℕ) → Mail → Type 0
MakeWhatTheyCount i dealt gates values tape mail =
    (h : GatesEnd) → (run (own_gates i dealt gates values tape) mail).left ≡ Ends h → HasBehind values (made_by_all gates) h

-- an end with these values before those that were made
abbrev pub with_before : Values → GatesEnd → GatesEnd
with_before values (Whole all tape) = Whole (values ++ drop (length values) all) tape
with_before values Stuck = Stuck

-- where as many values are held, and of those that gates take the same, the gates are run alike
abbrev pub GatesNeedWhatTheyTake : Number → (dealt : Values) → List Gate → (values held : Values) → (tape : List ℕ) → Type 0
GatesNeedWhatTheyTake i dealt gates values held tape =
    length held ≡ length values → AllTake (or_from (HaveSame values held) (length values)) gates →
    own_gates i dealt gates values tape ≡ then_do (own_gates i dealt gates held tape) (λ h. Ends (with_before values h))

-- ---- code

-- an end, whatever the values are
abbrev pub forget : Ended → Ended
forget (Reached stand values) = Reached stand []
forget Unfit = Unfit

abbrev pub without_values : Strand Ended → Strand Ended
without_values s = then_do s (λ e. Ends (forget e))

-- at a place as many values are held as gates have made, of those that the machine names the same, and the same that was made last
pub record IsHeld (p : Place) (values held : Values) : Type 0 where
  pub as_many : length held ≡ length values
  pub counted : p.stage.made ≡ length values
  pub named : AreAmong (MachineNames p.machine) (HaveSame values held)
  pub last : last_of values ≡ last_of held

-- from there on the miner sends, opens and tells the same, and stands at the same place
abbrev pub CodeNeedsWhatItNames :
    World → List Function → Number → (dealt : Values) → (fuel : ℕ) → Place → (values held : Values) → (tape : List ℕ) → Type 0
CodeNeedsWhatItNames w c i dealt fuel p values held tape =
    IsHeld p values held →
    without_values (own_code w c i dealt fuel p values tape) ≡ without_values (own_code w c i dealt fuel p held tape)
