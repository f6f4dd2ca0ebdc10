-- What the types of a run stand for.
use Rattle.std.specs.Prelude.{ℕ, List, map, set, Vec}
use Rattle.std.specs.declared.alloc.Global.{Global}
use Rattle.language_model.specs.Effects.{Words, World, Source, Clear, Answers, Stage, GivenInput}
use Rattle.language_model.specs.Values.{Secrecy, Plain, Private, Value}
use Rattle.value_steps.specs.declared.value.Secrecy as kept
use Rattle.value_steps.specs.declared.value.Secrecy.TheVariants as secrecy
use Rattle.value_steps.specs.declared.value.Value as held
use Rattle.value_steps.specs.declared.arrays.WrittenElement as wrote
use Rattle.value_steps.specs.declared.stage.Drawn as drawn
use Rattle.value_steps.specs.declared.stage.Stage as reached
use Rattle.value_steps.specs.declared.world.Lengths as lengths
use Rattle.value_steps.specs.declared.world.Source as told
use Rattle.value_steps.specs.declared.world.Source.TheVariants as source
use Rattle.value_steps.specs.declared.world.GivenInput as input
use Rattle.value_steps.specs.declared.world.World as fixed
use Rattle.value_steps.specs.declared.inputs.Placed as placed

abbrev pub secrecy_seen : kept.Secrecy → Secrecy
secrecy_seen secrecy.Plain = Plain
secrecy_seen (secrecy.Private k) = Private k

abbrev pub value_seen : held.Value → Value
value_seen v = record { secrecy = secrecy_seen v.secrecy; shape = v.shape; words = v.words.items }

-- an array into which an element was written
abbrev pub written : Value → wrote.WrittenElement → Value
written v e = record v { secrecy = secrecy_seen e.secrecy; words = set v.words e.index e.word }

abbrev pub drawn_seen : drawn.Drawn → Words
drawn_seen d = record { first = d.first; second = d.second; third = d.third }

abbrev pub stage_seen : reached.Stage → Stage
stage_seen s =
    record {
      left = s.left;
      drawn = drawn_seen s.drawn;
      made = s.made;
      gates = s.gates.items;
      events = s.events.items;
      opened = s.opened.items;
      answers = s.answers.now;
    }

abbrev pub lengths_seen : lengths.Lengths → Words
lengths_seen l = record { first = l.first; second = l.second; third = l.third }

abbrev pub source_seen : told.Source → Source
source_seen source.Clear = Clear
source_seen source.Answers = Answers

abbrev pub given_seen : input.GivenInput → GivenInput
given_seen g = record { text = g.name; secret = g.private; shape = g.shape; words = g.words.items }

abbrev pub world_seen : fixed.World → World
world_seen w =
    record { dealer = w.dealer; lengths = lengths_seen w.lengths; source = source_seen w.source; inputs = map given_seen w.inputs.now }

abbrev pub words_seen : Vec ℕ Global → List ℕ
words_seen words = words.items

abbrev pub placed_seen : placed.Placed → GivenInput × ℕ
placed_seen p = (given_seen p.given.now, p.before)
