-- Code in which a step has to be told words: a private input is opened and published.
use Rattle.std.proofs.Common.{◌≡◌, List, [], ◌∷◌, None, Bool, true, false, refl}
use Rattle.program_trees.specs.declared.expression.DataType.TheVariants.{Uint64}
use Rattle.gates.specs.declared.gate.Gate.TheVariants.{Input, Open}
use Rattle.gates.specs.declared.ring_kind.RingKind.TheVariants.{Arithmetic}
use Rattle.proto_core.specs.Strand.{Unsigned, Shown}
use Rattle.program_trees.specs.Shapes.{shape_of}
use Rattle.language_model.specs.Effects.{words_each}
use Rattle.language_model.specs.Reports.{Offered}
use Rattle.bytecode.specs.declared.kind.Kind.{Kind}
use Rattle.verified_code.specs.Steps.{Argument, Declassify, Publish, ReturnNone, Function}
use Rattle.driven_nodes.specs.Steps.{On, Wants, place_of}
use Rattle.driven_nodes.specs.Twins.{TwinBy}
use Rattle.code_places.specs.Places.{Place, first_place, notices_between}
use Rattle.code_places.specs.Twins.{GoAlike, EndAlike}
use Rattle.code_places.specs.Laws.{in_the_clear}
use Rattle.code_places.specs.Places.{when_told}
use Rattle.code_places.proofs.Turns.{begins_alike, code_has_twins}

abbrev number : (secret : Bool) → Kind
number secret = record { secret = secret; element = Uint64; array = false }

abbrev code : List Function
code =
    record {
      parameters = 0;
      gives = None;
      kinds = number true ∷ number false ∷ [];
      steps = Argument 1 (number true) (120 ∷ []) 0 ∷ Declassify 1 0 ∷ Publish (121 ∷ []) 1 ∷ ReturnNone ∷ [];
    }
    ∷ []

abbrev offer : Offered
offer =
    record {
      dealer = 2;
      lengths = words_each 3;
      inputs = record { text = 120 ∷ []; secret = true; shape = shape_of Uint64 false; words = 7 ∷ [] } ∷ [];
    }

-- after the input, in the clear and told
abbrev known : Place
known = place_of ((in_the_clear offer code).step (first_place code 100))

abbrev asking : Place
asking = place_of ((when_told offer code).step (first_place code 100) [])

-- the input is taken without being told anything
begins : TwinBy (in_the_clear offer code) (when_told offer code) GoAlike EndAlike (first_place code 100) (first_place code 100) (On known)
begins = (code_has_twins offer code).law (first_place code 100) (first_place code 100) (begins_alike code 100)

-- in the clear the next step opens 7
opens : (place_of ((in_the_clear offer code).step known)).stage.opened ≡ 7 ∷ []
opens = refl

-- told nothing, it wants words, and has made the opening's gate
wants : (when_told offer code).step asking [] ≡ Wants (place_of ((when_told offer code).step asking []))
wants = refl

makes : (place_of ((when_told offer code).step asking [])).stage.gates ≡ Input 0 ∷ Open Arithmetic 0 ∷ []
makes = refl

-- told 7 it goes on, and a miner whose last value is 7 shows it
abbrev told : Place
told = place_of ((when_told offer code).step asking (7 ∷ []))

goes_on : (when_told offer code).step asking (7 ∷ []) ≡ On told
goes_on = refl

shows : notices_between asking told ((5 ∷ []) ∷ (7 ∷ []) ∷ []) ≡ Shown (record { element = Unsigned; array = false }) (7 ∷ []) ∷ []
shows = refl
