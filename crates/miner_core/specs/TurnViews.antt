-- What the types of a step stand for.
use Rattle.std.specs.Prelude.{◌≡◌, ℕ, List, [], ◌∷◌, length, Option, Some, None, Result, Ok, Err}
use Rattle.program_trees.specs.declared.expression.DataType.{DataType}
use Rattle.std.specs.declared.alloc.AllocError.{AllocError}
use Rattle.proto_core.specs.Strand.{Notice, Shown}
use Rattle.bytecode.specs.Raw.{RawCode}
use Rattle.language_model.specs.Effects.{Stage, World}
use Rattle.verified_code.specs.Steps.{Function, Step, Declassify}
use Rattle.value_steps.specs.declared.halt.Halt.{Halt}
use Rattle.value_steps.specs.declared.halt.Halt.TheVariants as halt
use Rattle.value_steps.specs.declared.stage.Stage as reached
use Rattle.value_steps.specs.Views.{stage_seen, value_seen}
use Rattle.code_machine.specs.Machine.{Machine, step}
use Rattle.code_machine.specs.declared.machine.Machine as running
use Rattle.code_machine.specs.Views.{machine_seen}
use Rattle.driven_nodes.specs.Steps.{Went, On, Over, Wants}
use Rattle.own_code.specs.Places.{Place, place, telling_stage, went, next_step, elements_opened, form_of, publishing}
use Rattle.miner_core.specs.declared.outcome.Turned.{Turned}
use Rattle.miner_core.specs.declared.outcome.Turned.TheVariants as turned
use Rattle.miner_core.specs.declared.speech.Speech.{Speech}
use Rattle.miner_core.specs.declared.speech.Speech.TheVariants as speech

-- ---- PLACES

-- a place of the run, which goes on
abbrev pub place_in : RawCode → running.Machine → reached.Stage → Place
place_in code m s = place None (machine_seen code m) (stage_seen s)

-- where a step has led
abbrev pub went_as : Turned → Machine → Stage → Went Place
went_as turned.On m s = On (place None m s)
went_as (turned.Over e) m s = Over (place (Some e) m s)
went_as turned.Short m s = Wants (place None m s)

abbrev pub went_to : RawCode → Turned → running.Machine → reached.Stage → Went Place
went_to code t m s = went_as t (machine_seen code m) (stage_seen s)

abbrev pub IsTurned : Result (Unit {0}) Halt → Result Turned AllocError → Type 0
IsTurned (Ok u) (Ok t) = t ≡ turned.On
IsTurned (Err (halt.Ended e)) (Ok t) = t ≡ turned.Over e
IsTurned (Err halt.Short) (Ok t) = t ≡ turned.Short
IsTurned (Err halt.Memory) (Ok t) = ⊥
IsTurned stepped (Err e) = stepped ≡ Err halt.Memory

-- ---- ANSWERS

-- the next step, with these answers
abbrev pub step_answered : World → List Function → Place → (answers : List ℕ) → Went Place
step_answered w c p answers = went p.machine (step w c (next_step p.machine) p.machine (telling_stage answers p.stage))

-- the elements of a value of which the gates have opened these words; none where they have opened nothing
abbrev pub elements_if_opened : DataType → ℕ → List ℕ → List ℕ
elements_if_opened e n [] = []
elements_if_opened e n (x ∷ xs) = elements_opened e n (x ∷ xs)

-- what a step is told of these words: elements, if it opens a value
abbrev pub answers_of : Option Step → Machine → List ℕ → List ℕ
answers_of (Some (Declassify d r)) m told = elements_if_opened (m.registers r).shape.element (length (m.registers r).words) told
answers_of step m told = told

-- ---- WHAT IS TOLD

-- what a step tells that has opened these words, by a miner with this value as its last one
abbrev pub speech_seen : Speech → (opened last : List ℕ) → List Notice
speech_seen speech.Nothing opened last = []
speech_seen (speech.Opens shape) opened last = Shown (form_of shape) opened ∷ []
speech_seen (speech.Gives name v) opened last = publishing (value_seen v).secrecy name (form_of v.shape) v.words.items last ∷ []
