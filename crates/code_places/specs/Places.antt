-- Code as turns of a run: where one who is told the opened words stands, what a step of the code comes to for him, and what a miner
-- tells of it.
use Rattle.std.specs.Prelude.{ℕ, List, [], ◌∷◌, length, Option, Some, None, Ok, Err}
use Rattle.gates.specs.Gathered.{unpacked}
use Rattle.std.specs.List.{slice_get}
use Rattle.program_trees.specs.declared.expression.DataType.{DataType}
use Rattle.program_trees.specs.declared.expression.DataType.TheVariants.{Uint64, Int64}
use Rattle.program_trees.specs.declared.expression.DataType.TheVariants as datatype
use Rattle.sc_text.specs.declared.end.Ending.{Ending}
use Rattle.sc_text.specs.declared.event.Event.{Event}
use Rattle.proto_core.specs.Strand.{ElementType, Unsigned, Signed, TruthValue, Form, Notice, Shown, Published, Handed}
use Rattle.protocol_model.specs.Gates.{sizes_of}
use Rattle.gates.specs.declared.gate.Gate.{Gate}
use Rattle.gate_laws.specs.Model.{run_gates, sizes_after}
use Rattle.gate_laws.specs.Dealt.{Dealt}
use Rattle.language_model.specs.Effects.{World, Answers, Stage, RunStop, Ended, Short, Run}
use Rattle.language_model.specs.Values.{Secrecy, Plain, Private}
use Rattle.language_model.specs.Reports.{Offered, beginning, world_of, public_part}
use Rattle.program_trees.specs.declared.kinds.Shape.{Shape}
use Rattle.verified_code.specs.Steps.{Step, Publish, Declassify, Function}
use Rattle.gate_laws.specs.Machine.{Machine, step, start}
use Rattle.driven_nodes.specs.Steps.{Went, On, Over, Wants, Steps, ToRun, gained, last_of}

-- ---- PLACES

-- the machine, how far the run has come, with no answer left, and why it is over, where it is
pub record Place : Type 0 where
  pub machine : Machine
  pub stage : Stage
  pub ended : Option Ending

abbrev pub place : Option Ending → Machine → Stage → Place
place ended m s = record { machine = m; stage = record s { answers = [] }; ended = ended }

-- a stage with these answers to come
abbrev pub telling_stage : List ℕ → Stage → Stage
telling_stage answers s = record s { answers = answers }

abbrev pub stopped : Machine → Stage → RunStop → Went Place
stopped m s (Ended e) = Over (place (Some e) m s)
stopped m s Short = Wants (place None m s)

abbrev pub went : Machine → Run Machine → Went Place
went m (Ok x) = On (place None x.0 x.1)
went m (Err e) = stopped m e.1 e.0

abbrev pub next_step : Machine → Option Step
next_step m = slice_get m.steps m.pc

-- the elements of a value of which the gates have opened these words
abbrev pub elements_opened : DataType → ℕ → List ℕ → List ℕ
elements_opened Uint64 n words = words
elements_opened Int64 n words = words
elements_opened datatype.Bool n words = unpacked words n

-- what a step is told of the words that the gates have opened: told nothing it has no answer, and so wants them
abbrev pub answers_told : List ℕ → Option Step → Machine → List ℕ
answers_told [] step m = []
answers_told (x ∷ xs) (Some (Declassify d r)) m = elements_opened (m.registers r).shape.element (length (m.registers r).words) (x ∷ xs)
answers_told (x ∷ xs) step m = x ∷ xs

-- the next step, told these words
abbrev pub step_told : World → List Function → Place → (told : List ℕ) → Went Place
step_told w c p told =
    went p.machine (step w c (next_step p.machine) p.machine (telling_stage (answers_told told (next_step p.machine) p.machine) p.stage))

abbrev pub first_place : List Function → (budget : ℕ) → Place
first_place c budget = place None (start c) (beginning budget [])

-- ---- WHAT A MINER TELLS

abbrev pub element_type_of : DataType → ElementType
element_type_of Uint64 = Unsigned
element_type_of Int64 = Signed
element_type_of datatype.Bool = TruthValue

abbrev pub form_of : Shape → Form
form_of shape = record { element = element_type_of shape.element; array = shape.array }

-- a public value, or its own share of a private one, which it has made last
abbrev pub publishing : Secrecy → (text : List ℕ) → Form → (words last : List ℕ) → Notice
publishing Plain text form words last = Published text form words
publishing (Private k) text form words last = Handed text form (length words) last

abbrev pub told_by : Option Step → Machine → (opened last : List ℕ) → List Notice
told_by (Some (Declassify d r)) m opened last = Shown (form_of (m.registers r).shape) opened ∷ []
told_by (Some (Publish text r)) m opened last =
    publishing (m.registers r).secrecy text (form_of (m.registers r).shape) (m.registers r).words last ∷ []
told_by step m opened last = []

-- a step that makes no event tells nothing
abbrev pub where_made : List Event → List Notice → List Notice
where_made [] notices = []
where_made (e ∷ es) notices = notices

abbrev pub notices_between : (p q : Place) → (values : List (List ℕ)) → List Notice
notices_between p q values =
    where_made (gained p.stage.events q.stage.events)
    (told_by (next_step p.machine) p.machine (gained p.stage.opened q.stage.opened) (last_of values))

-- ---- RUNS

abbrev pub code_steps : World → List Function → Steps Place Gate
code_steps w c = record { step = step_told w c; gates = λ p. p.stage.gates; notices = notices_between }

-- the code's steps for one who knows the public part and is told what is opened
abbrev pub when_told : Offered → List Function → Steps Place Gate
when_told o c = code_steps (world_of Answers (public_part o)) c

-- gates after others, on what is dealt
abbrev pub run_dealt : Dealt → ToRun Gate
run_dealt d before more = run_gates d.shares (sizes_of d.inputs) (sizes_after (sizes_of d.inputs) [] before) more
