-- What the types of a miner stand for.
use Rattle.std.specs.Prelude.{ℕ, List, [], ◌∷◌, map, drop, Option, Some, None}
use Rattle.proto_core.specs.Strand.{Shown, Published, Handed}
use Rattle.proto_core.specs.Strand as strand
use Rattle.language_model.specs.Effects.{World, Answers}
use Rattle.verified_code.specs.Settled.{settled}
use Rattle.verified_code.specs.Steps.{Function}
use Rattle.value_steps.specs.Views.{given_seen, lengths_seen}
use Rattle.value_steps.specs.declared.stage.Stage as reached
use Rattle.own_code.specs.Places.{form_of, where_made}
use Rattle.miner_core.specs.declared.speech.Speech.{Speech}
use Rattle.miner_core.specs.declared.telling.Told.{Told}
use Rattle.miner_core.specs.TurnViews.{speech_seen}
use Rattle.miner_core.specs.declared.task.Task.{Task}
use Rattle.miner_core.specs.declared.notice.Notice.{Notice}
use Rattle.miner_core.specs.declared.notice.Notice.TheVariants as notice

-- the world of one who knows no private word, and is told what was opened
abbrev pub task_world : Task → World
task_world t = record { dealer = t.dealer; lengths = lengths_seen t.lengths; source = Answers; inputs = map given_seen t.inputs.items }

abbrev pub task_code : Task → List Function
task_code t = settled t.code

abbrev pub notice_seen : Notice → strand.Notice
notice_seen (notice.Shown shape words) = Shown (form_of shape) words.items
notice_seen (notice.Published name shape words) = Published name (form_of shape) words.items
notice_seen (notice.Handed name shape count words) = Handed name (form_of shape) count words.items

abbrev pub if_any : Option Notice → List strand.Notice
if_any None = []
if_any (Some n) = notice_seen n ∷ []

-- what a step tells by which a stage has come so far, by a miner with this value as its last one
abbrev pub told_since : Speech → Told → reached.Stage → (last : List ℕ) → List strand.Notice
told_since speech before s last = where_made (drop before.events s.events.items) (speech_seen speech (drop before.opened s.opened.items) last)
