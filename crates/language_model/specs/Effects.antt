-- What a program does to its run: the few steps of which evaluation is built.
use Rattle.std.specs.Prelude.{Result, ℕ, ◌+◌, ◌-◌, List, [], ◌∷◌, ◌++◌, length, take, drop, Ok, Err, Bool, true, false, nat_le, if◌then◌else◌}
use Rattle.sc_text.specs.declared.end.Ending.{Ending}
use Rattle.sc_text.specs.declared.end.Ending.TheVariants.{Trap, Budget, Tape}
use Rattle.sc_text.specs.declared.end.TrapKind.{TrapKind}
use Rattle.sc_text.specs.declared.end.TapeOwner.{TapeOwner}
use Rattle.sc_text.specs.declared.end.TapeOwner.TheVariants.{Miner1, Miner2, Miner3}
use Rattle.sc_text.specs.declared.event.Event.{Event}
use Rattle.plans.specs.Gate.{Gate}
use Rattle.plans.specs.Counts.{made_by_all}
use Rattle.reached_instances.specs.Shape.{Shape}

-- numbers of words of the three miners' tapes
pub record Words : Type 0 where
  pub first : ℕ
  pub second : ℕ
  pub third : ℕ

-- an input of the run: its name, whether it is private, its shape, and its elements as words
pub record GivenInput : Type 0 where
  pub text : List ℕ
  pub secret : Bool
  pub shape : Shape
  pub words : List ℕ

-- what an opened value is: the value itself, or the next of a list of answers
pub data Source : Type 0 where
  Clear Answers : Source

-- what stays the same in a run: the lengths of the tapes, the dealer's beside the miners', and the inputs
pub record World : Type 0 where
  pub dealer : ℕ
  pub lengths : Words
  pub source : Source
  pub inputs : List GivenInput

-- how far a run has come
pub record Stage : Type 0 where
  pub left : ℕ  -- of the budget
  pub drawn : Words  -- words of the miners' tapes
  pub made : ℕ  -- values that gates made
  pub gates : List Gate
  pub events : List Event
  pub opened : List ℕ
  pub answers : List ℕ  -- not yet taken

-- why a run stops: it ended, or too few answers were left
pub data RunStop : Type 0 where
  Ended : Ending → RunStop
  Short : RunStop

-- a value and where the run stands, or why it stopped and where it stood
abbrev pub Run : Type 0 → Type 0
Run A = Result (A × Stage) (RunStop × Stage)

abbrev pub Effect : Type 0 → Type 0
Effect A = Stage → Run A

abbrev pub carry : {A B : Type 0} → Run A → (A → Effect B) → Run B
carry (Ok x) f = f x.0 x.1
carry (Err e) f = Err e

infixl 10 ◌>>=◌
abbrev pub ◌>>=◌ : {A B : Type 0} → Effect A → (A → Effect B) → Effect B
(m >>= f) s = carry (m s) f

abbrev pub done : {A : Type 0} → A → Effect A
done a s = Ok (a, s)

abbrev pub end : {A : Type 0} → Ending → Effect A
end e s = Err (Ended e, s)

-- ---- the budget

-- a charge over the budget isn't made
abbrev pub charge : ℕ → Effect (Unit {0})
charge n s = if nat_le n s.left then Ok (tt, record s { left = s.left - n }) else Err (Ended Budget, s)

-- a test whose failure is a trap
abbrev pub test : Bool → TrapKind → ℕ → Effect (Unit {0})
test true kind line s = Ok (tt, s)
test false kind line s = Err (Ended (Trap kind line), s)

-- ---- the tapes

abbrev pub words_each : ℕ → Words
words_each n = record { first = n; second = n; third = n }

abbrev pub with_more : Words → Words → Words
with_more a b = record { first = a.first + b.first; second = a.second + b.second; third = a.third + b.third }

abbrev pub fits : TapeOwner → (need have : ℕ) → Effect (Unit {0})
fits owner need have s = if nat_le need have then Ok (tt, s) else Err (Ended (Tape owner need have), s)

abbrev pub drawn_yet : Effect Words
drawn_yet s = Ok (s.drawn, s)

abbrev pub take_words : Words → Effect (Unit {0})
take_words n s = Ok (tt, record s { drawn = with_more s.drawn n })

-- so many words more are drawn, where each miner's tape has them: the miners are asked one after another
abbrev pub draw : World → Words → Effect (Unit {0})
draw w n = do
  d ← drawn_yet
  _ ← fits Miner1 (d.first + n.first) w.lengths.first
  _ ← fits Miner2 (d.second + n.second) w.lengths.second
  _ ← fits Miner3 (d.third + n.third) w.lengths.third
  take_words n

-- ---- the gates

-- a gate that makes one value, and the number of this value
abbrev pub gate : Gate → Effect ℕ
gate g s = Ok (s.made, record s { made = s.made + 1; gates = s.gates ++ g ∷ [] })

-- the number of the next value
abbrev pub next_number : Effect ℕ
next_number s = Ok (s.made, s)

-- these gates, and the number of the last value that they make
abbrev pub put_gates : List Gate → Effect ℕ
put_gates gs s = Ok (s.made + made_by_all gs - 1, record s { made = s.made + made_by_all gs; gates = s.gates ++ gs })

-- the gates of a plan, which is told where its values begin
abbrev pub planned : (ℕ → List Gate) → Effect ℕ
planned plan = do
  first ← next_number
  put_gates (plan first)

-- ---- what is told

abbrev pub emit : Event → Effect (Unit {0})
emit e s = Ok (tt, record s { events = s.events ++ e ∷ [] })

abbrev pub next_answers : ℕ → Effect (List ℕ)
next_answers n s =
    if nat_le n (length s.answers) then Ok (take n s.answers, record s { answers = drop n s.answers }) else Err (Short, s)

abbrev pub answer : Source → List ℕ → Effect (List ℕ)
answer Clear words = done words
answer Answers words = next_answers (length words)

abbrev pub show : List ℕ → Effect (Unit {0})
show words s = Ok (tt, record s { opened = s.opened ++ words })
