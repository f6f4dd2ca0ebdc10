-- What is known at a stage of a run: its gates as a run of gates on shares, and the values of numbers that they make.
use Rattle.std.specs.Prelude.{◌≡◌, ℕ, ◌+◌, ◌<◌, ◌^◌, List, [], ◌∷◌, ◌++◌, length, map, Some, None, Ok, Err}
use Rattle.program_trees.specs.declared.expression.DataType.{DataType}
use Rattle.proto_core.specs.declared.party.Number.{Number}
use Rattle.proto_core.specs.Lists.{AreWords}
use Rattle.gates.specs.declared.ring_kind.RingKind.{RingKind}
use Rattle.gates.specs.declared.gate.Gate.{Gate}
use Rattle.gates.specs.declared.gate.Gate.TheVariants.{Result}
use Rattle.sc_text.specs.declared.event.Event.{Event}
use Rattle.sc_text.specs.declared.elements.Element.{Element}
use Rattle.sc_text.specs.declared.event.Event.TheVariants.{Open, Publish, Hand}
use Rattle.gates.specs.Clear.{Values, value, FitFrom}
use Rattle.gates.specs.Counts.{Miner}
use Rattle.shared_plans.specs.Shares.{Kind, Shared, kind_at}
use Rattle.shared_plans.specs.Model.{miner_of}
use Rattle.shared_plans.specs.Computed.{opened_values}
use Rattle.shared_plans.specs.GateRuns.{GateRun, IsWellFormed, value_count, words_drawn}
use Rattle.language_model.specs.Effects.{World, Clear, Stage, Run, Effect}
use Rattle.language_model.specs.Values.{Secrecy, Plain, Private, Value, ring_for, gate_words, element_of, printed_kind}
use Rattle.language_model.specs.Learned.{learned_of}
use Rattle.gate_laws.specs.Dealt.{Dealt, InRange, drawn_by}

-- ---- WORDS

abbrev pub HasRange : Value → Type 0
HasRange v = InRange v.shape.element v.words

-- its words are in range, and their number is a word
pub record IsProper (v : Value) : Type 0 where
  pub range : HasRange v
  pub small : length v.words < 2 ^ 64

-- no word of any miner
abbrev pub none_of : Miner → ℕ
none_of m = 0

-- ---- FACTS

-- the value of this number is shared in this ring, and has these words
pub record Fact : Type 0 where
  pub number : ℕ
  pub ring : RingKind
  pub words : List ℕ

-- it has them whatever values fit the gates of the run
pub record Stands (r : GateRun) (f : Fact) : Type 0 where
  pub kind : kind_at r.kinds f.number ≡ Shared f.ring
  pub words : (values : Values) → FitFrom r.inputs values 0 r.gates → value values f.number ≡ f.words

abbrev pub AllStand : GateRun → List Fact → Type 0
AllStand r [] = Unit {0}
AllStand r (f ∷ fs) = Stands r f × AllStand r fs

abbrev pub fact_from : Secrecy → DataType → List ℕ → List Fact
fact_from Plain e words = []
fact_from (Private None) e words = []
fact_from (Private (Some k)) e words = record { number = k; ring = ring_for e; words = gate_words e words } ∷ []

-- what is known of a private value that has a number
abbrev pub facts_of : Value → List Fact
facts_of v = fact_from v.secrecy v.shape.element v.words

-- ---- WHAT IS HANDED OVER

-- the value of which each miner's share is made anew for the client
abbrev pub handed_by_gate : Values → Gate → List (List ℕ)
handed_by_gate values (Result ring u) = value values u ∷ []
handed_by_gate values g = []

abbrev pub handed_values : Values → List Gate → List (List ℕ)
handed_values values [] = []
handed_values values (g ∷ gs) = handed_by_gate values g ++ handed_values values gs

-- these are the words of events that hand over, in their order, all of them; other events stand between them
pub data Handed : List Event → List (List ℕ) → Type 0 where
  nothing_handed : Handed [] []
  and_opened : {es : List Event} {vs : List (List ℕ)} (elements : List Element) → Handed es vs → Handed (es ++ Open elements ∷ []) vs
  and_published :
      {es : List Event} {vs : List (List ℕ)} (text : List ℕ) (elements : List Element) → Handed es vs → Handed (es ++ Publish text elements ∷ []) vs
  and_handed :
      {es : List Event} {vs : List (List ℕ)} (text : List ℕ) (e : DataType) (words : List ℕ) → InRange e words → Handed es vs
      → Handed (es ++ Hand text (printed_kind e) (map (element_of e) words) ∷ []) (vs ++ gate_words e words ∷ [])

-- ---- STAGES

module _ (w : World) (d : Dealt) where
  -- the gates of a stage as a run on shares, where the values that they make are shared like this
  abbrev pub run_at : List Kind → Stage → GateRun
  run_at kinds s = record { inputs = d.inputs; dealt_kinds = d.kinds; dealt = d.shares; gates = s.gates; kinds = kinds }

  -- each gate suits the values before it, in sizes and kinds; the words that the gates draw have been drawn, and so many more for
  -- gates to come. Where values fit the gates, exactly those that are handed over are told as such, and the words that were opened in the clear,
  -- as the events tell them, are those of the values that are opened
  pub record IsAt (kinds : List Kind) (owed : Miner → ℕ) (s : Stage) : Type 0 where
    pub formed : IsWellFormed (run_at kinds s)
    pub made : s.made ≡ value_count (run_at kinds s)
    pub drawn : (i : Number) → drawn_by s.drawn (miner_of i) ≡ words_drawn (run_at kinds s) i + owed (miner_of i)
    pub answers : AreWords s.answers
    pub handed : (values : Values) → FitFrom d.inputs values 0 s.gates → Handed s.events (handed_values values s.gates)
    pub opened : w.source ≡ Clear → (values : Values) → FitFrom d.inputs values 0 s.gates → learned_of s.events ≡ opened_values values s.gates

  -- a later stage has these gates more, whose values are shared like this
  pub record Grows (s u : Stage) (kinds later : List Kind) : Type 0 where
    pub gates : List Gate
    pub own : List Kind
    pub more_gates : u.gates ≡ s.gates ++ gates
    pub more_kinds : later ≡ kinds ++ own

  -- what an effect comes to: a later stage, facts that stand there, and what is sure of the value that it gives
  pub record Comes (s u : Stage) (kinds : List Kind) (owed : Miner → ℕ) (fs : List Fact) (Sure : Type 0) : Type 0 where
    pub later : List Kind
    pub grown : Grows s u kinds later
    pub stage : IsAt later owed u
    pub facts : AllStand (run_at later u) fs
    pub sure : Sure

  -- at an end nothing is owed
  abbrev pub ComesAt : {A : Type 0} → Stage → List Kind → Run A → (Miner → ℕ) → (A → List Fact) → (A → Type 0) → Type 0
  ComesAt s kinds (Ok x) owed F Sure = Comes s x.1 kinds owed (F x.0) (Sure x.0)
  ComesAt s kinds (Err e) owed F Sure = Comes s e.1 kinds none_of [] (Unit {0})

  -- an effect that makes gates which suit the run, from any stage where these facts stand and so many words are owed
  pub record Suits {A : Type 0} (fs : List Fact) (before : Miner → ℕ) (c : Effect A) (after : Miner → ℕ) (F : A → List Fact) (Sure : A → Type 0) : Type 0 where
    pub from :
        (kinds : List Kind) (s : Stage) → IsAt kinds before s → AllStand (run_at kinds s) fs → ComesAt s kinds (c s) after F Sure
