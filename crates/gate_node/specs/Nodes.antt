-- What a miner has that runs gates, and what is left for it to do.
--
-- Of its tape it has the words that were supplied. What it does is the same whatever words come after them, so all that is said of what it does
-- is said with any further words.
use Rattle.std.specs.Prelude.{◌≡◌, ℕ, ◌+◌, ◌-◌, ◌*◌, ◌<◌, ◌≤◌, Bool, true, false, not, ◌&&◌, nat_le, List, [], ◌∷◌, ◌++◌, length, take, drop, set}
use Rattle.std.specs.Prelude.{Option, Some, None, Result, Ok, Err}
use Rattle.std.specs.BTreeSet.{BTreeSet}
use Rattle.std.specs.List.{filter}
use Rattle.proto_core.specs.declared.party.Number.{Number}
use Rattle.proto_core.specs.Protocol.{Protocol}
use Rattle.proto_core.specs.Strand.{Strand, Ends, then_do}
use Rattle.gates.specs.Blocks.{block_sizes}
use Rattle.gates.specs.declared.gate.Gate.{Gate}
use Rattle.gates.specs.Clear.{Values, value}
use Rattle.gates.specs.Counts.{made_by_all}
use Rattle.blocked_protocol.specs.Blocked.{joined, blocks_strand}
use Rattle.gate_exchanges.specs.LocalGates.{IsLocal}
use Rattle.gate_exchanges.specs.Exchanges.{protocol_of}
use Rattle.gate_exchanges.specs.declared.exchanged.Exchanged.{Exchanged}
use Rattle.gate_exchanges.specs.Exchanged.{IsExchanged, second_value}
use Rattle.block_steps.specs.Outcomes.{Outcome, outcome_of, waiting, Holds, StandsAt, AwaitsOn}
use Rattle.block_steps.specs.Pendings.{pending_left}
use Rattle.block_steps.specs.declared.links.Links.{Links}
use Rattle.gate_node.specs.declared.running.Running.{Running}
use Rattle.gate_node.specs.declared.engine.AtWork.{AtWork}
use Rattle.gate_node.specs.declared.engine.AtWork.TheVariants as work
use Rattle.gate_node.specs.declared.engine.Engine.{Engine}
use Rattle.gate_node.specs.declared.wanted.Wanted.TheVariants as wanted
use Rattle.gate_node.specs.declared.standing.Standing.{Standing}
use Rattle.gate_node.specs.declared.standing.Standing.TheVariants as stand
use Rattle.gate_node.specs.OwnGates.{GatesEnd, Whole, Stuck, can_run, own_gates}
use Rattle.gate_node.specs.Stores.{IsStore, with_first, EndInStore}
use Rattle.gate_node.specs.Plans.{with_these, then_wanted, later_count, is_unwanted, any_takes, last_operands, is_large, without}

-- ---- how a gate begins

-- with the messages of an exchange, or by its own shares alone; or not at all, and so it stands
abbrev pub BeginsAs : Number → (dealt values : Values) → (tape : List ℕ) → Gate → Result (Option Exchanged) Standing → Type 0
BeginsAs i dealt values tape gate (Ok None) = (can_run i dealt values tape gate ≡ true) × IsLocal gate
BeginsAs i dealt values tape gate (Ok (Some x)) = (can_run i dealt values tape gate ≡ true) × IsExchanged gate x
BeginsAs i dealt values tape gate (Err stand.Unfit) = (more : List ℕ) → can_run i dealt values (tape ++ more) gate ≡ false
BeginsAs i dealt values tape gate (Err (stand.Wants count)) =
    (0 < count) × ((more : List ℕ) → can_run i dealt values (tape ++ more) gate ≡ nat_le count (length more))
BeginsAs i dealt values tape gate (Err stand.Through) = ⊥
BeginsAs i dealt values tape gate (Err (stand.Waits link cause)) = ⊥

-- whether the first of these gates can run, if there is one
abbrev pub first_can_run : Number → (dealt values : Values) → (tape : List ℕ) → List Gate → Bool
first_can_run i dealt values tape [] = true
first_can_run i dealt values tape (gate ∷ gates) = can_run i dealt values tape gate

-- ---- a gate block by block

-- from an element on: the blocks that have not begun, and then what is done with all shares and with the tape that is left
abbrev pub blocks_then :
    Protocol → Number → (from : ℕ) → (u v tape : List ℕ) → (made : List (List ℕ)) → (List (List ℕ) → List ℕ → Strand GatesEnd) → Strand GatesEnd
blocks_then p i from u v tape made go =
    then_do (blocks_strand p (block_sizes (length u - from)) i (drop from u) (drop (p.second from) v) (take (p.draws (length u - from) i) tape))
    (λ later. go (joined made later) (drop (p.draws (length u - from) i) tape))

abbrev pub protocol_at : Running → Protocol
protocol_at r = protocol_of r.gate.exchange

abbrev pub size_at : Values → Running → ℕ
size_at values r = length (value values r.gate.u)

-- where a miner stands with these links and values, this tape left and this left to do; with a whole tape it wants no words
abbrev pub StandsAs : Number → Standing → Links → Values → (tape : List ℕ) → (left : Strand GatesEnd) → Type 0
StandsAs i stand.Through links values tape left = left ≡ Ends (Whole values tape)
StandsAs i (stand.Waits link cause) links values tape left = StandsAt i links cause left × AwaitsOn link left
StandsAs i stand.Unfit links values tape left = left ≡ Ends Stuck
StandsAs i (stand.Wants count) links values tape left = ⊥

-- the same where no further words come
abbrev pub settled : Standing → Standing
settled (stand.Wants count) = stand.Unfit
settled s = s

-- with further words after those that were supplied
abbrev pub filled : {P : Type 0} → Engine P → (words : List ℕ) → Engine P
filled e words = record e { tape = (e.tape.0 ++ words, e.tape.1 ++ words) }

module _ {P : Type 0} (i : Number) where
  -- ---- what is left

  abbrev pub gates_left : Engine P → List Gate
  gates_left e = drop e.begun e.gates.items

  -- the gates that have not begun, where the one at work has made these shares
  abbrev pub gates_then : Engine P → (made : List (List ℕ)) → (tape : List ℕ) → Strand GatesEnd
  gates_then e made tape = own_gates i e.dealt (gates_left e) (e.values ++ made) tape

  abbrev pub running_left : Engine P → Running → (made : List (List ℕ)) → Strand GatesEnd
  running_left e r made =
      blocks_then (protocol_at r) i r.begun (value e.values r.gate.u) (second_value e.values r.gate.v) e.tape.1 made (gates_then e)

  abbrev pub work_left : Engine P → AtWork P → Strand GatesEnd
  work_left e work.Idle = own_gates i e.dealt (gates_left e) e.values e.tape.1
  work_left e (work.Between r) = running_left e r r.made
  work_left e (work.Within r block) = then_do (pending_left i block) (λ here. running_left e r (joined r.made here))

  -- and after the gates, where they are at this
  abbrev pub left_at : Engine P → AtWork P → Strand GatesEnd
  left_at e w = then_wanted i e.dealt e.wanted (work_left e w)

  abbrev pub engine_left : Engine P → Strand GatesEnd
  engine_left e = left_at e e.work

  -- how many gates have not begun, also of those after a plan, and the plan's end
  abbrev pub to_come : Engine P → ℕ
  to_come e = length (gates_left e) + later_count e.wanted

  -- what it has done, and what it does with the messages that it has
  abbrev pub engine_outcome : Engine P → Outcome GatesEnd
  engine_outcome e = outcome_of i e.links (engine_left e)

  -- whatever words come later
  abbrev pub DoesTheSame : (before after : Engine P) → Type 0
  DoesTheSame before after = (more : List ℕ) → engine_outcome (filled after more) ≡ engine_outcome (filled before more)

  abbrev pub HasTheSameLeft : (before after : Engine P) → Type 0
  HasTheSameLeft before after = (more : List ℕ) → engine_left (filled after more) ≡ engine_left (filled before more)

  -- it comes to these values, with no message
  abbrev pub ComesTo : Values → Engine P → (more : List ℕ) → Type 0
  ComesTo values e more = engine_left (filled e more) ≡ Ends (Whole values (e.tape.1 ++ more))

  -- ---- plans

  -- no gate is at work, there is no plan, and with those of the gates that are left there are so many values
  pub record CanPlan (count : ℕ) (e : Engine P) : Type 0 where
    pub idle : e.work ≡ work.Idle
    pub all : e.wanted ≡ wanted.All
    pub counted : length e.values + made_by_all (gates_left e) ≡ count

  -- with those of its gates that are left there are so many values, and after them the values of these numbers alone are wanted from then on
  pub record IsPlanOf (numbers : BTreeSet ℕ) (count : ℕ) (before after : Engine P) : Type 0 where
    pub gates : (more : List ℕ) → engine_left (filled before more) ≡ own_gates i before.dealt (gates_left before) before.values (before.tape.1 ++ more)
    pub counted : length before.values + made_by_all (gates_left before) ≡ count
    pub left : (more : List ℕ) → engine_left (filled after more) ≡ then_do (engine_left (filled before more)) (λ h. Ends (with_these numbers h))
    pub links : after.links ≡ before.links
    pub dealt : after.dealt ≡ before.dealt
    pub tape : after.tape ≡ before.tape

  -- whether a value is not wanted after the plan, is large, and none of the gates that are left takes it
  abbrev pub is_spent : (k : ℕ) → Engine P → Bool
  is_spent k e = is_unwanted k e.wanted && (is_large (value e.values k) && not (any_takes k (gates_left e)))

  -- the values, of which each that has one of these numbers and is spent is let go
  abbrev pub without_spent : (ks : List ℕ) → Engine P → Values
  without_spent ks e = without (filter (λ k. is_spent k e) ks) e.values

  -- the numbers of the values that the last gate takes that has begun
  abbrev pub last_taken : Engine P → List ℕ
  last_taken e = last_operands (take e.begun e.gates.items)

  -- ---- gates that send nothing, and a store

  -- the first of the gates that are left is run, which sends nothing
  abbrev pub after_first : Engine P → Engine P
  after_first e = record e { values = with_first e.dealt i e.values (gates_left e); begun = e.begun + 1 }

  -- no gate is at work, there is no plan, and the one gate that is left is a store into the array of this number, and suits
  pub record LeavesStore (array : ℕ) (e : Engine P) : Type 0 where
    pub idle : e.work ≡ work.Idle
    pub all : e.wanted ≡ wanted.All
    pub store : IsStore e.dealt array e.values (gates_left e)

  -- no gate is at work, there is no plan, and the gates that are left send nothing and suit, the last of which is such a store
  pub record CanStore (array count : ℕ) (e : Engine P) : Type 0 where
    pub idle : e.work ≡ work.Idle
    pub all : e.wanted ≡ wanted.All
    pub gates : EndInStore e.dealt i array count e.values (gates_left e)

  -- ---- what holds of it

  -- the second operand is as long as the exchange takes it, and the words that were supplied reach to the end of the gate
  pub record IsSoundRun (e : Engine P) (r : Running) : Type 0 where
    pub within : r.begun ≤ size_at e.values r
    pub second : length (second_value e.values r.gate.v) ≡ (protocol_at r).second (size_at e.values r)
    pub reach : (protocol_at r).draws (size_at e.values r - r.begun) i ≤ length e.tape.1

  abbrev pub IsSoundWork : Engine P → AtWork P → Type 0
  IsSoundWork e work.Idle = Unit {0}
  IsSoundWork e (work.Between r) = IsSoundRun e r
  IsSoundWork e (work.Within r block) = IsSoundRun e r

  pub record IsSound (e : Engine P) : Type 0 where
    pub gates : e.begun ≤ length e.gates.items
    pub work : IsSoundWork e e.work

  abbrev pub EngineStands : Standing → Engine P → Type 0
  EngineStands s e = StandsAs i s e.links e.values e.tape.1 (engine_left e)

  -- no gate is at work, and with these words more the next can run exactly where they are so many
  pub record Wants (count : ℕ) (e : Engine P) (more : List ℕ) : Type 0 where
    pub some : 0 < count
    pub idle : e.work ≡ work.Idle
    pub exactly : first_can_run i e.dealt e.values (e.tape.1 ++ more) (gates_left e) ≡ nat_le count (length more)

  -- where it stands with these words more
  abbrev pub StandsWith : Standing → Engine P → (more : List ℕ) → Type 0
  StandsWith (stand.Wants count) e more = Wants count e more
  StandsWith s e more = EngineStands s (filled e more)

  abbrev pub StandsAlways : Standing → Engine P → Type 0
  StandsAlways s e = (more : List ℕ) → StandsWith s e more

-- no gate is at work, none is left, and all values are wanted
pub record IsDone {P : Type 0} (e : Engine P) : Type 0 where
  pub idle : e.work ≡ work.Idle
  pub through : length e.gates.items ≤ e.begun
  pub all : e.wanted ≡ wanted.All

-- the same is left to do, and no message was taken or sent
pub record IsAhead {P : Type 0} (i : Number) (before after : Engine P) : Type 0 where
  pub left : HasTheSameLeft i before after
  pub links : after.links ≡ before.links
  pub dealt : after.dealt ≡ before.dealt
  pub tape : after.tape ≡ before.tape

-- the one gate that is left is a store into the array of this number, of a word at an index
pub record StoresLast {P : Type 0} (i : Number) (array index word : ℕ) (e : Engine P) : Type 0 where
  pub idle : e.work ≡ work.Idle
  pub last : e.begun + 1 ≡ length e.gates.items
  pub all : e.wanted ≡ wanted.All
  pub left : (more : List ℕ) → ComesTo i (e.values ++ set (value e.values array) index word ∷ []) e more
  pub there : array < length e.values
  pub within : index < length (value e.values array)

-- its gates have come to these values, of which there are so many, the last one a store into the array of a number; but the array was let go
pub record Stored {P : Type 0} (i : Number) (array count : ℕ) (values : Values) (before after : Engine P) : Type 0 where
  pub came : engine_left i before ≡ Ends (Whole values before.tape.1)
  pub left : engine_left i after ≡ Ends (Whole after.values after.tape.1)
  pub let_go : after.values ≡ set values array []
  pub earlier : array + 1 < length values
  pub counted : length values ≡ count
  pub links : after.links ≡ before.links
  pub dealt : after.dealt ≡ before.dealt
  pub tape : after.tape ≡ before.tape

pub record HasStored {P : Type 0} (i : Number) (array count : ℕ) (before after : Engine P) : Type 0 where
  pub values : Values
  pub stored : (more : List ℕ) → Stored i array count values (filled before more) (filled after more)

-- a tape that begins with the words that were supplied, and has so many after them
pub record IsTapeOf (supplied : List ℕ) (ahead : ℕ) (tape : List ℕ) : Type 0 where
  pub begins : tape ≡ supplied ++ drop (length supplied) tape
  pub counted : length tape ≡ length supplied + ahead

-- what came stays, and so does what it was made with
pub record Keeps {P : Type 0} (before after : Engine P) : Type 0 where
  pub links : Holds before.links after.links
  pub dealt : after.dealt ≡ before.dealt
  pub tape : after.tape.0 ≡ before.tape.0

-- no gate begins
pub record KeepsGates {P : Type 0} (before after : Engine P) : Type 0 where
  pub kept : Keeps before after
  pub gates : after.gates.items ≡ before.gates.items
  pub begun : after.begun ≡ before.begun
  pub wanted : after.wanted ≡ before.wanted

-- all is as before but the gates
pub record IsSameButGates {P : Type 0} (before after : Engine P) : Type 0 where
  pub links : after.links ≡ before.links
  pub dealt : after.dealt ≡ before.dealt
  pub values : after.values ≡ before.values
  pub tape : after.tape ≡ before.tape

-- all is as before but the values
pub record IsSameButValues {P : Type 0} (before after : Engine P) : Type 0 where
  pub links : after.links ≡ before.links
  pub dealt : after.dealt ≡ before.dealt
  pub tape : after.tape ≡ before.tape
  pub gates : after.gates ≡ before.gates
  pub begun : after.begun ≡ before.begun
  pub work : after.work ≡ before.work

abbrev pub with_links : {P : Type 0} → Engine P → Links → Engine P
with_links e links = record e { links = links }

-- how much can still be done of the gate at work before a further message comes
abbrev pub run_measure : {P : Type 0} → Engine P → Running → ℕ
run_measure e r = 2 * (size_at e.values r - r.begun) + 2 * waiting e.links

abbrev pub measure : {P : Type 0} → Engine P → AtWork P → ℕ
measure e work.Idle = 0
measure e (work.Between r) = run_measure e r + 1
measure e (work.Within r block) = run_measure e r
