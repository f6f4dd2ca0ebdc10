-- Orders in which messages came to three miners, and the schedules that bring them about.
use Rattle.std.specs.Prelude.{◌≡◌, ℕ, ◌+◌, ◌<◌, true, false, if◌then◌else◌, List, [], ◌∷◌, ◌++◌, length, take, filter}
use Rattle.proto_core.specs.declared.party.Number.{Number}
use Rattle.proto_core.specs.declared.link.Link.{Link}
use Rattle.proto_core.specs.Parties.{receiver_of, is_same}
use Rattle.proto_core.specs.Script.{Move}
use Rattle.proto_core.specs.Strand.{same_link, Begins, Mail}
use Rattle.protocol_model.specs.Gates.{Gate, needed}
use Rattle.protocol_model.specs.Network.{Accepted, Counts, counted, is_full, none_delivered, one_more}
use Rattle.protocol_model.specs.Runs.{Tapes}

-- ---- SCHEDULES: the links on which messages are delivered, in order

-- those that lead to a miner, in their order
abbrev pub links_to : Number → List Link → List Link
links_to i links = filter (λ link. is_same (receiver_of link) i) links

-- how many of each link were delivered, with all of these
abbrev pub with_all : Counts → List Link → Counts
with_all got [] = got
with_all got (l ∷ ls) = with_all (one_more l got) ls

-- how often a link stands in a list
abbrev pub count_in : Link → List Link → ℕ
count_in l [] = 0
count_in l (k ∷ ks) = (if same_link k l then 1 else 0) + count_in l ks

-- each entry has a message under way when its turn comes
abbrev pub Passes : (Number → List Move) → Counts → List Link → Type 0
Passes scripts got [] = Unit {0}
Passes scripts got (l ∷ ls) = (is_full scripts got l ≡ true) × Passes scripts (one_more l got) ls

-- ---- ORDERS: the links of the messages that came to each miner, in order

abbrev pub Orders : Type 0
Orders = Number → List Link

-- a schedule that has brought each miner the first entries of its order
abbrev pub Within : Orders → List Link → Type 0
Within orders ls = (i : Number) → Begins (links_to i ls) (orders i)

-- of the entries that are left the first can't be delivered
abbrev pub IsBlocked : (Number → List Move) → Counts → List Link → Type 0
IsBlocked scripts got [] = Unit {0}
IsBlocked scripts got (l ∷ ls) = is_full scripts got l ≡ false

-- a schedule within the orders that passes, after which no miner's next entry can be delivered
pub record Stuck (scripts : Number → List Move) (orders : Orders) (ls : List Link) (left : Orders) : Type 0 where
  pub passes : Passes scripts none_delivered ls
  pub parts : (i : Number) → links_to i ls ++ left i ≡ orders i
  pub blocked : (i : Number) → IsBlocked scripts (with_all none_delivered ls) (left i)

-- the entry of this place in a miner's order is reached by some schedule within the orders
pub record Reaches (scripts : Number → List Move) (orders : Orders) (i : Number) (place : ℕ) : Type 0 where
  pub schedule : List Link
  pub passes : Passes scripts none_delivered schedule
  pub within : Within orders schedule
  pub beyond : place < length (links_to i schedule)

-- an accepted schedule that brings each miner all of its order
pub record Merges (scripts : Number → List Move) (orders : Orders) (ls : List Link) : Type 0 where
  pub accepted : counted scripts 0 none_delivered ls ≡ Accepted
  pub parts : (i : Number) → links_to i ls ≡ orders i

-- the orders have each link as often as it has messages
abbrev pub AllCome : Mail → Orders → Type 0
AllCome full orders = (l : Link) → count_in l (orders (receiver_of l)) ≡ length (full l)

-- ---- TAPES

-- with the same words where the gates draw
abbrev pub SameDrawn : List Gate → (s t : Tapes) → Type 0
SameDrawn gates s t = (i : Number) → take (needed gates i) (s i) ≡ take (needed gates i) (t i)
