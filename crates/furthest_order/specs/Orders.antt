-- Three orders, one of each miner, and deliveries along them.
use Rattle.std.specs.Prelude.{◌≡◌, ◌<◌, ◌≤◌, ◌+◌, ◌^◌, ℕ, Bool, true, false, List, [], ◌∷◌, length, drop, Some, slice_get}
use Rattle.proto_core.specs.declared.party.Number.{Number}
use Rattle.proto_core.specs.declared.link.Link.{Link}
use Rattle.proto_core.specs.Parties.{count_of, receiver_of, is_same, of_three}
use Rattle.counted_net.specs.Nets.{NetState, after, is_under_way}
use Rattle.furthest_order.specs.declared.along.Orders.{Orders}
use Rattle.furthest_order.specs.declared.along.Places.{Places}
use Rattle.furthest_order.specs.declared.along.Deliveries.{Deliveries}

abbrev pub orders_of : Orders → Number → List Link
orders_of o = of_three o.one.now o.two.now o.three.now

abbrev pub place_of : Places → Number → ℕ
place_of p = of_three p.one p.two p.three

-- what is left of each order
abbrev pub left_of : (Number → List Link) → Deliveries → Number → List Link
left_of orders f i = drop (of_three f.one f.two f.three i) (orders i)

-- each of these links ends at the miner
abbrev pub AllTo : Number → List Link → Type 0
AllTo i [] = Unit {0}
AllTo i (l ∷ ls) = (receiver_of l ≡ i) × AllTo i ls

-- an order has links that end at its miner
abbrev pub AreOwn : (Number → List Link) → Type 0
AreOwn orders = (i : Number) → AllTo i (orders i)

abbrev pub AreWithin : (Number → List Link) → Places → Type 0
AreWithin orders places = (i : Number) → place_of places i ≤ length (orders i)

-- ---- one delivery

-- the first of these entries can't be delivered
abbrev pub IsBlockedIn : NetState → List Link → Type 0
IsBlockedIn net [] = Unit {0}
IsBlockedIn net (l ∷ ls) = is_under_way net l ≡ false

-- the entry of this place is delivered
pub record Gives (order : List Link) (before later : NetState) (place : ℕ) : Type 0 where
  pub link : Link
  pub at : slice_get order place ≡ Some link
  pub full : is_under_way before link ≡ true
  pub gives : later ≡ after before link
  pub few : length later.delivered < 2 ^ 63

-- it is; or it can't be, and nothing happens
abbrev pub GoesOn : List Link → (before later : NetState) → (place next : ℕ) → Bool → Type 0
GoesOn order before later place next true = Gives order before later place × (next ≡ place + 1)
GoesOn order before later place next false = IsBlockedIn before (drop place order) × (later ≡ before) × (next ≡ place)

-- the next entry of this miner's order is delivered, that of no lower miner can be, and the places in the other orders are as before
pub record Serves (orders : Number → List Link) (before later : NetState) (places then : Places) (i : Number) : Type 0 where
  pub gives : Gives (orders i) before later (place_of places i)
  pub here : place_of then i ≡ place_of places i + 1
  pub others : (k : Number) → is_same i k ≡ false → place_of then k ≡ place_of places k
  pub lower : (h : Number) → count_of h < count_of i → IsBlockedIn before (drop (place_of places h) (orders h))

-- one order goes on; or none can
abbrev pub StepsOn : (Number → List Link) → (before later : NetState) → (places then : Places) → Bool → Type 0
StepsOn orders before later places then true = (i : Number) × Serves orders before later places then i
StepsOn orders before later places then false =
    ((i : Number) → IsBlockedIn before (drop (place_of places i) (orders i))) × (later ≡ before) × (then ≡ places)
