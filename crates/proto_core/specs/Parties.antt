-- The three miners, in a ring of three, and the links between them.
use Rattle.std.specs.Prelude.{ℕ, Bool, true, false, List, codes, ◌++◌}
use Rattle.proto_core.specs.declared.party.Number.{Number}
use Rattle.proto_core.specs.declared.party.Number.TheVariants.{One, Two, Three}
use Rattle.proto_core.specs.declared.link.Link.{Link}
use Rattle.proto_core.specs.declared.link.Link.TheVariants.{Link12, Link13, Link21, Link23, Link31, Link32}

-- what each of the three has
abbrev pub of_three : {A : Type 0} → A → A → A → Number → A
of_three x y z One = x
of_three x y z Two = y
of_three x y z Three = z

abbrev pub next_of : Number → Number
next_of = of_three Two Three One

abbrev pub previous_of : Number → Number
previous_of = of_three Three One Two

abbrev pub count_of : Number → ℕ
count_of = of_three 1 2 3

abbrev pub number_text : Number → List ℕ
number_text = of_three (codes "1") (codes "2") (codes "3")

-- who sends on a link, and who receives
abbrev pub sender_of : Link → Number
sender_of Link12 = One
sender_of Link13 = One
sender_of Link21 = Two
sender_of Link23 = Two
sender_of Link31 = Three
sender_of Link32 = Three

abbrev pub receiver_of : Link → Number
receiver_of Link12 = Two
receiver_of Link13 = Three
receiver_of Link21 = One
receiver_of Link23 = Three
receiver_of Link31 = One
receiver_of Link32 = Two

-- the link to the next miner, and the one to the previous
abbrev pub to_next : Number → Link
to_next = of_three Link12 Link23 Link31

abbrev pub to_previous : Number → Link
to_previous = of_three Link13 Link21 Link32

-- the link from the previous miner, and the one from the next
abbrev pub from_previous : Number → Link
from_previous i = to_next (previous_of i)

abbrev pub from_next : Number → Link
from_next i = to_previous (next_of i)

abbrev pub is_same : Number → Number → Bool
is_same One One = true
is_same Two Two = true
is_same Three Three = true
is_same _ _ = false

-- whether a link goes to its sender's next
abbrev pub is_forward : Link → Bool
is_forward l = is_same (receiver_of l) (next_of (sender_of l))

-- a link's text: its sender's number, then its receiver's
abbrev pub link_text : Link → List ℕ
link_text l = number_text (sender_of l) ++ number_text (receiver_of l)
