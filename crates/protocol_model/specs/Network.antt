-- The net by counts alone: which entry of a schedule is refused, and which miner is left waiting. No word is read.
use Rattle.std.specs.Prelude.{ℕ, zero, suc, pred, ◌+◌, ◌%◌, Bool, nat_lt, if◌then◌else◌, List, [], ◌∷◌, length, Option, Some, None, slice_get, filter}
use Rattle.std.specs.Option.{option_map_or}
use Rattle.proto_core.specs.declared.party.Number.{Number}
use Rattle.proto_core.specs.declared.party.Number.TheVariants.{One, Two, Three}
use Rattle.proto_core.specs.declared.link.Link.{Link}
use Rattle.proto_core.specs.declared.link.Link.TheVariants.{Link12, Link13, Link21, Link23, Link31, Link32}
use Rattle.proto_core.specs.Parties.{sender_of, receiver_of, is_same}
use Rattle.proto_core.specs.Strand.{same_link, Mail, Strand, Waits}
use Rattle.proto_core.specs.Script.{Move, Sends, Takes, sends_on}
use Rattle.proto_core.specs.Net.{run_of, posted, delivered}

pub data Answer : Type 0 where
  Accepted : Answer
  -- the entry of a link of which all messages that were sent were delivered before
  EmptyLink : (entry : ℕ) (link : Link) (sent : ℕ) → Answer
  -- after the last entry a miner still waits; the lowest one is named
  Stalled : (miner : Number) (link : Link) → Answer

abbrev pub at_the_end : (Number → Option Link) → Answer
at_the_end waiting =
    option_map_or (Stalled One) (waiting One) (option_map_or (Stalled Two) (waiting Two) (option_map_or (Stalled Three) (waiting Three) Accepted))

-- ---- with the messages

abbrev pub waits_for : {A : Type 0} → Strand A → Option Link
waits_for (Waits l shape k) = Some l
waits_for _ = None

-- entry by entry, from a state in which this mail was delivered
abbrev pub walked : {A : Type 0} → (Number → Strand A) → ℕ → Mail → List Link → Answer
walked nodes entry mail [] = at_the_end (λ i. waits_for (run_of nodes mail i).left)
walked nodes entry mail (l ∷ ls) =
    if nat_lt (length (mail l)) (length (posted nodes mail l))
    then walked nodes (entry + 1) (delivered nodes mail l) ls
    else EmptyLink entry l (length (posted nodes mail l))

-- ---- with their numbers

-- how many messages of each link were delivered
abbrev pub Counts : Type 0
Counts = Link → ℕ

abbrev pub counts : Mail → Counts
counts mail l = length (mail l)

abbrev pub one_less : Link → Counts → Counts
one_less l got k = if same_link l k then pred (got k) else got k

abbrev pub one_more : Link → Counts → Counts
one_more l got k = if same_link l k then got k + 1 else got k

abbrev pub into_counts : Number → Counts → Counts
into_counts i got l = if is_same (receiver_of l) i then got l else 0

-- how many a miner has sent on a link, and which link it waits for
abbrev pub sent_by : List Move → Counts → Link → ℕ
sent_by [] got l = 0
sent_by (Sends k shape ∷ moves) got l = (if same_link l k then 1 else 0) + sent_by moves got l
sent_by (Takes k shape ∷ moves) got l = elim (got k) as (λ _. ℕ) [ zero ↦ 0 | suc _ ↦ sent_by moves (one_less k got) l ]

abbrev pub stands_at : List Move → Counts → Option Link
stands_at [] got = None
stands_at (Sends k shape ∷ moves) got = stands_at moves got
stands_at (Takes k shape ∷ moves) got =
    elim (got k) as (λ _. Option Link) [ zero ↦ Some k | suc _ ↦ stands_at moves (one_less k got) ]

abbrev pub posted_count : (Number → List Move) → Counts → Link → ℕ
posted_count scripts got l = sent_by (scripts (sender_of l)) (into_counts (sender_of l) got) l

abbrev pub counted : (Number → List Move) → ℕ → Counts → List Link → Answer
counted scripts entry got [] = at_the_end (λ i. stands_at (scripts i) (into_counts i got))
counted scripts entry got (l ∷ ls) =
    if nat_lt (got l) (posted_count scripts got l)
    then counted scripts (entry + 1) (one_more l got) ls
    else EmptyLink entry l (posted_count scripts got l)

-- ---- orders that are made, not given

abbrev pub all_links : List Link
all_links = Link12 ∷ Link13 ∷ Link21 ∷ Link23 ∷ Link31 ∷ Link32 ∷ []

-- where the count of a link stands in a list of six
abbrev pub place_of : Link → ℕ
place_of Link12 = 0
place_of Link13 = 1
place_of Link21 = 2
place_of Link23 = 3
place_of Link31 = 4
place_of Link32 = 5

-- whether a link has a message under way
abbrev pub is_full : (Number → List Move) → Counts → Link → Bool
is_full scripts got l = nat_lt (got l) (posted_count scripts got l)

-- a word chooses one of them; the word 0 always the first
abbrev pub chosen : ℕ → List Link → Option Link
chosen word links = slice_get links (word % length links)

-- an entry for each word, as long as a message is under way and `fuel` lasts
abbrev pub made_order : (Number → List Move) → (words : ℕ → ℕ) → (fuel entry : ℕ) → Counts → List Link
made_order scripts words zero entry got = []
made_order scripts words (suc fuel) entry got =
    option_map_or (λ l. l ∷ made_order scripts words fuel (entry + 1) (one_more l got)) (chosen (words entry) (filter (is_full scripts got) all_links)) []

-- how many were delivered in all
abbrev pub total : Counts → ℕ
total got = got Link12 + (got Link13 + (got Link21 + (got Link23 + (got Link31 + got Link32))))

abbrev pub none_delivered : Counts
none_delivered l = 0

-- how many messages the scripts send in all
abbrev pub sends_in_all : (Number → List Move) → ℕ
sends_in_all scripts = total (λ l. length (sends_on l (scripts (sender_of l))))

-- ---- the deliveries of a schedule

pub data Delivery : Type 0 where
  -- always the first link, in the order of `all_links`, with a message under way
  Default : Delivery
  -- these links
  Listed : List Link → Delivery
  -- chosen by a word for each delivery
  Shuffled : (ℕ → ℕ) → Delivery

abbrev pub order_of : (Number → List Move) → Delivery → List Link
order_of scripts Default = made_order scripts (λ k. 0) (sends_in_all scripts) 0 none_delivered
order_of scripts (Listed links) = links
order_of scripts (Shuffled words) = made_order scripts words (sends_in_all scripts) 0 none_delivered

-- what a delivery comes to, by the scripts alone
abbrev pub net : (Number → List Move) → Delivery → Answer
net scripts delivery = counted scripts 0 none_delivered (order_of scripts delivery)
