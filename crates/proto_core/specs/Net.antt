-- Three miners joined by links: a message is delivered as the oldest of its link that wasn't.
-- What was delivered is all that the state of the net is, since each link has one receiver.
use Rattle.std.specs.Prelude.{◌≡◌, ℕ, zero, suc, if◌then◌else◌, List, [], ◌∷◌, ◌++◌}
use Rattle.proto_core.specs.declared.party.Number.{Number}
use Rattle.proto_core.specs.declared.link.Link.{Link}
use Rattle.proto_core.specs.Parties.{sender_of, receiver_of, is_same, from_previous, from_next}
use Rattle.proto_core.specs.Strand.{same_link, Mail, Strand, Ends, Ran, run, on_link, opened_in, Begins, next_after}

-- the messages that come to a miner
abbrev pub into : Number → Mail → Mail
into i mail l = if is_same (receiver_of l) i then mail l else []

-- these messages from the previous miner, these from the next, and no other
abbrev pub mail_of : Number → (previous next : List (List ℕ)) → Mail
mail_of i previous next l =
    if same_link (from_previous i) l then previous else if same_link (from_next i) l then next else []

abbrev pub nothing : Mail
nothing l = []

-- one run's messages and then another's
abbrev pub added : Mail → Mail → Mail
added x y l = x l ++ y l

abbrev pub MailBegins : Mail → Mail → Type 0
MailBegins x y = (l : Link) → Begins (x l) (y l)

module _ {A : Type 0} where
  abbrev pub run_of : (Number → Strand A) → Mail → Number → Ran A
  run_of nodes mail i = run (nodes i) (into i mail)

  -- what was sent on a link
  abbrev pub posted : (Number → Strand A) → Mail → Mail
  posted nodes mail l = on_link l (run_of nodes mail (sender_of l)).acts

  -- the next message of a link, if one is under way
  abbrev pub under_way : (Number → Strand A) → Mail → Link → List (List ℕ)
  under_way nodes mail l = next_after (mail l) (posted nodes mail l)

  -- one entry of a schedule
  abbrev pub delivered : (Number → Strand A) → Mail → Link → Mail
  delivered nodes mail l k = if same_link l k then mail k ++ under_way nodes mail k else mail k

  abbrev pub all_delivered : (Number → Strand A) → Mail → List Link → Mail
  all_delivered nodes mail [] = mail
  all_delivered nodes mail (l ∷ ls) = all_delivered nodes (delivered nodes mail l) ls

  abbrev pub opened_by : (Number → Strand A) → Mail → Number → List ℕ
  opened_by nodes mail i = opened_in (run_of nodes mail i).acts

  -- all that is sent comes, so many times
  abbrev pub rounds : (Number → Strand A) → ℕ → Mail → Mail
  rounds nodes zero mail = mail
  rounds nodes (suc k) mail = posted nodes (rounds nodes k mail)

  -- these are the messages of a whole run: with them these are sent, all three end with `outputs` and leave none
  -- unread; and they come about from nothing, each sent before it comes
  pub record Finishes (nodes : Number → Strand A) (full : Mail) (outputs : Number → A) : Type 0 where
    pub sent : (l : Link) → posted nodes full l ≡ full l
    pub ended : (i : Number) → (run_of nodes full i).left ≡ Ends (outputs i)
    pub read : (i : Number) → (run_of nodes full i).unread ≡ nothing
    pub count : ℕ
    pub all : MailBegins full (rounds nodes count nothing)
