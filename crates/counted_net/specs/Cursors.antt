-- Where a miner stands in its script, by how many messages have come.
use Rattle.std.specs.Prelude.{◌≡◌, ◌+◌, ◌<◌, ◌≤◌, ℕ, Bool, true, false, List, length, drop, slice_index, Some}
use Rattle.proto_core.specs.declared.link.Link.{Link}
use Rattle.protocol_model.specs.Network.{Counts, one_less, one_more, place_of, sent_by, stands_at}
use Rattle.counted_net.specs.declared.moves.Move.{Move}
use Rattle.counted_net.specs.declared.moves.Move.TheVariants.{Sends, Takes}
use Rattle.counted_net.specs.declared.tally.Tally.{Tally}
use Rattle.counted_net.specs.declared.cursor.Cursor.{Cursor}
use Rattle.counted_net.specs.Scripts.{plain}

abbrev pub tally_on : Tally → Link → ℕ
tally_on t l = slice_index t.counts (place_of l)

-- how many a miner has sent on each link, and how many have come to it and aren't taken
abbrev pub sent_in : Cursor → Counts
sent_in c l = tally_on c.sent l

abbrev pub unread_in : Cursor → Counts
unread_in c l = tally_on c.unread l

abbrev pub both : Counts → Counts → Counts
both x y l = x l + y l

-- ---- what one move does

-- it is done, and these are the counts after it
pub record HasMoved (before then : Cursor) (sent unread : Counts) : Type 0 where
  pub place : then.place ≡ before.place + 1
  pub sends : (l : Link) → sent_in then l ≡ sent l
  pub leaves : (l : Link) → unread_in then l ≡ unread l

-- a message is taken where one has come; else the miner waits
abbrev pub HasTaken : (before then : Cursor) → Link → Bool → Type 0
HasTaken before then l true = (0 < unread_in before l) × HasMoved before then (sent_in before) (one_less l (unread_in before))
HasTaken before then l false = (unread_in before l ≡ 0) × (then ≡ record before { waits = Some l })

abbrev pub Steps : (before then : Cursor) → Move → Bool → Type 0
Steps before then (Sends l) true = HasMoved before then (one_more l (sent_in before)) (unread_in before)
Steps before then (Sends l) false = ⊥
Steps before then (Takes l) went = HasTaken before then l went

-- ---- a miner after some of its moves

-- Of a script, to which so many have come, these moves are left, so many are sent and so many aren't taken: with whatever comes more, the
-- whole script sends what was sent and what those that are left send, and it stands where they stand.
pub record Leaves (script left : List Move) (got sent unread : Counts) : Type 0 where
  pub sends : (more : Counts) (l : Link) → sent_by (plain script) (both got more) l ≡ sent l + sent_by (plain left) (both unread more) l
  pub stands : (more : Counts) → stands_at (plain script) (both got more) ≡ stands_at (plain left) (both unread more)

-- it is in the script, and has sent no more than it has done moves
pub record InPlace (script : List Move) (c : Cursor) : Type 0 where
  pub within : c.place ≤ length script
  pub few : (l : Link) → sent_in c l ≤ c.place

pub record IsBehind (script : List Move) (got : Counts) (c : Cursor) : Type 0 where
  pub placed : InPlace script c
  pub few : (l : Link) → unread_in c l ≤ got l
  pub leaves : Leaves script (drop c.place script) got (sent_in c) (unread_in c)

-- it has done all that it can
pub record IsSettled (script : List Move) (got : Counts) (c : Cursor) : Type 0 where
  pub behind : IsBehind script got c
  pub sent : (l : Link) → sent_in c l ≡ sent_by (plain script) got l
  pub waits : c.waits ≡ stands_at (plain script) got
