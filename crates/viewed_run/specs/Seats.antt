-- What a miner saw, by where it has stopped, what it was dealt, the words that it has drawn, and the messages that were sent to it.
use Rattle.std.specs.Prelude.{◌≡◌, ℕ, ◌-◌, List, [], map, take, Some, None}
use Rattle.sc_text.specs.declared.end.End.{End}
use Rattle.sc_text.specs.declared.end.Ending.{Ending}
use Rattle.proto_core.specs.declared.party.Number.{Number}
use Rattle.proto_core.specs.declared.link.Link.{Link}
use Rattle.proto_core.specs.Parties.{from_previous, from_next}
use Rattle.proto_core.specs.Strand.{Mail, Notice, Strand, Ends, told_in}
use Rattle.protocol_model.specs.Arrivals.{arrivals}
use Rattle.gates.specs.Clear.{Values}
use Rattle.shared_gates.specs.Model.{miner_of}
use Rattle.input_share.specs.ShareFile.{MinerFile}
use Rattle.gate_laws.specs.Dealt.{drawn_by}
use Rattle.driven_nodes.specs.Steps.{Stopped}
use Rattle.miner_core.specs.Places.{Place}
use Rattle.miner_core.specs.OwnCode.{Ended, Reached}
use Rattle.miner_core.specs.Story.{Story, has_told, node}
use Rattle.miner_core.specs.Miners.{held}
use Rattle.miner_core.specs.Streams.{ForEachTape}
use Rattle.view_text.specs.View.{View}
use Rattle.program_views.specs.Views.{input_shares, received}
use Rattle.viewed_run.specs.CodeViews.{shown_in}
use Rattle.link_schedule.specs.Net.{NetState, net_node, net_posted}
use Rattle.link_schedule.specs.Streams.{StreamNet, ForEachTapes, IsMinerOf}
use Rattle.viewed_run.specs.declared.seat.Seat.{Seat}

-- ---- where it has stopped

pub record StopsAt (left : Strand Ended) (p : Place) : Type 0 where
  pub values : Values
  pub at_end : left ≡ Ends (Reached (Stopped p) values)
  pub ending : Ending
  pub ended : p.ended ≡ Some ending

-- how it has ended and at which cost, and the words of its tape that it has drawn
module _ (i : Number) (s : Story) where
  pub record EndsSo (end : End) : Type 0 where
    pub how : (p : Place) → StopsAt (node i s).left p → p.ended ≡ Some end.how
    pub cost : (p : Place) → StopsAt (node i s).left p → end.cost ≡ s.budget - p.stage.left

  abbrev pub Drew : List ℕ → Type 0
  Drew words = (p : Place) → StopsAt (node i s).left p → words ≡ take (drawn_by p.stage.drawn (miner_of i)) s.tape

-- ---- what it saw

-- with this budget, its file and tape, by what it has told and where it has stopped, with these messages, which come in this order
module _ (i : Number) (budget : ℕ) (file : MinerFile) (tape : List ℕ) where
  pub record Sees (told : List Notice) (left : Strand Ended) (mail : Mail) (order : List Link) (v : View) : Type 0 where
    pub miner : v.miner ≡ i
    pub inputs : v.inputs ≡ input_shares file.entries
    pub drew : (p : Place) → StopsAt left p → v.drew ≡ take (drawn_by p.stage.drawn (miner_of i)) tape
    pub got : v.got ≡ map received (arrivals i mail order)
    pub opened : v.opened ≡ shown_in told
    pub how : (p : Place) → StopsAt left p → p.ended ≡ Some v.end.how
    pub cost : (p : Place) → StopsAt left p → v.end.cost ≡ budget - p.stage.left

-- the end alone
abbrev pub nothing_but : Number → End → View
nothing_but i end = record { miner = i; inputs = []; drew = []; got = []; opened = []; end = end }

-- ---- of a miner with what its view is made of

module _ {P : Type 0} (i : Number) where
  -- with each tape that it may have, and whatever the links carry that lead to others
  abbrev pub SeesFrom : Seat P → View → Type 0
  SeesFrom seat v =
      ForEachTape (held seat.miner.now)
      (λ s. (mail : Mail) → mail (from_previous i) ≡ seat.previous.now → mail (from_next i) ≡ seat.next.now
      → Sees i s.budget seat.file.now s.tape (has_told i s) (node i s).left mail seat.order.now v)

  -- that of a net, with this file
  pub record Sits (net : StreamNet) (file : MinerFile) (seat : Seat P) : Type 0 where
    pub miner : net.lost ≡ None → IsMinerOf net i (held seat.miner.now)
    pub dealt : seat.file.now ≡ file
    pub previous : ForEachTapes net (λ n. seat.previous.now ≡ net_posted n (from_previous i))
    pub next : ForEachTapes net (λ n. seat.next.now ≡ net_posted n (from_next i))
    pub order : seat.order.now ≡ net.delivered

-- ---- of a miner in a net

abbrev pub SeesIn : NetState → Number → MinerFile → (tape : List ℕ) → View → Type 0
SeesIn net i file tape v = Sees i net.budget file tape (told_in (net_node net i).acts) (net_node net i).left (net_posted net) net.delivered v
