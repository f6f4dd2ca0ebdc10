-- A node that has ended, and a state of the net in which all has come.
use Rattle.std.specs.Prelude.{◌≡◌}
use Rattle.proto_core.specs.declared.party.Number.{Number}
use Rattle.proto_core.specs.declared.link.Link.{Link}
use Rattle.proto_core.specs.Parties.{sender_of, receiver_of}
use Rattle.proto_core.specs.Strand.{Mail, Strand, Ends}
use Rattle.proto_core.specs.Net.{run_of, posted, opened_by}

-- all that comes to this node in the full run has come, all that it sends is sent, it has opened what it opens there, and
-- it stands at its end with its outputs
pub record IsThrough {A : Type 0} (nodes : Number → Strand A) (full : Mail) (outputs : Number → A) (mail : Mail) (i : Number) : Type 0 where
  pub came : (l : Link) → receiver_of l ≡ i → mail l ≡ full l
  pub sent : (l : Link) → sender_of l ≡ i → posted nodes mail l ≡ full l
  pub ended : (run_of nodes mail i).left ≡ Ends (outputs i)
  pub opened : opened_by nodes mail i ≡ opened_by nodes full i

-- each link's messages were sent and delivered, and each miner has ended with its outputs and opened what it opens in
-- the full run
pub record IsComplete {A : Type 0} (nodes : Number → Strand A) (full : Mail) (outputs : Number → A) (mail : Mail) : Type 0 where
  pub came : (l : Link) → mail l ≡ full l
  pub sent : (l : Link) → posted nodes mail l ≡ full l
  pub ended : (i : Number) → (run_of nodes mail i).left ≡ Ends (outputs i)
  pub opened : (i : Number) → opened_by nodes mail i ≡ opened_by nodes full i
