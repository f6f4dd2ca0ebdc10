-- What holds of every order of deliveries, and of three nodes of which nothing is known but what they sent.
use Rattle.std.specs.Prelude.{◌≡◌, List}
use Rattle.proto_core.specs.declared.party.Number.{Number}
use Rattle.proto_core.specs.declared.link.Link.{Link}
use Rattle.proto_core.specs.Strand.{Mail, Strand, Begins, IsEnded}
use Rattle.proto_core.specs.Net.{nothing, run_of, posted, all_delivered, opened_by, MailBegins}
use Rattle.protocol_model.specs.Complete.{IsThrough}

-- in any order the messages of each link begin the full run's; where none is under way they are the full run's
pub record AnyOrder {A : Type 0} (nodes : Number → Strand A) (full : Mail) (order : List Link) : Type 0 where
  pub begins : MailBegins (all_delivered nodes nothing order) full
  pub complete :
      MailBegins (posted nodes (all_delivered nodes nothing order)) (all_delivered nodes nothing order) → (l : Link) →
      all_delivered nodes nothing order l ≡ full l

-- where what each node received begins what its peers sent, all of it is of the full run, and a node that has ended has
-- done all that it does there
pub record ThreeNodes {A : Type 0} (nodes : Number → Strand A) (full : Mail) (outputs : Number → A) (mail : Mail) : Type 0 where
  pub sent : MailBegins (posted nodes mail) full
  pub received : MailBegins mail full
  pub opened : (i : Number) → Begins (opened_by nodes mail i) (opened_by nodes full i)
  pub ended : (i : Number) → IsEnded (run_of nodes mail i).left → IsThrough nodes full outputs mail i
