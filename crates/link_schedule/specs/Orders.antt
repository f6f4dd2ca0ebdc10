-- Orders of deliveries that a net makes itself, by a word for each delivery, until no message is under way.
use Rattle.std.specs.Prelude.{◌≡◌, ℕ, ◌+◌, nat_lt, List, [], ◌∷◌, length, Some, filter}
use Rattle.proto_core.specs.declared.party.Number.{Number}
use Rattle.proto_core.specs.declared.link.Link.{Link}
use Rattle.proto_core.specs.Strand.{Mail, Strand}
use Rattle.proto_core.specs.Net.{posted, delivered}
use Rattle.protocol_model.specs.Network.{all_links, chosen}
use Rattle.link_schedule.specs.Net.{NetState, nodes_in, net_mail, after}

module _ {A : Type 0} (nodes : Number → Strand A) where
  -- the links with a message under way, in the order of all links
  abbrev pub full_links : Mail → List Link
  full_links mail = filter (λ l. nat_lt (length (mail l)) (length (posted nodes mail l))) all_links

  -- each entry is the link that its word chooses, and after the last one no message is under way
  abbrev pub IsMade : (words : ℕ → ℕ) → (entry : ℕ) → Mail → List Link → Type 0
  IsMade words entry mail [] = full_links mail ≡ []
  IsMade words entry mail (l ∷ ls) = (chosen (words entry) (full_links mail) ≡ Some l) × IsMade words (entry + 1) (delivered nodes mail l) ls

-- from one state of a net to another by an order so made, its first entry being number 0
pub record Makes (words : ℕ → ℕ) (before then : NetState) : Type 0 where
  pub order : List Link
  pub made : IsMade (nodes_in before) words 0 (net_mail before) order
  pub comes : then ≡ after before order
