-- Two miners that do the same but for what they tell.
use Rattle.std.specs.Prelude.{◌≡◌}
use Rattle.proto_core.specs.declared.party.Number.{Number}
use Rattle.proto_core.specs.declared.link.Link.{Link}
use Rattle.proto_core.specs.Strand.{Mail, Strand, Ends, Ran, run, on_link, opened_in}
use Rattle.proto_core.specs.Net.{into, MailBegins}
use Rattle.proto_core.specs.Standing.{standing_of}
use Rattle.protocol_model.specs.Network.{waits_for}

-- they send the same on each link, open the same, leave the same unread and stand alike; where the second ends, the first
-- ends with what is made of it
pub record SameRun {A B : Type 0} (made : B → A) (r : Ran A) (q : Ran B) : Type 0 where
  pub sent : (l : Link) → on_link l r.acts ≡ on_link l q.acts
  pub opened : opened_in r.acts ≡ opened_in q.acts
  pub unread : r.unread ≡ q.unread
  pub waits : waits_for r.left ≡ waits_for q.left
  pub stands : standing_of r ≡ standing_of q
  pub ends : (b : B) → q.left ≡ Ends b → r.left ≡ Ends (made b)

-- so with all messages that begin these
abbrev pub Alike : {A B : Type 0} → (B → A) → Mail → Strand A → Strand B → Type 0
Alike made full s t = (x : Mail) → MailBegins x full → SameRun made (run s x) (run t x)

-- each of three, with the messages that come to it
abbrev pub AreAlike : {A B : Type 0} → (B → A) → Mail → (nodes : Number → Strand A) → (known : Number → Strand B) → Type 0
AreAlike made full nodes known = (i : Number) → Alike made (into i full) (nodes i) (known i)
