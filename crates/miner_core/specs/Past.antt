-- What a miner lets go that is done with: messages that it has sent and that were fetched, messages that came and were taken, and words of its
-- tape that it has drawn. What it does is the same with all of them.
use Rattle.std.specs.Prelude.{◌≡◌, ℕ, List, [], ◌++◌}
use Rattle.block_steps.specs.declared.links.Links.{Links}
use Rattle.miner_core.specs.declared.engine.Engine.{Engine}

-- the messages that went to each of the two others and were let go, oldest first
pub record Past : Type 0 where
  pub to_next : List (List ℕ)
  pub to_previous : List (List ℕ)

-- none was
abbrev pub no_past : Past
no_past = record { to_next = []; to_previous = [] }

-- links that have sent these before those that they hold
abbrev pub sent_before : Past → Links → Links
sent_before past l = record l { to_next = past.to_next ++ l.to_next; to_previous = past.to_previous ++ l.to_previous }

-- an engine as it would be if it had let go no message that it has sent
abbrev pub with_past : {P : Type 0} → Past → Engine P → Engine P
with_past past e = record e { node = record e.node { links = sent_before past e.node.links } }

-- links with these inboxes
abbrev pub with_inboxes : Links → (from_previous from_next : List (List ℕ) × List (List ℕ)) → Links
with_inboxes l p n = record l { from_previous = p; from_next = n }

-- messages that were taken may be let go, and words that were drawn; all else is as before
pub record IsLighter {P : Type 0} (before after : Engine P) : Type 0 where
  pub previous : after.node.links.from_previous.1 ≡ before.node.links.from_previous.1
  pub next : after.node.links.from_next.1 ≡ before.node.links.from_next.1
  pub tape : after.node.tape.1 ≡ before.node.tape.1
  pub same :
      after
      ≡ record before {
        node =
            record before.node {
              links = with_inboxes before.node.links after.node.links.from_previous after.node.links.from_next;
              tape = after.node.tape;
            };
      }

-- where all messages that came on a link were taken, it holds none of them; and where all words that were supplied are drawn, none of these
pub record HoldsLittle {P : Type 0} (e : Engine P) : Type 0 where
  pub previous : e.node.links.from_previous.1 ≡ [] → e.node.links.from_previous ≡ ([], [])
  pub next : e.node.links.from_next.1 ≡ [] → e.node.links.from_next ≡ ([], [])
  pub tape : e.node.tape.1 ≡ [] → e.node.tape ≡ ([], [])
