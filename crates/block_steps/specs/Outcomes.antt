-- What a miner has done, and what a part of a protocol does with the messages that it has.
use Rattle.std.specs.Prelude.{◌≡◌, ℕ, ◌+◌, List, [], ◌∷◌, ◌++◌, length, Option, Some, None}
use Rattle.proto_core.specs.declared.party.Number.{Number}
use Rattle.proto_core.specs.declared.link.Link.{Link}
use Rattle.proto_core.specs.declared.refused.BadMessage.{BadMessage}
use Rattle.proto_core.specs.Parties.{to_next, to_previous}
use Rattle.proto_core.specs.Strand.{Shape, Mail, Strand, Ends, Acts, Waits, Ran, run, on_link, opened_in}
use Rattle.proto_core.specs.Net.{mail_of}
use Rattle.proto_core.specs.Standing.{fault_of}
use Rattle.block_steps.specs.declared.links.Links.{Links}

-- what was sent to each and opened, where the miner stands then and what it hasn't taken
pub record Outcome (A : Type 0) : Type 0 where
  pub to_next : List (List ℕ)
  pub to_previous : List (List ℕ)
  pub opened : List ℕ
  pub left : Strand A
  pub unread : Mail

-- a run, after what was done before it
abbrev pub outcome : {A : Type 0} → Number → (next previous : List (List ℕ)) → (opened : List ℕ) → Ran A → Outcome A
outcome i next previous opened ran =
    record {
      to_next = next ++ on_link (to_next i) ran.acts;
      to_previous = previous ++ on_link (to_previous i) ran.acts;
      opened = opened ++ opened_in ran.acts;
      left = ran.left;
      unread = ran.unread;
    }

-- the messages that were not taken
abbrev pub mail_left : Number → Links → Mail
mail_left i l = mail_of i l.from_previous.1 l.from_next.1

-- what was done, and what this strand does with the messages that are there
abbrev pub outcome_of : {A : Type 0} → Number → Links → Strand A → Outcome A
outcome_of i l s = outcome i l.to_next l.to_previous l.opened.items (run s (mail_left i l))

-- it does nothing with them
abbrev pub IsStill : {A : Type 0} → Number → Links → Strand A → Type 0
IsStill i l s = run s (mail_left i l) ≡ record { acts = []; left = s; unread = mail_left i l }

-- no message is there, or the oldest one is refused for this cause
abbrev pub HasNoneOf : Shape → Option BadMessage → List (List ℕ) → Type 0
HasNoneOf shape None [] = Unit {0}
HasNoneOf shape None (m ∷ ms) = ⊥
HasNoneOf shape (Some cause) [] = ⊥
HasNoneOf shape (Some cause) (m ∷ ms) = fault_of shape m ≡ Some cause

-- it waits, and no message is there that fits: none at all, or one that is refused for this cause
abbrev pub StandsAt : {A : Type 0} → Number → Links → Option BadMessage → Strand A → Type 0
StandsAt i l cause (Ends a) = ⊥
StandsAt i l cause (Acts act s) = ⊥
StandsAt i l cause (Waits link shape k) = HasNoneOf shape cause (mail_left i l link)

-- it waits for a message of this link
abbrev pub AwaitsOn : {A : Type 0} → Link → Strand A → Type 0
AwaitsOn link (Ends a) = ⊥
AwaitsOn link (Acts act s) = ⊥
AwaitsOn link (Waits other shape k) = other ≡ link

-- how many messages were not taken
abbrev pub waiting : Links → ℕ
waiting l = length l.from_previous.1 + length l.from_next.1

-- what came stays
pub record Holds (before after : Links) : Type 0 where
  pub previous : after.from_previous.0 ≡ before.from_previous.0
  pub next : after.from_next.0 ≡ before.from_next.0

-- no message comes or is taken
pub record IsBeside (before after : Links) : Type 0 where
  pub previous : after.from_previous ≡ before.from_previous
  pub next : after.from_next ≡ before.from_next

-- a message more, after all that came and all that was not taken
abbrev pub with_message : List (List ℕ) × List (List ℕ) → List ℕ → List (List ℕ) × List (List ℕ)
with_message inbox m = (inbox.0 ++ m ∷ [], inbox.1 ++ m ∷ [])

abbrev pub came_from_previous : Links → List ℕ → Links
came_from_previous l m = record l { from_previous = with_message l.from_previous m }

abbrev pub came_from_next : Links → List ℕ → Links
came_from_next l m = record l { from_next = with_message l.from_next m }
