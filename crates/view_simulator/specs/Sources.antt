-- What the messages of a gate that come to a miner are made of, and what these messages are.
use Rattle.std.specs.Prelude.{◌≡◌, ℕ, ◌≤◌, List, [], ◌++◌, length, take, drop}
use Rattle.proto_core.specs.declared.party.Number.{Number}
use Rattle.proto_core.specs.declared.party.Number.TheVariants.{One, Two, Three}
use Rattle.proto_core.specs.Parties.{from_previous, from_next}
use Rattle.proto_core.specs.Strand.{Mail}
use Rattle.proto_core.specs.Protocol.{Protocol}
use Rattle.blocked_protocol.specs.Blocked.{blocked}
use Rattle.joint_run.specs.Parts.{ThreeLists}
use Rattle.joint_run.specs.Three.{each_of}
use Rattle.view_simulator.specs.declared.mails.Mails.{Mails}

-- the miner's own share of the first operand, words of each miner, and opened words
pub record SourceWords : Type 0 where
  pub u : List ℕ
  pub words : ThreeLists
  pub opened : List ℕ

-- the words that each miner draws for m elements, and those after them
abbrev pub drawn_lists : Protocol → ℕ → ThreeLists → ThreeLists
drawn_lists p m tapes =
    record {
      first = take (p.draws m One) tapes.first;
      second = take (p.draws m Two) tapes.second;
      third = take (p.draws m Three) tapes.third;
    }

abbrev pub left_lists : Protocol → ℕ → ThreeLists → ThreeLists
left_lists p m tapes =
    record {
      first = drop (p.draws m One) tapes.first;
      second = drop (p.draws m Two) tapes.second;
      third = drop (p.draws m Three) tapes.third;
    }

-- at least as many words of each miner as it draws for m elements
pub record Reach (p : Protocol) (m : ℕ) (words : ThreeLists) : Type 0 where
  pub first : p.draws m One ≤ length words.first
  pub second : p.draws m Two ≤ length words.second
  pub third : p.draws m Three ≤ length words.third

-- just as many as for its elements
pub record IsDrawn (p : Protocol) (s : SourceWords) : Type 0 where
  pub first : length s.words.first ≡ p.draws (length s.u) One
  pub second : length s.words.second ≡ p.draws (length s.u) Two
  pub third : length s.words.third ≡ p.draws (length s.u) Three

-- what belongs to the first m elements, and what is after it
abbrev pub front : Protocol → ℕ → SourceWords → SourceWords
front p m s = record { u = take m s.u; words = drawn_lists p m s.words; opened = take (p.opens m) s.opened }

abbrev pub behind : Protocol → ℕ → SourceWords → SourceWords
behind p m s = record { u = drop m s.u; words = left_lists p m s.words; opened = drop (p.opens m) s.opened }

-- a block's messages, and a whole gate's; no second operand is read
abbrev pub block_mail : Protocol → Number → SourceWords → Mail
block_mail p i s = p.received (length s.u) i s.u [] (each_of s.words) s.opened

abbrev pub gate_mail : Protocol → Number → SourceWords → Mail
gate_mail p i s = (blocked p).received (length s.u) i s.u [] (each_of s.words) s.opened

-- the messages of a miner's two links come after those that came before
pub record Brings (i : Number) (mail : Mail) (before after : Mails) : Type 0 where
  pub previous : after.previous ≡ before.previous ++ mail (from_previous i)
  pub next : after.next ≡ before.next ++ mail (from_next i)
