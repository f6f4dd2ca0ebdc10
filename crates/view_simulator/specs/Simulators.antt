-- The simulator of a miner's view, with the miner's own part in the gates.
use Rattle.std.specs.Prelude.{◌≡◌, ℕ, List, [], ◌∷◌, ◌++◌, drop, length}
use Rattle.proto_core.specs.declared.party.Number.{Number}
use Rattle.proto_core.specs.Parties.{from_previous, from_next}
use Rattle.proto_core.specs.Strand.{Mail, Strand, Ends, run}
use Rattle.proto_core.specs.Net.{nothing}
use Rattle.protocol_model.specs.Gates as model
use Rattle.protocol_model.specs.Gates.{Joined, needed}
use Rattle.protocol_model.specs.Views.{made_messages}
use Rattle.gates.specs.declared.gate.Gate.{Gate}
use Rattle.gates.specs.Clear.{Values, value}
use Rattle.blocked_protocol.specs.Blocked.{blocked}
use Rattle.gate_exchanges.specs.declared.exchanged.Exchanged.{Exchanged}
use Rattle.joint_run.specs.Exchanges.{protocol_of}
use Rattle.joint_run.specs.Three.{each_of}
use Rattle.block_steps.specs.declared.links.Links.{Links}
use Rattle.gate_node.specs.declared.engine.Engine.{Engine}
use Rattle.gate_node.specs.OwnGates.{Whole, own_gate}
use Rattle.gate_node.specs.Nodes.{engine_left, with_links}
use Rattle.view_simulator.specs.declared.simulator.Simulator.{Simulator}
use Rattle.view_simulator.specs.Sources.{Brings}
use Rattle.view_simulator.specs.Standing.{Standing, opens_in}

-- a strand takes all these messages, and ends with this
pub record EndsOn {A : Type 0} (s : Strand A) (mail : Mail) (a : A) : Type 0 where
  pub left : (run s mail).left ≡ Ends a
  pub unread : (run s mail).unread ≡ nothing

-- more messages come from the previous miner, or from the next one
abbrev pub more_previous : Links → List (List ℕ) → Links
more_previous l ms = record l { from_previous = (l.from_previous.0 ++ ms, l.from_previous.1 ++ ms) }

abbrev pub more_next : Links → List (List ℕ) → Links
more_next l ms = record l { from_next = (l.from_next.0 ++ ms, l.from_next.1 ++ ms) }

abbrev pub more_mail : Number → Mail → Links → Links
more_mail i mail l = more_next (more_previous l (mail (from_previous i))) (mail (from_next i))

module _ {P : Type 0} (i : Number) where
  -- all its gates are through, no message is unread, and it has these values and this tape left
  pub record IsThrough (all : Values) (rest : List ℕ) (e : Engine P) : Type 0 where
    pub left : engine_left i e ≡ Ends (Whole all rest)
    pub values : e.values ≡ all
    pub tape : e.tape.1 ≡ rest
    pub previous : e.links.from_previous.1 ≡ []
    pub next : e.links.from_next.1 ≡ []

  -- between gates; its own tape is that of its number
  pub record Rests (s : Simulator P) : Type 0 where
    pub through : IsThrough s.node.values s.node.tape.1 s.node
    pub tape : s.node.tape.1 ≡ each_of s.tapes i

  abbrev pub standing_of : Simulator P → Standing
  standing_of s =
      record { own = s.node.values; opened = s.opened.now; tapes = each_of s.tapes; previous = s.mails.previous; next = s.mails.next }

  -- the gate as the miner runs it where it has these values
  abbrev pub gate_in : Simulator P → Gate → model.Gate
  gate_in s gate = own_gate i s.node.dealt s.node.values gate

  -- one that sends messages
  abbrev pub joined_in : Simulator P → Exchanged → model.Gate
  joined_in s x = Joined (blocked (protocol_of x.exchange)) (length (value s.node.values x.u)) x.u x.v

  -- the messages that a gate brings
  abbrev pub mail_in : Simulator P → model.Gate → Mail
  mail_in s g = made_messages i (g ∷ []) s.node.values s.opened.now (each_of s.tapes)

  -- they come to the miner, and their words are taken off
  pub record Receives (g : model.Gate) (before after : Simulator P) : Type 0 where
    pub node : after.node ≡ with_links before.node (more_mail i (mail_in before g) before.node.links)
    pub mails : Brings i (mail_in before g) before.mails after.mails
    pub opened : after.opened.now ≡ drop (opens_in (g ∷ [])) before.opened.now
    pub tapes : each_of after.tapes ≡ (λ k. drop (needed (g ∷ []) k) (each_of before.tapes k))
