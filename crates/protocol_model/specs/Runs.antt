-- The joint run of a list of gates: all three miners at once, gate by gate.
use Rattle.std.specs.Prelude.{◌≡◌, ℕ, ◌≤◌, List, [], ◌∷◌, ◌++◌, length, take, drop, Option}
use Rattle.proto_core.specs.declared.party.Number.{Number}
use Rattle.proto_core.specs.Lists.{AreWords}
use Rattle.proto_core.specs.Strand.{Mail, Strand}
use Rattle.proto_core.specs.Net.{Finishes, opened_by}
use Rattle.proto_core.specs.Protocol.{Joint, Protocol}
use Rattle.protocol_model.specs.Gates.{Gate, Joined, Local, nth_value, operand, sizes_of, Sized, needed, gates_strand}

-- each miner's shares of the values so far, and each miner's tape
abbrev pub Shares : Type 0
Shares = Number → List (List ℕ)

abbrev pub Tapes : Type 0
Tapes = Number → List ℕ

-- the words that a block draws, and the tapes after them
abbrev pub drawn : Protocol → ℕ → Tapes → Tapes
drawn p n tapes i = take (p.draws n i) (tapes i)

abbrev pub left : Protocol → ℕ → Tapes → Tapes
left p n tapes i = drop (p.draws n i) (tapes i)

abbrev pub gate_joint : ℕ → Option ℕ → Shares → Tapes → Joint
gate_joint u v values words = record { u = λ i. nth_value (values i) u; v = λ i. operand (values i) v; words = words }

abbrev pub after : Protocol → ℕ → ℕ → Option ℕ → Shares → Tapes → Shares
after p n u v values words i = values i ++ p.output n (gate_joint u v values words) i

abbrev pub after_local : (Number → List (List ℕ) → List ℕ) → Shares → Shares
after_local f values i = values i ++ f i (values i) ∷ []

-- the messages of each link, oldest first
abbrev pub run_messages : List Gate → Shares → Tapes → Mail
run_messages [] values tapes l = []
run_messages (Joined p n u v ∷ gates) values tapes l =
    p.messages n (gate_joint u v values (drawn p n tapes)) l
    ++ run_messages gates (after p n u v values (drawn p n tapes)) (left p n tapes) l
run_messages (Local n f ∷ gates) values tapes l = run_messages gates (after_local f values) tapes l

-- each miner's shares of all values
abbrev pub run_values : List Gate → Shares → Tapes → Shares
run_values [] values tapes = values
run_values (Joined p n u v ∷ gates) values tapes = run_values gates (after p n u v values (drawn p n tapes)) (left p n tapes)
run_values (Local n f ∷ gates) values tapes = run_values gates (after_local f values) tapes

-- the words that all three learn, one after another
abbrev pub run_opened : List Gate → Shares → Tapes → List ℕ
run_opened [] values tapes = []
run_opened (Joined p n u v ∷ gates) values tapes =
    p.opened n (gate_joint u v values (drawn p n tapes))
    ++ run_opened gates (after p n u v values (drawn p n tapes)) (left p n tapes)
run_opened (Local n f ∷ gates) values tapes = run_opened gates (after_local f values) tapes

-- the three miners, each with its shares and its tape
abbrev pub nodes_of : List Gate → Shares → Tapes → Number → Strand (List (List ℕ))
nodes_of gates values tapes i = gates_strand i gates (values i) (tapes i)

-- the shares are as large as the gates want them, and the tapes as long
pub record Ready (gates : List Gate) (values : Shares) (tapes : Tapes) : Type 0 where
  pub sizes : List ℕ
  pub sized : Sized gates sizes
  pub shares : (i : Number) → sizes_of (values i) ≡ sizes
  pub tapes_reach : (i : Number) → needed gates i ≤ length (tapes i)
  pub tapes_are_words : (i : Number) → AreWords (tapes i)

-- the three miners do what the joint run says, whatever the words are
pub record RunTogether (gates : List Gate) (values : Shares) (tapes : Tapes) : Type 0 where
  pub finishes : Finishes (nodes_of gates values tapes) (run_messages gates values tapes) (run_values gates values tapes)
  pub opens :
      (i : Number) →
      opened_by (nodes_of gates values tapes) (run_messages gates values tapes) i ≡ run_opened gates values tapes
