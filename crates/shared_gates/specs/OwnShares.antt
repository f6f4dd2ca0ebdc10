-- What of a run's gates depends on what one miner was dealt alone.
use Rattle.std.specs.Prelude.{◌≡◌, ℕ, List}
use Rattle.proto_core.specs.declared.party.Number.{Number}
use Rattle.proto_core.specs.declared.link.Link.{Link}
use Rattle.protocol_model.specs.Gates.{Gate, needed, gates_script}
use Rattle.protocol_model.specs.Runs.{Tapes}
use Rattle.protocol_model.specs.Views.{made_messages, made_values}

-- of two lists of gates the simulator makes miner i the same messages and shares, each miner draws as many words, and all
-- scripts are the same
pub record SameFor (i : Number) (gates others : List Gate) : Type 0 where
  pub messages :
      (own : List (List ℕ)) (opened : List ℕ) (mapped : Tapes) (l : Link) →
      made_messages i gates own opened mapped l ≡ made_messages i others own opened mapped l
  pub values :
      (own : List (List ℕ)) (opened : List ℕ) (mapped : Tapes) →
      made_values i gates own opened mapped ≡ made_values i others own opened mapped
  pub needs : (k : Number) → needed gates k ≡ needed others k
  pub scripts : (k : Number) → gates_script k gates ≡ gates_script k others
