-- What gates leave to do whatever words of the tape come is so where none come.
use Rattle.std.proofs.Common.{ℕ, [], ap, subst}
use Rattle.proto_core.specs.declared.party.Number.{Number}
use Rattle.proto_core.specs.Strand.{run, told_in}
use Rattle.proto_core.specs.Net.{added}
use Rattle.block_steps.specs.Outcomes.{mail_left}
use Rattle.gate_node.specs.Nodes as node
use Rattle.gate_node.specs.declared.engine.Engine as gates
use Rattle.gate_node.proofs.Supplied.{filled-none}
use Rattle.miner_core.specs.Engines.{IsQuiet, IsThrough}

module _ {P : Type 0} (i : Number) (n n2 : gates.Engine P) where
  pub stored_here : (array count : ℕ) (s : node.HasStored i array count n n2) → node.Stored i array count s.values n n2
  stored_here array count s =
      subst (λ m. node.Stored i array count s.values m n2) (filled-none n)
      (subst (λ m. node.Stored i array count s.values (node.filled n []) m) (filled-none n2) (s.stored []))

pub through_quiet : {P : Type 0} (i : Number) (n : gates.Engine P) → IsThrough i n → IsQuiet i n
through_quiet i n through = λ more. ap (λ s. told_in (run s (added (mail_left i n.links) more)).acts) through
