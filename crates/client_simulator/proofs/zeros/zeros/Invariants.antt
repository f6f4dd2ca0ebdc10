use Rattle.std.proofs.Common.{◌≡◌, take}
use Rattle.protocol_model.specs.Gates.{sizes_of}
use Rattle.client_simulator.proofs.zeros.zeros.Given as goal

abbrev pub invariant-loop-size : goal.invariant-loop-size
invariant-loop-size l = sizes_of l.values ≡ take l.size-index l.sizes
