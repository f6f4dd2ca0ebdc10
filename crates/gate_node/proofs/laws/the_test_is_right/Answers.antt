use Rattle.gate_node.proofs.Suiting.{test-is}
use Rattle.gate_node.proofs.laws.the_test_is_right.Goals as goal

pub returns : goal.returns
returns c = test-is
