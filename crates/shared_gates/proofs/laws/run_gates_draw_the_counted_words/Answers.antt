use Rattle.shared_gates.proofs.Drawn.{drawn-counted}
use Rattle.shared_gates.proofs.laws.run_gates_draw_the_counted_words.Goals as goal

pub returns : goal.returns
returns c = drawn-counted
