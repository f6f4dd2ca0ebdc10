use Rattle.std.proofs.Common.{length, sym, ap, ◌∙◌}
use Rattle.gates.specs.inner.Spans.{list_at}
use Rattle.gates.proofs.Held.{length_first}
use Rattle.gates.proofs.values.Values.len.Goals as goal

pub returns : goal.returns
returns c = sym (ap length (sym c.self.view_is) ∙ length_first (list_at c.self.inside.held) c.self.inside.count)
