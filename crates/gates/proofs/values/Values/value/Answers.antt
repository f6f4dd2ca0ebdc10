use Rattle.std.proofs.Common.{sym, ap, ◌∙◌}
use Rattle.gates.specs.Clear.{value}
use Rattle.gates.specs.inner.Spans.{list_at}
use Rattle.gates.proofs.Held.{value_held}
use Rattle.gates.proofs.values.Values.value.Goals as goal

pub returns : goal.returns
returns c =
    c.get.ensures
    ∙ sym (ap (λ v. value v c.args.number) (sym c.self.view_is) ∙ value_held (list_at c.self.inside.held) c.self.inside.count c.self.invariant c.args.number)
