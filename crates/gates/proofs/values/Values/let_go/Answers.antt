use Rattle.std.proofs.Common.{[], ap, ◌∙◌}
use Rattle.std.specs.Prelude.{set}
use Rattle.gates.specs.inner.Spans.{list_at}
use Rattle.gates.proofs.Held.{first_without}
use Rattle.gates.proofs.values.Values.let_go.Goals as goal

pub returns : goal.returns
returns c =
    first_without (list_at c.let_go.new.self) (list_at c.self.inside.held) c.self.inside.count c.args.number c.let_go.ensures.own
    (λ j l apart. c.let_go.ensures.others j apart)
    ∙ ap (λ v. set v c.args.number []) c.self.view_is
