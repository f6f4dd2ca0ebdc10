use Rattle.std.proofs.Common.{ap, ◌∙◌}
use Rattle.gates.specs.Held.{kept_only}
use Rattle.gates.specs.inner.Spans.{list_at}
use Rattle.gates.proofs.Held.{first_kept}
use Rattle.gates.proofs.values.Values.keep_only.Goals as goal

pub returns : goal.returns
returns c =
    first_kept c.args.numbers.now (list_at c.keep_only.new.self) (list_at c.self.inside.held) c.self.inside.count c.keep_only.ensures
    ∙ ap (kept_only c.args.numbers.now) c.self.view_is
