use Rattle.std.proofs.Common.{◌≡◌, ◌-◌, length, arith, ap, ◌∙◌}
use Rattle.std.proofs.lemmas.List.{length-reverse}
use Rattle.domain_types.specs.Scopes.{inner}
use Rattle.domain_types.specs.inner.Table.{latest_first, block_count, scope_at}
use Rattle.domain_types.proofs.Tables.{inner_is}
use Rattle.domain_types.proofs.variables.Variables.enter.Goals as goal

pub returns-clause-inner : goal.returns-clause-inner
returns-clause-inner c =
    let es = latest_first c.self.inside in
    let count = length-reverse c.self.inside.entries.items in
    let none : length es - c.len-self-inside.result ≡ 0 = omega arith in
    ap (λ n. scope_at n es) none ∙ inner_is (block_count c.self.inside) es ∙ ap inner c.self.view_is
