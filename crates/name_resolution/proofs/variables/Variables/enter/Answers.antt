use Rattle.std.proofs.Common.{◌≡◌, ◌-◌, length, arith, ap, ◌∙◌}
use Rattle.std.proofs.lemmas.List.{length-reverse}
use Rattle.name_resolution.specs.Scopes.{inner}
use Rattle.name_resolution.specs.inner.Table.{latest_first, block_count, scope_at}
use Rattle.name_resolution.proofs.Tables.{inner_is}
use Rattle.name_resolution.proofs.variables.Variables.enter.Goals as goal

pub returns-clause-inner : goal.returns-clause-inner
returns-clause-inner c =
    let es = latest_first c.self.inside in
    let count = length-reverse c.self.inside.entries.items in
    let none : length es - c.len-self-inside.result ≡ 0 = omega arith in
    ap (λ n. scope_at n es) none ∙ inner_is (block_count c.self.inside) es ∙ ap inner c.self.view_is
