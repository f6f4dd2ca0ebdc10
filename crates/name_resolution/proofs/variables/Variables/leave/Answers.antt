use Rattle.std.proofs.Common.{◌≡◌, ◌≤◌, length, arith, ap, ◌∙◌, sym, subst}
use Rattle.std.specs.Prelude.{map}
use Rattle.name_resolution.specs.inner.Table.{variable_of, latest_first, block_count, scope_at}
use Rattle.name_resolution.proofs.Tables.{block_empty, leaving_is}
use Rattle.name_resolution.proofs.variables.Variables.leave.Goals as goal

pub returns : goal.returns
returns c =
    let es = latest_first c.self.inside in
    let short : length c.loop-self.self.block ≤ 0 = omega (arith, c.block_len.ensures) in
    let none : block_count c.self.inside ≡ 0 =
    block_empty (block_count c.self.inside) es (subst (λ s. length s.block ≤ 0) (sym c.self.view_is) short) (omega arith) in
    let outer : c.args.self.now.outer ≡ map variable_of es = sym c.loop-self.invariant ∙ ap (λ s. s.outer) (sym c.self.view_is)
    ∙ ap (λ n. (scope_at n es).outer) none in
    leaving_is c.args.outer es c.args.self.now outer
