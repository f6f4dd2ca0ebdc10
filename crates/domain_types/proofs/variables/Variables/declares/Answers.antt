use Rattle.std.proofs.Common.{◌≡◌, Some, None, ap, ◌∙◌, sym}
use Rattle.domain_types.specs.Scopes.{is_among}
use Rattle.domain_types.specs.inner.Table.{latest_in, latest_first, block_count}
use Rattle.domain_types.proofs.Tables.{is_in_block, none_is_absent}
use Rattle.domain_types.proofs.variables.Variables.declares.Goals as goal

pub returns-in-Some : goal.returns-in-Some
returns-in-Some c =
    let x = c.args.name.now in
    let es = latest_first c.self.inside in
    let there : Some c.in-Some.latest.now ≡ latest_in x es = c.in-Some.ensures.value ∙ c.self.invariant.latest x in
    is_in_block x c.self.inside.outer es c.in-Some.latest.now (sym there) c.self.invariant.within
    ∙ ap (λ s. is_among x s.block) c.self.view_is

pub returns-in-None : goal.returns-in-None
returns-in-None c =
    let x = c.args.name.now in
    let es = latest_first c.self.inside in
    let there : latest_in x es ≡ None = sym (c.in-None.ensures.value ∙ c.self.invariant.latest x) in
    sym (none_is_absent x (block_count c.self.inside) es there)
    ∙ ap (λ s. is_among x s.block) c.self.view_is
