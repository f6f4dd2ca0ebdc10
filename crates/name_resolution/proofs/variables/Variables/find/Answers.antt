use Rattle.std.proofs.Common.{◌≡◌, Some, None, ap, ◌∙◌, sym}
use Rattle.std.specs.Prelude.{option_map}
use Rattle.name_resolution.specs.Scopes.{known_of, variable_in, variable_named}
use Rattle.name_resolution.specs.inner.Table.{latest_in, latest_first, block_count}
use Rattle.name_resolution.proofs.Tables.{whole, known_of_latest, latest_is_meant}
use Rattle.name_resolution.proofs.variables.Variables.find.Goals as goal

pub returns-in-Some : goal.returns-in-Some
returns-in-Some c =
    let x = c.args.name.now in
    let es = latest_first c.self.inside in
    let there : Some c.in-Some.latest.now ≡ latest_in x es = c.in-Some.ensures.value ∙ c.self.invariant.latest x in
    ap (option_map known_of_latest) there
    ∙ latest_is_meant x es
    ∙ ap (λ vs. option_map known_of (variable_in x vs)) (sym (whole (block_count c.self.inside) es))
    ∙ ap (λ s. option_map known_of (variable_named s x)) c.self.view_is

pub returns-in-None : goal.returns-in-None
returns-in-None c =
    let x = c.args.name.now in
    let es = latest_first c.self.inside in
    let there : latest_in x es ≡ None = sym (c.in-None.ensures.value ∙ c.self.invariant.latest x) in
    ap (option_map known_of_latest) (sym there)
    ∙ latest_is_meant x es
    ∙ ap (λ vs. option_map known_of (variable_in x vs)) (sym (whole (block_count c.self.inside) es))
    ∙ ap (λ s. option_map known_of (variable_named s x)) c.self.view_is
