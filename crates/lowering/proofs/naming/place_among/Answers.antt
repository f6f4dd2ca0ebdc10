use Rattle.std.proofs.Common.{sym, ap, ◌∙◌}
use Rattle.code_model.specs.Instructions.{place_among}
use Rattle.lowering.specs.inner.Naming.{texts}
use Rattle.lowering.proofs.Noting.{place_found, place_missing}
use Rattle.lowering.proofs.naming.place_among.Goals as goal

pub returns-in-Some : goal.returns-in-Some
returns-in-Some c =
    place_found c.as_str.result.now (λ k. k.now) c.args.names.now.places.keys c.in-Some.place (sym c.get_index_of.ensures.index ∙ c.in-Some.is)
    ∙ ap (λ text. place_among text (texts c.args.names.now)) c.as_str.ensures.value

pub returns-in-None : goal.returns-in-None
returns-in-None c =
    c.len.ensures.len
    ∙ place_missing c.as_str.result.now (λ k. k.now) c.args.names.now.places.keys (sym c.get_index_of.ensures.index ∙ c.in-None.is)
    ∙ ap (λ text. place_among text (texts c.args.names.now)) c.as_str.ensures.value
