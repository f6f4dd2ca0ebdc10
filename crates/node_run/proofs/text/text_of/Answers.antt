use Rattle.std.proofs.Common.{◌∙◌, ap}
use Rattle.miner_text.specs.Lines.{text_of}
use Rattle.node_run.specs.Told.{lines_told}
use Rattle.node_run.proofs.Joins.{if_ok_so}
use Rattle.node_run.proofs.text.text_of.Goals as goal

pub returns : goal.returns
returns g c =
    if_ok_so c.told_text.result _ _
    (λ text is.
    record {
      states = λ w of going tape may. is ∙ ap (λ told. text_of (lines_told told c.args.end)) (c.notices.ensures.states w of going tape may);
      kept = λ keeps going tape may. is ∙ ap (λ told. text_of (lines_told told c.args.end)) (c.notices.ensures.kept keeps going tape may);
    })
    c.told_text.ensures
