use Rattle.std.proofs.Common.{◌&&◌, Bool, ap, ap₂, string_bytes, sym, ◌∙◌, rules, tests}
use Rattle.std.specs.List.{list_all}
use Rattle.std.proofs.lemmas.Iterator.{YieldsList-from_slice}
use Rattle.std.proofs.lemmas.Iterator.Search.{all_from_yields_List}
use Rattle.std.proofs.lemmas.List.Folds.{list_all-map}
use Rattle.row_faults.proofs.Made.{made_call}
use Rattle.row_faults.proofs.faulted.all_fit.Goals as goal
use Rattle.row_faults.specs.Faulted.{fits_then}

pub returns : goal.returns
returns c =
    let fits = fits_then c.args.row.now c.args.good.now c.args.made c.args.found.now in
    ap₂ (λ (x y : Bool). x && y)
    (all_from_yields_List (λ text. fits (string_bytes text.name)) _ _ c.all-texts_fit.result
    c.all-texts_fit.ensures.ran
    (YieldsList-from_slice c.args.row.now.texts.items cc)
    (λ x b q k. search (rules, tests)))
    (all_from_yields_List (λ call. fits (string_bytes call.path)) _ _ c.all.result
    c.all.ensures.ran
    (YieldsList-from_slice c.log.result.now cc)
    (λ x b q k. search (rules, tests))
    ∙ sym (list_all-map (λ call. fits call.1) made_call c.log.result.now)
    ∙ ap (list_all (λ call. fits call.1)) c.log.ensures)
