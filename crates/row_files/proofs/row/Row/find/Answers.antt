use Rattle.std.proofs.Common.{◌&&◌, rules, tests}
use Rattle.std.proofs.lemmas.Iterator.Adapters.{YieldsList-from_rev_slice}
use Rattle.std.proofs.lemmas.Iterator.Search.{find_from_yields_List}
use Rattle.row_files.proofs.Numbers.{sameb-kind}
use Rattle.row_files.proofs.row.Row.find.Goals as goal
use Rattle.row_files.specs.Texts.{has_name, same_kind}

pub returns : goal.returns
returns c = find_from_yields_List (λ text. same_kind text.kind c.args.kind && has_name c.args.name.now text) _ _ c.find.result
    c.find.ensures.ran
    (YieldsList-from_rev_slice c.args.self.now.texts.items cc)
    (λ x b q k. search (rules, tests, sameb-kind))
