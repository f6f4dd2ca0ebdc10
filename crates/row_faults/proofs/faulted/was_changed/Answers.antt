use Rattle.std.proofs.Common.{◌∙◌, rules, tests}
use Rattle.std.proofs.lemmas.Iterator.{YieldsList-from_slice, YieldsList-from_take}
use Rattle.std.proofs.lemmas.Iterator.Search.{any_from_yields_List}
use Rattle.row_faults.proofs.Made.{changed_front, made_call}
use Rattle.row_faults.proofs.faulted.was_changed.Goals as goal
use Rattle.row_faults.specs.Faulted.{changes_it}

pub returns : goal.returns
returns c =
    any_from_yields_List (λ call. changes_it c.args.path.now (made_call call)) _ _ c.any.result
    c.any.ensures.ran
    (YieldsList-from_take c.args.made (YieldsList-from_slice c.args.calls.now cc) cc)
    (λ x b q k. search (rules, tests))
    ∙ changed_front c.args.made c.args.calls.now c.args.path.now
