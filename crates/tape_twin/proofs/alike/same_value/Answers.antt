use Rattle.std.proofs.Common.{◌≡◌, rules}
use Rattle.std.specs.Bool.{Decides}
use Rattle.std.specs.Cmp.{booleans_Decides}
use Rattle.std.proofs.lemmas.Slice.Eq.{slice_eq-Decides}
use Rattle.tape_twin.proofs.alike.same_value.Goals as goal

pub returns-in-Truths-Truths : goal.returns-in-Truths-Truths
returns-in-Truths-Truths c =
    let told : Decides c.eq-in-Truths-Truths.result (c.as_slice-in-Truths-Truths.result.now ≡ c.as_slice-in-Truths-Truths-2.result.now) =
    slice_eq-Decides booleans_Decides _ _ c.eq-in-Truths-Truths.result c.eq-in-Truths-Truths.ensures in
    search (rules, told)
