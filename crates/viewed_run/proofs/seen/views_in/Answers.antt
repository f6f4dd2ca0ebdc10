use Rattle.proto_core.specs.declared.party.Number.TheVariants.{One, Two, Three}
use Rattle.viewed_run.proofs.Sitting.{sees_in}
use Rattle.viewed_run.proofs.Viewed.{see_in}
use Rattle.viewed_run.proofs.seen.views_in.Goals as goal

pub returns : goal.returns
returns c = λ s is.
    let files = c.args.files.now in
    see_in s files _ (sees_in One s files.first c.first.result (c.first.ensures.sits s is) c.in_ok-one.one c.in_ok-one.ensures)
    (sees_in Two s files.second c.second.result (c.second.ensures.sits s is) c.in_ok-two.two c.in_ok-two.ensures)
    (sees_in Three s files.third c.third.result (c.third.ensures.sits s is) c.in_ok-three.three c.in_ok-three.ensures)
