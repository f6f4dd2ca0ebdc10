use Rattle.std.proofs.Common.{rules, ◌∙◌}
use Rattle.multiply.proofs.Crossings.{products_added}
use Rattle.multiply.proofs.kernels.add_some_crossed.Goals as goal

pub returns : goal.returns
returns g c =
    c.add_into.ensures
    ∙ products_added g.R.ShareRing.laws _ c.args.share.now c.args.u.now c.args.v.now c.args.up.now c.args.vp.now c.cross_into.new.w
    c.cross_into.ensures (search rules)
