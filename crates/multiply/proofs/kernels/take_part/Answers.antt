use Rattle.std.proofs.Common.{◌∙◌}
use Rattle.multiply.proofs.Crossings.{minus_part}
use Rattle.multiply.proofs.kernels.take_part.Goals as goal

pub returns : goal.returns
returns g c = c.sub_into.ensures ∙ minus_part g.R.ShareRing.ring c.args.x.now c.args.words.now c.args.number c.requires
