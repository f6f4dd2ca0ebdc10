use Rattle.std.proofs.Common.{◌∙◌}
use Rattle.multiply.proofs.Crossings.{plus_part}
use Rattle.multiply.proofs.kernels.add_part.Goals as goal

pub returns : goal.returns
returns g c = c.add_into.ensures ∙ plus_part g.R.ShareRing.ring c.args.x.now c.args.words.now c.args.number c.requires
