use Rattle.input_share.proofs.ShapeLaws.{shapes_of-dealt}
use Rattle.input_share.proofs.shapes.dealing_keeps_shapes.Goals as goal

pub returns : goal.returns
returns c = shapes_of-dealt
