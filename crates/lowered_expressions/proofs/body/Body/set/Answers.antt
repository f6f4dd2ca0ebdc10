use Rattle.std.proofs.Common.{ap}
use Rattle.std.proofs.lemmas.List.{map-set}
use Rattle.lowered_expressions.specs.declared.step.BodyPiece.TheVariants.{Whole}
use Rattle.lowered_expressions.specs.Views.{piece_seen}
use Rattle.lowered_expressions.proofs.Building.{body_of}
use Rattle.lowered_expressions.proofs.body.Body.set.Goals as goal

pub returns : goal.returns
returns c = ap body_of (map-set piece_seen c.args.self.now.pieces.items c.args.place (Whole c.args.step))
