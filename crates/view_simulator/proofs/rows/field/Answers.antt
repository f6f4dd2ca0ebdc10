use Rattle.view_simulator.proofs.RowPieces.{slice-is, slice-size}
use Rattle.view_simulator.proofs.rows.field.Goals as goal

pub returns-clause-part : goal.returns-clause-part
returns-clause-part c = slice-is c.args.n c.args.number c.args.words.now c.requires

pub returns-clause-len : goal.returns-clause-len
returns-clause-len c = slice-size c.args.n c.args.number c.args.words.now c.requires
