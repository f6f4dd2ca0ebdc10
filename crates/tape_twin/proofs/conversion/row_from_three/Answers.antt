use Rattle.std.proofs.Common.{length}
use Rattle.proto_core.proofs.Parts.{length-part}
use Rattle.tape_twin.proofs.conversion.row_from_three.Goals as goal

pub returns-clause-row : goal.returns-clause-row
returns-clause-row c =
    cc (length-part (length c.args.first.now) 0 c.args.words.now, length-part (length c.args.first.now) 1 c.args.words.now)
