use Rattle.std.proofs.Common.{refl}
use Rattle.counted_net.proofs.cursor.Cursor.send.Goals as goal

pub returns : goal.returns
returns c = record { place = refl; sends = c.add.ensures; leaves = λ l. refl }
