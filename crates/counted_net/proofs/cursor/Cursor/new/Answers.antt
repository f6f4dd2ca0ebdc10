use Rattle.std.proofs.Common.{refl, arith}
use Rattle.protocol_model.specs.Network.{none_delivered}
use Rattle.counted_net.proofs.Settling.{first_behind}
use Rattle.counted_net.proofs.cursor.Cursor.new.Goals as goal

pub go_on-requires : goal.go_on-requires
go_on-requires c = record { within = omega arith; few = λ l. let e = c.new.ensures l in omega arith }

pub returns : goal.returns
returns c = c.go_on.ensures none_delivered (first_behind c.args.script.now _ refl c.new.ensures c.new-2.ensures)
