use Rattle.std.proofs.Common.{refl}
use Rattle.protocol_model.specs.Network.{one_more}
use Rattle.counted_net.proofs.Settling.{came_behind}
use Rattle.counted_net.proofs.cursor.Cursor.receive.Goals as goal

pub go_on-requires : goal.go_on-requires
go_on-requires c = record { within = c.requires.placed.within; few = c.requires.placed.few }

pub returns : goal.returns
returns c =
    λ got h.
    c.go_on.ensures (one_more c.args.link got)
    (came_behind c.args.script.now c.args.self.now _ c.args.link got refl (λ l. refl) c.add.ensures h.behind)
