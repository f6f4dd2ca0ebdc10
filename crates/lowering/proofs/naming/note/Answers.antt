use Rattle.lowering.proofs.Noting.{noted_new, noted_old}
use Rattle.lowering.proofs.naming.note.Goals as goal

pub returns-in_ok-push-in-Ok : goal.returns-in_ok-push-in-Ok
returns-in_ok-push-in-Ok c =
    noted_new (λ k. k.now) c.args.names.now.places.keys c.insert.new.self.keys c.as_str.result c.in-Ok.new c.args.text.now c.args.names.now.list.items
    c.push.new.list.items c.in_ok-copy-in-Ok.field-0 c.in-Ok.ensures.added c.in-Ok.ensures.keys c.if-new.true c.as_str.ensures.value
    c.in_ok-copy-in-Ok.ensures c.in_ok-push-in-Ok.ensures

pub returns-else-new : goal.returns-else-new
returns-else-new c =
    noted_old (λ k. k.now) c.args.names.now.places.keys c.insert.new.self.keys c.as_str.result c.in-Ok.new c.args.text.now c.args.names.now.list.items
    c.in-Ok.ensures.added c.in-Ok.ensures.keys c.if-new.false c.as_str.ensures.value
