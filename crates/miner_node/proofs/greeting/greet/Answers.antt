use Rattle.std.proofs.lemmas.Result.{err_from_is_err_and}
use Rattle.miner_node.proofs.Greetings.{greets_not_next, greets_not_previous, greets_not_lower, greets_so}
use Rattle.miner_node.proofs.greeting.greet.Goals as goal

pub returns-in_err-say_hello : goal.returns-in_err-say_hello
returns-in_err-say_hello g c =
    let state = g.L.Links.state in
    let p = err_from_is_err_and c.from_residual.result c.from_residual.ensures.1 in
    rw (p.1, p.2)
    (greets_not_next c.args.me c.args.hello.now (state c.args.links.now) (state c.say_hello.new.links) c.in_err-say_hello.field-0.0
    (rw c.next.ensures at c.in_err-say_hello.ensures))

pub returns-in_err-say_hello-2 : goal.returns-in_err-say_hello-2
returns-in_err-say_hello-2 g c =
    let state = g.L.Links.state in
    let p = err_from_is_err_and c.from_residual-in_err-say_hello-2.result c.from_residual-in_err-say_hello-2.ensures.1 in
    rw (p.1, p.2)
    (greets_not_previous c.args.me c.args.hello.now (state c.args.links.now) (state c.say_hello.new.links) (state c.say_hello-2.new.links)
    c.in_ok-say_hello.field-0 (rw c.next.ensures at c.in_ok-say_hello.ensures) c.in_err-say_hello-2.field-0.0
    (rw c.previous.ensures at c.in_err-say_hello-2.ensures))

pub returns-in_err-hear_hello : goal.returns-in_err-hear_hello
returns-in_err-hear_hello g c =
    let state = g.L.Links.state in
    let p = err_from_is_err_and c.from_residual-in_err-hear_hello.result c.from_residual-in_err-hear_hello.ensures.1 in
    rw (p.1, p.2)
    (greets_not_lower c.args.me c.args.hello.now (state c.args.links.now) (state c.say_hello.new.links) (state c.say_hello-2.new.links)
    c.in_ok-say_hello.field-0 (rw c.next.ensures at c.in_ok-say_hello.ensures) (state c.hear_hello.new.links) c.in_ok-say_hello-2.field-0
    (rw c.previous.ensures at c.in_ok-say_hello-2.ensures) c.in_err-hear_hello.field-0.0 (rw c.lower.ensures at c.in_err-hear_hello.ensures))

pub returns : goal.returns
returns g c =
    let state = g.L.Links.state in
    greets_so c.args.me c.args.hello.now (state c.args.links.now) (state c.say_hello.new.links) (state c.say_hello-2.new.links)
    c.in_ok-say_hello.field-0 (rw c.next.ensures at c.in_ok-say_hello.ensures) (state c.hear_hello.new.links) c.in_ok-say_hello-2.field-0
    (rw c.previous.ensures at c.in_ok-say_hello-2.ensures) (state c.hear_hello-2.new.links) c.in_ok-hear_hello.field-0
    (rw c.lower.ensures at c.in_ok-hear_hello.ensures) c.hear_hello-2.result (rw c.higher.ensures at c.hear_hello-2.ensures)
