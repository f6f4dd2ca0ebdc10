use Rattle.std.proofs.lemmas.Result.{err_from_is_err_and}
use Rattle.proto_core.specs.Parties.{count_of}
use Rattle.wire.specs.Hellos.{hello_bytes}
use Rattle.miner_node.specs.Serving.{hello_to}
use Rattle.miner_node.proofs.SentFrames.{sends_nothing}
use Rattle.miner_node.proofs.greeting.say_hello.Goals as goal

pub returns-in_err-hello : goal.returns-in_err-hello
returns-in_err-hello g c =
    let p = err_from_is_err_and c.from_residual.result c.from_residual.ensures.1 in
    rw (p.1, p.2)
    (sends_nothing (g.L.Links.state c.args.links.now) (count_of c.args.peer) (hello_bytes (hello_to c.args.hello.now c.args.peer)))
