use Rattle.std.proofs.Common.{rules, ◌≡◌, ◌∙◌, ℕ, length, sym, ap}
use Rattle.std.proofs.lemmas.Result.{err_from_is_err_and}
use Rattle.miner_node.proofs.Greetings.{hears_nothing, hears_no_hello, hears_other, hears_so}
use Rattle.miner_node.proofs.greeting.hear_hello.Goals as goal

pub returns-in_err-recv_all : goal.returns-in_err-recv_all
returns-in_err-recv_all g c =
    let state = g.L.Links.state in
    let p = err_from_is_err_and c.from_residual.result c.from_residual.ensures.1 in
    let size : length c.recv_all.new.into ≡ 68 = search rules in
    rw (p.1, p.2)
    (hears_nothing c.args.hello.now c.args.peer (state c.args.links.now) (state c.recv_all.new.links) c.as_u8-number.result c.as_u8-number.ensures
    c.recv_all.new.into size c.in_err-recv_all.field-0.0 c.in_err-recv_all.ensures)

pub returns-in_err-theirs : goal.returns-in_err-theirs
returns-in_err-theirs g c =
    let state = g.L.Links.state in
    let p = err_from_is_err_and c.from_residual-in_err-theirs.result c.from_residual-in_err-theirs.ensures.1 in
    let size : length c.recv_all.new.into ≡ 68 = search rules in
    rw (p.1, p.2)
    (hears_no_hello c.args.hello.now c.args.peer (state c.args.links.now) (state c.recv_all.new.links) c.as_u8-number.result c.as_u8-number.ensures
    c.recv_all.new.into size c.in_ok-recv_all.field-0 c.in_ok-recv_all.ensures c.in_err-theirs.field-0.0 (sym c.in_err-theirs.ensures.reads))

pub returns-in-None : goal.returns-in-None
returns-in-None g c =
    let state = g.L.Links.state in
    let size : length c.recv_all.new.into ≡ 68 = search rules in
    hears_so c.args.hello.now c.args.peer (state c.args.links.now) (state c.recv_all.new.links) c.as_u8-number.result c.as_u8-number.ensures
    c.recv_all.new.into size c.in_ok-recv_all.field-0 c.in_ok-recv_all.ensures c.in_ok-theirs.theirs (sym c.in_ok-theirs.ensures.reads)
    c.from_peer-mine.result
    (c.from_peer-mine.ensures ∙ ap (λ (k : ℕ). record c.args.hello.now { sender = k; receiver = c.args.hello.now.sender }) c.as_u8-number.ensures)
    _ (sym c.mismatch.ensures.first ∙ c.in-None.is)

pub returns-in-Some : goal.returns-in-Some
returns-in-Some g c =
    let state = g.L.Links.state in
    let size : length c.recv_all.new.into ≡ 68 = search rules in
    hears_other c.args.hello.now c.args.peer (state c.args.links.now) (state c.recv_all.new.links) c.as_u8-number.result c.as_u8-number.ensures
    c.recv_all.new.into size c.in_ok-recv_all.field-0 c.in_ok-recv_all.ensures c.in_ok-theirs.theirs (sym c.in_ok-theirs.ensures.reads)
    c.from_peer-mine.result
    (c.from_peer-mine.ensures ∙ ap (λ (k : ℕ). record c.args.hello.now { sender = k; receiver = c.args.hello.now.sender }) c.as_u8-number.ensures)
    c.in-Some.field (sym c.mismatch.ensures.first ∙ c.in-Some.is)
