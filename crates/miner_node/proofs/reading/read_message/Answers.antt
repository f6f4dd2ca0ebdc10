use Rattle.std.proofs.Common.{rules, ◌≡◌, ◌*◌, length, sym}
use Rattle.std.proofs.lemmas.Result.{err_from_is_err_and}
use Rattle.miner_node.proofs.FrameReading.{reads_no_header, reads_bad, reads_no_words, reads_so}
use Rattle.miner_node.proofs.reading.read_message.Goals as goal

pub returns-in_err-recv_all : goal.returns-in_err-recv_all
returns-in_err-recv_all g c =
    let state = g.L.Links.state in
    let p = err_from_is_err_and c.from_residual.result c.from_residual.ensures.1 in
    let five : length c.recv_all.new.into ≡ 5 = search rules in
    rw (p.1, p.2)
    (reads_no_header (state c.args.links.now) (state c.recv_all.new.links) c.args.peer c.recv_all.new.into five c.in_err-recv_all.field-0.0
    c.in_err-recv_all.ensures)

pub returns-in_err-count : goal.returns-in_err-count
returns-in_err-count g c =
    let state = g.L.Links.state in
    let p = err_from_is_err_and c.from_residual-in_err-count.result c.from_residual-in_err-count.ensures.1 in
    let five : length c.recv_all.new.into ≡ 5 = search rules in
    rw (p.1, p.2)
    (reads_bad (state c.args.links.now) (state c.recv_all.new.links) c.args.peer c.recv_all.new.into five c.in_ok-recv_all.field-0
    c.in_ok-recv_all.ensures c.in_err-count.field-0.0 (sym c.in_err-count.ensures.reads))

pub returns-in_err-recv_all-2 : goal.returns-in_err-recv_all-2
returns-in_err-recv_all-2 g c =
    let state = g.L.Links.state in
    let p = err_from_is_err_and c.from_residual-in_err-recv_all-2.result c.from_residual-in_err-recv_all-2.ensures.1 in
    let five : length c.recv_all.new.into ≡ 5 = search rules in
    let size : length c.recv_all-2.new.into ≡ 8 * c.in_ok-count.count = search rules in
    rw (p.1, p.2)
    (reads_no_words (state c.args.links.now) (state c.recv_all.new.links) c.args.peer c.recv_all.new.into five c.in_ok-recv_all.field-0
    c.in_ok-recv_all.ensures (state c.recv_all-2.new.links) c.in_ok-count.count (sym c.in_ok-count.ensures.reads) c.recv_all-2.new.into size
    c.in_err-recv_all-2.field-0.0 c.in_err-recv_all-2.ensures)

pub returns : goal.returns
returns g c =
    let state = g.L.Links.state in
    let five : length c.recv_all.new.into ≡ 5 = search rules in
    let size : length c.recv_all-2.new.into ≡ 8 * c.in_ok-count.count = search rules in
    reads_so (state c.args.links.now) (state c.recv_all.new.links) c.args.peer c.recv_all.new.into five c.in_ok-recv_all.field-0
    c.in_ok-recv_all.ensures (state c.recv_all-2.new.links) c.in_ok-count.count (sym c.in_ok-count.ensures.reads) c.recv_all-2.new.into size
    c.in_ok-recv_all-2.field-0 c.read_words.result c.read_words.ensures c.in_ok-recv_all-2.ensures
