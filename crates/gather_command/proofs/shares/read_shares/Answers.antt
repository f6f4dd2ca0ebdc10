use Rattle.std.proofs.Common.{map, string_bytes, arith}
use Rattle.gather_command.specs.Gather.{shares_at}
use Rattle.gather_command.proofs.SharesRead.{given_stop, so_far-end, so_far-more, so_far-stop}
use Rattle.gather_command.proofs.shares.read_shares.Goals as goal

pub returns-in_err-read_share_file-clause-answer : goal.returns-in_err-read_share_file-clause-answer
returns-in_err-read_share_file-clause-answer g c =
    let f = g.F.Files.state c.args.files.now in
    let before = g.F.Files.state c.loop-path.files in
    let f' = g.F.Files.state c.read_share_file.new.files in
    given_stop (λ shares. shares.items) f f' c.from_residual-in_err-read_share_file.result _ (shares_at f.contents c.args.miner (map string_bytes c.args.paths.now))
    c.from_residual-in_err-read_share_file.ensures.1
    (so_far-stop f c.args.miner c.args.paths.now before f' c.loop-path.path-index c.path-item.result c.deref.result.now c.loop-path.shares.items
    c.loop-path-test.true c.path-item.is c.deref.ensures c.loop-path.invariant _ c.in_err-read_share_file.ensures.answer)

pub loop-path-preserved : goal.loop-path-preserved
loop-path-preserved g c =
    let f = g.F.Files.state c.args.files.now in
    let before = g.F.Files.state c.loop-path.files in
    let f' = g.F.Files.state c.read_share_file.new.files in
    so_far-more f c.args.miner c.args.paths.now before f' c.loop-path.path-index c.path-item.result c.deref.result.now c.loop-path.shares.items
    c.loop-path-test.true c.path-item.is c.deref.ensures c.loop-path.invariant c.in_ok-read_share_file.field-0 c.push.new.self.items
    c.in_ok-read_share_file.ensures.files c.in_ok-read_share_file.ensures.answer c.in_ok-read_share_file.ensures.form c.in_ok-push.ensures.items

pub returns-clause-answer : goal.returns-clause-answer
returns-clause-answer g c =
    so_far-end (g.F.Files.state c.args.files.now) c.args.miner c.args.paths.now (g.F.Files.state c.loop-path.files) c.loop-path.path-index
    c.loop-path.shares.items (omega (arith, c.loop-path-test.false)) c.loop-path.invariant
