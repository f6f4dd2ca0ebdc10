use Rattle.std.proofs.lemmas.Result.{err_from_is_err_and}
use Rattle.wire.specs.Frames.{frame_bytes}
use Rattle.miner_node.proofs.SentFrames.{sends_nothing}
use Rattle.miner_node.proofs.sending.send_frame.Goals as goal

pub returns-in_err-frame_words : goal.returns-in_err-frame_words
returns-in_err-frame_words g c =
    let p = err_from_is_err_and c.from_residual.result c.from_residual.ensures.1 in
    rw (p.1, p.2) (sends_nothing (g.L.Links.state c.args.links.now) c.args.peer (frame_bytes c.args.words.now))
