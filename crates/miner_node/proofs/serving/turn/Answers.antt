use Rattle.std.proofs.Common.{◌≡◌, ◌∙◌, ap, subst, Ok}
use Rattle.std.proofs.lemmas.Result.{err_from_is_err_and}
use Rattle.miner_core.specs.Miners.{held}
use Rattle.miner_core.specs.declared.answer.End.TheVariants as end
use Rattle.miner_core.specs.declared.answer.Step.TheVariants as step
use Rattle.miner_core.specs.Story.{IsAnswer}
use Rattle.miner_core.specs.Streams.{with_tape, ForEachTape}
use Rattle.miner_node.proofs.Along.{along_here, along_as}
use Rattle.miner_node.proofs.Rounds.{turn_unsent, turn_untaken, turn_taken, turn_ended, turn_without_memory}
use Rattle.miner_node.proofs.serving.turn.Goals as goal

pub returns-in_err-send_new : goal.returns-in_err-send_new
returns-in_err-send_new g c =
    let i = g.P.Party.me in
    let m = held c.args.miner.now in
    let b = g.L.Links.state c.args.links.now in
    let d = g.L.Links.state c.send_new.new.links in
    let sends = c.in_err-send_new.ensures c.requires.going in
    let p = err_from_is_err_and c.from_residual.result c.from_residual.ensures.1 in
    rw (p.1, p.2)
    (along_here i m (g.T.TapeSource.state c.args.tapes.now) _ _ c.requires.going c.requires.left
    (λ tape of start first held. turn_unsent i start first b d (with_tape m tape) c.args.counts.now c.send_new.new.counts held
    c.in_err-send_new.field-0.0 (sends tape of)))

pub take_message-requires-clause-awaited : goal.take_message-requires-clause-awaited
take_message-requires-clause-awaited g c =
    let i = g.P.Party.me in
    subst (λ r. ForEachTape (held c.args.miner.now) (λ s. IsAnswer i s r)) (c.in-Ok-Waits.is ∙ ap Ok c.in-Ok-Waits.field-0-is)
    (c.stands.ensures.stands.kept c.requires.kept)

pub returns-in_err-take_message-in-Ok-Waits : goal.returns-in_err-take_message-in-Ok-Waits
returns-in_err-take_message-in-Ok-Waits g c =
    let i = g.P.Party.me in
    let m = held c.args.miner.now in
    let n = held c.take_message.new.miner in
    let b = g.L.Links.state c.args.links.now in
    let d = g.L.Links.state c.send_new.new.links in
    let f = g.L.Links.state c.take_message.new.links in
    let l = c.in-Ok-Waits.link in
    let sends = c.in_ok-send_new.ensures c.requires.going in
    let awaits = subst (λ r. ForEachTape m (λ s. IsAnswer i s r)) (c.in-Ok-Waits.is ∙ ap Ok c.in-Ok-Waits.field-0-is)
    (c.stands.ensures.stands.kept c.requires.kept) c.requires.going in
    let p = err_from_is_err_and c.from_residual-in_err-take_message-in-Ok-Waits.result c.from_residual-in_err-take_message-in-Ok-Waits.ensures.1 in
    rw (p.1, p.2)
    (along_as i m n (g.T.TapeSource.state c.args.tapes.now) (g.T.TapeSource.state c.take_message.new.tapes) _ _ _ _ c.in_err-take_message-in-Ok-Waits.ensures
    c.requires.left
    (λ tape of q start first held.
    turn_untaken i start first b d (with_tape m tape) c.args.counts.now c.send_new.new.counts held c.in_ok-send_new.field-0 (sends tape of) l (awaits tape of)
    (with_tape n tape) f c.in_err-take_message-in-Ok-Waits.field-0.0 q)
    (λ taken k. k))

pub returns-in_ok-take_message-in-Ok-Waits : goal.returns-in_ok-take_message-in-Ok-Waits
returns-in_ok-take_message-in-Ok-Waits g c =
    let i = g.P.Party.me in
    let m = held c.args.miner.now in
    let n = held c.take_message.new.miner in
    let b = g.L.Links.state c.args.links.now in
    let d = g.L.Links.state c.send_new.new.links in
    let f = g.L.Links.state c.take_message.new.links in
    let l = c.in-Ok-Waits.link in
    let sends = c.in_ok-send_new.ensures c.requires.going in
    let awaits = subst (λ r. ForEachTape m (λ s. IsAnswer i s r)) (c.in-Ok-Waits.is ∙ ap Ok c.in-Ok-Waits.field-0-is)
    (c.stands.ensures.stands.kept c.requires.kept) c.requires.going in
    along_as i m n (g.T.TapeSource.state c.args.tapes.now) (g.T.TapeSource.state c.take_message.new.tapes) _ _ _ _ c.in_ok-take_message-in-Ok-Waits.ensures
    c.requires.left
    (λ tape of q start first held.
    turn_taken i start first b d (with_tape m tape) c.args.counts.now c.send_new.new.counts held c.in_ok-send_new.field-0 (sends tape of) l (awaits tape of)
    (with_tape n tape) f c.in_ok-take_message-in-Ok-Waits.field-0 q)
    (λ taken k. k)

pub returns-in-Err : goal.returns-in-Err
returns-in-Err g c =
    let i = g.P.Party.me in
    let m = held c.args.miner.now in
    let b = g.L.Links.state c.args.links.now in
    let d = g.L.Links.state c.send_new.new.links in
    let sends = c.in_ok-send_new.ensures c.requires.going in
    along_here i m (g.T.TapeSource.state c.args.tapes.now) _ _ c.requires.going c.requires.left
    (λ tape of start first held.
    turn_without_memory i start first b d (with_tape m tape) c.args.counts.now c.send_new.new.counts held c.in_ok-send_new.field-0 (sends tape of))

pub returns-in-Ok-Ended-Over : goal.returns-in-Ok-Ended-Over
returns-in-Ok-Ended-Over g c =
    let i = g.P.Party.me in
    let m = held c.args.miner.now in
    let b = g.L.Links.state c.args.links.now in
    let d = g.L.Links.state c.send_new.new.links in
    let ending = c.in-Ok-Ended-Over.ending in
    let sends = c.in_ok-send_new.ensures c.requires.going in
    let is : c.stands.result ≡ Ok (step.Ended (end.Over ending)) = cc in
    let ended = subst (λ r. ForEachTape m (λ s. IsAnswer i s r)) is (c.stands.ensures.stands.kept c.requires.kept) c.requires.going in
    along_here i m (g.T.TapeSource.state c.args.tapes.now) _ _ c.requires.going c.requires.left
    (λ tape of start first held.
    turn_ended i start first b d (with_tape m tape) c.args.counts.now c.send_new.new.counts held c.in_ok-send_new.field-0 (sends tape of) ending
    (ended tape of))

pub returns-in-Ok-Ended : goal.returns-in-Ok-Ended
returns-in-Ok-Ended g c =
    let i = g.P.Party.me in
    let m = held c.args.miner.now in
    let b = g.L.Links.state c.args.links.now in
    let d = g.L.Links.state c.send_new.new.links in
    let sends = c.in_ok-send_new.ensures c.requires.going in
    along_here i m (g.T.TapeSource.state c.args.tapes.now) _ _ c.requires.going c.requires.left
    (λ tape of start first held.
    turn_without_memory i start first b d (with_tape m tape) c.args.counts.now c.send_new.new.counts held c.in_ok-send_new.field-0 (sends tape of))
