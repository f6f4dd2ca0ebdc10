use Rattle.std.proofs.Common.{subst}
use Rattle.protocol_model.specs.Network.{Default, Shuffled}
use Rattle.tape_file.specs.Seeds.{stream_word}
use Rattle.link_schedule.specs.Answers.{RunAnswers}
use Rattle.link_schedule.specs.Miners.{GoesAlong}
use Rattle.link_schedule.specs.Streams.{run_lost}
use Rattle.delivered_run.proofs.Netting.{on_made, on_schedule}
use Rattle.delivered_run.proofs.net.deliver_all.Goals as goal

pub returns-in-InTurn : goal.returns-in-InTurn
returns-in-InTurn g c = λ s is going left.
    let state = g.T.TapeSource.state in
    rw (c.in-InTurn.is, c.made.ensures)
    (on_made s c.drain.new.self (state c.args.tapes.now) (state c.drain.new.tapes) (λ k. 0) Default c.drain.result (λ x y h. h)
    (c.drain.ensures.made s is going left))

pub returns-in-Scheduled : goal.returns-in-Scheduled
returns-in-Scheduled g c = λ s is going left.
    let state = g.T.TapeSource.state in
    rw (c.in-Scheduled.is, c.scheduled.ensures)
    (on_schedule s c.run.new.self (state c.args.tapes.now) (state c.run.new.tapes) c.in-Scheduled.links.items c.run.result
    (subst (λ w. GoesAlong s c.run.new.self (state c.args.tapes.now) (state c.run.new.tapes) (run_lost c.run.result)
    (λ x y. RunAnswers x y w c.run.result)) c.deref.ensures.value (c.run.ensures.answers s is going left)))

pub returns-in-Shuffled : goal.returns-in-Shuffled
returns-in-Shuffled g c = λ s is going left.
    let state = g.T.TapeSource.state in
    rw (c.in-Shuffled.is, c.made-in-Shuffled.ensures)
    (on_made s c.shuffled.new.self (state c.args.tapes.now) (state c.shuffled.new.tapes) (stream_word c.in-Shuffled.seed 4)
    (Shuffled (stream_word c.in-Shuffled.seed 4)) c.shuffled.result (λ x y h. h) (c.shuffled.ensures.made s is going left))
