use Rattle.std.proofs.Common.{[]}
use Rattle.miner_core.proofs.Miners.{made_so}
use Rattle.miner_core.proofs.miner.Miner.begun.Goals as goal

pub returns-clause-made : goal.returns-clause-made
returns-clause-made g c =
    let d = c.let_go_done.ensures in
    made_so g.P.Party.me c.args.task c.args.dealt c.args.first.items c.args.budget c.args.past (g.T.TapeSource.state c.args.tapes.now)
    (g.T.TapeSource.state c.run_on.new.tapes) c.in_ok-engine.engine c.run_on.new.self c.let_go_done.new.self c.in_ok-rest.rest c.words_left-ahead.result
    c.in_ok-engine.ensures.story c.in_ok-engine.ensures.leads c.in_ok-rest.ensures.runs d.lighter d.little d.same c.words_left-ahead.ensures

pub invariant_of-result : goal.invariant_of-result
invariant_of-result g c =
    let d = c.let_go_done.ensures in
    let made =
    made_so g.P.Party.me c.args.task c.args.dealt c.args.first.items c.args.budget c.args.past (g.T.TapeSource.state c.args.tapes.now)
    (g.T.TapeSource.state c.run_on.new.tapes) c.in_ok-engine.engine c.run_on.new.self c.let_go_done.new.self c.in_ok-rest.rest c.words_left-ahead.result
    c.in_ok-engine.ensures.story c.in_ok-engine.ensures.leads c.in_ok-rest.ensures.runs d.lighter d.little d.same c.words_left-ahead.ensures in
    (record { stream = made.stream; to_next = 0; to_previous = 0 }, made.is)

pub run_on-requires : goal.run_on-requires
run_on-requires g c =
    let leads = c.in_ok-engine.ensures.leads in
    record { sound = record { stands = (leads []).sound.stands; quiet = λ more. (leads more).sound.quiet } }
