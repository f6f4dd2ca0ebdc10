use Rattle.std.proofs.Common.{refl}
use Rattle.command_words.specs.Views.{texts}
use Rattle.run_engine.proofs.Calls.{call_kept}
use Rattle.command_words.specs.Ask.{miner, trio}
use Rattle.run_engine.proofs.Kept.{headline_kept}
use Rattle.run_engine.proofs.Moved.{miner_sends}
use Rattle.run_engine.proofs.TrioKept.{trio_started}
use Rattle.trio_command.proofs.Launches.{may_launch}
use Rattle.run_engine.proofs.top.secrec.Goals as goal

pub returns-clause-call : goal.returns-clause-call
returns-clause-call g c =
    rw c.ended_status.ensures (call_kept (texts c.args.words.now) _ _ c.act-ended.result (c.act-ended.ensures.acted _ _) c.say.ensures.said)

pub returns-clause-deeds : goal.returns-clause-deeds
returns-clause-deeds g c =
    let did = c.act-ended.ensures.acted (g.E.Sink.state c.args.err.now) (g.E.Sink.state c.say.new.err) in
    rw c.ended_status.ensures
    (record {
      loads = did.loads;
      miner_sends = λ ask asks told. let moved = did.moves (miner ask) asks (told.files, told.links refl) in miner_sends ask _ _ _ c.act-ended.result moved.0 moved.1;
      trio_deals_first = λ ask asks. (did.moves (trio ask) asks).2;
      trio_starts_miners_only = λ ask asks. may_launch (did.moves (trio ask) asks).0;
      trio_starts = λ ask asks told. trio_started (texts c.args.words.now) _ _ c.act-ended.result did ask asks told;
    })

pub returns-clause-headline : goal.returns-clause-headline
returns-clause-headline g c = λ given is. headline_kept (texts c.args.words.now) _ _ _ (returns-clause-call g c) given is
