use Rattle.std.proofs.Common.{◌++◌}
use Rattle.miner_core.specs.Miners.{held}
use Rattle.miner_core.specs.Drawing.{left_for}
use Rattle.miner_node.proofs.Along.{some_tape, stops_so}
use Rattle.miner_node.proofs.serving.serve_from.Goals as goal

pub returns-in-Ok-clause-serves : goal.returns-in-Ok-clause-serves
returns-in-Ok-clause-serves g c =
    let h = c.in-Ok.ensures in
    record {
      serves =
          record {
            taken = h.taken;
            drew = h.drew;
            ok = record { gone = h.ok; served = λ tape of. (h.holds tape of).ok };
            err = tt;
            still = h.still;
          };
      order = λ tape of. (h.holds tape of).order;
    }

pub returns-in-Err-clause-serves : goal.returns-in-Err-clause-serves
returns-in-Err-clause-serves g c =
    let h = c.in-Err.ensures in
    record {
      serves = record {
        taken = h.taken;
        drew = h.drew;
        ok = tt;
        err = stops_so g.P.Party.me c.args.hello.now (g.L.Links.state c.args.links.now) (g.L.Links.state c.exchange.new.links) (held c.args.miner) (held c.exchange.new.miner)
            (g.T.TapeSource.state c.args.tapes.now) (g.T.TapeSource.state c.exchange.new.tapes) h.taken c.in-Err.e c.stopped.result c.stopped.ensures
            (λ tape of. (h.holds tape of).err) h.cause;
        still = h.still;
      };
      order = λ tape of. (h.holds tape of).order;
    }

pub returns-in-Ok-clause-later : goal.returns-in-Ok-clause-later
returns-in-Ok-clause-later g c =
    let h = c.in-Ok.ensures in
    let one = some_tape ((held c.args.miner).story.tape ++ h.taken) (left_for g.P.Party.me (g.T.TapeSource.state c.exchange.new.tapes)) in
    (h.holds one.0 one.1).later

pub returns-in-Err-clause-later : goal.returns-in-Err-clause-later
returns-in-Err-clause-later g c =
    let h = c.in-Err.ensures in
    let one = some_tape ((held c.args.miner).story.tape ++ h.taken) (left_for g.P.Party.me (g.T.TapeSource.state c.exchange.new.tapes)) in
    (h.holds one.0 one.1).later
