use Rattle.std.proofs.Common.{arith}
use Rattle.command_frame.proofs.Writes.{among_more, stops_here, wrote_all, wrote_more}
use Rattle.command_frame.proofs.finish.write_files.Goals as goal

pub returns-in-Err-clause-only : goal.returns-in-Err-clause-only
returns-in-Err-clause-only g c =
    among_more c.args.writes.now c.loop-entry.entry-index c.entry-item.result _ _ _ (omega arith) c.entry-item.is c.loop-entry.invariant.only
    c.write_file.ensures.touches

pub returns-in-Err-clause-err : goal.returns-in-Err-clause-err
returns-in-Err-clause-err g c =
    stops_here c.args.writes.now c.loop-entry.entry-index c.entry-item.result _ _ _ c.in-Err.stop (omega arith) c.entry-item.is c.loop-entry.invariant.only
    c.loop-entry.invariant.done
    c.write_file.ensures.touches.only c.in-Err.ensures.err

pub loop-entry-preserved : goal.loop-entry-preserved
loop-entry-preserved g c = record {
  only = among_more c.args.writes.now c.loop-entry.entry-index c.entry-item.result _ _ _
      (omega arith) c.entry-item.is c.loop-entry.invariant.only c.write_file.ensures.touches;
  done =
      wrote_more c.args.writes.now c.loop-entry.entry-index c.entry-item.result (g.F.Files.state c.args.files.now) (g.F.Files.state c.loop-entry.files)
      (g.F.Files.state c.write_file.new.files) (omega arith) c.entry-item.is c.loop-entry.invariant.only.told
      c.loop-entry.invariant.done c.in_default.ensures.ok;
}

pub returns-clause-ok : goal.returns-clause-ok
returns-clause-ok g c =
    wrote_all c.args.writes.now c.loop-entry.entry-index (g.F.Files.state c.args.files.now) (g.F.Files.state c.loop-entry.files) (omega arith)
    c.loop-entry.invariant.done
