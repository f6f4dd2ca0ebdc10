use Rattle.std.proofs.Common.{take}
use Rattle.command_frame.specs.Answer.{writes_of, paths_in}
use Rattle.command_frame.specs.Finish.{OnlyAmong, WroteAll}
use Rattle.command_frame.proofs.finish.write_files.Given as goal

abbrev pub invariant-loop-entry : goal.invariant-loop-entry
invariant-loop-entry g l =
    let state = g.F.Files.state in
    record {
      only : OnlyAmong (paths_in (writes_of l.writes)) (state l.fn.files) (state l.files);
      done : WroteAll (writes_of (take l.entry-index l.writes)) (state l.fn.files) (state l.files);
    }
