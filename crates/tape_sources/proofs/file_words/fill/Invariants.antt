use Rattle.std.proofs.Common.{length, ◌-◌, ◌≡◌, ◌≤◌, take, drop, true, IfSome}
use Rattle.outside.specs.Files.{OnlyRead, SameSizes}
use Rattle.tape_sources.specs.FileTapes.{file_in}
use Rattle.tape_sources.proofs.file_words.fill.Given as goal

abbrev pub invariant-loop-done : goal.invariant-loop-done
invariant-loop-done g l =
    let state = g.F.Files.state in
    record {
      within : l.done ≤ length l.into;
      size : length l.into ≡ length l.fn.into;
      filled : (state l.fn.files).told ≡ true → IfSome (file_in (state l.fn.files) l.path) (λ all. take l.done l.into ≡ take l.done (drop l.from all));
      read : OnlyRead (state l.fn.files) (state l.files);
      sizes : SameSizes (state l.fn.files) (state l.files);
      quiet : (state l.fn.files).steady ≡ true → (state l.files).faults ≡ (state l.fn.files).faults;
    }

abbrev pub decreases-loop-done : goal.decreases-loop-done
decreases-loop-done g l = length l.into - l.done
