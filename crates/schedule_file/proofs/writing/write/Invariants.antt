use Rattle.std.proofs.Common.{◌≡◌, take}
use Rattle.std.specs.Prelude.{string_bytes}
use Rattle.schedule_file.specs.Text.{schedule_bytes}
use Rattle.schedule_file.proofs.writing.write.Given as goal

abbrev pub invariant-loop-link : goal.invariant-loop-link
invariant-loop-link l = string_bytes l.text ≡ schedule_bytes (take l.link-index l.links)
