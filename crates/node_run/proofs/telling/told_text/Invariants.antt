use Rattle.std.proofs.Common.{◌≡◌, take, map, string_bytes}
use Rattle.std.specs.List.{flat_map}
use Rattle.miner_core.specs.Views.{notice_seen}
use Rattle.miner_text.specs.Lines.{line_text}
use Rattle.node_run.specs.Told.{line_told}
use Rattle.node_run.proofs.telling.told_text.Given as goal

abbrev pub invariant-loop-notice : goal.invariant-loop-notice
invariant-loop-notice l = string_bytes l.text ≡ flat_map line_text (map line_told (map notice_seen (take l.notice-index l.notices)))
