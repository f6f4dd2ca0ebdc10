use Rattle.std.proofs.Common.{◌≡◌, map, take}
use Rattle.viewed_run.specs.CodeViews.{shown_in}
use Rattle.miner_core.specs.Views.{notice_seen}
use Rattle.viewed_run.proofs.parts.openings.Given as goal

abbrev pub invariant-loop-notice : goal.invariant-loop-notice
invariant-loop-notice l = l.opened.items ≡ shown_in (map notice_seen (take l.notice-index l.notices))
