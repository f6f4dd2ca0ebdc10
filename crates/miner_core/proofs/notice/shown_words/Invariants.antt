use Rattle.std.proofs.Common.{◌≡◌, map, take}
use Rattle.std.specs.List.{flat_map}
use Rattle.miner_core.specs.Story.{shown_by}
use Rattle.miner_core.specs.Views.{notice_seen}
use Rattle.miner_core.proofs.notice.shown_words.Given as goal

abbrev pub invariant-loop-notice : goal.invariant-loop-notice
invariant-loop-notice l = l.words.items ≡ flat_map shown_by (map notice_seen (take l.notice-index l.notices))
