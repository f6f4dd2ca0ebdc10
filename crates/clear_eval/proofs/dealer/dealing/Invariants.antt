use Rattle.std.proofs.Common.{◌≡◌, ◌*◌, ◌≤◌, take}
use Rattle.std.specs.Prelude.{map, sum}
use Rattle.language_model.specs.Reports.{words_dealt}
use Rattle.value_steps.specs.Views.{given_seen}
use Rattle.clear_eval.proofs.dealer.dealing.Given as goal

abbrev pub invariant-loop-given : goal.invariant-loop-given
invariant-loop-given l = (l.need ≡ sum (map words_dealt (map given_seen (take l.given-index l.inputs)))) × (l.need ≤ 2097152 * l.given-index)
