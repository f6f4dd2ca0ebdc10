use Rattle.std.proofs.Common.{◌≡◌, ◌≤◌, drop, map}
use Rattle.language_model.specs.Evaluation.{input_from}
use Rattle.value_steps.specs.Views.{given_seen}
use Rattle.value_steps.proofs.inputs.input_named.Given as goal

abbrev pub invariant-loop-given : goal.invariant-loop-given
invariant-loop-given l = record {
  counted : l.before ≤ l.given-index;
  same : input_from l.before l.name (map given_seen (drop l.given-index l.given-items)) ≡ input_from 0 l.name (map given_seen l.given-items);
}
