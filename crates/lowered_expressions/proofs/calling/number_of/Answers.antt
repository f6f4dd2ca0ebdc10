use Rattle.std.proofs.Common.{length, sym, ap, ◌∙◌}
use Rattle.std.proofs.lemmas.List.{length-map}
use Rattle.reached_instances.specs.Instances.{instance_seen}
use Rattle.lowered_expressions.proofs.Numbers.{number_found, number_missing}
use Rattle.lowered_expressions.proofs.calling.number_of.Goals as goal

pub returns-in-Some : goal.returns-in-Some
returns-in-Some c =
    number_found (instance_seen (record { function = c.args.function; binding = c.args.binding })) c.args.around.now.instances.now c.in-Some.number
    (sym c.number.ensures ∙ c.in-Some.is)

pub returns : goal.returns
returns c =
    sym (length-map c.as_slice.result.now instance_seen) ∙ ap length c.as_slice.ensures
    ∙ number_missing (instance_seen (record { function = c.args.function; binding = c.args.binding })) c.args.around.now.instances.now
    (sym c.number.ensures ∙ c.in-None.is)
