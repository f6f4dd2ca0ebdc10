use Rattle.std.proofs.Common.{◌≡◌, take}
use Rattle.std.specs.Prelude.{count_by}
use Rattle.program_trees.specs.TypedPrograms.{typed_program_tree}
use Rattle.reached_instances.specs.Templates.{is_of_template}
use Rattle.reached_instances.specs.Views.{instances_seen}
use Rattle.reached_instances.proofs.templates.template_count.Given as goal

abbrev pub invariant-loop-instance : goal.invariant-loop-instance
invariant-loop-instance l = l.count ≡ count_by (is_of_template (typed_program_tree l.program)) (instances_seen (take l.instance-index l.instances))
