use Rattle.std.proofs.Common.{◌≡◌, take}
use Rattle.std.specs.Prelude.{map}
use Rattle.program_trees.specs.TypedPrograms.{typed_program_tree}
use Rattle.reached_instances.specs.Views.{instances_seen}
use Rattle.code_model.specs.Programs.{instance_code, numbers_in}
use Rattle.lowering.specs.inner.Views.{function_seen}
use Rattle.lowering.proofs.programs.all_steps.Given as goal

abbrev pub invariant-loop-instance : goal.invariant-loop-instance
invariant-loop-instance l =
    map function_seen l.all.items
    ≡ map (instance_code (typed_program_tree l.program).functions (numbers_in l.instances)) (instances_seen (take l.instance-index l.instance-items))
