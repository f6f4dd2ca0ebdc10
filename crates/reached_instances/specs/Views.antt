-- What the structs of this crate stand for.
use Rattle.std.specs.Prelude.{List, map}
use Rattle.program_trees.specs.TypedPrograms.{typed_function_tree}
use Rattle.reached_instances.specs.declared.instance.Instance as kept
use Rattle.reached_instances.specs.declared.setting.Setting as kept_setting
use Rattle.reached_instances.specs.Domains.{Setting}
use Rattle.reached_instances.specs.Instances.{Instance, instance_seen}

abbrev pub setting : kept_setting.Setting → Setting
setting w = record { functions = map typed_function_tree w.functions.now; slots = w.slots.now; binding = w.binding.now }

abbrev pub instances_seen : List kept.Instance → List Instance
instances_seen is = map instance_seen is
