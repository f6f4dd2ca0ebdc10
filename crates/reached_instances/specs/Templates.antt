-- Which instances are those of templates.
use Rattle.std.specs.Prelude.{Bool, false, nat_lt}
use Rattle.std.specs.Option.{option_map_or}
use Rattle.std.specs.List.{slice_get}
use Rattle.program_trees.specs.TypedPrograms.{TypedProgramTree}
use Rattle.reached_instances.specs.Instances.{Instance}

-- its function has a domain variable
abbrev pub is_of_template : TypedProgramTree → Instance → Bool
is_of_template p i = option_map_or (λ f. nat_lt 0 f.variables) (slice_get p.functions i.function) false
