-- The raw code of a program's reached instances.
use Rattle.std.specs.Prelude.{List}
use Rattle.program_trees.specs.TypedPrograms.{TypedProgramTree}
use Rattle.reached_instances.specs.Instances.{Instance}
use Rattle.bytecode.specs.Raw.{RawCode}
use Rattle.code_model.specs.Programs.{code_of}
use Rattle.code_model.specs.Instructions.{raw_code_of}

-- instructions with the numbers that the bytes say
abbrev pub raw_code_of_program : TypedProgramTree → List Instance → RawCode
raw_code_of_program p is = raw_code_of (code_of p is)
