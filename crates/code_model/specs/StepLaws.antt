-- What is promised of the raw code of steps.
use Rattle.std.specs.Prelude.{◌≡◌, List}
use Rattle.verified_code.specs.Settled.{settled}
use Rattle.verified_code.specs.Steps.{Function}
use Rattle.verified_code.specs.Verified.{IsVerified}
use Rattle.code_model.specs.Instructions.{raw_code_of}
use Rattle.code_model.specs.Right.{AreRight}

abbrev pub IsVerifiedWhereRight : List Function → Type 0
IsVerifiedWhereRight c = AreRight c → IsVerified (raw_code_of c)

abbrev pub SettlesWhereRight : List Function → Type 0
SettlesWhereRight c = AreRight c → settled (raw_code_of c) ≡ c
