-- Machines stay within code whose steps fit.
use Rattle.std.proofs.Common.{List, Ok, Err}
use Rattle.std.specs.Prelude.{slice_get}
use Rattle.blind_evaluation.specs.Effects.{World, Run}
use Rattle.verified_code.specs.Steps.{Function}
use Rattle.code_model.specs.Machine.{Machine, step}
use Rattle.code_model.specs.Kinded.{IsWithin}
use Rattle.code_model.specs.Laws.{StaysAt, KeepsKinds, BeginsWithin}
use Rattle.code_model.proofs.Makes.{MakesAt}
use Rattle.code_model.proofs.Within.{next_there, stays_within, begins_within}

stays : (c : List Function) (r : Run Machine) → MakesAt r (IsWithin c) → StaysAt c r
stays c (Ok x) h = h
stays c (Err e) h = tt

pub keeps : (w : World) (c : List Function) → KeepsKinds w c
keeps w c fits singles m h s = (next_there w c fits singles m h, stays c (step w c (slice_get m.steps m.pc) m s) ((stays_within w c fits singles m h).from s))

pub begins : (c : List Function) → BeginsWithin c
begins c fits main e = begins_within fits main e
