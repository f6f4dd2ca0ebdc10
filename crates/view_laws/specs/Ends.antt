-- Ends that can be written: a trap's line has 32 bits, the words that lack are fewer than 2^128, and those that are there fewer than 2^64.
use Rattle.std.specs.Prelude.{◌≡◌, ℕ, ◌<◌, ◌^◌, List, Some}
use Rattle.program_trees.specs.Programs.{ProgramTree}
use Rattle.domain_types.specs.ProgramTypes.{IsAccepted}
use Rattle.program_trees.specs.TypedPrograms.{TypedProgramTree}
use Rattle.name_resolution.specs.Functions.{typed_of}
use Rattle.reached_instances.specs.Limits.{IsWithinLimits}
use Rattle.written_code.specs.Sources.{IsWellWritten}
use Rattle.written_code.specs.WrittenSources.{IsPlacedProgram}
use Rattle.language_model.specs.Effects.{World, RunStop, Ended, Short}
use Rattle.language_model.specs.Reports.{dealing, evaluated}
use Rattle.view_text.specs.View.{IsEnding}

-- a budget of 64 bits, tapes of which each has fewer than 2^64 words, and inputs for which the dealer needs fewer than 2^128
pub record HasRoom (w : World) (budget : ℕ) : Type 0 where
  pub steps : budget < 2 ^ 64
  pub dealer : w.dealer < 2 ^ 64
  pub first : w.lengths.first < 2 ^ 64
  pub second : w.lengths.second < 2 ^ 64
  pub third : w.lengths.third < 2 ^ 64
  pub dealt : dealing w < 2 ^ 128

abbrev pub CanBeWritten : RunStop → Type 0
CanBeWritten (Ended ending) = IsEnding ending
CanBeWritten Short = Unit {0}

-- the evaluation of an accepted program within the limits of size, in the clear and by one who is told what is opened
abbrev pub EndsCanBeWritten : ProgramTree → World → (budget : ℕ) → (answers : List ℕ) → Type 0
EndsCanBeWritten source w budget answers =
    IsAccepted source → IsWellWritten source → IsPlacedProgram source → (p : TypedProgramTree) → typed_of source ≡ Some p → IsWithinLimits p
    → HasRoom w budget → CanBeWritten (evaluated w p budget answers).stop
