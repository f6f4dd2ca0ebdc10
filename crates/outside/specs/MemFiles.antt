-- What a store of files in memory means.
use Rattle.std.specs.Prelude.{ℕ, List, true}
use Rattle.outside.specs.FileCall.{file_calls_of}
use Rattle.outside.specs.Files.{FilesState, Contents}
use Rattle.outside.specs.MemFile.{contents_of, size_in}
use Rattle.outside.specs.Plan.{is_steady}
use Rattle.outside.specs.declared.fault_plan.FaultPlan.{FaultPlan}
use Rattle.outside.specs.declared.file_call.FileAction.{FileAction}
use Rattle.outside.specs.declared.mem_files.MemFiles.{MemFiles}

abbrev pub files_in : MemFiles → Contents
files_in m = contents_of m.files

-- which of its calls are to fail
abbrev pub plan_in : MemFiles → FaultPlan
plan_in m = m.plan

-- its calls in order, but for those for which there was no memory
abbrev pub log_in : MemFiles → List (FileAction × List ℕ)
log_in m = file_calls_of m.log.items

abbrev pub files_state : MemFiles → FilesState
files_state m = record {
  told = true;
  contents = files_in m;
  faults = m.plan.faults;
  steady = is_steady m.plan;
  sized = size_in m.files;
}
