-- A program that is there is accepted as the crates of code and runs ask, so its code means what it does.
use Rattle.std.proofs.Common.{ℕ, List}
use Rattle.outside.specs.Files.{Contents}
use Rattle.program_trees.specs.TypedPrograms.{TypedProgramTree}
use Rattle.well_typed.specs.Sources.{IsWellWritten}
use Rattle.well_written.proofs.Grammar.{well_written}
use Rattle.program_commands.proofs.Spelled.{placed_where_spelled}
use Rattle.program_run.proofs.Verified.{accepted_runs}
use Rattle.reached_instances.specs.Instances.{Instance}
use Rattle.reached_instances.specs.Reached.{IsReachedList}
use Rattle.program_run.specs.Accepted.{IsAccepted}
use Rattle.program_commands.specs.Compile.{CodeMeansProgram}
use Rattle.program_commands.specs.Held.{HoldsTyped}

pub written_so : (path : List ℕ) (files : Contents) (p : TypedProgramTree) (h : HoldsTyped path files p) → IsWellWritten h.tree
written_so path files p h =
    let spells = h.held.accepted.spells in well_written h.held.bytes h.tree spells.tokens spells.lexed spells.spelled

pub accepted_so : (path : List ℕ) (files : Contents) (p : TypedProgramTree) → HoldsTyped path files p → IsAccepted p
accepted_so path files p h =
    let spells = h.held.accepted.spells in
    record {
      source = h.tree;
      typed = h.held.accepted.typed;
      written = written_so path files p h;
      placed = placed_where_spelled h.held.bytes h.tree spells.tokens spells.lexed spells.spelled;
      of = h.typed;
      within = h.within;
    }

pub code_means : (path : List ℕ) (files : Contents) (p : TypedProgramTree) → HoldsTyped path files p → (reached : List Instance)
    → IsReachedList p reached → CodeMeansProgram p reached
code_means path files p h reached are =
    let a = accepted_so path files p h in accepted_runs a.source a.typed a.written p a.of reached are a.within
