-- The evaluation of an accepted program ends so that its end can be written.
use Rattle.std.proofs.Common.{ℕ, List, subst}
use Rattle.program_trees.specs.Programs.{ProgramTree}
use Rattle.reached_instances.specs.Instances.{Instance}
use Rattle.language_model.specs.Effects.{World}
use Rattle.language_model.specs.Reports.{Report}
use Rattle.code_model.specs.Programs.{code_of}
use Rattle.lowered_code.proofs.Fits.{accepted_means}
use Rattle.written_code.specs.Laws.{any_number, any_text}
use Rattle.written_code.proofs.Programs.{accepted_writable}
use Rattle.view_laws.specs.Ends.{CanBeWritten, EndsCanBeWritten}
use Rattle.view_laws.proofs.Steps.{code_ends}
use Rattle.view_laws.proofs.Lines.{lines_of_writable}

pub programs_end : (source : ProgramTree) (w : World) (budget : ℕ) (answers : List ℕ) → EndsCanBeWritten source w budget answers
programs_end source w budget answers accepted written placed p resolved within room =
    let is : List Instance = within.list in
    subst (λ (r : Report). CanBeWritten r.stop) (accepted_means source accepted written p resolved is within.reached w budget answers)
    (code_ends any_number any_text w budget room (code_of p is)
    (lines_of_writable (code_of p is) (accepted_writable source accepted written placed p resolved is within.reached within)) answers)
