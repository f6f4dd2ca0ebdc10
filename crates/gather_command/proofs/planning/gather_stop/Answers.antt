use Rattle.std.proofs.Common.{ℕ, List, ◌++◌, refl}
use Rattle.std.specs.Fmt.{decimal}
use Rattle.std.specs.Prelude.{codes}
use Rattle.command_frame.specs.Said.{IsErrorLine}
use Rattle.command_frame.proofs.Said.{front_is_error, says_error}
use Rattle.gather_command.specs.Gather.{lens_line, name_line}
use Rattle.gather_command.proofs.planning.gather_stop.Goals as goal

name_is_error : (name : List ℕ) → IsErrorLine (name_line name)
unfolding name_line
name_is_error name = front_is_error (codes "error: G1 " ++ name) refl

lens_is_error : (file : ℕ) → IsErrorLine (lens_line file)
unfolding lens_line
lens_is_error file = front_is_error (codes "error: G2 file " ++ decimal file) refl

pub refused-requires-clause-says : goal.refused-requires-clause-says
refused-requires-clause-says c = says_error c.name_text.result _ (name_is_error _) c.name_text.ensures

pub refused-requires-in-OtherLengths-clause-says : goal.refused-requires-in-OtherLengths-clause-says
refused-requires-in-OtherLengths-clause-says c = says_error c.lens_text.result _ (lens_is_error _) c.lens_text.ensures
