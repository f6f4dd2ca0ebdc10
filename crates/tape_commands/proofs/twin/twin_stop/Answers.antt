use Rattle.std.proofs.Common.{ℕ, List, ◌++◌, refl}
use Rattle.std.specs.Fmt.{decimal}
use Rattle.std.specs.Prelude.{codes}
use Rattle.command_frame.specs.Said.{IsErrorLine}
use Rattle.command_frame.proofs.Said.{front_is_error, says_error}
use Rattle.tape_commands.specs.Twin.{entry_line, word_line}
use Rattle.tape_commands.proofs.twin.twin_stop.Goals as goal

entry_is_error : (name : List ℕ) → IsErrorLine (entry_line name)
unfolding entry_line
entry_is_error name = front_is_error (codes "error: Z1 public " ++ name) refl

word_is_error : (place first second : ℕ) → IsErrorLine (word_line place first second)
unfolding word_line
word_is_error place first second =
    front_is_error (codes "error: Z1 opened " ++ decimal place ++ codes " " ++ decimal first ++ codes " " ++ decimal second) refl

pub refused-requires-clause-says : goal.refused-requires-clause-says
refused-requires-clause-says c = says_error c.entry_text.result _ (entry_is_error _) c.entry_text.ensures

pub refused-requires-in-OpenedDiffers-clause-says : goal.refused-requires-in-OpenedDiffers-clause-says
refused-requires-in-OpenedDiffers-clause-says c = says_error c.word_text.result _ (word_is_error _ _ _) c.word_text.ensures
