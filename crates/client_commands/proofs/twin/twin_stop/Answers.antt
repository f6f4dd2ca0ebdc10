use Rattle.std.proofs.Common.{ℕ, List, ◌++◌, refl}
use Rattle.std.specs.Fmt.{decimal}
use Rattle.std.specs.Prelude.{codes}
use Rattle.command_frame.specs.Said.{IsErrorLine}
use Rattle.command_frame.proofs.Said.{front_is_error, says_error}
use Rattle.tape_commands.specs.Twin.{entry_line, word_line}
use Rattle.client_commands.specs.Twin.{element_line}
use Rattle.client_commands.proofs.twin.twin_stop.Goals as goal

entry_is_error : (name : List ℕ) → IsErrorLine (entry_line name)
unfolding entry_line
entry_is_error name = front_is_error (codes "error: Z1 public " ++ name) refl

word_is_error : (place first second : ℕ) → IsErrorLine (word_line place first second)
unfolding word_line
word_is_error place first second =
    front_is_error (codes "error: Z1 opened " ++ decimal place ++ codes " " ++ decimal first ++ codes " " ++ decimal second) refl

pub refused-requires-clause-says : goal.refused-requires-clause-says
refused-requires-clause-says c = says_error c.entry_text.result _ (entry_is_error _) c.entry_text.ensures

pub refused-requires-in-OpenedDiffers-clause-says : goal.refused-requires-in-OpenedDiffers-clause-says
refused-requires-in-OpenedDiffers-clause-says c = says_error c.word_text.result _ (word_is_error _ _ _) c.word_text.ensures

element_is_error : (place first second : ℕ) → IsErrorLine (element_line place first second)
unfolding element_line
element_is_error place first second =
    front_is_error (codes "error: Z1 published " ++ decimal place ++ codes " " ++ decimal first ++ codes " " ++ decimal second) refl

pub refused-requires-in-PublishedDiffers-clause-says : goal.refused-requires-in-PublishedDiffers-clause-says
refused-requires-in-PublishedDiffers-clause-says c = says_error c.element_text.result _ (element_is_error _ _ _) c.element_text.ensures
