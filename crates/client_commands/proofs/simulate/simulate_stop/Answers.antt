use Rattle.std.proofs.Common.{ℕ, ◌++◌, refl}
use Rattle.std.specs.Fmt.{decimal}
use Rattle.std.specs.Prelude.{codes}
use Rattle.command_frame.specs.Said.{IsErrorLine}
use Rattle.command_frame.proofs.Said.{front_is_error, says_error}
use Rattle.tape_commands.specs.Simulate.{short_line}
use Rattle.client_commands.specs.Simulate.{published_short_line}
use Rattle.client_commands.proofs.simulate.simulate_stop.Goals as goal

short_is_error : (have : ℕ) → IsErrorLine (short_line have)
unfolding short_line
short_is_error have = front_is_error (codes "error: V2 have " ++ decimal have) refl

pub refused-requires-clause-says : goal.refused-requires-clause-says
refused-requires-clause-says c = says_error c.short_text.result _ (short_is_error _) c.short_text.ensures

published_is_error : (have : ℕ) → IsErrorLine (published_short_line have)
unfolding published_short_line
published_is_error have = front_is_error (codes "error: V3 have " ++ decimal have) refl

pub refused-requires-in-PublishedShort-clause-says : goal.refused-requires-in-PublishedShort-clause-says
refused-requires-in-PublishedShort-clause-says c = says_error c.published_short_text.result _ (published_is_error _) c.published_short_text.ensures
