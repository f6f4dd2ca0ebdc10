-- The exit status of a run's end.
use Rattle.command_frame.specs.declared.status.Status.{Status}
use Rattle.command_frame.specs.declared.status.Status.TheVariants as statuses
use Rattle.sc_text.specs.declared.end.Ending.{Ending}
use Rattle.sc_text.specs.declared.end.Ending.TheVariants as endings

abbrev pub ending_status : Ending → Status
ending_status endings.Done = statuses.Done
ending_status (endings.Trap kind line) = statuses.Trap
ending_status endings.Budget = statuses.Budget
ending_status (endings.Tape owner need have) = statuses.Tape
