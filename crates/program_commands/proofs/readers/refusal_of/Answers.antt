use Rattle.command_frame.proofs.Said.{fault_is_error, says_error}
use Rattle.program_commands.proofs.readers.refusal_of.Goals as goal

pub refused-requires-clause-says : goal.refused-requires-clause-says
refused-requires-clause-says c = says_error c.format.result _ (fault_is_error c.args.fault.now) c.format.ensures.ok
