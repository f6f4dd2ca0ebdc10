use Rattle.sc_text.specs.declared.fault.Fault.TheVariants.{BadTape}
use Rattle.command_frame.proofs.Said.{fault_is_error, says_error}
use Rattle.miner_command.proofs.own_tape.tape_stop.Goals as goal

pub refused-requires-clause-says : goal.refused-requires-clause-says
refused-requires-clause-says c = says_error c.format.result _ (fault_is_error (BadTape c.args.place)) c.format.ensures.ok
