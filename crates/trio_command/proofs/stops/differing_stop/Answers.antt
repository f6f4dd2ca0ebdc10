use Rattle.command_frame.proofs.Said.{says_error}
use Rattle.trio_command.proofs.Said.{node_fault_is_error}
use Rattle.trio_command.proofs.stops.differing_stop.Goals as goal

pub breached-requires-clause-says : goal.breached-requires-clause-says
breached-requires-clause-says c = says_error c.fault_line.result _ (node_fault_is_error _) c.fault_line.ensures
