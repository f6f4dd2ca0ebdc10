use Rattle.command_frame.proofs.Said.{says_error}
use Rattle.program_commands.proofs.CodeFaults.{node_fault_is_error}
use Rattle.miner_command.proofs.node_stops.peer_stop.Goals as goal

pub breached-requires-clause-says : goal.breached-requires-clause-says
breached-requires-clause-says c = says_error c.format.result _ (node_fault_is_error _) c.format.ensures.ok
