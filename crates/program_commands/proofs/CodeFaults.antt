-- The lines of the faults of three miners begin with `error: `.
use Rattle.command_frame.specs.Said.{IsErrorLine}
use Rattle.command_frame.proofs.Said.{any_is_error}
use Rattle.command_frame.specs.Faults.{node_fault_line, node_fault_text}
use Rattle.command_frame.specs.declared.fault.NodeFault.{NodeFault}

pub node_fault_is_error : (fault : NodeFault) → IsErrorLine (node_fault_line fault)
unfolding node_fault_line
node_fault_is_error fault = any_is_error (node_fault_text fault)
