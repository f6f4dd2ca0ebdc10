-- The lines of the faults of a run by three programs.
use Rattle.std.specs.Prelude.{ℕ, List, ◌++◌, codes}
use Rattle.std.specs.Fmt.{decimal, signed_decimal}
use Rattle.proto_core.specs.Parties.{link_text, number_text}
use Rattle.sc_text.specs.Fault.{error_line}
use Rattle.command_frame.specs.declared.fault.NodeFault.{NodeFault}
use Rattle.command_frame.specs.declared.fault.NodeFault.TheVariants as faults
use Rattle.command_frame.specs.declared.kinds.ByteFault.{ByteFault}
use Rattle.command_frame.specs.declared.kinds.ByteFault.TheVariants as bytes
use Rattle.command_frame.specs.declared.kinds.StepFault.{StepFault}
use Rattle.command_frame.specs.declared.kinds.StepFault.TheVariants as steps
use Rattle.command_frame.specs.declared.kinds.HelloField.{HelloField}
use Rattle.command_frame.specs.declared.kinds.HelloField.TheVariants as fields

unfoldable pub byte_code : ByteFault → List ℕ
byte_code bytes.Truncated = codes "B1"
byte_code bytes.BadTag = codes "B2"
byte_code bytes.BadVersion = codes "B3"
byte_code bytes.Trailing = codes "B4"

unfoldable pub step_code : StepFault → List ℕ
step_code steps.BadRegister = codes "B5"
step_code steps.BadKind = codes "B6"
step_code steps.BadJump = codes "B7"

unfoldable pub field_word : HelloField → List ℕ
field_word fields.Version = codes "version"
field_word fields.Sender = codes "sender"
field_word fields.Receiver = codes "receiver"
field_word fields.Code = codes "code"
field_word fields.Public = codes "public"

-- a fault, without what every line has
unfoldable pub node_fault_text : NodeFault → List ℕ
node_fault_text (faults.Bytes fault place) = byte_code fault ++ codes " place " ++ decimal place
node_fault_text (faults.Step fault function instruction) =
    step_code fault ++ codes " function " ++ decimal function ++ codes " instruction " ++ decimal instruction
node_fault_text (faults.OtherHello field) = codes "N2 " ++ field_word field
node_fault_text (faults.BadFrame place) = codes "N3 place " ++ decimal place
node_fault_text (faults.OtherLength link want have) =
    codes "N4 link " ++ link_text link ++ codes " want " ++ decimal want ++ codes " have " ++ decimal have
node_fault_text (faults.NotABit link place word) =
    codes "N4 link " ++ link_text link ++ codes " place " ++ decimal place ++ codes " word " ++ decimal word
node_fault_text (faults.Disagree line) = codes "C2 line " ++ decimal line
node_fault_text (faults.ChildStatus miner status) = codes "C3 miner " ++ number_text miner ++ codes " status " ++ signed_decimal status
node_fault_text (faults.BadText miner line) = codes "C4 miner " ++ number_text miner ++ codes " line " ++ decimal line

-- the line that says why a run by three programs is refused
unfoldable pub node_fault_line : NodeFault → List ℕ
node_fault_line fault = error_line (node_fault_text fault)
