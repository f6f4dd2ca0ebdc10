-- Worked lines.
use Rattle.std.specs.Prelude.{◌≡◌, pos, negsuc, codes, refl}
use Rattle.std.specs.Fmt.{digits}
use Rattle.proto_core.specs.declared.link.Link.TheVariants.{Link12}
use Rattle.proto_core.specs.declared.party.Number.TheVariants.{Two, Three}
use Rattle.command_frame.specs.Faults.{byte_code, field_word, node_fault_line, node_fault_text, step_code}
use Rattle.command_frame.specs.declared.fault.NodeFault.TheVariants as faults
use Rattle.command_frame.specs.declared.kinds.ByteFault.TheVariants.{Trailing}
use Rattle.command_frame.specs.declared.kinds.StepFault.TheVariants.{BadJump}
use Rattle.command_frame.specs.declared.kinds.HelloField.TheVariants.{Sender}

trailing_byte : node_fault_line (faults.Bytes Trailing 17) ≡ codes "error: B4 place 17\n"
unfolding digits node_fault_line node_fault_text byte_code
trailing_byte = refl

backward_jump : node_fault_line (faults.Step BadJump 1 20) ≡ codes "error: B7 function 1 instruction 20\n"
unfolding digits node_fault_line node_fault_text step_code
backward_jump = refl

other_sender : node_fault_line (faults.OtherHello Sender) ≡ codes "error: N2 sender\n"
unfolding node_fault_line node_fault_text field_word
other_sender = refl

two_words_for_three : node_fault_line (faults.OtherLength Link12 3 2) ≡ codes "error: N4 link 12 want 3 have 2\n"
unfolding digits node_fault_line node_fault_text
two_words_for_three = refl

no_bit : node_fault_line (faults.NotABit Link12 1 2) ≡ codes "error: N4 link 12 place 1 word 2\n"
unfolding digits node_fault_line node_fault_text
no_bit = refl

stopped_child : node_fault_line (faults.ChildStatus Two (negsuc 8)) ≡ codes "error: C3 miner 2 status -9\n"
unfolding digits node_fault_line node_fault_text
stopped_child = refl

wrong_line : node_fault_line (faults.BadText Three 4) ≡ codes "error: C4 miner 3 line 4\n"
unfolding digits node_fault_line node_fault_text
wrong_line = refl
