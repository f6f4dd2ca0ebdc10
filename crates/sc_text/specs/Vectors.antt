-- Texts by hand.
use Rattle.std.specs.Prelude.{◌≡◌, ◌^◌, ◌-◌, [], ◌∷◌, codes, string_bytes, true, false}
use Rattle.std.proofs.Common.{refl}
use Rattle.std.specs.Fmt.{digits}
use Rattle.sc_text.specs.declared.code.PlacedFault.TheVariants as placed
use Rattle.sc_text.specs.declared.elements.Element.TheVariants.{Word, Negative, Truth}
use Rattle.sc_text.specs.declared.end.Ending.TheVariants as endings
use Rattle.sc_text.specs.declared.end.TapeOwner.TheVariants as owners
use Rattle.sc_text.specs.declared.end.TrapKind.TheVariants as kinds
use Rattle.sc_text.specs.declared.event.Event.TheVariants as events
use Rattle.sc_text.specs.declared.fault.Fault.TheVariants as faults
use Rattle.sc_text.specs.declared.input_fault.EntryField.TheVariants as fields
use Rattle.sc_text.specs.declared.input_fault.InputFault.TheVariants as inputs
use Rattle.sc_text.specs.Elements.{element_text, elements_text, element_word}
use Rattle.sc_text.specs.End.{trap_word, owner_digit, ending_text, end_line}
use Rattle.sc_text.specs.Event.{event_line, run_text}
use Rattle.sc_text.specs.Fault.{placed_code, span_text, field_word, input_fault_text, fault_text, fault_line, file_line}

pub opened_truths : event_line (events.Open (Truth true ∷ Truth false ∷ [])) ≡ codes "open true false\n"
unfolding event_line elements_text element_text
opened_truths = refl

pub opened_least : event_line (events.Open (Negative (2 ^ 63) ∷ Word 5 ∷ [])) ≡ codes "open -9223372036854775808 5\n"
unfolding event_line elements_text element_text digits
opened_least = refl

pub opened_none : event_line (events.Open []) ≡ codes "open\n"
unfolding event_line elements_text
opened_none = refl

pub word_of_minus_one : element_word (Negative 1) ≡ 2 ^ 64 - 1
word_of_minus_one = refl

pub word_of_least : element_word (Negative (2 ^ 63)) ≡ 2 ^ 63
word_of_least = refl

pub whole_run : run_text (events.Publish (codes "s") (Word 13 ∷ []) ∷ []) (record { how = endings.Done; cost = 7 }) ≡ codes "publish s 13\nend done cost 7\n"
unfolding run_text event_line elements_text element_text end_line ending_text digits
whole_run = refl

pub trapped : end_line (record { how = endings.Trap kinds.Argument 2; cost = 3 }) ≡ codes "end trap Argument line 2 cost 3\n"
unfolding end_line ending_text trap_word digits
trapped = refl

pub short_tape : end_line (record { how = endings.Tape owners.Miner3 1 0; cost = 6 }) ≡ codes "end tape 3 need 1 have 0 cost 6\n"
unfolding end_line ending_text owner_digit digits
short_tape = refl

pub widest_need : end_line (record { how = endings.Tape owners.Dealer (2 ^ 128 - 1) 1; cost = 2 ^ 64 - 1 })
    ≡ codes "end tape 0 need 340282366920938463463374607431768211455 have 1 cost 18446744073709551615\n"
unfolding end_line ending_text owner_digit digits
widest_need = refl

pub private_condition : fault_line (faults.Placed placed.PrivateCondition (record { line = 2; column = 33 })) ≡ codes "error: D4 line 2 column 33\n"
unfolding fault_line fault_text placed_code span_text digits
private_condition = refl

pub bad_value : fault_line (faults.Input (inputs.BadField 0 fields.Value)) ≡ codes "error: I2 entry 0 value\n"
unfolding fault_line fault_text input_fault_text field_word digits
bad_value = refl

pub short_dealer_tape : fault_line (faults.ShortTape 4 3) ≡ codes "error: Q2 need 4 have 3\n"
unfolding fault_line fault_text digits
short_dealer_tape = refl

pub unreadable_file : file_line (codes "a.sc") ≡ codes "error: file a.sc\n"
unfolding file_line
unreadable_file = refl

-- the fault of a file has the line of its path
pub file_line_of_fault : (path : _) → fault_line (faults.File path) ≡ file_line (string_bytes path)
unfolding fault_line fault_text file_line
file_line_of_fault path = refl
