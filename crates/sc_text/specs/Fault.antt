-- The line that says why a command stopped.
use Rattle.std.specs.Prelude.{ℕ, List, ◌++◌, codes, string_bytes}
use Rattle.std.specs.Fmt.{decimal}
use Rattle.sc_text.specs.declared.span.Span.{Span}
use Rattle.sc_text.specs.declared.code.PlacedFault.{PlacedFault}
use Rattle.sc_text.specs.declared.code.PlacedFault.TheVariants as placed
use Rattle.sc_text.specs.declared.code.CountedFault.{CountedFault}
use Rattle.sc_text.specs.declared.code.CountedFault.TheVariants as counted
use Rattle.sc_text.specs.declared.input_fault.EntryField.{EntryField}
use Rattle.sc_text.specs.declared.input_fault.EntryField.TheVariants as fields
use Rattle.sc_text.specs.declared.input_fault.InputFault.{InputFault}
use Rattle.sc_text.specs.declared.input_fault.InputFault.TheVariants as inputs
use Rattle.sc_text.specs.declared.fault.Fault.{Fault}
use Rattle.sc_text.specs.declared.fault.Fault.TheVariants as faults

-- the code of a fault at a place of the program
unfoldable pub placed_code : PlacedFault → List ℕ
placed_code placed.BadByte = codes "L1"
placed_code placed.BadNumber = codes "L2"
placed_code placed.OpenText = codes "L3"
placed_code placed.OpenComment = codes "L4"
placed_code placed.BadName = codes "L5"
placed_code placed.TooLong = codes "L6"
placed_code placed.Unexpected = codes "Y1"
placed_code placed.TooDeep = codes "Y2"
placed_code placed.UnknownName = codes "D1"
placed_code placed.Twice = codes "D2"
placed_code placed.TypeMismatch = codes "D3"
placed_code placed.PrivateCondition = codes "D4"
placed_code placed.PrivateIndex = codes "D5"
placed_code placed.PrivateSize = codes "D6"
placed_code placed.PrivateToPublic = codes "D7"
placed_code placed.PrivateDivision = codes "D8"
placed_code placed.PrivateAssert = codes "D9"
placed_code placed.DomainMix = codes "D10"
placed_code placed.NoMain = codes "D11"
placed_code placed.BadImport = codes "D12"
placed_code placed.BadArity = codes "D13"
placed_code placed.MissingReturn = codes "D14"
placed_code placed.ArgumentPlace = codes "D15"

-- the code of a count that is too large
unfoldable pub counted_code : CountedFault → List ℕ
counted_code counted.TooManyInstances = codes "X1"
counted_code counted.ProgramTooLarge = codes "X2"
counted_code counted.FunctionTooLarge = codes "X3"

-- a place, as printed
unfoldable pub span_text : Span → List ℕ
span_text span = codes "line " ++ decimal span.line ++ codes " column " ++ decimal span.column

-- the word for a field of an input
unfoldable pub field_word : EntryField → List ℕ
field_word fields.Name = codes "name"
field_word fields.Domain = codes "domain"
field_word fields.Type = codes "type"
field_word fields.Value = codes "value"
field_word fields.Shape = codes "shape"
field_word fields.Share = codes "share"

-- what is wrong with an input file
unfoldable pub input_fault_text : InputFault → List ℕ
input_fault_text inputs.NotJson = codes "I1"
input_fault_text inputs.NoInputs = codes "I2 inputs"
input_fault_text (inputs.BadField entry field) = codes "I2 entry " ++ decimal entry ++ codes " " ++ field_word field
input_fault_text inputs.BadLens = codes "I2 lens"
input_fault_text inputs.BadMiner = codes "I2 miner"
input_fault_text (inputs.TooMany entry) = codes "I3 entry " ++ decimal entry

-- a file that could not be read or written
abbrev pub file_text : List ℕ → List ℕ
file_text path = codes "file " ++ path

-- a fault, without what every line has
unfoldable pub fault_text : Fault → List ℕ
fault_text faults.Usage = codes "usage"
fault_text (faults.Placed fault span) = placed_code fault ++ codes " " ++ span_text span
fault_text (faults.Counted fault count) = counted_code fault ++ codes " " ++ decimal count
fault_text (faults.Input fault) = input_fault_text fault
fault_text (faults.BadView line) = codes "V1 line " ++ decimal line
fault_text (faults.BadTape place) = codes "Q1 place " ++ decimal place
fault_text (faults.ShortTape need have) = codes "Q2 need " ++ decimal need ++ codes " have " ++ decimal have
fault_text (faults.BadSchedule line) = codes "S1 line " ++ decimal line
fault_text (faults.File path) = file_text (string_bytes path)
fault_text faults.Write = codes "write"
fault_text faults.Memory = codes "memory"

-- a line of the error stream
abbrev pub error_line : List ℕ → List ℕ
error_line text = codes "error: " ++ text ++ codes "\n"

-- the line that says why a command stopped
unfoldable pub fault_line : Fault → List ℕ
fault_line fault = error_line (fault_text fault)

-- the same for a file, of its path alone
unfoldable pub file_line : List ℕ → List ℕ
file_line path = error_line (file_text path)
