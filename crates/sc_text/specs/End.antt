-- How a run ended, as the last line of its text says it.
use Rattle.std.specs.Prelude.{ℕ, List, ◌++◌, codes}
use Rattle.std.specs.Fmt.{decimal}
use Rattle.sc_text.specs.declared.end.TrapKind.{TrapKind}
use Rattle.sc_text.specs.declared.end.TrapKind.TheVariants as kinds
use Rattle.sc_text.specs.declared.end.TapeOwner.{TapeOwner}
use Rattle.sc_text.specs.declared.end.TapeOwner.TheVariants as owners
use Rattle.sc_text.specs.declared.end.Ending.{Ending}
use Rattle.sc_text.specs.declared.end.Ending.TheVariants as endings
use Rattle.sc_text.specs.declared.end.End.{End}

-- the word for a trap
unfoldable pub trap_word : TrapKind → List ℕ
trap_word kinds.Length = codes "Length"
trap_word kinds.Div = codes "Div"
trap_word kinds.Index = codes "Index"
trap_word kinds.Argument = codes "Argument"
trap_word kinds.Depth = codes "Depth"
trap_word kinds.Assert = codes "Assert"
trap_word kinds.Large = codes "Large"

-- the digit for a tape's owner
unfoldable pub owner_digit : TapeOwner → List ℕ
owner_digit owners.Dealer = codes "0"
owner_digit owners.Miner1 = codes "1"
owner_digit owners.Miner2 = codes "2"
owner_digit owners.Miner3 = codes "3"

-- how the run ended, without its cost
unfoldable pub ending_text : Ending → List ℕ
ending_text endings.Done = codes "done"
ending_text (endings.Trap kind line) = codes "trap " ++ trap_word kind ++ codes " line " ++ decimal line
ending_text endings.Budget = codes "budget"
ending_text (endings.Tape owner need have) =
    codes "tape " ++ owner_digit owner ++ codes " need " ++ decimal need ++ codes " have " ++ decimal have

-- the last line of a run's text
unfoldable pub end_line : End → List ℕ
end_line end = codes "end " ++ ending_text end.how ++ codes " cost " ++ decimal end.cost ++ codes "\n"
