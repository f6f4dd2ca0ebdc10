-- The texts of which the digests in a hello are made.
use Rattle.std.specs.Prelude.{ℕ, List, ◌++◌, codes}
use Rattle.std.specs.Fmt.{decimal}
use Rattle.proto_core.specs.Lists.{at}

-- the budget, and the lengths of the tapes of the dealer and of miners 1, 2 and 3
unfoldable pub budget_line : (budget dealer one two three : ℕ) → List ℕ
budget_line budget dealer one two three =
    codes "budget " ++ decimal budget ++ codes " lens " ++ decimal dealer ++ codes " " ++ decimal one ++ codes " " ++ decimal two ++ codes " " ++ decimal three

-- what everybody knows of a run: the text of the public file, a newline, and that line, without a newline at its end
unfoldable pub public_text : List ℕ → ℕ → List ℕ → List ℕ
public_text public budget lens = public ++ codes "\n" ++ budget_line budget (at lens 0) (at lens 1) (at lens 2) (at lens 3)
