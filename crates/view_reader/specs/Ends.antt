-- The ends that have no number of their own.
use Rattle.std.specs.Prelude.{ℕ, List, if◌then◌else◌, codes, bytes_eq, Option, None}
use Rattle.sc_text.specs.declared.end.Ending.TheVariants.{Done, Budget}
use Rattle.sc_text.specs.declared.end.End.{End}
use Rattle.view_text.specs.Reading.{cost_in}

abbrev pub plain_end_in : (word cost_word cost : List ℕ) → Option End
plain_end_in word cost_word cost =
    if bytes_eq (codes "done") word then cost_in Done cost_word cost
    else if bytes_eq (codes "budget") word then cost_in Budget cost_word cost
    else None
