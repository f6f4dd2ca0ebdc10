-- Places in a list, counted from 0.
use Rattle.std.specs.Prelude.{ℕ, ◌+◌, Option, option_map}

-- the place is told of the rest of a list: in the whole list it is one more
abbrev pub one_later : Option ℕ → Option ℕ
one_later place = option_map (λ k. k + 1) place
