-- Tests on words that answer a word: 1 for yes, 0 for no.
use Rattle.std.specs.Prelude.{ℕ, nat_lt, ◌==◌, if◌then◌else◌}

-- whether the word is 0
abbrev pub zero_test : ℕ → ℕ
zero_test x = if x == 0 then 1 else 0

-- whether the first number is less than the second
abbrev pub less_test : ℕ → ℕ → ℕ
less_test x y = if nat_lt x y then 1 else 0
