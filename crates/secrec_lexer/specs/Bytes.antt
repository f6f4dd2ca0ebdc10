-- Which bytes are what.
use Rattle.std.specs.Prelude.{ℕ, Bool, ◌==◌, ◌||◌, List, [], ◌∷◌, Option, Some, None, option_map, ◌+◌, not, codes, if◌then◌else◌, nat_eq}
use Rattle.std.specs.List.{take_while, starts_with}
use Rattle.sc_text.specs.Name.{is_name_byte}

-- a space, a tab, a carriage return or a newline
abbrev pub is_blank : ℕ → Bool
is_blank byte = byte == 32 || byte == 9 || byte == 13 || byte == 10

abbrev pub is_newline : ℕ → Bool
is_newline byte = byte == 10

-- the letters, digits and `_` at the front
abbrev pub name_run : List ℕ → List ℕ
name_run bytes = take_while is_name_byte bytes

-- what stands before the first newline
abbrev pub first_line : List ℕ → List ℕ
first_line bytes = take_while (λ byte. not (is_newline byte)) bytes

abbrev pub begins : List ℕ → List ℕ → Bool
begins bytes front = starts_with nat_eq bytes front

-- how many bytes there are up to the first `*/` and with it
abbrev pub size_to_close : List ℕ → Option ℕ
size_to_close [] = None
size_to_close (byte ∷ more) =
    if begins (byte ∷ more) (codes "*/") then Some 2
    else option_map (λ size. size + 1) (size_to_close more)
