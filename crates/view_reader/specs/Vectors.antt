-- Worked files of opened values, and what is read of them.
use Rattle.std.specs.Prelude.{◌≡◌, ◌^◌, ◌-◌, [], ◌∷◌, codes, refl, Ok, Err, true}
use Rattle.std.specs.Fmt.{digits}
use Rattle.sc_text.specs.Elements.{element_text}
use Rattle.sc_text.specs.declared.elements.Element.TheVariants.{Word, Negative, Truth}
use Rattle.view_text.specs.Reading.{number_in}
use Rattle.view_reader.specs.Opened.{opened_bytes, opened_of, openings_of}

pub written : opened_bytes ((Word 13 ∷ []) ∷ (Truth true ∷ Word 0 ∷ []) ∷ [] ∷ []) ≡ codes "open 13\nopen true 0\nopen\n"
unfolding element_text digits
written = refl

pub read_as_words : opened_of (codes "open 13\nopen true 0\nopen\nopen false\n") ≡ Ok (13 ∷ 1 ∷ 0 ∷ 0 ∷ [])
unfolding openings_of number_in digits
read_as_words = refl

pub written_with_a_sign : opened_bytes ((Negative 5 ∷ Word 3 ∷ []) ∷ []) ≡ codes "open -5 3\n"
unfolding element_text digits
written_with_a_sign = refl

pub read_with_a_sign : opened_of (codes "open -5 3 -9223372036854775808\n") ≡ Ok ((2 ^ 64 - 5) ∷ 3 ∷ (2 ^ 63) ∷ [])
unfolding openings_of number_in digits
read_with_a_sign = refl

pub negative_zero : opened_of (codes "open 1\nopen -0\n") ≡ Err 2
unfolding openings_of number_in digits
negative_zero = refl

pub too_far_below : opened_of (codes "open -9223372036854775809\n") ≡ Err 1
unfolding openings_of number_in digits
too_far_below = refl

pub nothing_opened : opened_of [] ≡ Ok []
unfolding openings_of
nothing_opened = refl

pub last_line_without_newline : opened_of (codes "open 1\nopen 2") ≡ Err 2
unfolding openings_of number_in digits
last_line_without_newline = refl

pub two_spaces : opened_of (codes "open 1\nopen  2\nopen 3\n") ≡ Err 2
unfolding openings_of number_in digits
two_spaces = refl

pub carriage_return : opened_of (codes "open 1\r\n") ≡ Err 1
unfolding openings_of number_in digits
carriage_return = refl

pub leading_zero : opened_of (codes "open 01\n") ≡ Err 1
unfolding openings_of number_in digits
leading_zero = refl

pub too_large : opened_of (codes "open 18446744073709551615\nopen 18446744073709551616\n") ≡ Err 2
unfolding openings_of number_in digits
too_large = refl

pub another_line : opened_of (codes "open 33\npublish dot 33\n") ≡ Err 2
unfolding openings_of number_in digits
another_line = refl
