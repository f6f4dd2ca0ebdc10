-- Worked texts, and what is read of them.
use Rattle.std.specs.Prelude.{◌≡◌, ℕ, ◌^◌, List, [], ◌∷◌, codes, refl, Ok, Err}
use Rattle.std.specs.Fmt.{digits}
use Rattle.sc_text.specs.Elements.{element_text}
use Rattle.sc_text.specs.End.{owner_digit}
use Rattle.sc_text.specs.Name.{is_name}
use Rattle.sc_text.specs.declared.elements.Element.TheVariants.{Negative, Word}
use Rattle.sc_text.specs.declared.end.Ending.TheVariants.{Done, Tape}
use Rattle.sc_text.specs.declared.end.TapeOwner.TheVariants as owners
use Rattle.proto_core.specs.declared.party.Number.TheVariants.{One, Two, Three}
use Rattle.proto_core.specs.declared.link.Link.TheVariants.{Link13, Link21, Link23, Link31}
use Rattle.view_text.specs.View.{View}
use Rattle.view_text.specs.Text.{view_bytes}
use Rattle.view_text.specs.Reading.{read_view_of, number_in}

-- the sum of 6 and 7, as the third miner sees it
abbrev pub third : View
third =
    record {
      miner = Three;
      inputs = record { name = codes "a"; words = 6 ∷ [] } ∷ record { name = codes "b"; words = 7 ∷ [] } ∷ [];
      drew = 0 ∷ [];
      got =
          record { link = Link23; message = 0 ∷ [] }
          ∷ record { link = Link23; message = 0 ∷ [] }
          ∷ record { link = Link13; message = 0 ∷ [] }
          ∷ [];
      opened = (Word 13 ∷ []) ∷ [];
      end = record { how = Done; cost = 7 };
    }

pub sum_seen_by_three : view_bytes third ≡ codes "view 3\nin a 6\nin b 7\ndrew 0\ngot 23 0\ngot 23 0\ngot 13 0\nopen 13\nend done cost 7\n"
unfolding view_bytes element_text digits
sum_seen_by_three = refl

-- the product of 6 and 7, as the first miner sees it
abbrev pub first : View
first =
    record {
      miner = One;
      inputs = record { name = codes "a"; words = 0 ∷ [] } ∷ record { name = codes "b"; words = 0 ∷ [] } ∷ [];
      drew = 0 ∷ 0 ∷ 0 ∷ 0 ∷ [];
      got =
          record { link = Link31; message = 0 ∷ 0 ∷ 0 ∷ [] }
          ∷ record { link = Link31; message = 6 ∷ 7 ∷ [] }
          ∷ record { link = Link21; message = 0 ∷ [] }
          ∷ record { link = Link31; message = 0 ∷ [] }
          ∷ record { link = Link31; message = 42 ∷ [] }
          ∷ [];
      opened = (Word 42 ∷ []) ∷ [];
      end = record { how = Done; cost = 7 };
    }

abbrev pub first_text : List ℕ
first_text =
    codes "view 1\nin a 0\nin b 0\ndrew 0 0 0 0\ngot 31 0 0 0\ngot 31 6 7\ngot 21 0\ngot 31 0\ngot 31 42\nopen 42\nend done cost 7\n"

pub product_seen_by_one : view_bytes first ≡ first_text
unfolding view_bytes element_text digits
product_seen_by_one = refl

pub product_is_read : read_view_of first_text ≡ Ok first
unfolding read_view_of number_in is_name digits
product_is_read = refl

-- the dealer's tape is too short: no inputs, nothing drawn or received
abbrev pub undealt : View
undealt = record { miner = Two; inputs = []; drew = []; got = []; opened = []; end = record { how = Tape owners.Dealer 2 1; cost = 0 } }

pub undealt_text : view_bytes undealt ≡ codes "view 2\ndrew\nend tape 0 need 2 have 1 cost 0\n"
unfolding view_bytes owner_digit digits
undealt_text = refl

pub undealt_is_read : read_view_of (codes "view 2\ndrew\nend tape 0 need 2 have 1 cost 0\n") ≡ Ok undealt
unfolding read_view_of number_in is_name owner_digit digits
undealt_is_read = refl

-- openings of numbers with a sign
abbrev pub signed : View
signed =
    record {
      miner = One;
      inputs = [];
      drew = [];
      got = [];
      opened = (Negative 5 ∷ Word 0 ∷ Negative (2 ^ 63) ∷ []) ∷ [];
      end = record { how = Done; cost = 2 };
    }

pub signed_is_read : read_view_of (codes "view 1\ndrew\nopen -5 0 -9223372036854775808\nend done cost 2\n") ≡ Ok signed
unfolding read_view_of number_in digits
signed_is_read = refl

-- ---- what is no view's text: the first line that is wrong

pub nothing_at_all : read_view_of [] ≡ Err 1
unfolding read_view_of
nothing_at_all = refl

pub leading_zero : read_view_of (codes "view 1\nin a 0\ndrew 00\nend done cost 7\n") ≡ Err 3
unfolding read_view_of number_in is_name digits
leading_zero = refl

pub too_large : read_view_of (codes "view 1\ndrew 18446744073709551616\nend done cost 7\n") ≡ Err 2
unfolding read_view_of number_in digits
too_large = refl

pub negative_zero : read_view_of (codes "view 1\ndrew\nopen -0\nend done cost 7\n") ≡ Err 3
unfolding read_view_of number_in digits
negative_zero = refl

pub zero_after_the_sign : read_view_of (codes "view 1\ndrew\nopen -01\nend done cost 7\n") ≡ Err 3
unfolding read_view_of number_in digits
zero_after_the_sign = refl

pub too_far_below : read_view_of (codes "view 1\ndrew\nopen -9223372036854775809\nend done cost 7\n") ≡ Err 3
unfolding read_view_of number_in digits
too_far_below = refl

pub sign_of_a_drawn_word : read_view_of (codes "view 1\ndrew -5\nend done cost 7\n") ≡ Err 2
unfolding read_view_of number_in digits
sign_of_a_drawn_word = refl

pub no_such_link : read_view_of (codes "view 1\ndrew\ngot 33 4\nend done cost 7\n") ≡ Err 3
unfolding read_view_of number_in digits
no_such_link = refl

pub out_of_order : read_view_of (codes "view 1\ndrew\nopen 3\ngot 21 4\nend done cost 7\n") ≡ Err 4
unfolding read_view_of number_in element_text digits
out_of_order = refl

pub two_spaces : read_view_of (codes "view  1\ndrew\nend done cost 7\n") ≡ Err 1
unfolding read_view_of
two_spaces = refl

pub stops_early : read_view_of (codes "view 1\ndrew\nopen true\n") ≡ Err 4
unfolding read_view_of number_in digits
stops_early = refl

pub last_line_without_newline : read_view_of (codes "view 1\ndrew\nend done cost 7") ≡ Err 3
unfolding read_view_of number_in digits
last_line_without_newline = refl

pub line_behind_the_end : read_view_of (codes "view 1\ndrew\nend done cost 7\nopen 3\n") ≡ Err 4
unfolding read_view_of number_in digits
line_behind_the_end = refl
