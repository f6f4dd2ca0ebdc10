-- Worked texts, and what is read of them.
use Rattle.std.specs.Prelude.{◌≡◌, List, [], ◌∷◌, codes, refl, Ok, Err, true}
use Rattle.std.specs.Fmt.{digits}
use Rattle.program_trees.specs.declared.expression.DataType.TheVariants.{Uint64}
use Rattle.program_trees.specs.declared.expression.DataType.TheVariants as datatype
use Rattle.sc_text.specs.Elements.{element_text, elements_text}
use Rattle.sc_text.specs.End.{ending_text, end_line}
use Rattle.sc_text.specs.Event.{event_line}
use Rattle.sc_text.specs.Name.{is_name}
use Rattle.sc_text.specs.declared.elements.Element.TheVariants.{Word, Negative, Truth}
use Rattle.sc_text.specs.declared.end.Ending.TheVariants.{Done}
use Rattle.sc_text.specs.declared.event.Event.TheVariants.{Open, Publish}
use Rattle.view_text.specs.Reading.{number_in}
use Rattle.miner_text.specs.Lines.{share_line, line_text, text_of}
use Rattle.miner_text.specs.Reading.{read_of}
use Rattle.miner_text.specs.declared.line.MinerLine.{MinerLine}
use Rattle.miner_text.specs.declared.line.MinerLine.TheVariants as lines

abbrev pub ended : List MinerLine
ended = lines.Ended (record { how = Done; cost = 7 }) ∷ []

-- openings, a public value, and shares of a number, of a number with a sign and of 65 truth values
abbrev pub told : List MinerLine
told =
    lines.Told (Open (Word 42 ∷ []))
    ∷ lines.Told (Open (Negative 5 ∷ Word 0 ∷ []))
    ∷ lines.Told (Publish (codes "p") (Truth true ∷ Word 0 ∷ []))
    ∷ lines.Share (record { name = codes "c"; element = Uint64; count = 1; words = 7 ∷ [] })
    ∷ lines.Share (record { name = codes "d"; element = datatype.Int64; count = 1; words = 18446744073709551611 ∷ [] })
    ∷ lines.Share (record { name = codes "b"; element = datatype.Bool; count = 65; words = 3 ∷ 0 ∷ [] })
    ∷ ended

pub written : text_of told
    ≡ codes "open 42\nopen -5 0\npublish p true 0\nshare c uint64 7\nshare d int64 18446744073709551611\nshare b bool 65 3 0\nend done cost 7\n"
unfolding text_of line_text share_line event_line elements_text element_text end_line ending_text digits
written = refl

pub read : read_of
    (codes "open 42\nopen -5 0\npublish p true 0\nshare c uint64 7\nshare d int64 18446744073709551611\nshare b bool 65 3 0\nend done cost 7\n") ≡ Ok told
unfolding read_of number_in is_name digits
read = refl

pub share_of_nothing : read_of (codes "share e bool 0\nend done cost 7\n")
    ≡ Ok (lines.Share (record { name = codes "e"; element = datatype.Bool; count = 0; words = [] }) ∷ ended)
unfolding read_of number_in is_name digits
share_of_nothing = refl

pub share_of_one : read_of (codes "share e bool 1 3\nend done cost 7\n")
    ≡ Ok (lines.Share (record { name = codes "e"; element = datatype.Bool; count = 1; words = 3 ∷ [] }) ∷ ended)
unfolding read_of number_in is_name digits
share_of_one = refl

pub truth_values_without_their_number : read_of (codes "share e bool\nend done cost 7\n") ≡ Err 1
unfolding read_of number_in is_name digits
truth_values_without_their_number = refl

pub a_word_too_few : read_of (codes "open 1\nshare b bool 65 3\nend done cost 7\n") ≡ Err 2
unfolding read_of number_in is_name digits
a_word_too_few = refl

pub a_word_too_many : read_of (codes "open 1\nshare b bool 64 3 0\nend done cost 7\n") ≡ Err 2
unfolding read_of number_in is_name digits
a_word_too_many = refl

pub more_than_words_hold : read_of (codes "share b bool 18446744073709551615 3\nend done cost 7\n") ≡ Err 1
unfolding read_of number_in is_name digits
more_than_words_hold = refl

pub no_word_as_their_number : read_of (codes "share b bool 18446744073709551616\nend done cost 7\n") ≡ Err 1
unfolding read_of number_in is_name digits
no_word_as_their_number = refl

pub nothing_there : read_of [] ≡ Err 1
unfolding read_of
nothing_there = refl

pub stops_early : read_of (codes "open 42\n") ≡ Err 2
unfolding read_of number_in digits
stops_early = refl

pub end_without_newline : read_of (codes "open 42\nend done cost 7") ≡ Err 2
unfolding read_of number_in digits
end_without_newline = refl

pub line_behind_the_end : read_of (codes "end done cost 7\nopen 42\n") ≡ Err 2
unfolding read_of number_in digits
line_behind_the_end = refl

pub bytes_behind_the_end : read_of (codes "end done cost 7\nopen") ≡ Err 2
unfolding read_of number_in digits
bytes_behind_the_end = refl

pub another_type : read_of (codes "open 1\nshare c int32 7\nend done cost 7\n") ≡ Err 2
unfolding read_of number_in is_name digits
another_type = refl

pub sign_in_a_share : read_of (codes "share c int64 -5\nend done cost 7\n") ≡ Err 1
unfolding read_of number_in is_name digits
sign_in_a_share = refl

pub truth_value_in_a_share : read_of (codes "share b bool true\nend done cost 7\n") ≡ Err 1
unfolding read_of number_in is_name digits
truth_value_in_a_share = refl

pub line_of_a_view : read_of (codes "view 1\nend done cost 7\n") ≡ Err 1
unfolding read_of number_in digits
line_of_a_view = refl
