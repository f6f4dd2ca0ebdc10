-- What the texts of a row say.
use Rattle.std.specs.Prelude.{ℕ, List, [], Bool, true, false, ◌&&◌, ◌||◌, ◌==◌, not, Option, None, Some, option_map, unwrap_or, reverse, string_bytes, codes}
use Rattle.std.specs.Prelude.{if◌then◌else◌}
use Rattle.std.specs.List.{find, list_all}
use Rattle.std.specs.Option.{option_or}
use Rattle.std.specs.Str.{bytes_eq}
use Rattle.outside.specs.Files.{Contents, file_at}
use Rattle.row_files.specs.declared.row.Kind.{Kind}
use Rattle.row_files.specs.declared.row.Kind.TheVariants.{Held, Written, Absent, Out, Err, Arriving, Sent, Calls, Before, Between, After}
use Rattle.row_files.specs.declared.row.Text.{Text}

-- the number of a kind, in the order in which they stand
abbrev pub kind_number : Kind → ℕ
kind_number Held = 0
kind_number Written = 1
kind_number Absent = 2
kind_number Out = 3
kind_number Err = 4
kind_number Arriving = 5
kind_number Sent = 6
kind_number Calls = 7
kind_number Before = 8
kind_number Between = 9
kind_number After = 10

abbrev pub same_kind : Kind → Kind → Bool
same_kind k l = kind_number k == kind_number l

-- the text has this name
abbrev pub has_name : List ℕ → Text → Bool
has_name name text = bytes_eq (string_bytes text.name) name

-- of the texts of this kind and this name the last
abbrev pub last_text : List Text → Kind → List ℕ → Option Text
last_text texts kind name = find (λ text. same_kind text.kind kind && has_name name text) (reverse texts)

-- its bytes; none where there is no such text
abbrev pub bytes_said : List Text → Kind → List ℕ → List ℕ
bytes_said texts kind name = unwrap_or (option_map (λ text. text.bytes.items) (last_text texts kind name)) []

-- texts of this kind say what is at a path in the end
abbrev pub is_of_end : Kind → Bool
is_of_end Written = true
is_of_end Absent = true
is_of_end _ = false

-- texts of this kind speak of a file
abbrev pub is_of_file : Kind → Bool
is_of_file Held = true
is_of_file kind = is_of_end kind

-- the text speaks of the file with this path
abbrev pub speaks_of : List ℕ → Text → Bool
speaks_of path text = is_of_file text.kind && has_name path text

-- the last that says what is at a path in the end
abbrev pub last_end_text : List Text → List ℕ → Option Text
last_end_text texts path = find (λ text. is_of_end text.kind && has_name path text) (reverse texts)

-- what a path is held to: to that text, or else to the last that says what was there before
abbrev pub end_text : List Text → List ℕ → Option Text
end_text texts path = option_or (last_end_text texts path) (last_text texts Held path)

-- whether what is at a path is what a text says of it
abbrev pub fits : Option (List ℕ) → Text → Bool
fits (Some bytes) text = not (same_kind text.kind Absent) && bytes_eq text.bytes.items bytes
fits None text = same_kind text.kind Absent

abbrev pub fits_said : Option (List ℕ) → Option Text → Bool
fits_said found (Some text) = fits found text
fits_said found None = true

-- whether at a path there is what the texts say
abbrev pub fits_at : List Text → Contents → List ℕ → Bool
fits_at texts files path = fits_said (file_at files path) (end_text texts path)

-- whether at the path of which a text speaks, if it speaks of a file, there is what the texts say
abbrev pub fits_each : List Text → Contents → Text → Bool
fits_each texts files text = not (is_of_file text.kind) || fits_at texts files (string_bytes text.name)

-- whether at each path of which a text speaks there is what the texts say
abbrev pub files_fit : List Text → Contents → Bool
files_fit texts files = list_all (fits_each texts files) texts

-- the number of a peer
abbrev pub peer_named : List ℕ → ℕ
peer_named name = if bytes_eq name (codes "1") then 1 else if bytes_eq name (codes "2") then 2 else 3
