-- What must come of a call of the program where one call of an object fails, by what comes of it where that call does not.
use Rattle.std.specs.Prelude.{ℕ, ◌+◌, List, [], ◌++◌, Bool, true, false}
use Rattle.std.specs.Prelude.{◌&&◌, ◌||◌, ◌==◌, nat_eq, if◌then◌else◌, length, take, drop, slice_get}
use Rattle.std.specs.Prelude.{Option, None, Some, option_map, string_bytes, codes}
use Rattle.std.specs.List.{flat_map, list_all, list_any, starts_with}
use Rattle.std.specs.Str.{bytes_eq}
use Rattle.outside.specs.Files.{file_at}
use Rattle.outside.specs.MemFiles.{files_in, log_in, plan_in as files_plan}
use Rattle.outside.specs.MemLinks.{links_sent, plan_in as links_plan}
use Rattle.outside.specs.MemSink.{bytes_in, plan_in as sink_plan}
use Rattle.outside.specs.MemSpawner.{calls_in, plan_in as children_plan}
use Rattle.outside.specs.Spawner.{ChildCall, started, awaited}
use Rattle.outside.specs.declared.file_call.FileAction.{FileAction}
use Rattle.outside.specs.declared.file_call.FileAction.TheVariants.{Read, Write, Size, ReadAt, Append}
use Rattle.row_files.specs.Calls.{calls_told}
use Rattle.row_files.specs.Texts.{last_text}
use Rattle.row_files.specs.declared.compared.Outcome.{Outcome}
use Rattle.row_faults.specs.declared.faulted.Extent.{Extent}
use Rattle.row_faults.specs.declared.faulted.Extent.TheVariants.{Nothing, Front, Whole}
use Rattle.row_files.specs.declared.row.Failing.{Failing}
use Rattle.row_files.specs.declared.row.Kind.TheVariants.{Held}
use Rattle.row_files.specs.declared.row.Object.{Object}
use Rattle.row_files.specs.declared.row.Object.TheVariants.{Files, Out, Err, Links, Children}
use Rattle.row_files.specs.declared.row.Row.{Row}
use Rattle.row_files.specs.declared.row.Text.{Text}

-- the calls of a store: what each does, and the path that it names
abbrev pub FileCalls : Type 0
FileCalls = List (FileAction × List ℕ)

-- whether these bytes are none, a front, or all of those that come where nothing fails
abbrev pub is_extent : Extent → List ℕ → List ℕ → Bool
is_extent Nothing whole found = bytes_eq [] found
is_extent Front whole found = starts_with nat_eq whole found
is_extent Whole whole found = bytes_eq whole found

-- the status that tells of the object; the error stream's faults change none
abbrev pub fault_status : Object → ℕ → ℕ
fault_status Files status = 9
fault_status Out status = 16
fault_status Err status = status
fault_status Links status = 10
fault_status Children status = 12

-- how much is printed
abbrev pub printed_extent : Object → Extent
printed_extent Files = Nothing
printed_extent Out = Front
printed_extent Err = Whole
printed_extent Links = Nothing
printed_extent Children = Nothing

-- how much is done before: files that are read and written, what peers are sent
abbrev pub done_extent : Object → Extent
done_extent Files = Front
done_extent Out = Whole
done_extent Err = Whole
done_extent Links = Front
done_extent Children = Front

-- what the line says that tells of a file
abbrev pub file_line : Option (List ℕ) → List ℕ
file_line (Some path) = codes "error: file " ++ path ++ codes "\n"
file_line None = []

-- the path that the call of this number names
abbrev pub path_at : FileCalls → ℕ → Option (List ℕ)
path_at calls call = option_map (λ it. it.1) (slice_get calls call)

-- the line that tells of the object; of files the path that the call names
abbrev pub fault_line : Object → Option (List ℕ) → List ℕ
fault_line Files path = file_line path
fault_line Out path = codes "error: write\n"
fault_line Err path = []
fault_line Links path = codes "error: link\n"
fault_line Children path = codes "error: child\n"

-- whether the error stream has that line, or where it is the one that fails a front of what it had
abbrev pub is_line : Object → List ℕ → List ℕ → List ℕ → Bool
is_line Err line good found = starts_with nat_eq good found
is_line Files line good found = bytes_eq line found
is_line Out line good found = bytes_eq line found
is_line Links line good found = bytes_eq line found
is_line Children line good found = bytes_eq line found

-- whether a call of a store changes the file that it names
abbrev pub changes : FileAction → Bool
changes Read = false
changes Write = true
changes Size = false
changes ReadAt = false
changes Append = true

-- whether a call changes the file with this path
abbrev pub changes_it : List ℕ → FileAction × List ℕ → Bool
changes_it path call = changes call.0 && bytes_eq call.1 path

-- whether one of the calls does
abbrev pub is_changed : FileCalls → List ℕ → Bool
is_changed calls path = list_any (changes_it path) calls

-- whether the same is at a path
abbrev pub same_bytes : Option (List ℕ) → Option (List ℕ) → Bool
same_bytes (Some one) (Some other) = bytes_eq one other
same_bytes (Some one) None = false
same_bytes None (Some other) = false
same_bytes None None = true

-- whether at a path there is what must be there once so many of the calls were made: what was there first, until a call changes it; what
-- comes in the end, if no later call changes it; else any bytes
abbrev pub holds_then : FileCalls → ℕ → Option (List ℕ) → Option (List ℕ) → Option (List ℕ) → List ℕ → Bool
holds_then calls made first last found path =
    if is_changed (take made calls) path
    then is_changed (drop made calls) path || same_bytes last found
    else same_bytes first found

-- what a call finds at a path
abbrev pub held_at : List Text → List ℕ → Option (List ℕ)
held_at texts path = option_map (λ text. text.bytes.items) (last_text texts Held path)

abbrev pub fits_then : Row → Outcome → ℕ → Outcome → List ℕ → Bool
fits_then row good made found path =
    holds_then (log_in good.files) made (held_at row.texts.items path) (file_at (files_in good.files) path) (file_at (files_in found.files) path) path

-- whether that is so at each path that the row or a call names
abbrev pub files_fit_then : Row → Outcome → ℕ → Outcome → Bool
files_fit_then row good made found =
    list_all (λ text. fits_then row good made found (string_bytes text.name)) row.texts.items
    && list_all (λ call. fits_then row good made found call.1) (log_in good.files)

-- how many calls of files come before the fault: of all; those of peers come before the first that writes
abbrev pub made_before : Object → ℕ → ℕ → ℕ → ℕ
made_before Files call found all = call
made_before Out call found all = all
made_before Err call found all = all
made_before Links call found all = 0
made_before Children call found all = found

-- a call of a store as a line: what it does, and the path
abbrev pub action_word : FileAction → List ℕ
action_word Read = codes "read "
action_word Write = codes "write "
action_word Size = codes "size "
action_word ReadAt = codes "read_at "
action_word Append = codes "append "

abbrev pub file_call_told : FileAction × List ℕ → List ℕ
file_call_told call = action_word call.0 ++ call.1 ++ codes "\n"

abbrev pub file_calls_told : FileCalls → List ℕ
file_calls_told calls = flat_map file_call_told calls

-- the lines of the calls of children that are answered where this one, of this number, fails: after a child that was not started no other is
-- started or waited for; where one cannot be waited for all others are
abbrev pub told_without : List ChildCall → ℕ → Option ChildCall → List ℕ
told_without calls call (Some (started words child)) = calls_told (take call calls)
told_without calls call (Some (awaited child)) = calls_told (take call calls) ++ calls_told (drop (call + 1) calls)
told_without calls call None = calls_told calls

abbrev pub answered_told : List ChildCall → ℕ → List ℕ
answered_told calls call = told_without calls call (slice_get calls call)

-- whether the calls of children are those
abbrev pub are_answered : Object → ℕ → List ChildCall → List ChildCall → Bool
are_answered Files call good found = starts_with nat_eq (calls_told good) (calls_told found)
are_answered Out call good found = bytes_eq (calls_told good) (calls_told found)
are_answered Err call good found = bytes_eq (calls_told good) (calls_told found)
are_answered Links call good found = starts_with nat_eq (calls_told good) (calls_told found)
are_answered Children call good found = bytes_eq (answered_told good call) (calls_told found)

-- how many calls of an object were made
abbrev pub calls_made : Object → Outcome → ℕ
calls_made Files it = (files_plan it.files).calls
calls_made Out it = (sink_plan it.out).calls
calls_made Err it = (sink_plan it.err).calls
calls_made Links it = (links_plan it.links).calls
calls_made Children it = (children_plan it.children).calls

-- whether the call that failed was the object's last, or it was a wait for a child, after which all others are waited for
abbrev pub is_last : Object → ℕ → Outcome → Outcome → Bool
is_last Files call good found = calls_made Files found == call + 1
is_last Out call good found = calls_made Out found == call + 1
is_last Err call good found = calls_made Err found == call + 1
is_last Links call good found = calls_made Links found == call + 1
is_last Children call good found = true

abbrev pub is_sent_extent : Object → Outcome → Outcome → ℕ → Bool
is_sent_extent object good found peer = is_extent (done_extent object) (links_sent good.links peer) (links_sent found.links peer)

-- whether that is so of each peer
abbrev pub are_sent : Object → Outcome → Outcome → Bool
are_sent object good found = is_sent_extent object good found 1 && is_sent_extent object good found 2 && is_sent_extent object good found 3

-- whether the status, the output and the error stream, on which this line tells of the fault, are as they must be
abbrev pub is_told_so : Object → List ℕ → Outcome → Outcome → Bool
is_told_so object line good found =
    found.status == fault_status object good.status
    && is_extent (printed_extent object) (bytes_in good.out) (bytes_in found.out)
    && is_line object line (bytes_in good.err) (bytes_in found.err)

-- whether a call in which one call of an object failed came to what it must
abbrev pub agrees_with_fault : Row → Outcome → Failing → Outcome → Bool
agrees_with_fault row good failing found =
    let object = failing.object in
    let calls = log_in good.files in
    is_told_so object (fault_line object (path_at calls failing.call)) good found
    && files_fit_then row good (made_before object failing.call (length (log_in found.files)) (length calls)) found
    && is_extent (done_extent object) (file_calls_told calls) (file_calls_told (log_in found.files))
    && are_sent object good found
    && are_answered object failing.call (calls_in good.children) (calls_in found.children)
    && is_last object failing.call good found
