-- The reader of a view's text: the view, or the number of the first line that is not as it must be.
use Rattle.std.specs.Prelude.{ℕ, ◌+◌, ◌^◌, ◌==◌, ◌&&◌, true, false, nat_lt, if◌then◌else◌, List, [], ◌∷◌, ◌++◌}
use Rattle.std.specs.Prelude.{codes, drop, slice_index, Option, Some, None, Result, Ok, Err, option_map, option_and_then, bytes_eq}
use Rattle.std.specs.List.{find, slice_split}
use Rattle.std.specs.Fmt.{decimal}
use Rattle.std.specs.Str.Parse.{digits_value}
use Rattle.sc_text.specs.declared.elements.Element.{Element}
use Rattle.sc_text.specs.declared.elements.Element.TheVariants as elements
use Rattle.sc_text.specs.declared.end.TrapKind.{TrapKind}
use Rattle.sc_text.specs.declared.end.TrapKind.TheVariants as kinds
use Rattle.sc_text.specs.declared.end.TapeOwner.{TapeOwner}
use Rattle.sc_text.specs.declared.end.TapeOwner.TheVariants as owners
use Rattle.sc_text.specs.declared.end.Ending.{Ending}
use Rattle.sc_text.specs.declared.end.Ending.TheVariants as endings
use Rattle.sc_text.specs.declared.end.End.{End}
use Rattle.sc_text.specs.Name.{is_name}
use Rattle.sc_text.specs.End.{trap_word, owner_digit}
use Rattle.proto_core.specs.declared.party.Number.{Number}
use Rattle.proto_core.specs.declared.party.Number.TheVariants.{One, Two, Three}
use Rattle.proto_core.specs.declared.link.Link.{Link}
use Rattle.proto_core.specs.declared.link.Link.TheVariants.{Link12, Link13, Link21, Link23, Link31, Link32}
use Rattle.view_text.specs.View.{InputShare, Received, View}
use Rattle.proto_core.specs.Parties.{number_text, link_text}
use Rattle.view_text.specs.Text.{Line, Heading, Input, Drew, Got, Opened, Ended}

-- ---- words

-- decimal digits below a limit, without leading zeros: printed again they are the same
unfoldable pub number_in : ℕ → List ℕ → Option ℕ
number_in limit word =
    let value = digits_value 10 word in
    if nat_lt value limit && bytes_eq (decimal value) word then Some value else None

abbrev pub word_in : List ℕ → Option ℕ
word_in word = number_in (2 ^ 64) word

-- the first of these of which the word is the text
abbrev pub one_of : {A : Type 0} → (A → List ℕ) → List A → List ℕ → Option A
one_of text xs word = find (λ x. bytes_eq (text x) word) xs

abbrev pub miners : List Number
miners = One ∷ Two ∷ Three ∷ []

abbrev pub miner_in : List ℕ → Option Number
miner_in word = one_of number_text miners word

abbrev pub links : List Link
links = Link12 ∷ Link13 ∷ Link21 ∷ Link23 ∷ Link31 ∷ Link32 ∷ []

abbrev pub link_in : List ℕ → Option Link
link_in word = one_of link_text links word

abbrev pub traps : List TrapKind
traps = kinds.Length ∷ kinds.Div ∷ kinds.Index ∷ kinds.Argument ∷ kinds.Depth ∷ kinds.Assert ∷ kinds.Large ∷ []

abbrev pub owners_of_tapes : List TapeOwner
owners_of_tapes = owners.Dealer ∷ owners.Miner1 ∷ owners.Miner2 ∷ owners.Miner3 ∷ []

-- the decimal text of a number from 1 to 2^63
abbrev pub below_in : List ℕ → Option ℕ
below_in digits = option_and_then (λ n. if n == 0 then None else Some n) (number_in (2 ^ 63 + 1) digits)

-- a word, or `-` and by how much the number is below 0
abbrev pub signed_in : List ℕ → Option Element
signed_in word =
    if slice_index word 0 == 45 then option_map elements.Negative (below_in (drop 1 word))
    else option_map elements.Word (word_in word)

abbrev pub element_in : List ℕ → Option Element
element_in word =
    if bytes_eq (codes "true") word then Some (elements.Truth true)
    else if bytes_eq (codes "false") word then Some (elements.Truth false)
    else signed_in word

abbrev pub all_in : {A : Type 0} → (List ℕ → Option A) → List (List ℕ) → Option (List A)
all_in one [] = Some []
all_in one (w ∷ ws) = option_and_then (λ x. option_map (λ xs. x ∷ xs) (all_in one ws)) (one w)

abbrev pub name_in : List ℕ → Option (List ℕ)
name_in word = if is_name word then Some word else None

abbrev pub fixed : List ℕ → List ℕ → Option (Unit {0})
fixed text word = if bytes_eq text word then Some tt else None

-- ---- lines

infixl 10 ◌>>=◌
abbrev pub ◌>>=◌ : {A B : Type 0} → Option A → (A → Option B) → Option B
o >>= f = option_and_then f o

abbrev pub cost_in : Ending → (cost_word cost : List ℕ) → Option End
cost_in how cost_word cost = do
  _ ← fixed (codes "cost") cost_word
  charge ← word_in cost
  Some (record { how = how; cost = charge })

abbrev pub trap_end_in : (kind line_word line cost_word cost : List ℕ) → Option End
trap_end_in kind line_word line cost_word cost = do
  trap ← one_of trap_word traps kind
  _ ← fixed (codes "line") line_word
  number ← number_in (2 ^ 32) line
  cost_in (endings.Trap trap number) cost_word cost

abbrev pub tape_end_in : (owner need_word need have_word have cost_word cost : List ℕ) → Option End
tape_end_in owner need_word need have_word have cost_word cost = do
  whose ← one_of owner_digit owners_of_tapes owner
  _ ← fixed (codes "need") need_word
  needed ← number_in (2 ^ 128) need
  _ ← fixed (codes "have") have_word
  there ← word_in have
  cost_in (endings.Tape whose needed there) cost_word cost

abbrev pub end_in : List (List ℕ) → Option End
end_in (word ∷ cost_word ∷ cost ∷ []) =
    if bytes_eq (codes "done") word then cost_in endings.Done cost_word cost
    else if bytes_eq (codes "budget") word then cost_in endings.Budget cost_word cost
    else None
end_in (word ∷ kind ∷ line_word ∷ line ∷ cost_word ∷ cost ∷ []) =
    if bytes_eq (codes "trap") word then trap_end_in kind line_word line cost_word cost else None
end_in (word ∷ owner ∷ need_word ∷ need ∷ have_word ∷ have ∷ cost_word ∷ cost ∷ []) =
    if bytes_eq (codes "tape") word then tape_end_in owner need_word need have_word have cost_word cost else None
end_in _ = None

abbrev pub heading_in : List (List ℕ) → Option Line
heading_in (w ∷ []) = option_map Heading (miner_in w)
heading_in _ = None

abbrev pub input_in : List (List ℕ) → Option Line
input_in [] = None
input_in (w ∷ ws) = do
  name ← name_in w
  words ← all_in word_in ws
  Some (Input (record { name = name; words = words }))

abbrev pub got_in : List (List ℕ) → Option Line
got_in [] = None
got_in (w ∷ ws) = do
  link ← link_in w
  message ← all_in word_in ws
  Some (Got (record { link = link; message = message }))

-- the line of these words
abbrev pub line_in : List (List ℕ) → Option Line
line_in [] = None
line_in (w ∷ ws) =
    if bytes_eq (codes "view") w then heading_in ws
    else if bytes_eq (codes "in") w then input_in ws
    else if bytes_eq (codes "drew") w then option_map Drew (all_in word_in ws)
    else if bytes_eq (codes "got") w then got_in ws
    else if bytes_eq (codes "open") w then option_map Opened (all_in element_in ws)
    else if bytes_eq (codes "end") w then option_map Ended (end_in ws)
    else None

-- ---- the order of the lines

-- what was read: nothing yet, the heading and inputs, the words drawn, messages and openings, or all
pub data Stage : Type 0 where
  AtHeading : Stage
  AtInputs : Number → List InputShare → Stage
  AtMessages : Number → List InputShare → List ℕ → List Received → Stage
  AtOpenings : Number → List InputShare → List ℕ → List Received → List (List Element) → Stage
  Whole : View → Stage

abbrev pub next_stage : Stage → Line → Option Stage
next_stage AtHeading (Heading i) = Some (AtInputs i [])
next_stage (AtInputs i ss) (Input s) = Some (AtInputs i (ss ++ s ∷ []))
next_stage (AtInputs i ss) (Drew ws) = Some (AtMessages i ss ws [])
next_stage (AtMessages i ss ws rs) (Got r) = Some (AtMessages i ss ws (rs ++ r ∷ []))
next_stage (AtMessages i ss ws rs) (Opened es) = Some (AtOpenings i ss ws rs (es ∷ []))
next_stage (AtMessages i ss ws rs) (Ended e) = Some (Whole (record { miner = i; inputs = ss; drew = ws; got = rs; opened = []; end = e }))
next_stage (AtOpenings i ss ws rs os) (Opened es) = Some (AtOpenings i ss ws rs (os ++ es ∷ []))
next_stage (AtOpenings i ss ws rs os) (Ended e) = Some (Whole (record { miner = i; inputs = ss; drew = ws; got = rs; opened = os; end = e }))
next_stage _ _ = None

abbrev pub words_in_line : List ℕ → List (List ℕ)
words_in_line l = slice_split (λ x. x == 32) l

abbrev pub lines_in : List ℕ → List (List ℕ)
lines_in bytes = slice_split (λ x. x == 10) bytes

-- after the last newline nothing may stand, and before it all must have come
abbrev pub at_the_end : ℕ → Stage → List ℕ → Result View ℕ
at_the_end k (Whole v) [] = Ok v
at_the_end k stage rest = Err k

-- where the line can't come at this place, its number
abbrev pub or_fault : ℕ → Option Stage → (Stage → Result View ℕ) → Result View ℕ
or_fault k None more = Err k
or_fault k (Some stage) more = more stage

abbrev pub read_from : ℕ → Stage → List (List ℕ) → Result View ℕ
read_from k stage [] = Err k
read_from k stage (l ∷ []) = at_the_end k stage l
read_from k stage (l ∷ m ∷ ms) =
    or_fault k (option_and_then (next_stage stage) (line_in (words_in_line l))) (λ next. read_from (k + 1) next (m ∷ ms))

unfoldable pub read_view_of : List ℕ → Result View ℕ
read_view_of bytes = read_from 1 AtHeading (lines_in bytes)
