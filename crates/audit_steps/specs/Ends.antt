-- The last lines of a view: what was opened, opening by opening, and how the run ended.
use Rattle.std.specs.Prelude.{ℕ, ◌==◌, ◌&&◌, Bool, true, false, if◌then◌else◌, List, [], ◌∷◌, drop, Option, Some, None}
use Rattle.std.specs.Str.{bytes_eq}
use Rattle.std.specs.Cmp.Lexicographic.{pointwise}
use Rattle.sc_text.specs.declared.elements.Element.{Element}
use Rattle.sc_text.specs.declared.elements.Element.TheVariants as elements
use Rattle.sc_text.specs.declared.event.Event.{Event}
use Rattle.sc_text.specs.declared.event.Event.TheVariants.{Open, Publish, Hand}
use Rattle.sc_text.specs.declared.end.Ending.{Ending}
use Rattle.sc_text.specs.declared.end.Ending.TheVariants as endings
use Rattle.sc_text.specs.declared.end.End.{End}
use Rattle.sc_text.specs.End.{trap_word, owner_digit}
use Rattle.audit_steps.specs.Places.{one_later}

-- ---- equal lines

abbrev pub same_element : Element → Element → Bool
same_element (elements.Word n) (elements.Word m) = n == m
same_element (elements.Negative n) (elements.Negative m) = n == m
same_element (elements.Truth true) (elements.Truth true) = true
same_element (elements.Truth false) (elements.Truth false) = true
same_element _ _ = false

abbrev pub same_elements : List Element → List Element → Bool
same_elements es others = pointwise same_element es others

-- traps by their words, and tapes by the digits of their owners
abbrev pub same_ending : Ending → Ending → Bool
same_ending endings.Done endings.Done = true
same_ending (endings.Trap kind line) (endings.Trap other at) = bytes_eq (trap_word kind) (trap_word other) && (line == at)
same_ending endings.Budget endings.Budget = true
same_ending (endings.Tape owner need have) (endings.Tape other wanted there) =
    bytes_eq (owner_digit owner) (owner_digit other) && ((need == wanted) && (have == there))
same_ending _ _ = false

abbrev pub same_end : End → End → Bool
same_end end other = same_ending end.how other.how && (end.cost == other.cost)

-- ---- the lines in order

-- the first of these openings is there, and is this one
abbrev pub is_first_opening : List Element → List (List Element) → Bool
is_first_opening elements [] = false
is_first_opening elements (o ∷ os) = same_elements elements o

abbrev pub end_then : (end shown : End) → List (List Element) → Option ℕ
end_then end shown [] = if same_end end shown then None else Some 0
end_then end shown (o ∷ os) = Some 0

-- of events only openings have a line, each the first of these
abbrev pub event_then : Event → List (List Element) → (List (List Element) → Option ℕ) → Option ℕ
event_then (Open elements) opened more = if is_first_opening elements opened then one_later (more (drop 1 opened)) else Some 0
event_then (Publish name elements) opened more = more opened
event_then (Hand name kind elements) opened more = more opened

-- the place of the first line that isn't as events and end tell, among the lines of these openings and the line of this end after them
abbrev pub wrong_end_at : List Event → (end shown : End) → List (List Element) → Option ℕ
wrong_end_at [] end shown opened = end_then end shown opened
wrong_end_at (e ∷ es) end shown opened = event_then e opened (λ rest. wrong_end_at es end shown rest)
