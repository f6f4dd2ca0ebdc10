-- The lines of what a run opened, event by event.
use Rattle.std.proofs.Common.{◌≡◌, ◌<◌, ℕ, ◌+◌, List, [], ◌∷◌, ◌++◌, length, map, take, get_or, refl, sym, ◌∙◌, ap}
use Rattle.std.proofs.lemmas.List.{map-append, take_more}
use Rattle.sc_text.specs.declared.elements.Element.{Element}
use Rattle.sc_text.specs.declared.event.Event.{Event}
use Rattle.sc_text.specs.declared.event.Event.TheVariants.{Open, Publish, Hand}
use Rattle.sc_text.specs.Elements.{elements_text}
use Rattle.sc_text.specs.Event.{event_line}
use Rattle.view_text.specs.Text.{Opened, lines_bytes}
use Rattle.view_text.proofs.RunLines.{opened_line}
use Rattle.view_text.proofs.StagesRead.{lines_append}
use Rattle.view_reader.specs.Opened.{opened_bytes}
use Rattle.tape_twin.specs.Views.{openings}

-- one event more
openings_more : (es : List Event) (e : Event) → openings (es ++ e ∷ []) ≡ openings es ++ openings (e ∷ [])
openings_more [] e = refl
openings_more (Open elements ∷ es) e = ap (λ (os : List (List Element)). elements ∷ os) (openings_more es e)
openings_more (Publish text elements ∷ es) e = openings_more es e
openings_more (Hand text kind elements ∷ es) e = openings_more es e

one_line_more : (os : List (List Element)) (elements : List Element)
    → opened_bytes (os ++ elements ∷ []) ≡ opened_bytes os ++ 111 ∷ 112 ∷ 101 ∷ 110 ∷ (elements_text elements ++ 10 ∷ [])
unfolding event_line
one_line_more os elements =
    ap lines_bytes (map-append Opened os (elements ∷ []))
    ∙ lines_append (map Opened os) (Opened elements ∷ [])
    ∙ ap (λ (line : List ℕ). opened_bytes os ++ line) (opened_line elements)

taken_more : (events : List Event) (k : ℕ) (d e : Event) → k < length events → e ≡ get_or events k d
    → openings (take (k + 1) events) ≡ openings (take k events) ++ openings (e ∷ [])
taken_more events k d e lt is =
    ap openings (take_more events k d lt ∙ ap (λ (x : Event). take k events ++ x ∷ []) (sym is)) ∙ openings_more (take k events) e

pub opening_told : (events : List Event) (k : ℕ) (d e : Event) (elements : List Element) → k < length events → e ≡ get_or events k d → e ≡ Open elements
    → opened_bytes (openings (take (k + 1) events))
    ≡ opened_bytes (openings (take k events)) ++ 111 ∷ 112 ∷ 101 ∷ 110 ∷ (elements_text elements ++ 10 ∷ [])
opening_told events k d e elements lt is opens =
    ap opened_bytes (taken_more events k d e lt is ∙ ap (λ (x : Event). openings (take k events) ++ openings (x ∷ [])) opens)
    ∙ one_line_more (openings (take k events)) elements

-- only an opening opens anything
pub none_opened : (e : Event) → ((elements : List Element) → e ≡ Open elements → ⊥) → openings (e ∷ []) ≡ []
none_opened (Open elements) h = absurd (h elements refl)
none_opened (Publish text elements) h = refl
none_opened (Hand text kind elements) h = refl

pub none_told : (events : List Event) (k : ℕ) (d e : Event) → k < length events → e ≡ get_or events k d → openings (e ∷ []) ≡ []
    → opened_bytes (openings (take (k + 1) events)) ≡ opened_bytes (openings (take k events))
none_told events k d e lt is none =
    ap opened_bytes
    (taken_more events k d e lt is ∙ ap (λ (os : List (List Element)). openings (take k events) ++ os) none ∙ nothing_behind (openings (take k events)))
  where
    nothing_behind : (os : List (List Element)) → os ++ [] ≡ os
    nothing_behind [] = refl
    nothing_behind (o ∷ os) = ap (λ (xs : List (List Element)). o ∷ xs) (nothing_behind os)
