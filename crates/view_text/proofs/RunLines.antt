-- The lines of openings and of the end are those of a run's text.
use Rattle.std.proofs.Common.{◌≡◌, ℕ, List, [], ◌∷◌, ◌++◌, map, refl, sym, ◌∙◌, ap}
use Rattle.std.proofs.lemmas.List.{append_assoc}
use Rattle.std.specs.Prelude.{codes}
use Rattle.std.specs.Fmt.{decimal}
use Rattle.std.specs.List.{flat_map}
use Rattle.sc_text.specs.declared.elements.Element.{Element}
use Rattle.sc_text.specs.declared.end.Ending.{Ending}
use Rattle.sc_text.specs.declared.end.Ending.TheVariants as endings
use Rattle.sc_text.specs.declared.end.End.{End}
use Rattle.sc_text.specs.declared.event.Event.TheVariants as events
use Rattle.sc_text.specs.Elements.{element_text, elements_text}
use Rattle.sc_text.specs.End.{trap_word, owner_digit, ending_text, end_line}
use Rattle.sc_text.specs.Event.{event_line}
use Rattle.proto_core.proofs.Beginnings.{append-none}
use Rattle.view_text.specs.Text.{Opened, Ended, spaced, lines_bytes}

spaced_elements : (w : List ℕ) (es : List Element) →
    spaced (w ∷ map element_text es) ≡ w ++ flat_map (λ element. codes " " ++ element_text element) es
spaced_elements w [] = sym (append-none w)
spaced_elements w (e ∷ es) = ap (λ x. w ++ 32 ∷ x) (spaced_elements (element_text e) es)

pub opened_line : (es : List Element) → lines_bytes (Opened es ∷ []) ≡ event_line (events.Open es)
unfolding event_line elements_text
opened_line es = ap (λ x. x ++ 10 ∷ []) (spaced_elements (codes "open") es)

five : (a b c d e : List ℕ) → a ++ (b ++ (c ++ (d ++ e))) ≡ (((a ++ b) ++ c) ++ d) ++ e
five a b c d e = sym (append_assoc ((a ++ b) ++ c) d e ∙ append_assoc (a ++ b) c (d ++ e) ∙ append_assoc a b (c ++ (d ++ e)))

seven : (a b c d e f g : List ℕ) → a ++ (b ++ (c ++ (d ++ (e ++ (f ++ g))))) ≡ (((((a ++ b) ++ c) ++ d) ++ e) ++ f) ++ g
seven a b c d e f g = five a b c d (e ++ (f ++ g)) ∙ sym (append_assoc ((((a ++ b) ++ c) ++ d) ++ e) f g ∙ append_assoc (((a ++ b) ++ c) ++ d) e (f ++ g))

ended : (how : Ending) (cost : ℕ) → lines_bytes (Ended (record { how = how; cost = cost }) ∷ []) ≡ end_line (record { how = how; cost = cost })
unfolding end_line ending_text
ended endings.Done cost = refl
ended endings.Budget cost = refl
ended (endings.Trap kind line) cost =
    ap (λ x. codes "end trap " ++ (x ++ 10 ∷ [])) (five (trap_word kind) (codes " line ") (decimal line) (codes " cost ") (decimal cost))
ended (endings.Tape owner need have) cost =
    ap (λ x. codes "end tape " ++ (x ++ 10 ∷ []))
    (seven (owner_digit owner) (codes " need ") (decimal need) (codes " have ") (decimal have) (codes " cost ") (decimal cost))

pub ended_line : (e : End) → lines_bytes (Ended e ∷ []) ≡ end_line e
ended_line e = ended e.how e.cost
