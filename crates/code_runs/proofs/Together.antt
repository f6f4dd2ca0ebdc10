-- What three miners tell that tell events, put together, is these events.
use Rattle.std.proofs.Common.{◌≡◌, ℕ, suc, ◌<◌, List, [], ◌∷◌, length, refl, sym, ◌∙◌, ap, arith}
use Rattle.sc_text.specs.declared.event.Event.{Event}
use Rattle.sc_text.specs.declared.event.Event.TheVariants.{Open, Publish, Hand}
use Rattle.proto_core.specs.declared.party.Number.{Number}
use Rattle.proto_core.specs.declared.party.Number.TheVariants.{One, Two, Three}
use Rattle.proto_core.specs.Ring.{Ring}
use Rattle.proto_core.specs.Rings.{add_ring, xor_ring}
use Rattle.proto_core.specs.Lists.{at}
use Rattle.proto_core.specs.Strand.{ElementType, Unsigned, Signed, TruthValue, Notice}
use Rattle.gates.specs.Clear.{ring_of}
use Rattle.gates.specs.Gathered.{packed, unpacked}
use Rattle.gates.proofs.Packing.{unpacked-packed}
use Rattle.shared_gates.specs.Shares.{sum_of, AreShares}
use Rattle.language_model.specs.Values.{ring_for, gate_words}
use Rattle.gate_laws.specs.Dealt.{InRange}
use Rattle.code_runs.specs.Telling.{type_of, elements_told, kind_told, Tells, nothing, opened, published, handed}
use Rattle.code_runs.specs.ClientTold.{words_added_up, all_added_up, told_together}
use Rattle.code_runs.specs.ClientLaws.{ToldTogetherAreTheEvents}

-- ---- SHARES

-- the three words at each index add up to this word
abbrev AddUp : Ring → (words xs ys zs : List ℕ) → Type 0
AddUp r words xs ys zs = (k : ℕ) → k < length words → sum_of r (at xs k) (at ys k) (at zs k) ≡ at words k

zero_less : (n : ℕ) → 0 < suc n
zero_less n = omega arith

no_less : (n : ℕ) → suc n ≡ 0 → ⊥
no_less n e = omega (arith, e)

added_words :
    (r : Ring) (words xs ys zs : List ℕ) → length xs ≡ length words → length ys ≡ length words → length zs ≡ length words
    → AddUp r words xs ys zs → words_added_up r xs ys zs ≡ words
added_words r [] [] ys zs a b e h = refl
added_words r [] (x ∷ xs) ys zs a b e h = absurd (no_less (length xs) a)
added_words r (w ∷ words) [] ys zs a b e h = absurd (no_less (length words) (sym a))
added_words r (w ∷ words) (x ∷ xs) [] zs a b e h = absurd (no_less (length words) (sym b))
added_words r (w ∷ words) (x ∷ xs) (y ∷ ys) [] a b e h = absurd (no_less (length words) (sym e))
added_words r (w ∷ words) (x ∷ xs) (y ∷ ys) (z ∷ zs) a b e h =
    let first : sum_of r x y z ≡ w = h 0 (zero_less (length words)) in
    let rest : words_added_up r xs ys zs ≡ words =
    added_words r words xs ys zs (omega (arith, a)) (omega (arith, b)) (omega (arith, e)) (λ k l. h (suc k) (omega (arith, l))) in
    ap (λ v. v ∷ words_added_up r xs ys zs) first ∙ ap (λ vs. w ∷ vs) rest

shared_words :
    (r : Ring) (words : List ℕ) (shares : Number → List ℕ) → AreShares r words shares
    → words_added_up r (shares One) (shares Two) (shares Three) ≡ words
shared_words r words shares are =
    added_words r words (shares One) (shares Two) (shares Three) (are.sizes One) (are.sizes Two) (are.sizes Three) are.sum

-- shares of the words of elements come to the elements
shares_add_up :
    (f : ElementType) (words : List ℕ) (shares : Number → List ℕ) → InRange (type_of f) words
    → AreShares (ring_of (ring_for (type_of f))) (gate_words (type_of f) words) shares
    → all_added_up f (length words) (shares One) (shares Two) (shares Three) ≡ words
shares_add_up Unsigned words shares range are = shared_words add_ring words shares are
shares_add_up Signed words shares range are = shared_words add_ring words shares are
shares_add_up TruthValue words shares range are =
    ap (λ ws. unpacked ws (length words)) (shared_words xor_ring (packed words) shares are) ∙ unpacked-packed words range

-- ---- EVENTS

first_event : (e f : Event) (es fs : List Event) → e ≡ f → es ≡ fs → e ∷ es ≡ f ∷ fs
first_event e f es fs p q = ap (λ v. v ∷ es) p ∙ ap (λ vs. f ∷ vs) q

together : {events : List Event} {notices : Number → List Notice} → Tells events notices → told_together notices ≡ events
together nothing = refl
together (opened {events = events} form words range h) = ap (λ (es : List Event). Open (elements_told form words) ∷ es) (together h)
together (published {events = events} text form words range h) = ap (λ (es : List Event). Publish text (elements_told form words) ∷ es) (together h)
together (handed {events = events} text form words shares range are h) =
    first_event _ _ _ events (ap (λ ws. Hand text (kind_told form) (elements_told form ws)) (shares_add_up form.element words shares range are)) (together h)

pub told_together_are_the_events : ToldTogetherAreTheEvents
told_together_are_the_events events notices h = together h
