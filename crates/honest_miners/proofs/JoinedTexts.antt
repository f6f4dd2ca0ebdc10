-- The lines of three miners that tell events are put together to the lines of the events.
use Rattle.std.proofs.Common.{◌≡◌, ℕ, ◌+◌, ◌<◌, ◌≤◌, ◌^◌, Bool, true, List, [], ◌∷◌, ◌++◌, length, map, refl, sym, ◌∙◌, ap, append_assoc, arith}
use Rattle.std.specs.Prelude.{◌==◌, ◌&&◌, bytes_eq, Option, Some, None, Result, Ok, if◌then◌else◌}
use Rattle.std.specs.List.{flat_map}
use Rattle.std.specs.Option.{option_or}
use Rattle.std.proofs.lemmas.Bool.Decides.{Decides-eqb}
use Rattle.std.proofs.lemmas.List.{length-map}
use Rattle.std.proofs.lemmas.Slice.Eq.{bytes_eq-Decides}
use Rattle.sc_text.specs.declared.end.End.{End}
use Rattle.sc_text.specs.declared.event.Event.{Event}
use Rattle.sc_text.specs.declared.event.Event.TheVariants.{Open, Publish, Hand}
use Rattle.sc_text.specs.End.{end_line}
use Rattle.sc_text.specs.Event.{event_line, run_text}
use Rattle.proto_core.specs.declared.party.Number.{Number}
use Rattle.proto_core.specs.declared.party.Number.TheVariants.{One, Two, Three}
use Rattle.proto_core.specs.Strand.{ElementType, Unsigned, Signed, TruthValue, Form, Notice, Handed}
use Rattle.shared_gates.specs.Shares.{AreShares}
use Rattle.gates.proofs.Packing.{length-packed}
use Rattle.language_model.specs.Values.{element_of, gate_words}
use Rattle.code_runs.specs.Places.{element_type_of}
use Rattle.code_runs.specs.Telling.{type_of, elements_told, kind_told, ring_told, AreOf, Tells, nothing, opened, published, handed}
use Rattle.code_runs.specs.ClientTold.{all_added_up}
use Rattle.code_runs.proofs.Together.{told_together_are_the_events}
use Rattle.miner_text.specs.Lines.{type_word, line_text, text_of}
use Rattle.miner_text.specs.Texts.{AreHeld, IsEnd, IsText}
use Rattle.view_laws.specs.Named.{AreNamed}
use Rattle.view_laws.proofs.Openings.{elements_are}
use Rattle.view_laws.proofs.Shares.{are_words}
use Rattle.miner_text.specs.declared.line.MinerLine.{MinerLine}
use Rattle.miner_text.specs.declared.line.MinerLine.TheVariants as lines
use Rattle.miner_text.proofs.Rounds.{read_again}
use Rattle.node_run.specs.Told.{line_told, lines_told}
use Rattle.trio.specs.Joining.{Joined, Difference, alike, differs, first_difference, joined_line, words_in}
use Rattle.trio.specs.Joining.{end_of, longer, in_front, unless, joined_from, joined_of}
use Rattle.trio.specs.Answers.{named, text_in, and_then, or_difference, join_third, join_second}
use Rattle.honest_miners.specs.Texts.{ArePaid, TextsOfARunAreItsText}

-- ---- three lines that are alike

bytes_same : (xs : List ℕ) → bytes_eq xs xs ≡ true
bytes_same xs = (bytes_eq-Decides xs xs).1 refl

no_difference : (k : ℕ) (l m n : MinerLine) → alike l m ≡ true → alike l n ≡ true → first_difference k l (Some m) (Some n) ≡ None
no_difference k l m n e f =
    let shown : MinerLine → Difference = λ o. record { line = k; first = line_text l; second = line_text o } in
    ap (λ b. option_or (if b then None else Some (shown m)) (differs k l (Some n))) e
    ∙ ap (λ b. if b then None else Some (shown n)) f

step : (k : ℕ) (l m n : MinerLine) (ls ms ns : List MinerLine) → alike l m ≡ true → alike l n ≡ true →
    joined_from k (l ∷ ls) (m ∷ ms) (n ∷ ns) ≡ in_front (end_of l) (joined_line l (words_in (Some m)) (words_in (Some n))) (joined_from (k + 1) ls ms ns)
step k l m n ls ms ns e f =
    ap (λ o. unless o (in_front (end_of l) (joined_line l (words_in (Some m)) (words_in (Some n))) (joined_from (k + 1) ls ms ns))) (no_difference k l m n e f)

event_alike : (event : Event) → alike (lines.Told event) (lines.Told event) ≡ true
event_alike event = bytes_same (line_text (lines.Told event))

end_alike : (end : End) → alike (lines.Ended end) (lines.Ended end) ≡ true
end_alike end = bytes_same (line_text (lines.Ended end))

and_true : (a b c d : Bool) → a ≡ true → b ≡ true → c ≡ true → d ≡ true → (a && b && c && d) ≡ true
and_true a b c d e f g h = ap (λ x. x && b && c && d) e ∙ ap (λ x. x && c && d) f ∙ ap (λ x. x && d) g ∙ h

eq_same : (n : ℕ) → (n == n) ≡ true
eq_same n = (Decides-eqb n n).1 refl

share_alike : (text : List ℕ) (form : Form) (count : ℕ) (xs ys : List ℕ) → length xs ≡ length ys →
    alike (line_told (Handed text form count xs)) (line_told (Handed text form count ys)) ≡ true
share_alike text form count xs ys e =
    and_true (bytes_eq text text) (bytes_eq (type_word (type_of form.element)) (type_word (type_of form.element))) (count == count) (length xs == length ys)
    (bytes_same text) (bytes_same (type_word (type_of form.element))) (eq_same count) (ap (λ n. length xs == n) (sym e) ∙ eq_same (length xs))

-- ---- the value of three shares

same_head : (e f : Event) → e ∷ [] ≡ f ∷ [] → e ≡ f
same_head e f h = cc

type_back : (e : ElementType) → element_type_of (type_of e) ≡ e
type_back Unsigned = refl
type_back Signed = refl
type_back TruthValue = refl

-- each miner's share of a value of these elements
abbrev AreSharesOf : Form → List ℕ → (Number → List ℕ) → Type 0
AreSharesOf form words shares = AreShares (ring_told form) (gate_words (type_of form.element) words) shares

shares_told : (text : List ℕ) (form : Form) (words : List ℕ) (shares : Number → List ℕ) → AreOf form words → AreSharesOf form words shares →
    Hand text (kind_told form) (elements_told form (all_added_up form.element (length words) (shares One) (shares Two) (shares Three)))
    ≡ Hand text (kind_told form) (elements_told form words)
shares_told text form words shares range are =
    same_head _ _ (told_together_are_the_events _ _ (handed text form words shares range are nothing))

share_joined : (text : List ℕ) (form : Form) (words : List ℕ) (shares : Number → List ℕ) → AreOf form words → AreSharesOf form words shares →
    joined_line (line_told (Handed text form (length words) (shares One))) (shares Two) (shares Three)
    ≡ event_line (Hand text (kind_told form) (elements_told form words))
share_joined text form words shares range are =
    ap (λ f. event_line (Hand text (kind_told form) (map (element_of (type_of form.element)) (all_added_up f (length words) (shares One) (shares Two) (shares Three)))))
    (type_back form.element)
    ∙ ap event_line (shares_told text form words shares range are)

-- ---- all lines

abbrev lines_of : (Number → List Notice) → End → Number → List MinerLine
lines_of notices end i = lines_told (notices i) end

longer_is : (bytes text : List ℕ) (end : End) (r : Result Joined Difference) → r ≡ Ok (record { text = text; end = end }) →
    longer bytes r ≡ Ok (record { text = bytes ++ text; end = end })
longer_is bytes text end r e = ap (longer bytes) e

run_more : (event : Event) (events : List Event) (end : End) → event_line event ++ run_text events end ≡ run_text (event ∷ events) end
unfolding run_text
run_more event events end = sym (append_assoc (event_line event) (flat_map event_line events) (end_line end))

put_front : (event : Event) (events : List Event) (end : End) (bytes : List ℕ) (r : Result Joined Difference) → bytes ≡ event_line event →
    r ≡ Ok (record { text = run_text events end; end = end }) → longer bytes r ≡ Ok (record { text = run_text (event ∷ events) end; end = end })
put_front event events end bytes r is e =
    longer_is bytes (run_text events end) end r e
    ∙ ap (λ (text : List ℕ). Ok (record { text = text; end = end })) (ap (λ b. b ++ run_text events end) is ∙ run_more event events end)

told_line : (event : Event) → line_text (lines.Told event) ≡ event_line event
unfolding line_text
told_line event = refl

ended : (end : End) → line_text (lines.Ended end) ≡ run_text [] end
unfolding line_text run_text
ended end = refl

lines_joined : {events : List Event} {notices : Number → List Notice} (k : ℕ) (end : End) → Tells events notices →
    joined_from k (lines_told (notices One) end) (lines_told (notices Two) end) (lines_told (notices Three) end)
    ≡ Ok (record { text = run_text events end; end = end })
lines_joined k end nothing =
    let l = lines.Ended end in step k l l l [] [] [] (end_alike end) (end_alike end) ∙ ap (λ text. Ok (record { text = text; end = end })) (ended end)
lines_joined k end (opened {events = events} {notices = notices} form words range h) =
    let event = Open (elements_told form words) in
    step k (lines.Told event) (lines.Told event) (lines.Told event) (lines_of notices end One) (lines_of notices end Two) (lines_of notices end Three)
    (event_alike event) (event_alike event)
    ∙ put_front event events end (line_text (lines.Told event)) _ (told_line event) (lines_joined (k + 1) end h)
lines_joined k end (published {events = events} {notices = notices} text form words range h) =
    let event = Publish text (elements_told form words) in
    step k (lines.Told event) (lines.Told event) (lines.Told event) (lines_of notices end One) (lines_of notices end Two) (lines_of notices end Three)
    (event_alike event) (event_alike event)
    ∙ put_front event events end (line_text (lines.Told event)) _ (told_line event) (lines_joined (k + 1) end h)
lines_joined k end (handed {events = events} {notices = notices} text form words shares range are h) =
    let told : Number → MinerLine = λ i. line_told (Handed text form (length words) (shares i)) in
    step k (told One) (told Two) (told Three)
    (lines_of notices end One) (lines_of notices end Two) (lines_of notices end Three)
    (share_alike text form (length words) (shares One) (shares Two) (are.sizes One ∙ sym (are.sizes Two)))
    (share_alike text form (length words) (shares One) (shares Three) (are.sizes One ∙ sym (are.sizes Three)))
    ∙ put_front (Hand text (kind_told form) (elements_told form words)) events end _ _ (share_joined text form words shares range are) (lines_joined (k + 1) end h)

-- ---- their texts

text_back : (i : Number) (ls : List MinerLine) → IsText ls → text_in i (Some (text_of ls)) ≡ Ok ls
text_back i ls h = ap (named i) (read_again ls h)

-- the words of a share hold the elements
held_so : (e : ElementType) (words share : List ℕ) → length share ≡ length (gate_words (type_of e) words) → length words < 2 ^ 64 →
    AreHeld (type_of e) (length words) (length share)
held_so Unsigned words share size small = sym size
held_so Signed words share size small = sym size
held_so TruthValue words share size small = (small, size ∙ length-packed words)

paid_number : (form : Form) (words : List ℕ) (end : End) → length (elements_told form words) ≤ end.cost → IsEnd end → length words < 2 ^ 64
paid_number form words end le fits =
    let told = length-map words (element_of (type_of form.element)) in
    let small = fits.1 in
    omega (arith, le, told, small)

-- what three miners tell who tell named events that are paid for is a text of each
pub are_texts : {events : List Event} {notices : Number → List Notice} (i : Number) (end : End) → Tells events notices → AreNamed events
    → ArePaid end.cost events → IsEnd end → IsText (lines_told (notices i) end)
are_texts i end nothing named paid fits = fits
are_texts i end (opened form words range more) named paid fits =
    (elements_are (type_of form.element) words range, are_texts i end more named paid fits)
are_texts i end (published text form words range more) named paid fits =
    ((named.0, elements_are (type_of form.element) words range), are_texts i end more named.1 paid fits)
are_texts i end (handed text form words shares range are more) named paid fits =
    let held = held_so form.element words (shares i) (are.sizes i) (paid_number form words end paid.0 fits) in
    ((named.0, are_words (shares i) (are.words i), held), are_texts i end more named.1 paid.1 fits)

pub texts_of_a_run_are_its_text : TextsOfARunAreItsText
texts_of_a_run_are_its_text events notices end tells named paid fits =
    let are : (i : Number) → IsText (lines_told (notices i) end) = λ i. are_texts i end tells named paid fits in
    let found : Number → Option (List ℕ) = λ i. Some (text_of (lines_told (notices i) end)) in
    ap (λ r. and_then r (join_second found)) (text_back One (lines_told (notices One) end) (are One))
    ∙ ap (λ r. and_then r (join_third found (lines_told (notices One) end))) (text_back Two (lines_told (notices Two) end) (are Two))
    ∙ ap (λ r. and_then r (λ three. or_difference (joined_of (lines_told (notices One) end) (lines_told (notices Two) end) three)))
    (text_back Three (lines_told (notices Three) end) (are Three))
    ∙ ap or_difference (lines_joined 1 end tells)
