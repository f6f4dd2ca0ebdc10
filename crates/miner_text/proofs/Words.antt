-- The words of a line: they are written with a space between them, and read as the line.
use Rattle.std.proofs.Common.{◌≡◌, ℕ, List, [], ◌∷◌, ◌++◌, map, if◌then◌else◌, true, refl, sym, ◌∙◌, ap, subst, append_assoc}
use Rattle.std.specs.Prelude.{◌==◌, length, codes, bytes_eq, Option, Some, None, option_map, option_and_then}
use Rattle.std.specs.Fmt.{decimal}
use Rattle.std.proofs.lemmas.Bool.Decides.{Decides-eqb}
use Rattle.std.proofs.lemmas.Slice.Eq.{bytes_eq-Decides}
use Rattle.bit_words.specs.Bits.{words_for}
use Rattle.program_trees.specs.declared.expression.DataType.{DataType}
use Rattle.program_trees.specs.declared.expression.DataType.TheVariants.{Uint64}
use Rattle.program_trees.specs.declared.expression.DataType.TheVariants as datatype
use Rattle.sc_text.specs.declared.elements.Element.{Element}
use Rattle.sc_text.specs.declared.end.End.{End}
use Rattle.sc_text.specs.declared.event.Event.{Event}
use Rattle.sc_text.specs.declared.event.Event.TheVariants.{Open, Publish, Hand}
use Rattle.sc_text.specs.Elements.{element_text, elements_text}
use Rattle.sc_text.specs.Event.{event_line}
use Rattle.sc_text.specs.Name.{is_name}
use Rattle.view_text.specs.View.{Words, AreElements}
use Rattle.view_text.specs.Text.{spaced, words_behind, ending_words}
use Rattle.view_text.specs.Text.{Drew, Opened, Ended}
use Rattle.view_text.specs.Reading.{all_in, word_in, element_in, end_in, name_in}
use Rattle.view_text.proofs.Decimals.{name_free}
use Rattle.view_text.proofs.Found.{nothing_found, same_found, if_found, then_found, map_found, next_found}
use Rattle.view_text.proofs.Lines.{NoGap, NoGaps, plain, line_back as view_line_back, line_plain as view_line_plain}
use Rattle.view_text.proofs.LinesRead.{line_read as view_line_read}
use Rattle.view_text.proofs.RunLines.{opened_line, ended_line}
use Rattle.proto_core.proofs.Beginnings.{append-none}
use Rattle.miner_text.specs.Shares.{ResultShare}
use Rattle.miner_text.specs.Lines.{type_word, count_of_type, count_told, share_line, line_text}
use Rattle.miner_text.specs.Reading.{type_in, published_in, share_of, share_in, line_in}
use Rattle.miner_text.specs.Texts.{IsEvent, AreHeld, IsShare, IsEnd}
use Rattle.miner_text.specs.declared.line.MinerLine.{MinerLine}
use Rattle.miner_text.specs.declared.line.MinerLine.TheVariants as lines

abbrev pub IsLine : MinerLine → Type 0
IsLine (lines.Told event) = IsEvent event
IsLine (lines.Share share) = IsShare share
IsLine (lines.Ended end) = IsEnd end

abbrev pub event_words : Event → List (List ℕ)
event_words (Open es) = codes "open" ∷ map element_text es
event_words (Publish name es) = codes "publish" ∷ name ∷ map element_text es
event_words (Hand name kind es) = codes "publish" ∷ name ∷ map element_text es

-- the numbers in the line of a share
abbrev pub numbers_told : ResultShare → List ℕ
numbers_told s = count_told s ++ s.words

abbrev pub line_words : MinerLine → List (List ℕ)
line_words (lines.Told event) = event_words event
line_words (lines.Share s) = codes "share" ∷ s.name ∷ type_word s.element ∷ map decimal (numbers_told s)
line_words (lines.Ended end) = codes "end" ∷ ending_words end.how end.cost

-- ---- the line is written so

spaced_elements : (w : List ℕ) (es : List Element) → spaced (w ∷ map element_text es) ≡ w ++ elements_text es
unfolding elements_text
spaced_elements w [] = sym (append-none w)
spaced_elements w (e ∷ es) = ap (λ x. w ++ 32 ∷ x) (spaced_elements (element_text e) es)

spaced_words : (w : List ℕ) (ns : List ℕ) → spaced (w ∷ map decimal ns) ≡ w ++ words_behind ns
spaced_words w [] = sym (append-none w)
spaced_words w (n ∷ ns) = ap (λ x. w ++ 32 ∷ x) (spaced_words (decimal n) ns)

-- the number of elements is written by itself
pub count_then_words : (t : DataType) (count : ℕ) (ns : List ℕ) →
    words_behind (count_of_type t count ++ ns) ≡ words_behind (count_of_type t count) ++ words_behind ns
count_then_words Uint64 count ns = refl
count_then_words datatype.Int64 count ns = refl
count_then_words datatype.Bool count ns = ap (λ x. x ++ words_behind ns) (sym (append-none (32 ∷ decimal count)))

event_written : (event : Event) → event_line event ≡ spaced (event_words event) ++ 10 ∷ []
unfolding event_line
event_written (Open es) = sym (opened_line es)
event_written (Publish name es) = ap (λ x. codes "publish " ++ (x ++ 10 ∷ [])) (sym (spaced_elements name es))
event_written (Hand name kind es) = ap (λ x. codes "publish " ++ (x ++ 10 ∷ [])) (sym (spaced_elements name es))

share_written : (s : ResultShare) → share_line s ≡ spaced (line_words (lines.Share s)) ++ 10 ∷ []
unfolding share_line
share_written s =
    let word = type_word s.element in
    let numbers = numbers_told s in
    ap (λ x. codes "share " ++ (x ++ 10 ∷ []))
    (append_assoc (s.name ++ 32 ∷ []) word (words_behind numbers)
    ∙ append_assoc s.name (32 ∷ []) (word ++ words_behind numbers)
    ∙ ap (λ x. s.name ++ 32 ∷ x) (sym (spaced_words word numbers)))

pub line_written : (l : MinerLine) → line_text l ≡ spaced (line_words l) ++ 10 ∷ []
unfolding line_text
line_written (lines.Told event) = event_written event
line_written (lines.Share s) = share_written s
line_written (lines.Ended end) = sym (ended_line end)

-- ---- neither spaces nor newlines in words

name_plain : (name : List ℕ) → is_name name ≡ true → NoGap name
name_plain name h = (name_free 32 refl name h, name_free 10 refl name h)

type_plain : (t : DataType) → NoGap (type_word t)
type_plain Uint64 = plain (codes "uint64") refl
type_plain datatype.Int64 = plain (codes "int64") refl
type_plain datatype.Bool = plain (codes "bool") refl

numbers_fit : (t : DataType) (count : ℕ) (ns : List ℕ) → AreHeld t count (length ns) → Words ns → Words (count_of_type t count ++ ns)
numbers_fit Uint64 count ns held h = h
numbers_fit datatype.Int64 count ns held h = h
numbers_fit datatype.Bool count ns held h = (held.0, h)

numbers_are_words : (s : ResultShare) → IsShare s → Words (numbers_told s)
numbers_are_words s h = numbers_fit s.element s.count s.words h.2 h.1

pub line_plain : (l : MinerLine) → IsLine l → NoGaps (line_words l)
line_plain (lines.Told (Open es)) h = view_line_plain (Opened es) h
line_plain (lines.Told (Publish name es)) h = (plain (codes "publish") refl, (name_plain name h.0, (view_line_plain (Opened es) h.1).1))
line_plain (lines.Told (Hand name kind es)) h = absurd h
line_plain (lines.Share s) h =
    (plain (codes "share") refl, (name_plain s.name h.0, (type_plain s.element, (view_line_plain (Drew (numbers_told s)) (numbers_are_words s h)).1)))
line_plain (lines.Ended end) h = view_line_plain (Ended end) (record { how = h.0; cost = h.1 })

-- ---- the words are read as the line

same_elements : (es : List Element) (o : Option (List Element)) → option_map Opened o ≡ Some (Opened es) → o ≡ Some es
same_elements es None e = cc
same_elements es (Some xs) e = cc

same_words : (ns : List ℕ) (o : Option (List ℕ)) → option_map Drew o ≡ Some (Drew ns) → o ≡ Some ns
same_words ns None e = cc
same_words ns (Some xs) e = cc

same_end : (end : End) (o : Option End) → option_map Ended o ≡ Some (Ended end) → o ≡ Some end
same_end end None e = cc
same_end end (Some x) e = cc

elements_back : (es : List Element) → AreElements es → all_in element_in (map element_text es) ≡ Some es
elements_back es h = same_elements es (all_in element_in (map element_text es)) (view_line_back (Opened es) h)

words_back : (ns : List ℕ) → Words ns → all_in word_in (map decimal ns) ≡ Some ns
words_back ns h = same_words ns (all_in word_in (map decimal ns)) (view_line_back (Drew ns) h)

end_back : (end : End) → IsEnd end → end_in (ending_words end.how end.cost) ≡ Some end
end_back end h = same_end end (end_in (ending_words end.how end.cost)) (view_line_back (Ended end) (record { how = h.0; cost = h.1 }))

type_back : (t : DataType) → type_in (type_word t) ≡ Some t
type_back Uint64 = refl
type_back datatype.Int64 = refl
type_back datatype.Bool = refl

name_back : (name : List ℕ) → is_name name ≡ true → name_in name ≡ Some name
name_back name h = ap (λ b. if b then Some name else None) h

published_back : (name : List ℕ) (es : List Element) → IsEvent (Publish name es) → published_in (name ∷ map element_text es) ≡ Some (Publish name es)
published_back name es h =
    let found : List ℕ → List Element → Option Event = λ n xs. Some (Publish n xs) in
    ap (option_and_then (λ n. option_and_then (found n) (all_in element_in (map element_text es)))) (name_back name h.0)
    ∙ ap (option_and_then (found name)) (elements_back es h.1)

same_number : (n m : ℕ) → n ≡ m → (n == m) ≡ true
same_number n m e = (Decides-eqb n m).1 e

numbers_back : (name : List ℕ) (t : DataType) (count : ℕ) (ns : List ℕ) → AreHeld t count (length ns) →
    share_of name t (count_of_type t count ++ ns) ≡ Some (record { name = name; element = t; count = count; words = ns })
numbers_back name Uint64 count ns h = ap (λ n. Some (record { name = name; element = Uint64; count = n; words = ns })) (sym h)
numbers_back name datatype.Int64 count ns h = ap (λ n. Some (record { name = name; element = datatype.Int64; count = n; words = ns })) (sym h)
numbers_back name datatype.Bool count ns h =
    ap (λ b. if b then Some (record { name = name; element = datatype.Bool; count = count; words = ns }) else None)
    (same_number (length ns) (words_for count) h.1)

share_back : (s : ResultShare) → IsShare s → share_in (s.name ∷ type_word s.element ∷ map decimal (numbers_told s)) ≡ Some s
share_back s h =
    let numbers = all_in word_in (map decimal (numbers_told s)) in
    ap (option_and_then (λ t. option_and_then (λ n. option_and_then (share_of n t) numbers) (name_in s.name))) (type_back s.element)
    ∙ ap (option_and_then (λ n. option_and_then (share_of n s.element) numbers)) (name_back s.name h.0)
    ∙ ap (option_and_then (share_of s.name s.element)) (words_back (numbers_told s) (numbers_are_words s h))
    ∙ numbers_back s.name s.element s.count s.words h.2

pub line_back : (l : MinerLine) → IsLine l → line_in (line_words l) ≡ Some l
line_back (lines.Told (Open es)) h = ap (option_map (λ xs. lines.Told (Open xs))) (elements_back es h)
line_back (lines.Told (Publish name es)) h = ap (option_map lines.Told) (published_back name es h)
line_back (lines.Told (Hand name kind es)) h = absurd h
line_back (lines.Share s) h = ap (option_map lines.Share) (share_back s h)
line_back (lines.Ended end) h = ap (option_map lines.Ended) (end_back end h)

-- ---- what is read as a line are its words

same_rest : (w : List ℕ) (vs ws : List (List ℕ)) → w ∷ vs ≡ w ∷ ws → vs ≡ ws
same_rest w vs ws e = cc

same_bytes : (xs ys : List ℕ) → bytes_eq xs ys ≡ true → xs ≡ ys
same_bytes xs ys h = (bytes_eq-Decides xs ys).0 h

abbrev ElementsRead : List (List ℕ) → List Element → Type 0
ElementsRead ws es = (ws ≡ map element_text es) × AreElements es

elements_read : (ws : List (List ℕ)) (es : List Element) → all_in element_in ws ≡ Some es → ElementsRead ws es
elements_read ws es h =
    let read = view_line_read (codes "open" ∷ ws) (Opened es) (ap (option_map Opened) h) in (same_rest (codes "open") ws (map element_text es) read.0, read.1)

abbrev WordsRead : List (List ℕ) → List ℕ → Type 0
WordsRead ws ns = (ws ≡ map decimal ns) × Words ns

words_read : (ws : List (List ℕ)) (ns : List ℕ) → all_in word_in ws ≡ Some ns → WordsRead ws ns
words_read ws ns h =
    let read = view_line_read (codes "drew" ∷ ws) (Drew ns) (ap (option_map Drew) h) in (same_rest (codes "drew") ws (map decimal ns) read.0, read.1)

type_read : (w : List ℕ) (t : DataType) → type_in w ≡ Some t → w ≡ type_word t
type_read w t h =
    if_found (bytes_eq (codes "uint64") w) (Some Uint64) _ t h
    (λ same is. sym (same_bytes (codes "uint64") w same) ∙ ap type_word (same_found Uint64 t is))
    (λ g. if_found (bytes_eq (codes "int64") w) (Some datatype.Int64) _ t g
    (λ same is. sym (same_bytes (codes "int64") w same) ∙ ap type_word (same_found datatype.Int64 t is))
    (λ f. if_found (bytes_eq (codes "bool") w) (Some datatype.Bool) None t f
    (λ same is. sym (same_bytes (codes "bool") w same) ∙ ap type_word (same_found datatype.Bool t is))
    (λ none. nothing_found t none)))

abbrev NameRead : List ℕ → List ℕ → Type 0
NameRead w name = (w ≡ name) × (is_name name ≡ true)

name_read : (w name : List ℕ) → name_in w ≡ Some name → NameRead w name
name_read w name h = then_found (is_name w) w name h (λ good same. (same, subst (λ v. is_name v ≡ true) same good))

abbrev pub LineRead : List (List ℕ) → MinerLine → Type 0
LineRead ws l = (ws ≡ line_words l) × IsLine l

abbrev PublishedRead : List (List ℕ) → Event → Type 0
PublishedRead ws event = LineRead (codes "publish" ∷ ws) (lines.Told event)

published_read : (ws : List (List ℕ)) (event : Event) → published_in ws ≡ Some event → PublishedRead ws event
published_read [] event h = nothing_found event h
published_read (w ∷ ws) event h =
    next_found (λ name. option_and_then (found name) (all_in element_in ws)) (name_in w) event h
    (λ name first rest. next_found (found name) (all_in element_in ws) event rest
    (λ es second is. subst (PublishedRead (w ∷ ws)) (same_found _ event is) (together name es (name_read w name first) (elements_read ws es second))))
  where
    found : List ℕ → List Element → Option Event
    found name es = Some (Publish name es)

    together : (name : List ℕ) (es : List Element) → NameRead w name → ElementsRead ws es → PublishedRead (w ∷ ws) (Publish name es)
    together name es a b = (ap (λ v. codes "publish" ∷ v ∷ ws) a.0 ∙ ap (λ vs. codes "publish" ∷ name ∷ vs) b.0, (a.1, b.1))

abbrev ShareRead : List (List ℕ) → ResultShare → Type 0
ShareRead ws s = LineRead (codes "share" ∷ ws) (lines.Share s)

-- a share that was made of these numbers
record IsMadeOf (name : List ℕ) (t : DataType) (ns : List ℕ) (s : ResultShare) : Type 0 where
  names : s.name ≡ name
  types : s.element ≡ t
  numbers : numbers_told s ≡ ns
  words : Words s.words
  held : AreHeld s.element s.count (length s.words)

share_made : (name : List ℕ) (t : DataType) (ns : List ℕ) (s : ResultShare) → Words ns → share_of name t ns ≡ Some s → IsMadeOf name t ns s
share_made name Uint64 ns s h e =
    subst (IsMadeOf name Uint64 ns) (same_found _ s e) (record { names = refl; types = refl; numbers = refl; words = h; held = refl })
share_made name datatype.Int64 ns s h e =
    subst (IsMadeOf name datatype.Int64 ns) (same_found _ s e) (record { names = refl; types = refl; numbers = refl; words = h; held = refl })
share_made name datatype.Bool [] s h e = nothing_found s e
share_made name datatype.Bool (n ∷ ns) s h e =
    then_found (length ns == words_for n) _ s e
    (λ good same. subst (IsMadeOf name datatype.Bool (n ∷ ns)) same
    (record { names = refl; types = refl; numbers = refl; words = h.1; held = (h.0, (Decides-eqb (length ns) (words_for n)).0 good) }))

share_read : (ws : List (List ℕ)) (s : ResultShare) → share_in ws ≡ Some s → ShareRead ws s
share_read [] s h = nothing_found s h
share_read (w ∷ []) s h = nothing_found s h
share_read (w ∷ v ∷ vs) s h =
    next_found (λ t. option_and_then (λ name. option_and_then (share_of name t) (all_in word_in vs)) (name_in w)) (type_in v) s h
    (λ t first after_type. next_found (λ name. option_and_then (share_of name t) (all_in word_in vs)) (name_in w) s after_type
    (λ name second after_name. next_found (share_of name t) (all_in word_in vs) s after_name
    (λ ns third is.
    let numbers = words_read vs ns third in
    together t name ns (type_read v t first) (name_read w name second) numbers.0 (share_made name t ns s numbers.1 is))))
  where
    together : (t : DataType) (name ns : List ℕ) → v ≡ type_word t → NameRead w name → vs ≡ map decimal ns → IsMadeOf name t ns s →
        ShareRead (w ∷ v ∷ vs) s
    together t name ns is a b made = (
      ap (λ x. codes "share" ∷ x ∷ v ∷ vs) (a.0 ∙ sym made.names)
          ∙ ap (λ x. codes "share" ∷ s.name ∷ x ∷ vs) (is ∙ ap type_word (sym made.types))
          ∙ ap (λ xs. codes "share" ∷ s.name ∷ type_word s.element ∷ xs) (b ∙ ap (map decimal) (sym made.numbers)),
      (subst (λ n. is_name n ≡ true) (sym made.names) a.1, made.words, made.held),
    )

end_read : (ws : List (List ℕ)) (end : End) → end_in ws ≡ Some end → LineRead (codes "end" ∷ ws) (lines.Ended end)
end_read ws end h = let read = view_line_read (codes "end" ∷ ws) (Ended end) (ap (option_map Ended) h) in (read.0, (read.1.how, read.1.cost))

-- the first word is the line's
named : (name w : List ℕ) (ws : List (List ℕ)) (l : MinerLine) → bytes_eq name w ≡ true → LineRead (name ∷ ws) l → LineRead (w ∷ ws) l
named name w ws l same read = (ap (λ v. v ∷ ws) (sym (same_bytes name w same)) ∙ read.0, read.1)

pub line_read : (ws : List (List ℕ)) (l : MinerLine) → line_in ws ≡ Some l → LineRead ws l
line_read [] l h = nothing_found l h
line_read (w ∷ ws) l h =
    if_found (bytes_eq (codes "open") w) (option_map (λ es. lines.Told (Open es)) (all_in element_in ws)) _ l h
    (λ same is. named (codes "open") w ws l same (map_found (LineRead (codes "open" ∷ ws)) (λ es. lines.Told (Open es)) (all_in element_in ws) l is
    (λ es all. let read = elements_read ws es all in (ap (λ vs. codes "open" ∷ vs) read.0, read.1))))
    (λ h1. if_found (bytes_eq (codes "publish") w) (option_map lines.Told (published_in ws)) _ l h1
    (λ same is. named (codes "publish") w ws l same (map_found (LineRead (codes "publish" ∷ ws)) lines.Told (published_in ws) l is (published_read ws)))
    (λ h2. if_found (bytes_eq (codes "share") w) (option_map lines.Share (share_in ws)) _ l h2
    (λ same is. named (codes "share") w ws l same (map_found (LineRead (codes "share" ∷ ws)) lines.Share (share_in ws) l is (share_read ws)))
    (λ h3. if_found (bytes_eq (codes "end") w) (option_map lines.Ended (end_in ws)) None l h3
    (λ same is. named (codes "end") w ws l same (map_found (LineRead (codes "end" ∷ ws)) lines.Ended (end_in ws) l is (end_read ws)))
    (λ none. nothing_found l none))))
