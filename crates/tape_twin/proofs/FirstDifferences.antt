-- Two inputs are alike exactly where they have no first difference.
use Rattle.std.proofs.Common.{◌≡◌, ℕ, ◌+◌, ◌==◌, Bool, true, false, if◌then◌else◌, List, [], ◌∷◌, ◌++◌, length, map, get_or, Option, Some, None, bytes_eq}
use Rattle.std.proofs.Common.{refl, sym, ◌∙◌, ap, inl, inr, arith, eqb-true, eq-eqb, ne_eqb}
use Rattle.std.proofs.lemmas.Bool.{false≢true, and_from, and_parts}
use Rattle.std.proofs.lemmas.Slice.Eq.{bytes_eq-Decides}
use Rattle.std.proofs.lemmas.List.{length-replicate}
use Rattle.program_trees.specs.declared.expression.DataType.{DataType}
use Rattle.program_trees.specs.declared.expression.DataType.TheVariants as datatype
use Rattle.program_trees.specs.declared.kinds.Shape.{Shape}
use Rattle.program_trees.specs.Shapes.{shape_of}
use Rattle.language_model.specs.Effects.{GivenInput}
use Rattle.language_model.specs.Evaluation.{same_type, same_truth, same_shape}
use Rattle.language_model.specs.Words.{truth_word}
use Rattle.clear_eval.specs.Offers.{public_given, part_given}
use Rattle.value_file.specs.declared.value.DataType as told
use Rattle.value_file.specs.declared.value.DataType.TheVariants as kind
use Rattle.value_file.specs.declared.value.Shape as form
use Rattle.value_file.specs.declared.value.Shape.TheVariants.{Scalar, Array}
use Rattle.value_file.specs.declared.value.Value.{Value}
use Rattle.value_file.specs.declared.value.Value.TheVariants.{Number, Integer, Truth, Numbers, Integers, Truths}
use Rattle.value_file.specs.declared.public.PublicValue.{PublicValue}
use Rattle.value_file.specs.declared.public.PublicValue.TheVariants.{Known, Hidden}
use Rattle.value_file.specs.declared.public.PublicEntry.{PublicEntry}
use Rattle.value_file.specs.declared.inputs.Entry.{Entry}
use Rattle.value_file.specs.Public.{part_of}
use Rattle.program_trees.specs.TypedPrograms.{TypedProgramTree}
use Rattle.program_views.specs.Views.{run_on}
use Rattle.program_views.specs.TapeMaps.{AreAlike}
use Rattle.tape_twin.specs.Alike.{DifferHere, PartsDiffer, WordsDiffer, BeginsWith, OneBegins}
use Rattle.tape_twin.specs.FirstDifference.{same_input, same_entry, other_entry, Difference}
use Rattle.tape_twin.specs.FirstDifference.{at_entry, at_word, other_word, entry_first, difference}
use Rattle.tape_twin.proofs.Runs.{alike-so}

-- ---- an input is the same as itself, and as no other

truth-itself : (b : Bool) → same_truth b b ≡ true
truth-itself true = refl
truth-itself false = refl

type-itself : (t : DataType) → same_type t t ≡ true
type-itself datatype.Uint64 = refl
type-itself datatype.Int64 = refl
type-itself datatype.Bool = refl

bytes-itself : (xs : List ℕ) → bytes_eq xs xs ≡ true
bytes-itself xs = (bytes_eq-Decides xs xs).1 refl

input-itself : (x : GivenInput) → same_input x x ≡ true
input-itself x =
    and_from (bytes_eq x.text x.text) _ (bytes-itself x.text)
    (and_from (same_truth x.secret x.secret) _ (truth-itself x.secret)
    (and_from (same_shape x.shape x.shape) (bytes_eq x.words x.words)
    (and_from (same_type x.shape.element x.shape.element) (same_truth x.shape.array x.shape.array) (type-itself x.shape.element) (truth-itself x.shape.array))
    (bytes-itself x.words)))

truth-same : (b c : Bool) → same_truth b c ≡ true → b ≡ c
truth-same true true h = refl
truth-same true false h = absurd (false≢true h)
truth-same false true h = absurd (false≢true h)
truth-same false false h = refl

type-same : (t u : DataType) → same_type t u ≡ true → t ≡ u
type-same datatype.Uint64 datatype.Uint64 h = refl
type-same datatype.Uint64 datatype.Int64 h = absurd (false≢true h)
type-same datatype.Uint64 datatype.Bool h = absurd (false≢true h)
type-same datatype.Int64 datatype.Uint64 h = absurd (false≢true h)
type-same datatype.Int64 datatype.Int64 h = refl
type-same datatype.Int64 datatype.Bool h = absurd (false≢true h)
type-same datatype.Bool datatype.Uint64 h = absurd (false≢true h)
type-same datatype.Bool datatype.Int64 h = absurd (false≢true h)
type-same datatype.Bool datatype.Bool h = refl

shape-same : (s t : Shape) → same_shape s t ≡ true → s ≡ t
shape-same s t h =
    let both = and_parts (same_type s.element t.element) (same_truth s.array t.array) h in
    ap (λ (element : DataType). shape_of element s.array) (type-same s.element t.element both.0)
    ∙ ap (λ (array : Bool). shape_of t.element array) (truth-same s.array t.array both.1)

abbrev given : (text : List ℕ) (secret : Bool) → Shape → (words : List ℕ) → GivenInput
given text secret shape words = record { text = text; secret = secret; shape = shape; words = words }

input-same : (x y : GivenInput) → same_input x y ≡ true → x ≡ y
input-same x y h =
    let a = and_parts (bytes_eq x.text y.text) _ h in
    let b = and_parts (same_truth x.secret y.secret) _ a.1 in
    let c = and_parts (same_shape x.shape y.shape) (bytes_eq x.words y.words) b.1 in
    ap (λ (text : List ℕ). given text x.secret x.shape x.words) ((bytes_eq-Decides x.text y.text).0 a.0)
    ∙ ap (λ (secret : Bool). given y.text secret x.shape x.words) (truth-same x.secret y.secret b.0)
    ∙ ap (λ (shape : Shape). given y.text y.secret shape x.words) (shape-same x.shape y.shape c.0)
    ∙ ap (λ (words : List ℕ). given y.text y.secret y.shape words) ((bytes_eq-Decides x.words y.words).0 c.1)

-- ---- the entry is read off the input that it is to a run

abbrev known-back : DataType → (array : Bool) → (words : List ℕ) → Value
known-back datatype.Uint64 false words = Number (get_or words 0 0)
known-back datatype.Uint64 true words = Numbers words
known-back datatype.Int64 false words = Integer (get_or words 0 0)
known-back datatype.Int64 true words = Integers words
known-back datatype.Bool false words = Truth (get_or words 0 0 == 1)
known-back datatype.Bool true words = Truths (map (λ w. w == 1) words)

abbrev type-back : DataType → told.DataType
type-back datatype.Uint64 = kind.Uint64
type-back datatype.Int64 = kind.Int64
type-back datatype.Bool = kind.Bool

abbrev shape-back : (array : Bool) → (count : ℕ) → form.Shape
shape-back false count = Scalar
shape-back true count = Array count

abbrev value-back : (secret : Bool) → Shape → (words : List ℕ) → PublicValue
value-back false shape words = Known (known-back shape.element shape.array words)
value-back true shape words = Hidden (type-back shape.element) (shape-back shape.array (length words))

truths-back : (bs : List Bool) → map (λ w. w == 1) (map truth_word bs) ≡ bs
truths-back [] = refl
truths-back (true ∷ bs) = ap (λ (cs : List Bool). true ∷ cs) (truths-back bs)
truths-back (false ∷ bs) = ap (λ (cs : List Bool). false ∷ cs) (truths-back bs)

shown-back : (name : List ℕ) (v : PublicValue)
    → value-back (public_given name v).secret (public_given name v).shape (public_given name v).words ≡ v
shown-back name (Known (Number n)) = refl
shown-back name (Known (Truth true)) = refl
shown-back name (Known (Truth false)) = refl
shown-back name (Known (Integer n)) = refl
shown-back name (Known (Numbers ns)) = refl
shown-back name (Known (Integers ns)) = refl
shown-back name (Known (Truths bs)) = ap (λ (cs : List Bool). Known (Truths cs)) (truths-back bs)
shown-back name (Hidden kind.Uint64 Scalar) = refl
shown-back name (Hidden kind.Uint64 (Array n)) = ap (λ (k : ℕ). Hidden kind.Uint64 (Array k)) (length-replicate n 0)
shown-back name (Hidden kind.Int64 Scalar) = refl
shown-back name (Hidden kind.Int64 (Array n)) = ap (λ (k : ℕ). Hidden kind.Int64 (Array k)) (length-replicate n 0)
shown-back name (Hidden kind.Bool Scalar) = refl
shown-back name (Hidden kind.Bool (Array n)) = ap (λ (k : ℕ). Hidden kind.Bool (Array k)) (length-replicate n 0)

text-given : (name : List ℕ) (v : PublicValue) → (public_given name v).text ≡ name
text-given name (Known v) = refl
text-given name (Hidden t s) = refl

-- ---- an entry is the same as itself, and as no other

entry-itself : (e : PublicEntry) → same_entry e e ≡ true
unfolding same_entry
entry-itself e = input-itself (part_given e)

abbrev entry-of : List ℕ → PublicValue → PublicEntry
entry-of name value = record { name = name; value = value }

entry-same : (d e : PublicEntry) → same_entry d e ≡ true → d ≡ e
unfolding same_entry
entry-same d e h =
    let same = input-same (part_given d) (part_given e) h in
    let name = sym (text-given d.name d.value) ∙ ap (λ (g : GivenInput). g.text) same ∙ text-given e.name e.value in
    let value =
    sym (shown-back d.name d.value) ∙ ap (λ (g : GivenInput). value-back g.secret g.shape g.words) same ∙ shown-back e.name e.value in
    ap (λ (x : List ℕ). entry-of x d.value) name ∙ ap (λ (v : PublicValue). entry-of e.name v) value

entry-other : (d e : PublicEntry) → (d ≡ e → ⊥) → same_entry d e ≡ false
entry-other d e differ = at (same_entry d e) refl
  where
    at : (b : Bool) → same_entry d e ≡ b → b ≡ false
    at true is = absurd (differ (entry-same d e is))
    at false is = refl

-- ---- public parts

parts-itself : (es : List PublicEntry) → other_entry es es ≡ None
parts-itself [] = refl
parts-itself (e ∷ es) = rw (entry-itself e) (parts-itself es)

abbrev next-entry : Bool → PublicEntry → (ds es : List PublicEntry) → Option (List ℕ)
next-entry same d ds es = if same then other_entry ds es else Some d.name

parts-same : (ds es : List PublicEntry) → other_entry ds es ≡ None → ds ≡ es
parts-same [] [] h = refl
parts-same [] (e ∷ es) h = absurd cc
parts-same (d ∷ ds) [] h = absurd cc
parts-same (d ∷ ds) (e ∷ es) h = at (same_entry d e) refl h (parts-same ds es)
  where
    at : (b : Bool) → same_entry d e ≡ b → next-entry b d ds es ≡ None → (other_entry ds es ≡ None → ds ≡ es) → d ∷ ds ≡ e ∷ es
    at true is h later =
        ap (λ (x : PublicEntry). x ∷ ds) (entry-same d e is) ∙ ap (λ (xs : List PublicEntry). e ∷ xs) (later h)
    at false is h later = absurd cc

parts-differ : (common rest other : List PublicEntry) (name : List ℕ) → DifferHere rest other name
    → other_entry (common ++ rest) (common ++ other) ≡ Some name
parts-differ [] [] [] name h = absurd h
parts-differ [] [] (e ∷ es) name h = ap (λ (n : List ℕ). Some n) (sym h)
parts-differ [] (d ∷ ds) [] name h = ap (λ (n : List ℕ). Some n) (sym h)
parts-differ [] (d ∷ ds) (e ∷ es) name h = rw (entry-other d e h.1) (ap (λ (n : List ℕ). Some n) (sym h.0))
parts-differ (c ∷ cs) rest other name h = rw (entry-itself c) (parts-differ cs rest other name h)

-- ---- words

pub words-itself : (k : ℕ) (xs : List ℕ) → other_word k xs xs ≡ None
words-itself k [] = refl
words-itself k (x ∷ xs) = rw (eq-eqb x x refl) (words-itself (k + 1) xs)

begins-later : (x y : ℕ) (xs ys : List ℕ) → x ≡ y → BeginsWith xs ys → BeginsWith (x ∷ xs) (y ∷ ys)
begins-later x y xs ys same h =
    record { more = h.more; is = ap (λ (w : ℕ). w ∷ xs) same ∙ ap (λ (ws : List ℕ). y ∷ ws) h.is }

abbrev next-word : Bool → (k x y : ℕ) (xs ys : List ℕ) → Option Difference
next-word same k x y xs ys = if same then other_word (k + 1) xs ys else Some (at_word k x y)

pub words-begin : (k : ℕ) (xs ys : List ℕ) → other_word k xs ys ≡ None → OneBegins xs ys
words-begin k [] ys h = inr (record { more = ys; is = refl })
words-begin k (x ∷ xs) [] h = inl (record { more = x ∷ xs; is = refl })
words-begin k (x ∷ xs) (y ∷ ys) h = at (x == y) refl h (words-begin (k + 1) xs ys)
  where
    at : (b : Bool) → (x == y) ≡ b → next-word b k x y xs ys ≡ None → (other_word (k + 1) xs ys ≡ None → OneBegins xs ys)
        → OneBegins (x ∷ xs) (y ∷ ys)
    at true is h later =
        elim (later h) as (λ _. OneBegins (x ∷ xs) (y ∷ ys)) [
          | inl first ↦ inl (begins-later x y xs ys (eqb-true x y is) first)
          | inr second ↦ inr (begins-later y x ys xs (sym (eqb-true x y is)) second)
        ]
    at false is h later = absurd cc

words-differ : (k : ℕ) (common rest other : List ℕ) (x y : ℕ) → (x ≡ y → ⊥)
    → other_word k (common ++ x ∷ rest) (common ++ y ∷ other) ≡ Some (at_word (k + length common) x y)
words-differ k [] rest other x y differ =
    let here : k ≡ k + 0 = omega arith in
    rw (ne_eqb x y differ) (ap (λ (place : ℕ). Some (at_word place x y)) here)
words-differ k (c ∷ cs) rest other x y differ =
    let here : (k + 1) + length cs ≡ k + length (c ∷ cs) = omega arith in
    rw (eq-eqb c c refl)
    (words-differ (k + 1) cs rest other x y differ ∙ ap (λ (place : ℕ). Some (at_word place x y)) here)

-- the first word at which two lists differ
pub words-told : (first second : List ℕ) (place x y : ℕ) → WordsDiffer first second place x y → other_word 0 first second ≡ Some (at_word place x y)
words-told first second place x y h =
    let here : 0 + length h.common ≡ length h.common = omega arith in
    ap (λ (words : List ℕ). other_word 0 words second) h.first_is
    ∙ ap (λ (words : List ℕ). other_word 0 (h.common ++ x ∷ h.rest) words) h.second_is
    ∙ words-differ 0 h.common h.rest h.other x y h.differ
    ∙ ap (λ (k : ℕ). Some (at_word k x y)) (here ∙ h.count)

-- ---- the difference

module _ (p : TypedProgramTree) (lengths : List ℕ) (budget : ℕ) where
  abbrev opened_with : List Entry → List ℕ
  opened_with entries = (run_on p entries lengths budget).opened

  abbrev words_of : (first second : List Entry) → Option Difference
  words_of first second = other_word 0 (opened_with first) (opened_with second)

  pub alike_have_none : (first second : List Entry) → AreAlike p first second lengths budget → difference p first second lengths budget ≡ None
  unfolding difference
  alike_have_none first second alike =
      ap (λ (part : List PublicEntry). entry_first (other_entry (part_of first) part) (words_of first second)) (sym alike.known)
      ∙ ap (λ (name : Option (List ℕ)). entry_first name (words_of first second)) (parts-itself (part_of first))
      ∙ ap (λ (words : List ℕ). other_word 0 (opened_with first) words) (sym alike.opened)
      ∙ words-itself 0 (opened_with first)

  none_at_entries : (name : Option (List ℕ)) (word : Option Difference) → entry_first name word ≡ None → (name ≡ None) × (word ≡ None)
  none_at_entries (Some name) word h = absurd cc
  none_at_entries None word h = (refl, h)

  pub none_are_alike : (first second : List Entry) → difference p first second lengths budget ≡ None → AreAlike p first second lengths budget
  unfolding difference
  none_are_alike first second none =
      let both = none_at_entries (other_entry (part_of first) (part_of second)) (words_of first second) none in
      alike-so p lengths budget first second (parts-same (part_of first) (part_of second) both.0)
      (words-begin 0 (opened_with first) (opened_with second) both.1)

  pub told_at_entry : (first second : List Entry) (name : List ℕ) → PartsDiffer (part_of first) (part_of second) name
      → difference p first second lengths budget ≡ Some (at_entry name)
  unfolding difference
  told_at_entry first second name h =
      ap (λ (part : List PublicEntry). entry_first (other_entry part (part_of second)) (words_of first second)) h.first_is
      ∙ ap (λ (part : List PublicEntry). entry_first (other_entry (h.common ++ h.rest) part) (words_of first second)) h.second_is
      ∙ ap (λ (found : Option (List ℕ)). entry_first found (words_of first second)) (parts-differ h.common h.rest h.other name h.here)

  pub told_at_word : (first second : List Entry) (place x y : ℕ) → part_of first ≡ part_of second
      → WordsDiffer (opened_with first) (opened_with second) place x y → difference p first second lengths budget ≡ Some (at_word place x y)
  unfolding difference
  told_at_word first second place x y known h =
      ap (λ (part : List PublicEntry). entry_first (other_entry (part_of first) part) (words_of first second)) (sym known)
      ∙ ap (λ (name : Option (List ℕ)). entry_first name (words_of first second)) (parts-itself (part_of first))
      ∙ words-told (opened_with first) (opened_with second) place x y h
