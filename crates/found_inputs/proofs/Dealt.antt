-- What is found deals the views.
use Rattle.std.proofs.Common.{◌≡◌, ℕ, zero, suc, ◌+◌, ◌*◌, ◌<◌, ◌^◌, ◌==◌, List, [], ◌∷◌, ◌++◌, All, length, map, take, drop, get_or}
use Rattle.std.proofs.Common.{refl, sym, ◌∙◌, ap, arith, append_assoc}
use Rattle.std.proofs.lemmas.List.{take_at, drop_at, drop-drop, length-append, length-map}
use Rattle.std.proofs.lemmas.List.Elements.{All-from_get_or}
use Rattle.std.proofs.lemmas.List.Sums.{sum_by-cons}
use Rattle.bit_words.specs.Gathered.{unpacked}
use Rattle.bit_words.proofs.Packing.{length-unpacked, unpacked-bits}
use Rattle.proto_core.specs.Ring.{Ring, RingLaws}
use Rattle.proto_core.proofs.Sums.{left_of_three}
use Rattle.proto_core.specs.declared.party.Number.{Number}
use Rattle.proto_core.specs.declared.party.Number.TheVariants.{One, Two, Three}
use Rattle.proto_core.specs.Parties.{of_three}
use Rattle.value_file.specs.declared.value.Domain.TheVariants as domain
use Rattle.value_file.specs.declared.value.DataType.{DataType}
use Rattle.value_file.specs.declared.value.DataType.TheVariants.{Uint64, Int64, Bool as Truths_}
use Rattle.value_file.specs.declared.value.Shape.{Shape}
use Rattle.value_file.specs.declared.value.Shape.TheVariants.{Scalar, Array}
use Rattle.value_file.specs.declared.value.Value.{Value}
use Rattle.value_file.specs.declared.inputs.Entry.{Entry}
use Rattle.value_file.specs.declared.public.PublicValue.{PublicValue}
use Rattle.value_file.specs.declared.public.PublicValue.TheVariants.{Known, Hidden}
use Rattle.value_file.specs.declared.public.PublicEntry.{PublicEntry}
use Rattle.value_file.specs.Values.{type_of, shape_of, size_of, count_of}
use Rattle.value_file.specs.Public.{part_of}
use Rattle.input_share.specs.Values.{bit_word, elements_of, shared_as, shared_words, shared_size, ring_of}
use Rattle.input_share.specs.AddUp.{sums_of}
use Rattle.input_share.specs.Dealing.{left_of, first_masks, second_masks, share_of, draws_of, need_of, dealt_entries}
use Rattle.input_share.proofs.AddUpLaws.{ring_laws}
use Rattle.view_text.specs.View.{InputShare}
use Rattle.found_inputs.specs.Found.{input_shares}
use Rattle.found_inputs.specs.Found.{elements_in, value_of, found_value, found_entries, found_words, AreLines, IsSumOf, HaveTruths}
use Rattle.found_inputs.specs.FoundLaws.{AreOf, Deal}

-- ---- one value

module _ {r : Ring} (laws : RingLaws r) where
  -- the third share is what the two others leave of the sums
  left_sums : (xs ys zs : List ℕ) → length xs ≡ length zs → length ys ≡ length zs → All (λ n. n < 2 ^ 64) zs → left_of r (sums_of r xs ys zs) xs ys ≡ zs
  left_sums [] ys [] h g words = refl
  left_sums [] ys (z ∷ zs) h g words = absurd (omega arith)
  left_sums (x ∷ xs) ys [] h g words = absurd (omega arith)
  left_sums (x ∷ xs) [] (z ∷ zs) h g words = absurd (omega arith)
  left_sums (x ∷ xs) (y ∷ ys) (z ∷ zs) h g words =
      ap (λ n. n ∷ left_of r (sums_of r xs ys zs) xs ys) (left_of_three laws x y z (words 0 z (omega arith)))
      ∙ ap (λ l. z ∷ l) (left_sums xs ys zs (omega arith) (omega arith) (λ k d lt. words (suc k) d (omega arith)))

length-sums : (r : Ring) (xs ys zs : List ℕ) → length xs ≡ length zs → length ys ≡ length zs → length (sums_of r xs ys zs) ≡ length zs
length-sums r [] ys [] h g = refl
length-sums r [] ys (z ∷ zs) h g = absurd (omega arith)
length-sums r (x ∷ xs) ys [] h g = absurd (omega arith)
length-sums r (x ∷ xs) [] (z ∷ zs) h g = absurd (omega arith)
length-sums r (x ∷ xs) (y ∷ ys) (z ∷ zs) h g = ap suc (length-sums r xs ys zs (omega arith) (omega arith))

-- a value with these elements, of this type and shape
bit_of : (w : ℕ) → w < 2 → bit_word (w == 1) ≡ w
bit_of zero h = refl
bit_of (suc zero) h = refl
bit_of (suc (suc w)) h = absurd (omega arith)

bits_of_all : (ws : List ℕ) → All (λ w. w < 2) ws → map bit_word (map (λ w. w == 1) ws) ≡ ws
bits_of_all [] h = refl
bits_of_all (w ∷ ws) h =
    ap (λ n. n ∷ map bit_word (map (λ v. v == 1) ws)) (bit_of w (h 0 w (omega arith)))
    ∙ ap (λ l. w ∷ l) (bits_of_all ws (λ k d lt. h (suc k) d (omega arith)))

single : (ws : List ℕ) → length ws ≡ 1 → get_or ws 0 0 ∷ [] ≡ ws
single [] h = absurd (omega arith)
single (w ∷ []) h = refl
single (w ∷ v ∷ ws) h = absurd (omega arith)

first_small : (ws : List ℕ) → length ws ≡ 1 → All (λ w. w < 2) ws → get_or ws 0 0 < 2
first_small [] e h = absurd (omega arith)
first_small (w ∷ ws) e h = h 0 w (omega arith)

record HasElements (kind : DataType) (shape : Shape) (es : List ℕ) (v : Value) : Type 0 where
  pub kinded : type_of v ≡ kind
  pub shaped : shape_of v ≡ shape
  pub elements : elements_of v ≡ es

abbrev AreTruths : DataType → List ℕ → Type 0
AreTruths Uint64 es = Unit {0}
AreTruths Int64 es = Unit {0}
AreTruths Truths_ es = All (λ e. e < 2) es

has_elements : (kind : DataType) (shape : Shape) (es : List ℕ) → length es ≡ size_of shape → AreTruths kind es
    → HasElements kind shape es (value_of kind shape es)
has_elements Uint64 Scalar es size bits = record { kinded = refl; shaped = refl; elements = single es size }
has_elements Uint64 (Array count) es size bits = record { kinded = refl; shaped = ap Array size; elements = refl }
has_elements Int64 Scalar es size bits = record { kinded = refl; shaped = refl; elements = single es size }
has_elements Int64 (Array count) es size bits = record { kinded = refl; shaped = ap Array size; elements = refl }
has_elements Truths_ Scalar es size bits =
    record { kinded = refl; shaped = refl; elements = ap (λ n. n ∷ []) (bit_of (get_or es 0 0) (first_small es size bits)) ∙ single es size }
has_elements Truths_ (Array count) es size bits =
    record { kinded = refl; shaped = ap Array (length-map es (λ e. e == 1) ∙ size); elements = bits_of_all es bits }

-- the elements that words hold
elements_long : (kind : DataType) (n : ℕ) (ws : List ℕ) → length ws ≡ shared_size kind n → length (elements_in kind n ws) ≡ n
elements_long Uint64 n ws size = size
elements_long Int64 n ws size = size
elements_long Truths_ n ws size = length-unpacked ws n

elements_small : (kind : DataType) (n : ℕ) (ws : List ℕ) → AreTruths kind (elements_in kind n ws)
elements_small Uint64 n ws = tt
elements_small Int64 n ws = tt
elements_small Truths_ n ws = All-from_get_or (λ e. e < 2) (unpacked ws n) 0 (λ k h. unpacked-bits ws n k)

-- a value of this type and shape that is shared in these words
record IsValueOf (kind : DataType) (shape : Shape) (ws : List ℕ) (v : Value) : Type 0 where
  pub kinded : type_of v ≡ kind
  pub shaped : shape_of v ≡ shape
  pub words : shared_words v ≡ ws

found_has : (kind : DataType) (shape : Shape) (ws : List ℕ) → length ws ≡ shared_size kind (size_of shape) → IsSumOf kind (size_of shape) ws
    → IsValueOf kind shape ws (found_value kind shape ws)
found_has kind shape ws size sum =
    let n : ℕ = size_of shape in
    let has = has_elements kind shape (elements_in kind n ws) (elements_long kind n ws size) (elements_small kind n ws) in
    record {
      kinded = has.kinded;
      shaped = has.shaped;
      words = ap (λ k. shared_as k (elements_of (found_value kind shape ws))) has.kinded ∙ ap (shared_as kind) has.elements ∙ sum;
    }

-- ---- one hidden input

module _ (kind : DataType) (x y z more : List ℕ) (h : length x ≡ length z) (g : length y ≡ length z) (words : All (λ n. n < 2 ^ 64) z) where
  abbrev sums : List ℕ
  sums = sums_of (ring_of kind) x y z

  size : length sums ≡ length z
  size = length-sums (ring_of kind) x y z h g

  firsts : first_masks (length sums) (x ++ (y ++ more)) ≡ x
  firsts = take_at x (y ++ more) (length sums) (h ∙ sym size)

  seconds : second_masks (length sums) (x ++ (y ++ more)) ≡ y
  seconds =
      ap (take (length sums)) (drop_at x (y ++ more) (length sums) (h ∙ sym size))
      ∙ take_at y more (length sums) (g ∙ sym size)

  pub shares_are : (i : Number) → share_of i (ring_of kind) sums (x ++ (y ++ more)) ≡ of_three x y z i
  shares_are One = firsts
  shares_are Two = seconds
  shares_are Three =
      ap (λ d. left_of (ring_of kind) sums d (second_masks (length sums) (x ++ (y ++ more)))) firsts
      ∙ ap (left_of (ring_of kind) sums x) seconds
      ∙ left_sums (ring_laws kind) x y z h g words

  pub rest_after : (n : ℕ) → n ≡ 2 * length z → drop n (x ++ (y ++ more)) ≡ more
  rest_after n e =
      let all : n ≡ length x + length y = omega arith in
      ap (λ m. drop m (x ++ (y ++ more))) all
      ∙ sym (drop-drop (length y) (length x) (x ++ (y ++ more)))
      ∙ ap (drop (length y)) (drop_at x (y ++ more) (length x) refl)
      ∙ drop_at y more (length y) refl

-- ---- all inputs

abbrev public_then : (name : List ℕ) → PublicValue → List PublicEntry → List PublicEntry
public_then name v es = record { name = name; value = v } ∷ es

abbrev line_then : (name : List ℕ) → (words : List ℕ) → List InputShare → List InputShare
line_then name words ss = record { name = name; words = words } ∷ ss

named : (i : Number) (name : List ℕ) (x y z : InputShare) (xs ys zs : List InputShare) → x.name ≡ name → y.name ≡ name → z.name ≡ name
    → line_then name (of_three x.words y.words z.words i) (of_three xs ys zs i) ≡ of_three (x ∷ xs) (y ∷ ys) (z ∷ zs) i
named One name x y z xs ys zs a b c = ap (λ n. line_then n x.words xs) (sym a)
named Two name x y z xs ys zs a b c = ap (λ n. line_then n y.words ys) (sym b)
named Three name x y z xs ys zs a b c = ap (λ n. line_then n z.words zs) (sym c)

none_left : (i : Number) (xs ys zs : List InputShare) → xs ≡ [] → ys ≡ [] → zs ≡ [] → [] ≡ of_three xs ys zs i
none_left One xs ys zs a b c = sym a
none_left Two xs ys zs a b c = sym b
none_left Three xs ys zs a b c = sym c

-- what holds of the inputs after one
abbrev Rest : List PublicEntry → (more : List ℕ) → Type 0
Rest es more =
    (one two three : List InputShare) → AreLines es one → AreLines es two → AreLines es three → HaveTruths es one two three → Deal es one two three more

module _ (name : List ℕ) (es : List PublicEntry) (more : List ℕ) (ih : Rest es more) where
  abbrev with_value : PublicValue → List PublicEntry
  with_value v = record { name = name; value = v } ∷ es

  deal_known : (value : Value) → Rest (with_value (Known value)) more
  deal_known value one two three a b c t =
      let rest = ih one two three a b c t in
      record {
        known = ap (λ l. record { name = name; value = Known value } ∷ l) rest.known;
        need =
            let all = sum_by-cons draws_of (record { name = name; domain = domain.Public; value = value }) (found_entries es one two three) in
            let n = rest.need in
            omega (arith, all, n);
        shares = λ i. rest.shares i;
      }

  module _ (kind : DataType) (shape : Shape) (x y z : InputShare) (xs ys zs : List InputShare)
      (a : AreLines (with_value (Hidden kind shape)) (x ∷ xs)) (b : AreLines (with_value (Hidden kind shape)) (y ∷ ys))
      (c : AreLines (with_value (Hidden kind shape)) (z ∷ zs)) (t : HaveTruths (with_value (Hidden kind shape)) (x ∷ xs) (y ∷ ys) (z ∷ zs)) where
    rest : Deal es xs ys zs more
    rest = ih xs ys zs a.1 b.1 c.1 t.1

    abbrev ws : List ℕ
    ws = sums_of (ring_of kind) x.words y.words z.words

    abbrev v : Value
    v = found_value kind shape ws

    abbrev entry : Entry
    entry = record { name = name; domain = domain.Private; value = v }

    abbrev later : List Entry
    later = found_entries es xs ys zs

    abbrev words : List ℕ
    words = found_words es xs ys

    lx : length x.words ≡ length z.words
    lx = a.0.1 ∙ sym c.0.1

    ly : length y.words ≡ length z.words
    ly = b.0.1 ∙ sym c.0.1

    has : IsValueOf kind shape ws v
    has = found_has kind shape ws (length-sums (ring_of kind) x.words y.words z.words lx ly ∙ c.0.1) t.0

    -- in how many words it is shared
    abbrev m : ℕ
    m = shared_size (type_of v) (count_of v)

    counted : m ≡ length z.words
    counted = ap (λ k. shared_size k (count_of v)) has.kinded ∙ ap (λ s. shared_size kind (size_of s)) has.shaped ∙ sym c.0.1

    so_many : 2 * m + need_of later ≡ length (x.words ++ (y.words ++ words))
    so_many =
        let one = length-append x.words (y.words ++ words) in
        let two = length-append y.words words in
        let n = rest.need in
        omega (arith, counted, lx, ly, one, two, n)

    abbrev dealer : List ℕ
    dealer = x.words ++ (y.words ++ (words ++ more))

    whole : (x.words ++ (y.words ++ words)) ++ more ≡ dealer
    whole = append_assoc x.words (y.words ++ words) more ∙ ap (λ l. x.words ++ l) (append_assoc y.words words more)

    shares_of : (i : Number)
        → input_shares (dealt_entries i (entry ∷ later) ((x.words ++ (y.words ++ words)) ++ more)) ≡ of_three (x ∷ xs) (y ∷ ys) (z ∷ zs) i
    shares_of i =
        let mine : share_of i (ring_of (type_of v)) (shared_words v) dealer ≡ of_three x.words y.words z.words i =
        ap (λ k. share_of i (ring_of k) (shared_words v) dealer) has.kinded
        ∙ ap (λ l. share_of i (ring_of kind) l dealer) has.words
        ∙ shares_are kind x.words y.words z.words (words ++ more) lx ly c.0.2 i in
        let left : drop (2 * m) dealer ≡ words ++ more =
        rest_after kind x.words y.words z.words (words ++ more) lx ly c.0.2 (2 * m) (ap (λ n. 2 * n) counted) in
        ap (λ d. input_shares (dealt_entries i (entry ∷ later) d)) whole
        ∙ ap (λ w. line_then name w (input_shares (dealt_entries i later (drop (2 * m) dealer)))) mine
        ∙ ap (λ d. line_then name (of_three x.words y.words z.words i) (input_shares (dealt_entries i later d))) left
        ∙ ap (line_then name (of_three x.words y.words z.words i)) (rest.shares i)
        ∙ named i name x y z xs ys zs a.0.0 b.0.0 c.0.0

    deal_hidden : Deal (with_value (Hidden kind shape)) (x ∷ xs) (y ∷ ys) (z ∷ zs) more
    deal_hidden =
        record {
          known =
              ap (λ k. public_then name (Hidden k (shape_of v)) (part_of later)) has.kinded
              ∙ ap (λ s. public_then name (Hidden kind s) (part_of later)) has.shaped
              ∙ ap (public_then name (Hidden kind shape)) rest.known;
          need = sum_by-cons draws_of entry later ∙ so_many;
          shares = λ i. shares_of i;
        }

  deal_value : (v : PublicValue) → Rest (with_value v) more
  deal_value (Known value) one two three a b c t = deal_known value one two three a b c t
  deal_value (Hidden kind shape) [] two three a b c t = absurd a.0
  deal_value (Hidden kind shape) (x ∷ xs) [] three a b c t = absurd b.0
  deal_value (Hidden kind shape) (x ∷ xs) (y ∷ ys) [] a b c t = absurd c.0
  deal_value (Hidden kind shape) (x ∷ xs) (y ∷ ys) (z ∷ zs) a b c t = deal_hidden kind shape x y z xs ys zs a b c t

pub deals : (es : List PublicEntry) (more : List ℕ) → Rest es more
deals [] more one two three a b c t = record { known = refl; need = refl; shares = λ i. none_left i one two three a b c }
deals (e ∷ es) more one two three a b c t = deal_value e.name es more (deals es more) e.value one two three a b c t

pub deal_the_views : (part : List PublicEntry) (one two three : List InputShare) (more : List ℕ) → AreOf part one two three → Deal part one two three more
deal_the_views part one two three more h = deals part more one two three h.first h.second h.third h.truths
