-- What is dealt is found.
use Rattle.std.proofs.Common.{◌≡◌, ℕ, zero, suc, ◌+◌, ◌-◌, ◌*◌, ◌<◌, ◌≤◌, ◌^◌, ◌==◌, Bool, true, false, List, [], ◌∷◌, ◌++◌, All, length, map, take, drop}
use Rattle.std.proofs.Common.{refl, sym, ◌∙◌, ap, arith}
use Rattle.std.proofs.lemmas.List.{drop-drop, length-drop, length-map}
use Rattle.std.proofs.lemmas.List.Sums.{sum_by-cons}
use Rattle.proto_core.specs.declared.party.Number.TheVariants.{One, Two, Three}
use Rattle.bit_words.specs.Gathered.{packed, unpacked}
use Rattle.bit_words.specs.Laws.{AreBits}
use Rattle.bit_words.proofs.Packing.{unpacked-packed}
use Rattle.value_file.specs.declared.value.Domain.{Domain}
use Rattle.value_file.specs.declared.value.Domain.TheVariants as domain
use Rattle.value_file.specs.declared.value.Value.{Value}
use Rattle.value_file.specs.declared.value.Value.TheVariants.{Number, Integer, Truth, Numbers, Integers, Truths}
use Rattle.value_file.specs.declared.inputs.Entry.{Entry}
use Rattle.value_file.specs.Values.{type_of, shape_of, size_of, count_of}
use Rattle.value_file.specs.Public.{part_of}
use Rattle.input_share.specs.Values.{bit_word, elements_of, shared_as, shared_words, shared_size, ring_of}
use Rattle.input_share.specs.AddUp.{sums_of, HasWords}
use Rattle.input_share.specs.Dealing.{share_of, draws_of, need_of}
use Rattle.input_share.proofs.AddUpLaws.{together-part_of}
use Rattle.input_share.proofs.Elements.{length-shared_words}
use Rattle.found_inputs.specs.Found.{elements_in, value_of, found_value, found_entries, IsSumOf}
use Rattle.found_inputs.specs.FoundLaws.{lines_of, IsFound}

-- ---- one value

bit_again : (b : Bool) → (bit_word b == 1) ≡ b
bit_again true = refl
bit_again false = refl

bits_again : (bs : List Bool) → map (λ w. w == 1) (map bit_word bs) ≡ bs
bits_again [] = refl
bits_again (b ∷ bs) = ap (λ x. x ∷ map (λ w. w == 1) (map bit_word bs)) (bit_again b) ∙ ap (λ l. b ∷ l) (bits_again bs)

elements_again : (v : Value) → value_of (type_of v) (shape_of v) (elements_of v) ≡ v
elements_again (Number n) = refl
elements_again (Integer x) = refl
elements_again (Truth b) = ap Truth (bit_again b)
elements_again (Numbers ns) = refl
elements_again (Integers xs) = refl
elements_again (Truths bs) = ap Truths (bits_again bs)

bit_small : (b : Bool) → bit_word b < 2
bit_small true = omega arith
bit_small false = omega arith

bits_are : (bs : List Bool) → AreBits (map bit_word bs)
bits_are [] k = omega arith
bits_are (b ∷ bs) zero = bit_small b
bits_are (b ∷ bs) (suc k) = bits_are bs k

bits_of : (bs : List Bool) (n : ℕ) → n ≡ length (map bit_word bs) → unpacked (packed (map bit_word bs)) n ≡ map bit_word bs
bits_of bs n e = ap (unpacked (packed (map bit_word bs))) e ∙ unpacked-packed (map bit_word bs) (bits_are bs)

-- the words of a value hold its elements
pub words_again : (v : Value) → elements_in (type_of v) (size_of (shape_of v)) (shared_words v) ≡ elements_of v
words_again (Number n) = refl
words_again (Integer x) = refl
words_again (Truth b) = bits_of (b ∷ []) 1 refl
words_again (Numbers ns) = refl
words_again (Integers xs) = refl
words_again (Truths bs) = bits_of bs (length bs) (sym (length-map bs bit_word))

pub words_are : (v : Value) → IsSumOf (type_of v) (size_of (shape_of v)) (shared_words v)
words_are v = ap (shared_as (type_of v)) (words_again v)

value_again : (v : Value) → found_value (type_of v) (shape_of v) (shared_words v) ≡ v
value_again v = ap (value_of (type_of v) (shape_of v)) (words_again v) ∙ elements_again v

-- ---- pieces of a tape

take_none : (n : ℕ) → take {A = ℕ} n [] ≡ []
take_none zero = refl
take_none (suc n) = refl

take_more : (a b c : ℕ) (xs : List ℕ) → c ≡ a + b → take c xs ≡ take a xs ++ take b (drop a xs)
take_more zero b c xs e = let same : c ≡ b = omega arith in ap (λ n. take n xs) same
take_more (suc a) b zero xs e = absurd (omega arith)
take_more (suc a) b (suc c) [] e = sym (take_none b)
take_more (suc a) b (suc c) (x ∷ xs) e = ap (λ l. x ∷ l) (take_more a b c xs (omega arith))

three_pieces : (n k : ℕ) (xs : List ℕ) → take n xs ++ (take n (drop n xs) ++ take k (drop (2 * n) xs)) ≡ take (2 * n + k) xs
three_pieces n k xs =
    let twice : n + n ≡ 2 * n = omega arith in
    ap (λ l. take n xs ++ (take n (drop n xs) ++ take k l)) (ap (λ m. drop m xs) (sym twice) ∙ sym (drop-drop n n xs))
    ∙ ap (λ l. take n xs ++ l) (sym (take_more n k (n + k) (drop n xs) refl))
    ∙ sym (take_more n (n + k) (2 * n + k) xs (omega arith))

-- ---- all inputs

module _ (name : List ℕ) (v : Value) (es : List Entry) (dealer : List ℕ) (fit : All (λ n. n < 2 ^ 64) (elements_of v)) where
  abbrev entry : Domain → Entry
  entry d = record { name = name; domain = d; value = v }

  find : (d : Domain) → draws_of (entry d) ≤ length dealer → IsFound es (drop (draws_of (entry d)) dealer) → IsFound (entry d ∷ es) dealer
  find domain.Public enough later =
      record {
        entries_are = ap (λ l. entry domain.Public ∷ l) later.entries_are;
        words_are =
            let all : need_of (entry domain.Public ∷ es) ≡ 0 + need_of es = sum_by-cons draws_of (entry domain.Public) es in
            let same : need_of es ≡ need_of (entry domain.Public ∷ es) = omega arith in
            later.words_are ∙ ap (λ n. take n dealer) same;
      }
  find domain.Private enough later =
      let r = ring_of (type_of v) in
      let n : ℕ = shared_size (type_of v) (count_of v) in
      let rest = drop (2 * n) dealer in
      let sums : sums_of r (share_of One r (shared_words v) dealer) (share_of Two r (shared_words v) dealer) (share_of Three r (shared_words v) dealer)
      ≡ shared_words v =
      together-part_of domain.Private v dealer enough fit in
      record {
        entries_are =
            ap (λ ws. record { name = name; domain = domain.Private; value = found_value (type_of v) (shape_of v) ws }
            ∷ found_entries (part_of es) (lines_of es rest One) (lines_of es rest Two) (lines_of es rest Three)) sums
            ∙ ap (λ w. record { name = name; domain = domain.Private; value = w }
            ∷ found_entries (part_of es) (lines_of es rest One) (lines_of es rest Two) (lines_of es rest Three)) (value_again v)
            ∙ ap (λ l. entry domain.Private ∷ l) later.entries_are;
        words_are =
            ap (λ l. take (length (shared_words v)) dealer ++ (take (length (shared_words v)) (drop (length (shared_words v)) dealer) ++ l)) later.words_are
            ∙ ap (λ m. take m dealer ++ (take m (drop m dealer) ++ take (need_of es) rest)) (length-shared_words v)
            ∙ three_pieces n (need_of es) dealer
            ∙ ap (λ m. take m dealer) (sym (sum_by-cons draws_of (entry domain.Private) es));
      }

none_needed : (dealer : List ℕ) → [] ≡ take 0 dealer
none_needed dealer = refl

pub are_found : (entries : List Entry) (dealer : List ℕ) → All HasWords entries → need_of entries ≤ length dealer → IsFound entries dealer
are_found [] dealer words enough = record { entries_are = refl; words_are = refl }
are_found (e ∷ es) dealer words enough =
    let need : need_of (e ∷ es) ≡ draws_of e + need_of es = sum_by-cons draws_of e es in
    let left : length (drop (draws_of e) dealer) ≡ length dealer - draws_of e = length-drop (draws_of e) dealer in
    find e.name e.value es dealer (words 0 e (omega arith)) e.domain (omega arith)
    (are_found es (drop (draws_of e) dealer) (λ k d lt. words (suc k) d (omega arith)) (omega arith))
