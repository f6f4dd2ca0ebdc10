-- What gates make of words is what operators mean on them.
use Rattle.std.proofs.Common.{◌≡◌, ℕ, zero, suc, ◌+◌, ◌<◌, ◌^◌, ◌%◌, min, List, [], ◌∷◌, length, map, Bool, true, false, not, refl, ap, ◌∙◌, arith, inl, inr}
use Rattle.std.specs.Prelude.{nat_eq, nat_lt, nat_le, int_lt, ◌==◌, replicate, bit_and, bit_or, bit_xor, if◌then◌else◌}
use Rattle.std.proofs.lemmas.Bool.{cases_lt}
use Rattle.std.proofs.lemmas.Bool.Decides.{nat_tests}
use Rattle.proto_core.specs.Rings.{add_ring, xor_ring}
use Rattle.gates.specs.Clear.{each_two}
use Rattle.gates.specs.WordTests.{zero_test, less_test}
use Rattle.language_model.specs.Words.{truth_word, flipped}
use Rattle.language_model.specs.Words.{meaning}
use Rattle.program_trees.specs.declared.expression.DataType.{DataType}
use Rattle.program_trees.specs.declared.expression.DataType.TheVariants.{Uint64, Int64}
use Rattle.program_trees.specs.declared.expression.DataType.TheVariants as datatype
use Rattle.proto_core.specs.RingsKeepLaws.{add_ring_laws}
use Rattle.std.proofs.Math.Nat.{div-le_self, mod-le}
use Rattle.std.proofs.lemmas.Nat.{xor_lt, or_lt, and_le_l}
use Rattle.program_trees.specs.declared.operators.OperatorSign.{OperatorSign}
use Rattle.program_trees.specs.declared.operators.OperatorSign.TheVariants as word
use Rattle.program_trees.specs.declared.operators.BoolOperator.{BoolOperator}
use Rattle.program_trees.specs.declared.operators.BoolOperator.TheVariants as truth
use Rattle.program_trees.specs.declared.operators.BinaryOperator.{BinaryOperator}
use Rattle.program_trees.specs.declared.operators.BinaryOperator.TheVariants.{Words, Ints, Bools}
use Rattle.program_trees.specs.Operators.{element_made}
use Rattle.signed_words.specs.Signed.{signed, signed_less}
use Rattle.signed_words.proofs.Quotients.{quotients_are_words}
use Rattle.gate_laws.specs.Dealt.{bound}
use Rattle.gate_laws.specs.Rows.{element_taken}
use Rattle.gate_laws.proofs.Ranges.{Below, below_head, below_tail, two_below, truth_below}

-- ---- lists of words

pub map_two : (f : ℕ → ℕ) (g : ℕ → ℕ → ℕ) (xs ys : List ℕ) → map f (each_two g xs ys) ≡ each_two (λ x y. f (g x y)) xs ys
map_two f g [] ys = refl
map_two f g (x ∷ xs) [] = refl
map_two f g (x ∷ xs) (y ∷ ys) = ap (λ z. f (g x y) ∷ z) (map_two f g xs ys)

pub two_of_two : (f g h : ℕ → ℕ → ℕ) (xs ys : List ℕ) → each_two f (each_two g xs ys) (each_two h xs ys) ≡ each_two (λ x y. f (g x y) (h x y)) xs ys
two_of_two f g h [] ys = refl
two_of_two f g h (x ∷ xs) [] = refl
two_of_two f g h (x ∷ xs) (y ∷ ys) = ap (λ z. f (g x y) (h x y) ∷ z) (two_of_two f g h xs ys)

pub two_ext : (f g : ℕ → ℕ → ℕ) (xs ys : List ℕ) → ((x y : ℕ) → f x y ≡ g x y) → each_two f xs ys ≡ each_two g xs ys
two_ext f g [] ys h = refl
two_ext f g (x ∷ xs) [] h = refl
two_ext f g (x ∷ xs) (y ∷ ys) h = ap (λ z. z ∷ each_two f xs ys) (h x y) ∙ ap (λ z. g x y ∷ z) (two_ext f g xs ys h)

pub two_swapped : (f : ℕ → ℕ → ℕ) (xs ys : List ℕ) → each_two f ys xs ≡ each_two (λ x y. f y x) xs ys
two_swapped f [] [] = refl
two_swapped f [] (y ∷ ys) = refl
two_swapped f (x ∷ xs) [] = refl
two_swapped f (x ∷ xs) (y ∷ ys) = ap (λ z. f y x ∷ z) (two_swapped f xs ys)

-- ---- numbers

equal_yes : (d x y : ℕ) → d ≡ 0 → x ≡ y → zero_test d ≡ truth_word (nat_eq x y)
equal_yes d x y none same = grind (arith, nat_tests)

equal_below : (d x y : ℕ) → 0 < d → x < y → zero_test d ≡ truth_word (nat_eq x y)
equal_below d x y some below = grind (arith, nat_tests)

equal_above : (d x y : ℕ) → 0 < d → y < x → zero_test d ≡ truth_word (nat_eq x y)
equal_above d x y some above = grind (arith, nat_tests)

pub equal_word : (x y : ℕ) → x < 2 ^ 64 → y < 2 ^ 64 → zero_test (add_ring.sub x y) ≡ truth_word (nat_eq x y)
equal_word x y hx hy =
    elim (cases_lt x y) as (λ _. zero_test (add_ring.sub x y) ≡ truth_word (nat_eq x y)) [
      | inl below ↦ equal_below (add_ring.sub x y) x y (omega arith) below
      | inr not_below ↦ elim (cases_lt y x) as (λ _. zero_test (add_ring.sub x y) ≡ truth_word (nat_eq x y)) [
        | inl above ↦ equal_above (add_ring.sub x y) x y (omega arith) above
        | inr not_above ↦ equal_yes (add_ring.sub x y) x y (omega arith) (omega arith)
      ]
    ]

pub less_word : (x y : ℕ) → less_test x y ≡ truth_word (nat_lt x y)
less_word x y = go (nat_lt x y)
  where
    go : (b : Bool) → (if b then 1 else 0) ≡ truth_word b
    go true = refl
    go false = refl

pub flipped_truth : (b : Bool) → flipped (truth_word b) ≡ truth_word (not b)
flipped_truth true = refl
flipped_truth false = refl

not_less : (x y : ℕ) → not (nat_lt x y) ≡ nat_le y x
not_less x y =
    elim (cases_lt x y) as (λ _. not (nat_lt x y) ≡ nat_le y x) [
      | inl below ↦ grind (arith, nat_tests)
      | inr not_below ↦ grind (arith, nat_tests)
    ]

pub at_most_word : (x y : ℕ) → flipped (truth_word (nat_lt x y)) ≡ truth_word (nat_le y x)
at_most_word x y = flipped_truth (nat_lt x y) ∙ ap truth_word (not_less x y)

-- ---- numbers with a sign

pub signed_below : (x y : ℕ) → signed_less x y < 2
signed_below x y = go (int_lt (signed x) (signed y))
  where
    go : (b : Bool) → (if b then 1 else 0) < 2
    go true = omega arith
    go false = omega arith

pub zero_flipped : (x : ℕ) → flipped (zero_test x) ≡ truth_word (not (x == 0))
zero_flipped x = go (x == 0)
  where
    go : (b : Bool) → flipped (if b then 1 else 0) ≡ truth_word (not b)
    go true = refl
    go false = refl

-- ---- truth values

-- what holds of 0 and 1
pub of_bit : (P : ℕ → Type 0) → P 0 → P 1 → (x : ℕ) → x < 2 → P x
of_bit P a b zero h = a
of_bit P a b (suc zero) h = b
of_bit P a b (suc (suc x)) h = absurd (omega (arith, h))

pub of_bits : (f g : ℕ → ℕ → ℕ) → f 0 0 ≡ g 0 0 → f 0 1 ≡ g 0 1 → f 1 0 ≡ g 1 0 → f 1 1 ≡ g 1 1 → (x y : ℕ) → x < 2 → y < 2 → f x y ≡ g x y
of_bits f g a b c e x y h k =
    of_bit (λ x. f x y ≡ g x y) (of_bit (λ y. f 0 y ≡ g 0 y) a b y k) (of_bit (λ y. f 1 y ≡ g 1 y) c e y k) x h

-- ---- parities, by which what is done with elements is done with their packed words

pub flip_parity : (x : ℕ) → x < 2 → flipped x % 2 ≡ (x + 1) % 2
flip_parity = of_bit (λ x. flipped x % 2 ≡ (x + 1) % 2) refl refl

pub xor_parity : (x y : ℕ) → x < 2 → y < 2 → bit_xor x y % 2 ≡ (x + y) % 2
xor_parity = of_bits (λ x y. bit_xor x y % 2) (λ x y. (x + y) % 2) refl refl refl refl

pub differ_parity : (x y : ℕ) → x < 2 → y < 2 → truth_word (not (nat_eq x y)) % 2 ≡ (x + y) % 2
differ_parity = of_bits (λ x y. truth_word (not (nat_eq x y)) % 2) (λ x y. (x + y) % 2) refl refl refl refl

pub and_parity : (x y : ℕ) → x < 2 → y < 2 → xor_ring.mul x y % 2 ≡ min (x % 2) (y % 2) % 2
and_parity = of_bits (λ x y. xor_ring.mul x y % 2) (λ x y. min (x % 2) (y % 2) % 2) refl refl refl refl

pub and_word_parity : (x y : ℕ) → x < 2 → y < 2 → bit_and x y % 2 ≡ min (x % 2) (y % 2) % 2
and_word_parity = of_bits (λ x y. bit_and x y % 2) (λ x y. min (x % 2) (y % 2) % 2) refl refl refl refl

-- either is true: the xor of one of them and both
pub or_words : (x y : ℕ) → x < 2 → y < 2 → bit_xor (bit_xor x y) (bit_and x y) ≡ bit_or x y
or_words = of_bits (λ x y. bit_xor (bit_xor x y) (bit_and x y)) bit_or refl refl refl refl

pub equal_words : (x y : ℕ) → x < 2 → y < 2 → flipped (bit_xor x y) ≡ truth_word (nat_eq x y)
equal_words = of_bits (λ x y. flipped (bit_xor x y)) (λ x y. truth_word (nat_eq x y)) refl refl refl refl

pub xor_small : (x y : ℕ) → x < 2 → y < 2 → bit_xor x y < 2
xor_small x y h k = of_bit (λ x. bit_xor x y < 2) (of_bit (λ y. bit_xor 0 y < 2) (omega arith) (omega arith) y k)
    (of_bit (λ y. bit_xor 1 y < 2) (omega arith) (omega arith) y k) x h

pub and_small : (x y : ℕ) → x < 2 → y < 2 → bit_and x y < 2
and_small x y h k = of_bit (λ x. bit_and x y < 2) (of_bit (λ y. bit_and 0 y < 2) (omega arith) (omega arith) y k)
    (of_bit (λ y. bit_and 1 y < 2) (omega arith) (omega arith) y k) x h

pub xor_bits : (x y : ℕ) → x < 2 → y < 2 → xor_ring.add x y ≡ bit_xor x y
xor_bits = of_bits xor_ring.add bit_xor refl refl refl refl

pub and_bits : (x y : ℕ) → x < 2 → y < 2 → xor_ring.mul x y ≡ bit_and x y
and_bits = of_bits xor_ring.mul bit_and refl refl refl refl

pub or_bits : (x y : ℕ) → x < 2 → y < 2 → xor_ring.add (xor_ring.add x y) (xor_ring.mul x y) ≡ bit_or x y
or_bits = of_bits (λ x y. xor_ring.add (xor_ring.add x y) (xor_ring.mul x y)) bit_or refl refl refl refl

pub differ_bits : (x y : ℕ) → x < 2 → y < 2 → xor_ring.add x y ≡ truth_word (not (nat_eq x y))
differ_bits = of_bits xor_ring.add (λ x y. truth_word (not (nat_eq x y))) refl refl refl refl

pub equal_bits : (x y : ℕ) → x < 2 → y < 2 → flipped (xor_ring.add x y) ≡ truth_word (nat_eq x y)
equal_bits = of_bits (λ x y. flipped (xor_ring.add x y)) (λ x y. truth_word (nat_eq x y)) refl refl refl refl

pub conversion_bits : (x : ℕ) → x < 2 → x % 2 ≡ x
conversion_bits = of_bit (λ x. x % 2 ≡ x) refl refl

-- ---- what is made is in range

pub xor_low : (x y : ℕ) → x < 2 → y < 2 → xor_ring.add x y < 2
xor_low x y h k = of_bit (λ x. xor_ring.add x y < 2) (of_bit (λ y. xor_ring.add 0 y < 2) (omega arith) (omega arith) y k)
    (of_bit (λ y. xor_ring.add 1 y < 2) (omega arith) (omega arith) y k) x h

bits_low : (f : ℕ → ℕ → ℕ) → f 0 0 < 2 → f 0 1 < 2 → f 1 0 < 2 → f 1 1 < 2 → (x y : ℕ) → x < 2 → y < 2 → f x y < 2
bits_low f a b c e x y h k = of_bit (λ x. f x y < 2) (of_bit (λ y. f 0 y < 2) a b y k) (of_bit (λ y. f 1 y < 2) c e y k) x h

pub some_bound : (e : DataType) → 0 < bound e
some_bound Uint64 = omega arith
some_bound Int64 = omega arith
some_bound datatype.Bool = omega arith

and_lt : (x y : ℕ) → x < 2 ^ 64 → bit_and x y < 2 ^ 64
and_lt x y h = let e = and_le_l x y in omega (arith, e, h)

pub word_range : (op : OperatorSign) (x y : ℕ) → x < 2 ^ 64 → y < 2 ^ 64 → meaning (Words op) x y < bound (element_made (Words op))
word_range word.Add x y h k = add_ring_laws.add_word x y
word_range word.Subtract x y h k = add_ring_laws.sub_word x y
word_range word.Multiply x y h k = add_ring_laws.mul_word x y
word_range word.Divide x y h k = let e = div-le_self x y in omega (arith, e, h)
word_range word.Remainder x y h k = let e = mod-le x y in omega (arith, e, h)
word_range word.Equal x y h k = truth_below (nat_eq x y)
word_range word.NotEqual x y h k = truth_below (not (nat_eq x y))
word_range word.Less x y h k = truth_below (nat_lt x y)
word_range word.LessOrEqual x y h k = truth_below (nat_le x y)
word_range word.Greater x y h k = truth_below (nat_lt y x)
word_range word.GreaterOrEqual x y h k = truth_below (nat_le y x)
word_range word.And x y h k = and_lt x y h
word_range word.Or x y h k = or_lt 64 x y h k
word_range word.Xor x y h k = xor_lt 64 x y h k

pub int_range : (op : OperatorSign) (x y : ℕ) → x < 2 ^ 64 → y < 2 ^ 64 → meaning (Ints op) x y < bound (element_made (Ints op))
int_range word.Add x y h k = add_ring_laws.add_word x y
int_range word.Subtract x y h k = add_ring_laws.sub_word x y
int_range word.Multiply x y h k = add_ring_laws.mul_word x y
int_range word.Divide x y h k = quotients_are_words.quotient x y h k
int_range word.Remainder x y h k = quotients_are_words.remainder x y h k
int_range word.Equal x y h k = truth_below (nat_eq x y)
int_range word.NotEqual x y h k = truth_below (not (nat_eq x y))
int_range word.Less x y h k = signed_below x y
int_range word.LessOrEqual x y h k = truth_below (signed_less y x == 0)
int_range word.Greater x y h k = signed_below y x
int_range word.GreaterOrEqual x y h k = truth_below (signed_less x y == 0)
int_range word.And x y h k = and_lt x y h
int_range word.Or x y h k = or_lt 64 x y h k
int_range word.Xor x y h k = xor_lt 64 x y h k

pub truth_range : (op : BoolOperator) (x y : ℕ) → x < 2 → y < 2 → meaning (Bools op) x y < 2
truth_range truth.Equal x y h k = truth_below (nat_eq x y)
truth_range truth.NotEqual x y h k = truth_below (not (nat_eq x y))
truth_range truth.And x y h k = bits_low bit_and (omega arith) (omega arith) (omega arith) (omega arith) x y h k
truth_range truth.Or x y h k = bits_low bit_or (omega arith) (omega arith) (omega arith) (omega arith) x y h k
truth_range truth.Xor x y h k = bits_low bit_xor (omega arith) (omega arith) (omega arith) (omega arith) x y h k

pub operator_range : (op : BinaryOperator) (us vs : List ℕ) → Below (bound (element_taken op)) us → Below (bound (element_taken op)) vs
    → Below (bound (element_made op)) (each_two (meaning op) us vs)
operator_range (Words op) us vs p q = two_below (2 ^ 64) (bound (element_made (Words op))) (meaning (Words op)) us vs (some_bound (element_made (Words op)))
    (word_range op) p q
operator_range (Ints op) us vs p q =
    two_below (2 ^ 64) (bound (element_made (Ints op))) (meaning (Ints op)) us vs (some_bound (element_made (Ints op))) (int_range op) p q
operator_range (Bools op) us vs p q = two_below 2 2 (meaning (Bools op)) us vs (omega arith) (truth_range op) p q
