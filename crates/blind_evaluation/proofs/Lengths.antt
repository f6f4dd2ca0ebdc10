-- How many words an operation gives depends on how many it is given.
use Rattle.std.proofs.Common.{◌≡◌, ℕ, ◌*◌, List, [], ◌∷◌, ◌++◌, length, Bool, true, false, refl, sym, ap, ◌∙◌, arith, length-append, min}
use Rattle.std.specs.Prelude.{if◌then◌else◌, nat_le, nat_eq, map, get_or, replicate, set, ◌%◌}
use Rattle.std.specs.List.{zip, flat_map}
use Rattle.std.specs.Int.{bit_at}
use Rattle.std.proofs.lemmas.List.{length-map, length-replicate, length-set}
use Rattle.std.proofs.lemmas.List.FromFn.{length-map-range_with_len}
use Rattle.std.proofs.lemmas.Slice.Zip.{length-zip}
use Rattle.std.proofs.lemmas.Bool.Decides.{nat_tests}
use Rattle.std.proofs.Math.Nat.{mod-mod}
use Rattle.program_trees.specs.declared.expression.DataType.{DataType}
use Rattle.program_trees.specs.declared.expression.DataType.TheVariants.{Uint64, Int64}
use Rattle.program_trees.specs.declared.expression.DataType.TheVariants as datatype
use Rattle.gates.specs.Clear.{each_two, bits_of, first_word}
use Rattle.language_model.specs.Lookup.{looked}
use Rattle.program_trees.specs.declared.operators.BinaryOperator.{BinaryOperator}
use Rattle.program_trees.specs.declared.operators.Operands.{Operands}
use Rattle.program_trees.specs.declared.operators.Operands.TheVariants.{Scalars, ArrayAndScalar, ScalarAndArray, Arrays}
use Rattle.language_model.specs.Values.{Value, size}
use Rattle.language_model.specs.Words.{meaning, result_size, are_alike, left_words, right_words, result_words}
use Rattle.language_model.specs.Operations.{read_answer}
use Rattle.blind_evaluation.proofs.AlikeValues.{LikeValues, like_size}

pub mapped_length : (f : ℕ → ℕ) (xs xs' : List ℕ) → length xs ≡ length xs' → length (map f xs) ≡ length (map f xs')
mapped_length f xs xs' e = length-map xs f ∙ e ∙ sym (length-map xs' f)

pub set_length : (i a a' : ℕ) (xs xs' : List ℕ) → length xs ≡ length xs' → length (set xs i a) ≡ length (set xs' i a')
set_length i a a' xs xs' e = length-set xs i a ∙ e ∙ sym (length-set xs' i a')

pub replicated_length : (n n' a a' : ℕ) → n ≡ n' → length (replicate n a) ≡ length (replicate n' a')
replicated_length n n' a a' e = length-replicate n a ∙ e ∙ sym (length-replicate n' a')

pub joined_length : (xs xs' ys ys' : List ℕ) → length xs ≡ length xs' → length ys ≡ length ys' → length (xs ++ ys) ≡ length (xs' ++ ys')
joined_length xs xs' ys ys' e f = omega (arith, length-append xs ys, length-append xs' ys')

bits_length : (x : ℕ) → length (bits_of x) ≡ 64
unfolding bits_of
bits_length x = length-map-range_with_len (bit_at x) 0 64

all_bits_length : (xs : List ℕ) → length (flat_map bits_of xs) ≡ 64 * length xs
all_bits_length [] = refl
all_bits_length (x ∷ xs) = omega (arith, length-append (bits_of x) (flat_map bits_of xs), bits_length x, all_bits_length xs)

pub bits_lengths : (xs xs' : List ℕ) → length xs ≡ length xs' → length (flat_map bits_of xs) ≡ length (flat_map bits_of xs')
bits_lengths xs xs' e = all_bits_length xs ∙ ap (λ n. 64 * n) e ∙ sym (all_bits_length xs')

pub looked_length : (xs xs' ks ks' : List ℕ) → length ks ≡ length ks' → length (looked xs ks) ≡ length (looked xs' ks')
looked_length xs xs' ks ks' e = length-map ks (λ k. get_or xs k 0) ∙ e ∙ sym (length-map ks' (λ k. get_or xs' k 0))

abbrev pub zeros_for : (secret : Bool) → List ℕ → List ℕ
zeros_for secret words = if secret then replicate (length words) 0 else words

pub zeros_length : (secret : Bool) (words : List ℕ) → length (zeros_for secret words) ≡ length words
zeros_length true words = length-replicate (length words) 0
zeros_length false words = refl

-- ---- ANSWERS

pub answer_length : (element : DataType) (words : List ℕ) → length (read_answer element words) ≡ length words
answer_length Uint64 words = refl
answer_length Int64 words = refl
answer_length datatype.Bool words = length-map words (λ x. x % 2)

-- what was read is read as it is
pub read_again : (element : DataType) (words : List ℕ) → read_answer element (read_answer element words) ≡ read_answer element words
read_again Uint64 words = refl
read_again Int64 words = refl
read_again datatype.Bool words = bits words
  where
    bits : (words : List ℕ) → map (λ x. x % 2) (map (λ x. x % 2) words) ≡ map (λ x. x % 2) words
    bits [] = refl
    bits (x ∷ xs) = ap (λ y. y ∷ map (λ x. x % 2) (map (λ x. x % 2) xs)) (mod-mod x 2) ∙ ap (λ ys. (x % 2) ∷ ys) (bits xs)

pub are_enough : (xs ys : List ℕ) → nat_le (length xs) (length (xs ++ ys)) ≡ true
are_enough xs ys = grind (arith, nat_tests, length-append xs ys)

-- ---- TWO OPERANDS

two_lengths : (f : ℕ → ℕ → ℕ) (xs xs' ys ys' : List ℕ) → length xs ≡ length xs' → length ys ≡ length ys'
    → length (each_two f xs ys) ≡ length (each_two f xs' ys')
two_lengths f xs xs' ys ys' e g =
    length-map (zip xs ys) (λ (p : ℕ × ℕ). f p.0 p.1) ∙ length-zip xs ys ∙ ap (λ n. min n (length ys)) e ∙ ap (λ n. min (length xs') n) g
    ∙ sym (length-zip xs' ys') ∙ sym (length-map (zip xs' ys') (λ (p : ℕ × ℕ). f p.0 p.1))

left_length : (ds : Operands) {x x' y y' : Value} → LikeValues x x' → LikeValues y y' → length (left_words ds x y) ≡ length (left_words ds x' y')
left_length Scalars l m = like_size l
left_length ArrayAndScalar l m = like_size l
left_length ScalarAndArray {x = x} {x' = x'} {y = y} {y' = y'} l m =
    replicated_length (size y) (size y') (first_word x.words) (first_word x'.words) (like_size m)
left_length Arrays l m = like_size l

right_length : (ds : Operands) {x x' y y' : Value} → LikeValues x x' → LikeValues y y' → length (right_words ds x y) ≡ length (right_words ds x' y')
right_length Scalars l m = like_size m
right_length ArrayAndScalar {x = x} {x' = x'} {y = y} {y' = y'} l m =
    replicated_length (size x) (size x') (first_word y.words) (first_word y'.words) (like_size l)
right_length ScalarAndArray l m = like_size m
right_length Arrays l m = like_size m

pub result_length : (op : BinaryOperator) (ds : Operands) {x x' y y' : Value} → LikeValues x x' → LikeValues y y'
    → length (result_words op ds x y) ≡ length (result_words op ds x' y')
result_length op ds {x = x} {x' = x'} {y = y} {y' = y'} l m =
    two_lengths (meaning op) (left_words ds x y) (left_words ds x' y') (right_words ds x y) (right_words ds x' y') (left_length ds l m) (right_length ds l m)

pub same_result_size : (ds : Operands) {x x' y y' : Value} → LikeValues x x' → LikeValues y y' → result_size ds x y ≡ result_size ds x' y'
same_result_size Scalars l m = refl
same_result_size ArrayAndScalar l m = like_size l
same_result_size ScalarAndArray l m = like_size m
same_result_size Arrays l m = like_size l

pub same_are_alike : (ds : Operands) {x x' y y' : Value} → LikeValues x x' → LikeValues y y' → are_alike ds x y ≡ are_alike ds x' y'
same_are_alike Scalars l m = refl
same_are_alike ArrayAndScalar l m = refl
same_are_alike ScalarAndArray l m = refl
same_are_alike Arrays {x = x} {x' = x'} {y = y} {y' = y'} l m = ap (λ n. nat_eq n (size y)) (like_size l) ∙ ap (λ n. nat_eq (size x') n) (like_size m)

-- the known words of a product, beside a private operand
pub same_left : (ds : Operands) (x : Value) {y y' : Value} → LikeValues y y' → left_words ds x y ≡ left_words ds x y'
same_left Scalars x m = refl
same_left ArrayAndScalar x m = refl
same_left ScalarAndArray x m = ap (λ n. replicate n (first_word x.words)) (like_size m)
same_left Arrays x m = refl

pub same_right : (ds : Operands) {x x' : Value} (y : Value) → LikeValues x x' → right_words ds x y ≡ right_words ds x' y
same_right Scalars y l = refl
same_right ArrayAndScalar y l = ap (λ n. replicate n (first_word y.words)) (like_size l)
same_right ScalarAndArray y l = refl
same_right Arrays y l = refl
