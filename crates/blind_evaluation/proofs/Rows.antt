-- What each operation does is alike, on operands that are alike.
use Rattle.std.proofs.Common.{◌≡◌, ℕ, suc, ◌+◌, ◌*◌, ◌-◌, List, [], ◌∷◌, ◌++◌, length, take, drop, Option, Some, None, Ok, Err, Bool, true, false, cond}
use Rattle.std.proofs.Common.{refl, sym, ap, ◌∙◌, subst}
use Rattle.std.specs.Prelude.{get_or, nat_le, nat_lt, map, replicate, set, sum, not, ◌&&◌, ◌==◌, ◌%◌, ◌^◌}
use Rattle.std.specs.List.{flat_map}
use Rattle.std.proofs.lemmas.List.{length-map}
use Rattle.std.proofs.lemmas.List.Elements.{AllZip-push}
use Rattle.std.proofs.Math.Seq.{take-append_seam, drop-append_seam}
use Rattle.sc_text.specs.declared.end.TrapKind.TheVariants as trap
use Rattle.sc_text.specs.declared.event.Event.{Event}
use Rattle.sc_text.specs.declared.event.Event.TheVariants as event
use Rattle.program_trees.specs.declared.expression.DataType.{DataType}
use Rattle.program_trees.specs.declared.expression.DataType.TheVariants.{Uint64, Int64}
use Rattle.program_trees.specs.declared.expression.DataType.TheVariants as datatype
use Rattle.gates.specs.declared.gate.Gate.TheVariants.{Const, MulPub, Sum, Open}
use Rattle.gates.specs.declared.gate.Gate.TheVariants as gates
use Rattle.gates.specs.Clear.{bits_of, first_word}
use Rattle.language_model.specs.BitExtract.{bits_plan}
use Rattle.language_model.specs.Lookup.{lookup_plan}
use Rattle.program_trees.specs.declared.kinds.Shape.{Shape}
use Rattle.program_trees.specs.declared.operators.BinaryOperator.{BinaryOperator}
use Rattle.program_trees.specs.declared.operators.Operands.{Operands}
use Rattle.program_trees.specs.declared.operators.Cast.{Cast}
use Rattle.program_trees.specs.Shapes.{shape_of}
use Rattle.language_model.specs.Effects.{Words, words_each, Clear, Answers, World, Stage, Short, Effect, ◌>>=◌, carry, done, test, gate, draw}
use Rattle.language_model.specs.Effects.{planned, emit, next_answers, show}
use Rattle.language_model.specs.Values.{Secrecy, Private, Value, plain, is_secret, size, visible_words, is_true, element_of, elements_of}
use Rattle.language_model.specs.Values.{ring_for, gate_words, gate_size}
use Rattle.language_model.specs.Words as W
use Rattle.language_model.specs.Operations.{charged, no_traps, largest, not_too_large, number_of, made_private, classified, wanted, read_answer}
use Rattle.language_model.specs.Operations.{repeated_gate, element_gate, stored_gate, joined_gate}
use Rattle.language_model.specs.Operations.{revealed, opened_from, declassified, stretched, is_scalar_left, is_scalar_right, flip, words_of_operator}
use Rattle.language_model.specs.Operations.{operator_gates, is_product, result_shape, private_result, product_with, combined_from, operator_traps}
use Rattle.language_model.specs.Operations.{operated, is_classified, operation, negated_from, negated, words_of_cast, cast_shape, cast_gates, changed}
use Rattle.language_model.specs.Operations.{converted, relabelled, cast_from, cast_to, scalar_word, size_told, summed_from, summed, words_for_bits, bits_from}
use Rattle.language_model.specs.Operations.{bits_extracted, words_for_lookup, looked_up, lookup, concatenated_from, concatenated, position, element_from, element_of_array}
use Rattle.language_model.specs.Operations.{with_element_from, with_element, filled_from, filled, handed_over, publication, published, tested, asserted}
use Rattle.language_model.specs.Reports.{Offered, world_of, public_part}
use Rattle.blind_evaluation.specs.Courses.{LikeEvent, LikeEvents}
use Rattle.blind_evaluation.proofs.Alike.{retold, SameOutcome, Alike, alike_bind, alike_done, Same, Any, same_bind, any_bind, charge_alike}
use Rattle.blind_evaluation.proofs.Alike.{gate_alike, planned_alike, emit_alike, to_equal, charge_equal, test_equal, draw_equal, gate_equal}
use Rattle.blind_evaluation.proofs.AlikeValues.{LikeValues, plains, unmade, made, like_size, like_seen, like_shape, like_secrecy}
use Rattle.blind_evaluation.proofs.Lengths.{mapped_length, set_length, replicated_length, joined_length, bits_lengths, looked_length, answer_length}
use Rattle.blind_evaluation.proofs.Lengths.{read_again, are_enough, result_length, same_result_size, same_are_alike, same_left, same_right}
use Rattle.blind_evaluation.proofs.Gates.{value_number_alike, stretched_alike, flip_alike, operator_alike, cast_alike}

-- ---- THE PARTS OF AN OPERATION

pub charged_alike : {traps traps' : Effect (Unit {0})} {n n' : ℕ} → Alike (Any {A = Unit {0}} {B = Unit {0}}) traps traps' → n ≡ n'
    → Alike (Any {A = Unit {0}} {B = Unit {0}}) (charged traps n) (charged traps' n')
charged_alike {n = n} {n' = n'} t e = any_bind (charge_alike 1) (λ _ _. any_bind t (λ _ _. charge_equal {n = n - 1} {n' = n' - 1} (ap (λ m. m - 1) e)))

no_traps_alike : Alike (Any {A = Unit {0}} {B = Unit {0}}) no_traps no_traps
no_traps_alike = alike_done tt

too_large_alike : (line : ℕ) {n n' : ℕ} → n ≡ n' → Alike (Any {A = Unit {0}} {B = Unit {0}}) (not_too_large line n) (not_too_large line n')
too_large_alike line e = test_equal trap.Large line (ap (λ m. nat_le m largest) e)

pub sized_alike : {v v' : Value} → LikeValues v v' → Alike (Any {A = Unit {0}} {B = Unit {0}}) (charged no_traps (size v)) (charged no_traps (size v'))
sized_alike l = charged_alike no_traps_alike (like_size l)

-- the value of a gate
pub result_alike : {shape shape' : Shape} {words words' : List ℕ} → shape ≡ shape' → length words ≡ length words' → (k : ℕ)
    → Alike LikeValues (made_private shape words k) (made_private shape' words' k)
result_alike {shape = shape} {words = words} {words' = words'} s e k = to_equal (λ t. made_private t words' k) s (alike_done (made shape k words words' e))

pub plain_alike : (shape : Shape) (words : List ℕ) → Alike LikeValues (done (plain shape words)) (done (plain shape words))
plain_alike shape words = alike_done (plains shape words)

-- ---- CLASSIFICATION

pub classified_alike : {v v' : Value} → LikeValues v v' → Alike LikeValues (classified v) (classified v')
classified_alike (plains shape words) =
    any_bind (sized_alike (plains shape words)) (λ _ _. same_bind (gate_alike (Const (gate_words shape.element words))) (λ k. result_alike refl refl k))
classified_alike (unmade shape words) = alike_done (unmade shape words)
classified_alike (made shape k words words' e) = alike_done (made shape k words words' e)

pub wanted_alike : (secret : Bool) {v v' : Value} → LikeValues v v' → Alike LikeValues (wanted secret v) (wanted secret v')
wanted_alike true l = classified_alike l
wanted_alike false l = alike_done l

wanted_equal : {b b' : Bool} {v v' : Value} → b ≡ b' → LikeValues v v' → Alike LikeValues (wanted b v) (wanted b' v')
wanted_equal {b = b} {v' = v'} e l = to_equal (λ c. wanted c v') e (wanted_alike b l)

-- ---- OPERATIONS THAT NEED NO WORLD

negated_private : (k : Option ℕ) {v v' : Value} → LikeValues v v' → Alike LikeValues (negated_from (Private k) v) (negated_from (Private k) v')
negated_private k {v = v} {v' = v'} l =
    same_bind (value_number_alike l) (λ u. same_bind (to_equal (λ n. flip n u) (like_size l) (flip_alike (size v) u)) (λ r.
    result_alike (like_shape l) (mapped_length W.flipped v.words v'.words (like_size l)) r))

negated_from_alike : {v v' : Value} → LikeValues v v' → Alike LikeValues (negated_from v.secrecy v) (negated_from v'.secrecy v')
negated_from_alike (plains shape words) = plain_alike shape (map W.flipped words)
negated_from_alike (unmade shape words) = negated_private None (unmade shape words)
negated_from_alike (made shape k words words' e) = negated_private (Some k) (made shape k words words' e)

pub negated_alike : {v v' : Value} → LikeValues v v' → Alike LikeValues (negated v) (negated v')
negated_alike l = any_bind (sized_alike l) (λ _ _. negated_from_alike l)

pub size_told_alike : {v v' : Value} → LikeValues v v' → Alike LikeValues (size_told v) (size_told v')
size_told_alike {v = v} l = any_bind (charge_alike 1)
    (λ _ _. to_equal (λ n. done (scalar_word n)) (like_size l) (plain_alike (shape_of Uint64 false) (size v ∷ [])))

summed_private : (k : Option ℕ) {v v' : Value} → LikeValues v v' → Alike LikeValues (summed_from (Private k) v) (summed_from (Private k) v')
summed_private k l = same_bind (value_number_alike l)
    (λ u. same_bind (gate_alike (Sum u)) (λ r. result_alike (ap (λ (s : Shape). shape_of s.element false) (like_shape l)) refl r))

summed_from_alike : {v v' : Value} → LikeValues v v' → Alike LikeValues (summed_from v.secrecy v) (summed_from v'.secrecy v')
summed_from_alike (plains shape words) = plain_alike (shape_of shape.element false) (sum words % 2 ^ 64 ∷ [])
summed_from_alike (unmade shape words) = summed_private None (unmade shape words)
summed_from_alike (made shape k words words' e) = summed_private (Some k) (made shape k words words' e)

pub summed_alike : {v v' : Value} → LikeValues v v' → Alike LikeValues (summed v) (summed v')
summed_alike l = any_bind (charge_alike 1) (λ _ _. summed_from_alike l)

-- two arrays, of which one is private
cat_alike : {x x' y y' : Value} → LikeValues x x' → LikeValues y y'
    → Alike LikeValues (number_of x >>= λ u. number_of y >>= λ v. gate (joined_gate x.shape.element u (size x) v (size y)) >>= λ r.
    made_private x.shape (x.words ++ y.words) r)
    (number_of x' >>= λ u. number_of y' >>= λ v. gate (joined_gate x'.shape.element u (size x') v (size y')) >>= λ r.
    made_private x'.shape (x'.words ++ y'.words) r)
cat_alike {x = x} {x' = x'} {y = y} {y' = y'} l m =
    same_bind (value_number_alike l) (λ u. same_bind (value_number_alike m) (λ v.
    same_bind (gate_equal (λ d. joined_gate (like_shape l d).element u (like_size l d) v (like_size m d))) (λ r.
    result_alike (like_shape l) (joined_length x.words x'.words y.words y'.words (like_size l) (like_size m)) r)))

concatenated_from_alike : {x x' y y' : Value} → LikeValues x x' → LikeValues y y'
    → Alike LikeValues (concatenated_from x.secrecy y.secrecy x y) (concatenated_from x'.secrecy y'.secrecy x' y')
concatenated_from_alike (plains s a) (plains t b) = plain_alike s (a ++ b)
concatenated_from_alike (plains s a) (unmade t b) = cat_alike (plains s a) (unmade t b)
concatenated_from_alike (plains s a) (made t k b b' e) = cat_alike (plains s a) (made t k b b' e)
concatenated_from_alike (unmade s a) (plains t b) = cat_alike (unmade s a) (plains t b)
concatenated_from_alike (unmade s a) (unmade t b) = cat_alike (unmade s a) (unmade t b)
concatenated_from_alike (unmade s a) (made t k b b' e) = cat_alike (unmade s a) (made t k b b' e)
concatenated_from_alike (made s j a a' d) (plains t b) = cat_alike (made s j a a' d) (plains t b)
concatenated_from_alike (made s j a a' d) (unmade t b) = cat_alike (made s j a a' d) (unmade t b)
concatenated_from_alike (made s j a a' d) (made t k b b' e) = cat_alike (made s j a a' d) (made t k b b' e)

pub concatenated_alike : (line : ℕ) {x x' y y' : Value} → LikeValues x x' → LikeValues y y' → Alike LikeValues (concatenated line x y) (concatenated line x' y')
concatenated_alike line {x' = x'} {y = y} l m =
    let e = ap (λ n. n + size y) (like_size l) ∙ ap (λ n. size x' + n) (like_size m) in
    any_bind (charged_alike (too_large_alike line e) e) (λ _ _. concatenated_from_alike l m)

-- ---- ELEMENTS OF ARRAYS

same_position : {i i' : Value} → LikeValues i i' → position i ≡ position i'
same_position l = ap first_word (like_seen l)

inside_alike : (line : ℕ) {v v' i i' : Value} → LikeValues v v' → LikeValues i i'
    → Alike (Any {A = Unit {0}} {B = Unit {0}}) (test (nat_lt (position i) (size v)) trap.Index line) (test (nat_lt (position i') (size v')) trap.Index line)
inside_alike line {v = v} {i' = i'} l m =
    test_equal trap.Index line (ap (λ p. nat_lt p (size v)) (same_position m) ∙ ap (λ n. nat_lt (position i') n) (like_size l))

element_private : (k : Option ℕ) (i : ℕ) {v v' : Value} → LikeValues v v' → Alike LikeValues (element_from (Private k) v i) (element_from (Private k) v' i)
element_private k i l =
    same_bind (value_number_alike l)
    (λ u. same_bind (gate_equal (ap (λ (s : Shape). element_gate s.element u i) (like_shape l))) (λ r.
    result_alike (ap (λ (s : Shape). shape_of s.element false) (like_shape l)) refl r))

element_from_alike : (i : ℕ) {v v' : Value} → LikeValues v v' → Alike LikeValues (element_from v.secrecy v i) (element_from v'.secrecy v' i)
element_from_alike i (plains shape words) = plain_alike (shape_of shape.element false) (get_or words i 0 ∷ [])
element_from_alike i (unmade shape words) = element_private None i (unmade shape words)
element_from_alike i (made shape k words words' e) = element_private (Some k) i (made shape k words words' e)

pub element_alike : (line : ℕ) {v v' i i' : Value} → LikeValues v v' → LikeValues i i'
    → Alike LikeValues (element_of_array line v i) (element_of_array line v' i')
element_alike line {v' = v'} {i = i} l m =
    any_bind (charge_alike 1) (λ _ _. any_bind (inside_alike line l m) (λ _ _.
    to_equal (λ p. element_from v'.secrecy v' p) (same_position m) (element_from_alike (position i) l)))

with_element_private : (k : Option ℕ) (i : ℕ) {v v' x x' : Value} → LikeValues v v' → LikeValues x x'
    → Alike LikeValues (with_element_from (Private k) v i x) (with_element_from (Private k) v' i x')
with_element_private k i {v = v} {v' = v'} {x = x} {x' = x'} l m =
    same_bind (value_number_alike l) (λ u. same_bind (value_number_alike m) (λ e.
    same_bind (gate_equal (ap (λ (s : Shape). stored_gate s.element u i e) (like_shape l))) (λ r.
    result_alike (like_shape l) (set_length i (first_word x.words) (first_word x'.words) v.words v'.words (like_size l)) r)))

with_element_from_alike : (i : ℕ) {v v' x x' : Value} → LikeValues v v' → LikeValues x x'
    → Alike LikeValues (with_element_from v.secrecy v i x) (with_element_from v'.secrecy v' i x')
with_element_from_alike i {x = x} (plains shape words) m =
    to_equal (λ ws. done (plain shape (set words i (first_word ws)))) (like_seen m) (plain_alike shape (set words i (first_word (visible_words x))))
with_element_from_alike i (unmade shape words) m = with_element_private None i (unmade shape words) m
with_element_from_alike i (made shape k words words' e) m = with_element_private (Some k) i (made shape k words words' e) m

pub with_element_alike : (line : ℕ) {v v' i i' x x' : Value} → LikeValues v v' → LikeValues i i' → LikeValues x x'
    → Alike LikeValues (with_element line v i x) (with_element line v' i' x')
with_element_alike line {v' = v'} {i = i} {x' = x'} l m h =
    any_bind (charge_alike 1) (λ _ _. any_bind (inside_alike line l m) (λ _ _.
    to_equal (λ p. with_element_from v'.secrecy v' p x') (same_position m) (with_element_from_alike (position i) l h)))

filled_private : (k : Option ℕ) (n : ℕ) {x x' : Value} → LikeValues x x' → Alike LikeValues (filled_from (Private k) n x) (filled_from (Private k) n x')
filled_private k n {x = x} {x' = x'} l =
    same_bind (value_number_alike l) (λ u. same_bind (gate_equal (ap (λ (s : Shape). repeated_gate s.element u n) (like_shape l))) (λ r.
    result_alike (ap (λ (s : Shape). shape_of s.element true) (like_shape l)) (replicated_length n n (first_word x.words) (first_word x'.words) refl) r))

filled_from_alike : (n : ℕ) {x x' : Value} → LikeValues x x' → Alike LikeValues (filled_from x.secrecy n x) (filled_from x'.secrecy n x')
filled_from_alike n (plains shape words) = plain_alike (shape_of shape.element true) (replicate n (first_word words))
filled_from_alike n (unmade shape words) = filled_private None n (unmade shape words)
filled_from_alike n (made shape k words words' e) = filled_private (Some k) n (made shape k words words' e)

pub filled_alike : (line : ℕ) {n n' x x' : Value} → LikeValues n n' → LikeValues x x' → Alike LikeValues (filled line n x) (filled line n' x')
filled_alike line {n = n} {x' = x'} l m =
    any_bind (charged_alike (too_large_alike line (same_position l)) (same_position l)) (λ _ _.
    to_equal (λ p. filled_from x'.secrecy p x') (same_position l) (filled_from_alike (position n) m))

-- ---- CONTROL

pub same_truth_of : {v v' : Value} → LikeValues v v' → is_true v ≡ is_true v'
same_truth_of l = ap (λ ws. not (first_word ws == 0)) (like_seen l)

pub tested_alike : {v v' : Value} → LikeValues v v' → Alike (Same {A = Bool}) (tested v) (tested v')
tested_alike l = any_bind (charge_alike 1) (λ _ _. alike_done (same_truth_of l))

pub asserted_alike : (line : ℕ) {v v' : Value} → LikeValues v v' → Alike (Any {A = Unit {0}} {B = Unit {0}}) (asserted line v) (asserted line v')
asserted_alike line l = any_bind (charge_alike 1) (λ _ _. test_equal trap.Assert line (same_truth_of l))

both_equal : (scalar : Bool) (j : ℕ) {s s' : Shape} {n n' : ℕ} → s ≡ s' → n ≡ n'
    → Alike (Same {A = ℕ}) (stretched s.element scalar n j) (stretched s'.element scalar n' j)
both_equal scalar j {s = s} {s' = s'} {n = n} d e =
    to_equal (λ m. stretched s'.element scalar m j) e
    (to_equal (λ (t : Shape). stretched t.element scalar n j) d (stretched_alike s.element scalar n j))

-- ---- PRODUCTS WITH KNOWN WORDS

product_alike : (op : BinaryOperator) (ds : Operands) (scalar : Bool) {x x' : Value} {known known' : List ℕ} (words words' : List ℕ) → LikeValues x x'
    → known ≡ known' → length words ≡ length words' → Alike LikeValues (product_with op ds scalar x known words) (product_with op ds scalar x' known' words')
product_alike op ds scalar {x = x} {x' = x'} {known = known} words words' l g e =
    to_equal (λ ks. product_with op ds scalar x' ks words') g
    (same_bind (value_number_alike l) (λ j. same_bind (to_equal (λ (s : Shape). stretched s.element scalar (length known) j) (like_shape l)
    (stretched_alike x.shape.element scalar (length known) j)) (λ u.
    same_bind (gate_equal (ap (λ (s : Shape). MulPub (ring_for s.element) u (gate_words s.element known)) (like_shape l))) (λ r. result_alike refl e r))))

-- ---- WHAT OPENS, DRAWS OR IS PUBLISHED

same_classified : (op : BinaryOperator) {x x' y y' : Value} → LikeValues x x' → LikeValues y y' → is_classified op x y ≡ is_classified op x' y'
same_classified op {x = x} {y' = y'} l m =
    ap (λ s. not (is_product op) && (is_secret s && not (is_secret x.secrecy))) (like_secrecy m)
    ∙ ap (λ s. not (is_product op) && (is_secret y'.secrecy && not (is_secret s))) (like_secrecy l)

-- as many elements as words
same_number : (e : DataType) (xs ys : List ℕ) → length xs ≡ length ys → length (map (element_of e) xs) ≡ length (map (element_of e) ys)
same_number e xs ys h = length-map xs (element_of e) ∙ h ∙ sym (length-map ys (element_of e))

module _ (o : Offered) where
  abbrev pub clear : World
  clear = world_of Clear o

  abbrev pub unseen : World
  unseen = world_of Answers (public_part o)

  draws : {n n' : Words} → n ≡ n' → Alike (Any {A = Unit {0}} {B = Unit {0}}) (draw clear n) (draw unseen n')
  draws e = draw_equal clear e

  -- the run in the clear opens the words, and the other takes them
  revealed_alike : (secrecy : Secrecy) (shape : Shape) (words words' : List ℕ) → length words ≡ length words'
      → Alike LikeValues (revealed clear (record { secrecy = secrecy; shape = shape; words = words }))
      (revealed unseen (record { secrecy = secrecy; shape = shape; words = words' }))
  revealed_alike secrecy shape words words' e =
      record { from = λ s. record { words = read; opened = refl; same = λ more events like. told s more events like } }
    where
      read : List ℕ
      read = read_answer shape.element words

      last : (s : Stage) (more : List ℕ) (events : List Event) → LikeEvents s.events events → (ws : List ℕ) → ws ≡ read
          → SameOutcome LikeValues more (revealed clear (record { secrecy = secrecy; shape = shape; words = words }) s)
          (Ok (plain shape ws, record s { answers = more; events = events ++ event.Open (elements_of (plain shape ws)) ∷ []; opened = s.opened ++ ws }))
      last s more events like ws g =
          subst (λ ws. SameOutcome LikeValues more (revealed clear (record { secrecy = secrecy; shape = shape; words = words }) s)
          (Ok (
            plain shape ws,
            record s {
              answers = more;
              events = events ++ event.Open (elements_of (plain shape ws)) ∷ [];
              opened =
                  s.opened ++ ws;
            },
          ))) (sym g) (
            plains shape read,
            record {
              events = events ++ event.Open (elements_of (plain shape read)) ∷ [];
              like =
                  AllZip-push LikeEvent s.events events (event.Open (elements_of (plain shape read)))
                  (event.Open (elements_of (plain shape read))) like refl;
              stage = refl;
            },
          )

      behind : (s : Stage) (more : List ℕ) (events : List Event) → LikeEvents s.events events
          → (answers : List ℕ) (enough : Bool) (front back : List ℕ) → enough ≡ true → front ≡ read → back ≡ more
          → SameOutcome LikeValues more (revealed clear (record { secrecy = secrecy; shape = shape; words = words }) s)
          (carry (cond enough (Ok (front, record (retold answers events s) { answers = back })) (Err (Short, retold answers events s)))
          (λ ws. show (read_answer shape.element ws) >>= λ _. emit (event.Open (elements_of (plain shape (read_answer shape.element ws)))) >>= λ _.
          done (plain shape (read_answer shape.element ws))))
      behind s more events like answers false front back t f b = absurd (cc)
      behind s more events like answers true front back t f b =
          subst (λ z. SameOutcome LikeValues more (revealed clear (record { secrecy = secrecy; shape = shape; words = words }) s)
          (Ok (
            plain shape (read_answer shape.element front),
            record s {
              answers = z;
              events = events ++ event.Open (elements_of (plain shape (read_answer shape.element front))) ∷ [];
              opened =
                  s.opened ++ read_answer shape.element front;
            },
          ))) (sym b)
          (last s more events like (read_answer shape.element front) (ap (λ ws. read_answer shape.element ws) f ∙ read_again shape.element words))

      told : (s : Stage) (more : List ℕ) (events : List Event) → LikeEvents s.events events
          → SameOutcome LikeValues more (revealed clear (record { secrecy = secrecy; shape = shape; words = words }) s)
          (revealed unseen (record { secrecy = secrecy; shape = shape; words = words' }) (retold (read ++ more) events s))
      told s more events like =
          let n : length read ≡ length words' = answer_length shape.element words ∙ e in
          subst (λ m. SameOutcome LikeValues more (revealed clear (record { secrecy = secrecy; shape = shape; words = words }) s)
          (carry (next_answers m (retold (read ++ more) events s))
          (λ ws. show (read_answer shape.element ws) >>= λ _. emit (event.Open (elements_of (plain shape (read_answer shape.element ws)))) >>=
          λ _. done (plain shape (read_answer shape.element ws))))) n
          (behind s more events like (read ++ more) (nat_le (length read) (length (read ++ more))) (take (length read) (read ++ more))
          (drop (length read) (read ++ more)) (are_enough read more) (take-append_seam read more) (drop-append_seam read more))

  opened_private : (k : Option ℕ) (shape : Shape) (words words' : List ℕ)
      → LikeValues (record { secrecy = Private k; shape = shape; words = words }) (record { secrecy = Private k; shape = shape; words = words' })
      → Alike LikeValues (opened_from clear (Private k) (record { secrecy = Private k; shape = shape; words = words }))
      (opened_from unseen (Private k) (record { secrecy = Private k; shape = shape; words = words' }))
  opened_private k shape words words' l =
      any_bind (draws (ap (λ n. words_each (gate_size shape.element n)) (like_size l))) (λ _ _. same_bind (value_number_alike l) (λ u.
      same_bind (gate_alike (Open (ring_for shape.element) u)) (λ _. revealed_alike (Private k) shape words words' (like_size l))))

  opened_from_alike : {v v' : Value} → LikeValues v v' → Alike LikeValues (opened_from clear v.secrecy v) (opened_from unseen v'.secrecy v')
  opened_from_alike (plains shape words) = plain_alike shape words
  opened_from_alike (unmade shape words) = opened_private None shape words words (unmade shape words)
  opened_from_alike (made shape k words words' e) = opened_private (Some k) shape words words' (made shape k words words' e)

  pub declassified_alike : {v v' : Value} → LikeValues v v' → Alike LikeValues (declassified clear v) (declassified unseen v')
  declassified_alike l = any_bind (sized_alike l) (λ _ _. opened_from_alike l)

  private_alike : (op : BinaryOperator) (ds : Operands) {x x' y y' : Value} → LikeValues x x' → LikeValues y y'
      → Alike LikeValues (private_result clear op ds x y) (private_result unseen op ds x' y')
  private_alike op ds {x = x} {y = y} l m =
      let n = W.result_size ds x y in
      let e = same_result_size ds l m in
      any_bind (draws (ap (words_of_operator op) e)) (λ _ _. same_bind (value_number_alike l) (λ j. same_bind (value_number_alike m) (λ k.
      same_bind (both_equal (is_scalar_left ds) j (like_shape l) e) (λ u.
      same_bind (both_equal (is_scalar_right ds) k (like_shape m) e) (λ v.
      same_bind (to_equal (λ n. operator_gates op n u v) e (operator_alike op n u v)) (λ r.
      result_alike refl (result_length op ds l m) r))))))

  combined_alike : (op : BinaryOperator) (ds : Operands) {x x' y y' : Value} → LikeValues x x' → LikeValues y y'
      → Alike LikeValues (combined_from x.secrecy y.secrecy clear op ds x y) (combined_from x'.secrecy y'.secrecy unseen op ds x' y')
  combined_alike op ds (plains s a) (plains t b) = plain_alike (result_shape op ds) (W.result_words op ds (plain s a) (plain t b))
  combined_alike op ds (plains s a) (unmade t b) =
      product_alike op ds (is_scalar_right ds) (W.result_words op ds _ _) (W.result_words op ds _ _) (unmade t b)
      (same_left ds (plain s a) (unmade t b)) (result_length op ds (plains s a) (unmade t b))
  combined_alike op ds (plains s a) (made t k b b' e) =
      product_alike op ds (is_scalar_right ds) (W.result_words op ds _ _) (W.result_words op ds _ _) (made t k b b' e)
      (same_left ds (plain s a) (made t k b b' e)) (result_length op ds (plains s a) (made t k b b' e))
  combined_alike op ds (unmade s a) (plains t b) =
      product_alike op ds (is_scalar_left ds) (W.result_words op ds _ _) (W.result_words op ds _ _) (unmade s a)
      (same_right ds (plain t b) (unmade s a)) (result_length op ds (unmade s a) (plains t b))
  combined_alike op ds (unmade s a) (unmade t b) = private_alike op ds (unmade s a) (unmade t b)
  combined_alike op ds (unmade s a) (made t k b b' e) = private_alike op ds (unmade s a) (made t k b b' e)
  combined_alike op ds (made s j a a' d) (plains t b) =
      product_alike op ds (is_scalar_left ds) (W.result_words op ds _ _) (W.result_words op ds _ _) (made s j a a' d)
      (same_right ds (plain t b) (made s j a a' d)) (result_length op ds (made s j a a' d) (plains t b))
  combined_alike op ds (made s j a a' d) (unmade t b) = private_alike op ds (made s j a a' d) (unmade t b)
  combined_alike op ds (made s j a a' d) (made t k b b' e) = private_alike op ds (made s j a a' d) (made t k b b' e)

  traps_alike : (line : ℕ) (op : BinaryOperator) (ds : Operands) {x x' y y' : Value} → LikeValues x x' → LikeValues y y'
      → Alike (Any {A = Unit {0}} {B = Unit {0}}) (operator_traps line op ds x y) (operator_traps line op ds x' y')
  traps_alike line op ds l m =
      any_bind (test_equal trap.Length line (same_are_alike ds l m)) (λ _ _. test_equal trap.Div line (ap (W.may_divide op) (like_seen m)))

  pub operated_alike : (line : ℕ) (op : BinaryOperator) (ds : Operands) {x x' y y' : Value} → LikeValues x x' → LikeValues y y'
      → Alike LikeValues (operated clear line op ds x y) (operated unseen line op ds x' y')
  operated_alike line op ds l m = any_bind (charged_alike (traps_alike line op ds l m) (same_result_size ds l m)) (λ _ _. combined_alike op ds l m)

  pub operation_alike : (line : ℕ) (op : BinaryOperator) (ds : Operands) {x x' y y' : Value} → LikeValues x x' → LikeValues y y'
      → Alike LikeValues (operation clear line op ds x y) (operation unseen line op ds x' y')
  operation_alike line op ds l m =
      alike_bind (wanted_equal (same_classified op l m) l)
      (λ a a' p. alike_bind (wanted_equal (same_classified op m l) m) (λ b b' q. operated_alike line op ds p q))

  changed_alike : (c : Cast) {v v' : Value} → LikeValues v v' → Alike LikeValues (changed clear c v) (changed unseen c v')
  changed_alike c {v = v} {v' = v'} l =
      any_bind (draws (ap (words_of_cast c) (like_size l))) (λ _ _. same_bind (value_number_alike l) (λ u.
      same_bind (to_equal (λ n. cast_gates c n u) (like_size l) (cast_alike c (size v) u)) (λ r.
      result_alike (ap (λ (s : Shape). cast_shape c s.array) (like_shape l)) (mapped_length (W.cast_word c) v.words v'.words (like_size l)) r)))

  converted_alike : (c : Cast) {v v' : Value} → LikeValues v v' → Alike LikeValues (converted clear v.secrecy c v) (converted unseen v'.secrecy c v')
  converted_alike c (plains shape words) = plain_alike (cast_shape c shape.array) (map (W.cast_word c) words)
  converted_alike c (unmade shape words) = changed_alike c (unmade shape words)
  converted_alike c (made shape k words words' e) = changed_alike c (made shape k words words' e)

  relabelled_like : (c : Cast) {v v' : Value} → LikeValues v v' → LikeValues (relabelled c v) (relabelled c v')
  relabelled_like c (plains shape words) = plains (cast_shape c shape.array) words
  relabelled_like c (unmade shape words) = unmade (cast_shape c shape.array) words
  relabelled_like c (made shape k words words' e) = made (cast_shape c shape.array) k words words' e

  cast_from_alike : (given wanted : DataType) (c : Cast) {v v' : Value} → LikeValues v v'
      → Alike LikeValues (cast_from given wanted clear c v) (cast_from given wanted unseen c v')
  cast_from_alike Uint64 Uint64 c l = alike_done l
  cast_from_alike Uint64 Int64 c l = alike_done (relabelled_like c l)
  cast_from_alike Uint64 datatype.Bool c l = converted_alike c l
  cast_from_alike Int64 Uint64 c l = alike_done (relabelled_like c l)
  cast_from_alike Int64 Int64 c l = alike_done l
  cast_from_alike Int64 datatype.Bool c l = converted_alike c l
  cast_from_alike datatype.Bool Uint64 c l = converted_alike c l
  cast_from_alike datatype.Bool Int64 c l = converted_alike c l
  cast_from_alike datatype.Bool datatype.Bool c l = alike_done l

  pub cast_to_alike : (c : Cast) {v v' : Value} → LikeValues v v' → Alike LikeValues (cast_to clear c v) (cast_to unseen c v')
  cast_to_alike c l = any_bind (sized_alike l) (λ _ _. cast_from_alike c.given c.wanted c l)

  bits_private : (k : Option ℕ) {v v' : Value} → LikeValues v v' → Alike LikeValues (bits_from clear (Private k) v) (bits_from unseen (Private k) v')
  bits_private k {v = v} {v' = v'} l =
      any_bind (draws (ap words_for_bits (like_size l))) (λ _ _. same_bind (value_number_alike l) (λ u.
      same_bind (to_equal (λ n. planned (λ first. bits_plan first u n)) (like_size l) (planned_alike (λ first. bits_plan first u (size v)))) (λ b.
      result_alike {shape = shape_of datatype.Bool true} refl (bits_lengths v.words v'.words (like_size l)) b)))

  bits_from_alike : {v v' : Value} → LikeValues v v' → Alike LikeValues (bits_from clear v.secrecy v) (bits_from unseen v'.secrecy v')
  bits_from_alike (plains shape words) = plain_alike (shape_of datatype.Bool true) (flat_map bits_of words)
  bits_from_alike (unmade shape words) = bits_private None (unmade shape words)
  bits_from_alike (made shape k words words' e) = bits_private (Some k) (made shape k words words' e)

  pub bits_extracted_alike : (line : ℕ) {v v' : Value} → LikeValues v v' → Alike LikeValues (bits_extracted clear line v) (bits_extracted unseen line v')
  bits_extracted_alike line l =
      let e = ap (λ n. 64 * n) (like_size l) in
      any_bind (charged_alike (too_large_alike line e) e) (λ _ _. bits_from_alike l)

  pub looked_up_alike : (line : ℕ) {a a' i i' : Value} → LikeValues a a' → LikeValues i i' → Alike LikeValues (looked_up clear line a i) (looked_up unseen line a' i')
  looked_up_alike line {a = a} {a' = a'} {i = i} {i' = i'} l m =
      let e : size a * size i ≡ size a' * size i' = ap (λ n. n * size i) (like_size l) ∙ ap (λ n. size a' * n) (like_size m) in
      any_bind (charged_alike (too_large_alike line e) e) (λ _ _. any_bind (draws (ap words_for_lookup e)) (λ _ _.
      same_bind (value_number_alike l) (λ u. same_bind (value_number_alike m) (λ v.
      same_bind (to_equal (λ n. planned (λ first. lookup_plan first u v n (size i'))) (like_size l)
      (to_equal (λ n. planned (λ first. lookup_plan first u v (size a) n)) (like_size m) (planned_alike (λ first. lookup_plan first u v (size a) (size i)))))
      (λ r. result_alike
      (ap (λ (s : Shape). shape_of s.element i.shape.array) (like_shape l) ∙ ap (λ (s : Shape). shape_of a'.shape.element s.array) (like_shape m))
      (looked_length a.words a'.words i.words i'.words (like_size m)) r)))))

  pub lookup_alike : (line : ℕ) {a a' i i' : Value} → LikeValues a a' → LikeValues i i' → Alike LikeValues (lookup clear line a i) (lookup unseen line a' i')
  lookup_alike line l m = alike_bind (classified_alike l) (λ x x' p. alike_bind (classified_alike m) (λ k k' q. looked_up_alike line p q))

  handed_private : (k : Option ℕ) {v v' : Value} → LikeValues v v'
      → Alike (Any {A = Unit {0}} {B = Unit {0}}) (handed_over clear (Private k) v) (handed_over unseen (Private k) v')
  handed_private k l =
      any_bind (draws (λ d. words_each (gate_size (like_shape l d).element (like_size l d)))) (λ _ _. same_bind (value_number_alike l) (λ u.
      same_bind (gate_equal (ap (λ (s : Shape). gates.Result (ring_for s.element) u) (like_shape l))) (λ _. alike_done tt)))

  handed_alike : {v v' : Value} → LikeValues v v' → Alike (Any {A = Unit {0}} {B = Unit {0}}) (handed_over clear v.secrecy v) (handed_over unseen v'.secrecy v')
  handed_alike (plains shape words) = alike_done tt
  handed_alike (unmade shape words) = handed_private None (unmade shape words)
  handed_alike (made shape k words words' e) = handed_private (Some k) (made shape k words words' e)

  same_publication : (text : List ℕ) {v v' : Value} → LikeValues v v'
      → LikeEvent (publication v.secrecy v.shape.element text (elements_of v)) (publication v'.secrecy v'.shape.element text (elements_of v'))
  same_publication text (plains shape words) = (refl, refl)
  same_publication text (unmade shape words) = (refl, refl, refl)
  same_publication text (made shape k words words' e) = (refl, refl, same_number shape.element words words' e)

  pub published_alike : (text : List ℕ) {v v' : Value} → LikeValues v v'
      → Alike (Any {A = Unit {0}} {B = Unit {0}}) (published clear text v) (published unseen text v')
  published_alike text {v = v} {v' = v'} l =
      any_bind (sized_alike l) (λ _ _. any_bind (handed_alike l)
      (λ _ _. emit_alike (publication v.secrecy v.shape.element text (elements_of v)) (publication v'.secrecy v'.shape.element text (elements_of v')) (same_publication text l)))
