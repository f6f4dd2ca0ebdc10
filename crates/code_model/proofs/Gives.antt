-- Effects that give no budget back, and what is known of the values that they give.
use Rattle.std.proofs.Common.{◌≡◌, ℕ, ◌+◌, ◌*◌, ◌≤◌, List, Option, Some, None, Bool, true, false, not, ◌&&◌, ◌||◌, Ok, Err, refl, ap}
use Rattle.std.proofs.Common.{arith}
use Rattle.std.specs.Prelude.{length, map}
use Rattle.program_trees.specs.declared.expression.DataType.{DataType}
use Rattle.program_trees.specs.declared.expression.DataType.TheVariants.{Uint64, Int64}
use Rattle.sc_text.specs.declared.end.Ending.{Ending}
use Rattle.sc_text.specs.declared.end.TrapKind.TheVariants as trap
use Rattle.sc_text.specs.declared.event.Event.TheVariants as event
use Rattle.program_trees.specs.declared.kinds.Shape.{Shape}
use Rattle.program_trees.specs.declared.operators.BinaryOperator.{BinaryOperator}
use Rattle.program_trees.specs.declared.operators.Operands.{Operands}
use Rattle.program_trees.specs.declared.operators.Cast.{Cast}
use Rattle.blind_evaluation.specs.BitExtract.{bits_plan}
use Rattle.blind_evaluation.specs.Lookup.{looked, lookup_plan}
use Rattle.gates.specs.Clear.{bits_of}
use Rattle.std.specs.List.{flat_map}
use Rattle.program_trees.specs.Shapes.{shape_of}
use Rattle.program_trees.specs.declared.expression.DataType.TheVariants as datatype
use Rattle.blind_evaluation.specs.Effects.{World, GivenInput, Stage, Run, Effect, ◌>>=◌, carry, done, end, test}
use Rattle.blind_evaluation.specs.Values.{Secrecy, Plain, Private, Value, plain, is_secret, size, visible_words, elements_of}
use Rattle.blind_evaluation.specs.Words as W
use Rattle.blind_evaluation.specs.Operations.{charged, no_traps, operator_traps, result_shape, is_scalar_left}
use Rattle.blind_evaluation.specs.Operations.{is_scalar_right, words_of_operator, classified_from, classified, made_private, wanted, opened_from, revealed}
use Rattle.blind_evaluation.specs.Operations.{read_answer, declassified, private_result, product_with, combined_from, operated, negated_from, negated}
use Rattle.blind_evaluation.specs.Operations.{size_told, element_from, element_of_array, position, words_for_bits, words_for_lookup, changed, converted, cast_from, cast_to, summed_from}
use Rattle.blind_evaluation.specs.Operations.{summed, not_too_large, bits_from, bits_extracted, looked_up, concatenated_from, concatenated, with_element_from}
use Rattle.blind_evaluation.specs.Operations.{with_element}
use Rattle.blind_evaluation.specs.Operations.{filled_from, filled, tested, published, asserted}
use Rattle.blind_evaluation.specs.Evaluation.{given_value, asked_for, is_as_declared}
use Rattle.blind_evaluation.proofs.Walk as walk
use Rattle.blind_evaluation.proofs.Onward.{Onward, Went, stage_of, is_onward, onward_law, onward_draw, onward_gate, onward_charge, onward_emit, onward_show}

abbrev pub GivesAt : {A : Type 0} → Stage → Run A → (A → Type 0) → Type 0
GivesAt s (Ok x) Q = (x.1.left ≤ s.left) × Q x.0
GivesAt s (Err e) Q = Unit {0}

pub record Gives {A : Type 0} (c : Effect A) (Q : A → Type 0) : Type 0 where
  pub from : (s : Stage) → GivesAt s (c s) Q

pub gives_bind : {A B : Type 0} {c : Effect A} {f : A → Effect B} {P : A → Type 0} {Q : B → Type 0} → Gives c P → ((a : A) → P a → Gives (f a) Q) → Gives
    (c >>= f) Q
gives_bind {A = A} {B = B} {c = c} {f = f} {P = P} {Q = Q} h k = record { from = λ s. go s (c s) (h.from s) }
  where
    less : (s t : Stage) (r : Run B) → t.left ≤ s.left → GivesAt t r Q → GivesAt s r Q
    less s t (Ok x) l g = (omega (arith, l, g.0), g.1)
    less s t (Err e) l g = tt

    go : (s : Stage) (r : Run A) → GivesAt s r P → GivesAt s (carry r f) Q
    go s (Ok x) g = less s x.1 (f x.0 x.1) g.0 ((k x.0 g.1).from x.1)
    go s (Err e) g = tt

pub gives_done : {A : Type 0} {a : A} {Q : A → Type 0} → Q a → Gives (done a) Q
gives_done h = record { from = λ s. (omega arith, h) }

gives_end : {A : Type 0} {Q : A → Type 0} (e : Ending) → Gives (end {A = A} e) Q
gives_end e = record { from = λ s. tt }

pub gives_with : {A : Type 0} {c : Effect A} {P Q : A → Type 0} → Gives c P → ((a : A) → P a → Q a) → Gives c Q
gives_with {A = A} {c = c} {P = P} {Q = Q} h k = record { from = λ s. go s (c s) (h.from s) }
  where
    go : (s : Stage) (r : Run A) → GivesAt s r P → GivesAt s r Q
    go s (Ok x) g = (g.0, k x.0 g.1)
    go s (Err e) g = tt

abbrev pub Any : {A : Type 0} → A → Type 0
Any a = Unit {0}

pub gives_any : {A : Type 0} (w : World) {c : Effect A} → Onward w c → Gives c (Any {A = A})
gives_any {A = A} w {c = c} h = record { from = λ s. go s (c s) (h.from s) }
  where
    go : (s : Stage) (r : Run A) → Went w s (stage_of r) → GivesAt s r (Any {A = A})
    go s (Ok x) g = (g.left, tt)
    go s (Err e) g = tt

pub gives_after : {A B : Type 0} (w : World) {c : Effect A} {f : A → Effect B} {Q : B → Type 0} → Onward w c → ((a : A) → Gives (f a) Q) → Gives (c >>= f) Q
gives_after w h k = gives_bind (gives_any w h) (λ a _. k a)

abbrev pub IsSecret : Bool → Value → Type 0
IsSecret b v = is_secret v.secrecy ≡ b

module _ (w : World) where
  abbrev law : walk.IsLaw w w (is_onward w)
  law = onward_law w

  on : {A : Type 0} {c : Effect A} → is_onward w A c c → Onward w c
  unfolding is_onward
  on h = h

  charged_on : (t : Effect (Unit {0})) (n : ℕ) → Onward w t → Onward w (charged t n)
  unfolding is_onward
  charged_on t n h = walk.charged_holds w w (is_onward w) law t n h

  plain_charge : (n : ℕ) → Onward w (charged no_traps n)
  unfolding is_onward
  plain_charge n = walk.untrapped_holds w w (is_onward w) law n

  pub stored_charge : (n : ℕ) → Gives (charged no_traps n) (Any {A = Unit {0}})
  stored_charge n = gives_any w (plain_charge n)

  classified_gives : (x : Secrecy) (v : Value) → v.secrecy ≡ x → Gives (classified_from x v) (IsSecret true)
  classified_gives (Private k) v e = gives_done (ap is_secret e)
  classified_gives Plain v e = gives_after w (plain_charge (size v)) (λ _. gives_after w (onward_gate _) (λ k. gives_done refl))

  pub class_gives : (v : Value) → Gives (classified v) (IsSecret true)
  class_gives v = classified_gives v.secrecy v refl

  plain_gives : (shape : Shape) (words : List ℕ) → Gives (done (plain shape words)) (IsSecret false)
  plain_gives shape words = gives_done refl

  revealed_gives : (v : Value) → Gives (revealed w v) (IsSecret false)
  unfolding is_onward
  revealed_gives v =
      gives_after w (walk.answer_holds w w (is_onward w) law w.source v.words) (λ words.
      let known = read_answer v.shape.element words in
      gives_after w (onward_show known) (λ _. gives_after w (onward_emit (event.Open (elements_of (plain v.shape known)))) (λ _. plain_gives v.shape known)))

  opened_gives : (x : Secrecy) (v : Value) → v.secrecy ≡ x → Gives (opened_from w x v) (IsSecret false)
  unfolding is_onward
  opened_gives Plain v e = gives_done (ap is_secret e)
  opened_gives (Private k) v e =
      gives_after w (onward_draw w _) (λ _. gives_after w (walk.number_holds w w (is_onward w) law v)
      (λ u. gives_after w (onward_gate _) (λ _. revealed_gives v)))

  pub declassified_gives : (v : Value) → Gives (declassified w v) (IsSecret false)
  declassified_gives v = gives_after w (plain_charge (size v)) (λ _. opened_gives v.secrecy v refl)

  made_gives : (shape : Shape) (words : List ℕ) (k : ℕ) → Gives (made_private shape words k) (IsSecret true)
  made_gives shape words k = gives_done refl

  private_gives : (op : BinaryOperator) (ds : Operands) (x y : Value) → Gives (private_result w op ds x y) (IsSecret true)
  unfolding is_onward
  private_gives op ds x y =
      let n = W.result_size ds x y in
      gives_after w (onward_draw w (words_of_operator op n)) (λ _. gives_after w (walk.number_holds w w (is_onward w) law x)
      (λ j. gives_after w (walk.number_holds w w (is_onward w) law y) (λ k.
      gives_after w (walk.stretched_holds w w (is_onward w) law x.shape.element (is_scalar_left ds) n j)
      (λ u. gives_after w (walk.stretched_holds w w (is_onward w) law y.shape.element (is_scalar_right ds) n k) (λ v.
      gives_after w (walk.operator_gates_hold w w (is_onward w) law op n u v) (λ r. made_gives (result_shape op ds) (W.result_words op ds x y) r))))))

  product_gives : (op : BinaryOperator) (ds : Operands) (scalar : Bool) (x : Value) (known words : List ℕ) → Gives (product_with op ds scalar x known words)
      (IsSecret true)
  unfolding is_onward
  product_gives op ds scalar x known words =
      gives_after w (walk.number_holds w w (is_onward w) law x) (λ j. gives_after w (walk.stretched_holds w w (is_onward w) law _ _ _ j)
      (λ u. gives_after w (onward_gate _) (λ r. made_gives _ _ r)))

  combined_gives : (a b : Secrecy) (op : BinaryOperator) (ds : Operands) (x y : Value) → Gives (combined_from a b w op ds x y)
      (IsSecret (is_secret a || is_secret b))
  combined_gives Plain Plain op ds x y = gives_done refl
  combined_gives (Private j) (Private k) op ds x y = private_gives op ds x y
  combined_gives (Private j) Plain op ds x y = product_gives op ds _ x _ _
  combined_gives Plain (Private k) op ds x y = product_gives op ds _ y _ _

  traps_on : (line : ℕ) (op : BinaryOperator) (ds : Operands) (x y : Value) → is_onward w (Unit {0}) (operator_traps line op ds x y)
      (operator_traps line op ds x y)
  traps_on line op ds x y = law.bind (law.on_test (W.are_alike ds x y) trap.Length line) (λ _. law.on_test (W.may_divide op (visible_words y)) trap.Div line)

  pub operated_gives : (line : ℕ) (op : BinaryOperator) (ds : Operands) (x y : Value) → Gives (operated w line op ds x y)
      (IsSecret (is_secret x.secrecy || is_secret y.secrecy))
  unfolding is_onward
  operated_gives line op ds x y =
      gives_after w (charged_on (operator_traps line op ds x y) (W.result_size ds x y) (traps_on line op ds x y))
      (λ _. combined_gives x.secrecy y.secrecy op ds x y)

  negated_from_gives : (a : Secrecy) (x : Value) → Gives (negated_from a x) (IsSecret (is_secret a))
  unfolding is_onward
  negated_from_gives Plain x = gives_done refl
  negated_from_gives (Private k) x = gives_after w (walk.number_holds w w (is_onward w) law x)
      (λ u. gives_after w (walk.flip_holds w w (is_onward w) law (size x) u) (λ r. made_gives x.shape (map W.flipped x.words) r))

  pub negated_gives : (x : Value) → Gives (negated x) (IsSecret (is_secret x.secrecy))
  negated_gives x = gives_after w (plain_charge (size x)) (λ _. negated_from_gives x.secrecy x)

  element_from_gives : (a : Secrecy) (x : Value) (i : ℕ) → Gives (element_from a x i) (IsSecret (is_secret a))
  unfolding is_onward
  element_from_gives Plain x i = gives_done refl
  element_from_gives (Private k) x i = gives_after w (walk.number_holds w w (is_onward w) law x) (λ u. gives_after w (onward_gate _) (λ r. gives_done refl))

  pub element_gives : (line : ℕ) (x i : Value) → Gives (element_of_array line x i) (IsSecret (is_secret x.secrecy))
  unfolding is_onward
  element_gives line x i = gives_after w (onward_charge 1) (λ _. gives_after w (law.on_test _ _ _) (λ _. element_from_gives x.secrecy x (position i)))

  changed_gives : (c : Cast) (x : Value) → Gives (changed w c x) (IsSecret true)
  unfolding is_onward
  changed_gives c x =
      gives_after w (onward_draw w _) (λ _. gives_after w (walk.number_holds w w (is_onward w) law x)
      (λ u. gives_after w (walk.gates_between_hold w w (is_onward w) law c.given c.wanted (size x) u) (λ r. made_gives _ _ r)))

  converted_gives : (a : Secrecy) (c : Cast) (x : Value) → Gives (converted w a c x) (IsSecret (is_secret a))
  converted_gives Plain c x = plain_gives _ _
  converted_gives (Private k) c x = changed_gives c x

  cast_from_gives : (given wanted : DataType) (c : Cast) (x : Value) → Gives (cast_from given wanted w c x) (IsSecret (is_secret x.secrecy))
  cast_from_gives Uint64 Uint64 c x = gives_done refl
  cast_from_gives Uint64 Int64 c x = gives_done refl
  cast_from_gives Uint64 datatype.Bool c x = converted_gives x.secrecy c x
  cast_from_gives Int64 Uint64 c x = gives_done refl
  cast_from_gives Int64 Int64 c x = gives_done refl
  cast_from_gives Int64 datatype.Bool c x = converted_gives x.secrecy c x
  cast_from_gives datatype.Bool Uint64 c x = converted_gives x.secrecy c x
  cast_from_gives datatype.Bool Int64 c x = converted_gives x.secrecy c x
  cast_from_gives datatype.Bool datatype.Bool c x = gives_done refl

  pub cast_gives : (c : Cast) (x : Value) → Gives (cast_to w c x) (IsSecret (is_secret x.secrecy))
  cast_gives c x = gives_after w (plain_charge (size x)) (λ _. cast_from_gives c.given c.wanted c x)

  summed_from_gives : (a : Secrecy) (x : Value) → Gives (summed_from a x) (IsSecret (is_secret a))
  unfolding is_onward
  summed_from_gives Plain x = plain_gives _ _
  summed_from_gives (Private k) x = gives_after w (walk.number_holds w w (is_onward w) law x) (λ u. gives_after w (onward_gate _) (λ r. made_gives _ _ r))

  pub summed_gives : (x : Value) → Gives (summed x) (IsSecret (is_secret x.secrecy))
  summed_gives x = gives_after w (onward_charge 1) (λ _. summed_from_gives x.secrecy x)

  large_on : (line n : ℕ) → is_onward w (Unit {0}) (not_too_large line n) (not_too_large line n)
  large_on line n = law.on_test _ _ _

  bits_from_gives : (a : Secrecy) (x : Value) → Gives (bits_from w a x) (IsSecret (is_secret a))
  unfolding is_onward
  bits_from_gives Plain x = plain_gives _ _
  bits_from_gives (Private k) x =
      gives_after w (onward_draw w (words_for_bits (size x))) (λ _. gives_after w (walk.number_holds w w (is_onward w) law x)
      (λ u. gives_after w (walk.planned_holds w w (is_onward w) law (λ first. bits_plan first u (size x)))
      (λ b. made_gives (shape_of datatype.Bool true) (flat_map bits_of x.words) b)))

  pub bits_gives : (line : ℕ) (x : Value) → Gives (bits_extracted w line x) (IsSecret (is_secret x.secrecy))
  unfolding is_onward
  bits_gives line x = gives_after w (charged_on (not_too_large line (64 * size x)) (64 * size x) (large_on line (64 * size x)))
      (λ _. bits_from_gives x.secrecy x)

  pub looked_up_gives : (line : ℕ) (a i : Value) → Gives (looked_up w line a i) (IsSecret true)
  unfolding is_onward
  looked_up_gives line a i =
      let n = size a * size i in
      gives_after w (charged_on (not_too_large line n) n (large_on line n)) (λ _. gives_after w (onward_draw w (words_for_lookup n))
      (λ _. gives_after w (walk.number_holds w w (is_onward w) law a) (λ u. gives_after w (walk.number_holds w w (is_onward w) law i)
      (λ v. gives_after w (walk.planned_holds w w (is_onward w) law (λ first. lookup_plan first u v (size a) (size i)))
      (λ r. made_gives (shape_of a.shape.element i.shape.array) (looked a.words i.words) r)))))

  catenated_gives : (x y : Value) → Gives (concatenated_from (Private None) Plain x y) (IsSecret true)
  unfolding is_onward
  catenated_gives x y =
      gives_after w (walk.number_holds w w (is_onward w) law x) (λ u. gives_after w (walk.number_holds w w (is_onward w) law y)
      (λ v. gives_after w (onward_gate _) (λ r. made_gives _ _ r)))

  concatenated_from_gives : (a b : Secrecy) (x y : Value) → Gives (concatenated_from a b x y) (IsSecret (is_secret a || is_secret b))
  concatenated_from_gives Plain Plain x y = plain_gives _ _
  concatenated_from_gives Plain (Private k) x y = catenated_gives x y
  concatenated_from_gives (Private j) Plain x y = catenated_gives x y
  concatenated_from_gives (Private j) (Private k) x y = catenated_gives x y

  pub concatenated_gives : (line : ℕ) (x y : Value) → Gives (concatenated line x y) (IsSecret (is_secret x.secrecy || is_secret y.secrecy))
  unfolding is_onward
  concatenated_gives line x y = gives_after w (charged_on (not_too_large line (size x + size y)) (size x + size y) (large_on line (size x + size y)))
      (λ _. concatenated_from_gives x.secrecy y.secrecy x y)

  with_element_from_gives : (a : Secrecy) (x : Value) (i : ℕ) (y : Value) → Gives (with_element_from a x i y) (IsSecret (is_secret a))
  unfolding is_onward
  with_element_from_gives Plain x i y = plain_gives _ _
  with_element_from_gives (Private k) x i y =
      gives_after w (walk.number_holds w w (is_onward w) law x) (λ u. gives_after w (walk.number_holds w w (is_onward w) law y)
      (λ e. gives_after w (onward_gate _) (λ r. made_gives _ _ r)))

  pub with_element_gives : (line : ℕ) (x i y : Value) → Gives (with_element line x i y) (IsSecret (is_secret x.secrecy))
  unfolding is_onward
  with_element_gives line x i y = gives_after w (onward_charge 1)
      (λ _. gives_after w (law.on_test _ _ _) (λ _. with_element_from_gives x.secrecy x (position i) y))

  filled_from_gives : (a : Secrecy) (n : ℕ) (x : Value) → Gives (filled_from a n x) (IsSecret (is_secret a))
  unfolding is_onward
  filled_from_gives Plain n x = plain_gives _ _
  filled_from_gives (Private k) n x = gives_after w (walk.number_holds w w (is_onward w) law x) (λ u. gives_after w (onward_gate _) (λ r. made_gives _ _ r))

  pub filled_gives : (line : ℕ) (n x : Value) → Gives (filled line n x) (IsSecret (is_secret x.secrecy))
  unfolding is_onward
  filled_gives line n x = gives_after w (charged_on (not_too_large line (position n)) (position n) (large_on line (position n)))
      (λ _. filled_from_gives x.secrecy (position n) x)

  given_gives : (secret : Bool) (x : GivenInput) (k : ℕ) → Gives (given_value secret x k) (IsSecret secret)
  given_gives false x k = plain_gives _ _
  given_gives true x k = gives_after w (onward_gate _) (λ r. made_gives _ _ r)

  declared_on : (secret : Bool) (shape : Shape) (line : ℕ) (x : GivenInput) → is_onward w (Unit {0}) (test (is_as_declared secret shape x) trap.Argument line)
      (test (is_as_declared secret shape x) trap.Argument line)
  declared_on secret shape line x = law.on_test _ _ _

  pub asked_gives : (secret : Bool) (shape : Shape) (line : ℕ) (o : Option (GivenInput × ℕ)) → Gives (asked_for secret shape line o) (IsSecret secret)
  unfolding is_onward
  asked_gives secret shape line None = gives_after w (onward_charge 1) (λ _. gives_end _)
  asked_gives secret shape line (Some x) =
      gives_after w (charged_on (test (is_as_declared secret shape x.0) trap.Argument line) (length x.0.words) (declared_on secret shape line x.0))
      (λ _. given_gives secret x.0 x.1)

  pub size_gives : (x : Value) → Gives (size_told x) (IsSecret false)
  size_gives x = gives_after w (onward_charge 1) (λ _. gives_done refl)

  pub tested_gives : (x : Value) → Gives (tested x) (Any {A = Bool})
  tested_gives x = gives_after w (onward_charge 1) (λ _. gives_done tt)

  pub published_gives : (text : List ℕ) (x : Value) → Gives (published w text x) (Any {A = Unit {0}})
  unfolding is_onward
  published_gives text x = gives_any w (walk.published_holds w w (is_onward w) law text x)

  pub asserted_gives : (line : ℕ) (x : Value) → Gives (asserted line x) (Any {A = Unit {0}})
  unfolding is_onward
  asserted_gives line x = gives_any w (walk.asserted_holds w w (is_onward w) law line x)

  pub charge_gives : (n : ℕ) → Gives (charged no_traps n) (Any {A = Unit {0}})
  charge_gives n = gives_any w (plain_charge n)

-- ---- what is wanted as a private value, and is one

kept_private : (x : Secrecy) (v : Value) → v.secrecy ≡ x → is_secret x ≡ true → classified v ≡ done v
kept_private Plain v e h = absurd (false_true h)
  where
    false_true : false ≡ true → ⊥
    false_true h = cc
kept_private (Private k) v e h = ap (λ z. classified_from z v) e

pub wanted_less : (n g : Bool) (x : Value) → IsSecret g x → wanted n x ≡ wanted (n && not g) x
wanted_less true true x h = kept_private x.secrecy x refl h
wanted_less true false x h = refl
wanted_less false g x h = refl

-- what is as private as it is wanted stays as it is
pub wanted_same : (n : Bool) (x : Value) → IsSecret n x → wanted n x ≡ done x
wanted_same true x h = kept_private x.secrecy x refl h
wanted_same false x h = refl
