-- How many steps the code of a function has, and how many names: at most twice its registers and its statements, and its statements.
use Rattle.std.proofs.Common.{◌≡◌, ℕ, ◌+◌, ◌*◌, ◌≤◌, List, [], ◌∷◌, ◌++◌, length, Some, None, Bool, true, false, arith, length-append}
use Rattle.std.specs.Prelude.{slice_get}
use Rattle.std.specs.List.{flat_map}
use Rattle.program_trees.specs.declared.expression.DataType.TheVariants.{Uint64}
use Rattle.program_trees.specs.declared.expression.DataType.TheVariants as datatype
use Rattle.program_trees.specs.declared.kinds.Slot.{Slot}
use Rattle.program_trees.specs.declared.operators.BinaryOperator.{BinaryOperator}
use Rattle.program_trees.specs.declared.operators.BinaryOperator.TheVariants as binary
use Rattle.program_trees.specs.declared.operators.Operands.{Operands}
use Rattle.program_trees.specs.declared.operators.Operands.TheVariants.{Scalars}
use Rattle.program_trees.specs.declared.operators.Connective.{Connective}
use Rattle.program_trees.specs.declared.typed_function.Returned.{Returned}
use Rattle.program_trees.specs.declared.typed_function.Returned.TheVariants.{Nothing, Value}
use Rattle.program_trees.specs.TypedTree.{TypedTree, TypedTrees, word_node, truth_node, zero_node, slot_node, call_node, size_node, cat_node, sum_node, bits_node}
use Rattle.program_trees.specs.TypedTree.{lookup_node, element_node, not_node, cast_node, binary_node, cut_node, declassify_node}
use Rattle.program_trees.specs.TypedTree as Tree'
use Rattle.program_trees.specs.TypedStatements.{TypedStatementTree, TypedStatementTrees, empty_statement, block_statement, if_statement, loop_statement, do_statement}
use Rattle.program_trees.specs.TypedStatements.{break_statement, continue_statement, return_statement, assert_statement, store_statement, default_statement}
use Rattle.program_trees.specs.TypedStatements.{fill_statement, input_statement, element_statement, publish_statement, evaluate_statement}
use Rattle.program_trees.specs.TypedStatements as Statements'
use Rattle.program_trees.specs.TypedPrograms.{TypedFunctionTree}
use Rattle.reached_instances.specs.declared.instance.BoundDomain.{BoundDomain}
use Rattle.reached_instances.specs.Domains.{Setting, domains}
use Rattle.code_model.specs.Words.{truth_word}
use Rattle.code_model.specs.Evaluation.{StatementContext, place_in, gives_private, slot_is_private, slot_shape, bound_at, slots_of}
use Rattle.code_model.specs.Evaluation.{next_is_private, behind_next}
use Rattle.code_model.specs.Evaluation.{connective, either}
use Rattle.verified_code.specs.Steps.{Step, Literal, Move, Store, Binary, Not, Cast, Classify, Fill, At, Put, Size, Cat, Sum, Bits, Lookup}
use Rattle.verified_code.specs.Steps.{Declassify, Argument, Publish, Assert, Branch, Jump, Call, Return, ReturnNone}
use Rattle.code_model.specs.Kinds.{kind_of, truth_kind, in_row}
use Rattle.code_model.proofs.Widths.{width, widths, statement_width, statements_width}
use Rattle.code_model.specs.Expressions.{Numbers, result_at, classifying, picked, lacks, mixes, binary_code, cat_code, lookup_code, deciding, settling, cut_code}
use Rattle.code_model.specs.Expressions.{own_at, classified_at, stands_at, next_row, expression_code, arguments_code, arguments_places, unread_code}
use Rattle.code_model.specs.Statements.{shape_number, first_free, statements_depth, if_code, loop_code, do_code, behind_classifying}
use Rattle.code_model.specs.Statements.{statement_code, statements_code}
use Rattle.code_model.specs.Programs.{last_step, body_end, function_code}
use Rattle.lowered_code.specs.Instructions.{step_names}
use Rattle.written_code.proofs.Counts.{count, counts}

abbrev pub names_in : List Step → ℕ
names_in code = length (flat_map step_names code)

-- at most so many steps, and so many names in them
pub record IsShort (n k : ℕ) (code : List Step) : Type 0 where
  pub steps : length code ≤ n
  pub names : names_in code ≤ k

fewer : {n k : ℕ} (m l : ℕ) {code : List Step} → n ≤ m → k ≤ l → IsShort n k code → IsShort m l code
fewer m l a b h = let s = h.steps in let t = h.names in record { steps = omega (arith, a, s); names = omega (arith, b, t) }

nothing : IsShort 0 0 []
nothing = record { steps = omega arith; names = omega arith }

names_joined : (a b : List Step) → names_in (a ++ b) ≡ names_in a + names_in b
names_joined [] b = omega arith
names_joined (i ∷ a) b =
    let rest = names_joined a b in
    let one = length-append (step_names i) (flat_map step_names (a ++ b)) in
    let two = length-append (step_names i) (flat_map step_names a) in
    omega (arith, rest, one, two)

both : {n k m l : ℕ} {a b : List Step} → IsShort n k a → IsShort m l b → IsShort (n + m) (k + l) (a ++ b)
both {a = a} {b = b} h g =
    let hs = h.steps in
    let hn = h.names in
    let gs = g.steps in
    let gn = g.names in
    let whole = length-append a b in
    let named = names_joined a b in
    record { steps = omega (arith, hs, gs, whole); names = omega (arith, hn, gn, named) }

-- a step with so many names
step : (k : ℕ) (i : Step) {n l : ℕ} {is : List Step} → length (step_names i) ≤ k → IsShort n l is → IsShort (1 + n) (k + l) (i ∷ is)
step k i {is = is} few h =
    let hs = h.steps in
    let hn = h.names in
    let named = length-append (step_names i) (flat_map step_names is) in
    record { steps = omega (arith, hs); names = omega (arith, hn, few, named) }

-- one without names
plain : (i : Step) {n l : ℕ} {is : List Step} → length (step_names i) ≤ 0 → IsShort n l is → IsShort (1 + n) l (i ∷ is)
plain i {n = n} {l = l} few h = fewer (1 + n) l (omega arith) (omega arith) (step 0 i few h)

one : (i : Step) → length (step_names i) ≤ 0 → IsShort 1 0 (i ∷ [])
one i few = plain i few nothing

either_short : (g : Bool) {n k : ℕ} {a b : List Step} → IsShort n k a → IsShort n k b → IsShort n k (either g a b)
either_short true h k = h
either_short false h k = k

classifying_short : (g : Bool) (c r : ℕ) → IsShort 1 0 (classifying g c r)
classifying_short true c r = one (Classify c r) (omega arith)
classifying_short false c r = fewer 1 0 (omega arith) (omega arith) nothing

settling_plain : (g : Bool) (t r : ℕ) → length (step_names (settling g t r)) ≤ 0
settling_plain true t r = omega arith
settling_plain false t r = omega arith

behind_short : (wanted given : Bool) (t u : ℕ) (last : ℕ → Step) → ((r : ℕ) → length (step_names (last r)) ≤ 0)
    → IsShort 2 0 (behind_classifying wanted given t u last)
behind_short wanted given t u last h =
    both (classifying_short (lacks wanted given) t u) (one (last (picked (lacks wanted given) t u)) (h (picked (lacks wanted given) t u)))

-- ---- EXPRESSIONS

binary_short : (i j d m n v u pc line : ℕ) (op : BinaryOperator) (ds : Operands) (ga gb : Bool) (ca : List Step) (cb : ℕ → List Step) → IsShort i 0 ca
    → ((p : ℕ) → IsShort j 0 (cb p))
    → IsShort (i + (j + 3)) 0 (binary_code d m n v u pc line op ds ga gb ca cb)
binary_short i j d m n v u pc line op ds ga gb ca cb a b =
    both a (both (b (pc + length ca)) (both (classifying_short (mixes op ga gb) m v) (both (classifying_short (mixes op gb ga) n u)
    (one (Binary line op ds d (picked (mixes op ga gb) m v) (picked (mixes op gb ga) n u)) (omega arith)))))

cat_short : (i j d m n v u pc line : ℕ) (l r : Bool) (ca : List Step) (cb : ℕ → List Step) → IsShort i 0 ca → ((p : ℕ) → IsShort j 0 (cb p))
    → IsShort (i + (1 + (j + 2))) 0 (cat_code d m n v u pc line l r ca cb)
cat_short i j d m n v u pc line l r ca cb a b =
    both a (both (classifying_short l m v) (both (b (pc + length ca + length (classifying l m v)))
    (both (classifying_short r n u) (one (Cat line d (picked l m v) (picked r n u)) (omega arith)))))

lookup_short : (i j d m n v u pc line : ℕ) (l r : Bool) (ca : List Step) (cb : ℕ → List Step) → IsShort i 0 ca → ((p : ℕ) → IsShort j 0 (cb p))
    → IsShort (i + (j + 3)) 0 (lookup_code d m n v u pc line l r ca cb)
lookup_short i j d m n v u pc line l r ca cb a b =
    both a (both (b (pc + length ca)) (both (classifying_short l m v) (both (classifying_short r n u)
    (one (Lookup line d (picked l m v) (picked r n u)) (omega arith)))))

cut_short : (i j d q v u pc : ℕ) (c : Connective) (secret : Bool) (ca : List Step) (cb : ℕ → List Step) → IsShort i 0 ca → ((p : ℕ) → IsShort j 0 (cb p))
    → IsShort (i + (1 + (j + 4))) 0 (cut_code d q v u pc c secret ca cb)
cut_short i j d q v u pc c secret ca cb a b =
    let pb = pc + length ca + 1 in
    let pd = pb + length (cb pb) + 2 in
    both a (plain (Branch v (deciding c) pd) (omega arith) (both (b pb) (plain (Move d u) (omega arith) (plain (Jump (pd + 2)) (omega arith)
    (plain (Literal q datatype.Bool (truth_word (deciding c))) (omega arith) (one (settling secret d q) (settling_plain secret d q)))))))

-- twice
abbrev pub two : ℕ → ℕ
two n = n + n

module _ (number : Numbers) (here : Setting) where
  abbrev bound_of : ℕ → TypedTrees → List BoundDomain
  bound_of k es = bound_at (slice_get here.functions k) (domains here es)

  abbrev slots_at : ℕ → List Slot
  slots_at k = slots_of (slice_get here.functions k)

  abbrev Short : TypedTree → List Step → Type 0
  Short e code = IsShort (two (width e)) 0 code

  -- the node after one operand
  behind_one : (e : TypedTree) (i : Step) {code : List Step} → length (step_names i) ≤ 0 → Short e code → IsShort (two (1 + width e)) 0 (code ++ i ∷ [])
  behind_one e i few h = fewer (two (1 + width e)) 0 (omega arith) (omega arith) (both h (one i few))

  mutual
    pub expression_short : (e : TypedTree) (t pc : ℕ) → Short e (expression_code number here t pc e)
    expression_short (word_node n) t pc = fewer 2 0 (omega arith) (omega arith) (one (Literal (own_at here (word_node n) t) Uint64 n) (omega arith))
    expression_short (truth_node b) t pc = fewer 2 0 (omega arith) (omega arith) (one (Literal (own_at here (truth_node b) t) datatype.Bool (truth_word b)) (omega arith))
    expression_short zero_node t pc = fewer 2 0 (omega arith) (omega arith) nothing
    expression_short (slot_node k) t pc = fewer 2 0 (omega arith) (omega arith) nothing
    expression_short (call_node line k es) t pc =
        fewer (two (1 + widths es)) 0 (omega arith) (omega arith) (both (arguments_short (bound_of k es) (slots_at k) es t pc)
        (one (Call line (number k (bound_of k es)) (Some (own_at here (call_node line k es) t)) (arguments_places number here (bound_of k es) (slots_at k) t es))
        (omega arith)))
    expression_short (size_node e) t pc = behind_one e (Size (own_at here (size_node e) t) (stands_at here e t)) (omega arith) (expression_short e t pc)
    expression_short (cat_node line a b) t pc =
        let g = gives_private here (cat_node line a b) in
        let u = next_row t in
        fewer (two (3 + width a + width b)) 0 (omega arith) (omega arith)
        (cat_short (two (width a)) (two (width b)) (own_at here (cat_node line a b) t) (classified_at here a t) (classified_at here b u) (stands_at here a t)
        (stands_at here b u) pc line
        (lacks g (gives_private here a)) (lacks g (gives_private here b)) (expression_code number here t pc a) (λ p. expression_code number here u p b)
        (expression_short a t pc) (λ p. expression_short b u p))
    expression_short (sum_node e) t pc = behind_one e (Sum (own_at here (sum_node e) t) (stands_at here e t)) (omega arith) (expression_short e t pc)
    expression_short (bits_node line e) t pc =
        behind_one e (Bits line (own_at here (bits_node line e) t) (stands_at here e t)) (omega arith) (expression_short e t pc)
    expression_short (lookup_node line a i) t pc =
        let u = next_row t in
        fewer (two (3 + width a + width i)) 0 (omega arith) (omega arith)
        (lookup_short (two (width a)) (two (width i)) (own_at here (lookup_node line a i) t) (classified_at here a t) (classified_at here i u)
        (stands_at here a t) (stands_at here i u) pc line (lacks true (gives_private here a)) (lacks true (gives_private here i))
        (expression_code number here t pc a) (λ p. expression_code number here u p i) (expression_short a t pc) (λ p. expression_short i u p))
    expression_short (element_node line a i) t pc =
        let u = next_row t in
        let ca = expression_code number here t pc a in
        fewer (two (1 + width a + width i)) 0 (omega arith) (omega arith)
        (both (expression_short a t pc) (both (expression_short i u (pc + length ca))
        (one (At line (own_at here (element_node line a i) t) (stands_at here a t) (stands_at here i u)) (omega arith))))
    expression_short (not_node e) t pc = behind_one e (Not (own_at here (not_node e) t) (stands_at here e t)) (omega arith) (expression_short e t pc)
    expression_short (cast_node c e) t pc = behind_one e (Cast c (own_at here (cast_node c e) t) (stands_at here e t)) (omega arith) (expression_short e t pc)
    expression_short (binary_node line op ds a b) t pc =
        let u = next_row t in
        fewer (two (3 + width a + width b)) 0 (omega arith) (omega arith)
        (binary_short (two (width a)) (two (width b)) (own_at here (binary_node line op ds a b) t) (classified_at here a t) (classified_at here b u)
        (stands_at here a t) (stands_at here b u) pc line op ds
        (gives_private here a) (gives_private here b) (expression_code number here t pc a) (λ p. expression_code number here u p b)
        (expression_short a t pc) (λ p. expression_short b u p))
    expression_short (cut_node c a b) t pc =
        let v = stands_at here a t in
        let u = next_row t in
        let ub = stands_at here b u in
        let d = own_at here (cut_node c a b) t in
        let ca = expression_code number here t pc a in
        let cb = λ (p : ℕ). expression_code number here u p b in
        let sa = expression_short a t pc in
        either_short (gives_private here a)
        (fewer (two (3 + width a + width b)) 0 (omega arith) (omega arith)
        (binary_short (two (width a)) (two (width b)) d (classified_at here a t) (classified_at here b u) v ub pc 0 (binary.Bools (connective c)) Scalars (gives_private here a) (gives_private here b) ca cb sa
        (λ p. expression_short b u p)))
        (fewer (two (3 + width a + width b)) 0 (omega arith) (omega arith)
        (cut_short (two (width a)) (two (width b)) d (in_row t (truth_kind false)) v ub pc c (gives_private here b) ca cb sa (λ p. expression_short b u p)))
    expression_short (declassify_node e) t pc =
        behind_one e (Declassify (own_at here (declassify_node e) t) (stands_at here e t)) (omega arith) (expression_short e t pc)

    arguments_short : (b : List BoundDomain) (ss : List Slot) (es : TypedTrees) (t pc : ℕ)
        → IsShort (two (widths es)) 0 (arguments_code number here b ss t pc es)
    arguments_short b ss Tree'.none t pc = nothing
    arguments_short b ss (Tree'.also e es) t pc =
        let ce = expression_code number here t pc e in
        let w = lacks (next_is_private b ss) (gives_private here e) in
        let r = stands_at here e t in
        let m = classified_at here e t in
        let cl = classifying w m r in
        fewer (two (1 + width e + widths es)) 0 (omega arith) (omega arith) (both (expression_short e t pc) (both (classifying_short w m r)
        (arguments_short b (behind_next ss) es (next_row t) (pc + length ce + length cl))))

  unread_short : (e : TypedTree) (t pc : ℕ) → Short e (unread_code number here t pc e)
  unread_short (word_node n) t pc = expression_short (word_node n) t pc
  unread_short (truth_node b) t pc = expression_short (truth_node b) t pc
  unread_short zero_node t pc = expression_short zero_node t pc
  unread_short (slot_node k) t pc = expression_short (slot_node k) t pc
  unread_short (call_node line k es) t pc =
      fewer (two (1 + widths es)) 0 (omega arith) (omega arith) (both (arguments_short (bound_of k es) (slots_at k) es t pc)
      (one (Call line (number k (bound_of k es)) (result_at (slice_get here.functions k) (own_at here (call_node line k es) t))
      (arguments_places number here (bound_of k es) (slots_at k) t es)) (omega arith)))
  unread_short (size_node e) t pc = expression_short (size_node e) t pc
  unread_short (cat_node line a b) t pc = expression_short (cat_node line a b) t pc
  unread_short (sum_node e) t pc = expression_short (sum_node e) t pc
  unread_short (bits_node line e) t pc = expression_short (bits_node line e) t pc
  unread_short (lookup_node line a i) t pc = expression_short (lookup_node line a i) t pc
  unread_short (element_node line a i) t pc = expression_short (element_node line a i) t pc
  unread_short (not_node e) t pc = expression_short (not_node e) t pc
  unread_short (cast_node c e) t pc = expression_short (cast_node c e) t pc
  unread_short (binary_node line op ds a b) t pc = expression_short (binary_node line op ds a b) t pc
  unread_short (cut_node c a b) t pc = expression_short (cut_node c a b) t pc
  unread_short (declassify_node e) t pc = expression_short (declassify_node e) t pc

-- ---- STATEMENTS

if_short : (n m k i j pc t : ℕ) (test : List Step) (a b : ℕ → List Step) → IsShort n 0 test → ((p : ℕ) → IsShort m i (a p)) → ((p : ℕ) → IsShort k j (b p))
    → IsShort (n + (1 + (m + (1 + k)))) (i + j) (if_code pc t test a b)
if_short n m k i j pc t test a b h ha hb =
    let pa = pc + length test + 1 in
    let pb = pa + length (a pa) + 1 in
    fewer (n + (1 + (m + (1 + k)))) (i + j) (omega arith) (omega arith)
    (both h (plain (Branch t false pb) (omega arith) (both (ha pa) (plain (Jump (pb + length (b pb))) (omega arith) (hb pb)))))

loop_short : (n m k i j pc t : ℕ) (test body next : ℕ → List Step) → ((p : ℕ) → IsShort n 0 (test p)) → ((p : ℕ) → IsShort m i (body p))
    → ((p : ℕ) → IsShort k j (next p))
    → IsShort (1 + (m + (k + (n + 1)))) (i + j) (loop_code pc t test body next)
loop_short n m k i j pc t test body next ht hb hs =
    let py = pc + 1 + length (body (pc + 1)) in
    let pt = py + length (next py) in
    fewer (1 + (m + (k + (n + 1)))) (i + j) (omega arith) (omega arith)
    (plain (Jump pt) (omega arith) (both (hb (pc + 1)) (both (hs py) (both (ht pt) (one (Branch t true (pc + 1)) (omega arith))))))

do_short : (n m i pc t : ℕ) (test body : ℕ → List Step) → ((p : ℕ) → IsShort n 0 (test p)) → ((p : ℕ) → IsShort m i (body p))
    → IsShort (m + (n + 1)) i (do_code pc t test body)
do_short n m i pc t test body ht hb =
    let pt = pc + length (body pc) in
    fewer (m + (n + 1)) i (omega arith) (omega arith) (both (hb pc) (both (ht pt) (one (Branch t true pc) (omega arith))))

abbrev pub steps_of : TypedStatementTree → ℕ
steps_of c = two (statement_width c) + two (count c)

module _ (number : Numbers) (at : StatementContext) where
  abbrev code_of_tree : (t pc : ℕ) → TypedTree → List Step
  code_of_tree t pc e = expression_code number at.here t pc e

  tree : (e : TypedTree) (t pc : ℕ) → IsShort (two (width e)) 0 (code_of_tree t pc e)
  tree e t pc = expression_short number at.here e t pc

  mutual
    statement_short : (c : TypedStatementTree) (t x y pc : ℕ) → IsShort (steps_of c) (count c) (statement_code number at t x y pc c)
    statement_short empty_statement t x y pc = nothing
    statement_short (block_statement cs) t x y pc = statements_short cs t x y pc
    statement_short (if_statement e a b) t x y pc =
        fewer (steps_of (if_statement e a b)) (count (if_statement e a b)) (omega arith) (omega arith)
        (if_short (two (width e)) (steps_of a) (steps_of b) (count a) (count b) pc (stands_at at.here e t) (code_of_tree t pc e)
        (λ p. statement_code number at t x y p a)
        (λ p. statement_code number at t x y p b) (tree e t pc) (λ p. statement_short a t x y p)
        (λ p. statement_short b t x y p))
    statement_short (loop_statement e next body) t x y pc =
        let py = pc + 1 + length (statement_code number at t 0 0 0 body) in
        let pt = py + length (statement_code number at t 0 0 0 next) in
        let px = pt + length (code_of_tree t 0 e) + 1 in
        fewer (steps_of (loop_statement e next body)) (count (loop_statement e next body)) (omega arith) (omega arith)
        (loop_short (two (width e)) (steps_of body) (steps_of next) (count body) (count next) pc (stands_at at.here e t) (λ p. code_of_tree t p e)
        (λ p. statement_code number at t px py p body) (λ p. statement_code number at t px pt p next) (λ p. tree e t p)
        (λ p. statement_short body t px py p) (λ p. statement_short next t px pt p))
    statement_short (do_statement body e) t x y pc =
        let pt = pc + length (statement_code number at t 0 0 0 body) in
        let px = pt + length (code_of_tree t 0 e) + 1 in
        fewer (steps_of (do_statement body e)) (count (do_statement body e)) (omega arith) (omega arith)
        (do_short (two (width e)) (steps_of body) (count body) pc (stands_at at.here e t) (λ p. code_of_tree t p e)
        (λ p. statement_code number at t px pt p body)
        (λ p. tree e t p) (λ p. statement_short body t px pt p))
    statement_short break_statement t x y pc = fewer 2 1 (omega arith) (omega arith) (one (Jump x) (omega arith))
    statement_short continue_statement t x y pc = fewer 2 1 (omega arith) (omega arith) (one (Jump y) (omega arith))
    statement_short (return_statement None) t x y pc = fewer 2 1 (omega arith) (omega arith) (one ReturnNone (omega arith))
    statement_short (return_statement (Some e)) t x y pc =
        fewer (steps_of (return_statement (Some e))) 1 (omega arith) (omega arith)
        (both (tree e t pc) (behind_short at.secret_result (gives_private at.here e) (classified_at at.here e t) (stands_at at.here e t) Return (λ r. omega arith)))
    statement_short (assert_statement line e) t x y pc =
        fewer (steps_of (assert_statement line e)) 1 (omega arith) (omega arith) (both (tree e t pc) (one (Assert line (stands_at at.here e t))
        (omega arith)))
    statement_short (store_statement k e) t x y pc =
        fewer (steps_of (store_statement k e)) 1 (omega arith) (omega arith)
        (both (tree e t pc)
        (behind_short (slot_is_private at.here k) (gives_private at.here e) (classified_at at.here e t) (stands_at at.here e t) (Store k) (λ r. omega arith)))
    statement_short (default_statement k) t x y pc =
        fewer (steps_of (default_statement k)) 1 (omega arith) (omega arith)
        (behind_short (slot_is_private at.here k) false (in_row t (kind_of true (slot_shape at.here k))) (length at.here.slots + shape_number (slot_shape at.here k)) (Store k) (λ r. omega arith))
    statement_short (fill_statement line k n e) t x y pc =
        let u = next_row t in
        let cn = code_of_tree t pc n in
        fewer (steps_of (fill_statement line k n e)) 1 (omega arith) (omega arith) (both (tree n t pc) (both (tree e u (pc + length cn))
        (behind_short (slot_is_private at.here k) (gives_private at.here e) (classified_at at.here e u) (stands_at at.here e u) (Fill line k (stands_at at.here n t))
        (λ r. omega arith))))
    statement_short (input_statement line k text) t x y pc =
        let kind = kind_of (slot_is_private at.here k) (slot_shape at.here k) in
        fewer (steps_of (input_statement line k text)) 1 (omega arith) (omega arith)
        (step 1 (Argument line kind text (in_row t kind)) (omega arith) (one (Store k (in_row t kind)) (omega arith)))
    statement_short (element_statement line k i e) t x y pc =
        let u = next_row t in
        let ci = code_of_tree t pc i in
        fewer (steps_of (element_statement line k i e)) 1 (omega arith) (omega arith) (both (tree i t pc) (both (tree e u (pc + length ci))
        (behind_short (slot_is_private at.here k) (gives_private at.here e) (classified_at at.here e u) (stands_at at.here e u) (Put line k (stands_at at.here i t))
        (λ r. omega arith))))
    statement_short (publish_statement text e) t x y pc =
        fewer (steps_of (publish_statement text e)) 1 (omega arith) (omega arith) (both (tree e t pc)
        (step 1 (Publish text (stands_at at.here e t)) (omega arith) nothing))
    statement_short (evaluate_statement e) t x y pc =
        fewer (steps_of (evaluate_statement e)) 1 (omega arith) (omega arith) (unread_short number at.here e t pc)

    pub statements_short : (cs : TypedStatementTrees) (t x y pc : ℕ)
        → IsShort (two (statements_width cs) + two (counts cs)) (counts cs) (statements_code number at t x y pc cs)
    statements_short Statements'.none t x y pc = nothing
    statements_short (Statements'.also c cs) t x y pc =
        let code = statement_code number at t x y pc c in
        fewer (two (statements_width (Statements'.also c cs)) + two (counts (Statements'.also c cs))) (counts (Statements'.also c cs)) (omega arith)
        (omega arith)
        (both (statement_short c t x y pc) (statements_short cs t x y (pc + length code)))

-- ---- FUNCTIONS

last_plain : (g : Returned) (r : ℕ) → length (step_names (last_step g r)) ≤ 0
last_plain Nothing r = omega arith
last_plain (Value s) r = omega arith

pub function_short : (number : Numbers) (fs : List TypedFunctionTree) (f : TypedFunctionTree) (b : List BoundDomain)
    → IsShort (two (statements_width f.body) + two (counts f.body) + 1) (counts f.body) (function_code number fs f b).steps
function_short number fs f b =
    let end = body_end number fs f b in
    let r = first_free f.slots + 12 * statements_depth f.body in
    fewer (two (statements_width f.body) + two (counts f.body) + 1) (counts f.body) (omega arith) (omega arith)
    (both (statements_short number (place_in fs f b) f.body (first_free f.slots) end end 0) (one (last_step f.given r) (last_plain f.given r)))
