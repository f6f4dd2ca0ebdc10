-- The jumps of a program's code go forward.
use Rattle.std.proofs.Common.{◌≡◌, ℕ, zero, suc, ◌+◌, ◌*◌, ◌<◌, ◌≤◌, List, [], ◌∷◌, ◌++◌, length, Option, Some, None, Bool, true, false, subst}
use Rattle.std.proofs.Common.{arith, length-append}
use Rattle.std.specs.Prelude.{slice_get, map}
use Rattle.std.proofs.lemmas.Option.{none-some, same_Some}
use Rattle.program_trees.specs.declared.expression.DataType.TheVariants as datatype
use Rattle.program_trees.specs.declared.kinds.Slot.{Slot}
use Rattle.program_trees.specs.declared.operators.BinaryOperator.{BinaryOperator}
use Rattle.program_trees.specs.declared.operators.BinaryOperator.TheVariants as binary
use Rattle.program_trees.specs.declared.operators.Operands.{Operands}
use Rattle.program_trees.specs.declared.operators.Operands.TheVariants.{Scalars}
use Rattle.program_trees.specs.declared.operators.Connective.{Connective}
use Rattle.program_trees.specs.TypedTree.{TypedTree, TypedTrees, word_node, truth_node, zero_node, slot_node, call_node, size_node, cat_node, sum_node, bits_node, lookup_node, element_node}
use Rattle.program_trees.specs.TypedTree.{not_node, cast_node, binary_node, cut_node, declassify_node}
use Rattle.program_trees.specs.TypedTree as Tree'
use Rattle.program_trees.specs.TypedStatements.{TypedStatementTree, TypedStatementTrees, empty_statement, block_statement, if_statement, loop_statement, do_statement}
use Rattle.program_trees.specs.TypedStatements.{break_statement, continue_statement, return_statement, assert_statement, store_statement, default_statement}
use Rattle.program_trees.specs.TypedStatements.{fill_statement, input_statement, element_statement, publish_statement, evaluate_statement}
use Rattle.program_trees.specs.TypedStatements as Statements'
use Rattle.program_trees.specs.declared.typed_function.Returned.{Returned}
use Rattle.program_trees.specs.declared.typed_function.Returned.TheVariants as given
use Rattle.program_trees.specs.TypedPrograms.{TypedFunctionTree, TypedProgramTree}
use Rattle.reached_instances.specs.declared.instance.BoundDomain.{BoundDomain}
use Rattle.reached_instances.specs.Domains.{Setting, domains}
use Rattle.reached_instances.specs.Instances.{Instance}
use Rattle.blind_evaluation.specs.Words.{truth_word}
use Rattle.blind_evaluation.specs.Evaluation.{StatementContext, gives_private, slot_is_private, slot_shape, slots_of, bound_at, next_is_private}
use Rattle.blind_evaluation.specs.Evaluation.{behind_next, connective}
use Rattle.blind_evaluation.specs.Evaluation.{either, place_in}
use Rattle.verified_code.specs.Steps.{Step, Literal, Move, Store, Fill, Put, Return, Branch, Jump, Function}
use Rattle.code_model.specs.Expressions.{Numbers, classifying, lacks, mixes, binary_code, cat_code, lookup_code, element_code, deciding, settling, cut_code}
use Rattle.code_model.specs.Expressions.{classified_at, stands_at, next_row, expression_code, arguments_code, unread_code}
use Rattle.code_model.specs.Statements.{shape_number, first_free, statements_depth, behind_classifying, statement_code, statements_code}
use Rattle.code_model.specs.Programs.{last_step, function_code, body_end, code_of_found, instance_code, numbers_in, code_of}
use Rattle.code_model.specs.Meaning.{IsForward, AreForward}
use Rattle.code_model.proofs.Lengths.{statement_length, statements_length}

abbrev GoesOn : ℕ → Step → Type 0
GoesOn pc (Jump target) = pc < target
GoesOn pc i = Unit {0}

abbrev GoOn : ℕ → List Step → Type 0
GoOn pc [] = Unit {0}
GoOn pc (i ∷ is) = GoesOn pc i × GoOn (pc + 1) is

both_on : (pc : ℕ) (a b : List Step) → GoOn pc a → GoOn (pc + length a) b → GoOn pc (a ++ b)
both_on pc [] b h k = let e : pc + 0 ≡ pc = omega arith in subst (λ n. GoOn n b) e k
both_on pc (i ∷ a) b h k =
    let e : pc + length (i ∷ a) ≡ pc + 1 + length a = omega arith in
    (h.0, both_on (pc + 1) a b h.1 (subst (λ n. GoOn n b) e k))

classifying_on : (b : Bool) (c r pc : ℕ) → GoOn pc (classifying b c r)
classifying_on true c r pc = (tt, tt)
classifying_on false c r pc = tt

settling_on : (b : Bool) (t r pc : ℕ) → GoesOn pc (settling b t r)
settling_on true t r pc = tt
settling_on false t r pc = tt

-- code that goes on wherever it stands
abbrev GoOnAll : (ℕ → List Step) → Type 0
GoOnAll b = (q : ℕ) → GoOn q (b q)

binary_on : (d m n v u pc line : ℕ) (op : BinaryOperator) (ds : Operands) (ga gb : Bool) (a : List Step) (b : ℕ → List Step) → GoOn pc a → GoOnAll b → GoOn pc
    (binary_code d m n v u pc line op ds ga gb a b)
binary_on d m n v u pc line op ds ga gb a b h k =
    let l = mixes op ga gb in
    let r = mixes op gb ga in
    both_on pc a _ h (both_on (pc + length a) (b (pc + length a)) _ (k (pc + length a))
    (both_on _ (classifying l m v) _ (classifying_on l m v _)
    (both_on _ (classifying r n u) _ (classifying_on r n u _) (tt, tt))))

cat_on : (d m n v u pc line : ℕ) (l r : Bool) (a : List Step) (b : ℕ → List Step) → GoOn pc a → GoOnAll b → GoOn pc (cat_code d m n v u pc line l r a b)
cat_on d m n v u pc line l r a b h k =
    let pb = pc + length a + length (classifying l m v) in
    both_on pc a _ h (both_on (pc + length a) (classifying l m v) _ (classifying_on l m v _)
    (both_on pb (b pb) _ (k pb) (both_on _ (classifying r n u) _ (classifying_on r n u _) (tt, tt))))

lookup_on : (d m n v u pc line : ℕ) (l r : Bool) (a : List Step) (b : ℕ → List Step) → GoOn pc a → GoOnAll b → GoOn pc (lookup_code d m n v u pc line l r a b)
lookup_on d m n v u pc line l r a b h k =
    both_on pc a _ h (both_on (pc + length a) (b (pc + length a)) _ (k (pc + length a))
    (both_on _ (classifying l m v) _ (classifying_on l m v _)
    (both_on _ (classifying r n u) _ (classifying_on r n u _) (tt, tt))))

element_on : (t v u pc line : ℕ) (a : List Step) (b : ℕ → List Step) → GoOn pc a → GoOnAll b → GoOn pc (element_code t v u pc line a b)
element_on t v u pc line a b h k = both_on pc a _ h (both_on (pc + length a) (b (pc + length a)) _ (k (pc + length a)) (tt, tt))

cut_on : (d q v u pc : ℕ) (c : Connective) (secret : Bool) (a : List Step) (b : ℕ → List Step) → GoOn pc a → GoOnAll b → GoOn pc (cut_code d q v u pc c secret a b)
cut_on d q v u pc c secret a b h k =
    let pb = pc + length a + 1 in
    let pd = pb + length (b pb) + 2 in
    let last = Move d u ∷ Jump (pd + 2) ∷ Literal q datatype.Bool (truth_word (deciding c)) ∷ settling secret d q ∷ [] in
    let jump : pb + length (b pb) + 1 < pd + 2 = omega arith in
    both_on pc a (Branch v (deciding c) pd ∷ (b pb ++ last)) h
    (tt, both_on pb (b pb) last (k pb) (tt, (jump, (tt, (settling_on secret d q _, tt)))))

either_on : (g : Bool) (pc : ℕ) (a b : List Step) → GoOn pc a → GoOn pc b → GoOn pc (either g a b)
either_on true pc a b h k = h
either_on false pc a b h k = k

module _ (number : Numbers) where
  mutual
    expression_on : (here : Setting) (e : TypedTree) (t pc : ℕ) → GoOn pc (expression_code number here t pc e)
    expression_on here (word_node n) t pc = (tt, tt)
    expression_on here (truth_node b) t pc = (tt, tt)
    expression_on here zero_node t pc = tt
    expression_on here (slot_node k) t pc = tt
    expression_on here (call_node line k es) t pc =
        both_on pc _ _ (arguments_on here (bound_at (slice_get here.functions k) (domains here es)) (slots_of (slice_get here.functions k)) es t pc)
        (tt, tt)
    expression_on here (size_node e) t pc = both_on pc _ _ (expression_on here e t pc) (tt, tt)
    expression_on here (cat_node line a b) t pc =
        cat_on _ _ _ _ _ pc line (lacks (gives_private here (cat_node line a b)) (gives_private here a))
        (lacks (gives_private here (cat_node line a b)) (gives_private here b)) _ _ (expression_on here a t pc)
        (λ q. expression_on here b (next_row t) q)
    expression_on here (sum_node e) t pc = both_on pc _ _ (expression_on here e t pc) (tt, tt)
    expression_on here (bits_node line e) t pc = both_on pc _ _ (expression_on here e t pc) (tt, tt)
    expression_on here (lookup_node line a i) t pc =
        lookup_on _ _ _ _ _ pc line (lacks true (gives_private here a)) (lacks true (gives_private here i)) _ _ (expression_on here a t pc)
        (λ q. expression_on here i (next_row t) q)
    expression_on here (element_node line a i) t pc = element_on _ _ _ pc line _ _ (expression_on here a t pc)
        (λ q. expression_on here i (next_row t) q)
    expression_on here (not_node e) t pc = both_on pc _ _ (expression_on here e t pc) (tt, tt)
    expression_on here (cast_node c e) t pc = both_on pc _ _ (expression_on here e t pc) (tt, tt)
    expression_on here (binary_node line op ds a b) t pc =
        binary_on _ _ _ _ _ pc line op ds (gives_private here a) (gives_private here b) _ _ (expression_on here a t pc)
        (λ q. expression_on here b (next_row t) q)
    expression_on here (cut_node c a b) t pc =
        either_on (gives_private here a) pc _ _
        (binary_on _ _ _ _ _ pc 0 (binary.Bools (connective c)) Scalars (gives_private here a) (gives_private here b) _ _
        (expression_on here a t pc) (λ q. expression_on here b (next_row t) q))
        (cut_on _ _ _ _ pc c (gives_private here b) _ _ (expression_on here a t pc)
        (λ q. expression_on here b (next_row t) q))
    expression_on here (declassify_node e) t pc = both_on pc _ _ (expression_on here e t pc) (tt, tt)

    arguments_on : (here : Setting) (b : List BoundDomain) (ss : List Slot) (es : TypedTrees) (t pc : ℕ) → GoOn pc (arguments_code number here b ss t pc es)
    arguments_on here b ss Tree'.none t pc = tt
    arguments_on here b ss (Tree'.also e es) t pc =
        let f = lacks (next_is_private b ss) (gives_private here e) in
        both_on pc _ _ (expression_on here e t pc) (both_on _ (classifying f (classified_at here e t) (stands_at here e t)) _
        (classifying_on f _ _ _)
        (arguments_on here b (behind_next ss) es (next_row t) _))

  unread_on : (here : Setting) (e : TypedTree) (t pc : ℕ) → GoOn pc (unread_code number here t pc e)
  unread_on here (call_node line k es) t pc =
      both_on pc _ _ (arguments_on here (bound_at (slice_get here.functions k) (domains here es)) (slots_of (slice_get here.functions k)) es t pc)
      (tt, tt)
  unread_on here (word_node n) t pc = expression_on here (word_node n) t pc
  unread_on here (truth_node b) t pc = expression_on here (truth_node b) t pc
  unread_on here zero_node t pc = expression_on here zero_node t pc
  unread_on here (slot_node k) t pc = expression_on here (slot_node k) t pc
  unread_on here (size_node e) t pc = expression_on here (size_node e) t pc
  unread_on here (cat_node line a b) t pc = expression_on here (cat_node line a b) t pc
  unread_on here (sum_node e) t pc = expression_on here (sum_node e) t pc
  unread_on here (bits_node line e) t pc = expression_on here (bits_node line e) t pc
  unread_on here (lookup_node line a i) t pc = expression_on here (lookup_node line a i) t pc
  unread_on here (element_node line a i) t pc = expression_on here (element_node line a i) t pc
  unread_on here (not_node e) t pc = expression_on here (not_node e) t pc
  unread_on here (cast_node c e) t pc = expression_on here (cast_node c e) t pc
  unread_on here (binary_node line op ds a b) t pc = expression_on here (binary_node line op ds a b) t pc
  unread_on here (cut_node c a b) t pc = expression_on here (cut_node c a b) t pc
  unread_on here (declassify_node e) t pc = expression_on here (declassify_node e) t pc

  behind_on : (n g : Bool) (t u pc : ℕ) (last : ℕ → Step) → ((r q : ℕ) → GoesOn q (last r)) → GoOn pc (behind_classifying n g t u last)
  behind_on n g t u pc last h = both_on pc (classifying (lacks n g) t u) _ (classifying_on (lacks n g) t u pc) (h _ _, tt)

  -- breaks and continues lead on too
  mutual
    statement_on : (at : StatementContext) (c : TypedStatementTree) (t x y pc : ℕ) → pc + length (statement_code number at t x y pc c) ≤ x → pc + length
        (statement_code number at t x y pc c) ≤ y → GoOn pc (statement_code number at t x y pc c)
    statement_on at empty_statement t x y pc hx hy = tt
    statement_on at (block_statement cs) t x y pc hx hy = statements_on at cs t x y pc hx hy
    statement_on at (if_statement e a b) t x y pc hx hy =
        let ce = expression_code number at.here t pc e in
        let pa = pc + length ce + 1 in
        let ca = statement_code number at t x y pa a in
        let pb = pa + length ca + 1 in
        let cb = statement_code number at t x y pb b in
        let rest2 = Jump (pb + length cb) ∷ cb in
        let rest = Branch (stands_at at.here e t) false pb ∷ (ca ++ rest2) in
        let n1 = length-append ce rest in
        let n2 = length-append ca rest2 in
        let jump : pa + length ca < pb + length cb = omega arith in
        both_on pc ce rest (expression_on at.here e t pc) (
          tt,
          both_on pa ca rest2 (statement_on at a t x y pa (omega (arith, n1, n2, hx)) (omega (arith, n1, n2, hy)))
              (jump, statement_on at b t x y pb (omega (arith, n1, n2, hx)) (omega (arith, n1, n2, hy))),
        )
    statement_on at (loop_statement e step body) t x y pc hx hy =
        let n1 = length (statement_code number at t 0 0 0 body) in
        let n2 = length (statement_code number at t 0 0 0 step) in
        let n3 = length (expression_code number at.here t 0 e) in
        let over = pc + 1 + n1 in
        let again = over + n2 in
        let out = again + n3 + 1 in
        let ca = statement_code number at t out over (pc + 1) body in
        let py = pc + 1 + length ca in
        let cb = statement_code number at t out again py step in
        let pt = py + length cb in
        let ce = expression_code number at.here t pt e in
        let ey : over ≡ py = omega (arith, statement_length number at body t out over (pc + 1) 0 0 0) in
        let ez : again ≡ pt = omega (arith, ey, statement_length number at step t out again py 0 0 0) in
        let jump : pc < pt = omega arith in (
          jump,
          both_on (pc + 1) ca (cb ++ (ce ++ Branch (stands_at at.here e t) true (pc + 1) ∷ [])) (statement_on at body t out over (pc + 1)
              (omega (arith, ey)) (omega (arith, ey)))
              (both_on py cb (ce ++ Branch (stands_at at.here e t) true (pc + 1) ∷ []) (statement_on at step t out again py (omega (arith, ez))
              (omega (arith, ez)))
              (both_on pt ce (Branch (stands_at at.here e t) true (pc + 1) ∷ []) (expression_on at.here e t pt) (tt, tt))),
        )
    statement_on at (do_statement body e) t x y pc hx hy =
        let n1 = length (statement_code number at t 0 0 0 body) in
        let n3 = length (expression_code number at.here t 0 e) in
        let again = pc + n1 in
        let out = again + n3 + 1 in
        let ca = statement_code number at t out again pc body in
        let pt = pc + length ca in
        let ce = expression_code number at.here t pt e in
        let ez : again ≡ pt = omega (arith, statement_length number at body t out again pc 0 0 0) in
        both_on pc ca (ce ++ Branch (stands_at at.here e t) true pc ∷ []) (statement_on at body t out again pc (omega (arith, ez)) (omega (arith, ez)))
        (both_on pt ce (Branch (stands_at at.here e t) true pc ∷ []) (expression_on at.here e t pt) (tt, tt))
    statement_on at break_statement t x y pc hx hy = let h : pc < x = omega (arith, hx) in (h, tt)
    statement_on at continue_statement t x y pc hx hy = let h : pc < y = omega (arith, hy) in (h, tt)
    statement_on at (return_statement None) t x y pc hx hy = (tt, tt)
    statement_on at (return_statement (Some e)) t x y pc hx hy =
        both_on pc _ _ (expression_on at.here e t pc) (behind_on at.secret_result (gives_private at.here e) _ _ _ Return (λ r q. tt))
    statement_on at (assert_statement line e) t x y pc hx hy = both_on pc _ _ (expression_on at.here e t pc) (tt, tt)
    statement_on at (store_statement k e) t x y pc hx hy =
        both_on pc _ _ (expression_on at.here e t pc) (behind_on (slot_is_private at.here k) (gives_private at.here e) _ _ _ (Store k) (λ r q. tt))
    statement_on at (default_statement k) t x y pc hx hy = behind_on (slot_is_private at.here k) false _
        (length at.here.slots + shape_number (slot_shape at.here k)) pc (Store k) (λ r q. tt)
    statement_on at (fill_statement line k n e) t x y pc hx hy =
        both_on pc _ _ (expression_on at.here n t pc) (both_on _ _ _ (expression_on at.here e (next_row t) _)
        (behind_on (slot_is_private at.here k) (gives_private at.here e) _ _ _ (Fill line k (stands_at at.here n t)) (λ r q. tt)))
    statement_on at (input_statement line k text) t x y pc hx hy = (tt, (tt, tt))
    statement_on at (element_statement line k i e) t x y pc hx hy =
        both_on pc _ _ (expression_on at.here i t pc) (both_on _ _ _ (expression_on at.here e (next_row t) _)
        (behind_on (slot_is_private at.here k) (gives_private at.here e) _ _ _ (Put line k (stands_at at.here i t)) (λ r q. tt)))
    statement_on at (publish_statement text e) t x y pc hx hy = both_on pc _ _ (expression_on at.here e t pc) (tt, tt)
    statement_on at (evaluate_statement e) t x y pc hx hy = unread_on at.here e t pc

    statements_on : (at : StatementContext) (cs : TypedStatementTrees) (t x y pc : ℕ) → pc + length (statements_code number at t x y pc cs) ≤ x → pc + length
        (statements_code number at t x y pc cs) ≤ y → GoOn pc (statements_code number at t x y pc cs)
    statements_on at Statements'.none t x y pc hx hy = tt
    statements_on at (Statements'.also c cs) t x y pc hx hy =
        let a = statement_code number at t x y pc c in
        let b = statements_code number at t x y (pc + length a) cs in
        let n = length-append a b in
        both_on pc a b (statement_on at c t x y pc (omega (arith, n, hx)) (omega (arith, n, hy)))
        (statements_on at cs t x y (pc + length a)
        (omega (arith, n, hx)) (omega (arith, n, hy)))

-- ---- FUNCTIONS

jump_at : (code : List Step) (base pc target : ℕ) → GoOn base code → slice_get code pc ≡ Some (Jump target) → base + pc < target
jump_at [] base pc target h e = absurd (none-some _ e)
jump_at (i ∷ is) base zero target h e =
    let k : base < target = subst (GoesOn base) (same_Some _ _ e) h.0 in
    omega (arith, k)
jump_at (i ∷ is) base (suc pc) target h e =
    let r : base + 1 + pc < target = jump_at is (base + 1) pc target h.1 e in
    omega (arith, r)

last_on : (g : Returned) (r pc : ℕ) → GoesOn pc (last_step g r)
last_on given.Nothing r pc = tt
last_on (given.Value s) r pc = tt

nothing_forward : IsForward []
nothing_forward pc target e = absurd (none-some _ e)

function_forward : (number : Numbers) (fs : List TypedFunctionTree) (f : TypedFunctionTree) (b : List BoundDomain) → IsForward
    (function_code number fs f b).steps
function_forward number fs f b pc target e =
    let pl = place_in fs f b in
    let t = first_free f.slots in
    let finish = body_end number fs f b in
    let cs = statements_code number pl t finish finish 0 f.body in
    let last = last_step f.given (t + 12 * statements_depth f.body) in
    let e0 : finish ≡ 0 + length cs = omega (arith, statements_length number pl f.body t finish finish 0 0 0 0) in
    let r : 0 + pc < target = jump_at (cs ++ last ∷ []) 0 pc target
    (both_on 0 cs (last ∷ []) (statements_on number pl f.body t finish finish 0 (omega (arith, e0)) (omega (arith, e0)))
    (last_on f.given (t + 12 * statements_depth f.body) _, tt)) e in
    omega (arith, r)

instance_forward : (fs : List TypedFunctionTree) (number : Numbers) (i : Instance) → IsForward (instance_code fs number i).steps
instance_forward fs number i = go (slice_get fs i.function)
  where
    go : (o : Option TypedFunctionTree) → IsForward (code_of_found number fs i.binding o).steps
    go None = nothing_forward
    go (Some f) = function_forward number fs f i.binding

pub all_forward : (p : TypedProgramTree) (is : List Instance) → AreForward (code_of p is)
all_forward p is = go is
  where
    go : (js : List Instance) (g : ℕ) (f : Function) → slice_get (map (instance_code p.functions (numbers_in is)) js) g ≡ Some f → IsForward f.steps
    go [] g f e = absurd (none-some _ e)
    go (j ∷ js) zero f e = subst (λ z. IsForward z.steps) (same_Some _ _ e) (instance_forward p.functions (numbers_in is) j)
    go (j ∷ js) (suc g) f e = go js g f e
