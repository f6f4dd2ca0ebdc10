-- Neither the place of a piece of code nor where its breaks and continues lead changes how long it is.
use Rattle.std.proofs.Common.{◌≡◌, ℕ, ◌+◌, List, [], ◌∷◌, ◌++◌, length, Some, None, Bool, true, false, refl, arith, length-append}
use Rattle.std.specs.Prelude.{slice_get}
use Rattle.program_trees.specs.declared.kinds.Slot.{Slot}
use Rattle.program_trees.specs.declared.operators.BinaryOperator.{BinaryOperator}
use Rattle.program_trees.specs.declared.operators.BinaryOperator.TheVariants as binary
use Rattle.program_trees.specs.declared.operators.Operands.{Operands}
use Rattle.program_trees.specs.declared.operators.Operands.TheVariants.{Scalars}
use Rattle.program_trees.specs.declared.operators.Connective.{Connective}
use Rattle.program_trees.specs.declared.expression.DataType.TheVariants as datatype
use Rattle.program_trees.specs.TypedTree.{TypedTree, TypedTrees, word_node, truth_node, zero_node, slot_node, call_node, size_node, cat_node, sum_node, bits_node, lookup_node, element_node}
use Rattle.program_trees.specs.TypedTree.{not_node, cast_node, binary_node, cut_node, declassify_node}
use Rattle.program_trees.specs.TypedTree as Tree'
use Rattle.program_trees.specs.TypedStatements.{TypedStatementTree, TypedStatementTrees, empty_statement, block_statement, if_statement, loop_statement, do_statement}
use Rattle.program_trees.specs.TypedStatements.{break_statement, continue_statement, return_statement, assert_statement, store_statement, default_statement}
use Rattle.program_trees.specs.TypedStatements.{fill_statement, input_statement, element_statement, publish_statement, evaluate_statement}
use Rattle.program_trees.specs.TypedStatements as Statements'
use Rattle.reached_instances.specs.declared.instance.BoundDomain.{BoundDomain}
use Rattle.reached_instances.specs.Domains.{Setting, domains}
use Rattle.blind_evaluation.specs.Words.{truth_word}
use Rattle.blind_evaluation.specs.Evaluation.{StatementContext, gives_private, slots_of, bound_at, next_is_private, behind_next, connective, either}
use Rattle.verified_code.specs.Steps.{Step, Literal, Move, Branch, Jump}
use Rattle.code_model.specs.Expressions.{Numbers, classifying, lacks, mixes, binary_code, cat_code, lookup_code, element_code, deciding, settling, cut_code}
use Rattle.code_model.specs.Expressions.{classified_at, stands_at, next_row, expression_code, arguments_code, unread_code}
use Rattle.code_model.specs.Statements.{statement_code, statements_code}

append_same : (a a' b b' : List Step) → length a ≡ length a' → length b ≡ length b' → length (a ++ b) ≡ length (a' ++ b')
append_same a a' b b' e f = omega (arith, e, f, length-append a b, length-append a' b')

-- codes of one length at each place
abbrev SameLengths : (ℕ → List Step) → Type 0
SameLengths b = (q q' : ℕ) → length (b q) ≡ length (b q')

binary_length : (d m n v u pc pc' line : ℕ) (op : BinaryOperator) (ds : Operands) (ga gb : Bool) (a a' : List Step) (b : ℕ → List Step) → length a ≡ length a'
    → SameLengths b
    → length (binary_code d m n v u pc line op ds ga gb a b) ≡ length (binary_code d m n v u pc' line op ds ga gb a' b)
binary_length d m n v u pc pc' line op ds ga gb a a' b e f =
    let l = mixes op ga gb in
    let r = mixes op gb ga in
    append_same a a' _ _ e (append_same (b (pc + length a)) (b (pc' + length a')) _ _ (f (pc + length a) (pc' + length a')) refl)

cat_length : (d m n v u pc pc' line : ℕ) (l r : Bool) (a a' : List Step) (b : ℕ → List Step) → length a ≡ length a' → SameLengths b → length
    (cat_code d m n v u pc line l r a b) ≡ length (cat_code d m n v u pc' line l r a' b)
cat_length d m n v u pc pc' line l r a a' b e f =
    let cl = classifying l m v in
    append_same a a' _ _ e (append_same cl cl _ _ refl (append_same (b (pc + length a + length cl)) (b (pc' + length a' + length cl)) _ _
    (f (pc + length a + length cl) (pc' + length a' + length cl)) refl))

lookup_length : (d m n v u pc pc' line : ℕ) (l r : Bool) (a a' : List Step) (b : ℕ → List Step) → length a ≡ length a' → SameLengths b
    → length (lookup_code d m n v u pc line l r a b) ≡ length (lookup_code d m n v u pc' line l r a' b)
lookup_length d m n v u pc pc' line l r a a' b e f =
    append_same a a' _ _ e (append_same (b (pc + length a)) (b (pc' + length a')) _ _ (f (pc + length a) (pc' + length a')) refl)

element_length : (t v u pc pc' line : ℕ) (a a' : List Step) (b : ℕ → List Step) → length a ≡ length a' → SameLengths b → length (element_code t v u pc line a b)
    ≡ length (element_code t v u pc' line a' b)
element_length t v u pc pc' line a a' b e f = append_same a a' _ _ e (append_same (b (pc + length a)) (b (pc' + length a')) _ _
    (f (pc + length a) (pc' + length a')) refl)

cut_length : (d q v u pc pc' : ℕ) (c : Connective) (secret : Bool) (a a' : List Step) (b : ℕ → List Step) → length a ≡ length a' → SameLengths b → length
    (cut_code d q v u pc c secret a b) ≡ length (cut_code d q v u pc' c secret a' b)
cut_length d q v u pc pc' c secret a a' b e f =
    let pb = pc + length a + 1 in
    let pd = pb + length (b pb) + 2 in
    let last = Move d u ∷ Jump (pd + 2) ∷ Literal q datatype.Bool (truth_word (deciding c)) ∷ settling secret d q ∷ [] in
    let pb' = pc' + length a' + 1 in
    let pd' = pb' + length (b pb') + 2 in
    let last' = Move d u ∷ Jump (pd' + 2) ∷ Literal q datatype.Bool (truth_word (deciding c)) ∷ settling secret d q ∷ [] in
    omega (
      arith,
      e,
      f pb pb',
      length-append a (Branch v (deciding c) pd ∷ (b pb ++ last)),
      length-append (b pb) last,
      length-append a'
          (Branch v (deciding c) pd' ∷ (b pb' ++ last')),
      length-append (b pb') last',
    )

either_length : (g : Bool) (a a' b b' : List Step) → length a ≡ length a' → length b ≡ length b' → length (either g a b) ≡ length (either g a' b')
either_length true a a' b b' e f = e
either_length false a a' b b' e f = f

module _ (number : Numbers) where
  mutual
    pub expression_length : (here : Setting) (e : TypedTree) (t pc pc' : ℕ) → length (expression_code number here t pc e) ≡ length
        (expression_code number here t pc' e)
    expression_length here (word_node n) t pc pc' = refl
    expression_length here (truth_node b) t pc pc' = refl
    expression_length here zero_node t pc pc' = refl
    expression_length here (slot_node k) t pc pc' = refl
    expression_length here (call_node line k es) t pc pc' =
        append_same _ _ _ _ (arguments_length here (bound_at (slice_get here.functions k) (domains here es)) (slots_of (slice_get here.functions k)) es
        t pc pc') refl
    expression_length here (size_node e) t pc pc' = append_same _ _ _ _ (expression_length here e t pc pc') refl
    expression_length here (cat_node line a b) t pc pc' =
        cat_length _ _ _ _ _ pc pc' line (lacks (gives_private here (cat_node line a b)) (gives_private here a))
        (lacks (gives_private here (cat_node line a b)) (gives_private here b)) _ _ _ (expression_length here a t pc pc')
        (λ q q'. expression_length here b (next_row t) q q')
    expression_length here (sum_node e) t pc pc' = append_same _ _ _ _ (expression_length here e t pc pc') refl
    expression_length here (bits_node line e) t pc pc' = append_same _ _ _ _ (expression_length here e t pc pc') refl
    expression_length here (lookup_node line a i) t pc pc' =
        lookup_length _ _ _ _ _ pc pc' line (lacks true (gives_private here a)) (lacks true (gives_private here i)) _ _ _
        (expression_length here a t pc pc') (λ q q'. expression_length here i (next_row t) q q')
    expression_length here (element_node line a i) t pc pc' =
        element_length _ _ _ pc pc' line _ _ _ (expression_length here a t pc pc')
        (λ q q'. expression_length here i (next_row t) q q')
    expression_length here (not_node e) t pc pc' = append_same _ _ _ _ (expression_length here e t pc pc') refl
    expression_length here (cast_node c e) t pc pc' = append_same _ _ _ _ (expression_length here e t pc pc') refl
    expression_length here (binary_node line op ds a b) t pc pc' =
        binary_length _ _ _ _ _ pc pc' line op ds (gives_private here a) (gives_private here b) _ _ _ (expression_length here a t pc pc')
        (λ q q'. expression_length here b (next_row t) q q')
    expression_length here (cut_node c a b) t pc pc' =
        either_length (gives_private here a) _ _ _ _
        (binary_length _ _ _ _ _ pc pc' 0 (binary.Bools (connective c)) Scalars (gives_private here a) (gives_private here b) _ _ _
        (expression_length here a t pc pc')
        (λ q q'. expression_length here b (next_row t) q q'))
        (cut_length _ _ _ _ pc pc' c (gives_private here b) _ _ _ (expression_length here a t pc pc')
        (λ q q'. expression_length here b (next_row t) q q'))
    expression_length here (declassify_node e) t pc pc' = append_same _ _ _ _ (expression_length here e t pc pc') refl

    arguments_length : (here : Setting) (b : List BoundDomain) (ss : List Slot) (es : TypedTrees) (t pc pc' : ℕ) → length
        (arguments_code number here b ss t pc es) ≡ length (arguments_code number here b ss t pc' es)
    arguments_length here b ss Tree'.none t pc pc' = refl
    arguments_length here b ss (Tree'.also e es) t pc pc' =
        let cl = classifying (lacks (next_is_private b ss) (gives_private here e)) (classified_at here e t) (stands_at here e t) in
        append_same _ _ _ _ (expression_length here e t pc pc')
        (append_same cl cl _ _ refl (arguments_length here b (behind_next ss) es (next_row t) (pc + length (expression_code number here t pc e) +
        length cl) (pc' + length (expression_code number here t pc' e) + length cl)))

  unread_length : (here : Setting) (e : TypedTree) (t pc pc' : ℕ) → length (unread_code number here t pc e) ≡ length (unread_code number here t pc' e)
  unread_length here (call_node line k es) t pc pc' =
      append_same _ _ _ _ (arguments_length here (bound_at (slice_get here.functions k) (domains here es)) (slots_of (slice_get here.functions k)) es t
      pc pc') refl
  unread_length here (word_node n) t pc pc' = expression_length here (word_node n) t pc pc'
  unread_length here (truth_node b) t pc pc' = expression_length here (truth_node b) t pc pc'
  unread_length here zero_node t pc pc' = expression_length here zero_node t pc pc'
  unread_length here (slot_node k) t pc pc' = expression_length here (slot_node k) t pc pc'
  unread_length here (size_node e) t pc pc' = expression_length here (size_node e) t pc pc'
  unread_length here (cat_node line a b) t pc pc' = expression_length here (cat_node line a b) t pc pc'
  unread_length here (sum_node e) t pc pc' = expression_length here (sum_node e) t pc pc'
  unread_length here (bits_node line e) t pc pc' = expression_length here (bits_node line e) t pc pc'
  unread_length here (lookup_node line a i) t pc pc' = expression_length here (lookup_node line a i) t pc pc'
  unread_length here (element_node line a i) t pc pc' = expression_length here (element_node line a i) t pc pc'
  unread_length here (not_node e) t pc pc' = expression_length here (not_node e) t pc pc'
  unread_length here (cast_node c e) t pc pc' = expression_length here (cast_node c e) t pc pc'
  unread_length here (binary_node line op ds a b) t pc pc' = expression_length here (binary_node line op ds a b) t pc pc'
  unread_length here (cut_node c a b) t pc pc' = expression_length here (cut_node c a b) t pc pc'
  unread_length here (declassify_node e) t pc pc' = expression_length here (declassify_node e) t pc pc'

  -- an expression, and steps that hang on no place
  behind_expression : (here : Setting) (e : TypedTree) (t pc pc' : ℕ) (is : List Step) → length (expression_code number here t pc e ++ is) ≡ length
      (expression_code number here t pc' e ++ is)
  behind_expression here e t pc pc' is = append_same _ _ is is (expression_length here e t pc pc') refl

  behind_both : (here : Setting) (a b : TypedTree) (t u pc pc' : ℕ) (is : List Step) → length
      (expression_code number here t pc a ++ (expression_code number here u (pc + length (expression_code number here t pc a)) b ++ is)) ≡ length
      (expression_code number here t pc' a ++ (expression_code number here u (pc' + length (expression_code number here t pc' a)) b ++ is))
  behind_both here a b t u pc pc' is =
      append_same _ _ _ _ (expression_length here a t pc pc') (behind_expression here b u (pc + length (expression_code number here t pc a))
      (pc' + length (expression_code number here t pc' a)) is)

  mutual
    pub statement_length : (at : StatementContext) (c : TypedStatementTree) (t x y pc x' y' pc' : ℕ) → length (statement_code number at t x y pc c) ≡ length
        (statement_code number at t x' y' pc' c)
    statement_length at empty_statement t x y pc x' y' pc' = refl
    statement_length at (block_statement cs) t x y pc x' y' pc' = statements_length at cs t x y pc x' y' pc'
    statement_length at (if_statement e a b) t x y pc x' y' pc' =
        let ce = expression_code number at.here t pc e in
        let pa = pc + length ce + 1 in
        let ca = statement_code number at t x y pa a in
        let pb = pa + length ca + 1 in
        let cb = statement_code number at t x y pb b in
        let ce' = expression_code number at.here t pc' e in
        let pa' = pc' + length ce' + 1 in
        let ca' = statement_code number at t x' y' pa' a in
        let pb' = pa' + length ca' + 1 in
        let cb' = statement_code number at t x' y' pb' b in
        omega (
          arith,
          length-append ce (Branch (stands_at at.here e t) false pb ∷ (ca ++ (Jump (pb + length cb) ∷ cb))),
          length-append ca (Jump (pb + length cb) ∷ cb),
          length-append ce' (Branch (stands_at at.here e t) false pb' ∷ (ca' ++ (Jump (pb' + length cb') ∷ cb'))),
          length-append ca' (Jump (pb' + length cb') ∷ cb'),
          expression_length at.here e t pc pc',
          statement_length at a t x y pa x' y' pa',
          statement_length at b t x y pb x' y' pb',
        )
    statement_length at (loop_statement e step body) t x y pc x' y' pc' =
        let n1 = length (statement_code number at t 0 0 0 body) in
        let n2 = length (statement_code number at t 0 0 0 step) in
        let n3 = length (expression_code number at.here t 0 e) in
        let over = pc + 1 + n1 in
        let again = over + n2 in
        let out = again + n3 + 1 in
        let ca = statement_code number at t out over (pc + 1) body in
        let py = pc + 1 + length ca in
        let cb = statement_code number at t out again py step in
        let pt = py + length cb in
        let ce = expression_code number at.here t pt e in
        let over' = pc' + 1 + n1 in
        let again' = over' + n2 in
        let out' = again' + n3 + 1 in
        let ca' = statement_code number at t out' over' (pc' + 1) body in
        let py' = pc' + 1 + length ca' in
        let cb' = statement_code number at t out' again' py' step in
        let pt' = py' + length cb' in
        let ce' = expression_code number at.here t pt' e in
        omega (
          arith,
          length-append ca (cb ++ (ce ++ Branch (stands_at at.here e t) true (pc + 1) ∷ [])),
          length-append cb (ce ++ Branch (stands_at at.here e t) true (pc + 1) ∷ []),
          length-append ce (Branch (stands_at at.here e t) true (pc + 1) ∷ []),
          length-append ca' (cb' ++ (ce' ++ Branch (stands_at at.here e t) true (pc' + 1) ∷ [])),
          length-append cb' (ce' ++ Branch (stands_at at.here e t) true (pc' + 1) ∷ []),
          length-append ce' (Branch (stands_at at.here e t) true (pc' + 1) ∷ []),
          statement_length at body t out over (pc + 1) out' over' (pc' + 1),
          statement_length at step t out again py out' again' py',
          expression_length at.here e t pt pt',
        )
    statement_length at (do_statement body e) t x y pc x' y' pc' =
        let n1 = length (statement_code number at t 0 0 0 body) in
        let n3 = length (expression_code number at.here t 0 e) in
        let again = pc + n1 in
        let out = again + n3 + 1 in
        let ca = statement_code number at t out again pc body in
        let pt = pc + length ca in
        let ce = expression_code number at.here t pt e in
        let again' = pc' + n1 in
        let out' = again' + n3 + 1 in
        let ca' = statement_code number at t out' again' pc' body in
        let pt' = pc' + length ca' in
        let ce' = expression_code number at.here t pt' e in
        omega (
          arith,
          length-append ca (ce ++ Branch (stands_at at.here e t) true pc ∷ []),
          length-append ce (Branch (stands_at at.here e t) true pc ∷ []),
          length-append ca' (ce' ++ Branch (stands_at at.here e t) true pc' ∷ []),
          length-append ce' (Branch (stands_at at.here e t) true pc' ∷ []),
          statement_length at body t out again pc out' again' pc',
          expression_length at.here e t pt pt',
        )
    statement_length at break_statement t x y pc x' y' pc' = refl
    statement_length at continue_statement t x y pc x' y' pc' = refl
    statement_length at (return_statement None) t x y pc x' y' pc' = refl
    statement_length at (return_statement (Some e)) t x y pc x' y' pc' = behind_expression at.here e t pc pc' _
    statement_length at (assert_statement line e) t x y pc x' y' pc' = behind_expression at.here e t pc pc' _
    statement_length at (store_statement k e) t x y pc x' y' pc' = behind_expression at.here e t pc pc' _
    statement_length at (default_statement k) t x y pc x' y' pc' = refl
    statement_length at (fill_statement line k n e) t x y pc x' y' pc' = behind_both at.here n e t (next_row t) pc pc' _
    statement_length at (input_statement line k text) t x y pc x' y' pc' = refl
    statement_length at (element_statement line k i e) t x y pc x' y' pc' = behind_both at.here i e t (next_row t) pc pc' _
    statement_length at (publish_statement text e) t x y pc x' y' pc' = behind_expression at.here e t pc pc' _
    statement_length at (evaluate_statement e) t x y pc x' y' pc' = unread_length at.here e t pc pc'

    pub statements_length : (at : StatementContext) (cs : TypedStatementTrees) (t x y pc x' y' pc' : ℕ)
        → length (statements_code number at t x y pc cs) ≡ length (statements_code number at t x' y' pc' cs)
    statements_length at Statements'.none t x y pc x' y' pc' = refl
    statements_length at (Statements'.also c cs) t x y pc x' y' pc' =
        append_same _ _ _ _ (statement_length at c t x y pc x' y' pc')
        (statements_length at cs t x y (pc + length (statement_code number at t x y pc c)) x' y'
        (pc' + length (statement_code number at t x' y' pc' c)))
