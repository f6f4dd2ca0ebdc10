-- The code of a tree says what the tree says: each step's word, line and name is one of the tree's, or a truth value, or no line.
use Rattle.std.proofs.Common.{◌≡◌, ℕ, zero, suc, ◌+◌, ◌*◌, List, [], ◌∷◌, ◌++◌, length, Option, Some, None, Bool, true, false, map, refl, sym, subst, inl, inr}
use Rattle.std.specs.Prelude.{slice_get, IsTrue}
use Rattle.std.proofs.lemmas.Option.{none-some, same_Some}
use Rattle.sc_text.specs.Lists.{Among}
use Rattle.program_trees.specs.declared.expression.DataType.TheVariants.{Uint64}
use Rattle.program_trees.specs.declared.expression.DataType.TheVariants as datatype
use Rattle.program_trees.specs.declared.kinds.Slot.{Slot}
use Rattle.program_trees.specs.declared.operators.BinaryOperator.{BinaryOperator}
use Rattle.program_trees.specs.declared.operators.BinaryOperator.TheVariants as binary
use Rattle.program_trees.specs.declared.operators.Operands.{Operands}
use Rattle.program_trees.specs.declared.operators.Operands.TheVariants.{Scalars}
use Rattle.program_trees.specs.declared.operators.Connective.{Connective}
use Rattle.program_trees.specs.declared.typed_function.Returned.{Returned}
use Rattle.program_trees.specs.declared.typed_function.Returned.TheVariants.{Nothing, Value}
use Rattle.program_trees.specs.TypedTree.{TypedTree, TypedTrees, word_node, truth_node, zero_node, slot_node, call_node, size_node, cat_node, sum_node, bits_node}
use Rattle.program_trees.specs.TypedTree.{lookup_node, element_node, not_node, cast_node, binary_node, cut_node, declassify_node}
use Rattle.program_trees.specs.TypedTree as Tree'
use Rattle.program_trees.specs.TypedStatements.{TypedStatementTree, TypedStatementTrees, empty_statement, block_statement, if_statement, loop_statement, do_statement}
use Rattle.program_trees.specs.TypedStatements.{break_statement, continue_statement, return_statement, assert_statement, store_statement, default_statement}
use Rattle.program_trees.specs.TypedStatements.{fill_statement, input_statement, element_statement, publish_statement, evaluate_statement}
use Rattle.program_trees.specs.TypedStatements as Statements'
use Rattle.program_trees.specs.TypedPrograms.{TypedFunctionTree, TypedProgramTree}
use Rattle.reached_instances.specs.declared.instance.BoundDomain.{BoundDomain}
use Rattle.reached_instances.specs.Domains.{Setting, domains}
use Rattle.reached_instances.specs.Instances.{Instance}
use Rattle.code_model.specs.Words.{truth_word}
use Rattle.code_model.specs.Evaluation.{StatementContext, place_in, gives_private, slot_is_private, slot_shape, bound_at, slots_of}
use Rattle.code_model.specs.Evaluation.{next_is_private, behind_next}
use Rattle.code_model.specs.Evaluation.{connective, either}
use Rattle.verified_code.specs.Steps.{Step, Function, Literal, Move, Store, Binary, Not, Cast, Classify, Fill, At, Put, Size, Cat, Sum, Bits, Lookup}
use Rattle.verified_code.specs.Steps.{Declassify, Argument, Publish, Assert, Branch, Jump, Call, Return, ReturnNone}
use Rattle.code_model.specs.Kinds.{kind_of, truth_kind, in_row}
use Rattle.code_model.specs.Kinded.{IsIn}
use Rattle.code_model.specs.Expressions.{Numbers, result_at, classifying, picked, lacks, mixes, binary_code, cat_code, lookup_code, deciding, settling, cut_code}
use Rattle.code_model.specs.Expressions.{own_at, classified_at, stands_at, next_row, expression_code, arguments_code, arguments_places, unread_code}
use Rattle.code_model.specs.Statements.{shape_number, first_free, statements_depth, if_code, loop_code, do_code, behind_classifying}
use Rattle.code_model.specs.Statements.{statement_code, statements_code}
use Rattle.code_model.specs.Programs.{last_step, body_end, function_code, numbers_in, code_of_found, instance_code, code_of}
use Rattle.written_code.specs.Says.{TreeSays, TreesSay, StatementSays, StatementsSay, InstancesSay, StepSays}
use Rattle.written_code.specs.Laws.{SaysWhatTreesSay}

unmapped : {A B : Type 0} (g : A → B) (xs : List A) (k : ℕ) (y : B) → slice_get (map g xs) k ≡ Some y → (x : A) × (slice_get xs k ≡ Some x) × (g x ≡ y)
unmapped g [] k y e = absurd (none-some _ e)
unmapped g (x ∷ xs) zero y e = (x, refl, same_Some (g x) y e)
unmapped g (x ∷ xs) (suc k) y e = unmapped g xs k y e

among_at : {A : Type 0} (xs : List A) (k : ℕ) (x : A) → slice_get xs k ≡ Some x → Among x xs
among_at [] k x e = absurd (none-some _ e)
among_at (y ∷ ys) zero x e = inl (sym (same_Some y x e))
among_at (y ∷ ys) (suc k) x e = inr (among_at ys k x e)

module _ (is_word is_line : ℕ → Bool) (is_text : List ℕ → Bool) where
  abbrev Says : Step → Type 0
  Says = StepSays is_word is_line is_text

  pub record AllSay (code : List Step) : Type 0 where
    pub each : (k : ℕ) (i : Step) → slice_get code k ≡ Some i → Says i

  abbrev Each : List Step → Type 0
  Each code = (k : ℕ) (i : Step) → slice_get code k ≡ Some i → Says i

  nothing : AllSay []
  nothing = record { each = λ k i e. absurd (none-some _ e) }

  same_step : (a b : Step) → ◌≡◌ {A = Option Step} (Some a) (Some b) → Says a → Says b
  same_step a b e h = let same : a ≡ b = cc in subst Says same h

  begins : (i : Step) (is : List Step) → Says i → Each is → Each (i ∷ is)
  begins i is h all zero j e = same_step i j e h
  begins i is h all (suc k) j e = all k j e

  then_all : (i : Step) {is : List Step} → Says i → AllSay is → AllSay (i ∷ is)
  then_all i {is = is} h all = record { each = begins i is h all.each }

  one : (i : Step) → Says i → AllSay (i ∷ [])
  one i h = then_all i h nothing

  joined : (a b : List Step) → Each a → Each b → Each (a ++ b)
  joined [] b h k n i e = k n i e
  joined (j ∷ a) b h k zero i e = h zero i e
  joined (j ∷ a) b h k (suc n) i e = joined a b (λ m. h (suc m)) k n i e

  both : {a b : List Step} → AllSay a → AllSay b → AllSay (a ++ b)
  both {a = a} {b = b} h k = record { each = joined a b h.each k.each }

  either_say : (g : Bool) {a b : List Step} → AllSay a → AllSay b → AllSay (either g a b)
  either_say true h k = h
  either_say false h k = k

  classifying_says : (g : Bool) (c r : ℕ) → AllSay (classifying g c r)
  classifying_says true c r = one (Classify c r) tt
  classifying_says false c r = nothing

  settling_says : (g : Bool) (t r : ℕ) → Says (settling g t r)
  settling_says true t r = tt
  settling_says false t r = tt

  behind_says : (wanted given : Bool) (t u : ℕ) (last : ℕ → Step) → ((r : ℕ) → Says (last r)) → AllSay (behind_classifying wanted given t u last)
  behind_says wanted given t u last h =
      both (classifying_says (lacks wanted given) t u)
      (one (last (picked (lacks wanted given) t u)) (h (picked (lacks wanted given) t u)))

  -- ---- EXPRESSIONS

  module _ (zero_word : IsTrue (is_word 0)) (one_word : IsTrue (is_word 1)) (no_line : IsTrue (is_line 0)) where
    truth_says : (b : Bool) → IsTrue (is_word (truth_word b))
    truth_says true = one_word
    truth_says false = zero_word

    binary_says : (d m n v u pc line : ℕ) (op : BinaryOperator) (ds : Operands) (ga gb : Bool) (ca : List Step) (cb : ℕ → List Step)
        → IsTrue (is_line line) → AllSay ca → ((p : ℕ) → AllSay (cb p)) → AllSay (binary_code d m n v u pc line op ds ga gb ca cb)
    binary_says d m n v u pc line op ds ga gb ca cb l a b =
        both a (both (b (pc + length ca)) (both (classifying_says (mixes op ga gb) m v) (both (classifying_says (mixes op gb ga) n u)
        (one (Binary line op ds d (picked (mixes op ga gb) m v) (picked (mixes op gb ga) n u)) l))))

    cat_says : (d m n v u pc line : ℕ) (l r : Bool) (ca : List Step) (cb : ℕ → List Step) → IsTrue (is_line line) → AllSay ca → ((p : ℕ) → AllSay (cb p))
        → AllSay (cat_code d m n v u pc line l r ca cb)
    cat_says d m n v u pc line l r ca cb h a b =
        both a (both (classifying_says l m v) (both (b (pc + length ca + length (classifying l m v)))
        (both (classifying_says r n u) (one (Cat line d (picked l m v) (picked r n u)) h))))

    lookup_says : (d m n v u pc line : ℕ) (l r : Bool) (ca : List Step) (cb : ℕ → List Step) → IsTrue (is_line line) → AllSay ca
        → ((p : ℕ) → AllSay (cb p)) → AllSay (lookup_code d m n v u pc line l r ca cb)
    lookup_says d m n v u pc line l r ca cb h a b =
        both a (both (b (pc + length ca)) (both (classifying_says l m v) (both (classifying_says r n u)
        (one (Lookup line d (picked l m v) (picked r n u)) h))))

    cut_says : (d q v u pc : ℕ) (c : Connective) (secret : Bool) (ca : List Step) (cb : ℕ → List Step) → AllSay ca → ((p : ℕ) → AllSay (cb p))
        → AllSay (cut_code d q v u pc c secret ca cb)
    cut_says d q v u pc c secret ca cb a b =
        let pb = pc + length ca + 1 in
        let pd = pb + length (cb pb) + 2 in
        both a (then_all (Branch v (deciding c) pd) tt (both (b pb) (then_all (Move d u) tt (then_all (Jump (pd + 2)) tt
        (then_all (Literal q datatype.Bool (truth_word (deciding c))) (truth_says (deciding c))
        (one (settling secret d q) (settling_says secret d q)))))))

    module _ (number : Numbers) (here : Setting) where
      abbrev bound_of : ℕ → TypedTrees → List BoundDomain
      bound_of k es = bound_at (slice_get here.functions k) (domains here es)

      abbrev slots_at : ℕ → List Slot
      slots_at k = slots_of (slice_get here.functions k)

      mutual
        pub expression_says : (e : TypedTree) (t pc : ℕ) → TreeSays is_word is_line is_text e → AllSay (expression_code number here t pc e)
        expression_says (word_node n) t pc h = one (Literal (own_at here (word_node n) t) Uint64 n) h
        expression_says (truth_node b) t pc h = one (Literal (own_at here (truth_node b) t) datatype.Bool (truth_word b)) (truth_says b)
        expression_says zero_node t pc h = nothing
        expression_says (slot_node k) t pc h = nothing
        expression_says (call_node line k es) t pc h =
            both (arguments_say (bound_of k es) (slots_at k) es t pc h.1)
            (one (Call line (number k (bound_of k es)) (Some (own_at here (call_node line k es) t)) (arguments_places number here (bound_of k es) (slots_at k) t es))
            h.0)
        expression_says (size_node e) t pc h = both (expression_says e t pc h)
            (one (Size (own_at here (size_node e) t) (stands_at here e t)) tt)
        expression_says (cat_node line a b) t pc h =
            let g = gives_private here (cat_node line a b) in
            let u = next_row t in
            cat_says (own_at here (cat_node line a b) t) (classified_at here a t) (classified_at here b u) (stands_at here a t) (stands_at here b u) pc line
            (lacks g (gives_private here a)) (lacks g (gives_private here b))
            (expression_code number here t pc a) (λ p. expression_code number here u p b) h.0
            (expression_says a t pc h.1) (λ p. expression_says b u p h.2)
        expression_says (sum_node e) t pc h = both (expression_says e t pc h)
            (one (Sum (own_at here (sum_node e) t) (stands_at here e t)) tt)
        expression_says (bits_node line e) t pc h =
            both (expression_says e t pc h.1) (one (Bits line (own_at here (bits_node line e) t) (stands_at here e t)) h.0)
        expression_says (lookup_node line a i) t pc h =
            let u = next_row t in
            lookup_says (own_at here (lookup_node line a i) t) (classified_at here a t) (classified_at here i u) (stands_at here a t) (stands_at here i u) pc
            line (lacks true (gives_private here a)) (lacks true (gives_private here i))
            (expression_code number here t pc a) (λ p. expression_code number here u p i) h.0
            (expression_says a t pc h.1) (λ p. expression_says i u p h.2)
        expression_says (element_node line a i) t pc h =
            let u = next_row t in
            let ca = expression_code number here t pc a in
            both (expression_says a t pc h.1)
            (both (expression_says i u (pc + length ca) h.2)
            (one (At line (own_at here (element_node line a i) t) (stands_at here a t) (stands_at here i u)) h.0))
        expression_says (not_node e) t pc h = both (expression_says e t pc h)
            (one (Not (own_at here (not_node e) t) (stands_at here e t)) tt)
        expression_says (cast_node c e) t pc h =
            both (expression_says e t pc h) (one (Cast c (own_at here (cast_node c e) t) (stands_at here e t)) tt)
        expression_says (binary_node line op ds a b) t pc h =
            let u = next_row t in
            binary_says (own_at here (binary_node line op ds a b) t) (classified_at here a t) (classified_at here b u) (stands_at here a t)
            (stands_at here b u) pc line op ds (gives_private here a) (gives_private here b)
            (expression_code number here t pc a) (λ p. expression_code number here u p b) h.0
            (expression_says a t pc h.1) (λ p. expression_says b u p h.2)
        expression_says (cut_node c a b) t pc h =
            let v = stands_at here a t in
            let u = next_row t in
            let ub = stands_at here b u in
            let d = own_at here (cut_node c a b) t in
            let ca = expression_code number here t pc a in
            let cb = λ (p : ℕ). expression_code number here u p b in
            let sa = expression_says a t pc h.0 in
            let sb = λ (p : ℕ). expression_says b u p h.1 in
            either_say (gives_private here a)
            (binary_says d (classified_at here a t) (classified_at here b u) v ub pc 0 (binary.Bools (connective c)) Scalars (gives_private here a) (gives_private here b) ca cb no_line sa sb)
            (cut_says d (in_row t (truth_kind false)) v ub pc c (gives_private here b) ca cb sa sb)
        expression_says (declassify_node e) t pc h =
            both (expression_says e t pc h) (one (Declassify (own_at here (declassify_node e) t) (stands_at here e t)) tt)

        arguments_say : (b : List BoundDomain) (ss : List Slot) (es : TypedTrees) (t pc : ℕ) → TreesSay is_word is_line is_text es
            → AllSay (arguments_code number here b ss t pc es)
        arguments_say b ss Tree'.none t pc h = nothing
        arguments_say b ss (Tree'.also e es) t pc h =
            let ce = expression_code number here t pc e in
            let w = lacks (next_is_private b ss) (gives_private here e) in
            let r = stands_at here e t in
            let m = classified_at here e t in
            let cl = classifying w m r in
            both (expression_says e t pc h.0) (both (classifying_says w m r)
            (arguments_say b (behind_next ss) es (next_row t) (pc + length ce + length cl) h.1))

      unread_says : (e : TypedTree) (t pc : ℕ) → TreeSays is_word is_line is_text e → AllSay (unread_code number here t pc e)
      unread_says (word_node n) t pc h = expression_says (word_node n) t pc h
      unread_says (truth_node b) t pc h = expression_says (truth_node b) t pc h
      unread_says zero_node t pc h = expression_says zero_node t pc h
      unread_says (slot_node k) t pc h = expression_says (slot_node k) t pc h
      unread_says (call_node line k es) t pc h =
          both (arguments_say (bound_of k es) (slots_at k) es t pc h.1)
          (one (Call line (number k (bound_of k es)) (result_at (slice_get here.functions k) (own_at here (call_node line k es) t))
          (arguments_places number here (bound_of k es) (slots_at k) t es)) h.0)
      unread_says (size_node e) t pc h = expression_says (size_node e) t pc h
      unread_says (cat_node line a b) t pc h = expression_says (cat_node line a b) t pc h
      unread_says (sum_node e) t pc h = expression_says (sum_node e) t pc h
      unread_says (bits_node line e) t pc h = expression_says (bits_node line e) t pc h
      unread_says (lookup_node line a i) t pc h = expression_says (lookup_node line a i) t pc h
      unread_says (element_node line a i) t pc h = expression_says (element_node line a i) t pc h
      unread_says (not_node e) t pc h = expression_says (not_node e) t pc h
      unread_says (cast_node c e) t pc h = expression_says (cast_node c e) t pc h
      unread_says (binary_node line op ds a b) t pc h = expression_says (binary_node line op ds a b) t pc h
      unread_says (cut_node c a b) t pc h = expression_says (cut_node c a b) t pc h
      unread_says (declassify_node e) t pc h = expression_says (declassify_node e) t pc h

    -- ---- STATEMENTS

    module _ (number : Numbers) (at : StatementContext) where
      abbrev code_of_tree : (t pc : ℕ) → TypedTree → List Step
      code_of_tree t pc e = expression_code number at.here t pc e

      tree : (e : TypedTree) (t pc : ℕ) → TreeSays is_word is_line is_text e → AllSay (code_of_tree t pc e)
      tree e t pc h = expression_says number at.here e t pc h

      if_says : (pc t : ℕ) (test : List Step) (a b : ℕ → List Step) → AllSay test → ((p : ℕ) → AllSay (a p)) → ((p : ℕ) → AllSay (b p))
          → AllSay (if_code pc t test a b)
      if_says pc t test a b h ha hb =
          let pa = pc + length test + 1 in
          let pb = pa + length (a pa) + 1 in
          both h (then_all (Branch t false pb) tt (both (ha pa) (then_all (Jump (pb + length (b pb))) tt (hb pb))))

      loop_says : (pc t : ℕ) (test body step : ℕ → List Step) → ((p : ℕ) → AllSay (test p)) → ((p : ℕ) → AllSay (body p)) → ((p : ℕ) → AllSay (step p))
          → AllSay (loop_code pc t test body step)
      loop_says pc t test body step ht hb hs =
          let py = pc + 1 + length (body (pc + 1)) in
          let pt = py + length (step py) in
          then_all (Jump pt) tt (both (hb (pc + 1)) (both (hs py) (both (ht pt) (one (Branch t true (pc + 1)) tt))))

      do_says : (pc t : ℕ) (test body : ℕ → List Step) → ((p : ℕ) → AllSay (test p)) → ((p : ℕ) → AllSay (body p)) → AllSay (do_code pc t test body)
      do_says pc t test body ht hb =
          let pt = pc + length (body pc) in
          both (hb pc) (both (ht pt) (one (Branch t true pc) tt))

      mutual
        statement_says : (c : TypedStatementTree) (t x y pc : ℕ) → StatementSays is_word is_line is_text c → AllSay (statement_code number at t x y pc c)
        statement_says empty_statement t x y pc h = nothing
        statement_says (block_statement cs) t x y pc h = statements_say cs t x y pc h
        statement_says (if_statement e a b) t x y pc h =
            if_says pc (stands_at at.here e t) (code_of_tree t pc e) (λ p. statement_code number at t x y p a)
            (λ p. statement_code number at t x y p b)
            (tree e t pc h.0) (λ p. statement_says a t x y p h.1) (λ p. statement_says b t x y p h.2)
        statement_says (loop_statement e step body) t x y pc h =
            let py = pc + 1 + length (statement_code number at t 0 0 0 body) in
            let pt = py + length (statement_code number at t 0 0 0 step) in
            let px = pt + length (code_of_tree t 0 e) + 1 in
            loop_says pc (stands_at at.here e t) (λ p. code_of_tree t p e) (λ p. statement_code number at t px py p body)
            (λ p. statement_code number at t px pt p step)
            (λ p. tree e t p h.0) (λ p. statement_says body t px py p h.2) (λ p. statement_says step t px pt p h.1)
        statement_says (do_statement body e) t x y pc h =
            let pt = pc + length (statement_code number at t 0 0 0 body) in
            let px = pt + length (code_of_tree t 0 e) + 1 in
            do_says pc (stands_at at.here e t) (λ p. code_of_tree t p e) (λ p. statement_code number at t px pt p body) (λ p. tree e t p h.1)
            (λ p. statement_says body t px pt p h.0)
        statement_says break_statement t x y pc h = one (Jump x) tt
        statement_says continue_statement t x y pc h = one (Jump y) tt
        statement_says (return_statement None) t x y pc h = one ReturnNone tt
        statement_says (return_statement (Some e)) t x y pc h =
            both (tree e t pc h) (behind_says at.secret_result (gives_private at.here e) (classified_at at.here e t) (stands_at at.here e t) Return (λ r. tt))
        statement_says (assert_statement line e) t x y pc h = both (tree e t pc h.1) (one (Assert line (stands_at at.here e t)) h.0)
        statement_says (store_statement k e) t x y pc h =
            both (tree e t pc h)
            (behind_says (slot_is_private at.here k) (gives_private at.here e) (classified_at at.here e t) (stands_at at.here e t) (Store k) (λ r. tt))
        statement_says (default_statement k) t x y pc h =
            behind_says (slot_is_private at.here k) false (in_row t (kind_of true (slot_shape at.here k))) (length at.here.slots + shape_number (slot_shape at.here k)) (Store k) (λ r. tt)
        statement_says (fill_statement line k n e) t x y pc h =
            let u = next_row t in
            let cn = code_of_tree t pc n in
            both (tree n t pc h.1) (both (tree e u (pc + length cn) h.2)
            (behind_says (slot_is_private at.here k) (gives_private at.here e) (classified_at at.here e u) (stands_at at.here e u) (Fill line k (stands_at at.here n t))
            (λ r. h.0)))
        statement_says (input_statement line k text) t x y pc h =
            let kind = kind_of (slot_is_private at.here k) (slot_shape at.here k) in
            then_all (Argument line kind text (in_row t kind)) h (one (Store k (in_row t kind)) tt)
        statement_says (element_statement line k i e) t x y pc h =
            let u = next_row t in
            let ci = code_of_tree t pc i in
            both (tree i t pc h.1) (both (tree e u (pc + length ci) h.2)
            (behind_says (slot_is_private at.here k) (gives_private at.here e) (classified_at at.here e u) (stands_at at.here e u) (Put line k (stands_at at.here i t))
            (λ r. h.0)))
        statement_says (publish_statement text e) t x y pc h = both (tree e t pc h.1) (one (Publish text (stands_at at.here e t)) h.0)
        statement_says (evaluate_statement e) t x y pc h = unread_says number at.here e t pc h

        pub statements_say : (cs : TypedStatementTrees) (t x y pc : ℕ) → StatementsSay is_word is_line is_text cs
            → AllSay (statements_code number at t x y pc cs)
        statements_say Statements'.none t x y pc h = nothing
        statements_say (Statements'.also c cs) t x y pc h =
            let code = statement_code number at t x y pc c in
            both (statement_says c t x y pc h.0) (statements_say cs t x y (pc + length code) h.1)

    -- ---- FUNCTIONS

    last_says : (g : Returned) (r : ℕ) → Says (last_step g r)
    last_says Nothing r = tt
    last_says (Value s) r = tt

    pub function_says : (number : Numbers) (fs : List TypedFunctionTree) (f : TypedFunctionTree) (b : List BoundDomain)
        → StatementsSay is_word is_line is_text f.body → AllSay (function_code number fs f b).steps
    function_says number fs f b h =
        let end = body_end number fs f b in
        let r = first_free f.slots + 12 * statements_depth f.body in
        both (statements_say number (place_in fs f b) f.body (first_free f.slots) end end 0 h) (one (last_step f.given r) (last_says f.given r))

    -- ---- PROGRAMS

    module _ (p : TypedProgramTree) (is : List Instance) (say : InstancesSay is_word is_line is_text p is) where
      instance_says : (i : Instance) → Among i is → (o : Option TypedFunctionTree) → slice_get p.functions i.function ≡ o
          → AllSay (code_of_found (numbers_in is) p.functions i.binding o).steps
      instance_says i m None e = nothing
      instance_says i m (Some f) e = function_says (numbers_in is) p.functions f i.binding (say i m f e)

      pub program_says : (f : Function) → IsIn (code_of p is) f → AllSay f.steps
      program_says f there =
          let x = unmapped (instance_code p.functions (numbers_in is)) is there.0 f there.1 in
          subst (λ (z : Function). AllSay z.steps) x.2 (instance_says x.0 (among_at is there.0 x.0 x.1) (slice_get p.functions x.0.function) refl)

pub says_what_trees_say : (is_word is_line : ℕ → Bool) (is_text : List ℕ → Bool) (p : TypedProgramTree) (is : List Instance)
    → SaysWhatTreesSay is_word is_line is_text p is
says_what_trees_say is_word is_line is_text p is zero_word one_word no_line say f there place i e =
    (program_says is_word is_line is_text zero_word one_word no_line p is say f there).each place i e
