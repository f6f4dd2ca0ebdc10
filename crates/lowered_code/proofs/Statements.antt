-- All steps of the code of a well-typed statement are right.
use Rattle.std.proofs.Common.{◌≡◌, ℕ, ◌+◌, ◌<◌, List, [], ◌∷◌, ◌++◌, length, Option, Some, None, Bool, true, false, refl, sym, ap, ◌∙◌, subst}
use Rattle.std.proofs.Common.{arith, length-append}
use Rattle.std.specs.Prelude.{slice_get, max}
use Rattle.std.proofs.lemmas.Option.{slice_get_within}
use Rattle.program_trees.specs.declared.expression.DataType.{DataType}
use Rattle.program_trees.specs.declared.expression.DataType.TheVariants.{Uint64}
use Rattle.program_trees.specs.declared.expression.DataType.TheVariants as datatype
use Rattle.program_trees.specs.declared.kinds.Shape.{Shape}
use Rattle.program_trees.specs.declared.kinds.Slot.{Slot}
use Rattle.program_trees.specs.declared.typed_function.Returned.{Returned}
use Rattle.program_trees.specs.declared.typed_function.Returned.TheVariants.{Nothing, Value}
use Rattle.program_trees.specs.TypedTree.{TypedTree}
use Rattle.program_trees.specs.TypedStatements.{TypedStatementTree, TypedStatementTrees, empty_statement, block_statement, if_statement, loop_statement, do_statement}
use Rattle.program_trees.specs.TypedStatements.{break_statement, continue_statement, return_statement, assert_statement, store_statement, default_statement}
use Rattle.program_trees.specs.TypedStatements.{fill_statement, input_statement, element_statement, publish_statement, evaluate_statement}
use Rattle.program_trees.specs.TypedStatements as Statements'
use Rattle.reached_instances.specs.declared.instance.BoundDomain.{BoundDomain}
use Rattle.reached_instances.specs.Domains.{Setting, domain, domain_under, slot_domain, given_domain}
use Rattle.language_model.specs.Evaluation.{StatementContext, is_private, gives_private, slot_is_private, slot_shape, shape_at}
use Rattle.bytecode.specs.declared.kind.Kind.{Kind}
use Rattle.verified_code.specs.Steps.{Step, Function, Store, Fill, Put, Publish, Assert, Branch, Return}
use Rattle.code_model.specs.Fit.{MayStand, IsFit, IsFitStatement, AreFitStatements}
use Rattle.code_model.specs.Kinds.{depth, kind_of, slot_kind, private_kind_in, in_row}
use Rattle.code_model.specs.Kinded.{HasKind, public_scalar}
use Rattle.code_model.specs.Expressions.{Numbers, picked, lacks, classified_at, stands_at, next_row, expression_code}
use Rattle.code_model.specs.Statements.{shape_number, statement_depth, statements_depth, statement_code, statements_code, behind_classifying}
use Rattle.code_model.specs.Programs.{given_kind}
use Rattle.code_model.proofs.Lengths.{expression_length, statement_length}
use Rattle.code_model.proofs.Widths.{depth_some}
use Rattle.code_model.specs.Right.{kind, IsRight}
use Rattle.well_typed.specs.Kinds.{scalar, GoesTo}
use Rattle.well_typed.specs.Expressions.{Gives}
use Rattle.well_typed.specs.Statements.{IsPublicScalar, IsReturned, IsWellTypedStatement, AreWellTypedStatements}
use Rattle.lowered_code.proofs.Standing.{clash, HasRows, row_first, rows_left, rows_right, rows_second, AllRight, both_right, picked_kind}
use Rattle.lowered_code.proofs.Shapes.{shape_is, goes_may}
use Rattle.lowered_code.proofs.Rows.{within_left, within_right, RightAt}
use Rattle.lowered_code.proofs.Expressions.{IsCallee, SlotsStand, DefaultsStand, ExpressionRight, value_read, expression_right, unread_right}
use Rattle.lowered_code.proofs.Control.{if_right, loop_right, do_right, behind_right}

module _ (number : Numbers) (c : List Function) (ks : List Kind) (count : ℕ) (here : Setting) where
  abbrev given_here : Returned → Option Kind
  given_here g = given_kind here.binding g

  -- in a function that gives this back
  abbrev pub at : Returned → StatementContext
  at g = record { here = here; secret_result = is_private (given_domain here.binding g) }

  module _ (Known : ℕ → List BoundDomain → Type 0) (slots : SlotsStand number c ks None count here) (defaults : DefaultsStand number c ks None count here)
      (known : (k : ℕ) (b : List BoundDomain) → Known k b → IsCallee number c ks None count here k b) where
    abbrev Right : Returned → List Step → Type 0
    Right g = AllRight c ks (given_here g) count

    abbrev Ends : Returned → ℕ → List Step → Type 0
    Ends g = RightAt c ks (given_here g) count

    both : (g : Returned) (a b : List Step) → Right g a → Right g b → Right g (a ++ b)
    both g a b h k = both_right c ks (given_here g) count a b h k

    expression : (g : Returned) (e : TypedTree) (s : Shape) → Gives here e (Some s) → IsFit Known here e
        → ExpressionRight number c ks (given_here g) count here Known known slots defaults e
    expression g e s h f = expression_right number c ks (given_here g) count here Known known slots defaults e s h f

    value_of : (g : Returned) (t : ℕ) (e : TypedTree) (s : Shape) → Gives here e (Some s) → HasRows ks t (depth e)
        → HasKind ks (stands_at here e t) (kind_of (gives_private here e) s)
    value_of g t e s h stands = value_read number c ks (given_here g) count here Known known slots defaults t e s h stands

    -- ---- CONDITIONS AND SLOTS

    public_at : (g : Returned) (t : ℕ) (e : TypedTree) (x : DataType) → IsPublicScalar here x e → HasRows ks t (depth e)
        → HasKind ks (stands_at here e t) (public_scalar x)
    public_at g t e x h stands =
        subst (λ d. HasKind ks (stands_at here e t) (kind_of (is_private d) (scalar x))) h.1 (value_of g t e _ h.0 stands)

    slot_at : (k : ℕ) (s : Slot) → slice_get here.slots k ≡ Some s → HasKind ks k (kind_of (slot_is_private here k) (slot_shape here k))
    slot_at k s there = slots k s there ∙ ap (λ o. Some (kind_of (is_private (slot_domain here.binding o)) (shape_at o))) (sym there)

    slot_of : (k : ℕ) (s : Slot) → slice_get here.slots k ≡ Some s → HasKind ks k (kind_of (slot_is_private here k) s.shape)
    slot_of k s there = slot_at k s there ∙ ap (λ o. Some (kind_of (slot_is_private here k) (shape_at o))) there

    array_of : (k : ℕ) (s : Slot) → slice_get here.slots k ≡ Some s → s.shape.array ≡ true → HasKind ks k
        (kind (slot_is_private here k) s.shape.element true)
    array_of k s there a = slot_of k s there ∙ ap (λ b. Some (kind (slot_is_private here k) s.shape.element b)) a

    slot_may : (k : ℕ) (s : Slot) (e : TypedTree) → slice_get here.slots k ≡ Some s → GoesTo (domain here e) (domain_under here.binding s.domain)
        → MayStand (gives_private here e) (slot_is_private here k)
    slot_may k s e there h =
        subst (λ o. MayStand (gives_private here e) (is_private (slot_domain here.binding o))) (sym there)
        (goes_may (domain here e) (domain_under here.binding s.domain) h)

    private_at : (t : ℕ) (e : TypedTree) (s : Shape) → Gives here e (Some s) → HasKind ks t (private_kind_in here e) → HasKind ks t (kind_of true s)
    private_at t e s h k = subst (λ z. HasKind ks t (kind_of true z)) (shape_is here e s h) k

    -- ---- VALUES THAT ARE STORED OR GIVEN BACK

    -- one operand, the classification of its value, and the step that reads it
    stored : (g : Returned) (t pc : ℕ) (w : Bool) (e : TypedTree) (s : Shape) (last : ℕ → Step) → Gives here e (Some s) → IsFit Known here e
        → MayStand (gives_private here e) w → HasRows ks t (depth e)
        → ((r : ℕ) → HasKind ks r (kind_of w s) → IsRight c ks (given_here g) count (last r))
        → Ends g pc (expression_code number here t pc e ++ behind_classifying w (gives_private here e) (classified_at here e t) (stands_at here e t) last)
    stored g t pc w e s last h f m stands i l =
        let ce = expression_code number here t pc e in
        let u = stands_at here e t in
        let q = classified_at here e t in
        let v = value_of g t e s h stands in
        let p = private_at q e s h (row_first (private_kind_in here e) (depth_some e) stands) in
        both g ce _ (expression g e s h f t pc stands (within_left count pc ce (behind_classifying w (gives_private here e) q u last) l))
        (behind_right c ks (given_here g) count w (gives_private here e) s q u last v p
        (i (picked (lacks w (gives_private here e)) q u) (picked_kind c ks (given_here g) count w (gives_private here e) s q u m v p)))

    -- a size or an index before it
    indexed : (g : Returned) (t pc : ℕ) (w : Bool) (n e : TypedTree) (s : Shape) (last : ℕ → ℕ → Step) → IsPublicScalar here Uint64 n → IsFit Known here n
        → Gives here e (Some s) → IsFit Known here e → MayStand (gives_private here e) w
        → HasRows ks t (max (depth n) (1 + depth e))
        → ((j r : ℕ) → HasKind ks j (public_scalar Uint64) → HasKind ks r (kind_of w s) → IsRight c ks (given_here g) count (last j r))
        → Ends g pc (expression_code number here t pc n
        ++ (expression_code number here (next_row t) (pc + length (expression_code number here t pc n)) e
        ++ behind_classifying w (gives_private here e) (classified_at here e (next_row t)) (stands_at here e (next_row t)) (last (stands_at here n t))))
    indexed g t pc w n e s last hn fn h f m stands i l =
        let u0 = next_row t in
        let j = stands_at here n t in
        let u = stands_at here e u0 in
        let x = classified_at here e u0 in
        let first = rows_left (depth n) (1 + depth e) stands in
        let own = rows_second (depth n) (depth e) stands in
        let cn = expression_code number here t pc n in
        let q = pc + length cn in
        let ce = expression_code number here u0 q e in
        let end = behind_classifying w (gives_private here e) x u (last j) in
        let v = value_of g u0 e s h own in
        let p = private_at x e s h (row_first (private_kind_in here e) (depth_some e) own) in
        both g cn _ (expression g n _ hn.0 fn t pc first (within_left count pc cn (ce ++ end) l))
        (both g ce end (expression g e s h f u0 q own (within_left count q ce end (within_right count pc q cn (ce ++ end) refl l)))
        (behind_right c ks (given_here g) count w (gives_private here e) s x u (last j) v p
        (i j (picked (lacks w (gives_private here e)) x u) (public_at g t n Uint64 hn first) (picked_kind c ks (given_here g) count w
        (gives_private here e) s x u m v p))))

    returned : (g : Returned) (o : Option TypedTree) (inside : Bool) → IsReturned here g o → IsFitStatement Known (at g) inside (return_statement o)
        → (t x y pc : ℕ)
        → HasRows ks t (statement_depth (return_statement o)) → Ends g pc (statement_code number (at g) t x y pc (return_statement o))
    returned Nothing None inside h f t x y pc stands l = (refl, tt)
    returned Nothing (Some e) inside h f t x y pc stands l = absurd h
    returned (Value s) None inside h f t x y pc stands l = absurd h
    returned (Value s) (Some e) inside h f t x y pc stands l =
        stored (Value s) t pc (is_private (domain_under here.binding s.domain)) e s.shape Return h.0 f.0
        (goes_may (domain here e) (domain_under here.binding s.domain) h.1) stands (λ r k. (slot_kind here.binding s, refl, k)) l

    -- ---- STATEMENTS

    behind_one : (g : Returned) (e : TypedTree) (s : Shape) (i : Step) → Gives here e (Some s) → IsFit Known here e → (t pc : ℕ)
        → HasRows ks t (depth e) → IsRight c ks (given_here g) count i → Ends g pc (expression_code number here t pc e ++ i ∷ [])
    behind_one g e s i h f t pc stands k l =
        let ce = expression_code number here t pc e in
        both g ce (i ∷ []) (expression g e s h f t pc stands (within_left count pc ce (i ∷ []) l)) (k, tt)

    mutual
      pub statement_right : (g : Returned) (inside : Bool) (x : TypedStatementTree) → IsWellTypedStatement here g inside x
          → IsFitStatement Known (at g) inside x
          → (t out over pc : ℕ) → out < count → over < count → HasRows ks t (statement_depth x) → Ends g pc (statement_code number (at g) t out over pc x)
      statement_right g inside empty_statement h f t out over pc o v stands l = tt
      statement_right g inside (block_statement cs) h f t out over pc o v stands l = statements_right g inside cs h f t out over pc o v stands l
      statement_right g inside (if_statement e a b) h f t out over pc o v stands l =
          let na = statement_depth a in
          let nb = statement_depth b in
          let se = rows_left (depth e) (max na nb) stands in
          let rest = rows_right (depth e) (max na nb) stands in
          if_right c ks (given_here g) count pc (stands_at here e t) (expression_code number here t pc e)
          (λ p. statement_code number (at g) t out over p a)
          (λ p. statement_code number (at g) t out over p b) (public_at g t e datatype.Bool h.0 se) (expression g e _ h.0.0 f.0 t pc se)
          (λ p. statement_right g inside a h.1 f.1 t out over p o v (rows_left na nb rest))
          (λ p. statement_right g inside b h.2 f.2 t out over p o v (rows_right na nb rest)) l
      statement_right g inside (loop_statement e step body) h f t out over pc o v stands l =
          let py = pc + 1 + length (statement_code number (at g) t 0 0 0 body) in
          let pt = py + length (statement_code number (at g) t 0 0 0 step) in
          let px = pt + length (expression_code number here t 0 e) + 1 in
          let ns = statement_depth step in
          let nb = statement_depth body in
          let se = rows_left (depth e) (max ns nb) stands in
          let rest = rows_right (depth e) (max ns nb) stands in
          let cb = statement_code number (at g) t px py (pc + 1) body in
          let p2 = pc + 1 + length cb in
          let ct = statement_code number (at g) t px pt p2 step in
          let p3 = p2 + length ct in
          let ce = expression_code number here t p3 e in
          let n1 = length-append cb (ct ++ (ce ++ Branch (stands_at here e t) true (pc + 1) ∷ [])) in
          let n2 = length-append ct (ce ++ Branch (stands_at here e t) true (pc + 1) ∷ []) in
          let n3 = length-append ce (Branch (stands_at here e t) true (pc + 1) ∷ []) in
          let m1 = statement_length number (at g) body t px py (pc + 1) 0 0 0 in
          let m2 = statement_length number (at g) step t px pt p2 0 0 0 in
          let m3 = expression_length number here e t p3 0 in
          let ends : px < count = omega (arith, l, n1, n2, n3, m1, m2, m3) in
          let tests : pt < count = omega (arith, ends) in
          let steps : py < count = omega (arith, ends) in
          loop_right c ks (given_here g) count pc (stands_at here e t) (λ p. expression_code number here t p e)
          (λ p. statement_code number (at g) t px py p body)
          (λ p. statement_code number (at g) t px pt p step) (public_at g t e datatype.Bool h.0 se) (λ p. expression g e _ h.0.0 f.0 t p se)
          (λ p. statement_right g true body h.2 f.2 t px py p ends steps (rows_right ns nb rest))
          (λ p. statement_right g false step h.1 f.1 t px pt p ends tests (rows_left ns nb rest)) l
      statement_right g inside (do_statement body e) h f t out over pc o v stands l =
          let pt = pc + length (statement_code number (at g) t 0 0 0 body) in
          let px = pt + length (expression_code number here t 0 e) + 1 in
          let se = rows_left (depth e) (statement_depth body) stands in
          let cb = statement_code number (at g) t px pt pc body in
          let p2 = pc + length cb in
          let ce = expression_code number here t p2 e in
          let n1 = length-append cb (ce ++ Branch (stands_at here e t) true pc ∷ []) in
          let n2 = length-append ce (Branch (stands_at here e t) true pc ∷ []) in
          let m1 = statement_length number (at g) body t px pt pc 0 0 0 in
          let m2 = expression_length number here e t p2 0 in
          let tests : pt < count = omega (arith, l, n1, n2, m1, m2) in
          let behind : px ≡ pc + length (cb ++ (ce ++ Branch (stands_at here e t) true pc ∷ [])) = omega (arith, n1, n2, m1, m2) in
          let ends : px < count = omega (arith, behind, l) in
          do_right c ks (given_here g) count pc (stands_at here e t) (λ p. expression_code number here t p e)
          (λ p. statement_code number (at g) t px pt p body)
          (public_at g t e datatype.Bool h.1 se) (λ p. expression g e _ h.1.0 f.1 t p se)
          (λ p. statement_right g true body h.0 f.0 t px pt p ends tests (rows_right (depth e) (statement_depth body) stands)) l
      statement_right g inside break_statement h f t out over pc o v stands l = (o, tt)
      statement_right g inside continue_statement h f t out over pc o v stands l = (v, tt)
      statement_right g inside (return_statement e) h f t out over pc o v stands l = returned g e inside h f t out over pc stands l
      statement_right g inside (assert_statement line e) h f t out over pc o v stands l =
          behind_one g e _ (Assert line (stands_at here e t)) h.0 f t pc stands (public_at g t e datatype.Bool h stands) l
      statement_right g inside (store_statement k e) h f t out over pc o v stands l =
          let s = h.0 in
          stored g t pc (slot_is_private here k) e s.shape (Store k) h.2.0 f.1 (slot_may k s e h.1 h.2.1) stands
          (λ r q. (kind_of (slot_is_private here k) s.shape, q, slot_of k s h.1)) l
      statement_right g inside (default_statement k) h f t out over pc o v stands l =
          let w = slot_is_private here k in
          let s = slot_shape here k in
          let u = length here.slots + shape_number s in
          let inside = slice_get_within here.slots k h.0 h.1 in
          let some : 0 < length here.slots = omega (arith, inside) in
          let d = defaults s some in
          let q = in_row t (kind_of true s) in
          let p = row_first (kind_of true s) (omega arith) stands in
          behind_right c ks (given_here g) count w false s q u (Store k) d p
          (kind_of w s, picked_kind c ks (given_here g) count w false s q u (λ e. absurd (clash e)) d p, slot_at k h.0 h.1)
      statement_right g inside (fill_statement line k n e) h f t out over pc o v stands l =
          let s = h.0 in
          let w = slot_is_private here k in
          indexed g t pc w n e (scalar s.shape.element) (Fill line k) h.2 f.0 h.3.0 f.1.1 (slot_may k s e h.1.0 h.3.1) stands
          (λ i' r i q. (w, s.shape.element, i, q, array_of k s h.1.0 h.1.1)) l
      statement_right g inside (input_statement line k text) h f t out over pc o v stands l =
          let own = kind_of (slot_is_private here k) (slot_shape here k) in
          let there = row_first own (omega arith) stands in
          (there, ((own, there, slot_at k h.0 h.1), tt))
      statement_right g inside (element_statement line k i e) h f t out over pc o v stands l =
          let s = h.0 in
          let w = slot_is_private here k in
          indexed g t pc w i e (scalar s.shape.element) (Put line k) h.2 f.0 h.3.0 f.1.1 (slot_may k s e h.1.0 h.3.1) stands
          (λ i' r j q. (w, s.shape.element, array_of k s h.1.0 h.1.1, j, q)) l
      statement_right g inside (publish_statement text e) h f t out over pc o v stands l =
          behind_one g e h.0 (Publish text (stands_at here e t)) h.1 f t pc stands (kind_of (gives_private here e) h.0, value_of g t e h.0 h.1 stands) l
      statement_right g inside (evaluate_statement e) h f t out over pc o v stands l =
          unread_right number c ks (given_here g) count here Known known slots defaults e h.0 h.1 f t pc stands l

      pub statements_right : (g : Returned) (inside : Bool) (cs : TypedStatementTrees) → AreWellTypedStatements here g inside cs
          → AreFitStatements Known (at g) inside cs
          → (t out over pc : ℕ) → out < count → over < count → HasRows ks t (statements_depth cs)
          → Ends g pc (statements_code number (at g) t out over pc cs)
      statements_right g inside Statements'.none h f t out over pc o v stands l = tt
      statements_right g inside (Statements'.also x cs) h f t out over pc o v stands l =
          let cx = statement_code number (at g) t out over pc x in
          let q = pc + length cx in
          let rest = statements_code number (at g) t out over q cs in
          let nx = statement_depth x in
          let nr = statements_depth cs in
          both g cx rest
          (statement_right g inside x h.0 f.0 t out over pc o v (rows_left nx nr stands) (within_left count pc cx rest l))
          (statements_right g inside cs h.1 f.1 t out over q o v (rows_right nx nr stands)
          (within_right count pc q cx rest refl l))
