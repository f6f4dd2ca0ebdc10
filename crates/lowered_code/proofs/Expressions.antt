-- All steps of the code of a well-typed expression are right.
use Rattle.std.proofs.Common.{◌≡◌, ℕ, zero, suc, ◌+◌, ◌<◌, ◌≤◌, List, [], ◌∷◌, ◌++◌, length, take, map}
use Rattle.std.proofs.Common.{Option, Some, Bool, true, false, refl, sym, ap, ◌∙◌, subst}
use Rattle.std.specs.Prelude.{slice_get, max}
use Rattle.program_trees.specs.declared.expression.DataType.TheVariants.{Uint64, Int64}
use Rattle.program_trees.specs.declared.expression.DataType.TheVariants as datatype
use Rattle.program_trees.specs.declared.kinds.Shape.{Shape}
use Rattle.program_trees.specs.declared.kinds.Slot.{Slot}
use Rattle.program_trees.specs.declared.operators.BinaryOperator.{BinaryOperator}
use Rattle.program_trees.specs.declared.operators.BinaryOperator.TheVariants as binary
use Rattle.program_trees.specs.declared.operators.Operands.{Operands}
use Rattle.program_trees.specs.declared.operators.Operands.TheVariants.{Scalars}
use Rattle.program_trees.specs.declared.operators.Connective.{Connective}
use Rattle.program_trees.specs.Shapes.{shape_of}
use Rattle.program_trees.specs.TypedTree.{TypedTree, TypedTrees, word_node, truth_node, zero_node, slot_node, call_node, size_node, cat_node, sum_node, bits_node}
use Rattle.program_trees.specs.TypedTree.{lookup_node, element_node, not_node, cast_node, binary_node, cut_node, declassify_node}
use Rattle.program_trees.specs.TypedTree as Tree'
use Rattle.program_trees.specs.TypedPrograms.{TypedFunctionTree}
use Rattle.reached_instances.specs.declared.instance.BoundDomain.{BoundDomain}
use Rattle.reached_instances.specs.declared.instance.BoundDomain.TheVariants.{Public, Private}
use Rattle.reached_instances.specs.Domains.{Setting, domain, domains, domain_under, slot_domain, joined_domain}
use Rattle.language_model.specs.Operations.{cast_shape}
use Rattle.language_model.specs.Words.{truth_word}
use Rattle.language_model.specs.Evaluation.{is_private, gives_private, slots_of, bound_at, connective, shape_at, either}
use Rattle.bytecode.specs.declared.kind.Kind.{Kind}
use Rattle.verified_code.specs.Fitting.{may_be_literal}
use Rattle.verified_code.specs.Steps.{Step, Function, Not, Cast, Size, Sum, Bits, Declassify, Call}
use Rattle.code_model.specs.Fit.{IsFit, AreFit}
use Rattle.code_model.specs.Kinds.{depth, depths, kind_of, slot_kind, shape_in, kind_in, private_kind_in, truth_kind, in_row}
use Rattle.code_model.specs.Kinded.{HasKind, ResultFits, left_array, right_array}
use Rattle.code_model.specs.Expressions.{Numbers, result_at, classifying, lacks, own_at, classified_at, stands_at, next_row, binary_code, cut_code}
use Rattle.code_model.specs.Expressions.{expression_code}
use Rattle.code_model.specs.Expressions.{arguments_code, arguments_places, unread_code}
use Rattle.code_model.specs.Statements.{shape_number}
use Rattle.code_model.specs.Programs.{code_of_found}
use Rattle.code_model.proofs.Widths.{depth_some}
use Rattle.code_model.specs.Right.{kind, operand_element, AreOf, IsRight}
use Rattle.well_typed.specs.Kinds.{scalar, operand_of, left_is_array, right_is_array}
use Rattle.well_typed.specs.Expressions.{Gives, AreTaken}
use Rattle.lowered_code.proofs.Standing.{clash, HasRows, row_first, rows_left, rows_second}
use Rattle.lowered_code.proofs.Standing.{AllRight, both_right, either_right, lacking_right, picked_kind}
use Rattle.lowered_code.proofs.Shapes.{shape_is, goes_may, left_may, right_may, operand_is, left_is, right_is, number_is}
use Rattle.lowered_code.proofs.Rows.{within_left, within_right, RightAt, binary_right, cat_right, lookup_right, element_right, cut_right}
use Rattle.lowered_code.proofs.Calling.{parameters_of, first_kinds, result_fits, unread_fits}

module _ (number : Numbers) (c : List Function) (ks : List Kind) (gives : Option Kind) (count : ℕ) (here : Setting) where
  abbrev pub Right : List Step → Type 0
  Right = AllRight c ks gives count

  -- the code of a called instance is there, and has registers for its parameters
  abbrev pub IsCallee : ℕ → List BoundDomain → Type 0
  IsCallee k b =
      (parameters_of (slice_get here.functions k) ≤ length (slots_of (slice_get here.functions k)))
      × (slice_get c (number k b) ≡ Some (code_of_found number here.functions b (slice_get here.functions k)))

  -- the slots are the first registers
  abbrev pub SlotsStand : Type 0
  SlotsStand = (k : ℕ) (s : Slot) → slice_get here.slots k ≡ Some s → HasKind ks k (slot_kind here.binding s)

  -- after the slots, one register of each shape
  abbrev pub DefaultsStand : Type 0
  DefaultsStand = (s : Shape) → 0 < length here.slots → HasKind ks (length here.slots + shape_number s) (kind_of false s)

  module _ (Known : ℕ → List BoundDomain → Type 0) (known : (k : ℕ) (b : List BoundDomain) → Known k b → IsCallee k b) (slots : SlotsStand)
      (defaults : DefaultsStand) where
    -- the registers of a node's value and of its classification, where its rows stand
    own_kind : (t : ℕ) (e : TypedTree) → HasRows ks t (depth e) → HasKind ks (own_at here e t) (kind_in here e)
    own_kind t e h = row_first (kind_in here e) (depth_some e) h

    classified_kind : (t : ℕ) (e : TypedTree) → HasRows ks t (depth e) → HasKind ks (classified_at here e t) (private_kind_in here e)
    classified_kind t e h = row_first (private_kind_in here e) (depth_some e) h

    left_of : {t : ℕ} (a b : TypedTree) → HasRows ks t (max (depth a) (1 + depth b)) → HasRows ks t (depth a)
    left_of a b h = rows_left (depth a) (1 + depth b) h

    right_of : {t : ℕ} (a b : TypedTree) → HasRows ks t (max (depth a) (1 + depth b)) → HasRows ks (next_row t) (depth b)
    right_of a b h = rows_second (depth a) (depth b) h

    -- the register of its classification
    private_at : (t : ℕ) (e : TypedTree) (s : Shape) → Gives here e (Some s) → HasKind ks t (private_kind_in here e) → HasKind ks t (kind_of true s)
    private_at t e s h k = subst (λ z. HasKind ks t (kind_of true z)) (shape_is here e s h) k

    as_left : (r : ℕ) (g : Bool) (op : BinaryOperator) (ds : Operands) → HasKind ks r (kind_of g (shape_of (operand_of op) (left_is_array ds)))
        → HasKind ks r (kind g (operand_element op) (left_array ds))
    as_left r g op ds h =
        subst (λ e. HasKind ks r (kind g e (left_array ds))) (operand_is op) (subst (λ a. HasKind ks r (kind g (operand_of op) a)) (left_is ds) h)

    as_right : (r : ℕ) (g : Bool) (op : BinaryOperator) (ds : Operands) → HasKind ks r (kind_of g (shape_of (operand_of op) (right_is_array ds)))
        → HasKind ks r (kind g (operand_element op) (right_array ds))
    as_right r g op ds h =
        subst (λ e. HasKind ks r (kind g e (right_array ds))) (operand_is op) (subst (λ a. HasKind ks r (kind g (operand_of op) a)) (right_is ds) h)

    -- its code is right wherever it ends within the function, from where its rows begin
    abbrev pub ExpressionRight : TypedTree → Type 0
    ExpressionRight e = (t pc : ℕ) → HasRows ks t (depth e) → RightAt c ks gives count pc (expression_code number here t pc e)

    -- the kind of an expression's value, where it stands
    read_kind : (t : ℕ) (e : TypedTree) (s : Shape) → Gives here e (Some s) → HasRows ks t (depth e)
        → HasKind ks (stands_at here e t) (kind_in here e)
    read_kind t (slot_node k) s h stands =
        slots k h.0 h.1 ∙ sym (ap (λ o. Some (kind_of (is_private (slot_domain here.binding o)) (shape_at o))) h.1)
    read_kind t (word_node n) s h stands = own_kind t (word_node n) stands
    read_kind t (truth_node b) s h stands = own_kind t (truth_node b) stands
    read_kind t zero_node s h stands = defaults (shape_of Int64 false) h.0
    read_kind t (call_node line k es) s h stands = own_kind t (call_node line k es) stands
    read_kind t (size_node e) s h stands = own_kind t (size_node e) stands
    read_kind t (cat_node line a b) s h stands = own_kind t (cat_node line a b) stands
    read_kind t (sum_node e) s h stands = own_kind t (sum_node e) stands
    read_kind t (bits_node line e) s h stands = own_kind t (bits_node line e) stands
    read_kind t (lookup_node line a i) s h stands = own_kind t (lookup_node line a i) stands
    read_kind t (element_node line a i) s h stands = own_kind t (element_node line a i) stands
    read_kind t (not_node e) s h stands = own_kind t (not_node e) stands
    read_kind t (cast_node c e) s h stands = own_kind t (cast_node c e) stands
    read_kind t (binary_node line op ds a b) s h stands = own_kind t (binary_node line op ds a b) stands
    read_kind t (cut_node c a b) s h stands = own_kind t (cut_node c a b) stands
    read_kind t (declassify_node e) s h stands = own_kind t (declassify_node e) stands

    pub value_read : (t : ℕ) (e : TypedTree) (s : Shape) → Gives here e (Some s) → HasRows ks t (depth e)
        → HasKind ks (stands_at here e t) (kind_of (gives_private here e) s)
    value_read t e s h stands =
        subst (λ z. HasKind ks (stands_at here e t) (kind_of (gives_private here e) z)) (shape_is here e s h) (read_kind t e s h stands)

    behind_one : (t pc : ℕ) (e : TypedTree) (i : Step) → RightAt c ks gives count pc (expression_code number here t pc e) → IsRight c ks gives count i
        → RightAt c ks gives count pc (expression_code number here t pc e ++ i ∷ [])
    behind_one t pc e i h k l =
        let ce = expression_code number here t pc e in
        both_right c ks gives count ce (i ∷ []) (h (within_left count pc ce (i ∷ []) l)) (k, tt)

    public_joined : (da db : BoundDomain) → is_private da ≡ false → is_private (joined_domain da db) ≡ is_private db
    public_joined Public db e = refl
    public_joined (Private k) db e = absurd (clash (sym e))

    cut_operands : (t pc : ℕ) (a b : TypedTree) (x : Connective) → Gives here a (Some (scalar datatype.Bool)) → Gives here b (Some (scalar datatype.Bool))
        → ExpressionRight a → ExpressionRight b → HasRows ks t (depth (cut_node x a b))
        → RightAt c ks gives count pc (expression_code number here t pc (cut_node x a b))
    cut_operands t pc a b x ga gb ra rb h l =
        let u = next_row t in
        let d = own_at here (cut_node x a b) t in
        let m = classified_at here a t in
        let n = classified_at here b u in
        let q = in_row t (truth_kind false) in
        let v = stands_at here a t in
        let ub = stands_at here b u in
        let ca = expression_code number here t pc a in
        let cb = λ (p : ℕ). expression_code number here u p b in
        let pa = gives_private here a in
        let pb = gives_private here b in
        let first = binary_code d m n v ub pc 0 (binary.Bools (connective x)) Scalars pa pb ca cb in
        let other = cut_code d q v ub pc x pb ca cb in
        let left = left_of a b h in
        let right = right_of a b h in
        let va = value_read t a _ ga left in
        let vb = value_read u b _ gb right in
        let own = own_kind t (cut_node x a b) h in
        either_right c ks gives count pa first other
        (λ e. binary_right c ks gives count d m n v ub pc 0 (binary.Bools (connective x)) Scalars (domain here a) (domain here b) ca cb tt
        (ra t pc left) (λ p. rb u p right) va vb
        (private_at m a _ ga (classified_kind t a left)) (private_at n b _ gb (classified_kind u b right)) own
        (subst (λ g. pc + length (either g first other) < count) e l))
        (λ e. cut_right c ks gives count d q v ub pc x pb ca cb (ra t pc left)
        (λ p. rb u p right)
        (subst (λ g. HasKind ks v (kind g datatype.Bool false)) e va) vb (row_first (truth_kind false) (depth_some (cut_node x a b)) h)
        (subst (λ g. HasKind ks d (kind g datatype.Bool false)) (public_joined (domain here a) (domain here b) e) own)
        (subst (λ g. pc + length (either g first other) < count) e l))

    call_right : (t pc line k : ℕ) (es : TypedTrees) (o : Option TypedFunctionTree) (d : Option ℕ)
        → parameters_of o ≤ length (slots_of o)
        → slice_get c (number k (bound_at o (domains here es))) ≡ Some (code_of_found number here.functions (bound_at o (domains here es)) o)
        → ResultFits ks d (code_of_found number here.functions (bound_at o (domains here es)) o).gives
        → AreOf ks (arguments_places number here (bound_at o (domains here es)) (slots_of o) t es)
        (map (slot_kind (bound_at o (domains here es))) (take (parameters_of o) (slots_of o)))
        → RightAt c ks gives count pc (arguments_code number here (bound_at o (domains here es)) (slots_of o) t pc es)
        → RightAt c ks gives count pc (arguments_code number here (bound_at o (domains here es)) (slots_of o) t pc es
        ++ Call line (number k (bound_at o (domains here es))) d (arguments_places number here (bound_at o (domains here es)) (slots_of o) t es) ∷ [])
    call_right t pc line k es o d few there result places h l =
        let b = bound_at o (domains here es) in
        let ca = arguments_code number here b (slots_of o) t pc es in
        let is = Call line (number k b) d (arguments_places number here b (slots_of o) t es) ∷ [] in
        both_right c ks gives count ca is (h (within_left count pc ca is l))
        ((code_of_found number here.functions b o, there, subst (AreOf ks _) (sym (first_kinds number here.functions b o few)) places, result), tt)

    -- the arguments of a call, with the registers where they stand
    abbrev ArgumentsRight : (b : List BoundDomain) (ss : List Slot) (n t pc : ℕ) → TypedTrees → Type 0
    ArgumentsRight b ss n t pc es =
        RightAt c ks gives count pc (arguments_code number here b ss t pc es)
        × AreOf ks (arguments_places number here b ss t es) (map (slot_kind b) (take n ss))

    mutual
      pub expression_right : (e : TypedTree) (s : Shape) → Gives here e (Some s) → IsFit Known here e → ExpressionRight e
      expression_right (word_node n) s h f t pc stands l = ((own_kind t (word_node n) stands, refl), tt)
      expression_right (truth_node b) s h f t pc stands l = ((own_kind t (truth_node b) stands, truth_there b), tt)
        where
          truth_there : (b : Bool) → may_be_literal datatype.Bool (truth_word b) ≡ true
          truth_there true = refl
          truth_there false = refl
      expression_right zero_node s h f t pc stands l = tt
      expression_right (slot_node k) s h f t pc stands l = tt
      expression_right (call_node line k es) s h f t pc stands l =
          let o = slice_get here.functions k in
          let ds = domains here es in
          let d = own_at here (call_node line k es) t in
          let callee = known k (bound_at o ds) f.0 in
          let taken = subst (λ o. AreTaken here (bound_at o ds) (take (parameters_of o) (slots_of o)) es) (sym h.1) h.2 in
          let all = arguments_right (bound_at o ds) (slots_of o) (parameters_of o) es taken f.1 t pc (rows_left (depths es) 1 stands) in
          call_right t pc line k es o (Some d) callee.0 callee.1
          (result_fits number here.functions ks d o ds h.0 s h.1 (sym h.3) (own_kind t (call_node line k es) stands)) all.1 all.0 l
      expression_right (size_node e) s h f t pc stands l =
          behind_one t pc e (Size (own_at here (size_node e) t) (stands_at here e t)) (expression_right e _ h.1 f t pc stands)
          (gives_private here e, h.0, value_read t e _ h.1 stands, own_kind t (size_node e) stands) l
      expression_right (cat_node line a b) s h f t pc stands l =
          let g = is_private (joined_domain (domain here a) (domain here b)) in
          let u = next_row t in
          let d = own_at here (cat_node line a b) t in
          let left = left_of a b stands in
          let right = right_of a b stands in
          cat_right c ks gives count d (classified_at here a t) (classified_at here b u) (stands_at here a t) (stands_at here b u) pc line g
          (gives_private here a) (gives_private here b) h.0
          (expression_code number here t pc a) (λ p. expression_code number here u p b)
          (left_may (domain here a) (domain here b)) (right_may (domain here a) (domain here b))
          (expression_right a _ h.1 f.0 t pc left)
          (λ p. expression_right b _ h.2 f.1 u p right)
          (value_read t a _ h.1 left) (value_read u b _ h.2 right)
          (private_at (classified_at here a t) a _ h.1 (classified_kind t a left)) (private_at (classified_at here b u) b _ h.2 (classified_kind u b right))
          (subst (λ z. HasKind ks d (kind_of g z)) (shape_is here a _ h.1) (own_kind t (cat_node line a b) stands)) l
      expression_right (sum_node e) s h f t pc stands l =
          let d = own_at here (sum_node e) t in
          behind_one t pc e (Sum d (stands_at here e t)) (expression_right e _ h.1 f t pc stands) (
            gives_private here e,
            h.0,
            number_is h.0 h.2,
            value_read t e _ h.1 stands,
            subst (λ (z : Shape). HasKind ks d (kind_of (gives_private here e) (shape_of z.element false))) (shape_is here e _ h.1)
                (own_kind t (sum_node e) stands),
          ) l
      expression_right (bits_node line e) s h f t pc stands l =
          behind_one t pc e (Bits line (own_at here (bits_node line e) t) (stands_at here e t)) (expression_right e _ h.1 f t pc stands)
          (gives_private here e, h.0, value_read t e _ h.1 stands, own_kind t (bits_node line e) stands) l
      expression_right (lookup_node line a i) s h f t pc stands l =
          let u = next_row t in
          let d = own_at here (lookup_node line a i) t in
          let m = classified_at here a t in
          let n = classified_at here i u in
          let left = left_of a i stands in
          let right = right_of a i stands in
          let same = shape_is here (lookup_node line a i) (shape_of h.0 h.1) (h.0, h.1, h.2, h.3, h.4, h.5, h.6, refl) in
          lookup_right c ks gives count d m n (stands_at here a t) (stands_at here i u) pc line (gives_private here a) (gives_private here i) h.0 h.1
          (expression_code number here t pc a) (λ p. expression_code number here u p i) h.4
          (expression_right a _ h.2 f.0 t pc left)
          (λ p. expression_right i _ h.3 f.1 u p right)
          (value_read t a _ h.2 left) (value_read u i _ h.3 right)
          (private_at m a _ h.2 (classified_kind t a left)) (private_at n i _ h.3 (classified_kind u i right))
          (subst (λ g. HasKind ks d (kind_of g (shape_of h.0 h.1))) h.6
          (subst (λ z. HasKind ks d (kind_of (gives_private here (lookup_node line a i)) z)) same (own_kind t (lookup_node line a i) stands))) l
      expression_right (element_node line a i) s h f t pc stands l =
          let first = left_of a i stands in
          let second = right_of a i stands in
          let u = next_row t in
          let d = own_at here (element_node line a i) t in
          let v = stands_at here a t in
          let ui = stands_at here i u in
          element_right c ks gives count d v ui pc line (gives_private here a) h.0 (expression_code number here t pc a)
          (λ p. expression_code number here u p i) (expression_right a _ h.1 f.0 t pc first)
          (λ p. expression_right i _ h.2 f.1 u p second) (value_read t a _ h.1 first)
          (subst (λ z. HasKind ks ui (kind_of (is_private z) (scalar Uint64))) h.3 (value_read u i _ h.2 second))
          (subst (λ (z : Shape). HasKind ks d (kind (gives_private here a) z.element false)) (shape_is here a _ h.1)
          (own_kind t (element_node line a i) stands)) l
      expression_right (not_node e) s h f t pc stands l =
          let d = own_at here (not_node e) t in
          behind_one t pc e (Not d (stands_at here e t)) (expression_right e _ h.1 f t pc stands) (
            gives_private here e,
            h.0,
            value_read t e _ h.1 stands,
            subst (λ z. HasKind ks d (kind_of (gives_private here e) z)) (shape_is here e _ h.1) (own_kind t (not_node e) stands),
          ) l
      expression_right (cast_node x e) s h f t pc stands l =
          let g = gives_private here e in
          let d = own_at here (cast_node x e) t in
          let r = stands_at here e t in
          behind_one t pc e (Cast x d r) (expression_right e _ h.1 f t pc stands) (
            g,
            h.0,
            value_read t e _ h.1 stands,
            subst (λ (z : Shape). HasKind ks d (kind_of g (cast_shape x z.array))) (shape_is here e _ h.1) (own_kind t (cast_node x e) stands),
          ) l
      expression_right (binary_node line op ds a b) s h f t pc stands l =
          let u = next_row t in
          let d = own_at here (binary_node line op ds a b) t in
          let m = classified_at here a t in
          let n = classified_at here b u in
          let v = stands_at here a t in
          let ub = stands_at here b u in
          let left = left_of a b stands in
          let right = right_of a b stands in
          binary_right c ks gives count d m n v ub pc line op ds (domain here a) (domain here b) (expression_code number here t pc a)
          (λ p. expression_code number here u p b) h.3
          (expression_right a _ h.0 f.0 t pc left)
          (λ p. expression_right b _ h.1 f.1 u p right)
          (as_left v (gives_private here a) op ds (value_read t a _ h.0 left))
          (as_right ub (gives_private here b) op ds (value_read u b _ h.1 right))
          (as_left m true op ds (private_at m a _ h.0 (classified_kind t a left)))
          (as_right n true op ds (private_at n b _ h.1 (classified_kind u b right)))
          (own_kind t (binary_node line op ds a b) stands) l
      expression_right (cut_node x a b) s h f t pc stands l =
          cut_operands t pc a b x h.0 h.1 (expression_right a _ h.0 f.0) (expression_right b _ h.1 f.1) stands l
      expression_right (declassify_node e) s h f t pc stands l =
          behind_one t pc e (Declassify (own_at here (declassify_node e) t) (stands_at here e t)) (expression_right e _ h.1 f t pc stands)
          (gives_private here e, (shape_in here e).element, (shape_in here e).array, read_kind t e _ h.1 stands, own_kind t (declassify_node e) stands) l

      arguments_right : (b : List BoundDomain) (ss : List Slot) (n : ℕ) (es : TypedTrees) → AreTaken here b (take n ss) es → AreFit Known here b ss es
          → (t pc : ℕ) → HasRows ks t (depths es) → ArgumentsRight b ss n t pc es
      arguments_right b [] zero Tree'.none h f t pc stands = ((λ l. tt), tt)
      arguments_right b [] (suc n) Tree'.none h f t pc stands = ((λ l. tt), tt)
      arguments_right b (s ∷ ss) zero Tree'.none h f t pc stands = ((λ l. tt), tt)
      arguments_right b (s ∷ ss) (suc n) Tree'.none h f t pc stands = absurd h
      arguments_right b [] zero (Tree'.also e es) h f t pc stands = absurd h
      arguments_right b [] (suc n) (Tree'.also e es) h f t pc stands = absurd h
      arguments_right b (s ∷ ss) zero (Tree'.also e es) h f t pc stands = absurd h
      arguments_right b (s ∷ ss) (suc n) (Tree'.also e es) h f t pc stands =
          let g = gives_private here e in
          let w = is_private (domain_under b s.domain) in
          let own = rows_left (depth e) (1 + depths es) stands in
          let behind = rows_second (depth e) (depths es) stands in
          let ce = expression_code number here t pc e in
          let r = stands_at here e t in
          let m = classified_at here e t in
          let cl = classifying (lacks w g) m r in
          let p = pc + length ce in
          let q = p + length cl in
          let cs = arguments_code number here b ss (next_row t) q es in
          let v = value_read t e _ h.0 own in
          let k = private_at m e _ h.0 (classified_kind t e own) in
          let others = arguments_right b ss n es h.2 f.2 (next_row t) q behind in (
            λ l.
                let after = within_right count pc p ce (cl ++ cs) refl l in
                both_right c ks gives count ce _ (expression_right e _ h.0 f.0 t pc own (within_left count pc ce (cl ++ cs) l))
                (both_right c ks gives count cl cs (lacking_right c ks gives count w g s.shape m r v k)
                (others.0 (within_right count p q cl cs refl after))),
            (picked_kind c ks gives count w g s.shape m r (goes_may (domain here e) (domain_under b s.domain) h.1) v k, others.1),
          )

    -- where nobody reads what a call gives
    pub unread_right : (e : TypedTree) (o : Option Shape) → Gives here e o → IsFit Known here e → (t pc : ℕ) → HasRows ks t (depth e)
        → RightAt c ks gives count pc (unread_code number here t pc e)
    unread_right (call_node line k es) s h f t pc stands l =
        let o = slice_get here.functions k in
        let ds = domains here es in
        let d = own_at here (call_node line k es) t in
        let callee = known k (bound_at o ds) f.0 in
        let taken = subst (λ o. AreTaken here (bound_at o ds) (take (parameters_of o) (slots_of o)) es) (sym h.1) h.2 in
        let all = arguments_right (bound_at o ds) (slots_of o) (parameters_of o) es taken f.1 t pc (rows_left (depths es) 1 stands) in
        call_right t pc line k es o (result_at o d) callee.0 callee.1
        (unread_fits number here.functions ks d o ds (own_kind t (call_node line k es) stands)) all.1 all.0 l
    unread_right (word_node n) o h f t pc stands l = expression_right (word_node n) _ (h.0, refl) f t pc stands l
    unread_right (truth_node b) o h f t pc stands l = expression_right (truth_node b) _ refl f t pc stands l
    unread_right zero_node o h f t pc stands l = expression_right zero_node _ (h.0, refl) f t pc stands l
    unread_right (slot_node k) o h f t pc stands l = expression_right (slot_node k) _ (h.0, h.1, refl) f t pc stands l
    unread_right (size_node e) o h f t pc stands l = expression_right (size_node e) _ (h.0, h.1, refl) f t pc stands l
    unread_right (cat_node line a b) o h f t pc stands l = expression_right (cat_node line a b) _ (h.0, h.1, h.2, h.3, refl) f t pc stands l
    unread_right (sum_node e) o h f t pc stands l = expression_right (sum_node e) _ (h.0, h.1, h.2, refl) f t pc stands l
    unread_right (bits_node line e) o h f t pc stands l = expression_right (bits_node line e) _ (h.0, h.1, refl) f t pc stands l
    unread_right (lookup_node line a i) o h f t pc stands l =
        expression_right (lookup_node line a i) _ (h.0, h.1, h.2, h.3, h.4, h.5, h.6, refl) f t pc stands l
    unread_right (element_node line a i) o h f t pc stands l = expression_right (element_node line a i) _ (h.0, h.1, h.2, h.3, refl) f t pc stands l
    unread_right (not_node e) o h f t pc stands l = expression_right (not_node e) _ (h.0, h.1, refl) f t pc stands l
    unread_right (cast_node x e) o h f t pc stands l = expression_right (cast_node x e) _ (h.0, h.1, refl) f t pc stands l
    unread_right (binary_node line op ds a b) o h f t pc stands l =
        expression_right (binary_node line op ds a b) _ (h.0, h.1, h.2, h.3, refl) f t pc stands l
    unread_right (cut_node x a b) o h f t pc stands l = expression_right (cut_node x a b) _ (h.0, h.1, h.2, refl) f t pc stands l
    unread_right (declassify_node e) o h f t pc stands l = expression_right (declassify_node e) _ (h.0, h.1, refl) f t pc stands l
