-- The code of nodes with two operands is right where that of the operands is.
use Rattle.std.proofs.Common.{◌≡◌, ℕ, ◌+◌, ◌<◌, List, [], ◌∷◌, ◌++◌, length, Option, Bool, true, false, not, ◌&&◌, ◌||◌, refl, sym, ◌∙◌, subst}
use Rattle.std.proofs.Common.{arith, length-append}
use Rattle.program_trees.specs.declared.expression.DataType.{DataType}
use Rattle.program_trees.specs.declared.expression.DataType.TheVariants.{Uint64}
use Rattle.program_trees.specs.declared.expression.DataType.TheVariants as datatype
use Rattle.program_trees.specs.declared.operators.BinaryOperator.{BinaryOperator}
use Rattle.program_trees.specs.declared.operators.Operands.{Operands}
use Rattle.program_trees.specs.declared.operators.Connective.{Connective}
use Rattle.program_trees.specs.declared.operators.Connective.TheVariants.{AndAlso, OrElse}
use Rattle.program_trees.specs.Shapes.{shape_of}
use Rattle.reached_instances.specs.declared.instance.BoundDomain.{BoundDomain}
use Rattle.reached_instances.specs.Domains.{joined_domain}
use Rattle.language_model.specs.Words.{truth_word}
use Rattle.language_model.specs.Operations.{is_product, result_shape}
use Rattle.language_model.specs.Evaluation.{is_private}
use Rattle.bytecode.specs.declared.kind.Kind.{Kind}
use Rattle.verified_code.specs.Fitting.{may_be_literal}
use Rattle.verified_code.specs.Steps.{Step, Function, Literal, Move, Binary, Cat, Lookup, At, Branch, Jump}
use Rattle.code_model.specs.Fit.{MayStand}
use Rattle.code_model.specs.Kinds.{kind_of}
use Rattle.code_model.specs.Kinded.{HasKind, left_array, right_array, public_scalar}
use Rattle.code_model.specs.Expressions.{classifying, picked, lacks, mixes, binary_code, cat_code, lookup_code, element_code, deciding, settling, cut_code}
use Rattle.code_model.specs.Right.{kind, operand_element, IsRight}
use Rattle.well_typed.specs.Kinds.{IsNumber, MayOperate}
use Rattle.lowered_code.proofs.Standing.{clash, AllRight, both_right, classifying_right, lacking_right, picked_kind}
use Rattle.lowered_code.proofs.Shapes.{joined_private, number_is, private_allowed, operator_there, behind_mixing, mixed_or, secrecy_fits}

mixing_public : (op : BinaryOperator) (ga gb : Bool) → mixes op ga gb ≡ true → ga ≡ false
mixing_public op ga gb h = go (is_product op) ga gb h
  where
    go : (p ga gb : Bool) → (not p && lacks gb ga) ≡ true → ga ≡ false
    go p false gb h = refl
    go true true gb h = absurd (clash h)
    go false true true h = absurd (clash h)
    go false true false h = absurd (clash h)

-- a piece of code that begins another ends within it, and so does what is after it
pub within_left : (count pc : ℕ) (a b : List Step) → pc + length (a ++ b) < count → pc + length a < count
within_left count pc a b l = let n = length-append a b in omega (arith, l, n)

pub within_right : (count pc p : ℕ) (a b : List Step) → p ≡ pc + length a → pc + length (a ++ b) < count → p + length b < count
within_right count pc p a b e l = let n = length-append a b in omega (arith, e, l, n)

module _ (c : List Function) (ks : List Kind) (gives : Option Kind) (count : ℕ) where
  abbrev pub Right : List Step → Type 0
  Right = AllRight c ks gives count

  -- code at a place, and code that may stand anywhere, are right if they end within the function
  abbrev pub RightAt : ℕ → List Step → Type 0
  RightAt pc ca = pc + length ca < count → Right ca

  abbrev pub RightAnywhere : (ℕ → List Step) → Type 0
  RightAnywhere cb = (p : ℕ) → RightAt p (cb p)

  picked_or : (l g : Bool) (e : DataType) (a : Bool) (t r : ℕ) → HasKind ks r (kind g e a) → HasKind ks t (kind true e a) → HasKind ks (picked l t r)
      (kind (l || g) e a)
  picked_or true g e a t r h k = k
  picked_or false g e a t r h k = h

  mixing_right : (op : BinaryOperator) (ga gb : Bool) (e : DataType) (a : Bool) (t r : ℕ) → HasKind ks r (kind ga e a) → HasKind ks t (kind true e a) → Right
      (classifying (mixes op ga gb) t r)
  mixing_right op ga gb e a t r h k =
      classifying_right c ks gives count (mixes op ga gb) e a t r (λ m. subst (λ g. HasKind ks r (kind g e a)) (mixing_public op ga gb m) h) (λ m. k)

  pub binary_right : (d m n v u pc line : ℕ) (op : BinaryOperator) (ds : Operands) (da db : BoundDomain) (ca : List Step) (cb : ℕ → List Step)
      → MayOperate op (joined_domain da db) → RightAt pc ca → RightAnywhere cb
      → HasKind ks v (kind (is_private da) (operand_element op) (left_array ds))
      → HasKind ks u (kind (is_private db) (operand_element op) (right_array ds))
      → HasKind ks m (kind true (operand_element op) (left_array ds))
      → HasKind ks n (kind true (operand_element op) (right_array ds))
      → HasKind ks d (kind_of (is_private (joined_domain da db)) (result_shape op ds))
      → RightAt pc (binary_code d m n v u pc line op ds (is_private da) (is_private db) ca cb)
  binary_right d m n v u pc line op ds da db ca cb may ra rb ha hb h1 h2 h l =
      let ga = is_private da in
      let gb = is_private db in
      let e = operand_element op in
      let last : IsRight c ks gives count (Binary line op ds d (picked (mixes op ga gb) m v) (picked (mixes op gb ga) n u)) = (
        behind_mixing op ga gb,
        behind_mixing op gb ga,
        picked_or (mixes op ga gb) ga e (left_array ds) m v ha h1,
        picked_or (mixes op gb ga) gb e (right_array ds) n u hb h2,
        operator_there op (joined_domain da db) may,
        secrecy_fits op ga gb (λ p. private_allowed op (joined_domain da db) may (joined_private da db ∙ p)),
        subst (λ g. HasKind ks d (kind_of g (result_shape op ds))) (joined_private da db ∙ sym (mixed_or op ga gb)) h,
      ) in
      let p = pc + length ca in
      let rest = classifying (mixes op ga gb) m v ++ (classifying (mixes op gb ga) n u
      ++ Binary line op ds d (picked (mixes op ga gb) m v) (picked (mixes op gb ga) n u) ∷ []) in
      both_right c ks gives count ca _ (ra (within_left count pc ca (cb p ++ rest) l))
      (both_right c ks gives count (cb p) _ (rb p (within_left count p (cb p) rest (within_right count pc p ca (cb p ++ rest) refl l)))
      (both_right c ks gives count (classifying (mixes op ga gb) m v) _ (mixing_right op ga gb e (left_array ds) m v ha h1)
      (both_right c ks gives count (classifying (mixes op gb ga) n u) _ (mixing_right op gb ga e (right_array ds) n u hb h2) (last, tt))))

  pub cat_right : (d m n v u pc line : ℕ) (g ga gb : Bool) (e : DataType) (ca : List Step) (cb : ℕ → List Step) → MayStand ga g → MayStand gb g
      → RightAt pc ca → RightAnywhere cb
      → HasKind ks v (kind ga e true) → HasKind ks u (kind gb e true) → HasKind ks m (kind true e true) → HasKind ks n (kind true e true)
      → HasKind ks d (kind g e true) → RightAt pc (cat_code d m n v u pc line (lacks g ga) (lacks g gb) ca cb)
  cat_right d m n v u pc line g ga gb e ca cb ma mb ra rb ha hb h1 h2 h l =
      let cl = classifying (lacks g ga) m v in
      let last : IsRight c ks gives count (Cat line d (picked (lacks g ga) m v) (picked (lacks g gb) n u)) = (
        g,
        e,
        picked_kind c ks gives count g ga (shape_of e true) m v ma ha h1,
        picked_kind c ks gives count g gb (shape_of e true) n u mb hb h2,
        h,
      ) in
      let p = pc + length ca in
      let q = p + length cl in
      let rest = classifying (lacks g gb) n u ++ Cat line d (picked (lacks g ga) m v) (picked (lacks g gb) n u) ∷ [] in
      let behind = within_right count pc p ca (cl ++ (cb q ++ rest)) refl l in
      both_right c ks gives count ca _ (ra (within_left count pc ca (cl ++ (cb q ++ rest)) l))
      (both_right c ks gives count cl _ (lacking_right c ks gives count g ga (shape_of e true) m v ha h1)
      (both_right c ks gives count (cb q) _ (rb q (within_left count q (cb q) rest (within_right count p q cl (cb q ++ rest) refl behind)))
      (both_right c ks gives count (classifying (lacks g gb) n u) _ (lacking_right c ks gives count g gb (shape_of e true) n u hb h2) (last, tt))))

  -- both operands, and then the classification of each that is public
  pub lookup_right : (d m n v u pc line : ℕ) (ga gb : Bool) (e : DataType) (x : Bool) (ca : List Step) (cb : ℕ → List Step) → IsNumber e
      → RightAt pc ca → RightAnywhere cb → HasKind ks v (kind ga e true) → HasKind ks u (kind gb Uint64 x) → HasKind ks m (kind true e true)
      → HasKind ks n (kind true Uint64 x) → HasKind ks d (kind true e x)
      → RightAt pc (lookup_code d m n v u pc line (lacks true ga) (lacks true gb) ca cb)
  lookup_right d m n v u pc line ga gb e x ca cb number ra rb ha hb h1 h2 h l =
      let cl = classifying (lacks true ga) m v in
      let cr = classifying (lacks true gb) n u in
      let a = picked (lacks true ga) m v in
      let b = picked (lacks true gb) n u in
      let last : IsRight c ks gives count (Lookup line d a b) = (
        e,
        x,
        number_is e number,
        picked_kind c ks gives count true ga (shape_of e true) m v (λ _. refl) ha h1,
        picked_kind c ks gives count true gb (shape_of Uint64 x) n u (λ _. refl) hb h2,
        h,
      ) in
      let p = pc + length ca in
      let rest = cl ++ (cr ++ Lookup line d a b ∷ []) in
      both_right c ks gives count ca _ (ra (within_left count pc ca (cb p ++ rest) l))
      (both_right c ks gives count (cb p) _ (rb p (within_left count p (cb p) rest (within_right count pc p ca (cb p ++ rest) refl l)))
      (both_right c ks gives count cl _ (lacking_right c ks gives count true ga (shape_of e true) m v ha h1)
      (both_right c ks gives count cr _ (lacking_right c ks gives count true gb (shape_of Uint64 x) n u hb h2) (last, tt))))

  pub element_right : (t v u pc line : ℕ) (g : Bool) (e : DataType) (ca : List Step) (cb : ℕ → List Step) → RightAt pc ca → RightAnywhere cb
      → HasKind ks v (kind g e true) → HasKind ks u (public_scalar Uint64) → HasKind ks t (kind g e false) → RightAt pc (element_code t v u pc line ca cb)
  element_right t v u pc line g e ca cb ra rb ha hi h l =
      let p = pc + length ca in
      let rest = At line t v u ∷ [] in
      both_right c ks gives count ca _ (ra (within_left count pc ca (cb p ++ rest) l))
      (both_right c ks gives count (cb p) _ (rb p (within_left count p (cb p) rest (within_right count pc p ca (cb p ++ rest) refl l))) ((g, e, ha, hi, h), tt))

  settling_right : (g : Bool) (t r : ℕ) → HasKind ks r (kind false datatype.Bool false) → HasKind ks t (kind g datatype.Bool false)
      → IsRight c ks gives count (settling g t r)
  settling_right true t r h k = (datatype.Bool, false, h, k)
  settling_right false t r h k = (kind false datatype.Bool false, h, k)

  deciding_there : (x : Connective) → may_be_literal datatype.Bool (truth_word (deciding x)) ≡ true
  deciding_there AndAlso = refl
  deciding_there OrElse = refl

  pub cut_right : (d q v u pc : ℕ) (x : Connective) (g : Bool) (ca : List Step) (cb : ℕ → List Step) → RightAt pc ca → RightAnywhere cb
      → HasKind ks v (kind false datatype.Bool false) → HasKind ks u (kind g datatype.Bool false) → HasKind ks q (kind false datatype.Bool false)
      → HasKind ks d (kind g datatype.Bool false) → RightAt pc (cut_code d q v u pc x g ca cb)
  cut_right d q v u pc x g ca cb ra rb ha hb h1 h l =
      let pb = pc + length ca + 1 in
      let pd = pb + length (cb pb) + 2 in
      let last = Move d u ∷ Jump (pd + 2) ∷ Literal q datatype.Bool (truth_word (deciding x)) ∷ settling g d q ∷ [] in
      let whole = length-append ca (Branch v (deciding x) pd ∷ (cb pb ++ last)) in
      let right = length-append (cb pb) last in
      let branch : pd < count = omega (arith, l, whole, right) in
      let jump : pd + 2 < count = omega (arith, l, whole, right) in
      let own : pc + length ca < count = omega (arith, l, whole) in
      let second : pb + length (cb pb) < count = omega (arith, l, whole, right) in
      both_right c ks gives count ca _ (ra own) (
        (ha, branch),
        both_right c ks gives count (cb pb) last (rb pb second)
            ((kind g datatype.Bool false, hb, h), (jump, ((h1, deciding_there x), (settling_right g d q h1 h, tt)))),
      )
