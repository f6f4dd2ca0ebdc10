-- The code of branches and loops is right where that of their parts is.
use Rattle.std.proofs.Common.{ℕ, ◌+◌, ◌<◌, List, [], ◌∷◌, ◌++◌, length, Option, Bool, true, false}
use Rattle.std.proofs.Common.{arith, length-append}
use Rattle.program_trees.specs.declared.expression.DataType.TheVariants as datatype
use Rattle.program_trees.specs.declared.kinds.Shape.{Shape}
use Rattle.bytecode.specs.declared.kind.Kind.{Kind}
use Rattle.verified_code.specs.Steps.{Step, Function, Branch, Jump}
use Rattle.code_model.specs.Kinds.{kind_of}
use Rattle.code_model.specs.Kinded.{HasKind, public_scalar}
use Rattle.code_model.specs.Expressions.{classifying, picked, lacks}
use Rattle.code_model.specs.Statements.{if_code, loop_code, do_code, behind_classifying}
use Rattle.code_model.specs.Right.{IsRight}
use Rattle.lowered_code.proofs.Standing.{both_right, lacking_right}
use Rattle.lowered_code.proofs.Rows.{Right, RightAt, RightAnywhere}

module _ (c : List Function) (ks : List Kind) (gives : Option Kind) (count : ℕ) where
  -- the register of a condition
  abbrev pub IsCondition : ℕ → Type 0
  IsCondition t = HasKind ks t (public_scalar datatype.Bool)

  pub if_right : (pc t : ℕ) (test : List Step) (a b : ℕ → List Step) → IsCondition t → RightAt c ks gives count pc test → RightAnywhere c ks gives count a
      → RightAnywhere c ks gives count b → RightAt c ks gives count pc (if_code pc t test a b)
  if_right pc t test a b h rt ra rb l =
      let pa = pc + length test + 1 in
      let pb = pa + length (a pa) + 1 in
      let last = Jump (pb + length (b pb)) ∷ b pb in
      let whole = length-append test (Branch t false pb ∷ (a pa ++ last)) in
      let behind = length-append (a pa) last in
      let own : pc + length test < count = omega (arith, l, whole) in
      let first : pa + length (a pa) < count = omega (arith, l, whole, behind) in
      let second : pb + length (b pb) < count = omega (arith, l, whole, behind) in
      let target : pb < count = omega (arith, second) in
      both_right c ks gives count test _ (rt own) ((h, target), both_right c ks gives count (a pa) last (ra pa first) (second, rb pb second))

  pub loop_right : (pc t : ℕ) (test body step : ℕ → List Step) → IsCondition t → RightAnywhere c ks gives count test → RightAnywhere c ks gives count body
      → RightAnywhere c ks gives count step → RightAt c ks gives count pc (loop_code pc t test body step)
  loop_right pc t test body step h rt rb rs l =
      let p = pc + 1 in
      let py = p + length (body p) in
      let pt = py + length (step py) in
      let last = Branch t true p ∷ [] in
      let whole = length-append (body p) (step py ++ (test pt ++ last)) in
      let behind = length-append (step py) (test pt ++ last) in
      let end = length-append (test pt) last in
      let first : p + length (body p) < count = omega (arith, l, whole) in
      let second : py + length (step py) < count = omega (arith, l, whole, behind) in
      let third : pt + length (test pt) < count = omega (arith, l, whole, behind, end) in
      let again : p < count = omega (arith, first) in (
        second,
        both_right c ks gives count (body p) _ (rb p first) (both_right c ks gives count (step py) _ (rs py second)
            (both_right c ks gives count (test pt) last (rt pt third) ((h, again), tt))),
      )

  pub do_right : (pc t : ℕ) (test body : ℕ → List Step) → IsCondition t → RightAnywhere c ks gives count test → RightAnywhere c ks gives count body
      → RightAt c ks gives count pc (do_code pc t test body)
  do_right pc t test body h rt rb l =
      let pt = pc + length (body pc) in
      let last = Branch t true pc ∷ [] in
      let whole = length-append (body pc) (test pt ++ last) in
      let end = length-append (test pt) last in
      let first : pc + length (body pc) < count = omega (arith, l, whole) in
      let second : pt + length (test pt) < count = omega (arith, l, whole, end) in
      let again : pc < count = omega (arith, l, whole) in
      both_right c ks gives count (body pc) _ (rb pc first) (both_right c ks gives count (test pt) last (rt pt second) ((h, again), tt))

  pub behind_right : (w g : Bool) (s : Shape) (t u : ℕ) (last : ℕ → Step) → HasKind ks u (kind_of g s) → HasKind ks t (kind_of true s)
      → IsRight c ks gives count (last (picked (lacks w g) t u)) → Right c ks gives count (behind_classifying w g t u last)
  behind_right w g s t u last h k i =
      both_right c ks gives count (classifying (lacks w g) t u) _ (lacking_right c ks gives count w g s t u h k) (i, tt)
