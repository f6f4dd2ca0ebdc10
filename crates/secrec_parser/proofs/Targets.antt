-- An expression as a target is as high as it was.
use Rattle.std.proofs.Common.{◌≡◌, ℕ, ◌+◌, Option, Some, None, refl, sym, ap, ◌∙◌, arith}
use Rattle.std.specs.Prelude.{max}
use Rattle.program_trees.specs.Tree.{Tree, variable, index}
use Rattle.program_trees.specs.Statements.{TargetTree, element_target, target_of}
use Rattle.program_trees.specs.Heights.{height, target_height}
use Rattle.expression_parser.proofs.Nodes.{tall}

abbrev optional_target_height : ℕ → Option TargetTree → ℕ
optional_target_height n None = n
optional_target_height n (Some t) = target_height t

element_height : (a i : Tree) → optional_target_height (1 + max (height a) (height i)) (element_target a i) ≡ 1 + max (height a) (height i)
element_height (variable p x) i = let h = tall i in omega arith
element_height a i = refl

as_target : (e : Tree) → optional_target_height (height e) (target_of e) ≡ height e
as_target (variable p x) = refl
as_target (index p a i) = element_height a i
as_target e = refl

pub target_of_height : (e : Tree) (t : TargetTree) → target_of e ≡ Some t → target_height t ≡ height e
target_of_height e t f = sym (ap (optional_target_height (height e)) f) ∙ as_target e
