-- The arguments of a call, one after another.
use Rattle.std.proofs.Common.{◌≡◌, List, [], ◌∷◌, ◌++◌, refl, sym, ap, ◌∙◌, Option, Some, None, append_assoc, append-nil}
use Rattle.program_trees.specs.Tree.{Tree, trees_of}
use Rattle.program_trees.specs.Heights.{place_of}
use Rattle.domain_types.specs.declared.value_type.Argument.{Argument}
use Rattle.domain_types.specs.declared.value_type.ValueType.{ValueType}
use Rattle.domain_types.specs.Settings.{Setting}
use Rattle.domain_types.specs.Scopes.{Scope}
use Rattle.domain_types.specs.ExpressionTypes.{with_argument, and_argument, arguments_of, value_type, value_faults, argument_list_faults}
use Rattle.domain_types.specs.Reached.{calls_of, calls_of_all}

pub arguments_of-more : (w : Setting) (s : Scope) (ts : List Tree) (t : Tree)
    → arguments_of w s (trees_of (ts ++ t ∷ [])) ≡ and_argument (arguments_of w s (trees_of ts)) (place_of t) (value_type w s t)
arguments_of-more w s [] t = go (value_type w s t)
  where
    go : (v : Option ValueType) → with_argument (place_of t) v (Some []) ≡ and_argument (Some []) (place_of t) v
    go None = refl
    go (Some v) = refl
arguments_of-more w s (u ∷ us) t =
    ap (with_argument (place_of u) (value_type w s u)) (arguments_of-more w s us t)
    ∙ go (value_type w s u) (arguments_of w s (trees_of us)) (value_type w s t)
  where
    go : (a : Option ValueType) (gs : Option (List Argument)) (b : Option ValueType)
        → with_argument (place_of u) a (and_argument gs (place_of t) b) ≡ and_argument (with_argument (place_of u) a gs) (place_of t) b
    go None gs b = refl
    go (Some a) None b = refl
    go (Some a) (Some gs) None = refl
    go (Some a) (Some gs) (Some b) = refl

pub argument_list_faults-more : (w : Setting) (s : Scope) (ts : List Tree) (t : Tree)
    → argument_list_faults w s (trees_of (ts ++ t ∷ [])) ≡ argument_list_faults w s (trees_of ts) ++ value_faults w s t
argument_list_faults-more w s [] t = append-nil (value_faults w s t)
argument_list_faults-more w s (u ∷ us) t =
    ap (λ fs. value_faults w s u ++ fs) (argument_list_faults-more w s us t)
    ∙ sym (append_assoc (value_faults w s u) (argument_list_faults w s (trees_of us)) (value_faults w s t))

pub calls_of_all-more : (w : Setting) (s : Scope) (ts : List Tree) (t : Tree)
    → calls_of_all w s (trees_of (ts ++ t ∷ [])) ≡ calls_of_all w s (trees_of ts) ++ calls_of w s t
calls_of_all-more w s [] t = append-nil (calls_of w s t)
calls_of_all-more w s (u ∷ us) t =
    ap (λ cs. calls_of w s u ++ cs) (calls_of_all-more w s us t)
    ∙ sym (append_assoc (calls_of w s u) (calls_of_all w s (trees_of us)) (calls_of w s t))
