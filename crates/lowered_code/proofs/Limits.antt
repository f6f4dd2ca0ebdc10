-- The functions of a program within its limits are small.
use Rattle.std.proofs.Common.{◌≡◌, ◌≤◌, List, [], ◌∷◌, Option, Some, None, Bool, true, false, cond, refl, ap, ◌∙◌, subst, ◌⊎◌, inl, inr}
use Rattle.std.specs.Prelude.{nat_lt, option_map, sum, count_by}
use Rattle.std.specs.Option.{option_map_or}
use Rattle.std.specs.List.{find}
use Rattle.std.proofs.lemmas.Bool.{ltb-false}
use Rattle.sc_text.specs.Lists.{Among}
use Rattle.program_trees.specs.TypedPrograms.{TypedFunctionTree, TypedProgramTree}
use Rattle.reached_instances.specs.Instances.{Instance}
use Rattle.reached_instances.specs.Reached.{IsReachedList}
use Rattle.reached_instances.proofs.ReachedLists.{is_the_only_list}
use Rattle.reached_instances.specs.Templates.{is_of_template}
use Rattle.reached_instances.specs.Limits.{size_of, sizes, IsWithinLimits}
use Rattle.lowered_code.specs.Laws.{AreSmall}

-- where nothing is refused, no size is
third : {A B : Type 0} (a b : Bool) (x y : B) (f : A → B) (o : Option A) → cond a (Some x) (cond b (Some y) (option_map f o)) ≡ None → o ≡ None
third true b x y f o e = cc
third false true x y f o e = cc
third false false x y f None e = refl
third false false x y f (Some z) e = cc

each_small : (p : TypedProgramTree) (list : List Instance) → find (nat_lt 4095) (sizes p list) ≡ None → (i : Instance) → Among i list
    → nat_lt 4095 (size_of p i) ≡ false
each_small p [] e i m = absurd m
each_small p (j ∷ js) e i m = go (nat_lt 4095 (size_of p j)) refl e m (each_small p js)
  where
    go : (b : Bool) → nat_lt 4095 (size_of p j) ≡ b → cond b (Some (size_of p j)) (find (nat_lt 4095) (sizes p js)) ≡ None → (i ≡ j) ⊎ Among i js
        → (find (nat_lt 4095) (sizes p js) ≡ None → (i : Instance) → Among i js → nat_lt 4095 (size_of p i) ≡ false) → nat_lt 4095 (size_of p i) ≡ false
    go true t h n rest = cc
    go false t h (inl same) rest = ap (λ z. nat_lt 4095 (size_of p z)) same ∙ t
    go false t h (inr n) rest = rest h i n

pub within_small : (p : TypedProgramTree) (is : List Instance) → IsWithinLimits p → IsReachedList p is → AreSmall p is
within_small p is within reached i m f there =
    let same : is ≡ within.list = is_the_only_list p is within.list reached within.reached in
    let fine = third (nat_lt 1024 (count_by (is_of_template p) within.list)) (nat_lt 65535 (sum (sizes p within.list))) _ _ _
    (find (nat_lt 4095) (sizes p within.list)) within.is in
    let small = ltb-false 4095 (size_of p i) (each_small p within.list fine i (subst (Among i) same m)) in
    subst (λ (o : Option TypedFunctionTree). option_map_or (λ g. g.size) o 0 ≤ 4095) there small
