-- Lists that grow by one at their end.
use Rattle.std.proofs.Common.{◌≡◌, List, [], ◌∷◌, ◌++◌, refl, sym, ap, ◌∙◌, append_assoc, append-nil}
use Rattle.std.specs.Prelude.{map}
use Rattle.std.proofs.lemmas.List.{map-append}
use Rattle.program_trees.specs.TypedTree.{TypedTree, typed_trees_of}
use Rattle.program_trees.specs.TypedStatements.{TypedStatementTree, typed_statements_of}
use Rattle.reached_instances.specs.Domains.{Setting, domain, domains}
use Rattle.reached_instances.specs.Instances.{Instance}
use Rattle.reached_instances.specs.Calls.{calls, calls_of_all, typed_statement_calls, typed_statements_calls}

pub map_one : {A B : Type 0} (f : A → B) (xs : List A) (x : A) → map f (xs ++ x ∷ []) ≡ map f xs ++ f x ∷ []
map_one f xs x = map-append f xs (x ∷ [])

pub domains_more : (w : Setting) (ts : List TypedTree) (t : TypedTree)
    → domains w (typed_trees_of (ts ++ t ∷ [])) ≡ domains w (typed_trees_of ts) ++ domain w t ∷ []
domains_more w [] t = refl
domains_more w (u ∷ us) t = ap (λ l. domain w u ∷ l) (domains_more w us t)

pub calls_of_all_more : (w : Setting) (ts : List TypedTree) (t : TypedTree)
    → calls_of_all w (typed_trees_of (ts ++ t ∷ [])) ≡ calls_of_all w (typed_trees_of ts) ++ calls w t
calls_of_all_more w [] t = append-nil (calls w t)
calls_of_all_more w (u ∷ us) t =
    ap (λ l. calls w u ++ l) (calls_of_all_more w us t) ∙ sym (append_assoc (calls w u) (calls_of_all w (typed_trees_of us)) (calls w t))

pub typed_statements_calls_more : (w : Setting) (cs : List TypedStatementTree) (c : TypedStatementTree)
    → typed_statements_calls w (typed_statements_of (cs ++ c ∷ [])) ≡ typed_statements_calls w (typed_statements_of cs) ++ typed_statement_calls w c
typed_statements_calls_more w [] c = append-nil (typed_statement_calls w c)
typed_statements_calls_more w (d ∷ ds) c = ap (λ l. typed_statement_calls w d ++ l) (typed_statements_calls_more w ds c)
    ∙ sym (append_assoc (typed_statement_calls w d) (typed_statements_calls w (typed_statements_of ds)) (typed_statement_calls w c))

-- what two parts call, one after the other
pub then_calls : (a b c : List Instance) (xs ys : List Instance) → b ≡ a ++ xs → c ≡ b ++ ys → c ≡ a ++ (xs ++ ys)
then_calls a b c xs ys e f = f ∙ ap (λ (z : List Instance). z ++ ys) e ∙ append_assoc a xs ys
