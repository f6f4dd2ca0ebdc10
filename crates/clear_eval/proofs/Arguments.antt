-- The arguments of a call, one after another, and the arrays that are joined.
use Rattle.std.proofs.Common.{◌≡◌, ℕ, Bool, List, [], ◌∷◌, ◌++◌, Ok, sym, ap, ◌∙◌, append_assoc}
use mathlib.Core.Path.{fun_ext}
use Rattle.program_trees.specs.declared.kinds.Slot.{Slot}
use Rattle.program_trees.specs.TypedTree.{TypedTree, TypedTrees, also, cat_node}
use Rattle.reached_instances.specs.declared.instance.BoundDomain.{BoundDomain}
use Rattle.reached_instances.specs.Domains.{Setting}
use Rattle.language_model.specs.Effects.{World, Stage, Run, Effect, carry, done}
use Rattle.language_model.specs.Values.{Value}
use Rattle.language_model.specs.Operations.{wanted, concatenated}
use Rattle.language_model.specs.Evaluation.{Frame, Calls, gives_private, value, arguments, next_is_private, behind_next}
use Rattle.clear_eval.proofs.Runs.{carry-carry}

-- what is done with the arguments after those that are there
abbrev pub behind_those : List Value → List Value → Effect (List Value)
behind_those vs xs = done (vs ++ xs)

pub arguments_more : (w : World) (calls : Calls) (here : Setting) (b : List BoundDomain) (ss : List Slot) (e : TypedTree) (es : TypedTrees)
    (fr : Frame) (vs : List Value) (private : Bool) (v a : Value) (s s1 s2 : Stage)
    → private ≡ next_is_private b ss → value w calls here e fr s ≡ Ok (v, s1) → wanted private v s1 ≡ Ok (a, s2)
    → carry (arguments w calls here b ss (also e es) fr s) (behind_those vs)
    ≡ carry (arguments w calls here b (behind_next ss) es fr s2) (behind_those (vs ++ a ∷ []))
unfolding value
arguments_more w calls here b ss e es fr vs private v a s s1 s2 p h h' =
    ap (λ r. carry (carry r behind_value) (behind_those vs)) h
    ∙ ap (λ r. carry (carry r behind_argument) (behind_those vs)) (ap (λ q. wanted q v s1) (sym p) ∙ h')
    ∙ carry-carry rest (λ xs. done (a ∷ xs)) (behind_those vs)
    ∙ ap (carry rest) (fun_ext (λ xs. fun_ext (λ u. ap (λ l. Ok (l, u)) (sym (append_assoc vs (a ∷ []) xs)))))
  where
    rest : Run (List Value)
    rest = arguments w calls here b (behind_next ss) es fr s2

    behind_argument : Value → Effect (List Value)
    behind_argument x u = carry (arguments w calls here b (behind_next ss) es fr u) (λ xs. done (x ∷ xs))

    behind_value : Value → Effect (List Value)
    behind_value x u = carry (wanted (next_is_private b ss) x u) behind_argument

-- the arrays that are joined, each as it is wanted: once the first has its value, what is left is the second
pub joined_right : (w : World) (calls : Calls) (here : Setting) (line : ℕ) (a b e : TypedTree) (fr : Frame) (private : Bool) (x : Value) (s s1 : Stage)
    → e ≡ cat_node line a b → private ≡ gives_private here e → carry (value w calls here a fr s) (wanted private) ≡ Ok (x, s1)
    → value w calls here e fr s ≡ carry (carry (value w calls here b fr s1) (wanted private)) (concatenated line x)
unfolding value
joined_right w calls here line a b e fr private x s s1 is p h =
    ap (λ n. value w calls here n fr s) is
    ∙ sym (carry-carry (value w calls here a fr s) (wanted given) behind_left)
    ∙ ap (λ r. carry r behind_left) (ap (λ q. carry (value w calls here a fr s) (wanted q)) (sym same) ∙ h)
    ∙ sym (carry-carry (value w calls here b fr s1) (wanted given) (concatenated line x))
    ∙ ap (λ q. carry (carry (value w calls here b fr s1) (wanted q)) (concatenated line x)) (sym same)
  where
    given : Bool
    given = gives_private here (cat_node line a b)

    same : private ≡ given
    same = p ∙ ap (gives_private here) is

    behind_left : Value → Effect Value
    behind_left u t = carry (value w calls here b fr t) (λ v t'. carry (wanted given v t') (concatenated line u))

pub joined_both : (w : World) (calls : Calls) (here : Setting) (line : ℕ) (a b e : TypedTree) (fr : Frame) (private : Bool) (x y : Value) (s s1 s2 : Stage)
    → e ≡ cat_node line a b → private ≡ gives_private here e
    → carry (value w calls here a fr s) (wanted private) ≡ Ok (x, s1) → carry (value w calls here b fr s1) (wanted private) ≡ Ok (y, s2)
    → value w calls here e fr s ≡ concatenated line x y s2
joined_both w calls here line a b e fr private x y s s1 s2 is p h h' =
    joined_right w calls here line a b e fr private x s s1 is p h ∙ ap (λ r. carry r (concatenated line x)) h'
