-- The expressions and statements of a list, one after another.
use Rattle.std.proofs.Common.{◌≡◌, ℕ, zero, suc, ◌+◌, ◌<◌, List, [], ◌∷◌, length, get_or, drop, refl, sym, ap, ◌∙◌, subst, add-one, arith}
use Rattle.std.specs.Prelude.{map}
use Rattle.std.proofs.Math.Seq.{drop-cons, drop-nil}
use Rattle.program_trees.specs.declared.kinds.Slot.{Slot}
use Rattle.program_trees.specs.declared.typed_expression.TypedExpression.{TypedExpression}
use Rattle.program_trees.specs.declared.typed_statement.TypedStatement.{TypedStatement}
use Rattle.program_trees.specs.TypedTree.{TypedTrees, also, typed_tree, typed_trees_of}
use Rattle.program_trees.specs.TypedStatements.{TypedStatementTrees, typed_statement, typed_statements_of}
use Rattle.program_trees.specs.Sound.{IsSoundTree, AreSoundTrees, IsSoundStatementTree, AreSoundStatementTrees, count_of}
use Rattle.language_model.specs.Evaluation.{behind_next}
use Rattle.value_steps.specs.declared.value.Value.{Value}
use Rattle.clear_eval.specs.declared.place.StatementContext.{StatementContext}
use Rattle.clear_eval.specs.inner.Measures.{weight, weight_of_all, statement_weight, statements_weight}
use Rattle.clear_eval.specs.inner.Standing.{IsSoundIn, AreSoundIn, IsSoundStatement, AreSoundStatements, parameters_around}

abbrev pub trees : List TypedExpression → TypedTrees
trees es = typed_trees_of (map typed_tree es)

abbrev pub typed_statements : List TypedStatement → TypedStatementTrees
typed_statements ss = typed_statements_of (map typed_statement ss)

lighter_tree : (es : List TypedExpression) (i : ℕ) (d : TypedExpression) → i < length es → weight (typed_tree (get_or es i d)) < weight_of_all (trees es)
lighter_tree [] i d h = absurd (omega arith)
lighter_tree (e ∷ es) zero d h = omega arith
lighter_tree (e ∷ es) (suc i) d h = let more = lighter_tree es i d (omega arith) in omega arith

sound_tree : (n : ℕ) (ps : List ℕ) (es : List TypedExpression) (i : ℕ) (d : TypedExpression) → AreSoundTrees n ps (trees es) → i < length es
    → IsSoundTree n ps (typed_tree (get_or es i d))
sound_tree n ps [] i d a h = absurd (omega arith)
sound_tree n ps (e ∷ es) zero d a h = a.0
sound_tree n ps (e ∷ es) (suc i) d a h = sound_tree n ps es i d a.1 (omega arith)

lighter_statement : (ss : List TypedStatement) (i : ℕ) (d : TypedStatement) → i < length ss
    → statement_weight (typed_statement (get_or ss i d)) < statements_weight (typed_statements ss)
lighter_statement [] i d h = absurd (omega arith)
lighter_statement (c ∷ ss) zero d h = omega arith
lighter_statement (c ∷ ss) (suc i) d h = let more = lighter_statement ss i d (omega arith) in omega arith

sound_statement : (n : ℕ) (ps : List ℕ) (ss : List TypedStatement) (i : ℕ) (d : TypedStatement) → AreSoundStatementTrees n ps (typed_statements ss)
    → i < length ss → IsSoundStatementTree n ps (typed_statement (get_or ss i d))
sound_statement n ps [] i d a h = absurd (omega arith)
sound_statement n ps (c ∷ ss) zero d a h = a.0
sound_statement n ps (c ∷ ss) (suc i) d a h = sound_statement n ps ss i d a.1 (omega arith)

-- what is at a place of a list is lighter than the list, and names only what is there where all of the list does
pub item_lighter : (es list : List TypedExpression) (i : ℕ) (x : TypedExpression) → es ≡ list → x ≡ get_or es i x → i < length es
    → weight (typed_tree x) < weight_of_all (trees list)
item_lighter es list i x same is h = subst (λ ys. weight (typed_tree x) < weight_of_all (trees ys)) same
    (subst (λ (y : TypedExpression). weight (typed_tree y) < weight_of_all (trees es)) (sym is) (lighter_tree es i x h))

pub item_sound : (at : StatementContext) (vs : List Value) (es list : List TypedExpression) (i : ℕ) (x : TypedExpression) → es ≡ list → x ≡ get_or es i x
    → i < length es → AreSoundIn at vs list → IsSoundIn at vs x
item_sound at vs es list i x same is h all =
    subst (λ (y : TypedExpression). IsSoundTree (length vs) (parameters_around at) (typed_tree y)) (sym is)
    (sound_tree (length vs) (parameters_around at) es i x (subst (λ ys. AreSoundTrees (length vs) (parameters_around at) (trees ys)) (sym same) all) h)

pub statement_lighter : (ss list : List TypedStatement) (i : ℕ) (x : TypedStatement) → ss ≡ list → x ≡ get_or ss i x → i < length ss
    → statement_weight (typed_statement x) < statements_weight (typed_statements list)
statement_lighter ss list i x same is h = subst (λ ys. statement_weight (typed_statement x) < statements_weight (typed_statements ys)) same
    (subst (λ (y : TypedStatement). statement_weight (typed_statement y) < statements_weight (typed_statements ss)) (sym is) (lighter_statement ss i x h))

pub statement_sound : (at : StatementContext) (vs : List Value) (ss list : List TypedStatement) (i : ℕ) (x : TypedStatement) → ss ≡ list
    → x ≡ get_or ss i x → i < length ss → AreSoundStatements at vs list → IsSoundStatement at vs x
statement_sound at vs ss list i x same is h all =
    subst (λ (y : TypedStatement). IsSoundStatementTree (length vs) (parameters_around at) (typed_statement y)) (sym is)
    (sound_statement (length vs) (parameters_around at) ss i x
    (subst (λ ys. AreSoundStatementTrees (length vs) (parameters_around at) (typed_statements ys)) (sym same) all) h)

-- the list from a place on begins with what stands there
pub trees-drop : (es : List TypedExpression) (i : ℕ) (d : TypedExpression) → i < length es
    → trees (drop i es) ≡ also (typed_tree (get_or es i d)) (trees (drop (i + 1) es))
trees-drop es i d h = ap trees (drop-cons es i d h) ∙ ap (λ n. also (typed_tree (get_or es i d)) (trees (drop n es))) (sym (add-one i))

pub behind-drop : (ss : List Slot) (i : ℕ) → behind_next (drop i ss) ≡ drop (i + 1) ss
behind-drop [] i = ap behind_next (drop-nil i) ∙ sym (drop-nil (i + 1))
behind-drop (s ∷ ss) zero = refl
behind-drop (s ∷ ss) (suc i) = let next : suc (i + 1) ≡ suc i + 1 = omega arith in behind-drop ss i ∙ ap (λ n. drop n (s ∷ ss)) next

pub counted : (es : List TypedExpression) → count_of (trees es) ≡ length es
counted [] = refl
counted (e ∷ es) = let more = counted es in omega arith
