-- The words that stand in a well-typed tree are below 2^64.
use Rattle.std.proofs.Common.{◌^◌, List, [], ◌∷◌, Option, Some, None, Bool, refl, sym, ◌∙◌, subst}
use Rattle.std.proofs.lemmas.Bool.{lt-ltb}
use Rattle.std.proofs.lemmas.Option.{same_Some}
use Rattle.program_trees.specs.declared.kinds.Shape.{Shape}
use Rattle.program_trees.specs.declared.kinds.Slot.{Slot}
use Rattle.program_trees.specs.declared.typed_function.Returned.{Returned}
use Rattle.program_trees.specs.declared.typed_function.Returned.TheVariants.{Nothing, Value}
use Rattle.program_trees.specs.TypedTree.{TypedTree, TypedTrees, word_node, truth_node, zero_node, slot_node, call_node, size_node, cat_node, sum_node, bits_node}
use Rattle.program_trees.specs.TypedTree.{lookup_node, element_node, not_node, cast_node, binary_node, cut_node, declassify_node}
use Rattle.program_trees.specs.TypedTree as Tree'
use Rattle.program_trees.specs.TypedStatements.{TypedStatementTree, TypedStatementTrees, empty_statement, block_statement, if_statement, loop_statement, do_statement}
use Rattle.program_trees.specs.TypedStatements.{break_statement, continue_statement, return_statement, assert_statement, store_statement, default_statement}
use Rattle.program_trees.specs.TypedStatements.{fill_statement, input_statement, element_statement, publish_statement, evaluate_statement}
use Rattle.program_trees.specs.TypedStatements as Statements'
use Rattle.program_trees.specs.TypedPrograms.{TypedFunctionTree, TypedProgramTree}
use Rattle.reached_instances.specs.declared.instance.BoundDomain.{BoundDomain}
use Rattle.reached_instances.specs.Domains.{Setting}
use Rattle.reached_instances.specs.Instances.{Instance}
use Rattle.well_typed.specs.Expressions.{Gives, AreTaken}
use Rattle.well_typed.specs.Statements.{IsReturned, IsWellTypedStatement, AreWellTypedStatements}
use Rattle.well_typed.specs.Programs.{setting_of}
use Rattle.written_code.specs.Says.{TreeSays, TreesSay, OptionSays, StatementSays, StatementsSay}
use Rattle.written_code.specs.Laws.{is_word, any_number, any_text, WellTypedSaysWords}

module _ (here : Setting) where
  abbrev Says : TypedTree → Type 0
  Says = TreeSays is_word any_number any_text

  abbrev Does : TypedStatementTree → Type 0
  Does = StatementSays is_word any_number any_text

  mutual
    tree_says : (e : TypedTree) (g : Option Shape) → Gives here e g → Says e
    tree_says (word_node n) g h = lt-ltb n (2 ^ 64) h.0
    tree_says (truth_node b) g h = tt
    tree_says zero_node g h = tt
    tree_says (slot_node k) g h = tt
    tree_says (call_node line k es) g h = (refl, trees_say _ _ es h.2)
    tree_says (size_node e) g h = tree_says e _ h.1
    tree_says (cat_node line a b) g h = (refl, tree_says a _ h.1, tree_says b _ h.2)
    tree_says (sum_node e) g h = tree_says e _ h.1
    tree_says (bits_node line e) g h = (refl, tree_says e _ h.1)
    tree_says (lookup_node line a i) g h = (refl, tree_says a _ h.2, tree_says i _ h.3)
    tree_says (element_node line a i) g h = (refl, tree_says a _ h.1, tree_says i _ h.2)
    tree_says (not_node e) g h = tree_says e _ h.1
    tree_says (cast_node c e) g h = tree_says e _ h.1
    tree_says (binary_node line op ds a b) g h = (refl, tree_says a _ h.0, tree_says b _ h.1)
    tree_says (cut_node c a b) g h = (tree_says a _ h.0, tree_says b _ h.1)
    tree_says (declassify_node e) g h = tree_says e _ h.1

    trees_say : (b : List BoundDomain) (ss : List Slot) (es : TypedTrees) → AreTaken here b ss es → TreesSay is_word any_number any_text es
    trees_say b [] Tree'.none h = tt
    trees_say b [] (Tree'.also e es) h = absurd h
    trees_say b (s ∷ ss) Tree'.none h = tt
    trees_say b (s ∷ ss) (Tree'.also e es) h = (tree_says e _ h.0, trees_say b ss es h.2)

  returned_says : (g : Returned) (o : Option TypedTree) → IsReturned here g o → OptionSays is_word any_number any_text o
  returned_says g None h = tt
  returned_says Nothing (Some e) h = absurd h
  returned_says (Value s) (Some e) h = tree_says e _ h.0

  mutual
    statement_says : (g : Returned) (inside : Bool) (c : TypedStatementTree) → IsWellTypedStatement here g inside c → Does c
    statement_says g inside empty_statement h = tt
    statement_says g inside (block_statement cs) h = statements_say g inside cs h
    statement_says g inside (if_statement e a b) h = (tree_says e _ h.0.0, statement_says g inside a h.1, statement_says g inside b h.2)
    statement_says g inside (loop_statement e step body) h = (tree_says e _ h.0.0, statement_says g _ step h.1, statement_says g _ body h.2)
    statement_says g inside (do_statement body e) h = (statement_says g _ body h.0, tree_says e _ h.1.0)
    statement_says g inside break_statement h = tt
    statement_says g inside continue_statement h = tt
    statement_says g inside (return_statement o) h = returned_says g o h
    statement_says g inside (assert_statement line e) h = (refl, tree_says e _ h.0)
    statement_says g inside (store_statement k e) h = tree_says e _ h.2.0
    statement_says g inside (default_statement k) h = tt
    statement_says g inside (fill_statement line k n e) h = (refl, tree_says n _ h.2.0, tree_says e _ h.3.0)
    statement_says g inside (input_statement line k text) h = (refl, refl)
    statement_says g inside (element_statement line k i e) h = (refl, tree_says i _ h.2.0, tree_says e _ h.3.0)
    statement_says g inside (publish_statement text e) h = (refl, tree_says e _ h.1)
    statement_says g inside (evaluate_statement e) h = tree_says e _ h.1

    pub statements_say : (g : Returned) (inside : Bool) (cs : TypedStatementTrees) → AreWellTypedStatements here g inside cs
        → StatementsSay is_word any_number any_text cs
    statements_say g inside Statements'.none h = tt
    statements_say g inside (Statements'.also c cs) h = (statement_says g inside c h.0, statements_say g inside cs h.1)

pub well_typed_words : (p : TypedProgramTree) (is : List Instance) → WellTypedSaysWords p is
well_typed_words p is typed reached i m f there =
    let w = typed.instances i (reached.reached i m) in
    subst (λ (z : TypedFunctionTree). StatementsSay is_word any_number any_text z.body) (same_Some w.called f (sym w.there ∙ there))
    (statements_say (setting_of p i w.called) w.called.given _ w.called.body w.body)
