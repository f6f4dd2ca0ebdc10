-- The pieces of a statement are its code, once it is known where breaks and continues lead.
use Rattle.std.proofs.Common.{◌≡◌, ℕ, ◌+◌, List, [], ◌∷◌, ◌++◌, length, Some, None, false, refl, sym, ap, ap₂, ◌∙◌, arith}
use Rattle.std.specs.Prelude.{map}
use Rattle.std.proofs.lemmas.List.{map-append, length-map}
use Rattle.program_trees.specs.TypedStatements.{TypedStatementTree, TypedStatementTrees, empty_statement, block_statement, if_statement, loop_statement, do_statement}
use Rattle.program_trees.specs.TypedStatements.{break_statement, continue_statement, return_statement, assert_statement, store_statement, default_statement}
use Rattle.program_trees.specs.TypedStatements.{fill_statement, input_statement, element_statement, publish_statement, evaluate_statement}
use Rattle.program_trees.specs.TypedStatements as Statements'
use Rattle.language_model.specs.Evaluation.{StatementContext}
use Rattle.verified_code.specs.Steps.{Step, Branch, Jump}
use Rattle.code_model.specs.Expressions.{Numbers, stands_at, expression_code}
use Rattle.code_model.specs.Statements.{statement_code, statements_code, if_code}
use Rattle.code_model.proofs.Lengths.{statement_length}
use Rattle.lowered_expressions.specs.Built.{BodyPiece, whole}
use Rattle.lowering.specs.inner.Pieces.{placed, settled, statement_pieces, statements_pieces, if_pieces}

pub placed_whole : (x y : ℕ) (is : List Step) → map (placed x y) (map whole is) ≡ is
placed_whole x y [] = refl
placed_whole x y (i ∷ is) = ap (λ (z : List Step). i ∷ z) (placed_whole x y is)

pub settled_placed : (x y : ℕ) (ps : List BodyPiece) → map (settled x y) ps ≡ map whole (map (placed x y) ps)
settled_placed x y [] = refl
settled_placed x y (p ∷ ps) = ap (λ (z : List BodyPiece). settled x y p ∷ z) (settled_placed x y ps)

-- as long as what it becomes
same_length : (x y : ℕ) (ps : List BodyPiece) (is : List Step) → map (placed x y) ps ≡ is → length ps ≡ length is
same_length x y ps is e = sym (length-map ps (placed x y)) ∙ ap length e

if_placed : (x y pc t : ℕ) (test : List Step) (a b : ℕ → List BodyPiece) (ca cb : ℕ → List Step) → ((p : ℕ) → map (placed x y) (a p) ≡ ca p)
    → ((p : ℕ) → map (placed x y) (b p) ≡ cb p) → map (placed x y) (if_pieces pc t test a b) ≡ if_code pc t test ca cb
if_placed x y pc t test a b ca cb ea eb =
    let pa = pc + length test + 1 in
    let pb = pa + length (a pa) + 1 in
    let pb' = pa + length (ca pa) + 1 in
    let na : length (a pa) ≡ length (ca pa) = same_length x y (a pa) (ca pa) (ea pa) in
    let nb : length (b pb') ≡ length (cb pb') = same_length x y (b pb') (cb pb') (eb pb') in
    let place : pb ≡ pb' = omega (arith, na) in
    let end : pb' + length (b pb') ≡ pb' + length (cb pb') = omega (arith, nb) in
    map-append (placed x y) (map whole test) (whole (Branch t false pb) ∷ (a pa ++ (whole (Jump (pb + length (b pb))) ∷ b pb)))
    ∙ ap₂ (λ (u v : List Step). u ++ Branch t false pb ∷ v) (placed_whole x y test)
    (map-append (placed x y) (a pa) (whole (Jump (pb + length (b pb))) ∷ b pb))
    ∙ ap (λ (z : ℕ). test ++ Branch t false z ∷ (map (placed x y) (a pa) ++ (Jump (z + length (b z)) ∷ map (placed x y) (b z)))) place
    ∙ ap₂ (λ (u v : List Step). test ++ Branch t false pb' ∷ (u ++ (Jump (pb' + length (b pb')) ∷ v))) (ea pa) (eb pb')
    ∙ ap (λ (z : ℕ). test ++ Branch t false pb' ∷ (ca pa ++ (Jump z ∷ cb pb'))) end

module _ (number : Numbers) (at : StatementContext) (x y : ℕ) where
  mutual
    pub statement_placed : (t pc : ℕ) (c : TypedStatementTree) → map (placed x y) (statement_pieces number at t pc c) ≡ statement_code number at t x y pc c
    statement_placed t pc empty_statement = refl
    statement_placed t pc (block_statement cs) = statements_placed t pc cs
    statement_placed t pc (if_statement e a b) =
        if_placed x y pc (stands_at at.here e t) (expression_code number at.here t pc e) (λ p. statement_pieces number at t p a)
        (λ p. statement_pieces number at t p b) (λ p. statement_code number at t x y p a)
        (λ p. statement_code number at t x y p b) (λ p. statement_placed t p a)
        (λ p. statement_placed t p b)
    statement_placed t pc (loop_statement e step body) = placed_whole x y (statement_code number at t 0 0 pc (loop_statement e step body))
    statement_placed t pc (do_statement body e) = placed_whole x y (statement_code number at t 0 0 pc (do_statement body e))
    statement_placed t pc break_statement = refl
    statement_placed t pc continue_statement = refl
    statement_placed t pc (return_statement None) = refl
    statement_placed t pc (return_statement (Some e)) = placed_whole x y (statement_code number at t 0 0 pc (return_statement (Some e)))
    statement_placed t pc (assert_statement line e) = placed_whole x y (statement_code number at t 0 0 pc (assert_statement line e))
    statement_placed t pc (store_statement k e) = placed_whole x y (statement_code number at t 0 0 pc (store_statement k e))
    statement_placed t pc (default_statement k) = placed_whole x y (statement_code number at t 0 0 pc (default_statement k))
    statement_placed t pc (fill_statement line k n e) = placed_whole x y (statement_code number at t 0 0 pc (fill_statement line k n e))
    statement_placed t pc (input_statement line k text) = placed_whole x y (statement_code number at t 0 0 pc (input_statement line k text))
    statement_placed t pc (element_statement line k i e) = placed_whole x y (statement_code number at t 0 0 pc (element_statement line k i e))
    statement_placed t pc (publish_statement text e) = placed_whole x y (statement_code number at t 0 0 pc (publish_statement text e))
    statement_placed t pc (evaluate_statement e) = placed_whole x y (statement_code number at t 0 0 pc (evaluate_statement e))

    pub statements_placed : (t pc : ℕ) (cs : TypedStatementTrees)
        → map (placed x y) (statements_pieces number at t pc cs) ≡ statements_code number at t x y pc cs
    statements_placed t pc Statements'.none = refl
    statements_placed t pc (Statements'.also c cs) =
        let ps = statement_pieces number at t pc c in
        let is = statement_code number at t x y pc c in
        let n : length ps ≡ length is = same_length x y ps is (statement_placed t pc c) in
        map-append (placed x y) ps (statements_pieces number at t (pc + length ps) cs)
        ∙ ap₂ (λ (u v : List Step). u ++ v) (statement_placed t pc c) (statements_placed t (pc + length ps) cs)
        ∙ ap (λ (z : ℕ). is ++ statements_code number at t x y (pc + z) cs) n

  -- how long they are hangs on no place
  pub statement_as_long : (t pc : ℕ) (c : TypedStatementTree) → length (statement_pieces number at t pc c) ≡ length (statement_code number at t 0 0 0 c)
  statement_as_long t pc c =
      same_length x y (statement_pieces number at t pc c) (statement_code number at t x y pc c) (statement_placed t pc c)
      ∙ statement_length number at c t x y pc 0 0 0
