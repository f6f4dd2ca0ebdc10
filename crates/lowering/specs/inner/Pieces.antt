-- Cited by private functions alone: no contract of another crate rests on it.
-- The code of a statement before it is known where the breaks and continues of the loop around it lead.
use Rattle.std.specs.Prelude.{ℕ, zero, suc, ◌+◌, false, List, [], ◌∷◌, ◌++◌, length, map}
use Rattle.program_trees.specs.TypedStatements.{TypedStatementTree, TypedStatementTrees, empty_statement, block_statement, if_statement, loop_statement, do_statement}
use Rattle.program_trees.specs.TypedStatements.{break_statement, continue_statement, return_statement, assert_statement, store_statement, default_statement}
use Rattle.program_trees.specs.TypedStatements.{fill_statement, input_statement, element_statement, publish_statement, evaluate_statement}
use Rattle.program_trees.specs.TypedStatements as Statements'
use Rattle.language_model.specs.Evaluation.{StatementContext}
use Rattle.verified_code.specs.Steps.{Step, Branch, Jump}
use Rattle.code_model.specs.Expressions.{Numbers, stands_at, expression_code}
use Rattle.code_model.specs.Statements.{first_free, statement_code}
use Rattle.lowered_expressions.specs.Built.{BodyPiece, whole, break_jump, continue_jump, Built}

-- ---- WHERE BREAKS AND CONTINUES LEAD

-- the step of a piece, where a break leads to x and a continue to y
abbrev pub placed : (x y : ℕ) → BodyPiece → Step
placed x y (whole i) = i
placed x y break_jump = Jump x
placed x y continue_jump = Jump y

abbrev pub settled : (x y : ℕ) → BodyPiece → BodyPiece
settled x y p = whole (placed x y p)

-- the first pieces are settled, so many
abbrev pub settled_front : (x y count : ℕ) → List BodyPiece → List BodyPiece
settled_front x y zero ps = ps
settled_front x y (suc n) [] = []
settled_front x y (suc n) (p ∷ ps) = settled x y p ∷ settled_front x y n ps

-- and likewise from a place on
abbrev pub settled_part : (x y from count : ℕ) → List BodyPiece → List BodyPiece
settled_part x y zero count ps = settled_front x y count ps
settled_part x y (suc from) count [] = []
settled_part x y (suc from) count (p ∷ ps) = p ∷ settled_part x y from count ps

-- ---- STATEMENTS

abbrev pub if_pieces : (pc t : ℕ) → List Step → (ℕ → List BodyPiece) → (ℕ → List BodyPiece) → List BodyPiece
if_pieces pc t test a b =
    let pa = pc + length test + 1 in
    let pb = pa + length (a pa) + 1 in
    map whole test ++ (whole (Branch t false pb) ∷ (a pa ++ (whole (Jump (pb + length (b pb))) ∷ b pb)))

module _ (number : Numbers) (at : StatementContext) where
  abbrev mutual
    -- nothing leads out of a loop
    pub statement_pieces : (t pc : ℕ) → TypedStatementTree → List BodyPiece
    statement_pieces t pc (block_statement cs) = statements_pieces t pc cs
    statement_pieces t pc (if_statement e a b) =
        if_pieces pc (stands_at at.here e t) (expression_code number at.here t pc e) (λ p. statement_pieces t p a)
        (λ p. statement_pieces t p b)
    statement_pieces t pc break_statement = break_jump ∷ []
    statement_pieces t pc continue_statement = continue_jump ∷ []
    statement_pieces t pc c = map whole (statement_code number at t 0 0 pc c)

    pub statements_pieces : (t pc : ℕ) → TypedStatementTrees → List BodyPiece
    statements_pieces t pc Statements'.none = []
    statements_pieces t pc (Statements'.also c cs) =
        let pieces = statement_pieces t pc c in
        pieces ++ statements_pieces t (pc + length pieces) cs

-- ---- BEHIND A BODY

abbrev pub with_piece : Built → BodyPiece → Built
with_piece b p = record { pieces = b.pieces ++ p ∷ [] }

abbrev pub with_pieces : Built → List BodyPiece → Built
with_pieces b ps = record { pieces = b.pieces ++ ps }

abbrev pub with_settled : Built → (from count x y : ℕ) → Built
with_settled b from count x y = record { pieces = settled_part x y from count b.pieces }

-- each statement has registers from the first row on
module _ (number : Numbers) (at : StatementContext) (b : Built) where
  abbrev pub with_statement : TypedStatementTree → Built
  with_statement c = with_pieces b (statement_pieces number at (first_free at.here.slots) (length b.pieces) c)

  abbrev pub with_statements : TypedStatementTrees → Built
  with_statements cs = with_pieces b (statements_pieces number at (first_free at.here.slots) (length b.pieces) cs)
