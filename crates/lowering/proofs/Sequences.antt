-- The pieces of statements, one more at a time.
use Rattle.std.proofs.Common.{◌≡◌, ℕ, ◌+◌, ◌≤◌, List, [], ◌∷◌, ◌++◌, length, sym, ap, ◌∙◌, arith, append_assoc, append-nil, length-append}
use Rattle.program_trees.specs.TypedStatements.{TypedStatementTree, typed_statements_of}
use Rattle.language_model.specs.Evaluation.{StatementContext}
use Rattle.code_model.specs.Expressions.{Numbers}
use Rattle.code_model.specs.Statements.{first_free, statement_depth, statements_depth}
use Rattle.std.specs.Prelude.{max}
use Rattle.std.proofs.Math.Nat.{max_comm, le-max_left, le-max_right}
use Rattle.code_model.proofs.Widths.{max-least}
use Rattle.lowered_expressions.specs.Built.{BodyPiece, Built}
use Rattle.lowered_expressions.proofs.Building.{body_of}
use Rattle.lowering.specs.inner.Pieces.{statement_pieces, statements_pieces, with_pieces, with_statement, with_statements}
use Rattle.lowering.proofs.Behind.{then_pieces, places_behind}

module _ (number : Numbers) (at : StatementContext) where
  pieces_more : (cs : List TypedStatementTree) (c : TypedStatementTree) (t pc p : ℕ)
      → pc + length (statements_pieces number at t pc (typed_statements_of cs)) ≡ p
      → statements_pieces number at t pc (typed_statements_of (cs ++ c ∷ [])) ≡ statements_pieces number at t pc (typed_statements_of cs)
      ++ statement_pieces number at t p c
  pieces_more [] c t pc p f =
      let place : pc ≡ p = omega (arith, f) in
      append-nil (statement_pieces number at t pc c) ∙ ap (λ (y : ℕ). statement_pieces number at t y c) place
  pieces_more (d ∷ cs) c t pc p f =
      let own = statement_pieces number at t pc d in
      let p2 = pc + length own in
      let rest = statements_pieces number at t p2 (typed_statements_of cs) in
      let place : p2 + length rest ≡ p = omega (arith, f, length-append own rest) in
      ap (λ (z : List BodyPiece). own ++ z) (pieces_more cs c t p2 p place)
      ∙ sym (append_assoc own rest (statement_pieces number at t p c))

  pub statements_begin : (b : Built) → b ≡ with_statements number at b (typed_statements_of [])
  statements_begin b = sym (ap body_of (append-nil b.pieces))

  pub statements_more : (b d f : Built) (cs : List TypedStatementTree) (c : TypedStatementTree) → d ≡ with_statements number at b (typed_statements_of cs)
      → f ≡ with_statement number at d c → f ≡ with_statements number at b (typed_statements_of (cs ++ c ∷ []))
  statements_more b d f cs c e h =
      let t = first_free at.here.slots in
      let pc = length b.pieces in
      let ps = statements_pieces number at t pc (typed_statements_of cs) in
      let p : pc + length ps ≡ length d.pieces = omega (arith, places_behind b d ps e) in
      h
      ∙ ap (λ (z : Built). with_pieces z (statement_pieces number at t (length d.pieces) c)) e
      ∙ then_pieces b ps (statement_pieces number at t (length d.pieces) c)
      ∙ ap (with_pieces b) (sym (pieces_more cs c t pc (length d.pieces) p))

-- ---- ROWS

pub depth_more : (cs : List TypedStatementTree) (c : TypedStatementTree) → statements_depth (typed_statements_of (cs ++ c ∷ []))
    ≡ max (statements_depth (typed_statements_of cs)) (statement_depth c)
depth_more [] c = max_comm (statement_depth c) 0
depth_more (d ∷ cs) c =
    ap (max (statement_depth d)) (depth_more cs c)
    ∙ joined (statement_depth d) (statements_depth (typed_statements_of cs)) (statement_depth c)
  where
    joined : (a b c : ℕ) → max a (max b c) ≡ max (max a b) c
    joined a b c =
        let whole = max (max a b) c in
        let l1 = le-max_left a b in
        let l2 = le-max_right a b in
        let l3 = le-max_left (max a b) c in
        let l4 = le-max_right (max a b) c in
        let r1 = le-max_left a (max b c) in
        let r2 = le-max_right a (max b c) in
        let r3 = le-max_left b c in
        let r4 = le-max_right b c in
        let second = max-least b c whole (omega (arith, l2, l3)) l4 in
        let up = max-least a (max b c) whole (omega (arith, l1, l3)) second in
        let first = max-least a b (max a (max b c)) r1 (omega (arith, r2, r3)) in
        let down = max-least (max a b) c (max a (max b c)) first (omega (arith, r2, r4)) in
        omega (arith, up, down)
