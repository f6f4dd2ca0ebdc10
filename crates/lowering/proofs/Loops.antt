-- The pieces of loops.
use Rattle.std.proofs.Common.{◌≡◌, ℕ, ◌+◌, ◌-◌, true, List, [], ◌∷◌, ◌++◌, length, sym, ap, ap₂, ◌∙◌, arith, append_assoc, length-append}
use Rattle.std.specs.Prelude.{map, slice_set}
use Rattle.std.proofs.lemmas.List.{length-map, map-append, set_at}
use Rattle.program_trees.specs.TypedTree.{TypedTree}
use Rattle.program_trees.specs.TypedStatements.{TypedStatementTree, loop_statement, do_statement}
use Rattle.language_model.specs.Evaluation.{StatementContext}
use Rattle.verified_code.specs.Steps.{Step, Branch, Jump, ReturnNone}
use Rattle.code_model.specs.Expressions.{Numbers, stands_at, expression_code}
use Rattle.code_model.specs.Statements.{first_free, statement_code}
use Rattle.code_model.proofs.Lengths.{expression_length, statement_length}
use Rattle.lowered_expressions.specs.Built.{BodyPiece, whole, Built, with_step, with_step_at}
use Rattle.lowered_expressions.specs.Parts.{with_expression}
use Rattle.lowered_expressions.proofs.Building.{body_of}
use Rattle.lowering.specs.inner.Pieces.{placed, settled, settled_part, statement_pieces, with_pieces, with_settled, with_statement}
use Rattle.lowering.proofs.SettledParts.{part_between}
use Rattle.lowering.proofs.Placed.{settled_placed, statement_placed, statement_as_long}
use Rattle.lowering.proofs.Behind.{places_behind, places_step}

-- the pieces of a loop's parts, settled, are the loop's code
loop_same : (p : List BodyPiece) (x y z : ℕ) (j : Step) (a s : List BodyPiece) (e : List Step) (i : Step) (ca cs : List Step) → map (placed x y) a ≡ ca
    → map (placed x z) s ≡ cs
    → p ++ (whole j ∷ (map (settled x y) a ++ (map (settled x z) s ++ (map whole e ++ whole i ∷ []))))
    ≡ p ++ map whole (j ∷ (ca ++ (cs ++ (e ++ i ∷ []))))
loop_same p x y z j a s e i ca cs ea es =
    ap (λ (l : List BodyPiece). p ++ whole j ∷ l)
    (ap₂ (λ (u v : List BodyPiece). u ++ (v ++ (map whole e ++ whole i ∷ []))) (settled_placed x y a ∙ ap (map whole) ea)
    (settled_placed x z s ∙ ap (map whole) es)
    ∙ ap (λ (l : List BodyPiece). map whole ca ++ (map whole cs ++ l)) (sym (map-append whole e (i ∷ [])))
    ∙ ap (λ (l : List BodyPiece). map whole ca ++ l) (sym (map-append whole cs (e ++ i ∷ [])))
    ∙ sym (map-append whole ca (cs ++ (e ++ i ∷ []))))

do_same : (p : List BodyPiece) (x y : ℕ) (a : List BodyPiece) (e : List Step) (i : Step) (ca : List Step) → map (placed x y) a ≡ ca
    → p ++ (map (settled x y) a ++ (map whole e ++ whole i ∷ [])) ≡ p ++ map whole (ca ++ (e ++ i ∷ []))
do_same p x y a e i ca ea =
    ap (λ (l : List BodyPiece). p ++ l)
    (ap (λ (u : List BodyPiece). u ++ (map whole e ++ whole i ∷ [])) (settled_placed x y a ∙ ap (map whole) ea)
    ∙ ap (λ (l : List BodyPiece). map whole ca ++ l) (sym (map-append whole e (i ∷ [])))
    ∙ sym (map-append whole ca (e ++ i ∷ [])))

-- two parts of a loop settled, once the jump in front of them is set
two_settled : (p a s r : List BodyPiece) (held j : BodyPiece) (at first second : ℕ) (n m x y z : ℕ) → at ≡ length p → first ≡ length p + 1 → n ≡ length a
    → second ≡ length p + 1 + length a → m ≡ length s
    → settled_part x z second m (settled_part x y first n (slice_set (p ++ held ∷ (a ++ (s ++ r))) at j))
    ≡ p ++ (j ∷ (map (settled x y) a ++ (map (settled x z) s ++ r)))
two_settled p a s r held j at first second n m x y z at_is first_is n_is second_is m_is =
    let front = p ++ j ∷ [] in
    let more = map (settled x y) a in
    let nf = length-append p (j ∷ []) in
    let one : first ≡ length front = omega (arith, first_is, nf) in
    let nm = length-map a (settled x y) in
    let nb = length-append front more in
    let two : second ≡ length (front ++ more) = omega (arith, second_is, nf, nm, nb) in
    ap (λ (l : List BodyPiece). settled_part x z second m (settled_part x y first n l))
    (set_at p held (a ++ (s ++ r)) j at (sym at_is) ∙ sym (append_assoc p (j ∷ []) (a ++ (s ++ r))))
    ∙ ap (settled_part x z second m) (part_between x y front a (s ++ r) first n one n_is ∙ sym (append_assoc front more (s ++ r)))
    ∙ part_between x z (front ++ more) s r second m two m_is
    ∙ append_assoc front more (map (settled x z) s ++ r)
    ∙ append_assoc p (j ∷ []) (more ++ (map (settled x z) s ++ r))

one_settled : (p a r : List BodyPiece) (first n x y : ℕ) → first ≡ length p → n ≡ length a
    → settled_part x y first n ((p ++ a) ++ r) ≡ p ++ (map (settled x y) a ++ r)
one_settled p a r first n x y first_is n_is =
    ap (settled_part x y first n) (append_assoc p a r) ∙ part_between x y p a r first n first_is n_is

flat_loop : (p a s m e : List BodyPiece) (h : BodyPiece) → ((((p ++ h ∷ []) ++ a) ++ s) ++ m) ++ e ≡ p ++ h ∷ (a ++ (s ++ (m ++ e)))
flat_loop p a s m e h = simp append_assoc

module _ (number : Numbers) (at : StatementContext) (e : TypedTree) where
  pub loop_made : (step body : TypedStatementTree) (b0 b1 b2 b3 b4 b5 b6 b7 b8 : Built) (jump start onward test condition end n m : ℕ)
      → b1 ≡ with_step b0 ReturnNone
      → b2 ≡ with_statement number at b1 body → b3 ≡ with_statement number at b2 step
      → b4 ≡ with_expression number at.here b3 (first_free at.here.slots) e → b5 ≡ with_step b4 (Branch condition true start)
      → b6 ≡ with_step_at b5 jump (Jump test) → b7 ≡ with_settled b6 start n end onward → b8 ≡ with_settled b7 onward m end test
      → jump ≡ length b0.pieces → start ≡ length b1.pieces → onward ≡ length b2.pieces → test ≡ length b3.pieces
      → condition ≡ stands_at at.here e (first_free at.here.slots) → end ≡ length b5.pieces → n ≡ onward - start → m ≡ test - onward
      → b8 ≡ with_statement number at b0 (loop_statement e step body)
  loop_made step body b0 b1 b2 b3 b4 b5 b6 b7 b8 jump start onward test condition end n m e1 e2 e3 e4 e5 e6 e7 e8 at_jump at_start at_onward at_test
      at_condition at_end n_is m_is =
      let here = at.here in
      let t = first_free here.slots in
      let pc = length b0.pieces in
      let ca = statement_pieces number at t (pc + 1) body in
      let py = pc + 1 + length ca in
      let cs = statement_pieces number at t py step in
      let pt = py + length cs in
      let ce = expression_code number here t pt e in
      let px = pt + length ce + 1 in
      let p1 = places_step b0 b1 ReturnNone e1 in
      let f2 : b2 ≡ with_pieces b1 ca = e2 ∙ ap (λ (y : ℕ). with_pieces b1 (statement_pieces number at t y body)) p1 in
      let p2 : length b2.pieces ≡ py = omega (arith, places_behind b1 b2 ca f2, p1) in
      let f3 : b3 ≡ with_pieces b2 cs = e3 ∙ ap (λ (y : ℕ). with_pieces b2 (statement_pieces number at t y step)) p2 in
      let p3 : length b3.pieces ≡ pt = omega (arith, places_behind b2 b3 cs f3, p2) in
      let f4 : b4 ≡ with_pieces b3 (map whole ce) = e4 ∙ ap (λ (y : ℕ). with_pieces b3 (map whole (expression_code number here t y e))) p3 in
      let p4 : length b4.pieces ≡ pt + length ce = omega (arith, places_behind b3 b4 (map whole ce) f4, p3, length-map ce whole) in
      let p5 : length b5.pieces ≡ px = omega (arith, places_step b4 b5 (Branch condition true start) e5, p4) in
      let start_is : start ≡ pc + 1 = at_start ∙ p1 in
      let onward_is : onward ≡ py = at_onward ∙ p2 in
      let test_is : test ≡ pt = at_test ∙ p3 in
      let condition_is = at_condition in
      let end_is : end ≡ px = at_end ∙ p5 in
      let branch = Branch (stands_at here e t) true (pc + 1) in
      let f5 : b5 ≡ with_step b4 branch = e5 ∙ ap₂ (λ (x y : ℕ). with_step b4 (Branch x true y)) condition_is start_is in
      let held = whole ReturnNone in
      let tail = map whole ce ++ whole branch ∷ [] in
      let g5 : b5 ≡ body_of (b0.pieces ++ held ∷ (ca ++ (cs ++ tail))) =
      f5 ∙ ap (λ (z : Built). with_step z branch) (f4 ∙ ap (λ (z : Built). with_pieces z (map whole ce)) (f3
      ∙ ap (λ (z : Built). with_pieces z cs) (f2 ∙ ap (λ (z : Built). with_pieces z ca) e1)))
      ∙ ap body_of (flat_loop b0.pieces ca cs (map whole ce) (whole branch ∷ []) held) in
      let second_is : onward ≡ pc + 1 + length ca = onward_is in
      let na : n ≡ length ca = omega (arith, n_is, onward_is, start_is) in
      let ns : m ≡ length cs = omega (arith, m_is, onward_is, test_is) in
      let na' = statement_as_long number at px py t (pc + 1) body in
      let ns' = statement_as_long number at px pt t py step in
      let py' = pc + 1 + length (statement_code number at t 0 0 0 body) in
      let pt' = py' + length (statement_code number at t 0 0 0 step) in
      let px' = pt' + length (expression_code number here t 0 e) + 1 in
      let ne' = expression_length number here e t pt 0 in
      let qy : py ≡ py' = omega (arith, na') in
      let qt : pt ≡ pt' = omega (arith, na', ns') in
      let qx : px ≡ px' = omega (arith, na', ns', ne') in
      let py'' = pc + 1 + length (statement_code number at t px' py' (pc + 1) body) in
      let pt'' = py'' + length (statement_code number at t px' pt' py'' step) in
      let na'' = statement_length number at body t px' py' (pc + 1) 0 0 0 in
      let ns'' = statement_length number at step t px' pt' py'' 0 0 0 in
      let sy : py' ≡ py'' = omega (arith, na'') in
      let st : pt' ≡ pt'' = omega (arith, na'', ns'') in
      e8
      ∙ ap (λ (z : Built). with_settled z onward m end test) (e7 ∙ ap (λ (z : Built). with_settled z start n end onward) (e6
      ∙ ap (λ (z : Built). with_step_at z jump (Jump test)) g5))
      ∙ ap body_of (two_settled b0.pieces ca cs tail held (whole (Jump test)) jump start onward n m end onward test at_jump start_is na second_is ns
      ∙ loop_same b0.pieces end onward test (Jump test) ca cs ce branch (statement_code number at t end onward (pc + 1) body)
      (statement_code number at t end test py step) (statement_placed number at end onward t (pc + 1) body) (statement_placed number at end test t py step))
      ∙ ap₂ (λ (x y : ℕ). body_of (b0.pieces ++ map whole (Jump test ∷ (statement_code number at t x y (pc + 1) body
      ++ (statement_code number at t x test py step ++ (ce ++ branch ∷ [])))))) (end_is ∙ qx) (onward_is ∙ qy)
      ∙ ap₂ (λ (x y : ℕ). body_of (b0.pieces ++ map whole (Jump x ∷ (statement_code number at t px' py' (pc + 1) body
      ++ (statement_code number at t px' x y step ++ (ce ++ branch ∷ [])))))) (test_is ∙ qt) qy
      ∙ ap (λ (x : ℕ). body_of (b0.pieces ++ map whole (Jump pt' ∷ (statement_code number at t px' py' (pc + 1) body
      ++ (statement_code number at t px' pt' py' step ++ (expression_code number here t x e ++ branch ∷ [])))))) qt
      ∙ ap₂ (λ (x y : ℕ). body_of (b0.pieces ++ map whole (Jump y ∷ (statement_code number at t px' py' (pc + 1) body
      ++ (statement_code number at t px' pt' x step ++ (expression_code number here t y e ++ branch ∷ [])))))) sy st

  pub do_made : (body : TypedStatementTree) (b0 b1 b2 b3 b4 : Built) (start test condition end n : ℕ)
      → b1 ≡ with_statement number at b0 body → b2 ≡ with_expression number at.here b1 (first_free at.here.slots) e → b3 ≡ with_step b2 (Branch condition true start)
      → b4 ≡ with_settled b3 start n end test → start ≡ length b0.pieces → test ≡ length b1.pieces → condition ≡ stands_at at.here e (first_free at.here.slots)
      → end ≡ length b3.pieces → n ≡ test - start
      → b4 ≡ with_statement number at b0 (do_statement body e)
  do_made body b0 b1 b2 b3 b4 start test condition end n e1 e2 e3 e4 at_start at_test at_condition at_end n_is =
      let here = at.here in
      let t = first_free here.slots in
      let pc = length b0.pieces in
      let ca = statement_pieces number at t pc body in
      let pt = pc + length ca in
      let ce = expression_code number here t pt e in
      let px = pt + length ce + 1 in
      let p1 : length b1.pieces ≡ pt = places_behind b0 b1 ca e1 in
      let f2 : b2 ≡ with_pieces b1 (map whole ce) = e2 ∙ ap (λ (y : ℕ). with_pieces b1 (map whole (expression_code number here t y e))) p1 in
      let p2 : length b2.pieces ≡ pt + length ce = omega (arith, places_behind b1 b2 (map whole ce) f2, p1, length-map ce whole) in
      let p3 : length b3.pieces ≡ px = omega (arith, places_step b2 b3 (Branch condition true start) e3, p2) in
      let test_is : test ≡ pt = at_test ∙ p1 in
      let condition_is = at_condition in
      let end_is : end ≡ px = at_end ∙ p3 in
      let branch = Branch (stands_at here e t) true pc in
      let f3 : b3 ≡ with_step b2 branch = e3 ∙ ap₂ (λ (x y : ℕ). with_step b2 (Branch x true y)) condition_is at_start in
      let tail = map whole ce ++ whole branch ∷ [] in
      let g3 : b3 ≡ body_of ((b0.pieces ++ ca) ++ tail) =
      f3 ∙ ap (λ (z : Built). with_step z branch) (f2 ∙ ap (λ (z : Built). with_pieces z (map whole ce)) e1)
      ∙ ap body_of (append_assoc (b0.pieces ++ ca) (map whole ce) (whole branch ∷ [])) in
      let na : n ≡ length ca = omega (arith, n_is, test_is, at_start) in
      let na' = statement_as_long number at px pt t pc body in
      let pt' = pc + length (statement_code number at t 0 0 0 body) in
      let px' = pt' + length (expression_code number here t 0 e) + 1 in
      let ne' = expression_length number here e t pt 0 in
      let qt : pt ≡ pt' = omega (arith, na') in
      let qx : px ≡ px' = omega (arith, na', ne') in
      let pt'' = pc + length (statement_code number at t px' pt' pc body) in
      let na'' = statement_length number at body t px' pt' pc 0 0 0 in
      let st : pt ≡ pt'' = omega (arith, na', na'') in
      e4
      ∙ ap (λ (z : Built). with_settled z start n end test) g3
      ∙ ap body_of (one_settled b0.pieces ca tail start n end test at_start na
      ∙ do_same b0.pieces end test ca ce branch (statement_code number at t end test pc body) (statement_placed number at end test t pc body))
      ∙ ap₂ (λ (x y : ℕ). body_of (b0.pieces ++ map whole (statement_code number at t x y pc body ++ (ce ++ branch ∷ [])))) (end_is ∙ qx) (test_is ∙ qt)
      ∙ ap (λ (x : ℕ).
      body_of (b0.pieces ++ map whole (statement_code number at t px' pt' pc body ++ (expression_code number here t x e ++ branch ∷ [])))) st
