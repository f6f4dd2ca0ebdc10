-- The body of a function, once its end is known, is the function's code.
use Rattle.std.proofs.Common.{◌≡◌, ℕ, zero, suc, ◌+◌, ◌*◌, true, false, refl, List, [], ◌∷◌, ◌++◌, length, sym, ap, ap₂, ◌∙◌, arith, append_assoc}
use Rattle.std.proofs.Common.{length-append}
use Rattle.std.specs.Prelude.{map, Option}
use Rattle.std.proofs.lemmas.List.{length-map, map-append}
use Rattle.program_trees.specs.TypedPrograms.{TypedFunctionTree}
use Rattle.reached_instances.specs.declared.instance.BoundDomain.{BoundDomain}
use Rattle.language_model.specs.Evaluation.{place_in}
use Rattle.bytecode.specs.declared.kind.Kind.{Kind}
use Rattle.verified_code.specs.Steps.{Step, Function}
use Rattle.code_model.specs.Kinds.{slot_kind, shape_kinds, rows_kinds}
use Rattle.code_model.specs.Expressions.{Numbers}
use Rattle.code_model.specs.Statements.{defaults_behind, first_free, statements_depth, statements_code}
use Rattle.code_model.specs.Programs.{given_kind, last_kinds, last_step, body_end, function_code}
use Rattle.code_model.proofs.Widths.{rows_length}
use Rattle.lowered_expressions.specs.Built.{BodyPiece, whole, Built, with_step}
use Rattle.lowered_expressions.proofs.Building.{body_of}
use Rattle.lowering.specs.inner.Pieces.{placed, statements_pieces, with_statements}
use Rattle.lowering.proofs.Placed.{statements_placed}

abbrev pub function_of : ℕ → Option Kind → List Kind → List Step → Function
function_of p g x y = record { parameters = p; gives = g; kinds = x; steps = y }

four_kinds : (k d c l : List Kind) → ((k ++ d) ++ c) ++ l ≡ k ++ (d ++ (c ++ l))
four_kinds k d c l = simp append_assoc

behind_rows : (a b k : List Kind) → ((a ++ (b ++ k)) ++ a) ++ b ≡ a ++ (b ++ ((k ++ a) ++ b))
behind_rows a b k = simp append_assoc

behind_others : (r k a b : List Kind) → ((r ++ k) ++ a) ++ b ≡ r ++ ((k ++ a) ++ b)
behind_others r k a b = simp append_assoc

-- a row more
rows_more : (n : ℕ) → (rows_kinds n ++ shape_kinds false) ++ shape_kinds true ≡ rows_kinds (suc n)
rows_more zero = refl
rows_more (suc n) =
    behind_rows (shape_kinds false) (shape_kinds true) (rows_kinds n)
    ∙ ap (λ (z : List Kind). shape_kinds false ++ (shape_kinds true ++ z)) (rows_more n)

pub rows_pushed : (r : List Kind) (n : ℕ) → ((r ++ rows_kinds n) ++ shape_kinds false) ++ shape_kinds true ≡ r ++ rows_kinds (n + 1)
rows_pushed r n =
    let one : suc n ≡ n + 1 = omega arith in
    behind_others r (rows_kinds n) (shape_kinds false) (shape_kinds true)
    ∙ ap (λ (z : List Kind). r ++ z) (rows_more n ∙ ap rows_kinds one)

pub function_made : (number : Numbers) (fs : List TypedFunctionTree) (f : TypedFunctionTree) (b : List BoundDomain) (r0 r1 r2 : List Kind) (b1 b2 : Built)
    (end : ℕ) (steps : List Step)
    → r0 ≡ map (slot_kind b) f.slots ++ defaults_behind f.slots
    → r1 ≡ r0 ++ rows_kinds (statements_depth f.body)
    → b1 ≡ with_statements number (place_in fs f b) (body_of []) f.body → end ≡ length b1.pieces
    → b2 ≡ with_step b1 (last_step f.given (length r1)) → r2 ≡ r1 ++ last_kinds b f.given
    → steps ≡ map (placed end end) b2.pieces
    → function_of f.parameters (given_kind b f.given) r2 steps ≡ function_code number fs f b
function_made number fs f b r0 r1 r2 b1 b2 end steps first rows e1 at_end e2 all made =
    let at = place_in fs f b in
    let ks = map (slot_kind b) f.slots in
    let ds = defaults_behind f.slots in
    let ff = first_free f.slots in
    let ck = rows_kinds (statements_depth f.body) in
    let lk = last_kinds b f.given in
    let n : length r0 ≡ ff =
    ap length first ∙ length-append ks ds ∙ ap (λ (x : ℕ). x + length ds) (length-map f.slots (slot_kind b)) in
    let ps = statements_pieces number at ff 0 f.body in
    let nr = ap length rows ∙ length-append r0 ck in
    let r : length r1 ≡ ff + 12 * statements_depth f.body = omega (arith, nr, n, rows_length (statements_depth f.body)) in
    let long : length ps ≡ body_end number fs f b =
    sym (length-map ps (placed 0 0)) ∙ ap length (statements_placed number at 0 0 ff 0 f.body) in
    let stop : end ≡ body_end number fs f b = at_end ∙ ap (λ (z : Built). length z.pieces) e1 ∙ long in
    let last = last_step f.given (ff + 12 * statements_depth f.body) in
    let kinds : r2 ≡ ks ++ (ds ++ (ck ++ lk)) =
    all ∙ ap (λ (z : List Kind). z ++ lk) rows ∙ ap (λ (z : List Kind). (z ++ ck) ++ lk) first ∙ four_kinds ks ds ck lk in
    let code : steps ≡ statements_code number at ff (body_end number fs f b) (body_end number fs f b) 0 f.body ++ last ∷ [] =
    made
    ∙ ap (λ (z : Built). map (placed end end) z.pieces) e2
    ∙ map-append (placed end end) b1.pieces (whole (last_step f.given (length r1)) ∷ [])
    ∙ ap₂ (λ (x : List BodyPiece) (y : ℕ). map (placed end end) x ++ last_step f.given y ∷ []) (ap (λ (z : Built). z.pieces) e1) r
    ∙ ap (λ (x : List Step). x ++ last ∷ []) (statements_placed number at end end ff 0 f.body)
    ∙ ap (λ (x : ℕ). statements_code number at ff x x 0 f.body ++ last ∷ []) stop in
    ap₂ (λ (x : List Kind) (y : List Step). function_of f.parameters (given_kind b f.given) x y) kinds code
