-- The pieces of an `if`.
use Rattle.std.proofs.Common.{◌≡◌, ℕ, ◌+◌, List, [], ◌∷◌, ◌++◌, length, ap, ap₂, ◌∙◌, arith, append_assoc, length-append, false}
use Rattle.std.specs.Prelude.{map, slice_set}
use Rattle.std.proofs.lemmas.List.{length-map}
use Rattle.verified_code.specs.Steps.{Step, Branch, Jump, ReturnNone}
use Rattle.lowered_expressions.specs.Built.{BodyPiece, whole, Built, with_step, with_step_at, with_steps}
use Rattle.lowered_expressions.proofs.Building.{body_of}
use Rattle.lowering.specs.inner.Pieces.{with_pieces, if_pieces}
use Rattle.lowering.proofs.Behind.{places_behind, places_step, two_writes}

-- lists of pieces one after another
behind_all : (b0 b1 b2 b3 b4 b5 : Built) (c : List Step) (a b : List BodyPiece) → b1 ≡ with_steps b0 c → b2 ≡ with_step b1 ReturnNone
    → b3 ≡ with_pieces b2 a → b4 ≡ with_step b3 ReturnNone → b5 ≡ with_pieces b4 b
    → b5 ≡ body_of (((((b0.pieces ++ map whole c) ++ whole ReturnNone ∷ []) ++ a) ++ whole ReturnNone ∷ []) ++ b)
behind_all b0 b1 b2 b3 b4 b5 c a b e1 e2 e3 e4 e5 =
    e5
    ∙ ap (λ (z : Built). with_pieces z b) (e4 ∙ ap (λ (z : Built). with_step z ReturnNone) (e3
    ∙ ap (λ (z : Built). with_pieces z a) (e2 ∙ ap (λ (z : Built). with_step z ReturnNone) e1)))

pub if_made : (b0 b1 b2 b3 b4 b5 b6 b7 : Built) (ce : (pc : ℕ) → List Step) (a b : (pc : ℕ) → List BodyPiece)
    (condition t branch jump target end : ℕ)
    → b1 ≡ with_steps b0 (ce (length b0.pieces)) → b2 ≡ with_step b1 ReturnNone
    → b3 ≡ with_pieces b2 (a (length b2.pieces)) → b4 ≡ with_step b3 ReturnNone
    → b5 ≡ with_pieces b4 (b (length b4.pieces)) → b6 ≡ with_step_at b5 branch (Branch condition false target)
    → b7 ≡ with_step_at b6 jump (Jump end) → condition ≡ t → branch ≡ length b1.pieces
    → jump ≡ length b3.pieces → target ≡ length b4.pieces → end ≡ length b5.pieces
    → b7 ≡ with_pieces b0 (if_pieces (length b0.pieces) t (ce (length b0.pieces)) a b)
if_made b0 b1 b2 b3 b4 b5 b6 b7 ce a b condition t branch jump target end e1 e2 e3 e4 e5 e6 e7 at_condition at_branch at_jump
    at_target at_end =
    let pc = length b0.pieces in
    let c = ce pc in
    let pa = pc + length c + 1 in
    let p1 = places_behind b0 b1 (map whole c) e1 in
    let nc = length-map c whole in
    let p2 : length b2.pieces ≡ pa = omega (arith, p1, nc, places_step b1 b2 ReturnNone e2) in
    let ca = a pa in
    let f3 : b3 ≡ with_pieces b2 ca = e3 ∙ ap (λ (y : ℕ). with_pieces b2 (a y)) p2 in
    let pb = pa + length ca + 1 in
    let p3 = places_behind b2 b3 ca f3 in
    let p4 : length b4.pieces ≡ pb = omega (arith, p2, p3, places_step b3 b4 ReturnNone e4) in
    let cb = b pb in
    let f5 : b5 ≡ with_pieces b4 cb = e5 ∙ ap (λ (y : ℕ). with_pieces b4 (b y)) p4 in
    let p5 : length b5.pieces ≡ pb + length cb = omega (arith, p4, places_behind b4 b5 cb f5) in
    let front = b0.pieces ++ map whole c in
    let nf : length front ≡ pc + length c = omega (arith, length-append b0.pieces (map whole c), nc) in
    let there : branch ≡ length front = omega (arith, at_branch, p1, nc, nf) in
    let here : jump ≡ length front + 1 + length ca = omega (arith, at_jump, p2, p3, nf) in
    let to_target : target ≡ pb = at_target ∙ p4 in
    let to_end : end ≡ pb + length cb = at_end ∙ p5 in
    let all = behind_all b0 b1 b2 b3 b4 b5 c ca cb e1 e2 f3 e4 f5 in
    let held = ((((front ++ whole ReturnNone ∷ []) ++ ca) ++ whole ReturnNone ∷ []) ++ cb) in
    e7
    ∙ ap (λ (z : Built). with_step_at z jump (Jump end)) (e6 ∙ ap (λ (z : Built). with_step_at z branch (Branch condition false target)) all)
    ∙ ap (λ (z : ℕ). body_of (slice_set (slice_set held branch (whole (Branch z false target))) jump (whole (Jump end)))) at_condition
    ∙ ap₂ (λ (x y : ℕ). body_of (slice_set (slice_set held branch (whole (Branch t false x))) jump (whole (Jump y)))) to_target to_end
    ∙ ap body_of
    (two_writes front ca cb (whole ReturnNone) (whole ReturnNone) (whole (Branch t false pb)) (whole (Jump (pb + length cb))) branch jump there here
    ∙ append_assoc b0.pieces (map whole c) (whole (Branch t false pb) ∷ (ca ++ whole (Jump (pb + length cb)) ∷ cb)))
