-- The code of a connective that is cut short.
use Rattle.std.proofs.Common.{◌≡◌, ℕ, ◌+◌, Bool, List, [], ◌∷◌, ◌++◌, length, refl, sym, ap, ap₂, ◌∙◌, arith, append_assoc, length-append}
use Rattle.std.specs.Prelude.{map, slice_set}
use Rattle.std.proofs.lemmas.List.{map-append, length-map, length_push, set_at}
use Rattle.program_trees.specs.declared.operators.Connective.{Connective}
use Rattle.verified_code.specs.Steps.{Step, Branch}
use Rattle.code_model.specs.Expressions.{deciding}
use Rattle.lowered_expressions.specs.Built.{BodyPiece, whole, Built, with_step, with_steps}
use Rattle.lowered_expressions.specs.Parts.{cut_end, cut_closed, cut_rest}
use Rattle.lowered_expressions.proofs.Building.{body_of}

-- a piece that was held is set, once what stands after it is known
pub set_behind : (ps : List BodyPiece) (x y : BodyPiece) (m e : List BodyPiece) → slice_set (((ps ++ x ∷ []) ++ m) ++ e) (length ps) y ≡ ps ++ y ∷ (m ++ e)
set_behind ps x y m e =
    let flat : ((ps ++ x ∷ []) ++ m) ++ e ≡ ps ++ x ∷ (m ++ e) = simp append_assoc in
    ap (λ (z : List BodyPiece). slice_set z (length ps) y) flat ∙ set_at ps x (m ++ e) y (length ps) refl

pub cut_made : (b d f g : Built) (held : Step) (cb : (pc : ℕ) → List Step) (c : Connective) (secret : Bool)
    (to beside left value branch : ℕ)
    → d ≡ with_step b held → f ≡ with_steps d (cb (length d.pieces)) → g ≡ cut_closed f c secret to beside left value branch
    → branch ≡ length b.pieces
    → g ≡ with_steps b (cut_rest to beside left value (length b.pieces) c secret cb)
cut_made b d f g held cb c secret to beside left value branch e h i at =
    let p = length b.pieces in
    let k : length d.pieces ≡ p + 1 = ap (λ (z : Built). length z.pieces) e ∙ length_push b.pieces (whole held) in
    let code = cb (p + 1) in
    let q : f ≡ with_steps (with_step b held) code = h ∙ ap (λ (y : ℕ). with_steps d (cb y)) k ∙ ap (λ (z : Built). with_steps z code) e in
    let m : length f.pieces ≡ p + 1 + length code =
    ap (λ (z : Built). length z.pieces) q ∙ length-append (b.pieces ++ whole held ∷ []) (map whole code)
    ∙ ap₂ (λ (x y : ℕ). x + y) (length_push b.pieces (whole held)) (length-map code whole) in
    let pd = p + 1 + length code + 2 in
    let over : length f.pieces + 4 ≡ pd + 2 = omega (arith, m) in
    let there : length f.pieces + 2 ≡ pd = omega (arith, m) in
    let tail = cut_end c secret to beside value (pd + 2) in
    let end : cut_end c secret to beside value (length f.pieces + 4) ≡ tail = ap (cut_end c secret to beside value) over in
    let set = whole (Branch left (deciding c) pd) in
    i
    ∙ ap (λ (z : List Step). body_of (slice_set (f.pieces ++ map whole z) branch (whole (Branch left (deciding c) (length f.pieces + 2))))) end
    ∙ ap (λ (z : ℕ). body_of (slice_set (f.pieces ++ map whole tail) branch (whole (Branch left (deciding c) z)))) there
    ∙ ap (λ (z : ℕ). body_of (slice_set (f.pieces ++ map whole tail) z set)) at
    ∙ ap (λ (z : Built). body_of (slice_set (z.pieces ++ map whole tail) p set)) q
    ∙ ap body_of (set_behind b.pieces (whole held) set (map whole code) (map whole tail))
    ∙ ap (λ (z : List BodyPiece). body_of (b.pieces ++ set ∷ z)) (sym (map-append whole code tail))
