-- One part of a body's code after another.
use Rattle.std.proofs.Common.{◌≡◌, ℕ, ◌+◌, List, ◌++◌, length, sym, ap, ◌∙◌, append_assoc, length-append}
use Rattle.std.specs.Prelude.{map}
use Rattle.std.proofs.lemmas.List.{map-append, length-map}
use Rattle.verified_code.specs.Steps.{Step}
use Rattle.lowered_expressions.specs.Built.{BodyPiece, whole, Built, with_steps}

abbrev pub body_of : List BodyPiece → Built
body_of ps = record { pieces = ps }

pub then_steps : (b : Built) (c d : List Step) → with_steps (with_steps b c) d ≡ with_steps b (c ++ d)
then_steps b c d =
    ap body_of
    (append_assoc b.pieces (map whole c) (map whole d) ∙ ap (λ (z : List BodyPiece). b.pieces ++ z) (sym (map-append whole c d)))

pub places_more : (b : Built) (c : List Step) → length (with_steps b c).pieces ≡ length b.pieces + length c
places_more b c = length-append b.pieces (map whole c) ∙ ap (λ n. length b.pieces + n) (length-map c whole)

-- two parts, of which the second one hangs on where it stands
pub two_parts : (b f g : Built) (c : List Step) (rest : (p : ℕ) → List Step) → f ≡ with_steps b c → g ≡ with_steps f (rest (length f.pieces))
    → g ≡ with_steps b (c ++ rest (length b.pieces + length c))
two_parts b f g c rest e h =
    let p : length f.pieces ≡ length b.pieces + length c = ap (λ (z : Built). length z.pieces) e ∙ places_more b c in
    h
    ∙ ap (λ (x : ℕ). with_steps f (rest x)) p
    ∙ ap (λ (z : Built). with_steps z (rest (length b.pieces + length c))) e
    ∙ then_steps b c (rest (length b.pieces + length c))

-- steps after a part
pub stepped : (f g h : Built) (c d : List Step) → g ≡ with_steps f c → h ≡ with_steps g d → h ≡ with_steps f (c ++ d)
stepped f g h c d e i = i ∙ ap (λ (z : Built). with_steps z d) e ∙ then_steps f c d
