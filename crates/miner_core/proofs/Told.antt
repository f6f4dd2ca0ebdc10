-- Where a source tells its words, a tape is known with which all is said of a miner that draws.
use Rattle.std.proofs.Common.{◌≡◌, ℕ, List, ◌++◌, if◌then◌else◌, length, drop, true, sym, ◌∙◌, ap}
use Rattle.std.proofs.Math.Seq.{drop-append_seam}
use Rattle.outside.specs.Tapes.{TapesState, Drew, left_of}
use Rattle.gate_node.specs.Nodes.{IsTapeOf}

-- its words are a tape that begins with those drawn, and has as many after them as are left
pub told_tape :
    (s t : TapesState) (party : ℕ) (taken : List ℕ) → s.told ≡ true → Drew s t party taken → IsTapeOf taken (left_of t party) (s.words party)
told_tape s t party taken told drew =
    let words : s.words party ≡ taken ++ t.words party = drew.words told in
    let rest : drop (length taken) (s.words party) ≡ t.words party = ap (drop (length taken)) words ∙ drop-append_seam taken (t.words party) in
    let left : left_of s party ≡ length (s.words party) = ap (λ b. if b then length (s.words party) else s.count party) told in
    record { begins = words ∙ ap (λ r. taken ++ r) (sym rest); counted = sym left ∙ drew.fewer }
