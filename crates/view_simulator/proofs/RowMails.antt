-- The messages that the rows push are those of a block.
use Rattle.std.proofs.Common.{◌≡◌, ℕ, ◌*◌, List, [], ◌∷◌, ◌++◌, length, take, sym, ◌∙◌, ap, arith}
use Rattle.proto_core.specs.Ring.{Ring}
use Rattle.proto_core.specs.declared.party.Number.{Number}
use Rattle.proto_core.specs.Parties.{next_of, previous_of}
use Rattle.proto_core.specs.Lists.{part}
use Rattle.multiply.specs.Multiplying.{mul_protocol}
use Rattle.joint_run.specs.Three.{each_of}
use Rattle.view_simulator.specs.declared.mails.Mails.{Mails}
use Rattle.view_simulator.specs.Sources.{SourceWords, IsDrawn, Brings, block_mail}
use Rattle.view_simulator.proofs.Acceptance.{mul-previous, mul-next}
use Rattle.view_simulator.proofs.RowPieces.{two-fields, drawn-at, two-brought}

module _ (s : SourceWords) (i : Number) (before : Mails) where
  abbrev w : Number → List ℕ
  w = each_of s.words

  abbrev n : ℕ
  n = length s.u

  pub product-brings :
      (r : Ring) (first after : Mails) (x y : List ℕ) → IsDrawn (mul_protocol r) s → x ≡ w (previous_of i) → y ≡ w (next_of i) →
      first.previous ≡ before.previous ++ x ∷ [] → first.next ≡ before.next →
      after.previous ≡ first.previous ++ take (2 * n) y ∷ [] → after.next ≡ first.next →
      Brings i (block_mail (mul_protocol r) i s) before after
  product-brings r first after x y drawn is_x is_y p1 n1 p2 n2 =
      let size : length (w (next_of i)) ≡ 3 * n = drawn-at (mul_protocol r) s drawn (next_of i) in
      let factors : take (2 * n) y ≡ part n 0 (w (next_of i)) ++ part n 1 (w (next_of i)) =
      ap (take (2 * n)) is_y ∙ two-fields n (w (next_of i)) (omega arith) in
      two-brought i (block_mail (mul_protocol r) i s) before first after x (take (2 * n) y) p1 n1 p2 n2
      (mul-previous n i w ∙ ap (λ a. a ∷ (part n 0 (w (next_of i)) ++ part n 1 (w (next_of i))) ∷ []) (sym is_x) ∙ ap (λ b. x ∷ b ∷ []) (sym factors))
      (mul-next n i w)
