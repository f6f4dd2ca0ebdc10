-- A journal is begun: until its first gate is written no crash leaves one that is begun, and then one without records.
use Rattle.std.proofs.Common.{◌≡◌, ◌≢◌, ◌≤◌, ◌<◌, ◌+◌, ℕ, false, inl, inr, List, []}
use Rattle.std.proofs.Common.{◌∷◌, ◌++◌, length, drop, get_or, refl, sym, ◌∙◌, ap, subst, arith, append_assoc}
use Rattle.std.proofs.lemmas.List.{append-nil}
use Rattle.std.proofs.lemmas.Bool.{cases_eq}
use Rattle.kept_disk.specs.Images.{DiskFile, EachMoment, IsImage, LeavesOnly, given_more, overlaid, settled}
use Rattle.miner_journal.specs.Format.{IsSettled, StandsFor, is_begun}
use Rattle.miner_journal.specs.Calls.{CanBeFilled, Gains, IsOnDisk}
use Rattle.miner_journal.proofs.Moments.{gains_each, joined, only_kept}
use Rattle.miner_journal.proofs.Standing.{front, not_begun_is_empty, short_is_not, shut_is_not, shut_stands}
use Rattle.miner_journal.proofs.Torn.{overlaid_inside, torn_behind, torn_gate, written_behind, written_gate}

abbrev NotBegun : List ℕ → Type 0
NotBegun c = is_begun c ≡ false

-- ---- a file of under 98 bytes

module _ (f0 : DiskFile) (short : length f0.seen < 98) (synced : f0.now ≡ settled f0.seen) where
  cleared_is : overlaid f0.seen 0 (0 ∷ []) ≡ 0 ∷ drop 1 f0.seen
  cleared_is = let inside : 0 ≤ length f0.seen = omega arith in overlaid_inside f0.seen 0 (0 ∷ []) inside

  short_image : LeavesOnly (given_more f0.now 0 1) NotBegun
  short_image c im =
      let at : IsImage (given_more (settled f0.seen) 0 1) c = subst (λ m. IsImage (given_more m 0 1) c) synced im in
      let a = at.no_longer in
      short_is_not c (omega (arith, a, short))

  pub clears : (f1 : DiskFile) → Gains (given_more f0.now 0 1) (settled (overlaid f0.seen 0 (0 ∷ []))) f0 f1 → EachMoment f0 f1 NotBegun
  clears f1 k =
      gains_each _ _ f0 f1 NotBegun k (only_kept f0.now f0.seen NotBegun synced (short_is_not f0.seen short)) short_image
      (only_kept _ (0 ∷ drop 1 f0.seen) NotBegun (ap settled cleared_is) (shut_is_not 0 (drop 1 f0.seen) (λ e. absurd (omega (arith, e)))))

  pub cleared : (f1 : DiskFile) → IsOnDisk (overlaid f0.seen 0 (0 ∷ [])) f1 → CanBeFilled f1
  cleared f1 h = record {
    first = 0;
    rest = drop 1 f0.seen;
    shut = λ e. absurd (omega (arith, e));
    are = h.seen ∙ cleared_is;
    synced = h.now ∙ ap settled (sym h.seen);
  }

-- ---- the digests and the gate after them, and then the first gate

module _ (sums : List ℕ) (long : length sums ≡ 96) (f0 : DiskFile) (can : CanBeFilled f0) where
  abbrev body : List ℕ
  body = sums ++ 0 ∷ []

  abbrev left : List ℕ
  left = drop (0 + 1 + length body) (can.first ∷ can.rest)

  body_is : body ++ left ≡ sums ++ 0 ∷ left
  body_is = append_assoc sums (0 ∷ []) left

  zero_long : length {A = ℕ} [] ≡ 0
  zero_long = refl

  abbrev Empty : List ℕ → Type 0
  Empty = StandsFor sums []

  to_empty : (c : List ℕ) → NotBegun c → Empty c
  to_empty c h = not_begun_is_empty sums c h

  shut_empty : (first : ℕ) (rest : List ℕ) → first ≢ 1 → Empty (first ∷ rest)
  shut_empty first rest shut = to_empty (first ∷ rest) (shut_is_not first rest shut)

  now0 : f0.now ≡ settled (can.first ∷ can.rest)
  now0 = can.synced ∙ ap settled can.are

  with_body : overlaid f0.seen 1 body ≡ can.first ∷ (sums ++ 0 ∷ left)
  with_body = ap (λ v. overlaid v 1 body) can.are ∙ written_behind [] can.first can.rest 0 zero_long body ∙ ap (λ v. can.first ∷ v) body_is

  leaves1 : LeavesOnly (given_more f0.now 1 (length body)) Empty
  leaves1 c im =
      let is = torn_behind [] can.first can.rest 0 zero_long (length body) c (subst (λ m. IsImage (given_more m 1 (length body)) c) now0 im) in
      subst Empty (sym is) (shut_empty can.first (drop (0 + 1) c) can.shut)

  pub body_each : (f1 : DiskFile) → Gains (given_more f0.now 1 (length body)) (settled (overlaid f0.seen 1 body)) f0 f1 → EachMoment f0 f1 Empty
  body_each f1 k =
      gains_each _ _ f0 f1 Empty k (only_kept f0.now (can.first ∷ can.rest) Empty now0 (shut_empty can.first can.rest can.shut)) leaves1
      (only_kept _ (can.first ∷ (sums ++ 0 ∷ left)) Empty (ap settled with_body) (shut_empty can.first (sums ++ 0 ∷ left) can.shut))

  begun_front : front sums long [] ≡ 1 ∷ sums
  begun_front = append-nil (1 ∷ sums)

  begun : (rest : List ℕ) → Empty (1 ∷ (sums ++ 0 ∷ rest))
  begun rest = subst (λ v. Empty (v ++ 0 ∷ rest)) begun_front (shut_stands sums long [] tt 0 rest (λ e. absurd (omega (arith, e))))

  module _ (f1 : DiskFile) (h : IsOnDisk (overlaid f0.seen 1 body) f1) where
    seen1 : f1.seen ≡ can.first ∷ (sums ++ 0 ∷ left)
    seen1 = h.seen ∙ with_body

    now1 : f1.now ≡ settled (can.first ∷ (sums ++ 0 ∷ left))
    now1 = h.now ∙ ap settled with_body

    with_gate : overlaid f1.seen 0 (1 ∷ []) ≡ 1 ∷ (sums ++ 0 ∷ left)
    with_gate = ap (λ v. overlaid v 0 (1 ∷ [])) seen1 ∙ written_gate [] can.first (sums ++ 0 ∷ left) 0 zero_long 1

    by_gate : (g : ℕ) → Empty (g ∷ (sums ++ 0 ∷ left))
    by_gate g = elim (cases_eq g 1) [
      | inl one ↦ subst (λ v. Empty (v ∷ (sums ++ 0 ∷ left))) (sym one) (begun left)
      | inr shut ↦ shut_empty g (sums ++ 0 ∷ left) shut
    ]

    leaves3 : LeavesOnly (given_more f1.now 0 1) Empty
    leaves3 c im =
        let is = torn_gate [] can.first (sums ++ 0 ∷ left) 0 zero_long c (subst (λ m. IsImage (given_more m 0 1) c) now1 im) in
        subst Empty (sym is) (by_gate (get_or c 0 0))

    pub gate_each : (f2 : DiskFile) → Gains (given_more f0.now 1 (length body)) (settled (overlaid f0.seen 1 body)) f0 f1
        → Gains (given_more f1.now 0 1) (settled (overlaid f1.seen 0 (1 ∷ []))) f1 f2 → EachMoment f0 f2 Empty
    gate_each f2 k l =
        joined f0 f1 f2 Empty (body_each f1 k)
        (gains_each _ _ f1 f2 Empty l
        (only_kept f1.now (can.first ∷ (sums ++ 0 ∷ left)) Empty now1 (shut_empty can.first (sums ++ 0 ∷ left) can.shut)) leaves3
        (only_kept _ (1 ∷ (sums ++ 0 ∷ left)) Empty (ap settled with_gate) (begun left)))

    pub begun_there : (f2 : DiskFile) → IsOnDisk (overlaid f1.seen 0 (1 ∷ [])) f2 → IsSettled sums [] f2 97
    begun_there f2 g = record {
      gate = 0;
      tail = left;
      shut = λ e. absurd (omega (arith, e));
      walked = record {
        sums_long = long;
        good = tt;
        are = g.seen ∙ with_gate ∙ ap (λ v. v ++ 0 ∷ left) (sym begun_front);
        placed = refl;
      };
      synced = g.now ∙ ap settled (sym g.seen);
    }
