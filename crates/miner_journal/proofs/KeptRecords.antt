-- A record is kept: at each moment a crash leaves the records without it or with it.
use Rattle.std.proofs.Common.{◌≡◌, ◌≢◌, ◌+◌, ℕ, inl, List, [], ◌∷◌, ◌++◌, length, drop, get_or, sym, ◌∙◌, ap, subst, arith, append_assoc}
use Rattle.wire.specs.Frames.{IsFrameable}
use Rattle.kept_disk.specs.Images.{DiskFile, EachMoment, IsImage, LeavesOnly, given_more, overlaid, settled}
use Rattle.kept_frames.specs.Kept.{Kept, AllGood}
use Rattle.miner_journal.specs.Format.{IsSettled, StandsFor, WithOrWithout, record_bytes}
use Rattle.miner_journal.specs.Calls.{Gains, IsOnDisk}
use Rattle.miner_journal.proofs.Moments.{gains_each, joined, only_kept}
use Rattle.miner_journal.proofs.Standing.{blocks_length, either_stands, front, front_long, good_more, opened_is, shut_stands}
use Rattle.miner_journal.proofs.Torn.{torn_behind, torn_gate, written_behind, written_gate}

module _ (sums : List ℕ) (rs : List Kept) (a : Kept) (one : IsFrameable a.words) (place : ℕ) (f0 : DiskFile) (s : IsSettled sums rs f0 place) where
  long : length sums ≡ 96
  long = s.walked.sums_long

  all : AllGood rs
  all = s.walked.good

  abbrev gate : ℕ
  gate = s.gate

  abbrev tail : List ℕ
  tail = s.tail

  abbrev first : List ℕ
  first = front sums long rs

  abbrev body : List ℕ
  body = record_bytes a ++ 0 ∷ []

  seen0 : f0.seen ≡ first ++ gate ∷ tail
  seen0 = s.walked.are

  now0 : f0.now ≡ settled (first ++ gate ∷ tail)
  now0 = s.synced ∙ ap settled seen0

  at : length first ≡ place
  at = front_long sums long rs ∙ sym s.walked.placed

  abbrev left : List ℕ
  left = drop (place + 1 + length body) (first ++ gate ∷ tail)

  abbrev behind : List ℕ
  behind = record_bytes a ++ 0 ∷ left

  body_is : body ++ left ≡ behind
  body_is = append_assoc (record_bytes a) (0 ∷ []) left

  abbrev Without : List ℕ → Type 0
  Without = StandsFor sums rs

  abbrev Either : List ℕ → Type 0
  Either = WithOrWithout sums rs a

  without : (gate' : ℕ) (rest : List ℕ) → gate' ≢ 1 → Either (first ++ gate' ∷ rest)
  without gate' rest shut = inl (shut_stands sums long rs all gate' rest shut)

  -- ---- the body

  with_body : overlaid f0.seen (place + 1) body ≡ first ++ gate ∷ behind
  with_body = ap (λ v. overlaid v (place + 1) body) seen0 ∙ written_behind first gate tail place at body ∙ ap (λ v. first ++ gate ∷ v) body_is

  leaves0 : LeavesOnly f0.now Either
  leaves0 = only_kept f0.now (first ++ gate ∷ tail) Either now0 (without gate tail s.shut)

  leaves1 : LeavesOnly (given_more f0.now (place + 1) (length body)) Either
  leaves1 c im =
      let is = torn_behind first gate tail place at (length body) c (subst (λ m. IsImage (given_more m (place + 1) (length body)) c) now0 im) in
      subst Either (sym is) (without gate (drop (place + 1) c) s.shut)

  leaves2 : LeavesOnly (settled (overlaid f0.seen (place + 1) body)) Either
  leaves2 = only_kept _ (first ++ gate ∷ behind) Either (ap settled with_body) (without gate behind s.shut)

  -- the body is written, or is not
  pub body_each : (f1 : DiskFile) → Gains (given_more f0.now (place + 1) (length body)) (settled (overlaid f0.seen (place + 1) body)) f0 f1
      → EachMoment f0 f1 Either
  body_each f1 k = gains_each _ _ f0 f1 Either k leaves0 leaves1 leaves2

  -- ---- the gate

  module _ (f1 : DiskFile) (h : IsOnDisk (overlaid f0.seen (place + 1) body) f1) where
    seen1 : f1.seen ≡ first ++ gate ∷ behind
    seen1 = h.seen ∙ with_body

    now1 : f1.now ≡ settled (first ++ gate ∷ behind)
    now1 = h.now ∙ ap settled with_body

    with_gate : overlaid f1.seen place (1 ∷ []) ≡ first ++ 1 ∷ behind
    with_gate = ap (λ v. overlaid v place (1 ∷ [])) seen1 ∙ written_gate first gate behind place at 1

    leaves3 : LeavesOnly f1.now Either
    leaves3 = only_kept f1.now (first ++ gate ∷ behind) Either now1 (without gate behind s.shut)

    leaves4 : LeavesOnly (given_more f1.now place 1) Either
    leaves4 c im =
        let is = torn_gate first gate behind place at c (subst (λ m. IsImage (given_more m place 1) c) now1 im) in
        subst Either (sym is) (either_stands sums long rs all a one (get_or c place 0) left)

    leaves5 : LeavesOnly (settled (overlaid f1.seen place (1 ∷ []))) Either
    leaves5 = only_kept _ (first ++ 1 ∷ behind) Either (ap settled with_gate) (either_stands sums long rs all a one 1 left)

    pub gate_each : (f2 : DiskFile) → Gains (given_more f0.now (place + 1) (length body)) (settled (overlaid f0.seen (place + 1) body)) f0 f1
        → Gains (given_more f1.now place 1) (settled (overlaid f1.seen place (1 ∷ []))) f1 f2 → EachMoment f0 f2 Either
    gate_each f2 k l = joined f0 f1 f2 Either (body_each f1 k) (gains_each _ _ f1 f2 Either l leaves3 leaves4 leaves5)

    pub gate_there : (f2 : DiskFile) → IsOnDisk (overlaid f1.seen place (1 ∷ [])) f2 → IsSettled sums (rs ++ a ∷ []) f2 (place + 1 + length (record_bytes a))
    gate_there f2 g = record {
      gate = 0;
      tail = left;
      shut = λ e. absurd (omega (arith, e));
      walked = record {
        sums_long = long;
        good = good_more rs a all one;
        are = g.seen ∙ with_gate ∙ opened_is sums long rs all a one (0 ∷ left);
        placed = let l = blocks_length rs a in let p = s.walked.placed in omega (arith, l, p);
      };
      synced = g.now ∙ ap settled (sym g.seen);
    }
