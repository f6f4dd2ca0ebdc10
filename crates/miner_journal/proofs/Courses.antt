-- Messages kept one after another: at each moment a crash leaves the records from before and the first of the new ones.
use Rattle.std.proofs.Common.{◌≡◌, ℕ, suc, inl, inr, List, [], ◌∷◌, ◌++◌, take, sym, subst, append_assoc}
use Rattle.std.proofs.lemmas.List.{append-nil}
use Rattle.kept_disk.specs.Images.{DiskFile, EachMoment, LeavesOnly}
use Rattle.kept_frames.specs.Kept.{Kept}
use Rattle.miner_journal.specs.Format.{IsSettled, StandsFor, WithOrWithout}
use Rattle.miner_journal.specs.Course.{CourseGoesOn, CourseHolds, WithSome}
use Rattle.miner_journal.proofs.Moments.{at_start, joined, only_kept, weaker}
use Rattle.miner_journal.proofs.Standing.{shut_stands}

module _ (sums : List ℕ) where
  none_more : (rs kept : List Kept) (c : List ℕ) → StandsFor sums rs c → WithSome sums rs kept c
  none_more rs kept c h = (0, subst (λ v. StandsFor sums v c) (sym (append-nil rs)) h)

  first_more : (rs kept : List Kept) (a : Kept) (c : List ℕ) → WithOrWithout sums rs a c → WithSome sums rs (a ∷ kept) c
  first_more rs kept a c (inl h) = none_more rs (a ∷ kept) c h
  first_more rs kept a c (inr h) = (1, h)

  later_more : (rs kept : List Kept) (a : Kept) (c : List ℕ) → WithSome sums (rs ++ a ∷ []) kept c → WithSome sums rs (a ∷ kept) c
  later_more rs kept a c h = (suc h.0, subst (λ v. StandsFor sums v c) (append_assoc rs (a ∷ []) (take h.0 kept)) h.1)

  pub course_holds : (kept rs : List Kept) (f g : DiskFile) → CourseHolds sums rs kept f g
  course_holds [] rs f g e = weaker f g (StandsFor sums rs) (WithSome sums rs []) (none_more rs []) e
  course_holds (a ∷ kept) rs f g e =
      joined f e.0 g (WithSome sums rs (a ∷ kept))
      (weaker f e.0 (WithOrWithout sums rs a) (WithSome sums rs (a ∷ kept)) (first_more rs kept a) e.1)
      (weaker e.0 g (WithSome sums (rs ++ a ∷ []) kept) (WithSome sums rs (a ∷ kept)) (later_more rs kept a)
      (course_holds kept (rs ++ a ∷ []) e.0 g e.2))

  -- of a file that is settled a crash leaves what stands for its records
  settled_leaves : (rs : List Kept) (f : DiskFile) (place : ℕ) → IsSettled sums rs f place → LeavesOnly f.now (StandsFor sums rs)
  settled_leaves rs f place s =
      only_kept f.now f.seen (StandsFor sums rs) s.synced
      (subst (StandsFor sums rs) (sym s.walked.are) (shut_stands sums s.walked.sums_long rs s.walked.good s.gate s.tail s.shut))

  pub course_goes_on : (kept rs : List Kept) (f g h : DiskFile) (a : Kept) (place : ℕ) → CourseGoesOn sums rs kept f g h a place
  course_goes_on [] rs f g h a place c more s =
      let at : rs ++ [] ≡ rs = append-nil rs in
      let one = subst (λ v. EachMoment g h (WithOrWithout sums v a)) at more in
      let end = subst (λ v. IsSettled sums (v ++ a ∷ []) h place) at s in (
        h,
        joined f g h (WithOrWithout sums rs a) (weaker f g (StandsFor sums rs) (WithOrWithout sums rs a) (λ c h. inl h) c) one,
        at_start h (StandsFor sums (rs ++ a ∷ [])) (settled_leaves (rs ++ a ∷ []) h place end),
      )
  course_goes_on (b ∷ kept) rs f g h a place c more s =
      let at : rs ++ (b ∷ kept) ≡ (rs ++ b ∷ []) ++ kept = sym (append_assoc rs (b ∷ []) kept) in (
        c.0,
        c.1,
        course_goes_on kept (rs ++ b ∷ []) c.0 g h a place c.2
            (subst (λ v. EachMoment g h (WithOrWithout sums v a)) at more)
            (subst (λ v. IsSettled sums (v ++ a ∷ []) h place) at s),
      )

  -- no call of the disk was made
  pub nothing_came : (rs : List Kept) (f : DiskFile) (a : Kept) (place : ℕ) → IsSettled sums rs f place → EachMoment f f (WithOrWithout sums rs a)
  nothing_came rs f a place s = at_start f (WithOrWithout sums rs a) (λ c im. inl (settled_leaves rs f place s c im))
