-- A journal is opened.
use Rattle.std.proofs.Common.{◌≡◌, ◌≢◌, ◌≤◌, ◌<◌, ◌&&◌, ◌==◌, ℕ, Bool, true, false, inl, inr, List}
use Rattle.std.proofs.Common.{[], ◌∷◌, ◌++◌, length, take, drop, refl, sym, ◌∙◌, ap, subst, arith, Some}
use Rattle.std.specs.Prelude.{nat_le, nat_lt}
use Rattle.std.proofs.lemmas.Bool.{cases_lt}
use Rattle.std.proofs.lemmas.List.{drop-drop, length-drop, take-append-drop, take_all}
use Rattle.kept_disk.specs.Images.{DiskFile, EachMoment, settled}
use Rattle.miner_journal.specs.Format.{IsSettled, StandsFor, is_begun}
use Rattle.miner_journal.specs.Calls.{CanBeFilled}
use Rattle.miner_journal.specs.declared.journal_err.KeptFile.{KeptFile}
use Rattle.miner_journal.specs.declared.looking.Findings.{Findings}
use Rattle.miner_journal.specs.Begins.{FromSync, IsOfOthers, IsOpened, IsSynced, IsWaiting, Leaves, OnceSynced, SinceSync, Surveys, first_other}
use Rattle.miner_journal.proofs.Moments.{at_start, only_kept, weaker}
use Rattle.miner_journal.proofs.Standing.{not_begun_is_empty}

true_false : {X : Type 0} → true ≡ false → X
true_false e = cc

le_so : (n : ℕ) → 98 ≤ n → nat_le 98 n ≡ true
le_so n h = grind arith

lt_so : (n : ℕ) → n < 98 → nat_lt n 98 ≡ true
lt_so n h = grind arith

not_short : (n : ℕ) → nat_lt n 98 ≡ false → 98 ≤ n
not_short n e = elim (cases_lt n 98) [
  | inl l ↦ true_false (sym (lt_so n l) ∙ e)
  | inr h ↦ h
]

pub is_short : (n : ℕ) → nat_lt n 98 ≡ true → n < 98
is_short n e = elim (cases_lt n 98) [
  | inl l ↦ l
  | inr h ↦ true_false (sym e ∙ not_lt n h)
]
  where
    not_lt : (n : ℕ) → 98 ≤ n → nat_lt n 98 ≡ false
    not_lt n h = grind arith

first_shut : (x : ℕ) (xs : List ℕ) → 98 ≤ length (x ∷ xs) → is_begun (x ∷ xs) ≡ false → x ≢ 1
first_shut x xs long e is =
    let same : is_begun (x ∷ xs) ≡ true = ap (λ v. nat_le 98 (length (x ∷ xs)) && (v == 1)) is ∙ ap (λ b. b && true) (le_so (length (x ∷ xs)) long) in
    true_false (sym same ∙ e)

fillable_of : (seen : List ℕ) (f : DiskFile) → f.seen ≡ seen → f.now ≡ settled f.seen → is_begun seen ≡ false → 98 ≤ length seen → CanBeFilled f
fillable_of [] f is now e long = absurd (omega (arith, long))
fillable_of (x ∷ xs) f is now e long = record { first = x; rest = xs; shut = first_shut x xs long e; are = is; synced = now }

pub fillable : (short : Bool) (f : DiskFile) → IsWaiting short f → short ≡ false → CanBeFilled f
fillable short f w e = fillable_of f.seen f refl w.now w.unbegun (not_short (length f.seen) (sym w.short_is ∙ e))

pub shorter : (short : Bool) (f : DiskFile) → IsWaiting short f → short ≡ true → length f.seen < 98
shorter short f w e = is_short (length f.seen) (sym w.short_is ∙ e)

pub to_empty : (sums : List ℕ) (f g : DiskFile) → EachMoment f g (λ c. is_begun c ≡ false) → EachMoment f g (StandsFor sums [])
to_empty sums f g e = weaker f g (λ c. is_begun c ≡ false) (StandsFor sums []) (not_begun_is_empty sums) e

-- ---- from the first sync on

module _ (sums : List ℕ) (f0 f1 : DiskFile) (s : IsSynced f0 f1) where
  -- nothing but reads came
  pub only_read : (g : DiskFile) → g ≡ f1 → (begun : Bool) → is_begun f0.seen ≡ begun → SinceSync f0 g sums
  only_read g same true e =
      since (subst (λ b. EachMoment f1 g (Leaves b sums f0.seen)) (sym e)
      (subst (λ h. EachMoment f1 h (Leaves true sums f0.seen)) (sym same)
      (at_start f1 (Leaves true sums f0.seen) (only_kept f1.now f1.seen (Leaves true sums f0.seen) s.now s.seen))))
    where
      since : EachMoment f1 g (Leaves (is_begun f0.seen) sums f0.seen) → SinceSync f0 g sums
      since h = record { synced = f1; is = s; each = h }
  only_read g same false e =
      let empty : StandsFor sums [] f1.seen = not_begun_is_empty sums f1.seen (ap is_begun s.seen ∙ e) in
      record {
        synced = f1;
        is = s;
        each = subst (λ b. EachMoment f1 g (Leaves b sums f0.seen)) (sym e)
            (subst (λ h. EachMoment f1 h (Leaves false sums f0.seen)) (sym same)
            (at_start f1 (Leaves false sums f0.seen) (only_kept f1.now f1.seen (Leaves false sums f0.seen) s.now empty)));
      }

  pub was_read : (g : DiskFile) → g ≡ f1 → SinceSync f0 g sums
  was_read g same = only_read g same (is_begun f0.seen) refl

  -- it was begun
  pub was_begun : (g : DiskFile) → is_begun f0.seen ≡ false → EachMoment f1 g (StandsFor sums []) → SinceSync f0 g sums
  was_begun g e h = record { synced = f1; is = s; each = subst (λ b. EachMoment f1 g (Leaves b sums f0.seen)) (sym e) h }

  pub waiting : (short : Bool) → is_begun f1.seen ≡ false → short ≡ nat_lt (length f1.seen) 98 → IsWaiting short f1
  waiting short e h = record { now = s.now; unbegun = e; short_is = h }

  -- what was found
  module _ (found : Findings) (v : Surveys f0.seen found) where
    pub opened_begun : found.begun ≡ true → sums ≡ found.sums → IsOpened (is_begun f0.seen) sums f0 f1
    opened_begun e same =
        subst (λ b. IsOpened b sums f0 f1) (sym (sym v.begun ∙ e)) (sym (v.sums e) ∙ sym same, s.seen, s.now)

    pub of_others : (file : KeptFile) → found.begun ≡ true → first_other sums found.sums ≡ Some file → IsOfOthers sums f0 file
    of_others file e other = (sym v.begun ∙ e, ap (first_other sums) (sym (v.sums e)) ∙ other)

    pub unbegun : found.begun ≡ false → is_begun f0.seen ≡ false
    unbegun e = sym v.begun ∙ e

    pub waits : found.begun ≡ false → IsWaiting found.short f1
    waits e = waiting found.short (ap is_begun s.seen ∙ unbegun e) (v.short ∙ ap (λ bytes. nat_lt (length bytes) 98) (sym s.seen))

    pub opened_anew : (g : DiskFile) → found.begun ≡ false → IsSettled sums [] g 97 → IsOpened (is_begun f0.seen) sums f0 g
    opened_anew g e h = subst (λ b. IsOpened b sums f0 g) (sym (unbegun e)) h

-- a look that gave nothing
pub from_once : (sums : List ℕ) (f0 f1 : DiskFile) → OnceSynced f0 f1 → FromSync f0 f1 sums
from_once sums f0 f1 (inl none) = inl none
from_once sums f0 f1 (inr s) = inr (was_read sums f0 f1 s f1 refl)

-- lists that are the same in three parts
pub parts_same : (a b : List ℕ) → take 32 a ≡ take 32 b → take 32 (drop 32 a) ≡ take 32 (drop 32 b) → drop 64 a ≡ drop 64 b → a ≡ b
parts_same a b one two three =
    let later : drop 32 a ≡ drop 32 b =
    sym (take-append-drop 32 (drop 32 a))
    ∙ ap (λ v. v ++ drop 32 (drop 32 a)) two
    ∙ ap (λ v. take 32 (drop 32 b) ++ v) (drop-drop 32 32 a ∙ three ∙ sym (drop-drop 32 32 b))
    ∙ take-append-drop 32 (drop 32 b) in
    sym (take-append-drop 32 a) ∙ ap (λ v. v ++ drop 32 a) one ∙ ap (λ v. take 32 b ++ v) later ∙ take-append-drop 32 b

pub digests_same : (a b : List ℕ) → length a ≡ 96 → length b ≡ 96 → take 32 a ≡ take 32 b → take 32 (drop 32 a) ≡ take 32 (drop 32 b)
    → take 32 (drop 64 a) ≡ take 32 (drop 64 b) → a ≡ b
digests_same a b long long2 one two three =
    let l = length-drop 64 a in
    let m = length-drop 64 b in
    parts_same a b one two
    (sym (take_all 32 (drop 64 a) (omega (arith, l, long))) ∙ three ∙ take_all 32 (drop 64 b) (omega (arith, m, long2)))
