-- Moments of a call, one after the other.
use Rattle.std.proofs.Common.{◌≡◌, List, [], ◌∷◌, ◌++◌, ℕ, refl, sym, ◌∙◌, ap, subst, append_assoc}
use Rattle.kept_disk.specs.Images.{AllLeave, DiskFile, EachMoment, IsImage, LeavesOnly, Moment, moments}
use Rattle.miner_journal.specs.Calls.{AllAmong, Gains}
use Rattle.std.proofs.Common.{inl, inr}
use Rattle.miner_journal.proofs.Torn.{image_of_kept}

pub at_start : (f : DiskFile) (P : List ℕ → Type 0) → LeavesOnly f.now P → EachMoment f f P
at_start f P h = record { gained = []; are = refl; before = h; each = tt }

-- one call of the disk more
pub one_more : (f g h : DiskFile) (P : List ℕ → Type 0) → EachMoment f g P → h.past ≡ moments g → LeavesOnly h.now P → EachMoment f h P
one_more f g h P e is leaves =
    record {
      gained = h.now ∷ e.gained;
      are = ap (λ v. h.now ∷ v) (is ∙ e.are);
      before = e.before;
      each = (leaves, e.each);
    }

all_weaker : (ms : List Moment) (P Q : List ℕ → Type 0) → ((c : List ℕ) → P c → Q c) → AllLeave ms P → AllLeave ms Q
all_weaker [] P Q to h = tt
all_weaker (m ∷ ms) P Q to h = (λ c im. to c (h.0 c im), all_weaker ms P Q to h.1)

pub weaker : (f g : DiskFile) (P Q : List ℕ → Type 0) → ((c : List ℕ) → P c → Q c) → EachMoment f g P → EachMoment f g Q
weaker f g P Q to e =
    record { gained = e.gained; are = e.are; before = λ c im. to c (e.before c im); each = all_weaker e.gained P Q to e.each }

-- all is on the disk
pub only_kept : (m : Moment) (file : List ℕ) (P : List ℕ → Type 0) → m ≡ record { kept = file; given = [] } → P file → LeavesOnly m P
only_kept m file P is h c im = subst P (sym (image_of_kept file c (subst (λ v. IsImage v c) is im))) h

all_behind : (ms ns : List Moment) (P : List ℕ → Type 0) → AllLeave ms P → AllLeave ns P → AllLeave (ms ++ ns) P
all_behind [] ns P g h = h
all_behind (m ∷ ms) ns P g h = (g.0, all_behind ms ns P g.1 h)

-- one call after another
pub joined : (f g h : DiskFile) (P : List ℕ → Type 0) → EachMoment f g P → EachMoment g h P → EachMoment f h P
joined f g h P e n =
    record {
      gained = n.gained ++ e.gained;
      are = n.are ∙ ap (λ v. n.gained ++ v) e.are ∙ sym (append_assoc n.gained e.gained (moments f));
      before = e.before;
      each = all_behind n.gained e.gained P n.each e.each;
    }

all_among : (one other : Moment) (ms : List Moment) (P : List ℕ → Type 0) → LeavesOnly one P → LeavesOnly other P → AllAmong one other ms → AllLeave ms P
all_among one other [] P g h a = tt
all_among one other (m ∷ ms) P g h (inl e, a) = (subst (λ v. LeavesOnly v P) (sym e) g, all_among one other ms P g h a)
all_among one other (m ∷ ms) P g h (inr e, a) = (subst (λ v. LeavesOnly v P) (sym e) h, all_among one other ms P g h a)

-- a write and a sync, in whatever way they end
pub gains_each : (one other : Moment) (f g : DiskFile) (P : List ℕ → Type 0) → Gains one other f g → LeavesOnly f.now P → LeavesOnly one P → LeavesOnly other P
    → EachMoment f g P
gains_each one other f g P k start h i = record { gained = k.gained; are = k.are; before = start; each = all_among one other k.gained P h i k.among }
