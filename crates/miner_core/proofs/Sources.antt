-- Words that are drawn of one source, one call after another.
use Rattle.std.proofs.Common.{◌≡◌, ◌≤◌, ℕ, ◌+◌, List, [], ◌++◌, length, true, refl, sym, subst, ◌∙◌, ap, append_assoc, length-append, arith}
use Rattle.std.proofs.lemmas.Result.{MatchResult-weaker}
use Rattle.std.specs.Prelude.{Result, Err, IfErr}
use Rattle.outside.specs.Causes.{Rose}
use Rattle.outside.specs.Files.{FilesState, OnlyRead}
use Rattle.outside.specs.Tapes.{TapesState, Drew, SameTape, SameTapes, StandsStill, faults_of}
use Rattle.proto_core.specs.declared.party.Number.{Number}
use Rattle.proto_core.specs.declared.party.Number.TheVariants.{One, Two, Three}
use Rattle.proto_core.specs.Parties.{count_of}
use Rattle.gate_node.specs.declared.supply_err.SupplyErr.{SupplyErr}
use Rattle.gate_node.specs.declared.supply_err.SupplyErr.TheVariants as refused
use Rattle.gate_node.specs.Supplies.{IsUnsupplied}
use Rattle.miner_core.specs.declared.answer.Lost.{Lost}
use Rattle.miner_core.specs.declared.answer.Lost.TheVariants as lost
use Rattle.miner_core.specs.Drawing.{HasDrawn, IsLostBy, Draws}
use Rattle.miner_core.specs.Unsupplied.{lost_by}

pub party-small : (i : Number) → count_of i ≤ 3
party-small One = omega arith
party-small Two = omega arith
party-small Three = omega arith

read_on : (a b c : FilesState) → OnlyRead a b → OnlyRead b c → OnlyRead a c
read_on a b c h k =
    let early = h.later in
    let late = k.later in
    record {
      same = record { told = k.same.told ∙ h.same.told; contents = k.same.contents ∙ h.same.contents };
      later = omega (arith, early, late);
      still = λ s. k.still (h.still s);
    }

stands_on : (a b c : TapesState) → StandsStill a b → StandsStill b c → StandsStill a c
stands_on a b c h k = record { held = k.held ∙ h.held; read = read_on a.under b.under c.under h.read k.read }

stands_here : (a : TapesState) → StandsStill a a
stands_here a =
    record { held = refl; read = record { same = record { told = refl; contents = refl }; later = omega arith; still = λ h. h } }

same_on : (a b c : TapesState) (p : ℕ) → b.told ≡ a.told → SameTape a b p → SameTape b c p → SameTape a c p
same_on a b c p told h k = record { left = k.left ∙ h.left; words = λ t. k.words (told ∙ t) ∙ h.words t }

pub drew_none : (a : TapesState) (p : ℕ) → Drew a a p []
drew_none a p =
    record {
      told = refl;
      stands = stands_here a;
      fewer = omega arith;
      words = λ t. refl;
      others = λ q apart. record { left = refl; words = λ t. refl };
    }

pub drew_same : (a b : TapesState) (p : ℕ) → SameTapes a b → Drew a b p []
drew_same a b p h =
    let here = h.tapes p in
    let left = here.left in
    record {
      told = h.told;
      stands = h.stands;
      fewer = omega (arith, left);
      words = λ t. cc (here.words t);
      others = λ q apart. h.tapes q;
    }

pub drew_more : (a b c : TapesState) (p : ℕ) (xs ys : List ℕ) → Drew a b p xs → Drew b c p ys → Drew a c p (xs ++ ys)
drew_more a b c p xs ys h k =
    let first = h.fewer in
    let second = k.fewer in
    let long : length (xs ++ ys) ≡ length xs + length ys = length-append xs ys in
    record {
      told = k.told ∙ h.told;
      stands = stands_on a b c h.stands k.stands;
      fewer = omega (arith, first, second, long);
      words = λ t. h.words t ∙ ap (λ l. xs ++ l) (k.words (h.told ∙ t)) ∙ sym (append_assoc xs ys (c.words p));
      others = λ q apart. same_on a b c q h.told (h.others q apart) (k.others q apart);
    }

pub drawn_none : (i : Number) (a : TapesState) → HasDrawn i a a
drawn_none i a = record { taken = []; drew = drew_none a (count_of i) }

pub drawn_same : (i : Number) (a b : TapesState) → SameTapes a b → HasDrawn i a b
drawn_same i a b h = record { taken = []; drew = drew_same a b (count_of i) h }

-- ---- what is lost in a later call

pub rose_on : (a b c : ℕ) → a ≤ b → Rose b c → Rose a c
rose_on a b c later rose = omega (arith, later, rose)

module _ (i : Number) (a b c : TapesState) (first : HasDrawn i a b) (still : a.steady ≡ true → b.steady ≡ true) where
  lost_on : (l : Lost) → IsLostBy b c l → IsLostBy a c l
  lost_on lost.Memory h = tt
  lost_on lost.TapeFault h =
      record {
        rose = rose_on (faults_of a) (faults_of b) (faults_of c) first.drew.stands.read.later h.rose;
        unsteady = λ s. h.unsteady (still s);
      }

  pub draws_on : {A : Type 0} (r : Result A Lost) → Draws i b c r → Draws i a c r
  draws_on r h =
      record {
        drawn = record { taken = first.taken ++ h.drawn.taken; drew = drew_more a b c (count_of i) first.taken h.drawn.taken first.drew h.drawn.drew };
        lost = MatchResult-weaker r h.lost (λ x k. k) lost_on;
        still = λ s. h.still (still s);
      }

  -- the same, of an error that is passed on
  pub draws_on_err : {A B : Type 0} (l : Lost) → Draws {A = B} i b c (Err l) → Draws {A = A} i a c (Err l)
  draws_on_err l h =
      record {
        drawn = record { taken = first.taken ++ h.drawn.taken; drew = drew_more a b c (count_of i) first.taken h.drawn.taken first.drew h.drawn.drew };
        lost = lost_on l h.lost;
        still = λ s. h.still (still s);
      }

-- no words, and this error
pub draws_none : {A : Type 0} (i : Number) (a : TapesState) (r : Result A Lost) → r ≡ Err lost.Memory → Draws i a a r
draws_none {A} i a r is =
    record {
      drawn = drawn_none i a;
      lost = subst (λ (q : Result A Lost). IfErr q (IsLostBy a a)) (sym is) tt;
      still = λ s. s;
    }

-- no words were supplied, for this cause
pub draws_unsupplied :
    {A : Type 0} (i : Number) (a b : TapesState) (e : SupplyErr) (r : Result A Lost) → r ≡ Err (lost_by e) → IsUnsupplied a b e →
    (a.steady ≡ true → b.steady ≡ true) → Draws i a b r
draws_unsupplied {A} i a b refused.Memory r is same still = subst (λ t. Draws i a t r) (sym same) (draws_none i a r is)
draws_unsupplied {A} i a b refused.Failed r is fault still =
    record {
      drawn = drawn_same i a b fault.same;
      lost = subst (λ (q : Result A Lost). IfErr q (IsLostBy a b)) (sym is) (record { rose = fault.rose; unsteady = fault.unsteady });
      still = still;
    }
