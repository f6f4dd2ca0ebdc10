-- What a step does, told none or so many words.
use Rattle.std.proofs.Common.{◌≡◌, ◌⊎◌, ℕ, ◌≤◌, List, [], Ok, Err, true, inl, inr, sym, ◌∙◌, ap, subst, arith}
use Rattle.std.specs.Prelude.{length}
use Rattle.shared_gates.specs.Shares.{Kind}
use Rattle.language_model.specs.Effects.{World, Answers, Stage, Short, Run, carry, done}
use Rattle.language_model.specs.Values.{size}
use Rattle.language_model.specs.Operations.{declassified}
use Rattle.verified_code.specs.Steps.{Function}
use Rattle.gate_laws.specs.Dealt.{Dealt}
use Rattle.gate_laws.specs.Facts.{none_of, run_at, IsAt}
use Rattle.gate_laws.specs.Machine.{Machine, next, step}
use Rattle.gate_laws.specs.Machines.{MachineStands}
use Rattle.code_places.specs.Places.{next_step}
use Rattle.code_places.proofs.Quiet.{KeptAt, Quiet}
use Rattle.code_places.proofs.QuietSteps.{IsOpening, quiet_or_opening}
use Rattle.miner_ends.proofs.Openings.{WantsNone, LeavesNone, OpensLast, OpensSized, quiet_leaves, enough_wants, few_left, none_left, short_so}
use Rattle.miner_ends.proofs.Openings.{opens_sized}

module _ (w : World) (c : List Function) (m : Machine) (source : w.source ≡ Answers) where
  abbrev one : Stage → Run Machine
  one s = step w c (next_step m) m s

  abbrev opening : (d r : ℕ) → Stage → Run Machine
  opening d r s = carry (declassified w (m.registers r) s) (λ v. done (next d v m))

  opening_is : (i : IsOpening (next_step m)) (s : Stage) → one s ≡ opening i.0 i.1 s
  opening_is i s = ap (λ o. step w c o m s) i.2

  wants_then : {A B : Type 0} (g : A → B) (r : Run A) → WantsNone r → WantsNone (carry r (λ a. done (g a)))
  wants_then g (Ok x) h = tt
  wants_then g (Err e) h = h

  leaves_then : {A B : Type 0} (g : A → B) (r : Run A) → LeavesNone r → LeavesNone (carry r (λ a. done (g a)))
  leaves_then g (Ok x) h = h
  leaves_then g (Err e) h = tt

  short_then : {A B : Type 0} (g : A → B) (r : Run A) (h : Stage) → carry r (λ a. done (g a)) ≡ Err (Short, h) → r ≡ Err (Short, h)
  short_then g (Ok x) h e = absurd cc
  short_then {A = A} {B = B} g (Err e) h is = again e h is
    where
      again : (e : _) (h : Stage) → ◌≡◌ {A = Run B} (Err e) (Err (Short, h)) → ◌≡◌ {A = Run A} (Err e) (Err (Short, h))
      again e h is = let same : e ≡ (Short, h) = cc in ap Err same

  -- told none it leaves none
  pub none_left_over : (s : Stage) → s.answers ≡ [] → LeavesNone (one s)
  none_left_over s none = by (quiet_or_opening w c m (next_step m))
    where
      by : (Quiet true (step w c (next_step m) m) ⊎ IsOpening (next_step m)) → LeavesNone (one s)
      by (inl q) = quiet_leaves true s (one s) none (q.from s)
      by (inr i) =
          subst LeavesNone (sym (opening_is i s))
          (leaves_then (λ v. next i.0 v m) (declassified w (m.registers i.1) s) (none_left w source (m.registers i.1) s none))

  -- ---- where it wants words

  pub record Opens (s h : Stage) : Type 0 where
    pub is : IsOpening (next_step m)
    pub last : OpensLast w source (m.registers is.1) s h

  pub opens : (s h : Stage) → one s ≡ Err (Short, h) → Opens s h
  opens s h e = by (quiet_or_opening w c m (next_step m))
    where
      never : (r : Run Machine) → KeptAt true s r → r ≡ Err (Short, h) → ⊥
      never r kept e = (subst (KeptAt true s) e kept).0

      by : (Quiet true (step w c (next_step m) m) ⊎ IsOpening (next_step m)) → Opens s h
      by (inl q) = absurd (never (one s) (q.from s) e)
      by (inr i) =
          record {
            is = i;
            last = short_so w source (m.registers i.1) s h
                (short_then (λ v. next i.0 v m) (declassified w (m.registers i.1) s) h (sym (opening_is i s) ∙ e));
          }

  module _ (s h : Stage) (o : Opens s h) where
    -- as many words as the value has that is opened
    abbrev pub wanted : ℕ
    wanted = size (m.registers o.is.1)

    pub told_wants : (t : Stage) → length t.answers ≡ wanted → WantsNone (one t)
    told_wants t count =
        subst WantsNone (sym (opening_is o.is t))
        (wants_then (λ v. next o.is.0 v m) (declassified w (m.registers o.is.1) t)
        (enough_wants w source (m.registers o.is.1) o.last.k o.last.private t (subst (λ n. wanted ≤ n) (sym count) (omega arith))))

    pub told_leaves : (t : Stage) → length t.answers ≡ wanted → LeavesNone (one t)
    told_leaves t count =
        subst LeavesNone (sym (opening_is o.is t))
        (leaves_then (λ v. next o.is.0 v m) (declassified w (m.registers o.is.1) t)
        (few_left w source (m.registers o.is.1) o.last.k o.last.private t (subst (λ n. n ≤ wanted) (sym count) (omega arith))))

    pub opened_sized : (d : Dealt) (kinds : List Kind) (at : IsAt w d kinds none_of s) (stands : MachineStands (run_at w d kinds s) m)
        → OpensSized w source (m.registers o.is.1) d (stands.registers o.is.1).1 kinds s at (stands.registers o.is.1).0 h
    opened_sized d kinds at stands =
        opens_sized w source (m.registers o.is.1) d (stands.registers o.is.1).1 kinds s at (stands.registers o.is.1).0 h o.last
