-- Runs of code, step by step.
use Rattle.std.proofs.Common.{◌≡◌, ℕ, zero, suc, List, [], Option, Some, None, Ok, Err, Bool, true, false, refl, sym, ap, ◌∙◌, subst, arith}
use Rattle.std.specs.Prelude.{slice_get, nat_le, if◌then◌else◌}
use Rattle.sc_text.specs.declared.end.Ending.TheVariants as ending
use Rattle.proto_core.specs.declared.party.Number.{Number}
use Rattle.proto_core.specs.declared.party.Number.TheVariants.{One, Two, Three}
use Rattle.proto_core.specs.Lists.{AreWords}
use Rattle.shared_plans.specs.Shares.{Kind}
use Rattle.shared_plans.specs.Model.{miner_of}
use Rattle.language_model.specs.Effects.{World, Stage, RunStop, Ended, Run, words_each}
use Rattle.language_model.specs.Reports.{beginning, reported, dealing, not_dealt}
use Rattle.verified_code.specs.Steps.{Function}
use Rattle.code_model.specs.Machine.{Machine, step, exec, further, start}
use Rattle.code_model.specs.Meaning.{fuel, stopped_or, report_at, mean_in}
use Rattle.code_model.specs.Kinded.{IsWithin}
use Rattle.code_model.specs.Laws.{StaysAt}
use Rattle.code_model.proofs.Within.{next_there}
use Rattle.code_model.proofs.Kept.{keeps, begins}
use Rattle.gate_laws.specs.Facts.{nothing_handed, none_of, run_at, IsAt}
use Rattle.gate_laws.specs.Dealt.{drawn_by, Dealt}
use Rattle.gate_laws.specs.Machines.{MachineStands, ArrivesAt}
use Rattle.gate_laws.specs.Laws.{MayRun, IsDealing, StepsKeepStanding, GatesSuit, RunsMakeSuitedGates}
use Rattle.gate_laws.proofs.Steps.{act, start_stands}

pub keep_standing : (w : World) (d : Dealt) (c : List Function) → StepsKeepStanding w d c
keep_standing w d c may m h kinds s at stands =
    let there = next_there w c may.fitting may.singles m h in
    let takes = may.taking h.own h.there m.pc there.0 (sym (ap (λ z. slice_get z m.pc) h.steps) ∙ there.1) in
    subst (λ o. ArrivesAt w d s kinds (step w c o m s)) (sym there.1)
    ((act w d c m h (λ k. (stands.registers k).1) may.offered there.0 takes).from kinds s at stands tt)

module _ (w : World) (d : Dealt) (c : List Function) (may : MayRun w d c) where
  abbrev Ends : Option (RunStop × Stage) → Type 0
  Ends None = Unit {0}
  Ends (Some x) = (kinds : List Kind) × IsAt w d kinds none_of x.1

  walk : (k : ℕ) (m : Machine) (s : Stage) (kinds : List Kind) → IsWithin c m → IsAt w d kinds none_of s → MachineStands (run_at w d kinds s) m
      → Ends (exec w c k m s)
  unfolding exec
  walk zero m s kinds within at stands = tt
  walk (suc k) m s kinds within at stands =
      go (step w c (slice_get m.steps m.pc) m s) (keeps w c may.fitting may.singles m within s).1 (keep_standing w d c may m within kinds s at stands)
      (λ m s kinds within at stands. walk k m s kinds within at stands)
    where
      go : (r : Run Machine) → StaysAt c r → ArrivesAt w d s kinds r
          → ((m : Machine) (s : Stage) (kinds : List Kind) → IsWithin c m → IsAt w d kinds none_of s → MachineStands (run_at w d kinds s) m
          → Ends (exec w c k m s))
          → Ends (further r (exec w c k))
      go (Ok x) within arrives rest = rest x.0 x.1 arrives.later within arrives.stage arrives.stands
      go (Err e) within arrives rest = (arrives.later, arrives.stage)

  begins_at : IsDealing d → (budget : ℕ) (answers : List ℕ) → AreWords answers → IsAt w d [] none_of (beginning budget answers)
  begins_at dealing budget answers words =
      record {
        formed = record { dealt_held = dealing.held; dealt_sized = dealing.sized; kinded = tt; suits = tt; counted = refl };
        made = refl;
        drawn = nothing_drawn;
        answers = words;
        handed = λ values fit. nothing_handed;
        opened = λ clear values fit. refl;
      }
    where
      nothing_drawn : (i : Number) → drawn_by (words_each 0) (miner_of i) ≡ 0
      nothing_drawn One = refl
      nothing_drawn Two = refl
      nothing_drawn Three = refl

  reported_suits : (budget : ℕ) (stop : RunStop) (s : Stage) (kinds : List Kind) → IsAt w d kinds none_of s → GatesSuit w d (reported w budget stop s)
  reported_suits budget stop s kinds at =
      record {
        kinds = kinds;
        formed = at.formed;
        drawn = λ i. let e = at.drawn i in omega (arith, e);
        handed = at.handed;
        opened = at.opened;
      }

  pub suited : IsDealing d → (budget : ℕ) (answers : List ℕ) (main : Function) → slice_get c 0 ≡ Some main → AreWords answers
      → GatesSuit w d (mean_in w c budget answers)
  suited dealt budget answers main e words = either (nat_le (dealing w) w.dealer)
    where
      begun : Stage
      begun = beginning budget answers

      start_at : IsAt w d [] none_of begun
      start_at = begins_at dealt budget answers words

      ended : (o : Option (RunStop × Stage)) → Ends o → GatesSuit w d (report_at w budget (stopped_or begun o))
      ended None h = reported_suits budget (Ended ending.Budget) begun [] start_at
      ended (Some x) h = reported_suits budget x.0 x.1 h.0 h.1

      either : (b : Bool) → GatesSuit w d (if b then report_at w budget (stopped_or begun (exec w c (fuel c budget) (start c) begun)) else not_dealt w)
      either true =
          ended (exec w c (fuel c budget) (start c) begun)
          (walk (fuel c budget) (start c) begun [] (begins c may.fitting main e) start_at (start_stands (run_at w d [] begun) (slice_get c 0)))
      either false =
          record {
            kinds = [];
            formed = start_at.formed;
            drawn = λ i. let e = start_at.drawn i in omega
                (arith, e);
            handed = start_at.handed;
            opened = start_at.opened;
          }

pub make_suited_gates : (w : World) (d : Dealt) (c : List Function) (budget : ℕ) (answers : List ℕ) → RunsMakeSuitedGates w d c budget answers
make_suited_gates w d c budget answers may dealt main e words = suited w d c may dealt budget answers main e words
