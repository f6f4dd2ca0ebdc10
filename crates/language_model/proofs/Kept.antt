-- No run costs more than its budget or draws more words than its tapes have.
use Rattle.std.proofs.Common.{◌≡◌, ℕ, ◌≤◌, List, Bool, true, false, cond, Ok, Err, refl, arith}
use Rattle.std.specs.Prelude.{nat_le}
use Rattle.std.proofs.lemmas.Bool.{leb-true}
use Rattle.reached_instances.specs.TypedPrograms.{TypedProgramTree}
use Rattle.language_model.specs.Effects.{World, Run}
use Rattle.language_model.specs.Values.{Value}
use Rattle.language_model.specs.Reports.{Report, dealing, beginning, report_of, not_dealt, evaluated}
use Rattle.language_model.specs.Tapes.{AtMost, HasWords}
use Rattle.language_model.proofs.Walk.{main_of}
use Rattle.language_model.proofs.Onward.{stage_of, program_onward}

record Keeps (w : World) (budget : ℕ) (r : Report) : Type 0 where
  cost : r.cost ≤ budget
  words : HasWords w r

report_keeps : (w : World) (budget : ℕ) (r : Run Value) → dealing w ≤ w.dealer → AtMost (stage_of r).drawn w.lengths → Keeps w budget (report_of w budget r)
report_keeps w budget (Ok x) d h = record { cost = omega arith; words = record { dealt = d; drawn = h } }
report_keeps w budget (Err e) d h = record { cost = omega arith; words = record { dealt = d; drawn = h } }

keeps : (w : World) (p : TypedProgramTree) (budget : ℕ) (answers : List ℕ) → Keeps w budget (evaluated w p budget answers)
keeps w p budget answers = go (nat_le (dealing w) w.dealer) refl
  where
    go : (c : Bool) → nat_le (dealing w) w.dealer ≡ c → Keeps w budget (cond c (report_of w budget (main_of w p (beginning budget answers))) (not_dealt w))
    go true e = report_keeps w budget (main_of w p (beginning budget answers)) (leb-true _ _ e)
        (((program_onward w p).from (beginning budget answers)).tapes (omega arith, omega arith, omega arith))
    go false e = record { cost = omega arith; words = record { dealt = omega arith; drawn = (omega arith, omega arith, omega arith) } }

pub cost_kept : (w : World) (p : TypedProgramTree) (budget : ℕ) (answers : List ℕ) → (evaluated w p budget answers).cost ≤ budget
cost_kept w p budget answers = (keeps w p budget answers).cost

pub words_kept : (w : World) (p : TypedProgramTree) (budget : ℕ) (answers : List ℕ) → HasWords w (evaluated w p budget answers)
words_kept w p budget answers = (keeps w p budget answers).words
