-- Where steps lead: they only add to what was made, and one that wants words leaves the machine and has told nothing.
use Rattle.std.proofs.Common.{◌≡◌, ℕ, List, [], Ok, Err, refl, sym, ◌∙◌, ap, subst}
use Rattle.language_model.specs.Beginnings.{Begins}
use Rattle.language_model.specs.Effects.{World, Stage, RunStop, Ended, Short, Run}
use Rattle.language_model.proofs.Onward.{stage_of}
use Rattle.verified_code.specs.Steps.{Function}
use Rattle.code_machine.specs.Machine.{Machine, step}
use Rattle.driven_nodes.specs.Steps as turns
use Rattle.driven_nodes.specs.Steps.{Went, Wants, place_of}
use Rattle.own_code.proofs.Again.{wants_before_it_tells, gates_stand}
use Rattle.own_code.specs.Places.{Place, telling_stage, stopped, went, next_step, answers_told, step_told}
use Rattle.miner_core.specs.declared.outcome.Turned.{Turned}
use Rattle.miner_core.specs.declared.outcome.Turned.TheVariants as turned
use Rattle.miner_core.specs.TurnViews.{went_as}

pub stage_went : (t : Turned) (m : Machine) (s : Stage) → (place_of (went_as t m s)).stage ≡ telling_stage [] s
stage_went turned.On m s = refl
stage_went (turned.Over e) m s = refl
stage_went turned.Short m s = refl

stopped_stage : (m : Machine) (u : Stage) (z : RunStop) → (place_of (stopped m u z)).stage ≡ telling_stage [] u
stopped_stage m u (Ended e) = refl
stopped_stage m u Short = refl

went_stage : (m : Machine) (r : Run Machine) → (place_of (went m r)).stage ≡ telling_stage [] (stage_of r)
went_stage m (Ok x) = refl
went_stage m (Err e) = stopped_stage m e.1 e.0

no_wants_on : (p q : Place) → turns.On p ≡ Wants q → ⊥
no_wants_on p q e = cc

no_wants_over : (p q : Place) → turns.Over p ≡ Wants q → ⊥
no_wants_over p q e = cc

module _ (w : World) (c : List Function) (p : Place) where
  -- where it stands with what it is told of these words
  abbrev heard : List ℕ → Stage
  heard told = telling_stage (answers_told told (next_step p.machine) p.machine) p.stage

  abbrev run_told : List ℕ → Run Machine
  run_told told = step w c (next_step p.machine) p.machine (heard told)

  stage_behind : (told : List ℕ) → (place_of (step_told w c p told)).stage ≡ telling_stage [] (stage_of (run_told told))
  stage_behind told = went_stage p.machine (run_told told)

  -- gates stay, and more may come after them
  pub gates_grow : (told : List ℕ) → Begins p.stage.gates (place_of (step_told w c p told)).stage.gates
  gates_grow told =
      subst (λ (s : Stage). Begins p.stage.gates s.gates) (sym (stage_behind told))
      (gates_stand w c (next_step p.machine) p.machine (heard told))

  stopped_machine : (u : Stage) (z : RunStop) → (place_of (stopped p.machine u z)).machine ≡ p.machine
  stopped_machine u (Ended e) = refl
  stopped_machine u Short = refl

  wants_machine : (r : Run Machine) (q : Place) → went p.machine r ≡ Wants q → q.machine ≡ p.machine
  wants_machine (Ok x) q e = absurd (no_wants_on _ q e)
  wants_machine (Err x) q e = sym (ap (λ (z : Went Place). (place_of z).machine) e) ∙ stopped_machine x.1 x.0

  -- where words are wanted, the machine is as it was
  pub wants_keep : (told : List ℕ) (q : Place) → step_told w c p told ≡ Wants q → q.machine ≡ p.machine
  wants_keep told q e = wants_machine (run_told told) q e

  more_gates : (told : List ℕ) (r : Run Machine) → run_told told ≡ r → (q : Place) → went p.machine r ≡ Wants q →
      (q.stage.events ≡ p.stage.events) × (q.stage.opened ≡ p.stage.opened)
  more_gates told (Ok x) same q e = absurd (no_wants_on _ q e)
  more_gates told (Err x) same q e = by x.0 x.1 same e
    where
      by : (z : RunStop) (u : Stage) → run_told told ≡ Err (z, u) → stopped p.machine u z ≡ Wants q →
          (q.stage.events ≡ p.stage.events) × (q.stage.opened ≡ p.stage.opened)
      by (Ended z) u same e = absurd (no_wants_over _ q e)
      by Short u same e =
          let more = wants_before_it_tells w c p.machine (heard told) u same in (
            sym (ap (λ (z : Went Place). (place_of z).stage.events) e) ∙ more.events,
            sym (ap (λ (z : Went Place). (place_of z).stage.opened) e) ∙ more.opened,
          )

  -- and so are the events and the opened words
  pub wants_tell_none : (told : List ℕ) (q : Place) → step_told w c p told ≡ Wants q →
      (q.stage.events ≡ p.stage.events) × (q.stage.opened ≡ p.stage.opened)
  wants_tell_none told q e = more_gates told (run_told told) refl q e
