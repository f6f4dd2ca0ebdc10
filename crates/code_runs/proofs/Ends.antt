-- The run in the clear, step by step, is the run that its meaning reports.
use Rattle.std.proofs.Common.{◌≡◌, ℕ, zero, suc, List, [], ◌++◌, Some, None, Ok, Err, refl, sym, ap, ◌∙◌, subst, append_assoc}
use Rattle.std.proofs.lemmas.Option.{none-some, same_Some}
use Rattle.sc_text.specs.declared.end.Ending.{Ending}
use Rattle.shared_gates.specs.Shares.{Kind}
use Rattle.language_model.specs.Effects.{World, Clear, Stage, RunStop, Ended, Short, Run}
use Rattle.language_model.specs.Reports.{Offered, world_of}
use Rattle.language_model.specs.Tapes.{AtMost}
use Rattle.language_model.proofs.Onward.{stage_of}
use Rattle.verified_code.specs.Steps.{Function}
use Rattle.code_model.specs.Machine.{Machine, step, further, exec}
use Rattle.gate_laws.specs.Facts.{none_of, IsAt}
use Rattle.gate_laws.specs.Dealt.{Dealt}
use Rattle.gate_laws.specs.Laws.{MayRun}
use Rattle.driven_nodes.specs.Steps.{Stopped}
use Rattle.driven_nodes.specs.Twins.{gates_by, gates_of, stand_by, stand_after, TwinBy}
use Rattle.code_places.specs.Places.{Place, place, stopped, went, next_step}
use Rattle.code_places.specs.Twins.{GoAlike, EndAlike}
use Rattle.code_places.specs.Laws.{in_the_clear, CodeHasTwins}
use Rattle.code_places.specs.Places.{when_told}
use Rattle.code_places.proofs.Turns.{gained_more}
use Rattle.code_runs.proofs.Stays.{untold, Stays, After, none_left, same_step, after_step}

module _ (o : Offered) (d : Dealt) (c : List Function) (may : MayRun (world_of Clear o) d c) (twins : CodeHasTwins o c) where
  abbrev w : World
  w = world_of Clear o

  -- with so many steps from this place the run ends with this
  pub record EndsAs (fuel : ℕ) (p : Place) (x : RunStop × Stage) : Type 0 where
    pub last : Place
    pub stand : stand_after (in_the_clear o c) fuel p ≡ Stopped last
    pub ending : Ending
    pub stop : x.0 ≡ Ended ending
    pub ended : last.ended ≡ Some ending
    pub stage : last.stage ≡ x.1
    pub gates : x.1.gates ≡ p.stage.gates ++ gates_of (in_the_clear o c) fuel p
    pub kinds : List Kind
    pub at : IsAt w d kinds none_of x.1
    pub tapes : AtMost x.1.drawn w.lengths

  pub ends : (fuel : ℕ) (p b : Place) → Stays o d c p → GoAlike p b → (x : RunStop × Stage) → exec w c fuel p.machine p.stage ≡ Some x → EndsAs fuel p x
  unfolding exec gates_of stand_after
  ends zero p b st alike x e = absurd (none-some _ e)
  ends (suc fuel) p b st alike x e =
      by_run (step w c (next_step p.machine) p.machine p.stage) (none_left o d c may p st) (same_step o d c may p st) (after_step o d c may p st)
      (subst (TwinBy (in_the_clear o c) (when_told o c) GoAlike EndAlike p b) (same_step o d c may p st) (twins.law p b alike)) e (ends fuel)
    where
      Later : Type 0
      Later = (p b : Place) → Stays o d c p → GoAlike p b → (x : RunStop × Stage) → exec w c fuel p.machine p.stage ≡ Some x → EndsAs fuel p x

      over : (u : Stage) (stop : RunStop) → u.answers ≡ [] → (in_the_clear o c).step p ≡ stopped p.machine u stop → After o d c p (stopped p.machine u stop)
          → TwinBy (in_the_clear o c) (when_told o c) GoAlike EndAlike p b (stopped p.machine u stop) → (stop, u) ≡ x → EndsAs (suc fuel) p x
      over u Short none es final twin e = absurd twin
      over u (Ended k) none es final twin e =
          let q = place (Some k) p.machine u in
          let same : q.stage ≡ x.1 = untold u none ∙ ap (λ z. z.1) e in
          record {
            last = q;
            stand = ap (stand_by (in_the_clear o c) (stand_after (in_the_clear o c) fuel)) es;
            ending = k;
            stop = sym (ap (λ z. z.0) e);
            ended = refl;
            stage = same;
            gates =
                ap (λ z. z.gates) (sym same) ∙ final.gates
                ∙ ap (λ z. p.stage.gates ++ z) (sym (gained_more p.stage.gates final.more q.stage.gates final.gates))
                ∙ ap (λ z. p.stage.gates ++ gates_by (in_the_clear o c) (gates_of (in_the_clear o c) fuel) p z) (sym es);
            kinds = final.kinds;
            at = subst (IsAt w d final.kinds none_of) same final.stage;
            tapes = subst (λ z. AtMost z.drawn w.lengths) same final.tapes;
          }

      by_run :
          (r : Run Machine) → (stage_of r).answers ≡ [] → (in_the_clear o c).step p ≡ went p.machine r → After o d c p (went p.machine r)
          → TwinBy (in_the_clear o c) (when_told o c) GoAlike EndAlike p b (went p.machine r) → further r (exec w c fuel) ≡ Some x → Later
          → EndsAs (suc fuel) p x
      by_run (Err y) none es final twin e later = over y.1 y.0 none es final twin (same_Some _ _ e)
      by_run (Ok y) none es along twin e later =
          let q = place None y.0 y.1 in
          let rest = later q twin.0 along.stays twin.1 x (ap (exec w c fuel y.0) (untold y.1 none) ∙ e) in
          let all = gates_of (in_the_clear o c) fuel q in
          record {
            last = rest.last;
            stand = ap (stand_by (in_the_clear o c) (stand_after (in_the_clear o c) fuel)) es ∙ rest.stand;
            ending = rest.ending;
            stop = rest.stop;
            ended = rest.ended;
            stage = rest.stage;
            gates =
                rest.gates ∙ ap (λ z. z ++ all) along.gates ∙ append_assoc p.stage.gates along.more all
                ∙ ap (λ z. p.stage.gates ++ (z ++ all)) (sym (gained_more p.stage.gates along.more q.stage.gates along.gates))
                ∙ ap (λ z. p.stage.gates ++ gates_by (in_the_clear o c) (gates_of (in_the_clear o c) fuel) p z) (sym es);
            kinds = rest.kinds;
            at = rest.at;
            tapes = rest.tapes;
          }
