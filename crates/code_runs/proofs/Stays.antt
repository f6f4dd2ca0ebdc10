-- Where the run in the clear stands, from step to step.
use Rattle.std.proofs.Common.{◌≡◌, List, [], ◌++◌, Option, Some, Ok, Err, refl, sym, ap, ◌∙◌, subst}
use Rattle.proto_core.specs.Lists.{AreWords}
use Rattle.protocol_model.proofs.Sizes.{past_end}
use Rattle.gates.specs.declared.gate.Gate.{Gate}
use Rattle.shared_gates.specs.Shares.{Kind}
use Rattle.language_model.specs.Effects.{World, Clear, Stage, RunStop, Ended, Short, Run}
use Rattle.language_model.specs.Reports.{Offered, world_of}
use Rattle.language_model.specs.Tapes.{AtMost}
use Rattle.language_model.proofs.Onward.{stage_of}
use Rattle.language_model.proofs.Onward as onward
use Rattle.verified_code.specs.Steps.{Step, Declassify, Publish, Function}
use Rattle.code_model.specs.Machine.{Machine, step}
use Rattle.code_model.specs.Kinded.{IsWithin}
use Rattle.code_model.specs.Laws.{StaysAt}
use Rattle.code_model.proofs.Kept.{keeps}
use Rattle.gate_laws.specs.Facts.{none_of, run_at, IsAt}
use Rattle.gate_laws.specs.Dealt.{Dealt}
use Rattle.gate_laws.specs.Machines.{MachineStands, ArrivesAt}
use Rattle.gate_laws.specs.Laws.{MayRun}
use Rattle.gate_laws.proofs.Walks.{keep_standing}
use Rattle.driven_nodes.specs.Steps.{Went, On, Over, Wants}
use Rattle.code_places.specs.Places.{Place, telling_stage, stopped, went, next_step}
use Rattle.code_places.specs.Laws.{in_the_clear}
use Rattle.code_runs.proofs.Told.{TellsNothing, was_open, opens, EndsWith, ToldBy, told_at}
use Rattle.code_runs.proofs.Onwards.{step_onward}

no_words : AreWords []
no_words k = past_end k

-- a stage that has no answers left is the same when it is told none
pub untold : (s : Stage) → s.answers ≡ [] → telling_stage [] s ≡ s
untold s e = ap (λ a. record s { answers = a }) (sym e)

answers_same : (i : Option Step) (m : Machine) (s u : Stage) → ToldBy i m s u → u.answers ≡ s.answers
answers_same (Some (Declassify d r)) m s u (was_open h) = h.answers
answers_same (Some (Declassify d r)) m s u (opens words before ring k read o e a g none) = a
answers_same (Some (Publish text r)) m s u h = h.answers
answers_same i m s u h = h.answers

answers_kept : (i : Option Step) (m : Machine) (s : Stage) (r : Run Machine) → EndsWith (ToldBy i m s) s r → (stage_of r).answers ≡ s.answers
answers_kept i m s (Ok x) told = answers_same i m s x.1 told
answers_kept i m s (Err e) told = told.answers

module _ (o : Offered) (d : Dealt) (c : List Function) where
  abbrev pub w : World
  w = world_of Clear o

  pub record Stays (p : Place) : Type 0 where
    pub kinds : List Kind
    pub within : IsWithin c p.machine
    pub stage : IsAt w d kinds none_of p.stage
    pub stands : MachineStands (run_at w d kinds p.stage) p.machine
    pub tapes : AtMost p.stage.drawn w.lengths
    pub answers : p.stage.answers ≡ []

  -- a step that goes on
  pub record Along (p q : Place) : Type 0 where
    pub more : List Gate
    pub gates : q.stage.gates ≡ p.stage.gates ++ more
    pub told : ToldBy (next_step p.machine) p.machine p.stage q.stage
    pub stays : Stays q

  -- one that ends the run
  pub record Final (p q : Place) : Type 0 where
    pub more : List Gate
    pub gates : q.stage.gates ≡ p.stage.gates ++ more
    pub told : TellsNothing p.stage q.stage
    pub kinds : List Kind
    pub stage : IsAt w d kinds none_of q.stage
    pub tapes : AtMost q.stage.drawn w.lengths

  abbrev pub After : Place → Went Place → Type 0
  After p (On q) = Along p q
  After p (Over q) = Final p q
  After p (Wants q) = Unit {0}

  at_untold : (kinds : List Kind) (s : Stage) → IsAt w d kinds none_of s → IsAt w d kinds none_of (telling_stage [] s)
  at_untold kinds s at =
      record { formed = at.formed; made = at.made; drawn = at.drawn; answers = no_words; handed = at.handed; opened = at.opened }

  module _ (may : MayRun (world_of Clear o) d c) (p : Place) (st : Stays p) where
    ended : (stop : RunStop) (u : Stage) (kinds : List Kind) (more : List Gate) → u.gates ≡ p.stage.gates ++ more → IsAt w d kinds none_of u
        → onward.Went w p.stage u → TellsNothing p.stage u → After p (stopped p.machine u stop)
    ended (Ended e) u kinds more gates at on told =
        record {
          more = more;
          gates = gates;
          told = subst (TellsNothing p.stage) (sym (untold u (told.answers ∙ st.answers))) told;
          kinds = kinds;
          stage = at_untold kinds u at;
          tapes = on.tapes st.tapes;
        }
    ended Short u kinds more gates at on told = tt

    go : (r : Run Machine) → StaysAt c r → ArrivesAt w d p.stage st.kinds r → onward.Went w p.stage (stage_of r)
        → EndsWith (ToldBy (next_step p.machine) p.machine p.stage) p.stage r → After p (went p.machine r)
    go (Ok x) within arrives on told =
        record {
          more = arrives.grown.gates;
          gates = arrives.grown.more_gates;
          told = subst (ToldBy (next_step p.machine) p.machine p.stage)
              (sym (untold x.1 (answers_same (next_step p.machine) p.machine p.stage x.1 told ∙ st.answers))) told;
          stays = record {
            kinds = arrives.later;
            within = within;
            stage = at_untold arrives.later x.1 arrives.stage;
            stands = arrives.stands;
            tapes = on.tapes st.tapes;
            answers = refl;
          };
        }
    go (Err e) within arrives on told = ended e.0 e.1 arrives.later arrives.grown.gates arrives.grown.more_gates arrives.stage on told

    -- a step in the clear leaves no answer
    pub none_left : (stage_of (step w c (next_step p.machine) p.machine p.stage)).answers ≡ []
    none_left =
        let m = p.machine in
        let i = next_step m in
        answers_kept i m p.stage (step w c i m p.stage) (told_at o c m p.stage i) ∙ st.answers

    pub same_step : (in_the_clear o c).step p ≡ went p.machine (step w c (next_step p.machine) p.machine p.stage)
    same_step = ap (λ z. went p.machine (step w c (next_step p.machine) p.machine z)) (untold p.stage st.answers)

    pub after_step : After p (went p.machine (step w c (next_step p.machine) p.machine p.stage))
    after_step =
        let m = p.machine in
        let i = next_step m in
        go (step w c i m p.stage) (keeps w c may.fitting may.singles m st.within p.stage).1
        (keep_standing w d c may m st.within st.kinds p.stage st.stage st.stands) ((step_onward w c m i).from p.stage) (told_at o c m p.stage i)

    pub after : After p ((in_the_clear o c).step p)
    after = subst (After p) (sym same_step) after_step
