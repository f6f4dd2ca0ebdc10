-- What `map`, `simulate` and `twin` promise, from their answers.
use Rattle.std.proofs.Common.{ℕ, List, refl, subst, sym}
use Rattle.command_frame.specs.declared.status.Status.{Status}
use Rattle.command_frame.specs.Moments.{Moment}
use Rattle.command_frame.specs.Status.{can_refuse}
use Rattle.command_words.specs.Ask.{MapAsk, SimulateAsk, TwinAsk, map_tape, simulate, twin}
use Rattle.run_engine.specs.Call.{Call}
use Rattle.run_engine.specs.Commands.{Asks}
use Rattle.run_engine.specs.MapPromises.{MapEffect, MapRefused}
use Rattle.command_frame.specs.Status.{is_done}
use Rattle.run_engine.specs.Promises.{Keeps}
use Rattle.run_engine.specs.SimulatePromises.{SimulateEffect, SimulateRefused}
use Rattle.run_engine.specs.TwinPromises.{TwinEffect, TwinRefused}
use Rattle.run_engine.specs.Told.{Outside, contents_in, outside_of}
use Rattle.run_engine.specs.Words.{answer_to}
use Rattle.run_engine.proofs.MapRefusals.{map_answered, map_answered_so, map_refused_only}
use Rattle.run_engine.proofs.Promises.{IsEndingAnswer, as_refusal, keeps, told_alone}
use Rattle.run_engine.proofs.SimulateRefusals.{simulate_answered, simulate_answered_so, simulate_refused_only}
use Rattle.run_engine.proofs.TwinRefusals.{twin_answered, twin_answered_so, twin_refused_only}

module _ (words : List (List ℕ)) (m m' : Moment) (s : Status) (call : Call words m m' s) where
  abbrev outside : Outside
  outside = outside_of m.sources m'.sources

  pub map_keeps : (ask : MapAsk) → Asks words m (map_tape ask)
      (Keeps (MapEffect ask (contents_in m)) (MapRefused ask (contents_in m)) is_done m m' s)
  unfolding answer_to
  map_keeps ask asks t =
      keeps words m m' s call (map_tape ask) asks (λ told. refl) (told_alone m.sources t) can_refuse (as_refusal s) refl
      (MapEffect ask (contents_in m)) (MapRefused ask (contents_in m)) is_done
      (λ effect w. subst (IsEndingAnswer words outside) (sym w.4) (record { answer = map_answered words ask outside w.0 w.1 w.2 asks w.3; ends = refl }))
      (λ answer a r u. map_refused_only words ask outside asks answer a r) (λ status refused. map_answered_so words ask outside status asks refused)

  pub simulate_keeps : (ask : SimulateAsk) → Asks words m (simulate ask)
      (Keeps (SimulateEffect ask (contents_in m)) (SimulateRefused ask (contents_in m)) is_done m m' s)
  unfolding answer_to
  simulate_keeps ask asks t =
      keeps words m m' s call (simulate ask) asks (λ told. refl) (told_alone m.sources t) can_refuse (as_refusal s) refl
      (SimulateEffect ask (contents_in m)) (SimulateRefused ask (contents_in m)) is_done
      (λ effect w. subst (IsEndingAnswer words outside) (sym w.7)
      (record { answer = simulate_answered words ask outside w.0 w.1 w.2 w.3 w.4 asks w.5 w.6; ends = refl }))
      (λ answer a r u. simulate_refused_only words ask outside asks answer a r)
      (λ status refused. simulate_answered_so words ask outside status asks refused)

  pub twin_keeps : (ask : TwinAsk) → Asks words m (twin ask)
      (Keeps (TwinEffect ask (contents_in m)) (TwinRefused ask (contents_in m)) is_done m m' s)
  unfolding answer_to
  twin_keeps ask asks t =
      keeps words m m' s call (twin ask) asks (λ told. refl) (told_alone m.sources t) can_refuse (as_refusal s) refl
      (TwinEffect ask (contents_in m)) (TwinRefused ask (contents_in m)) is_done
      (λ effect w. subst (IsEndingAnswer words outside) (sym w.6)
      (record { answer = twin_answered words ask outside w.0 w.1 w.2 w.3 asks w.4 w.5; ends = refl }))
      (λ answer a r u. twin_refused_only words ask outside asks answer a r) (λ status refused. twin_answered_so words ask outside status asks refused)
