-- What `client-map`, `client-simulate` and `client-twin` promise, from their answers.
use Rattle.std.proofs.Common.{ℕ, List, refl, subst, sym}
use Rattle.command_frame.specs.declared.status.Status.{Status}
use Rattle.command_frame.specs.Moments.{Moment}
use Rattle.command_frame.specs.Status.{can_refuse, is_done}
use Rattle.command_words.specs.Ask.{ClientMapAsk, ClientSimulateAsk, ClientTwinAsk, client_map, client_simulate, client_twin}
use Rattle.run_engine.specs.Call.{Call}
use Rattle.run_engine.specs.Commands.{Asks}
use Rattle.run_engine.specs.ClientMapPromises.{ClientMapEffect, ClientMapRefused}
use Rattle.run_engine.specs.ClientSimulatePromises.{ClientSimulateEffect, ClientSimulateRefused}
use Rattle.run_engine.specs.ClientTwinPromises.{ClientTwinEffect, ClientTwinRefused}
use Rattle.run_engine.specs.Promises.{Keeps}
use Rattle.run_engine.specs.Told.{Outside, contents_in, outside_of}
use Rattle.run_engine.specs.Words.{answer_to}
use Rattle.run_engine.proofs.ClientMapRefusals.{client_map_answered, client_map_answered_so, client_map_refused_only}
use Rattle.run_engine.proofs.ClientSimulateRefusals.{client_simulate_answered, client_simulate_answered_so, client_simulate_refused_only}
use Rattle.run_engine.proofs.ClientTwinRefusals.{client_twin_answered, client_twin_answered_so, client_twin_refused_only}
use Rattle.run_engine.proofs.Promises.{IsEndingAnswer, as_refusal, keeps, told_alone}

module _ (words : List (List ℕ)) (m m' : Moment) (s : Status) (call : Call words m m' s) where
  abbrev outside : Outside
  outside = outside_of m.sources m'.sources

  pub client_map_keeps : (ask : ClientMapAsk) → Asks words m (client_map ask)
      (Keeps (ClientMapEffect ask (contents_in m)) (ClientMapRefused ask (contents_in m)) is_done m m' s)
  unfolding answer_to
  client_map_keeps ask asks t =
      keeps words m m' s call (client_map ask) asks (λ told. refl) (told_alone m.sources t) can_refuse (as_refusal s) refl
      (ClientMapEffect ask (contents_in m)) (ClientMapRefused ask (contents_in m)) is_done
      (λ effect w. subst (IsEndingAnswer words outside) (sym w.4)
      (record { answer = client_map_answered words ask outside w.0 w.1 w.2 asks w.3; ends = refl }))
      (λ answer a r u. client_map_refused_only words ask outside asks answer a r)
      (λ status refused. client_map_answered_so words ask outside status asks refused)

  pub client_simulate_keeps : (ask : ClientSimulateAsk) → Asks words m (client_simulate ask)
      (Keeps (ClientSimulateEffect ask (contents_in m)) (ClientSimulateRefused ask (contents_in m)) is_done m m' s)
  unfolding answer_to
  client_simulate_keeps ask asks t =
      keeps words m m' s call (client_simulate ask) asks (λ told. refl) (told_alone m.sources t) can_refuse (as_refusal s) refl
      (ClientSimulateEffect ask (contents_in m)) (ClientSimulateRefused ask (contents_in m)) is_done
      (λ effect w. subst (IsEndingAnswer words outside) (sym w.7)
      (record { answer = client_simulate_answered words ask outside w.0 w.1 w.2 w.3 w.4 asks w.5 w.6; ends = refl }))
      (λ answer a r u. client_simulate_refused_only words ask outside asks answer a r)
      (λ status refused. client_simulate_answered_so words ask outside status asks refused)

  pub client_twin_keeps : (ask : ClientTwinAsk) → Asks words m (client_twin ask)
      (Keeps (ClientTwinEffect ask (contents_in m)) (ClientTwinRefused ask (contents_in m)) is_done m m' s)
  unfolding answer_to
  client_twin_keeps ask asks t =
      keeps words m m' s call (client_twin ask) asks (λ told. refl) (told_alone m.sources t) can_refuse (as_refusal s) refl
      (ClientTwinEffect ask (contents_in m)) (ClientTwinRefused ask (contents_in m)) is_done
      (λ effect w. subst (IsEndingAnswer words outside) (sym w.6)
      (record { answer = client_twin_answered words ask outside w.0 w.1 w.2 w.3 asks w.4 w.5; ends = refl }))
      (λ answer a r u. client_twin_refused_only words ask outside asks answer a r)
      (λ status refused. client_twin_answered_so words ask outside status asks refused)
