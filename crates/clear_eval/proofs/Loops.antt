-- The turns of loops, one after another.
use Rattle.std.proofs.Common.{◌≡◌, ℕ, zero, suc, ◌+◌, ◌<◌, ◌≤◌, Bool, true, false, Result, Ok, Err, sym, ap, ◌∙◌, add-one, arith}
use Rattle.std.specs.Result.{IsErrAnd}
use Rattle.language_model.specs.Effects.{Stage, Effect, carry, done}
use Rattle.language_model.specs.Values.{Value}
use Rattle.language_model.specs.Operations.{tested}
use Rattle.language_model.specs.Evaluation.{Frame, Flow, goes, turned, turns, repeats, either}
use Rattle.value_steps.specs.declared.halt.Halt.{Halt}
use Rattle.value_steps.specs.Steps.{Does, itself}
use Rattle.clear_eval.proofs.Runs.{carry-carry, stop_run}

-- what is left of a loop after some of its turns: it has turns left for each charge that can still be made
pub record Turns (condition : Frame → Effect Value) (step body : Frame → Effect Flow) (fr0 : Frame) (s0 : Stage) (fr : Frame) (s : Stage) : Type 0 where
  pub rest : ℕ
  pub enough : s.left ≤ rest
  pub same : turns (s0.left + 1) condition step body fr0 s0 ≡ turns (suc rest) condition step body fr s

pub record Repeats (condition : Frame → Effect Value) (body : Frame → Effect Flow) (fr0 : Frame) (s0 : Stage) (fr : Frame) (s : Stage) : Type 0 where
  pub rest : ℕ
  pub enough : s.left ≤ rest
  pub same : repeats (s0.left + 1) condition body fr0 s0 ≡ repeats (suc rest) condition body fr s

abbrev whole_turns : (Frame → Effect Value) → (step body : Frame → Effect Flow) → Frame → Effect Flow
whole_turns condition step body fr = λ s. turns (s.left + 1) condition step body fr s

abbrev whole_repeats : (Frame → Effect Value) → (body : Frame → Effect Flow) → Frame → Effect Flow
whole_repeats condition body fr = λ s. repeats (s.left + 1) condition body fr s

pub turns_begin : (condition : Frame → Effect Value) (step body : Frame → Effect Flow) (fr : Frame) (s : Stage) → Turns condition step body fr s fr s
turns_begin condition step body fr s = record { rest = s.left; enough = omega arith; same = ap (λ n. turns n condition step body fr s) (add-one s.left) }

pub repeats_begin : (condition : Frame → Effect Value) (body : Frame → Effect Flow) (fr : Frame) (s : Stage) → Repeats condition body fr s fr s
repeats_begin condition body fr s = record { rest = s.left; enough = omega arith; same = ap (λ n. repeats n condition body fr s) (add-one s.left) }

module _ {condition : Frame → Effect Value} {step body : Frame → Effect Flow} {fr0 : Frame} {s0 : Stage} {fr : Frame} {s : Stage}
    (t : Turns condition step body fr0 s0 fr s) where
  abbrev behind_step : Flow → Effect Flow
  behind_step h = turned h (turns t.rest condition step body)

  abbrev behind_body : Flow → Effect Flow
  behind_body g = turned g (λ f u. carry (step f u) behind_step)

  abbrev behind_test : Bool → Effect Flow
  behind_test b = either b (λ u. carry (body fr u) behind_body) (done (goes fr))

  -- the condition comes first, and its test
  at_test : whole_turns condition step body fr0 s0 ≡ carry (carry (condition fr s) tested) behind_test
  unfolding turns
  at_test = t.same ∙ sym (carry-carry (condition fr s) tested behind_test)

  at_end : (s2 : Stage) → carry (condition fr s) tested ≡ Ok (false, s2) → whole_turns condition step body fr0 s0 ≡ Ok (goes fr, s2)
  at_end s2 h = at_test ∙ ap (λ r. carry r behind_test) h

  at_body : (s2 : Stage) → carry (condition fr s) tested ≡ Ok (true, s2) → whole_turns condition step body fr0 s0 ≡ carry (body fr s2) behind_body
  at_body s2 h = at_test ∙ ap (λ r. carry r behind_test) h

  behind_the_body : (b : Bool) (s2 s3 : Stage) (g : Flow) → carry (condition fr s) tested ≡ Ok (b, s2) → b ≡ true → body fr s2 ≡ Ok (g, s3)
      → whole_turns condition step body fr0 s0 ≡ turned g (λ f u. carry (step f u) behind_step) s3
  behind_the_body b s2 s3 g h is_true h' = at_body s2 (h ∙ ap (λ (x : Bool). Ok (x, s2)) is_true) ∙ ap (λ r. carry r behind_body) h'

  pub ended : (b : Bool) (s2 : Stage) → carry (condition fr s) tested ≡ Ok (b, s2) → b ≡ false → whole_turns condition step body fr0 s0 ≡ Ok (goes fr, s2)
  ended b s2 h is_false = at_end s2 (h ∙ ap (λ (x : Bool). Ok (x, s2)) is_false)

  pub stopped_in_test : {Y : Type 0} (seen : Y → Flow) (s2 : Stage) (h : Halt) (r : Result Y Halt)
      → Does itself (λ u. carry (condition fr u) tested) s (Err h) s2 → IsErrAnd r (λ e. e ≡ h) → Does seen (whole_turns condition step body fr0) s0 r s2
  stopped_in_test seen s2 h r d i =
      stop_run itself seen (whole_turns condition step body fr0) s0 (λ u. carry (condition fr u) tested) s s2 behind_test h r at_test d i

  pub stopped_in_body : {Y : Type 0} (seen : Y → Flow) (b : Bool) (s2 s3 : Stage) (h : Halt) (r : Result Y Halt)
      → carry (condition fr s) tested ≡ Ok (b, s2) → b ≡ true → Does seen (body fr) s2 (Err h) s3 → IsErrAnd r (λ e. e ≡ h)
      → Does seen (whole_turns condition step body fr0) s0 r s3
  stopped_in_body seen b s2 s3 h r h' is_true d i =
      stop_run seen seen (whole_turns condition step body fr0) s0 (body fr) s2 s3 behind_body h r (at_body s2 (h' ∙ ap (λ (x : Bool). Ok (x, s2)) is_true)) d i

  pub left_behind_body : (b : Bool) (s2 s3 : Stage) (g out : Flow) → carry (condition fr s) tested ≡ Ok (b, s2) → b ≡ true → body fr s2 ≡ Ok (g, s3)
      → ((next : Frame → Effect Flow) → turned g next ≡ done out) → whole_turns condition step body fr0 s0 ≡ Ok (out, s3)
  left_behind_body b s2 s3 g out h is_true h' on =
      behind_the_body b s2 s3 g h is_true h' ∙ ap (λ (e : Effect Flow). e s3) (on (λ f u. carry (step f u) behind_step))

  -- after the body comes the step
  pub at_step : (b : Bool) (s2 s3 : Stage) (g : Flow) (f : Frame) → carry (condition fr s) tested ≡ Ok (b, s2) → b ≡ true → body fr s2 ≡ Ok (g, s3)
      → ((next : Frame → Effect Flow) → turned g next ≡ next f) → whole_turns condition step body fr0 s0 ≡ carry (step f s3) behind_step
  at_step b s2 s3 g f h is_true h' on =
      behind_the_body b s2 s3 g h is_true h' ∙ ap (λ (e : Effect Flow). e s3) (on (λ f u. carry (step f u) behind_step))

  pub stopped_in_step : {Y : Type 0} (seen : Y → Flow) (s3 s4 : Stage) (f : Frame) (h : Halt) (r : Result Y Halt)
      → whole_turns condition step body fr0 s0 ≡ carry (step f s3) behind_step → Does seen (step f) s3 (Err h) s4 → IsErrAnd r (λ e. e ≡ h)
      → Does seen (whole_turns condition step body fr0) s0 r s4
  stopped_in_step seen s3 s4 f h r h' d i = stop_run seen seen (whole_turns condition step body fr0) s0 (step f) s3 s4 behind_step h r h' d i

  behind_the_step : (s3 s4 : Stage) (f : Frame) (g : Flow) → whole_turns condition step body fr0 s0 ≡ carry (step f s3) behind_step → step f s3 ≡ Ok (g, s4)
      → whole_turns condition step body fr0 s0 ≡ turned g (turns t.rest condition step body) s4
  behind_the_step s3 s4 f g h h' = h ∙ ap (λ r. carry r behind_step) h'

  pub left_behind_step : (s3 s4 : Stage) (f : Frame) (g out : Flow) → whole_turns condition step body fr0 s0 ≡ carry (step f s3) behind_step
      → step f s3 ≡ Ok (g, s4) → ((next : Frame → Effect Flow) → turned g next ≡ done out) → whole_turns condition step body fr0 s0 ≡ Ok (out, s4)
  left_behind_step s3 s4 f g out h h' on = behind_the_step s3 s4 f g h h' ∙ ap (λ (e : Effect Flow). e s4) (on (turns t.rest condition step body))

  pub next_turn : (s3 s4 : Stage) (f f' : Frame) (g : Flow) → whole_turns condition step body fr0 s0 ≡ carry (step f s3) behind_step → step f s3 ≡ Ok (g, s4)
      → ((next : Frame → Effect Flow) → turned g next ≡ next f') → s4.left < s.left → Turns condition step body fr0 s0 f' s4
  next_turn s3 s4 f f' g h h' on less =
      go t.rest t.enough (behind_the_step s3 s4 f g h h' ∙ ap (λ (e : Effect Flow). e s4) (on (turns t.rest condition step body)))
    where
      go : (n : ℕ) → s.left ≤ n → whole_turns condition step body fr0 s0 ≡ turns n condition step body f' s4 → Turns condition step body fr0 s0 f' s4
      go zero enough same = absurd (omega arith)
      go (suc n) enough same = record { rest = n; enough = omega arith; same = same }

module _ {condition : Frame → Effect Value} {body : Frame → Effect Flow} {fr0 : Frame} {s0 : Stage} {fr : Frame} {s : Stage}
    (t : Repeats condition body fr0 s0 fr s) where
  abbrev again_on : Frame → Bool → Effect Flow
  again_on f b = either b (repeats t.rest condition body f) (done (goes f))

  abbrev again_behind_body : Flow → Effect Flow
  again_behind_body g = turned g (λ f u. carry (condition f u) (λ v w. carry (tested v w) (again_on f)))

  -- the body comes first
  again_at_body : whole_repeats condition body fr0 s0 ≡ carry (body fr s) again_behind_body
  unfolding repeats
  again_at_body = t.same

  again_at_test : (s1 : Stage) (g : Flow) (f : Frame) → body fr s ≡ Ok (g, s1) → ((next : Frame → Effect Flow) → turned g next ≡ next f)
      → whole_repeats condition body fr0 s0 ≡ carry (carry (condition f s1) tested) (again_on f)
  again_at_test s1 g f h on = again_at_body ∙ ap (λ r. carry r again_behind_body) h
      ∙ ap (λ (e : Effect Flow). e s1) (on (λ f u. carry (condition f u) (λ v w. carry (tested v w) (again_on f))))
      ∙ sym (carry-carry (condition f s1) tested (again_on f))

  pub again_stopped_in_body : {Y : Type 0} (seen : Y → Flow) (s1 : Stage) (h : Halt) (r : Result Y Halt)
      → Does seen (body fr) s (Err h) s1 → IsErrAnd r (λ e. e ≡ h) → Does seen (whole_repeats condition body fr0) s0 r s1
  again_stopped_in_body seen s1 h r d i =
      stop_run seen seen (whole_repeats condition body fr0) s0 (body fr) s s1 again_behind_body h r again_at_body d i

  pub again_left : (s1 : Stage) (g out : Flow) → body fr s ≡ Ok (g, s1) → ((next : Frame → Effect Flow) → turned g next ≡ done out)
      → whole_repeats condition body fr0 s0 ≡ Ok (out, s1)
  again_left s1 g out h on = again_at_body ∙ ap (λ r. carry r again_behind_body) h
      ∙ ap (λ (e : Effect Flow). e s1) (on (λ f u. carry (condition f u) (λ v w. carry (tested v w) (again_on f))))

  pub again_stopped_in_test : {Y : Type 0} (seen : Y → Flow) (s1 s3 : Stage) (g : Flow) (f : Frame) (h : Halt) (r : Result Y Halt)
      → body fr s ≡ Ok (g, s1) → ((next : Frame → Effect Flow) → turned g next ≡ next f)
      → Does itself (λ u. carry (condition f u) tested) s1 (Err h) s3 → IsErrAnd r (λ e. e ≡ h) → Does seen (whole_repeats condition body fr0) s0 r s3
  again_stopped_in_test seen s1 s3 g f h r h' on d i =
      stop_run itself seen (whole_repeats condition body fr0) s0 (λ u. carry (condition f u) tested) s1 s3 (again_on f) h r (again_at_test s1 g f h' on) d i

  pub again_ended : (b : Bool) (s1 s3 : Stage) (g : Flow) (f : Frame) → body fr s ≡ Ok (g, s1) → ((next : Frame → Effect Flow) → turned g next ≡ next f)
      → carry (condition f s1) tested ≡ Ok (b, s3) → b ≡ false → whole_repeats condition body fr0 s0 ≡ Ok (goes f, s3)
  again_ended b s1 s3 g f h on h' is_false = again_at_test s1 g f h on ∙ ap (λ r. carry r (again_on f)) (h' ∙ ap (λ (x : Bool). Ok (x, s3)) is_false)

  pub next_repeat : (b : Bool) (s1 s3 : Stage) (g : Flow) (f : Frame) → body fr s ≡ Ok (g, s1) → ((next : Frame → Effect Flow) → turned g next ≡ next f)
      → carry (condition f s1) tested ≡ Ok (b, s3) → b ≡ true → s3.left < s.left → Repeats condition body fr0 s0 f s3
  next_repeat b s1 s3 g f h on h' is_true less =
      go t.rest t.enough (again_at_test s1 g f h on ∙ ap (λ r. carry r (again_on f)) (h' ∙ ap (λ (x : Bool). Ok (x, s3)) is_true))
    where
      go : (n : ℕ) → s.left ≤ n → whole_repeats condition body fr0 s0 ≡ repeats n condition body f s3 → Repeats condition body fr0 s0 f s3
      go zero enough same = absurd (omega arith)
      go (suc n) enough same = record { rest = n; enough = omega arith; same = same }
