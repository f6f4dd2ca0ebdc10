-- The meaning of a program's code is the program's evaluation, in the clear and blind.
use Rattle.std.proofs.Common.{◌≡◌, ℕ, suc, ◌+◌, List, [], ◌∷◌, Some, Ok, Err, Bool, true, false, cond, refl, sym, ap, ◌∙◌, subst, arith}
use Rattle.std.proofs.Common.{◌⊎◌, inl, inr}
use Rattle.std.specs.Prelude.{slice_get, nat_le, map, if◌then◌else◌}
use Rattle.sc_text.specs.Lists.{Among}
use Rattle.sc_text.specs.declared.end.Ending.TheVariants as ending
use Rattle.program_trees.specs.TypedPrograms.{TypedProgramTree}
use Rattle.reached_instances.specs.declared.instance.BoundDomain.{BoundDomain}
use Rattle.reached_instances.specs.Domains.{given_domain}
use Rattle.reached_instances.specs.Instances.{Instance, same_instance}
use Rattle.reached_instances.proofs.Listing.{same_instance-Decides}
use Rattle.blind_evaluation.specs.Effects.{World, Stage, RunStop, Ended, Run}
use Rattle.blind_evaluation.specs.Values.{Value}
use Rattle.blind_evaluation.specs.Evaluation.{is_private, body_of, call_at}
use Rattle.blind_evaluation.specs.Reports.{dealing, not_dealt, beginning, report_of, evaluated}
use Rattle.verified_code.specs.Steps.{Function}
use Rattle.code_model.specs.Machine.{Machine, further, exec, resume, limit, begin_at, start}
use Rattle.code_model.specs.Meaning.{fuel, report_at, stopped_or, mean_in}
use Rattle.code_model.specs.Programs.{place_of, numbers_in, code_of_found, instance_code, function_code, code_of}
use Rattle.code_model.specs.Fit.{IsKnownIn, IsFitProgram, the_main}
use Rattle.code_model.proofs.Follows.{Follows, one}
use Rattle.code_model.proofs.Calls.{IsKnown, Returns, body_runs, calls_run}
use Rattle.code_model.proofs.Ends.{one_end}
use Rattle.code_model.proofs.Forward.{all_forward}

-- ---- INSTANCES

place_found : {A : Type 0} (f : Instance → A) (i : Instance) (is : List Instance) → Among i is → slice_get (map f is) (place_of i is) ≡ Some (f i)
place_found f i [] h = absurd h
place_found {A = A} f i (j ∷ js) h = go (same_instance i j) refl h (place_found f i js)
  where
    clash : {b : Bool} → b ≡ true → b ≡ false → ⊥
    clash {b = true} e g = cc
    clash {b = false} e g = cc

    go : (b : Bool) → same_instance i j ≡ b → (i ≡ j) ⊎ Among i js → (Among i js → slice_get (map f js) (place_of i js) ≡ Some (f i)) → slice_get
        (f j ∷ map f js) (cond b 0 (place_of i js + 1)) ≡ Some (f i)
    go true e m rest = ap (λ z. Some (f z)) (sym ((same_instance-Decides i j).0 e))
    go false e (inl same) rest = absurd (clash ((same_instance-Decides i j).1 same) e)
    go false e (inr m) rest = let n : place_of i js + 1 ≡ suc (place_of i js) = omega arith in ap (slice_get (f j ∷ map f js)) n ∙ rest m

module _ (p : TypedProgramTree) (is : List Instance) (fit : IsFitProgram p is) where
  abbrev code : List Function
  code = code_of p is

  known : (w : World) (k : ℕ) (b : List BoundDomain) → IsKnownIn is k b → IsKnown w code (numbers_in is) p.functions (IsKnownIn is) k b
  known w k b m =
      let i : Instance = record { function = k; binding = b } in
      let x = fit.instances i m in
      record {
        called = x.called;
        there = x.there;
        code = place_found (instance_code p.functions (numbers_in is)) i is m ∙ ap (λ o. Some (code_of_found (numbers_in is) p.functions b o)) x.there;
        fit = x.fit;
      }

  main_known : IsKnownIn is 0 []
  main_known = subst (Among the_main) (sym fit.begins) (inl refl)

  main_first : numbers_in is 0 [] ≡ 0
  main_first = ap (place_of the_main) fit.begins

  -- ---- THE RUN

  ended : Run Value → RunStop × Stage
  ended (Ok x) = (Ended ending.Done, x.1)
  ended (Err e) = e

  runs_to : (w : World) (s : Stage) → (k : ℕ) × (exec w code k (start code) s ≡ Some
      (ended (body_of w (call_at w p.functions limit) p.functions (slice_get p.functions 0) [] [] s)))
  unfolding ended
  runs_to w s =
      subst (λ z. (k : ℕ) × (exec w code k z s ≡ Some (ended (body_of w (call_at w p.functions limit) p.functions (slice_get p.functions 0) [] [] s))))
      (sym begins)
      (subst (λ z. (k : ℕ) × (exec w code k m0 s ≡ Some (ended (body_of w (call_at w p.functions limit) p.functions z [] [] s)))) (sym kn.there)
      (go (body_of w (call_at w p.functions limit) p.functions (Some kn.called) [] [] s)
      ((body_runs w code (numbers_in is) p.functions (IsKnownIn is) (known w) (call_at w p.functions limit) limit
      (calls_run w code (numbers_in is) p.functions (IsKnownIn is) (known w) limit) 0 [] kn [] [] m0 tt refl refl refl refl (λ i. refl)).from s)))
    where
      kn : IsKnown w code (numbers_in is) p.functions (IsKnownIn is) 0 []
      kn = known w 0 [] main_known

      m0 : Machine
      m0 = begin_at (Some (function_code (numbers_in is) p.functions kn.called []))

      begins : start code ≡ m0
      begins = ap begin_at (ap (slice_get code) (sym main_first) ∙ kn.code)

      go : (r : Run Value) → Follows w code m0 s r (Returns w code (numbers_in is) p.functions (IsKnownIn is) (known w) []
          (is_private (given_domain [] kn.called.given))) → (k : ℕ) × (exec w code k m0 s ≡ Some (ended r))
      go (Err x) h = h
      go (Ok x) h = let a = h.2.by 1 in (a.0, a.1 ∙ one w code 0 h.0 x.1 ∙ ap (λ z. further z (exec w code 0)) (h.3.1 x.1 ∙ ap (λ z. resume z x.0 x.1) h.3.0))

  report_same : (w : World) (budget : ℕ) (r : Run Value) → report_at w budget (ended r) ≡ report_of w budget r
  unfolding ended
  report_same w budget (Ok x) = refl
  report_same w budget (Err e) = refl

  pub means : (w : World) (budget : ℕ) (answers : List ℕ) → mean_in w code budget answers ≡ evaluated w p budget answers
  means w budget answers =
      let s = beginning budget answers in
      let r = body_of w (call_at w p.functions limit) p.functions (slice_get p.functions 0) [] [] s in
      let stop : stopped_or s (exec w code (fuel code budget) (start code) s) ≡ ended r = one_end w code (all_forward p is) s (ended r) (runs_to w s) in
      ap (λ z. if nat_le (dealing w) w.dealer then z else not_dealt w) (ap (report_at w budget) stop ∙ report_same w budget r)
