-- How the run of a program goes, by what its parts come to.
use Rattle.std.proofs.Common.{◌≡◌, ◌<◌, ◌≤◌, ℕ, List, [], length, drop, Result, Ok, Err, refl, sym, ◌∙◌, ap, subst, length-append, arith}
use Rattle.outside.specs.Tapes.{TapesState}
use Rattle.proto_core.specs.declared.party.Number.{Number}
use Rattle.proto_core.specs.declared.party.Number.TheVariants.{One, Two, Three}
use Rattle.protocol_model.specs.Network.{Delivery}
use Rattle.tape_file.specs.Tapes.{FourTapes}
use Rattle.value_file.specs.declared.inputs.Entry.{Entry}
use Rattle.input_share.specs.Dealing.{dealt, need_of}
use Rattle.input_share.specs.Refusal.{Refuses}
use Rattle.input_share.specs.ShareFile.{MinerFile}
use Rattle.input_share.specs.declared.entry.ShareEntry.{ShareEntry}
use Rattle.input_share.specs.declared.dealing.DealErr.{DealErr}
use Rattle.input_share.specs.declared.dealing.DealErr.TheVariants as refusal
use Rattle.input_share.specs.declared.dealing.Dealt as sharing
use Rattle.verified_code.specs.Settled.{settled}
use Rattle.clear_eval.specs.Offers.{offered}
use Rattle.program_trees.specs.TypedPrograms.{TypedProgramTree}
use Rattle.language_model.specs.Reports.{Report}
use Rattle.code_runs.specs.Dealt.{Dealt}
use Rattle.view_model.specs.TapeMaps.{miners_of}
use Rattle.program_run.specs.Accepted.{IsAccepted}
use Rattle.program_run.specs.Codes.{IsCodeOf, code_report}
use Rattle.program_run.specs.Inputs.{AreSound, Suffice, dealt_of}
use Rattle.program_run.specs.Reports.{eval_with, lengths_of}
use Rattle.program_run.proofs.Shared.{can_run_so, report_so}
use Rattle.miner_core.specs.declared.answer.Lost.{Lost}
use Rattle.miner_core.specs.declared.answer.Lost.TheVariants as lost
use Rattle.miner_core.specs.Drawing.{IsLostBy}
use Rattle.link_schedule.proofs.Drawing.{net_drew_none}
use Rattle.counted_net.specs.declared.delivery.DeliveryErr.{DeliveryErr}
use Rattle.delivered_run.specs.States.{CourseState, run_told}
use Rattle.delivered_run.specs.States as course
use Rattle.delivered_run.specs.declared.errors.CourseErr.{CourseErr}
use Rattle.delivered_run.specs.declared.errors.CourseErr.TheVariants as fault
use Rattle.delivered_run.specs.declared.running.DeliveredRun.{DeliveredRun}
use Rattle.delivered_run.specs.declared.running.Job.{Job}
use Rattle.delivered_run.specs.States.{RunState}
use Rattle.delivered_run.specs.Courses.{HasCourse, HasNetRun, IsNetRun, file_of}
use Rattle.delivered_run.specs.Deliveries.{HasRunOf, IsOr}
use Rattle.delivered_run.specs.Drawing.{course_of, AreDealt, AreDealtWith, CourseDraws, NetRuns, RunsDealt}
use Rattle.delivered_run.specs.Sources.{IsCause}
use Rattle.delivered_run.specs.Undealt.{IsUndealtBy}
use Rattle.delivered_run.proofs.Dealing.{dealt-front}
use Rattle.delivered_run.proofs.Undealt.{undealt_ran, undealt_refused}

-- where memory ran out or a tape couldn't be read no more is said
pub lost_so : (A : Type 0) (d : Dealt) (r : Report) (given : Delivery) (Q : A → Type 0) (why : Lost) → IsOr d r given Q (Err (course_of why))
lost_so A d r given Q lost.Memory = tt
lost_so A d r given Q lost.TapeFault = tt

pub cause_so : (a b : TapesState) (why : Lost) → IsLostBy a b why → IsCause a b (course_of why)
cause_so a b lost.Memory h = tt
cause_so a b lost.TapeFault h = h

-- an error is the same, whatever was to come
pub same_err : {A B : Type 0} (d : Dealt) (r : Report) (given : Delivery) (Q : A → Type 0) (R : B → Type 0) (e : CourseErr) → IsOr d r given Q (Err e)
    → IsOr d r given R (Err e)
same_err d r given Q R (fault.Delivery e) h = h
same_err d r given Q R fault.TapeFault h = tt

-- ---- what was told

module _ (p : TypedProgramTree) (entries : List Entry) (t : FourTapes) (budget : ℕ) (given : Delivery) where
  told_so : (went : CourseState) → HasCourse p entries t budget given went → HasRunOf p entries t budget given (run_told went)
  told_so (course.Dealt files end) h = h.ran.run
  told_so (course.Undealt run) h = h.ran

  pub run_so : (went : CourseState) → HasCourse p entries t budget given went → (run : DeliveredRun) → run ≡ run_told went
      → HasRunOf p entries t budget given run
  run_so went h run is = subst (HasRunOf p entries t budget given) (sym is) (told_so went h)

-- ---- the inputs are dealt with the dealer's words

abbrev file_with : Number → List ShareEntry → (lens : List ℕ) → MinerFile
file_with i es lens = record { entries = es; lens = lens; miner = i }

module _ (job : Job) (words : List ℕ) (given : Delivery) (files : sharing.Dealt) (enough : need_of job.inputs.now ≤ length words)
    (first : files.first ≡ dealt One job.inputs.now words job.lengths) (second : files.second ≡ dealt Two job.inputs.now words job.lengths)
    (third : files.third ≡ dealt Three job.inputs.now words job.lengths) where
  abbrev entries : List Entry
  entries = job.inputs.now

  -- with tapes that begin so
  module _ (t : FourTapes) (are : AreDealtWith job words t) where
    same : (i : Number) → dealt i entries words job.lengths ≡ dealt i entries t.dealer (lengths_of t)
    same i =
        ap (dealt i entries words) are.lengths
        ∙ ap (λ es. file_with i es (lengths_of t)) (sym (dealt-front i entries words (drop (length words) t.dealer) enough))
        ∙ ap (λ w. dealt i entries w (lengths_of t)) (sym are.begins)

    file_so : (i : Number) → file_of files i ≡ dealt i entries t.dealer (lengths_of t)
    file_so One = first ∙ same One
    file_so Two = second ∙ same Two
    file_so Three = third ∙ same Three

    suffice : Suffice entries t.dealer
    suffice =
        let long = ap length are.begins ∙ length-append words (drop (length words) t.dealer) in
        record { words = are.of_words.dealer; enough = omega (arith, long, enough) }

    module _ (p : TypedProgramTree) (accepted : IsAccepted p) (code : IsCodeOf p job.code.now) (sound : AreSound entries) where
      are_dealt : AreDealt job files t
      are_dealt =
          record {
            lengths = are.lengths;
            first = file_so One;
            second = file_so Two;
            third = file_so Three;
            runs =
                can_run_so p accepted job.code.now code entries t sound suffice (are.of_words.miners One) (are.of_words.miners Two) (are.of_words.miners Three);
          }

      means : code_report job.code.now entries t job.budget ≡ eval_with p entries t job.budget
      means =
          report_so p accepted job.code.now code entries t sound suffice (are.of_words.miners One) (are.of_words.miners Two)
          (are.of_words.miners Three) job.budget

      ran_so : (r : Result RunState CourseErr) → RunsDealt job files given r t
          → IsNetRun (offered entries (lengths_of t)) (dealt_of entries t.dealer) (settled job.code.now) job.budget (miners_of t)
          (eval_with p entries t job.budget) given r
      ran_so r h =
          subst
          (λ (x : Report). IsNetRun (offered entries (lengths_of t)) (dealt_of entries t.dealer) (settled job.code.now) job.budget (miners_of t) x given r)
          means (h are_dealt)

  module _ (a b : TapesState) where
    too_few : {P : Type 0} → length words < need_of entries → P
    too_few h = absurd (omega (arith, h, enough))

    pub dealt_course : (end : RunState) → NetRuns a b (Ok end) (RunsDealt job files given (Ok end)) →
        CourseDraws job words given a b (Ok (course.Dealt files end))
    dealt_course end h =
        record {
          runs =
              record {
                taken = h.taken;
                drew = h.drew;
                cause = tt;
                holds = λ t of p accepted code sound are. record {
                  code = settled job.code.now;
                  of_program = (job.code.now, code, refl);
                  can = record { sound = sound; suffice = suffice t are; words = are.of_words.miners };
                  file = file_so t are;
                  ran = ran_so t are p accepted code sound (Ok end) (h.holds t of);
                };
                still = h.still;
              };
          undealt = λ few i. too_few few;
        }

    pub dealt_refused : (e : CourseErr) → NetRuns a b {A = RunState} (Err e) (RunsDealt job files given (Err e)) → CourseDraws job words given a b (Err e)
    dealt_refused e h =
        record {
          runs =
              record {
                taken = h.taken;
                drew = h.drew;
                cause = h.cause;
                holds = λ t of p accepted code sound are.
                    same_err (dealt_of entries t.dealer) (eval_with p entries t job.budget) given
                    (HasNetRun (offered entries (lengths_of t)) (dealt_of entries t.dealer) (settled job.code.now) job.budget (miners_of t)
                    (eval_with p entries t job.budget) given)
                    (HasCourse p entries t job.budget given) e (ran_so t are p accepted code sound (Err e) (h.holds t of));
                still = h.still;
              };
          undealt = λ few i. too_few few;
        }

-- ---- or can't be dealt

module _ (job : Job) (words : List ℕ) (given : Delivery) (a : TapesState) (why : DealErr) (short : Refuses (need_of job.inputs.now) (length words) why) where
  -- the tapes have no other words of the dealer's, or memory ran out
  short_at : (t : FourTapes) → AreDealtWith job words t → (w : DealErr) → Refuses (need_of job.inputs.now) (length words) w
      → Refuses (need_of job.inputs.now) (length t.dealer) w
  short_at t are (refusal.TapeShort need have) h =
      subst (λ (d : List ℕ). Refuses (need_of job.inputs.now) (length d) (refusal.TapeShort need have)) (sym (are.all h.0)) h
  short_at t are refusal.Memory h =
      let long = ap length are.begins ∙ length-append words (drop (length words) t.dealer) in
      omega (arith, long, h)

  pub undealt_course : (run : DeliveredRun) → IsUndealtBy why given (Ok run) → CourseDraws job words given a a (Ok (course.Undealt run))
  undealt_course run h =
      record {
        runs =
            record {
              taken = λ i. [];
              drew = net_drew_none a;
              cause = tt;
              holds = λ t of p accepted code sound are. undealt_ran p job.inputs.now t job.budget given why (short_at t are why short) run h;
              still = λ s. s;
            };
        undealt = λ few i. refl;
      }

  pub undealt_not : (e : DeliveryErr) → IsUndealtBy why given (Err e) → CourseDraws job words given a a (Err (fault.Delivery e))
  undealt_not e h =
      record {
        runs =
            record {
              taken = λ i. [];
              drew = net_drew_none a;
              cause = tt;
              holds = λ t of p accepted code sound are. undealt_refused p job.inputs.now t job.budget given why (short_at t are why short) e h;
              still = λ s. s;
            };
        undealt = λ few i. refl;
      }
