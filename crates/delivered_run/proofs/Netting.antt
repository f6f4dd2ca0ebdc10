-- Three miners that draw their tapes are made, and their messages delivered.
use Rattle.std.proofs.Common.{◌≡◌, ℕ, ◌-◌, List, [], ◌++◌, map, true, Result, Ok, Err, refl, sym, ◌∙◌, ap, subst, arith}
use Rattle.std.proofs.lemmas.Result.{MatchResult-weaker}
use Rattle.std.specs.Prelude.{Option, None, OnOk}
use Rattle.outside.specs.Tapes.{TapesState}
use Rattle.sc_text.specs.declared.end.Ending.{Ending}
use Rattle.proto_core.specs.declared.party.Number.{Number}
use Rattle.proto_core.specs.declared.party.Number.TheVariants.{One, Two, Three}
use Rattle.proto_core.specs.declared.link.Link.{Link}
use Rattle.proto_core.specs.Strand.{told_in}
use Rattle.proto_core.specs.Strand as strand
use Rattle.proto_core.proofs.Beginnings.{append-none}
use Rattle.protocol_model.specs.Network.{Default, Delivery, Listed, Shuffled}
use Rattle.protocol_model.specs.Runs.{Tapes}
use Rattle.gates.specs.Clear.{Values}
use Rattle.gate_node.specs.Nodes.{IsTapeOf}
use Rattle.language_model.specs.Effects.{World}
use Rattle.verified_code.specs.Settled.{settled}
use Rattle.verified_code.specs.Steps.{Function}
use Rattle.value_file.specs.Public.{part_of}
use Rattle.input_share.specs.declared.dealing.Dealt as sharing
use Rattle.clear_eval.specs.Offers.{offered}
use Rattle.view_model.specs.Dealing.{private_shares}
use Rattle.view_model.specs.TapeMaps.{miners_of}
use Rattle.program_run.specs.Codes.{code_report}
use Rattle.program_run.specs.Inputs.{dealt_of}
use Rattle.program_run.specs.Reports.{lengths_of}
use Rattle.program_run.specs.declared.running.RunReport.{RunReport}
use Rattle.code_runs.specs.ClientTold.{told_beside}
use Rattle.miner_core.specs.declared.answer.Lost.{Lost}
use Rattle.miner_core.specs.declared.answer.Lost.TheVariants as lost
use Rattle.miner_core.specs.declared.notice.Notice.{Notice}
use Rattle.miner_core.specs.declared.task.Task.{Task}
use Rattle.miner_core.specs.Drawing.{left_for, Draws}
use Rattle.miner_core.specs.Places.{Place}
use Rattle.miner_core.specs.Story.{Story, at_stop_or, cost_in, ending_in, has_told}
use Rattle.miner_core.specs.Streams.{StreamState, ForEachTape, IsMade}
use Rattle.miner_core.specs.Views.{notice_seen, task_code, task_world}
use Rattle.link_schedule.specs.declared.errors.RunErr.{RunErr}
use Rattle.link_schedule.specs.declared.errors.RunErr.TheVariants as running
use Rattle.link_schedule.specs.Answers.{RunAnswers}
use Rattle.link_schedule.specs.declared.net.Net3.{Net3}
use Rattle.link_schedule.specs.Miners.{GoesAlong}
use Rattle.link_schedule.specs.Net.{NetState, net_node}
use Rattle.link_schedule.specs.Orders as orders
use Rattle.link_schedule.specs.Parts.{AreAlike}
use Rattle.link_schedule.specs.Streams.{StreamNet, drawn_in, ahead_in, with_tapes, new_net, MayHave, ForEachTapes}
use Rattle.link_schedule.specs.Streams.{IsFreshStream, IsMinerOf, NetDrew, Along, lost_by, run_lost}
use Rattle.link_schedule.proofs.Drawing.{both, only, lost_later, net_drew_more, net_drew_none, of_one, tapes_by}
use Rattle.counted_net.specs.declared.delivery.DeliveryErr.TheVariants as err
use Rattle.delivered_run.specs.declared.errors.CourseErr.{CourseErr}
use Rattle.delivered_run.specs.declared.errors.CourseErr.TheVariants as course
use Rattle.delivered_run.specs.declared.net.Setting.{Setting}
use Rattle.delivered_run.specs.declared.running.Job.{Job}
use Rattle.delivered_run.specs.States.{RunState}
use Rattle.delivered_run.specs.Courses.{HasNetRun}
use Rattle.delivered_run.specs.Drawing.{course_of, made, scheduled, DeliversAll, DeliversOn, HasGoneOn, IsNew, Makes, NetGoes, NetRuns, RunsDealt}
use Rattle.delivered_run.specs.Nets.{Delivers, HasTold, IsToldBy, net_with, setting_world, story_for}
use Rattle.delivered_run.specs.Sources.{IsCause}
use Rattle.delivered_run.proofs.DealtRuns.{goes_on, net_is}
use Rattle.delivered_run.proofs.Going.{cause_so, lost_so}

-- ---- a miner

pub new_is :
    (i : Number) (setting : Setting) (task : Task) (dealt shares : Values) (a b : TapesState) (m : StreamState) → IsMade i task dealt [] setting.budget a b m
    → dealt ≡ shares → task_code task ≡ settled setting.code.now → task_world task ≡ setting_world setting → IsNew a b i setting shares m
new_is i setting task dealt shares a b m h same code world =
    record {
      going = h.going;
      taken = h.taken;
      drew = h.drew;
      story =
          h.story
          ∙ ap (λ (w : World). story_for w (task_code task) setting.budget (record { dealt = dealt; tape = h.taken })) world
          ∙ ap (λ (c : List Function). story_for (setting_world setting) c setting.budget (record { dealt = dealt; tape = h.taken })) code
          ∙ ap (λ (v : Values). story_for (setting_world setting) (settled setting.code.now) setting.budget (record { dealt = v; tape = h.taken })) same;
      ahead = h.ahead;
    }

-- ---- three of them

module _ (setting : Setting) (x y : Values) (a b c d : TapesState) (i j : Number) (m n : StreamState) (first : IsNew a b i setting x m)
    (second : IsNew c d j setting y n) where
  pub alike : AreAlike m.story n.story
  alike =
      record {
        world = ap (λ (s : Story). s.world) second.story ∙ sym (ap (λ (s : Story). s.world) first.story);
        code = ap (λ (s : Story). s.code) second.story ∙ sym (ap (λ (s : Story). s.code) first.story);
        budget = ap (λ (s : Story). s.budget) second.story ∙ sym (ap (λ (s : Story). s.budget) first.story);
      }

pub fresh : (setting : Setting) (x : Values) (a b : TapesState) (i : Number) (m : StreamState) → IsNew a b i setting x m → IsFreshStream m
fresh setting x a b i m h =
    record {
      from_previous = ap (λ (s : Story). s.from_previous) h.story;
      from_next = ap (λ (s : Story). s.from_next) h.story;
      going = h.going;
    }

pub makes_lost :
    {A B : Type 0} (Is : A → StreamNet → Type 0) (setting : Setting) (files : sharing.Dealt) (i : Number) (a b c : TapesState) (taken : Tapes)
    → NetDrew a b taken → (a.steady ≡ true → b.steady ≡ true) → (why : Lost) → Draws {A = B} i b c (Err why) → Makes a c Is setting files (Err why)
makes_lost Is setting files i a b c taken drew still why h =
    record {
      taken = both taken (only i h.drawn.taken);
      drew = net_drew_more a b c taken (only i h.drawn.taken) drew (of_one b c i h.drawn.taken h.drawn.drew);
      ok = tt;
      err = lost_later a b c taken drew still why h.lost;
      still = λ s. h.still (still s);
    }

module _ (setting : Setting) (files : sharing.Dealt) (a b c d : TapesState) (one two three : StreamState)
    (first : IsNew a b One setting (private_shares files.first.entries) one) (second : IsNew b c Two setting (private_shares files.second.entries) two)
    (third : IsNew c d Three setting (private_shares files.third.entries) three) where
  abbrev all_taken : Tapes
  all_taken = both (both (only One first.taken) (only Two second.taken)) (only Three third.taken)

  all_drew : NetDrew a d all_taken
  all_drew =
      net_drew_more a c d (both (only One first.taken) (only Two second.taken)) (only Three third.taken)
      (net_drew_more a b c (only One first.taken) (only Two second.taken) (of_one a b One first.taken first.drew) (of_one b c Two second.taken second.drew))
      (of_one c d Three third.taken third.drew)

  pub makes_net :
      {A : Type 0} (Is : A → StreamNet → Type 0) (x : A) → Is x (new_net one two three) → (a.steady ≡ true → d.steady ≡ true)
      → Makes a d Is setting files (Ok x)
  makes_net Is x is still =
      record {
        taken = all_taken;
        drew = all_drew;
        ok = (
          new_net one two three,
          is,
          record { going = refl; drawn = drawn; left = left; made = made_so },
        );
        err = tt;
        still = still;
      }
    where
      tape_of : (x y : List ℕ) (s : Story) (v : Values) → s ≡ story_for (setting_world setting) (settled setting.code.now) setting.budget
          (record { dealt = v; tape = x }) → x ≡ y → s.tape ≡ y
      tape_of x y s v h e = ap (λ (z : Story). z.tape) h ∙ e

      drawn : (i : Number) → drawn_in (new_net one two three) i ≡ all_taken i
      drawn One = tape_of first.taken (all_taken One) one.story _ first.story
          (sym (append-none (first.taken ++ []) ∙ append-none first.taken))
      drawn Two = tape_of second.taken (all_taken Two) two.story _ second.story (sym (append-none second.taken))
      drawn Three = tape_of third.taken (all_taken Three) three.story _ third.story refl

      left : (i : Number) → left_for i d ≡ ahead_in (new_net one two three) i
      left One = (third.drew.others 1 (λ e. absurd (omega (arith, e)))).left ∙ (second.drew.others 1 (λ e. absurd (omega (arith, e)))).left ∙ first.ahead
      left Two = (third.drew.others 2 (λ e. absurd (omega (arith, e)))).left ∙ second.ahead
      left Three = third.ahead

      dealt_so : (x : List ℕ) (s : Story) (v : Values) → s ≡ story_for (setting_world setting) (settled setting.code.now) setting.budget
          (record { dealt = v; tape = x }) → s.dealt ≡ v
      dealt_so x s v h = ap (λ (z : Story). z.dealt) h

      made_so : (tapes : Tapes) → with_tapes (new_net one two three) tapes
          ≡ net_with (setting_world setting) (settled setting.code.now) setting.budget
          (record { dealt = private_shares files.first.entries; tape = tapes One })
          (record { dealt = private_shares files.second.entries; tape = tapes Two })
          (record { dealt = private_shares files.third.entries; tape = tapes Three })
      made_so tapes =
          let world = ap (λ (s : Story). s.world) first.story in
          let code = ap (λ (s : Story). s.code) first.story in
          let budget = ap (λ (s : Story). s.budget) first.story in
          let d1 = dealt_so first.taken one.story (private_shares files.first.entries) first.story in
          let d2 = dealt_so second.taken two.story (private_shares files.second.entries) second.story in
          let d3 = dealt_so third.taken three.story (private_shares files.third.entries) third.story in
          cc

-- ---- deliveries

lost_delivers : (given : Delivery) (x y : NetState) (why : Lost) → Delivers given x y (Err (course_of why))
lost_delivers Default x y lost.Memory = tt
lost_delivers Default x y lost.TapeFault = tt
lost_delivers (Listed links) x y lost.Memory = tt
lost_delivers (Listed links) x y lost.TapeFault = tt
lost_delivers (Shuffled words) x y lost.Memory = tt
lost_delivers (Shuffled words) x y lost.TapeFault = tt

module _ (before after : StreamNet) (a b : TapesState) where
  -- in an order that the net makes itself
  pub all_made :
      (words : ℕ → ℕ) (given : Delivery) (r : Result (Unit {0}) Lost)
      → ((x y : NetState) → orders.Makes words x y → Delivers given x y (Ok tt))
      → Along before after a b (lost_by r) (λ x y. OnOk r (orders.Makes words x y)) → DeliversAll a b given before after (made r)
  all_made words given (Ok done) is h =
      record {
        taken = h.taken;
        drew = h.drew;
        ok = h.state;
        cause = tt;
        holds = λ tapes of. is (with_tapes before tapes) (with_tapes after tapes) (h.holds tapes of);
        still = h.still;
      }
  all_made words given (Err why) is h =
      record {
        taken = h.taken;
        drew = h.drew;
        ok = tt;
        cause = cause_so a b why h.state.cause;
        holds = λ tapes of. lost_delivers given (with_tapes before tapes) (with_tapes after tapes) why;
        still = h.still;
      }

  -- by a schedule
  pub all_scheduled :
      (links : List Link) (r : Result (Unit {0}) RunErr) → Along before after a b (run_lost r) (λ x y. RunAnswers x y links r)
      → DeliversAll a b (Listed links) before after (scheduled r)
  all_scheduled links (Ok done) h =
      record { taken = h.taken; drew = h.drew; ok = h.state; cause = tt; holds = h.holds; still = h.still }
  all_scheduled links (Err (running.EmptyLink entry link sent)) h =
      record { taken = h.taken; drew = h.drew; ok = tt; cause = tt; holds = λ tapes of. (h.holds tapes of).0; still = h.still }
  all_scheduled links (Err (running.Stalled miner link)) h =
      record { taken = h.taken; drew = h.drew; ok = tt; cause = tt; holds = λ tapes of. (h.holds tapes of).0; still = h.still }
  all_scheduled links (Err (running.Lost why)) h =
      record {
        taken = h.taken;
        drew = h.drew;
        ok = tt;
        cause = cause_so a b why h.state.cause;
        holds = λ tapes of. lost_delivers (Listed links) (with_tapes before tapes) (with_tapes after tapes) why;
        still = h.still;
      }

-- the same of a net, by the states that it may be in
module _ (before : StreamNet) (n : Net3) (a b : TapesState) where
  pub on_made :
      (words : ℕ → ℕ) (given : Delivery) (r : Result (Unit {0}) Lost) → ((x y : NetState) → orders.Makes words x y → Delivers given x y (Ok tt))
      → GoesAlong before n a b (lost_by r) (λ x y. OnOk r (orders.Makes words x y)) → DeliversOn a b given before n (made r)
  on_made words given r is h = record { then = h.then; delivers = all_made before h.then a b words given r is h.along; is = h.is }

  pub on_schedule :
      (links : List Link) (r : Result (Unit {0}) RunErr) → GoesAlong before n a b (run_lost r) (λ x y. RunAnswers x y links r)
      → DeliversOn a b (Listed links) before n (scheduled r)
  on_schedule links r h = record { then = h.then; delivers = all_scheduled before h.then a b links r h.along; is = h.is }

-- ---- what comes of a net

-- a tape that a miner of the net may have
pub own_tape : (s : StreamNet) (i : Number) (m : StreamState) → IsMinerOf s i m → (tapes : Tapes) → MayHave s tapes → IsTapeOf m.story.tape m.ahead (tapes i)
own_tape s i m of tapes may =
    subst (λ d. IsTapeOf d m.ahead (tapes i)) (sym of.drawn) (subst (λ n. IsTapeOf (drawn_in s i) n (tapes i)) (sym of.ahead) (may i))

-- the client is told by what its miners tell
module _ (s : StreamNet) (one two three : StreamState) (m1 : IsMinerOf s One one) (m2 : IsMinerOf s Two two) (m3 : IsMinerOf s Three three)
    (first second third : List Notice) (cost : ℕ) (ending : Option Ending) (tells1 : ForEachTape one (λ x. map notice_seen first ≡ has_told One x))
    (tells2 : ForEachTape two (λ x. map notice_seen second ≡ has_told Two x)) (tells3 : ForEachTape three (λ x. map notice_seen third ≡ has_told Three x))
    (costs : ForEachTape one (λ x. cost ≡ cost_in One x)) (ends : ForEachTape one (λ x. ending ≡ ending_in One x)) where
  pub client_told : (told : RunReport) → IsToldBy first second third cost ending told → ForEachTapes s (λ n. HasTold n told)
  client_told told h = λ going tapes may.
      let n = with_tapes s tapes in
      let t1 = own_tape s One one m1 tapes may in
      let at1 = m1.at tapes may in
      let tells : Number → List strand.Notice = λ i. told_in (net_node n i).acts in
      let seen2 = map notice_seen second in
      let seen3 = map notice_seen third in
      record {
        events =
            h.events
            ∙ ap (λ ns. told_beside ns seen2 seen3) (tells1 m1.going (tapes One) t1 ∙ ap told_in at1.acts)
            ∙ ap (λ ns. told_beside (tells One) ns seen3) (tells2 m2.going (tapes Two) (own_tape s Two two m2 tapes may) ∙ ap told_in (m2.at tapes may).acts)
            ∙ ap (told_beside (tells One) (tells Two))
            (tells3 m3.going (tapes Three) (own_tape s Three three m3 tapes may) ∙ ap told_in (m3.at tapes may).acts);
        how = λ p x. sym (ends m1.going (tapes One) t1 ∙ ap (at_stop_or None (λ (q : Place). q.ended)) (at1.left ∙ x.left)) ∙ h.how;
        cost = λ p x.
            h.cost
            ∙ costs m1.going (tapes One) t1
            ∙ ap (at_stop_or 0 (λ (q : Place). one.story.budget - q.stage.left)) (at1.left ∙ x.left)
            ∙ ap (λ k. k - p.stage.left) at1.budget;
      }

module _ (a b : TapesState) (given : Delivery) (net after : StreamNet) where
  pub goes_refused : (e : CourseErr) → DeliversAll a b given net after (Err e) → NetGoes a b given net (Err e)
  goes_refused e h =
      record { taken = h.taken; drew = h.drew; cause = h.cause; holds = λ tapes of. (with_tapes after tapes, h.holds tapes of); still = h.still }

  pub goes_short : DeliversAll a b given net after (Ok tt) → NetGoes a b given net (Err (course.Delivery err.Memory))
  goes_short h =
      record {
        taken = h.taken;
        drew = h.drew;
        cause = tt;
        holds = λ tapes of. (with_tapes after tapes, lost_delivers given (with_tapes net tapes) (with_tapes after tapes) lost.Memory);
        still = h.still;
      }

  pub goes_well :
      (ran : RunState) → ran.net ≡ after → DeliversAll a b given net after (Ok tt) → ForEachTapes after (λ n. HasTold n ran.run.report)
      → ran.run.delivered.items ≡ after.delivered → NetGoes a b given net (Ok ran)
  goes_well ran is h told delivered =
      record {
        taken = h.taken;
        drew = h.drew;
        cause = tt;
        holds =
            λ tapes of.
            let may : MayHave after tapes =
            tapes_by (both (drawn_in net) h.taken) (drawn_in after) (λ i. left_for i b) (ahead_in after) (λ i. sym (h.ok.drawn i)) h.ok.left tapes of in
            subst (λ n. HasGoneOn given net (record { run = ran.run; net = n }) tapes) (sym is)
            (record { delivers = h.holds tapes of; may = may; told = told h.ok.going tapes may; delivered = delivered });
        still = h.still;
      }

later_cause : (a b c : TapesState) (taken : Tapes) (d : NetDrew a b taken) (still : a.steady ≡ true → b.steady ≡ true) (e : CourseErr)
    → IsCause b c e → IsCause a c e
later_cause a b c taken d still (course.Delivery e) h = tt
later_cause a b c taken d still course.TapeFault h = lost_later a b c taken d still lost.TapeFault h

-- ---- what comes of what was dealt

module _ (job : Job) (files : sharing.Dealt) (given : Delivery) where
  pub runs_without : (a : TapesState) → NetRuns a a {A = RunState} (Err (course.Delivery err.Memory))
      (RunsDealt job files given (Err (course.Delivery err.Memory)))
  runs_without a =
      record { taken = λ i. []; drew = net_drew_none a; cause = tt; holds = λ t of are. tt; still = λ s. s }

  pub runs_unmade :
      {A : Type 0} (Is : A → StreamNet → Type 0) (setting : Setting) (a b : TapesState) (why : Lost) → Makes a b Is setting files (Err why)
      → NetRuns a b {A = RunState} (Err (course_of why)) (RunsDealt job files given (Err (course_of why)))
  runs_unmade Is setting a b why h =
      record {
        taken = h.taken;
        drew = h.drew;
        cause = cause_so a b why h.err;
        holds = λ t of are.
            lost_so RunState (dealt_of job.inputs.now t.dealer) (code_report job.code.now job.inputs.now t job.budget) given
            (HasNetRun (offered job.inputs.now (lengths_of t)) (dealt_of job.inputs.now t.dealer) (settled job.code.now) job.budget (miners_of t)
            (code_report job.code.now job.inputs.now t job.budget) given) why;
        still = h.still;
      }

  module _ (setting : Setting) (same_code : setting.code.now ≡ job.code.now) (same_lengths : setting.lengths ≡ job.lengths)
      (same_budget : setting.budget ≡ job.budget) (part : setting.part.now ≡ part_of job.inputs.now) where
    pub runs_made :
        {A : Type 0} (Is : A → StreamNet → Type 0) (a b c : TapesState) (x : A) (m : Makes a b Is setting files (Ok x)) (result : Result RunState CourseErr)
        → NetGoes b c given m.ok.0 result → NetRuns a c result (RunsDealt job files given result)
    runs_made Is a b c x m result g =
        record {
          taken = both m.taken g.taken;
          drew = net_drew_more a b c m.taken g.taken m.drew g.drew;
          cause = MatchResult-weaker result g.cause (λ x k. k) (later_cause a b c m.taken m.drew m.still);
          holds = λ t of are.
              goes_on job.code.now job.inputs.now t job.budget are.runs m.ok.0
              (m.ok.2.made (miners_of t)
              ∙ ap (λ code. net_with (setting_world setting) (settled code) setting.budget
              (record { dealt = private_shares files.first.entries; tape = t.one })
              (record { dealt = private_shares files.second.entries; tape = t.two })
              (record { dealt = private_shares files.third.entries; tape = t.three })) same_code
              ∙ ap (λ budget. net_with (setting_world setting) (settled job.code.now) budget
              (record { dealt = private_shares files.first.entries; tape = t.one })
              (record { dealt = private_shares files.second.entries; tape = t.two })
              (record { dealt = private_shares files.third.entries; tape = t.three })) same_budget
              ∙ net_is job.code.now job.inputs.now t job.budget are.runs setting.part.now setting.lengths files.first files.second files.third
              part (same_lengths ∙ are.lengths) are.first are.second are.third)
              given result
              (g.holds (miners_of t) (λ i. subst (λ d. IsTapeOf (d ++ g.taken i) (left_for i c) (miners_of t i)) (sym (m.ok.2.drawn i)) (of i)));
          still = λ s. g.still (m.still s);
        }
