-- For the crate's own functions: what they draw of a source of tapes.
use Rattle.std.specs.Prelude.{◌≡◌, ◌<◌, ◌≤◌, ℕ, List, [], ◌∷◌, ◌++◌, length, drop, true, None, Result, Ok, Err, OnOk, IfOk, IfErr}
use Rattle.outside.specs.Tapes.{TapesState, Drew, left_of}
use Rattle.proto_core.specs.declared.party.Number.{Number}
use Rattle.proto_core.specs.declared.party.Number.TheVariants.{One, Two, Three}
use Rattle.proto_core.specs.Parties.{count_of}
use Rattle.protocol_model.specs.Network.{Delivery}
use Rattle.protocol_model.specs.Runs.{Tapes}
use Rattle.gates.specs.Clear.{Values}
use Rattle.verified_code.specs.Settled.{settled}
use Rattle.tape_file.specs.Tapes.{FourTapes}
use Rattle.program_trees.specs.TypedPrograms.{TypedProgramTree}
use Rattle.value_file.specs.declared.inputs.Entry.{Entry}
use Rattle.input_share.specs.Dealing.{dealt, need_of}
use Rattle.input_share.specs.declared.dealing.Dealt as sharing
use Rattle.clear_eval.specs.Offers.{offered}
use Rattle.view_model.specs.Dealing.{private_shares}
use Rattle.view_model.specs.TapeMaps.{miners_of, AreTapes}
use Rattle.program_run.specs.Accepted.{IsAccepted}
use Rattle.program_run.specs.Codes.{CanRunOn, IsCodeOf, code_report}
use Rattle.program_run.specs.Inputs.{AreSound, dealt_of}
use Rattle.program_run.specs.Reports.{lengths_of}
use Rattle.miner_core.specs.declared.answer.Lost.{Lost}
use Rattle.miner_core.specs.declared.answer.Lost.TheVariants as lost
use Rattle.miner_core.specs.declared.kept.Kept.{Kept}
use Rattle.miner_core.specs.Drawing.{left_for, IsLostBy}
use Rattle.miner_core.specs.Miners.{MinerSeen, IsOf}
use Rattle.miner_core.specs.Streams.{StreamState}
use Rattle.link_schedule.specs.declared.errors.RunErr.{RunErr}
use Rattle.link_schedule.specs.declared.errors.RunErr.TheVariants as running
use Rattle.link_schedule.specs.declared.net.Net3.{Net3}
use Rattle.link_schedule.specs.Miners.{unfetched, IsNetOf}
use Rattle.link_schedule.specs.Net.{NetState}
use Rattle.link_schedule.specs.Streams.{StreamNet, drawn_in, ahead_in, with_tapes, AreTapesOf, MayHave, NetDrew, HasGone}
use Rattle.counted_net.specs.declared.delivery.DeliveryErr.TheVariants as err
use Rattle.delivered_run.specs.States.{CourseState}
use Rattle.delivered_run.specs.declared.errors.CourseErr.{CourseErr}
use Rattle.delivered_run.specs.declared.errors.CourseErr.TheVariants as course
use Rattle.delivered_run.specs.declared.net.Setting.{Setting}
use Rattle.delivered_run.specs.declared.running.Job.{Job}
use Rattle.delivered_run.specs.States.{RunState}
use Rattle.delivered_run.specs.Courses.{IsCourseOf, IsNetRun}
use Rattle.delivered_run.specs.Nets.{Delivers, HasTold, net_with, setting_world, story_for}
use Rattle.delivered_run.specs.Sources.{IsCause}

-- how many words the four tapes have left
abbrev pub lengths_in : TapesState → List ℕ
lengths_in s = left_of s 0 ∷ left_of s 1 ∷ left_of s 2 ∷ left_of s 3 ∷ []

-- why a run gives nothing whose net was lost
abbrev pub course_of : Lost → CourseErr
course_of lost.Memory = course.Delivery err.Memory
course_of lost.TapeFault = course.TapeFault

-- what comes of a schedule, and of an order that the net makes itself
abbrev pub scheduled : Result (Unit {0}) RunErr → Result (Unit {0}) CourseErr
scheduled (Ok done) = Ok tt
scheduled (Err (running.EmptyLink entry link sent)) = Err (course.Delivery (err.EmptyLink entry link sent))
scheduled (Err (running.Stalled miner link)) = Err (course.Delivery (err.Stalled miner link))
scheduled (Err (running.Lost why)) = Err (course_of why)

abbrev pub made : Result (Unit {0}) Lost → Result (Unit {0}) CourseErr
made (Ok done) = Ok tt
made (Err why) = Err (course_of why)

-- the net's messages are delivered so, and what comes of it is what its miners then tell; with all tapes that they may have
pub record HasGoneOn (given : Delivery) (net : StreamNet) (ran : RunState) (tapes : Tapes) : Type 0 where
  pub delivers : Delivers given (with_tapes net tapes) (with_tapes ran.net tapes) (Ok tt)
  pub may : MayHave ran.net tapes
  pub told : HasTold (with_tapes ran.net tapes) ran.run.report
  pub delivered : ran.run.delivered.items ≡ ran.net.delivered

abbrev pub GoesOn : Delivery → StreamNet → Result RunState CourseErr → (tapes : Tapes) → Type 0
GoesOn given net (Ok ran) tapes = HasGoneOn given net ran tapes
GoesOn given net (Err e) tapes = (then : NetState) × Delivers given (with_tapes net tapes) then (Err e)

module _ (old new : TapesState) where
  -- ---- the dealer

  -- it has drawn as many words as it needs, or all where these are fewer
  pub record HasDealers (need : ℕ) (words taken : List ℕ) : Type 0 where
    pub are : words ≡ taken
    pub all : length taken < need → left_of new 0 ≡ 0

  pub record DealerDraws {A : Type 0} (entries : List Entry) (items : A → List ℕ) (result : Result A Lost) : Type 0 where
    pub taken : List ℕ
    pub drew : Drew old new 0 taken
    pub few : length taken ≤ need_of entries
    pub ok : IfOk result (λ words. HasDealers (need_of entries) (items words) taken)
    pub err : IfErr result (IsLostBy old new)
    pub still : old.steady ≡ true → new.steady ≡ true

  -- ---- a miner

  -- it is made with this, and has drawn what leads to its first wait
  pub record IsNew (i : Number) (setting : Setting) (shares : Values) (m : StreamState) : Type 0 where
    pub going : m.lost ≡ None
    pub taken : List ℕ
    pub drew : Drew old new (count_of i) taken
    pub story :
        m.story ≡ story_for (setting_world setting) (settled setting.code.now) setting.budget (record { dealt = shares; tape = taken })
    pub ahead : left_for i new ≡ m.ahead

  -- the same of a miner that may let go what is done with
  pub record IsNewSo {P : Type 0} (i : Number) (setting : Setting) (shares : Values) (past : Kept) (m : MinerSeen P) : Type 0 where
    pub stream : StreamState
    pub made : IsNew i setting shares stream
    pub is : IsOf i m (unfetched stream)
    pub past_is : m.past ≡ past

  -- ---- three miners

  -- nothing was delivered, and they have drawn these words
  pub record HasMade (setting : Setting) (files : sharing.Dealt) (taken : Tapes) (net : StreamNet) : Type 0 where
    pub going : net.lost ≡ None
    pub drawn : (i : Number) → drawn_in net i ≡ taken i
    pub left : (i : Number) → left_for i new ≡ ahead_in net i
    pub made :
        (tapes : Tapes) →
        with_tapes net tapes ≡ net_with (setting_world setting) (settled setting.code.now) setting.budget
        (record { dealt = private_shares files.first.entries; tape = tapes One })
        (record { dealt = private_shares files.second.entries; tape = tapes Two })
        (record { dealt = private_shares files.third.entries; tape = tapes Three })

  -- by what is made, which is a net of a state
  pub record Makes {A : Type 0} (Is : A → StreamNet → Type 0) (setting : Setting) (files : sharing.Dealt) (result : Result A Lost) : Type 0 where
    pub taken : Tapes
    pub drew : NetDrew old new taken
    pub ok : IfOk result (λ x. (net : StreamNet) × Is x net × HasMade setting files taken net)
    pub err : IfErr result (IsLostBy old new)
    pub still : old.steady ≡ true → new.steady ≡ true

  -- a delivery
  pub record DeliversAll (given : Delivery) (before after : StreamNet) (result : Result (Unit {0}) CourseErr) : Type 0 where
    pub taken : Tapes
    pub drew : NetDrew old new taken
    pub ok : OnOk result (HasGone before after old new taken)
    pub cause : IfErr result (IsCause old new)
    pub holds :
        (tapes : Tapes) → AreTapesOf (λ i. drawn_in before i ++ taken i) (λ i. left_for i new) tapes →
        Delivers given (with_tapes before tapes) (with_tapes after tapes) result
    pub still : old.steady ≡ true → new.steady ≡ true

  -- the same of a net, by the states that it may be in
  pub record DeliversOn (given : Delivery) (before : StreamNet) (n : Net3) (result : Result (Unit {0}) CourseErr) : Type 0 where
    pub then : StreamNet
    pub delivers : DeliversAll given before then result
    pub is : IsNetOf n then

  pub record NetGoes (given : Delivery) (net : StreamNet) (result : Result RunState CourseErr) : Type 0 where
    pub taken : Tapes
    pub drew : NetDrew old new taken
    pub cause : IfErr result (IsCause old new)
    pub holds :
        (tapes : Tapes) → AreTapesOf (λ i. drawn_in net i ++ taken i) (λ i. left_for i new) tapes → GoesOn given net result tapes
    pub still : old.steady ≡ true → new.steady ≡ true

  -- words of the miners' tapes were drawn; and this holds with each four tapes of which those of the miners begin with these words, and have as many after
  -- them as are left
  pub record NetRuns {A : Type 0} (result : Result A CourseErr) (Q : FourTapes → Type 0) : Type 0 where
    pub taken : Tapes
    pub drew : NetDrew old new taken
    pub cause : IfErr result (IsCause old new)
    pub holds : (t : FourTapes) → AreTapesOf taken (λ i. left_for i new) (miners_of t) → Q t
    pub still : old.steady ≡ true → new.steady ≡ true

-- ---- three miners with what was dealt

-- tapes as long as these, with whose dealer's words these files were dealt, and on which the code may run
pub record AreDealt (job : Job) (files : sharing.Dealt) (t : FourTapes) : Type 0 where
  pub lengths : job.lengths ≡ lengths_of t
  pub first : files.first ≡ dealt One job.inputs.now t.dealer (lengths_of t)
  pub second : files.second ≡ dealt Two job.inputs.now t.dealer (lengths_of t)
  pub third : files.third ≡ dealt Three job.inputs.now t.dealer (lengths_of t)
  pub runs : CanRunOn job.code.now job.inputs.now t

abbrev pub RunsDealt : Job → sharing.Dealt → Delivery → (result : Result RunState CourseErr) → FourTapes → Type 0
RunsDealt job files given result t =
    AreDealt job files t
    → IsNetRun (offered job.inputs.now (lengths_of t)) (dealt_of job.inputs.now t.dealer) (settled job.code.now) job.budget (miners_of t)
    (code_report job.code.now job.inputs.now t job.budget) given result

-- ---- the run

-- tapes of words, as long as these, whose dealer's begins with these words, and has no others where they are too few
pub record AreDealtWith (job : Job) (words : List ℕ) (t : FourTapes) : Type 0 where
  pub lengths : job.lengths ≡ lengths_of t
  pub begins : t.dealer ≡ words ++ drop (length words) t.dealer
  pub all : length words < need_of job.inputs.now → t.dealer ≡ words
  pub of_words : AreTapes t

-- it goes as the program's does of which the code is
abbrev pub GoesWith : Job → (words : List ℕ) → Delivery → (result : Result CourseState CourseErr) → FourTapes → Type 0
GoesWith job words given result t =
    (p : TypedProgramTree) → IsAccepted p → IsCodeOf p job.code.now → AreSound job.inputs.now → AreDealtWith job words t →
    IsCourseOf p job.inputs.now t job.budget given result

pub record CourseDraws (job : Job) (words : List ℕ) (given : Delivery) (old new : TapesState) (result : Result CourseState CourseErr) : Type 0 where
  pub runs : NetRuns old new result (GoesWith job words given result)
  pub undealt : length words < need_of job.inputs.now → (i : Number) → runs.taken i ≡ []
