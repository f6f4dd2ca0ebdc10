-- A run that draws from a source, with each four tapes that it may have had.
use Rattle.std.proofs.Common.{◌≡◌, ◌≢◌, ◌<◌, ◌≤◌, ℕ, ◌+◌, List, [], ◌∷◌, ◌++◌, length}
use Rattle.std.proofs.Common.{drop, true, Result, Ok, Err, refl, sym, ◌∙◌, ap, subst, length-append, arith}
use Rattle.std.proofs.Math.Seq.{drop-append_seam}
use Rattle.std.proofs.lemmas.Result.{MatchResult-weaker}
use Rattle.std.specs.Prelude.{IfErr}
use Rattle.outside.specs.Tapes.{TapesState, Drew, SameTapes, StandsStill, left_of}
use Rattle.proto_core.specs.declared.party.Number.{Number}
use Rattle.proto_core.specs.declared.party.Number.TheVariants.{One, Two, Three}
use Rattle.proto_core.specs.Parties.{count_of}
use Rattle.proto_core.proofs.Beginnings.{append-none}
use Rattle.protocol_model.specs.Network.{Delivery}
use Rattle.protocol_model.specs.Runs.{Tapes}
use Rattle.gate_node.specs.Nodes.{IsTapeOf}
use Rattle.tape_file.specs.Tapes.{FourTapes}
use Rattle.tape_sources.specs.Parties.{four_of as source_words}
use Rattle.value_file.specs.declared.inputs.Entry.{Entry}
use Rattle.input_share.specs.Dealing.{need_of}
use Rattle.program_trees.specs.TypedPrograms.{TypedProgramTree}
use Rattle.view_model.specs.TapeMaps.{miners_of, four_of, AreTapes}
use Rattle.program_run.specs.Accepted.{IsAccepted}
use Rattle.program_run.specs.Codes.{IsCodeOf}
use Rattle.program_run.specs.Inputs.{AreSound, dealt_of}
use Rattle.program_run.specs.Reports.{eval_with, lengths_of}
use Rattle.miner_core.specs.declared.answer.Lost.{Lost}
use Rattle.miner_core.specs.declared.answer.Lost.TheVariants as lost
use Rattle.miner_core.specs.Drawing.{left_for, IsTapeFault}
use Rattle.miner_core.proofs.Sources.{drew_none, drew_same}
use Rattle.link_schedule.specs.Streams.{AreTapesOf, NetDrew}
use Rattle.link_schedule.proofs.Drawing.{net_drew_none}
use Rattle.delivered_run.specs.States.{CourseState, IsAnswerIn, run_told}
use Rattle.delivered_run.specs.declared.errors.CourseErr.{CourseErr}
use Rattle.delivered_run.specs.declared.errors.CourseErr.TheVariants as fault
use Rattle.delivered_run.specs.declared.running.Job.{Job}
use Rattle.delivered_run.specs.Courses.{HasCourse, IsCourseOf}
use Rattle.delivered_run.specs.Deliveries.{HasRunOf, IsRunOf}
use Rattle.delivered_run.specs.Drawing.{course_of, lengths_in, AreDealtWith, CourseDraws, DealerDraws}
use Rattle.delivered_run.specs.declared.running.DeliveredRun.{DeliveredRun}
use Rattle.delivered_run.specs.Sources.{DrewFour, HaveGone, IsCause, MayBe, RunsFrom}
use Rattle.delivered_run.proofs.Going.{cause_so, run_so, same_err}

-- ---- tapes that may be

tape_told : (drawn rest : List ℕ) → IsTapeOf drawn (length rest) (drawn ++ rest)
tape_told drawn rest = record { begins = ap (λ r. drawn ++ r) (sym (drop-append_seam drawn rest)); counted = length-append drawn rest }

left_told : (s : TapesState) (p : ℕ) → s.told ≡ true → left_of s p ≡ length (s.words p)
left_told s p told = rw told refl

-- those that a source tells that it had
told_may : (old new : TapesState) (taken : FourTapes) → DrewFour old new taken → old.told ≡ true → AreTapes (source_words old)
    → MayBe taken new (source_words old)
told_may old new taken d told words = record { dealer = dealer; miners = miners; words = words }
  where
    gone : HaveGone old new taken
    gone = d.words told

    at_party : (p : ℕ) (drawn : List ℕ) → old.words p ≡ drawn ++ new.words p → IsTapeOf drawn (left_of new p) (old.words p)
    at_party p drawn is =
        subst (λ n. IsTapeOf drawn n (old.words p)) (sym (left_told new p (d.told ∙ told)))
        (subst (IsTapeOf drawn (length (new.words p))) (sym is) (tape_told drawn (new.words p)))

    dealer : IsTapeOf taken.dealer (left_of new 0) (old.words 0)
    dealer = at_party 0 taken.dealer gone.dealer

    miners : AreTapesOf (miners_of taken) (λ i. left_for i new) (miners_of (source_words old))
    miners One = at_party 1 taken.one (gone.miners One)
    miners Two = at_party 2 taken.two (gone.miners Two)
    miners Three = at_party 3 taken.three (gone.miners Three)

-- ---- the dealer draws, and then the miners

abbrev taken_of : (dealer : List ℕ) → Tapes → FourTapes
taken_of dealer taken = four_of dealer taken

miners_so : (dealer : List ℕ) (taken : Tapes) (i : Number) → miners_of (taken_of dealer taken) i ≡ taken i
miners_so dealer taken One = refl
miners_so dealer taken Two = refl
miners_so dealer taken Three = refl

not_dealer : (i : Number) → count_of i ≢ 0
not_dealer One h = absurd (omega (arith, h))
not_dealer Two h = absurd (omega (arith, h))
not_dealer Three h = absurd (omega (arith, h))

no_miner : (i : Number) → 0 ≢ count_of i
no_miner i h = not_dealer i (sym h)

neither : (p : ℕ) → 3 < p → (i : Number) → p ≢ count_of i
neither p h One e = absurd (omega (arith, h, e))
neither p h Two e = absurd (omega (arith, h, e))
neither p h Three e = absurd (omega (arith, h, e))

stands_on : (a b c : TapesState) → StandsStill a b → StandsStill b c → StandsStill a c
stands_on a b c h k =
    let early = h.read.later in
    let late = k.read.later in
    record {
      held = k.held ∙ h.held;
      read = record {
        same = record { told = k.read.same.told ∙ h.read.same.told; contents = k.read.same.contents ∙ h.read.same.contents };
        later = omega (arith, early, late);
        still = λ s. k.read.still (h.read.still s);
      };
    }

four_drew : (a b c : TapesState) (dealer : List ℕ) (taken : Tapes) → Drew a b 0 dealer → NetDrew b c taken → DrewFour a c (taken_of dealer taken)
four_drew a b c dealer taken d n =
    record {
      told = n.told ∙ d.told;
      stands = stands_on a b c d.stands n.stands;
      dealer = d.fewer ∙ ap (λ k. length dealer + k) (sym (n.others 0 no_miner).left);
      miners = λ i. sym (d.others (count_of i) (not_dealer i)).left ∙ n.fewer i
          ∙ ap (λ w. length w + left_for i c) (sym (miners_so dealer taken i));
      words = λ t. record {
        dealer = d.words t ∙ ap (λ w. dealer ++ w) (sym ((n.others 0 no_miner).words (d.told ∙ t)));
        miners = λ i. sym ((d.others (count_of i) (not_dealer i)).words t) ∙ n.words (d.told ∙ t) i
            ∙ ap (λ w. w ++ c.words (count_of i)) (sym (miners_so dealer taken i));
      };
      others = λ p above. record {
        left = (n.others p (neither p above)).left ∙ (d.others p (none_of p above)).left;
        words = λ t. (n.others p (neither p above)).words (d.told ∙ t) ∙ (d.others p (none_of p above)).words t;
      };
    }
  where
    none_of : (p : ℕ) → 3 < p → p ≢ 0
    none_of p h e = absurd (omega (arith, h, e))

-- ---- the dealer's words

pub dealer_without : {B : Type 0} (a : TapesState) (entries : List Entry) (items : B → List ℕ) → DealerDraws a a entries items (Err lost.Memory)
dealer_without a entries items =
    record { taken = []; drew = drew_none a 0; few = omega arith; ok = tt; err = tt; still = λ s. s }

pub dealer_failed :
    {B : Type 0} (a b : TapesState) (entries : List Entry) (items : B → List ℕ) → SameTapes a b → IsTapeFault a b → (a.steady ≡ true → b.steady ≡ true)
    → DealerDraws a b entries items (Err lost.TapeFault)
dealer_failed a b entries items same fault still =
    record { taken = []; drew = drew_same a b 0 same; few = omega arith; ok = tt; err = fault; still = still }

pub dealer_drew :
    {B : Type 0} (a b : TapesState) (entries : List Entry) (items : B → List ℕ) (words : B) (taken : List ℕ) (need count : ℕ) → Drew a b 0 taken
    → items words ≡ taken → length taken ≡ count → need ≡ need_of entries → count ≤ need → (count < need → count ≡ left_of a 0)
    → (a.steady ≡ true → b.steady ≡ true) → DealerDraws a b entries items (Ok words)
dealer_drew a b entries items words taken need count drew are long is most all still =
    record {
      taken = taken;
      drew = drew;
      few = omega (arith, long, is, most);
      ok = record {
        are = are;
        all = λ short.
            let whole = all (omega (arith, short, long, is)) in
            let fewer = drew.fewer in
            omega (arith, whole, long, fewer);
      };
      err = tt;
      still = still;
    }

-- ---- a run

-- the dealer's words couldn't be drawn
pub runs_undrawn : {A B : Type 0} (a b : TapesState) (entries : List Entry) (items : B → List ℕ) (why : Lost) (Q : FourTapes → Type 0)
    → DealerDraws a b entries items (Err why) → ((t : FourTapes) → Q t) → RunsFrom a b {A = A} entries (Err (course_of why)) Q
runs_undrawn a b entries items why Q h each =
    record {
      taken = taken_of h.taken (λ i. []);
      drew = four_drew a b b h.taken (λ i. []) h.drew (net_drew_none b);
      dealer = h.few;
      undealt = λ few i. miners_so h.taken (λ j. []) i;
      holds = λ t may. each t;
      told = λ told words. each (source_words a);
      cause = cause_so a b why h.err;
      still = h.still;
    }

later_cause : (a b c : TapesState) (taken : List ℕ) (d : Drew a b 0 taken) (still : a.steady ≡ true → b.steady ≡ true) (e : CourseErr)
    → IsCause b c e → IsCause a c e
later_cause a b c taken d still (fault.Delivery e) h = tt
later_cause a b c taken d still fault.TapeFault h =
    let later = d.stands.read.later in
    let rose = h.rose in
    record { rose = omega (arith, later, rose); unsteady = λ s. h.unsteady (still s) }

no_more : (words rest : List ℕ) → length (words ++ rest) ≡ length words + 0 → words ++ rest ≡ words
no_more words [] h = append-none words
no_more words (x ∷ rest) h = let long = length-append words (x ∷ rest) in absurd (omega (arith, h, long))

module _ {B : Type 0} (a b c : TapesState) (job : Job) (items : B → List ℕ) (words : B) (given : Delivery) (result : Result CourseState CourseErr)
    (dealer : DealerDraws a b job.inputs.now items (Ok words)) (went : CourseDraws job (items words) given b c result) (lengths : job.lengths ≡ lengths_in a)
    (p : TypedProgramTree) (accepted : IsAccepted p) (code : IsCodeOf p job.code.now) (sound : AreSound job.inputs.now) where
  abbrev drawn : FourTapes
  drawn = taken_of dealer.taken went.runs.taken

  four : DrewFour a c drawn
  four = four_drew a b c dealer.taken went.runs.taken dealer.drew went.runs.drew

  words_are : items words ≡ dealer.taken
  words_are = dealer.ok.are

  -- with each tapes that may be
  module _ (t : FourTapes) (may : MayBe drawn c t) where
    long_dealer : length t.dealer ≡ left_of a 0
    long_dealer = may.dealer.counted ∙ sym four.dealer

    long : (i : Number) → length (miners_of t i) ≡ left_for i a
    long i = (may.miners i).counted ∙ sym (four.miners i)

    long_is : lengths_of t ≡ lengths_in a
    long_is =
        let d = long_dealer in
        let one = long One in
        let two = long Two in
        let three = long Three in
        cc

    dealt_with : AreDealtWith job (items words) t
    dealt_with =
        record {
          lengths = lengths ∙ sym long_is;
          begins = subst (λ w. t.dealer ≡ w ++ drop (length w) t.dealer) (sym words_are) may.dealer.begins;
          all = λ few.
              let none : left_of c 0 ≡ 0 =
              (went.runs.drew.others 0 no_miner).left ∙ dealer.ok.all (subst (λ w. length w < need_of job.inputs.now) words_are few) in
              let begins : t.dealer ≡ dealer.taken ++ drop (length dealer.taken) t.dealer = may.dealer.begins in
              begins
              ∙ no_more dealer.taken (drop (length dealer.taken) t.dealer)
              (ap length (sym begins) ∙ may.dealer.counted ∙ ap (λ n. length dealer.taken + n) none)
              ∙ sym words_are;
          of_words = may.words;
        }

    goes : IsCourseOf p job.inputs.now t job.budget given result
    goes =
        went.runs.holds t (λ i. subst (λ w. IsTapeOf w (left_for i c) (miners_of t i)) (miners_so dealer.taken went.runs.taken i) (may.miners i)) p accepted
        code sound dealt_with

  pub runs_from : RunsFrom a c job.inputs.now result (λ t. IsCourseOf p job.inputs.now t job.budget given result)
  runs_from =
      record {
        taken = drawn;
        drew = four;
        dealer = dealer.few;
        undealt = λ few i.
            let total = dealer.drew.fewer in
            miners_so dealer.taken went.runs.taken i
            ∙ went.undealt (subst (λ w. length w < need_of job.inputs.now) (sym words_are) (omega (arith, few, total))) i;
        holds = goes;
        told = λ told words. goes (source_words a) (told_may a c drawn four told words);
        cause = MatchResult-weaker result went.runs.cause (λ x k. k) (later_cause a b c dealer.taken dealer.drew dealer.still);
        still = λ s. went.runs.still (dealer.still s);
      }

-- the same, with the dealer's words under another name
pub runs_with :
    {B : Type 0} (a b c : TapesState) (job : Job) (items : B → List ℕ) (words : B) (seen : List ℕ) (given : Delivery) (result : Result CourseState CourseErr)
    → DealerDraws a b job.inputs.now items (Ok words) → CourseDraws job seen given b c result → seen ≡ items words → job.lengths ≡ lengths_in a
    → (p : TypedProgramTree) → IsAccepted p → IsCodeOf p job.code.now → AreSound job.inputs.now
    → RunsFrom a c job.inputs.now result (λ t. IsCourseOf p job.inputs.now t job.budget given result)
runs_with a b c job items words seen given result dealer went same lengths p accepted code sound =
    runs_from a b c job items words given result dealer (subst (λ w. CourseDraws job w given b c result) same went) lengths p accepted code sound

-- the same run, told otherwise
pub runs_as : {A B : Type 0} (a b : TapesState) (entries : List Entry) (r : Result A CourseErr) (x : Result B CourseErr) (Q R : FourTapes → Type 0)
    → RunsFrom a b entries r Q → IfErr x (IsCause a b) → ((t : FourTapes) → Q t → R t) → RunsFrom a b entries x R
runs_as a b entries r x Q R h cause step =
    record {
      taken = h.taken;
      drew = h.drew;
      dealer = h.dealer;
      undealt = h.undealt;
      holds = λ t may. step t (h.holds t may);
      told = λ told words. step (source_words a) (h.told told words);
      cause = cause;
      still = h.still;
    }

-- what a course tells is the run
pub told_from :
    (a b : TapesState) (p : TypedProgramTree) (entries : List Entry) (budget : ℕ) (given : Delivery) (seen : Result CourseState CourseErr)
    (result : Result DeliveredRun CourseErr) → IsAnswerIn (λ run went. run ≡ run_told went) result seen
    → RunsFrom a b entries seen (λ t. IsCourseOf p entries t budget given seen)
    → RunsFrom a b entries result (λ t. IsRunOf p entries t budget given result)
told_from a b p entries budget given (Ok went) (Ok run) is h =
    runs_as a b entries (Ok went) (Ok run) (λ t. IsCourseOf p entries t budget given (Ok went))
    (λ t. IsRunOf p entries t budget given (Ok run)) h tt (λ t k. run_so p entries t budget given went k run is)
told_from a b p entries budget given (Err e) (Err f) is h =
    subst (λ x. RunsFrom a b {A = DeliveredRun} entries (Err x) (λ t. IsRunOf p entries t budget given (Err x))) (sym is)
    (runs_as a b entries (Err e) (Err e) (λ t. IsCourseOf p entries t budget given (Err e)) (λ t. IsRunOf p entries t budget given (Err e)) h h.cause
    (λ t k.
    same_err (dealt_of entries t.dealer) (eval_with p entries t budget) given (HasCourse p entries t budget given) (HasRunOf p entries t budget given) e k))
told_from a b p entries budget given (Ok went) (Err f) is h = absurd is
told_from a b p entries budget given (Err e) (Ok run) is h = absurd is
