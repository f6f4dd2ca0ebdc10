-- What a miner sees of a program's run is what the simulator makes.
use Rattle.std.proofs.Common.{◌≡◌, ℕ, ◌≤◌, Bool, true, false, if◌then◌else◌, List, [], ◌∷◌, ◌++◌, length, take, refl, sym, ap, ◌∙◌}
use Rattle.std.specs.Prelude.{nat_le}
use Rattle.proto_core.specs.declared.party.Number.{Number}
use Rattle.proto_core.specs.declared.party.Number.TheVariants.{One, Two, Three}
use Rattle.protocol_model.specs.Gates.{needed}
use Rattle.protocol_model.specs.Network.{Delivery}
use Rattle.gates.specs.Counts.{Miner, Miner1, Miner2, Miner3}
use Rattle.shared_gates.specs.Model.{miner_of}
use Rattle.program_trees.specs.Programs.{ProgramTree}
use Rattle.program_trees.specs.TypedPrograms.{TypedProgramTree}
use Rattle.reached_instances.specs.Instances.{Instance}
use Rattle.value_file.specs.declared.inputs.Entry.{Entry}
use Rattle.value_file.specs.Public.{part_of}
use Rattle.input_share.specs.Dealing.{need_of}
use Rattle.tape_file.specs.Tapes.{FourTapes}
use Rattle.language_model.specs.Effects.{Words, World, Clear, words_each}
use Rattle.language_model.specs.Learned.{learned_of}
use Rattle.language_model.specs.Reports.{Report, world_of}
use Rattle.language_model.proofs.Kept.{words_kept}
use Rattle.gate_laws.specs.Dealt.{drawn_by}
use Rattle.gate_laws.specs.Laws.{GatesSuit}
use Rattle.clear_eval.specs.Offers.{offered}
use Rattle.blind_evaluation.specs.Courses.{TakeSameCourse}
use Rattle.view_model.specs.TapeMaps.{miners_of, gates_dealt, is_dealt, to_simulated, AreTapes, SameLengths, CanRun}
use Rattle.view_model.specs.Seen.{seen_by, made_for, opened_by_all}
use Rattle.view_model.proofs.Corresponding.{correspond, le_from}
use Rattle.view_model.proofs.Simulated.{seen_is_made}
use Rattle.code_inputs.specs.Inputs.{dealt_of}
use Rattle.code_inputs.proofs.Running.{evaluation_suits}
use Rattle.program_views.specs.Views.{lengths_of, run_on, told_run, nothing_seen, view_with, seen_of, view_of, can_deal, made_of, simulated}
use Rattle.program_views.specs.TapeMaps.{mapped}
use Rattle.program_views.specs.Laws.{IsGivenTo, ViewsAreSimulated}
use Rattle.program_views.specs.Simulated.{ViewIsSimulated}
use Rattle.program_views.proofs.Given.{given_so, need_known}
use Rattle.program_views.proofs.Dealt.{reaches, opens_its_words, draws_its_words}
use Rattle.program_views.proofs.Undealt.{none_drawn}
use Rattle.program_views.proofs.Blind.{takes_same_course, same_course_exactly, is_ended, same_learned, same_view, gives_view}

pub same_lengths : (t s : FourTapes) → SameLengths t s → lengths_of t ≡ lengths_of s
same_lengths t s h =
    ap (λ n. n ∷ length t.one ∷ length t.two ∷ length t.three ∷ []) h.0
    ∙ ap (λ n. length s.dealer ∷ n ∷ length t.two ∷ length t.three ∷ []) (h.1 One)
    ∙ ap (λ n. length s.dealer ∷ length s.one ∷ n ∷ length t.three ∷ []) (h.1 Two)
    ∙ ap (λ n. length s.dealer ∷ length s.one ∷ length s.two ∷ n ∷ []) (h.1 Three)

-- ---- THE GATES OF A RUN CAN RUN

world : List Entry → FourTapes → World
world entries t = world_of Clear (offered entries (lengths_of t))

as_long : (entries : List Entry) (t : FourTapes) (i : Number) → drawn_by (world entries t).lengths (miner_of i) ≡ length (miners_of t i)
unfolding world
as_long entries t One = refl
as_long entries t Two = refl
as_long entries t Three = refl

module _
    (source : ProgramTree) (p : TypedProgramTree) (is : List Instance) (entries : List Entry) (given : IsGivenTo source p is entries) (t : FourTapes)
    (are : AreTapes t) (budget : ℕ)
  where
    abbrev r : Report
    r = run_on p entries (lengths_of t) budget

    suited : need_of entries ≤ length t.dealer → GatesSuit (world entries t) (dealt_of entries t.dealer) r
    unfolding world
    suited h =
        evaluation_suits source entries t.dealer (offered entries (lengths_of t)) budget given.inputs
        (record { words = are.dealer; enough = h }) (given_so entries) p is given.program

    pub can_run : CanRun entries r.gates t
    unfolding world
    can_run h =
        reaches entries t are given.inputs h (world entries t) refl (as_long entries t) r (suited h) (words_kept (world entries t) p budget [])

    pub opens_them : need_of entries ≤ length t.dealer → learned_of r.events ≡ opened_by_all entries r.gates t
    unfolding world
    opens_them h =
        opens_its_words entries t are given.inputs h (world entries t) refl (as_long entries t) r (suited h)
        (words_kept (world entries t) p budget [])

    draws_them : need_of entries ≤ length t.dealer → (i : Number) → needed (gates_dealt entries t.dealer r.gates) i ≡ drawn_by r.drawn (miner_of i)
    unfolding world
    draws_them h =
        draws_its_words entries t are given.inputs h (world entries t) refl (as_long entries t) r (suited h)
        (words_kept (world entries t) p budget [])

    -- as many words as the report counts
    drew_of : Number → Delivery → Bool → List ℕ
    drew_of i delivery b = (if b then seen_by i entries r.gates t delivery else nothing_seen).drew

    pub drew_counted : (i : Number) (delivery : Delivery) → (seen_of i entries t delivery r).drew ≡ take (drawn_by r.drawn (miner_of i)) (miners_of t i)
    unfolding drew_of
    drew_counted i delivery = by_test (is_dealt entries t) refl
      where
        no_words : (m : Miner) → drawn_by (words_each 0) m ≡ 0
        no_words Miner1 = refl
        no_words Miner2 = refl
        no_words Miner3 = refl

        by_test : (b : Bool) → is_dealt entries t ≡ b → drew_of i delivery b ≡ take (drawn_by r.drawn (miner_of i)) (miners_of t i)
        by_test true e = ap (λ n. take n (miners_of t i)) (draws_them (le_from _ _ e) i)
        by_test false e =
            ap (λ n. take n (miners_of t i))
            (sym (ap (λ (d : Words). drawn_by d (miner_of i)) (none_drawn p entries t budget e) ∙ no_words (miner_of i)))

-- ---- A REPORT, AND ONE OF THE SAME COURSE

module _
    (i : Number) (entries : List Entry) (t : FourTapes) (are : AreTapes t) (r s : Report) (course : TakeSameCourse r s)
    (can : CanRun entries r.gates t) (opens : need_of entries ≤ length t.dealer → learned_of r.events ≡ opened_by_all entries r.gates t) (delivery : Delivery)
  where
    abbrev m : FourTapes
    m = to_simulated i entries r.gates t

    same_test : can_deal (part_of entries) m ≡ is_dealt entries t
    same_test =
        ap (λ n. nat_le n (length m.dealer)) (need_known entries) ∙ ap (nat_le (need_of entries)) (correspond i entries r.gates t are can).kept.0

    abbrev told : List ℕ
    told = learned_of s.events

    made_seen : need_of entries ≤ length t.dealer → made_for i (part_of entries) s.gates told m delivery ≡ seen_by i entries r.gates t delivery
    made_seen h =
        ap (λ gates. made_for i (part_of entries) gates told m delivery) (sym course.gates)
        ∙ ap (λ opened. made_for i (part_of entries) r.gates opened m delivery) (sym (same_learned r.events s.events course.events) ∙ opens h)
        ∙ sym (seen_is_made i entries r.gates t are h (can h) delivery)

    made_is_seen : made_of i (part_of entries) m delivery s ≡ seen_of i entries t delivery r
    made_is_seen =
        ap (λ b. if b then made_for i (part_of entries) s.gates told m delivery else nothing_seen) same_test ∙ by_test (is_dealt entries t) refl
      where
        by_test :
            (b : Bool) → is_dealt entries t ≡ b
            → (if b then made_for i (part_of entries) s.gates told m delivery else nothing_seen)
            ≡ (if b then seen_by i entries r.gates t delivery else nothing_seen)
        by_test true e = made_seen (le_from _ _ e)
        by_test false e = refl

    pub made_view : view_with i (made_of i (part_of entries) m delivery s) s ≡ view_with i (seen_of i entries t delivery r) r
    made_view =
        ap (λ seen. view_with i seen s) made_is_seen ∙ sym (same_view i (seen_of i entries t delivery r) r s course)

-- ---- OF A PROGRAM

module _
    (i : Number) (source : ProgramTree) (p : TypedProgramTree) (is : List Instance) (entries : List Entry) (given : IsGivenTo source p is entries)
    (t : FourTapes) (are : AreTapes t) (budget : ℕ) (delivery : Delivery)
  where
    abbrev real : Report
    real = run_on p entries (lengths_of t) budget

    abbrev s : FourTapes
    s = mapped i p entries t budget

    long : lengths_of s ≡ lengths_of t
    long = same_lengths s t (correspond i entries real.gates t are (can_run source p is entries given t are budget)).kept

    -- told these words, whose run takes the same course
    from_words :
        (opened : List ℕ) → TakeSameCourse real (told_run p (part_of entries) opened (lengths_of t) budget)
        → simulated i p (part_of entries) opened s budget delivery ≡ view_of i p entries t budget delivery
    from_words opened course =
        ap (λ (r : Report). view_with i (made_of i (part_of entries) s delivery r) r)
        (ap (λ lengths. told_run p (part_of entries) opened lengths budget) long)
        ∙ made_view i entries t are real (told_run p (part_of entries) opened (lengths_of t) budget) course
        (can_run source p is entries given t are budget) (opens_them source p is entries given t are budget) delivery

    pub exactly : simulated i p (part_of entries) real.opened s budget delivery ≡ view_of i p entries t budget delivery
    exactly = from_words real.opened (same_course_exactly p entries (lengths_of t) budget)

    pub with_more : (more : List ℕ) → simulated i p (part_of entries) (real.opened ++ more) s budget delivery ≡ view_of i p entries t budget delivery
    with_more more = from_words (real.opened ++ more) (takes_same_course p entries (lengths_of t) budget more)

    pub is_simulated : ViewIsSimulated i p entries t budget delivery
    is_simulated =
        let v = gives_view i (seen_of i entries t delivery real) real (is_ended p entries (lengths_of t) budget) in
        record {
          view = v.0;
          seen = v.1;
          drew = v.2 ∙ drew_counted source p is entries given t are budget i delivery;
          made = exactly ∙ v.1;
          made_with_more = λ more. with_more more ∙ v.1;
        }

pub views_simulated :
    (i : Number) (source : ProgramTree) (p : TypedProgramTree) (entries : List Entry) (t : FourTapes) (budget : ℕ) (delivery : Delivery)
    → ViewsAreSimulated i source p entries t budget delivery
views_simulated i source p entries t budget delivery is given are = is_simulated i source p is entries given t are budget delivery
