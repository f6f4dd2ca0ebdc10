-- Where a miner's run has ended, it has drawn what the gates need that were made up to there.
use Rattle.std.proofs.Common.{◌≡◌, ℕ, ◌+◌, zero, suc, Bool, true, false, if◌then◌else◌, List, [], ◌∷◌, ◌++◌, length, take, drop, Option, Some, None}
use Rattle.std.proofs.Common.{Ok, Err, refl, sym, ◌∙◌, ap, subst, arith}
use Rattle.std.specs.Prelude.{nat_le}
use Rattle.std.proofs.Math.Seq.{drop-append_seam}
use Rattle.proto_core.specs.declared.party.Number.{Number}
use Rattle.proto_core.specs.Strand.{Notice, Mail, Strand, Ends, run, then_do}
use Rattle.proto_core.proofs.MessageFields.{first_true}
use Rattle.proto_core.proofs.Strands.{then-regrouped}
use Rattle.protocol_model.specs.Gates.{Joined, Local, nth_value, operand, sizes_of, needed, gates_strand}
use Rattle.protocol_model.specs.Gates as model
use Rattle.protocol_model.proofs.Sizes.{needed-append, sizes-append}
use Rattle.gates.specs.Blocks.{block_sizes}
use Rattle.gates.specs.declared.ring_kind.RingKind.TheVariants.{Arithmetic, Boolean}
use Rattle.gates.specs.declared.gate.Gate.{Gate}
use Rattle.gates.specs.declared.gate.Gate.TheVariants.{Mul, And, Split, Conv, Open, Result}
use Rattle.gates.specs.Clear.{Values}
use Rattle.gates.specs.Counts.{size_of}
use Rattle.shared_gates.specs.Blocked.{blocked, blocks_strand}
use Rattle.shared_gates.specs.LocalGates.{local_share}
use Rattle.shared_gates.specs.Model.{AllSizesSuit, SizesSuit, run_gates, sizes_after, sizes_made}
use Rattle.shared_gates.proofs.GatesBehind.{gates-then, sizes-then, suits-then}
use Rattle.shared_gates.proofs.Models.{local-size}
use Rattle.gate_exchanges.specs.declared.exchange.Exchange.{Exchange}
use Rattle.gate_exchanges.specs.declared.exchange.Exchange.TheVariants.{Product, Splitting, Conversion, Opening, Resharing}
use Rattle.gate_exchanges.specs.Exchanges.{protocol_of}
use Rattle.gate_node.specs.Suiting.{suits}
use Rattle.gate_node.specs.OwnGates.{GatesEnd, Whole, Stuck, own_gate, own_draws, can_run, own_gates}
use Rattle.gate_node.proofs.Always.{EndsAlways, HaveSizes, always-then, gate-sized}
use Rattle.gate_node.proofs.Suiting.{test-is}
use Rattle.language_model.specs.Effects.{World, Run, RunStop, Ended, Short, Stage}
use Rattle.language_model.specs.Beginnings.{Begins}
use Rattle.language_model.proofs.Onward.{stage_of}
use Rattle.verified_code.specs.Steps.{Function}
use Rattle.code_model.specs.Machine.{Machine, step}
use Rattle.code_runs.proofs.Onwards.{step_onward}
use Rattle.driven_nodes.specs.Driven.{telling}
use Rattle.driven_nodes.specs.Steps.{On, Over, Wants, Stand, Running, Stopped, Went, gained, place_of, stand_of, last_of}
use Rattle.driven_nodes.specs.Steps as steps
use Rattle.code_places.specs.Places.{Place, next_step, answers_told, notices_between, step_told, stopped, telling_stage, went}
use Rattle.own_code.specs.OwnCode.{Reached, Unfit, From, gates_between, led_by, go_on, own_code, behind_gates}
use Rattle.own_code.specs.OwnCode as own
use Rattle.own_code.proofs.Told.{same_when_told}
use Rattle.story_laws.specs.Drawn.{Count, drawn_behind, own_part, drawn_by_gates, drawn_from, drawn_by_code}
use Rattle.story_laws.proofs.Alike.{behind_at, left_telling}
use Rattle.story_laws.proofs.Ended.{EndsBoth, always_run, both_ended, ends_are}
use Rattle.story_laws.proofs.Reading.{Counting, Taping}

-- ---- strands with a tape, and what they end with beside their counts

pub record Comes {A : Type 0} (strand : Taping A) (count : Counting) (Is : A → ℕ → Type 0) : Type 0 where
  pub from : (s : List ℕ) (mail : Mail) (a : A) → (run (strand s) mail).left ≡ Ends a → Is a (count s mail)

comes_none : {A : Type 0} (a : A) (Is : A → ℕ → Type 0) → Is a 0 → Comes (λ tape. Ends a) (λ tape mail. 0) Is
comes_none a Is h = record { from = λ s mail b e. subst (λ x. Is x 0) (ends_are a b e) h }

comes_telling :
    {A : Type 0} (notices : List Notice) (strand : Taping A) (count : Counting) (Is : A → ℕ → Type 0) → Comes strand count Is →
    Comes (λ tape. telling notices (strand tape)) count Is
comes_telling notices strand count Is h = record { from = λ s mail a e. h.from s mail a (sym (left_telling notices (strand s) mail) ∙ e) }

-- ---- GATES

needed-apart : (i : Number) (g : model.Gate) (gates : List model.Gate) → needed (g ∷ gates) i ≡ needed (g ∷ []) i + needed gates i
needed-apart i g gates = needed-append (g ∷ []) gates i

module _ (i : Number) (dealt : Values) where
  abbrev ds : List ℕ
  ds = sizes_of dealt

  -- what gates need after values of these sizes
  abbrev pub needs : (sizes : List ℕ) → List Gate → ℕ
  needs sizes gates = needed (run_gates (λ k. dealt) ds sizes gates) i

  -- ---- the sizes of what one makes

  module _ (values : Values) (tape : List ℕ) where
    abbrev MakesSizes : List ℕ → model.Gate → Type 0
    MakesSizes sizes g = EndsAlways (HaveSizes (sizes_of values ++ sizes)) (gates_strand i (g ∷ []) values tape)

    joined_makes : (e : Exchange) (n u : ℕ) (v : Option ℕ) → MakesSizes ((protocol_of e).made n) (Joined (blocked (protocol_of e)) n u v)
    joined_makes e n u v =
        always-then (HaveSizes ((protocol_of e).made n)) (HaveSizes (sizes_of values ++ (protocol_of e).made n))
        (blocks_strand (protocol_of e) (block_sizes n) i (nth_value values u) (operand values v) (take ((blocked (protocol_of e)).draws n i) tape))
        (λ made. Ends (values ++ made)) (gate-sized e n i _ _ _)
        (λ made same. sizes-append values made ∙ ap (λ s. sizes_of values ++ s) same)

    gate_makes : (gate : Gate) → SizesSuit ds (sizes_of values) gate → MakesSizes (sizes_made ds (sizes_of values) gate) (own_gate i dealt values gate)
    gate_makes (Mul u v) suit = joined_makes (Product Arithmetic) (size_of (sizes_of values) u) u (Some v)
    gate_makes (And u v) suit = joined_makes (Product Boolean) (size_of (sizes_of values) u) u (Some v)
    gate_makes (Split u negated) suit = joined_makes (Splitting negated) (size_of (sizes_of values) u) u None
    gate_makes (Conv u) suit = joined_makes Conversion (size_of (sizes_of values) u) u None
    gate_makes (Open ring u) suit = joined_makes (Opening ring) (size_of (sizes_of values) u) u None
    gate_makes (Result ring u) suit = joined_makes (Resharing ring) (size_of (sizes_of values) u) u None
    gate_makes gate suit =
        sizes-append values (local_share i dealt values gate ∷ [])
        ∙ ap (λ k. sizes_of values ++ k ∷ []) (local-size ds (sizes_of values) dealt values refl refl i gate tt suit)

  -- ---- gate by gate

  module _ {B : Type 0} (go : GatesEnd → Strand B) (unfit : B) (stuck : go Stuck ≡ Ends unfit) (Is : B → ℕ → Type 0) (never : (n : ℕ) → Is unfit n) where
    abbrev gates_taping : List Gate → Values → Taping B
    gates_taping gates values tape = then_do (own_gates i dealt gates values tape) go

    -- where so many were drawn before
    abbrev from_here : ℕ → B → ℕ → Type 0
    from_here base b n = Is b (base + n)

    -- after gates that suit values of these sizes
    abbrev Behind : Count → (base : ℕ) → (sizes : List ℕ) → List Gate → Type 0
    Behind later base sizes gates =
        (all : Values) → AllSizesSuit ds sizes gates → sizes_of all ≡ sizes_after ds sizes gates →
        Comes (λ tape. go (Whole all tape)) (later all) (from_here (base + needs sizes gates))

    abbrev ComeFrom : Count → List Gate → Type 0
    ComeFrom later gates =
        (values : Values) (base : ℕ) → Behind later base (sizes_of values) gates →
        Comes (gates_taping gates values) (drawn_by_gates i dealt gates later values) (from_here base)

    module _ (later : Count) (gate : Gate) (gates : List Gate) (rest : ComeFrom later gates) (values : Values) (base : ℕ)
        (behind : Behind later base (sizes_of values) (gate ∷ gates)) where
      abbrev draws : ℕ
      draws = own_draws i dealt values gate

      abbrev part : Taping Values
      part tape = own_part i dealt gate values tape

      abbrev fits : Bool
      fits = suits ds (sizes_of values) gate

      abbrev on : List ℕ → Values → Strand B
      on tape all = gates_taping gates all (drop draws tape)

      abbrev by_test : Bool → Taping B
      by_test b tape = then_do (if b then then_do (part tape) (λ all. own_gates i dealt gates all (drop draws tape)) else Ends Stuck) go

      abbrev count_by : Bool → Counting
      count_by b tape mail =
          if b then draws + drawn_behind (run (part tape) mail) (λ all unread. drawn_by_gates i dealt gates later all (drop draws tape) unread) else 0

      -- the sizes of the values after the gate
      abbrev then_sizes : List ℕ
      then_sizes = sizes_of values ++ sizes_made ds (sizes_of values) gate

      more_behind : SizesSuit ds (sizes_of values) gate → (all : Values) → sizes_of all ≡ then_sizes → Behind later (base + draws) (sizes_of all) gates
      more_behind suit all same =
          subst (λ sizes. Behind later (base + draws) sizes gates) (sym same)
          (λ made fit sized.
          subst (λ n. Comes (λ tape. go (Whole made tape)) (later made) (from_here n)) counts (behind made (suit, fit) sized))
        where
          counts : base + needs (sizes_of values) (gate ∷ gates) ≡ base + draws + needs then_sizes gates
          counts =
              let e = needed-apart i (own_gate i dealt values gate) (run_gates (λ k. dealt) ds then_sizes gates) in omega (arith, e)

      comes_true :
          (s : List ℕ) (mail : Mail) (b : B) → can_run i dealt values s gate ≡ true → (run (by_test true s) mail).left ≡ Ends b →
          from_here base b (count_by true s mail)
      comes_true s mail b can e =
          subst (Is b) same
          ((rest made (base + draws) (more_behind suit made sized)).from (drop draws s) (run (part s) mail).unread b there.behind)
        where
          there : EndsBoth (on s) b (run (part s) mail)
          there =
              both_ended (on s) b (part s) mail
              (sym (ap (λ x. (run x mail).left) (then-regrouped (part s) (λ all. own_gates i dealt gates all (drop draws s)) go)) ∙ e)

          made : Values
          made = there.first

          suit : SizesSuit ds (sizes_of values) gate
          suit = (test-is ds (sizes_of values) gate).0 (first_true fits (nat_le draws (length s)) can)

          sized : sizes_of made ≡ then_sizes
          sized =
              subst (EndsAlways (HaveSizes then_sizes)) there.ended (always_run (HaveSizes then_sizes) (part s) mail (gate_makes values s gate suit))

          same :
              base + draws + drawn_by_gates i dealt gates later made (drop draws s) (run (part s) mail).unread ≡ base + count_by true s mail
          same =
              let m = behind_at (run (part s) mail) (λ all unread. drawn_by_gates i dealt gates later all (drop draws s) unread) made there.ended in
              omega (arith, m)

      comes_by :
          (s : List ℕ) (mail : Mail) (b : B) (c : Bool) → can_run i dealt values s gate ≡ c → (run (by_test c s) mail).left ≡ Ends b →
          from_here base b (count_by c s mail)
      comes_by s mail b true can e = comes_true s mail b can e
      comes_by s mail b false can e =
          subst (λ x. Is x (base + 0)) (ends_are unfit b (sym (ap (λ x. (run x mail).left) stuck) ∙ e)) (never (base + 0))

    pub gates_come : (later : Count) (gates : List Gate) → ComeFrom later gates
    gates_come later [] values base behind =
        let none : base + 0 ≡ base = omega arith in
        subst (λ n. Comes (λ tape. go (Whole values tape)) (later values) (from_here n)) none (behind values tt refl)
    gates_come later (gate ∷ gates) values base behind =
        record {
          from = λ s mail b e.
              comes_by later gate gates (gates_come later gates) values base behind s mail b (can_run i dealt values s gate) refl e;
        }

-- ---- STEPS

module _ (w : World) (c : List Function) where
  stopped_gates : (m : Machine) (u : Stage) (stop : RunStop) → (place_of (stopped m u stop)).stage.gates ≡ u.gates
  stopped_gates m u (Ended e) = refl
  stopped_gates m u Short = refl

  went_gates : (m : Machine) (r : Run Machine) → (place_of (went m r)).stage.gates ≡ (stage_of r).gates
  went_gates m (Ok x) = refl
  went_gates m (Err e) = stopped_gates m e.1 e.0

  -- its gates come after those that were there
  gates_grow : (p : Place) (told : List ℕ) → Begins p.stage.gates (place_of (step_told w c p told)).stage.gates
  gates_grow p told =
      let s : Stage = telling_stage (answers_told told (next_step p.machine) p.machine) p.stage in
      subst (Begins p.stage.gates) (sym (went_gates p.machine (step w c (next_step p.machine) p.machine s)))
      ((step_onward w c p.machine (next_step p.machine)).from s).gates

  joined_gates : (p q : Place) → Begins p.stage.gates q.stage.gates → p.stage.gates ++ gates_between p q ≡ q.stage.gates
  joined_gates p q h =
      ap (λ gs. p.stage.gates ++ drop (length p.stage.gates) gs) h.1
      ∙ ap (λ gs. p.stage.gates ++ gs) (drop-append_seam p.stage.gates h.0)
      ∙ sym h.1

  abbrev at_stand : Stand Place → Place
  at_stand (Running p) = p
  at_stand (Stopped p) = p
  at_stand (steps.Short p) = p

  stand_place : (x : Went Place) → at_stand (stand_of x) ≡ place_of x
  stand_place (On q) = refl
  stand_place (Over q) = refl
  stand_place (Wants q) = refl

  -- and told what was opened it stands with the same
  led_gates :
      (p : Place) (values : Values) (x : Went Place) → step_told w c p [] ≡ x →
      (at_stand (stand_of (led_by w c values p x))).stage.gates ≡ (place_of x).stage.gates
  led_gates p values (On q) is = refl
  led_gates p values (Over q) is = refl
  led_gates p values (Wants q) is =
      ap (λ (r : Place). r.stage.gates) (stand_place (step_told w c p (last_of values))) ∙ same_when_told w c p q (last_of values) is

  -- ---- CODE

  module _ (i : Number) (dealt : Values) where
    -- so many were drawn by one that has made these gates, which suit
    pub record DrewUpTo (gates : List Gate) (n : ℕ) : Type 0 where
      pub suit : AllSizesSuit (sizes_of dealt) [] gates
      pub count : n ≡ needs i dealt [] gates

    abbrev pub EndDrew : own.Ended → ℕ → Type 0
    EndDrew (Reached stand values) n = DrewUpTo (at_stand stand).stage.gates n
    EndDrew Unfit n = Unit {0}

    -- a place, with values of its gates
    abbrev SizedAt : Place → Values → Type 0
    SizedAt p values = sizes_of values ≡ sizes_after (sizes_of dealt) [] p.stage.gates

    abbrev CodeComes : From Place → (Place → Count) → Type 0
    CodeComes on count =
        (p : Place) (values : Values) (base : ℕ) → SizedAt p values → DrewUpTo p.stage.gates base →
        Comes (on p values) (count p values) (λ e n. EndDrew e (base + n))

    stand_comes :
        (on : From Place) (count : Place → Count) → CodeComes on count → (stand : Stand Place) (all : Values) (base : ℕ) →
        SizedAt (at_stand stand) all → DrewUpTo (at_stand stand).stage.gates base →
        Comes (go_on on stand all) (drawn_from count stand all) (λ e n. EndDrew e (base + n))
    stand_comes on count each (Running p) all base sized drawn = each p all base sized drawn
    stand_comes on count each (Stopped p) all base sized drawn =
        let none : base ≡ base + 0 = omega arith in
        comes_none (Reached (Stopped p) all) (λ e n. EndDrew e (base + n)) (subst (DrewUpTo p.stage.gates) none drawn)
    stand_comes on count each (steps.Short p) all base sized drawn =
        let none : base ≡ base + 0 = omega arith in
        comes_none (Reached (steps.Short p) all) (λ e n. EndDrew e (base + n)) (subst (DrewUpTo p.stage.gates) none drawn)

    module _ (on : From Place) (count : Place → Count) (each : CodeComes on count) (p : Place) (values : Values) (base : ℕ)
        (sized : SizedAt p values) (drawn : DrewUpTo p.stage.gates base) where
      abbrev x : Went Place
      x = step_told w c p []

      abbrev more : List Gate
      more = gates_between p (place_of x)

      all_gates : p.stage.gates ++ more ≡ (place_of x).stage.gates
      all_gates = joined_gates p (place_of x) (gates_grow p [])

      -- with the gates of the step
      abbrev Then : List ℕ → Type 0
      Then sizes = AllSizesSuit (sizes_of dealt) sizes more → DrewUpTo (p.stage.gates ++ more) (base + needs i dealt sizes more)

      then_drawn : Then (sizes_after (sizes_of dealt) [] p.stage.gates)
      then_drawn suit =
          record {
            suit = suits-then (sizes_of dealt) [] p.stage.gates more drawn.suit suit;
            count =
                ap (λ n. n + needs i dealt (sizes_after (sizes_of dealt) [] p.stage.gates) more) drawn.count
                ∙ sym (needed-append (run_gates (λ k. dealt) (sizes_of dealt) [] p.stage.gates)
                (run_gates (λ k. dealt) (sizes_of dealt) (sizes_after (sizes_of dealt) [] p.stage.gates) more) i)
                ∙ sym (ap (λ gs. needed gs i) (gates-then (λ k. dealt) (sizes_of dealt) [] p.stage.gates more));
          }

      turn_comes :
          Comes (λ tape. then_do (own_gates i dealt more values tape) (behind_gates w c on p x))
          (drawn_by_gates i dealt more (λ all. drawn_from count (stand_of (led_by w c all p x)) all) values) (λ e n. EndDrew e (base + n))
      turn_comes =
          gates_come i dealt (behind_gates w c on p x) Unfit refl EndDrew (λ n. tt)
          (λ all. drawn_from count (stand_of (led_by w c all p x)) all) more values base behind
        where
          behind :
              Behind i dealt (behind_gates w c on p x) Unfit refl EndDrew (λ n. tt)
              (λ all. drawn_from count (stand_of (led_by w c all p x)) all) base (sizes_of values) more
          behind all suit same =
              comes_telling (notices_between p (place_of (led_by w c all p x)) all) (go_on on stand all) (drawn_from count stand all) _
              (stand_comes on count each stand all (base + needs i dealt (sizes_of values) more) sized_there drawn_there)
            where
              stand : Stand Place
              stand = stand_of (led_by w c all p x)

              gates_there : p.stage.gates ++ more ≡ (at_stand stand).stage.gates
              gates_there = all_gates ∙ sym (led_gates p all x refl)

              sized_there : SizedAt (at_stand stand) all
              sized_there =
                  same
                  ∙ ap (λ sizes. sizes_after (sizes_of dealt) sizes more) sized
                  ∙ sym (sizes-then (sizes_of dealt) [] p.stage.gates more)
                  ∙ ap (sizes_after (sizes_of dealt) []) gates_there

              drawn_there : DrewUpTo (at_stand stand).stage.gates (base + needs i dealt (sizes_of values) more)
              drawn_there =
                  subst (λ gs. DrewUpTo gs (base + needs i dealt (sizes_of values) more)) gates_there (subst Then (sym sized) then_drawn suit)

    pub code_comes : (fuel : ℕ) → CodeComes (own_code w c i dealt fuel) (drawn_by_code w c i dealt fuel)
    code_comes zero p values base sized drawn =
        let none : base ≡ base + 0 = omega arith in
        comes_none (Reached (Running p) values) (λ e n. EndDrew e (base + n)) (subst (DrewUpTo p.stage.gates) none drawn)
    code_comes (suc fuel) p values base sized drawn =
        turn_comes (own_code w c i dealt fuel) (drawn_by_code w c i dealt fuel) (code_comes fuel) p values base sized drawn
