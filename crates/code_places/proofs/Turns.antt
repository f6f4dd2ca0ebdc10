-- Beside each step of code in the clear there is one of one who is told the opened words.
use Rattle.std.proofs.Common.{◌≡◌, ◌≢◌, ◌⊎◌, ℕ, List, [], ◌∷◌, ◌++◌, Ok, Err, Option, Some, None, inl, inr, refl, sym, ap, ◌∙◌, subst}
use Rattle.std.proofs.Common.{append-nil, length, drop, true}
use Rattle.std.specs.Prelude.{slice_get}
use Rattle.std.proofs.Math.Seq.{drop-append_seam}
use Rattle.std.proofs.lemmas.List.{append_cancel_left}
use Rattle.sc_text.specs.declared.event.Event.{Event}
use Rattle.language_model.specs.Beginnings.{Begins}
use Rattle.language_model.specs.Effects.{Stage, RunStop, Ended, Short, Run}
use Rattle.language_model.specs.Reports.{Offered}
use Rattle.language_model.proofs.Onward.{stage_of}
use Rattle.verified_code.specs.Steps.{Step, Declassify, Function}
use Rattle.gate_laws.specs.Machine.{Machine, next, step}
use Rattle.driven_nodes.specs.Steps.{On, gained}
use Rattle.driven_nodes.specs.Twins.{Follows, untold, told, TwinBy}
use Rattle.blind_evaluation.specs.Courses.{LikeEvents}
use Rattle.blind_evaluation.proofs.Alike.{retold, Retold, SameOutcome, AlikeAt, opened_by}
use Rattle.blind_evaluation.proofs.Rows.{clear, unseen}
use Rattle.program_trees.specs.declared.expression.DataType.{DataType}
use Rattle.program_trees.specs.declared.kinds.Shape.{Shape}
use Rattle.language_model.specs.Values.{size, gate_words}
use Rattle.language_model.specs.Operations.{read_answer}
use Rattle.language_model.specs.Learned.{learned_of}
use Rattle.blind_evaluation.proofs.AlikeValues.{like_size, like_shape}
use Rattle.code_places.specs.Places.{answers_told}
use Rattle.code_places.proofs.Opened.{OpensAs, IsOpened, opening_then, declassified_opens, told_again, some_gate_words}
use Rattle.code_places.proofs.Asks.{opens_nothing}
use Rattle.code_places.specs.Places.{Place, telling_stage, place, stopped, went, next_step}
use Rattle.code_places.specs.Twins.{LikeMachine, LikeStage, GoAlike, EndAlike}
use Rattle.code_places.specs.Laws.{in_the_clear, CodeHasTwins, BeginsAlike}
use Rattle.code_places.specs.Places.{when_told}
use Rattle.code_places.proofs.QuietSteps.{IsOpening, quiet_or_opening}
use Rattle.code_places.proofs.Quiet.{Quiet}
use Rattle.code_places.proofs.Asks.{gates_by, Gives, Wanting, Asks, quiet_asks, asks_then, declassified_asks}
use Rattle.code_places.proofs.AlikeMachines.{like_at, start_like}
use Rattle.code_places.proofs.AlikeSteps.{step_alike}
use Rattle.code_places.proofs.Again.{gates_stand}

pub begins_alike : (c : List Function) (budget : ℕ) → BeginsAlike c budget
begins_alike c budget =
    record { machine = start_like c; stage = record { answers = refl; same = refl; events = tt }; goes_on = refl; goes_on_too = refl }

-- ---- WHAT IS GAINED

gained_none : {A : Type 0} (xs : List A) → gained xs xs ≡ []
gained_none xs = ap (λ ys. drop (length xs) ys) (sym (append-nil xs)) ∙ drop-append_seam xs []

pub gained_more : {A : Type 0} (xs more ys : List A) → ys ≡ xs ++ more → gained xs ys ≡ more
gained_more xs more ys e = ap (λ zs. drop (length xs) zs) e ∙ drop-append_seam xs more

stands_and_gains : {A : Type 0} (xs ys : List A) → Begins xs ys → ys ≡ xs ++ gained xs ys
stands_and_gains xs ys h = h.1 ∙ ap (λ zs. xs ++ zs) (sym (gained_more xs h.0 ys h.1))

same_gates : {s s' : Stage} → LikeStage s s' → s.gates ≡ s'.gates
same_gates h = ap (λ (z : Stage). z.gates) (sym h.same)

-- ---- ONE STEP

module _ (o : Offered) (c : List Function) where
  -- a step opens nothing, or wants the words when it is told none
  step_asks : {m m' : Machine} → LikeMachine m m' → (i : Option Step) → Asks (step (clear o) c i m) (step (unseen o) c i m')
  step_asks {m = m} {m' = m'} l i = by (quiet_or_opening (clear o) c m i)
    where
      by : (Quiet true (step (clear o) c i m) ⊎ IsOpening i) → Asks (step (clear o) c i m) (step (unseen o) c i m')
      by (inl q) = quiet_asks (step (unseen o) c i m') q
      by (inr x) =
          subst (λ i. Asks (step (clear o) c i m) (step (unseen o) c i m')) (sym x.2)
          (asks_then (λ v. next x.0 v m) (λ v. next x.0 v m') (declassified_asks o (like_at l.registers x.1)))

  module _ (p p' : Place) (alike : GoAlike p p') where
    abbrev m : Machine
    m = p.machine

    abbrev m' : Machine
    m' = p'.machine

    abbrev s : Stage
    s = telling_stage [] p.stage

    abbrev events : List Event
    events = p'.stage.events

    abbrev seen_step : Run Machine
    seen_step = step (clear o) c (next_step m) m s

    abbrev told_step : List ℕ → Run Machine
    told_step words = step (unseen o) c (next_step m') m' (telling_stage words p'.stage)

    same_next : next_step m ≡ next_step m'
    same_next = ap (λ steps. slice_get steps m.pc) alike.machine.steps ∙ ap (λ pc. slice_get m'.steps pc) alike.machine.pc

    -- the second step, where the first one's is named
    told_same : (words : List ℕ) → step (unseen o) c (next_step m) m' (retold words events s) ≡ told_step words
    told_same words =
        ap (λ i. step (unseen o) c i m' (retold words events s)) same_next
        ∙ ap (λ t. step (unseen o) c (next_step m') m' (telling_stage words t)) (sym alike.stage.same)

    here : AlikeAt LikeMachine (step (clear o) c (next_step m) m) (step (unseen o) c (next_step m) m') s
    here = (step_alike o c alike.machine (next_step m)).from s

    asks : Asks (step (clear o) c (next_step m) m) (step (unseen o) c (next_step m) m')
    asks = step_asks alike.machine (next_step m)

    outcome : SameOutcome LikeMachine [] seen_step (told_step here.words)
    outcome =
        subst (SameOutcome LikeMachine [] seen_step)
        (ap (λ ws. step (unseen o) c (next_step m) m' (retold ws events s)) (append-nil here.words) ∙ told_same here.words)
        (here.same [] events alike.stage.events)

    some_words : (x : ℕ) (xs : List ℕ) → opened_by seen_step ≡ s.opened ++ x ∷ xs → opened_by seen_step ≢ s.opened
    some_words x xs e same = no_more x xs (append_cancel_left s.opened (x ∷ xs) [] (sym e ∙ same ∙ sym (append-nil s.opened)))
      where
        no_more : (x : ℕ) (xs : List ℕ) → x ∷ xs ≡ [] → ⊥
        no_more x xs e = cc

    wants : opened_by seen_step ≢ s.opened → Wanting (gates_by seen_step) (told_step [])
    wants n = subst (Wanting (gates_by seen_step)) (told_same []) (asks.wants s n events alike.stage.events)

    like_behind : (t t' : Stage) → Retold [] t t' → LikeStage (telling_stage [] t) (telling_stage [] t')
    like_behind t t' h =
        record {
          answers = refl;
          same = ap (telling_stage []) h.stage ∙ ap (λ es. record t { answers = []; events = es }) (ap (λ (z : Stage). z.events) (sym h.stage));
          events = subst (LikeEvents t.events) (ap (λ (z : Stage). z.events) (sym h.stage)) h.like;
        }

    -- ---- where it goes on

    module _ (x : Machine × Stage) (is : seen_step ≡ Ok x) (y : Machine × Stage) (like : LikeMachine x.0 y.0) (stands : Retold [] x.1 y.1) where
      abbrev d : Place
      d = place None x.0 x.1

      abbrev q : Place
      q = place None y.0 y.1

      opened : (words : List ℕ) → opened_by seen_step ≡ s.opened ++ words → x.1.opened ≡ s.opened ++ words
      opened words e = ap opened_by (sym is) ∙ e

      -- the words of the gates for these elements, of which one who is told them has the elements
      record ShowsWords (elements : List ℕ) : Type 0 where
        words : List ℕ
        learned : learned_of x.1.events ≡ learned_of p.stage.events ++ words
        some : words ≢ []
        again : answers_told words (next_step m') m' ≡ elements

      -- words that were opened were opened by an opening
      opened_or : (el : DataType) (n : ℕ) → opened_by seen_step ≢ s.opened → IsOpened el n s (Ok x) → OpensAs el n s x.1
      opened_or el n some (inl same) = absurd (some (ap opened_by is ∙ same))
      opened_or el n some (inr h) = h

      of_opening : (d r : ℕ) → next_step m ≡ Some (Declassify d r) → OpensAs (m.registers r).shape.element (size (m.registers r)) s x.1
          → (w : ℕ) (ws : List ℕ) → opened_by seen_step ≡ s.opened ++ w ∷ ws → ShowsWords (w ∷ ws)
      of_opening d r i h w ws e =
          let el : DataType = (m.registers r).shape.element in
          let elements : read_answer el h.words ≡ w ∷ ws =
          append_cancel_left s.opened (read_answer el h.words) (w ∷ ws) (sym h.opened ∙ sym (ap opened_by is) ∙ e) in
          let like = like_at alike.machine.registers r in
          record {
            words = gate_words el (read_answer el h.words);
            learned = h.learned;
            some = λ none. some_gate_words el w ws (ap (gate_words el) (sym elements) ∙ none);
            again = told_again el h.words (size (m.registers r)) m' d r (next_step m') (sym same_next ∙ i)
                (sym (ap (λ (z : Shape). z.element) (like_shape like))) (sym (like_size like)) h.many ∙ elements;
          }

      shows_words : (w : ℕ) (ws : List ℕ) → opened_by seen_step ≡ s.opened ++ w ∷ ws → ShowsWords (w ∷ ws)
      shows_words w ws e = by (quiet_or_opening (clear o) c m (next_step m))
        where
          by : (Quiet true (step (clear o) c (next_step m) m) ⊎ IsOpening (next_step m)) → ShowsWords (w ∷ ws)
          by (inl q) = absurd (some_words w ws e (opens_nothing q s))
          by (inr i) = of i.0 i.1 i.2
            where
              of : (d r : ℕ) → next_step m ≡ Some (Declassify d r) → ShowsWords (w ∷ ws)
              of d r i =
                  of_opening d r i (opened_or (m.registers r).shape.element (size (m.registers r)) (some_words w ws e)
                  (subst (λ z. IsOpened (m.registers r).shape.element (size (m.registers r)) s z)
                  (sym (ap (λ k. step (clear o) c k m s) i) ∙ is)
                  ((opening_then (λ v. next d v m) (declassified_opens o (m.registers r))).from s))) w ws e

      follows : (words : List ℕ) → opened_by seen_step ≡ s.opened ++ words → told_step words ≡ Ok y
          → Follows (in_the_clear o c) (when_told o c) GoAlike EndAlike p' p d q
      follows [] e went_on = untold (ap (went m') went_on)
      follows (w ∷ ws) e went_on = told (place None m' wanting.0) some (ap (went m') wanting.1) gates (ap (went m') goes)
        where
          shows : ShowsWords (w ∷ ws)
          shows = shows_words w ws e

          wanting : Wanting (gates_by seen_step) (told_step [])
          wanting = wants (some_words w ws e)

          shown : gained (learned_of p.stage.events) (learned_of x.1.events) ≡ shows.words
          shown = gained_more (learned_of p.stage.events) shows.words (learned_of x.1.events) shows.learned

          some : gained (learned_of p.stage.events) (learned_of x.1.events) ≢ []
          some none = shows.some (sym shown ∙ none)

          gates : wanting.0.gates ≡ y.1.gates
          gates = wanting.2 ∙ ap gates_by is ∙ ap (λ (z : Stage). z.gates) (sym stands.stage)

          goes : told_step (answers_told (gained (learned_of p.stage.events) (learned_of x.1.events)) (next_step m') m') ≡ Ok y
          goes = ap (λ ws. told_step (answers_told ws (next_step m') m')) shown ∙ ap told_step shows.again ∙ went_on

      goes_alike : told_step here.words ≡ Ok y → TwinBy (in_the_clear o c) (when_told o c) GoAlike EndAlike p p' (On d)
      goes_alike went_on = (
        q,
        record { machine = like; stage = like_behind x.1 y.1 stands; goes_on = refl; goes_on_too = refl },
        stands_and_gains p.stage.gates x.1.gates (subst (λ r. Begins p.stage.gates (stage_of r).gates) is (gates_stand (clear o) c (next_step m) m s)),
        follows here.words here.opened went_on,
      )

    -- ---- where it is over

    ends_untold : (stop : RunStop) (t : Stage) (words : List ℕ) → seen_step ≡ Err (stop, t) → opened_by seen_step ≡ s.opened ++ words → words ≡ []
    ends_untold stop t [] is e = refl
    ends_untold stop t (w ∷ ws) is e = absurd (subst Gives is (asks.gives s (some_words w ws e)))

    ends_alike : (stop : RunStop) (t : Stage) → seen_step ≡ Err (stop, t) → (r : Run Machine) → told_step here.words ≡ r
        → SameOutcome LikeMachine [] (Err (stop, t)) r → TwinBy (in_the_clear o c) (when_told o c) GoAlike EndAlike p p' (stopped m t stop)
    ends_alike stop t is (Ok y) same h = absurd h
    ends_alike Short t is (Err y) same h = absurd h.0
    ends_alike (Ended e) t is (Err y) same h = (
      place (Some e) m' y.1,
      record { machine = alike.machine; stage = like_behind t y.1 h.2; ended = refl },
      ap (went m') (ap told_step (sym (ends_untold (Ended e) t here.words is here.opened)) ∙ same)
          ∙ ap (stopped m' y.1) (sym h.1),
    )

    by_run : (r : Run Machine) → seen_step ≡ r → (q : Run Machine) → told_step here.words ≡ q → SameOutcome LikeMachine [] r q
        → TwinBy (in_the_clear o c) (when_told o c) GoAlike EndAlike p p' (went m r)
    by_run (Ok x) is (Ok y) same h = goes_alike x is y h.0 h.1 same
    by_run (Ok x) is (Err y) same h = absurd h
    by_run (Err x) is q same h = ends_alike x.0 x.1 is q same h

    pub has_twin : TwinBy (in_the_clear o c) (when_told o c) GoAlike EndAlike p p' ((in_the_clear o c).step p)
    has_twin = by_run seen_step refl (told_step here.words) refl outcome

  pub code_has_twins : CodeHasTwins o c
  code_has_twins =
      record {
        same_gates = λ p p' alike. same_gates alike.stage;
        same_at_end = λ p p' alike. same_gates alike.stage;
        law = has_twin;
      }
