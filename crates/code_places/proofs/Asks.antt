-- An effect beside one that opens words: told nothing it wants them, with all of the first one's gates made.
use Rattle.std.proofs.Common.{◌≡◌, ◌≢◌, ℕ, List, [], ◌∷◌, ◌++◌, Ok, Err, Bool, true, false, cond, refl, sym, ap, ◌∙◌, subst, arith, append-nil}
use Rattle.std.specs.Prelude.{length, nat_le, take, drop, Option, Some, None}
use Rattle.std.proofs.lemmas.List.{append_cancel_left}
use Rattle.std.proofs.lemmas.Bool.Decides.{nat_tests}
use Rattle.sc_text.specs.declared.event.Event.{Event}
use Rattle.sc_text.specs.declared.event.Event.TheVariants as event
use Rattle.program_trees.specs.declared.expression.DataType.{DataType}
use Rattle.program_trees.specs.declared.expression.DataType.TheVariants.{Uint64, Int64}
use Rattle.program_trees.specs.declared.expression.DataType.TheVariants as datatype
use Rattle.gates.specs.declared.gate.Gate.{Gate}
use Rattle.gates.specs.declared.gate.Gate.TheVariants.{Open}
use Rattle.program_trees.specs.declared.kinds.Shape.{Shape}
use Rattle.language_model.specs.Effects.{Stage, Short, Run, Effect, ◌>>=◌, carry, done, gate, words_each, emit, show}
use Rattle.language_model.specs.Values.{Private, Value, plain, size, ring_for, gate_size, elements_of}
use Rattle.language_model.specs.Operations.{read_answer, revealed, opened_from, declassified}
use Rattle.language_model.specs.Reports.{Offered}
use Rattle.blind_evaluation.specs.Courses.{LikeEvent, LikeEvents}
use Rattle.blind_evaluation.proofs.Alike.{retold, SameOutcome, Alike, AlikeAt, opened_by, gate_alike, draw_equal}
use Rattle.blind_evaluation.proofs.AlikeValues.{LikeValues, plains, unmade, made, like_size}
use Rattle.blind_evaluation.proofs.Gates.{value_number_alike}
use Rattle.blind_evaluation.proofs.Rows.{clear, unseen, sized_alike}
use Rattle.code_places.proofs.Quiet.{KeptAt, Quiet, quiet_draw, quiet_gate}
use Rattle.code_places.proofs.QuietRows.{untrapped_quiet, number_quiet}

abbrev pub gates_by : {A : Type 0} → Run A → List Gate
gates_by (Ok x) = x.1.gates
gates_by (Err e) = e.1.gates

abbrev pub Gives : {A : Type 0} → Run A → Type 0
Gives (Ok x) = Unit {0}
Gives (Err e) = ⊥

-- words are wanted where these gates are made
abbrev pub Wanting : {A : Type 0} → List Gate → Run A → Type 0
Wanting gates r = (u : Stage) × (r ≡ Err (Short, u)) × (u.gates ≡ gates)

-- where c opens words it gives a value, and c' untold wants them
pub record Asks {A B : Type 0} (c : Effect A) (c' : Effect B) : Type 0 where
  pub gives : (s : Stage) → opened_by (c s) ≢ s.opened → Gives (c s)
  pub wants :
      (s : Stage) → opened_by (c s) ≢ s.opened → (events : List Event) → LikeEvents s.events events →
      Wanting (gates_by (c s)) (c' (retold [] events s))

-- ---- WHERE NOTHING IS OPENED

quiet_opens : {A : Type 0} (told : Bool) (s : Stage) (r : Run A) → KeptAt told s r → opened_by r ≡ s.opened
quiet_opens told s (Ok x) h = h.opened
quiet_opens told s (Err e) h = h.1.opened

pub opens_nothing : {A : Type 0} {told : Bool} {c : Effect A} → Quiet told c → (s : Stage) → opened_by (c s) ≡ s.opened
opens_nothing {told = told} {c = c} q s = quiet_opens told s (c s) (q.from s)

pub quiet_asks : {A B : Type 0} {told : Bool} {c : Effect A} (c' : Effect B) → Quiet told c → Asks c c'
quiet_asks c' q = record { gives = λ s n. absurd (n (opens_nothing q s)); wants = λ s n events like. absurd (n (opens_nothing q s)) }

-- both do the same
pub record Still {A B : Type 0} (R : A → B → Type 0) (c : Effect A) (c' : Effect B) : Type 0 where
  pub opened : (s : Stage) → opened_by (c s) ≡ s.opened
  pub same : (s : Stage) (events : List Event) → LikeEvents s.events events → SameOutcome R [] (c s) (c' (retold [] events s))

pub still : {A B : Type 0} {R : A → B → Type 0} {told : Bool} {c : Effect A} {c' : Effect B} → Quiet told c → Alike R c c' → Still R c c'
still {R = R} {c = c} {c' = c'} q h = record { opened = opens_nothing q; same = λ s events like. of s (h.from s) events like }
  where
    of : (s : Stage) → AlikeAt R c c' s → (events : List Event) → LikeEvents s.events events → SameOutcome R [] (c s) (c' (retold [] events s))
    of s t events like =
        let none : t.words ≡ [] = append_cancel_left s.opened t.words [] (sym t.opened ∙ opens_nothing q s ∙ sym (append-nil s.opened)) in
        subst (λ ws. SameOutcome R [] (c s) (c' (retold (ws ++ []) events s))) none (t.same [] events like)

same_event : (e : Event) → LikeEvent e e
same_event (event.Open elements) = refl
same_event (event.Publish text elements) = (refl, refl)
same_event (event.Hand text kind elements) = (refl, refl, refl)

same_events : (es : List Event) → LikeEvents es es
same_events [] = tt
same_events (e ∷ es) = (same_event e, same_events es)

-- ---- BEHIND OTHERS, AND BEFORE

pub asks_behind :
    {A B C D : Type 0} {R : A → B → Type 0} {c : Effect A} {c' : Effect B} {f : A → Effect C} {f' : B → Effect D} → Still R c c' →
    ((a : A) (b : B) → R a b → Asks (f a) (f' b)) → Asks (c >>= f) (c' >>= f')
asks_behind {A = A} {B = B} {R = R} {c = c} {c' = c'} {f = f} {f' = f'} h k =
    record {
      gives = λ s. gives s (c s) (h.opened s) (c' (retold [] s.events s)) (h.same s s.events (same_events s.events));
      wants = λ s n events like. wants s (c s) (h.opened s) (c' (retold [] events s)) (h.same s events like) n;
    }
  where
    gives :
        (s : Stage) (r : Run A) → opened_by r ≡ s.opened → (q : Run B) → SameOutcome R [] r q → opened_by (carry r f) ≢ s.opened →
        Gives (carry r f)
    gives s (Ok x) o (Ok y) b n = (k x.0 y.0 b.0).gives x.1 (λ e. n (e ∙ o))
    gives s (Ok x) o (Err y) b n = absurd b
    gives s (Err x) o q b n = absurd (n o)

    wants :
        (s : Stage) (r : Run A) → opened_by r ≡ s.opened → (q : Run B) → SameOutcome R [] r q → opened_by (carry r f) ≢ s.opened →
        Wanting (gates_by (carry r f)) (carry q f')
    wants s (Ok x) o (Ok y) b n =
        subst (λ t. Wanting (gates_by (f x.0 x.1)) (f' y.0 t)) (sym b.1.stage) ((k x.0 y.0 b.0).wants x.1 (λ e. n (e ∙ o)) b.1.events b.1.like)
    wants s (Ok x) o (Err y) b n = absurd b
    wants s (Err x) o q b n = absurd (n o)

pub asks_then :
    {A B C D : Type 0} {c : Effect A} {c' : Effect B} (g : A → C) (g' : B → D) → Asks c c' →
    Asks (c >>= λ a. done (g a)) (c' >>= λ b. done (g' b))
asks_then {A = A} {B = B} {c = c} {c' = c'} g g' h =
    record {
      gives = λ s n. gives (c s) (h.gives s (λ e. n (opens (c s) ∙ e)));
      wants = λ s n events like. wants (c s) (c' (retold [] events s)) (h.wants s (λ e. n (opens (c s) ∙ e)) events like);
    }
  where
    opens : (r : Run A) → opened_by (carry r (λ a. done (g a))) ≡ opened_by r
    opens (Ok x) = refl
    opens (Err x) = refl

    gives : (r : Run A) → Gives r → Gives (carry r (λ a. done (g a)))
    gives (Ok x) h = tt
    gives (Err x) h = absurd h

    makes : (r : Run A) → gates_by r ≡ gates_by (carry r (λ a. done (g a)))
    makes (Ok x) = refl
    makes (Err x) = refl

    wants : (r : Run A) (q : Run B) → Wanting (gates_by r) q → Wanting (gates_by (carry r (λ a. done (g a)))) (carry q (λ b. done (g' b)))
    wants r q w = (w.0, ap (λ z. carry z (λ b. done (g' b))) w.1, w.2 ∙ makes r)

-- ---- AN OPENING

no_words : (words : List ℕ) → length words ≡ 0 → words ≡ []
no_words [] e = refl
no_words (x ∷ xs) e = absurd (omega (arith, e))

none_read : (element : DataType) (words : List ℕ) → words ≡ [] → read_answer element words ≡ []
none_read Uint64 words e = e
none_read Int64 words e = e
none_read datatype.Bool words e = ap (λ ws. read_answer datatype.Bool ws) e

too_few : (x : ℕ) (xs : List ℕ) → nat_le (length (x ∷ xs)) 0 ≡ false
too_few x xs = grind (arith, nat_tests)

abbrev private : Option ℕ → Shape → List ℕ → Value
private k shape words = record { secrecy = Private k; shape = shape; words = words }

-- what is done with words that were opened
abbrev telling : Shape → List ℕ → Effect Value
telling shape words =
    show (read_answer shape.element words) >>= λ _. emit (event.Open (elements_of (plain shape (read_answer shape.element words)))) >>= λ _.
    done (plain shape (read_answer shape.element words))

-- which are taken from the answers, of which there are none
abbrev none_taken : List ℕ → Stage → Bool → Run (List ℕ)
none_taken words s enough =
    cond enough (Ok (take (length words) [], record s { answers = drop (length words) [] })) (Err (Short, s))

module _ (o : Offered) where
  revealed_asks :
      (k : Option ℕ) (shape : Shape) (words words' : List ℕ) → length words ≡ length words' →
      Asks (revealed (clear o) (private k shape words)) (revealed (unseen o) (private k shape words'))
  revealed_asks k shape words words' e = record { gives = λ s n. tt; wants = λ s n events like. wants s n events words' e }
    where
      wants :
          (s : Stage) → s.opened ++ read_answer shape.element words ≢ s.opened → (events : List Event) (others : List ℕ) →
          length words ≡ length others → Wanting s.gates (revealed (unseen o) (private k shape others) (retold [] events s))
      wants s n events [] e =
          absurd (n (ap (λ ws. s.opened ++ ws) (none_read shape.element words (no_words words e)) ∙ append-nil s.opened))
      wants s n events (x ∷ xs) e =
          (retold [] events s, ap (λ b. carry (none_taken (x ∷ xs) (retold [] events s) b) (telling shape)) (too_few x xs), refl)

  -- after the gate
  gate_asks :
      (k : Option ℕ) (shape : Shape) (words words' : List ℕ) → length words ≡ length words' → (u u' : ℕ) → u ≡ u' →
      Asks (gate (Open (ring_for shape.element) u) >>= λ _. revealed (clear o) (private k shape words))
      (gate (Open (ring_for shape.element) u') >>= λ _. revealed (unseen o) (private k shape words'))
  gate_asks k shape words words' e u u' same =
      subst
      (λ u'.
      Asks (gate (Open (ring_for shape.element) u) >>= λ _. revealed (clear o) (private k shape words))
      (gate (Open (ring_for shape.element) u') >>= λ _. revealed (unseen o) (private k shape words')))
      same
      (asks_behind (still (quiet_gate true (Open (ring_for shape.element) u)) (gate_alike (Open (ring_for shape.element) u))) (λ _ _ _.
      revealed_asks k shape words words' e))

  private_asks :
      (k : Option ℕ) (shape : Shape) (words words' : List ℕ) → LikeValues (private k shape words) (private k shape words') →
      Asks (opened_from (clear o) (Private k) (private k shape words)) (opened_from (unseen o) (Private k) (private k shape words'))
  private_asks k shape words words' l =
      asks_behind (still (quiet_draw true (clear o) (words_each (gate_size shape.element (length words))))
      (draw_equal (clear o) (ap (λ n. words_each (gate_size shape.element n)) (like_size l)))) (λ _ _ _.
      asks_behind (still (number_quiet true (private k shape words)) (value_number_alike l)) (λ u u' same.
      gate_asks k shape words words' (like_size l) u u' same))

  opened_asks : {v v' : Value} → LikeValues v v' → Asks (opened_from (clear o) v.secrecy v) (opened_from (unseen o) v'.secrecy v')
  opened_asks (plains shape words) = record { gives = λ s n. absurd (n refl); wants = λ s n. absurd (n refl) }
  opened_asks (unmade shape words) = private_asks None shape words words (unmade shape words)
  opened_asks (made shape k words words' e) = private_asks (Some k) shape words words' (made shape k words words' e)

  pub declassified_asks : {v v' : Value} → LikeValues v v' → Asks (declassified (clear o) v) (declassified (unseen o) v')
  declassified_asks {v = v} l = asks_behind (still (untrapped_quiet true (size v)) (sized_alike l)) (λ _ _ _. opened_asks l)
