-- Two effects that are alike: told what the first opens, the second does the same.
use Rattle.std.proofs.Common.{◌≡◌, ℕ, ◌+◌, ◌-◌, List, [], ◌∷◌, ◌++◌, Ok, Err, Bool, true, false, cond, refl, sym, ap, ◌∙◌, subst, append_assoc, append-nil}
use Rattle.std.specs.Prelude.{nat_le}
use Rattle.std.proofs.lemmas.List.{append_cancel_left}
use Rattle.std.proofs.lemmas.List.Elements.{AllZip-push}
use Rattle.sc_text.specs.declared.end.Ending.{Ending}
use Rattle.sc_text.specs.declared.end.Ending.TheVariants.{Budget, Tape}
use Rattle.sc_text.specs.declared.end.TrapKind.{TrapKind}
use Rattle.sc_text.specs.declared.end.TapeOwner.{TapeOwner}
use Rattle.sc_text.specs.declared.end.TapeOwner.TheVariants.{Miner1, Miner2, Miner3}
use Rattle.sc_text.specs.declared.event.Event.{Event}
use Rattle.sc_text.specs.declared.event.Event.TheVariants.{Open, Publish, Hand}
use Rattle.gates.specs.declared.gate.Gate.{Gate}
use Rattle.language_model.specs.Effects.{Words, World, Stage, Ended, Run, Effect, ◌>>=◌, carry, done, end, charge, test, fits, drawn_yet, take_words}
use Rattle.language_model.specs.Effects.{draw, gate, next_number, put_gates, planned, emit}
use Rattle.blind_evaluation.specs.Courses.{LikeEvent, LikeEvents, IsEnded}

-- the second run's stage beside the first one's: the same but for its answers and events
abbrev pub retold : List ℕ → List Event → Stage → Stage
retold answers events s = record s { answers = answers; events = events }

-- the second run stands where the first one does, told events that are alike, and has `more` answers left over
pub record Retold (more : List ℕ) (s t : Stage) : Type 0 where
  pub events : List Event
  pub like : LikeEvents s.events events
  pub stage : t ≡ retold more events s

-- the second run's outcome beside the first one's
abbrev pub SameOutcome : {A B : Type 0} → (A → B → Type 0) → List ℕ → Run A → Run B → Type 0
SameOutcome R more (Ok x) (Ok y) = R x.0 y.0 × Retold more x.1 y.1
SameOutcome R more (Ok x) (Err y) = ⊥
SameOutcome R more (Err x) (Ok y) = ⊥
SameOutcome R more (Err x) (Err y) = IsEnded x.0 × (x.0 ≡ y.0) × Retold more x.1 y.1

abbrev pub opened_by : {A : Type 0} → Run A → List ℕ
opened_by (Ok x) = x.1.opened
opened_by (Err x) = x.1.opened

-- c opens some words, and c' does the same when it is told these, and leaves what it is told beside them
pub record AlikeAt {A B : Type 0} (R : A → B → Type 0) (c : Effect A) (c' : Effect B) (s : Stage) : Type 0 where
  pub words : List ℕ
  pub opened : opened_by (c s) ≡ s.opened ++ words
  pub same : (more : List ℕ) (events : List Event) → LikeEvents s.events events → SameOutcome R more (c s) (c' (retold (words ++ more) events s))

pub record Alike {A B : Type 0} (R : A → B → Type 0) (c : Effect A) (c' : Effect B) : Type 0 where
  pub from : (s : Stage) → AlikeAt R c c' s

same_event : (e : Event) → LikeEvent e e
same_event (Open elements) = refl
same_event (Publish text elements) = (refl, refl)
same_event (Hand text kind elements) = (refl, refl, refl)

same_events : (es : List Event) → LikeEvents es es
same_events [] = tt
same_events (e ∷ es) = (same_event e, same_events es)

pub alike_bind : {A B C D : Type 0} {R : A → B → Type 0} {S : C → D → Type 0} {c : Effect A} {c' : Effect B} {f : A → Effect C} {f' : B → Effect D}
    → Alike R c c' → ((a : A) (b : B) → R a b → Alike S (f a) (f' b)) → Alike S (c >>= f) (c' >>= f')
alike_bind {A = A} {B = B} {C = C} {D = D} {R = R} {S = S} {c = c} {c' = c'} {f = f} {f' = f'} h k = record { from = λ s. go s (c s) refl (h.from s) }
  where
    go : (s : Stage) (r : Run A) → c s ≡ r → AlikeAt R c c' s → AlikeAt S (c >>= f) (c' >>= f') s
    go s r e t = on r e (subst (λ z. opened_by z ≡ s.opened ++ t.words) e t.opened)
        (λ more events like. subst (λ z. SameOutcome R more z (c' (retold (t.words ++ more) events s))) e (t.same more events like))
      where
        on : (r : Run A) → c s ≡ r → opened_by r ≡ s.opened ++ t.words
            → ((more : List ℕ) (events : List Event) → LikeEvents s.events events → SameOutcome R more r (c' (retold (t.words ++ more) events s)))
            → AlikeAt S (c >>= f) (c' >>= f') s
        on (Err x) e o b = record {
          words = t.words;
          opened = ap (λ z. opened_by (carry z f)) e ∙ o;
          same = λ more events like. subst (λ z. SameOutcome S more (carry z f) (carry (c' (retold (t.words ++ more) events s)) f')) (sym e)
              (end_same more events (c' (retold (t.words ++ more) events s)) (b more events like));
        }
          where
            end_same : (more : List ℕ) (events : List Event) (q : Run B) → SameOutcome R more (Err x) q → SameOutcome S more (Err x) (carry q f')
            end_same more events (Ok y) b = absurd b
            end_same more events (Err y) b = b
        on (Ok x) e o b = record {
          words = t.words ++ (then).words;
          opened = ap (λ z. opened_by (carry z f)) e ∙ (then).opened ∙ ap (λ z. z ++ (then).words) o ∙ append_assoc s.opened t.words (then).words;
          same = λ more events like. subst (λ z. SameOutcome S more (carry z f) (carry (c' (retold ((t.words ++ (then).words) ++ more) events s)) f')) (sym e)
              (subst (λ l. SameOutcome S more (f x.0 x.1) (carry (c' (retold l events s)) f')) (sym (append_assoc t.words (then).words more))
              (on_same more (c' (retold (t.words ++ ((then).words ++ more)) events s)) (b ((then).words ++ more) events like)));
        }
          where
            got : (q : Run B) → SameOutcome R [] (Ok x) q → (y : B) × R x.0 y
            got (Ok y) b = (y.0, b.0)
            got (Err y) b = absurd b

            some : (y : B) × R x.0 y
            some = got (c' (retold (t.words ++ []) s.events s)) (b [] s.events (same_events s.events))

            then : AlikeAt S (f x.0) (f' some.0) x.1
            then = (k x.0 some.0 some.1).from x.1

            on_same : (more : List ℕ) (q : Run B) → SameOutcome R ((then).words ++ more) (Ok x) q → SameOutcome S more (f x.0 x.1) (carry q f')
            on_same more (Ok y) b =
                let other = (k x.0 y.0 b.0).from x.1 in
                let e2 : other.words ≡ (then).words = append_cancel_left x.1.opened other.words (then).words (sym other.opened ∙ (then).opened) in
                subst (λ z. SameOutcome S more (f x.0 x.1) (f' y.0 z)) (sym b.1.stage)
                (subst (λ l. SameOutcome S more (f x.0 x.1) (f' y.0 (retold (l ++ more) b.1.events x.1))) e2 (other.same more b.1.events b.1.like))
            on_same more (Err y) b = absurd b

pub alike_done : {A B : Type 0} {R : A → B → Type 0} {a : A} {b : B} → R a b → Alike R (done a) (done b)
alike_done r = record {
  from =
      λ s. record { words = []; opened = sym (append-nil s.opened); same = λ more events like. (r, record { events = events; like = like; stage = refl }) };
}

-- ---- WHERE BOTH GIVE THE SAME, OR NOTHING THAT IS USED

abbrev pub Same : {A : Type 0} → A → A → Type 0
Same a b = a ≡ b

abbrev pub Any : {A B : Type 0} → A → B → Type 0
Any a b = Unit {0}

pub same_bind : {A C D : Type 0} {S : C → D → Type 0} {c c' : Effect A} {f : A → Effect C} {f' : A → Effect D} → Alike (Same {A = A}) c c'
    → ((a : A) → Alike S (f a) (f' a)) → Alike S (c >>= f) (c' >>= f')
same_bind {A = A} {S = S} {f = f} {f' = f'} h k = alike_bind h (λ a b e. subst (λ z. Alike S (f a) (f' z)) e (k a))

pub any_bind : {A B C D : Type 0} {S : C → D → Type 0} {c : Effect A} {c' : Effect B} {f : A → Effect C} {f' : B → Effect D}
    → Alike (Any {A = A} {B = B}) c c' → ((a : A) (b : B) → Alike S (f a) (f' b)) → Alike S (c >>= f) (c' >>= f')
any_bind h k = alike_bind h (λ a b e. k a b)

-- both end for sure
abbrev pub Never : {A B : Type 0} → A → B → Type 0
Never a b = ⊥

pub never_bind : {A B C D : Type 0} {S : C → D → Type 0} {c : Effect A} {c' : Effect B} (f : A → Effect C) (f' : B → Effect D)
    → Alike (Never {A = A} {B = B}) c c' → Alike S (c >>= f) (c' >>= f')
never_bind {S = S} f f' h = alike_bind h (λ a b n. let g : Alike S (f a) (f' b) = absurd n in g)

-- an effect that opens nothing and reads neither answers nor events
pub alike_if_kept : {A B : Type 0} {R : A → B → Type 0} (c : Effect A) (c' : Effect B) → ((s : Stage) → opened_by (c s) ≡ s.opened)
    → ((s : Stage) (more : List ℕ) (events : List Event) → LikeEvents s.events events → SameOutcome R more (c s) (c' (retold more events s))) → Alike R c c'
alike_if_kept c c' o b = record { from = λ s. record { words = []; opened = o s ∙ sym (append-nil s.opened); same = λ more events like. b s more events like } }

-- ---- THE STEPS

pub end_alike : {A B : Type 0} {R : A → B → Type 0} (e : Ending) → Alike R (end {A = A} e) (end {A = B} e)
end_alike e = alike_if_kept (end e) (end e) (λ s. refl) (λ s more events like. (tt, refl, record { events = events; like = like; stage = refl }))

pub charge_alike : (n : ℕ) → Alike (Any {A = Unit {0}} {B = Unit {0}}) (charge n) (charge n)
charge_alike n = alike_if_kept (charge n) (charge n) (λ s. opens s (nat_le n s.left)) (λ s more events like. beside s more events like (nat_le n s.left))
  where
    opens : (s : Stage) (b : Bool) → opened_by {A = Unit {0}} (cond b (Ok (tt, record s { left = s.left - n })) (Err (Ended Budget, s))) ≡ s.opened
    opens s true = refl
    opens s false = refl

    beside : (s : Stage) (more : List ℕ) (events : List Event) → LikeEvents s.events events → (b : Bool)
        → SameOutcome {A = Unit {0}} {B = Unit {0}} Any more (cond b (Ok (tt, record s { left = s.left - n })) (Err (Ended Budget, s)))
        (cond b (Ok (tt, record (retold more events s) { left = s.left - n })) (Err (Ended Budget, retold more events s)))
    beside s more events like true = (tt, record { events = events; like = like; stage = refl })
    beside s more events like false = (tt, refl, record { events = events; like = like; stage = refl })

pub test_alike : (b : Bool) (kind : TrapKind) (line : ℕ) → Alike (Any {A = Unit {0}} {B = Unit {0}}) (test b kind line) (test b kind line)
test_alike true kind line = alike_if_kept (test true kind line) (test true kind line) (λ s. refl)
    (λ s more events like. (tt, record { events = events; like = like; stage = refl }))
test_alike false kind line =
    alike_if_kept (test false kind line) (test false kind line) (λ s. refl)
    (λ s more events like. (tt, refl, record { events = events; like = like; stage = refl }))

fits_alike : (owner : TapeOwner) (need have : ℕ) → Alike (Any {A = Unit {0}} {B = Unit {0}}) (fits owner need have) (fits owner need have)
fits_alike owner need have =
    alike_if_kept (fits owner need have) (fits owner need have) (λ s. opens s (nat_le need have))
    (λ s more events like. beside s more events like (nat_le need have))
  where
    opens : (s : Stage) (b : Bool) → opened_by {A = Unit {0}} (cond b (Ok (tt, s)) (Err (Ended (Tape owner need have), s))) ≡ s.opened
    opens s true = refl
    opens s false = refl

    beside : (s : Stage) (more : List ℕ) (events : List Event) → LikeEvents s.events events → (b : Bool)
        → SameOutcome {A = Unit {0}} {B = Unit {0}} Any more (cond b (Ok (tt, s)) (Err (Ended (Tape owner need have), s)))
        (cond b (Ok (tt, retold more events s)) (Err (Ended (Tape owner need have), retold more events s)))
    beside s more events like true = (tt, record { events = events; like = like; stage = refl })
    beside s more events like false = (tt, refl, record { events = events; like = like; stage = refl })

yet_alike : Alike (Same {A = Words}) drawn_yet drawn_yet
yet_alike = alike_if_kept drawn_yet drawn_yet (λ s. refl) (λ s more events like. (refl, record { events = events; like = like; stage = refl }))

taken_alike : (n : Words) → Alike (Any {A = Unit {0}} {B = Unit {0}}) (take_words n) (take_words n)
taken_alike n = alike_if_kept (take_words n) (take_words n) (λ s. refl) (λ s more events like. (tt, record { events = events; like = like; stage = refl }))

pub draw_alike : (w : World) (n : Words) → Alike (Any {A = Unit {0}} {B = Unit {0}}) (draw w n) (draw w n)
draw_alike w n =
    same_bind yet_alike (λ d. any_bind (fits_alike Miner1 (d.first + n.first) w.lengths.first) (λ a b.
    any_bind (fits_alike Miner2 (d.second + n.second) w.lengths.second) (λ a b.
    any_bind (fits_alike Miner3 (d.third + n.third) w.lengths.third) (λ a b. taken_alike n))))

pub gate_alike : (g : Gate) → Alike (Same {A = ℕ}) (gate g) (gate g)
gate_alike g = alike_if_kept (gate g) (gate g) (λ s. refl) (λ s more events like. (refl, record { events = events; like = like; stage = refl }))

pub number_alike : Alike (Same {A = ℕ}) next_number next_number
number_alike = alike_if_kept next_number next_number (λ s. refl) (λ s more events like. (refl, record { events = events; like = like; stage = refl }))

put_alike : (gs : List Gate) → Alike (Same {A = ℕ}) (put_gates gs) (put_gates gs)
put_alike gs = alike_if_kept (put_gates gs) (put_gates gs) (λ s. refl) (λ s more events like. (refl, record { events = events; like = like; stage = refl }))

pub planned_alike : (plan : ℕ → List Gate) → Alike (Same {A = ℕ}) (planned plan) (planned plan)
planned_alike plan = same_bind number_alike (λ first. put_alike (plan first))

-- what is told is alike
pub emit_alike : (e f : Event) → LikeEvent e f → Alike (Any {A = Unit {0}} {B = Unit {0}}) (emit e) (emit f)
emit_alike e f l =
    alike_if_kept (emit e) (emit f) (λ s. refl)
    (λ s more events like. (tt, record { events = events ++ f ∷ []; like = AllZip-push LikeEvent s.events events e f like l; stage = refl }))

-- ---- WHERE A PART IS EQUAL AND NOT THE SAME

pub to_equal : {A B X : Type 0} {R : A → B → Type 0} {c : Effect A} (d : X → Effect B) {x x' : X} → x ≡ x' → Alike R c (d x) → Alike R c (d x')
to_equal {R = R} {c = c} d e h = subst (λ z. Alike R c (d z)) e h

pub charge_equal : {n n' : ℕ} → n ≡ n' → Alike (Any {A = Unit {0}} {B = Unit {0}}) (charge n) (charge n')
charge_equal {n = n} e = to_equal (λ m. charge m) e (charge_alike n)

pub test_equal : {b b' : Bool} (kind : TrapKind) (line : ℕ) → b ≡ b' → Alike (Any {A = Unit {0}} {B = Unit {0}}) (test b kind line) (test b' kind line)
test_equal {b = b} kind line e = to_equal (λ c. test c kind line) e (test_alike b kind line)

pub draw_equal : (w : World) {n n' : Words} → n ≡ n' → Alike (Any {A = Unit {0}} {B = Unit {0}}) (draw w n) (draw w n')
draw_equal w {n = n} e = to_equal (λ m. draw w m) e (draw_alike w n)

pub gate_equal : {g g' : Gate} → g ≡ g' → Alike (Same {A = ℕ}) (gate g) (gate g')
gate_equal {g = g} e = to_equal (λ h. gate h) e (gate_alike g)
