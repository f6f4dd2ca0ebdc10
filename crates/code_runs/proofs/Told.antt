-- What a step in the clear tells: an opening's gate is its last, and so is that by which a value is handed over.
use Rattle.std.proofs.Common.{◌≡◌, ℕ, ◌+◌, List, [], ◌∷◌, ◌++◌, Option, Some, None, Ok, Err, Bool, true, false, cond, refl, sym, ap, ◌∙◌, subst}
use Rattle.std.proofs.Common.{append_assoc}
use Rattle.std.specs.Prelude.{◌-◌, length, map, sum, nat_le, nat_lt}
use Rattle.sc_text.specs.declared.end.Ending.TheVariants.{Budget, Tape}
use Rattle.sc_text.specs.declared.end.Ending.TheVariants as ending
use Rattle.sc_text.specs.declared.end.TrapKind.TheVariants as trap
use Rattle.sc_text.specs.declared.end.TapeOwner.{TapeOwner}
use Rattle.sc_text.specs.declared.end.TapeOwner.TheVariants.{Miner1, Miner2, Miner3}
use Rattle.sc_text.specs.declared.event.Event.TheVariants as event
use Rattle.gates.specs.declared.ring_kind.RingKind.{RingKind}
use Rattle.gates.specs.declared.gate.Gate.{Gate}
use Rattle.gates.specs.declared.gate.Gate.TheVariants.{Const, Open, Result}
use Rattle.gates.specs.Clear.{Values}
use Rattle.shared_gates.specs.Computed.{opened_values}
use Rattle.language_model.specs.Effects.{Words, World, Clear, Stage, RunStop, Ended, Run, Effect, ◌>>=◌, carry, done, charge, fits, drawn_yet, take_words, draw}
use Rattle.language_model.specs.Effects.{gate, emit}
use Rattle.language_model.specs.Effects.{words_each, with_more}
use Rattle.language_model.specs.Values.{Secrecy, Plain, Private, Value, plain, size, ring_for, gate_words, gate_size, elements_of}
use Rattle.language_model.specs.Operations.{charged, no_traps, number_from, read_answer, revealed, opened_from, declassified, handed_over, publication, published}
use Rattle.language_model.specs.Evaluation.{nothing, array_elements, input_named}
use Rattle.language_model.specs.Reports.{Offered, world_of}
use Rattle.language_model.proofs.Onward.{stage_of}
use Rattle.verified_code.specs.Steps.{kind_shape, Step, Literal, Move, Store, Binary, Not, Cast, Classify, Fill, At, Put, Size, Cat, Sum, Bits, Lookup, Declassify}
use Rattle.verified_code.specs.Steps.{Argument, Publish, Assert, Branch, Jump, Call, Return, ReturnNone, Function}
use Rattle.code_model.specs.Machine.{Caller, Machine, values_at, limit, resume, step}
use Rattle.code_places.proofs.Quiet.{KeptAt, Quiet, quiet_bind, quiet_done, quiet_end, quiet_charge, quiet_test}
use Rattle.code_places.proofs.QuietRows.{untrapped_quiet, classified_quiet, operated_quiet, negated_quiet, cast_quiet, size_quiet, summed_quiet, bits_quiet, looked_up_quiet}
use Rattle.code_places.proofs.QuietRows.{concatenated_quiet, element_quiet, with_element_quiet, filled_quiet, tested_quiet, asserted_quiet, asked_quiet}

-- ---- WHAT A STEP TELLS

pub record TellsNothing (s u : Stage) : Type 0 where
  pub opened : u.opened ≡ s.opened
  pub events : u.events ≡ s.events
  pub answers : u.answers ≡ s.answers

same_told : (s u : Stage) → u.opened ≡ s.opened → u.events ≡ s.events → u.answers ≡ s.answers → TellsNothing s u
same_told s u o e a = record { opened = o; events = e; answers = a }

-- nothing, since the value is public; or some words, by the last gate
pub data Opening (v : Value) (s u : Stage) : Type 0 where
  was_open : TellsNothing s u → Opening v s u
  opens :
      (words : List ℕ) (before : List Gate) (ring : RingKind) (k : ℕ) → words ≡ read_answer v.shape.element v.words → u.opened ≡ s.opened ++ words
      → u.events ≡ s.events ++ event.Open (elements_of (plain v.shape words)) ∷ [] → u.answers ≡ s.answers
      → u.gates ≡ s.gates ++ (before ++ Open ring k ∷ []) → ((values : Values) → opened_values values before ≡ [])
      → Opening v s u

-- the value's own number, or that of a constant which is made of its words first
abbrev pub NumberFor : Option ℕ → List ℕ → Stage → (before : List Gate) → (k : ℕ) → Type 0
NumberFor (Some j) words s before k = (before ≡ []) × (k ≡ j)
NumberFor None words s before k = (before ≡ Const words ∷ []) × (k ≡ s.made)

pub record Numbered (v : Value) (j : Option ℕ) (s u : Stage) : Type 0 where
  pub before : List Gate
  pub number : ℕ
  pub number_for : NumberFor j (gate_words v.shape.element v.words) s before number
  pub gates : u.gates ≡ s.gates ++ (before ++ Result (ring_for v.shape.element) number ∷ [])

pub record Publishing (text : List ℕ) (v : Value) (s u : Stage) : Type 0 where
  pub opened : u.opened ≡ s.opened
  pub answers : u.answers ≡ s.answers
  pub events : u.events ≡ s.events ++ publication v.secrecy v.shape.element text (elements_of v) ∷ []
  pub handed : (j : Option ℕ) → v.secrecy ≡ Private j → Numbered v j s u

-- a run that ends tells nothing
abbrev pub EndsWith : {A : Type 0} → (Stage → Type 0) → Stage → Run A → Type 0
EndsWith P s (Ok x) = P x.1
EndsWith P s (Err e) = TellsNothing s e.1

abbrev pub ToldBy : Option Step → Machine → (s u : Stage) → Type 0
ToldBy (Some (Declassify d r)) m s u = Opening (m.registers r) s u
ToldBy (Some (Publish text r)) m s u = Publishing text (m.registers r) s u
ToldBy i m s u = TellsNothing s u

quiet_ends : {A : Type 0} (m : Effect A) → Quiet false m → (s : Stage) → EndsWith (TellsNothing s) s (m s)
quiet_ends {A = A} m h s = go (m s) (h.from s)
  where
    go : (r : Run A) → KeptAt false s r → EndsWith (TellsNothing s) s r
    go (Ok x) k = same_told s x.1 k.opened (k.events refl) k.answers
    go (Err e) k = same_told s e.1 k.1.opened (k.1.events refl) k.1.answers

-- and then a machine is made of what it gives
ends_then : {A B : Type 0} (P : Stage → Type 0) (s : Stage) (to : A → B) (r : Run A) → EndsWith P s r → EndsWith P s (carry r (λ a. done (to a)))
ends_then P s to (Ok x) h = h
ends_then P s to (Err e) h = h

-- ---- PAYING: CHARGES AND DRAWS

abbrev paid : ℕ → Words → Stage → Stage
paid l n s = record s { left = l; drawn = n }

record Pays {A : Type 0} (m : Effect A) : Type 0 where
  from : (s : Stage) → (l : ℕ) × (n : Words) × (stage_of (m s) ≡ paid l n s)

pays_bind : {A B : Type 0} {m : Effect A} {f : A → Effect B} → Pays m → ((a : A) → Pays (f a)) → Pays (m >>= f)
pays_bind {A = A} {m = m} {f = f} h k = record { from = λ s. go s (m s) (h.from s) }
  where
    go : (s : Stage) (r : Run A) → (l : ℕ) × (n : Words) × (stage_of r ≡ paid l n s) → (l : ℕ) × (n : Words) × (stage_of (carry r f) ≡ paid l n s)
    go s (Ok x) g = let then = (k x.0).from x.1 in (then.0, then.1, then.2 ∙ ap (paid then.0 then.1) g.2)
    go s (Err e) g = g

pays_nothing : {A : Type 0} (a : A) → Pays (done a)
pays_nothing a = record { from = λ s. (s.left, s.drawn, refl) }

pays_charge : (n : ℕ) → Pays (charge n)
pays_charge n = record { from = λ s. go s (nat_le n s.left) }
  where
    go : (s : Stage) (b : Bool)
        → (l : ℕ) × (k : Words) × (stage_of {A = Unit {0}} (cond b (Ok (tt {0}, record s { left = s.left - n })) (Err (Ended Budget, s))) ≡ paid l k s)
    go s true = (s.left - n, s.drawn, refl)
    go s false = (s.left, s.drawn, refl)

pays_fits : (owner : TapeOwner) (need have : ℕ) → Pays (fits owner need have)
pays_fits owner need have = record { from = λ s. go s (nat_le need have) }
  where
    go : (s : Stage) (b : Bool)
        → (l : ℕ) × (k : Words) × (stage_of {A = Unit {0}} (cond b (Ok (tt {0}, s)) (Err (Ended (Tape owner need have), s))) ≡ paid l k s)
    go s true = (s.left, s.drawn, refl)
    go s false = (s.left, s.drawn, refl)

pays_yet : Pays drawn_yet
pays_yet = record { from = λ s. (s.left, s.drawn, refl) }

pays_take : (n : Words) → Pays (take_words n)
pays_take n = record { from = λ s. (s.left, with_more s.drawn n, refl) }

pays_draw : (w : World) (n : Words) → Pays (draw w n)
pays_draw w n =
    pays_bind pays_yet (λ d. pays_bind (pays_fits Miner1 (d.first + n.first) w.lengths.first) (λ _.
    pays_bind (pays_fits Miner2 (d.second + n.second) w.lengths.second) (λ _.
    pays_bind (pays_fits Miner3 (d.third + n.third) w.lengths.third) (λ _. pays_take n))))

pays_charged : (n : ℕ) → Pays (charged no_traps n)
pays_charged n = pays_bind (pays_charge 1) (λ _. pays_bind (pays_nothing (tt {0})) (λ _. pays_charge (n - 1)))

-- what comes after is the same as from the stage that has paid
paying :
    {A B : Type 0} (Q : Run B → Type 0) (s : Stage) (m : Effect A) (g : A → Stage → Run B) → Pays m
    → ((l : ℕ) (n : Words) (e : RunStop) → Q (Err (e, paid l n s))) → ((a : A) (l : ℕ) (n : Words) → Q (g a (paid l n s)))
    → Q (carry (m s) g)
paying {A = A} Q s m g h ends goes = go (m s) (h.from s)
  where
    go : (r : Run A) → (l : ℕ) × (n : Words) × (stage_of r ≡ paid l n s) → Q (carry r g)
    go (Ok x) p = subst (λ z. Q (g x.0 z)) (sym p.2) (goes x.0 p.0 p.1)
    go (Err e) p = subst (λ z. Q (Err (e.0, z))) (sym p.2) (ends p.0 p.1 e.0)

-- ---- AN OPENING, AND A PUBLICATION

same_private : (a b : Option ℕ) → Private a ≡ Private b → a ≡ b
same_private a b e = cc

not_private : (a : Option ℕ) → Plain ≡ Private a → ⊥
not_private a e = cc

module _ (o : Offered) (v : Value) (s : Stage) where
  abbrev w : World
  w = world_of Clear o

  abbrev ring : RingKind
  ring = ring_for v.shape.element

  abbrev own_words : List ℕ
  own_words = gate_words v.shape.element v.words

  module _ (l : ℕ) (n : Words) where
    revealed_tells : (a : Secrecy) → EndsWith (Opening v s) s ((number_from a own_words >>= λ u. gate (Open ring u) >>= λ _. revealed w v) (paid l n s))
    revealed_tells (Private (Some k)) = opens (read_answer v.shape.element v.words) [] ring k refl refl refl refl refl (λ values. refl)
    revealed_tells (Private None) =
        opens (read_answer v.shape.element v.words) (Const own_words ∷ []) ring s.made refl refl refl refl
        (append_assoc s.gates (Const own_words ∷ []) (Open ring s.made ∷ [])) (λ values. refl)
    revealed_tells Plain =
        opens (read_answer v.shape.element v.words) (Const own_words ∷ []) ring s.made refl refl refl refl
        (append_assoc s.gates (Const own_words ∷ []) (Open ring s.made ∷ [])) (λ values. refl)

    -- with these gates, and the event told
    abbrev behind : List ℕ → ℕ → List Gate → Stage
    behind text made gates =
        record s { left = l; drawn = n; made = made; gates = gates; events = s.events ++ publication v.secrecy v.shape.element text (elements_of v) ∷ [] }

    handed_tells :
        (text : List ℕ) (a : Secrecy) → v.secrecy ≡ a
        → EndsWith (Publishing text v s) s
        (((number_from a own_words >>= λ u. gate (Result ring u) >>= λ _. done (tt {0})) >>= λ _.
        emit (publication v.secrecy v.shape.element text (elements_of v))) (paid l n s))
    handed_tells text (Private (Some k)) e =
        record {
          opened = refl;
          answers = refl;
          events = refl;
          handed = λ j f.
              subst (λ z. Numbered v z s (behind text (s.made + 1) (s.gates ++ Result ring k ∷ [])))
              (same_private (Some k) j (sym e ∙ f))
              (record { before = []; number = k; number_for = (refl, refl); gates = refl });
        }
    handed_tells text (Private None) e =
        record {
          opened = refl;
          answers = refl;
          events = refl;
          handed = λ j f.
              subst (λ z. Numbered v z s (behind text (s.made + 1 + 1) ((s.gates ++ Const own_words ∷ []) ++ Result ring s.made ∷ [])))
              (same_private None j (sym e ∙ f))
              (record {
                before = Const own_words ∷ [];
                number = s.made;
                number_for = (refl, refl);
                gates = append_assoc s.gates (Const own_words ∷ []) (Result ring s.made ∷ []);
              });
        }
    handed_tells text Plain e = record { opened = refl; answers = refl; events = refl; handed = λ j f. absurd (not_private j (sym e ∙ f)) }

  abbrev drawing : Effect (Unit {0})
  drawing = draw w (words_each (gate_size v.shape.element (size v)))

  drawing_pays : Pays drawing
  drawing_pays = pays_draw w (words_each (gate_size v.shape.element (size v)))

  ended : (A : Type 0) (P : Stage → Type 0) (l : ℕ) (n : Words) (e : RunStop) → EndsWith {A = A} P s (Err (e, paid l n s))
  ended A P l n e = same_told s (paid l n s) refl refl refl

  opened_tells : (a : Secrecy) (l : ℕ) (n : Words) → EndsWith (Opening v s) s (opened_from w a v (paid l n s))
  opened_tells Plain l n = was_open (same_told s (paid l n s) refl refl refl)
  opened_tells (Private k) l n =
      paying (λ r. EndsWith (Opening v s) s r) (paid l n s) drawing _ drawing_pays
      (λ l' n' e. ended Value (Opening v s) l' n' e) (λ a l' n'. revealed_tells l' n' v.secrecy)

  declassified_tells : EndsWith (Opening v s) s (declassified w v s)
  declassified_tells =
      paying (λ r. EndsWith (Opening v s) s r) s (charged no_traps (size v)) _ (pays_charged (size v)) (λ l n e. ended Value (Opening v s) l n e)
      (λ a l n. opened_tells v.secrecy l n)

  module _ (text : List ℕ) where
    abbrev telling : Unit {0} → Effect (Unit {0})
    telling _ = emit (publication v.secrecy v.shape.element text (elements_of v))

    given_tells : (a : Secrecy) → v.secrecy ≡ a → (l : ℕ) (n : Words) → EndsWith (Publishing text v s) s (carry (handed_over w a v (paid l n s)) telling)
    given_tells Plain e l n = record { opened = refl; answers = refl; events = refl; handed = λ j f. absurd (not_private j (sym e ∙ f)) }
    given_tells (Private k) e l n =
        paying (λ r. EndsWith (Publishing text v s) s (carry r telling)) (paid l n s) drawing _ drawing_pays
        (λ l' n' e. ended (Unit {0}) (Publishing text v s) l' n' e) (λ a l' n'. handed_tells l' n' text v.secrecy refl)

    published_tells : EndsWith (Publishing text v s) s (published w text v s)
    published_tells =
        paying (λ r. EndsWith (Publishing text v s) s r) s (charged no_traps (size v)) _ (pays_charged (size v))
        (λ l n e. ended (Unit {0}) (Publishing text v s) l n e) (λ a l n. given_tells v.secrecy refl l n)

-- ---- STEPS

module _ (o : Offered) (c : List Function) (m : Machine) (s : Stage) where
  quietly : (i : Option Step) → Quiet false (step (world_of Clear o) c i m) → EndsWith (TellsNothing s) s (step (world_of Clear o) c i m s)
  quietly i h = quiet_ends (step (world_of Clear o) c i m) h s

  back_quiet : (stack : List Caller) (v : Value) → Quiet false (resume stack v)
  back_quiet [] v = quiet_end false ending.Done
  back_quiet (x ∷ xs) v = quiet_done false _

  then_done : {A B : Type 0} {e : Effect A} (to : A → B) → Quiet false e → Quiet false (e >>= λ a. done (to a))
  then_done to h = quiet_bind false h (λ a. quiet_done false (to a))

  step_tells : (i : Step) → EndsWith (ToldBy (Some i) m s) s (step (world_of Clear o) c (Some i) m s)
  step_tells (Literal d e n) = quietly (Some (Literal d e n)) (quiet_done false _)
  step_tells (Move d r) = quietly (Some (Move d r)) (quiet_done false _)
  step_tells (Store d r) = quietly (Some (Store d r)) (then_done _ (untrapped_quiet false (size (m.registers r))))
  step_tells (Binary line op ds d a b) =
      quietly (Some (Binary line op ds d a b)) (then_done _ (operated_quiet false (world_of Clear o) line op ds (m.registers a) (m.registers b)))
  step_tells (Not d r) = quietly (Some (Not d r)) (then_done _ (negated_quiet false (m.registers r)))
  step_tells (Cast k d r) = quietly (Some (Cast k d r)) (then_done _ (cast_quiet false (world_of Clear o) k (m.registers r)))
  step_tells (Classify d r) = quietly (Some (Classify d r)) (then_done _ (classified_quiet false (m.registers r)))
  step_tells (Fill line d n x) = quietly (Some (Fill line d n x)) (then_done _ (filled_quiet false line (m.registers n) (m.registers x)))
  step_tells (At line d a i) = quietly (Some (At line d a i)) (then_done _ (element_quiet false line (m.registers a) (m.registers i)))
  step_tells (Put line a i x) = quietly (Some (Put line a i x)) (then_done _ (with_element_quiet false line (m.registers a) (m.registers i) (m.registers x)))
  step_tells (Size d r) = quietly (Some (Size d r)) (then_done _ (size_quiet false (m.registers r)))
  step_tells (Cat line d a b) = quietly (Some (Cat line d a b)) (then_done _ (concatenated_quiet false line (m.registers a) (m.registers b)))
  step_tells (Sum d r) = quietly (Some (Sum d r)) (then_done _ (summed_quiet false (m.registers r)))
  step_tells (Bits line d r) = quietly (Some (Bits line d r)) (then_done _ (bits_quiet false (world_of Clear o) line (m.registers r)))
  step_tells (Lookup line d a i) =
      quietly (Some (Lookup line d a i)) (then_done _ (looked_up_quiet false (world_of Clear o) line (m.registers a) (m.registers i)))
  step_tells (Declassify d r) =
      ends_then (Opening (m.registers r) s) s _ (declassified (world_of Clear o) (m.registers r) s) (declassified_tells o (m.registers r) s)
  step_tells (Argument line k text d) =
      quietly (Some (Argument line k text d)) (then_done _ (asked_quiet false k.secret (kind_shape k) line (input_named (world_of Clear o) text)))
  step_tells (Publish text r) =
      ends_then (Publishing text (m.registers r) s) s _ (published (world_of Clear o) text (m.registers r) s) (published_tells o (m.registers r) s text)
  step_tells (Assert line r) = quietly (Some (Assert line r)) (then_done _ (asserted_quiet false line (m.registers r)))
  step_tells (Branch r b target) = quietly (Some (Branch r b target)) (then_done _ (tested_quiet false (m.registers r)))
  step_tells (Jump target) = quietly (Some (Jump target)) (quiet_done false _)
  step_tells (Call line g d args) =
      quietly (Some (Call line g d args)) (quiet_bind false (quiet_charge false 1) (λ _.
      quiet_bind false (quiet_test false (nat_lt (length m.stack) limit) trap.Depth line) (λ _.
      quiet_bind false (quiet_charge false (sum (map array_elements (values_at m.registers args)))) (λ _. quiet_done false _))))
  step_tells (Return r) = quietly (Some (Return r)) (back_quiet m.stack (m.registers r))
  step_tells ReturnNone = quietly (Some ReturnNone) (back_quiet m.stack nothing)

  pub told_at : (i : Option Step) → EndsWith (ToldBy i m s) s (step (world_of Clear o) c i m s)
  told_at None = quietly None (quiet_end false ending.Done)
  told_at (Some i) = step_tells i
