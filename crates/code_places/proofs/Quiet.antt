-- Effects that open no words and take no answers, and so never want any.
use Rattle.std.proofs.Common.{◌≡◌, ℕ, ◌+◌, ◌-◌, List, [], ◌∷◌, ◌++◌, Bool, true, false, cond, Ok, Err, refl, ◌∙◌}
use Rattle.std.specs.Prelude.{nat_le}
use Rattle.sc_text.specs.declared.end.Ending.{Ending}
use Rattle.sc_text.specs.declared.end.Ending.TheVariants.{Budget, Tape}
use Rattle.sc_text.specs.declared.end.TrapKind.{TrapKind}
use Rattle.sc_text.specs.declared.end.TapeOwner.{TapeOwner}
use Rattle.sc_text.specs.declared.end.TapeOwner.TheVariants.{Miner1, Miner2, Miner3}
use Rattle.sc_text.specs.declared.event.Event.{Event}
use Rattle.gates.specs.declared.gate.Gate.{Gate}
use Rattle.gates.specs.Counts.{made_by_all}
use Rattle.language_model.specs.Beginnings.{Begins}
use Rattle.language_model.specs.Effects.{Words, World, Stage, Ended, Run, Effect, ◌>>=◌, carry, done, end, charge, test, with_more, fits, drawn_yet}
use Rattle.language_model.specs.Effects.{take_words, draw, gate, next_number, put_gates, planned, emit}
use Rattle.language_model.proofs.Onward.{begins_none, begins_then}
use Rattle.blind_evaluation.specs.Courses.{IsEnded}

-- a later stage with the same opened words and answers, and the same events unless some may have been told
pub record Kept (told : Bool) (s u : Stage) : Type 0 where
  pub opened : u.opened ≡ s.opened
  pub answers : u.answers ≡ s.answers
  pub events : told ≡ false → u.events ≡ s.events
  pub gates : Begins s.gates u.gates

abbrev pub KeptAt : {A : Type 0} → Bool → Stage → Run A → Type 0
KeptAt told s (Ok x) = Kept told s x.1
KeptAt told s (Err e) = IsEnded e.0 × Kept told s e.1

pub record Quiet (told : Bool) {A : Type 0} (m : Effect A) : Type 0 where
  pub from : (s : Stage) → KeptAt told s (m s)

module _ (told : Bool) where
  kept_then : (s t u : Stage) → Kept told s t → Kept told t u → Kept told s u
  kept_then s t u h k =
      record {
        opened = k.opened ∙ h.opened;
        answers = k.answers ∙ h.answers;
        events = λ e. k.events e ∙ h.events e;
        gates = begins_then s.gates t.gates u.gates h.gates k.gates;
      }

  -- of the budget or of the tapes something is taken
  kept_same : (s u : Stage) → u.opened ≡ s.opened → u.answers ≡ s.answers → u.events ≡ s.events → Begins s.gates u.gates → Kept told s u
  kept_same s u o a e g = record { opened = o; answers = a; events = λ _. e; gates = g }

  kept_none : (s : Stage) → Kept told s s
  kept_none s = kept_same s s refl refl refl (begins_none s.gates s.gates refl)

  behind : {B : Type 0} (s t : Stage) (r : Run B) → Kept told s t → KeptAt told t r → KeptAt told s r
  behind s t (Ok y) h k = kept_then s t y.1 h k
  behind s t (Err e) h k = (k.0, kept_then s t e.1 h k.1)

  pub quiet_bind : {A B : Type 0} {m : Effect A} {f : A → Effect B} → Quiet told m → ((a : A) → Quiet told (f a)) → Quiet told (m >>= f)
  quiet_bind {A = A} {B = B} {m = m} {f = f} h k = record { from = λ s. go s (m s) (h.from s) }
    where
      go : (s : Stage) (r : Run A) → KeptAt told s r → KeptAt told s (carry r f)
      go s (Ok x) g = behind s x.1 (f x.0 x.1) g ((k x.0).from x.1)
      go s (Err e) g = g

  pub quiet_done : {A : Type 0} (a : A) → Quiet told (done a)
  quiet_done a = record { from = kept_none }

  pub quiet_end : {A : Type 0} (e : Ending) → Quiet told (end {A = A} e)
  quiet_end e = record { from = λ s. (tt, kept_none s) }

  kept_if : {A : Type 0} (s : Stage) (c : Bool) (x y : Run A) → KeptAt told s x → KeptAt told s y → KeptAt told s (cond c x y)
  kept_if s true x y h k = h
  kept_if s false x y h k = k

  pub quiet_charge : (n : ℕ) → Quiet told (charge n)
  quiet_charge n =
      record {
        from = λ s. kept_if s (nat_le n s.left) (Ok (tt, record s { left = s.left - n })) (Err (Ended Budget, s))
            (kept_same s (record s { left = s.left - n }) refl refl refl (begins_none s.gates s.gates refl)) (tt, kept_none s);
      }

  pub quiet_test : (b : Bool) (kind : TrapKind) (line : ℕ) → Quiet told (test b kind line)
  quiet_test true kind line = record { from = kept_none }
  quiet_test false kind line = record { from = λ s. (tt, kept_none s) }

  quiet_fits : (owner : TapeOwner) (need have : ℕ) → Quiet told (fits owner need have)
  quiet_fits owner need have =
      record { from = λ s. kept_if s (nat_le need have) (Ok (tt, s)) (Err (Ended (Tape owner need have), s)) (kept_none s) (tt, kept_none s) }

  quiet_taken : (n : Words) → Quiet told (take_words n)
  quiet_taken n =
      record { from = λ s. kept_same s (record s { drawn = with_more s.drawn n }) refl refl refl (begins_none s.gates s.gates refl) }

  pub quiet_draw : (w : World) (n : Words) → Quiet told (draw w n)
  quiet_draw w n =
      quiet_bind {m = drawn_yet} (record { from = kept_none }) (λ d.
      quiet_bind (quiet_fits Miner1 (d.first + n.first) w.lengths.first) (λ _.
      quiet_bind (quiet_fits Miner2 (d.second + n.second) w.lengths.second) (λ _.
      quiet_bind (quiet_fits Miner3 (d.third + n.third) w.lengths.third) (λ _. quiet_taken n))))

  pub quiet_gate : (g : Gate) → Quiet told (gate g)
  quiet_gate g =
      record { from = λ s. kept_same s (record s { made = s.made + 1; gates = s.gates ++ g ∷ [] }) refl refl refl (g ∷ [], refl) }

  pub quiet_number : Quiet told next_number
  quiet_number = record { from = kept_none }

  quiet_put : (gs : List Gate) → Quiet told (put_gates gs)
  quiet_put gs =
      record { from = λ s. kept_same s (record s { made = s.made + made_by_all gs; gates = s.gates ++ gs }) refl refl refl (gs, refl) }

  pub quiet_planned : (plan : ℕ → List Gate) → Quiet told (planned plan)
  quiet_planned plan = quiet_bind quiet_number (λ first. quiet_put (plan first))

-- what is told is told
pub quiet_emit : (e : Event) → Quiet true (emit e)
quiet_emit e = record {
  from = λ s. record { opened = refl; answers = refl; events = λ t. absurd (cc); gates = begins_none s.gates s.gates refl };
}
