-- Effects that do the same, whatever gates were made before.
use Rattle.std.proofs.Common.{◌≡◌, ℕ, ◌+◌, ◌-◌, List, [], ◌∷◌, ◌++◌, Bool, true, false, cond, Ok, Err, refl, sym, ◌∙◌, ap}
use Rattle.std.proofs.lemmas.List.{append_assoc, append-nil}
use Rattle.std.specs.Prelude.{nat_le, length, take, drop}
use Rattle.sc_text.specs.declared.end.Ending.{Ending}
use Rattle.sc_text.specs.declared.end.Ending.TheVariants.{Budget, Tape}
use Rattle.sc_text.specs.declared.end.TrapKind.{TrapKind}
use Rattle.sc_text.specs.declared.end.TapeOwner.{TapeOwner}
use Rattle.sc_text.specs.declared.end.TapeOwner.TheVariants.{Miner1, Miner2, Miner3}
use Rattle.sc_text.specs.declared.event.Event.{Event}
use Rattle.gates.specs.declared.gate.Gate.{Gate}
use Rattle.language_model.specs.Effects.{Words, World, Source, Clear, Answers, Stage, Ended, Short, Run, Effect, ◌>>=◌, carry, done, end, charge, test}
use Rattle.language_model.specs.Effects.{fits, drawn_yet, take_words, draw, gate, next_number, put_gates, planned, emit, answer, show}
use Rattle.language_model.proofs.Onward.{stage_of}
use Rattle.named_values.specs.Besides.{with_gates}

-- what a run has come to, with these gates
abbrev pub ran_with_gates : {A : Type 0} → List Gate → Run A → Run A
ran_with_gates gates (Ok x) = Ok (x.0, with_gates gates x.1)
ran_with_gates gates (Err e) = Err (e.0, with_gates gates e.1)

-- a run from s has made further gates, and the other one, from s with these gates before, has made the same and is the same otherwise
pub record Beside {A : Type 0} (before : List Gate) (s : Stage) (r other : Run A) : Type 0 where
  pub more : List Gate
  pub gates : (stage_of r).gates ≡ s.gates ++ more
  pub same : other ≡ ran_with_gates (before ++ more) r

pub record Besides {A : Type 0} (m : Effect A) : Type 0 where
  pub from : (before : List Gate) (s : Stage) → Beside before s (m s) (m (with_gates before s))

-- no gate was made
none_made :
    {A : Type 0} (before : List Gate) (s : Stage) (r other : Run A) →
    (stage_of r).gates ≡ s.gates → other ≡ ran_with_gates before r → Beside before s r other
none_made before s r other g e =
    record {
      more = [];
      gates = g ∙ sym (append-nil s.gates);
      same = e ∙ ap (λ v. ran_with_gates v r) (sym (append-nil before));
    }

pub besides_bind : {A B : Type 0} {m : Effect A} {f : A → Effect B} → Besides m → ((a : A) → Besides (f a)) → Besides (m >>= f)
besides_bind {A = A} {B = B} {m = m} {f = f} h k =
    record { from = λ before s. go before s (m s) (m (with_gates before s)) (h.from before s) }
  where
    go : (before : List Gate) (s : Stage) (r other : Run A) → Beside before s r other → Beside before s (carry r f) (carry other f)
    go before s (Ok x) other g =
        let next = (k x.0).from (before ++ g.more) x.1 in
        record {
          more = g.more ++ next.more;
          gates = next.gates ∙ ap (λ v. v ++ next.more) g.gates ∙ append_assoc s.gates g.more next.more;
          same =
              ap (λ r. carry r f) g.same ∙ next.same
              ∙ ap (λ v. ran_with_gates v (f x.0 x.1)) (append_assoc before g.more next.more);
        }
    go before s (Err e) other g = record { more = g.more; gates = g.gates; same = ap (λ r. carry r f) g.same }

pub besides_done : {A : Type 0} (a : A) → Besides (done a)
besides_done a = record { from = λ before s. none_made before s (Ok (a, s)) (Ok (a, with_gates before s)) refl refl }

pub besides_end : {A : Type 0} (e : Ending) → Besides (end {A = A} e)
besides_end e = record { from = λ before s. none_made before s (Err (Ended e, s)) (Err (Ended e, with_gates before s)) refl refl }

beside_if :
    {A : Type 0} (before : List Gate) (s : Stage) (c : Bool) (x y other_x other_y : Run A) →
    Beside before s x other_x → Beside before s y other_y → Beside before s (cond c x y) (cond c other_x other_y)
beside_if before s true x y other_x other_y h k = h
beside_if before s false x y other_x other_y h k = k

pub besides_charge : (n : ℕ) → Besides (charge n)
besides_charge n =
    record {
      from = λ before s. beside_if before s (nat_le n s.left) _ _ _ _
          (none_made before s (Ok (tt, record s { left = s.left - n })) _ refl refl) (none_made before s (Err (Ended Budget, s)) _ refl refl);
    }

pub besides_test : (b : Bool) (kind : TrapKind) (line : ℕ) → Besides (test b kind line)
besides_test true kind line = record { from = λ before s. none_made before s (test true kind line s) _ refl refl }
besides_test false kind line = record { from = λ before s. none_made before s (test false kind line s) _ refl refl }

besides_fits : (owner : TapeOwner) (need have : ℕ) → Besides (fits owner need have)
besides_fits owner need have =
    record {
      from = λ before s. beside_if before s (nat_le need have) _ _ _ _
          (none_made before s (Ok (tt, s)) _ refl refl) (none_made before s (Err (Ended (Tape owner need have), s)) _ refl refl);
    }

besides_taken : (n : Words) → Besides (take_words n)
besides_taken n = record { from = λ before s. none_made before s (take_words n s) _ refl refl }

pub besides_draw : (w : World) (n : Words) → Besides (draw w n)
besides_draw w n =
    besides_bind {m = drawn_yet} (record { from = λ before s. none_made before s (drawn_yet s) _ refl refl }) (λ d.
    besides_bind (besides_fits Miner1 (d.first + n.first) w.lengths.first) (λ _.
    besides_bind (besides_fits Miner2 (d.second + n.second) w.lengths.second) (λ _.
    besides_bind (besides_fits Miner3 (d.third + n.third) w.lengths.third) (λ _. besides_taken n))))

pub besides_gate : (g : Gate) → Besides (gate g)
besides_gate g = record { from = λ before s. record { more = g ∷ []; gates = refl; same = refl } }

pub besides_number : Besides next_number
besides_number = record { from = λ before s. none_made before s (next_number s) _ refl refl }

besides_put : (gs : List Gate) → Besides (put_gates gs)
besides_put gs = record { from = λ before s. record { more = gs; gates = refl; same = refl } }

pub besides_planned : (plan : ℕ → List Gate) → Besides (planned plan)
besides_planned plan = besides_bind besides_number (λ first. besides_put (plan first))

-- ---- what is told and opened

pub besides_emit : (e : Event) → Besides (emit e)
besides_emit e = record { from = λ before s. none_made before s (emit e s) _ refl refl }

pub besides_show : (words : List ℕ) → Besides (show words)
besides_show words = record { from = λ before s. none_made before s (show words s) _ refl refl }

pub besides_answer : (source : Source) (words : List ℕ) → Besides (answer source words)
besides_answer Clear words = besides_done words
besides_answer Answers words =
    record {
      from = λ before s. beside_if before s (nat_le (length words) (length s.answers)) _ _ _ _
          (none_made before s (Ok (take (length words) s.answers, record s { answers = drop (length words) s.answers })) _ refl refl)
          (none_made before s (Err (Short, s)) _ refl refl);
    }
