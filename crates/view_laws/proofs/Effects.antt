-- Effects of which each end can be written, from stages within the budget and the tapes.
use Rattle.std.proofs.Common.{◌≡◌, ℕ, ◌+◌, ◌-◌, ◌<◌, ◌≤◌, ◌^◌, List, Ok, Err, Bool, true, false, cond, refl, arith}
use Rattle.std.specs.Prelude.{nat_le, length, take, drop}
use Rattle.std.proofs.lemmas.Bool.{leb-true}
use Rattle.sc_text.specs.declared.end.Ending.{Ending}
use Rattle.sc_text.specs.declared.end.Ending.TheVariants.{Budget, Tape}
use Rattle.sc_text.specs.declared.end.TrapKind.{TrapKind}
use Rattle.sc_text.specs.declared.end.TapeOwner.{TapeOwner}
use Rattle.sc_text.specs.declared.end.TapeOwner.TheVariants.{Miner1, Miner2, Miner3}
use Rattle.sc_text.specs.declared.event.Event.{Event}
use Rattle.gates.specs.declared.gate.Gate.{Gate}
use Rattle.language_model.specs.Effects.{Words, World, Stage, Ended, Short, Run, Effect, ◌>>=◌, carry, done, end, charge, test, fits}
use Rattle.language_model.specs.Effects.{draw, gate, next_number, put_gates, emit, next_answers, show}
use Rattle.language_model.specs.Operations.{charged, no_traps}
use Rattle.language_model.specs.Tapes.{AtMost}
use Rattle.view_text.specs.View.{IsEnding}
use Rattle.view_laws.specs.Ends.{HasRoom, CanBeWritten}

-- of each miner so few words that they and those that it has drawn are fewer than 2^128
pub record AreFew (n : Words) : Type 0 where
  pub first : n.first < 2 ^ 127
  pub second : n.second < 2 ^ 127
  pub third : n.third < 2 ^ 127

module _ (w : World) (budget : ℕ) (room : HasRoom w budget) where
  pub record IsWithin (s : Stage) : Type 0 where
    pub left : s.left ≤ budget
    pub drawn : AtMost s.drawn w.lengths

  abbrev pub Comes : {A : Type 0} → Run A → Type 0
  Comes (Ok x) = IsWithin x.1
  Comes (Err e) = CanBeWritten e.0

  pub record Ends {A : Type 0} (m : Effect A) : Type 0 where
    pub from : (s : Stage) → IsWithin s → Comes (m s)

  -- ---- one after another

  pub bind : {A B : Type 0} {m : Effect A} {f : A → Effect B} → Ends m → ((a : A) → Ends (f a)) → Ends (m >>= f)
  bind {A = A} {m = m} {f = f} h k = record { from = λ s within. go (m s) (h.from s within) }
    where
      go : (r : Run A) → Comes r → Comes (carry r f)
      go (Ok x) c = (k x.0).from x.1 c
      go (Err e) c = c

  regrouped : {A B C : Type 0} (m : Effect A) (f : A → Effect B) (g : B → Effect C) → Ends (m >>= λ x. f x >>= g) → Ends ((m >>= f) >>= g)
  regrouped {A = A} m f g h = record { from = λ s within. go (m s) (h.from s within) }
    where
      go : (r : Run A) → Comes (carry r (λ x. f x >>= g)) → Comes (carry (carry r f) g)
      go (Ok x) c = c
      go (Err e) c = c

  pub on_done : {A : Type 0} (a : A) → Ends (done a)
  on_done a = record { from = λ s within. within }

  pub on_end : {A : Type 0} (e : Ending) → IsEnding e → Ends (end {A = A} e)
  on_end e h = record { from = λ s within. h }

  -- ---- the budget

  -- what is charged is within the budget
  pub charge_then : {B : Type 0} (n : ℕ) (f : Unit {0} → Effect B) → (n ≤ budget → Ends (f tt)) → Ends (charge n >>= f)
  charge_then n f k = record { from = λ s within. go s within (nat_le n s.left) refl }
    where
      go : (s : Stage) → IsWithin s → (b : Bool) → nat_le n s.left ≡ b
          → Comes (carry (cond b (Ok (tt {0}, record s { left = s.left - n })) (Err (Ended Budget, s))) f)
      go s within true e =
          let le = leb-true n s.left e in
          let left = within.left in
          (k (omega (arith, le, left))).from (record s { left = s.left - n }) (record { left = omega (arith, left); drawn = within.drawn })
      go s within false e = tt

  pub on_charge : (n : ℕ) → Ends (charge n)
  on_charge n = record { from = λ s within. go s within (nat_le n s.left) }
    where
      go : (s : Stage) → IsWithin s → (b : Bool) → Comes (cond b (Ok (tt {0}, record s { left = s.left - n })) (Err (Ended Budget, s)))
      go s within true = let left = within.left in record { left = omega (arith, left); drawn = within.drawn }
      go s within false = tt

  pub on_test : (b : Bool) (kind : TrapKind) (line : ℕ) → line < 2 ^ 32 → Ends (test b kind line)
  on_test true kind line h = record { from = λ s within. within }
  on_test false kind line h = record { from = λ s within. h }

  -- a charged operation has a result of no more elements than the budget, and one
  pub charged_then : {B : Type 0} (t : Effect (Unit {0})) (n : ℕ) (f : Unit {0} → Effect B) → Ends t → (n ≤ 2 ^ 64 → Ends (f tt)) → Ends (charged t n >>= f)
  charged_then t n f h k =
      let steps = room.steps in
      regrouped (charge 1) (λ _. t >>= λ _. charge (n - 1)) f
      (bind (on_charge 1) (λ _. regrouped t (λ _. charge (n - 1)) f (bind h (λ _. charge_then (n - 1) f (λ le. k (omega (arith, le, steps)))))))

  pub untrapped_ends : (n : ℕ) → Ends (charged no_traps n)
  untrapped_ends n = bind (on_charge 1) (λ _. bind (on_done (tt {0})) (λ _. on_charge (n - 1)))

  -- ---- the tapes

  fits_then : {B : Type 0} (owner : TapeOwner) (need have : ℕ) (f : Unit {0} → Effect B) (s : Stage) → need < 2 ^ 128 → have < 2 ^ 64
      → (need ≤ have → Comes (f tt s)) → Comes (carry (fits owner need have s) f)
  fits_then owner need have f s few small k = go (nat_le need have) refl
    where
      go : (b : Bool) → nat_le need have ≡ b → Comes (carry (cond b (Ok (tt {0}, s)) (Err (Ended (Tape owner need have), s))) f)
      go true e = k (leb-true need have e)
      go false e = (few, small)

  pub on_draw : (n : Words) → AreFew n → Ends (draw w n)
  on_draw n few =
      record {
        from = λ s within.
            fits_then Miner1 (s.drawn.first + n.first) w.lengths.first _ s (one s within) room.first
            (λ a. fits_then Miner2 (s.drawn.second + n.second) w.lengths.second _ s (two s within) room.second
            (λ b. fits_then Miner3 (s.drawn.third + n.third) w.lengths.third _ s (three s within) room.third
            (λ c. record { left = within.left; drawn = (a, b, c) })));
      }
    where
      one : (s : Stage) → IsWithin s → s.drawn.first + n.first < 2 ^ 128
      one s within = let drawn = within.drawn.0 in let there = room.first in let more = few.first in omega (arith, drawn, there, more)

      two : (s : Stage) → IsWithin s → s.drawn.second + n.second < 2 ^ 128
      two s within = let drawn = within.drawn.1 in let there = room.second in let more = few.second in omega (arith, drawn, there, more)

      three : (s : Stage) → IsWithin s → s.drawn.third + n.third < 2 ^ 128
      three s within = let drawn = within.drawn.2 in let there = room.third in let more = few.third in omega (arith, drawn, there, more)

  -- ---- what ends nothing

  pub on_gate : (g : Gate) → Ends (gate g)
  on_gate g = record { from = λ s within. record { left = within.left; drawn = within.drawn } }

  pub on_number : Ends next_number
  on_number = record { from = λ s within. within }

  pub on_gates : (gs : List Gate) → Ends (put_gates gs)
  on_gates gs = record { from = λ s within. record { left = within.left; drawn = within.drawn } }

  pub on_emit : (e : Event) → Ends (emit e)
  on_emit e = record { from = λ s within. record { left = within.left; drawn = within.drawn } }

  pub on_show : (words : List ℕ) → Ends (show words)
  on_show words = record { from = λ s within. record { left = within.left; drawn = within.drawn } }

  pub on_answers : (n : ℕ) → Ends (next_answers n)
  on_answers n = record { from = λ s within. go s within (nat_le n (length s.answers)) }
    where
      go : (s : Stage) → IsWithin s → (b : Bool) → Comes (cond b (Ok (take n s.answers, record s { answers = drop n s.answers })) (Err (Short, s)))
      go s within true = record { left = within.left; drawn = within.drawn }
      go s within false = tt
