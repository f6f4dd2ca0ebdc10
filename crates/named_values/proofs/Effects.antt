-- Effects whose gates take values of these numbers alone: one after another, those that make no gates, and those that make some.
use Rattle.std.proofs.Common.{◌≡◌, ℕ, ◌+◌, ◌-◌, ◌≤◌, List, [], ◌∷◌, ◌++◌, length, take, drop, Ok, Err, Bool, true, false, cond, refl, sym, ap, ◌∙◌, arith}
use Rattle.std.proofs.Common.{append_assoc, append-nil}
use Rattle.std.specs.Prelude.{nat_le}
use Rattle.sc_text.specs.declared.end.Ending.{Ending}
use Rattle.sc_text.specs.declared.end.Ending.TheVariants.{Budget, Tape}
use Rattle.sc_text.specs.declared.end.TrapKind.{TrapKind}
use Rattle.sc_text.specs.declared.end.TapeOwner.{TapeOwner}
use Rattle.sc_text.specs.declared.end.TapeOwner.TheVariants as owner
use Rattle.sc_text.specs.declared.event.Event.{Event}
use Rattle.gates.specs.declared.gate.Gate.{Gate}
use Rattle.gates.specs.Counts.{made_by, made_by_all}
use Rattle.language_model.specs.Effects.{Words, World, Source, Clear, Answers, Stage, Ended, Short, Run, Effect, ◌>>=◌, carry, done, end, charge, test}
use Rattle.language_model.specs.Effects.{with_more, fits, drawn_yet, take_words, draw, gate, next_number, planned, emit, answer, show}
use Rattle.named_values.specs.Named.{Numbers, Takes, AllTake}
use Rattle.named_values.specs.Laws.{Grows}

-- all numbers from this one on are among them
abbrev pub HasFrom : Numbers → ℕ → Type 0
HasFrom N first = (k : ℕ) → first ≤ k → N k

-- what a run comes to: a later stage, and what is sure of the value that it gives
abbrev pub Comes : {A : Type 0} → Numbers → Stage → Run A → (A → Type 0) → Type 0
Comes N s (Ok x) Sure = Grows N s x.1 × Sure x.0
Comes N s (Err e) Sure = Grows N s e.1

-- an effect whose gates take values of these numbers, from any stage whose further values are among them
pub record Naming {A : Type 0} (N : Numbers) (c : Effect A) (Sure : A → Type 0) : Type 0 where
  pub from : (s : Stage) → HasFrom N s.made → Comes N s (c s) Sure

abbrev pub Any : {A : Type 0} → A → Type 0
Any a = Unit {0}

-- ---- later stages

pub all_take : (N : Numbers) (xs ys : List Gate) → AllTake N xs → AllTake N ys → AllTake N (xs ++ ys)
all_take N [] ys h k = k
all_take N (x ∷ xs) ys h k = (h.0, all_take N xs ys h.1 k)

made_both : (xs ys : List Gate) → made_by_all (xs ++ ys) ≡ made_by_all xs + made_by_all ys
made_both [] ys = omega arith
made_both (x ∷ xs) ys = let e = made_both xs ys in omega (arith, e)

pub grows_then : (N : Numbers) (s t u : Stage) → Grows N s t → Grows N t u → Grows N s u
grows_then N s t u g h =
    record {
      gates = g.gates ++ h.gates;
      more = h.more ∙ ap (λ z. z ++ h.gates) g.more ∙ append_assoc s.gates g.gates h.gates;
      made = let e = made_both g.gates h.gates in omega (arith, e, g.made, h.made);
      take = all_take N g.gates h.gates g.take h.take;
    }

stays : (N : Numbers) (s u : Stage) → u.gates ≡ s.gates → u.made ≡ s.made → Grows N s u
stays N s u e f = record { gates = []; more = e ∙ sym (append-nil s.gates); made = omega (arith, f); take = tt }

-- ---- one effect after another

pub naming_bind :
    {N : Numbers} {A B : Type 0} {c : Effect A} {f : A → Effect B} {P : A → Type 0} {S : B → Type 0} → Naming N c P
    → ((a : A) → P a → Naming N (f a) S) → Naming N (c >>= f) S
naming_bind {N = N} {A = A} {B = B} {c = c} {f = f} {P = P} {S = S} h k = record { from = λ s new. go s new (c s) (h.from s new) }
  where
    behind : (s t : Stage) → Grows N s t → (r : Run B) → Comes N t r S → Comes N s r S
    behind s t g (Ok y) n = (grows_then N s t y.1 g n.0, n.1)
    behind s t g (Err e) n = grows_then N s t e.1 g n

    go : (s : Stage) → HasFrom N s.made → (r : Run A) → Comes N s r P → Comes N s (carry r f) S
    go s new (Ok x) m =
        behind s x.1 m.0 (f x.0 x.1) ((k x.0 m.1).from x.1 (λ n le. let e = m.0.made in new n (omega (arith, e, le))))
    go s new (Err e) m = m

pub naming_done : {N : Numbers} {A : Type 0} {a : A} {S : A → Type 0} → S a → Naming N (done a) S
naming_done sure = record { from = λ s new. (stays _ s s refl refl, sure) }

pub naming_end : {N : Numbers} {A : Type 0} {S : A → Type 0} (e : Ending) → Naming N (end {A = A} e) S
naming_end e = record { from = λ s new. stays _ s s refl refl }

-- ---- what makes no gate

pub charge_naming : {N : Numbers} (n : ℕ) → Naming N (charge n) (Any {A = Unit {0}})
charge_naming {N = N} n = record { from = λ s new. go s (nat_le n s.left) }
  where
    go : (s : Stage) → (b : Bool) → Comes N s (cond b (Ok (tt {0}, record s { left = s.left - n })) (Err (Ended Budget, s))) (Any {A = Unit {0}})
    go s true = (stays N s (record s { left = s.left - n }) refl refl, tt)
    go s false = stays N s s refl refl

pub test_naming : {N : Numbers} (b : Bool) (kind : TrapKind) (line : ℕ) → Naming N (test b kind line) (Any {A = Unit {0}})
test_naming {N = N} true kind line = record { from = λ s new. (stays N s s refl refl, tt) }
test_naming {N = N} false kind line = record { from = λ s new. stays N s s refl refl }

pub draw_naming : {N : Numbers} (w : World) (n : Words) → Naming N (draw w n) (Any {A = Unit {0}})
draw_naming {N = N} w n =
    naming_bind yet (λ v _. naming_bind (enough owner.Miner1 (v.first + n.first) w.lengths.first) (λ _ _.
    naming_bind (enough owner.Miner2 (v.second + n.second) w.lengths.second) (λ _ _.
    naming_bind (enough owner.Miner3 (v.third + n.third) w.lengths.third) (λ _ _. took))))
  where
    yet : Naming N drawn_yet (Any {A = Words})
    yet = record { from = λ s new. (stays N s s refl refl, tt) }

    enough : (o : TapeOwner) (need have : ℕ) → Naming N (fits o need have) (Any {A = Unit {0}})
    enough o need have = record { from = λ s new. go s (nat_le need have) }
      where
        go : (s : Stage) → (b : Bool) → Comes N s (cond b (Ok (tt {0}, s)) (Err (Ended (Tape o need have), s))) (Any {A = Unit {0}})
        go s true = (stays N s s refl refl, tt)
        go s false = stays N s s refl refl

    took : Naming N (take_words n) (Any {A = Unit {0}})
    took = record { from = λ s new. (stays N s (record s { drawn = with_more s.drawn n }) refl refl, tt) }

-- ---- gates

pub gate_naming : {N : Numbers} (g : Gate) → made_by g ≡ 1 → Takes N g → Naming N (gate g) N
gate_naming {N = N} g one take =
    record {
      from = λ s new. (
        record { gates = g ∷ []; more = refl; made = omega (arith, one); take = (take, tt) },
        new s.made (omega arith),
      );
    }

pub next_naming : {N : Numbers} → Naming N next_number N
next_naming {N = N} = record { from = λ s new. (stays N s s refl refl, new s.made (omega arith)) }

-- a plan that makes a value or more
pub planned_naming :
    {N : Numbers} (plan : ℕ → List Gate) → ((first : ℕ) → 1 ≤ made_by_all (plan first)) → ((first : ℕ) → HasFrom N first → AllTake N (plan first))
    → Naming N (planned plan) N
planned_naming {N = N} plan some take =
    record {
      from = λ s new. (
        record { gates = plan s.made; more = refl; made = refl; take = take s.made new },
        let e = some s.made in new (s.made + made_by_all (plan s.made) - 1) (omega (arith, e)),
      );
    }

-- ---- what is told

pub emit_naming : {N : Numbers} (e : Event) → Naming N (emit e) (Any {A = Unit {0}})
emit_naming {N = N} e = record { from = λ s new. (stays N s (record s { events = s.events ++ e ∷ [] }) refl refl, tt) }

pub answer_naming : {N : Numbers} (source : Source) (words : List ℕ) → Naming N (answer source words) (Any {A = List ℕ})
answer_naming {N = N} Clear words = naming_done tt
answer_naming {N = N} Answers words = record { from = λ s new. go s (nat_le (length words) (length s.answers)) }
  where
    go : (s : Stage) → (b : Bool)
        → Comes N s (cond b (Ok (take (length words) s.answers, record s { answers = drop (length words) s.answers })) (Err (Short, s))) (Any {A = List ℕ})
    go s true = (stays N s (record s { answers = drop (length words) s.answers }) refl refl, tt)
    go s false = stays N s s refl refl

pub show_naming : {N : Numbers} (words : List ℕ) → Naming N (show words) (Any {A = Unit {0}})
show_naming {N = N} words = record { from = λ s new. (stays N s (record s { opened = s.opened ++ words }) refl refl, tt) }
