-- What an opening in the clear opens: elements, and the words of them that its gate opens.
use Rattle.std.proofs.Common.{◌≡◌, ◌≢◌, ◌⊎◌, inl, inr, ℕ, zero, suc, ◌+◌, ◌/◌, ◌%◌, List, [], ◌∷◌, ◌++◌, length, map, Ok, Err, Option, Some, false}
use Rattle.std.proofs.Common.{refl, sym, ap, ◌∙◌, subst, arith}
use Rattle.std.proofs.lemmas.List.{length-map}
use Rattle.std.proofs.lemmas.Nat.{mod_below}
use Rattle.sc_text.specs.declared.event.Event.{Event}
use Rattle.sc_text.specs.declared.event.Event.TheVariants as event
use Rattle.program_trees.specs.declared.expression.DataType.{DataType}
use Rattle.program_trees.specs.declared.expression.DataType.TheVariants.{Uint64, Int64}
use Rattle.program_trees.specs.declared.expression.DataType.TheVariants as datatype
use Rattle.gates.specs.declared.gate.Gate.TheVariants.{Open}
use Rattle.gates.specs.Bits.{words_for}
use Rattle.gates.specs.Gathered.{packed, unpacked}
use Rattle.gates.proofs.Packing.{length-packed, unpacked-packed}
use Rattle.language_model.specs.Effects.{World, Clear, Stage, Run, Effect, ◌>>=◌, carry, done, words_each}
use Rattle.language_model.specs.Values.{Secrecy, Plain, Private, Value, size, ring_for, gate_words, gate_size, element_of}
use Rattle.language_model.specs.Operations.{read_answer, revealed, opened_from, declassified}
use Rattle.language_model.specs.Learned.{learned_of}
use Rattle.language_model.specs.Reports.{Offered}
use Rattle.verified_code.specs.Steps.{Step, Declassify}
use Rattle.gate_laws.specs.Machine.{Machine}
use Rattle.gate_laws.specs.Dealt.{InRange}
use Rattle.gate_laws.proofs.GateWords.{learned_opened, learned_numbers, learned_signed}
use Rattle.gate_laws.proofs.Ranges.{Below, below_cons}
use Rattle.blind_evaluation.proofs.Rows.{clear}
use Rattle.code_places.specs.Places.{answers_told, elements_opened}
use Rattle.code_places.proofs.Quiet.{Kept, KeptAt, Quiet, quiet_draw, quiet_gate}
use Rattle.code_places.proofs.QuietRows.{untrapped_quiet, number_quiet}

-- an opening of n elements
pub record OpensAs (e : DataType) (n : ℕ) (s t : Stage) : Type 0 where
  pub words : List ℕ
  pub opened : t.opened ≡ s.opened ++ read_answer e words
  pub learned : learned_of t.events ≡ learned_of s.events ++ gate_words e (read_answer e words)
  pub many : length words ≡ n

abbrev pub IsOpened : {A : Type 0} → DataType → ℕ → Stage → Run A → Type 0
IsOpened e n s (Ok x) = (x.1.opened ≡ s.opened) ⊎ OpensAs e n s x.1
IsOpened e n s (Err f) = Unit {0}

pub record Opening (e : DataType) (n : ℕ) {A : Type 0} (c : Effect A) : Type 0 where
  pub from : (s : Stage) → IsOpened e n s (c s)

pub opening_behind : {A B : Type 0} {e : DataType} {n : ℕ} {c : Effect A} {f : A → Effect B} → Quiet false c → ((a : A) → Opening e n (f a))
    → Opening e n (c >>= f)
opening_behind {A = A} {B = B} {e = e} {n = n} {c = c} {f = f} q k = record { from = λ s. go s (c s) (q.from s) }
  where
    later : (s t : Stage) (r : Run B) → Kept false s t → IsOpened e n t r → IsOpened e n s r
    later s t (Ok x) h (inl o) = inl (o ∙ h.opened)
    later s t (Ok x) h (inr o) =
        inr (record {
          words = o.words;
          opened = o.opened ∙ ap (λ z. z ++ read_answer e o.words) h.opened;
          learned = o.learned ∙ ap (λ z. learned_of z ++ gate_words e (read_answer e o.words)) (h.events refl);
          many = o.many;
        })
    later s t (Err f) h o = tt

    go : (s : Stage) (r : Run A) → KeptAt false s r → IsOpened e n s (carry r f)
    go s (Ok x) h = later s x.1 (f x.0 x.1) h ((k x.0).from x.1)
    go s (Err f) h = tt

pub opening_then : {A B : Type 0} {e : DataType} {n : ℕ} {c : Effect A} (g : A → B) → Opening e n c → Opening e n (c >>= λ a. done (g a))
opening_then {A = A} {e = e} {n = n} {c = c} g h = record { from = λ s. go s (c s) (h.from s) }
  where
    go : (s : Stage) (r : Run A) → IsOpened e n s r → IsOpened e n s (carry r (λ a. done (g a)))
    go s (Ok x) o = o
    go s (Err f) o = tt

low : (xs : List ℕ) → Below 2 (map (λ x. x % 2) xs)
low [] = λ k. omega arith
low (x ∷ xs) = below_cons 2 (x % 2) (map (λ x. x % 2) xs) (mod_below x 2 (omega arith)) (low xs)

pub read_length : (e : DataType) (words : List ℕ) → length (read_answer e words) ≡ length words
read_length Uint64 words = refl
read_length Int64 words = refl
read_length datatype.Bool words = length-map words (λ x. x % 2)

-- what is told of elements that were read is the words that the gates have opened
pub learned_read : (events : List Event) (e : DataType) (words : List ℕ)
    → learned_of (events ++ event.Open (map (element_of e) (read_answer e words)) ∷ []) ≡ learned_of events ++ gate_words e (read_answer e words)
learned_read events Uint64 words = learned_numbers events words
learned_read events Int64 words = learned_signed events words
learned_read events datatype.Bool words = learned_opened events datatype.Bool (read_answer datatype.Bool words) (low words)

module _ (o : Offered) (v : Value) where
  abbrev e : DataType
  e = v.shape.element

  revealed_opens : Opening e (size v) (revealed (clear o) v)
  revealed_opens =
      record {
        from = λ s. inr (record {
          words = v.words;
          opened = refl;
          learned = learned_read s.events e v.words;
          many = refl;
        });
      }

  opened_opens : (x : Secrecy) → Opening e (size v) (opened_from (clear o) x v)
  opened_opens Plain = record { from = λ s. inl refl }
  opened_opens (Private k) =
      opening_behind (quiet_draw false (clear o) (words_each (gate_size e (size v)))) (λ _. opening_behind (number_quiet false v) (λ u.
      opening_behind (quiet_gate false (Open (ring_for e) u)) (λ _. revealed_opens)))

  pub declassified_opens : Opening e (size v) (declassified (clear o) v)
  declassified_opens = opening_behind (untrapped_quiet false (size v)) (λ _. opened_opens v.secrecy)

-- ---- told the words, a step has the elements again

abbrev Told : DataType → List ℕ → ℕ → Machine → ℕ → Type 0
Told e words n m r = ((m.registers r).shape.element ≡ e) × (length (m.registers r).words ≡ n)

pub told_again : (e : DataType) (words : List ℕ) (n : ℕ) (m : Machine) (d r : ℕ) (o : Option Step) → o ≡ Some (Declassify d r)
    → (m.registers r).shape.element ≡ e → length (m.registers r).words ≡ n → length words ≡ n
    → answers_told (gate_words e (read_answer e words)) o m ≡ read_answer e words
told_again e words n m d r o is element size many =
    ap (λ o. answers_told (gate_words e (read_answer e words)) o m) is ∙ go e words many element
  where
    by : (l xs : List ℕ) → l ≡ packed xs → Below 2 xs → length xs ≡ n → (m.registers r).shape.element ≡ datatype.Bool
        → answers_told l (Some (Declassify d r)) m ≡ xs
    by [] [] e b k f = refl
    by [] (x ∷ xs) e b k f = absurd (omega (arith, ap length e, length-packed (x ∷ xs)))
    by (y ∷ l) xs e b k f =
        ap (λ z. elements_opened z (length (m.registers r).words) (y ∷ l)) f
        ∙ ap (λ z. unpacked z (length (m.registers r).words)) e
        ∙ ap (unpacked (packed xs)) (size ∙ sym k)
        ∙ unpacked-packed xs b

    go : (e : DataType) (words : List ℕ) → length words ≡ n → (m.registers r).shape.element ≡ e
        → answers_told (gate_words e (read_answer e words)) (Some (Declassify d r)) m ≡ read_answer e words
    go Uint64 [] k f = refl
    go Uint64 (x ∷ xs) k f = ap (λ z. elements_opened z (length (m.registers r).words) (x ∷ xs)) f
    go Int64 [] k f = refl
    go Int64 (x ∷ xs) k f = ap (λ z. elements_opened z (length (m.registers r).words) (x ∷ xs)) f
    go datatype.Bool words k f =
        by (packed (read_answer datatype.Bool words)) (read_answer datatype.Bool words) refl (low words) (read_length datatype.Bool words ∙ k) f

pub some_gate_words : (e : DataType) (x : ℕ) (xs : List ℕ) → gate_words e (x ∷ xs) ≢ []
some_gate_words Uint64 x xs same = cc
some_gate_words Int64 x xs same = cc
some_gate_words datatype.Bool x xs same = omega (arith, ap length same, length-packed (x ∷ xs))
