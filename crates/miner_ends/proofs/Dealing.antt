-- A dealing of what everybody may know: each miner has zeros for the private inputs.
use Rattle.std.proofs.Common.{◌≡◌, ℕ, zero, suc, ◌+◌, ◌<◌, ◌≤◌, ◌^◌, Bool, true, false, List, [], ◌∷◌, length, refl, sym, ap, ◌∙◌, subst, arith, inl, inr}
use Rattle.std.specs.Prelude.{if◌then◌else◌}
use Rattle.proto_core.specs.Lists.{at}
use Rattle.protocol_model.specs.Gates.{sizes_of}
use Rattle.gates.specs.declared.ring_kind.RingKind.{RingKind}
use Rattle.gates.specs.declared.ring_kind.RingKind.TheVariants.{Arithmetic, Boolean}
use Rattle.gates.specs.Clear.{Values, value, ring_of}
use Rattle.gates.specs.Gathered.{packed}
use Rattle.gates.proofs.Sharing.{packed-sum}
use Rattle.shared_gates.specs.Shares.{Kind, Shared, kind_at, sum_of, AreShares, Holds}
use Rattle.shared_gates.proofs.LocalGates.{adding, shares-adding}
use Rattle.program_trees.specs.declared.expression.DataType.{DataType}
use Rattle.program_trees.specs.declared.expression.DataType.TheVariants as datatype
use Rattle.language_model.specs.Effects.{GivenInput}
use Rattle.language_model.specs.Evaluation.{behind}
use Rattle.language_model.specs.Values.{ring_for, gate_words, gate_size}
use Rattle.code_model.specs.Kinded.{IsSingle, AreSingle}
use Rattle.gate_laws.specs.Dealt.{Dealt}
use Rattle.gate_laws.specs.Laws.{IsDealing}
use Rattle.gate_laws.specs.Offers.{IsDealt, AreOffered}
use Rattle.gate_laws.proofs.GateWords.{gate_words_size}
use Rattle.miner_ends.specs.Known.{AreKnown, size_then, private_sizes}

abbrev words_then : Bool → List ℕ → Values → Values
words_then true ws vs = ws ∷ vs
words_then false ws vs = vs

abbrev kind_then : Bool → RingKind → List Kind → List Kind
kind_then true ring ks = Shared ring ∷ ks
kind_then false ring ks = ks

-- its words in the gates
abbrev own_words : GivenInput → List ℕ
own_words x = gate_words x.shape.element x.words

abbrev pub private_words : List GivenInput → Values
private_words [] = []
private_words (x ∷ xs) = words_then x.secret (own_words x) (private_words xs)

abbrev pub private_kinds : List GivenInput → List Kind
private_kinds [] = []
private_kinds (x ∷ xs) = kind_then x.secret (ring_for x.shape.element) (private_kinds xs)

abbrev pub dealing_of : List GivenInput → Dealt
dealing_of xs = record { inputs = private_words xs; kinds = private_kinds xs; shares = λ i. private_words xs }

pub sizes_are : (xs : List GivenInput) → sizes_of (private_words xs) ≡ private_sizes xs
sizes_are [] = refl
sizes_are (x ∷ xs) = by x.secret (sizes_are xs)
  where
    by : (b : Bool) → sizes_of (private_words xs) ≡ private_sizes xs
        → sizes_of (words_then b (own_words x) (private_words xs)) ≡ size_then b (gate_size x.shape.element (length x.words)) (private_sizes xs)
    by true e =
        ap (λ ns. length (own_words x) ∷ ns) e
        ∙ ap (λ n. n ∷ private_sizes xs) (gate_words_size x.shape.element x.words)
    by false e = e

-- ---- they are shares

zeros_add : (ring : RingKind) (a b c : ℕ) → a ≡ 0 → b ≡ 0 → c ≡ 0 → sum_of (ring_of ring) a b c ≡ 0
zeros_add Arithmetic a b c e f g = rw (e, f, g) refl
zeros_add Boolean a b c e f g = rw (e, f, g) refl

zeros_shared : (ring : RingKind) (ws : List ℕ) → ((k : ℕ) → at ws k ≡ 0) → AreShares (ring_of ring) ws (λ i. ws)
zeros_shared ring ws zeros =
    record {
      sizes = λ i. refl;
      words = λ i k. subst (λ n. n < 2 ^ 64) (sym (zeros k)) (omega arith);
      sum = λ k lt. zeros_add ring (at ws k) (at ws k) (at ws k) (zeros k) (zeros k) (zeros k) ∙ sym (zeros k);
    }

-- so are the words of truth values, packed
words_shared : (e : DataType) (ws : List ℕ) → ((k : ℕ) → at ws k ≡ 0) → AreShares (ring_of (ring_for e)) (gate_words e ws) (λ i. gate_words e ws)
words_shared datatype.Uint64 ws zeros = zeros_shared Arithmetic ws zeros
words_shared datatype.Int64 ws zeros = zeros_shared Arithmetic ws zeros
words_shared datatype.Bool ws zeros = shares-adding (packed ws) (λ i. packed ws) (packed-sum (adding ws (λ i. ws) (zeros_shared Boolean ws zeros)))

abbrev AreHeld : List Kind → Values → Type 0
AreHeld kinds vs = (k : ℕ) → k < length vs → Holds (kind_at kinds k) (value vs k) (λ i. value vs k)

held : (xs : List GivenInput) → AreKnown xs → AreHeld (private_kinds xs) (private_words xs)
held [] h = λ k lt. absurd (omega (arith, lt))
held (x ∷ xs) h = by x.secret refl (held xs h.1)
  where
    by : (b : Bool) → x.secret ≡ b → AreHeld (private_kinds xs) (private_words xs)
        → AreHeld (kind_then b (ring_for x.shape.element) (private_kinds xs)) (words_then b (own_words x) (private_words xs))
    by true e more zero lt = words_shared x.shape.element x.words (h.0.hidden e)
    by true e more (suc k) lt = more k (omega (arith, lt))
    by false e more k lt = more k lt

pub is_dealing : (xs : List GivenInput) → AreKnown xs → IsDealing (dealing_of xs)
is_dealing xs h = record { held = held xs h; sized = λ i. refl }

-- ---- they are offered

module _ (d : Dealt) where
  -- from number k on the private inputs are these
  record Follow (k : ℕ) (vs : Values) (ks : List Kind) : Type 0 where
    values : (n : ℕ) → value d.inputs (k + n) ≡ value vs n
    kinds : (n : ℕ) → kind_at d.kinds (k + n) ≡ kind_at ks n
    many : k + length vs ≤ length d.inputs

  behind_one : (k : ℕ) (v : List ℕ) (vs : Values) (q : Kind) (ks : List Kind) → Follow k (v ∷ vs) (q ∷ ks) → Follow (k + 1) vs ks
  behind_one k v vs q ks h =
      record {
        values = λ n. let e : k + 1 + n ≡ k + suc n = omega arith in ap (value d.inputs) e ∙ h.values (suc n);
        kinds = λ n. let e : k + 1 + n ≡ k + suc n = omega arith in ap (kind_at d.kinds) e ∙ h.kinds (suc n);
        many = let m = h.many in omega (arith, m);
      }

  dealt_at : (x : GivenInput) (k : ℕ) (vs : Values) (ks : List Kind) → Follow k (own_words x ∷ vs) (Shared (ring_for x.shape.element) ∷ ks) → IsDealt d x k
  dealt_at x k vs ks h =
      let here : k + 0 ≡ k = omega arith in
      let many = h.many in
      record {
        there = omega (arith, many);
        words = ap (value d.inputs) (sym here) ∙ h.values 0;
        kind = ap (kind_at d.kinds) (sym here) ∙ h.kinds 0;
      }

  offered_from : (k : ℕ) (xs : List GivenInput) → AreKnown xs → Follow k (private_words xs) (private_kinds xs) → AreOffered d k xs
  offered_from k [] known h = tt
  offered_from k (x ∷ xs) known h =
      let own = by x.secret refl h in (
        record { range = known.0.range; small = known.0.small; dealt = own.0 },
        offered_from (behind x k) xs known.1 own.1,
      )
    where
      not_both : {b : Bool} → b ≡ true → b ≡ false → ⊥
      not_both {b = true} e f = cc
      not_both {b = false} e f = cc

      by : (b : Bool) → x.secret ≡ b
          → Follow k (words_then b (own_words x) (private_words xs)) (kind_then b (ring_for x.shape.element) (private_kinds xs))
          → (x.secret ≡ true → IsDealt d x k) × Follow (behind x k) (private_words xs) (private_kinds xs)
      by true e h = (
        λ _. dealt_at x k (private_words xs) (private_kinds xs) h,
        subst (λ b. Follow (if b then k + 1 else k) (private_words xs) (private_kinds xs)) (sym e)
            (behind_one k (own_words x) (private_words xs) (Shared (ring_for x.shape.element)) (private_kinds xs) h),
      )
      by false e h = (
        λ yes. absurd (not_both yes e),
        subst (λ b. Follow (if b then k + 1 else k) (private_words xs) (private_kinds xs)) (sym e) h,
      )

pub are_offered : (xs : List GivenInput) → AreKnown xs → AreOffered (dealing_of xs) 0 xs
are_offered xs known =
    offered_from (dealing_of xs) 0 xs known
    (record {
      values = λ n. let e : 0 + n ≡ n = omega arith in ap (value (private_words xs)) e;
      kinds = λ n. let e : 0 + n ≡ n = omega arith in ap (kind_at (private_kinds xs)) e;
      many = omega arith;
    })

pub are_single : (xs : List GivenInput) → AreKnown xs → AreSingle xs
are_single [] known x m = absurd m
are_single (y ∷ xs) known x (inl same) = subst IsSingle (sym same) known.0.single
are_single (y ∷ xs) known x (inr m) = are_single xs known.1 x m
