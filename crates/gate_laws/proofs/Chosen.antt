-- What gates gain that are chosen by the type of the elements.
use Rattle.std.proofs.Common.{◌≡◌, ℕ, ◌<◌, List, [], ◌∷◌, ◌++◌, length, refl, sym, subst, ap, ◌∙◌, zero, suc, arith}
use Rattle.std.specs.Prelude.{replicate, get_or, set, take, drop}
use Rattle.program_trees.specs.declared.expression.DataType.{DataType}
use Rattle.program_trees.specs.declared.expression.DataType.TheVariants.{Uint64, Int64}
use Rattle.program_trees.specs.declared.expression.DataType.TheVariants as datatype
use Rattle.gates.specs.declared.ring_kind.RingKind.{RingKind}
use Rattle.gates.specs.declared.ring_kind.RingKind.TheVariants.{Arithmetic, Boolean}
use Rattle.gates.specs.declared.gate.Gate.{Gate}
use Rattle.gates.specs.Clear.{first_word}
use Rattle.gates.specs.Counts.{made_by}
use Rattle.shared_plans.specs.Shares.{Kind, Shared}
use Rattle.shared_plans.specs.GateRuns.{GateRun, IsWellFormed}
use Rattle.language_model.specs.Values.{ring_for, gate_words}
use Rattle.language_model.specs.Operations.{repeated_gate, element_gate, stored_gate, joined_gate}
use Rattle.gate_laws.specs.Facts.{none_of, Stands}
use Rattle.gate_laws.proofs.Gains.{Gain, fact}
use Rattle.gates.specs.Gathered.{packed}
use Rattle.gates.proofs.Packing.{length-packed, packed-replicate, packed-taken, packed-set, packed-append}
use Rattle.gate_laws.specs.Dealt.{InRange}
use Rattle.gate_laws.proofs.Singles.{rep_gain, part_gain, put_gain, cat_gain, repbit_gain, partbit_gain, putbit_gain, catbit_gain}

-- the same words in other terms
pub gain_in : {r : GateRun} {gs : List Gate} {ring : RingKind} {xs ys : List ℕ} → xs ≡ ys → Gain r gs (Shared ring ∷ []) none_of 0 ring xs
    → Gain r gs (Shared ring ∷ []) none_of 0 ring ys
gain_in {r = r} {gs = gs} {ring = ring} e h = subst (λ z. Gain r gs (Shared ring ∷ []) none_of 0 ring z) e h

pub one_repeated : (e : DataType) (u n : ℕ) → made_by (repeated_gate e u n) ≡ 1
one_repeated Uint64 u n = refl
one_repeated Int64 u n = refl
one_repeated datatype.Bool u n = refl

pub one_element : (e : DataType) (u i : ℕ) → made_by (element_gate e u i) ≡ 1
one_element Uint64 u i = refl
one_element Int64 u i = refl
one_element datatype.Bool u i = refl

pub one_stored : (e : DataType) (u i v : ℕ) → made_by (stored_gate e u i v) ≡ 1
one_stored Uint64 u i v = refl
one_stored Int64 u i v = refl
one_stored datatype.Bool u i v = refl

pub one_joined : (e : DataType) (u n v m : ℕ) → made_by (joined_gate e u n v m) ≡ 1
one_joined Uint64 u n v m = refl
one_joined Int64 u n v m = refl
one_joined datatype.Bool u n v m = refl

-- the element at an index as a part
part_of_one : (xs : List ℕ) (i : ℕ) → i < length xs → take 1 (drop i xs) ≡ get_or xs i 0 ∷ []
part_of_one [] i h = absurd (omega (arith, h))
part_of_one (x ∷ xs) zero h = refl
part_of_one (x ∷ xs) (suc i) h = part_of_one xs i (omega (arith, h))

module _ (r : GateRun) (good : IsWellFormed r) where
  abbrev Gains : Gate → DataType → List ℕ → Type 0
  Gains g e words = Gain r (g ∷ []) (Shared (ring_for e) ∷ []) none_of 0 (ring_for e) (gate_words e words)

  abbrev Has : ℕ → DataType → List ℕ → Type 0
  Has u e words = Stands r (fact u (ring_for e) (gate_words e words))

  pub repeated_gain : (e : DataType) (u n : ℕ) (us : List ℕ) → Has u e us → length us ≡ 1 → Gains (repeated_gate e u n) e (replicate n (first_word us))
  repeated_gain Uint64 u n us h single = rep_gain r good u Arithmetic us h n single
  repeated_gain Int64 u n us h single = rep_gain r good u Arithmetic us h n single
  repeated_gain datatype.Bool u n [] h single = absurd (omega (arith, single))
  repeated_gain datatype.Bool u n (x ∷ []) h single =
      gain_in (sym (packed-replicate n x)) (repbit_gain r good u (packed (x ∷ [])) h n (length-packed (x ∷ [])))
  repeated_gain datatype.Bool u n (x ∷ y ∷ us) h single = absurd (omega (arith, single))

  pub element_gain : (e : DataType) (u i : ℕ) (us : List ℕ) → InRange e us → Has u e us → i < length us → Gains (element_gate e u i) e (get_or us i 0 ∷ [])
  element_gain Uint64 u i us low h inside = gain_in (part_of_one us i inside) (part_gain r good u Arithmetic us h i 1 (omega (arith, inside)))
  element_gain Int64 u i us low h inside = gain_in (part_of_one us i inside) (part_gain r good u Arithmetic us h i 1 (omega (arith, inside)))
  element_gain datatype.Bool u i us low h inside =
      gain_in (sym (packed-taken us i low inside)) (partbit_gain r good u (packed us) h i (omega (arith, inside, length-packed us)))

  pub stored_gain : (e : DataType) (u i v : ℕ) (us vs : List ℕ) → Has u e us → Has v e vs → i < length us → length vs ≡ 1
      → Gains (stored_gate e u i v) e (set us i (first_word vs))
  stored_gain Uint64 u i v us vs h k inside single = put_gain r good u v Arithmetic us vs h k i inside single
  stored_gain Int64 u i v us vs h k inside single = put_gain r good u v Arithmetic us vs h k i inside single
  stored_gain datatype.Bool u i v us [] h k inside single = absurd (omega (arith, single))
  stored_gain datatype.Bool u i v us (x ∷ []) h k inside single =
      gain_in (sym (packed-set us i x inside))
      (putbit_gain r good u v Boolean (packed us) (packed (x ∷ [])) h k refl i (omega (arith, inside, length-packed us)) (length-packed (x ∷ [])))
  stored_gain datatype.Bool u i v us (x ∷ y ∷ vs) h k inside single = absurd (omega (arith, single))

  pub joined_gain : (e : DataType) (u v : ℕ) (us vs : List ℕ) → Has u e us → Has v e vs
      → Gains (joined_gate e u (length us) v (length vs)) e (us ++ vs)
  joined_gain Uint64 u v us vs h k = cat_gain r good u v Arithmetic us vs h k
  joined_gain Int64 u v us vs h k = cat_gain r good u v Arithmetic us vs h k
  joined_gain datatype.Bool u v us vs h k =
      gain_in (sym (packed-append us vs))
      (catbit_gain r good u v Boolean (packed us) (packed vs) h k refl (length us) (length vs) (length-packed us) (length-packed vs))
