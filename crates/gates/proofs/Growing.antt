-- Values after those that fit change nothing, and evaluation gives values that fit.
use Rattle.std.proofs.Common.{◌≡◌, ℕ, zero, suc, ◌+◌, ◌-◌, ◌/◌, ◌%◌, ◌^◌, ◌<◌, ◌≤◌, Bool, true, false, Some, List, [], ◌∷◌, ◌++◌, length, refl, sym, ◌∙◌}
use Rattle.std.proofs.Common.{ap, subst, inl, inr, arith, append_assoc, length-append}
use Rattle.std.specs.Prelude.{slice_get}
use Rattle.std.proofs.lemmas.List.{get_or_append_left, get_or_past, length-replicate, get_or-replicate, append-nil}
use Rattle.std.proofs.lemmas.Bool.{cases_lt}
use Rattle.std.proofs.lemmas.Nat.{mod_below, pow_pos}
use Rattle.proto_core.specs.Rings.{add_ring}
use Rattle.gates.specs.declared.gate.Gate.{Gate}
use Rattle.gates.specs.declared.gate.Gate.TheVariants.{Input, Const, Add, Sub, MulPub, Mul, Xor, And, Not, Shl, Shr, Low, Cat, Part, Put, Rep}
use Rattle.gates.specs.declared.gate.Gate.TheVariants.{Pack, Unpack, RepBit, PartBit, PutBit, CatBit}
use Rattle.gates.specs.declared.gate.Gate.TheVariants.{Sum, Stretch, Tile, SumEach, Split, Conv, Open, Result}
use Rattle.gates.specs.Counts.{made_by, made_by_all}
use Rattle.proto_core.specs.Words.{AreWords}
use Rattle.gates.specs.Clear.{Values, value, clear_value, each_two, IsSplit, AreOperands, Suits, Makes, FitFrom, Fit}
use Rattle.gates.specs.Evaluated.{unmasked, masks_for, made, evaluated, SplitsWords, AllSuit}
use Rattle.gates.proofs.Columns.{word, Column, stands, Column-of, Column-ext, Column-each_two, same_columns}

-- ---- lists

slice_get-append : {X : Type 0} (xs ys : List X) (k : ℕ) (x : X) → slice_get xs k ≡ Some x → slice_get (xs ++ ys) k ≡ Some x
slice_get-append [] ys k x e = cc
slice_get-append (y ∷ xs) ys zero x e = e
slice_get-append (y ∷ xs) ys (suc k) x e = slice_get-append xs ys k x e

slice_get-at : {X : Type 0} (xs : List X) (x : X) (ys : List X) → slice_get (xs ++ x ∷ ys) (length xs) ≡ Some x
slice_get-at [] x ys = refl
slice_get-at (y ∷ xs) x ys = slice_get-at xs x ys

slice_get-behind : {X : Type 0} (xs : List X) (x y : X) → slice_get (xs ++ x ∷ y ∷ []) (length xs + 1) ≡ Some y
slice_get-behind [] x y = refl
slice_get-behind (z ∷ xs) x y = rw add_one_behind (slice_get-behind xs x y)
  where
    add_one_behind : suc (length xs) + 1 ≡ suc (length xs + 1)
    add_one_behind = omega arith

-- ---- more values

module _ (values more : Values) where
  still : (u : ℕ) → u < length values → value (values ++ more) u ≡ value values u
  still u lt = get_or_append_left values more [] u lt

  operands-grown : (next u v : ℕ) → next ≤ length values → AreOperands values next u v → AreOperands (values ++ more) next u v
  operands-grown next u v le s =
      record {
        first = s.first;
        second = s.second;
        same_size = ap length (still u (omega (arith, s.first))) ∙ s.same_size ∙ sym (ap length (still v (omega (arith, s.second))));
      }

  two-grown : (f : ℕ → ℕ → ℕ) (next u v : ℕ) → next ≤ length values → AreOperands values next u v
      → each_two f (value (values ++ more) u) (value (values ++ more) v) ≡ each_two f (value values u) (value values v)
  two-grown f next u v le s =
      ap (λ xs. each_two f xs (value (values ++ more) v)) (still u (omega (arith, s.first)))
      ∙ ap (λ ys. each_two f (value values u) ys) (still v (omega (arith, s.second)))

  one-grown : {X : Type 0} (f : List ℕ → X) (next u : ℕ) → next ≤ length values → u < next → f (value (values ++ more) u) ≡ f (value values u)
  one-grown f next u le lt = ap f (still u (omega arith))

  pub Suits-grown : (inputs : Values) (next : ℕ) (gate : Gate) → next ≤ length values → Suits inputs values next gate → Suits inputs (values ++ more) next gate
  Suits-grown inputs next (Input k) le s = s
  Suits-grown inputs next (Const list) le s = s
  Suits-grown inputs next (Add u v) le s = operands-grown next u v le s
  Suits-grown inputs next (Sub u v) le s = operands-grown next u v le s
  Suits-grown inputs next (MulPub ring u list) le s = (s.0, one-grown length next u le s.0 ∙ s.1)
  Suits-grown inputs next (Mul u v) le s = operands-grown next u v le s
  Suits-grown inputs next (Xor u v) le s = operands-grown next u v le s
  Suits-grown inputs next (And u v) le s = operands-grown next u v le s
  Suits-grown inputs next (Cat u v) le s = s
  Suits-grown inputs next (Part u from count) le s = (s.0, subst (λ n. from + count ≤ n) (sym (one-grown length next u le s.0)) s.1)
  Suits-grown inputs next (Put u index v) le s =
      (s.0, s.1, subst (λ n. index < n) (sym (one-grown length next u le s.0)) s.2, one-grown length next v le s.1 ∙ s.3)
  Suits-grown inputs next (Rep u count) le s = (s.0, one-grown length next u le s.0 ∙ s.1)
  Suits-grown inputs next (Not u) le s = s
  Suits-grown inputs next (Shl u count) le s = s
  Suits-grown inputs next (Shr u count) le s = s
  Suits-grown inputs next (Low u) le s = s
  Suits-grown inputs next (Pack u) le s = s
  Suits-grown inputs next (Unpack u count) le s = (s.0, one-grown length next u le s.0 ∙ s.1)
  Suits-grown inputs next (RepBit u count) le s = (s.0, one-grown length next u le s.0 ∙ s.1)
  Suits-grown inputs next (PartBit u index) le s = (s.0, subst (λ n. index / 64 < n) (sym (one-grown length next u le s.0)) s.1)
  Suits-grown inputs next (PutBit u index v) le s =
      (s.0, s.1, subst (λ n. index / 64 < n) (sym (one-grown length next u le s.0)) s.2, one-grown length next v le s.1 ∙ s.3)
  Suits-grown inputs next (CatBit u n v m) le s =
      (s.0, s.1, one-grown length next u le s.0 ∙ s.2, one-grown length next v le s.1 ∙ s.3)
  Suits-grown inputs next (Sum u) le s = s
  Suits-grown inputs next (Stretch u count) le s = s
  Suits-grown inputs next (Tile u count) le s = s
  Suits-grown inputs next (SumEach u size count) le s = (s.0, one-grown length next u le s.0 ∙ s.1)
  Suits-grown inputs next (Split u negated) le s = s
  Suits-grown inputs next (Conv u) le s = s
  Suits-grown inputs next (Open ring u) le s = s
  Suits-grown inputs next (Result ring u) le s = s

  pub clear_value-grown : (inputs : Values) (next : ℕ) (gate : Gate) → next ≤ length values → Suits inputs values next gate
      → clear_value inputs (values ++ more) gate ≡ clear_value inputs values gate
  clear_value-grown inputs next (Input k) le s = refl
  clear_value-grown inputs next (Const list) le s = refl
  clear_value-grown inputs next (Add u v) le s = two-grown _ next u v le s
  clear_value-grown inputs next (Sub u v) le s = two-grown _ next u v le s
  clear_value-grown inputs next (MulPub ring u list) le s = one-grown (λ xs. clear_value inputs (xs ∷ []) (MulPub ring 0 list)) next u le s.0
  clear_value-grown inputs next (Mul u v) le s = two-grown _ next u v le s
  clear_value-grown inputs next (Xor u v) le s = two-grown _ next u v le s
  clear_value-grown inputs next (And u v) le s = two-grown _ next u v le s
  clear_value-grown inputs next (Cat u v) le s = ap (λ xs. xs ++ value (values ++ more) v) (still u (omega (arith, s.0)))
      ∙ ap (λ ys. value values u ++ ys) (still v (omega (arith, s.1)))
  clear_value-grown inputs next (Part u from count) le s = one-grown (λ xs. clear_value inputs (xs ∷ []) (Part 0 from count)) next u le s.0
  clear_value-grown inputs next (Put u index v) le s =
      ap (λ xs. clear_value inputs (xs ∷ value (values ++ more) v ∷ []) (Put 0 index 1)) (still u (omega (arith, s.0)))
      ∙ ap (λ ys. clear_value inputs (value values u ∷ ys ∷ []) (Put 0 index 1)) (still v (omega (arith, s.1)))
  clear_value-grown inputs next (Rep u count) le s = one-grown (λ xs. clear_value inputs (xs ∷ []) (Rep 0 count)) next u le s.0
  clear_value-grown inputs next (Not u) le s = one-grown (λ xs. clear_value inputs (xs ∷ []) (Not 0)) next u le s
  clear_value-grown inputs next (Shl u count) le s = one-grown (λ xs. clear_value inputs (xs ∷ []) (Shl 0 count)) next u le s
  clear_value-grown inputs next (Shr u count) le s = one-grown (λ xs. clear_value inputs (xs ∷ []) (Shr 0 count)) next u le s
  clear_value-grown inputs next (Low u) le s = one-grown (λ xs. clear_value inputs (xs ∷ []) (Low 0)) next u le s
  clear_value-grown inputs next (Pack u) le s = one-grown (λ xs. clear_value inputs (xs ∷ []) (Pack 0)) next u le s
  clear_value-grown inputs next (Unpack u count) le s = one-grown (λ xs. clear_value inputs (xs ∷ []) (Unpack 0 count)) next u le s.0
  clear_value-grown inputs next (RepBit u count) le s = one-grown (λ xs. clear_value inputs (xs ∷ []) (RepBit 0 count)) next u le s.0
  clear_value-grown inputs next (PartBit u index) le s = one-grown (λ xs. clear_value inputs (xs ∷ []) (PartBit 0 index)) next u le s.0
  clear_value-grown inputs next (PutBit u index v) le s =
      ap (λ xs. clear_value inputs (xs ∷ value (values ++ more) v ∷ []) (PutBit 0 index 1)) (still u (omega (arith, s.0)))
      ∙ ap (λ ys. clear_value inputs (value values u ∷ ys ∷ []) (PutBit 0 index 1)) (still v (omega (arith, s.1)))
  clear_value-grown inputs next (CatBit u n v m) le s =
      ap (λ xs. clear_value inputs (xs ∷ value (values ++ more) v ∷ []) (CatBit 0 n 1 m)) (still u (omega (arith, s.0)))
      ∙ ap (λ ys. clear_value inputs (value values u ∷ ys ∷ []) (CatBit 0 n 1 m)) (still v (omega (arith, s.1)))
  clear_value-grown inputs next (Sum u) le s = one-grown (λ xs. clear_value inputs (xs ∷ []) (Sum 0)) next u le s
  clear_value-grown inputs next (Stretch u count) le s = one-grown (λ xs. clear_value inputs (xs ∷ []) (Stretch 0 count)) next u le s
  clear_value-grown inputs next (Tile u count) le s = one-grown (λ xs. clear_value inputs (xs ∷ []) (Tile 0 count)) next u le s
  clear_value-grown inputs next (SumEach u size count) le s = one-grown (λ xs. clear_value inputs (xs ∷ []) (SumEach 0 size count)) next u le s.0
  clear_value-grown inputs next (Split u negated) le s = refl
  clear_value-grown inputs next (Conv u) le s = one-grown (λ xs. clear_value inputs (xs ∷ []) (Conv 0)) next u le s
  clear_value-grown inputs next (Open ring u) le s = still u (omega arith)
  clear_value-grown inputs next (Result ring u) le s = still u (omega arith)

  stays : (k : ℕ) → slice_get values k ≡ Some (value values k) → value (values ++ more) k ≡ value values k
  stays k e = stands (values ++ more) k (slice_get-append values more k (value values k) e)

  stays_there : (k : ℕ) → slice_get values k ≡ Some (value values k) → slice_get (values ++ more) k ≡ Some (value (values ++ more) k)
  stays_there k e = slice_get-append values more k (value values k) e ∙ ap Some (sym (stays k e))

  IsSplit-same : (negated : Bool) {us us' xs xs' ys ys' : List ℕ} → us ≡ us' → xs ≡ xs' → ys ≡ ys' → IsSplit negated us xs ys → IsSplit negated us' xs' ys'
  IsSplit-same negated {us} {us'} {xs} {xs'} {ys} {ys'} e1 e2 e3 split =
      subst (λ l. IsSplit negated us' xs' l) e3 (subst (λ l. IsSplit negated us' l ys) e2 (subst (λ l. IsSplit negated l xs ys) e1 split))

  pub Makes-grown : (inputs : Values) (next : ℕ) (gate : Gate) → next ≤ length values → Suits inputs values next gate → Makes inputs values next gate
      → Makes inputs (values ++ more) next gate
  Makes-grown inputs next (Split u negated) le s h = (
    stays_there next h.0,
    stays_there (next + 1) h.1,
    IsSplit-same negated (sym (still u (omega arith))) (sym (stays next h.0)) (sym (stays (next + 1) h.1)) h.2,
  )
  Makes-grown inputs next (Low u) le s h = slice_get-append values more next _ h ∙ ap Some (sym (clear_value-grown inputs next (Low u) le s))
  Makes-grown inputs next gate le s h = slice_get-append values more next _ h ∙ ap Some (sym (clear_value-grown inputs next gate le s))

  -- values that fit go on to fit where more stand after them
  pub FitFrom-grown : (inputs : Values) (next : ℕ) (gates : List Gate) → next + made_by_all gates ≤ length values → FitFrom inputs values next gates
      → FitFrom inputs (values ++ more) next gates
  FitFrom-grown inputs next [] le fit = tt
  FitFrom-grown inputs next (gate ∷ gates) le fit =
      let here : next ≤ length values = omega arith in
      let rest : next + made_by gate + made_by_all gates ≤ length values = omega arith in
      (Suits-grown inputs next gate here fit.0, Makes-grown inputs next gate here fit.0 fit.1, FitFrom-grown inputs (next + made_by gate) gates rest fit.2)

-- ---- what one gate makes

back_masked : (u m : ℕ) → u < 2 ^ 64 → m < 2 ^ 64 → add_ring.add (add_ring.sub u m) m ≡ u
back_masked u m hu hm = omega arith

back_negated : (u m : ℕ) → u < 2 ^ 64 → m < 2 ^ 64 → add_ring.sub (add_ring.add u m) m ≡ u
back_negated u m hu hm = omega arith

masks-column : (m : ℕ) (us : List ℕ) → Column (length us) (λ _. m) (masks_for m us)
masks-column m us = record { size = length-replicate (length us) m; words = λ k lt. get_or-replicate (length us) k m 0 lt }

words-of : (n : ℕ) (f : ℕ → ℕ) (xs : List ℕ) → Column n f xs → ((k : ℕ) → f k < 2 ^ 64) → AreWords xs
words-of n f xs c small k =
    elim (cases_lt k n) as (λ d. word xs k < 2 ^ 64) [
      | inl below ↦ subst (λ x. x < 2 ^ 64) (sym (c.words k below)) (small k)
      | inr past ↦ subst (λ x. x < 2 ^ 64) (sym (get_or_past xs k 0 (omega (arith, c.size)))) (pow_pos 64)
    ]

-- a Split by masks is a Split
pub is_split : (negated : Bool) (m : ℕ) (us : List ℕ) → m < 2 ^ 64 → AreWords us → IsSplit negated us (unmasked negated us (masks_for m us)) (masks_for m us)
is_split false m us hm words =
    let n = length us in
    let column = Column-of n us refl in
    let masks = masks-column m us in
    let rest = Column-each_two add_ring.sub column masks in
    record {
      same_size = rest.size ∙ sym masks.size;
      words = words-of n _ _ rest (λ k. mod_below (word us k + (2 ^ 64 - m % 2 ^ 64)) (2 ^ 64) (pow_pos 64));
      other_words = words-of n _ _ masks (λ k. hm);
      join =
          same_columns n (word us) (each_two add_ring.add (each_two add_ring.sub us (masks_for m us)) (masks_for m us)) us
          (Column-ext (λ k lt. back_masked (word us k) m (words k) hm) (Column-each_two add_ring.add rest masks)) column;
    }
is_split true m us hm words =
    let n = length us in
    let column = Column-of n us refl in
    let masks = masks-column m us in
    let rest = Column-each_two add_ring.add column masks in
    record {
      same_size = rest.size ∙ sym masks.size;
      words = words-of n _ _ rest (λ k. mod_below (word us k + m) (2 ^ 64) (pow_pos 64));
      other_words = words-of n _ _ masks (λ k. hm);
      join =
          same_columns n (word us) (each_two add_ring.sub (each_two add_ring.add us (masks_for m us)) (masks_for m us)) us
          (Column-ext (λ k lt. back_negated (word us k) m (words k) hm) (Column-each_two add_ring.sub rest masks)) column;
    }

at_number : (values : Values) (m : ℕ) {xs : List ℕ} → slice_get values m ≡ Some xs → slice_get values m ≡ Some (value values m)
at_number values m e = e ∙ ap Some (sym (stands values m e))

-- the values that a gate makes are right where they come to stand
pub Makes-made : (mask : ℕ) → mask < 2 ^ 64 → (inputs values : Values) (gate : Gate) → Suits inputs values (length values) gate
    → SplitsWords values gate → Makes inputs (values ++ made mask inputs values gate) (length values) gate
Makes-made mask small inputs values (Split u negated) s words =
    let us = value values u in
    let ys = masks_for mask us in
    let xs = unmasked negated us ys in
    let first = slice_get-at values xs (ys ∷ []) in
    let second = slice_get-behind values xs ys in
    let grown = values ++ xs ∷ ys ∷ [] in (
      at_number grown (length values) first,
      at_number grown (length values + 1) second,
      IsSplit-same values (xs ∷ ys ∷ []) negated (sym (still values (xs ∷ ys ∷ []) u s)) (sym (stands grown (length values) first))
          (sym (stands grown (length values + 1) second)) (is_split negated mask us small words),
    )
Makes-made mask small inputs values (Low u) s words =
    slice_get-at values (clear_value inputs values (Low u)) []
    ∙ ap Some (sym (clear_value-grown values (clear_value inputs values (Low u) ∷ []) inputs (length values) (Low u) (omega arith) s))
Makes-made mask small inputs values gate s words =
    slice_get-at values (clear_value inputs values gate) []
    ∙ ap Some (sym (clear_value-grown values (clear_value inputs values gate ∷ []) inputs (length values) gate (omega arith) s))

length-made : (mask : ℕ) (inputs values : Values) (gate : Gate) → length (made mask inputs values gate) ≡ made_by gate
length-made mask inputs values (Split u negated) = refl
length-made mask inputs values (Low u) = refl
length-made mask inputs values gate = refl

-- ---- evaluation

evaluated-grows : (mask : ℕ) (inputs values : Values) (gates : List Gate) → (more : Values) × (evaluated mask inputs values gates ≡ values ++ more)
evaluated-grows mask inputs values [] = ([], sym (append-nil values))
evaluated-grows mask inputs values (gate ∷ gates) =
    let rest = evaluated-grows mask inputs (values ++ made mask inputs values gate) gates in
    (made mask inputs values gate ++ rest.0, rest.1 ∙ append_assoc values (made mask inputs values gate) rest.0)

-- where each gate suits the values before it, evaluation gives values that fit
pub evaluated_fits : (mask : ℕ) → mask < 2 ^ 64 → (inputs values : Values) (gates : List Gate) → AllSuit mask inputs values gates
    → FitFrom inputs (evaluated mask inputs values gates) (length values) gates
evaluated_fits mask small inputs values [] suit = tt
evaluated_fits mask small inputs values (gate ∷ gates) suit =
    let new = made mask inputs values gate in
    let rest = evaluated-grows mask inputs (values ++ new) gates in
    let whole = append_assoc values new rest.0 in
    let suits_new = Suits-grown values new inputs (length values) gate (omega arith) suit.0 in
    let makes_new = Makes-made mask small inputs values gate suit.0 suit.1 in
    let within : length values ≤ length (values ++ new) = omega (arith, length-append values new) in
    let suits_all = Suits-grown (values ++ new) rest.0 inputs (length values) gate within suits_new in
    let makes_all = Makes-grown (values ++ new) rest.0 inputs (length values) gate within suits_new makes_new in
    let count : length (values ++ new) ≡ length values + made_by gate =
    length-append values new ∙ ap (λ n. length values + n) (length-made mask inputs values gate) in (
      subst (λ all. Suits inputs all (length values) gate) (sym rest.1) suits_all,
      subst (λ all. Makes inputs all (length values) gate) (sym rest.1) makes_all,
      subst (λ next. FitFrom inputs (evaluated mask inputs (values ++ new) gates) next gates) count
          (evaluated_fits mask small inputs (values ++ new) gates suit.2),
    )

length-evaluated : (mask : ℕ) (inputs values : Values) (gates : List Gate) → length (evaluated mask inputs values gates) ≡ length values + made_by_all gates
length-evaluated mask inputs values [] = omega arith
length-evaluated mask inputs values (gate ∷ gates) =
    let new = made mask inputs values gate in
    omega (arith, length-evaluated mask inputs (values ++ new) gates, length-append values new, length-made mask inputs values gate)

pub evaluated_run_fits : (mask : ℕ) → mask < 2 ^ 64 → (inputs : Values) (gates : List Gate) → AllSuit mask inputs [] gates
    → Fit inputs gates (evaluated mask inputs [] gates)
evaluated_run_fits mask small inputs gates suit =
    record { fit = evaluated_fits mask small inputs [] gates suit; count = length-evaluated mask inputs [] gates ∙ omega arith }
