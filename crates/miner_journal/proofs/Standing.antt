-- What a journal's bytes stand for.
use Rattle.std.proofs.Common.{◌≡◌, ◌≢◌, ◌≤◌, ◌<◌, ◌+◌, ◌-◌, ℕ, zero, suc, inl, inr, Bool, true, false, if◌then◌else◌, ◌==◌, ◌&&◌}
use Rattle.std.proofs.Common.{List, [], ◌∷◌, ◌++◌, length, take, drop, get_or, Option}
use Rattle.std.proofs.Common.{Some, None, refl, sym, ◌∙◌, ap, subst, arith, append_assoc, length-append}
use Rattle.std.specs.Prelude.{nat_le}
use Rattle.std.proofs.lemmas.List.{append-nil, take_at, drop_at}
use Rattle.std.proofs.lemmas.Bool.{cases_eq}
use Rattle.wire.specs.Frames.{IsFrameable}
use Rattle.kept_frames.specs.Kept.{Kept, AllGood}
use Rattle.miner_journal.specs.Format.{StandsFor, WithOrWithout, at_gate, blocks, broken, digests, fault, history, is_begun, of_gate, record_bytes, records}
use Rattle.miner_journal.proofs.Records.{gate_open, gate_shut, not_one}

le_true : (a b : ℕ) → a ≤ b → nat_le a b ≡ true
le_true a b h = grind arith

le_false : (a b : ℕ) → b < a → nat_le a b ≡ false
le_false a b h = grind arith

and_false : (b : Bool) → (b && false) ≡ false
and_false true = refl
and_false false = refl

-- ---- records

pub good_more : (rs : List Kept) (a : Kept) → AllGood rs → IsFrameable a.words → AllGood (rs ++ a ∷ [])
good_more [] a good one = (one, tt)
good_more (b ∷ bs) a good one = (good.0, good_more bs a good.1 one)

blocks_long : (rs : List Kept) → length rs ≤ length (blocks rs)
blocks_long [] = omega arith
blocks_long (a ∷ rs) =
    let h = blocks_long rs in
    let l = length-append (record_bytes a) (blocks rs) in
    omega (arith, h, l)

blocks_more : (rs : List Kept) (a : Kept) (rest : List ℕ) → blocks (rs ++ a ∷ []) ++ rest ≡ blocks rs ++ 1 ∷ (record_bytes a ++ rest)
blocks_more [] a rest = ap (λ v. 1 ∷ (v ++ rest)) (append-nil (record_bytes a))
blocks_more (b ∷ bs) a rest =
    ap (λ v. 1 ∷ v)
    (append_assoc (record_bytes b) (blocks (bs ++ a ∷ [])) rest
    ∙ ap (λ v. record_bytes b ++ v) (blocks_more bs a rest)
    ∙ sym (append_assoc (record_bytes b) (blocks bs) (1 ∷ (record_bytes a ++ rest))))

pub blocks_length : (rs : List Kept) (a : Kept) → length (blocks (rs ++ a ∷ [])) ≡ length (blocks rs) + 1 + length (record_bytes a)
blocks_length rs a =
    let e : blocks (rs ++ a ∷ []) ≡ blocks rs ++ 1 ∷ record_bytes a =
    sym (append-nil (blocks (rs ++ a ∷ []))) ∙ blocks_more rs a [] ∙ ap (λ v. blocks rs ++ 1 ∷ v) (append-nil (record_bytes a)) in
    let l = ap length e in
    let m = length-append (blocks rs) (1 ∷ record_bytes a) in
    omega (arith, l, m)

-- a gate stands after a record
first_open : (a : Kept) (rs : List Kept) (gate : ℕ) (rest : List ℕ) (A : Type 0) (shut : A) (goes : Kept → List ℕ → A) (wrong : A) → IsFrameable a.words
    → of_gate shut goes wrong (at_gate ((1 ∷ (record_bytes a ++ blocks rs)) ++ gate ∷ rest)) ≡ goes a (blocks rs ++ gate ∷ rest)
first_open a [] gate rest A shut goes wrong good =
    ap (λ v. of_gate shut goes wrong (at_gate (1 ∷ v))) (append_assoc (record_bytes a) [] (gate ∷ rest))
    ∙ ap (of_gate shut goes wrong) (gate_open a gate rest good)
first_open a (b ∷ bs) gate rest A shut goes wrong good =
    ap (λ v. of_gate shut goes wrong (at_gate (1 ∷ v))) (append_assoc (record_bytes a) (blocks (b ∷ bs)) (gate ∷ rest))
    ∙ ap (of_gate shut goes wrong) (gate_open a 1 ((record_bytes b ++ blocks bs) ++ gate ∷ rest) good)

records_of : (rs : List Kept) (m n : ℕ) (gate : ℕ) (rest : List ℕ) → AllGood rs → m ≡ length rs + n
    → records m (blocks rs ++ gate ∷ rest) ≡ rs ++ records n (gate ∷ rest)
records_of [] m n gate rest good e = let same : m ≡ n = omega arith in ap (λ k. records k (gate ∷ rest)) same
records_of (a ∷ rs) m n gate rest good e =
    let k : ℕ = length rs + n in
    let same : m ≡ suc k = omega arith in
    ap (λ j. records j ((1 ∷ (record_bytes a ++ blocks rs)) ++ gate ∷ rest)) same
    ∙ first_open a rs gate rest (List Kept) [] (λ kept left. kept ∷ records k left) [] good.0
    ∙ ap (λ v. a ∷ v) (records_of rs k n gate rest good.1 refl)

broken_of : (rs : List Kept) (m n place : ℕ) (gate : ℕ) (rest : List ℕ) → AllGood rs → m ≡ length rs + n
    → broken m place (blocks rs ++ gate ∷ rest) ≡ broken n (place + length (blocks rs)) (gate ∷ rest)
broken_of [] m n place gate rest good e =
    let same : m ≡ n = omega arith in
    let here : place ≡ place + 0 = omega arith in
    ap (λ k. broken k place (gate ∷ rest)) same ∙ ap (λ p. broken n p (gate ∷ rest)) here
broken_of (a ∷ rs) m n place gate rest good e =
    let k : ℕ = length rs + n in
    let same : m ≡ suc k = omega arith in
    let long = length-append (record_bytes a) (blocks rs) in
    let there : place + 1 + length (record_bytes a) + length (blocks rs) ≡ place + length (blocks (a ∷ rs)) = omega (arith, long) in
    ap (λ j. broken j place ((1 ∷ (record_bytes a ++ blocks rs)) ++ gate ∷ rest)) same
    ∙ first_open a rs gate rest (Option ℕ) None (λ kept left. broken k (place + 1 + length (record_bytes kept)) left) (Some place) good.0
    ∙ broken_of rs k n (place + 1 + length (record_bytes a)) gate rest good.1 refl
    ∙ ap (λ p. broken n p (gate ∷ rest)) there

broken_shut : (n place gate : ℕ) (rest : List ℕ) → gate ≢ 1 → broken n place (gate ∷ rest) ≡ None
broken_shut zero place gate rest shut = refl
broken_shut (suc n) place gate rest shut =
    ap (of_gate None (λ kept left. broken n (place + 1 + length (record_bytes kept)) left) (Some place)) (gate_shut gate rest shut)

records_shut : (n gate : ℕ) (rest : List ℕ) → gate ≢ 1 → records n (gate ∷ rest) ≡ []
records_shut zero gate rest shut = refl
records_shut (suc n) gate rest shut = ap (of_gate [] (λ kept left. kept ∷ records n left) []) (gate_shut gate rest shut)

-- ---- a file that isn't begun

pub short_is_not : (file : List ℕ) → length file < 98 → is_begun file ≡ false
short_is_not file short = ap (λ b. b && (get_or file 0 0 == 1)) (le_false 98 (length file) short)

pub shut_is_not : (first : ℕ) (rest : List ℕ) → first ≢ 1 → is_begun (first ∷ rest) ≡ false
shut_is_not first rest shut =
    ap (λ b. nat_le 98 (length (first ∷ rest)) && b) (not_one first shut) ∙ and_false (nat_le 98 (length (first ∷ rest)))

pub not_begun_is_empty : (sums file : List ℕ) → is_begun file ≡ false → StandsFor sums [] file
not_begun_is_empty sums file e =
    record {
      reads = ap (λ b. if b then records (length file) (drop 97 file) else []) e;
      signed = λ g. let clash : true ≡ false = sym g ∙ e in cc;
      good = ap (λ b. if b then broken (length file) 97 (drop 97 file) else None) e;
    }

-- ---- one that is

module _ (sums : List ℕ) (long : length sums ≡ 96) (rs : List Kept) where
  abbrev pub front : List ℕ
  front = (1 ∷ sums) ++ blocks rs

  pub front_long : length front ≡ 97 + length (blocks rs)
  front_long = let a = length-append (1 ∷ sums) (blocks rs) in omega (arith, a)

  -- a gate that isn't open ends the records, whatever stands after it
  module _ (all : AllGood rs) (gate : ℕ) (rest : List ℕ) (shut : gate ≢ 1) where
    abbrev file : List ℕ
    file = front ++ gate ∷ rest

    parts : file ≡ (1 ∷ sums) ++ (blocks rs ++ gate ∷ rest)
    parts = append_assoc (1 ∷ sums) (blocks rs) (gate ∷ rest)

    file_long : length file ≡ 97 + length (blocks rs) + 1 + length rest
    file_long = let a = length-append front (gate ∷ rest) in let b = front_long in omega (arith, a, b)

    begun : is_begun file ≡ true
    begun = let h : 98 ≤ length file = omega (arith, file_long) in ap (λ b. b && true) (le_true 98 (length file) h)

    behind : drop 97 file ≡ blocks rs ++ gate ∷ rest
    behind = let h : length (1 ∷ sums) ≡ 97 = omega (arith, long) in ap (drop 97) parts ∙ drop_at (1 ∷ sums) (blocks rs ++ gate ∷ rest) 97 h

    abbrev more : ℕ
    more = length file - length rs

    fuel : length file ≡ length rs + more
    fuel = let a = blocks_long rs in let b = file_long in omega (arith, a, b)

    history_is : history file ≡ rs
    history_is =
        ap (λ b. if b then records (length file) (drop 97 file) else []) begun
        ∙ ap (records (length file)) behind
        ∙ records_of rs (length file) more gate rest all fuel
        ∙ ap (λ v. rs ++ v) (records_shut more gate rest shut)
        ∙ append-nil rs

    sums_are : digests file ≡ sums
    sums_are =
        ap (λ v. take 96 (drop 1 v)) parts
        ∙ ap (take 96) (drop_at (1 ∷ []) (sums ++ (blocks rs ++ gate ∷ rest)) 1 refl)
        ∙ take_at sums (blocks rs ++ gate ∷ rest) 96 long

    good_is : fault file ≡ None
    good_is =
        ap (λ b. if b then broken (length file) 97 (drop 97 file) else None) begun
        ∙ ap (broken (length file) 97) behind
        ∙ broken_of rs (length file) more 97 gate rest all fuel
        ∙ broken_shut more (97 + length (blocks rs)) gate rest shut

    pub shut_stands : StandsFor sums rs file
    shut_stands = record { reads = history_is; signed = λ g. sums_are; good = good_is }

module _ (sums : List ℕ) (long : length sums ≡ 96) (rs : List Kept) (all : AllGood rs) (a : Kept) (one : IsFrameable a.words) where
  pub opened_is : (rest : List ℕ) → front sums long rs ++ 1 ∷ (record_bytes a ++ rest) ≡ front sums long (rs ++ a ∷ []) ++ rest
  opened_is rest =
      append_assoc (1 ∷ sums) (blocks rs) (1 ∷ (record_bytes a ++ rest))
      ∙ ap (λ v. (1 ∷ sums) ++ v) (sym (blocks_more rs a rest))
      ∙ sym (append_assoc (1 ∷ sums) (blocks (rs ++ a ∷ [])) rest)

  -- an open gate before a record, and a closed one after it
  pub open_stands : (rest : List ℕ) → StandsFor sums (rs ++ a ∷ []) (front sums long rs ++ 1 ∷ (record_bytes a ++ 0 ∷ rest))
  open_stands rest =
      subst (StandsFor sums (rs ++ a ∷ [])) (sym (opened_is (0 ∷ rest)))
      (shut_stands sums long (rs ++ a ∷ []) (good_more rs a all one) 0 rest (λ e. absurd (omega (arith, e))))

  -- whatever the gate is, it counts or it doesn't
  pub either_stands : (gate : ℕ) (rest : List ℕ) → WithOrWithout sums rs a (front sums long rs ++ gate ∷ (record_bytes a ++ 0 ∷ rest))
  either_stands gate rest = elim (cases_eq gate 1) [
    | inl is ↦ inr (subst (λ g. StandsFor sums (rs ++ a ∷ []) (front sums long rs ++ g ∷ (record_bytes a ++ 0 ∷ rest))) (sym is) (open_stands rest))
    | inr shut ↦ inl (shut_stands sums long rs all gate (record_bytes a ++ 0 ∷ rest) shut)
  ]
