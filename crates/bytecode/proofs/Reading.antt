-- How reading goes on after what was read.
use Rattle.std.proofs.Common.{◌≡◌, ℕ, zero, suc, ◌+◌, ◌-◌, ◌*◌, ◌^◌, ◌<◌, ◌≤◌, List, [], ◌∷◌, ◌++◌, append_assoc, append-nil, length, Bool, true}
use Rattle.std.proofs.Common.{false, Result, Ok, Err, refl, sym, ap, ◌∙◌, subst, arith, IsTrue, mul_comm, lit≤}
use native.Mathlib.Numerals.{unary_clauses}
use Rattle.bytecode.specs.declared.fault.FaultKind.{FaultKind}
use Rattle.bytecode.specs.declared.fault.FaultKind.TheVariants.{Truncated, BadTag}
use Rattle.bytecode.specs.declared.fault.Stopped.{Stopped}
use Rattle.bytecode.specs.declared.fault.Stopped.TheVariants.{Refused, Memory}
use Rattle.bytecode.specs.Layouts.{Layout, Makes, Field, NameField, Read, carry, number, characters, passed, is_name_length, read, behind}
use Rattle.bytecode.specs.Decoded.{repeated}
use Rattle.bytecode.specs.inner.Reading.{Refuses, Stops, Reads}

-- ---- a fault stays what it is

refuses_carry : {A B : Type 0} (r : Read A) (f : A → List ℕ → Read B) (k : FaultKind) (n : ℕ) → Refuses r k n → Refuses (carry r f) k n
refuses_carry (Ok x) f k n h = absurd h
refuses_carry (Err e) f k n h = h

pub stops_carry : {A B : Type 0} (r : Read A) (f : A → List ℕ → Read B) (e : Stopped) → Stops r e → Stops (carry r f) e
stops_carry r f Memory h = tt
stops_carry r f (Refused k n) h = refuses_carry r f k n h

-- ---- numbers

predecessor : (n : ℕ) → (n ≡ 0 → ⊥) → n ≡ suc (n - 1)
predecessor n h = omega arith

pub number_step : (n : ℕ) (text : List ℕ) (b : ℕ) (rest : List ℕ) (x : ℕ) (left : List ℕ) → (n ≡ 0 → ⊥) → text ≡ b ∷ rest
    → number (n - 1) rest ≡ Ok (x, left) → number n text ≡ Ok (b + 256 * x, left)
number_step n text b rest x left h e g =
    ap (λ t. number n t) e ∙ ap (λ k. number k (b ∷ rest)) (predecessor n h) ∙ ap (λ r. carry r (λ x rest. Ok (b + 256 * x, rest))) g

pub number_ends : (n : ℕ) (text : List ℕ) → (n ≡ 0 → ⊥) → text ≡ [] → Refuses (number n text) Truncated 0
number_ends n text h e =
    let same : number n text ≡ Err (Truncated, []) = ap (λ t. number n t) e ∙ ap (λ k. number k []) (predecessor n h) in
    subst (λ r. Refuses r Truncated 0) (sym same) (refl, refl)

pub number_stops : (n : ℕ) (text : List ℕ) (b : ℕ) (rest : List ℕ) (e : Stopped) → (n ≡ 0 → ⊥) → text ≡ b ∷ rest → Stops (number (n - 1) rest) e
    → Stops (number n text) e
number_stops n text b rest e h t s =
    let same : number n text ≡ carry (number (n - 1) rest) (λ x rest. Ok (b + 256 * x, rest)) =
    ap (λ t. number n t) t ∙ ap (λ k. number k (b ∷ rest)) (predecessor n h) in
    subst (λ r. Stops r e) (sym same) (stops_carry (number (n - 1) rest) (λ x rest. Ok (b + 256 * x, rest)) e s)

power_suc : (n : ℕ) → 256 ^ suc n ≡ 256 * 256 ^ n
power_suc n = simp unary_clauses (mul_comm (256 ^ n) 256)

power_step : (n : ℕ) → (n ≡ 0 → ⊥) → 256 ^ n ≡ 256 * 256 ^ (n - 1)
power_step n h = ap (λ k. 256 ^ k) (predecessor n h) ∙ power_suc (n - 1)

pub number_fits : (n low high : ℕ) → (n ≡ 0 → ⊥) → low < 256 → high < 256 ^ (n - 1) → low + 256 * high < 256 ^ n
number_fits n low high h l g = let power = power_step n h in omega arith

power_below : (n : ℕ) → n ≤ 8 → 256 ^ n ≤ 18446744073709551616
power_below zero h = lit≤ tt
power_below (suc zero) h = lit≤ tt
power_below (suc (suc zero)) h = lit≤ tt
power_below (suc (suc (suc zero))) h = lit≤ tt
power_below (suc (suc (suc (suc zero)))) h = lit≤ tt
power_below (suc (suc (suc (suc (suc zero))))) h = lit≤ tt
power_below (suc (suc (suc (suc (suc (suc zero)))))) h = lit≤ tt
power_below (suc (suc (suc (suc (suc (suc (suc zero))))))) h = lit≤ tt
power_below (suc (suc (suc (suc (suc (suc (suc (suc zero)))))))) h = lit≤ tt
power_below (suc (suc (suc (suc (suc (suc (suc (suc (suc n))))))))) h = absurd (omega arith)

pub number_room : (n low high : ℕ) → (n ≡ 0 → ⊥) → n ≤ 8 → low < 256 → high < 256 ^ (n - 1) → low + 256 * high < 18446744073709551616
number_room n low high h m l g = omega (arith, number_fits n low high h l g, power_below n m)

-- ---- one layout after the other

pub read_behind : {A B : Type 0} (f : Layout A) (g : A → Layout B) (text : List ℕ) → read (behind f g) text ≡ carry (read f text) (λ a rest. read (g a) rest)
read_behind (Makes a) g text = refl
read_behind {A} {B} (Field why n test k) g text = go (number n text) (λ x rest. read_behind (k x) g rest)
  where
    Next : A → List ℕ → Read B
    Next a rest = read (g a) rest

    go : (r : Read ℕ) → ((x : ℕ) (rest : List ℕ) → read (behind (k x) g) rest ≡ carry (read (k x) rest) (λ a rest. read (g a) rest))
        → carry r (λ x rest. passed (test x) why text (read (behind (k x) g) rest))
        ≡ carry (carry r (λ x rest. passed (test x) why text (read (k x) rest))) (λ a rest. read (g a) rest)
    go (Err e) ih = refl
    go (Ok y) ih = by_test (test y.0)
      where
        by_test : (b : Bool) → passed b why text (read (behind (k y.0) g) y.1) ≡ carry (passed b why text (read (k y.0) y.1)) (λ a rest. read (g a) rest)
        by_test false = refl
        by_test true = ih y.0 y.1
read_behind {A} {B} (NameField test k) g text = go (number 1 text) (λ x rest. read_behind (k x) g rest)
  where
    Own : Type 0
    Own = (x : List ℕ) (rest : List ℕ) → read (behind (k x) g) rest ≡ carry (read (k x) rest) (λ a rest. read (g a) rest)

    by_test : Own → (name rest : List ℕ) (b : Bool)
        → passed b BadTag text (read (behind (k name) g) rest) ≡ carry (passed b BadTag text (read (k name) rest)) (λ a rest. read (g a) rest)
    by_test ih name rest false = refl
    by_test ih name rest true = ih name rest

    by_characters : Own → (q : Read (List ℕ))
        → carry q (λ name left. passed (test name) BadTag text (read (behind (k name) g) left))
        ≡ carry (carry q (λ name left. passed (test name) BadTag text (read (k name) left))) (λ a rest. read (g a) rest)
    by_characters ih (Err e) = refl
    by_characters ih (Ok q) = by_test ih q.0 q.1 (test q.0)

    by_length : Own → (n : ℕ) (rest : List ℕ) (b : Bool)
        → passed b BadTag text (carry (characters n rest) (λ name left. passed (test name) BadTag text (read (behind (k name) g) left)))
        ≡ carry (passed b BadTag text (carry (characters n rest) (λ name left. passed (test name) BadTag text (read (k name) left))))
        (λ a rest. read (g a) rest)
    by_length ih n rest false = refl
    by_length ih n rest true = by_characters ih (characters n rest)

    go : (r : Read ℕ) → Own
        → carry r (λ n rest. passed (is_name_length n) BadTag text
        (carry (characters n rest) (λ name left. passed (test name) BadTag text (read (behind (k name) g) left))))
        ≡ carry (carry r (λ n rest. passed (is_name_length n) BadTag text
        (carry (characters n rest) (λ name left. passed (test name) BadTag text (read (k name) left))))) (λ a rest. read (g a) rest)
    go (Err e) ih = refl
    go (Ok y) ih = by_length ih y.0 y.1 (is_name_length y.0)

pub step_ok : {A B : Type 0} (f : Layout A) (g : A → Layout B) (text : List ℕ) (x : A) (left : List ℕ) → read f text ≡ Ok (x, left)
    → read (behind f g) text ≡ read (g x) left
step_ok f g text x left e = read_behind f g text ∙ ap (λ r. carry r (λ a rest. read (g a) rest)) e

pub step_stops : {A B : Type 0} (f : Layout A) (g : A → Layout B) (text : List ℕ) (e : Stopped) → Stops (read f text) e → Stops (read (behind f g) text) e
step_stops f g text e h = subst (λ r. Stops r e) (sym (read_behind f g text)) (stops_carry (read f text) (λ a rest. read (g a) rest) e h)

-- ---- one number that has to pass a test

pub field_ok : (why : FaultKind) (n : ℕ) (test : ℕ → Bool) (text : List ℕ) (x : ℕ) (left : List ℕ) → number n text ≡ Ok (x, left) → IsTrue (test x)
    → read (Field why n test Makes) text ≡ Ok (x, left)
field_ok why n test text x left e t =
    ap (λ r. carry r (λ x rest. passed (test x) why text (Ok (x, rest)))) e ∙ ap (λ b. passed b why text (Ok (x, left))) t

pub field_refuses : (why : FaultKind) (n : ℕ) (test : ℕ → Bool) (text : List ℕ) (x : ℕ) (left : List ℕ) → number n text ≡ Ok (x, left)
    → test x ≡ false → Refuses (read (Field why n test Makes) text) why (length text)
field_refuses why n test text x left e t =
    let same : read (Field why n test Makes) text ≡ Err (why, text) =
    ap (λ r. carry r (λ x rest. passed (test x) why text (Ok (x, rest)))) e ∙ ap (λ b. passed b why text (Ok (x, left))) t in
    subst (λ r. Refuses r why (length text)) (sym same) (refl, refl)

pub field_stops : (why : FaultKind) (n : ℕ) (test : ℕ → Bool) (text : List ℕ) (e : Stopped) → Stops (number n text) e
    → Stops (read (Field why n test Makes) text) e
field_stops why n test text e h = stops_carry (number n text) (λ x rest. passed (test x) why text (Ok (x, rest))) e h

-- ---- so many of a layout

-- these, and then what is read
abbrev pub after : {A : Type 0} → List A → Read (List A) → Read (List A)
after xs r = carry r (λ ys rest. Ok (xs ++ ys, rest))

pub after_nothing : {A : Type 0} (r : Read (List A)) → r ≡ after [] r
after_nothing (Ok x) = refl
after_nothing (Err e) = refl

pub repeated_begins : {A : Type 0} (f : Layout A) (n : ℕ) (text : List ℕ) → read (repeated f n) text ≡ after [] (read (repeated f (n - 0)) text)
repeated_begins f n text =
    let e : n ≡ n - 0 = omega arith in ap (λ k. read (repeated f k) text) e ∙ after_nothing (read (repeated f (n - 0)) text)

pub after_step : {A : Type 0} (xs : List A) (x : A) (r : Read (List A)) → after xs (carry r (λ ys rest. Ok (x ∷ ys, rest))) ≡ after (xs ++ x ∷ []) r
after_step xs x (Ok y) = ap (λ z. Ok (z, y.1)) (sym (append_assoc xs (x ∷ []) y.0))
after_step xs x (Err e) = refl

suc_step : {A : Type 0} (f : Layout A) (n : ℕ) (x : A) (t left : List ℕ) → read f t ≡ Ok (x, left)
    → read (repeated f (suc n)) t ≡ carry (read (repeated f n) left) (λ ys rest. Ok (x ∷ ys, rest))
suc_step f n x t left e = step_ok f (λ x. behind (repeated f n) (λ xs. Makes (x ∷ xs))) t x left e ∙ read_behind (repeated f n) (λ xs. Makes (x ∷ xs)) left

pub repeated_more : {A : Type 0} (f : Layout A) (n i : ℕ) (xs : List A) (x : A) (t left : List ℕ) (r : Read (List A)) → i < n → read f t ≡ Ok (x, left)
    → r ≡ after xs (read (repeated f (n - i)) t) → r ≡ after (xs ++ x ∷ []) (read (repeated f (n - (i + 1))) left)
repeated_more f n i xs x t left r l e h =
    let more : n - i ≡ suc (n - (i + 1)) = omega arith in
    h ∙ ap (λ k. after xs (read (repeated f k) t)) more ∙ ap (after xs) (suc_step f (n - (i + 1)) x t left e)
    ∙ after_step xs x (read (repeated f (n - (i + 1))) left)

pub repeated_stops : {A : Type 0} (f : Layout A) (n i : ℕ) (xs : List A) (t : List ℕ) (r : Read (List A)) (e : Stopped) → i < n → Stops (read f t) e
    → r ≡ after xs (read (repeated f (n - i)) t) → Stops r e
repeated_stops f n i xs t r e l s h =
    let more : n - i ≡ suc (n - (i + 1)) = omega arith in
    subst (λ r. Stops r e) (sym (h ∙ ap (λ k. after xs (read (repeated f k) t)) more))
    (stops_carry (read (repeated f (suc (n - (i + 1)))) t) (λ ys rest. Ok (xs ++ ys, rest)) e
    (step_stops f (λ x. behind (repeated f (n - (i + 1))) (λ xs. Makes (x ∷ xs))) t e s))

pub repeated_ends : {A : Type 0} (f : Layout A) (n i : ℕ) (xs : List A) (t : List ℕ) (r : Read (List A)) → n ≤ i
    → r ≡ after xs (read (repeated f (n - i)) t) → r ≡ Ok (xs, t)
repeated_ends f n i xs t r l h =
    let none : n - i ≡ 0 = omega arith in
    h ∙ ap (λ k. after xs (read (repeated f k) t)) none ∙ ap (λ z. Ok (z, t)) (append-nil xs)

-- ---- seven numbers, one after the other

abbrev pub seven : {A : Type 0} (f0 f1 f2 f3 f4 f5 f6 : Layout ℕ) → ((x0 x1 x2 x3 x4 x5 x6 : ℕ) → A) → Layout A
seven f0 f1 f2 f3 f4 f5 f6 make =
    behind f0 (λ x0. behind f1
    (λ x1. behind f2 (λ x2. behind f3 (λ x3. behind f4 (λ x4. behind f5 (λ x5. behind f6 (λ x6. Makes (make x0 x1 x2 x3 x4 x5 x6))))))))

pub seven_ok : {A : Type 0} (f0 f1 f2 f3 f4 f5 f6 : Layout ℕ) (make : (x0 x1 x2 x3 x4 x5 x6 : ℕ) → A) (x0 x1 x2 x3 x4 x5 x6 : ℕ)
    (t0 t1 t2 t3 t4 t5 t6 t7 : List ℕ) → read f0 t0 ≡ Ok (x0, t1) → read f1 t1 ≡ Ok (x1, t2) → read f2 t2 ≡ Ok (x2, t3) → read f3 t3 ≡ Ok (x3, t4)
    → read f4 t4 ≡ Ok (x4, t5) → read f5 t5 ≡ Ok (x5, t6) → read f6 t6 ≡ Ok (x6, t7)
    → read (seven f0 f1 f2 f3 f4 f5 f6 make) t0 ≡ Ok (make x0 x1 x2 x3 x4 x5 x6, t7)
seven_ok f0 f1 f2 f3 f4 f5 f6 make x0 x1 x2 x3 x4 x5 x6 t0 t1 t2 t3 t4 t5 t6 t7 e0 e1 e2 e3 e4 e5 e6 =
    step_ok f0 (λ x0. behind f1
    (λ x1. behind f2 (λ x2. behind f3 (λ x3. behind f4 (λ x4. behind f5 (λ x5. behind f6 (λ x6. Makes (make x0 x1 x2 x3 x4 x5 x6)))))))) t0 x0 t1 e0
    ∙ step_ok f1 (λ x1. behind f2 (λ x2. behind f3 (λ x3. behind f4 (λ x4. behind f5 (λ x5. behind f6 (λ x6. Makes (make x0 x1 x2 x3 x4 x5 x6)))))))
    t1 x1 t2 e1 ∙ step_ok f2 (λ x2. behind f3 (λ x3. behind f4 (λ x4. behind f5 (λ x5. behind f6 (λ x6. Makes (make x0 x1 x2 x3 x4 x5 x6)))))) t2 x2
    t3 e2 ∙ step_ok f3 (λ x3. behind f4 (λ x4. behind f5 (λ x5. behind f6 (λ x6. Makes (make x0 x1 x2 x3 x4 x5 x6))))) t3 x3 t4 e3
    ∙ step_ok f4 (λ x4. behind f5 (λ x5. behind f6 (λ x6. Makes (make x0 x1 x2 x3 x4 x5 x6)))) t4 x4 t5 e4
    ∙ step_ok f5 (λ x5. behind f6 (λ x6. Makes (make x0 x1 x2 x3 x4 x5 x6))) t5 x5 t6 e5 ∙ step_ok f6 (λ x6. Makes (make x0 x1 x2 x3 x4 x5 x6)) t6 x6 t7 e6

pub seven_stops-0 : {A : Type 0} (f0 f1 f2 f3 f4 f5 f6 : Layout ℕ) (make : (x0 x1 x2 x3 x4 x5 x6 : ℕ) → A) (t0 : List ℕ) (e : Stopped)
    → Stops (read f0 t0) e → Stops (read (seven f0 f1 f2 f3 f4 f5 f6 make) t0) e
seven_stops-0 f0 f1 f2 f3 f4 f5 f6 make t0 e s =
    step_stops f0 (λ x0. behind f1
    (λ x1. behind f2 (λ x2. behind f3 (λ x3. behind f4 (λ x4. behind f5 (λ x5. behind f6 (λ x6. Makes (make x0 x1 x2 x3 x4 x5 x6)))))))) t0 e s

pub seven_stops-1 : {A : Type 0} (f0 f1 f2 f3 f4 f5 f6 : Layout ℕ) (make : (x0 x1 x2 x3 x4 x5 x6 : ℕ) → A) (x0 : ℕ) (t0 t1 : List ℕ) (e : Stopped)
    → read f0 t0 ≡ Ok (x0, t1) → Stops (read f1 t1) e → Stops (read (seven f0 f1 f2 f3 f4 f5 f6 make) t0) e
seven_stops-1 f0 f1 f2 f3 f4 f5 f6 make x0 t0 t1 e e0 s =
    subst (λ r. Stops r e) (sym
    (step_ok f0 (λ x0. behind f1
    (λ x1. behind f2 (λ x2. behind f3 (λ x3. behind f4 (λ x4. behind f5 (λ x5. behind f6 (λ x6. Makes (make x0 x1 x2 x3 x4 x5 x6)))))))) t0 x0 t1 e0))
    (step_stops f1 (λ x1. behind f2 (λ x2. behind f3 (λ x3. behind f4 (λ x4. behind f5 (λ x5. behind f6 (λ x6. Makes (make x0 x1 x2 x3 x4 x5 x6))))))) t1 e s)

pub seven_stops-2 : {A : Type 0} (f0 f1 f2 f3 f4 f5 f6 : Layout ℕ) (make : (x0 x1 x2 x3 x4 x5 x6 : ℕ) → A) (x0 x1 : ℕ) (t0 t1 t2 : List ℕ)
    (e : Stopped) → read f0 t0 ≡ Ok (x0, t1) → read f1 t1 ≡ Ok (x1, t2) → Stops (read f2 t2) e → Stops (read (seven f0 f1 f2 f3 f4 f5 f6 make) t0) e
seven_stops-2 f0 f1 f2 f3 f4 f5 f6 make x0 x1 t0 t1 t2 e e0 e1 s =
    subst (λ r. Stops r e) (sym
    (step_ok f0 (λ x0. behind f1
    (λ x1. behind f2 (λ x2. behind f3 (λ x3. behind f4 (λ x4. behind f5 (λ x5. behind f6 (λ x6. Makes (make x0 x1 x2 x3 x4 x5 x6)))))))) t0 x0 t1 e0
    ∙ step_ok f1 (λ x1. behind f2 (λ x2. behind f3 (λ x3. behind f4 (λ x4. behind f5 (λ x5. behind f6 (λ x6. Makes (make x0 x1 x2 x3 x4 x5 x6)))))))
    t1 x1 t2 e1)) (step_stops f2 (λ x2. behind f3 (λ x3. behind f4 (λ x4. behind f5 (λ x5. behind f6 (λ x6. Makes (make x0 x1 x2 x3 x4 x5 x6)))))) t2 e s)

pub seven_stops-3 : {A : Type 0} (f0 f1 f2 f3 f4 f5 f6 : Layout ℕ) (make : (x0 x1 x2 x3 x4 x5 x6 : ℕ) → A) (x0 x1 x2 : ℕ) (t0 t1 t2 t3 : List ℕ)
    (e : Stopped) → read f0 t0 ≡ Ok (x0, t1) → read f1 t1 ≡ Ok (x1, t2) → read f2 t2 ≡ Ok (x2, t3) → Stops (read f3 t3) e
    → Stops (read (seven f0 f1 f2 f3 f4 f5 f6 make) t0) e
seven_stops-3 f0 f1 f2 f3 f4 f5 f6 make x0 x1 x2 t0 t1 t2 t3 e e0 e1 e2 s =
    subst (λ r. Stops r e) (sym
    (step_ok f0 (λ x0. behind f1
    (λ x1. behind f2 (λ x2. behind f3 (λ x3. behind f4 (λ x4. behind f5 (λ x5. behind f6 (λ x6. Makes (make x0 x1 x2 x3 x4 x5 x6)))))))) t0 x0 t1 e0
    ∙ step_ok f1 (λ x1. behind f2 (λ x2. behind f3 (λ x3. behind f4 (λ x4. behind f5 (λ x5. behind f6 (λ x6. Makes (make x0 x1 x2 x3 x4 x5 x6)))))))
    t1 x1 t2 e1 ∙ step_ok f2 (λ x2. behind f3 (λ x3. behind f4 (λ x4. behind f5 (λ x5. behind f6 (λ x6. Makes (make x0 x1 x2 x3 x4 x5 x6)))))) t2 x2
    t3 e2)) (step_stops f3 (λ x3. behind f4 (λ x4. behind f5 (λ x5. behind f6 (λ x6. Makes (make x0 x1 x2 x3 x4 x5 x6))))) t3 e s)

pub seven_stops-4 : {A : Type 0} (f0 f1 f2 f3 f4 f5 f6 : Layout ℕ) (make : (x0 x1 x2 x3 x4 x5 x6 : ℕ) → A) (x0 x1 x2 x3 : ℕ) (t0 t1 t2 t3 t4 : List ℕ)
    (e : Stopped) → read f0 t0 ≡ Ok (x0, t1) → read f1 t1 ≡ Ok (x1, t2) → read f2 t2 ≡ Ok (x2, t3) → read f3 t3 ≡ Ok (x3, t4) → Stops (read f4 t4) e
    → Stops (read (seven f0 f1 f2 f3 f4 f5 f6 make) t0) e
seven_stops-4 f0 f1 f2 f3 f4 f5 f6 make x0 x1 x2 x3 t0 t1 t2 t3 t4 e e0 e1 e2 e3 s =
    subst (λ r. Stops r e) (sym
    (step_ok f0 (λ x0. behind f1
    (λ x1. behind f2 (λ x2. behind f3 (λ x3. behind f4 (λ x4. behind f5 (λ x5. behind f6 (λ x6. Makes (make x0 x1 x2 x3 x4 x5 x6)))))))) t0 x0 t1 e0
    ∙ step_ok f1 (λ x1. behind f2 (λ x2. behind f3 (λ x3. behind f4 (λ x4. behind f5 (λ x5. behind f6 (λ x6. Makes (make x0 x1 x2 x3 x4 x5 x6)))))))
    t1 x1 t2 e1 ∙ step_ok f2 (λ x2. behind f3 (λ x3. behind f4 (λ x4. behind f5 (λ x5. behind f6 (λ x6. Makes (make x0 x1 x2 x3 x4 x5 x6)))))) t2 x2
    t3 e2 ∙ step_ok f3 (λ x3. behind f4 (λ x4. behind f5 (λ x5. behind f6 (λ x6. Makes (make x0 x1 x2 x3 x4 x5 x6))))) t3 x3 t4 e3))
    (step_stops f4 (λ x4. behind f5 (λ x5. behind f6 (λ x6. Makes (make x0 x1 x2 x3 x4 x5 x6)))) t4 e s)

pub seven_stops-5 : {A : Type 0} (f0 f1 f2 f3 f4 f5 f6 : Layout ℕ) (make : (x0 x1 x2 x3 x4 x5 x6 : ℕ) → A) (x0 x1 x2 x3 x4 : ℕ)
    (t0 t1 t2 t3 t4 t5 : List ℕ) (e : Stopped) → read f0 t0 ≡ Ok (x0, t1) → read f1 t1 ≡ Ok (x1, t2) → read f2 t2 ≡ Ok (x2, t3)
    → read f3 t3 ≡ Ok (x3, t4) → read f4 t4 ≡ Ok (x4, t5) → Stops (read f5 t5) e → Stops (read (seven f0 f1 f2 f3 f4 f5 f6 make) t0) e
seven_stops-5 f0 f1 f2 f3 f4 f5 f6 make x0 x1 x2 x3 x4 t0 t1 t2 t3 t4 t5 e e0 e1 e2 e3 e4 s =
    subst (λ r. Stops r e) (sym
    (step_ok f0 (λ x0. behind f1
    (λ x1. behind f2 (λ x2. behind f3 (λ x3. behind f4 (λ x4. behind f5 (λ x5. behind f6 (λ x6. Makes (make x0 x1 x2 x3 x4 x5 x6)))))))) t0 x0 t1 e0
    ∙ step_ok f1 (λ x1. behind f2 (λ x2. behind f3 (λ x3. behind f4 (λ x4. behind f5 (λ x5. behind f6 (λ x6. Makes (make x0 x1 x2 x3 x4 x5 x6)))))))
    t1 x1 t2 e1 ∙ step_ok f2 (λ x2. behind f3 (λ x3. behind f4 (λ x4. behind f5 (λ x5. behind f6 (λ x6. Makes (make x0 x1 x2 x3 x4 x5 x6)))))) t2 x2
    t3 e2 ∙ step_ok f3 (λ x3. behind f4 (λ x4. behind f5 (λ x5. behind f6 (λ x6. Makes (make x0 x1 x2 x3 x4 x5 x6))))) t3 x3 t4 e3
    ∙ step_ok f4 (λ x4. behind f5 (λ x5. behind f6 (λ x6. Makes (make x0 x1 x2 x3 x4 x5 x6)))) t4 x4 t5 e4))
    (step_stops f5 (λ x5. behind f6 (λ x6. Makes (make x0 x1 x2 x3 x4 x5 x6))) t5 e s)

pub seven_stops-6 : {A : Type 0} (f0 f1 f2 f3 f4 f5 f6 : Layout ℕ) (make : (x0 x1 x2 x3 x4 x5 x6 : ℕ) → A) (x0 x1 x2 x3 x4 x5 : ℕ)
    (t0 t1 t2 t3 t4 t5 t6 : List ℕ) (e : Stopped) → read f0 t0 ≡ Ok (x0, t1) → read f1 t1 ≡ Ok (x1, t2) → read f2 t2 ≡ Ok (x2, t3)
    → read f3 t3 ≡ Ok (x3, t4) → read f4 t4 ≡ Ok (x4, t5) → read f5 t5 ≡ Ok (x5, t6) → Stops (read f6 t6) e
    → Stops (read (seven f0 f1 f2 f3 f4 f5 f6 make) t0) e
seven_stops-6 f0 f1 f2 f3 f4 f5 f6 make x0 x1 x2 x3 x4 x5 t0 t1 t2 t3 t4 t5 t6 e e0 e1 e2 e3 e4 e5 s =
    subst (λ r. Stops r e) (sym
    (step_ok f0 (λ x0. behind f1
    (λ x1. behind f2 (λ x2. behind f3 (λ x3. behind f4 (λ x4. behind f5 (λ x5. behind f6 (λ x6. Makes (make x0 x1 x2 x3 x4 x5 x6)))))))) t0 x0 t1 e0
    ∙ step_ok f1 (λ x1. behind f2 (λ x2. behind f3 (λ x3. behind f4 (λ x4. behind f5 (λ x5. behind f6 (λ x6. Makes (make x0 x1 x2 x3 x4 x5 x6)))))))
    t1 x1 t2 e1 ∙ step_ok f2 (λ x2. behind f3 (λ x3. behind f4 (λ x4. behind f5 (λ x5. behind f6 (λ x6. Makes (make x0 x1 x2 x3 x4 x5 x6)))))) t2 x2
    t3 e2 ∙ step_ok f3 (λ x3. behind f4 (λ x4. behind f5 (λ x5. behind f6 (λ x6. Makes (make x0 x1 x2 x3 x4 x5 x6))))) t3 x3 t4 e3
    ∙ step_ok f4 (λ x4. behind f5 (λ x5. behind f6 (λ x6. Makes (make x0 x1 x2 x3 x4 x5 x6)))) t4 x4 t5 e4
    ∙ step_ok f5 (λ x5. behind f6 (λ x6. Makes (make x0 x1 x2 x3 x4 x5 x6))) t5 x5 t6 e5)) (step_stops f6 (λ x6. Makes (make x0 x1 x2 x3 x4 x5 x6)) t6 e s)

-- ---- what is answered

pub reads_err : {A T : Type 0} (view : T → A) (r : Read A) (answer : Result T Stopped) (left : List ℕ) (e : Stopped)
    → (y : Stopped) × (answer ≡ Err y) × (y ≡ e) → Stops r e → Reads view r answer left
reads_err view r answer left e p s = subst (λ z. Reads view r z left) (sym p.1) (subst (λ z. Stops r z) (sym p.2) s)

pub reads_behind : {A B T : Type 0} (view : T → B) (f : Layout A) (g : A → Layout B) (text : List ℕ) (x : A) (left : List ℕ)
    (answer : Result T Stopped) (new : List ℕ) → read f text ≡ Ok (x, left)
    → Reads view (read (g x) left) answer new → Reads view (read (behind f g) text) answer new
reads_behind view f g text x left answer new e h = subst (λ r. Reads view r answer new) (sym (step_ok f g text x left e)) h
