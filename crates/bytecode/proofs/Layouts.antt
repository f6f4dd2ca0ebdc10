-- A layout is read as it is spelled, and what is read is spelled there.
use Rattle.std.proofs.Common.{◌≡◌, ℕ, zero, suc, ◌+◌, ◌*◌, ◌/◌, ◌%◌, ◌^◌, ◌<◌, List, [], ◌∷◌, ◌++◌, length, map, Bool, true, false, Ok, Err, refl}
use Rattle.std.proofs.Common.{sym, ap, ◌∙◌, subst, arith, append_assoc, IsTrue}
use Rattle.std.specs.List.{AllByRecursion as Each}
use native.Mathlib.Numerals.{unary_clauses}
use Rattle.bytecode.specs.Written.{Number, sized, byte, little, bytes_of, name_numbers}
use Rattle.bytecode.specs.Writable.{Fits}
use Rattle.bytecode.specs.Layouts.{FaultKind, BadTag, Layout, Makes, Field, NameField, Read, carry, number, characters, passed, is_name_length, read, behind}

-- these numbers are a's, in this layout
abbrev pub Spells : {A : Type 0} → Layout A → List Number → A → Type 0
Spells (Makes a) ns b = (ns ≡ []) × (a ≡ b)
Spells (Field why n test next) ns b =
    (x : ℕ) × (rest : List Number) × (ns ≡ sized n x ∷ rest) × IsTrue (test x) × Spells (next x) rest b
Spells (NameField test next) ns b =
    (name : List ℕ) × (rest : List Number) × (ns ≡ name_numbers name ++ rest) × IsTrue (is_name_length (length name)) × IsTrue (test name)
    × Spells (next name) rest b

-- ---- one number

parts : (x : ℕ) → x % 256 + 256 * (x / 256) ≡ x
parts x = omega arith

smaller : (n x : ℕ) → x < 256 ^ suc n → x / 256 < 256 ^ n
smaller n x h = let e = simp unary_clauses at h in omega arith

pub number_reads : (n x : ℕ) → x < 256 ^ n → (rest : List ℕ) → number n (little n x ++ rest) ≡ Ok (x, rest)
number_reads zero x h rest = let e : 0 ≡ x = omega (arith, simp unary_clauses at h) in ap (λ z. Ok (z, rest)) e
number_reads (suc n) x h rest =
    ap (λ r. carry r (λ y rest. Ok (x % 256 + 256 * y, rest))) (number_reads n (x / 256) (smaller n x h) rest) ∙ ap (λ z. Ok (z, rest)) (parts x)

-- ---- a name

low_byte : (b : ℕ) → b < 256 ^ 1 → b % 256 ≡ b
low_byte b h = omega (arith, h)

name_fits : (name : List ℕ) (more : List Number) → Each Fits (map byte name ++ more) → Each Fits more
name_fits [] more h = h
name_fits (b ∷ bs) more h = name_fits bs more h.1

pub name_bytes : (name : List ℕ) (more : List Number) → Each Fits (map byte name ++ more) → bytes_of (map byte name ++ more) ≡ name ++ bytes_of more
name_bytes [] more h = refl
name_bytes (b ∷ bs) more h = ap (λ z. z ∷ bytes_of (map byte bs ++ more)) (low_byte b h.0) ∙ ap (λ z. b ∷ z) (name_bytes bs more h.1)

pub characters_read : (name rest : List ℕ) → characters (length name) (name ++ rest) ≡ Ok (name, rest)
characters_read [] rest = refl
characters_read (b ∷ bs) rest = ap (λ r. carry r (λ bs rest. Ok (b ∷ bs, rest))) (characters_read bs rest)

-- ---- a layout is read as it is spelled

pub layout_reads : {A : Type 0} (f : Layout A) (ns : List Number) (a : A) → Spells f ns a → Each Fits ns → (rest : List ℕ)
    → read f (bytes_of ns ++ rest) ≡ Ok (a, rest)
layout_reads (Makes b) ns a h fits rest = ap (λ z. Ok (b, bytes_of z ++ rest)) h.0 ∙ ap (λ z. Ok (z, rest)) h.1
layout_reads (Field why n test next) ns a h fits rest =
    let x = h.0 in
    let more = h.1 in
    let within : (x < 256 ^ n) × Each Fits more = subst (Each Fits) h.2 fits in
    let text : bytes_of ns ++ rest ≡ little n x ++ (bytes_of more ++ rest) =
    ap (λ z. bytes_of z ++ rest) h.2 ∙ append_assoc (little n x) (bytes_of more) rest in
    ap (λ r. carry r (λ y left. passed (test y) why (bytes_of ns ++ rest) (read (next y) left)))
    (ap (number n) text ∙ number_reads n x within.0 (bytes_of more ++ rest))
    ∙ ap (λ b. passed b why (bytes_of ns ++ rest) (read (next x) (bytes_of more ++ rest))) h.3
    ∙ layout_reads (next x) more a h.4 within.1 rest
layout_reads {A} (NameField test next) ns a h fits rest =
    let name = h.0 in
    let more = h.1 in
    let whole = bytes_of ns ++ rest in
    let within : (length name < 256 ^ 1) × Each Fits (map byte name ++ more) = subst (Each Fits) h.2 fits in
    let behind_length : bytes_of (map byte name ++ more) ++ rest ≡ name ++ (bytes_of more ++ rest) =
    ap (λ z. z ++ rest) (name_bytes name more within.1) ∙ append_assoc name (bytes_of more) rest in
    let text : whole ≡ little 1 (length name) ++ (name ++ (bytes_of more ++ rest)) =
    ap (λ z. bytes_of z ++ rest) h.2 ∙ ap (λ z. little 1 (length name) ++ z) behind_length in
    let after : List ℕ → List ℕ → Read A = λ bs left. passed (test bs) BadTag whole (read (next bs) left) in
    ap (λ r. carry r (λ n left. passed (is_name_length n) BadTag whole (carry (characters n left) after)))
    (ap (number 1) text ∙ number_reads 1 (length name) within.0 (name ++ (bytes_of more ++ rest)))
    ∙ ap (λ b. passed b BadTag whole (carry (characters (length name) (name ++ (bytes_of more ++ rest))) after)) h.3
    ∙ ap (λ r. carry r after) (characters_read name (bytes_of more ++ rest))
    ∙ ap (λ b. passed b BadTag whole (read (next name) (bytes_of more ++ rest))) h.4
    ∙ layout_reads (next name) more a h.5 (name_fits name more within.1) rest

-- ---- and what is read is spelled there: the text is of bytes

abbrev pub AreBytes : List ℕ → Type 0
AreBytes xs = Each (λ x. x < 256) xs

record NumberRead (n : ℕ) (text : List ℕ) (x : ℕ) (rest : List ℕ) : Type 0 where
  small : x < 256 ^ n
  same : text ≡ little n x ++ rest
  bytes : AreBytes rest

ok_same : {A : Type 0} (a b : A) (xs ys : List ℕ) → ◌≡◌ {A = Read A} (Ok (a, xs)) (Ok (b, ys)) → (a ≡ b) × (xs ≡ ys)
ok_same {A} a b xs ys e = let p : ◌≡◌ {A = A × List ℕ} (a, xs) (b, ys) = cc in (ap (λ z. z.0) p, ap (λ z. z.1) p)

err_ok : {A X : Type 0} (e : FaultKind × List ℕ) (a : A × List ℕ) → ◌≡◌ {A = Read A} (Err e) (Ok a) → X
err_ok e a h = cc

number_spelled : (n : ℕ) (text : List ℕ) (x : ℕ) (rest : List ℕ) → AreBytes text → number n text ≡ Ok (x, rest) → NumberRead n text x rest
number_spelled zero text x rest bs h =
    let e = ok_same 0 x text rest h in
    let z : x ≡ 0 = sym e.0 in
    record { small = simp unary_clauses (omega arith); same = e.1; bytes = subst AreBytes e.1 bs }
number_spelled (suc n) [] x rest bs h = err_ok _ _ h
number_spelled (suc n) (b ∷ text) x rest bs h = go (number n text) refl h (λ y left e. number_spelled n text y left bs.1 e)
  where
    go : (r : Read ℕ) → number n text ≡ r → carry r (λ y left. Ok (b + 256 * y, left)) ≡ Ok (x, rest)
        → ((y : ℕ) (left : List ℕ) → number n text ≡ Ok (y, left) → NumberRead n text y left) → NumberRead (suc n) (b ∷ text) x rest
    go (Ok y) e h ih = made (y.0) (y.1) (ih y.0 y.1 e) (ok_same (b + 256 * y.0) x y.1 rest h)
      where
        made : (y : ℕ) (left : List ℕ) → NumberRead n text y left → (b + 256 * y ≡ x) × (left ≡ rest) → NumberRead (suc n) (b ∷ text) x rest
        made y left m e =
            let low : x % 256 ≡ b = omega (arith, e.0, bs.0) in
            let high : x / 256 ≡ y = omega (arith, e.0, bs.0) in
            let small : y < 256 ^ n = m.small in
            record {
              small = simp unary_clauses (omega (arith, e.0, bs.0));
              same = ap (λ z. b ∷ z) m.same ∙ ap (λ z. z ∷ (little n y ++ left)) (sym low) ∙ ap (λ z. x % 256 ∷ (little n z ++ left)) (sym high)
                  ∙ ap (λ z. x % 256 ∷ (little n (x / 256) ++ z)) e.1;
              bytes = subst AreBytes e.1 m.bytes;
            }
    go (Err f) e h ih = err_ok _ _ h

record CharactersRead (n : ℕ) (text name rest : List ℕ) : Type 0 where
  long : length name ≡ n
  same : text ≡ name ++ rest
  own : AreBytes name
  bytes : AreBytes rest

characters_spelled : (n : ℕ) (text name rest : List ℕ) → AreBytes text → characters n text ≡ Ok (name, rest) → CharactersRead n text name rest
characters_spelled zero text name rest bs h =
    let e = ok_same [] name text rest h in
    record { long = ap length (sym e.0); same = e.1 ∙ ap (λ z. z ++ rest) e.0; own = subst AreBytes e.0 tt; bytes = subst AreBytes e.1 bs }
characters_spelled (suc n) [] name rest bs h = err_ok _ _ h
characters_spelled (suc n) (b ∷ text) name rest bs h = go (characters n text) refl h (λ y left e. characters_spelled n text y left bs.1 e)
  where
    go : (r : Read (List ℕ)) → characters n text ≡ r → carry r (λ y left. Ok (b ∷ y, left)) ≡ Ok (name, rest)
        → ((y left : List ℕ) → characters n text ≡ Ok (y, left) → CharactersRead n text y left) → CharactersRead (suc n) (b ∷ text) name rest
    go (Ok y) e h ih = made (y.0) (y.1) (ih y.0 y.1 e) (ok_same (b ∷ y.0) name y.1 rest h)
      where
        made : (y left : List ℕ) → CharactersRead n text y left → ((b ∷ y) ≡ name) × (left ≡ rest) → CharactersRead (suc n) (b ∷ text) name rest
        made y left m e = record {
          long = ap length (sym e.0) ∙ ap suc m.long;
          same = ap (λ z. b ∷ z) m.same ∙ ap (λ z. z ++ left) e.0 ∙ ap (λ z. name ++ z) e.1;
          own = subst AreBytes e.0 (bs.0, m.own);
          bytes = subst AreBytes e.1 m.bytes;
        }
    go (Err f) e h ih = err_ok _ _ h

pub record Spelled {A : Type 0} (f : Layout A) (text : List ℕ) (a : A) (rest : List ℕ) : Type 0 where
  pub numbers : List Number
  pub spells : Spells f numbers a
  pub fits : Each Fits numbers
  pub same : text ≡ bytes_of numbers ++ rest
  pub bytes : AreBytes rest

name_all_fits : (name : List ℕ) (more : List Number) → AreBytes name → Each Fits more → Each Fits (map byte name ++ more)
name_all_fits [] more h fits = fits
name_all_fits (b ∷ bs) more h fits = (h.0, name_all_fits bs more h.1 fits)

pub layout_spelled : {A : Type 0} (f : Layout A) (text : List ℕ) (a : A) (rest : List ℕ) → AreBytes text → read f text ≡ Ok (a, rest) → Spelled f text a rest
layout_spelled (Makes b) text a rest bs h =
    let e = ok_same b a text rest h in
    record { numbers = []; spells = (refl, e.0); fits = tt; same = e.1; bytes = subst AreBytes e.1 bs }
layout_spelled {A} (Field why n test next) text a rest bs h = go (number n text) refl h (λ x left b e. layout_spelled (next x) left a rest b e)
  where
    go : (r : Read ℕ) → number n text ≡ r → carry r (λ x left. passed (test x) why text (read (next x) left)) ≡ Ok (a, rest)
        → ((x : ℕ) (left : List ℕ) → AreBytes left → read (next x) left ≡ Ok (a, rest) → Spelled (next x) left a rest)
        → Spelled (Field why n test next) text a rest
    go (Err f) e h ih = err_ok _ _ h
    go (Ok y) e h ih = by_test (test y.0) refl h
      where
        m : NumberRead n text y.0 y.1
        m = number_spelled n text y.0 y.1 bs e

        by_test : (b : Bool) → test y.0 ≡ b → passed b why text (read (next y.0) y.1) ≡ Ok (a, rest) → Spelled (Field why n test next) text a rest
        by_test false l h = err_ok _ _ h
        by_test true l h =
            let r = ih y.0 y.1 m.bytes h in
            record {
              numbers = sized n y.0 ∷ r.numbers;
              spells = (y.0, r.numbers, refl, l, r.spells);
              fits = (m.small, r.fits);
              same = m.same ∙ ap (λ z. little n y.0 ++ z) r.same ∙ sym (append_assoc (little n y.0) (bytes_of r.numbers) rest);
              bytes = r.bytes;
            }
layout_spelled {A} (NameField test next) text a rest bs h = go (number 1 text) refl h (λ x left b e. layout_spelled (next x) left a rest b e)
  where
    go : (r : Read ℕ) → number 1 text ≡ r
        → carry r (λ n left. passed (is_name_length n) BadTag text
        (carry (characters n left) (λ name more. passed (test name) BadTag text (read (next name) more)))) ≡ Ok (a, rest)
        → ((x left : List ℕ) → AreBytes left → read (next x) left ≡ Ok (a, rest) → Spelled (next x) left a rest) → Spelled (NameField test next) text a rest
    go (Err f) e h ih = err_ok _ _ h
    go (Ok y) e h ih = by_length (is_name_length y.0) refl h
      where
        m : NumberRead 1 text y.0 y.1
        m = number_spelled 1 text y.0 y.1 bs e

        named : (n : List ℕ) (more : List ℕ) → IsTrue (is_name_length y.0) → characters y.0 y.1 ≡ Ok (n, more) → (b : Bool) → test n ≡ b
            → passed b BadTag text (read (next n) more) ≡ Ok (a, rest) → Spelled (NameField test next) text a rest
        named n more l c false t h = err_ok _ _ h
        named n more l c true t h =
            let p = characters_spelled y.0 y.1 n more m.bytes c in
            let r = ih n more p.bytes h in
            let long : y.0 ≡ length n = sym p.long in
            let fits : Each Fits (map byte n ++ r.numbers) = name_all_fits n r.numbers p.own r.fits in
            record {
              numbers = name_numbers n ++ r.numbers;
              spells = (n, r.numbers, refl, subst (λ z. IsTrue (is_name_length z)) long l, t, r.spells);
              fits = (subst (λ z. z < 256 ^ 1) long m.small, fits);
              same =
                  m.same ∙ ap (λ z. little 1 z ++ y.1) long ∙ ap (λ z. little 1 (length n) ++ z)
                  (p.same ∙ ap (λ z. n ++ z) r.same ∙ sym (append_assoc n (bytes_of r.numbers) rest) ∙ ap (λ z. z ++ rest) (sym (name_bytes n r.numbers fits)));
              bytes = r.bytes;
            }

        by_text : IsTrue (is_name_length y.0) → (q : Read (List ℕ)) → characters y.0 y.1 ≡ q
            → carry q (λ name more. passed (test name) BadTag text (read (next name) more)) ≡ Ok (a, rest) → Spelled (NameField test next) text a rest
        by_text l (Err f) e h = err_ok _ _ h
        by_text l (Ok q) e h = named q.0 q.1 l e (test q.0) refl h

        by_length : (b : Bool) → is_name_length y.0 ≡ b
            → passed b BadTag text (carry (characters y.0 y.1) (λ name more. passed (test name) BadTag text (read (next name) more))) ≡ Ok (a, rest)
            → Spelled (NameField test next) text a rest
        by_length false l h = err_ok _ _ h
        by_length true l h = by_text l (characters y.0 y.1) refl h

-- ---- one layout after the other

pub behind_spells : {A B : Type 0} (f : Layout A) (g : A → Layout B) (xs ys : List Number) (a : A) (b : B) → Spells f xs a → Spells (g a) ys b
    → Spells (behind f g) (xs ++ ys) b
behind_spells (Makes c) g xs ys a b h s = subst (λ z. Spells (g c) (z ++ ys) b) (sym h.0) (subst (λ z. Spells (g z) ys b) (sym h.1) s)
behind_spells (Field why n test k) g xs ys a b h s = (h.0, h.1 ++ ys, ap (λ z. z ++ ys) h.2, h.3, behind_spells (k h.0) g h.1 ys a b h.4 s)
behind_spells (NameField test k) g xs ys a b h s =
    (h.0, h.1 ++ ys, ap (λ z. z ++ ys) h.2 ∙ append_assoc (name_numbers h.0) h.1 ys, h.3, h.4, behind_spells (k h.0) g h.1 ys a b h.5 s)

-- and what is spelled by both is spelled by each
pub record Both {A B : Type 0} (f : Layout A) (g : A → Layout B) (ns : List Number) (b : B) : Type 0 where
  pub value : A
  pub first : List Number
  pub second : List Number
  pub apart : ns ≡ first ++ second
  pub firsts : Spells f first value
  pub seconds : Spells (g value) second b

pub behind_apart : {A B : Type 0} (f : Layout A) (g : A → Layout B) (ns : List Number) (b : B) → Spells (behind f g) ns b → Both f g ns b
behind_apart (Makes c) g ns b h = record { value = c; first = []; second = ns; apart = refl; firsts = (refl, refl); seconds = h }
behind_apart (Field why n test k) g ns b h =
    let r = behind_apart (k h.0) g h.1 b h.4 in
    record {
      value = r.value;
      first = sized n h.0 ∷ r.first;
      second = r.second;
      apart = h.2 ∙ ap (λ z. sized n h.0 ∷ z) r.apart;
      firsts = (h.0, r.first, refl, h.3, r.firsts);
      seconds = r.seconds;
    }
behind_apart (NameField test k) g ns b h =
    let r = behind_apart (k h.0) g h.1 b h.5 in
    record {
      value = r.value;
      first = name_numbers h.0 ++ r.first;
      second = r.second;
      apart = h.2 ∙ ap (λ z. name_numbers h.0 ++ z) r.apart ∙ sym (append_assoc (name_numbers h.0) r.first r.second);
      firsts = (h.0, r.first, refl, h.3, h.4, r.firsts);
      seconds = r.seconds;
    }
