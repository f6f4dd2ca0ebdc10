-- Names and bodies are read one by one.
use Rattle.std.proofs.Common.{◌≡◌, ℕ, zero, suc, ◌+◌, ◌-◌, ◌<◌, ◌≤◌, List, [], ◌∷◌, ◌++◌, append-nil, length, take, drop, Bool, true, false, Ok, Err}
use Rattle.std.proofs.Common.{refl, sym, ap, ◌∙◌, subst, arith, not, ◌&&◌}
use Rattle.std.specs.List.{list_all, list_any}
use Rattle.std.specs.Str.{bytes_eq, IsAscii, IsUtf8}
use Rattle.std.proofs.lemmas.Bool.{and_parts}
use Rattle.std.proofs.lemmas.Bool.Decides.{nat_tests}
use Rattle.std.proofs.lemmas.List.{drop-drop}
use Rattle.std.proofs.lemmas.Str.{IsUtf8-from_ascii}
use Rattle.sc_text.specs.Name.{is_name, is_name_byte}
use Rattle.bytecode.specs.declared.fault.Stopped.{Stopped}
use Rattle.bytecode.specs.Raw.{Raw, RawFunction}
use Rattle.bytecode.specs.Layouts.{Truncated, BadTag, Layout, Makes, Field, NameField, Read, carry, number, characters, passed, is_name_length, read, behind}
use Rattle.bytecode.specs.Writable.{is_new_name}
use Rattle.bytecode.specs.Decoded.{Head, body_layout, bodies_layout, function_of, names_layout}
use Rattle.bytecode.specs.Decoding.{function_layout}
use Rattle.bytecode.specs.Versions.{Counting}
use Rattle.bytecode.specs.inner.Reading.{Refuses, Stops}
use Rattle.bytecode.proofs.Reading.{stops_carry, read_behind, after, after_nothing, after_step}

-- ---- bytes as they stand

pub characters_there : (n : ℕ) (t : List ℕ) → n ≤ length t → characters n t ≡ Ok (take n t, drop n t)
characters_there zero t h = refl
characters_there (suc n) [] h = absurd (omega (arith, h))
characters_there (suc n) (b ∷ t) h = ap (λ r. carry r (λ bs rest. Ok (b ∷ bs, rest))) (characters_there n t (omega (arith, h)))

pub characters_short : (n : ℕ) (t : List ℕ) → length t < n → characters n t ≡ Err (Truncated, [])
characters_short zero t h = absurd (omega (arith, h))
characters_short (suc n) [] h = refl
characters_short (suc n) (b ∷ t) h = ap (λ r. carry r (λ bs rest. Ok (b ∷ bs, rest))) (characters_short n t (omega (arith, h)))

pub characters_here : (text : List ℕ) (place count : ℕ) (now : List ℕ) → now ≡ drop place text → count ≤ length now
    → characters count now ≡ Ok (take (place + count - place) (drop place text), drop (place + count) text)
characters_here text place count now e h =
    let size : count ≡ place + count - place = omega arith in
    characters_there count now h ∙ ap (λ t. Ok (take count t, drop count t)) e
    ∙ ap (λ n. Ok (take n (drop place text), drop count (drop place text))) size
    ∙ ap (λ t. Ok (take (place + count - place) (drop place text), t)) (drop-drop count place text)

pub characters_end : (count : ℕ) (now : List ℕ) → length now < count → Refuses (characters count now) Truncated 0
characters_end count now h = subst (λ r. Refuses r Truncated 0) (sym (characters_short count now h)) (refl, refl)

-- ---- what is no text is no name

name_byte_below : (byte : ℕ) → is_name_byte byte ≡ true → byte < 128
name_byte_below byte h = grind (arith, nat_tests)

are_ascii : (bytes : List ℕ) → list_all is_name_byte bytes ≡ true → IsAscii bytes
are_ascii [] h i = omega arith
are_ascii (byte ∷ more) h zero = name_byte_below byte (and_parts (is_name_byte byte) (list_all is_name_byte more) h).0
are_ascii (byte ∷ more) h (suc i) = are_ascii more (and_parts (is_name_byte byte) (list_all is_name_byte more) h).1 i

name_is_text : (name : List ℕ) → is_name name ≡ true → IsUtf8 name
unfolding is_name
name_is_text name h = IsUtf8-from_ascii name (are_ascii name (and_parts _ _ h).1)

pub no_text_no_name : (earlier : List (List ℕ)) (bytes : List ℕ) → (IsUtf8 bytes → ⊥) → is_new_name earlier bytes ≡ false
no_text_no_name earlier bytes h = go (is_name bytes) refl
  where
    go : (b : Bool) → is_name bytes ≡ b → is_new_name earlier bytes ≡ false
    go true e = absurd (h (name_is_text bytes e))
    go false e = ap (λ b. b && not (list_any (bytes_eq bytes) earlier)) e

-- ---- one name

abbrev pub length_layout : Layout ℕ
length_layout = Field BadTag 1 is_name_length Makes

abbrev behind_length : (List ℕ → Bool) → List ℕ → ℕ → List ℕ → Read (List ℕ)
behind_length test t n rest = carry (characters n rest) (λ name left. passed (test name) BadTag t (Ok (name, left)))

name_read : (test : List ℕ → Bool) (t : List ℕ) → read (NameField test Makes) t ≡ carry (read length_layout t) (behind_length test t)
name_read test t = go (number 1 t)
  where
    by_test : (n : ℕ) (rest : List ℕ) (b : Bool)
        → passed b BadTag t (behind_length test t n rest) ≡ carry (passed b BadTag t (Ok (n, rest))) (behind_length test t)
    by_test n rest false = refl
    by_test n rest true = refl

    go : (r : Read ℕ) → carry r (λ n rest. passed (is_name_length n) BadTag t (behind_length test t n rest))
        ≡ carry (carry r (λ n rest. passed (is_name_length n) BadTag t (Ok (n, rest)))) (behind_length test t)
    go (Err e) = refl
    go (Ok y) = by_test y.0 y.1 (is_name_length y.0)

name_from : (test : List ℕ → Bool) (n : ℕ) (t0 t1 : List ℕ) → read length_layout t0 ≡ Ok (n, t1) → read (NameField test Makes) t0 ≡ behind_length test t0 n t1
name_from test n t0 t1 e = name_read test t0 ∙ ap (λ r. carry r (behind_length test t0)) e

name_passed : (test : List ℕ → Bool) (n : ℕ) (t0 t1 bytes t2 : List ℕ) → read length_layout t0 ≡ Ok (n, t1) → characters n t1 ≡ Ok (bytes, t2)
    → read (NameField test Makes) t0 ≡ passed (test bytes) BadTag t0 (Ok (bytes, t2))
name_passed test n t0 t1 bytes t2 e h = name_from test n t0 t1 e ∙ ap (λ r. carry r (λ name left. passed (test name) BadTag t0 (Ok (name, left)))) h

pub name_ok : (test : List ℕ → Bool) (n : ℕ) (t0 t1 bytes t2 : List ℕ) → read length_layout t0 ≡ Ok (n, t1) → characters n t1 ≡ Ok (bytes, t2)
    → test bytes ≡ true
    → read (NameField test Makes) t0 ≡ Ok (bytes, t2)
name_ok test n t0 t1 bytes t2 e h y = name_passed test n t0 t1 bytes t2 e h ∙ ap (λ b. passed b BadTag t0 (Ok (bytes, t2))) y

pub name_refused : (test : List ℕ → Bool) (n : ℕ) (t0 t1 bytes t2 : List ℕ) → read length_layout t0 ≡ Ok (n, t1) → characters n t1 ≡ Ok (bytes, t2)
    → test bytes ≡ false
    → Refuses (read (NameField test Makes) t0) BadTag (length t0)
name_refused test n t0 t1 bytes t2 e h y =
    subst (λ r. Refuses r BadTag (length t0)) (sym (name_passed test n t0 t1 bytes t2 e h ∙ ap (λ b. passed b BadTag t0 (Ok (bytes, t2))) y)) (refl, refl)

pub name_stops_at_length : (test : List ℕ → Bool) (t0 : List ℕ) (e : Stopped) → Stops (read length_layout t0) e → Stops (read (NameField test Makes) t0) e
name_stops_at_length test t0 e s = subst (λ r. Stops r e) (sym (name_read test t0)) (stops_carry (read length_layout t0) (behind_length test t0) e s)

pub name_stops_inside : (test : List ℕ → Bool) (n : ℕ) (t0 t1 : List ℕ) (e : Stopped) → read length_layout t0 ≡ Ok (n, t1)
    → Stops (characters n t1) e → Stops (read (NameField test Makes) t0) e
name_stops_inside test n t0 t1 e h s =
    subst (λ r. Stops r e) (sym (name_from test n t0 t1 h)) (stops_carry (characters n t1) (λ name left. passed (test name) BadTag t0 (Ok (name, left))) e s)

-- ---- all names

abbrev then_names : List (List ℕ) → ℕ → List ℕ → List ℕ → Read (List (List ℕ))
then_names earlier n name rest = carry (read (names_layout (name ∷ earlier) n) rest) (λ names left. Ok (name ∷ names, left))

names_step : (earlier : List (List ℕ)) (n : ℕ) (t : List ℕ)
    → read (names_layout earlier (suc n)) t ≡ carry (read (NameField (is_new_name earlier) Makes) t) (then_names earlier n)
names_step earlier n t = read_behind (NameField (is_new_name earlier) Makes) next t ∙ go (read (NameField (is_new_name earlier) Makes) t)
  where
    next : List ℕ → Layout (List (List ℕ))
    next name = behind (names_layout (name ∷ earlier) n) (λ names. Makes (name ∷ names))

    go : (r : Read (List ℕ)) → carry r (λ name rest. read (next name) rest) ≡ carry r (then_names earlier n)
    go (Err e) = refl
    go (Ok y) = read_behind (names_layout (y.0 ∷ earlier) n) (λ names. Makes (y.0 ∷ names)) y.1

one_more : (n i : ℕ) → i < n → n - i ≡ suc (n - (i + 1))
one_more n i l = omega arith

pub names_begin : (n : ℕ) (t : List ℕ) → read (names_layout [] n) t ≡ after [] (read (names_layout [] (n - 0)) t)
names_begin n t =
    let all : n ≡ n - 0 = omega arith in
    ap (λ k. read (names_layout [] k) t) all ∙ after_nothing (read (names_layout [] (n - 0)) t)

pub names_more : (earlier : List (List ℕ)) (n i : ℕ) (names : List (List ℕ)) (name t left : List ℕ) (r : Read (List (List ℕ))) → i < n
    → read (NameField (is_new_name earlier) Makes) t ≡ Ok (name, left) → r ≡ after names (read (names_layout earlier (n - i)) t)
    → r ≡ after (names ++ name ∷ []) (read (names_layout (name ∷ earlier) (n - (i + 1))) left)
names_more earlier n i names name t left r l e h =
    h ∙ ap (λ k. after names (read (names_layout earlier k) t)) (one_more n i l)
    ∙ ap (after names) (names_step earlier (n - (i + 1)) t ∙ ap (λ r. carry r (then_names earlier (n - (i + 1)))) e)
    ∙ after_step names name (read (names_layout (name ∷ earlier) (n - (i + 1))) left)

pub names_stop : (earlier : List (List ℕ)) (n i : ℕ) (names : List (List ℕ)) (t : List ℕ) (r : Read (List (List ℕ))) (e : Stopped) → i < n
    → Stops (read (NameField (is_new_name earlier) Makes) t) e → r ≡ after names (read (names_layout earlier (n - i)) t) → Stops r e
names_stop earlier n i names t r e l s h =
    subst (λ r. Stops r e)
    (sym (h ∙ ap (λ k. after names (read (names_layout earlier k) t)) (one_more n i l) ∙ ap (after names) (names_step earlier (n - (i + 1)) t)))
    (stops_carry (carry (read (NameField (is_new_name earlier) Makes) t) (then_names earlier (n - (i + 1)))) (λ ys rest. Ok (names ++ ys, rest)) e
    (stops_carry (read (NameField (is_new_name earlier) Makes) t) (then_names earlier (n - (i + 1))) e s))

pub names_end : (earlier : List (List ℕ)) (n i : ℕ) (names : List (List ℕ)) (t : List ℕ) (r : Read (List (List ℕ))) → n ≤ i
    → r ≡ after names (read (names_layout earlier (n - i)) t) → r ≡ Ok (names, t)
names_end earlier n i names t r l h =
    let none : n - i ≡ 0 = omega arith in
    h ∙ ap (λ k. after names (read (names_layout earlier k) t)) none ∙ ap (λ z. Ok (z, t)) (append-nil names)

-- ---- all bodies

pub nothing_left : {A : Type 0} (xs : List A) → length xs ≡ 0 → xs ≡ []
nothing_left [] h = refl
nothing_left (x ∷ xs) h = absurd (omega (arith, h))

abbrev then_bodies : Counting → List Head → RawFunction → List ℕ → Read (List RawFunction)
then_bodies rule hs f rest = carry (read (bodies_layout rule hs) rest) (λ fs left. Ok (f ∷ fs, left))

bodies_step : (rule : Counting) (h : Head) (hs : List Head) (t : List ℕ)
    → read (bodies_layout rule (h ∷ hs)) t ≡ carry (read (function_layout rule h) t) (then_bodies rule hs)
bodies_step rule h hs t =
    read_behind (body_layout rule h.instructions) next t ∙ go (read (body_layout rule h.instructions) t)
    ∙ ap (λ r. carry r (then_bodies rule hs)) (sym (read_behind (body_layout rule h.instructions) (λ is. Makes (function_of h is)) t))
  where
    next : List Raw → Layout (List RawFunction)
    next is = behind (bodies_layout rule hs) (λ fs. Makes (function_of h is ∷ fs))

    go : (r : Read (List Raw)) → carry r (λ is rest. read (next is) rest) ≡ carry (carry r (λ is rest. Ok (function_of h is, rest))) (then_bodies rule hs)
    go (Err e) = refl
    go (Ok y) = read_behind (bodies_layout rule hs) (λ fs. Makes (function_of h y.0 ∷ fs)) y.1

pub bodies_begin : (rule : Counting) (hs : List Head) (t : List ℕ) → read (bodies_layout rule hs) t ≡ after [] (read (bodies_layout rule hs) t)
bodies_begin rule hs t = after_nothing (read (bodies_layout rule hs) t)

pub bodies_more : (rule : Counting) (all hs : List Head) (h : Head) (fs : List RawFunction) (f : RawFunction) (t left : List ℕ)
    (r : Read (List RawFunction)) → all ≡ h ∷ hs
    → read (function_layout rule h) t ≡ Ok (f, left) → r ≡ after fs (read (bodies_layout rule all) t) → r ≡ after (fs ++ f ∷ []) (read (bodies_layout rule hs) left)
bodies_more rule all hs h fs f t left r a e q =
    q ∙ ap (λ z. after fs (read (bodies_layout rule z) t)) a ∙ ap (after fs) (bodies_step rule h hs t ∙ ap (λ r. carry r (then_bodies rule hs)) e)
    ∙ after_step fs f (read (bodies_layout rule hs) left)

pub bodies_stop : (rule : Counting) (all hs : List Head) (h : Head) (fs : List RawFunction) (t : List ℕ) (r : Read (List RawFunction)) (e : Stopped) → all ≡ h ∷ hs
    → Stops (read (function_layout rule h) t) e → r ≡ after fs (read (bodies_layout rule all) t) → Stops r e
bodies_stop rule all hs h fs t r e a s q =
    subst (λ r. Stops r e) (sym (q ∙ ap (λ z. after fs (read (bodies_layout rule z) t)) a ∙ ap (after fs) (bodies_step rule h hs t)))
    (stops_carry (carry (read (function_layout rule h) t) (then_bodies rule hs)) (λ ys rest. Ok (fs ++ ys, rest)) e
    (stops_carry (read (function_layout rule h) t) (then_bodies rule hs) e s))

pub bodies_end : (rule : Counting) (all : List Head) (fs : List RawFunction) (t : List ℕ) (r : Read (List RawFunction)) → all ≡ []
    → r ≡ after fs (read (bodies_layout rule all) t) → r ≡ Ok (fs, t)
bodies_end rule all fs t r a q = q ∙ ap (λ z. after fs (read (bodies_layout rule z) t)) a ∙ ap (λ z. Ok (z, t)) (append-nil fs)
