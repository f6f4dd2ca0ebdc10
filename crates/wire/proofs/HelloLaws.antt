-- A hello is read of its bytes, and what is read was spelled so.
use Rattle.std.proofs.Common.{◌≡◌, ℕ, ◌<◌, ◌==◌, ltb, List, [], ◌∷◌, ◌++◌, length, take, drop, Result, Ok, Err, refl, ap, sym, subst, ◌∙◌, arith}
use Rattle.std.proofs.lemmas.List.{length-append, append_assoc, take-append-drop, take_all, length-take, length-drop}
use Rattle.std.proofs.lemmas.Bool.{lt-ltb, ltb-false, eq-eqb, eqb-true}
use Rattle.proto_core.specs.Lists.{at}
use Rattle.served_bytes.specs.Front.{Whole, Malformed, Truncated}
use Rattle.wire.specs.declared.bad_frame.BadFrame.{BadFrame}
use Rattle.wire.specs.declared.fields.Hello.{Hello}
use Rattle.wire.specs.Hellos.{HasDigests, greeted, hello_bytes, hello_of, with_rest}
use Rattle.wire.proofs.Fronts.{take-front, drop-front, enough, cut-else, or-wrong}

pub greeted-short : (bytes : List ℕ) → length bytes < 68 → greeted bytes ≡ Truncated
unfolding greeted
greeted-short bytes h = rw (lt-ltb (length bytes) 68 h) refl

greeted-head : (head rest : List ℕ) → length head ≡ 68 → greeted (head ++ rest) ≡ with_rest (hello_of head) rest
unfolding greeted
greeted-head head rest e = rw (enough 68 head rest e, take-front 68 head rest e, drop-front 68 head rest e) refl

greeted-read : (head rest : List ℕ) (read : Result Hello BadFrame) → length head ≡ 68 → hello_of head ≡ read → greeted (head ++ rest) ≡ with_rest read rest
greeted-read head rest read e h = greeted-head head rest e ∙ ap (λ (r : Result Hello BadFrame). with_rest r rest) h

pub greeted-broken : (head rest : List ℕ) (bad : BadFrame) → length head ≡ 68 → hello_of head ≡ Err bad → greeted (head ++ rest) ≡ Malformed bad.place
greeted-broken head rest bad e h = greeted-read head rest (Err bad) e h

pub greeted-came : (head rest : List ℕ) (hello : Hello) → length head ≡ 68 → hello_of head ≡ Ok hello → greeted (head ++ rest) ≡ Whole hello rest
greeted-came head rest hello e h = greeted-read head rest (Ok hello) e h

abbrev with_digests : Hello → List ℕ → List ℕ → Hello
with_digests h code public = record h { code = code; public = public }

hello_of-written : (h : Hello) → HasDigests h → hello_of (hello_bytes h) ≡ Ok h
unfolding hello_of hello_bytes
hello_of-written h is =
    let code = take-front 32 h.code h.public is.code in
    let public = ap (take 32) (drop-front 32 h.code h.public is.code) ∙ take_all 32 h.public (omega (arith, is.public)) in
    ap (λ (code : List ℕ). Ok (with_digests h code (take 32 (drop 32 (h.code ++ h.public))))) code
    ∙ ap (λ (public : List ℕ). Ok (with_digests h h.code public)) public

length-hello : (h : Hello) → HasDigests h → length (hello_bytes h) ≡ 68
unfolding hello_bytes
length-hello h is =
    let code : length h.code ≡ 32 = is.code in
    let public : length h.public ≡ 32 = is.public in
    let size = length-append (0 ∷ h.version ∷ h.sender ∷ h.receiver ∷ h.code) h.public in
    omega arith

pub greeted-hello_bytes : (h : Hello) (rest : List ℕ) → HasDigests h → greeted (hello_bytes h ++ rest) ≡ Whole h rest
greeted-hello_bytes h rest is = greeted-came (hello_bytes h) rest h (length-hello h is) (hello_of-written h is)

record Spelled (h : Hello) (bytes : List ℕ) : Type 0 where
  digests : HasDigests h
  written : hello_bytes h ≡ bytes

-- the hello in bytes that begin with 0
abbrev in_bytes : ℕ → ℕ → ℕ → List ℕ → Hello
in_bytes version sender receiver xs =
    record { version = version; sender = sender; receiver = receiver; code = take 32 xs; public = take 32 (drop 32 xs) }

in_bytes-spelled : (z v s r : ℕ) (xs : List ℕ) → z ≡ 0 → length xs ≡ 64 → Spelled (in_bytes v s r xs) (z ∷ v ∷ s ∷ r ∷ xs)
unfolding hello_bytes
in_bytes-spelled z v s r xs e size = record {
  digests = record { code = simp length-take (omega arith); public = simp (length-take, length-drop) (omega arith) };
  written = ap (λ (ys : List ℕ). 0 ∷ v ∷ s ∷ r ∷ (take 32 xs ++ ys)) (take_all 32 (drop 32 xs) (omega (arith, length-drop 32 xs, size)))
      ∙ ap (λ (ys : List ℕ). 0 ∷ v ∷ s ∷ r ∷ ys) (take-append-drop 32 xs) ∙ ap (λ (n : ℕ). n ∷ v ∷ s ∷ r ∷ xs) (sym e);
}

same_ok : (g h : Hello) → ◌≡◌ {A = Result Hello BadFrame} (Ok g) (Ok h) → g ≡ h
same_ok g h e = cc

hello_of-spelled : (bytes : List ℕ) (h : Hello) → length bytes ≡ 68 → hello_of bytes ≡ Ok h → Spelled h bytes
unfolding hello_of
hello_of-spelled [] h size e = absurd (omega arith)
hello_of-spelled (z ∷ []) h size e = absurd (omega arith)
hello_of-spelled (z ∷ v ∷ []) h size e = absurd (omega arith)
hello_of-spelled (z ∷ v ∷ s ∷ []) h size e = absurd (omega arith)
hello_of-spelled (z ∷ v ∷ s ∷ r ∷ xs) h size e =
    let passed = or-wrong (z == 0) (Ok (in_bytes v s r xs)) h 0 e in
    let first : z ≡ 0 = eqb-true z 0 passed.0 in
    let P : Hello → Type 0 = λ g. Spelled g (z ∷ v ∷ s ∷ r ∷ xs) in
    subst P (same_ok (in_bytes v s r xs) h passed.1) (in_bytes-spelled z v s r xs first (omega arith))

pub hello_bytes-read : (bytes : List ℕ) (h : Hello) → length bytes ≡ 68 → hello_of bytes ≡ Ok h → hello_bytes h ≡ bytes
hello_bytes-read bytes h size e = (hello_of-spelled bytes h size e).written

with_rest-is : (read : Result Hello BadFrame) (h : Hello) (after rest : List ℕ) → with_rest read after ≡ Whole h rest → (read ≡ Ok h) × (after ≡ rest)
with_rest-is (Ok hello) h after rest e = (cc, cc)
with_rest-is (Err bad) h after rest e = absurd cc

pub greeted-spelled : (bytes rest : List ℕ) (h : Hello) → greeted bytes ≡ Whole h rest → HasDigests h × (bytes ≡ hello_bytes h ++ rest)
unfolding greeted
greeted-spelled bytes rest h e =
    let came = cut-else (ltb (length bytes) 68) (with_rest (hello_of (take 68 bytes)) (drop 68 bytes)) h rest e in
    let long = ltb-false (length bytes) 68 came.0 in
    let read = with_rest-is (hello_of (take 68 bytes)) h (drop 68 bytes) rest came.1 in
    let size : length (take 68 bytes) ≡ 68 = simp length-take (omega arith) in
    let spelled = hello_of-spelled (take 68 bytes) h size read.0 in
    (spelled.digests, rw (spelled.written, ← read.1) (sym (take-append-drop 68 bytes)))

-- ---- what the code does

-- the fields of a hello that begins with 0
pub hello_of-fields : (bytes code public : List ℕ) → at bytes 0 ≡ 0 → code ≡ take 32 (drop 4 bytes) → public ≡ take 32 (drop 36 bytes)
    → Ok (record { version = at bytes 1; sender = at bytes 2; receiver = at bytes 3; code = code; public = public }) ≡ hello_of bytes
unfolding hello_of
hello_of-fields bytes code public e ec ep = rw (eq-eqb (at bytes 0) 0 e, ec, ep) refl

pub written : (h : Hello) (old reserved one two three : List ℕ) → reserved ≡ old → one ≡ reserved ++ 0 ∷ h.version ∷ h.sender ∷ h.receiver ∷ []
    → two ≡ one ++ h.code → three ≡ two ++ h.public → three ≡ old ++ hello_bytes h
unfolding hello_bytes
written h old reserved one two three e0 e1 e2 e3 =
    let four : List ℕ = 0 ∷ h.version ∷ h.sender ∷ h.receiver ∷ [] in
    rw (e3, e2, e1, e0) (append_assoc (old ++ four) h.code h.public ∙ append_assoc old four (h.code ++ h.public))
