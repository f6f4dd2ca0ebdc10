-- Bytes that begin a frame, or a hello, and what follows it.
use Rattle.std.proofs.Common.{◌≡◌, ℕ, ◌+◌, ◌*◌, ◌<◌, List, [], ◌∷◌, ◌++◌, length, Ok, refl, ap, sym, ◌∙◌, subst, arith, inl, inr}
use Rattle.std.specs.Prelude.{◌⊎◌}
use Rattle.std.proofs.lemmas.List.{append-nil, length-append}
use Rattle.std.proofs.lemmas.Bool.{lt-ltb}
use Rattle.byteorder.specs.Endian.{little_bytes, little_number}
use Rattle.byteorder.specs.Numbers.{little_number-reads_back, length-bytes_low_first}
use Rattle.proto_core.specs.Strand.{Begins}
use Rattle.served_bytes.specs.Front.{Framed, Truncated, Whole}
use Rattle.tape_file.specs.Format.{bytes_of}
use Rattle.tape_file.proofs.WordLists.{length-bytes_of}
use Rattle.wire.specs.declared.fields.Hello.{Hello}
use Rattle.wire.specs.Frames.{IsCount, IsFrameable, counted, frame_bytes, framed, header_of}
use Rattle.wire.specs.Hellos.{HasDigests, greeted, hello_bytes}
use Rattle.wire.proofs.FrameLaws.{framed-cut, framed-frame_bytes, framed-short}
use Rattle.wire.proofs.Fronts.{same-front}
use Rattle.wire.proofs.HelloLaws.{greeted-hello_bytes, greeted-short}
use Rattle.honest_miners.specs.JoinedFrames.{GreetsFirst, HellosComeWhole}

-- ---- one list and then another

-- what begins the two ends within the first, or it has all of the first and begins the second
data FrontOf (xs ys zs : List ℕ) : Type 0 where
  within : Begins xs ys → length xs < length ys → FrontOf xs ys zs
  beyond : (rest : List ℕ) → xs ≡ ys ++ rest → Begins rest zs → FrontOf xs ys zs

after_first : (x y : ℕ) (xs ys zs : List ℕ) → x ≡ y → FrontOf xs ys zs → FrontOf (x ∷ xs) (y ∷ ys) zs
after_first x y xs ys zs same (within begins short) = within (same, begins) (omega arith)
after_first x y xs ys zs same (beyond rest is begins) = beyond rest (ap (λ v. v ∷ xs) same ∙ ap (λ v. y ∷ v) is) begins

front_of : (xs ys zs : List ℕ) → Begins xs (ys ++ zs) → FrontOf xs ys zs
front_of xs [] zs h = beyond xs refl h
front_of [] (y ∷ ys) zs h = within tt (omega arith)
front_of (x ∷ xs) (y ∷ ys) zs h = after_first x y xs ys zs h.0 (front_of xs ys zs h.1)

-- ---- a frame

-- of a frame and what follows, the bytes end within it, or it is read
pub data FrameFront (bytes m more : List ℕ) : Type 0 where
  cut : framed bytes ≡ Truncated → FrameFront bytes m more
  whole : (rest : List ℕ) → framed bytes ≡ Whole m rest → Begins rest more → FrameFront bytes m more

abbrev head : List ℕ → List ℕ
head m = 1 ∷ little_bytes 4 (length m)

counted-ok : (n : ℕ) → IsCount n → counted n ≡ Ok n
counted-ok n is =
    let few = is.few in
    rw (lt-ltb 0 n is.some, lt-ltb n 2049 (omega arith)) refl

header-read : (m : List ℕ) → IsCount (length m) → header_of (head m) ≡ Ok (length m)
unfolding header_of
header-read m is =
    let few = is.few in
    let read : little_number 4 (little_bytes 4 (length m)) ≡ length m =
    ap (little_number 4) (sym (append-nil (little_bytes 4 (length m)))) ∙ little_number-reads_back 4 (length m) [] (omega arith) in
    ap counted read ∙ counted-ok (length m) is

length-head : (m : List ℕ) → length (head m) ≡ 5
length-head m = let e = length-bytes_low_first 0 4 (length m) in omega arith

frame_parts : (m : List ℕ) → frame_bytes m ≡ head m ++ bytes_of m
unfolding frame_bytes
frame_parts m = refl

length-frame : (m : List ℕ) → length (frame_bytes m) ≡ 5 + 8 * length m
length-frame m =
    ap length (frame_parts m) ∙ length-append (head m) (bytes_of m) ∙ ap (λ n. n + length (bytes_of m)) (length-head m)
    ∙ ap (λ n. 5 + n) (length-bytes_of m)

-- they end within the header, or within the words
short-frame : (bytes m : List ℕ) → IsFrameable m → length bytes < 5 + 8 * length m → FrontOf bytes (head m) (bytes_of m) → framed bytes ≡ Truncated
short-frame bytes m is short (within begins less) = let size = length-head m in framed-short bytes (omega arith)
short-frame bytes m is short (beyond rest same begins) =
    let size = length-head m in
    let all : length bytes ≡ length (head m) + length rest = ap length same ∙ length-append (head m) rest in
    ap framed same ∙ framed-cut (head m) rest (length m) size (header-read m is.count) (omega arith)

frame_by : (bytes m more : List ℕ) → IsFrameable m → FrontOf bytes (frame_bytes m) more → FrameFront bytes m more
frame_by bytes m more is (within begins less) =
    let size = length-frame m in
    cut
    (short-frame bytes m is (omega arith)
    (front_of bytes (head m) (bytes_of m) (subst (λ v. Begins bytes v) (frame_parts m) begins)))
frame_by bytes m more is (beyond rest same begins) = whole rest (ap framed same ∙ framed-frame_bytes m rest is) begins

pub frame_front : (bytes m more : List ℕ) → IsFrameable m → Begins bytes (frame_bytes m ++ more) → FrameFront bytes m more
frame_front bytes m more is h = frame_by bytes m more is (front_of bytes (frame_bytes m) more h)

not_both : {X : Type 0} (f : Framed) (m rest : List ℕ) → f ≡ Truncated → f ≡ Whole m rest → X
not_both f m rest e g = cc

-- what is read of such bytes is this frame's message
next_by : (bytes m x more rest : List ℕ) → FrameFront bytes x more → framed bytes ≡ Whole m rest → (m ≡ x) × Begins rest more
next_by bytes m x more rest (cut e) comes = not_both (framed bytes) m rest e comes
next_by bytes m x more rest (whole left e begins) comes =
    let same = same-front x m left rest (sym e ∙ comes) in
    (sym same.0, subst (λ v. Begins v more) same.1 begins)

pub next_is : (bytes m x more rest : List ℕ) → IsFrameable x → Begins bytes (frame_bytes x ++ more) → framed bytes ≡ Whole m rest
    → (m ≡ x) × Begins rest more
next_is bytes m x more rest is h comes = next_by bytes m x more rest (frame_front bytes x more is h) comes

-- of no bytes no frame is read
pub no_bytes : (bytes : List ℕ) → Begins bytes [] → framed bytes ≡ Truncated
no_bytes [] h = framed-short [] (omega arith)
no_bytes (x ∷ xs) h = absurd h

pub no_frame : {X : Type 0} (bytes m rest : List ℕ) → Begins bytes [] → framed bytes ≡ Whole m rest → X
no_frame bytes m rest h comes = not_both (framed bytes) m rest (no_bytes bytes h) comes

-- ---- a hello

length-hello : (h : Hello) → HasDigests h → length (hello_bytes h) ≡ 68
unfolding hello_bytes
length-hello h is =
    let code : length h.code ≡ 32 = is.code in
    let public : length h.public ≡ 32 = is.public in
    let size = length-append (0 ∷ h.version ∷ h.sender ∷ h.receiver ∷ h.code) h.public in
    omega arith

hello_by : (bytes more : List ℕ) (h : Hello) → HasDigests h → FrontOf bytes (hello_bytes h) more
    → (greeted bytes ≡ Truncated) ⊎ GreetsFirst bytes more h
hello_by bytes more h is (within begins less) = let size = length-hello h is in inl (greeted-short bytes (omega arith))
hello_by bytes more h is (beyond rest same begins) =
    inr (record { rest = rest; comes = ap greeted same ∙ greeted-hello_bytes h rest is; follows = begins })

pub hellos_come_whole : (bytes more : List ℕ) (h : Hello) → HellosComeWhole bytes more h
hellos_come_whole bytes more h is begins = hello_by bytes more h is (front_of bytes (hello_bytes h) more begins)
