-- What is written of tapes is read as those tapes, and what is read of a file is written as that file.
use Rattle.std.proofs.Common.{◌≡◌, ℕ, ◌+◌, ◌*◌, ◌<◌, ◌≤◌, List, [], ◌∷◌, ◌++◌, length, take, All, get_or, Some, None, Ok, Err, refl, ap, sym, subst, ◌∙◌, arith}
use Rattle.std.proofs.Math.Seq.{take-add}
use Rattle.std.proofs.lemmas.List.{length-append, append_assoc, append-nil, take_all}
use Rattle.std.proofs.lemmas.Bool.{le-ltb, eq-eqb}
use Rattle.tape_file.specs.Format.{bytes_of, word_at, words_at, tape_bytes, tapes_at, lengths_fault, fault_of, read_of, IsSized, IsSound}
use Rattle.tape_file.specs.Tapes.{FourTapes, lengths_of, AreShort, IsWord}
use Rattle.tape_file.proofs.WordLists.{length-bytes_of, length-words_at, words_at-append, words_at-bytes_of, bytes_of-words_at}

-- the words after the first n bytes, with those bytes, are the first m bytes
pub take-words_at : (n count m : ℕ) (bytes : List ℕ) → ((i : ℕ) → get_or bytes i 0 < 256) → m ≡ n + 8 * count → m ≤ length bytes
    → take n bytes ++ bytes_of (words_at n count bytes) ≡ take m bytes
take-words_at n count m bytes small e h =
    let read = bytes_of-words_at n count bytes small (omega arith) in
    rw (read, e) (sym (take-add n (8 * count) bytes))

-- words that were written after a front are read again
pub read-part : (front words rest : List ℕ) (place : ℕ) → place ≡ length front → All IsWord words
    → words_at place (length words) (front ++ (bytes_of words ++ rest)) ≡ words
read-part front words rest place e fits =
    words_at-append (length words) front (bytes_of words ++ rest) place 0 (omega arith) ∙ words_at-bytes_of words rest fits

-- four lengths
lengths_at : (bytes : List ℕ) → words_at 0 4 bytes ≡ word_at 0 bytes ∷ word_at 8 bytes ∷ word_at 16 bytes ∷ word_at 24 bytes ∷ []
unfolding words_at
lengths_at bytes = refl

-- what is read of a sound file is written as that file
pub tape_bytes-tapes_at : (bytes : List ℕ) → ((i : ℕ) → get_or bytes i 0 < 256) → IsSound bytes
    → tape_bytes (tapes_at (word_at 0 bytes) (word_at 8 bytes) (word_at 16 bytes) (word_at 24 bytes) bytes) ≡ bytes
unfolding tape_bytes tapes_at
tape_bytes-tapes_at bytes small sound =
    let d : ℕ = word_at 0 bytes in
    let a : ℕ = word_at 8 bytes in
    let b : ℕ = word_at 16 bytes in
    let c : ℕ = word_at 24 bytes in
    let head : 32 ≤ length bytes = sound.head in
    let size : length bytes ≡ 32 + 8 * (d + a + b + c) = sound.sized.exact in
    let lens : bytes_of (d ∷ a ∷ b ∷ c ∷ []) ≡ take 32 bytes =
    ap bytes_of (sym (lengths_at bytes)) ∙ bytes_of-words_at 0 4 bytes small head in
    let one = take-words_at 32 d (32 + 8 * d) bytes small refl (omega arith) in
    let two = take-words_at (32 + 8 * d) a (32 + 8 * (d + a)) bytes small (omega arith) (omega arith) in
    let three = take-words_at (32 + 8 * (d + a)) b (32 + 8 * (d + a + b)) bytes small (omega arith) (omega arith) in
    let four = take-words_at (32 + 8 * (d + a + b)) c (32 + 8 * (d + a + b + c)) bytes small (omega arith) (omega arith) in
    let all = take_all (32 + 8 * (d + a + b + c)) bytes (omega arith) in
    rw (
      length-words_at 32 d bytes,
      length-words_at (32 + 8 * d) a bytes,
      length-words_at (32 + 8 * (d + a)) b bytes,
      length-words_at (32 + 8 * (d + a + b)) c bytes,
      lens,
      one,
      two,
      three,
      four,
    ) all

-- lengths within the limit and the size that they ask for are no fault
lengths_fault-none : (d a b c size : ℕ) → IsSized d a b c size → lengths_fault d a b c size ≡ None
unfolding lengths_fault
lengths_fault-none d a b c size sized =
    rw (
      le-ltb 16777216 d sized.short_dealer,
      le-ltb 16777216 a sized.short_one,
      le-ltb 16777216 b sized.short_two,
      le-ltb 16777216 c sized.short_three,
      eq-eqb size (32 + 8 * (d + a + b + c)) sized.exact,
    ) refl

-- a sound file is read
pub read_of-sound : (bytes : List ℕ) → IsSound bytes
    → read_of bytes ≡ Ok (tapes_at (word_at 0 bytes) (word_at 8 bytes) (word_at 16 bytes) (word_at 24 bytes) bytes)
unfolding read_of fault_of
read_of-sound bytes sound =
    rw (
      le-ltb (length bytes) 32 sound.head,
      lengths_fault-none (word_at 0 bytes) (word_at 8 bytes) (word_at 16 bytes) (word_at 24 bytes) (length bytes) sound.sized,
    ) refl

-- all words of four tapes, and their lengths, have 64 bits
pub record AreWords (tapes : FourTapes) : Type 0 where
  pub lengths : All IsWord (length tapes.dealer ∷ length tapes.one ∷ length tapes.two ∷ length tapes.three ∷ [])
  pub dealer : All IsWord tapes.dealer
  pub one : All IsWord tapes.one
  pub two : All IsWord tapes.two
  pub three : All IsWord tapes.three

-- the parts of a file of four tapes
record Parts (tapes : FourTapes) (file : List ℕ) : Type 0 where
  lengths : words_at 0 4 file ≡ length tapes.dealer ∷ length tapes.one ∷ length tapes.two ∷ length tapes.three ∷ []
  dealer : words_at 32 (length tapes.dealer) file ≡ tapes.dealer
  one : words_at (32 + 8 * length tapes.dealer) (length tapes.one) file ≡ tapes.one
  two : words_at (32 + 8 * (length tapes.dealer + length tapes.one)) (length tapes.two) file ≡ tapes.two
  three : words_at (32 + 8 * (length tapes.dealer + length tapes.one + length tapes.two)) (length tapes.three) file ≡ tapes.three
  size : length file ≡ 32 + 8 * (length tapes.dealer + length tapes.one + length tapes.two + length tapes.three)

-- five lists joined, cut after the first, second, third and fourth
cut_one : (h d a b c : List ℕ) → (((h ++ d) ++ a) ++ b) ++ c ≡ [] ++ (h ++ (d ++ (a ++ (b ++ c))))
cut_one h d a b c = simp append_assoc

cut_two : (h d a b c : List ℕ) → (((h ++ d) ++ a) ++ b) ++ c ≡ h ++ (d ++ (a ++ (b ++ c)))
cut_two h d a b c = simp append_assoc

cut_three : (h d a b c : List ℕ) → (((h ++ d) ++ a) ++ b) ++ c ≡ (h ++ d) ++ (a ++ (b ++ c))
cut_three h d a b c = simp append_assoc

cut_four : (h d a b c : List ℕ) → (((h ++ d) ++ a) ++ b) ++ c ≡ ((h ++ d) ++ a) ++ (b ++ c)
cut_four h d a b c = simp append_assoc

cut_five : (h d a b c : List ℕ) → (((h ++ d) ++ a) ++ b) ++ c ≡ (((h ++ d) ++ a) ++ b) ++ (c ++ [])
cut_five h d a b c = ap (λ (x : List ℕ). (((h ++ d) ++ a) ++ b) ++ x) (sym (append-nil c))

parts : (tapes : FourTapes) → AreWords tapes → Parts tapes (tape_bytes tapes)
unfolding tape_bytes
parts tapes words =
    let lens : List ℕ = length tapes.dealer ∷ length tapes.one ∷ length tapes.two ∷ length tapes.three ∷ [] in
    let h : List ℕ = bytes_of lens in
    let d : List ℕ = bytes_of tapes.dealer in
    let a : List ℕ = bytes_of tapes.one in
    let b : List ℕ = bytes_of tapes.two in
    let c : List ℕ = bytes_of tapes.three in
    let size_h : length h ≡ 32 = length-bytes_of lens in
    let size_d = length-bytes_of tapes.dealer in
    let size_a = length-bytes_of tapes.one in
    let size_b = length-bytes_of tapes.two in
    let size_c = length-bytes_of tapes.three in
    let size_hd = length-append h d in
    let size_hda = length-append (h ++ d) a in
    let size_hdab = length-append ((h ++ d) ++ a) b in
    let size_all = length-append (((h ++ d) ++ a) ++ b) c in
    record {
      lengths = ap (words_at 0 4) (cut_one h d a b c) ∙ read-part [] lens (d ++ (a ++ (b ++ c))) 0 refl words.lengths;
      dealer = ap (words_at 32 (length tapes.dealer)) (cut_two h d a b c) ∙ read-part h tapes.dealer (a ++ (b ++ c)) 32 (omega arith) words.dealer;
      one = ap (words_at (32 + 8 * length tapes.dealer) (length tapes.one)) (cut_three h d a b c)
          ∙ read-part (h ++ d) tapes.one (b ++ c) (32 + 8 * length tapes.dealer) (omega arith) words.one;
      two = ap (words_at (32 + 8 * (length tapes.dealer + length tapes.one)) (length tapes.two)) (cut_four h d a b c)
          ∙ read-part ((h ++ d) ++ a) tapes.two c (32 + 8 * (length tapes.dealer + length tapes.one)) (omega arith) words.two;
      three = ap (words_at (32 + 8 * (length tapes.dealer + length tapes.one + length tapes.two)) (length tapes.three)) (cut_five h d a b c)
          ∙ read-part (((h ++ d) ++ a) ++ b) tapes.three [] (32 + 8 * (length tapes.dealer + length tapes.one + length tapes.two)) (omega arith) words.three;
      size = omega arith;
    }

-- the words of two equal lists of four
record SameFour (w x y z w' x' y' z' : ℕ) : Type 0 where
  first : w ≡ w'
  second : x ≡ x'
  third : y ≡ y'
  fourth : z ≡ z'

same_four : (w x y z w' x' y' z' : ℕ) → w ∷ x ∷ y ∷ z ∷ [] ≡ w' ∷ x' ∷ y' ∷ z' ∷ [] → SameFour w x y z w' x' y' z'
same_four w x y z w' x' y' z' e = record { first = cc; second = cc; third = cc; fourth = cc }

-- what is written of tapes is read as those tapes
pub read_of-tape_bytes : (tapes : FourTapes) → AreShort tapes → AreWords tapes → read_of (tape_bytes tapes) ≡ Ok tapes
unfolding tapes_at
read_of-tape_bytes tapes short words =
    let file : List ℕ = tape_bytes tapes in
    let p = parts tapes words in
    let size : length file ≡ 32 + 8 * (length tapes.dealer + length tapes.one + length tapes.two + length tapes.three) = p.size in
    let same = same_four (word_at 0 file) (word_at 8 file) (word_at 16 file) (word_at 24 file) (length tapes.dealer) (length tapes.one)
    (length tapes.two) (length tapes.three) (sym (lengths_at file) ∙ p.lengths) in
    let sized : IsSized (length tapes.dealer) (length tapes.one) (length tapes.two) (length tapes.three) (length file) =
    record { short_dealer = short.dealer; short_one = short.one; short_two = short.two; short_three = short.three; exact = size } in
    let sound : IsSound file = record { head = omega arith; sized = rw (same.first, same.second, same.third, same.fourth) sized } in
    read_of-sound file sound
    ∙ rw (same.first, same.second, same.third, same.fourth, p.dealer, p.one, p.two, p.three) refl

-- the place of a fault is the answer
pub read_of-fault : (bytes : List ℕ) (place : ℕ) → fault_of bytes ≡ Some place → read_of bytes ≡ Err place
unfolding read_of
read_of-fault bytes place e = rw e refl

-- tapes that were read by the lengths that were read
pub same_tapes : (bytes : List ℕ) (tapes : FourTapes) (d a b c : ℕ) → tapes ≡ tapes_at d a b c bytes
    → d ≡ word_at 0 bytes → a ≡ word_at 8 bytes → b ≡ word_at 16 bytes → c ≡ word_at 24 bytes
    → tapes ≡ tapes_at (word_at 0 bytes) (word_at 8 bytes) (word_at 16 bytes) (word_at 24 bytes) bytes
same_tapes bytes tapes d a b c e ed ea eb ec = rw (e, ed, ea, eb, ec) refl

-- four lists, as tapes
abbrev pub tapes_of : List ℕ → List ℕ → List ℕ → List ℕ → FourTapes
tapes_of d a b c = record { dealer = d; one = a; two = b; three = c }

-- the tapes that the lists are
pub record AreTapes (tapes : FourTapes) (d a b c : List ℕ) : Type 0 where
  pub dealer : d ≡ tapes.dealer
  pub one : a ≡ tapes.one
  pub two : b ≡ tapes.two
  pub three : c ≡ tapes.three

tapes_of-same : (tapes : FourTapes) (d a b c : List ℕ) → AreTapes tapes d a b c → tapes_of d a b c ≡ tapes
tapes_of-same tapes d a b c same = rw (same.dealer, same.one, same.two, same.three) refl

-- the lengths of the lists
pub same-lengths : (tapes : FourTapes) (lengths d a b c : List ℕ) → AreTapes tapes d a b c → lengths ≡ lengths_of tapes
    → lengths ≡ lengths_of (tapes_of d a b c)
same-lengths tapes lengths d a b c same long = long ∙ ap lengths_of (sym (tapes_of-same tapes d a b c same))

-- a file to which lengths and tapes were written one after the other
pub pushed : (tapes : FourTapes) (lengths d a b c start one two three four end : List ℕ) → AreTapes tapes d a b c → lengths ≡ lengths_of tapes
    → start ≡ [] → one ≡ start ++ bytes_of lengths
    → two ≡ one ++ bytes_of d → three ≡ two ++ bytes_of a → four ≡ three ++ bytes_of b → end ≡ four ++ bytes_of c
    → end ≡ tape_bytes tapes
unfolding tape_bytes
pushed tapes lengths d a b c start one two three four end same long e0 e1 e2 e3 e4 e5 =
    let written : end ≡ tape_bytes (tapes_of d a b c) = rw (e5, e4, e3, e2, e1, e0, same-lengths tapes lengths d a b c same long) refl in
    written ∙ ap tape_bytes (tapes_of-same tapes d a b c same)

-- what was written of those lists is read as the tapes
pub read_of-pushed : (tapes : FourTapes) (d a b c file : List ℕ) → AreTapes tapes d a b c → file ≡ tape_bytes tapes → AreWords (tapes_of d a b c)
    → AreShort tapes → read_of file ≡ Ok tapes
read_of-pushed tapes d a b c file same written words short =
    ap read_of written ∙ read_of-tape_bytes tapes short (subst AreWords (tapes_of-same tapes d a b c same) words)
