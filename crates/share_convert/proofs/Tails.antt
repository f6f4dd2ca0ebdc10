-- Each step of the code is the strand's: what it sends and holds is what the miner's part does next.
use Rattle.std.proofs.Common.{◌≡◌, ℕ, List, [], ◌∷◌, ◌++◌, length, sym, ◌∙◌, ap, subst}
use Rattle.proto_core.specs.Rings.{add_ring}
use Rattle.proto_core.specs.declared.link.Link.TheVariants.{Link12, Link13, Link23, Link31, Link32}
use Rattle.proto_core.specs.declared.party.Number.TheVariants.{One, Two, Three}
use Rattle.proto_core.specs.Elementwise.{plus, zeros}
use Rattle.proto_core.specs.Lists.{part}
use Rattle.proto_core.specs.Protocol.{Joint}
use Rattle.proto_core.specs.Resharing.{reshared}
use Rattle.proto_core.specs.Strand.{Ends, Acts, Sent}
use Rattle.share_convert.specs.Bits.{xor_bits, one_less_where, negative_where}
use Rattle.share_convert.specs.ConvStrand.{Held, a_of, to_two, to_three, one_held, one_ends, awaits31, begun, two_held, two_ends, two_passes}
use Rattle.share_convert.specs.ConvStrand.{awaits12, awaits32, three_held, three_ends, three_passes, awaits13, awaits23, conv_strand}
use Rattle.share_convert.specs.Converting.{from_two, from_three, converted}
use Rattle.share_convert.specs.ConvertingLaws.{held12, held13, two-sent, bits-three, ends-two, ends-three}
use Rattle.share_convert.specs.Steps.{OneStarts, Got31, Got12, Got32, Got13, Got23}

abbrev holds : List ℕ → List ℕ → List ℕ → Held
holds x y z = record { bits = x; word = y; mask = z }

pub same_held : (a b : Held) → a.bits ≡ b.bits → a.word ≡ b.word → a.mask ≡ b.mask → a ≡ b
same_held a b bits word mask = ap (λ x. holds x a.word a.mask) bits ∙ ap (λ y. holds b.bits y a.mask) word ∙ ap (λ z. holds b.bits b.word z) mask

module _ (n : ℕ) where
  -- ---- what is held after a step

  pub started1 : (u words : List ℕ) (after : Held) (m12 m13 : List ℕ) → length u ≡ n → OneStarts u words after m12 m13 → after ≡ one_held n words
  started1 u words after m12 m13 e s = subst (λ k. after ≡ one_held k words) e (same_held after (one_held (length u) words) s.bits s.word s.mask)

  pub passed12 : (before : Held) (message : List ℕ) (after : Held) (out : List ℕ) → length before.mask ≡ n → Got12 before message after out
      → after ≡ two_held n before message
  passed12 before message after out e s =
      subst (λ k. after ≡ two_held k before message) e (same_held after (two_held (length before.mask) before message) s.bits s.word s.mask)

  pub passed13 : (before : Held) (message : List ℕ) (after : Held) (out : List ℕ) → length before.mask ≡ n → Got13 before message after out
      → after ≡ three_held n before message
  passed13 before message after out e s =
      subst (λ k. after ≡ three_held k before message) e (same_held after (three_held (length before.mask) before message) s.bits s.word s.mask)

  -- ---- the steps

  pub start1-is :
      (u words : List ℕ) (after : Held) (m12 m13 : List ℕ) → length u ≡ n → OneStarts u words after m12 m13 →
      conv_strand n One u words ≡ Acts (Sent Link12 m12) (Acts (Sent Link13 m13) (awaits31 n after))
  start1-is u words after m12 m13 e s =
      let second : m12 ≡ to_two n words = s.second ∙ ap (λ k. to_two k words) e in
      let third : m13 ≡ to_three n u words = s.third ∙ ap (λ k. to_three k u words) e in
      ap (λ m. Acts (Sent Link12 m) (Acts (Sent Link13 (to_three n u words)) (awaits31 n (one_held n words)))) (sym second)
      ∙ ap (λ m. Acts (Sent Link12 m12) (Acts (Sent Link13 m) (awaits31 n (one_held n words)))) (sym third)
      ∙ ap (λ h. Acts (Sent Link12 m12) (Acts (Sent Link13 m13) (awaits31 n h))) (sym (started1 u words after m12 m13 e s))

  pub start2-is : (u words : List ℕ) (after : Held) → after ≡ begun u words → conv_strand n Two u words ≡ awaits12 n after
  start2-is u words after e = ap (awaits12 n) (sym e)

  pub start3-is :
      (u words : List ℕ) (after : Held) (m31 : List ℕ) → after ≡ begun u words → m31 ≡ words →
      conv_strand n Three u words ≡ Acts (Sent Link31 m31) (awaits13 n after)
  start3-is u words after m31 e f =
      ap (λ m. Acts (Sent Link31 m) (awaits13 n (begun u words))) (sym f) ∙ ap (λ h. Acts (Sent Link31 m31) (awaits13 n h)) (sym e)

  pub got31-is : (before : Held) (message share : List ℕ) → length before.mask ≡ n → Got31 before message share → one_ends n before message ≡ Ends (share ∷ [])
  got31-is before message share e s = ap (λ k. one_ends k before message) (sym e) ∙ ap (λ x. Ends (x ∷ [])) (sym s.made)

  pub got12-is :
      (before : Held) (message : List ℕ) (after : Held) (out : List ℕ) → length before.mask ≡ n → Got12 before message after out →
      two_passes n before message ≡ Acts (Sent Link23 out) (awaits32 n after)
  got12-is before message after out e s =
      ap (λ h. Acts (Sent Link23 (h.bits ++ before.mask)) (awaits32 n h)) (sym (passed12 before message after out e s))
      ∙ ap (λ m. Acts (Sent Link23 m) (awaits32 n after)) (sym s.sent)

  pub got32-is : (before : Held) (message share : List ℕ) → length before.mask ≡ n → Got32 before message share → two_ends n before message ≡ Ends (share ∷ [])
  got32-is before message share e s = ap (λ k. two_ends k before message) (sym e) ∙ ap (λ x. Ends (x ∷ [])) (sym s.made)

  pub got13-is :
      (before : Held) (message : List ℕ) (after : Held) (out : List ℕ) → length before.mask ≡ n → Got13 before message after out →
      three_passes n before message ≡ Acts (Sent Link32 out) (awaits23 n after)
  got13-is before message after out e s =
      ap (λ h. Acts (Sent Link32 h.bits) (awaits23 n h)) (sym (passed13 before message after out e s))
      ∙ ap (λ m. Acts (Sent Link32 m) (awaits23 n after)) (sym s.sent)

  pub got23-is : (before : Held) (message share : List ℕ) → length before.mask ≡ n → Got23 before message share
      → three_ends n before message ≡ Ends (share ∷ [])
  got23-is before message share e s = ap (λ k. three_ends k before message) (sym e) ∙ ap (λ x. Ends (x ∷ [])) (sym s.made)

-- ---- of three miners together

-- the three starts and the two replies, by the shares and words of all three
pub record Begun (n : ℕ) (j : Joint) (start1 start2 start3 after2 after3 : Held) (m12 m13 m31 m23 m32 : List ℕ) : Type 0 where
  pub size1 : length (j.u One) ≡ n
  pub size2 : length (j.words Two) ≡ n
  pub size3 : length (j.words Three) ≡ n
  pub first : OneStarts (j.u One) (j.words One) start1 m12 m13
  pub second : start2 ≡ begun (j.u Two) (j.words Two)
  pub third : start3 ≡ begun (j.u Three) (j.words Three)
  pub mask : m31 ≡ j.words Three
  pub reply2 : Got12 start2 m12 after2 m23
  pub reply3 : Got13 start3 m13 after3 m32

module _ (n : ℕ) (j : Joint) (start1 start2 start3 after2 after3 : Held) (m12 m13 m31 m23 m32 : List ℕ)
    (b : Begun n j start1 start2 start3 after2 after3 m12 m13 m31 m23 m32) where
  pub on12 : m12 ≡ to_two n (j.words One)
  on12 = b.first.second ∙ ap (λ k. to_two k (j.words One)) b.size1

  pub on13 : m13 ≡ to_three n (j.u One) (j.words One)
  on13 = b.first.third ∙ ap (λ k. to_three k (j.u One) (j.words One)) b.size1

  pub len2 : length start2.mask ≡ n
  len2 = ap (λ h. length h.mask) b.second ∙ b.size2

  pub len3 : length start3.mask ≡ n
  len3 = ap (λ h. length h.mask) b.third ∙ b.size3

  after2-is : after2 ≡ held12 n j
  after2-is =
      passed12 n start2 m12 after2 m23 len2 b.reply2 ∙ ap (λ h. two_held n h m12) b.second
      ∙ ap (two_held n (begun (j.u Two) (j.words Two))) on12

  after3-is : after3 ≡ held13 n j
  after3-is =
      passed13 n start3 m13 after3 m32 len3 b.reply3 ∙ ap (λ h. three_held n h m13) b.third
      ∙ ap (three_held n (begun (j.u Three) (j.words Three))) on13

  pub on23 : m23 ≡ from_two n j
  on23 = b.reply2.sent ∙ ap (λ h. h.bits ++ start2.mask) after2-is ∙ ap (λ h. (held12 n j).bits ++ h.mask) b.second ∙ two-sent n j

  pub on32 : m32 ≡ from_three n j
  on32 = b.reply3.sent ∙ ap (λ h. h.bits) after3-is ∙ bits-three n j

  pub share1-is : (share : List ℕ) → Got31 start1 m31 share → share ≡ converted n j One
  share1-is share s =
      let len : length start1.mask ≡ n = b.first.len ∙ b.size1 in
      s.made ∙ ap (λ k. reshared add_ring k (zeros add_ring k) start1.mask m31) len
      ∙ ap (λ h. reshared add_ring n (zeros add_ring n) h.mask m31) (started1 n (j.u One) (j.words One) start1 m12 m13 b.size1 b.first)
      ∙ ap (reshared add_ring n (zeros add_ring n) (a_of n (j.words One))) b.mask

  pub share2-is : (share : List ℕ) → Got32 after2 m32 share → share ≡ converted n j Two
  share2-is share s =
      let len : length after2.mask ≡ n = b.reply2.len ∙ len2 in
      s.made ∙ ap (λ k. plus add_ring k (one_less_where k (xor_bits k after2.bits m32) after2.word) after2.mask) len
      ∙ ap (λ h. plus add_ring n (one_less_where n (xor_bits n h.bits m32) h.word) h.mask) after2-is
      ∙ ap (λ m. plus add_ring n (one_less_where n (xor_bits n (held12 n j).bits m) (held12 n j).word) (held12 n j).mask) on32
      ∙ ends-two n j

  pub share3-is : (share : List ℕ) → Got23 after3 m23 share → share ≡ converted n j Three
  share3-is share s =
      let len : length after3.mask ≡ n = ap length b.reply3.mask ∙ len3 in
      s.made
      ∙ ap (λ k. reshared add_ring k (negative_where k (xor_bits k (part k 0 m23) after3.bits) after3.word) after3.mask (part k 1 m23)) len
      ∙ ap (λ h. reshared add_ring n (negative_where n (xor_bits n (part n 0 m23) h.bits) h.word) h.mask (part n 1 m23)) after3-is
      ∙ ap (λ m. reshared add_ring n (negative_where n (xor_bits n (part n 0 m) (held13 n j).bits) (held13 n j).word) (held13 n j).mask (part n 1 m)) on23
      ∙ ends-three n j b.size2
