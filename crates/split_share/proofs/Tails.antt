-- Each step of the code is the strand's: what it sends and has is what the miner's part does next.
use Rattle.std.proofs.Common.{◌≡◌, ℕ, Bool, true, false, List, [], ◌∷◌, length, sym, ◌∙◌, ap}
use Rattle.proto_core.specs.Rings.{add_ring, xor_ring}
use Rattle.proto_core.specs.declared.link.Link.TheVariants.{Link12, Link13}
use Rattle.proto_core.specs.declared.party.Number.TheVariants.{One, Two, Three}
use Rattle.proto_core.specs.Elementwise.{minus, zeros}
use Rattle.proto_core.specs.Protocol.{Joint}
use Rattle.proto_core.specs.Resharing.{sum_of_three}
use Rattle.proto_core.specs.Strand.{accepts, Ends, Acts, Sent, one_field}
use Rattle.proto_core.proofs.MessageFields.{accepts-one_words, accepted-one_words}
use Rattle.split_share.specs.SplitStrand.{Held, held_of, signed_sum, two_ends, three_ends, awaits12, awaits13, split_strand}
use Rattle.split_share.specs.Splitting.{rest_of_one, first_word, second_word, value_of, sum_or_difference}
use Rattle.split_share.specs.SplittingLaws.{splits}
use Rattle.split_share.specs.Parts.{AreShares}
use Rattle.split_share.specs.Steps.{OneSplits, Got12, Got13}

module _ (negated : Bool) (n : ℕ) where
  -- miner 1 sends both messages and ends
  pub start1-is :
      (u words m12 m13 x y : List ℕ) → length u ≡ n → OneSplits u words m12 m13 x y →
      split_strand negated n One u words ≡ Acts (Sent Link12 m12) (Acts (Sent Link13 m13) (Ends (x ∷ y ∷ [])))
  start1-is u words m12 m13 x y e s =
      let third : m13 ≡ minus add_ring n u words = s.third ∙ ap (λ k. minus add_ring k u words) e in
      let first : x ≡ zeros xor_ring n = s.first_share ∙ ap (zeros xor_ring) e in
      let second : y ≡ zeros xor_ring n = s.second_share ∙ ap (zeros xor_ring) e in
      ap (λ m. Acts (Sent Link12 m) (Acts (Sent Link13 (minus add_ring n u words)) (Ends (zeros xor_ring n ∷ zeros xor_ring n ∷ [])))) (sym s.second)
      ∙ ap (λ m. Acts (Sent Link12 m12) (Acts (Sent Link13 m) (Ends (zeros xor_ring n ∷ zeros xor_ring n ∷ [])))) (sym third)
      ∙ ap (λ w. Acts (Sent Link12 m12) (Acts (Sent Link13 m13) (Ends (w ∷ zeros xor_ring n ∷ [])))) (sym first)
      ∙ ap (λ w. Acts (Sent Link12 m12) (Acts (Sent Link13 m13) (Ends (x ∷ w ∷ [])))) (sym second)

  pub start2-is : (u words : List ℕ) (after : Held) → after ≡ held_of u negated → split_strand negated n Two u words ≡ awaits12 n after
  start2-is u words after e = ap (awaits12 n) (sym e)

  pub start3-is : (u words : List ℕ) (after : Held) → after ≡ held_of u negated → split_strand negated n Three u words ≡ awaits13 n after
  start3-is u words after e = ap (awaits13 n) (sym e)

  pub got12-is : (held : Held) (message x y : List ℕ) → length held.share ≡ n → Got12 held message x y → two_ends n held message ≡ Ends (x ∷ y ∷ [])
  got12-is held message x y e s =
      ap (λ k. two_ends k held message) (sym e)
      ∙ ap (λ w. Ends (w ∷ zeros xor_ring (length held.share) ∷ [])) (sym s.first_share) ∙ ap (λ w. Ends (x ∷ w ∷ [])) (sym s.second_share)

  pub got13-is : (held : Held) (message x y : List ℕ) → length held.share ≡ n → Got13 held message x y → three_ends n held message ≡ Ends (x ∷ y ∷ [])
  got13-is held message x y e s =
      ap (λ k. three_ends k held message) (sym e)
      ∙ ap (λ w. Ends (w ∷ signed_sum held.negated (length held.share) held.share message ∷ [])) (sym s.first_share)
      ∙ ap (λ w. Ends (x ∷ w ∷ [])) (sym s.second_share)

-- ---- of three miners together

module _ (negated : Bool) (n : ℕ) (j : Joint) where
  two-first : (held : Held) (m x y : List ℕ) → held ≡ held_of (j.u Two) negated → length (j.u Two) ≡ n → m ≡ j.words One → Got12 held m x y
      → x ≡ first_word n j Two
  two-first held m x y e size is s =
      s.first_share ∙ ap (λ h. signed_sum false (length h.share) h.share m) e
      ∙ ap (λ k. signed_sum false k (j.u Two) m) size ∙ ap (signed_sum false n (j.u Two)) is

  two-second : (held : Held) (m x y : List ℕ) → held ≡ held_of (j.u Two) negated → length (j.u Two) ≡ n → Got12 held m x y → y ≡ second_word negated n j Two
  two-second held m x y e size s = s.second_share ∙ ap (λ h. zeros xor_ring (length h.share)) e ∙ ap (zeros xor_ring) size

  three-first : (held : Held) (m x y : List ℕ) → held ≡ held_of (j.u Three) negated → length (j.u Three) ≡ n → Got13 held m x y → x ≡ first_word n j Three
  three-first held m x y e size s = s.first_share ∙ ap (λ h. zeros xor_ring (length h.share)) e ∙ ap (zeros xor_ring) size

  three-second :
      (held : Held) (m x y : List ℕ) → held ≡ held_of (j.u Three) negated → length (j.u Three) ≡ n → m ≡ rest_of_one n j → Got13 held m x y →
      y ≡ second_word negated n j Three
  three-second held m x y e size is s =
      s.second_share ∙ ap (λ h. signed_sum h.negated (length h.share) h.share m) e
      ∙ ap (λ k. signed_sum negated k (j.u Three) m) size ∙ ap (signed_sum negated n (j.u Three)) is

  -- the shares of all three have the number as their words' sum or difference
  pub splits-of :
      (x1 x2 x3 y1 y2 y3 : List ℕ) → AreShares negated n One j x1 y1 → AreShares negated n Two j x2 y2 → AreShares negated n Three j x3 y3 →
      sum_or_difference negated n (sum_of_three xor_ring n x1 x2 x3) (sum_of_three xor_ring n y1 y2 y3)
      ≡ sum_of_three add_ring n (j.u One) (j.u Two) (j.u Three)
  splits-of x1 x2 x3 y1 y2 y3 a b c =
      let xs : sum_of_three xor_ring n x1 x2 x3 ≡ value_of n (first_word n j) =
      ap (λ x. sum_of_three xor_ring n x x2 x3) a.first ∙ ap (λ x. sum_of_three xor_ring n (first_word n j One) x x3) b.first
      ∙ ap (λ x. sum_of_three xor_ring n (first_word n j One) (first_word n j Two) x) c.first in
      let ys : sum_of_three xor_ring n y1 y2 y3 ≡ value_of n (second_word negated n j) =
      ap (λ x. sum_of_three xor_ring n x y2 y3) a.second ∙ ap (λ x. sum_of_three xor_ring n (second_word negated n j One) x y3) b.second
      ∙ ap (λ x. sum_of_three xor_ring n (second_word negated n j One) (second_word negated n j Two) x) c.second in
      ap (λ x. sum_or_difference negated n x (sum_of_three xor_ring n y1 y2 y3)) xs
      ∙ ap (sum_or_difference negated n (value_of n (first_word n j))) ys ∙ splits negated n j

  pub shares2-are :
      (held : Held) (m x y : List ℕ) → held ≡ held_of (j.u Two) negated → length (j.u Two) ≡ n → m ≡ j.words One → Got12 held m x y →
      AreShares negated n Two j x y
  shares2-are held m x y e size is s = record { first = two-first held m x y e size is s; second = two-second held m x y e size s }

  pub shares3-are :
      (held : Held) (m x y : List ℕ) → held ≡ held_of (j.u Three) negated → length (j.u Three) ≡ n → m ≡ rest_of_one n j → Got13 held m x y →
      AreShares negated n Three j x y
  shares3-are held m x y e size is s = record { first = three-first held m x y e size s; second = three-second held m x y e size is s }

-- ---- a message is refused exactly where it has not the shape that the strand waits for

pub accepts-words : (n : ℕ) (m : List ℕ) → length m ≡ n → accepts (one_field n) m ≡ true
accepts-words n m e = accepts-one_words n m e

pub accepted-words : (n : ℕ) (m : List ℕ) → accepts (one_field n) m ≡ true → length m ≡ n
accepted-words n m h = accepted-one_words n m h
