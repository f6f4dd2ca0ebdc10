-- A worked run: 3 is dealt as 1, 2 and 0, and 5 as 2^64 - 1, 4 and 2; these shares are tested, with masks that are not 0.
use Rattle.std.specs.Prelude.{◌≡◌, ℕ, zero, suc, ◌*◌, ◌%◌, ◌<◌, ◌^◌, List, [], ◌∷◌, length, map, refl}
use Rattle.std.specs.List.{range_with_len}
use Rattle.std.proofs.Common.{arith}
use Rattle.proto_core.specs.Rings.{add_ring, xor_ring}
use Rattle.proto_core.specs.declared.party.Number.{Number}
use Rattle.proto_core.specs.declared.party.Number.TheVariants.{One, Two, Three}
use Rattle.proto_core.specs.Lists.{at, each, part, AreWords}
use Rattle.proto_core.specs.Elementwise.{zeros, minus}
use Rattle.proto_core.specs.Resharing.{reshared, sum_of_three}
use Rattle.protocol_model.specs.Gates.{sizes_of}
use Rattle.shared_gates.specs.Products.{cross}
use Rattle.split_share.specs.SplitStrand.{signed_sum}
use Rattle.gates.specs.declared.ring_kind.RingKind.TheVariants.{Arithmetic}
use Rattle.gates.specs.declared.gate.Gate.TheVariants.{Input}
use Rattle.gates.specs.Clear.{Values}
use Rattle.shared_gates.specs.Shares.{AreShares, Shared, AllHeld, share_at, sum_of}
use Rattle.shared_plans.specs.GateRuns.{GateRun, IsWellFormed, IsNumber, shares_of, words_drawn}
use Rattle.shared_plans.specs.Plans.{then_zero_test, then_equality, then_bits, then_comparison}

dealt : Number → Values
dealt One = (1 ∷ []) ∷ (18446744073709551615 ∷ []) ∷ []
dealt Two = (2 ∷ []) ∷ (4 ∷ []) ∷ []
dealt Three = (0 ∷ []) ∷ (2 ∷ []) ∷ []

example : GateRun
example =
    record {
      inputs = (3 ∷ []) ∷ (5 ∷ []) ∷ [];
      dealt_kinds = Shared Arithmetic ∷ Shared Arithmetic ∷ [];
      dealt = dealt;
      gates = Input 0 ∷ Input 1 ∷ [];
      kinds = Shared Arithmetic ∷ Shared Arithmetic ∷ [];
    }

-- ---- the laws speak of it

one_word : (x : ℕ) → x < 2 ^ 64 → AreWords (x ∷ [])
one_word x lt zero = lt
one_word x lt (suc zero) = omega arith
one_word x lt (suc (suc k)) = omega arith

past : (k : ℕ) → suc k < 1 → ⊥
past k lt = omega arith

three : AreShares add_ring (3 ∷ []) (share_at dealt 0)
unfolding dealt
three = record { sizes = sizes; words = words; sum = added }
  where
    sizes : (i : Number) → length (share_at dealt 0 i) ≡ 1
    sizes One = refl
    sizes Two = refl
    sizes Three = refl

    words : (i : Number) → AreWords (share_at dealt 0 i)
    words One = one_word 1 (omega arith)
    words Two = one_word 2 (omega arith)
    words Three = one_word 0 (omega arith)

    added : (k : ℕ) → k < 1 → sum_of add_ring (at (1 ∷ []) k) (at (2 ∷ []) k) (at (0 ∷ []) k) ≡ at (3 ∷ []) k
    added zero lt = refl
    added (suc k) lt = absurd (past k lt)

five : AreShares add_ring (5 ∷ []) (share_at dealt 1)
unfolding dealt
five = record { sizes = sizes; words = words; sum = added }
  where
    sizes : (i : Number) → length (share_at dealt 1 i) ≡ 1
    sizes One = refl
    sizes Two = refl
    sizes Three = refl

    words : (i : Number) → AreWords (share_at dealt 1 i)
    words One = one_word 18446744073709551615 (omega arith)
    words Two = one_word 4 (omega arith)
    words Three = one_word 2 (omega arith)

    added : (k : ℕ) → k < 1 → sum_of add_ring (at (18446744073709551615 ∷ []) k) (at (4 ∷ []) k) (at (2 ∷ []) k) ≡ at (5 ∷ []) k
    added zero lt = refl
    added (suc k) lt = absurd (past k lt)

held : AllHeld (Shared Arithmetic ∷ Shared Arithmetic ∷ []) ((3 ∷ []) ∷ (5 ∷ []) ∷ []) dealt
held zero lt = three
held (suc zero) lt = five
held (suc (suc k)) lt = absurd (beyond k lt)
  where
    beyond : (k : ℕ) → suc (suc k) < 2 → ⊥
    beyond k lt = omega arith

well_formed : IsWellFormed example
unfolding example dealt
well_formed =
    record {
      dealt_held = held;
      dealt_sized = sized;
      kinded = (refl, (refl, tt));
      suits = (omega arith, (omega arith, tt));
      counted = refl;
    }
  where
    sized : (i : Number) → sizes_of (dealt i) ≡ 1 ∷ 1 ∷ []
    sized One = refl
    sized Two = refl
    sized Three = refl

numbers : IsNumber example 1 0 × IsNumber example 1 1
unfolding example
numbers = (record { kind = refl; size = refl }, record { kind = refl; size = refl })

-- ---- the run

masks : (from count : ℕ) → List ℕ
masks from count = map (λ k. k * 11400714819323198485 % 2 ^ 64) (range_with_len from count)

tapes : Number → List ℕ
tapes One = masks 1 119
tapes Two = masks 200 117
tapes Three = masks 400 117

-- the only word of a value, of its shares
word_of : (Number → List ℕ) → ℕ
word_of s = sum_of xor_ring (at (s One) 0) (at (s Two) 0) (at (s Three) 0)

three_is_not_zero : word_of (shares_of (then_zero_test example 0) tapes 18) ≡ 0
unfolding example dealt masks tapes word_of reshared sum_of_three each part cross zeros minus signed_sum
three_is_not_zero = refl

three_and_five_differ : word_of (shares_of (then_equality example 0 1) tapes 19) ≡ 0
unfolding example dealt masks tapes word_of reshared sum_of_three each part cross zeros minus signed_sum
three_and_five_differ = refl

three_is_three : word_of (shares_of (then_equality example 0 0) tapes 19) ≡ 1
unfolding example dealt masks tapes word_of reshared sum_of_three each part cross zeros minus signed_sum
three_is_three = refl

bits_of_five : word_of (shares_of (then_bits example 1 1) tapes 55) ≡ 5
unfolding example dealt masks tapes word_of reshared sum_of_three each part cross zeros minus signed_sum
bits_of_five = refl

three_is_less : word_of (shares_of (then_comparison example 1 0 1) tapes 111) ≡ 1
unfolding example dealt masks tapes word_of reshared sum_of_three each part cross zeros minus signed_sum
three_is_less = refl

five_is_not_less : word_of (shares_of (then_comparison example 1 1 0) tapes 111) ≡ 0
unfolding example dealt masks tapes word_of reshared sum_of_three each part cross zeros minus signed_sum
five_is_not_less = refl

words_for_comparison : words_drawn (then_comparison example 1 0 1) One ≡ 119
unfolding example
words_for_comparison = refl
