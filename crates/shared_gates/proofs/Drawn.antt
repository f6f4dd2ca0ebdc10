-- The words that a run of gates draws.
use Rattle.std.proofs.Common.{◌≡◌, ℕ, ◌+◌, ◌*◌, ◌≤◌, List, [], ◌∷◌, ◌++◌, length, refl, sym, ◌∙◌, ap, subst, arith}
use Rattle.proto_core.specs.declared.party.Number.{Number}
use Rattle.proto_core.specs.declared.party.Number.TheVariants.{One, Two, Three}
use Rattle.proto_core.specs.Lists.{AreWords}
use Rattle.protocol_model.specs.Gates.{sizes_of, needed}
use Rattle.protocol_model.specs.Runs.{Tapes, Ready}
use Rattle.blocked_protocol.specs.Converting.{conv_draws}
use Rattle.blocked_protocol.specs.Splitting.{split_draws}
use Rattle.gates.specs.declared.gate.Gate.{Gate}
use Rattle.gates.specs.declared.gate.Gate.TheVariants.{Mul, And, Split, Conv, Open, Result}
use Rattle.gates.specs.Clear.{Values}
use Rattle.gates.specs.Counts.{size_of, words_of_split, words_of_conversion, words_of_all}
use Rattle.shared_gates.specs.Model.{sizes_made, AllSizesSuit, run_gates, sizes_after, miner_of}
use Rattle.shared_gates.proofs.Models.{gates-sized}
use Rattle.shared_gates.proofs.GatesBehind.{size-stays}

split-words : (n : ℕ) (i : Number) → split_draws n i ≡ words_of_split (miner_of i) n
split-words n One = refl
split-words n Two = refl
split-words n Three = refl

conv-words : (n : ℕ) (i : Number) → conv_draws n i ≡ words_of_conversion (miner_of i) n
conv-words n One = refl
conv-words n Two = refl
conv-words n Three = refl

sum-of-both : (a b c d : ℕ) → a ≡ b → c ≡ d → a + c ≡ b + d
sum-of-both a b c d e f = ap (λ k. k + c) e ∙ ap (λ k. b + k) f

nothing-drawn : (a b : ℕ) → a ≡ b → a ≡ 0 + b
nothing-drawn a b e = omega arith

pub drawn-counted :
    (dealt : Number → Values) (ds sizes : List ℕ) (gates : List Gate) (i : Number) → AllSizesSuit ds sizes gates →
    needed (run_gates dealt ds sizes gates) i ≡ words_of_all (sizes_after ds sizes gates) (miner_of i) gates
drawn-counted dealt ds sizes [] i suit = refl
drawn-counted dealt ds sizes (Mul u v ∷ gates) i suit =
    sum-of-both _ _ _ _ (ap (λ n. 3 * n) (size-stays ds sizes (Mul u v ∷ gates) u suit.0.first))
    (drawn-counted dealt ds (sizes ++ sizes_made ds sizes (Mul u v)) gates i suit.1)
drawn-counted dealt ds sizes (And u v ∷ gates) i suit =
    sum-of-both _ _ _ _ (ap (λ n. 3 * n) (size-stays ds sizes (And u v ∷ gates) u suit.0.first))
    (drawn-counted dealt ds (sizes ++ sizes_made ds sizes (And u v)) gates i suit.1)
drawn-counted dealt ds sizes (Split u negated ∷ gates) i suit =
    sum-of-both _ _ _ _
    (split-words (size_of sizes u) i ∙ ap (words_of_split (miner_of i)) (size-stays ds sizes (Split u negated ∷ gates) u suit.0))
    (drawn-counted dealt ds (sizes ++ sizes_made ds sizes (Split u negated)) gates i suit.1)
drawn-counted dealt ds sizes (Conv u ∷ gates) i suit =
    sum-of-both _ _ _ _
    (conv-words (size_of sizes u) i ∙ ap (words_of_conversion (miner_of i)) (size-stays ds sizes (Conv u ∷ gates) u suit.0))
    (drawn-counted dealt ds (sizes ++ sizes_made ds sizes (Conv u)) gates i suit.1)
drawn-counted dealt ds sizes (Open ring u ∷ gates) i suit =
    sum-of-both _ _ _ _ (size-stays ds sizes (Open ring u ∷ gates) u suit.0)
    (drawn-counted dealt ds (sizes ++ sizes_made ds sizes (Open ring u)) gates i suit.1)
drawn-counted dealt ds sizes (Result ring u ∷ gates) i suit =
    sum-of-both _ _ _ _ (size-stays ds sizes (Result ring u ∷ gates) u suit.0)
    (drawn-counted dealt ds (sizes ++ sizes_made ds sizes (Result ring u)) gates i suit.1)
drawn-counted dealt ds sizes (gate ∷ gates) i suit =
    nothing-drawn _ _ (drawn-counted dealt ds (sizes ++ sizes_made ds sizes gate) gates i suit.1)

pub run-ready :
    (dealt : Number → Values) (ds : List ℕ) (gates : List Gate) (tapes : Tapes) → ((i : Number) → sizes_of (dealt i) ≡ ds) →
    AllSizesSuit ds [] gates → ((i : Number) → words_of_all (sizes_after ds [] gates) (miner_of i) gates ≤ length (tapes i)) →
    ((i : Number) → AreWords (tapes i)) → Ready (run_gates dealt ds [] gates) (λ i. []) tapes
run-ready dealt ds gates tapes same suit reach words =
    record {
      sizes = [];
      sized = gates-sized dealt ds [] gates same suit;
      shares = λ i. refl;
      tapes_reach = λ i. subst (λ n. n ≤ length (tapes i)) (sym (drawn-counted dealt ds [] gates i suit)) (reach i);
      tapes_are_words = words;
    }
