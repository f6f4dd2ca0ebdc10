use Rattle.std.proofs.Common.{◌≡◌, ◌≤◌, ℕ, List, [], ◌∷◌, length, refl, sym, subst, arith}
use Rattle.outside.specs.Tapes.{Drew}
use Rattle.miner_core.specs.Streams.{no_words}
use Rattle.miner_core.proofs.Sources.{drew_none}
use Rattle.miner_core.proofs.no_tapes.NoTapesTapeSource.take.Goals as goal

no_word : (xs : List ℕ) → length xs ≤ 0 → xs ≡ []
no_word [] h = refl
no_word (x ∷ xs) h = absurd (omega (arith, h))

drew_nothing : (xs : List ℕ) (p : ℕ) → length xs ≤ 0 → Drew no_words no_words p xs
drew_nothing xs p h = subst (λ w. Drew no_words no_words p w) (sym (no_word xs h)) (drew_none no_words p)

pub returns-clause-ok : goal.returns-clause-ok
returns-clause-ok c = drew_nothing c.args._into.now c.args._party c.requires.enough
