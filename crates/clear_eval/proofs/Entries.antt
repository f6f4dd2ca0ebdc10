-- The slots of a function that is entered.
use Rattle.std.proofs.Common.{◌≡◌, ℕ, zero, suc, ◌<◌, ◌≤◌, List, [], ◌∷◌, length, refl, ◌∙◌, ap, get_or, arith}
use Rattle.std.specs.List.{slice_get}
use Rattle.program_trees.specs.declared.kinds.Slot.{Slot}
use Rattle.reached_instances.specs.declared.instance.BoundDomain.{BoundDomain}
use Rattle.language_model.specs.Values.{Value}
use Rattle.language_model.specs.Evaluation.{begins, behind_next, entered, nothing}

behind : (ss : List Slot) (k : ℕ) → slice_get (behind_next ss) k ≡ slice_get ss (suc k)
behind [] k = refl
behind (s ∷ ss) k = refl

pub entered-argument : (b : List BoundDomain) (ss : List Slot) (xs : List Value) (k : ℕ) → k < length xs → entered b ss xs k ≡ get_or xs k nothing
entered-argument b ss [] k h = absurd (omega arith)
entered-argument b ss (x ∷ xs) zero h = refl
entered-argument b ss (x ∷ xs) (suc k) h = entered-argument b (behind_next ss) xs k (omega arith)

pub entered-behind : (b : List BoundDomain) (ss : List Slot) (xs : List Value) (k : ℕ) → length xs ≤ k → entered b ss xs k ≡ begins b (slice_get ss k)
entered-behind b ss [] k h = refl
entered-behind b ss (x ∷ xs) zero h = absurd (omega arith)
entered-behind b ss (x ∷ xs) (suc k) h = entered-behind b (behind_next ss) xs k (omega arith) ∙ ap (begins b) (behind ss k)
