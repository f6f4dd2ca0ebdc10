-- Values that are put into registers.
use Rattle.std.proofs.Common.{◌≡◌, ℕ, zero, suc, ◌<◌, ◌≤◌, List, [], ◌∷◌, length, Bool, true, false, refl, ◌∙◌, ap, get_or, arith}
use Rattle.std.specs.Prelude.{map, set, nat_eq, if◌then◌else◌}
use Rattle.std.specs.List.{slice_get}
use mathlib.Core.Path.{fun_ext}
use Rattle.std.proofs.lemmas.Bool.{eqb-true, eqb-false}
use Rattle.std.proofs.lemmas.List.{length-map, map-set, get_or-set_other, get_or-map}
use Rattle.std.proofs.lemmas.Grind.{get_or-set_at}
use Rattle.bytecode.specs.declared.kind.Kind.{Kind}
use Rattle.language_model.specs.Values.{Value}
use Rattle.language_model.specs.Evaluation.{Frame, put, nothing}
use Rattle.named_values.specs.Machine.{begun, filled_with, behind_first}
use Rattle.value_steps.specs.declared.value.Value as held
use Rattle.value_steps.specs.Views.{value_seen}
use Rattle.code_machine.specs.Views.{registers_seen}

pub registers-put : (vs : List held.Value) (k : ℕ) (v : held.Value) → k < length vs → registers_seen (set vs k v) ≡ put k (value_seen v) (registers_seen vs)
unfolding registers_seen
registers-put vs k v h = fun_ext (λ j. at j (nat_eq j k) refl)
  where
    there : k < length (map value_seen vs)
    there = simp (length-map) h

    at : (j : ℕ) (b : Bool) → nat_eq j k ≡ b → get_or (map value_seen (set vs k v)) j nothing
        ≡ (if b then value_seen v else get_or (map value_seen vs) j nothing)
    at j true e = ap (λ l. get_or l j nothing) (map-set value_seen vs k v) ∙ get_or-set_at (map value_seen vs) k j (value_seen v) nothing (eqb-true j k e) there
    at j false e = ap (λ l. get_or l j nothing) (map-set value_seen vs k v) ∙ get_or-set_other (map value_seen vs) k j (value_seen v) nothing (eqb-false j k e)

-- what stands in a register
pub registers-at : (vs : List held.Value) (k : ℕ) (d : held.Value) → k < length vs → registers_seen vs k ≡ value_seen (get_or vs k d)
unfolding registers_seen
registers-at vs k d h = get_or-map value_seen vs k d nothing h

-- registers that stand for these values, as far as there are so many, and for nothing after them
pub registers-are : (vs : List held.Value) (fr : Frame) → ((k : ℕ) → get_or (map value_seen vs) k nothing ≡ fr k) → registers_seen vs ≡ fr
unfolding registers_seen
registers-are vs fr h = fun_ext h

pub filled-argument : (kinds : List Kind) (xs : List Value) (k : ℕ) → k < length xs → filled_with kinds xs k ≡ get_or xs k nothing
filled-argument kinds [] k h = absurd (omega arith)
filled-argument kinds (x ∷ xs) zero h = refl
filled-argument kinds (x ∷ xs) (suc k) h = filled-argument (behind_first kinds) xs k (omega arith)

behind-get : (kinds : List Kind) (k : ℕ) → slice_get (behind_first kinds) k ≡ slice_get kinds (suc k)
behind-get [] k = refl
behind-get (x ∷ xs) k = refl

pub filled-behind : (kinds : List Kind) (xs : List Value) (k : ℕ) → length xs ≤ k → filled_with kinds xs k ≡ begun (slice_get kinds k)
filled-behind kinds [] k h = refl
filled-behind kinds (x ∷ xs) zero h = absurd (omega arith)
filled-behind kinds (x ∷ xs) (suc k) h = filled-behind (behind_first kinds) xs k (omega arith) ∙ ap begun (behind-get kinds k)
