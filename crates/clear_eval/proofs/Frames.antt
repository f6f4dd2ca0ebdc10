-- Values that are put into slots.
use Rattle.std.proofs.Common.{◌≡◌, ℕ, ◌<◌, List, length, Bool, true, false, refl, ◌∙◌, ap, get_or}
use Rattle.std.specs.Prelude.{map, set, nat_eq, if◌then◌else◌}
use mathlib.Core.Path.{fun_ext}
use Rattle.std.proofs.lemmas.Bool.{eqb-true, eqb-false}
use Rattle.std.proofs.lemmas.List.{length-map, map-set, get_or-set_other, get_or-map}
use Rattle.std.proofs.lemmas.Grind.{get_or-set_at}
use Rattle.language_model.specs.Values.{Value}
use Rattle.language_model.specs.Evaluation.{Frame, put, nothing}
use Rattle.value_steps.specs.declared.value.Value as held
use Rattle.value_steps.specs.Views.{value_seen}
use Rattle.clear_eval.specs.inner.Views.{frame_seen}

pub frame-put : (vs : List held.Value) (k : ℕ) (v : held.Value) → k < length vs → frame_seen (set vs k v) ≡ put k (value_seen v) (frame_seen vs)
unfolding frame_seen
frame-put vs k v h = fun_ext (λ j. at j (nat_eq j k) refl)
  where
    there : k < length (map value_seen vs)
    there = simp (length-map) h

    at : (j : ℕ) (b : Bool) → nat_eq j k ≡ b
        → get_or (map value_seen (set vs k v)) j nothing ≡ (if b then value_seen v else get_or (map value_seen vs) j nothing)
    at j true e = ap (λ l. get_or l j nothing) (map-set value_seen vs k v) ∙ get_or-set_at (map value_seen vs) k j (value_seen v) nothing (eqb-true j k e) there
    at j false e = ap (λ l. get_or l j nothing) (map-set value_seen vs k v) ∙ get_or-set_other (map value_seen vs) k j (value_seen v) nothing (eqb-false j k e)

-- what stands in a slot
pub frame-at : (vs : List held.Value) (k : ℕ) (d : held.Value) → k < length vs → frame_seen vs k ≡ value_seen (get_or vs k d)
unfolding frame_seen
frame-at vs k d h = get_or-map value_seen vs k d nothing h

-- of two values put into one slot the later stays
pub put-put : (k : ℕ) (v u : Value) (fr : Frame) → put k v (put k u fr) ≡ put k v fr
put-put k v u fr = fun_ext (λ j. at j (nat_eq j k))
  where
    at : (j : ℕ) (b : Bool) → (if b then v else (if b then u else fr j)) ≡ (if b then v else fr j)
    at j true = refl
    at j false = refl
