-- What a well-formed run of gates comes to.
use Rattle.std.proofs.Common.{◌≡◌, ℕ, ◌<◌, ◌≤◌, List, [], ◌∷◌, ◌++◌, length, refl, sym, ◌∙◌, ap, subst, arith}
use Rattle.std.proofs.lemmas.List.{length-map, ext_get_or}
use Rattle.proto_core.specs.Ring.{Ring}
use Rattle.proto_core.specs.declared.party.Number.{Number}
use Rattle.proto_core.specs.declared.party.Number.TheVariants.{One}
use Rattle.proto_core.specs.Lists.{each, AreWords}
use Rattle.proto_core.proofs.Each.{length-each, AreWords-each, same_words}
use Rattle.protocol_model.specs.Gates.{sizes_of, needed}
use Rattle.protocol_model.specs.Runs.{Tapes, Ready}
use Rattle.gates.specs.declared.gate.Gate.{Gate}
use Rattle.gates.specs.declared.gate.Gate.TheVariants.{Mul, And, Split, Conv, Open, Result}
use Rattle.gates.specs.Clear.{Values, value}
use Rattle.gates.specs.Counts.{size_of}
use Rattle.gates.proofs.Sizes.{size_of-value}
use Rattle.shared_gates.specs.Shares.{AreShares, Holds, kind_at}
use Rattle.shared_gates.specs.Model.{sizes_made, run_gates, sizes_after}
use Rattle.shared_gates.specs.Computed.{Computed}
use Rattle.shared_gates.proofs.Models.{gates-sound}
use Rattle.shared_gates.proofs.Drawn.{drawn-counted, run-ready}
use Rattle.shared_gates.proofs.Computing.{computes, holds-size}
use Rattle.shared_plans.specs.GateRuns.{GateRun, IsWellFormed, dealt_sizes, value_count, value_sizes, model_gates, end_shares, shares_of}
use Rattle.shared_plans.specs.GateRuns.{opened_words, words_drawn}
use Rattle.shared_plans.proofs.GateLists.{length-sizes}
use Rattle.shared_plans.proofs.RunLists.{sizes_behind, values-sized}

-- ---- shares

-- the words that shares add up to are told by the shares
pub shares-determine : (r : Ring) (xs ys : List ℕ) (s : Number → List ℕ) → AreShares r xs s → AreShares r ys s → xs ≡ ys
shares-determine r xs ys s a b =
    let same : length ys ≡ length xs = sym (b.sizes One) ∙ a.sizes One in
    same_words (length xs) xs ys refl same (λ k lt. sym (a.sum k lt) ∙ b.sum k (subst (λ n. k < n) (sym same) lt))

-- ---- sizes

pub model-sizes :
    (dealt : Number → Values) (ds sizes : List ℕ) (gates : List Gate) →
    sizes_behind (run_gates dealt ds sizes gates) sizes ≡ sizes_after ds sizes gates
model-sizes dealt ds sizes [] = refl
model-sizes dealt ds sizes (Mul u v ∷ gates) = model-sizes dealt ds (sizes ++ sizes_made ds sizes (Mul u v)) gates
model-sizes dealt ds sizes (And u v ∷ gates) = model-sizes dealt ds (sizes ++ sizes_made ds sizes (And u v)) gates
model-sizes dealt ds sizes (Split u negated ∷ gates) = model-sizes dealt ds (sizes ++ sizes_made ds sizes (Split u negated)) gates
model-sizes dealt ds sizes (Conv u ∷ gates) = model-sizes dealt ds (sizes ++ sizes_made ds sizes (Conv u)) gates
model-sizes dealt ds sizes (Open ring u ∷ gates) = model-sizes dealt ds (sizes ++ sizes_made ds sizes (Open ring u)) gates
model-sizes dealt ds sizes (Result ring u ∷ gates) = model-sizes dealt ds (sizes ++ sizes_made ds sizes (Result ring u)) gates
model-sizes dealt ds sizes (gate ∷ gates) = model-sizes dealt ds (sizes ++ sizes_made ds sizes gate) gates

-- ---- a run

module _ (r : GateRun) (good : IsWellFormed r) where
  pub run-needs : (i : Number) → needed (model_gates r) i ≡ words_drawn r i
  run-needs i = drawn-counted r.dealt (dealt_sizes r) [] r.gates i good.suits

  pub run-goes :
      (tapes : Tapes) → ((i : Number) → words_drawn r i ≤ length (tapes i)) → ((i : Number) → AreWords (tapes i)) →
      Ready (model_gates r) (λ i. []) tapes
  run-goes tapes long words = run-ready r.dealt (dealt_sizes r) r.gates tapes good.dealt_sized good.suits long words

  pub run-computes :
      (tapes : Tapes) → Ready (model_gates r) (λ i. []) tapes →
      Computed r.kinds r.inputs [] r.gates (end_shares r tapes) (opened_words r tapes)
  run-computes tapes ready =
      computes r.dealt_kinds r.kinds r.inputs r.dealt (dealt_sizes r) good.dealt_held refl good.dealt_sized r.gates [] [] (λ i. []) tapes refl (λ i. refl)
      (λ k lt. absurd (none k lt)) good.kinded good.suits ready
    where
      none : (k : ℕ) → k < 0 → ⊥
      none k lt = omega arith

  pub run-sizes : (tapes : Tapes) → Ready (model_gates r) (λ i. []) tapes → (i : Number) → sizes_of (end_shares r tapes i) ≡ value_sizes r
  run-sizes tapes ready i =
      values-sized (model_gates r) (λ k. []) tapes [] (gates-sound r.dealt (dealt_sizes r) [] r.gates) ready (λ k. refl) i
      ∙ model-sizes r.dealt (dealt_sizes r) [] r.gates

  pub sizes-count : length (value_sizes r) ≡ value_count r
  sizes-count = omega (arith, length-sizes (dealt_sizes r) [] r.gates)

  pub run-count : (tapes : Tapes) → Ready (model_gates r) (λ i. []) tapes → (i : Number) → length (end_shares r tapes i) ≡ value_count r
  run-count tapes ready i = sym (length-map (end_shares r tapes i) length) ∙ ap length (run-sizes tapes ready i) ∙ sizes-count

  -- the values that they hold have the sizes that are told
  pub computed-sizes :
      (tapes : Tapes) → Ready (model_gates r) (λ i. []) tapes → (values : Values) → length values ≡ value_count r →
      ((k : ℕ) → k < length values → Holds (kind_at r.kinds k) (value values k) (shares_of r tapes k)) →
      sizes_of values ≡ value_sizes r
  computed-sizes tapes ready values count held =
      let long = length-map values length in
      ext_get_or 0 (sizes_of values) (value_sizes r) (long ∙ count ∙ sym sizes-count)
      (λ k lt.
      let below : k < length values = omega arith in
      size_of-value values k
      ∙ holds-size (kind_at r.kinds k) (value values k) (shares_of r tapes k) (held k below) One
      ∙ sym (size_of-value (end_shares r tapes One) k)
      ∙ ap (λ sizes. size_of sizes k) (run-sizes tapes ready One))

  -- some tapes reach
  pub zero_tapes : Tapes
  zero_tapes i = each (words_drawn r i) (λ k. 0)

  pub zeros-go : Ready (model_gates r) (λ i. []) zero_tapes
  unfolding zero_tapes
  zeros-go =
      run-goes zero_tapes (λ i. let long = length-each (words_drawn r i) (λ k. 0) in omega arith)
      (λ i. AreWords-each (words_drawn r i) (λ k. 0) (λ k. omega arith))
