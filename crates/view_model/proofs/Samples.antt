-- Two inputs of which all that the laws on twins ask is there: 6 times 7 and 2 times 21.
use Rattle.std.proofs.Common.{◌≡◌, ℕ, zero, suc, ◌<◌, ◌^◌, List, [], ◌∷◌, All, refl, ◌∙◌, ap, arith}
use Rattle.proto_core.specs.Rings.{add_ring}
use Rattle.proto_core.proofs.Beginnings.{append-none}
use Rattle.gates.specs.Clear.{value, each_two}
use Rattle.gates.proofs.Columns.{stands}
use Rattle.gates.specs.declared.ring_kind.RingKind.TheVariants.{Arithmetic}
use Rattle.shared_gates.specs.Shares.{Kind, Shared, Known}
use Rattle.shared_gates.specs.Kinds.{AllKinded}
use Rattle.shared_gates.specs.Computed.{Computed}
use Rattle.tape_file.specs.Tapes.{FourTapes}
use Rattle.input_share.specs.AddUp.{HasWords}
use Rattle.view_model.specs.Vectors.{pair, product}
use Rattle.view_model.specs.Held.{private_kinds, private_values}
use Rattle.view_model.specs.TapeMaps.{gates_dealt, miners_of, no_values}
use Rattle.view_model.specs.Seen.{opened_by_all}
use Rattle.view_model.specs.Counting.{IsRunOn, Opens, Alike}
use Rattle.protocol_model.specs.Runs.{run_values}
use Rattle.view_model.proofs.Holding.{run_computes}

kinds : List Kind
kinds = Shared Arithmetic ∷ Shared Arithmetic ∷ Shared Arithmetic ∷ Known ∷ []

module _ (a b : ℕ) (a_fits : a < 2 ^ 64) (b_fits : b < 2 ^ 64) where
  kinded : AllKinded (private_kinds (pair a b)) kinds 0 product
  unfolding pair product kinds
  kinded = (refl, (refl, ((refl, (refl, (refl, tt))), (((refl, tt), refl), tt))))

  one_word : (n : ℕ) → n < 2 ^ 64 → All (λ m. m < 2 ^ 64) (n ∷ [])
  one_word n fits zero x h = fits
  one_word n fits (suc k) x h = absurd (omega arith)

  have_words : All HasWords (pair a b)
  unfolding pair
  have_words zero e h = one_word a a_fits
  have_words (suc zero) e h = one_word b b_fits
  have_words (suc (suc k)) e h = absurd (omega arith)

  computed :
      (t : FourTapes) → IsRunOn (pair a b) product t →
      Computed kinds (private_values (pair a b)) [] product
      (run_values (gates_dealt (pair a b) t.dealer product) no_values (miners_of t)) (opened_by_all (pair a b) product t)
  computed t runs = run_computes (pair a b) product t kinds runs.tapes have_words runs.dealt runs.reaches kinded

  opens : Opens (pair a b) product (add_ring.mul a b ∷ [])
  unfolding pair product
  opens t runs =
      let c = computed t runs in
      let first : value c.more 0 ≡ a ∷ [] = stands c.more 0 c.fit.1 in
      let second : value c.more 1 ≡ b ∷ [] = stands c.more 1 c.fit.2.1 in
      let third : value c.more 2 ≡ each_two add_ring.mul (value c.more 0) (value c.more 1) = stands c.more 2 c.fit.2.2.1 in
      c.opens
      ∙ append-none (value c.more 2)
      ∙ third
      ∙ ap (λ x. each_two add_ring.mul x (value c.more 1)) first
      ∙ ap (each_two add_ring.mul (a ∷ [])) second

products_are_alike : Alike (pair 6 7) (pair 2 21) product (42 ∷ [])
unfolding pair
products_are_alike =
    record {
      known = refl;
      opens_first = opens 6 7 (omega arith) (omega arith);
      opens_second = opens 2 21 (omega arith) (omega arith);
    }
