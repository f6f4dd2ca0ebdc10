-- A look-up: the elements of a private array at private indices.
use Rattle.std.proofs.Common.{◌≡◌, ℕ, zero, suc, ◌*◌, ◌<◌, ◌^◌, List, [], ◌∷◌, ◌++◌, length, map, true, refl, sym, ap, subst, arith}
use Rattle.std.specs.Prelude.{get_or, nat_le}
use Rattle.std.proofs.lemmas.List.{length-map}
use Rattle.program_trees.specs.declared.expression.DataType.TheVariants.{Uint64}
use Rattle.program_trees.specs.Shapes.{shape_of}
use Rattle.proto_core.specs.Lists.{AreWords}
use Rattle.gates.specs.declared.ring_kind.RingKind.TheVariants.{Arithmetic}
use Rattle.gates.specs.Counts.{Miner, Miner1, Miner2, Miner3}
use Rattle.oblivious_index.specs.Lookup.{looked, lookup_plan}
use Rattle.oblivious_index.specs.LookupLaw as lookup
use Rattle.shared_plans.specs.Plans.{lookup_kinds}
use Rattle.language_model.specs.Effects.{World}
use Rattle.language_model.specs.Values.{Value, size}
use Rattle.language_model.specs.Operations.{largest, words_for_lookup, looked_up}
use Rattle.gate_laws.specs.Facts.{IsProper, none_of, Fact, facts_of, Suits}
use Rattle.gate_laws.specs.Dealt.{drawn_by, Dealt}
use Rattle.gate_laws.specs.Rows.{IsOfElements, IsOfNumbers}
use Rattle.gate_laws.proofs.Effects.{suits_bind, draw_suits, first_stand, second_stand}
use Rattle.gate_laws.proofs.Gains.{fact, planned_suits}
use Rattle.gate_laws.proofs.Plans.{lookup_gain}
use Rattle.gate_laws.proofs.Parts.{range_words, tell_first, number_as, number_of_numbers, given_numbers}
use Rattle.gate_laws.proofs.Ranges.{Below, below_cons, below_none, below_head, below_tail}
use Rattle.gate_laws.proofs.Arrays.{large_suits, element_below}

lookup_words : (n : ℕ) (m : Miner) → drawn_by (words_for_lookup n) m ≡ lookup.words_taken m n
lookup_words n Miner1 = refl
lookup_words n Miner2 = refl
lookup_words n Miner3 = refl

looked_words : (xs ks : List ℕ) → AreWords xs → AreWords (looked xs ks)
looked_words xs [] h = below_none (2 ^ 64) (omega arith)
looked_words xs (k ∷ ks) h = below_cons (2 ^ 64) (get_or xs k 0) (looked xs ks) (element_below (2 ^ 64) k xs (omega arith) h) (looked_words xs ks h)

module _ (w : World) (d : Dealt) (x i : Value) (p : IsOfNumbers x) (q : IsOfElements Uint64 i) where
  abbrev both : List Fact
  both = facts_of x ++ facts_of i

  abbrev many : ℕ
  many = size x * size i

  array_words : AreWords x.words
  array_words = range_words x.shape.element x.words p.proper.range

  place_words : AreWords i.words
  place_words = range_words i.shape.element i.words q.proper.range

  looked_small : length (looked x.words i.words) < 2 ^ 64
  looked_small = subst (λ n. n < 2 ^ 64) (sym (length-map i.words (λ k. get_or x.words k 0))) q.proper.small

  pub looked_up_suits : (line : ℕ) → Suits w d both none_of (looked_up w line x i) none_of facts_of IsProper
  looked_up_suits line =
      let owed = drawn_by (words_for_lookup many) in
      suits_bind w d (large_suits w d both line many) (λ _ few.
      suits_bind w d (draw_suits w d both (words_for_lookup many)) (λ _ _.
      suits_bind w d
      (number_of_numbers w d both owed x p.numbers (record { from = λ r k. first_stand r (facts_of x) (facts_of i) k }) p.proper.range) (λ u _.
      suits_bind w d
      (number_as w d (fact u Arithmetic x.words ∷ both) owed Uint64 i q.element (record { from = λ r k. second_stand r (facts_of x) (facts_of i) k.1 })
      place_words) (λ v _.
      suits_bind w d
      (planned_suits w d (fact v Arithmetic i.words ∷ (fact u Arithmetic x.words ∷ both)) owed (λ m. lookup.words_taken m many) none_of
      (λ first. lookup_plan first u v (size x) (size i)) lookup_kinds 23 Arithmetic (looked x.words i.words)
      (λ m. let e = lookup_words many m in omega (arith, e)) (λ first. refl)
      (λ r good facts. lookup_gain r good u v x.words i.words array_words place_words p.proper.small facts.1.0 facts.0)) (λ r _.
      given_numbers w d _ (shape_of x.shape.element i.shape.array) (looked x.words i.words) r p.numbers (tell_first _ _)
      (looked_words x.words i.words array_words) looked_small)))))
