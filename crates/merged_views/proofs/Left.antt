-- The first entry that is left is the first that no schedule reaches.
use Rattle.std.proofs.Common.{◌≡◌, ◌≢◌, ℕ, ◌+◌, ◌<◌, List, [], ◌∷◌, length, refl, sym, ◌∙◌, ap, arith}
use Rattle.std.proofs.lemmas.List.{length-append}
use Rattle.proto_core.specs.declared.party.Number.{Number}
use Rattle.proto_core.specs.declared.link.Link.{Link}
use Rattle.proto_core.specs.Script.{Move}
use Rattle.merged_orders.specs.Merging.{links_to, Orders, Stuck}
use Rattle.merged_orders.proofs.Furthest.{is_reached}
use Rattle.merged_views.specs.Unreached.{IsFirstUnreached, NoneIsLeftBelow}

some_left : (left : List Link) → left ≢ [] → 0 < length left
some_left [] h = absurd (h refl)
some_left (l ∷ ls) h = omega arith

not_below : (n : ℕ) → n < n → ⊥
not_below n h = omega arith

module _ (scripts : Number → List Move) (orders left : Orders) (ls : List Link) (stuck : Stuck scripts orders ls left) where
  parted : (i : Number) → length (orders i) ≡ length (links_to i ls) + length (left i)
  parted i = ap length (sym (stuck.parts i)) ∙ length-append (links_to i ls) (left i)

  pub first_left : (i : Number) → NoneIsLeftBelow left i → left i ≢ [] → IsFirstUnreached scripts orders i (length (links_to i ls))
  first_left i lower some =
      let long = parted i in
      let more = some_left (left i) some in
      record {
        first =
            record {
              there = omega (arith, long, more);
              none = λ reached. not_below (length (links_to i ls)) ((is_reached scripts orders ls left stuck i (length (links_to i ls))).0 reached);
              before = λ k below. (is_reached scripts orders ls left stuck i k).1 below;
            };
        lower = λ h k smaller there. (is_reached scripts orders ls left stuck h k).1 (inside h k (lower h smaller) there);
      }
    where
      inside : (h : Number) (k : ℕ) → left h ≡ [] → k < length (orders h) → k < length (links_to h ls)
      inside h k e there =
          let long = parted h in
          let none : length (left h) ≡ 0 = ap length e in
          omega (arith, long, none, there)
