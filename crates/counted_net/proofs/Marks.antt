-- Links that are marked by a test of each.
use Rattle.std.proofs.Common.{◌≡◌, ℕ, Bool, [], ◌∷◌, ap}
use Rattle.std.specs.Prelude.{filter}
use Rattle.proto_core.specs.declared.link.Link.{Link}
use Rattle.proto_core.specs.declared.link.Link.TheVariants.{Link12, Link13, Link21, Link23, Link31, Link32}
use Rattle.protocol_model.specs.Network.{all_links, chosen}
use Rattle.counted_net.specs.Nets.{is_marked}

module _ (p : Link → Bool) (a b c d e f : Bool) (x12 : a ≡ p Link12) (x13 : b ≡ p Link13) (x21 : c ≡ p Link21) (x23 : d ≡ p Link23)
    (x31 : e ≡ p Link31) (x32 : f ≡ p Link32) where
  marks_are : (l : Link) → is_marked (a ∷ b ∷ c ∷ d ∷ e ∷ f ∷ []) l ≡ p l
  marks_are Link12 = x12
  marks_are Link13 = x13
  marks_are Link21 = x21
  marks_are Link23 = x23
  marks_are Link31 = x31
  marks_are Link32 = x32

  pub chosen_of_marked : (word : ℕ) → chosen word (filter (is_marked (a ∷ b ∷ c ∷ d ∷ e ∷ f ∷ [])) all_links) ≡ chosen word (filter p all_links)
  chosen_of_marked word = ap (λ (q : Link → Bool). chosen word (filter q all_links)) (λ i. λ l. marks_are l i)
