-- Which miner is named after the last delivery: the lowest that waits.
use Rattle.std.proofs.Common.{◌≡◌, ap, ◌∙◌}
use Rattle.std.specs.Option.{option_map_or}
use Rattle.std.specs.Prelude.{Option, Some, None}
use Rattle.proto_core.specs.declared.party.Number.{Number}
use Rattle.proto_core.specs.declared.party.Number.TheVariants.{One, Two, Three}
use Rattle.proto_core.specs.declared.link.Link.{Link}
use Rattle.protocol_model.specs.Network.{Accepted, Stalled, at_the_end}

module _ (waits : Number → Option Link) where
  pub first_waits : (l : Link) → waits One ≡ Some l → at_the_end waits ≡ Stalled One l
  first_waits l a = ap (λ o. option_map_or (Stalled One) o (option_map_or (Stalled Two) (waits Two) (option_map_or (Stalled Three) (waits Three) Accepted))) a

  pub second_waits : (l : Link) → waits One ≡ None → waits Two ≡ Some l → at_the_end waits ≡ Stalled Two l
  second_waits l a b =
      ap (λ o. option_map_or (Stalled One) o (option_map_or (Stalled Two) (waits Two) (option_map_or (Stalled Three) (waits Three) Accepted))) a
      ∙ ap (λ o. option_map_or (Stalled Two) o (option_map_or (Stalled Three) (waits Three) Accepted)) b

  pub third_waits : (l : Link) → waits One ≡ None → waits Two ≡ None → waits Three ≡ Some l → at_the_end waits ≡ Stalled Three l
  third_waits l a b c =
      ap (λ o. option_map_or (Stalled One) o (option_map_or (Stalled Two) (waits Two) (option_map_or (Stalled Three) (waits Three) Accepted))) a
      ∙ ap (λ o. option_map_or (Stalled Two) o (option_map_or (Stalled Three) (waits Three) Accepted)) b
      ∙ ap (λ o. option_map_or (Stalled Three) o Accepted) c

  pub none_waits : waits One ≡ None → waits Two ≡ None → waits Three ≡ None → at_the_end waits ≡ Accepted
  none_waits a b c =
      ap (λ o. option_map_or (Stalled One) o (option_map_or (Stalled Two) (waits Two) (option_map_or (Stalled Three) (waits Three) Accepted))) a
      ∙ ap (λ o. option_map_or (Stalled Two) o (option_map_or (Stalled Three) (waits Three) Accepted)) b
      ∙ ap (λ o. option_map_or (Stalled Three) o Accepted) c
