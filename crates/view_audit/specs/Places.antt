-- A line of one of three views, and which of several is named.
use Rattle.std.specs.Prelude.{ℕ, Option, Some, None, option_map}
use Rattle.std.specs.Option.{option_map_or}
use Rattle.proto_core.specs.declared.party.Number.{Number}
use Rattle.proto_core.specs.declared.party.Number.TheVariants.{One, Two, Three}

-- lines count from 1
pub record Place : Type 0 where
  pub miner : Number
  pub line : ℕ

abbrev pub place_in : Number → ℕ → Place
place_in i line = record { miner = i; line = line }

-- the lowest miner's
abbrev pub lowest : (Number → Option ℕ) → Option Place
lowest at =
    option_map_or (λ n. Some (place_in One n)) (at One)
    (option_map_or (λ n. Some (place_in Two n)) (at Two) (option_map (place_in Three) (at Three)))

-- a later step is asked where no earlier one names a line
abbrev pub then_ask : Option Place → Option Place → Option Place
then_ask (Some place) later = Some place
then_ask None later = later
