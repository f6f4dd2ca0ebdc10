-- Worked inputs and a worked seed.
use Rattle.std.specs.Prelude.{◌≡◌, [], ◌∷◌, replicate, codes, refl}
use Rattle.value_file.specs.declared.value.Domain.TheVariants.{Private}
use Rattle.value_file.specs.declared.value.Value.TheVariants.{Numbers}
use Rattle.workload.specs.Load.{load_entries, load_seed}

-- their products are 0, 9 and 24, and only in the first place is the first array below the second
pub entries_of_two : load_entries 2 ≡
    record { name = codes "a"; domain = Private; value = Numbers (0 ∷ 3 ∷ 6 ∷ []) }
    ∷ record { name = codes "b"; domain = Private; value = Numbers (2 ∷ 3 ∷ 4 ∷ []) }
    ∷ []
unfolding load_entries
entries_of_two = refl

pub seed_of_258 : load_seed 258 ≡ 2 ∷ 1 ∷ replicate 30 0
unfolding load_seed
seed_of_258 = refl
