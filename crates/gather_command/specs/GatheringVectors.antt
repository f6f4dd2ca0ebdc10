-- Worked lengths and names.
use Rattle.std.specs.Prelude.{◌≡◌, ◌-◌, ◌^◌, [], ◌∷◌, Some, None, codes, refl}
use Rattle.gather_command.specs.Gathering.{joined_lens, name_again}

dealers_are_added : joined_lens (4 ∷ 10 ∷ 20 ∷ 30 ∷ []) (6 ∷ 10 ∷ 20 ∷ 30 ∷ []) ≡ Some (10 ∷ 10 ∷ 20 ∷ 30 ∷ [])
unfolding joined_lens
dealers_are_added = refl

miners_differ : joined_lens (4 ∷ 10 ∷ 20 ∷ 30 ∷ []) (4 ∷ 10 ∷ 20 ∷ 31 ∷ []) ≡ None
unfolding joined_lens
miners_differ = refl

too_long_together : joined_lens ((2 ^ 64 - 1) ∷ 0 ∷ 0 ∷ 0 ∷ []) (1 ∷ 0 ∷ 0 ∷ 0 ∷ []) ≡ None
unfolding joined_lens
too_long_together = refl

second_of_one_name : name_again [] (codes "a" ∷ codes "b" ∷ codes "a" ∷ codes "b" ∷ []) ≡ Some (codes "a")
unfolding name_again
second_of_one_name = refl

all_names_differ : name_again [] (codes "a" ∷ codes "b" ∷ codes "c" ∷ []) ≡ None
unfolding name_again
all_names_differ = refl
