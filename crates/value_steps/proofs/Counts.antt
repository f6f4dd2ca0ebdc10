-- How many values the first gates of a list make.
use Rattle.std.proofs.Common.{◌≡◌, ℕ, ◌+◌, ◌<◌, List, length, get_or, take, refl, sym, ◌∙◌, ap}
use Rattle.std.proofs.lemmas.List.Recursion.{is_sum_by}
use Rattle.std.proofs.lemmas.List.Sums.{sum_by_more}
use Rattle.std.specs.List.{sum_by}
use Rattle.gates.specs.declared.gate.Gate.{Gate}
use Rattle.gates.specs.Counts.{made_by, made_by_all}

all_is_sum : (gates : List Gate) → made_by_all gates ≡ sum_by made_by gates
all_is_sum gates = is_sum_by made_by_all made_by refl (λ _ _. refl) gates

pub made_more : (gates : List Gate) (i : ℕ) (d : Gate) → i < length gates
    → made_by_all (take (i + 1) gates) ≡ made_by_all (take i gates) + made_by (get_or gates i d)
made_more gates i d h =
    all_is_sum (take (i + 1) gates) ∙ sum_by_more made_by gates i d h ∙ ap (λ n. n + made_by (get_or gates i d)) (sym (all_is_sum (take i gates)))
