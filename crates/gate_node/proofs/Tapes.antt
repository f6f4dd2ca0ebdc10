-- Words that were drawn, and those that are left.
use Rattle.std.proofs.Common.{◌≡◌, ℕ, ◌+◌, ◌≤◌, List, ◌++◌, take, drop, length, length-drop, sym, ap, ◌∙◌, arith}
use Rattle.std.proofs.lemmas.List.{drop-drop, drop-append-le, drop_all, take-append-le, length-append}
use Rattle.outside.specs.Tapes.{TapesState}
use Rattle.gate_node.specs.Supplies.{DrawsTo, SuppliesTape}
use Rattle.block_steps.proofs.Inboxes.{lets_go, lets_none_go}

pub drop-more : (n drawn : ℕ) (xs : List ℕ) → drop (drawn + n) xs ≡ drop n (drop drawn xs)
drop-more n drawn xs = sym (drop-drop n drawn xs)

-- further words come: those at the front are the same, and so many are left as before, with the further ones
pub front-more : (n : ℕ) (xs more : List ℕ) → n ≤ length xs → (take n (xs ++ more) ≡ take n xs) × (drop n (xs ++ more) ≡ drop n xs ++ more)
front-more n xs more h = (take-append-le n xs more h, drop-append-le n xs more h)

pub further : (n : ℕ) (xs more : List ℕ) → n ≤ length xs → n ≤ length (xs ++ more)
further n xs more h = let l : length (xs ++ more) ≡ length xs + length more = length-append xs more in omega (arith, l, h)

pub ruleset tape_steps = (drop-more, length-drop, drop-append-le)

pub ruleset letting_go = (lets_go, lets_none_go, drop_all)

-- words that were drawn behind those that are there are left, too
pub supplies_tape : (party count drawn : ℕ) (before after : List ℕ) (old new : TapesState) → drawn ≤ length before → DrawsTo party count before after old new
    → SuppliesTape party count (before, drop drawn before) (after, drop drawn after) old new
supplies_tape party count drawn before after old new within d =
    record { all = d; left = ap (drop drawn) d.added ∙ drop-append-le drawn before d.words within }
