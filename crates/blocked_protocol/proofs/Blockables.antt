-- The protocols of the gates can be run block after block.
use Rattle.std.proofs.Common.{◌*◌, Bool, refl, arith}
use Rattle.proto_core.specs.Ring.{Ring}
use Rattle.proto_core.specs.declared.party.Number.{Number}
use Rattle.proto_core.specs.declared.party.Number.TheVariants.{One, Two, Three}
use Rattle.multiply.specs.Multiplying.{mul_protocol}
use Rattle.open_result.specs.Opening.{open_protocol}
use Rattle.open_result.specs.Resharing.{reshare_protocol}
use Rattle.share_convert.specs.Converting.{conv_draws, conv_protocol}
use Rattle.split_share.specs.Splitting.{split_draws, split_protocol}
use Rattle.blocked_protocol.specs.Blocked.{Additive, Blockable}
use Rattle.blocked_protocol.proofs.Fitting.{itself}

none_of_it : Additive (λ n. 0)
none_of_it = record { none = refl; more = λ m n. refl }

three_of_it : Additive (λ n. 3 * n)
three_of_it = record { none = refl; more = λ m n. omega arith }

four_of_it : Additive (λ n. 4 * n)
four_of_it = record { none = refl; more = λ m n. omega arith }

conv-draws : (i : Number) → Additive (λ n. conv_draws n i)
conv-draws One = four_of_it
conv-draws Two = itself
conv-draws Three = itself

split-draws : (i : Number) → Additive (λ n. split_draws n i)
split-draws One = itself
split-draws Two = none_of_it
split-draws Three = none_of_it

pub mul-blockable : (r : Ring) → Blockable (mul_protocol r)
mul-blockable r =
    record { second = itself; draws = λ i. three_of_it; opens = none_of_it; made_none = refl; made_more = λ m n. refl }

pub open-blockable : (r : Ring) → Blockable (open_protocol r)
open-blockable r =
    record { second = none_of_it; draws = λ i. itself; opens = itself; made_none = refl; made_more = λ m n. refl }

pub reshare-blockable : (r : Ring) → Blockable (reshare_protocol r)
reshare-blockable r =
    record { second = none_of_it; draws = λ i. itself; opens = none_of_it; made_none = refl; made_more = λ m n. refl }

pub conv-blockable : Blockable conv_protocol
conv-blockable =
    record { second = none_of_it; draws = conv-draws; opens = none_of_it; made_none = refl; made_more = λ m n. refl }

pub split-blockable : (negated : Bool) → Blockable (split_protocol negated)
split-blockable negated =
    record { second = none_of_it; draws = split-draws; opens = none_of_it; made_none = refl; made_more = λ m n. refl }
