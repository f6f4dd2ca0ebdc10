-- Which miner is which.
use Rattle.std.proofs.Common.{◌≡◌, true, refl}
use Rattle.proto_core.specs.declared.party.Number.{Number}
use Rattle.proto_core.specs.declared.party.Number.TheVariants.{One, Two, Three}
use Rattle.proto_core.specs.Parties.{is_same}

pub same_itself : (i : Number) → is_same i i ≡ true
same_itself One = refl
same_itself Two = refl
same_itself Three = refl

pub same_is : (i k : Number) → is_same i k ≡ true → i ≡ k
same_is One One h = refl
same_is Two Two h = refl
same_is Three Three h = refl
same_is _ _ h = cc
