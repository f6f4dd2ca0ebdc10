-- The share words of private inputs, list after list.
use Rattle.std.proofs.Common.{◌≡◌, ◌∷◌, ◌++◌, List, [], refl, ◌∙◌, ap}
use Rattle.gates.specs.Clear.{Values}
use Rattle.input_share.specs.declared.entry.Part.{Part}
use Rattle.input_share.specs.declared.entry.Part.TheVariants as part
use Rattle.input_share.specs.declared.entry.ShareEntry.{ShareEntry}
use Rattle.view_model.specs.Dealing.{private_shares, private_then}

then_append : (p : Part) (xs ys : Values) → private_then p (xs ++ ys) ≡ private_then p xs ++ ys
then_append (part.Public value) xs ys = refl
then_append (part.Private shared) xs ys = refl

pub shares_append : (es fs : List ShareEntry) → private_shares (es ++ fs) ≡ private_shares es ++ private_shares fs
shares_append [] fs = refl
shares_append (e ∷ es) fs = ap (private_then e.part) (shares_append es fs) ∙ then_append e.part (private_shares es) (private_shares fs)
