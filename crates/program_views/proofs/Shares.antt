-- The shares of entries, one after another.
use Rattle.std.proofs.Common.{◌≡◌, ◌∷◌, ◌++◌, ℕ, List, [], refl, ◌∙◌, ap}
use Rattle.input_share.specs.declared.entry.Part.{Part}
use Rattle.input_share.specs.declared.entry.Part.TheVariants as part
use Rattle.input_share.specs.declared.entry.ShareEntry.{ShareEntry}
use Rattle.view_text.specs.View.{InputShare}
use Rattle.program_views.specs.Views.{input_shares, share_then}

share_append : (name : List ℕ) (p : Part) (xs ys : List InputShare) → share_then name p (xs ++ ys) ≡ share_then name p xs ++ ys
share_append name (part.Public value) xs ys = refl
share_append name (part.Private shared) xs ys = refl

pub shares_append : (es fs : List ShareEntry) → input_shares (es ++ fs) ≡ input_shares es ++ input_shares fs
shares_append [] fs = refl
shares_append (e ∷ es) fs =
    ap (share_then e.name e.part) (shares_append es fs) ∙ share_append e.name e.part (input_shares es) (input_shares fs)
