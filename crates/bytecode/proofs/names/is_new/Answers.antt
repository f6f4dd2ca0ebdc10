use Rattle.std.proofs.Common.{◌≡◌, ◌||◌, Bool, List, [], ◌∷◌, map, not, reverse, refl, sym, ap, ◌∙◌}
use Rattle.std.specs.List.{list_any}
use Rattle.std.specs.Str.{bytes_eq}
use Rattle.std.proofs.lemmas.List.Sorted.{list_any-IsPermutation, IsPermutation-reverse}
use Rattle.bytecode.proofs.names.is_new.Goals as goal

-- a test of what the references point to
any_map : {X Y : Type 0} (test : Y → Bool) (f : X → Y) (xs : List X) → list_any test (map f xs) ≡ list_any (λ x. test (f x)) xs
any_map test f [] = refl
any_map test f (x ∷ xs) = ap (λ b. test (f x) || b) (any_map test f xs)

pub returns-in-Ok-clause-new : goal.returns-in-Ok-clause-new
returns-in-Ok-clause-new c =
    let keys = map (λ n. n.now) c.args.earlier.now.keys in
    c.in-Ok.ensures.added
    ∙ ap not (sym (any_map (bytes_eq c.args.name.now) (λ n. n.now) c.args.earlier.now.keys)
    ∙ list_any-IsPermutation (bytes_eq c.args.name.now) keys (reverse keys) (IsPermutation-reverse keys))
