-- The values after the first one of an argument that may have several.
use Rattle.std.proofs.Common.{◌≡◌, ℕ, ◌-◌, List, [], ◌∷◌, length, map, take, drop, Option, Some, None, option_map, unwrap_or, refl, ap, sym, ◌∙◌, arith, Bor}
use Rattle.std.proofs.lemmas.Grind.{common_steps}
use Rattle.clap.specs.Words.{Text, all_of, matched_of, raw_values, rows_of}
use Rattle.clap.specs.declared.parser.matches.Found.{Found}
use Rattle.clap.proofs.WalkLemmas.{raw_values-rows}
use Rattle.command_words.specs.Ask.{others_of}

-- what is left after a place, to its end
pub rest_taken : {X : Type 0} (xs : List X) (k : ℕ) → take (length xs - k) (drop k xs) ≡ drop k xs
rest_taken xs k = grind (arith, common_steps)

pub others_none : (found : Found) (id : Text) → None ≡ option_map raw_values (matched_of found id) → [] ≡ others_of id (rows_of found)
unfolding others_of
others_none found id none = ap (λ (o : Option (List Text)). drop 1 (unwrap_or o [])) (none ∙ raw_values-rows found id)

pub others_some : (found : Found) (id : Text) (all : List (Bor Text)) → Some (map (λ s. s.now) all) ≡ option_map raw_values (matched_of found id)
    → map (λ s. s.now) (drop 1 all) ≡ others_of id (rows_of found)
unfolding others_of
others_some found id all is = behind all ∙ ap (λ (o : Option (List Text)). drop 1 (unwrap_or o [])) (is ∙ raw_values-rows found id)
  where
    behind : (ts : List (Bor Text)) → map (λ s. s.now) (drop 1 ts) ≡ drop 1 (map (λ s. s.now) ts)
    behind [] = refl
    behind (t ∷ ts) = refl
