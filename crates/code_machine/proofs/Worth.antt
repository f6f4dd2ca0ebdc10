-- How many steps code can have.
use Rattle.std.proofs.Common.{◌≡◌, ℕ, ◌+◌, max, List, ◌∷◌, length, drop, ap, ◌∙◌, arith}
use Rattle.std.specs.Prelude.{map}
use Rattle.std.proofs.lemmas.List.{length-map}
use Rattle.bytecode.specs.declared.code.CodeFunction.{CodeFunction}
use Rattle.bytecode.specs.InMemory.{raw_function, raw_instruction}
use Rattle.verified_code.specs.Settled.{settle, settled_function}
use Rattle.named_values.specs.Meaning.{longest}

abbrev pub longest_in : List (List ℕ) → List CodeFunction → ℕ
longest_in names fs = longest (map (settled_function names) (map raw_function fs))

body_length : (names : List (List ℕ)) (f : CodeFunction) → length (settled_function names (raw_function f)).steps ≡ length f.body.items
body_length names f = length-map (raw_function f).body (settle names f.registers.items) ∙ length-map f.body.items raw_instruction

-- one function more is looked at
pub longest_more :
    (names : List (List ℕ)) (fs : List CodeFunction) (k most : ℕ) (f : CodeFunction) → drop k fs ≡ f ∷ drop (k + 1) fs →
    max most (longest_in names (drop k fs)) ≡ longest_in names fs →
    max (max most (length f.body.items)) (longest_in names (drop (k + 1) fs)) ≡ longest_in names fs
longest_more names fs k most f e h =
    let rest = longest_in names (drop (k + 1) fs) in
    let here : longest_in names (drop k fs) ≡ max (length f.body.items) rest =
    ap (longest_in names) e ∙ ap (λ n. max n rest) (body_length names f) in
    omega (arith, here, h)
