-- The table of variables shows the scope.
use Rattle.std.proofs.Common.{◌≡◌, ℕ, zero, suc, ◌-◌, ◌<◌, ◌≤◌, List, [], ◌∷◌, ◌++◌, refl, sym, ap, ◌∙◌, Option, Some, None, Bool, true, false, cond}
use Rattle.std.proofs.Common.{length, take, drop, arith}
use Rattle.std.specs.Prelude.{map, bytes_eq, option_map}
use Rattle.std.specs.List.{take-map}
use Rattle.std.proofs.lemmas.List.{map-append, drop-map, length-map, take-append-drop}
use Rattle.name_resolution.specs.declared.variables.Known.{Known}
use Rattle.name_resolution.specs.declared.variables.Latest.{Latest}
use Rattle.name_resolution.specs.declared.variables.VariableEntry.{VariableEntry}
use Rattle.name_resolution.specs.Scopes.{Variable, Scope, known_of, inner, leaving, variable_in}
use Rattle.std.proofs.lemmas.Slice.Eq.{bytes_eq-Decides}
use Rattle.std.specs.BTreeMap.{BTreeMap}
use Rattle.std.specs.Map.{update}
use denote.Ref.{Bor}
use Rattle.declarations.specs.Index.{found}
use Rattle.declarations.proofs.Names.{bytes_eq-swap}
use Rattle.name_resolution.specs.inner.Table.{variable_of, scope_at, latest_in}

-- the variables of all blocks
pub whole : (n : ℕ) (es : List VariableEntry) → (scope_at n es).block ++ (scope_at n es).outer ≡ map variable_of es
whole n es = sym (map-append variable_of (take n es) (drop n es)) ∙ ap (map variable_of) (take-append-drop n es)

abbrev pub known_of_latest : Latest → Known
known_of_latest l = l.known

-- the latest variable of a name is the one that the name means
pub latest_is_meant : (x : List ℕ) (es : List VariableEntry)
    → option_map known_of_latest (latest_in x es) ≡ option_map known_of (variable_in x (map variable_of es))
latest_is_meant x [] = refl
latest_is_meant x (e ∷ es) = go (bytes_eq x e.name.now) (latest_is_meant x es)
  where
    go : (b : Bool) → option_map known_of_latest (latest_in x es) ≡ option_map known_of (variable_in x (map variable_of es))
        → option_map known_of_latest (cond b (Some (record { number = length es; known = e.known })) (latest_in x es))
        ≡ option_map known_of (cond b (Some (variable_of e)) (variable_in x (map variable_of es)))
    go true i = refl
    go false i = i

-- a new block has no variables, and those before are outside of it
pub inner_is : (n : ℕ) (es : List VariableEntry) → scope_at 0 es ≡ inner (scope_at n es)
inner_is n es = ap (λ (o : List Variable). record { block = []; outer = o }) (sym (whole n es))

abbrev latest_at : ℕ → Known → Option Latest
latest_at n h = Some (record { number = n; known = h })

-- the table with one variable more
pub one_more : (m n : BTreeMap (Bor (List ℕ)) Latest) (e : VariableEntry) (es : List VariableEntry) (l : Latest) → l.number ≡ length es
    → l.known ≡ e.known → ((q : List ℕ) → found m q ≡ latest_in q es) → ((q : List ℕ) → found n q ≡ update bytes_eq (found m) e.name.now (Some l) q)
    → (q : List ℕ) → found n q ≡ latest_in q (e ∷ es)
one_more m n e es l number known old updates q = updates q ∙ go (bytes_eq e.name.now q) (bytes_eq q e.name.now) (bytes_eq-swap e.name.now q)
  where
    go : (b c : Bool) → b ≡ c → cond b (Some l) (found m q) ≡ cond c (Some (record { number = length es; known = e.known })) (latest_in q es)
    go true true s = ap (λ n. latest_at n l.known) number ∙ ap (latest_at (length es)) known
    go true false s = cc
    go false true s = cc
    go false false s = old q

-- the table with one variable less
pub one_less : (m n : BTreeMap (Bor (List ℕ)) Latest) (e : VariableEntry) (es : List VariableEntry) → e.hidden ≡ latest_in e.name.now es
    → ((q : List ℕ) → found m q ≡ latest_in q (e ∷ es)) → ((q : List ℕ) → found n q ≡ cond (bytes_eq e.name.now q) e.hidden (found m q))
    → (q : List ℕ) → found n q ≡ latest_in q es
one_less m n e es hides old updates q = updates q ∙ go (bytes_eq e.name.now q) refl ∙ refl
  where
    go : (b : Bool) → bytes_eq e.name.now q ≡ b → cond b e.hidden (found m q) ≡ latest_in q es
    go true s = hides ∙ ap (λ x. latest_in x es) ((bytes_eq-Decides e.name.now q).0 s)
    go false s = old q ∙ ap (λ b. cond b (Some (record { number = length es; known = e.known })) (latest_in q es)) (sym (bytes_eq-swap e.name.now q) ∙ s)

-- a name that has just been declared is in the table
pub is_there : (m : BTreeMap (Bor (List ℕ)) Latest) (e : VariableEntry) (es : List VariableEntry) → ((q : List ℕ) → found m q ≡ latest_in q (e ∷ es))
    → found m e.name.now ≡ None → ⊥
is_there m e es old none =
    let same : bytes_eq e.name.now e.name.now ≡ true = (bytes_eq-Decides e.name.now e.name.now).1 refl in
    let here : latest_in e.name.now (e ∷ es) ≡ Some (record { number = length es; known = e.known }) =
    ap (λ b. cond b (Some (record { number = length es; known = e.known })) (latest_in e.name.now es)) same in
    let what = old e.name.now in
    cc

-- a block with a variable has some of the entries
pub block_there : (n : ℕ) (es : List VariableEntry) → 0 < length (scope_at n es).block → 0 < n
block_there zero es h = absurd (omega arith)
block_there (suc n) es h = omega arith

-- the scope after the latest variable of a block
pub block_less : (n : ℕ) (e : VariableEntry) (es : List VariableEntry) → (scope_at n es).block ≡ drop 1 (scope_at (suc n) (e ∷ es)).block
block_less n e es = refl

abbrev parts : List Variable → List Variable → Scope
parts b o = record { block = b; outer = o }

abbrev parted : ℕ → List Variable → Scope
parted n vs = record { block = take n vs; outer = drop n vs }

-- an empty block has none of the entries
pub block_empty : (n : ℕ) (es : List VariableEntry) → length (scope_at n es).block ≤ 0 → n ≤ length es → n ≡ 0
block_empty zero es h w = refl
block_empty (suc n) [] h w = absurd (omega arith)
block_empty (suc n) (e ∷ es) h w = absurd (omega arith)

-- what is left after a block without variables
pub leaving_is : (a : ℕ) (es : List VariableEntry) (s : Scope) → s.outer ≡ map variable_of es → scope_at (length es - a) es ≡ leaving a s
leaving_is a es s o =
    sym (both (length es - a))
    ∙ ap (λ k. parted (k - a) (map variable_of es)) (sym (length-map es variable_of))
    ∙ ap (λ (vs : List Variable). parted (length vs - a) vs) (sym o)
  where
    both : (n : ℕ) → parted n (map variable_of es) ≡ scope_at n es
    both n =
        ap (λ (b : List Variable). parts b (drop n (map variable_of es))) (take-map variable_of n es)
        ∙ ap (parts (map variable_of (take n es))) (drop-map variable_of n es)
