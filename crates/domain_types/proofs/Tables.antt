-- The table of variables shows the scope.
use Rattle.std.proofs.Common.{◌≡◌, ℕ, zero, suc, ◌-◌, ◌<◌, ◌≤◌, List, [], ◌∷◌, ◌++◌, refl, sym, ap, ◌∙◌, Option, Some, None, Bool, true, false, cond}
use Rattle.std.proofs.Common.{length, take, drop, arith, leb}
use Rattle.std.specs.Prelude.{map, bytes_eq, option_map, ◌||◌}
use Rattle.std.specs.List.{take-map}
use Rattle.std.proofs.lemmas.List.{map-append, drop-map, length-map, take-append-drop}
use Rattle.std.proofs.lemmas.Bool.{leb-true, leb-false}
use Rattle.domain_types.specs.declared.value_type.ValueType.{ValueType}
use Rattle.domain_types.specs.declared.variables.Latest.{Latest}
use Rattle.domain_types.specs.declared.variables.VariableEntry.{VariableEntry}
use Rattle.domain_types.specs.Scopes.{Variable, Scope, held_by, inner, leaving, variable_in, is_among}
use Rattle.std.proofs.lemmas.Slice.Eq.{bytes_eq-Decides}
use Rattle.std.specs.BTreeMap.{BTreeMap}
use Rattle.std.specs.Map.{update}
use denote.Ref.{Bor}
use Rattle.declarations.specs.Index.{found}
use Rattle.declarations.proofs.Names.{bytes_eq-swap}
use Rattle.domain_types.specs.inner.Table.{variable_of, scope_at, latest_in}

-- the variables of all blocks
pub whole : (n : ℕ) (es : List VariableEntry) → (scope_at n es).block ++ (scope_at n es).outer ≡ map variable_of es
whole n es = sym (map-append variable_of (take n es) (drop n es)) ∙ ap (map variable_of) (take-append-drop n es)

abbrev pub held_of : Latest → Option ValueType
held_of l = l.held

-- the latest variable of a name is the one that the name means
pub latest_is_meant : (x : List ℕ) (es : List VariableEntry) → option_map held_of (latest_in x es) ≡ option_map held_by (variable_in x (map variable_of es))
latest_is_meant x [] = refl
latest_is_meant x (e ∷ es) = go (bytes_eq x e.name.now) (latest_is_meant x es)
  where
    go : (b : Bool) → option_map held_of (latest_in x es) ≡ option_map held_by (variable_in x (map variable_of es))
        → option_map held_of (cond b (Some (record { number = length es; held = e.held })) (latest_in x es))
        ≡ option_map held_by (cond b (Some (variable_of e)) (variable_in x (map variable_of es)))
    go true i = refl
    go false i = i

-- the number of a variable is below the count of all
pub below_all : (x : List ℕ) (es : List VariableEntry) (l : Latest) → latest_in x es ≡ Some l → l.number < length es
below_all x [] l e = cc
below_all x (d ∷ es) l e = go (bytes_eq x d.name.now) e (below_all x es l)
  where
    go : (b : Bool) → cond b (Some (record { number = length es; held = d.held })) (latest_in x es) ≡ Some l
        → (latest_in x es ≡ Some l → l.number < length es) → l.number < length (d ∷ es)
    go true e i = let n : l.number ≡ length es = cc in omega arith
    go false e i = let j = i e in omega arith

pub none_is_absent : (x : List ℕ) (n : ℕ) (es : List VariableEntry) → latest_in x es ≡ None → is_among x (map variable_of (take n es)) ≡ false
none_is_absent x zero es e = refl
none_is_absent x (suc n) [] e = refl
none_is_absent x (suc n) (d ∷ es) e = go (bytes_eq x d.name.now) e (none_is_absent x n es)
  where
    go : (b : Bool) → cond b (Some (record { number = length es; held = d.held })) (latest_in x es) ≡ None
        → (latest_in x es ≡ None → is_among x (map variable_of (take n es)) ≡ false) → b || is_among x (map variable_of (take n es)) ≡ false
    go true e i = cc
    go false e i = i e

leb_is_true : (a b : ℕ) → a ≤ b → leb a b ≡ true
leb_is_true a b h = go (leb a b) refl
  where
    go : (t : Bool) → leb a b ≡ t → t ≡ true
    go true e = refl
    go false e = let l = leb-false a b e in absurd (omega arith)

leb_is_false : (a b : ℕ) → b < a → leb a b ≡ false
leb_is_false a b h = go (leb a b) refl
  where
    go : (t : Bool) → leb a b ≡ t → t ≡ false
    go true e = let l = leb-true a b e in absurd (omega arith)
    go false e = refl

-- a name is declared in the innermost block where its number is not below the count of the outer variables
pub is_in_block : (x : List ℕ) (o : ℕ) (es : List VariableEntry) (l : Latest) → latest_in x es ≡ Some l → o ≤ length es
    → leb o l.number ≡ is_among x (map variable_of (take (length es - o) es))
is_in_block x o [] l e h = cc
is_in_block x o (d ∷ es) l e h = go (is_in_block x o es l) (leb o (length es)) refl
  where
    outside : length es < o → leb o l.number ≡ is_among x (map variable_of (take (length (d ∷ es) - o) (d ∷ es)))
    outside lt =
        let none : length (d ∷ es) - o ≡ 0 = omega arith in
        let below = below_all x (d ∷ es) l e in
        leb_is_false o l.number (omega arith) ∙ sym (ap (λ n. is_among x (map variable_of (take n (d ∷ es)))) none)

    inside : (latest_in x es ≡ Some l → o ≤ length es → leb o l.number ≡ is_among x (map variable_of (take (length es - o) es))) → o ≤ length es
        → (b : Bool) → cond b (Some (record { number = length es; held = d.held })) (latest_in x es) ≡ Some l
        → leb o l.number ≡ b || is_among x (map variable_of (take (length es - o) es))
    inside ih le true f = let n : l.number ≡ length es = cc in leb_is_true o l.number (omega arith)
    inside ih le false f = ih f le

    go : (latest_in x es ≡ Some l → o ≤ length es → leb o l.number ≡ is_among x (map variable_of (take (length es - o) es))) → (t : Bool)
        → leb o (length es) ≡ t → leb o l.number ≡ is_among x (map variable_of (take (length (d ∷ es) - o) (d ∷ es)))
    go ih true t =
        let le = leb-true o (length es) t in
        let more : length (d ∷ es) - o ≡ suc (length es - o) = omega arith in
        inside ih le (bytes_eq x d.name.now) e ∙ sym (ap (λ n. is_among x (map variable_of (take n (d ∷ es)))) more)
    go ih false t = outside (leb-false o (length es) t)

-- a new block has no variables, and those before are outside of it
pub inner_is : (n : ℕ) (es : List VariableEntry) → scope_at 0 es ≡ inner (scope_at n es)
inner_is n es = ap (λ (o : List Variable). record { block = []; outer = o }) (sym (whole n es))

abbrev latest_at : ℕ → Option ValueType → Option Latest
latest_at n h = Some (record { number = n; held = h })

-- the table with one variable more
pub one_more : (m n : BTreeMap (Bor (List ℕ)) Latest) (e : VariableEntry) (es : List VariableEntry) (l : Latest) → l.number ≡ length es
    → l.held ≡ e.held → ((q : List ℕ) → found m q ≡ latest_in q es) → ((q : List ℕ) → found n q ≡ update bytes_eq (found m) e.name.now (Some l) q)
    → (q : List ℕ) → found n q ≡ latest_in q (e ∷ es)
one_more m n e es l number held old updates q = updates q ∙ go (bytes_eq e.name.now q) (bytes_eq q e.name.now) (bytes_eq-swap e.name.now q)
  where
    go : (b c : Bool) → b ≡ c → cond b (Some l) (found m q) ≡ cond c (Some (record { number = length es; held = e.held })) (latest_in q es)
    go true true s = ap (λ n. latest_at n l.held) number ∙ ap (latest_at (length es)) held
    go true false s = cc
    go false true s = cc
    go false false s = old q

-- the table with one variable less
pub one_less : (m n : BTreeMap (Bor (List ℕ)) Latest) (e : VariableEntry) (es : List VariableEntry) → e.hidden ≡ latest_in e.name.now es
    → ((q : List ℕ) → found m q ≡ latest_in q (e ∷ es)) → ((q : List ℕ) → found n q ≡ cond (bytes_eq e.name.now q) e.hidden (found m q))
    → (q : List ℕ) → found n q ≡ latest_in q es
one_less m n e es hides old updates q = updates q ∙ go (bytes_eq e.name.now q) refl ∙ refl
  where
    go : (b : Bool) → bytes_eq e.name.now q ≡ b → cond b e.hidden (found m q) ≡ latest_in q es
    go true s = hides ∙ ap (λ x. latest_in x es) ((bytes_eq-Decides e.name.now q).0 s)
    go false s = old q ∙ ap (λ b. cond b (Some (record { number = length es; held = e.held })) (latest_in q es)) (sym (bytes_eq-swap e.name.now q) ∙ s)

-- a name that has just been declared is in the table
pub is_there : (m : BTreeMap (Bor (List ℕ)) Latest) (e : VariableEntry) (es : List VariableEntry) → ((q : List ℕ) → found m q ≡ latest_in q (e ∷ es))
    → found m e.name.now ≡ None → ⊥
is_there m e es old none =
    let same : bytes_eq e.name.now e.name.now ≡ true = (bytes_eq-Decides e.name.now e.name.now).1 refl in
    let here : latest_in e.name.now (e ∷ es) ≡ Some (record { number = length es; held = e.held }) =
    ap (λ b. cond b (Some (record { number = length es; held = e.held })) (latest_in e.name.now es)) same in
    let what = old e.name.now in
    cc

-- a block with a variable has some of the entries
pub block_there : (n : ℕ) (es : List VariableEntry) → 0 < length (scope_at n es).block → 0 < n
block_there zero es h = absurd (omega arith)
block_there (suc n) es h = omega arith

-- the scope after the latest variable of a block
pub block_less : (n : ℕ) (e : VariableEntry) (es : List VariableEntry) → (scope_at n es).block ≡ drop 1 (scope_at (suc n) (e ∷ es)).block
block_less n e es = refl

abbrev parts : List Variable → List Variable → Scope
parts b o = record { block = b; outer = o }

abbrev parted : ℕ → List Variable → Scope
parted n vs = record { block = take n vs; outer = drop n vs }

-- an empty block has none of the entries
pub block_empty : (n : ℕ) (es : List VariableEntry) → length (scope_at n es).block ≤ 0 → n ≤ length es → n ≡ 0
block_empty zero es h w = refl
block_empty (suc n) [] h w = absurd (omega arith)
block_empty (suc n) (e ∷ es) h w = absurd (omega arith)

-- what is left after a block without variables
pub leaving_is : (a : ℕ) (es : List VariableEntry) (s : Scope) → s.outer ≡ map variable_of es → scope_at (length es - a) es ≡ leaving a s
leaving_is a es s o =
    sym (both (length es - a))
    ∙ ap (λ k. parted (k - a) (map variable_of es)) (sym (length-map es variable_of))
    ∙ ap (λ (vs : List Variable). parted (length vs - a) vs) (sym o)
  where
    both : (n : ℕ) → parted n (map variable_of es) ≡ scope_at n es
    both n =
        ap (λ (b : List Variable). parts b (drop n (map variable_of es))) (take-map variable_of n es)
        ∙ ap (parts (map variable_of (take n es))) (drop-map variable_of n es)
