-- The names that a statement calls in the order of its code, where a loop's body comes first: they are those that it calls in its text.
use Rattle.std.proofs.Common.{◌≡◌, ℕ, ◌⊎◌, inl, inr, List, [], ◌∷◌, ◌++◌, subst}
use Rattle.std.proofs.lemmas.List.{append_assoc}
use Rattle.sc_text.specs.Lists.{Among}
use Rattle.program_trees.specs.Statements.{StatementTree, block, empty, branch, choice, while_loop, do_loop, for_loop, breaks, continues, returns}
use Rattle.program_trees.specs.Statements.{assertion, declaration, assignment, evaluation, StatementTrees}
use Rattle.program_trees.specs.Statements as Statements'
use Rattle.program_typing.proofs.TreesOfValues.{names_in}
use Rattle.program_typing.proofs.TreesOfStatements.{names_in_optional, names_in_declaration, names_in_assignment, names_in_start, names_in_step}
use Rattle.program_typing.proofs.TreesOfStatements.{names_by, names_by_all}

abbrev mutual
  pub read_by : StatementTree → List (List ℕ)
  read_by (block p ss) = read_by_all ss
  read_by (empty p) = []
  read_by (branch p e body) = names_in e ++ read_by body
  read_by (choice p e body otherwise) = names_in e ++ (read_by body ++ read_by otherwise)
  read_by (while_loop p e body) = read_by body ++ names_in e
  read_by (do_loop p body e) = read_by body ++ names_in e
  read_by (for_loop p start e step body) = names_in_start start ++ (read_by body ++ (names_in_step step ++ names_in_optional e))
  read_by (breaks p) = []
  read_by (continues p) = []
  read_by (returns p e) = names_in_optional e
  read_by (assertion p e) = names_in e
  read_by (declaration t) = names_in_declaration t
  read_by (assignment a) = names_in_assignment a
  read_by (evaluation e) = names_in e

  pub read_by_all : StatementTrees → List (List ℕ)
  read_by_all Statements'.none = []
  read_by_all (Statements'.also t ts) = read_by t ++ read_by_all ts

abbrev Names : Type 0
Names = List (List ℕ)

-- the same names, in whatever order
abbrev pub SameNames : Names → Names → Type 0
SameNames xs ys = (x : List ℕ) → (Among x xs → Among x ys) × (Among x ys → Among x xs)

self : (xs : Names) → SameNames xs xs
self xs x = ((λ m. m), (λ m. m))

then : (xs ys zs : Names) → SameNames xs ys → SameNames ys zs → SameNames xs zs
then xs ys zs a b x = ((λ m. (b x).0 ((a x).0 m)), (λ m. (a x).1 ((b x).1 m)))

on_left : (x : List ℕ) (xs ys : Names) → Among x xs → Among x (xs ++ ys)
on_left x [] ys m = absurd m
on_left x (z ∷ zs) ys (inl e) = inl e
on_left x (z ∷ zs) ys (inr m) = inr (on_left x zs ys m)

on_right : (x : List ℕ) (xs ys : Names) → Among x ys → Among x (xs ++ ys)
on_right x [] ys m = m
on_right x (z ∷ zs) ys m = inr (on_right x zs ys m)

either : (x : List ℕ) (xs ys : Names) → Among x (xs ++ ys) → Among x xs ⊎ Among x ys
either x [] ys m = inr m
either x (z ∷ zs) ys (inl e) = inl (inl e)
either x (z ∷ zs) ys (inr m) = further (either x zs ys m)
  where
    further : Among x zs ⊎ Among x ys → Among x (z ∷ zs) ⊎ Among x ys
    further (inl n) = inl (inr n)
    further (inr n) = inr n

both_ways : (x : List ℕ) (xs ys us vs : Names) → (Among x xs → Among x us) → (Among x ys → Among x vs) → Among x (xs ++ ys) → Among x (us ++ vs)
both_ways x xs ys us vs a b m = go (either x xs ys m)
  where
    go : Among x xs ⊎ Among x ys → Among x (us ++ vs)
    go (inl n) = on_left x us vs (a n)
    go (inr n) = on_right x us vs (b n)

both : (xs us ys vs : Names) → SameNames xs us → SameNames ys vs → SameNames (xs ++ ys) (us ++ vs)
both xs us ys vs a b x = (both_ways x xs ys us vs (a x).0 (b x).0, both_ways x us vs xs ys (a x).1 (b x).1)

turned_way : (x : List ℕ) (xs ys : Names) → Among x (xs ++ ys) → Among x (ys ++ xs)
turned_way x xs ys m = go (either x xs ys m)
  where
    go : Among x xs ⊎ Among x ys → Among x (ys ++ xs)
    go (inl n) = on_right x ys xs n
    go (inr n) = on_left x ys xs n

turned : (xs ys : Names) → SameNames (xs ++ ys) (ys ++ xs)
turned xs ys x = (turned_way x xs ys, turned_way x ys xs)

-- the body goes before the rest
body_first : (es body read : Names) → SameNames body read → SameNames (es ++ body) (read ++ es)
body_first es body read h = then (es ++ body) (body ++ es) (read ++ es) (turned es body) (both body read es es h (self es))

loop_turned : (es ks body read : Names) → SameNames body read → SameNames (es ++ (ks ++ body)) (read ++ (ks ++ es))
loop_turned es ks body read h =
    subst (SameNames (es ++ (ks ++ body))) (append_assoc read ks es)
    (body_first es (ks ++ body) (read ++ ks) (body_first ks body read h))

mutual
  same_names : (t : StatementTree) → SameNames (names_by t) (read_by t)
  same_names (block p ss) = same_names_all ss
  same_names (empty p) = self []
  same_names (branch p e body) = both (names_in e) (names_in e) (names_by body) (read_by body) (self (names_in e)) (same_names body)
  same_names (choice p e body otherwise) =
      both (names_in e) (names_in e) (names_by body ++ names_by otherwise) (read_by body ++ read_by otherwise) (self (names_in e))
      (both (names_by body) (read_by body) (names_by otherwise) (read_by otherwise) (same_names body) (same_names otherwise))
  same_names (while_loop p e body) = body_first (names_in e) (names_by body) (read_by body) (same_names body)
  same_names (do_loop p body e) = both (names_by body) (read_by body) (names_in e) (names_in e) (same_names body) (self (names_in e))
  same_names (for_loop p b e c body) =
      both (names_in_start b) (names_in_start b) (names_in_optional e ++ (names_in_step c ++ names_by body))
      (read_by body ++ (names_in_step c ++ names_in_optional e)) (self (names_in_start b))
      (loop_turned (names_in_optional e) (names_in_step c) (names_by body) (read_by body) (same_names body))
  same_names (breaks p) = self []
  same_names (continues p) = self []
  same_names (returns p e) = self (names_in_optional e)
  same_names (assertion p e) = self (names_in e)
  same_names (declaration t) = self (names_in_declaration t)
  same_names (assignment a) = self (names_in_assignment a)
  same_names (evaluation e) = self (names_in e)

  pub same_names_all : (ts : StatementTrees) → SameNames (names_by_all ts) (read_by_all ts)
  same_names_all Statements'.none = self []
  same_names_all (Statements'.also t ts) = both (names_by t) (read_by t) (names_by_all ts) (read_by_all ts) (same_names t) (same_names_all ts)
