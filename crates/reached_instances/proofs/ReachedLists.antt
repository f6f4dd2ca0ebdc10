-- Lists of reached instances: how they are found, and that there is one at most.
use Rattle.std.proofs.Common.{◌≡◌, ℕ, zero, suc, ◌+◌, ◌<◌, ◌≤◌, List, [], ◌∷◌, ◌++◌, take, drop, length, ◌⊎◌, inl, inr, refl, sym, ap, ◌∙◌, subst}
use Rattle.std.proofs.Common.{Option, Some, None, arith, append_assoc, append-nil}
use Rattle.std.specs.Prelude.{fold}
use Rattle.std.specs.List.{slice_get, flat_map}
use Rattle.std.proofs.lemmas.Bool.{cases_lt}
use Rattle.std.proofs.lemmas.List.{take-append-drop, take-append-le, take_all}
use Rattle.std.proofs.lemmas.List.Concat.{flat_map-append}
use Rattle.std.proofs.lemmas.Option.{same_Some}
use Rattle.program_trees.specs.Lists.{Among}
use Rattle.program_trees.proofs.Lists.{among_left, among_right}
use Rattle.program_trees.specs.TypedPrograms.{TypedFunctionTree, TypedProgramTree}
use Rattle.reached_instances.specs.Instances.{Instance, listing, firsts}
use Rattle.reached_instances.specs.Calls.{called, called_by, main_of}
use Rattle.reached_instances.specs.Reached.{IsReached, begins, follows, IsReachedList}
use Rattle.reached_instances.specs.Laws.{BeginsWithMain, IsEachOnce, HasEachOnce, HasEachReached, IsTheOnlyList}
use Rattle.reached_instances.proofs.Listing.{Grows, listed-append, all_come, all_came, all_grow, all_once, apart, among_flat_map}

-- what is listed once these have been read
abbrev pub listed_after : TypedProgramTree → List Instance → List Instance
listed_after p done = firsts (main_of p ++ flat_map (called_by p) done)

listed_after-append : (p : TypedProgramTree) (xs ys : List Instance) → listed_after p (xs ++ ys) ≡ fold listing (listed_after p xs) (flat_map (called_by p) ys)
listed_after-append p xs ys =
    ap (λ zs. firsts (main_of p ++ zs)) (flat_map-append (called_by p) xs ys)
    ∙ ap firsts (sym (append_assoc (main_of p) (flat_map (called_by p) xs) (flat_map (called_by p) ys)))
    ∙ listed-append [] (main_of p ++ flat_map (called_by p) xs) (flat_map (called_by p) ys)

-- WHILE A LIST IS READ

pub begun : (p : TypedProgramTree) → firsts (main_of p) ≡ listed_after p []
begun p = ap firsts (sym (append-nil (main_of p)))

one_more_there : (is : List Instance) (n : ℕ) (i : Instance) (rest : List Instance) → slice_get is n ≡ Some i
    → take (suc n) (is ++ rest) ≡ take n (is ++ rest) ++ i ∷ []
one_more_there [] n i rest e = cc
one_more_there (j ∷ js) zero i rest e = ap (λ z. z ∷ []) (same_Some j i e)
one_more_there (j ∷ js) (suc n) i rest e = ap (λ zs. j ∷ zs) (one_more_there js n i rest e)

still_before : (is : List Instance) (n : ℕ) (i : Instance) (rest : List Instance) → slice_get is n ≡ Some i → take n (is ++ rest) ≡ take n is
still_before [] n i rest e = cc
still_before (j ∷ js) zero i rest e = refl
still_before (j ∷ js) (suc n) i rest e = ap (λ zs. j ∷ zs) (still_before js n i rest e)

among_place : (is : List Instance) (n : ℕ) (i : Instance) → slice_get is n ≡ Some i → Among i is
among_place [] n i e = cc
among_place (j ∷ js) zero i e = inl (sym (same_Some j i e))
among_place (j ∷ js) (suc n) i e = inr (among_place js n i e)

read_next : (p : TypedProgramTree) (n : ℕ) (is js : List Instance) (i : Instance) → slice_get is n ≡ Some i → js ≡ fold listing is (called_by p i)
    → take (n + 1) js ≡ take n is ++ i ∷ []
read_next p n is js i there grown =
    let g = all_grow is (called_by p i) in
    let behind : n + 1 ≡ suc n = omega arith in
    ap (λ m. take m js) behind ∙ ap (take (suc n)) (grown ∙ g.1) ∙ one_more_there is n i g.0 there ∙ ap (λ zs. zs ++ i ∷ []) (still_before is n i g.0 there)

-- the first n of a list have been read, and it has what they call
pub record IsReadTo (p : TypedProgramTree) (n : ℕ) (list : List Instance) : Type 0 where
  pub in_order : list ≡ listed_after p (take n list)
  pub reached : (i : Instance) → Among i list → IsReached p i

pub read_none : (p : TypedProgramTree) (is : List Instance) → is ≡ firsts (main_of p) → IsReadTo p 0 is
read_none p is e = record { in_order = e ∙ begun p; reached = λ i m. from_main i (all_came [] (main_of p) i (subst (Among i) e m)) }
  where
    from_main : (i : Instance) → Among i [] ⊎ Among i (main_of p) → IsReached p i
    from_main i (inl m) = absurd m
    from_main i (inr m) = begins i m

pub read_more : (p : TypedProgramTree) (n : ℕ) (is js : List Instance) (i : Instance) → slice_get is n ≡ Some i → js ≡ fold listing is (called_by p i)
    → IsReadTo p n is → IsReadTo p (n + 1) js
read_more p n is js i there grown old = record { in_order = order; reached = each }
  where
    order : js ≡ listed_after p (take (n + 1) js)
    order =
        grown
        ∙ ap (λ (z : List Instance). fold listing z (called_by p i)) old.in_order
        ∙ ap (fold listing (listed_after p (take n is))) (sym (append-nil (called_by p i)))
        ∙ sym (listed_after-append p (take n is) (i ∷ []))
        ∙ ap (listed_after p) (sym (read_next p n is js i there grown))

    each : (j : Instance) → Among j js → IsReached p j
    each j m = go (all_came is (called_by p i) j (subst (Among j) grown m))
      where
        go : Among j is ⊎ Among j (called_by p i) → IsReached p j
        go (inl o) = old.reached j o
        go (inr o) = follows i j (old.reached i (among_place is n i there)) o

pub read_all : (p : TypedProgramTree) (n : ℕ) (is : List Instance) → length is ≤ n → IsReadTo p n is → IsReachedList p is
read_all p n is below r = record { in_order = r.in_order ∙ ap (listed_after p) (take_all n is below); reached = r.reached }

-- WHAT IS TRUE OF EACH LIST

-- it begins with what its front calls
front : (p : TypedProgramTree) (is : List Instance) (n : ℕ) → IsReachedList p is → Grows (listed_after p (take n is)) is
front p is n r =
    let g = all_grow (listed_after p (take n is)) (flat_map (called_by p) (drop n is)) in
    (g.0, r.in_order ∙ ap (listed_after p) (sym (take-append-drop n is)) ∙ listed_after-append p (take n is) (drop n is) ∙ g.1)

pub has_each_once : (p : TypedProgramTree) → HasEachOnce p
has_each_once p is r = subst IsEachOnce (sym r.in_order) (all_once [] (main_of p ++ flat_map (called_by p) is) tt)

-- where all that has been called has been read, all that is reached has been called
reached_is_listed : (p : TypedProgramTree) (done : List Instance) → ((i : Instance) → Among i (listed_after p done) → Among i done) → (i : Instance)
    → IsReached p i → Among i (listed_after p done)
reached_is_listed p done closed i (begins j m) =
    all_come [] (main_of p ++ flat_map (called_by p) done) j (among_left j (main_of p) (flat_map (called_by p) done) m)
reached_is_listed p done closed i (follows j k r m) =
    all_come [] (main_of p ++ flat_map (called_by p) done) k
    (among_right k (main_of p) (flat_map (called_by p) done)
    (among_flat_map (called_by p) j k done (closed j (reached_is_listed p done closed j r)) m))

pub has_each_reached : (p : TypedProgramTree) → HasEachReached p
has_each_reached p is i r reached =
    subst (Among i) (sym r.in_order) (reached_is_listed p is (λ j m. subst (Among j) (sym r.in_order) m) i reached)

main_is_first : (p : TypedProgramTree) → firsts (main_of p) ≡ main_of p
main_is_first p = go (slice_get p.functions 0)
  where
    go : (o : Option TypedFunctionTree) → firsts (called 0 o []) ≡ called 0 o []
    go None = refl
    go (Some f) = refl

pub begins_with_main : (p : TypedProgramTree) → BeginsWithMain p
begins_with_main p is r =
    let g = front p is 0 r in
    (g.0, g.1 ∙ ap (λ (z : List Instance). z ++ g.0) (sym (begun p) ∙ main_is_first p))

-- THERE IS ONE AT MOST

among_take : (n : ℕ) (xs ys : List Instance) (i : Instance) → length xs ≤ n → Among i xs → Among i (take n (xs ++ ys))
among_take n [] ys i l m = absurd m
among_take zero (x ∷ xs) ys i l m = absurd (omega arith)
among_take (suc n) (x ∷ xs) ys i l (inl e) = inl e
among_take (suc n) (x ∷ xs) ys i l (inr m) = let less : length xs ≤ n = omega arith in inr (among_take n xs ys i less m)

-- while there is an instance to be read, one has been listed
goes_on : (p : TypedProgramTree) (is : List Instance) (n : ℕ) → IsReachedList p is → n < length is → n < length (listed_after p (take n is))
goes_on p is n r below = go (cases_lt n (length listed))
  where
    listed : List Instance
    listed = listed_after p (take n is)

    stops : (rest : List Instance) → is ≡ listed ++ rest → length listed ≤ n → ⊥
    stops [] e l =
        let same : length is ≡ length listed = ap length (e ∙ append-nil listed) in
        omega arith
    stops (x ∷ rest) e l =
        let read : (i : Instance) → Among i listed → Among i (take n is) =
        λ i m. subst (λ z. Among i (take n z)) (sym e) (among_take n listed (x ∷ rest) i l m) in
        let there : Among x is = subst (Among x) (sym e) (among_right x listed (x ∷ rest) (inl refl)) in
        let again : Among x listed = reached_is_listed p (take n is) read x (r.reached x there) in
        apart listed (x ∷ rest) x (subst IsEachOnce e (has_each_once p is r)) again (inl refl)

    go : (n < length listed) ⊎ (length listed ≤ n) → n < length listed
    go (inl l) = l
    go (inr l) = let g = front p is n r in absurd (stops g.0 g.1 l)

next_is : (p : TypedProgramTree) (is : List Instance) (n : ℕ) → IsReachedList p is → n < length is → take (suc n) is ≡ take (suc n) (listed_after p (take n is))
next_is p is n r below =
    let g = front p is n r in
    let more = goes_on p is n r below in
    let room : suc n ≤ length (listed_after p (take n is)) = omega arith in
    ap (take (suc n)) g.1 ∙ take-append-le (suc n) (listed_after p (take n is)) g.0 room

agree : (p : TypedProgramTree) (is js : List Instance) → IsReachedList p is → IsReachedList p js → (n : ℕ) → n ≤ length is → n ≤ length js
    → take n is ≡ take n js
agree p is js r q zero a b = refl
agree p is js r q (suc n) a b =
    let a' : n < length is = omega arith in
    let b' : n < length js = omega arith in
    let a'' : n ≤ length is = omega arith in
    let b'' : n ≤ length js = omega arith in
    next_is p is n r a' ∙ ap (λ z. take (suc n) (listed_after p z)) (agree p is js r q n a'' b'') ∙ sym (next_is p js n q b')

not_longer : (p : TypedProgramTree) (is js : List Instance) → IsReachedList p is → IsReachedList p js → length js ≤ length is
not_longer p is js r q = go (cases_lt (length is) (length js))
  where
    longer : length is < length js → ⊥
    longer l =
        let itself : length is ≤ length is = omega arith in
        let below : length is ≤ length js = omega arith in
        let all = take_all (length is) is itself in
        let listed : listed_after p (take (length is) js) ≡ is = ap (listed_after p) (sym (agree p is js r q (length is) itself below) ∙ all)
        ∙ sym r.in_order in
        let more = goes_on p js (length is) q l in
        let same = ap length listed in
        omega arith

    go : (length is < length js) ⊎ (length js ≤ length is) → length js ≤ length is
    go (inl l) = absurd (longer l)
    go (inr l) = l

pub is_the_only_list : (p : TypedProgramTree) → IsTheOnlyList p
is_the_only_list p is js r q =
    let one = not_longer p is js r q in
    let other = not_longer p js is q r in
    let itself : length is ≤ length is = omega arith in
    sym (take_all (length is) is itself) ∙ agree p is js r q (length is) itself other ∙ take_all (length is) js one
