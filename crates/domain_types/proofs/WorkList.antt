-- The work list as it grows: what is listed, and what is visited.
use Rattle.std.proofs.Common.{◌≡◌, ℕ, zero, suc, ◌+◌, List, [], ◌∷◌, ◌++◌, take, ◌⊎◌, inl, inr, refl, sym, ap, ◌∙◌, subst, subst₂, Option, Some, None}
use Rattle.std.proofs.Common.{Bool, true, false, arith, append_assoc, append-nil}
use Rattle.std.proofs.lemmas.Bool.{both_ways, or_parts}
use Rattle.std.specs.Prelude.{nat_eq, ◌||◌, if◌then◌else◌}
use Rattle.std.specs.List.{slice_get}
use Rattle.std.proofs.lemmas.List.Folds.{list_any-append}
use Rattle.std.proofs.lemmas.Option.{same_Some}
use Rattle.domain_types.specs.declared.fault.TypeFault.{TypeFault}
use Rattle.domain_types.specs.declared.value_type.Protection.{Protection}
use Rattle.program_trees.specs.Programs.{FunctionTree}
use Rattle.domain_types.specs.Types.{is_without}
use Rattle.declarations.specs.Declarations.{Declared}
use Rattle.sc_text.specs.Lists.{Among}
use Rattle.domain_types.specs.inner.LeastFault.{least}
use Rattle.domain_types.specs.Reached.{Call, Instance}
use Rattle.domain_types.specs.Instances.{same_instance, is_listed, IsEachOnce}
use Rattle.domain_types.specs.inner.WorkList.{added, with_binding, with_calls, with_plain, plain_instances}
use Rattle.domain_types.specs.inner.WorkList.{instance_faults, instance_calls, gathered, is_called}
use Rattle.domain_types.specs.inner.WorkList.{IsReached, begins, follows, AreVisited}
use Rattle.sc_text.proofs.Lists.{among_left, among_right, among_parts}
use Rattle.domain_types.proofs.Visits.{then_least}
use Rattle.domain_types.proofs.Listing.{same_instance-Decides}

-- WHAT IS GATHERED

pub gathered-append : {A B : Type 0} (has : A → List B) (xs ys : List A) → gathered has (xs ++ ys) ≡ gathered has xs ++ gathered has ys
gathered-append has [] ys = refl
gathered-append has (x ∷ xs) ys = ap (λ zs. has x ++ zs) (gathered-append has xs ys) ∙ sym (append_assoc (has x) (gathered has xs) (gathered has ys))

gathered-one : {A B : Type 0} (has : A → List B) (x : A) → gathered has (x ∷ []) ≡ has x
gathered-one has x = append-nil (has x)

pub gathered-last : {A B : Type 0} (has : A → List B) (xs : List A) (x : A) → gathered has (xs ++ x ∷ []) ≡ gathered has xs ++ has x
gathered-last has xs x = gathered-append has xs (x ∷ []) ∙ ap (λ zs. gathered has xs ++ zs) (gathered-one has x)

pub among_gathered : {A B : Type 0} (has : A → List B) (x : A) (b : B) (xs : List A) → Among x xs → Among b (has x) → Among b (gathered has xs)
among_gathered has x b [] m n = absurd m
among_gathered has x b (y ∷ ys) (inl e) n = among_left b (has y) (gathered has ys) (subst (λ z. Among b (has z)) e n)
among_gathered has x b (y ∷ ys) (inr m) n = among_right b (has y) (gathered has ys) (among_gathered has x b ys m n)

-- one of these has it
pub record Source {A B : Type 0} (has : A → List B) (b : B) (xs : List A) : Type 0 where
  pub one : A
  pub listed : Among one xs
  pub here : Among b (has one)

pub source_of : {A B : Type 0} (has : A → List B) (b : B) (xs : List A) → Among b (gathered has xs) → Source has b xs
source_of has b [] m = absurd m
source_of has b (x ∷ xs) m = go (among_parts b (has x) (gathered has xs) m) (source_of has b xs)
  where
    go : Among b (has x) ⊎ Among b (gathered has xs) → (Among b (gathered has xs) → Source has b xs) → Source has b (x ∷ xs)
    go (inl n) rest = record { one = x; listed = inl refl; here = n }
    go (inr n) rest = let s = rest n in record { one = s.one; listed = inr s.listed; here = s.here }

-- WHAT IS LISTED

listed_is_among : (i : Instance) (is : List Instance) → is_listed i is ≡ true → Among i is
listed_is_among i [] e = cc
listed_is_among i (j ∷ js) e = go (same_instance i j) refl e (listed_is_among i js)
  where
    go : (b : Bool) → same_instance i j ≡ b → b || is_listed i js ≡ true → (is_listed i js ≡ true → Among i js) → Among i (j ∷ js)
    go true same f rest = inl ((same_instance-Decides i j).0 same)
    go false same f rest = inr (rest f)

stays : (i j : Instance) (is : List Instance) → Among j is → Among j (added is i)
stays i j is m = go (is_listed i is)
  where
    go : (b : Bool) → Among j (if b then is else is ++ i ∷ [])
    go true = m
    go false = among_left j is (i ∷ []) m

pub comes : (i : Instance) (is : List Instance) → Among i (added is i)
comes i is = go (is_listed i is) refl
  where
    go : (b : Bool) → is_listed i is ≡ b → Among i (if b then is else is ++ i ∷ [])
    go true e = listed_is_among i is e
    go false e = among_right i is (i ∷ []) (inl refl)

pub came : (i j : Instance) (is : List Instance) → Among j (added is i) → Among j is ⊎ (j ≡ i)
came i j is = go (is_listed i is)
  where
    last : Among j is ⊎ Among j (i ∷ []) → Among j is ⊎ (j ≡ i)
    last (inl m) = inl m
    last (inr (inl e)) = inr e
    last (inr (inr m)) = absurd m

    go : (b : Bool) → Among j (if b then is else is ++ i ∷ []) → Among j is ⊎ (j ≡ i)
    go true m = inl m
    go false m = last (among_parts j is (i ∷ []) m)

-- EACH ONCE

among_is_listed : (i : Instance) (is : List Instance) → is_listed i is ≡ false → Among i is → ⊥
among_is_listed i [] e m = m
among_is_listed i (j ∷ js) e (inl same) = both_ways (same_instance i j) (or_parts (same_instance i j) (is_listed i js) e).0 ((same_instance-Decides i j).1 same)
among_is_listed i (j ∷ js) e (inr m) = among_is_listed i js (or_parts (same_instance i j) (is_listed i js) e).1 m

once_behind : (is : List Instance) (i : Instance) → IsEachOnce is → (Among i is → ⊥) → IsEachOnce (is ++ i ∷ [])
once_behind [] i o new = (λ m. m, tt)
once_behind (j ∷ js) i o new = (λ m. go (among_parts j js (i ∷ []) m), once_behind js i o.1 (λ m. new (inr m)))
  where
    go : Among j js ⊎ Among j (i ∷ []) → ⊥
    go (inl m) = o.0 m
    go (inr (inl e)) = new (inl (sym e))
    go (inr (inr m)) = m

added_once : (i : Instance) (is : List Instance) → IsEachOnce is → IsEachOnce (added is i)
added_once i is o = go (is_listed i is) refl
  where
    go : (b : Bool) → is_listed i is ≡ b → IsEachOnce (if b then is else is ++ i ∷ [])
    go true e = o
    go false e = once_behind is i o (among_is_listed i is e)

calls_once : (is : List Instance) (cs : List Call) → IsEachOnce is → IsEachOnce (with_calls is cs)
calls_once is [] o = o
calls_once is (c ∷ cs) o = calls_once (with_binding is c.function c.binding) cs (go c.binding)
  where
    go : (b : Option (List Protection)) → IsEachOnce (with_binding is c.function b)
    go None = o
    go (Some ds) = added_once (record { function = c.function; binding = ds }) is o

with_plain_once : (is : List Instance) (n : ℕ) (fs : List FunctionTree) → IsEachOnce is → IsEachOnce (with_plain is n fs)
with_plain_once is n [] o = o
with_plain_once is n (f ∷ fs) o = with_plain_once (if is_without f.variables then added is i else is) (n + 1) fs (go (is_without f.variables))
  where
    i : Instance
    i = record { function = n; binding = [] }

    go : (b : Bool) → IsEachOnce (if b then added is i else is)
    go true = added_once i is o
    go false = o

pub plain_once : (d : Declared) → IsEachOnce (plain_instances d)
plain_once d = with_plain_once [] 0 d.functions tt

-- a list grows at its end
abbrev pub Grows : List Instance → List Instance → Type 0
Grows is js = (rest : List Instance) × (js ≡ is ++ rest)

pub grows_more : (is js ks : List Instance) → Grows is js → Grows js ks → Grows is ks
grows_more is js ks a b = (a.0 ++ b.0, b.1 ∙ ap (λ zs. zs ++ b.0) a.1 ∙ append_assoc is a.0 b.0)

pub grows_by_one : (i : Instance) (is : List Instance) → Grows is (added is i)
grows_by_one i is = go (is_listed i is)
  where
    go : (b : Bool) → Grows is (if b then is else is ++ i ∷ [])
    go true = ([], sym (append-nil is))
    go false = (i ∷ [], refl)

grows_by_call : (is : List Instance) (k : ℕ) (o : Option (List Protection)) → Grows is (with_binding is k o)
grows_by_call is k None = ([], sym (append-nil is))
grows_by_call is k (Some ds) = grows_by_one (record { function = k; binding = ds }) is

pub grows_by_calls : (is : List Instance) (cs : List Call) → Grows is (with_calls is cs)
grows_by_calls is [] = ([], sym (append-nil is))
grows_by_calls is (c ∷ cs) =
    let next = with_binding is c.function c.binding in
    grows_more is next (with_calls next cs) (grows_by_call is c.function c.binding) (grows_by_calls next cs)

pub still_there : (j : Instance) (is js : List Instance) → Grows is js → Among j is → Among j js
still_there j is js g m = subst (Among j) (sym g.1) (among_left j is g.0 m)

binding_taken : (is : List Instance) (k : ℕ) (o : Option (List Protection)) (ds : List Protection) → o ≡ Some ds
    → Among (record { function = k; binding = ds }) (with_binding is k o)
binding_taken is k o ds e =
    subst (λ z. Among (record { function = k; binding = ds }) (with_binding is k z)) (sym e) (comes (record { function = k; binding = ds }) is)

call_taken : (is : List Instance) (cs : List Call) (c : Call) (ds : List Protection) → Among c cs → c.binding ≡ Some ds
    → Among (record { function = c.function; binding = ds }) (with_calls is cs)
call_taken is [] c ds m e = absurd m
call_taken is (d ∷ cs) c ds (inl s) e =
    let next = with_binding is d.function d.binding in
    let first : Among (record { function = d.function; binding = ds }) next = binding_taken is d.function d.binding ds (ap (λ z. z.binding) (sym s) ∙ e) in
    still_there (record { function = c.function; binding = ds }) next (with_calls next cs) (grows_by_calls next cs)
    (subst (λ (k : ℕ). Among (record { function = k; binding = ds }) next) (ap (λ z. z.function) (sym s)) first)
call_taken is (d ∷ cs) c ds (inr m) e = call_taken (with_binding is d.function d.binding) cs c ds m e

-- the call that gives this instance
abbrev call_for : Instance → Call
call_for i = record { function = i.function; binding = Some i.binding }

binding_came : (is : List Instance) (k : ℕ) (o : Option (List Protection)) (j : Instance) → Among j (with_binding is k o)
    → Among j is ⊎ (call_for j ≡ record { function = k; binding = o })
binding_came is k None j m = inl m
binding_came is k (Some ds) j m = go (came (record { function = k; binding = ds }) j is m)
  where
    go : Among j is ⊎ (j ≡ record { function = k; binding = ds }) → Among j is ⊎ (call_for j ≡ record { function = k; binding = Some ds })
    go (inl n) = inl n
    go (inr e) = inr (ap call_for e)

call_came : (is : List Instance) (cs : List Call) (j : Instance) → Among j (with_calls is cs) → Among j is ⊎ Among (call_for j) cs
call_came is [] j m = inl m
call_came is (c ∷ cs) j m = go (call_came (with_binding is c.function c.binding) cs j m)
  where
    first : Among j is ⊎ (call_for j ≡ c) → Among j is ⊎ Among (call_for j) (c ∷ cs)
    first (inl n) = inl n
    first (inr e) = inr (inl e)

    go : Among j (with_binding is c.function c.binding) ⊎ Among (call_for j) cs → Among j is ⊎ Among (call_for j) (c ∷ cs)
    go (inl n) = first (binding_came is c.function c.binding j n)
    go (inr n) = inr (inr n)

-- THE LOOP

pub begun : (d : Declared) (start : List Instance) → IsEachOnce start → AreVisited d start [] start
begun d start once = record { starts = λ i m. m; reached = λ i m. begins i m; once = once; followed = λ c ds m e. absurd m }

pub one_visited : (d : Declared) (start done is : List Instance) (i : Instance) → AreVisited d start done is → Among i is
    → AreVisited d start (done ++ i ∷ []) (with_calls is (instance_calls d i))
one_visited d start done is i old there =
    record { starts = starts; reached = each; once = calls_once is (instance_calls d i) old.once; followed = followed }
  where
    starts : (j : Instance) → Among j start → Among j (with_calls is (instance_calls d i))
    starts j m = still_there j is (with_calls is (instance_calls d i)) (grows_by_calls is (instance_calls d i)) (old.starts j m)

    each : (j : Instance) → Among j (with_calls is (instance_calls d i)) → IsReached d start j
    each j m = go (call_came is (instance_calls d i) j m)
      where
        go : Among j is ⊎ Among (call_for j) (instance_calls d i) → IsReached d start j
        go (inl n) = old.reached j n
        go (inr n) = follows i j.function j.binding (old.reached i there) n

    followed : (c : Call) (ds : List Protection) → Among c (gathered (instance_calls d) (done ++ i ∷ [])) → c.binding ≡ Some ds
        → Among (record { function = c.function; binding = ds }) (with_calls is (instance_calls d i))
    followed c ds m e = go (among_parts c (gathered (instance_calls d) done) (instance_calls d i) (subst (Among c) (gathered-last (instance_calls d) done i) m))
      where
        go : Among c (gathered (instance_calls d) done) ⊎ Among c (instance_calls d i)
            → Among (record { function = c.function; binding = ds }) (with_calls is (instance_calls d i))
        go (inl n) = still_there (record { function = c.function; binding = ds }) is (with_calls is (instance_calls d i))
            (grows_by_calls is (instance_calls d i)) (old.followed c ds n e)
        go (inr n) = call_taken is (instance_calls d i) c ds n e

-- the instance at the place n is visited, and its calls are listed
one_more_there : (is : List Instance) (n : ℕ) (i : Instance) (rest : List Instance) → slice_get is n ≡ Some i
    → take (suc n) (is ++ rest) ≡ take n (is ++ rest) ++ i ∷ []
one_more_there [] n i rest e = cc
one_more_there (j ∷ js) zero i rest e = ap (λ z. z ∷ []) (same_Some j i e)
one_more_there (j ∷ js) (suc n) i rest e = ap (λ zs. j ∷ zs) (one_more_there js n i rest e)

still_before : (is : List Instance) (n : ℕ) (i : Instance) (rest : List Instance) → slice_get is n ≡ Some i → take n (is ++ rest) ≡ take n is
still_before [] n i rest e = cc
still_before (j ∷ js) zero i rest e = refl
still_before (j ∷ js) (suc n) i rest e = ap (λ zs. j ∷ zs) (still_before js n i rest e)

visited_next : (d : Declared) (n : ℕ) (is js : List Instance) (i : Instance) → slice_get is n ≡ Some i → js ≡ with_calls is (instance_calls d i)
    → take (n + 1) js ≡ take n is ++ i ∷ []
visited_next d n is js i there grown =
    let g = grows_by_calls is (instance_calls d i) in
    let behind : n + 1 ≡ suc n = omega arith in
    ap (λ m. take m js) behind ∙ ap (take (suc n)) (grown ∙ g.1) ∙ one_more_there is n i g.0 there ∙ ap (λ zs. zs ++ i ∷ []) (still_before is n i g.0 there)

among_place : (is : List Instance) (n : ℕ) (i : Instance) → slice_get is n ≡ Some i → Among i is
among_place [] n i e = cc
among_place (j ∷ js) zero i e = inl (sym (same_Some j i e))
among_place (j ∷ js) (suc n) i e = inr (among_place js n i e)

pub next_least : (d : Declared) (n : ℕ) (is js : List Instance) (i : Instance) (o o1 o2 : Option TypeFault) → slice_get is n ≡ Some i
    → js ≡ with_calls is (instance_calls d i) → o1 ≡ least o (gathered (instance_faults d) (take n is)) → o2 ≡ least o1 (instance_faults d i)
    → o2 ≡ least o (gathered (instance_faults d) (take (n + 1) js))
next_least d n is js i o o1 o2 there grown before here =
    then_least o o1 o2 (gathered (instance_faults d) (take n is)) (instance_faults d i) before here
    ∙ ap (least o) (sym (gathered-last (instance_faults d) (take n is) i))
    ∙ ap (λ zs. least o (gathered (instance_faults d) zs)) (sym (visited_next d n is js i there grown))

pub next_visited : (d : Declared) (start : List Instance) (n : ℕ) (is js : List Instance) (i : Instance) → slice_get is n ≡ Some i
    → js ≡ with_calls is (instance_calls d i) → AreVisited d start (take n is) is → AreVisited d start (take (n + 1) js) js
next_visited d start n is js i there grown old =
    subst₂ (λ done zs. AreVisited d start done zs) (sym (visited_next d n is js i there grown)) (sym grown)
    (one_visited d start (take n is) is i old (among_place is n i there))

pub next_called : (d : Declared) (n : ℕ) (is js : List Instance) (i : Instance) (k : ℕ) (a b : Bool) → slice_get is n ≡ Some i
    → js ≡ with_calls is (instance_calls d i) → a ≡ is_called k (gathered (instance_calls d) (take n is)) → b ≡ a || is_called k (instance_calls d i)
    → b ≡ is_called k (gathered (instance_calls d) (take (n + 1) js))
next_called d n is js i k a b there grown before here =
    here
    ∙ ap (λ z. z || is_called k (instance_calls d i)) before
    ∙ sym (list_any-append (λ c. nat_eq c.function k) (gathered (instance_calls d) (take n is)) (instance_calls d i))
    ∙ ap (is_called k) (sym (gathered-last (instance_calls d) (take n is) i))
    ∙ ap (λ zs. is_called k (gathered (instance_calls d) zs)) (sym (visited_next d n is js i there grown))
