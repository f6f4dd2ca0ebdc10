-- Lists of instances in which each stands once, as they grow.
use Rattle.std.proofs.Common.{◌≡◌, List, [], ◌∷◌, ◌++◌, ◌⊎◌, inl, inr, refl, sym, ap, ap₂, ◌∙◌, subst, Bool, true, false, append_assoc, append-nil, eq-eqb}
use Rattle.std.specs.Prelude.{nat_eq, ◌&&◌, ◌||◌, if◌then◌else◌, fold}
use Rattle.std.specs.Bool.{Decides}
use Rattle.std.specs.Cmp.Lexicographic.{pointwise}
use Rattle.std.specs.List.{flat_map}
use Rattle.std.proofs.lemmas.Bool.{eqb-true, and_parts, or_parts, both_ways}
use Rattle.std.proofs.lemmas.Slice.Eq.{slice_eq-Decides}
use Rattle.program_trees.specs.Lists.{Among}
use Rattle.program_trees.proofs.Lists.{among_left, among_right, among_parts}
use Rattle.reached_instances.specs.declared.instance.BoundDomain.{BoundDomain}
use Rattle.reached_instances.specs.declared.instance.BoundDomain.TheVariants.{Public, Private}
use Rattle.reached_instances.specs.Instances.{Instance, same_domain, same_instance, is_listed, listing}
use Rattle.reached_instances.specs.Laws.{IsEachOnce}

-- THE SAME INSTANCE

same_domain-Decides : (a b : BoundDomain) → Decides (same_domain a b) (a ≡ b)
same_domain-Decides Public Public = (λ e. refl, λ e. refl)
same_domain-Decides Public (Private m) = (λ e. cc, λ e. cc)
same_domain-Decides (Private k) Public = (λ e. cc, λ e. cc)
same_domain-Decides (Private k) (Private m) = (λ e. ap Private (eqb-true k m e), λ e. let same : k ≡ m = cc in eq-eqb k m same)

pub same_instance-Decides : (i j : Instance) → Decides (same_instance i j) (i ≡ j)
same_instance-Decides i j = (told, back)
  where
    lists : Decides (pointwise same_domain i.binding j.binding) (i.binding ≡ j.binding)
    lists = slice_eq-Decides same_domain-Decides i.binding j.binding (pointwise same_domain i.binding j.binding) refl

    told : same_instance i j ≡ true → i ≡ j
    told e =
        let two = and_parts (nat_eq i.function j.function) (pointwise same_domain i.binding j.binding) e in
        ap₂ (λ k ds. record { function = k; binding = ds }) (eqb-true i.function j.function two.0) (lists.0 two.1)

    back : i ≡ j → same_instance i j ≡ true
    back e = ap₂ (λ a b. a && b) (eq-eqb i.function j.function (ap (λ z. z.function) e)) (lists.1 (ap (λ z. z.binding) e))

-- ONE MORE

listed_is_among : (i : Instance) (is : List Instance) → is_listed i is ≡ true → Among i is
listed_is_among i [] e = cc
listed_is_among i (j ∷ js) e = go (same_instance i j) refl e (listed_is_among i js)
  where
    go : (b : Bool) → same_instance i j ≡ b → b || is_listed i js ≡ true → (is_listed i js ≡ true → Among i js) → Among i (j ∷ js)
    go true same f rest = inl ((same_instance-Decides i j).0 same)
    go false same f rest = inr (rest f)

among_is_listed : (i : Instance) (is : List Instance) → is_listed i is ≡ false → Among i is → ⊥
among_is_listed i [] e m = m
among_is_listed i (j ∷ js) e (inl same) = both_ways (same_instance i j) (or_parts (same_instance i j) (is_listed i js) e).0 ((same_instance-Decides i j).1 same)
among_is_listed i (j ∷ js) e (inr m) = among_is_listed i js (or_parts (same_instance i j) (is_listed i js) e).1 m

stays : (i j : Instance) (is : List Instance) → Among j is → Among j (listing is i)
stays i j is m = go (is_listed i is)
  where
    go : (b : Bool) → Among j (if b then is else is ++ i ∷ [])
    go true = m
    go false = among_left j is (i ∷ []) m

comes : (i : Instance) (is : List Instance) → Among i (listing is i)
comes i is = go (is_listed i is) refl
  where
    go : (b : Bool) → is_listed i is ≡ b → Among i (if b then is else is ++ i ∷ [])
    go true e = listed_is_among i is e
    go false e = among_right i is (i ∷ []) (inl refl)

came : (i j : Instance) (is : List Instance) → Among j (listing is i) → Among j is ⊎ (j ≡ i)
came i j is = go (is_listed i is)
  where
    last : Among j is ⊎ Among j (i ∷ []) → Among j is ⊎ (j ≡ i)
    last (inl m) = inl m
    last (inr (inl e)) = inr e
    last (inr (inr m)) = absurd m

    go : (b : Bool) → Among j (if b then is else is ++ i ∷ []) → Among j is ⊎ (j ≡ i)
    go true m = inl m
    go false m = last (among_parts j is (i ∷ []) m)

-- a list grows at its end
abbrev pub Grows : List Instance → List Instance → Type 0
Grows is js = (rest : List Instance) × (js ≡ is ++ rest)

grows : (i : Instance) (is : List Instance) → Grows is (listing is i)
grows i is = go (is_listed i is)
  where
    go : (b : Bool) → Grows is (if b then is else is ++ i ∷ [])
    go true = ([], sym (append-nil is))
    go false = (i ∷ [], refl)

once_behind : (is : List Instance) (i : Instance) → IsEachOnce is → (Among i is → ⊥) → IsEachOnce (is ++ i ∷ [])
once_behind [] i o new = (λ m. m, tt)
once_behind (j ∷ js) i o new = (λ m. go (among_parts j js (i ∷ []) m), once_behind js i o.1 (λ m. new (inr m)))
  where
    go : Among j js ⊎ Among j (i ∷ []) → ⊥
    go (inl m) = o.0 m
    go (inr (inl e)) = new (inl (sym e))
    go (inr (inr m)) = m

once : (i : Instance) (is : List Instance) → IsEachOnce is → IsEachOnce (listing is i)
once i is o = go (is_listed i is) refl
  where
    go : (b : Bool) → is_listed i is ≡ b → IsEachOnce (if b then is else is ++ i ∷ [])
    go true e = o
    go false e = once_behind is i o (among_is_listed i is e)

-- ALL OF THESE

pub listed-append : (is js ks : List Instance) → fold listing is (js ++ ks) ≡ fold listing (fold listing is js) ks
listed-append is [] ks = refl
listed-append is (j ∷ js) ks = listed-append (listing is j) js ks

pub all_stay : (is js : List Instance) (i : Instance) → Among i is → Among i (fold listing is js)
all_stay is [] i m = m
all_stay is (j ∷ js) i m = all_stay (listing is j) js i (stays j i is m)

pub all_come : (is js : List Instance) (i : Instance) → Among i js → Among i (fold listing is js)
all_come is [] i m = absurd m
all_come is (j ∷ js) i (inl e) = all_stay (listing is j) js i (subst (λ z. Among z (listing is j)) (sym e) (comes j is))
all_come is (j ∷ js) i (inr m) = all_come (listing is j) js i m

pub all_came : (is js : List Instance) (i : Instance) → Among i (fold listing is js) → Among i is ⊎ Among i js
all_came is [] i m = inl m
all_came is (j ∷ js) i m = go (all_came (listing is j) js i m)
  where
    first : Among i is ⊎ (i ≡ j) → Among i is ⊎ Among i (j ∷ js)
    first (inl n) = inl n
    first (inr e) = inr (inl e)

    go : Among i (listing is j) ⊎ Among i js → Among i is ⊎ Among i (j ∷ js)
    go (inl n) = first (came j i is n)
    go (inr n) = inr (inr n)

pub all_grow : (is js : List Instance) → Grows is (fold listing is js)
all_grow is [] = ([], sym (append-nil is))
all_grow is (j ∷ js) =
    let a = grows j is in
    let b = all_grow (listing is j) js in
    (a.0 ++ b.0, b.1 ∙ ap (λ (z : List Instance). z ++ b.0) a.1 ∙ append_assoc is a.0 b.0)

pub all_once : (is js : List Instance) → IsEachOnce is → IsEachOnce (fold listing is js)
all_once is [] o = o
all_once is (j ∷ js) o = all_once (listing is j) js (once j is o)

-- what stands in front doesn't stand after
pub apart : (xs ys : List Instance) (i : Instance) → IsEachOnce (xs ++ ys) → Among i xs → Among i ys → ⊥
apart [] ys i o m n = m
apart (x ∷ xs) ys i o (inl e) n = o.0 (among_right x xs ys (subst (λ z. Among z ys) e n))
apart (x ∷ xs) ys i o (inr m) n = apart xs ys i o.1 m n

-- WHAT EACH OF A LIST HAS

pub among_flat_map : (has : Instance → List Instance) (i j : Instance) (is : List Instance) → Among i is → Among j (has i) → Among j (flat_map has is)
among_flat_map has i j [] m n = absurd m
among_flat_map has i j (k ∷ ks) (inl e) n = among_left j (has k) (flat_map has ks) (subst (λ z. Among j (has z)) e n)
among_flat_map has i j (k ∷ ks) (inr m) n = among_right j (has k) (flat_map has ks) (among_flat_map has i j ks m n)
