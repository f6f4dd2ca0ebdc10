-- When two instances are the same, and the set of the instances that are listed.
use Rattle.std.proofs.Common.{◌≡◌, ℕ, List, [], ◌∷◌, ◌++◌, refl, sym, ap, ap₂, ◌∙◌, Bool, true, false, cond, arith, eq-eqb}
use Rattle.std.specs.Prelude.{nat_eq, nat_lt, ◌&&◌, ◌||◌, map}
use Rattle.std.specs.Bool.{Decides, one_answer}
use Rattle.std.specs.List.{list_any}
use Rattle.std.specs.Ordering.{is_eq, nat_cmp, ordering_then}
use Rattle.std.specs.declared.cmp.Ordering.{Ordering}
use Rattle.std.specs.declared.cmp.Ordering.TheVariants.{Less, Equal, Greater}
use Rattle.std.specs.Cmp.Lexicographic.{slice_cmp, pointwise}
use Rattle.std.specs.BTreeSet.{BTreeSet, contains, Updates}
use Rattle.std.proofs.lemmas.Bool.{eqb-true, ltb-true, and_parts}
use Rattle.std.proofs.lemmas.List.{map-append}
use Rattle.std.proofs.lemmas.List.Folds.{list_any-append}
use Rattle.std.proofs.lemmas.Slice.Eq.{slice_eq-Decides}
use Rattle.domain_types.specs.declared.value_type.Protection.{Protection}
use Rattle.domain_types.specs.declared.value_type.Protection.TheVariants.{Public, Private}
use Rattle.domain_types.specs.declared.instance.Instance as kept
use Rattle.domain_types.specs.contracts.instance.InstanceOrd.TheImpl as instances
use Rattle.domain_types.specs.contracts.value_type.ProtectionOrd.TheImpl as protections
use Rattle.domain_types.specs.Reached.{Instance}
use Rattle.domain_types.specs.Instances.{instance_seen, same_protection, same_instance, is_listed, IsSeen}

-- THE ORDER OF THE CHECKER

both_equal : (o r : Ordering) → is_eq (ordering_then o r) ≡ is_eq o && is_eq r
both_equal Less r = refl
both_equal Equal r = refl
both_equal Greater r = refl

numbers_told : (x y : ℕ) → is_eq (nat_cmp x y) ≡ nat_eq x y
numbers_told x y = go (nat_lt x y) (nat_eq x y) refl refl
  where
    go : (a b : Bool) → nat_lt x y ≡ a → nat_eq x y ≡ b → is_eq (cond a Less (cond b Equal Greater)) ≡ b
    go true true e f = let l = ltb-true x y e in let s = eqb-true x y f in absurd (omega arith)
    go true false e f = refl
    go false true e f = refl
    go false false e f = refl

protections_told : (a b : Protection) → is_eq (protections.cmp-value.it a b) ≡ same_protection a b
protections_told Public Public = refl
protections_told Public (Private m) = refl
protections_told (Private k) Public = refl
protections_told (Private k) (Private m) = numbers_told k m

bindings_told : (xs ys : List Protection) → is_eq (slice_cmp protections.cmp-value.it xs ys) ≡ pointwise same_protection xs ys
bindings_told [] [] = refl
bindings_told [] (y ∷ ys) = refl
bindings_told (x ∷ xs) [] = refl
bindings_told (x ∷ xs) (y ∷ ys) =
    both_equal (protections.cmp-value.it x y) (slice_cmp protections.cmp-value.it xs ys)
    ∙ ap₂ (λ p q. p && q) (protections_told x y) (bindings_told xs ys)

-- two instances compare equal where they are the same
instances_told : (a b : kept.Instance) → is_eq (instances.cmp-value.it a b) ≡ same_instance (instance_seen a) (instance_seen b)
instances_told a b =
    both_equal (nat_cmp a.function b.function) (slice_cmp protections.cmp-value.it a.binding.items b.binding.items)
    ∙ ap₂ (λ p q. p && q) (numbers_told a.function b.function) (bindings_told a.binding.items b.binding.items)

-- THE SAME INSTANCE

same_protection-Decides : (a b : Protection) → Decides (same_protection a b) (a ≡ b)
same_protection-Decides Public Public = (λ e. refl, λ e. refl)
same_protection-Decides Public (Private m) = (λ e. cc, λ e. cc)
same_protection-Decides (Private k) Public = (λ e. cc, λ e. cc)
same_protection-Decides (Private k) (Private m) = (λ e. ap Private (eqb-true k m e), λ e. let same : k ≡ m = cc in eq-eqb k m same)

pub same_instance-Decides : (i j : Instance) → Decides (same_instance i j) (i ≡ j)
same_instance-Decides i j = (told, back)
  where
    lists : Decides (pointwise same_protection i.binding j.binding) (i.binding ≡ j.binding)
    lists = slice_eq-Decides same_protection-Decides i.binding j.binding (pointwise same_protection i.binding j.binding) refl

    told : same_instance i j ≡ true → i ≡ j
    told e =
        let two = and_parts (nat_eq i.function j.function) (pointwise same_protection i.binding j.binding) e in
        ap₂ (λ k ds. record { function = k; binding = ds }) (eqb-true i.function j.function two.0) (lists.0 two.1)

    back : i ≡ j → same_instance i j ≡ true
    back e = ap₂ (λ a b. a && b) (eq-eqb i.function j.function (ap (λ z. z.function) e)) (lists.1 (ap (λ z. z.binding) e))

same_instance-swap : (i j : Instance) → same_instance i j ≡ same_instance j i
same_instance-swap i j =
    one_answer (same_instance i j) (same_instance j i) (same_instance-Decides i j)
    ((λ e. sym ((same_instance-Decides j i).0 e)), (λ e. (same_instance-Decides j i).1 (sym e)))

-- THE SET

or_last : (a b c : Bool) → b ≡ c → cond b true a ≡ a || (c || false)
or_last true true c e = refl
or_last true false c e = refl
or_last false true c e = ap (λ z. z || false) e
or_last false false c e = ap (λ z. z || false) e

-- k went into the set, and x, the same instance, into the list
pub one_more_seen : (xs : List kept.Instance) (s n : BTreeSet kept.Instance) (k x : kept.Instance) → IsSeen instances.cmp-value.it xs s
    → Updates instances.cmp-value.it s n k true → instance_seen k ≡ instance_seen x → IsSeen instances.cmp-value.it (xs ++ x ∷ []) n
one_more_seen xs s n k x old updates same = record { has = each }
  where
    each : (q : kept.Instance) → contains instances.cmp-value.it n q ≡ is_listed (instance_seen q) (map instance_seen (xs ++ x ∷ []))
    each q =
        let i = instance_seen q in
        let test : is_eq (instances.cmp-value.it k q) ≡ same_instance i (instance_seen x) =
        instances_told k q ∙ ap (λ z. same_instance z i) same ∙ same_instance-swap (instance_seen x) i in
        updates.0 q
        ∙ or_last (contains instances.cmp-value.it s q) (is_eq (instances.cmp-value.it k q)) (same_instance i (instance_seen x)) test
        ∙ ap (λ a. a || (same_instance i (instance_seen x) || false)) (old.has q)
        ∙ sym (list_any-append (same_instance i) (map instance_seen xs) (instance_seen x ∷ []))
        ∙ ap (list_any (same_instance i)) (sym (map-append instance_seen xs (x ∷ [])))
