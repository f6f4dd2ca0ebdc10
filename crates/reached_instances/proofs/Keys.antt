-- The set of the instances that are listed, as it is kept.
use Rattle.std.proofs.Common.{◌≡◌, ℕ, ◌+◌, List, [], ◌∷◌, ◌++◌, refl, ap, ap₂, sym, ◌∙◌, Some, None, Bool, true, false}
use Rattle.std.specs.Prelude.{nat_eq, nat_lt, ◌&&◌, ◌||◌, cond, if◌then◌else◌, length, map, not, option_map}
use Rattle.std.specs.Cmp.Lexicographic.{pointwise}
use Rattle.std.specs.List.{list_any, position, position_or_len, slice_get}
use Rattle.std.proofs.lemmas.List.{length-map}
use Rattle.std.proofs.lemmas.Option.{slice_get-map}
use Rattle.indexmap.specs.IndexSet.{insert_key}
use Rattle.reached_instances.specs.declared.instance.BoundDomain.{BoundDomain}
use Rattle.reached_instances.specs.declared.instance.BoundDomain.TheVariants.{Public, Private}
use Rattle.reached_instances.specs.declared.instance.Instance as kept
use Rattle.reached_instances.specs.contracts.instance.InstancePartialEq.TheImpl as instances
use Rattle.reached_instances.specs.contracts.instance.BoundDomainPartialEq.TheImpl as domains
use Rattle.reached_instances.specs.Instances.{instance_seen, same_domain, same_instance, is_listed, listing, number_in}
use Rattle.reached_instances.proofs.Growing.{map_one}

domains_told : (a b : BoundDomain) → domains.eq-value.it a b ≡ same_domain a b
domains_told Public Public = refl
domains_told Public (Private m) = refl
domains_told (Private k) Public = refl
domains_told (Private k) (Private m) = refl

bindings_told : (xs ys : List BoundDomain) → pointwise domains.eq-value.it xs ys ≡ pointwise same_domain xs ys
bindings_told [] [] = refl
bindings_told [] (y ∷ ys) = refl
bindings_told (x ∷ xs) [] = refl
bindings_told (x ∷ xs) (y ∷ ys) = ap₂ (λ a b. a && b) (domains_told x y) (bindings_told xs ys)

instances_told : (a b : kept.Instance) → instances.eq-value.it a b ≡ same_instance (instance_seen a) (instance_seen b)
instances_told a b = ap (λ z. nat_eq a.function b.function && z) (bindings_told a.binding.items b.binding.items)

listed_told : (k : kept.Instance) (ks : List kept.Instance) → list_any (instances.eq-value.it k) ks ≡ is_listed (instance_seen k) (map instance_seen ks)
listed_told k [] = refl
listed_told k (q ∷ qs) = ap₂ (λ a b. a || b) (instances_told k q) (listed_told k qs)

pub key_listed : (ks : List kept.Instance) (k : kept.Instance)
    → map instance_seen (insert_key instances.eq-value.it ks k) ≡ listing (map instance_seen ks) (instance_seen k)
key_listed ks k = go (list_any (instances.eq-value.it k) ks) (listed_told k ks)
  where
    go : (b : Bool) → b ≡ is_listed (instance_seen k) (map instance_seen ks)
        → map instance_seen (if b then ks else ks ++ k ∷ []) ≡ listing (map instance_seen ks) (instance_seen k)
    go true e = ap (λ (t : Bool). if t then map instance_seen ks else map instance_seen ks ++ instance_seen k ∷ []) e
    go false e =
        map_one instance_seen ks k
        ∙ ap (λ (t : Bool). if t then map instance_seen ks else map instance_seen ks ++ instance_seen k ∷ []) e

before_first : (k : kept.Instance) (ks : List kept.Instance)
    → position_or_len (instances.eq-value.it k) ks ≡ position_or_len (same_instance (instance_seen k)) (map instance_seen ks)
before_first k [] = refl
before_first k (q ∷ qs) =
    ap₂ (λ (b : Bool) (n : ℕ). cond (not b) (1 + n) 0) (instances_told k q) (before_first k qs)

-- its number is the same in the list that clauses see
pub key_numbered : (ks : List kept.Instance) (k : kept.Instance) → position (instances.eq-value.it k) ks ≡ number_in (map instance_seen ks) (instance_seen k)
key_numbered ks k =
    ap₂ (λ (n m : ℕ). cond (nat_lt n m) (Some n) None) (before_first k ks) (sym (length-map ks instance_seen))

-- the instance at a place of the list
pub seen_at : (ks : List kept.Instance) (n : ℕ) (k : kept.Instance) → slice_get ks n ≡ Some k → slice_get (map instance_seen ks) n ≡ Some (instance_seen k)
seen_at ks n k e = slice_get-map instance_seen ks n ∙ ap (option_map instance_seen) e
