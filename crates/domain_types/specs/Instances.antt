-- Instances as the checker keeps them, and when two are the same.
use Rattle.std.specs.Prelude.{◌≡◌, Bool, true, false, nat_eq, ◌&&◌, List, [], ◌∷◌, map, vec_items}
use Rattle.std.specs.List.{list_any}
use Rattle.std.specs.BTreeSet.{BTreeSet, contains}
use Rattle.std.specs.Cmp.Lexicographic.{pointwise}
use Rattle.std.specs.declared.cmp.Ordering.{Ordering}
use Rattle.sc_text.specs.Lists.{Among}
use Rattle.domain_types.specs.declared.value_type.Protection.{Protection}
use Rattle.domain_types.specs.declared.value_type.Protection.TheVariants.{Public, Private}
use Rattle.domain_types.specs.declared.instance.Instance.{Instance}
use Rattle.domain_types.specs.Reached as reached

abbrev pub instance_seen : Instance → reached.Instance
instance_seen i = record { function = i.function; binding = vec_items i.binding }

abbrev pub same_protection : Protection → Protection → Bool
same_protection Public Public = true
same_protection Public (Private m) = false
same_protection (Private k) Public = false
same_protection (Private k) (Private m) = nat_eq k m

abbrev pub same_instance : reached.Instance → reached.Instance → Bool
same_instance i j = nat_eq i.function j.function && pointwise same_protection i.binding j.binding

abbrev pub is_listed : reached.Instance → List reached.Instance → Bool
is_listed i is = list_any (same_instance i) is

-- no instance stands again after itself
abbrev pub IsEachOnce : List reached.Instance → Type 0
IsEachOnce [] = Unit {0}
IsEachOnce (i ∷ is) = (Among i is → ⊥) × IsEachOnce is

-- the set has just the instances of the list
pub record IsSeen (cmp : Instance → Instance → Ordering) (instances : List Instance) (seen : BTreeSet Instance) : Type 0 where
  pub has : (q : Instance) → contains cmp seen q ≡ is_listed (instance_seen q) (map instance_seen instances)
