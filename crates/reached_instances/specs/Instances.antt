-- Instances of functions, when two are the same, and lists in which each stands once.
use Rattle.std.specs.Prelude.{ℕ, Bool, true, false, nat_eq, ◌&&◌, if◌then◌else◌, List, [], ◌∷◌, ◌++◌, fold, Option, vec_items}
use Rattle.std.specs.List.{list_any, position}
use Rattle.std.specs.Cmp.Lexicographic.{pointwise}
use Rattle.reached_instances.specs.declared.instance.BoundDomain.{BoundDomain}
use Rattle.reached_instances.specs.declared.instance.BoundDomain.TheVariants.{Public, Private}
use Rattle.reached_instances.specs.declared.instance.Instance as kept

-- a function by its number, with what its domain variables are bound to
pub record Instance : Type 0 where
  pub function : ℕ
  pub binding : List BoundDomain

abbrev pub instance_seen : kept.Instance → Instance
instance_seen i = record { function = i.function; binding = vec_items i.binding }

abbrev pub same_domain : BoundDomain → BoundDomain → Bool
same_domain Public Public = true
same_domain (Private k) (Private m) = nat_eq k m
same_domain _ _ = false

abbrev pub same_instance : Instance → Instance → Bool
same_instance i j = nat_eq i.function j.function && pointwise same_domain i.binding j.binding

abbrev pub is_listed : Instance → List Instance → Bool
is_listed i is = list_any (same_instance i) is

-- the number of an instance in a list: the first place where it stands
abbrev pub number_in : List Instance → Instance → Option ℕ
number_in is i = position (same_instance i) is

-- one more after a list, unless it is there
abbrev pub listing : List Instance → Instance → List Instance
listing is i = if is_listed i is then is else is ++ i ∷ []

-- each once, where it stands first
abbrev pub firsts : List Instance → List Instance
firsts is = fold listing [] is
