-- The domains of some domain variables, and those of the others after them.
use Rattle.std.proofs.Common.{◌≡◌, List, [], ◌∷◌, ◌++◌, refl, sym, ap, Option, Some, None, append_assoc, append-nil}
use Rattle.domain_types.specs.declared.value_type.Protection.{Protection}
use Rattle.domain_types.specs.ExpressionTypes.{of_two}

-- one domain, and those of the others after it
abbrev pub with_domain : Option Protection → Option (List Protection) → Option (List Protection)
with_domain d ds = of_two (λ x xs. Some (x ∷ xs)) d ds

abbrev pub put_before : List Protection → Option (List Protection) → Option (List Protection)
put_before ds None = None
put_before ds (Some es) = Some (ds ++ es)

pub put_before-with_domain : (ds : List Protection) (d : Protection) (r : Option (List Protection))
    → put_before ds (with_domain (Some d) r) ≡ put_before (ds ++ d ∷ []) r
put_before-with_domain ds d None = refl
put_before-with_domain ds d (Some es) = ap Some (sym (append_assoc ds (d ∷ []) es))

pub put_before-nothing : (ds : List Protection) → put_before ds (Some []) ≡ Some ds
put_before-nothing ds = ap Some (append-nil ds)

pub put_before-none : (r : Option (List Protection)) → put_before [] r ≡ r
put_before-none None = refl
put_before-none (Some es) = refl

pub ruleset bindings = (put_before-with_domain, put_before-nothing, put_before-none)
