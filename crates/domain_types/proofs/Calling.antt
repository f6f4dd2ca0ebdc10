-- A call that is refused has no type.
use Rattle.std.proofs.Common.{◌≡◌, List, ◌++◌, refl, Option, None, Bool, true, false}
use Rattle.std.specs.Prelude.{option_and_then, if◌then◌else◌}
use Rattle.std.proofs.lemmas.List.{map-append}
use Rattle.domain_types.specs.declared.fault.TypeFault.{TypeFault}
use Rattle.domain_types.specs.declared.calls.Call.{Call}
use Rattle.domain_types.specs.Types.{is_without, unless_refused}
use Rattle.domain_types.specs.Views.{call_seen, calls_seen}

pub unless_refused-then : {A B : Type 0} (fs : List TypeFault) (b : Option A) (h : A → Option B)
    → unless_refused fs (option_and_then h b) ≡ option_and_then h (unless_refused fs b)
unless_refused-then fs b h = go (is_without fs)
  where
    go : (t : Bool) → (if t then option_and_then h b else None) ≡ option_and_then h (if t then b else None)
    go true = refl
    go false = refl

pub calls_seen-append : (cs ds : List Call) → calls_seen (cs ++ ds) ≡ calls_seen cs ++ calls_seen ds
calls_seen-append cs ds = map-append call_seen cs ds

pub ruleset calling = (unless_refused-then, calls_seen-append)
