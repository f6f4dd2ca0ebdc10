-- What is told where an event was made.
use Rattle.std.proofs.Common.{◌≡◌, ◌<◌, List, [], ◌∷◌, length, refl, arith}
use Rattle.sc_text.specs.declared.event.Event.{Event}
use Rattle.proto_core.specs.Strand.{Notice}
use Rattle.own_code.specs.Places.{where_made}

none_longer : 0 < length {A = Event} [] → ⊥
none_longer h = omega (arith, h)

pub made_is : (es : List Event) (ns : List Notice) → 0 < length es → where_made es ns ≡ ns
made_is [] ns h = absurd (none_longer h)
made_is (e ∷ es) ns h = refl
