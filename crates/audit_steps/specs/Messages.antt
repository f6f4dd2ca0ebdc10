-- The `got` lines of a view: each message is the next one of its link.
use Rattle.std.specs.Prelude.{ℕ, ◌&&◌, Bool, true, false, if◌then◌else◌, List, [], ◌∷◌, Option, Some, None}
use Rattle.std.specs.Str.{bytes_eq}
use Rattle.proto_core.specs.declared.party.Number.{Number}
use Rattle.proto_core.specs.Parties.{from_previous, from_next}
use Rattle.proto_core.specs.Strand.{rest_of, same_link}
use Rattle.view_text.specs.View.{Received}
use Rattle.audit_steps.specs.Places.{one_later}

-- the message is the first of these
abbrev pub is_next : List ℕ → List (List ℕ) → Bool
is_next message [] = false
is_next message (m ∷ ms) = bytes_eq m message

abbrev pub none_left : List (List ℕ) → Bool
none_left [] = true
none_left (m ∷ ms) = false

-- the place of the first message that isn't the next of those from the miner's previous miner or of those from its next one; where all
-- are and others are still to come, the place after the last one
abbrev pub wrong_at : Number → (previous next : List (List ℕ)) → List Received → Option ℕ
wrong_at i previous next [] = if none_left previous && none_left next then None else Some 0
wrong_at i previous next (r ∷ rs) =
    if same_link r.link (from_previous i) && is_next r.message previous then one_later (wrong_at i (rest_of previous) next rs)
    else if same_link r.link (from_next i) && is_next r.message next then one_later (wrong_at i previous (rest_of next) rs)
    else Some 0
