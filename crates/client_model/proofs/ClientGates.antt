-- The gates with the client's rows run as before, and their rows correspond.
use Rattle.std.proofs.Common.{◌≡◌, ℕ, ◌+◌, ◌≤◌, Bool, true, false, List, [], ◌∷◌, ◌++◌, length, refl, sym, ap, subst}
use Rattle.proto_core.specs.Rings.{add_ring, xor_ring}
use Rattle.proto_core.specs.declared.party.Number.{Number}
use Rattle.proto_core.specs.Protocol.{Protocol}
use Rattle.protocol_model.specs.Gates.{Joined, Local, Sized, AreSound, needed}
use Rattle.protocol_model.specs.Gates as model
use Rattle.protocol_model.specs.Runs.{Shares, Tapes, Ready}
use Rattle.blocked_protocol.specs.Blocked.{blocked}
use Rattle.blocked_protocol.specs.Multiplying.{mul_protocol}
use Rattle.blocked_protocol.specs.Converting.{conv_protocol}
use Rattle.blocked_protocol.specs.Splitting.{split_protocol}
use Rattle.blocked_protocol.specs.Opening.{open_protocol}
use Rattle.blocked_protocol.specs.Resharing.{reshare_protocol}
use Rattle.gates.specs.declared.gate.Gate.{Gate}
use Rattle.gates.specs.declared.gate.Gate.TheVariants.{Mul, And, Split, Conv, Open, Result}
use Rattle.gates.specs.Clear.{Values, ring_of}
use Rattle.shared_gates.specs.Model.{sizes_made}
use Rattle.shared_gates.proofs.LocalGates.{laws_of}
use Rattle.client_model.specs.ClientRows.{Rows, rowed, leaving}
use Rattle.client_model.specs.ClientMaps.{with_rows, row_of, client_gates}
use Rattle.protocol_model.proofs.Walks.{Corresponds, AllCorrespond}
use Rattle.client_model.proofs.Rows.{handing-corresponds, leaving-corresponds, rowed-sound}

-- ---- any rows

pub needed-rows : (rows : List Rows) (gates : List model.Gate) (i : Number) → needed (with_rows rows gates) i ≡ needed gates i
needed-rows [] gates i = refl
needed-rows (r ∷ rows) [] i = refl
needed-rows (r ∷ rows) (Joined p n u v ∷ gates) i = ap (λ k. p.draws n i + k) (needed-rows rows gates i)
needed-rows (r ∷ rows) (Local n f ∷ gates) i = needed-rows rows gates i

pub sized-rows : (rows : List Rows) (gates : List model.Gate) (sizes : List ℕ) → Sized gates sizes → Sized (with_rows rows gates) sizes
sized-rows [] gates sizes h = h
sized-rows (r ∷ rows) [] sizes h = tt
sized-rows (r ∷ rows) (Joined p n u v ∷ gates) sizes h = (h.0, h.1, sized-rows rows gates (sizes ++ p.made n) h.2)
sized-rows (r ∷ rows) (Local n f ∷ gates) sizes h = (h.0, sized-rows rows gates (sizes ++ n ∷ []) h.1)

pub sound-rows : (rows : List Rows) (gates : List model.Gate) → AreSound gates → AreSound (with_rows rows gates)
sound-rows [] gates h = h
sound-rows (r ∷ rows) [] h = tt
sound-rows (r ∷ rows) (Joined p n u v ∷ gates) h = (rowed-sound r p h.0, sound-rows rows gates h.1)
sound-rows (r ∷ rows) (Local n f ∷ gates) h = sound-rows rows gates h

pub ready-rows :
    (rows : List Rows) (gates : List model.Gate) (values : Shares) (tapes : Tapes) → Ready gates values tapes → Ready (with_rows rows gates) values tapes
ready-rows rows gates values tapes ready =
    record {
      sizes = ready.sizes;
      sized = sized-rows rows gates ready.sizes ready.sized;
      shares = ready.shares;
      tapes_reach = λ i. subst (λ k. k ≤ length (tapes i)) (sym (needed-rows rows gates i)) (ready.tapes_reach i);
      tapes_are_words = ready.tapes_are_words;
    }

-- ---- the client's

by-row : (i : Number) (gate : Gate) (p : Protocol) (b : Bool) → ((b : Bool) → row_of gate b ≡ leaving) → Corresponds i (rowed (row_of gate b) p)
by-row i gate p b same = subst (λ (r : Rows). Corresponds i (rowed r p)) (sym (same b)) (leaving-corresponds p i)

pub client-correspond :
    (mine : ℕ → Bool) (i : Number) (dealt : Number → Values) (ds sizes : List ℕ) (next : ℕ) (gates : List Gate)
    → AllCorrespond i (client_gates mine next dealt ds sizes gates)
client-correspond mine i dealt ds sizes next [] = tt
client-correspond mine i dealt ds sizes next (Result ring u ∷ gates) = (
  either (mine next),
  client-correspond mine i dealt ds (sizes ++ sizes_made ds sizes (Result ring u)) (next + 1) gates,
)
  where
    either : (b : Bool) → Corresponds i (rowed (row_of (Result ring u) b) (blocked (reshare_protocol (ring_of ring))))
    either true = handing-corresponds (laws_of ring) (blocked (reshare_protocol (ring_of ring))) (λ n m. refl) i
    either false = leaving-corresponds (blocked (reshare_protocol (ring_of ring))) i
client-correspond mine i dealt ds sizes next (Mul u v ∷ gates) = (
  by-row i (Mul u v) (blocked (mul_protocol add_ring)) (mine next) (λ b. refl),
  client-correspond mine i dealt ds (sizes ++ sizes_made ds sizes (Mul u v)) (next + 1) gates,
)
client-correspond mine i dealt ds sizes next (And u v ∷ gates) = (
  by-row i (And u v) (blocked (mul_protocol xor_ring)) (mine next) (λ b. refl),
  client-correspond mine i dealt ds (sizes ++ sizes_made ds sizes (And u v)) (next + 1) gates,
)
client-correspond mine i dealt ds sizes next (Split u negated ∷ gates) = (
  by-row i (Split u negated) (blocked (split_protocol negated)) (mine next) (λ b. refl),
  client-correspond mine i dealt ds (sizes ++ sizes_made ds sizes (Split u negated)) (next + 2) gates,
)
client-correspond mine i dealt ds sizes next (Conv u ∷ gates) = (
  by-row i (Conv u) (blocked conv_protocol) (mine next) (λ b. refl),
  client-correspond mine i dealt ds (sizes ++ sizes_made ds sizes (Conv u)) (next + 1) gates,
)
client-correspond mine i dealt ds sizes next (Open ring u ∷ gates) = (
  by-row i (Open ring u) (blocked (open_protocol (ring_of ring))) (mine next) (λ b. refl),
  client-correspond mine i dealt ds (sizes ++ sizes_made ds sizes (Open ring u)) (next + 1) gates,
)
client-correspond mine i dealt ds sizes next (gate ∷ gates) = client-correspond mine i dealt ds (sizes ++ sizes_made ds sizes gate) (next + 1) gates
