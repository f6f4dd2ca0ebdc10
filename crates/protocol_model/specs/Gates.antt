-- Gates in order, over numbered values: what one miner does with its shares and its tape.
use Rattle.std.specs.Prelude.{◌≡◌, ℕ, ◌+◌, List, [], ◌∷◌, ◌++◌, length, map, take, drop, Option, Some, None, get_or, slice_get}
use Rattle.std.specs.Option.{option_map_or}
use Rattle.proto_core.specs.declared.party.Number.{Number}
use Rattle.proto_core.specs.Strand.{Strand, Ends, then_do}
use Rattle.proto_core.specs.Script.{Move, IsSilent}
use Rattle.proto_core.specs.Protocol.{Protocol, Sound, Private}

-- one block of an interactive gate, with the numbers of its operands; or a local gate that makes a value of this size,
-- by what each miner does with its own shares
pub data Gate : Type 0 where
  Joined : (protocol : Protocol) (size u : ℕ) (v : Option ℕ) → Gate
  Local : (size : ℕ) → (Number → List (List ℕ) → List ℕ) → Gate

-- the value of a number, counted from 0
abbrev pub nth_value : List (List ℕ) → ℕ → List ℕ
nth_value values k = get_or values k []

abbrev pub operand : List (List ℕ) → Option ℕ → List ℕ
operand values k = option_map_or (nth_value values) k []

-- ---- sizes

-- the operand is there and has this size; no operand has size 0
abbrev pub HasSize : List ℕ → Option ℕ → ℕ → Type 0
HasSize sizes None n = n ≡ 0
HasSize sizes (Some k) n = slice_get sizes k ≡ Some n

abbrev pub sizes_of : List (List ℕ) → List ℕ
sizes_of values = map length values

abbrev pub IsSized : ℕ → (Number → List (List ℕ) → List ℕ) → List ℕ → Type 0
IsSized n f sizes = (i : Number) (values : List (List ℕ)) → sizes_of values ≡ sizes → length (f i values) ≡ n

-- each gate's operands are there and have the sizes that it wants, where the values before have these
abbrev pub Sized : List Gate → List ℕ → Type 0
Sized [] sizes = Unit {0}
Sized (Joined p n u v ∷ gates) sizes =
    (slice_get sizes u ≡ Some n) × HasSize sizes v (p.second n) × Sized gates (sizes ++ p.made n)
Sized (Local n f ∷ gates) sizes = IsSized n f sizes × Sized gates (sizes ++ n ∷ [])

-- every protocol is right and private
abbrev pub AreSound : List Gate → Type 0
AreSound [] = Unit {0}
AreSound (Joined p n u v ∷ gates) = Sound p × AreSound gates
AreSound (Local n f ∷ gates) = AreSound gates

abbrev pub ArePrivate : List Gate → Type 0
ArePrivate [] = Unit {0}
ArePrivate (Joined p n u v ∷ gates) = Private p × ArePrivate gates
ArePrivate (Local n f ∷ gates) = ArePrivate gates

-- no miner's part in a protocol tells anything
abbrev pub AreSilent : List Gate → Type 0
AreSilent [] = Unit {0}
AreSilent (Joined p n u v ∷ gates) = ((i : Number) (own other words : List ℕ) → IsSilent (p.strand n i own other words)) × AreSilent gates
AreSilent (Local n f ∷ gates) = AreSilent gates

-- ---- one miner

-- how many words a miner draws in all
abbrev pub needed : List Gate → Number → ℕ
needed [] i = 0
needed (Joined p n u v ∷ gates) i = p.draws n i + needed gates i
needed (Local n f ∷ gates) i = needed gates i

-- it draws a block's words from the front of its tape, does its part, and goes on with the values that it then has
abbrev pub gates_strand : Number → List Gate → (values : List (List ℕ)) → (tape : List ℕ) → Strand (List (List ℕ))
gates_strand i [] values tape = Ends values
gates_strand i (Joined p n u v ∷ gates) values tape =
    then_do (p.strand n i (nth_value values u) (operand values v) (take (p.draws n i) tape))
    (λ made. gates_strand i gates (values ++ made) (drop (p.draws n i) tape))
gates_strand i (Local n f ∷ gates) values tape = gates_strand i gates (values ++ f i values ∷ []) tape

abbrev pub gates_script : Number → List Gate → List Move
gates_script i [] = []
gates_script i (Joined p n u v ∷ gates) = p.script n i ++ gates_script i gates
gates_script i (Local n f ∷ gates) = gates_script i gates
