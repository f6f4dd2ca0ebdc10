-- Scripts of strands, one after the other.
use Rattle.std.proofs.Common.{List, [], ◌∷◌, ◌++◌}
use Rattle.proto_core.specs.Strand.{Sent, Opened, Told, Strand, Ends, Acts, Waits, then_do}
use Rattle.proto_core.specs.Script.{Move, Sends, Takes, Moves, EndsWith, IsSilent}

-- the moves of one after the other, where the second's hold of whatever the first ends with
pub moves-then :
    {A B : Type 0} (P : A → Type 0) (s : Strand A) (f : A → Strand B) (first second : List Move) → Moves s first → EndsWith P s →
    ((a : A) → P a → Moves (f a) second) → Moves (then_do s f) (first ++ second)
moves-then P (Ends a) f [] second h e k = k a e
moves-then P (Ends a) f (move ∷ moves) second h e k = absurd h
moves-then P (Acts (Opened w) s) f moves second h e k = moves-then P s f moves second h e k
moves-then P (Acts (Told t) s) f moves second h e k = moves-then P s f moves second h e k
moves-then P (Acts (Sent l m) s) f [] second h e k = absurd h
moves-then P (Acts (Sent l m) s) f (Takes j n ∷ moves) second h e k = absurd h
moves-then P (Acts (Sent l m) s) f (Sends j n ∷ moves) second h e k = (h.0, h.1, moves-then P s f moves second h.2 e k)
moves-then P (Waits l n g) f [] second h e k = absurd h
moves-then P (Waits l n g) f (Sends j size ∷ moves) second h e k = absurd h
moves-then P (Waits l n g) f (Takes j size ∷ moves) second h e k = (h.0, h.1, λ m a. moves-then P (g m) f moves second (h.2 m a) (e m a) k)

-- one silent part after another
pub silent_then :
    {A B : Type 0} (s : Strand A) (f : A → Strand B) → IsSilent s → ((a : A) → IsSilent (f a)) → IsSilent (then_do s f)
silent_then (Ends a) f h more = more a
silent_then (Acts (Sent l m) s) f h more = silent_then s f h more
silent_then (Acts (Opened w) s) f h more = silent_then s f h more
silent_then (Acts (Told t) s) f h more = absurd h
silent_then (Waits l n k) f h more = λ m. silent_then (k m) f (h m) more
