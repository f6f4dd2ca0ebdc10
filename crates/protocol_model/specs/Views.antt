-- What a miner sees of a run, made of the opened words and of tapes that correspond one to one with the drawn ones.
use Rattle.std.specs.Prelude.{◌≡◌, ℕ, List, [], ◌∷◌, ◌++◌, length, take, drop, Option}
use Rattle.proto_core.specs.declared.party.Number.{Number}
use Rattle.proto_core.specs.declared.link.Link.{Link}
use Rattle.proto_core.specs.Parties.{receiver_of}
use Rattle.proto_core.specs.Lists.{AreWords}
use Rattle.proto_core.specs.Strand.{Mail, Ends, Strand, run}
use Rattle.proto_core.specs.Net.{into}
use Rattle.proto_core.specs.Protocol.{Protocol}
use Rattle.protocol_model.specs.Gates.{Gate, Joined, Local, nth_value, operand}
use Rattle.protocol_model.specs.Runs.{Shares, Tapes, drawn, left, gate_joint, after, after_local, run_messages, run_values, run_opened}

-- ---- the map of the tapes

-- the tapes that miner i's view is made of: each block's words by the block's row, words after the last as they are
abbrev pub to_view : Number → List Gate → Shares → Tapes → Tapes
to_view i [] values tapes m = tapes m
to_view i (Joined p n u v ∷ gates) values tapes m =
    p.tape n i (gate_joint u v values (drawn p n tapes)) m
    ++ to_view i gates (after p n u v values (drawn p n tapes)) (left p n tapes) m
to_view i (Local n f ∷ gates) values tapes m = to_view i gates (after_local f values) tapes m

-- the words of a block that these mapped words come from
abbrev pub found : Number → Protocol → ℕ → ℕ → Option ℕ → Shares → Tapes → Tapes
found i p n u v values mapped m = p.back n i (gate_joint u v values (drawn p n mapped)) m

-- the way back: each block's words, and the shares that they make, before the next block's
abbrev pub from_view : Number → List Gate → Shares → Tapes → Tapes
from_view i [] values mapped m = mapped m
from_view i (Joined p n u v ∷ gates) values mapped m =
    found i p n u v values mapped m
    ++ from_view i gates (after p n u v values (found i p n u v values mapped)) (left p n mapped) m
from_view i (Local n f ∷ gates) values mapped m = from_view i gates (after_local f values) mapped m

-- ---- the simulator: no share of another miner, and no tape but the mapped ones

-- the messages that a block brings miner i
abbrev pub made_mail : Number → Protocol → ℕ → ℕ → Option ℕ → List (List ℕ) → List ℕ → Tapes → Mail
made_mail i p n u v own opened mapped =
    into i (p.received n i (nth_value own u) (operand own v) (drawn p n mapped) (take (p.opens n) opened))

abbrev pub blocks_at_end : Strand (List (List ℕ)) → List (List ℕ)
blocks_at_end (Ends blocks) = blocks
blocks_at_end _ = []

-- its own blocks at the end of a block's part
abbrev pub made_blocks : Number → Protocol → ℕ → ℕ → Option ℕ → List (List ℕ) → List ℕ → Tapes → List (List ℕ)
made_blocks i p n u v own opened mapped =
    blocks_at_end
    (run (p.strand n i (nth_value own u) (operand own v) (drawn p n mapped i)) (made_mail i p n u v own opened mapped)).left

-- all messages that come to miner i
abbrev pub made_messages : Number → List Gate → (own : List (List ℕ)) → (opened : List ℕ) → Tapes → Mail
made_messages i [] own opened mapped l = []
made_messages i (Joined p n u v ∷ gates) own opened mapped l =
    made_mail i p n u v own opened mapped l
    ++ made_messages i gates (own ++ made_blocks i p n u v own opened mapped) (drop (p.opens n) opened) (left p n mapped) l
made_messages i (Local n f ∷ gates) own opened mapped l = made_messages i gates (own ++ f i own ∷ []) opened mapped l

-- its own shares of all values
abbrev pub made_values : Number → List Gate → (own : List (List ℕ)) → (opened : List ℕ) → Tapes → List (List ℕ)
made_values i [] own opened mapped = own
made_values i (Joined p n u v ∷ gates) own opened mapped =
    made_values i gates (own ++ made_blocks i p n u v own opened mapped) (drop (p.opens n) opened) (left p n mapped)
made_values i (Local n f ∷ gates) own opened mapped = made_values i gates (own ++ f i own ∷ []) opened mapped

-- all that comes to miner i, and all shares that it has, is made by the simulator of its own shares, the opened words
-- and the mapped tapes
pub record MadeBy (i : Number) (gates : List Gate) (values : Shares) (tapes : Tapes) : Type 0 where
  pub messages :
      (l : Link) → receiver_of l ≡ i →
      run_messages gates values tapes l
      ≡ made_messages i gates (values i) (run_opened gates values tapes) (to_view i gates values tapes) l
  pub shares :
      run_values gates values tapes i
      ≡ made_values i gates (values i) (run_opened gates values tapes) (to_view i gates values tapes)

-- the map keeps each tape's length, and miner i's own tape, and has an inverse on both sides
pub record OneToOne (i : Number) (gates : List Gate) (values : Shares) (tapes : Tapes) : Type 0 where
  pub there_and_back : (m : Number) → from_view i gates values (to_view i gates values tapes) m ≡ tapes m
  pub back_and_there : (m : Number) → to_view i gates values (from_view i gates values tapes) m ≡ tapes m
  pub own : to_view i gates values tapes i ≡ tapes i
  pub kept : (m : Number) → length (to_view i gates values tapes m) ≡ length (tapes m)
  pub back_kept : (m : Number) → length (from_view i gates values tapes m) ≡ length (tapes m)
  pub words : (m : Number) → AreWords (to_view i gates values tapes m)
  pub back_words : (m : Number) → AreWords (from_view i gates values tapes m)
