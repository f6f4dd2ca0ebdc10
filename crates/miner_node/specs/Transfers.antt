-- Bytes to a peer and from it, as many as there are in a slice.
use Rattle.std.specs.Prelude.{◌≡◌, ◌<◌, ℕ, List, length, take, true, Result, OnOk, IfErr}
use Rattle.outside.specs.Links.{LinksState, no_bytes, bytes_of, Sent, Came, Did}
use Rattle.miner_node.specs.declared.node_err.NodeErr.{NodeErr}
use Rattle.miner_node.specs.Faults.{IsLater, WasNotSent, DidNotCome}
use Rattle.miner_node.specs.Order.{NeverDue, GivesOnly, IsPart}

-- fewer bytes than so many are still to come from this peer
abbrev pub IsShort : LinksState → (peer count : ℕ) → Type 0
IsShort state peer count = state.told ≡ true → length (state.coming peer) < count

-- all of these bytes were sent to a peer; or a front of them, where the links failed or had no memory
pub record SendsAll {T : Type 0} (old new : LinksState) (peer : ℕ) (bytes : List ℕ) (result : Result T NodeErr) : Type 0 where
  pub ok : OnOk result (Sent old new peer bytes)
  pub front : (n : ℕ) × Sent old new peer (take n bytes)
  pub did_all : OnOk result (old.told ≡ true → Did NeverDue old new (bytes_of peer bytes) no_bytes)
  pub did : GivesOnly old new
  pub err : IfErr result (WasNotSent old new)
  pub later : IsLater old new

-- a slice was filled with the next bytes from a peer; or its front, where the links failed, since fewer were to come if they were steady
pub record FillsAll {T : Type 0} (old new : LinksState) (peer : ℕ) (bytes : List ℕ) (result : Result T NodeErr) : Type 0 where
  pub ok : OnOk result (Came old new peer bytes)
  pub front : (n : ℕ) × Came old new peer (take n bytes)
  pub did_all : OnOk result (old.told ≡ true → Did (IsPart peer (length bytes)) old new no_bytes (bytes_of peer bytes))
  pub did : old.told ≡ true → (taken : List ℕ) × Did (IsPart peer (length bytes)) old new no_bytes (bytes_of peer taken)
  pub err : IfErr result (DidNotCome old new (IsShort old peer (length bytes)))
  pub later : IsLater old new
