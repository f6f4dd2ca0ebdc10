-- When a node answers that its links failed.
use Rattle.std.specs.Prelude.{◌≡◌, ◌≤◌, true}
use Rattle.outside.specs.declared.error.FileErr.{FileErr}
use Rattle.outside.specs.declared.error.FileErr.TheVariants as file_err
use Rattle.outside.specs.Causes.{Rose}
use Rattle.outside.specs.Links.{LinksState}
use Rattle.miner_node.specs.declared.node_err.NodeErr.{NodeErr}
use Rattle.miner_node.specs.declared.node_err.NodeErr.TheVariants.{LinkFault, PeerMismatch, BadFrame, BadMessage, Memory}

-- what is answered where bytes were not sent
abbrev pub unsent : FileErr → NodeErr
unsent file_err.Failed = LinkFault
unsent file_err.Memory = Memory

-- the links failed: their count of faults rose, and where they were steady this is why
pub record IsFault (old new : LinksState) (excuse : Type 0) : Type 0 where
  pub rose : Rose old.faults new.faults
  pub steady : old.steady ≡ true → excuse

-- why bytes were not sent; steady links take all
abbrev pub WasNotSent : LinksState → LinksState → NodeErr → Type 0
WasNotSent old new LinkFault = IsFault old new ⊥
WasNotSent old new (PeerMismatch field mine theirs) = ⊥
WasNotSent old new (BadFrame place) = ⊥
WasNotSent old new (BadMessage link cause) = ⊥
WasNotSent old new Memory = Unit {0}

-- why bytes did not come; of steady links for this cause
abbrev pub DidNotCome : LinksState → LinksState → (excuse : Type 0) → NodeErr → Type 0
DidNotCome old new excuse LinkFault = IsFault old new excuse
DidNotCome old new excuse (PeerMismatch field mine theirs) = ⊥
DidNotCome old new excuse (BadFrame place) = ⊥
DidNotCome old new excuse (BadMessage link cause) = ⊥
DidNotCome old new excuse Memory = Unit {0}

-- the count of faults never falls, and steady links stay so
pub record IsLater (old new : LinksState) : Type 0 where
  pub told : new.told ≡ old.told
  pub faults : old.faults ≤ new.faults
  pub still : old.steady ≡ true → new.steady ≡ true
