-- What is left of a block's protocol, by what a miner holds of it.
use Rattle.std.specs.Prelude.{◌≡◌, ◌<◌, ℕ, List, [], ◌∷◌, length, Some, None}
use Rattle.proto_core.specs.Ring.{Ring}
use Rattle.proto_core.specs.Rings.{add_ring, xor_ring}
use Rattle.proto_core.specs.declared.party.Number.{Number}
use Rattle.proto_core.specs.Strand.{Strand, Ends}
use Rattle.multiply.specs.MulStrand.{mul_masked, mul_crossed}
use Rattle.open_result.specs.Steps.{left_masked, left_from_previous, left_from_next}
use Rattle.reshare.specs.Steps.{left_sent}
use Rattle.block_steps.specs.Dealt.{converting_left, splitting_left}
use Rattle.block_steps.specs.Outcomes.{waiting, StandsAt}
use Rattle.block_steps.specs.declared.links.Links.{Links}
use Rattle.block_steps.specs.declared.ring_block.RingBlock.{RingBlock}
use Rattle.block_steps.specs.declared.ring_block.RingBlock.TheVariants.{MulMasked, MulCrossed, OpenMasked, OpenFromPrevious, OpenFromNext, Resharing}
use Rattle.block_steps.specs.declared.pending.Pending.{Pending}
use Rattle.block_steps.specs.declared.pending.Pending.TheVariants as pending
use Rattle.block_steps.specs.declared.progress.Progress.{Progress}
use Rattle.block_steps.specs.declared.progress.Progress.TheVariants.{Stands, Goes, Made}

abbrev pub ring_left : {R P : Type 0} → Ring → Number → RingBlock R P → Strand (List (List ℕ))
ring_left r i (MulMasked held) = mul_masked r (length held.mask) i held
ring_left r i (MulCrossed held) = mul_crossed r (length held.mask) i held
ring_left r i (OpenMasked state) = left_masked r i state
ring_left r i (OpenFromPrevious state) = left_from_previous r i state
ring_left r i (OpenFromNext state) = left_from_next r i state
ring_left r i (Resharing state of) = left_sent r i state

abbrev pub pending_left : {P : Type 0} → Number → Pending P → Strand (List (List ℕ))
pending_left i (pending.Numbers block) = ring_left add_ring i block
pending_left i (pending.Bits block) = ring_left xor_ring i block
pending_left i (pending.Conversion state) = converting_left state
pending_left i (pending.Splitting state) = splitting_left state

-- ---- after a step, where this is what is left of each state

-- the shares that were made are one value's, or two values'
abbrev pub progress_left : {S : Type 0} → (S → Strand (List (List ℕ))) → Progress S → Strand (List (List ℕ))
progress_left left (Stands state cause) = left state
progress_left left (Goes state) = left state
progress_left left (Made first None) = Ends (first.items ∷ [])
progress_left left (Made first (Some second)) = Ends (first.items ∷ second.items ∷ [])

-- no message is there that fits, for this cause
abbrev pub StandsThen : {S : Type 0} → (S → Strand (List (List ℕ))) → Number → Links → Progress S → Type 0
StandsThen left i l (Stands state cause) = StandsAt i l cause (left state)
StandsThen left i l (Goes state) = Unit {0}
StandsThen left i l (Made first second) = Unit {0}

-- a message is taken, or all is as before
abbrev pub Shorter : {S : Type 0} → Links → Links → Progress S → Type 0
Shorter before after (Stands state cause) = after ≡ before
Shorter before after (Goes state) = waiting after < waiting before
Shorter before after (Made first second) = waiting after < waiting before

-- a block that has just begun: none says that it stands
abbrev pub HasBegun : {S : Type 0} → Progress S → Type 0
HasBegun (Stands state cause) = ⊥
HasBegun (Goes state) = Unit {0}
HasBegun (Made first second) = Unit {0}
