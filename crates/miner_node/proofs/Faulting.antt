-- Counts of faults over several calls.
use Rattle.std.proofs.Common.{◌≤◌, ℕ, ◌∙◌, refl, arith, le_refl}
use Rattle.outside.specs.Causes.{Rose}
use Rattle.outside.specs.Links.{LinksState}
use Rattle.miner_node.specs.Faults.{IsFault, IsLater}

pub rose_from : (a b c : ℕ) → a ≤ b → Rose b c → Rose a c
rose_from a b c le h = omega arith

pub rose_on : (a b c : ℕ) → b ≤ c → Rose a b → Rose a c
rose_on a b c le h = omega arith

pub later_self : (a : LinksState) → IsLater a a
later_self a = record { told = refl; faults = le_refl a.faults; still = λ t. t }

pub later_on : {a b c : LinksState} → IsLater a b → IsLater b c → IsLater a c
later_on {a} {b} {c} p q =
    let one : a.faults ≤ b.faults = p.faults in
    let two : b.faults ≤ c.faults = q.faults in
    record { told = q.told ∙ p.told; faults = omega arith; still = λ t. q.still (p.still t) }

-- a fault in the last of several calls
pub fault_on : {a b c : LinksState} {E F : Type 0} → IsLater a b → IsFault b c E → (E → F) → IsFault a c F
fault_on {a} {b} {c} p h so =
    record { rose = rose_from a.faults b.faults c.faults p.faults h.rose; steady = λ st. so (h.steady (p.still st)) }

pub fault_so : {a b : LinksState} {E F : Type 0} → IsFault a b E → (E → F) → IsFault a b F
fault_so h so = record { rose = h.rose; steady = λ st. so (h.steady st) }
