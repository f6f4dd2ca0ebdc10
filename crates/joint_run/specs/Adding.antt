-- What a protocol adds to what was sent, made and opened before.
use Rattle.std.specs.Prelude.{◌≡◌, ℕ, Bool, true, false, List, [], ◌∷◌, ◌++◌}
use Rattle.proto_core.specs.declared.party.Number.{Number}
use Rattle.proto_core.specs.declared.link.Link.{Link}
use Rattle.proto_core.specs.Strand.{Mail}
use Rattle.proto_core.specs.Protocol.{Joint, Protocol}
use Rattle.shared_gates.specs.Blocked.{joined, blocked}
use Rattle.joint_run.specs.declared.transcript.Transcript.{Transcript}
use Rattle.joint_run.specs.declared.outputs.Outputs.{Outputs}
use Rattle.joint_run.specs.Three.{carried, share_of}

-- a miner's words of the one value that is made, or of the two
abbrev pub words_of : Bool → Outputs → Number → List (List ℕ)
words_of false outputs i = share_of outputs.first i ∷ []
words_of true outputs i = share_of outputs.first i ∷ share_of outputs.second i ∷ []

-- these messages and these opened words more
pub record Tells (messages : Mail) (opened : List ℕ) (before after : Transcript) : Type 0 where
  pub sent : (l : Link) → carried after.traffic l ≡ carried before.traffic l ++ messages l
  pub learnt : after.opened.items ≡ before.opened.items ++ opened

-- these words after those of each value
abbrev pub Lengthens : Bool → (Number → List (List ℕ)) → (before after : Outputs) → Type 0
Lengthens two words before after = (i : Number) → words_of two after i ≡ joined (words_of two before i) (words i)

-- a block of n elements more, by a protocol that makes two values, or one
pub record AddsBlock (two : Bool) (p : Protocol) (n : ℕ) (j : Joint) (before after : Transcript) (made_before made_after : Outputs) : Type 0 where
  pub told : Tells (p.messages n j) (p.opened n j) before after
  pub made : Lengthens two (p.output n j) made_before made_after

-- a whole gate of n elements
pub record AddsGate (two : Bool) (p : Protocol) (n : ℕ) (j : Joint) (before after : Transcript) (made : Outputs) : Type 0 where
  pub told : Tells ((blocked p).messages n j) ((blocked p).opened n j) before after
  pub words : (i : Number) → words_of two made i ≡ (blocked p).output n j i
