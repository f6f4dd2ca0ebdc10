-- What each of the three miners has, and what each of the six links carried.
use Rattle.std.specs.Prelude.{ℕ, List}
use Rattle.proto_core.specs.declared.party.Number.{Number}
use Rattle.proto_core.specs.declared.link.Link.{Link}
use Rattle.proto_core.specs.declared.link.Link.TheVariants.{Link12, Link13, Link21, Link23, Link31, Link32}
use Rattle.proto_core.specs.Parties.{of_three}
use Rattle.proto_core.specs.Protocol.{Joint}
use Rattle.joint_run.specs.declared.traffic.Traffic.{Traffic}
use Rattle.joint_run.specs.declared.outputs.Shared.{Shared}
use Rattle.joint_run.specs.declared.shares.SharedValues.{SharedValues}
use Rattle.joint_run.specs.Parts.{ThreeLists, Parts}

abbrev pub on_links : {A : Type 0} → (on12 on13 on21 on23 on31 on32 : A) → Link → A
on_links a b c d e f Link12 = a
on_links a b c d e f Link13 = b
on_links a b c d e f Link21 = c
on_links a b c d e f Link23 = d
on_links a b c d e f Link31 = e
on_links a b c d e f Link32 = f

abbrev pub each_of : ThreeLists → Number → List ℕ
each_of lists = of_three lists.first lists.second lists.third

-- the shares of the operands and the words that are drawn
abbrev pub joint : Parts → Joint
joint parts = record { u = each_of parts.u; v = each_of parts.v; words = each_of parts.words }

abbrev pub carried : Traffic → Link → List (List ℕ)
carried t = on_links t.on12 t.on13 t.on21 t.on23 t.on31 t.on32

abbrev pub share_of : Shared → Number → List ℕ
share_of s = of_three s.first.items s.second.items s.third.items

abbrev pub values_of : SharedValues → Number → List (List ℕ)
values_of s = of_three s.first s.second s.third
