use Rattle.std.proofs.Common.{◌∙◌, [], ◌∷◌, length, sym, ap}
use Rattle.proto_core.specs.Rings.{add_ring}
use Rattle.proto_core.proofs.ElementwiseLaws.{length-minus}
use Rattle.proto_core.specs.Joints.{joint_of}
use Rattle.split_share.proofs.Tails.{shares2-are, shares3-are, splits-of}
use Rattle.split_share.proofs.together.split_together.Goals as goal

pub unwrap-shares3-requires : goal.unwrap-shares3-requires
unwrap-shares3-requires c =
    c.got13.ensures.taken.1
    (ap length c.start-sent12.ensures.third ∙ length-minus add_ring (length c.args.u1.now) c.args.u1.now c.args.words.now
    ∙ sym (ap (λ h. length h.share) c.start-miner3.ensures ∙ c.requires.three))

pub returns-clause-sent : goal.returns-clause-sent
returns-clause-sent c = record { on12 = ap (λ m. m ∷ []) c.start-sent12.ensures.second; on13 = ap (λ m. m ∷ []) c.start-sent12.ensures.third }

pub returns-clause-first : goal.returns-clause-first
returns-clause-first c = record { first = c.start-sent12.ensures.first_share; second = c.start-sent12.ensures.second_share }

pub returns-clause-second : goal.returns-clause-second
returns-clause-second c =
    shares2-are c.args.negated (length c.args.u1.now) (joint_of c.args.u1.now c.args.u2.now c.args.u3.now c.args.words.now [] []) _ _ _ _
    c.start-miner2.ensures c.requires.two c.start-sent12.ensures.second
    (rw c.unwrap-shares2.ensures at c.got12.ensures.ok)

pub returns-clause-third : goal.returns-clause-third
returns-clause-third c =
    shares3-are c.args.negated (length c.args.u1.now) (joint_of c.args.u1.now c.args.u2.now c.args.u3.now c.args.words.now [] []) _ _ _ _
    c.start-miner3.ensures c.requires.three c.start-sent12.ensures.third
    (rw c.unwrap-shares3.ensures at c.got13.ensures.ok)

pub returns-clause-value : goal.returns-clause-value
returns-clause-value c =
    splits-of c.args.negated (length c.args.u1.now) (joint_of c.args.u1.now c.args.u2.now c.args.u3.now c.args.words.now [] []) _ _ _ _ _ _
    (record { first = c.start-sent12.ensures.first_share; second = c.start-sent12.ensures.second_share })
    (shares2-are c.args.negated (length c.args.u1.now) (joint_of c.args.u1.now c.args.u2.now c.args.u3.now c.args.words.now [] []) _ _ _ _
    c.start-miner2.ensures c.requires.two c.start-sent12.ensures.second
    (rw c.unwrap-shares2.ensures at c.got12.ensures.ok))
    (shares3-are c.args.negated (length c.args.u1.now) (joint_of c.args.u1.now c.args.u2.now c.args.u3.now c.args.words.now [] []) _ _ _ _
    c.start-miner3.ensures c.requires.three c.start-sent12.ensures.third
    (rw c.unwrap-shares3.ensures at c.got13.ensures.ok))
