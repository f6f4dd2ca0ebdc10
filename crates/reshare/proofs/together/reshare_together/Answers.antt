use Rattle.std.proofs.Common.{length, refl}
use Rattle.proto_core.specs.declared.party.Number.TheVariants.{One, Two, Three}
use Rattle.proto_core.specs.Joints.{joint_of}
use Rattle.reshare.proofs.StepsLemmas.{reshared_share, part_is, value_is, of_three_has}
use Rattle.reshare.proofs.together.reshare_together.Goals as goal

pub returns-clause-value : goal.returns-clause-value
returns-clause-value g c =
    let r = g.R.ShareRing.ring in
    let n = length c.args.u1.now in
    let j = joint_of c.args.u1.now c.args.u2.now c.args.u3.now c.args.words1.now c.args.words2.now c.args.words3.now in
    let share1 = reshared_share r n _ _ (j.words Three) _ _ _ c.start-miner1.ensures.state refl c.start-miner3.ensures.mask
    (rw c.unwrap-share1.ensures at c.got.ensures.ok) in
    let share2 = reshared_share r n _ _ (j.words One) _ _ _ c.start-miner2.ensures.state c.requires.two c.start-miner1.ensures.mask
    (rw c.unwrap-share2.ensures at c.got-2.ensures.ok) in
    let share3 = reshared_share r n _ _ (j.words Two) _ _ _ c.start-miner3.ensures.state c.requires.three c.start-miner2.ensures.mask
    (rw c.unwrap-share3.ensures at c.got-3.ensures.ok) in
    value_is g.R.ShareRing.laws n j _ _ _ share1 share2 share3

pub returns-clause-first : goal.returns-clause-first
returns-clause-first g c =
    let r = g.R.ShareRing.ring in
    let n = length c.args.u1.now in
    let j = joint_of c.args.u1.now c.args.u2.now c.args.u3.now c.args.words1.now c.args.words2.now c.args.words3.now in
    let words = of_three_has n _ _ _ c.requires.words1 c.requires.words2 c.requires.words3 in
    let share = reshared_share r n _ _ (j.words Three) _ _ _ c.start-miner1.ensures.state refl c.start-miner3.ensures.mask
    (rw c.unwrap-share1.ensures at c.got.ensures.ok) in
    part_is r n j words One _ _ c.start-miner1.ensures.mask share

pub returns-clause-second : goal.returns-clause-second
returns-clause-second g c =
    let r = g.R.ShareRing.ring in
    let n = length c.args.u1.now in
    let j = joint_of c.args.u1.now c.args.u2.now c.args.u3.now c.args.words1.now c.args.words2.now c.args.words3.now in
    let words = of_three_has n _ _ _ c.requires.words1 c.requires.words2 c.requires.words3 in
    let share = reshared_share r n _ _ (j.words One) _ _ _ c.start-miner2.ensures.state c.requires.two c.start-miner1.ensures.mask
    (rw c.unwrap-share2.ensures at c.got-2.ensures.ok) in
    part_is r n j words Two _ _ c.start-miner2.ensures.mask share

pub returns-clause-third : goal.returns-clause-third
returns-clause-third g c =
    let r = g.R.ShareRing.ring in
    let n = length c.args.u1.now in
    let j = joint_of c.args.u1.now c.args.u2.now c.args.u3.now c.args.words1.now c.args.words2.now c.args.words3.now in
    let words = of_three_has n _ _ _ c.requires.words1 c.requires.words2 c.requires.words3 in
    let share = reshared_share r n _ _ (j.words Two) _ _ _ c.start-miner3.ensures.state c.requires.three c.start-miner2.ensures.mask
    (rw c.unwrap-share3.ensures at c.got-3.ensures.ok) in
    part_is r n j words Three _ _ c.start-miner3.ensures.mask share
