use Rattle.std.proofs.Common.{◌∙◌, length, refl}
use Rattle.proto_core.specs.declared.party.Number.TheVariants.{One, Two, Three}
use Rattle.proto_core.proofs.ResharingLaws.{length-reshared, swap_last, swap_first, swap_ends}
use Rattle.proto_core.specs.Joints.{joint_of}
use Rattle.reshare.proofs.StepsLemmas.{of_three_has}
use Rattle.open_result.proofs.StepsLemmas.{masked, summed, part_is}
use Rattle.open_result.proofs.together.open_together.Goals as goal

pub returns-clause-first : goal.returns-clause-first
returns-clause-first g c =
    let r = g.R.ShareRing.ring in
    let laws = g.R.ShareRing.laws in
    let n = length c.args.u1.now in
    let j = joint_of c.args.u1.now c.args.u2.now c.args.u3.now c.args.words1.now c.args.words2.now c.args.words3.now in
    let words = of_three_has n _ _ _ c.requires.words1 c.requires.words2 c.requires.words3 in
    let masks1 = rw c.unwrap-miner1.ensures at c.got.ensures.ok in
    let masks2 = rw c.unwrap-miner2.ensures at c.got-2.ensures.ok in
    let masks3 = rw c.unwrap-miner3.ensures at c.got-3.ensures.ok in
    let keeps = rw c.unwrap.ensures at c.got-4.ensures.ok in
    let sums = rw c.unwrap-opened1.ensures at c.got-5.ensures.ok in
    let share1 = masked r n (j.u One) (j.words One) (j.words Three) _ _ _ _ _ c.start-miner1.ensures.state refl c.start-miner3.ensures.mask masks1 in
    let share2 = masked r n (j.u Two) (j.words Two) (j.words One) _ _ _ _ _ c.start-miner2.ensures.state c.requires.two c.start-miner1.ensures.mask masks2 in
    let share3 = masked r n (j.u Three) (j.words Three) (j.words Two) _ _ _ _ _ c.start-miner3.ensures.state c.requires.three
    c.start-miner2.ensures.mask masks3 in
    let sum = summed r n _ _ _ _ _ _ _ _ share1 (masks3.next ∙ share3) (masks2.previous ∙ share2) (length-reshared r n _ _ _) keeps sums in
    let output = sum ∙ swap_last laws n _ _ _ in
    part_is laws n j words One _ c.start-miner1.ensures.mask (masks1.next ∙ share1) (masks1.previous ∙ share1) output

pub returns-clause-second : goal.returns-clause-second
returns-clause-second g c =
    let r = g.R.ShareRing.ring in
    let laws = g.R.ShareRing.laws in
    let n = length c.args.u1.now in
    let j = joint_of c.args.u1.now c.args.u2.now c.args.u3.now c.args.words1.now c.args.words2.now c.args.words3.now in
    let words = of_three_has n _ _ _ c.requires.words1 c.requires.words2 c.requires.words3 in
    let masks1 = rw c.unwrap-miner1.ensures at c.got.ensures.ok in
    let masks2 = rw c.unwrap-miner2.ensures at c.got-2.ensures.ok in
    let masks3 = rw c.unwrap-miner3.ensures at c.got-3.ensures.ok in
    let keeps = rw c.unwrap-2.ensures at c.got-6.ensures.ok in
    let sums = rw c.unwrap-opened2.ensures at c.got-7.ensures.ok in
    let share1 = masked r n (j.u One) (j.words One) (j.words Three) _ _ _ _ _ c.start-miner1.ensures.state refl c.start-miner3.ensures.mask masks1 in
    let share2 = masked r n (j.u Two) (j.words Two) (j.words One) _ _ _ _ _ c.start-miner2.ensures.state c.requires.two c.start-miner1.ensures.mask masks2 in
    let share3 = masked r n (j.u Three) (j.words Three) (j.words Two) _ _ _ _ _ c.start-miner3.ensures.state c.requires.three
    c.start-miner2.ensures.mask masks3 in
    let sum = summed r n _ _ _ _ _ _ _ _ share2 (masks1.next ∙ share1) (masks3.previous ∙ share3) (length-reshared r n _ _ _) keeps sums in
    let output = sum ∙ swap_first laws n _ _ _ in
    part_is laws n j words Two _ c.start-miner2.ensures.mask (masks2.next ∙ share2) (masks2.previous ∙ share2) output

pub returns-clause-third : goal.returns-clause-third
returns-clause-third g c =
    let r = g.R.ShareRing.ring in
    let laws = g.R.ShareRing.laws in
    let n = length c.args.u1.now in
    let j = joint_of c.args.u1.now c.args.u2.now c.args.u3.now c.args.words1.now c.args.words2.now c.args.words3.now in
    let words = of_three_has n _ _ _ c.requires.words1 c.requires.words2 c.requires.words3 in
    let masks1 = rw c.unwrap-miner1.ensures at c.got.ensures.ok in
    let masks2 = rw c.unwrap-miner2.ensures at c.got-2.ensures.ok in
    let masks3 = rw c.unwrap-miner3.ensures at c.got-3.ensures.ok in
    let keeps = rw c.unwrap-3.ensures at c.got-8.ensures.ok in
    let sums = rw c.unwrap-opened3.ensures at c.got-9.ensures.ok in
    let share1 = masked r n (j.u One) (j.words One) (j.words Three) _ _ _ _ _ c.start-miner1.ensures.state refl c.start-miner3.ensures.mask masks1 in
    let share2 = masked r n (j.u Two) (j.words Two) (j.words One) _ _ _ _ _ c.start-miner2.ensures.state c.requires.two c.start-miner1.ensures.mask masks2 in
    let share3 = masked r n (j.u Three) (j.words Three) (j.words Two) _ _ _ _ _ c.start-miner3.ensures.state c.requires.three
    c.start-miner2.ensures.mask masks3 in
    let sum = summed r n _ _ _ _ _ _ _ _ share3 (masks2.next ∙ share2) (masks1.previous ∙ share1) (length-reshared r n _ _ _) keeps sums in
    let output = sum ∙ swap_ends laws n _ _ _ in
    part_is laws n j words Three _ c.start-miner3.ensures.mask (masks3.next ∙ share3) (masks3.previous ∙ share3) output
