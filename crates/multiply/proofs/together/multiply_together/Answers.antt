use Rattle.std.proofs.Common.{◌∙◌, [], ◌∷◌, length, refl, ap}
use Rattle.proto_core.specs.declared.party.Number.TheVariants.{One, Two, Three}
use Rattle.proto_core.specs.Resharing.{sum_of_three}
use Rattle.proto_core.specs.Joints.{joint_of_two}
use Rattle.multiply.specs.Multiplying.{product_of}
use Rattle.multiply.specs.MultiplyingLaws.{multiplies}
use Rattle.multiply.proofs.Tails.{Begun, factors-are, share-is}
use Rattle.multiply.proofs.together.multiply_together.Goals as goal

pub returns-clause-part1 : goal.returns-clause-part1
returns-clause-part1 g c =
    let laws = g.R.ShareRing.laws in
    let n = length c.args.first.u.now in
    let j = joint_of_two c.args.first.u.now c.args.second.u.now c.args.third.u.now c.args.first.v.now c.args.second.v.now c.args.third.v.now
    c.args.first.words.now c.args.second.words.now c.args.third.words.now in
    let crosses1 = rw c.unwrap-miner1.ensures at c.got.ensures.ok in
    let begun1 : Begun laws n j One c.start-miner1.result.0 c.unwrap-miner1.result.0 c.start-miner1.result.1 c.start-miner3.result.1
    c.unwrap-miner1.result.1 = record { fits = refl; starts = c.start-miner1.ensures; words = c.start-miner3.ensures.next; crosses = crosses1 } in
    let factors1 = factors-are laws n j One _ _ _ _ _ begun1 in
    let crosses3 = rw c.unwrap-miner3.ensures at c.got-3.ensures.ok in
    let begun3 : Begun laws n j Three c.start-miner3.result.0 c.unwrap-miner3.result.0 c.start-miner3.result.1 c.start-miner2.result.1
    c.unwrap-miner3.result.1 =
    record { fits = c.requires.u3; starts = c.start-miner3.ensures; words = c.start-miner2.ensures.next; crosses = crosses3 } in
    let factors3 = factors-are laws n j Three _ _ _ _ _ begun3 in
    let share1 = share-is laws n j One _ _ _ _ _ begun1 _ _ factors3 (rw c.unwrap-share1.ensures at c.got-4.ensures.ok) in
    record {
      sent = ap (λ m. m ∷ c.unwrap-miner1.result.1 ∷ []) c.start-miner1.ensures.next ∙ ap (λ m. j.words One ∷ m ∷ []) factors1;
      output = share1;
    }

pub returns-clause-part2 : goal.returns-clause-part2
returns-clause-part2 g c =
    let laws = g.R.ShareRing.laws in
    let n = length c.args.first.u.now in
    let j = joint_of_two c.args.first.u.now c.args.second.u.now c.args.third.u.now c.args.first.v.now c.args.second.v.now c.args.third.v.now
    c.args.first.words.now c.args.second.words.now c.args.third.words.now in
    let crosses1 = rw c.unwrap-miner1.ensures at c.got.ensures.ok in
    let begun1 : Begun laws n j One c.start-miner1.result.0 c.unwrap-miner1.result.0 c.start-miner1.result.1 c.start-miner3.result.1
    c.unwrap-miner1.result.1 = record { fits = refl; starts = c.start-miner1.ensures; words = c.start-miner3.ensures.next; crosses = crosses1 } in
    let factors1 = factors-are laws n j One _ _ _ _ _ begun1 in
    let crosses2 = rw c.unwrap-miner2.ensures at c.got-2.ensures.ok in
    let begun2 : Begun laws n j Two c.start-miner2.result.0 c.unwrap-miner2.result.0 c.start-miner2.result.1 c.start-miner1.result.1
    c.unwrap-miner2.result.1 =
    record { fits = c.requires.u2; starts = c.start-miner2.ensures; words = c.start-miner1.ensures.next; crosses = crosses2 } in
    let factors2 = factors-are laws n j Two _ _ _ _ _ begun2 in
    let share2 = share-is laws n j Two _ _ _ _ _ begun2 _ _ factors1 (rw c.unwrap-share2.ensures at c.got-5.ensures.ok) in
    record {
      sent = ap (λ m. m ∷ c.unwrap-miner2.result.1 ∷ []) c.start-miner2.ensures.next ∙ ap (λ m. j.words Two ∷ m ∷ []) factors2;
      output = share2;
    }

pub returns-clause-part3 : goal.returns-clause-part3
returns-clause-part3 g c =
    let laws = g.R.ShareRing.laws in
    let n = length c.args.first.u.now in
    let j = joint_of_two c.args.first.u.now c.args.second.u.now c.args.third.u.now c.args.first.v.now c.args.second.v.now c.args.third.v.now
    c.args.first.words.now c.args.second.words.now c.args.third.words.now in
    let crosses2 = rw c.unwrap-miner2.ensures at c.got-2.ensures.ok in
    let begun2 : Begun laws n j Two c.start-miner2.result.0 c.unwrap-miner2.result.0 c.start-miner2.result.1 c.start-miner1.result.1
    c.unwrap-miner2.result.1 =
    record { fits = c.requires.u2; starts = c.start-miner2.ensures; words = c.start-miner1.ensures.next; crosses = crosses2 } in
    let factors2 = factors-are laws n j Two _ _ _ _ _ begun2 in
    let crosses3 = rw c.unwrap-miner3.ensures at c.got-3.ensures.ok in
    let begun3 : Begun laws n j Three c.start-miner3.result.0 c.unwrap-miner3.result.0 c.start-miner3.result.1 c.start-miner2.result.1
    c.unwrap-miner3.result.1 =
    record { fits = c.requires.u3; starts = c.start-miner3.ensures; words = c.start-miner2.ensures.next; crosses = crosses3 } in
    let factors3 = factors-are laws n j Three _ _ _ _ _ begun3 in
    let share3 = share-is laws n j Three _ _ _ _ _ begun3 _ _ factors2 (rw c.unwrap-share3.ensures at c.got-6.ensures.ok) in
    record {
      sent = ap (λ m. m ∷ c.unwrap-miner3.result.1 ∷ []) c.start-miner3.ensures.next ∙ ap (λ m. j.words Three ∷ m ∷ []) factors3;
      output = share3;
    }

pub returns-clause-value : goal.returns-clause-value
returns-clause-value g c =
    let r = g.R.ShareRing.ring in
    let laws = g.R.ShareRing.laws in
    let n = length c.args.first.u.now in
    let j = joint_of_two c.args.first.u.now c.args.second.u.now c.args.third.u.now c.args.first.v.now c.args.second.v.now c.args.third.v.now
    c.args.first.words.now c.args.second.words.now c.args.third.words.now in
    let crosses1 = rw c.unwrap-miner1.ensures at c.got.ensures.ok in
    let begun1 : Begun laws n j One c.start-miner1.result.0 c.unwrap-miner1.result.0 c.start-miner1.result.1 c.start-miner3.result.1
    c.unwrap-miner1.result.1 = record { fits = refl; starts = c.start-miner1.ensures; words = c.start-miner3.ensures.next; crosses = crosses1 } in
    let factors1 = factors-are laws n j One _ _ _ _ _ begun1 in
    let crosses2 = rw c.unwrap-miner2.ensures at c.got-2.ensures.ok in
    let begun2 : Begun laws n j Two c.start-miner2.result.0 c.unwrap-miner2.result.0 c.start-miner2.result.1 c.start-miner1.result.1
    c.unwrap-miner2.result.1 =
    record { fits = c.requires.u2; starts = c.start-miner2.ensures; words = c.start-miner1.ensures.next; crosses = crosses2 } in
    let factors2 = factors-are laws n j Two _ _ _ _ _ begun2 in
    let crosses3 = rw c.unwrap-miner3.ensures at c.got-3.ensures.ok in
    let begun3 : Begun laws n j Three c.start-miner3.result.0 c.unwrap-miner3.result.0 c.start-miner3.result.1 c.start-miner2.result.1
    c.unwrap-miner3.result.1 =
    record { fits = c.requires.u3; starts = c.start-miner3.ensures; words = c.start-miner2.ensures.next; crosses = crosses3 } in
    let factors3 = factors-are laws n j Three _ _ _ _ _ begun3 in
    let share1 = share-is laws n j One _ _ _ _ _ begun1 _ _ factors3 (rw c.unwrap-share1.ensures at c.got-4.ensures.ok) in
    let share2 = share-is laws n j Two _ _ _ _ _ begun2 _ _ factors1 (rw c.unwrap-share2.ensures at c.got-5.ensures.ok) in
    let share3 = share-is laws n j Three _ _ _ _ _ begun3 _ _ factors2 (rw c.unwrap-share3.ensures at c.got-6.ensures.ok) in
    ap (λ x. sum_of_three r n x c.unwrap-share2.result c.unwrap-share3.result) share1
    ∙ ap (λ x. sum_of_three r n (product_of r n j One) x c.unwrap-share3.result) share2
    ∙ ap (λ x. sum_of_three r n (product_of r n j One) (product_of r n j Two) x) share3 ∙ multiplies laws n j
