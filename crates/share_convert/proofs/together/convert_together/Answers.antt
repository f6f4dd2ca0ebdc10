use Rattle.std.proofs.Common.{◌∙◌, [], ◌∷◌, length, refl, ap}
use Rattle.proto_core.specs.Rings.{add_ring}
use Rattle.proto_core.specs.declared.party.Number.TheVariants.{One, Two}
use Rattle.proto_core.specs.Resharing.{sum_of_three}
use Rattle.proto_core.specs.Joints.{joint_of}
use Rattle.share_convert.specs.Converting.{converted}
use Rattle.share_convert.specs.ConvertingLaws.{converts}
use Rattle.share_convert.proofs.BitFields.{sent-has12, sent-has13, sent-has23, sent-has32}
use Rattle.share_convert.proofs.Tails.{Begun, on12, on13, on23, on32, len2, len3, share1-is, share2-is, share3-is}
use Rattle.share_convert.proofs.together.convert_together.Goals as goal

pub unwrap-miner2-requires : goal.unwrap-miner2-requires
unwrap-miner2-requires c =
    let n = length c.args.first.u.now in
    c.got12.ensures.taken.1
    (sent-has12 n _ _ c.args.first.words.now c.start-miner1.ensures.second (ap (λ h. length h.mask) c.start-miner2.ensures ∙ c.requires.words2))

pub unwrap-miner3-requires : goal.unwrap-miner3-requires
unwrap-miner3-requires c =
    let n = length c.args.first.u.now in
    c.got13.ensures.taken.1
    (sent-has13 n _ _ c.args.first.u.now c.args.first.words.now c.start-miner1.ensures.third
    (ap (λ h. length h.mask) c.start-miner3.ensures.state ∙ c.requires.words3))

pub unwrap-share2-requires : goal.unwrap-share2-requires
unwrap-share2-requires c =
    let n = length c.args.first.u.now in
    let j = joint_of c.args.first.u.now c.args.second.u.now c.args.third.u.now c.args.first.words.now c.args.second.words.now c.args.third.words.now in
    let reply2 = rw c.unwrap-miner2.ensures at c.got12.ensures.ok in
    let reply3 = rw c.unwrap-miner3.ensures at c.got13.ensures.ok in
    let b : Begun n j c.start-miner1.result.0 c.start-miner2.result c.start-miner3.result.0 c.unwrap-miner2.result.0 c.unwrap-miner3.result.0
    c.start-miner1.result.1 c.start-miner1.result.2 c.start-miner3.result.1 c.unwrap-miner2.result.1 c.unwrap-miner3.result.1 =
    record {
      size1 = refl;
      size2 = c.requires.words2;
      size3 = c.requires.words3;
      first = c.start-miner1.ensures;
      second =
          c.start-miner2.ensures;
      third = c.start-miner3.ensures.state;
      mask = c.start-miner3.ensures.mask;
      reply2 = reply2;
      reply3 = reply3;
    } in
    c.got32.ensures.taken.1 (sent-has32 n _ _ j (on32 n j _ _ _ _ _ _ _ _ _ _ b) (reply2.len ∙ len2 n j _ _ _ _ _ _ _ _ _ _ b))

pub unwrap-share3-requires : goal.unwrap-share3-requires
unwrap-share3-requires c =
    let n = length c.args.first.u.now in
    let j = joint_of c.args.first.u.now c.args.second.u.now c.args.third.u.now c.args.first.words.now c.args.second.words.now c.args.third.words.now in
    let reply2 = rw c.unwrap-miner2.ensures at c.got12.ensures.ok in
    let reply3 = rw c.unwrap-miner3.ensures at c.got13.ensures.ok in
    let b : Begun n j c.start-miner1.result.0 c.start-miner2.result c.start-miner3.result.0 c.unwrap-miner2.result.0 c.unwrap-miner3.result.0
    c.start-miner1.result.1 c.start-miner1.result.2 c.start-miner3.result.1 c.unwrap-miner2.result.1 c.unwrap-miner3.result.1 =
    record {
      size1 = refl;
      size2 = c.requires.words2;
      size3 = c.requires.words3;
      first = c.start-miner1.ensures;
      second =
          c.start-miner2.ensures;
      third = c.start-miner3.ensures.state;
      mask = c.start-miner3.ensures.mask;
      reply2 = reply2;
      reply3 = reply3;
    } in
    c.got23.ensures.taken.1 (sent-has23 n _ _ j (on23 n j _ _ _ _ _ _ _ _ _ _ b) c.requires.words2 (ap length reply3.mask ∙ len3 n j _ _ _ _ _ _ _ _ _ _ b))

pub returns-clause-parts : goal.returns-clause-parts
returns-clause-parts c =
    let n = length c.args.first.u.now in
    let j = joint_of c.args.first.u.now c.args.second.u.now c.args.third.u.now c.args.first.words.now c.args.second.words.now c.args.third.words.now in
    let reply2 = rw c.unwrap-miner2.ensures at c.got12.ensures.ok in
    let reply3 = rw c.unwrap-miner3.ensures at c.got13.ensures.ok in
    let b : Begun n j c.start-miner1.result.0 c.start-miner2.result c.start-miner3.result.0 c.unwrap-miner2.result.0 c.unwrap-miner3.result.0
    c.start-miner1.result.1 c.start-miner1.result.2 c.start-miner3.result.1 c.unwrap-miner2.result.1 c.unwrap-miner3.result.1 =
    record {
      size1 = refl;
      size2 = c.requires.words2;
      size3 = c.requires.words3;
      first = c.start-miner1.ensures;
      second =
          c.start-miner2.ensures;
      third = c.start-miner3.ensures.state;
      mask = c.start-miner3.ensures.mask;
      reply2 = reply2;
      reply3 = reply3;
    } in
    record {
      on12 = ap (λ m. m ∷ []) (on12 n j _ _ _ _ _ _ _ _ _ _ b);
      on13 = ap (λ m. m ∷ []) (on13 n j _ _ _ _ _ _ _ _ _ _ b);
      on23 = ap (λ m. m ∷ []) (on23 n j _ _ _ _ _ _ _ _ _ _ b);
      on31 = ap (λ m. m ∷ []) c.start-miner3.ensures.mask;
      on32 = ap (λ m. m ∷ []) (on32 n j _ _ _ _ _ _ _ _ _ _ b);
      first = share1-is n j _ _ _ _ _ _ _ _ _ _ b _ (rw c.unwrap-share1.ensures at c.got31.ensures.ok);
      second = share2-is n j _ _ _ _ _ _ _ _ _ _ b _ (rw c.unwrap-share2.ensures at c.got32.ensures.ok);
      third = share3-is n j _ _ _ _ _ _ _ _ _ _ b _ (rw c.unwrap-share3.ensures at c.got23.ensures.ok);
    }

pub returns-clause-value : goal.returns-clause-value
returns-clause-value c =
    let n = length c.args.first.u.now in
    let j = joint_of c.args.first.u.now c.args.second.u.now c.args.third.u.now c.args.first.words.now c.args.second.words.now c.args.third.words.now in
    let reply2 = rw c.unwrap-miner2.ensures at c.got12.ensures.ok in
    let reply3 = rw c.unwrap-miner3.ensures at c.got13.ensures.ok in
    let b : Begun n j c.start-miner1.result.0 c.start-miner2.result c.start-miner3.result.0 c.unwrap-miner2.result.0 c.unwrap-miner3.result.0
    c.start-miner1.result.1 c.start-miner1.result.2 c.start-miner3.result.1 c.unwrap-miner2.result.1 c.unwrap-miner3.result.1 =
    record {
      size1 = refl;
      size2 = c.requires.words2;
      size3 = c.requires.words3;
      first = c.start-miner1.ensures;
      second =
          c.start-miner2.ensures;
      third = c.start-miner3.ensures.state;
      mask = c.start-miner3.ensures.mask;
      reply2 = reply2;
      reply3 = reply3;
    } in
    let first = share1-is n j _ _ _ _ _ _ _ _ _ _ b _ (rw c.unwrap-share1.ensures at c.got31.ensures.ok) in
    let second = share2-is n j _ _ _ _ _ _ _ _ _ _ b _ (rw c.unwrap-share2.ensures at c.got32.ensures.ok) in
    let third = share3-is n j _ _ _ _ _ _ _ _ _ _ b _ (rw c.unwrap-share3.ensures at c.got23.ensures.ok) in
    ap (λ x. sum_of_three add_ring n x c.unwrap-share2.result c.unwrap-share3.result) first
    ∙ ap (λ x. sum_of_three add_ring n (converted n j One) x c.unwrap-share3.result) second
    ∙ ap (λ x. sum_of_three add_ring n (converted n j One) (converted n j Two) x) third ∙ converts n j
