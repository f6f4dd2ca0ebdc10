use Rattle.std.proofs.Common.{◌<◌, ◌^◌, sym, subst}
use lib.Lanes.{Each1, chunk}
use Rattle.lane_kernel.proofs.Several.{chunk_words, made_words}
use Rattle.lane_kernel.proofs.cross.some_lanes.Goals as goal

pub mul_lanes-requires-clause-a : goal.mul_lanes-requires-clause-a
mul_lanes-requires-clause-a g c = chunk_words c.args.at 8 c.args.u.now c.type_inv.u

pub mul_lanes-requires-clause-b : goal.mul_lanes-requires-clause-b
mul_lanes-requires-clause-b g c = chunk_words c.args.at 8 c.args.v.now c.type_inv.v

pub mul_lanes-requires-2-clause-a : goal.mul_lanes-requires-2-clause-a
mul_lanes-requires-2-clause-a g c = chunk_words c.args.at 8 c.args.u.now c.type_inv.u

pub mul_lanes-requires-2-clause-b : goal.mul_lanes-requires-2-clause-b
mul_lanes-requires-2-clause-b g c = chunk_words c.args.at 8 c.args.vp.now c.type_inv.vp

pub mul_lanes-requires-3-clause-a : goal.mul_lanes-requires-3-clause-a
mul_lanes-requires-3-clause-a g c = chunk_words c.args.at 8 c.args.up.now c.type_inv.up

pub mul_lanes-requires-3-clause-b : goal.mul_lanes-requires-3-clause-b
mul_lanes-requires-3-clause-b g c = chunk_words c.args.at 8 c.args.v.now c.type_inv.v

pub add_lanes-both-requires-clause-a : goal.add_lanes-both-requires-clause-a
add_lanes-both-requires-clause-a g c =
    subst (Each1 (λ y. y < 2 ^ 64)) (sym c.mul_lanes.ensures)
    (made_words g.R.ShareRing.ring.mul g.R.ShareRing.laws.mul_word (chunk c.args.at 8 c.args.u.now) (chunk c.args.at 8 c.args.v.now))

pub add_lanes-requires-clause-a : goal.add_lanes-requires-clause-a
add_lanes-requires-clause-a g c =
    subst (Each1 (λ y. y < 2 ^ 64)) (sym c.add_lanes-both.ensures) (made_words g.R.ShareRing.ring.add g.R.ShareRing.laws.add_word _ _)
