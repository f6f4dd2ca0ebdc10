use Rattle.std.proofs.Common.{◌<◌, ◌≤◌, min, get_or, length, refl, arith}
use Rattle.tape_twin.proofs.Differences.{lists-differ, one-begins, past-shorter}
use Rattle.tape_twin.proofs.alike.first_difference.Goals as goal

pub returns-then-first-k-clause-some : goal.returns-then-first-k-clause-some
returns-then-first-k-clause-some c =
    let first = c.args.first.now in
    let second = c.args.second.now in
    let k = c.loop-k.k in
    let below : k < length first = omega arith in
    let other : k < length second = omega arith in
    lists-differ 0 first second k (get_or first k 0) (get_or second k 0) below other refl refl c.if-first-k.true c.loop-k.invariant

pub returns-clause-none : goal.returns-clause-none
returns-clause-none c =
    let first = c.args.first.now in
    let second = c.args.second.now in
    let past : min (length first) (length second) ≤ c.loop-k.k = omega arith in
    one-begins first second c.loop-k.k c.loop-k.invariant (past-shorter (length first) (length second) c.loop-k.k past)
