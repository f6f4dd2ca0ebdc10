use Rattle.std.proofs.Common.{◌*◌, ◌≤◌, length, drop, ap, sym, subst, ◌∙◌}
use Rattle.std.specs.Prelude.{slice_range}
use Rattle.tape_sources.proofs.ReadAhead.{range_rest, within_range}
use Rattle.tape_sources.proofs.ahead.Ahead.give.Goals as goal

pub returns-clause-rest : goal.returns-clause-rest
returns-clause-rest c =
    let s = c.self.inside in
    let n = 8 * length c.args.into.now in
    let there : n ≤ length (slice_range s.bytes s.from s.to) = subst (λ l. n ≤ length l) (sym c.self.view_is) c.requires in
    range_rest s.bytes s.from s.to n (within_range s.bytes s.from s.to n there c.self.invariant.0) ∙ ap (drop n) c.self.view_is
