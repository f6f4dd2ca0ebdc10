use Rattle.std.proofs.Common.{◌≡◌, ◌*◌, ◌<◌, ◌^◌, ℕ, get_or, length, rules}
use Rattle.tape_sources.specs.FileTapes.{file_in}
use Rattle.tape_sources.proofs.ReadAhead.{ahead_rest, words_given}
use Rattle.tape_sources.proofs.ahead.Ahead.take.Goals as goal

pub returns-clause-ok : goal.returns-clause-ok
returns-clause-ok g c = λ t.
    let long : length c.give.new.into ≡ length c.args.into.now = search rules in
    let fits : (k : ℕ) → get_or c.give.new.into k 0 < 2 ^ 64 = λ k. (c.type_inv.into k).fits in
    words_given (file_in (g.F.Files.state c.args.files.now) c.args.path.now) c.args.from (length c.args.into.now) c.make_ready.new.self c.give.new.into
    (c.in_ok-make_ready.ensures.ok t) c.in_ok-make_ready.ensures.there long c.give.ensures.words fits

pub returns-clause-ahead : goal.returns-clause-ahead
returns-clause-ahead g c = λ t.
    let long : length c.give.new.into ≡ length c.args.into.now = search rules in
    let rest = ahead_rest (file_in (g.F.Files.state c.args.files.now) c.args.path.now) c.args.from (8 * length c.args.into.now) c.make_ready.new.self
    (c.in_ok-make_ready.ensures.ok t) c.in_ok-make_ready.ensures.there in
    rw (c.give.ensures.rest, long) rest
