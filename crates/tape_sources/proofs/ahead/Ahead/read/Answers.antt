use Rattle.std.proofs.Common.{◌≡◌, length, ap, sym, ◌∙◌, subst, rules}
use borrow.Rule.Slice.PartMut.{post_of}
use Rattle.tape_sources.specs.FileTapes.{IsAhead, file_in}
use Rattle.tape_sources.proofs.ReadAhead.{range_read}
use Rattle.tape_sources.proofs.ahead.Ahead.read.Goals as goal

pub returns-clause-len : goal.returns-clause-len
returns-clause-len g c =
    let long : length c.fill.new.into ≡ c.args.count = search rules in
    ap length (range_read c.fill.new.into (post_of 0 c.args.count c.self.inside.bytes) c.args.count long) ∙ long

pub returns-clause-ok : goal.returns-clause-ok
returns-clause-ok g c = λ t.
    let long : length c.fill.new.into ≡ c.args.count = search rules in
    let there = range_read c.fill.new.into (post_of 0 c.args.count c.self.inside.bytes) c.args.count long in
    subst (IsAhead (file_in (g.F.Files.state c.args.files.now) c.args.path.now) c.args.from) (sym there) (c.in_ok-fill.ensures.ok t)
