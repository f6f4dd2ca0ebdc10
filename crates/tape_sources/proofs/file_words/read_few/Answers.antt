use Rattle.std.proofs.Common.{◌≡◌, ◌*◌, ◌<◌, ◌^◌, ℕ, get_or, length, rules}
use Rattle.tape_sources.specs.FileTapes.{file_in}
use Rattle.tape_sources.proofs.Filling.{words_filled}
use Rattle.tape_sources.proofs.file_words.read_few.Goals as goal

pub returns-clause-ok : goal.returns-clause-ok
returns-clause-ok g c =
    let size : length c.fill.new.into ≡ 8 * length c.args.into.now = search rules in
    let long : length c.read_u64_into.new.dst ≡ length c.args.into.now = search rules in
    let fits : (k : ℕ) → get_or c.read_u64_into.new.dst k 0 < 2 ^ 64 = λ k. (c.type_inv.into k).fits in
    λ t. words_filled (file_in (g.F.Files.state c.args.files.now) c.args.path.now) c.args.from (length c.args.into.now) c.fill.new.into
    c.read_u64_into.new.dst (c.in_ok-fill.ensures.ok t) size long c.read_u64_into.ensures fits
