use Rattle.std.proofs.Common.{◌≡◌, ◌<◌, ◌≤◌, ◌∙◌, length, sym, rules}
use Rattle.tape_sources.specs.FileTapes.{file_in}
use Rattle.tape_sources.proofs.Filling.{read_once, words_of_same}
use Rattle.tape_sources.proofs.Opened.{bad_length, good_length, no_length}
use Rattle.tape_sources.proofs.opening.read_length.Goals as goal

pub returns-then-size-lt8-clause-reads : goal.returns-then-size-lt8-clause-reads
returns-then-size-lt8-clause-reads g c =
    let short : c.in_ok-size.size < 8 = search rules in
    λ t. no_length c.args.wanted (file_in (g.F.Files.state c.args.files.now) c.args.path.now) c.in_ok-size.size (c.in_ok-size.ensures.ok.exact t) short

pub returns-in-Some-clause-reads : goal.returns-in-Some-clause-reads
returns-in-Some-clause-reads g c =
    let e = c.in_ok-size.ensures in
    let head : 8 ≤ c.in_ok-size.size = search rules in
    let one : length c.read_words.new.into ≡ 1 = search rules in
    let read = read_once e.kept e.cause.later e.still in
    λ t. bad_length c.args.wanted (file_in (g.F.Files.state c.args.files.now) c.args.path.now) c.in_ok-size.size c.in-Some.place c.read_words.new.into (e.ok.exact t)
    head one (words_of_same c.args.path.now 0 c.read_words.new.into read (c.in_ok-read_words.ensures.ok (e.kept.told ∙ t)))
    (sym c.own_length_fault.ensures.fault ∙ c.in-Some.is)

pub returns-clause-reads : goal.returns-clause-reads
returns-clause-reads g c =
    let e = c.in_ok-size.ensures in
    let head : 8 ≤ c.in_ok-size.size = search rules in
    let one : length c.read_words.new.into ≡ 1 = search rules in
    let read = read_once e.kept e.cause.later e.still in
    λ t. good_length c.args.wanted (file_in (g.F.Files.state c.args.files.now) c.args.path.now) c.in_ok-size.size c.read_words.new.into (e.ok.exact t) head one
    (words_of_same c.args.path.now 0 c.read_words.new.into read (c.in_ok-read_words.ensures.ok (e.kept.told ∙ t)))
    c.in_default.ensures.sized
