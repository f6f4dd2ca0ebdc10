use Rattle.std.proofs.Common.{◌≡◌, ◌+◌, ◌*◌, ◌∙◌, length, take, drop, Some, None, sym, ap, subst, arith, rules, length-drop}
use Rattle.std.proofs.lemmas.List.{drop-drop}
use Rattle.tape_file.proofs.WordLists.{length-words_at}
use Rattle.kept_disk.specs.Disk.{held}
use Rattle.miner_journal.specs.Heads.{FindsBehind, head_of}
use Rattle.miner_journal.proofs.Holding.{same_more, same_none}
use Rattle.miner_journal.proofs.Gates.{body_breaks, body_there, head_breaks, short_breaks}
use Rattle.miner_journal.proofs.walking.read_record.Goals as goal

pub returns-then-size-from-lt5-clause-found : goal.returns-then-size-from-lt5-clause-found
returns-then-size-from-lt5-clause-found g c = λ told size.
    let seen = (held (g.D.Disk.state c.args.disk.now)).seen in
    let a = length-drop c.args.from seen in
    short_breaks (drop c.args.from seen) (omega (arith, a, size, c.if-size-from-lt5.true))

pub returns-then-size-from-clause-found : goal.returns-then-size-from-clause-found
returns-then-size-from-clause-found g c = λ told size.
    let seen = (held (g.D.Disk.state c.args.disk.now)).seen in
    let a = length-drop c.args.from seen in
    let head = c.read_all.new.into in
    let five : length c.read_all.new.into ≡ 5 = search rules in
    let is : head ≡ take 5 (drop c.args.from seen) = c.in_ok-read_all.ensures.ok told ∙ ap (λ n. take n (drop c.args.from seen)) five in
    let e : head_of c.read_all.new.into ≡ Some (c.in-Some.link, c.in-Some.count) = cc in
    body_breaks (drop c.args.from seen) head c.in-Some.link c.in-Some.count (omega (arith, a, size, c.if-size-from-lt5.false)) is e
    (omega (arith, a, size, c.if-size-from.true))

pub returns-in_ok-read_all-in-Some-clause-found : goal.returns-in_ok-read_all-in-Some-clause-found
returns-in_ok-read_all-in-Some-clause-found g c = λ told size.
    let f = g.D.Disk.state c.args.disk.now in
    let seen = (held f).seen in
    let from = c.args.from in
    let a = length-drop from seen in
    let head = c.read_all.new.into in
    let body = c.read_all-in-Some.new.into in
    let count = c.in-Some.count in
    let five : length c.read_all.new.into ≡ 5 = search rules in
    let long : length c.read_all-in-Some.new.into ≡ 8 * c.in-Some.count = search rules in
    let same = c.in_ok-read_all.ensures.same.same in
    let is : head ≡ take 5 (drop from seen) = c.in_ok-read_all.ensures.ok told ∙ ap (λ n. take n (drop from seen)) five in
    let e : head_of c.read_all.new.into ≡ Some (c.in-Some.link, c.in-Some.count) = cc in
    let at : body ≡ take (8 * count) (drop 5 (drop from seen)) =
    c.in_ok-read_all-in-Some.ensures.ok (same.only.told ∙ told)
    ∙ ap (λ n. take n (drop (from + 5) (held (g.D.Disk.state c.read_all.new.disk)).seen)) long
    ∙ ap (λ h. take (8 * count) (drop (from + 5) h.seen)) same.file
    ∙ ap (take (8 * count)) (sym (drop-drop 5 from seen)) in
    subst (λ w. FindsBehind (drop from seen) (Some (c.in-Some.link, w))) (sym c.read_words.ensures)
    (body_there (drop from seen) head body c.in-Some.link count (omega (arith, a, size, c.if-size-from-lt5.false)) is e
    (omega (arith, a, size, c.if-size-from.false)) at)

pub returns-in_ok-read_all-in-Some-clause-fits : goal.returns-in_ok-read_all-in-Some-clause-fits
returns-in_ok-read_all-in-Some-clause-fits g c =
    let l = length-words_at 0 c.in-Some.count c.read_all-in-Some.new.into in
    let m = ap length c.read_words.ensures in
    omega (arith, l, m, c.if-size-from.false)

pub returns-in-None-clause-found : goal.returns-in-None-clause-found
returns-in-None-clause-found g c = λ told size.
    let seen = (held (g.D.Disk.state c.args.disk.now)).seen in
    let a = length-drop c.args.from seen in
    let head = c.read_all.new.into in
    let five : length c.read_all.new.into ≡ 5 = search rules in
    let is : head ≡ take 5 (drop c.args.from seen) = c.in_ok-read_all.ensures.ok told ∙ ap (λ n. take n (drop c.args.from seen)) five in
    let e : head_of c.read_all.new.into ≡ None = cc in
    head_breaks (drop c.args.from seen) head (omega (arith, a, size, c.if-size-from-lt5.false)) is e

pub returns-then-size-from-lt5-clause-same : goal.returns-then-size-from-lt5-clause-same
returns-then-size-from-lt5-clause-same g c = same_none (g.D.Disk.state c.args.disk.now)

pub returns-in_err-read_all-in-Some-clause-same : goal.returns-in_err-read_all-in-Some-clause-same
returns-in_err-read_all-in-Some-clause-same g c = same_more c.in_ok-read_all.ensures.same c.in_err-read_all-in-Some.ensures.same

pub returns-in_ok-read_all-in-Some-clause-same : goal.returns-in_ok-read_all-in-Some-clause-same
returns-in_ok-read_all-in-Some-clause-same g c = same_more c.in_ok-read_all.ensures.same c.in_ok-read_all-in-Some.ensures.same
