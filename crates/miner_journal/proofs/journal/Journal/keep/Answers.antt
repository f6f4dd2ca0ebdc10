use Rattle.std.proofs.Common.{◌≡◌, ◌+◌, ◌*◌, ◌++◌, ◌∷◌, [], length, subst, arith, rules}
use Rattle.kept_disk.specs.Disk.{held}
use Rattle.kept_frames.specs.Kept.{Kept}
use Rattle.miner_journal.specs.Format.{IsSettled, record_bytes}
use Rattle.miner_journal.proofs.Courses.{nothing_came}
use Rattle.miner_journal.proofs.Walks.{record_length}
use Rattle.miner_journal.proofs.journal.Journal.keep.Goals as goal

pub returns-in_err-body-clause-each : goal.returns-in_err-body-clause-each
returns-in_err-body-clause-each g c = λ told good sums rs s.
    nothing_came sums rs (held (g.D.Disk.state c.args.disk.now)) (record { link = c.args.link; words = c.args.msg.now }) c.args.self.now.place s

pub returns-clause-each : goal.returns-clause-each
returns-clause-each g c = λ told good sums rs s.
    nothing_came sums rs (held (g.D.Disk.state c.args.disk.now)) (record { link = c.args.link; words = c.args.msg.now }) c.args.self.now.place s

pub returns-in-Some-clause-ok : goal.returns-in-Some-clause-ok
returns-in-Some-clause-ok g c = λ told good sums rs s.
    let kept : Kept = record { link = c.args.link; words = c.args.msg.now } in
    let long = record_length (record { link = c.args.link; words = c.args.msg.now }) in
    let words : length c.words.result.now ≡ length c.args.msg.now = search rules in
    let next : c.in-Some.next ≡ c.args.self.now.place + (6 + 8 * length c.words.result.now) = search rules in
    let at : c.args.self.now.place + 1 + length (record_bytes kept) ≡ c.in-Some.next = omega (arith, long, words, next) in
    subst (λ p. IsSettled sums (rs ++ kept ∷ []) (held (g.D.Disk.state c.keep_body.new.disk)) p) at
    (c.in_ok-keep_body-in-Some.ensures.ok told sums rs kept good (search rules) s)
