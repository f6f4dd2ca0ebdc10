use Rattle.std.proofs.Common.{◌≡◌, ◌+◌, ◌∙◌, length, drop, Some, ap, sym, subst, arith, rules, true}
use Rattle.kept_disk.specs.Disk.{held}
use Rattle.miner_journal.specs.Format.{at_gate, behind_record, read_record}
use Rattle.miner_journal.specs.Heads.{FindsBehind, kept_of}
use Rattle.miner_journal.proofs.Walks.{record_length}
use Rattle.miner_journal.proofs.journal.Journal.next.Goals as goal

pub returns-in-Some-clause-found : goal.returns-in-Some-clause-found
returns-in-Some-clause-found g c = λ told.
    let place = c.args.self.now.place in
    let kept = c.in_ok-size.ensures.kept in
    let same = c.in_ok-is_open.ensures.same.same in
    let long = record_length (kept_of (c.in-Some.link, c.in-Some.msg)) in
    let words : length c.words.result.now ≡ length c.in-Some.msg = search rules in
    let goes : c.in_ok-is_open.field-0 ≡ true = cc in
    let size = ap (λ f. length f.seen) kept.file ∙ sym (c.in_ok-size.ensures.size told) in
    let at =
    subst (λ f. at_gate (drop place f.seen) ≡ behind_record (read_record (drop (place + 1) f.seen))) kept.file
    ((c.in_ok-is_open.ensures.goes goes).1 (kept.only.told ∙ told) size) in
    let is : c.in_ok-link.field-0 ≡ Some (c.in-Some.link, c.in-Some.msg) = cc in
    let behind =
    subst (λ f. FindsBehind (drop (place + 1) f.seen) (Some (c.in-Some.link, c.in-Some.msg))) (same.file ∙ kept.file)
    (subst (λ o. FindsBehind (drop (place + 1) (held (g.D.Disk.state c.is_open.new.disk)).seen) o) is
    (c.in_ok-link.ensures.found (same.only.told ∙ kept.only.told ∙ told) (ap (λ f. length f.seen) same.file ∙ size))) in
    ((behind.0, at ∙ behind.1), omega (arith, long, words))
