use Rattle.std.proofs.Common.{◌≡◌, ◌∙◌, Some, true, false, inr, refl, rules}
use Rattle.miner_journal.specs.Begins.{first_other}
use Rattle.miner_journal.proofs.Holding.{at_more}
use Rattle.miner_journal.proofs.Looks.{holds_still, only_written}
use Rattle.miner_journal.proofs.Opened.{opens_anew, since_anew, waits_held}
use Rattle.miner_journal.proofs.Openings.{from_once, of_others, opened_begun, was_read}
use Rattle.miner_journal.proofs.opening.open.Goals as goal

pub returns-in_err-found-clause-since : goal.returns-in_err-found-clause-since
returns-in_err-found-clause-since g c = λ told.
    let state = g.D.Disk.state in
    let path = c.args.path.now in
    from_once c.args.sums.now ((state c.args.disk.now).files path) ((state c.look.new.disk).files path) (c.in_err-found.ensures.once told)

-- ---- no journal was begun

pub returns-in_err-begin_anew-clause-since : goal.returns-in_err-begin_anew-clause-since
returns-in_err-begin_anew-clause-since g c = λ told.
    let a = g.D.Disk.state c.args.disk.now in
    let m = g.D.Disk.state c.look.new.disk in
    let b = g.D.Disk.state c.begin_anew.new.disk in
    let path = c.args.path.now in
    let sums = c.args.sums.now in
    let h = c.in_ok-found.ensures in
    let found = c.in_ok-found.found in
    let k = c.in_err-begin_anew.ensures in
    let no : c.in_ok-found.found.begun ≡ false = cc in
    inr (since_anew a m b path sums h.holds (h.synced told) found (h.found told) no k.only
    (k.each (h.only.told ∙ told) (waits_held a m b path sums h.holds (h.synced told) found (h.found told) no k.only)))

pub returns-in_err-begin_anew-clause-only : goal.returns-in_err-begin_anew-clause-only
returns-in_err-begin_anew-clause-only g c =
    let m = g.D.Disk.state c.look.new.disk in
    let b = g.D.Disk.state c.begin_anew.new.disk in
    let h = c.in_ok-found.ensures in
    at_more c.args.path.now h.only (only_written m b c.args.path.now h.holds c.in_err-begin_anew.ensures.only)

pub returns-then-not-found-clause-since : goal.returns-then-not-found-clause-since
returns-then-not-found-clause-since g c = λ told.
    let a = g.D.Disk.state c.args.disk.now in
    let m = g.D.Disk.state c.look.new.disk in
    let b = g.D.Disk.state c.begin_anew.new.disk in
    let path = c.args.path.now in
    let sums = c.args.sums.now in
    let h = c.in_ok-found.ensures in
    let found = c.in_ok-found.found in
    let k = c.in_ok-begin_anew.ensures in
    let no : c.in_ok-found.found.begun ≡ false = cc in
    inr (since_anew a m b path sums h.holds (h.synced told) found (h.found told) no k.only
    (k.each (h.only.told ∙ told) (waits_held a m b path sums h.holds (h.synced told) found (h.found told) no k.only)))

pub returns-then-not-found-clause-ok : goal.returns-then-not-found-clause-ok
returns-then-not-found-clause-ok g c = λ told.
    let a = g.D.Disk.state c.args.disk.now in
    let m = g.D.Disk.state c.look.new.disk in
    let b = g.D.Disk.state c.begin_anew.new.disk in
    let path = c.args.path.now in
    let sums = c.args.sums.now in
    let h = c.in_ok-found.ensures in
    let found = c.in_ok-found.found in
    let k = c.in_ok-begin_anew.ensures in
    let no : c.in_ok-found.found.begun ≡ false = cc in
    opens_anew a m b path sums h.holds (h.synced told) found (h.found told) no k.only
    (k.ok (h.only.told ∙ told) (waits_held a m b path sums h.holds (h.synced told) found (h.found told) no k.only))

pub returns-then-not-found-clause-holds : goal.returns-then-not-found-clause-holds
returns-then-not-found-clause-holds g c =
    let m = g.D.Disk.state c.look.new.disk in
    let b = g.D.Disk.state c.begin_anew.new.disk in
    holds_still m b c.args.path.now c.in_ok-found.ensures.holds c.in_ok-begin_anew.ensures.only

pub returns-then-not-found-clause-only : goal.returns-then-not-found-clause-only
returns-then-not-found-clause-only g c =
    let m = g.D.Disk.state c.look.new.disk in
    let b = g.D.Disk.state c.begin_anew.new.disk in
    let h = c.in_ok-found.ensures in
    at_more c.args.path.now h.only (only_written m b c.args.path.now h.holds c.in_ok-begin_anew.ensures.only)

-- ---- one was begun

pub returns-in-Some-clause-since : goal.returns-in-Some-clause-since
returns-in-Some-clause-since g c = λ told.
    let path = c.args.path.now in
    let f0 = (g.D.Disk.state c.args.disk.now).files path in
    let f1 = (g.D.Disk.state c.look.new.disk).files path in
    inr (was_read c.args.sums.now f0 f1 (c.in_ok-found.ensures.synced told) f1 refl)

pub returns-in-Some-clause-err : goal.returns-in-Some-clause-err
returns-in-Some-clause-err g c = λ told.
    let path = c.args.path.now in
    let f0 = (g.D.Disk.state c.args.disk.now).files path in
    let f1 = (g.D.Disk.state c.look.new.disk).files path in
    let h = c.in_ok-found.ensures in
    let yes : c.in_ok-found.found.begun ≡ true = cc in
    let other : first_other c.args.sums.now c.in_ok-found.found.sums ≡ Some c.in-Some.file = cc in
    of_others c.args.sums.now f0 f1 (h.synced told) c.in_ok-found.found (h.found told) c.in-Some.file yes other

pub returns-in-None-clause-since : goal.returns-in-None-clause-since
returns-in-None-clause-since g c = λ told.
    let path = c.args.path.now in
    let f0 = (g.D.Disk.state c.args.disk.now).files path in
    let f1 = (g.D.Disk.state c.look.new.disk).files path in
    inr (was_read c.args.sums.now f0 f1 (c.in_ok-found.ensures.synced told) f1 refl)

pub returns-in-None-clause-ok : goal.returns-in-None-clause-ok
returns-in-None-clause-ok g c = λ told.
    let path = c.args.path.now in
    let f0 = (g.D.Disk.state c.args.disk.now).files path in
    let f1 = (g.D.Disk.state c.look.new.disk).files path in
    let h = c.in_ok-found.ensures in
    let yes : c.in_ok-found.found.begun ≡ true = cc in
    let same : c.args.sums.now ≡ c.in_ok-found.found.sums = search rules in
    opened_begun c.args.sums.now f0 f1 (h.synced told) c.in_ok-found.found (h.found told) yes same
