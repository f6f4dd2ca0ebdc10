use Rattle.std.proofs.Common.{◌≡◌, sym}
use Rattle.std.specs.Bool.{Decides}
use Rattle.std.specs.Cmp.{unsigned_Decides}
use Rattle.std.proofs.lemmas.Slice.Eq.{slice_eq-Decides}
use Rattle.audit_steps.proofs.GotLines.{next_none, next_some, tests_same}
use Rattle.audit_steps.proofs.messages.is_next.Goals as goal

pub returns-in-Some : goal.returns-in-Some
returns-in-Some c =
    let told : Decides c.eq.result (c.in-Some.message.now ≡ c.args.words.now) = slice_eq-Decides unsigned_Decides _ _ c.eq.result c.eq.ensures in
    next_some c.args.messages.now c.args.place c.in-Some.message.now c.args.words.now c.eq.result (sym c.in-Some.ensures.found)
    (tests_same c.eq.result c.in-Some.message.now c.args.words.now told)

pub returns-in-None : goal.returns-in-None
returns-in-None c = next_none c.args.messages.now c.args.place c.args.words.now (sym c.in-None.ensures.found)
