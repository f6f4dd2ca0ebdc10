use Rattle.std.proofs.Common.{ℕ, List, length, refl, ap, ◌∙◌}
use Rattle.proto_core.specs.Parties.{to_next}
use Rattle.proto_core.specs.Strand.{run}
use Rattle.proto_core.specs.Net.{mail_of}
use Rattle.reshare.specs.Resharing.{reshare_sent}
use Rattle.reshare.specs.Steps.{left_sent}
use Rattle.block_steps.specs.Outcomes.{outcome}
use Rattle.block_steps.proofs.Turns.{outcome-sent_next}
use Rattle.block_steps.proofs.resharing.begin.Goals as goal

pub returns-clause-same : goal.returns-clause-same
returns-clause-same g c =
    let i = g.P.Party.me in
    let r = g.R.ShareRing.ring in
    let l = c.args.links.now in
    let u = c.args.u.now in
    let w = c.args.words.now in
    let x = mail_of i l.from_previous.1 l.from_next.1 in
    let n = c.push_words.new.self in
    ap (λ (s : List ℕ × List ℕ). outcome i n l.to_previous l.opened.items (run (left_sent r i s) x)) c.in_ok-state.ensures
    ∙ outcome-sent_next i l.to_next n l.to_previous l.opened.items w (to_next i) (reshare_sent r (length u) i u w) x refl c.in_ok-push_words.ensures.ok
