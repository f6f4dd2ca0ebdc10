use Rattle.std.proofs.Common.{rules, ◌≡◌, ◌+◌, length, [], sym, ◌∙◌, ap, subst, Err, arith}
use Rattle.std.proofs.lemmas.Result.{err_from_is_err_and}
use Rattle.miner_core.specs.Drawing.{left_for, DrewOn, IsTooShort}
use Rattle.miner_core.specs.Engines.{StandsAlways}
use Rattle.miner_core.proofs.Draws.{drew_start, drew_advanced, drew_supplied, runs_on}
use Rattle.miner_core.proofs.Sources.{draws_none, draws_on, draws_on_err}
use Rattle.miner_core.proofs.engine.Engine.run_on.Goals as goal

pub loop-standing-init : goal.loop-standing-init
loop-standing-init g c = drew_start g.P.Party.me c.args.self.now (g.T.TapeSource.state c.args.tapes.now) c.requires.sound

pub loop-standing-preserved : goal.loop-standing-preserved
loop-standing-preserved g c =
    let i = g.P.Party.me in
    let a = g.T.TapeSource.state c.args.tapes.now in
    let b = g.T.TapeSource.state c.loop-standing.tapes in
    let t = g.T.TapeSource.state c.draw.new.tapes in
    let h = c.in_ok-standing.ensures in
    let d = drew_advanced i c.args.self.now c.loop-standing.self c.advance.new.self a b c.loop-standing.invariant h.same h.told h.sound h.kept in
    let more = c.in_ok-draw.ensures.supplied in
    subst (λ e. DrewOn i c.args.self.now e a t) (sym more.supplied)
    (drew_supplied i c.args.self.now c.advance.new.self more.words a b t d more.drew c.in_ok-draw.ensures.draws.still)

pub loop-standing-smaller : goal.loop-standing-smaller
loop-standing-smaller g c =
    let i = g.P.Party.me in
    let b = g.T.TapeSource.state c.loop-standing.tapes in
    let t = g.T.TapeSource.state c.draw.new.tapes in
    let more = c.in_ok-draw.ensures.supplied in
    let counted = more.counted in
    let fewer : left_for i b ≡ length more.words + left_for i t = more.drew.fewer in
    let some = ((subst (λ s. StandsAlways i s c.advance.new.self) c.in-Some.ensures.some.0 c.in_ok-standing.ensures.stands).node []).some in
    omega (arith, fewer, counted, some)

pub returns-in_err-standing-clause-draws : goal.returns-in_err-standing-clause-draws
returns-in_err-standing-clause-draws g c =
    let i = g.P.Party.me in
    let a = g.T.TapeSource.state c.args.tapes.now in
    let b = g.T.TapeSource.state c.loop-standing.tapes in
    let h = c.loop-standing.invariant in
    let p = err_from_is_err_and c.from_residual.result c.from_residual.ensures.1 in
    draws_on i a b b (record { taken = h.taken; drew = h.drew }) h.still c.from_residual.result
    (draws_none i b c.from_residual.result (p.1 ∙ ap Err p.2))

pub returns-in_err-draw-clause-draws : goal.returns-in_err-draw-clause-draws
returns-in_err-draw-clause-draws g c =
    let i = g.P.Party.me in
    let a = g.T.TapeSource.state c.args.tapes.now in
    let b = g.T.TapeSource.state c.loop-standing.tapes in
    let t = g.T.TapeSource.state c.draw.new.tapes in
    let h = c.loop-standing.invariant in
    let p = err_from_is_err_and c.from_residual-in_err-draw.result c.from_residual-in_err-draw.ensures.1 in
    rw (p.1, p.2) (draws_on_err i a b t (record { taken = h.taken; drew = h.drew }) h.still c.in_err-draw.field-0.0 c.in_err-draw.ensures.draws)

pub returns-in_default-clause-runs : goal.returns-in_default-clause-runs
returns-in_default-clause-runs g c =
    let i = g.P.Party.me in
    let a = g.T.TapeSource.state c.args.tapes.now in
    let b = g.T.TapeSource.state c.loop-standing.tapes in
    let h = c.in_ok-standing.ensures in
    let d = drew_advanced i c.args.self.now c.loop-standing.self c.advance.new.self a b c.loop-standing.invariant h.same h.told h.sound h.kept in
    let short : IsTooShort c.in_ok-standing.standing c.words_left-left.result = search rules in
    runs_on i c.args.self.now c.advance.new.self c.in_ok-standing.standing c.words_left-left.result a b d h.stands c.words_left-left.ensures short
