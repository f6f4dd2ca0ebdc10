use Rattle.std.proofs.Common.{rules, ◌≡◌, refl, sym, ◌∙◌, subst}
use Rattle.std.specs.Prelude.{None, Some, Err}
use Rattle.proto_core.specs.Standing.{AtItsEnd}
use Rattle.miner_core.specs.declared.answer.MinerErr.TheVariants as error
use Rattle.miner_core.specs.declared.kept.Kept.TheVariants.{All}
use Rattle.miner_core.specs.Miners.{MinerSeen, MinerState, held, IsOf, HasCome, ForEachStory}
use Rattle.miner_core.specs.Story.{stands_at}
use Rattle.miner_core.specs.Streams.{Answers}
use Rattle.miner_core.proofs.Miners.{all_answers, each_story, goes_on, has_come, lost_now, not_moved, seen_in}
use Rattle.miner_core.proofs.Streaming.{IsNotAwaited}
use Rattle.miner_core.proofs.miner.Miner.deliver_words.Goals as goal

pub deliver-requires-clause-sound : goal.deliver-requires-clause-sound
deliver-requires-clause-sound g c =
    let known = c.self.invariant in
    let none : c.self.inside.lost ≡ None = search rules in
    (known.1.works (sym known.1.lost ∙ none)).rests.sound

-- ---- it had ended

pub returns-then-is_ended-clause-comes : goal.returns-then-is_ended-clause-comes
returns-then-is_ended-clause-comes g c =
    let i = g.P.Party.me in
    let m = seen_in c.self.inside in
    let s = g.T.TapeSource.state c.args.tapes.now in
    subst (λ (v : MinerSeen _). (w : MinerState) → IsOf i v w → HasCome i c.args.link c.args.words.now w v s s (Err (error.NotAwaited c.args.link)))
    c.self.view_is
    (λ w is. not_moved i m w is c.args.link c.args.words.now s (c.is_ended.ensures.ended c.if-is_ended.true))

pub returns-then-is_ended-clause-answers : goal.returns-then-is_ended-clause-answers
returns-then-is_ended-clause-answers g c =
    let i = g.P.Party.me in
    let m = seen_in c.self.inside in
    let s = g.T.TapeSource.state c.args.tapes.now in
    let r = Err (error.NotAwaited c.args.link) in
    let known = c.self.invariant in
    subst (λ (v : MinerSeen _). v.past ≡ All → v.lost ≡ None → Answers i c.args.link c.args.words.now (held v) (held v) s s r) c.self.view_is
    (λ keeps going. all_answers i m m c.args.link c.args.words.now s s keeps keeps going known.0 known.1 r
    (not_moved i m known.0 known.1 c.args.link c.args.words.now s (c.is_ended.ensures.ended c.if-is_ended.true)))

-- ---- it has the message

pub invariant_of-self : goal.invariant_of-self
invariant_of-self g c =
    let i = g.P.Party.me in
    let m = seen_in c.self.inside in
    let known = c.self.invariant in
    let d = c.let_go_done.ensures in
    let none : m.lost ≡ None = search rules in
    let come =
    has_come i m known.0 known.1 (sym known.1.lost ∙ none) c.args.link c.args.words.now c.deliver.new.self c.let_go_done.new.self c.in-Ok.rest
    (g.T.TapeSource.state c.args.tapes.now) (g.T.TapeSource.state c.deliver.new.tapes) c.in-Ok.ensures.delivers d.lighter d.little d.same
    c.words_left-self-inside.result c.words_left-self-inside.ensures c.answer.result c.answer.ensures.stands c.answer.ensures.of_message in
    (record known.0 { stream = come.stream }, come.is)

pub returns-in-Ok-clause-comes : goal.returns-in-Ok-clause-comes
returns-in-Ok-clause-comes g c =
    let i = g.P.Party.me in
    let m = seen_in c.self.inside in
    let d = c.let_go_done.ensures in
    let none : m.lost ≡ None = search rules in
    let a = g.T.TapeSource.state c.args.tapes.now in
    let b = g.T.TapeSource.state c.deliver.new.tapes in
    let after = record m { engine = c.let_go_done.new.self; rest = c.in-Ok.rest; ahead = c.words_left-self-inside.result } in
    subst (λ (v : MinerSeen _). (w : MinerState) → IsOf i v w → HasCome i c.args.link c.args.words.now w after a b c.answer.result) c.self.view_is
    (λ w is.
    has_come i m w is (sym is.lost ∙ none) c.args.link c.args.words.now c.deliver.new.self c.let_go_done.new.self c.in-Ok.rest a b
    c.in-Ok.ensures.delivers d.lighter d.little d.same c.words_left-self-inside.result c.words_left-self-inside.ensures c.answer.result
    c.answer.ensures.stands c.answer.ensures.of_message)

pub returns-in-Ok-clause-answers : goal.returns-in-Ok-clause-answers
returns-in-Ok-clause-answers g c =
    let i = g.P.Party.me in
    let m = seen_in c.self.inside in
    let d = c.let_go_done.ensures in
    let known = c.self.invariant in
    let a = g.T.TapeSource.state c.args.tapes.now in
    let b = g.T.TapeSource.state c.deliver.new.tapes in
    let after = record m { engine = c.let_go_done.new.self; rest = c.in-Ok.rest; ahead = c.words_left-self-inside.result } in
    subst
    (λ (v : MinerSeen _). v.past ≡ All → v.lost ≡ None → Answers i c.args.link c.args.words.now (held v) (held after) a b c.answer.result)
    c.self.view_is
    (λ keeps going. all_answers i m after c.args.link c.args.words.now a b keeps keeps going known.0 known.1 c.answer.result
    (has_come i m known.0 known.1 (sym known.1.lost ∙ going) c.args.link c.args.words.now c.deliver.new.self c.let_go_done.new.self c.in-Ok.rest a b
    c.in-Ok.ensures.delivers d.lighter d.little d.same c.words_left-self-inside.result c.words_left-self-inside.ensures c.answer.result
    c.answer.ensures.stands c.answer.ensures.of_message))

pub returns-in-Ok-clause-ended : goal.returns-in-Ok-clause-ended
returns-in-Ok-clause-ended g c =
    let i = g.P.Party.me in
    let m = seen_in c.self.inside in
    let A = IsNotAwaited c.answer.result c.args.link in
    subst (λ v. ForEachStory i v (λ s. stands_at i s ≡ AtItsEnd → A)) c.self.view_is
    (each_story i m c.self.invariant (λ s. stands_at i s ≡ AtItsEnd → A)
    (λ w is. goes_on i m w is c.args.link c.args.words.now (g.T.TapeSource.state c.args.tapes.now) A (c.is_ended.ensures.going c.if-is_ended.false)))

-- ---- it is lost

pub invariant_of-self-in-Err : goal.invariant_of-self-in-Err
invariant_of-self-in-Err g c =
    let i = g.P.Party.me in
    let m = seen_in c.self.inside in
    let known = c.self.invariant in
    let come =
    lost_now i m known.0 known.1 c.args.link c.args.words.now (g.T.TapeSource.state c.args.tapes.now) (g.T.TapeSource.state c.deliver.new.tapes)
    c.deliver.new.self c.in-Err.lost c.in-Err.ensures.draws.drawn c.in-Err.ensures.draws.lost in
    (record known.0 { stream = come.stream }, come.is)

pub returns-in-Err-clause-comes : goal.returns-in-Err-clause-comes
returns-in-Err-clause-comes g c =
    let i = g.P.Party.me in
    let m = seen_in c.self.inside in
    let a = g.T.TapeSource.state c.args.tapes.now in
    let b = g.T.TapeSource.state c.deliver.new.tapes in
    let r = Err (error.Lost c.in-Err.lost) in
    let after = record m { engine = c.deliver.new.self; lost = Some c.in-Err.lost } in
    subst (λ (v : MinerSeen _). (w : MinerState) → IsOf i v w → HasCome i c.args.link c.args.words.now w after a b r) c.self.view_is
    (λ w is.
    lost_now i m w is c.args.link c.args.words.now a b c.deliver.new.self c.in-Err.lost c.in-Err.ensures.draws.drawn c.in-Err.ensures.draws.lost)

pub returns-in-Err-clause-answers : goal.returns-in-Err-clause-answers
returns-in-Err-clause-answers g c = λ keeps going. record {
  state = refl;
  drawn = c.in-Err.ensures.draws.drawn;
  cause = c.in-Err.ensures.draws.lost;
}

pub returns-in-Err-clause-ended : goal.returns-in-Err-clause-ended
returns-in-Err-clause-ended g c =
    let i = g.P.Party.me in
    let m = seen_in c.self.inside in
    let A = IsNotAwaited (Err (error.Lost c.in-Err.lost)) c.args.link in
    subst (λ v. ForEachStory i v (λ s. stands_at i s ≡ AtItsEnd → A)) c.self.view_is
    (each_story i m c.self.invariant (λ s. stands_at i s ≡ AtItsEnd → A)
    (λ w is. goes_on i m w is c.args.link c.args.words.now (g.T.TapeSource.state c.args.tapes.now) A (c.is_ended.ensures.going c.if-is_ended.false)))
