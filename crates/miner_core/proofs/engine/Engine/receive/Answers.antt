use Rattle.std.proofs.Common.{◌≡◌, ◌≢◌, sym, subst, arith}
use Rattle.proto_core.specs.Parties.{from_previous}
use Rattle.miner_core.specs.Engines.{with_words, IsQuietAlways}
use Rattle.miner_core.specs.Past.{with_past}
use Rattle.miner_core.specs.Story.{Leads, received}
use Rattle.miner_core.proofs.Stories.{comes_from_previous, comes_from_next, quiet_from_previous, quiet_from_next, story_from_previous, story_from_next}
use Rattle.miner_core.proofs.engine.Engine.receive.Goals as goal

pub returns-then-eq-clause-leads : goal.returns-then-eq-clause-leads
returns-then-eq-clause-leads g c =
    let i = g.P.Party.me in
    let e = c.args.self.now in
    let is : c.args.link ≡ from_previous i = grind arith in
    λ past more s f.
    subst (λ n. Leads i (with_words (with_past past (record e { node = n })) more) (received i s c.args.link c.args.words.now))
    (sym c.in_ok-receive_words_from_previous.ensures.ok)
    (comes_from_previous i (with_words (with_past past e) more) s c.args.link c.args.words.now is f)

pub returns-clause-leads : goal.returns-clause-leads
returns-clause-leads g c =
    let i = g.P.Party.me in
    let e = c.args.self.now in
    let apart : c.args.link ≢ from_previous i = grind arith in
    λ past more s f.
    subst (λ n. Leads i (with_words (with_past past (record e { node = n })) more) (received i s c.args.link c.args.words.now))
    (sym c.in_ok-receive_words_from_next.ensures.ok)
    (comes_from_next i (with_words (with_past past e) more) s c.args.link c.args.words.now apart f)

pub returns-then-eq-clause-story : goal.returns-then-eq-clause-story
returns-then-eq-clause-story g c =
    let i = g.P.Party.me in
    let is : c.args.link ≡ from_previous i = grind arith in
    λ budget. story_from_previous i c.args.self.now c.receive_words_from_previous.new.self c.args.link c.args.words.now budget is
    c.in_ok-receive_words_from_previous.ensures.ok

pub returns-clause-story : goal.returns-clause-story
returns-clause-story g c =
    let i = g.P.Party.me in
    let apart : c.args.link ≢ from_previous i = grind arith in
    λ budget. story_from_next i c.args.self.now c.receive_words_from_next.new.self c.args.link c.args.words.now budget apart
    c.in_ok-receive_words_from_next.ensures.ok

pub returns-then-eq-clause-sound : goal.returns-then-eq-clause-sound
returns-then-eq-clause-sound g c =
    let i = g.P.Party.me in
    record {
      stands = c.requires.sound.stands;
      quiet =
          subst (IsQuietAlways i) (sym c.in_ok-receive_words_from_previous.ensures.ok)
          (quiet_from_previous i c.args.self.now.node c.args.words.now c.requires.sound.quiet);
    }

pub returns-clause-sound : goal.returns-clause-sound
returns-clause-sound g c =
    let i = g.P.Party.me in
    record {
      stands = c.requires.sound.stands;
      quiet =
          subst (IsQuietAlways i) (sym c.in_ok-receive_words_from_next.ensures.ok)
          (quiet_from_next i c.args.self.now.node c.args.words.now c.requires.sound.quiet);
    }
