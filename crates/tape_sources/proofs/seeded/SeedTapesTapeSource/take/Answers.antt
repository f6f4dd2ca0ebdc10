use Rattle.std.proofs.Common.{◌≡◌, ◌+◌, ◌<◌, ◌∙◌, length, sym, ap, subst, rules, arith}
use Rattle.std.specs.Prelude.{slice_index}
use Rattle.tape_sources.specs.SeedWords.{IsStreamOf, seed_words}
use Rattle.tape_sources.proofs.Parties.{seed_drew, seed_enough, still_enough, streams_after}
use Rattle.tape_sources.proofs.seeded.SeedTapesTapeSource.take.Goals as goal

pub make_words-requires : goal.make_words-requires
make_words-requires c =
    let s = c.args.self.now in
    let enough = seed_enough s.seed s.words s.taken c.args.party (length c.args.into.now) c.requires.party (s.within c.args.party) c.requires.enough in
    let in_streams : c.args.party < length c.args.self.now.streams = search rules in
    let place = (s.next c.args.party c.index-self-at.result in_streams).place in
    omega (arith, enough, s.short, place)

pub invariant_of-self : goal.invariant_of-self
invariant_of-self c =
    let s = c.args.self.now in
    let long : length c.make_words.new.into ≡ length c.args.into.now = search rules in
    let there : c.args.party < length c.args.self.now.taken = search rules in
    let in_streams : c.args.party < length c.args.self.now.streams = search rules in
    let enough = seed_enough s.seed s.words s.taken c.args.party (length c.args.into.now) c.requires.party (s.within c.args.party) c.requires.enough in
    let from = slice_index s.taken c.args.party in
    let is = c.make_words.ensures.next s.seed c.args.party from (s.next c.args.party c.index-self-at.result in_streams) in
    record {
      within = still_enough s.words c.args.party (length c.make_words.new.into) s.taken s.within (omega (arith, enough, long)) there;
      short = s.short;
      next = streams_after s.seed s.taken s.streams c.args.party (length c.make_words.new.into) c.make_words.new.rng s.next there in_streams
          (subst (λ n. IsStreamOf s.seed c.args.party (from + n) c.make_words.new.rng) (sym long) is);
    }

pub returns-clause-ok : goal.returns-clause-ok
returns-clause-ok c =
    let s = c.args.self.now in
    let long : length c.make_words.new.into ≡ length c.args.into.now = search rules in
    let there : c.args.party < length c.args.self.now.taken = search rules in
    let in_streams : c.args.party < length c.args.self.now.streams = search rules in
    let enough = seed_enough s.seed s.words s.taken c.args.party (length c.args.into.now) c.requires.party (s.within c.args.party) c.requires.enough in
    let from = slice_index s.taken c.args.party in
    let made = c.make_words.ensures.words s.seed c.args.party from (s.next c.args.party c.index-self-at.result in_streams) in
    seed_drew s.seed s.words s.taken c.args.party c.make_words.new.into c.requires.party there (omega (arith, enough, long))
    (made ∙ ap (seed_words s.seed c.args.party from) (sym long))
