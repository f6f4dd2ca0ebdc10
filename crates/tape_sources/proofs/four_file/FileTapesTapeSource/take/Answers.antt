use Rattle.std.proofs.Common.{◌≡◌, ◌+◌, ◌*◌, ◌<◌, ◌∙◌, length, sym, rules, arith}
use Rattle.std.specs.Prelude.{slice_index}
use Rattle.tape_sources.proofs.Drawing.{drew, files_steady, is_there, never_short, within_after, within_of}
use Rattle.tape_sources.proofs.ReadAhead.{ahead_after}
use Rattle.tape_sources.proofs.four_file.FileTapesTapeSource.take.Goals as goal

pub take-requires-clause-enough : goal.take-requires-clause-enough
take-requires-clause-enough g c =
    let s = c.args.self.now in
    let f = g.F.Files.state s.files.now in
    let there = is_there f s.files.ghost_name s.path.now s.size s.next s.left c.args.party (length c.args.into.now) s.within c.requires.party c.requires.enough in
    there.left

pub take-requires-clause-ahead : goal.take-requires-clause-ahead
take-requires-clause-ahead g c = λ t.
    let in_ahead : c.args.party < length c.args.self.now.ahead = search rules in
    c.args.self.now.read t c.args.party _ in_ahead

pub returns-in_err-take-clause-steady : goal.returns-in_err-take-clause-steady
returns-in_err-take-clause-steady g c = λ steady.
    let s = c.args.self.now in
    let f = g.F.Files.state s.files.now in
    absurd (never_short f s.path.now s.size _ steady (within_of s.size s.next s.left c.args.party s.within c.requires.party)
    (c.in_err-take.ensures.steady (files_steady f s.path.now s.size steady)).failed)

pub overflow_add-self : goal.overflow_add-self
overflow_add-self g c =
    let s = c.args.self.now in
    let f = g.F.Files.state s.files.now in
    let there = is_there f s.files.ghost_name s.path.now s.size s.next s.left c.args.party (length c.args.into.now) s.within c.requires.party c.requires.enough in
    let long : length c.take.new.into ≡ length c.args.into.now = search rules in
    omega (arith, there.ends, s.fits, long)

pub overflow_sub-self : goal.overflow_sub-self
overflow_sub-self g c =
    let s = c.args.self.now in
    let f = g.F.Files.state s.files.now in
    let there = is_there f s.files.ghost_name s.path.now s.size s.next s.left c.args.party (length c.args.into.now) s.within c.requires.party c.requires.enough in
    let long : length c.take.new.into ≡ length c.args.into.now = search rules in
    omega (arith, there.left, long)

pub invariant_of-self-2 : goal.invariant_of-self-2
invariant_of-self-2 g c =
    let s = c.args.self.now in
    let f = g.F.Files.state s.files.now in
    let there = is_there f s.files.ghost_name s.path.now s.size s.next s.left c.args.party (length c.args.into.now) s.within c.requires.party c.requires.enough in
    let long : length c.take.new.into ≡ length c.args.into.now = search rules in
    let in_next : c.args.party < length c.args.self.now.next = search rules in
    let in_left : c.args.party < length c.args.self.now.left = search rules in
    let in_ahead : c.args.party < length c.args.self.now.ahead = search rules in
    let only = c.in_ok-take.ensures.only in
    record {
      sized = c.in_ok-take.ensures.sizes s.path.now ∙ s.sized;
      within = within_after s.size (length c.take.new.into) c.args.party s.next s.left s.within c.requires.party (omega (arith, there.left, long)) in_next in_left;
      fits = s.fits;
      read = λ t.
          let before = sym only.same.told ∙ t in
          ahead_after s.path.now s.next s.ahead c.args.party (slice_index s.next c.args.party + 8 * length c.take.new.into) c.take.new.self only in_next in_ahead
          (s.read before) (c.in_ok-take.ensures.ahead before);
    }

pub returns-clause-ok : goal.returns-clause-ok
returns-clause-ok g c =
    let s = c.args.self.now in
    let f = g.F.Files.state s.files.now in
    let there = is_there f s.files.ghost_name s.path.now s.size s.next s.left c.args.party (length c.args.into.now) s.within c.requires.party c.requires.enough in
    let long : length c.take.new.into ≡ length c.args.into.now = search rules in
    let in_next : c.args.party < length c.args.self.now.next = search rules in
    let in_left : c.args.party < length c.args.self.now.left = search rules in
    drew s.files.ghost_name s.path.now s.size s.next s.left c.args.party c.take.new.into c.in_ok-take.ensures.only in_next in_left
    (omega (arith, there.left, long)) c.in_ok-take.ensures.ok
