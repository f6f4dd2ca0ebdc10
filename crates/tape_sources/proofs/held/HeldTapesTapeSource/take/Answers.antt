use Rattle.std.proofs.Common.{◌≡◌, ◌<◌, length, take, drop, slice_index, rules}
use Rattle.tape_sources.specs.Parties.{tape_of}
use Rattle.tape_sources.proofs.Parties.{held_drew, held_enough}
use Rattle.tape_sources.proofs.held.HeldTapesTapeSource.take.Goals as goal

pub overflow_add-end : goal.overflow_add-end
overflow_add-end c =
    let s = c.args.self.now in
    let enough = held_enough s.tapes s.taken c.args.party (length c.args.into.now) c.requires.enough (s.within c.args.party) in
    search (rules, enough)

pub returns-clause-ok : goal.returns-clause-ok
returns-clause-ok c =
    let s = c.args.self.now in
    let there : c.args.party < length s.taken = search rules in
    let long : length c.args.into.now ≡ length c.copy_from_slice.new.self = search rules in
    let copied : c.copy_from_slice.new.self ≡ take (length c.args.into.now) (drop (slice_index s.taken c.args.party) (tape_of s.tapes c.args.party)) = search rules in
    held_drew s.tapes s.taken c.args.party (length c.args.into.now) c.copy_from_slice.new.self there long copied
