use Rattle.std.proofs.Common.{◌≡◌, ◌∷◌, ◌++◌, [], length, refl, rules}
use Rattle.kept_disk.specs.declared.disk_call.DiskCall.TheVariants.{Gave}
use Rattle.kept_disk.proofs.Records.{now_is, past_is, written_image}
use Rattle.kept_disk.proofs.logged_file.LoggedFile.write.Goals as goal

pub invariant_of-self-2 : goal.invariant_of-self-2
invariant_of-self-2 c =
    let f = c.args.self.now in
    let is : c.push_reserved.new.self.items ≡ f.log.items ++ Gave c.args.from (length c.args.piece.now) ∷ [] = search rules in
    record {
      image = written_image f.first.items f.bytes.items c.in_ok-made.made.items c.args.piece.now f.log.items _ c.args.from (length c.args.piece.now) is refl
          (search rules) f.image;
    }

pub returns-clause-ok : goal.returns-clause-ok
returns-clause-ok c =
    let f = c.args.self.now in
    let is : c.push_reserved.new.self.items ≡ f.log.items ++ Gave c.args.from (length c.args.piece.now) ∷ [] = search rules in
    record {
      seen = search rules;
      now = now_is f.first.items f.log.items _ (Gave c.args.from (length c.args.piece.now)) is;
      past = past_is f.first.items f.log.items _ (Gave c.args.from (length c.args.piece.now)) is;
    }
