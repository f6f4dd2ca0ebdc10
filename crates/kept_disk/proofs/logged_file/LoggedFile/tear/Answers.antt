use Rattle.std.proofs.Common.{◌≡◌, ◌∷◌, ◌++◌, [], rules}
use Rattle.kept_disk.specs.declared.disk_call.DiskCall.TheVariants.{Gave}
use Rattle.kept_disk.proofs.Records.{now_is, past_is, still_image}
use Rattle.kept_disk.proofs.logged_file.LoggedFile.tear.Goals as goal

pub invariant_of-self-2 : goal.invariant_of-self-2
invariant_of-self-2 c =
    let f = c.args.self.now in
    let is : c.push_reserved.new.self.items ≡ f.log.items ++ Gave c.args.from c.args.count ∷ [] = search rules in
    record { image = still_image f.first.items f.bytes.items f.log.items _ c.args.from c.args.count is f.image }

pub returns-clause-ok : goal.returns-clause-ok
returns-clause-ok c =
    let f = c.args.self.now in
    let is : c.push_reserved.new.self.items ≡ f.log.items ++ Gave c.args.from c.args.count ∷ [] = search rules in
    record {
      image = still_image f.first.items f.bytes.items f.log.items _ c.args.from c.args.count is f.image;
      now = now_is f.first.items f.log.items _ (Gave c.args.from c.args.count) is;
      past = past_is f.first.items f.log.items _ (Gave c.args.from c.args.count) is;
    }
