use Rattle.std.proofs.Common.{◌≡◌, ◌∙◌, ◌∷◌, ◌++◌, [], refl, ap, rules}
use Rattle.kept_disk.specs.Images.{settled}
use Rattle.kept_disk.specs.declared.disk_call.DiskCall.TheVariants.{Kept}
use Rattle.kept_disk.proofs.Records.{now_is, past_is, synced_image}
use Rattle.kept_disk.proofs.logged_file.LoggedFile.sync.Goals as goal

pub invariant_of-self-2 : goal.invariant_of-self-2
invariant_of-self-2 c =
    let f = c.args.self.now in
    let is : c.push_reserved.new.self.items ≡ f.log.items ++ Kept c.in_ok-kept.kept ∷ [] = search rules in
    let all : c.in_ok-kept.kept.items ≡ f.bytes.items = search rules in
    record { image = synced_image f.first.items f.bytes.items f.log.items _ (Kept c.in_ok-kept.kept) is (ap settled all) }

pub returns-clause-ok : goal.returns-clause-ok
returns-clause-ok c =
    let f = c.args.self.now in
    let is : c.push_reserved.new.self.items ≡ f.log.items ++ Kept c.in_ok-kept.kept ∷ [] = search rules in
    let all : c.in_ok-kept.kept.items ≡ f.bytes.items = search rules in
    record {
      seen = refl;
      now = now_is f.first.items f.log.items _ (Kept c.in_ok-kept.kept) is ∙ ap settled all;
      past = past_is f.first.items f.log.items _ (Kept c.in_ok-kept.kept) is;
    }
