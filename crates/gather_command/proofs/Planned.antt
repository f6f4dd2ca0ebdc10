-- What `gather` plans is what is decided of the files.
use Rattle.std.proofs.Common.{◌≡◌, ℕ, List, true, Ok, Err, refl, sym, ap, subst, ◌∙◌}
use Rattle.outside.specs.Files.{Contents, FilesState}
use Rattle.command_frame.specs.declared.stop.Stop.{Stop}
use Rattle.command_frame.specs.Reads.{OnlyRead, StopNames, Stops}
use Rattle.command_frame.specs.declared.status.Status.TheVariants.{Input}
use Rattle.command_words.specs.Ask.{GatherAsk}
use Rattle.input_share.specs.ShareFile.{MinerFile}
use Rattle.proto_core.specs.declared.party.Number.{Number}
use Rattle.gather_command.specs.Gathering.{gathered, Gathers}
use Rattle.gather_command.specs.declared.gathering.GatherErr.{GatherErr}
use Rattle.gather_command.specs.declared.gathering.GatherErr.TheVariants as refusal
use Rattle.program_commands.specs.Reading.{share_at}
use Rattle.program_commands.proofs.Exits.{unnamed_memory, unnamed_refusal}
use Rattle.program_commands.proofs.Judged.{refused_so}
use Rattle.gather_command.specs.Gather.{IsGatherStop, gather_effect, gather_line, gather_of, lens_line, name_line, shares_at, ungathered}

-- files that were only read are what they were
pub shares_still : (f g : FilesState) → OnlyRead f g → (miner : Number) (paths others : List (List ℕ)) → paths ≡ others → (shares : List MinerFile)
    → (g.told ≡ true → shares_at g.contents miner paths ≡ Ok shares) → f.told ≡ true → shares_at f.contents miner others ≡ Ok shares
shares_still f g read miner paths others same shares given t =
    ap (shares_at f.contents miner) (sym same) ∙ ap (λ (c : Contents). shares_at c miner paths) (sym read.same.contents) ∙ given (read.same.told ∙ t)

-- what is decided of the files that were read
module _ (ask : GatherAsk) (f : FilesState) (first : MinerFile) (more : List MinerFile)
    (one : f.told ≡ true → share_at f.contents ask.miner ask.first ≡ Ok first)
    (others : f.told ≡ true → shares_at f.contents ask.miner ask.more ≡ Ok more) where
  pub gathered_so : (file : MinerFile) → gathered first more ≡ Ok file → f.told ≡ true → gather_of ask f.contents ≡ Ok (gather_effect ask.to file)
  unfolding gather_of
  gathered_so file is t = rw (one t, others t, is) refl

  refused_by : (err : GatherErr) → gathered first more ≡ Err err → f.told ≡ true → gather_of ask f.contents ≡ Err (ungathered err)
  unfolding gather_of
  refused_by err is t = rw (one t, others t, is) refl

  lined : (err : GatherErr) (line : List ℕ) → gather_line err ≡ line → gathered first more ≡ Err err → f.told ≡ true
      → gather_of ask f.contents ≡ Err (record { status = Input; line = line })
  unfolding ungathered
  lined err line same is t = refused_by err is t ∙ ap (λ (l : List ℕ). Err (record { status = Input; line = l })) same

  -- files that don't go together stop the command
  pub gather_stops : (f' : FilesState) (err : GatherErr) (stop : Stop) → Gathers {X = MinerFile} (λ f. f) (gathered first more) (Err err) → IsGatherStop err stop
      → Stops f f' stop (gather_of ask f.contents)
  gather_stops f' (refusal.NameTwice name) stop is for =
      refused_so f f' stop (gather_of ask f.contents) for (lined (refusal.NameTwice name) (name_line name) refl is)
  gather_stops f' (refusal.OtherLengths file) stop is for =
      refused_so f f' stop (gather_of ask f.contents) for (lined (refusal.OtherLengths file) (lens_line file) refl is)
  gather_stops f' refusal.Memory stop is for = subst (λ (s : Stop). Stops f f' s (gather_of ask f.contents)) (sym for) tt

-- and name no file
pub gather_stop_names : (paths : List (List ℕ)) (err : GatherErr) (stop : Stop) → IsGatherStop err stop → StopNames paths stop
gather_stop_names paths (refusal.NameTwice name) stop for = unnamed_refusal paths (record { status = Input; line = name_line name }) stop for
gather_stop_names paths (refusal.OtherLengths file) stop for = unnamed_refusal paths (record { status = Input; line = lens_line file }) stop for
gather_stop_names paths refusal.Memory stop for = unnamed_memory paths stop for
