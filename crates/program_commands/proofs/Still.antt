-- What is read of files that were only read is what they held at the beginning.
use Rattle.std.proofs.Common.{◌≡◌, ℕ, List, true, Ok, Result, sym, ◌∙◌, ap}
use Rattle.outside.specs.Files.{Contents, FilesState}
use Rattle.command_frame.specs.Answer.{Cause}
use Rattle.command_frame.specs.Reads.{OnlyRead}
use Rattle.command_words.specs.Ask.{Order}
use Rattle.protocol_model.specs.Network.{Delivery}
use Rattle.program_commands.specs.Reading.{delivery_at}

-- as at the beginning
pub record IsStill (f g : FilesState) : Type 0 where
  pub told : g.told ≡ f.told
  pub contents : g.contents ≡ f.contents

pub still : (f g : FilesState) → OnlyRead f g → IsStill f g
still f g read = record { told = read.same.told; contents = read.same.contents }

pub still_later : (f g h : FilesState) → IsStill f g → OnlyRead g h → IsStill f h
still_later f g h first read = record { told = read.same.told ∙ first.told; contents = read.same.contents ∙ first.contents }

pub read_still : {X : Type 0} (at : Contents → List ℕ → Result X Cause) (f g : FilesState) → IsStill f g → (path other : List ℕ) → path ≡ other → (x : X)
    → (g.told ≡ true → at g.contents path ≡ Ok x) → f.told ≡ true → at f.contents other ≡ Ok x
read_still at f g kept path other same x given t =
    ap (at f.contents) (sym same) ∙ ap (λ (c : Contents). at c path) (sym kept.contents) ∙ given (kept.told ∙ t)

pub order_still : (f g : FilesState) → IsStill f g → (order : Order) (delivery : Delivery)
    → (g.told ≡ true → delivery_at g.contents order ≡ Ok delivery) → f.told ≡ true → delivery_at f.contents order ≡ Ok delivery
order_still f g kept order delivery given t = ap (λ (c : Contents). delivery_at c order) (sym kept.contents) ∙ given (kept.told ∙ t)
