-- A miner's view of a value that is shared anew, where it is told the value's words, is made as its view of an opening.
use Rattle.std.proofs.Common.{◌≡◌, ℕ, refl, subst}
use Rattle.proto_core.specs.Ring.{Ring, RingLaws}
use Rattle.proto_core.specs.declared.party.Number.{Number}
use Rattle.proto_core.specs.declared.link.Link.{Link}
use Rattle.proto_core.specs.declared.link.Link.TheVariants.{Link12, Link13, Link21, Link23, Link31, Link32}
use Rattle.proto_core.specs.Parties.{receiver_of}
use Rattle.proto_core.specs.Protocol.{Joint, Fits, Sound, Private}
use Rattle.gates.specs.Blocks.{block_sizes}
use Rattle.blocked_protocol.specs.Blocked.{blocked, Blockable}
use Rattle.blocked_protocol.specs.Opening.{open_protocol, open_tape}
use Rattle.blocked_protocol.specs.Resharing.{reshare_protocol, reshare_messages, reshare_received}
use Rattle.blocked_protocol.proofs.Blockables.{reshare-blockable}
use Rattle.blocked_protocol.proofs.BlockRuns.{in_blocks-sound}
use Rattle.blocked_protocol.proofs.BlockViews.{in_blocks-private}
use Rattle.blocked_protocol.proofs.Sizes.{block_sizes-cut}
use Rattle.open_result.specs.OpeningLaws.{open-private}
use Rattle.open_result.specs.ResharingLaws.{reshare-lawful}
use Rattle.client_model.specs.Told.{told_protocol}

as_open : (r : Ring) (n : ℕ) (j : Joint) → Fits (told_protocol r) n j → Fits (open_protocol r) n j
as_open r n j fits = record { u = fits.u; v = fits.v; words = fits.words; are_words = fits.are_words }

as_told : (r : Ring) (n : ℕ) (j : Joint) → Fits (open_protocol r) n j → Fits (told_protocol r) n j
as_told r n j fits = record { u = fits.u; v = fits.v; words = fits.words; are_words = fits.are_words }

as_reshared : (r : Ring) (n : ℕ) (j : Joint) → Fits (told_protocol r) n j → Fits (reshare_protocol r) n j
as_reshared r n j fits = record { u = fits.u; v = fits.v; words = fits.words; are_words = fits.are_words }

-- what comes is the previous miner's word, which the row leaves
told-seen : (r : Ring) (n : ℕ) (j : Joint) (i : Number) (l : Link) → receiver_of l ≡ i → reshare_messages j l ≡ reshare_received i (open_tape r n i j) l
told-seen r n j i l h = subst (λ k. reshare_messages j l ≡ reshare_received k (open_tape r n k j) l) h (at_link l)
  where
    at_link : (l : Link) → reshare_messages j l ≡ reshare_received (receiver_of l) (open_tape r n (receiver_of l) j) l
    at_link = elim [ Link12 ↦ refl | Link13 ↦ refl | Link21 ↦ refl | Link23 ↦ refl | Link31 ↦ refl | Link32 ↦ refl ]

module _ {r : Ring} (laws : RingLaws r) where
  pub told-private : Private (told_protocol r)
  told-private =
      let opening = open-private laws in
      record {
        own = λ n i j fits. opening.own n i j (as_open r n j fits);
        kept = λ n i j fits. as_told r n _ (opening.kept n i j (as_open r n j fits));
        back_kept = λ n i j fits. as_told r n _ (opening.back_kept n i j (as_open r n j fits));
        back_tape = λ n i j fits m. opening.back_tape n i j (as_open r n j fits) m;
        tape_back = λ n i j fits m. opening.tape_back n i j (as_open r n j fits) m;
        seen = λ n i j fits l h. told-seen r n j i l h;
      }

  pub told-sound : Sound (told_protocol r)
  told-sound =
      let sound = (reshare-lawful laws).sound in
      record {
        matched = sound.matched;
        own_links = sound.own_links;
        moves = sound.moves;
        sizes = sound.sizes;
        finishes = λ n j fits. sound.finishes n j (as_reshared r n j fits);
        messages = λ n j fits. sound.messages n j (as_reshared r n j fits);
        blocks = λ n j fits. sound.blocks n j (as_reshared r n j fits);
        opened = λ n j fits. sound.opened n j (as_reshared r n j fits);
        opens = λ n j fits. sound.opens n j (as_reshared r n j fits);
      }

  told-blockable : Blockable (told_protocol r)
  told-blockable =
      let blocks = reshare-blockable r in
      record { second = blocks.second; draws = blocks.draws; opens = blocks.opens; made_none = blocks.made_none; made_more = blocks.made_more }

  -- of any number of blocks
  pub told-whole : Sound (blocked (told_protocol r)) × Private (blocked (told_protocol r))
  told-whole = (
    in_blocks-sound (told_protocol r) told-blockable told-sound block_sizes block_sizes-cut,
    in_blocks-private (told_protocol r) told-blockable told-sound told-private block_sizes block_sizes-cut,
  )
