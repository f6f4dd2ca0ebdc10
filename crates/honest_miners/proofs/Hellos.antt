-- Miners of one dealing send the hellos that their peers expect.
use Rattle.std.proofs.Common.{◌≡◌, ℕ, List, length, sym, ap, ◌∙◌}
use Rattle.sha2.specs.Sha256.{sha256}
use Rattle.proto_core.specs.declared.party.Number.{Number}
use Rattle.proto_core.specs.Parties.{count_of}
use Rattle.tape_file.specs.Tapes.{FourTapes}
use Rattle.value_file.specs.declared.inputs.Entry.{Entry}
use Rattle.value_file.specs.declared.public.PublicEntry.{PublicEntry}
use Rattle.value_file.specs.Public.{part_bytes}
use Rattle.input_share.specs.Dealing.{dealt}
use Rattle.input_share.proofs.ShapeLaws.{shapes_of-dealt}
use Rattle.program_run.specs.Reports.{lengths_of}
use Rattle.wire.specs.declared.fields.Hello.{Hello}
use Rattle.wire.specs.Digests.{public_text}
use Rattle.wire.specs.Hellos.{HasDigests}
use Rattle.miner_node.specs.Serving.{hello_from, hello_to}
use Rattle.node_run.specs.Made.{hello_of, known_text}
use Rattle.honest_miners.proofs.Digests.{sha256_length}

module _ (digest : List ℕ) (entries : List Entry) (t : FourTapes) (budget : ℕ) where
  -- the hello of a miner of this dealing
  abbrev pub hello_of_dealing : Number → Hello
  hello_of_dealing i = hello_of i digest (dealt i entries t.dealer (lengths_of t)) budget

  pub digests : (i p : Number) → length digest ≡ 32 → HasDigests (hello_from (hello_of_dealing i) p)
  digests i p size = record { code = size; public = sha256_length (known_text (dealt i entries t.dealer (lengths_of t)) budget) }

  -- what both know of the run is the same
  pub expected : (from to : Number) → hello_to (hello_of_dealing from) to ≡ hello_from (hello_of_dealing to) from
  expected from to =
      let made : List PublicEntry → Hello =
      λ shapes. record {
        version = 2;
        sender = count_of from;
        receiver = count_of to;
        code = digest;
        public = sha256 (public_text (part_bytes shapes) budget (lengths_of t));
      } in
      ap made (shapes_of-dealt from entries t.dealer ∙ sym (shapes_of-dealt to entries t.dealer))
