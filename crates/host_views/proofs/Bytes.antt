-- The bytes that the joint run sends on a link are those that the receiver's view tells of it.
use Rattle.std.proofs.Common.{◌≡◌, ℕ, List, ◌++◌, Some, sym, ◌∙◌, ap}
use Rattle.sha2.specs.Sha256.{sha256}
use Rattle.proto_core.specs.declared.link.Link.{Link}
use Rattle.proto_core.specs.Parties.{count_of, receiver_of, sender_of}
use Rattle.protocol_model.specs.Network.{Accepted, Delivery}
use Rattle.bytecode.specs.Raw.{RawCode}
use Rattle.value_file.specs.declared.inputs.Entry.{Entry}
use Rattle.value_file.specs.declared.public.PublicEntry.{PublicEntry}
use Rattle.value_file.specs.Public.{part_bytes, part_of as public_part}
use Rattle.input_share.proofs.ShapeLaws.{shapes_of-dealt}
use Rattle.tape_file.specs.Tapes.{FourTapes}
use Rattle.program_trees.specs.TypedPrograms.{TypedProgramTree}
use Rattle.view_text.specs.View.{View}
use Rattle.program_run.specs.Accepted.{IsAccepted}
use Rattle.program_run.specs.Dealt.{CanBeDealt}
use Rattle.program_views.specs.Views.{lengths_of, view_of}
use Rattle.viewed_run.specs.Deliveries.{net_of}
use Rattle.wire.specs.declared.fields.Hello.{Hello}
use Rattle.wire.specs.Digests.{public_text}
use Rattle.wire.specs.Hellos.{hello_bytes}
use Rattle.honest_miners.specs.Nodes.{own_hello}
use Rattle.honest_miners.specs.Served.{part_of, run_bytes}
use Rattle.honest_miners.specs.Serving.{frames, hello_to}
use Rattle.net_laws.specs.LinkMessages.{received_on}
use Rattle.net_laws.proofs.LinkMessages.{has_its_messages}
use Rattle.host_views.specs.Hosts.{bytes_told, public_hello}

module _ (p : TypedProgramTree) (entries : List Entry) (t : FourTapes) (budget : ℕ) (digest : List ℕ) (code : RawCode) (l : Link) where
  hello_is :
      hello_to (own_hello (sender_of l) (part_of p entries t budget digest code (sender_of l))) (receiver_of l)
      ≡ public_hello digest (public_part entries) (lengths_of t) budget l
  hello_is =
      let made : List PublicEntry → Hello =
      λ shapes. record {
        version = 2;
        sender = count_of (sender_of l);
        receiver = count_of (receiver_of l);
        code = digest;
        public = sha256 (public_text (part_bytes shapes) budget (lengths_of t));
      } in
      ap made (shapes_of-dealt (sender_of l) entries t.dealer)

  pub run_bytes_are_told :
      (delivery : Delivery) → IsAccepted p → CanBeDealt entries t → net_of p entries t budget delivery ≡ Accepted
      → (view : View) → view_of (receiver_of l) p entries t budget delivery ≡ Some view
      → run_bytes p entries t budget digest code l ≡ bytes_told digest (public_part entries) (lengths_of t) budget view l
  run_bytes_are_told delivery accepted can taken view seen =
      ap (λ (messages : List (List ℕ)).
      hello_bytes (hello_to (own_hello (sender_of l) (part_of p entries t budget digest code (sender_of l))) (receiver_of l)) ++ frames messages)
      (sym (has_its_messages l p entries t budget delivery accepted can taken view seen))
      ∙ ap (λ (hello : Hello). hello_bytes hello ++ frames (received_on l view.got)) hello_is
