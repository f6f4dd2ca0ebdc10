-- WHAT A HOST GETS of a run that three miners make as programs of their own: the bytes that come on its links, its share file and its tape, by what its
-- miner's view says.
use Rattle.std.specs.Prelude.{◌≡◌, ℕ, List, [], ◌++◌, take, Option, Some, None}
use Rattle.sha2.specs.Sha256.{sha256}
use Rattle.proto_core.specs.declared.party.Number.{Number}
use Rattle.proto_core.specs.declared.link.Link.{Link}
use Rattle.proto_core.specs.Parties.{count_of, receiver_of, sender_of}
use Rattle.proto_core.specs.Strand.{Begins}
use Rattle.protocol_model.specs.Network.{Delivery}
use Rattle.shared_gates.specs.Model.{miner_of}
use Rattle.gate_laws.specs.Dealt.{drawn_by}
use Rattle.value_file.specs.declared.inputs.Entry.{Entry}
use Rattle.value_file.specs.declared.public.PublicEntry.{PublicEntry}
use Rattle.value_file.specs.Public.{part_bytes, part_of}
use Rattle.input_share.specs.ShareFile.{MinerFile}
use Rattle.input_share.specs.Shapes.{shapes_of}
use Rattle.tape_file.specs.Tapes.{FourTapes}
use Rattle.program_trees.specs.TypedPrograms.{TypedProgramTree}
use Rattle.view_text.specs.View.{View}
use Rattle.view_model.specs.TapeMaps.{miners_of}
use Rattle.program_views.specs.TapeMaps.{mapped}
use Rattle.program_views.specs.Views.{input_shares, lengths_of, run_on, simulated, view_of}
use Rattle.wire.specs.declared.fields.Hello.{Hello}
use Rattle.wire.specs.Digests.{public_text}
use Rattle.wire.specs.Hellos.{hello_bytes}
use Rattle.honest_miners.specs.Serving.{frames}
use Rattle.net_laws.specs.LinkMessages.{received_on}

-- ---- THE BYTES OF A LINK

-- by the digest of the code, the public part of the inputs, the lengths of the four tapes, and the budget, which all three know
module _ (digest : List ℕ) (part : List PublicEntry) (lengths : List ℕ) (budget : ℕ) where
  abbrev pub public_hello : Link → Hello
  public_hello l =
      record {
        version = 2;
        sender = count_of (sender_of l);
        receiver = count_of (receiver_of l);
        code = digest;
        public = sha256 (public_text (part_bytes part) budget lengths);
      }

  -- the hello, and then the frames of the messages that this view has received on the link
  abbrev pub bytes_told : View → Link → List ℕ
  bytes_told view l = hello_bytes (public_hello l) ++ frames (received_on l view.got)

  abbrev pub bytes_if_seen : Option View → Link → List ℕ
  bytes_if_seen (Some view) l = bytes_told view l
  bytes_if_seen None l = []

-- of the simulator's view: no private word among its arguments
abbrev pub simulated_bytes :
    (digest : List ℕ) → Number → TypedProgramTree → List PublicEntry → (opened : List ℕ) → FourTapes → (budget : ℕ) → Delivery → Link → List ℕ
simulated_bytes digest i p part opened s budget delivery l =
    bytes_if_seen digest part (lengths_of s) budget (simulated i p part opened s budget delivery) l

-- ---- WHAT A HOST GETS

-- the host of miner i, by its share file, its tape, and the bytes that have come to it on a link
module _ (i : Number) (p : TypedProgramTree) (entries : List Entry) (t : FourTapes) (budget : ℕ) where
  -- the words that the run opens, which everybody learns
  abbrev pub words_opened : List ℕ
  words_opened = (run_on p entries (lengths_of t) budget).opened

  abbrev pub tapes_simulated : FourTapes
  tapes_simulated = mapped i p entries t budget

  pub record SeesItsViewAlone (digest : List ℕ) (share : MinerFile) (tape : List ℕ) (came : Link → List ℕ) (delivery : Delivery) : Type 0 where
    pub view : View
    pub seen : view_of i p entries t budget delivery ≡ Some view
    -- what the simulator makes of the public part of the inputs, the opened words and the mapped tapes is this view
    pub made : simulated i p (part_of entries) words_opened tapes_simulated budget delivery ≡ Some view
    -- what has come on each link to it, all or cut off anywhere, begins the hello and the frames of the view's messages on it
    pub bytes : (l : Link) → receiver_of l ≡ i → Begins (came l) (bytes_told digest (part_of entries) (lengths_of t) budget view l)
    -- so it begins bytes that are made without any private word
    pub bytes_simulated :
        (l : Link) → receiver_of l ≡ i
        → Begins (came l) (simulated_bytes digest i p (part_of entries) words_opened tapes_simulated budget delivery l)
    -- its share file has the public part, the lengths of the tapes, and the view's shares, by name
    pub shape : shapes_of share.entries ≡ part_of entries
    pub lengths : share.lens ≡ lengths_of t
    pub shares : input_shares share.entries ≡ view.inputs
    -- its tape is its own of the mapped tapes, and of it the miner draws the view's words
    pub own : tape ≡ miners_of tapes_simulated i
    pub drew : view.drew ≡ take (drawn_by (run_on p entries (lengths_of t) budget).drawn (miner_of i)) tape
