-- PRIVACY ON THREE HOSTS: each sees no more than its miner's view.
use Rattle.std.specs.Prelude.{◌≡◌, ℕ, List, length}
use Rattle.outside.specs.Files.{Contents}
use Rattle.command_words.specs.Ask.{MinerAsk}
use Rattle.proto_core.specs.declared.party.Number.{Number}
use Rattle.proto_core.specs.declared.party.Number.TheVariants.{One, Two, Three}
use Rattle.proto_core.specs.declared.link.Link.{Link}
use Rattle.proto_core.specs.Parties.{count_of, receiver_of, sender_of}
use Rattle.protocol_model.specs.Network.{Accepted, Delivery}
use Rattle.protocol_model.specs.Runs.{Tapes}
use Rattle.bytecode.specs.Raw.{RawCode}
use Rattle.value_file.specs.declared.inputs.Entry.{Entry}
use Rattle.gather_command.specs.Owners.{Lengths, Owner, all_inputs, dealt_by_one, one_tape}
use Rattle.input_share.specs.Dealing.{dealt}
use Rattle.tape_file.specs.Tapes.{FourTapes, lengths_of}
use Rattle.program_trees.specs.TypedPrograms.{TypedProgramTree}
use Rattle.view_model.specs.TapeMaps.{miners_of}
use Rattle.viewed_run.specs.Deliveries.{net_of}
use Rattle.miner_command.specs.Files.{Given}
use Rattle.honest_miners.specs.Served.{AreServed}
use Rattle.honest_miners.specs.Three.{AreCalled}
use Rattle.host_views.specs.Hosts.{SeesItsViewAlone}

-- the bytes that have come on a link, by those that have come to each miner from a peer of a number
abbrev pub came_on : (coming : Number → ℕ → List ℕ) → Link → List ℕ
came_on coming l = coming (receiver_of l) (count_of (sender_of l))

module _ (p : TypedProgramTree) (entries : List Entry) (t : FourTapes) (budget : ℕ) (digest : List ℕ) (code : RawCode) where
  -- of three miners at work, with one code and one dealing: to each has come on its links a front of the bytes that its peers have sent; under every
  -- complete order of delivery
  abbrev pub NodesSeeTheirViews : (coming : Number → ℕ → List ℕ) → Type 0
  NodesSeeTheirViews coming =
      AreServed p entries t budget digest code coming → (i : Number) (delivery : Delivery) → net_of p entries t budget delivery ≡ Accepted
      → SeesItsViewAlone i p entries t budget digest (dealt i entries t.dealer (lengths_of t)) (miners_of t i) (came_on coming) delivery

  -- of three calls of `miner`, by the share file and the tape that each host's files hold
  abbrev pub HostsSeeTheirViews : (asks : Number → MinerAsk) (files : Number → Contents) (coming : Number → ℕ → List ℕ) → Type 0
  HostsSeeTheirViews asks files coming =
      (called : AreCalled p entries t budget digest code asks files coming) → (i : Number) (delivery : Delivery)
      → net_of p entries t budget delivery ≡ Accepted
      → SeesItsViewAlone i p entries t budget digest (called.holds i).given.share (called.holds i).given.tape (came_on coming) delivery

-- ---- OF SHARE FILES THAT `gather` WRITES

-- the four tapes of the one dealing that `gather` makes of what these owners dealt apart, where the miners have these tapes; and what all owners know
abbrev pub gathered_tapes : List Owner → Tapes → FourTapes
gathered_tapes owners tapes = record { dealer = one_tape owners; one = tapes One; two = tapes Two; three = tapes Three }

abbrev pub lengths_known : Tapes → Lengths
lengths_known tapes = record { one = length (tapes One); two = length (tapes Two); three = length (tapes Three) }

module _ (p : TypedProgramTree) (owners : List Owner) (tapes : Tapes) (budget : ℕ) (digest : List ℕ) (code : RawCode) where
  -- what `gather` writes for a miner is its share file of all inputs, dealt from that one tape; so hosts that hold it see what is said above
  pub record GatheredHostsSeeTheirViews (asks : Number → MinerAsk) (files : Number → Contents) (coming : Number → ℕ → List ℕ) : Type 0 where
    pub shares :
        (i : Number)
        → dealt_by_one i (lengths_known tapes) owners ≡ dealt i (all_inputs owners) (one_tape owners) (lengths_of (gathered_tapes owners tapes))
    pub see : HostsSeeTheirViews p (all_inputs owners) (gathered_tapes owners tapes) budget digest code asks files coming
