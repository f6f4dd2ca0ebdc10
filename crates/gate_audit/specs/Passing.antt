-- Three views in which the steps of an audit find nothing wrong, and three views that miners see of a run of gates.
use Rattle.std.specs.Prelude.{◌≡◌, ◌≤◌, ℕ, List, [], ◌++◌, length, take, None}
use Rattle.proto_core.specs.declared.link.Link.{Link}
use Rattle.proto_core.specs.declared.party.Number.{Number}
use Rattle.proto_core.specs.declared.party.Number.TheVariants.{One, Two, Three}
use Rattle.proto_core.specs.Script.{Move}
use Rattle.proto_core.specs.Strand.{Mail}
use Rattle.protocol_model.specs.Gates as model
use Rattle.protocol_model.specs.Gates.{gates_script, needed}
use Rattle.protocol_model.specs.Network.{Accepted, Listed, net}
use Rattle.protocol_model.specs.Runs.{run_messages}
use Rattle.gates.specs.declared.gate.Gate.{Gate}
use Rattle.value_file.specs.declared.inputs.Entry.{Entry}
use Rattle.value_file.specs.declared.public.PublicEntry.{PublicEntry}
use Rattle.value_file.specs.Public.{part_of}
use Rattle.tape_file.specs.Tapes.{FourTapes}
use Rattle.input_share.specs.Dealing.{need_of}
use Rattle.view_model.specs.Seen.{seen_by}
use Rattle.view_model.specs.TapeMaps.{gates_dealt, miners_of, no_values, AreTapes, Reaches}
use Rattle.audit_steps.specs.Shares.{wrong_share_at}
use Rattle.found_inputs.specs.Sums.{wrong_sums_at}
use Rattle.merged_orders.specs.Merging.{Orders, Stuck}
use Rattle.merged_views.specs.Brought.{AreNext, orders_of}
use Rattle.gate_audit.specs.Shown.{Views, dealt_with, found, got_of, shown}

-- ---- a run: inputs whose dealing the dealer's tape suffices for, and gates that can run on these tapes

pub record IsGiven (entries : List Entry) (gates : List Gate) (t : FourTapes) : Type 0 where
  pub tapes : AreTapes t
  pub enough : need_of entries ≤ length t.dealer
  pub reaches : Reaches entries gates t

abbrev pub scripts_dealt : List Entry → List Gate → FourTapes → Number → List Move
scripts_dealt entries gates t k = gates_script k (gates_dealt entries t.dealer gates)

abbrev pub mail_dealt : List Entry → List Gate → FourTapes → Mail
mail_dealt entries gates t = run_messages (gates_dealt entries t.dealer gates) no_values (miners_of t)

-- the schedule is accepted, and by it the miners see these views
pub record AreSeen (entries : List Entry) (gates : List Gate) (t : FourTapes) (views : Views) (ls : List Link) : Type 0 where
  pub accepted : net (scripts_dealt entries gates t) (Listed ls) ≡ Accepted
  pub sees : (i : Number) → shown (seen_by i entries gates t (Listed ls)) ≡ views i

-- ---- views read back

module _ (part : List PublicEntry) (views : Views) where
  -- the tapes begin with the words that are found, the dealer's and those that the miners drew
  pub record BeginWith (t : FourTapes) : Type 0 where
    pub more : List ℕ
    pub dealer : t.dealer ≡ dealt_with part views ++ more
    pub rests : Number → List ℕ
    pub miners : (i : Number) → miners_of t i ≡ (views i).drew ++ rests i

  module _ (gates : List Gate) (t : FourTapes) where
    abbrev pub gates_found : List model.Gate
    gates_found = gates_dealt (found part views) t.dealer gates

    abbrev pub scripts_found : Number → List Move
    scripts_found = scripts_dealt (found part views) gates t

    -- the steps find nothing wrong: each hidden input has its line, the sums of the shares are of its type, each miner drew as many words as the
    -- gates want, and each message is the next of its link
    pub record PassSteps : Type 0 where
      pub shares : (i : Number) → wrong_share_at part (views i).inputs ≡ None
      pub sums : wrong_sums_at part (views One).inputs (views Two).inputs (views Three).inputs ≡ None
      pub drew : (i : Number) → length (views i).drew ≡ needed gates_found i
      pub next : AreNext (mail_dealt (found part views) gates t) (got_of views)

-- the inputs are found, and the words that were taken; and whatever stands after these the steps find nothing wrong and nothing is left
pub record IsReadBack (entries : List Entry) (views : Views) (gates : List Gate) (t : FourTapes) : Type 0 where
  pub entries_are : found (part_of entries) views ≡ entries
  pub dealer_is : dealt_with (part_of entries) views ≡ take (need_of entries) t.dealer
  pub drew : (i : Number) → (views i).drew ≡ take (needed (gates_dealt entries t.dealer gates) i) (miners_of t i)
  pub passes : (other : FourTapes) → BeginWith (part_of entries) views other → PassSteps (part_of entries) views gates other
  pub leaves_none :
      (other : FourTapes) (ls : List Link) (left : Orders) (i : Number) → BeginWith (part_of entries) views other
      → Stuck (scripts_found (part_of entries) views gates other) (orders_of (got_of views)) ls left → left i ≡ []
