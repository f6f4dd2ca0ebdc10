-- A miner whose peers send all that the run of the three sends ends as evaluation does.
use Rattle.std.proofs.Common.{◌≡◌, ◌-◌, ℕ, List, true, Option, None, length, refl, ap, ◌∙◌, subst}
use Rattle.std.specs.Prelude.{nat_le}
use Rattle.sc_text.specs.declared.end.Ending.{Ending}
use Rattle.proto_core.specs.declared.party.Number.{Number}
use Rattle.proto_core.specs.declared.party.Number.TheVariants.{One, Two, Three}
use Rattle.proto_core.specs.Strand.{Act, Mail, Strand, run, told_in}
use Rattle.proto_core.specs.Net.{into, run_of}
use Rattle.protocol_model.specs.Runs.{Tapes}
use Rattle.program_trees.specs.TypedPrograms.{TypedProgramTree}
use Rattle.value_file.specs.declared.inputs.Entry.{Entry}
use Rattle.tape_file.specs.Tapes.{FourTapes}
use Rattle.input_share.specs.Dealing.{dealt}
use Rattle.input_share.specs.ShareFile.{MinerFile}
use Rattle.input_share.proofs.ShapeLaws.{shapes_of-dealt}
use Rattle.language_model.specs.Effects.{Answers, World, GivenInput}
use Rattle.language_model.specs.Reports.{Offered, Report, dealing, world_of}
use Rattle.blind_evaluation.proofs.Inputs.{same_dealing}
use Rattle.clear_eval.specs.Offers.{offered, offered_part, offered_with}
use Rattle.clear_eval.proofs.PublicParts.{entries_are_public}
use Rattle.verified_code.specs.Settled.{settled}
use Rattle.verified_code.specs.Steps.{Function}
use Rattle.view_model.specs.TapeMaps.{miners_of}
use Rattle.code_places.specs.Dealt.{Dealt}
use Rattle.code_runs.specs.Laws.{MayRunShared}
use Rattle.program_run.specs.Inputs.{dealt_of}
use Rattle.program_run.specs.Reports.{eval_with, lengths_of}
use Rattle.program_run.proofs.Shared.{can_run_so, report_so}
use Rattle.own_code.specs.OwnCode.{Ended}
use Rattle.miner_core.specs.Story.{strand_in}
use Rattle.joined_nodes.specs.Runs.{messages}
use Rattle.joined_nodes.specs.OwnRuns.{own_nodes, own_end, public_world, OwnRunAsReported}
use Rattle.joined_nodes.proofs.OwnRuns.{own_miners_run_the_code}
use Rattle.wire.specs.Hellos.{HasDigests}
use Rattle.miner_node.specs.Laws.{AreHonest}
use Rattle.miner_node.specs.Serving.{Finished, Serving, serving}
use Rattle.miner_node.proofs.Honest.{ends_with_honest_peers}
use Rattle.node_run.specs.Made.{first_story, known_text, share_world, strand_of, undealt, undealt_in, unless_undealt}
use Rattle.node_run.specs.Nodes.{Own, ended_at, own_hello, own_serving, own_strand}
use Rattle.honest_miners.specs.Honest.{HasItsPart, EndsAsEvaluated, EndsWithTheRun, run_messages}
use Rattle.honest_miners.proofs.Digests.{sha256_length}

-- ---- A STRAND THAT ENDS WITH THE RUN'S MESSAGES

module _ (me : Number) (own : Own) (o : Offered) (d : Dealt) (tapes : Tapes) (r : Report) (ran : OwnRunAsReported o d (settled own.code) own.budget tapes r)
    (same : own_strand me own ≡ own_nodes o d (settled own.code) own.budget tapes me) (digest : length own.digest ≡ 32) (coming : ℕ → List ℕ)
    (honest : AreHonest me (own_hello me own) (messages d r tapes) coming) where
  abbrev nodes : Number → Strand Ended
  nodes = own_nodes o d (settled own.code) own.budget tapes

  abbrev full : Mail
  full = messages d r tapes

  abbrev last : Ended
  last = own_end d tapes r ran.turns.last me

  digests : HasDigests (own_hello me own)
  digests = record { code = digest; public = sha256_length (known_text own.share own.budget) }

  ends : ((serving me (own_hello me own) (nodes me) coming).outcome ≡ Finished last)
      × ((serving me (own_hello me own) (nodes me) coming).acts ≡ (run (nodes me) (into me full)).acts)
  ends = ends_with_honest_peers me (own_hello me own) (nodes me) full coming digests honest last (ran.finishes.ended me)

  served_is : own_serving me own coming ≡ serving me (own_hello me own) (nodes me) coming
  served_is = ap (λ (s : Strand Ended). serving me (own_hello me own) s coming) same

  pub ends_as : EndsAsEvaluated me own r (own_serving me own coming)
  ends_as =
      record {
        last = last;
        comes = ap (λ (s : Serving). s.outcome) served_is ∙ ends.0;
        end = record { how = ran.turns.stops.ending; cost = own.budget - ran.turns.last.stage.left };
        ends = ap (λ (h : Option Ending). ended_at h (own.budget - ran.turns.last.stage.left)) ran.turns.stops.ended;
        how = ran.turns.stops.stop;
        cost = ran.turns.stops.cost;
        all = λ i. told_in (run_of nodes full i).acts;
        tells = ran.told;
        told = ap (λ (s : Serving). told_in s.acts) served_is ∙ ap (λ (acts : List Act). told_in acts) ends.1;
      }

-- ---- WHAT THE MINER KNOWS

shares_known : (me : Number) (entries : List Entry) (t : FourTapes)
    → share_world (dealt me entries t.dealer (lengths_of t)) ≡ public_world (offered entries (lengths_of t))
shares_known me entries t =
    ap (λ part. world_of Answers (offered_part part (lengths_of t))) (shapes_of-dealt me entries t.dealer)
    ∙ ap (λ (inputs : List GivenInput). world_of Answers (offered_with inputs (lengths_of t))) (entries_are_public entries)

is_dealt : (w : World) → nat_le (dealing w) w.dealer ≡ true → undealt_in w ≡ None
is_dealt w h = rw h refl

module _ (p : TypedProgramTree) (entries : List Entry) (t : FourTapes) (me : Number) (own : Own) (coming : ℕ → List ℕ) (h : HasItsPart p entries t me own) where
  abbrev offer : Offered
  offer = offered entries (lengths_of t)

  abbrev shares : Dealt
  shares = dealt_of entries t.dealer

  abbrev code : List Function
  code = settled own.code

  may : MayRunShared offer shares code (miners_of t)
  may = can_run_so p h.accepted own.code h.code entries t h.can.sound h.can.suffice (h.can.words One) (h.can.words Two) (h.can.words Three)

  pub ran : OwnRunAsReported offer shares code own.budget (miners_of t) (eval_with p entries t own.budget)
  ran =
      subst (λ (r : Report). OwnRunAsReported offer shares code own.budget (miners_of t) r)
      (report_so p h.accepted own.code h.code entries t h.can.sound h.can.suffice (h.can.words One) (h.can.words Two) (h.can.words Three) own.budget)
      (own_miners_run_the_code offer shares code own.budget (miners_of t) may)

  all_dealt : undealt (dealt me entries t.dealer (lengths_of t)) ≡ None
  all_dealt =
      ap undealt_in (shares_known me entries t)
      ∙ is_dealt (public_world offer) (ap (λ (n : ℕ). nat_le n offer.dealer) (same_dealing offer) ∙ may.dealer)

  -- its strand, with the share file that it was dealt
  dealt_strand : strand_of me own.code (dealt me entries t.dealer (lengths_of t)) (miners_of t me) own.budget
      ≡ own_nodes offer shares code own.budget (miners_of t) me
  dealt_strand =
      let file = dealt me entries t.dealer (lengths_of t) in
      ap (λ (u : Option Ending). unless_undealt u me (first_story own.code file (miners_of t me) own.budget)) all_dealt
      ∙ ap (λ (w : World). strand_in me (record (first_story own.code file (miners_of t me) own.budget) { world = w })) (shares_known me entries t)

  pub same_strand : own_strand me own ≡ own_nodes offer shares code own.budget (miners_of t) me
  same_strand =
      ap (λ (file : MinerFile). strand_of me own.code file own.tape own.budget) h.share
      ∙ ap (λ (tape : List ℕ). strand_of me own.code (dealt me entries t.dealer (lengths_of t)) tape own.budget) h.tape
      ∙ dealt_strand

  pub ends_so : AreHonest me (own_hello me own) (run_messages p entries t me own.budget) coming
      → EndsAsEvaluated me own (eval_with p entries t own.budget) (own_serving me own coming)
  ends_so honest =
      ends_as me own offer shares (miners_of t) (eval_with p entries t own.budget) ran same_strand h.digest coming honest

pub ends_with_the_run : (p : TypedProgramTree) (entries : List Entry) (t : FourTapes) (me : Number) (own : Own) (coming : ℕ → List ℕ)
    → EndsWithTheRun p entries t me own coming
ends_with_the_run p entries t me own coming h honest = ends_so p entries t me own coming h honest
