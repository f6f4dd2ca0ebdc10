-- Three nodes with one code, dealing and budget, each of which has received what begins what its peers have sent, agree with the run.
use Rattle.std.proofs.Common.{◌≡◌, ◌≢◌, ◌-◌, ℕ, true, false, if◌then◌else◌, List, [], refl, sym, ◌∙◌, ap, subst}
use Rattle.proto_core.specs.declared.party.Number.{Number}
use Rattle.proto_core.specs.declared.party.Number.TheVariants.{One, Two, Three}
use Rattle.proto_core.specs.declared.link.Link.{Link}
use Rattle.proto_core.specs.declared.refused.BadMessage.{BadMessage}
use Rattle.proto_core.specs.Parties.{sender_of, receiver_of, is_same}
use Rattle.proto_core.specs.Strand.{Mail, Notice, Strand, Ends, Begins, Agree, IsEnded, run, on_link, opened_in, told_in}
use Rattle.proto_core.specs.Net.{into, run_of, posted, opened_by, MailBegins, Finishes}
use Rattle.proto_core.specs.Standing.{AtItsEnd, Refuses, standing_of}
use Rattle.proto_core.proofs.Beginnings.{begins-trans}
use Rattle.proto_core.proofs.Strands.{MailAgrees, run-most, run-ended}
use Rattle.proto_core.proofs.Nets.{into-more, nodes-agree, nodes-sent, nodes-opened}
use Rattle.protocol_model.specs.Complete.{IsThrough}
use Rattle.protocol_model.specs.Runs.{Tapes}
use Rattle.protocol_model.proofs.Completing.{is-through}
use Rattle.bytecode.specs.Raw.{RawCode}
use Rattle.tape_file.specs.Tapes.{FourTapes}
use Rattle.value_file.specs.declared.inputs.Entry.{Entry}
use Rattle.program_trees.specs.TypedPrograms.{TypedProgramTree}
use Rattle.gates.specs.Clear.{Values}
use Rattle.language_model.specs.Learned.{learned_of}
use Rattle.language_model.specs.Reports.{Report, Offered}
use Rattle.verified_code.specs.Settled.{settled}
use Rattle.verified_code.specs.Steps.{Function}
use Rattle.code_places.specs.Dealt.{Dealt}
use Rattle.view_model.specs.TapeMaps.{miners_of}
use Rattle.driven_nodes.specs.Steps.{Stopped}
use Rattle.miner_runs.specs.Accepted.{IsAccepted}
use Rattle.miner_runs.specs.Codes.{IsCodeOf}
use Rattle.miner_runs.specs.Dealt.{CanBeDealt}
use Rattle.miner_runs.specs.Inputs.{dealt_of}
use Rattle.miner_runs.specs.Offers.{offered}
use Rattle.miner_runs.specs.Reports.{lengths_of}
use Rattle.miner_runs.proofs.Shared.{can_run_so, report_so}
use Rattle.miner_core.specs.Meaning.{mean}
use Rattle.miner_core.specs.OwnCode.{Ended, Reached}
use Rattle.miner_core.specs.declared.answer.End.TheVariants as end
use Rattle.miner_core.specs.Story.{Story, node, has_opened, has_told, stands_at, HasEnded}
use Rattle.miner_runs.specs.Places.{Place}
use Rattle.miner_runs.specs.Runs.{messages}
use Rattle.miner_runs.specs.OwnRuns.{own_nodes, own_end, OwnRunAsReported}
use Rattle.miner_runs.proofs.OwnRuns.{own_miners_run_the_code}
use Rattle.miner_runs.proofs.Stories.{does_its_part}
use Rattle.joined_nodes.specs.Joined.{sent_by, AreJoined, EndsAs, AgreeWith}
use Rattle.joined_nodes.specs.Laws.{JoinedNodesAgree, JoinedNodesAgreeOnPrograms}
use Rattle.joined_nodes.proofs.Ends.{ended_at, beginning_is_accepted, begins-told}

into_agree : (i : Number) (x y : Mail) → MailAgrees x y → MailAgrees (into i x) (into i y)
into_agree i x y h l = elim (is_same (receiver_of l) i) as (λ b. Agree (if b then x l else []) (if b then y l else [])) [ true ↦ h l | false ↦ tt ]

same_place : (p q : Place) (x y : Values) → Ends (Reached (Stopped p) x) ≡ Ends (Reached (Stopped q) y) → p ≡ q
same_place p q x y e = cc

module _ (o : Offered) (d : Dealt) (c : List Function) (budget : ℕ) (tapes : Tapes) (r : Report) (ran : OwnRunAsReported o d c budget tapes r)
    (nodes : Number → Story) (mail : Mail) (joined : AreJoined o d c budget tapes nodes mail) where
  abbrev own : Number → Strand Ended
  own = own_nodes o d c budget tapes

  abbrev full : Mail
  full = messages d r tapes

  abbrev outputs : Number → Ended
  outputs = own_end d tapes r ran.turns.last

  each : (i : Number) → node i (nodes i) ≡ run_of own mail i
  each i = does_its_part o d c budget tapes i mail (nodes i) (joined.made i)

  posts : (l : Link) → sent_by nodes l ≡ posted own mail l
  posts l = ap (λ x. on_link l x.acts) (each (sender_of l))

  opens : (i : Number) → has_opened i (nodes i) ≡ opened_by own mail i
  opens i = ap (λ x. opened_in x.acts) (each i)

  tells : (i : Number) → has_told i (nodes i) ≡ told_in (run_of own mail i).acts
  tells i = ap (λ x. told_in x.acts) (each i)

  received : MailBegins mail (posted own mail)
  received l = subst (λ v. Begins (mail l) v) (posts l) (joined.received l)

  sent : MailBegins (posted own mail) full
  sent = nodes-sent own full mail outputs ran.finishes received

  begins : MailBegins mail full
  begins l = begins-trans _ _ _ (received l) (sent l)

  opened : (i : Number) → Begins (opened_by own mail i) (opened_by own full i)
  opened = nodes-opened own full mail outputs ran.finishes received

  at_end : (i : Number) → IsEnded (run_of own full i).left
  at_end i = subst (λ s. IsEnded s) (sym (ran.finishes.ended i)) tt

  acts : (i : Number) → Begins (run_of own mail i).acts (run_of own full i).acts
  acts i =
      run-most (own i) (into i mail) (into i full)
      (into_agree i mail full (nodes-agree own full mail outputs ran.finishes received)) (at_end i)

  over : (i : Number) → stands_at i (nodes i) ≡ AtItsEnd → IsEnded (run_of own mail i).left
  over i e = ended_at (own i) (into i mail) (sym (ap standing_of (each i)) ∙ e)

  through : (i : Number) → stands_at i (nodes i) ≡ AtItsEnd → IsThrough own full outputs mail i
  through i e = is-through own full outputs ran.finishes mail begins i (over i e)

  ends : (i : Number) → stands_at i (nodes i) ≡ AtItsEnd → (node i (nodes i)).left ≡ Ends (outputs i)
  ends i e = ap (λ x. x.left) (each i) ∙ (through i e).ended

  ends_so : (i : Number) → stands_at i (nodes i) ≡ AtItsEnd
      → EndsAs o d c budget tapes r ran.turns.stops.ending (told_in (run_of own full i).acts) i (nodes i)
  ends_so i e =
      record {
        ended = subst (λ s. HasEnded s (end.Over ran.turns.stops.ending)) (sym (ends i e)) ran.turns.stops.ended;
        cost = λ p values is.
            ap (λ (q : Place). budget - q.stage.left) (same_place p ran.turns.last values _ (sym is ∙ ends i e)) ∙ ran.turns.stops.cost;
        opened = opens i ∙ (through i e).opened ∙ ran.opened i;
        told = tells i
            ∙ sym (ap told_in (run-ended (own i) (into i mail) (into i full) (into-more own i mail full begins) (over i e)));
      }

  agree : AgreeWith o d c budget tapes r nodes
  agree =
      record {
        sent = λ l. subst (λ v. Begins v (full l)) (sym (posts l)) (sent l);
        opened = λ i. subst (λ v. Begins v (learned_of r.events)) (sym (opens i)) (subst (λ v. Begins (opened_by own mail i) v) (ran.opened i) (opened i));
        all = λ i. told_in (run_of own full i).acts;
        tells = ran.told;
        told = λ i. subst (λ v. Begins v (told_in (run_of own full i).acts)) (sym (tells i)) (begins-told _ _ (acts i));
        accepts = λ i l cause e.
            beginning_is_accepted (own i) (into i mail) (into i full) (into-more own i mail full begins) (at_end i) l cause
            (ap standing_of (sym (each i)) ∙ e);
        ending = ran.turns.stops.ending;
        stop = ran.turns.stops.stop;
        ended = ends_so;
      }

pub joined_nodes_agree : (o : Offered) (d : Dealt) (c : List Function) (budget : ℕ) (tapes : Tapes) (nodes : Number → Story) (mail : Mail)
    → JoinedNodesAgree o d c budget tapes nodes mail
joined_nodes_agree o d c budget tapes nodes mail may joined =
    agree o d c budget tapes (mean c o budget) (own_miners_run_the_code o d c budget tapes may) nodes mail joined

pub joined_nodes_agree_on_programs :
    (p : TypedProgramTree) (given : RawCode) (entries : List Entry) (t : FourTapes) (budget : ℕ) (nodes : Number → Story) (mail : Mail)
    → JoinedNodesAgreeOnPrograms p given entries t budget nodes mail
joined_nodes_agree_on_programs p given entries t budget nodes mail accepted code can joined =
    let o : Offered = offered entries (lengths_of t) in
    let d : Dealt = dealt_of entries t.dealer in
    let c : List Function = settled given in
    subst (λ (r : Report). AgreeWith o d c budget (miners_of t) r nodes)
    (report_so p accepted given code entries t can.sound can.suffice (can.words One) (can.words Two) (can.words Three) budget)
    (joined_nodes_agree o d c budget (miners_of t) nodes mail
    (can_run_so p accepted given code entries t can.sound can.suffice (can.words One) (can.words Two) (can.words Three)) joined)
