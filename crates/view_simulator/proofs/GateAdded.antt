-- After one gate more the simulator stands where the definitions say.
use Rattle.std.proofs.Common.{◌≡◌, ℕ, ◌≤◌, List, [], ◌∷◌, ◌++◌, length, drop, refl, sym, ◌∙◌, ap, subst}
use Rattle.proto_core.specs.declared.party.Number.{Number}
use Rattle.proto_core.specs.Parties.{from_previous, from_next}
use Rattle.proto_core.specs.Strand.{Mail, Ends}
use Rattle.proto_core.specs.Net.{mail_of}
use Rattle.protocol_model.specs.Gates as model
use Rattle.protocol_model.specs.Gates.{needed, sizes_of}
use Rattle.protocol_model.specs.Runs.{Tapes}
use Rattle.protocol_model.specs.Views.{made_values}
use Rattle.gates.specs.declared.gate.Gate.{Gate}
use Rattle.gates.specs.Clear.{Values}
use Rattle.shared_gates.specs.Model.{SizesSuit, sizes_made}
use Rattle.joint_run.specs.Three.{each_of}
use Rattle.block_steps.specs.declared.links.Links.{Links}
use Rattle.block_steps.specs.Outcomes.{mail_left}
use Rattle.gate_node.specs.declared.engine.Engine.{Engine}
use Rattle.gate_node.specs.declared.engine.AtWork.{AtWork}
use Rattle.gate_node.specs.declared.engine.AtWork.TheVariants as work
use Rattle.gate_node.specs.OwnGates.{Whole, own_draws, own_gates}
use Rattle.gate_node.specs.Plans.{then_wanted}
use Rattle.gate_node.specs.Nodes.{work_left, engine_left, with_links, Keeps}
use Rattle.view_simulator.specs.declared.simulator.Simulator.{Simulator}
use Rattle.view_simulator.specs.Standing.{past}
use Rattle.view_simulator.specs.Simulators.{EndsOn, more_mail, IsThrough, Rests, standing_of, gate_in, mail_in, Receives}
use Rattle.view_simulator.proofs.WholeGates.{on_both}
use Rattle.view_simulator.proofs.OneGate.{gate-ends, gate-makes}

-- messages that come change nothing of what is left to do
module _ {P : Type 0} (i : Number) (e : Engine P) (links : Links) where
  work-there : (w : AtWork P) → work_left i (with_links e links) w ≡ work_left i e w
  work-there work.Idle = refl
  work-there (work.Between r) = refl
  work-there (work.Within r block) = refl

  pub left-there : engine_left i (with_links e links) ≡ engine_left i e
  left-there = ap (then_wanted i e.dealt e.wanted) (work-there e.work)

module _
    {P : Type 0} (i : Number) (s r : Simulator P) (gate : Gate) (rests : Rests i s)
    (suits : SizesSuit (sizes_of s.node.dealt) (sizes_of s.node.values) gate)
    (reach : (k : Number) → needed (gate_in i s gate ∷ []) k ≤ length (each_of s.tapes k))
    (receives : Receives i (gate_in i s gate) s r)
  where
    abbrev d : Values
    d = s.node.dealt

    abbrev own : Values
    own = s.node.values

    abbrev g : model.Gate
    g = gate_in i s gate

    abbrev tapes : Tapes
    tapes = each_of s.tapes

    abbrev mail : Mail
    mail = mail_in i s g

    abbrev links : Links
    links = more_mail i mail s.node.links

    abbrev all : Values
    all = made_values i (g ∷ []) own s.opened.now tapes

    abbrev tape : List ℕ
    tape = drop (own_draws i d own gate) (tapes i)

    pub left-is : engine_left i r.node ≡ Ends (Whole r.node.values r.node.tape.1)
    left-is =
        subst (λ e. engine_left i e ≡ Ends (Whole e.values e.tape.1)) (sym receives.node) (left-there i s.node links ∙ rests.through.left)

    mail-is : mail_left i links ≡ on_both i mail
    mail-is =
        ap (λ p. mail_of i (p ++ mail (from_previous i)) (s.node.links.from_next.1 ++ mail (from_next i))) rests.through.previous
        ∙ ap (λ n. mail_of i (mail (from_previous i)) (n ++ mail (from_next i))) rests.through.next

    pub ends-here : EndsOn (own_gates i r.node.dealt (gate ∷ []) r.node.values r.node.tape.1) (mail_left i r.node.links) (Whole all tape)
    ends-here =
        subst (λ e. EndsOn (own_gates i e.dealt (gate ∷ []) e.values e.tape.1) (mail_left i e.links) (Whole all tape)) (sym receives.node)
        (subst (λ t. EndsOn (own_gates i d (gate ∷ []) own t) (mail_left i links) (Whole all tape)) (sym rests.tape)
        (subst (λ m. EndsOn (own_gates i d (gate ∷ []) own (tapes i)) m (Whole all tape)) (sym mail-is)
        (gate-ends i d own s.opened.now tapes gate suits reach)))

    module _
        (t : Simulator P) (through : IsThrough i all tape t.node) (mails : t.mails ≡ r.mails) (opened : t.opened.now ≡ r.opened.now)
        (lists : t.tapes ≡ r.tapes)
      where
        tapes-are : each_of t.tapes ≡ (λ k. drop (needed (g ∷ []) k) (tapes k))
        tapes-are = ap each_of lists ∙ receives.tapes

        pub stands-behind : standing_of i t ≡ past i (g ∷ []) (standing_of i s)
        stands-behind =
            let pr = ap (λ m. m.previous) mails ∙ receives.mails.previous in
            let ne = ap (λ m. m.next) mails ∙ receives.mails.next in
            let op = opened ∙ receives.opened in
            λ x. record { own = through.values x; opened = op x; tapes = tapes-are x; previous = pr x; next = ne x }

        pub rests-behind : Rests i t
        rests-behind =
            record {
              through =
                  record {
                    left = through.left ∙ ap (λ v. Ends (Whole v tape)) (sym through.values) ∙ ap (λ w. Ends (Whole t.node.values w)) (sym through.tape);
                    values = refl;
                    tape = refl;
                    previous = through.previous;
                    next = through.next;
                  };
              tape = through.tape ∙ sym (ap (λ f. f i) tapes-are);
            }

        pub sizes-behind : sizes_of t.node.values ≡ sizes_of own ++ sizes_made (sizes_of d) (sizes_of own) gate
        sizes-behind = ap sizes_of through.values ∙ gate-makes i d own s.opened.now tapes gate suits reach

    pub dealt-behind : (e : Engine P) → Keeps r.node e → e.dealt ≡ d
    dealt-behind e keeps = keeps.dealt ∙ ap (λ n. n.dealt) receives.node
