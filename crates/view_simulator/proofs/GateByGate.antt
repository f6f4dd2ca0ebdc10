-- The gates of a list, one after another.
use Rattle.std.proofs.Common.{◌≡◌, ℕ, ◌+◌, ◌-◌, ◌≤◌, List, [], ◌∷◌, ◌++◌, length, drop, refl, sym, ◌∙◌, ap, subst, arith, length-drop, append_assoc}
use Rattle.std.proofs.lemmas.List.{drop-drop}
use Rattle.proto_core.specs.declared.party.Number.{Number}
use Rattle.proto_core.specs.Parties.{from_previous, from_next}
use Rattle.proto_core.specs.Strand.{Ends}
use Rattle.proto_core.proofs.Beginnings.{append-none}
use Rattle.protocol_model.specs.Gates as model
use Rattle.protocol_model.specs.Gates.{Joined, Local, needed, sizes_of}
use Rattle.protocol_model.specs.Runs.{Tapes, left}
use Rattle.protocol_model.specs.Views.{made_mail, made_blocks, made_messages, made_values}
use Rattle.gates.specs.declared.gate.Gate.{Gate}
use Rattle.gates.specs.Clear.{Values}
use Rattle.shared_gates.specs.Model.{SizesSuit, AllSizesSuit, sizes_made, run_gate, run_gates}
use Rattle.joint_run.specs.Three.{each_of}
use Rattle.gate_node.specs.OwnGates.{Whole}
use Rattle.gate_node.specs.Nodes.{engine_left}
use Rattle.view_simulator.specs.declared.simulator.Simulator.{Simulator}
use Rattle.view_simulator.specs.declared.made_gates.MadeRun.{MadeRun}
use Rattle.view_simulator.specs.Standing.{Standing, begun, opens_in, past}
use Rattle.view_simulator.specs.Simulators.{Rests, standing_of, gate_in}
use Rattle.view_simulator.specs.Made.{own_run, IsMade}

-- ---- a gate, and those after it

none-more : (n : ℕ) → n + 0 ≡ n
none-more n = omega arith

module _ (i : Number) where
  pub past-none : (s : Standing) → past i [] s ≡ s
  past-none s =
      λ d.
      record { own = s.own; opened = s.opened; tapes = s.tapes; previous = append-none s.previous d; next = append-none s.next d }

  module _ (s : Standing) (own : List (List ℕ)) (opened : List ℕ) (tapes : Tapes) (previous next : List (List ℕ)) where
    abbrev here : Standing
    here = record { own = own; opened = opened; tapes = tapes; previous = s.previous ++ previous; next = s.next ++ next }

    -- where so much is opened and drawn, and these messages came
    abbrev all_past : (opens : ℕ) → (needs : Number → ℕ) → List model.Gate → Standing
    all_past opens needs gates =
        record {
          own = made_values i gates own opened tapes;
          opened = drop opens s.opened;
          tapes = λ k. drop (needs k) (s.tapes k);
          previous = s.previous ++ (previous ++ made_messages i gates own opened tapes (from_previous i));
          next = s.next ++ (next ++ made_messages i gates own opened tapes (from_next i));
        }

    behind-here :
        (opens : ℕ) (needs : Number → ℕ) (gates : List model.Gate) → opened ≡ drop opens s.opened → ((k : Number) → tapes k ≡ drop (needs k) (s.tapes k)) →
        all_past (opens + opens_in gates) (λ k. needs k + needed gates k) gates ≡ past i gates here
    behind-here opens needs gates o t =
        let op : drop (opens + opens_in gates) s.opened ≡ drop (opens_in gates) opened =
        sym (drop-drop (opens_in gates) opens s.opened) ∙ ap (drop (opens_in gates)) (sym o) in
        let ta : (k : Number) → drop (needs k + needed gates k) (s.tapes k) ≡ drop (needed gates k) (tapes k) =
        λ k. sym (drop-drop (needed gates k) (needs k) (s.tapes k)) ∙ ap (drop (needed gates k)) (sym (t k)) in
        let pr = sym (append_assoc s.previous previous (made_messages i gates own opened tapes (from_previous i))) in
        let ne = sym (append_assoc s.next next (made_messages i gates own opened tapes (from_next i))) in
        λ d.
        record { own = made_values i gates own opened tapes; opened = op d; tapes = λ k. ta k d; previous = pr d; next = ne d }

    just-here :
        (opens : ℕ) (needs : Number → ℕ) → opened ≡ drop opens s.opened → ((k : Number) → tapes k ≡ drop (needs k) (s.tapes k)) →
        all_past (opens + 0) (λ k. needs k + 0) [] ≡ here
    just-here opens needs o t = behind-here opens needs [] o t ∙ past-none here

  pub past-first : (g : model.Gate) (gates : List model.Gate) (s : Standing) → past i (g ∷ gates) s ≡ past i gates (past i (g ∷ []) s)
  past-first (Joined p n u v) gates s =
      let own = s.own ++ made_blocks i p n u v s.own s.opened s.tapes in
      let opened = drop (p.opens n) s.opened in
      let tapes = left p n s.tapes in
      let previous = made_mail i p n u v s.own s.opened s.tapes (from_previous i) in
      let next = made_mail i p n u v s.own s.opened s.tapes (from_next i) in
      behind-here s own opened tapes previous next (p.opens n) (p.draws n) gates refl (λ k. refl)
      ∙ ap (past i gates) (sym (just-here s own opened tapes previous next (p.opens n) (p.draws n) refl (λ k. refl)))
  past-first (Local n f) gates s =
      let own = s.own ++ f i s.own ∷ [] in
      let same : (x : List (List ℕ)) → x ++ [] ≡ x = append-none in
      λ d.
      record {
        own = made_values i gates own s.opened s.tapes;
        opened = drop (opens_in gates) s.opened;
        tapes = λ k. drop (needed gates k) (s.tapes k);
        previous = sym (same s.previous) d ++ made_messages i gates own s.opened s.tapes (from_previous i);
        next = sym (same s.next) d ++ made_messages i gates own s.opened s.tapes (from_next i);
      }

needed-first : (k : Number) (g : model.Gate) (gates : List model.Gate) → needed (g ∷ gates) k ≡ needed (g ∷ []) k + needed gates k
needed-first k (Joined p n u v) gates = ap (λ m. m + needed gates k) (sym (none-more (p.draws n k)))
needed-first k (Local n f) gates = omega arith

-- ---- the simulator at these gates

abbrev run : Values → (sizes : List ℕ) → List Gate → List model.Gate
run own sizes gates = run_gates (λ k. own) (sizes_of own) sizes gates

-- these gates are left
pub record Goes {P : Type 0}
    (i : Number) (own : Values) (gates : List Gate) (opened : List ℕ) (tapes : Tapes) (rest : List Gate) (s : Simulator P) : Type 0
  where
    pub rests : Rests i s
    pub dealt : s.node.dealt ≡ own
    pub suit : AllSizesSuit (sizes_of own) (sizes_of s.node.values) rest
    pub reach : (k : Number) → needed (run own (sizes_of s.node.values) rest) k ≤ length (each_of s.tapes k)
    pub is : past i (run own (sizes_of s.node.values) rest) (standing_of i s) ≡ past i (own_run own gates) (begun opened tapes)

module _ {P : Type 0} (i : Number) (own : Values) (gates : List Gate) (opened : List ℕ) (tapes : Tapes) (gate : Gate) (rest : List Gate) (s : Simulator P)
    (goes : Goes i own gates opened tapes (gate ∷ rest) s)
  where
    abbrev sizes : List ℕ
    sizes = sizes_of s.node.values

    abbrev later : List ℕ
    later = sizes ++ sizes_made (sizes_of own) sizes gate

    abbrev g : model.Gate
    g = run_gate (λ k. own) (sizes_of own) sizes gate

    gate-is : gate_in i s gate ≡ g
    gate-is = ap (λ d. run_gate (λ k. d) (sizes_of d) sizes gate) goes.dealt

    pub suits-now : SizesSuit (sizes_of s.node.dealt) sizes gate
    suits-now = subst (λ d. SizesSuit (sizes_of d) sizes gate) (sym goes.dealt) goes.suit.0

    pub reach-now : (k : Number) → needed (gate_in i s gate ∷ []) k ≤ length (each_of s.tapes k)
    reach-now k =
        let all : needed (g ∷ run own later rest) k ≤ length (each_of s.tapes k) = goes.reach k in
        let apart = needed-first k g (run own later rest) in
        let one : needed (g ∷ []) k ≤ length (each_of s.tapes k) = omega arith in
        subst (λ h. needed (h ∷ []) k ≤ length (each_of s.tapes k)) (sym gate-is) one

    pub goes-on :
        (t : Simulator P) → standing_of i t ≡ past i (gate_in i s gate ∷ []) (standing_of i s) → Rests i t → t.node.dealt ≡ s.node.dealt →
        sizes_of t.node.values ≡ sizes ++ sizes_made (sizes_of s.node.dealt) sizes gate → Goes i own gates opened tapes rest t
    goes-on t is rests dealt made =
        let new : sizes_of t.node.values ≡ later = made ∙ ap (λ d. sizes ++ sizes_made (sizes_of d) sizes gate) goes.dealt in
        let stands : standing_of i t ≡ past i (g ∷ []) (standing_of i s) = is ∙ ap (λ h. past i (h ∷ []) (standing_of i s)) gate-is in
        record {
          rests = rests;
          dealt = dealt ∙ goes.dealt;
          suit = subst (λ n. AllSizesSuit (sizes_of own) n rest) (sym new) goes.suit.1;
          reach = λ k.
              let all : needed (g ∷ run own later rest) k ≤ length (each_of s.tapes k) = goes.reach k in
              let apart = needed-first k g (run own later rest) in
              let tape : each_of t.tapes k ≡ drop (needed (g ∷ []) k) (each_of s.tapes k) = ap (λ st. st.tapes k) stands in
              let size : length (each_of t.tapes k) ≡ length (each_of s.tapes k) - needed (g ∷ []) k =
              ap length tape ∙ length-drop (needed (g ∷ []) k) (each_of s.tapes k) in
              let le : needed (run own later rest) k ≤ length (each_of t.tapes k) = omega arith in
              subst (λ n. needed (run own n rest) k ≤ length (each_of t.tapes k)) (sym new) le;
          is =
              ap (λ n. past i (run own n rest) (standing_of i t)) new
              ∙ ap (past i (run own later rest)) stands
              ∙ sym (past-first i g (run own later rest) (standing_of i s))
              ∙ goes.is;
        }

-- no gate is run yet
pub goes-begin :
    {P : Type 0} (i : Number) (own : Values) (gates : List Gate) (opened : List ℕ) (tapes : Tapes) (s : Simulator P) (tape : List ℕ) →
    engine_left i s.node ≡ Ends (Whole [] tape) → s.node.values ≡ [] → s.node.tape ≡ (tape, tape) → s.node.links.from_previous ≡ ([], []) →
    s.node.links.from_next ≡ ([], []) → s.node.dealt ≡ own → tape ≡ tapes i → each_of s.tapes ≡ tapes → s.opened.now ≡ opened →
    s.mails.previous ≡ [] → s.mails.next ≡ [] → AllSizesSuit (sizes_of own) [] gates →
    ((k : Number) → needed (own_run own gates) k ≤ length (tapes k)) → Goes i own gates opened tapes gates s
goes-begin i own gates opened tapes s tape left values tapes_are previous next dealt is_tape lists told sent_p sent_n suit reach =
    let none : sizes_of s.node.values ≡ [] = ap sizes_of values in
    let rest : s.node.tape.1 ≡ tape = ap (λ t. t.1) tapes_are in
    let start : standing_of i s ≡ begun opened tapes =
    λ d. record { own = values d; opened = told d; tapes = lists d; previous = sent_p d; next = sent_n d } in
    record {
      rests =
          record {
            through =
                record {
                  left = left ∙ ap (λ v. Ends (Whole v tape)) (sym values) ∙ ap (λ t. Ends (Whole s.node.values t)) (sym rest);
                  values = refl;
                  tape = refl;
                  previous = ap (λ p. p.1) previous;
                  next = ap (λ p. p.1) next;
                };
            tape = rest ∙ is_tape ∙ sym (ap (λ f. f i) lists);
          };
      dealt = dealt;
      suit = subst (λ n. AllSizesSuit (sizes_of own) n gates) (sym none) suit;
      reach = λ k.
          subst (λ f. needed (run own (sizes_of s.node.values) gates) k ≤ length (f k)) (sym lists)
          (subst (λ n. needed (run own n gates) k ≤ length (tapes k)) (sym none) (reach k));
      is = ap (λ n. past i (run own n gates) (standing_of i s)) none ∙ ap (past i (own_run own gates)) start;
    }

-- no gate is left
pub all-made :
    {P : Type 0} (i : Number) (own : Values) (gates : List Gate) (opened : List ℕ) (tapes : Tapes) (s : Simulator P) (made : MadeRun) →
    Goes i own gates opened tapes [] s → made.mails ≡ s.mails → made.left ≡ s.tapes → IsMade i (own_run own gates) opened tapes made
all-made i own gates opened tapes s made goes mails left =
    let is : standing_of i s ≡ past i (own_run own gates) (begun opened tapes) = sym (past-none i (standing_of i s)) ∙ goes.is in
    record {
      previous = ap (λ m. m.previous) mails ∙ ap (λ st. st.previous) is;
      next = ap (λ m. m.next) mails ∙ ap (λ st. st.next) is;
      left = λ k. ap (λ t. each_of t k) left ∙ ap (λ st. st.tapes k) is;
    }
