-- In views of one run the steps find nothing wrong, where the dealer's tape suffices.
use Rattle.std.proofs.Common.{◌≡◌, ℕ, ◌+◌, ◌≤◌, if◌then◌else◌, List, [], length, map, take, get_or, Some, None, refl, sym, ◌∙◌, ap, subst, arith}
use Rattle.std.proofs.lemmas.Bool.{eq-eqb}
use Rattle.std.proofs.lemmas.List.{length-take-le}
use Rattle.std.specs.Prelude.{nat_le, option_map, true}
use Rattle.sc_text.specs.declared.end.Ending.{Ending}
use Rattle.proto_core.specs.declared.link.Link.{Link}
use Rattle.proto_core.specs.declared.party.Number.{Number}
use Rattle.proto_core.specs.Parties.{is_same}
use Rattle.proto_core.specs.declared.party.Number.TheVariants.{One, Two, Three}
use Rattle.proto_core.proofs.Numbers.{same_itself}
use Rattle.protocol_model.specs.Gates.{needed}
use Rattle.protocol_model.specs.Network.{Listed, net}
use Rattle.program_trees.specs.Programs.{ProgramTree}
use Rattle.program_trees.specs.TypedPrograms.{TypedProgramTree}
use Rattle.reached_instances.specs.Instances.{Instance}
use Rattle.shared_gates.specs.Model.{miner_of}
use Rattle.value_file.specs.declared.inputs.Entry.{Entry}
use Rattle.value_file.specs.declared.public.PublicEntry.{PublicEntry}
use Rattle.value_file.specs.Public.{part_of}
use Rattle.tape_file.specs.Tapes.{FourTapes}
use Rattle.input_share.specs.Dealing.{need_of}
use Rattle.language_model.specs.Effects.{RunStop, Ended, Short}
use Rattle.language_model.specs.Reports.{Report}
use Rattle.gate_laws.specs.Dealt.{drawn_by}
use Rattle.view_text.specs.View.{View}
use Rattle.view_model.specs.Seen.{Seen, seen_by}
use Rattle.view_model.specs.TapeMaps.{gates_dealt, is_dealt, miners_of, CanRun}
use Rattle.view_model.proofs.Corresponding.{le_from}
use Rattle.program_views.specs.Inputs.{AreSound}
use Rattle.program_views.specs.Laws.{IsGivenTo}
use Rattle.program_views.specs.Views.{hidden_need, input_shares, lengths_of, nothing_seen, openings}
use Rattle.program_views.specs.Views.{received, run_on, scripts_of, seen_of, view_at, view_with}
use Rattle.program_views.proofs.Given.{need_known}
use Rattle.program_views.proofs.Simulated.{can_run}
use Rattle.audit_steps.specs.Ends.{wrong_end_at}
use Rattle.audit_steps.specs.Shares.{wrong_share_at}
use Rattle.found_inputs.specs.Found as found_inputs
use Rattle.merged_orders.specs.Merging.{Orders, Stuck}
use Rattle.gate_audit.specs.Shown.{Views, dealt_with, found}
use Rattle.gate_audit.specs.Passing.{AreSeen, BeginWith, IsGiven, IsReadBack, PassSteps, scripts_found}
use Rattle.gate_audit.proofs.Passed.{ready, view_of_parts}
use Rattle.gate_audit.proofs.Read.{is_read_back}
use Rattle.view_audit.specs.Audit.{orders, wanted}
use Rattle.view_audit.specs.Found.{entries_found, report, scripts, shows, suffices, tapes_found}
use Rattle.view_audit.specs.Laws.{IsAuditable, IsFound}
use Rattle.view_audit.specs.OneRun.{OneRun}
use Rattle.view_audit.specs.Steps.{drew_line, first_got, first_opening, stop_line}
use Rattle.view_audit.proofs.Fit.{AreFit, fit_from, have_words, length_at, line_is}
use Rattle.view_audit.proofs.LastLines.{lines_pass}
use Rattle.view_audit.proofs.Nothing.{FindNothing, nothing_found}
use Rattle.view_audit.proofs.Padded.{padded_long}
use Rattle.view_audit.proofs.Passed.{share_lines, wanted_is}

-- ---- the parts of a view

pub record IsViewOf (i : Number) (v : View) (seen : Seen) (r : Report) : Type 0 where
  pub whose : i ≡ v.miner
  pub inputs : input_shares seen.inputs ≡ v.inputs
  pub drew : seen.drew ≡ v.drew
  pub got : map received seen.got ≡ v.got
  pub lasts : stop_line r r.stop v ≡ None

some_same : {A : Type 0} (x y : A) → Some x ≡ Some y → x ≡ y
some_same x y e = cc

none_is_some : {A P : Type 0} (x : A) → None ≡ Some x → P
none_is_some x e = cc

module _ (i : Number) (v : View) (seen : Seen) (r : Report) where
  abbrev made : Ending → View
  made how =
      record {
        miner = i;
        inputs = input_shares seen.inputs;
        drew = seen.drew;
        got = map received seen.got;
        opened = openings r.events;
        end = record { how = how; cost = r.cost };
      }

  pub view_parts : (stop : RunStop) → r.stop ≡ stop → view_at i seen r stop ≡ Some v → IsViewOf i v seen r
  view_parts Short is e = none_is_some v e
  view_parts (Ended how) is e =
      let same : made how ≡ v = some_same (made how) v e in
      record {
        whose = ap (λ (x : View). x.miner) same;
        inputs = ap (λ (x : View). x.inputs) same;
        drew = ap (λ (x : View). x.drew) same;
        got = ap (λ (x : View). x.got) same;
        lasts =
            ap (λ s. stop_line r s v) is
            ∙ ap (option_map (λ k. first_opening v + k))
            (sym (ap (λ (x : View). wrong_end_at r.events (made how).end x.end x.opened) same) ∙ lines_pass r.events (made how).end);
      }

-- ---- the run that there is, and what is found of it

module _
    (source : ProgramTree) (p : TypedProgramTree) (is : List Instance) (part : List PublicEntry) (lengths : List ℕ) (budget : ℕ)
    (views : Number → View) (may : IsAuditable source p is part lengths views) (dealt : suffices part lengths ≡ true) (order : List Link)
    (one : OneRun p part lengths budget views order)
  where
    abbrev es : List Entry
    es = one.entries

    abbrev t : FourTapes
    t = one.tapes

    abbrev r : Report
    r = run_on p es lengths budget

    abbrev shown_views : Views
    shown_views = shows part lengths views

    run_is : run_on p es (lengths_of t) budget ≡ r
    run_is = ap (λ ls. run_on p es ls budget) one.long

    dealt_is : is_dealt es t ≡ true
    dealt_is =
        ap (λ n. nat_le n (length t.dealer)) (sym (need_known es) ∙ ap hidden_need one.known)
        ∙ ap (λ (ls : List ℕ). nat_le (hidden_need part) (get_or ls 0 0)) one.long
        ∙ dealt

    given : IsGivenTo source p is es
    given = record { program = may.program; inputs = one.sound }

    enough : need_of es ≤ length t.dealer
    enough = le_from (need_of es) (length t.dealer) dealt_is

    is_given : IsGiven es r.gates t
    is_given =
        let can : CanRun es (run_on p es (lengths_of t) budget).gates t = can_run source p is es given t one.words budget in
        record { tapes = one.words; enough = enough; reaches = subst (λ (x : Report). CanRun es x.gates t) run_is can enough }

    parts : (i : Number) → IsViewOf i (views i) (seen_by i es r.gates t (Listed order)) r
    parts i =
        view_parts i (views i) (seen_by i es r.gates t (Listed order)) r r.stop refl
        (sym (ap (λ (x : Report). view_with i (seen_of i es t (Listed order) x) x) run_is
        ∙ ap (λ b. view_with i (if b then seen_by i es r.gates t (Listed order) else nothing_seen) r) dealt_is)
        ∙ one.sees i)

    seen : AreSeen es r.gates t shown_views order
    seen =
        record {
          accepted = sym (ap (λ (x : Report). net (scripts_of es t x) (Listed order)) run_is) ∙ one.accepted;
          sees = λ i.
              view_of_parts (shown_views i) (found_inputs.input_shares (seen_by i es r.gates t (Listed order)).inputs)
              (seen_by i es r.gates t (Listed order)).drew
              (map received (seen_by i es r.gates t (Listed order)).got)
              (sym (share_lines (seen_by i es r.gates t (Listed order)).inputs)
              ∙ (parts i).inputs
              ∙ sym (line_is source p is part lengths views may dealt i))
              (parts i).drew (parts i).got;
        }

    back : IsReadBack es shown_views r.gates t
    back = is_read_back es shown_views r.gates t order one.sound.words (have_words source p is part lengths views may dealt) is_given seen

    -- ---- what is found

    found_is : entries_found part lengths views ≡ es
    found_is = ap (λ q. found q shown_views) (sym one.known) ∙ back.entries_are

    report_is : report part lengths views p budget ≡ r
    report_is = ap (λ e. run_on p e lengths budget) found_is

    -- ---- it fits

    few_dealt : length (dealt_with part shown_views) ≤ get_or lengths 0 0
    few_dealt =
        let words : length (dealt_with part shown_views) ≡ length (take (need_of es) t.dealer) =
        ap length (ap (λ q. dealt_with q shown_views) (sym one.known) ∙ back.dealer_is) in
        let fit_in : length (take (need_of es) t.dealer) ≡ need_of es = length-take-le (need_of es) t.dealer enough in
        let long : length t.dealer ≡ get_or lengths 0 0 = ap (λ (ls : List ℕ). get_or ls 0 0) one.long in
        omega (arith, words, fit_in, long, enough)

    few_drawn : (i : Number) → length (views i).drew ≤ length_at lengths i
    few_drawn i =
        let words : length (views i).drew ≡ length (take (needed (gates_dealt es t.dealer r.gates) i) (miners_of t i)) = ap length (back.drew i) in
        let reach : needed (gates_dealt es t.dealer r.gates) i ≤ length (miners_of t i) = (ready es r.gates t is_given).tapes_reach i in
        let fit_in : length (take (needed (gates_dealt es t.dealer r.gates) i) (miners_of t i)) ≡ needed (gates_dealt es t.dealer r.gates) i =
        length-take-le (needed (gates_dealt es t.dealer r.gates) i) (miners_of t i) reach in
        let long : length (miners_of t i) ≡ length_at lengths i = long_at i in
        omega (arith, words, fit_in, long, reach)
      where
        long_at : (i : Number) → length (miners_of t i) ≡ length_at lengths i
        long_at One = ap (λ (ls : List ℕ). get_or ls 1 0) one.long
        long_at Two = ap (λ (ls : List ℕ). get_or ls 2 0) one.long
        long_at Three = ap (λ (ls : List ℕ). get_or ls 3 0) one.long

    fit : AreFit source p is part lengths views
    fit =
        fit_from source p is part lengths views may dealt few_dealt few_drawn (ap part_of found_is ∙ one.known)
        (subst AreSound (sym found_is) one.sound)
        (let found_need : need_of (entries_found part lengths views) ≡ need_of es = ap need_of found_is in
        let whole : length (tapes_found part lengths views).dealer ≡ get_or lengths 0 0 =
        padded_long (dealt_with part shown_views) (get_or lengths 0 0) in
        let long : length t.dealer ≡ get_or lengths 0 0 = ap (λ (ls : List ℕ). get_or ls 0 0) one.long in
        omega (arith, found_need, whole, long, enough))

    begins : BeginWith (part_of es) shown_views (tapes_found part lengths views)
    begins = subst (λ q. BeginWith q shown_views (tapes_found part lengths views)) (sym one.known) fit.begins

    pass : PassSteps part shown_views (report part lengths views p budget).gates (tapes_found part lengths views)
    pass =
        subst (λ (x : Report). PassSteps part shown_views x.gates (tapes_found part lengths views)) (sym report_is)
        (subst (λ q. PassSteps q shown_views r.gates (tapes_found part lengths views)) one.known
        (back.passes (tapes_found part lengths views) begins))

    find_none : FindNothing p part lengths budget views
    find_none =
        record {
          inputs = λ i.
              ap (λ b. if b then option_map (λ k. 2 + k) (wrong_share_at (wanted p part lengths budget views) (views i).inputs) else Some 1)
              (ap (λ m. is_same m i) (sym (parts i).whose) ∙ same_itself i)
              ∙ ap (option_map (λ k. 2 + k))
              (ap (λ l. wrong_share_at l (views i).inputs) (wanted_is p part lengths budget views dealt)
              ∙ ap (wrong_share_at part) (sym (line_is source p is part lengths views may dealt i))
              ∙ pass.shares i);
          sums = ap (option_map (λ k. 2 + k)) pass.sums;
          draws = λ i.
              ap (λ b. if b then None else Some (drew_line (views i)))
              (eq-eqb (length (views i).drew) (drawn_by (report part lengths views p budget).drawn (miner_of i)) (pass.drew i ∙ fit.drawn budget i));
          got = λ i. ap (option_map (λ k. first_got (views i) + k)) (pass.next i);
          ends = λ i. ap (λ (x : Report). stop_line x x.stop (views i)) report_is ∙ (parts i).lasts;
        }

    left_none : (ls : List Link) (left : Orders) (i : Number)
        → Stuck (scripts part lengths views p budget) (orders p part lengths budget views) ls left → left i ≡ []
    left_none ls left i stuck =
        back.leaves_none (tapes_found part lengths views) ls left i begins
        (subst (λ q. Stuck (scripts_found q shown_views r.gates (tapes_found part lengths views)) (orders p part lengths budget views) ls left) (sym one.known)
        (subst (λ (x : Report). Stuck (scripts_found part shown_views x.gates (tapes_found part lengths views)) (orders p part lengths budget views) ls left)
        report_is stuck))

    pub is_found : IsFound p part lengths budget views
    is_found = record { steps = nothing_found p part lengths budget views find_none; leaves_none = left_none }
