-- Views in which the steps find nothing wrong are of one run, where the dealer's tape suffices.
use Rattle.std.proofs.Common.{◌≡◌, ℕ, ◌+◌, ◌≤◌, ◌==◌, true, if◌then◌else◌, List, [], ◌∷◌}
use Rattle.std.proofs.Common.{length, map, get_or, Option, Some, None, refl, sym, ◌∙◌, ap, subst}
use Rattle.std.proofs.lemmas.Bool.{eqb-true}
use Rattle.std.specs.Prelude.{nat_le, option_map}
use Rattle.sc_text.specs.declared.elements.Element.{Element}
use Rattle.sc_text.specs.declared.end.End.{End}
use Rattle.proto_core.specs.declared.link.Link.{Link}
use Rattle.proto_core.specs.declared.party.Number.{Number}
use Rattle.proto_core.specs.declared.party.Number.TheVariants.{One, Two, Three}
use Rattle.proto_core.specs.Parties.{is_same, from_previous, from_next}
use Rattle.proto_core.proofs.Numbers.{same_is}
use Rattle.protocol_model.specs.Network.{Accepted, Listed, net}
use Rattle.program_trees.specs.Programs.{ProgramTree}
use Rattle.program_trees.specs.TypedPrograms.{TypedProgramTree}
use Rattle.reached_instances.specs.Instances.{Instance}
use Rattle.shared_gates.specs.Model.{miner_of}
use Rattle.value_file.specs.declared.inputs.Entry.{Entry}
use Rattle.value_file.specs.declared.public.PublicEntry.{PublicEntry}
use Rattle.tape_file.specs.Tapes.{FourTapes}
use Rattle.input_share.specs.declared.entry.Part.{Part}
use Rattle.input_share.specs.declared.entry.Part.TheVariants as part_
use Rattle.input_share.specs.declared.entry.ShareEntry.{ShareEntry}
use Rattle.input_share.specs.Dealing.{need_of}
use Rattle.language_model.specs.Effects.{RunStop, Ended, Short}
use Rattle.language_model.specs.Reports.{Report}
use Rattle.gate_laws.specs.Dealt.{drawn_by}
use Rattle.view_text.specs.View.{InputShare, Received, View}
use Rattle.view_model.specs.Seen.{Seen, seen_by}
use Rattle.view_model.specs.TapeMaps.{is_dealt, CanRun}
use Rattle.program_views.specs.Views.{hidden_need, input_shares, lengths_of, net_of, nothing_seen, openings}
use Rattle.program_views.specs.Views.{received, run_on, scripts_of, seen_of, view_at, view_of, view_with}
use Rattle.program_views.proofs.Given.{need_known}
use Rattle.program_views.proofs.Simulated.{can_run}
use Rattle.view_model.proofs.Corresponding.{le_from}
use Rattle.audit_steps.specs.Messages.{wrong_at}
use Rattle.audit_steps.specs.Ends.{wrong_end_at}
use Rattle.audit_steps.specs.Shares.{wrong_share_at}
use Rattle.found_inputs.specs.Found as found_inputs
use Rattle.found_inputs.specs.Sums.{wrong_sums_at}
use Rattle.merged_orders.specs.Merging.{Orders, Stuck}
use Rattle.gate_audit.specs.Shown.{Shown}
use Rattle.gate_audit.specs.Passing.{AreSeen, IsGiven, PassSteps}
use Rattle.gate_audit.proofs.Passed.{are_seen}
use Rattle.view_audit.specs.Audit.{orders, wanted}
use Rattle.view_audit.specs.Found.{entries_found, lines, messages, report, scripts, shows, suffices, tapes_found, zero_lines}
use Rattle.view_audit.specs.OneRun.{OneRun}
use Rattle.view_audit.specs.Steps.{drew_line, first_got, first_opening, stop_line}
use Rattle.view_audit.proofs.Fit.{AreFit}
use Rattle.view_audit.proofs.Asked.{none_before, none_named, some_is_none, tested}
use Rattle.view_audit.proofs.Nothing.{FindNothing}
use Rattle.view_audit.proofs.LastLines.{lines_are}

-- ---- the `in` lines of a view, as they are found

pub share_lines : (es : List ShareEntry) → input_shares es ≡ found_inputs.input_shares es
share_lines [] = refl
share_lines (e ∷ es) = by_part e.part (share_lines es)
  where
    by_part : (p : Part) → input_shares es ≡ found_inputs.input_shares es
        → input_shares (record { name = e.name; part = p } ∷ es) ≡ found_inputs.input_shares (record { name = e.name; part = p } ∷ es)
    by_part (part_.Public value) later = later
    by_part (part_.Private shared) later = ap (λ (l : List InputShare). record { name = e.name; words = shared.words } ∷ l) later

-- ---- a view of a run that ended so

module _ (i : Number) (v : View) (seen : Seen) (r : Report) (whose : i ≡ v.miner) (inputs : input_shares seen.inputs ≡ v.inputs)
    (drew : seen.drew ≡ v.drew) (got : map received seen.got ≡ v.got) where
  pub view_here : (stop : RunStop) → stop_line r stop v ≡ None → view_at i seen r stop ≡ Some v
  view_here Short e = some_is_none (first_opening v) e
  view_here (Ended ending) e =
      let end : End = record { how = ending; cost = r.cost } in
      let are : (openings r.events ≡ v.opened) × (end ≡ v.end) =
      lines_are r.events end v.end v.opened (none_before (λ k. first_opening v + k) (wrong_end_at r.events end v.end v.opened) e) in
      ap (λ (m : Number). shown_as m (input_shares seen.inputs) seen.drew (map received seen.got) (openings r.events) end) whose
      ∙ ap (λ (l : List InputShare). shown_as v.miner l seen.drew (map received seen.got) (openings r.events) end) inputs
      ∙ ap (λ (l : List ℕ). shown_as v.miner v.inputs l (map received seen.got) (openings r.events) end) drew
      ∙ ap (λ (l : List Received). shown_as v.miner v.inputs v.drew l (openings r.events) end) got
      ∙ ap (λ (l : List (List Element)). shown_as v.miner v.inputs v.drew v.got l end) are.0
      ∙ ap (λ (x : End). shown_as v.miner v.inputs v.drew v.got v.opened x) are.1
    where
      shown_as : Number → List InputShare → List ℕ → List Received → List (List Element) → End → Option View
      shown_as m l w g o x = Some (record { miner = m; inputs = l; drew = w; got = g; opened = o; end = x })

-- ---- the run

pub wanted_is : (p : TypedProgramTree) (part : List PublicEntry) (lengths : List ℕ) (budget : ℕ) (views : Number → View)
    → suffices part lengths ≡ true → wanted p part lengths budget views ≡ part
wanted_is p part lengths budget views dealt = ap (λ b. if b then part else []) dealt

line_here : (part : List PublicEntry) (lengths : List ℕ) (views : Number → View) (i : Number) → suffices part lengths ≡ true
    → lines part lengths views i ≡ (views i).inputs
line_here part lengths views i dealt = ap (λ b. if b then (views i).inputs else zero_lines part) dealt

module _
    (source : ProgramTree) (p : TypedProgramTree) (is : List Instance) (part : List PublicEntry) (lengths : List ℕ) (budget : ℕ)
    (views : Number → View) (fit : AreFit source p is part lengths views) (dealt : suffices part lengths ≡ true)
  where
    abbrev es : List Entry
    es = entries_found part lengths views

    abbrev t : FourTapes
    t = tapes_found part lengths views

    abbrev r : Report
    r = report part lengths views p budget

    pub same_run : run_on p es (lengths_of t) budget ≡ r
    same_run = ap (λ ls. run_on p es ls budget) fit.long

    pub dealt_here : is_dealt es t ≡ true
    dealt_here =
        ap (λ n. nat_le n (length t.dealer)) (sym (need_known es) ∙ ap hidden_need fit.known)
        ∙ ap (λ (ls : List ℕ). nat_le (hidden_need part) (get_or ls 0 0)) fit.long
        ∙ dealt

    enough : need_of es ≤ length t.dealer
    enough = le_from (need_of es) (length t.dealer) dealt_here

    pub is_given : IsGiven es r.gates t
    is_given =
        let can : CanRun es (run_on p es (lengths_of t) budget).gates t = can_run source p is es fit.given t fit.tapes budget in
        record {
          tapes = fit.tapes;
          enough = enough;
          reaches = subst (λ (x : Report). CanRun es x.gates t) same_run can enough;
        }

    module _ (none : FindNothing p part lengths budget views) where
      own : (i : Number) → (is_same (views i).miner i ≡ true)
          × (option_map (λ k. 2 + k) (wrong_share_at (wanted p part lengths budget views) (views i).inputs) ≡ None)
      own i =
          tested (is_same (views i).miner i) (option_map (λ k. 2 + k) (wrong_share_at (wanted p part lengths budget views) (views i).inputs)) 1 (none.inputs i)

      shares_right : (i : Number) → wrong_share_at part (lines part lengths views i) ≡ None
      shares_right i =
          ap (wrong_share_at part) (line_here part lengths views i dealt)
          ∙ ap (λ l. wrong_share_at l (views i).inputs) (sym (wanted_is p part lengths budget views dealt))
          ∙ none_before (λ k. 2 + k) (wrong_share_at (wanted p part lengths budget views) (views i).inputs) (own i).1

      pub pass : PassSteps part (shows part lengths views) r.gates t
      pass =
          record {
            shares = shares_right;
            sums =
                none_before (λ k. 2 + k)
                (wrong_sums_at part (lines part lengths views One) (lines part lengths views Two) (lines part lengths views Three)) none.sums;
            drew = λ i.
                eqb-true (length (views i).drew) (drawn_by r.drawn (miner_of i))
                (none_named (length (views i).drew == drawn_by r.drawn (miner_of i)) (drew_line (views i)) (none.draws i))
                ∙ sym (fit.drawn budget i);
            next = λ i.
                none_before (λ k. first_got (views i) + k)
                (wrong_at i (messages part lengths views p budget (from_previous i)) (messages part lengths views p budget (from_next i)) (views i).got)
                (none.got i);
          }

      module _ (ls : List Link) (left : Orders) (stuck : Stuck (scripts part lengths views p budget) (orders p part lengths budget views) ls left)
          (nothing : (i : Number) → left i ≡ []) where
        seen : AreSeen es r.gates t (shows part lengths views) ls
        seen = are_seen part (shows part lengths views) r.gates t fit.words pass fit.begins is_given ls left stuck nothing

        accepted : net_of p es t budget (Listed ls) ≡ Accepted
        accepted = ap (λ (x : Report). net (scripts_of es t x) (Listed ls)) same_run ∙ seen.accepted

        sees : (i : Number) → view_of i p es t budget (Listed ls) ≡ Some (views i)
        sees i =
            ap (λ (x : Report). view_with i (seen_of i es t (Listed ls) x) x) same_run
            ∙ ap (λ b. view_with i (if b then seen_by i es r.gates t (Listed ls) else nothing_seen) r) dealt_here
            ∙ view_here i (views i) (seen_by i es r.gates t (Listed ls)) r (sym (same_is (views i).miner i (own i).0))
            (share_lines (seen_by i es r.gates t (Listed ls)).inputs ∙ ap (λ (v : Shown). v.inputs) (seen.sees i) ∙ line_here part lengths views i dealt)
            (ap (λ (v : Shown). v.drew) (seen.sees i)) (ap (λ (v : Shown). v.got) (seen.sees i)) r.stop (none.ends i)

        pub are_one_run : OneRun p part lengths budget views ls
        are_one_run =
            record {
              entries = es;
              tapes = t;
              sound = fit.given.inputs;
              known = fit.known;
              words = fit.tapes;
              long = fit.long;
              accepted = accepted;
              sees = sees;
            }
