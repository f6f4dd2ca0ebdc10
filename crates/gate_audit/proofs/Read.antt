-- Of what the miners see the inputs are found, and the steps find nothing wrong.
use Rattle.std.proofs.Common.{◌≡◌, List, [], ◌++◌, All, length, take, map, None, sym, ◌∙◌, ap, subst}
use Rattle.std.proofs.lemmas.List.{length-take-le, take_at}
use Rattle.proto_core.specs.declared.link.Link.{Link}
use Rattle.proto_core.specs.declared.party.Number.{Number}
use Rattle.proto_core.specs.declared.party.Number.TheVariants.{One, Two, Three}
use Rattle.proto_core.specs.Strand.{Mail}
use Rattle.protocol_model.specs.Gates as model
use Rattle.protocol_model.specs.Gates.{gates_script, needed}
use Rattle.protocol_model.specs.Runs.{run_messages}
use Rattle.gates.specs.declared.gate.Gate.{Gate}
use Rattle.gates.specs.Clear.{Values}
use Rattle.shared_gates.specs.Model.{run_gates}
use Rattle.value_file.specs.declared.inputs.Entry.{Entry}
use Rattle.value_file.specs.Public.{part_of}
use Rattle.tape_file.specs.Tapes.{FourTapes}
use Rattle.input_share.specs.AddUp.{HasWords}
use Rattle.input_share.specs.Dealing.{dealt_entries, need_of}
use Rattle.view_text.specs.View.{InputShare}
use Rattle.view_model.specs.Dealing.{dealt_to, private_sizes}
use Rattle.view_model.specs.TapeMaps.{gates_dealt, miners_of, no_values}
use Rattle.audit_steps.specs.Shares.{wrong_share_at}
use Rattle.found_inputs.specs.Found.{found_entries, found_words, input_shares}
use Rattle.found_inputs.specs.FoundLaws.{AreOf, IsFound, lines_of}
use Rattle.found_inputs.specs.Sums.{wrong_sums_at}
use Rattle.found_inputs.proofs.Dealt.{deal_the_views}
use Rattle.found_inputs.proofs.Found.{are_found}
use Rattle.merged_orders.specs.Merging.{Orders, SameDrawn, Stuck}
use Rattle.merged_orders.proofs.Drawn.{same_messages}
use Rattle.merged_views.specs.Brought.{AreBrought, AreNext, orders_of}
use Rattle.merged_views.proofs.Merged.{are_next, none_is_left}
use Rattle.gate_audit.specs.Shown.{HaveShareWords, Shown, Views, dealt_with, found, got_of}
use Rattle.gate_audit.specs.Passing.{AreSeen, BeginWith, IsGiven, IsReadBack, PassSteps, gates_found, scripts_found, mail_dealt}
use Rattle.gate_audit.proofs.Dealt.{all_sums_right, private_are, shares_right}
use Rattle.gate_audit.proofs.Passed.{is_run, ready, run, three_are}
use Rattle.gate_audit.proofs.Steps.{lines_are, truths_are}

module _ (entries : List Entry) (views : Views) (gates : List Gate) (t : FourTapes) (ls : List Link) (has : All HasWords entries)
    (words : HaveShareWords views) (given : IsGiven entries gates t) (seen : AreSeen entries gates t views ls) where
  abbrev G : List model.Gate
  G = gates_dealt entries t.dealer gates

  lines_are_seen : (i : Number) → lines_of entries t.dealer i ≡ (views i).inputs
  lines_are_seen i = ap (λ (v : Shown). v.inputs) (seen.sees i)

  drew_is : (i : Number) → (views i).drew ≡ take (needed G i) (miners_of t i)
  drew_is i = sym (ap (λ (v : Shown). v.drew) (seen.sees i))

  -- ---- what is found

  of_lines : IsFound entries t.dealer
  of_lines = are_found entries t.dealer has given.enough

  found_is : found (part_of entries) views ≡ entries
  found_is =
      sym (ap (λ l. found_entries (part_of entries) l (lines_of entries t.dealer Two) (lines_of entries t.dealer Three)) (lines_are_seen One)
      ∙ ap (λ l. found_entries (part_of entries) (views One).inputs l (lines_of entries t.dealer Three)) (lines_are_seen Two)
      ∙ ap (λ l. found_entries (part_of entries) (views One).inputs (views Two).inputs l) (lines_are_seen Three))
      ∙ of_lines.entries_are

  dealer_is : dealt_with (part_of entries) views ≡ take (need_of entries) t.dealer
  dealer_is =
      sym (ap (λ l. found_words (part_of entries) l (lines_of entries t.dealer Two)) (lines_are_seen One)
      ∙ ap (λ l. found_words (part_of entries) (views One).inputs l) (lines_are_seen Two))
      ∙ of_lines.words_are

  -- ---- the steps over `in` lines

  shares_pass : (i : Number) → wrong_share_at (part_of entries) (views i).inputs ≡ None
  shares_pass i = ap (wrong_share_at (part_of entries)) (sym (lines_are_seen i)) ∙ shares_right i entries t.dealer given.enough

  sums_pass : wrong_sums_at (part_of entries) (views One).inputs (views Two).inputs (views Three).inputs ≡ None
  sums_pass =
      sym (ap (λ l. wrong_sums_at (part_of entries) l (lines_of entries t.dealer Two) (lines_of entries t.dealer Three)) (lines_are_seen One)
      ∙ ap (λ l. wrong_sums_at (part_of entries) (views One).inputs l (lines_of entries t.dealer Three)) (lines_are_seen Two)
      ∙ ap (λ l. wrong_sums_at (part_of entries) (views One).inputs (views Two).inputs l) (lines_are_seen Three))
      ∙ all_sums_right entries t.dealer has given.enough

  are_of : AreOf (part_of entries) (views One).inputs (views Two).inputs (views Three).inputs
  are_of =
      record {
        first = lines_are (part_of entries) (views One).inputs (words One) (shares_pass One);
        second = lines_are (part_of entries) (views Two).inputs (words Two) (shares_pass Two);
        third = lines_are (part_of entries) (views Three).inputs (words Three) (shares_pass Three);
        truths = truths_are (part_of entries) (views One).inputs (views Two).inputs (views Three).inputs sums_pass;
      }

  -- ---- the messages

  brought : AreBrought (run entries gates t given) (got_of views) ls
  brought = record { accepted = seen.accepted; brings = λ i. ap (λ (v : Shown). v.got) (seen.sees i) }

  long : (i : Number) → length (views i).drew ≡ needed G i
  long i =
      let reach = (ready entries gates t given).tapes_reach i in
      let n : length (take (needed G i) (miners_of t i)) ≡ needed G i = length-take-le (needed G i) (miners_of t i) reach in
      ap length (drew_is i) ∙ n

  -- ---- on other tapes that begin with what is found

  module _ (other : FourTapes) (begins : BeginWith (part_of entries) views other) where
    shares_again : (i : Number) → input_shares (dealt_entries i entries other.dealer) ≡ (views i).inputs
    shares_again i =
        ap (λ d. input_shares (dealt_entries i entries d)) begins.dealer
        ∙ ap (λ es. input_shares (dealt_entries i es (dealt_with (part_of entries) views ++ begins.more))) (sym found_is)
        ∙ (deal_the_views (part_of entries) (views One).inputs (views Two).inputs (views Three).inputs begins.more are_of).shares i
        ∙ three_are (λ k. (views k).inputs) i

    dealt_same : dealt_to entries other.dealer ≡ dealt_to entries t.dealer
    dealt_same = λ d. λ i. at i d
      where
        at : (i : Number) → dealt_to entries other.dealer i ≡ dealt_to entries t.dealer i
        at i =
            private_are (dealt_entries i entries other.dealer)
            ∙ ap (map (λ (s : InputShare). s.words)) (shares_again i ∙ sym (lines_are_seen i))
            ∙ sym (private_are (dealt_entries i entries t.dealer))

    gates_same : gates_found (part_of entries) views gates other ≡ G
    gates_same =
        ap (λ es. gates_dealt es other.dealer gates) found_is
        ∙ ap (λ (dealt : Number → Values). run_gates dealt (private_sizes entries) [] gates) dealt_same

    drawn_same : SameDrawn G (miners_of other) (miners_of t)
    drawn_same i =
        ap (take (needed G i)) (begins.miners i) ∙ take_at (views i).drew (begins.rests i) (needed G i) (long i) ∙ drew_is i

    mail_same : mail_dealt (found (part_of entries) views) gates other ≡ run_messages G no_values (miners_of t)
    mail_same =
        ap (λ gs. run_messages gs no_values (miners_of other)) gates_same
        ∙ (λ d. λ l. same_messages G no_values (miners_of other) (miners_of t) l drawn_same d)

    pub steps_pass : PassSteps (part_of entries) views gates other
    steps_pass =
        record {
          shares = shares_pass;
          sums = sums_pass;
          drew = λ i. long i ∙ sym (ap (λ gs. needed gs i) gates_same);
          next = subst (λ (m : Mail). AreNext m (got_of views)) (sym mail_same)
              (are_next (run entries gates t given) (got_of views) (is_run entries gates t given) ls brought);
        }

    pub none_left : (more : List Link) (left : Orders) (i : Number)
        → Stuck (scripts_found (part_of entries) views gates other) (orders_of (got_of views)) more left → left i ≡ []
    none_left more left i stuck =
        none_is_left (run entries gates t given) (got_of views) (is_run entries gates t given) ls brought more left
        (subst (λ gs. Stuck (λ k. gates_script k gs) (orders_of (got_of views)) more left) gates_same stuck) i

  pub is_read_back : IsReadBack entries views gates t
  is_read_back =
      record {
        entries_are = found_is;
        dealer_is = dealer_is;
        drew = drew_is;
        passes = λ other begins. steps_pass other begins;
        leaves_none = λ other more left i begins stuck. none_left other begins more left i stuck;
      }
