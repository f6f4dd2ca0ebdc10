-- Views in which the steps find nothing wrong are seen.
use Rattle.std.proofs.Common.{◌≡◌, ℕ, List, [], ◌++◌, take, map, refl, ◌∙◌, ap}
use Rattle.std.proofs.lemmas.List.{take_at}
use Rattle.proto_core.specs.declared.link.Link.{Link}
use Rattle.proto_core.specs.declared.party.Number.{Number}
use Rattle.proto_core.specs.declared.party.Number.TheVariants.{One, Two, Three}
use Rattle.proto_core.specs.Parties.{of_three}
use Rattle.protocol_model.specs.Gates as model
use Rattle.protocol_model.specs.Gates.{gates_script, needed}
use Rattle.protocol_model.specs.Network.{Listed}
use Rattle.protocol_model.specs.Runs.{Ready, nodes_of, run_messages, run_values}
use Rattle.protocol_model.proofs.GateRuns.{run-finishes}
use Rattle.protocol_model.proofs.GateSchedules.{moves-along_run}
use Rattle.gates.specs.declared.gate.Gate.{Gate}
use Rattle.value_file.specs.declared.inputs.Entry.{Entry}
use Rattle.value_file.specs.declared.public.PublicEntry.{PublicEntry}
use Rattle.value_file.specs.Public.{part_of}
use Rattle.tape_file.specs.Tapes.{FourTapes}
use Rattle.input_share.specs.Dealing.{dealt_entries}
use Rattle.view_text.specs.View.{InputShare, Received}
use Rattle.view_model.specs.Seen.{seen_by}
use Rattle.view_model.specs.TapeMaps.{gates_dealt, miners_of, no_values}
use Rattle.view_model.proofs.Corresponding.{ready_with, sound}
use Rattle.found_inputs.specs.Found.{input_shares}
use Rattle.found_inputs.specs.FoundLaws.{AreOf, Deal}
use Rattle.found_inputs.proofs.Dealt.{deal_the_views}
use Rattle.merged_orders.specs.Merging.{Orders, Stuck}
use Rattle.merged_views.specs.Brought.{AreBrought, IsRunOf, Run, orders_of, received}
use Rattle.merged_views.proofs.Merged.{are_brought, are_whole}
use Rattle.gate_audit.specs.Shown.{HaveShareWords, Shown, Views, dealt_with, found, got_of}
use Rattle.gate_audit.specs.Passing.{AreSeen, BeginWith, IsGiven, PassSteps, gates_found, scripts_found}
use Rattle.gate_audit.proofs.Steps.{lines_are, truths_are}

-- ---- the run

module _ (entries : List Entry) (gates : List Gate) (t : FourTapes) (given : IsGiven entries gates t) where
  abbrev pub all_gates : List model.Gate
  all_gates = gates_dealt entries t.dealer gates

  pub ready : Ready all_gates no_values (miners_of t)
  ready = ready_with entries gates t.dealer t given.tapes.miners given.enough given.reaches

  abbrev pub run : Run
  run =
      record {
        nodes = nodes_of all_gates no_values (miners_of t);
        scripts = λ k. gates_script k all_gates;
        full = run_messages all_gates no_values (miners_of t);
        outputs = run_values all_gates no_values (miners_of t);
      }

  pub is_run : IsRunOf run
  is_run =
      let fine = sound entries t.dealer gates in
      record {
        finishes = run-finishes all_gates no_values (miners_of t) fine ready;
        moves = moves-along_run all_gates no_values (miners_of t) fine ready;
      }

pub three_are : {A : Type 0} (f : Number → A) (i : Number) → of_three (f One) (f Two) (f Three) i ≡ f i
three_are f One = refl
three_are f Two = refl
three_are f Three = refl

-- a view is its parts
pub view_of_parts : (view : Shown) (inputs : List InputShare) (drew : List ℕ) (got : List Received) → inputs ≡ view.inputs → drew ≡ view.drew → got ≡ view.got
    → record { inputs = inputs; drew = drew; got = got } ≡ view
view_of_parts view inputs drew got a b c =
    ap (λ (x : List InputShare). record { inputs = x; drew = drew; got = got }) a
    ∙ ap (λ (x : List ℕ). record { inputs = view.inputs; drew = x; got = got }) b
    ∙ ap (λ (x : List Received). record { inputs = view.inputs; drew = view.drew; got = x }) c

module _ (part : List PublicEntry) (views : Views) (gates : List Gate) (t : FourTapes) (words : HaveShareWords views)
    (passes : PassSteps part views gates t) where
  are_of : AreOf part (views One).inputs (views Two).inputs (views Three).inputs
  are_of =
      record {
        first = lines_are part (views One).inputs (words One) (passes.shares One);
        second = lines_are part (views Two).inputs (words Two) (passes.shares Two);
        third = lines_are part (views Three).inputs (words Three) (passes.shares Three);
        truths = truths_are part (views One).inputs (views Two).inputs (views Three).inputs passes.sums;
      }

  deal : (more : List ℕ) → Deal part (views One).inputs (views Two).inputs (views Three).inputs more
  deal more = deal_the_views part (views One).inputs (views Two).inputs (views Three).inputs more are_of

  pub found_known : part_of (found part views) ≡ part
  found_known = (deal []).known

  pub shares_found : (i : Number) (more : List ℕ) → input_shares (dealt_entries i (found part views) (dealt_with part views ++ more)) ≡ (views i).inputs
  shares_found i more = (deal more).shares i ∙ three_are (λ k. (views k).inputs) i

  module _ (begins : BeginWith part views t) (given : IsGiven (found part views) gates t) (ls : List Link) (left : Orders)
      (stuck : Stuck (scripts_found part views gates t) (orders_of (got_of views)) ls left) (none : (i : Number) → left i ≡ []) where
    brought : AreBrought (run (found part views) gates t given) (got_of views) ls
    brought =
        are_brought (run (found part views) gates t given) (got_of views) (is_run (found part views) gates t given)
        (are_whole (run (found part views) gates t given) (got_of views) (is_run (found part views) gates t given) passes.next)
        ls left stuck none

    drawn_found : (i : Number) → take (needed (gates_found part views gates t) i) (miners_of t i) ≡ (views i).drew
    drawn_found i =
        ap (take (needed (gates_found part views gates t) i)) (begins.miners i)
        ∙ take_at (views i).drew (begins.rests i) (needed (gates_found part views gates t) i) (passes.drew i)

    inputs_found : (i : Number) → input_shares (dealt_entries i (found part views) t.dealer) ≡ (views i).inputs
    inputs_found i = ap (λ d. input_shares (dealt_entries i (found part views) d)) begins.dealer ∙ shares_found i begins.more

    pub are_seen : AreSeen (found part views) gates t views ls
    are_seen =
        record {
          accepted = brought.accepted;
          sees = λ i.
              view_of_parts (views i) (input_shares (seen_by i (found part views) gates t (Listed ls)).inputs)
              (seen_by i (found part views) gates t (Listed ls)).drew (map received (seen_by i (found part views) gates t (Listed ls)).got)
              (inputs_found i) (drawn_found i) (brought.brings i);
        }
