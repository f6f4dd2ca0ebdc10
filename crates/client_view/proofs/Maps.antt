-- The maps of tapes of a program's run for the client are each other's inverse.
use Rattle.std.proofs.Common.{◌≡◌, ℕ, ◌≤◌, Bool, true, false, List, [], length, refl, sym, ap, ◌∙◌, subst}
use Rattle.proto_core.specs.declared.party.Number.{Number}
use Rattle.proto_core.specs.declared.party.Number.TheVariants.{Three}
use Rattle.proto_core.specs.Lists.{AreWords}
use Rattle.protocol_model.specs.Runs.{Tapes}
use Rattle.gates.specs.declared.gate.Gate.{Gate}
use Rattle.program_trees.specs.Programs.{ProgramTree}
use Rattle.program_trees.specs.TypedPrograms.{TypedProgramTree}
use Rattle.reached_instances.specs.Instances.{Instance}
use Rattle.value_file.specs.declared.inputs.Entry.{Entry}
use Rattle.input_share.specs.Dealing.{need_of}
use Rattle.tape_file.specs.Tapes.{FourTapes}
use Rattle.view_model.specs.Dealing.{dealt_to, private_sizes}
use Rattle.view_model.specs.TapeMaps.{miners_of, four_of, is_dealt, AreTapes, SameLengths}
use Rattle.view_model.proofs.Corresponding.{le_from, miners_four, ready_with}
use Rattle.program_views.specs.Views.{lengths_of, run_on}
use Rattle.program_views.specs.Laws.{IsGivenTo}
use Rattle.program_views.proofs.Simulated.{same_lengths, can_run}
use Rattle.program_views.proofs.Undealt.{no_gates}
use Rattle.handed_shares.specs.Handed.{all_of}
use Rattle.client_model.specs.ClientMaps.{to_client, from_client}
use Rattle.client_model.specs.Laws as model
use Rattle.client_model.proofs.Corresponding.{client_tapes_correspond}
use Rattle.client_view.specs.TapeMaps.{to_seen, from_seen, client_mapped, client_mapped_back, ClientMapsCorrespond}
use Rattle.client_view.specs.Laws.{ClientTapesCorrespond}

-- ---- OF GATES

module _ (entries : List Entry) (gates : List Gate) (t : FourTapes) where
  abbrev dealt : Number → List (List ℕ)
  dealt = dealt_to entries t.dealer

  abbrev to : Tapes
  to = to_client all_of dealt (private_sizes entries) gates (miners_of t)

  abbrev from : Tapes
  from = from_client all_of dealt (private_sizes entries) gates (miners_of t)

  pub record Seen : Type 0 where
    pub there_and_back : from_seen entries gates (to_seen entries gates t) ≡ t
    pub back_and_there : to_seen entries gates (from_seen entries gates t) ≡ t
    pub kept : SameLengths (to_seen entries gates t) t
    pub back_kept : SameLengths (from_seen entries gates t) t
    pub words : AreTapes (to_seen entries gates t)
    pub back_words : AreTapes (from_seen entries gates t)
    pub third : to Three ≡ t.three

  miners_mapped : (ts : Tapes) → miners_of (four_of t.dealer ts) ≡ ts
  miners_mapped ts = miners_four t.dealer ts

  -- with tapes on which the gates run
  seen_by_maps : AreTapes t → model.ClientTapesCorrespond all_of dealt (private_sizes entries) gates (miners_of t) → Seen
  seen_by_maps are c =
      record {
        there_and_back =
            ap (λ (ts : Tapes). four_of t.dealer (from_client all_of dealt (private_sizes entries) gates ts)) (miners_mapped to)
            ∙ ap (four_of t.dealer) c.there_and_back;
        back_and_there =
            ap (λ (ts : Tapes). four_of t.dealer (to_client all_of dealt (private_sizes entries) gates ts)) (miners_mapped from)
            ∙ ap (four_of t.dealer) c.back_and_there;
        kept = (refl, λ i. ap (λ (ts : Tapes). length (ts i)) (miners_mapped to) ∙ c.kept i);
        back_kept = (refl, λ i. ap (λ (ts : Tapes). length (ts i)) (miners_mapped from) ∙ c.back_kept i);
        words = record { dealer = are.dealer; miners = λ i. subst (λ (ts : Tapes). AreWords (ts i)) (sym (miners_mapped to)) (c.words i) };
        back_words = record { dealer = are.dealer; miners = λ i. subst (λ (ts : Tapes). AreWords (ts i)) (sym (miners_mapped from)) (c.back_words i) };
        third = c.third;
      }

-- where there are no gates all words stay
seen_of_none : (entries : List Entry) (t : FourTapes) → AreTapes t → Seen entries [] t
seen_of_none entries t are =
    record {
      there_and_back = refl;
      back_and_there = refl;
      kept = (refl, λ i. ap (λ (ts : Tapes). length (ts i)) (miners_four t.dealer (miners_of t)));
      back_kept = (refl, λ i. ap (λ (ts : Tapes). length (ts i)) (miners_four t.dealer (miners_of t)));
      words = are;
      back_words = are;
      third = refl;
    }

-- ---- OF A PROGRAM

module _
    (source : ProgramTree) (p : TypedProgramTree) (is : List Instance) (entries : List Entry) (given : IsGivenTo source p is entries) (budget : ℕ)
  where
    -- the gates of the run on tapes of these lengths
    abbrev gates_at : List ℕ → List Gate
    gates_at lengths = (run_on p entries lengths budget).gates

    pub as_gates : (t : FourTapes) → AreTapes t → Seen entries (gates_at (lengths_of t)) t
    as_gates t are = by_test (is_dealt entries t) refl
      where
        by_test : (b : Bool) → is_dealt entries t ≡ b → Seen entries (gates_at (lengths_of t)) t
        by_test true e =
            let enough : need_of entries ≤ length t.dealer = le_from _ _ e in
            seen_by_maps entries (gates_at (lengths_of t)) t are
            (client_tapes_correspond all_of (dealt_to entries t.dealer) (private_sizes entries) (gates_at (lengths_of t)) (miners_of t)
            (ready_with entries (gates_at (lengths_of t)) t.dealer t are.miners enough (can_run source p is entries given t are budget enough)))
        by_test false e = subst (λ (gates : List Gate). Seen entries gates t) (sym (no_gates p entries t budget e)) (seen_of_none entries t are)

    pub client_maps_correspond : (t : FourTapes) → AreTapes t → ClientMapsCorrespond p entries t budget
    client_maps_correspond t are =
        let c = as_gates t are in
        let to_it : FourTapes = client_mapped p entries t budget in
        let from_it : FourTapes = client_mapped_back p entries t budget in
        record {
          there_and_back = ap (λ lengths. from_seen entries (gates_at lengths) to_it) (same_lengths to_it t c.kept) ∙ c.there_and_back;
          back_and_there = ap (λ lengths. to_seen entries (gates_at lengths) from_it) (same_lengths from_it t c.back_kept) ∙ c.back_and_there;
          kept = c.kept;
          back_kept = c.back_kept;
          words = c.words;
          back_words = c.back_words;
          dealer = refl;
          third = c.third;
        }

pub client_tapes : (source : ProgramTree) (p : TypedProgramTree) (entries : List Entry) (t : FourTapes) (budget : ℕ)
    → ClientTapesCorrespond source p entries t budget
client_tapes source p entries t budget is given are = client_maps_correspond source p is entries given budget t are
