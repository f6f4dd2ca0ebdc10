-- Twins of tapes give the client the same view, and there are as many of them.
use Rattle.std.proofs.Common.{◌≡◌, ℕ, List, [], ◌∷◌, ◌++◌, map, Option, sym, ap, ◌∙◌, subst}
use Rattle.std.proofs.lemmas.List.{length-map}
use Rattle.program_trees.specs.Programs.{ProgramTree}
use Rattle.program_trees.specs.TypedPrograms.{TypedProgramTree}
use Rattle.reached_instances.specs.Instances.{Instance}
use Rattle.value_file.specs.declared.inputs.Entry.{Entry}
use Rattle.value_file.specs.declared.public.PublicEntry.{PublicEntry}
use Rattle.value_file.specs.Public.{part_of}
use Rattle.tape_file.specs.Tapes.{FourTapes}
use Rattle.language_model.specs.Reports.{Report}
use Rattle.view_model.specs.TapeMaps.{AreTapes}
use Rattle.view_model.specs.Counting.{NoneIs, AreDistinct}
use Rattle.program_views.specs.Views.{lengths_of, run_on}
use Rattle.program_views.proofs.Simulated.{same_lengths}
use Rattle.client_view.specs.Views.{ClientView, client_simulated, published_of}
use Rattle.client_view.specs.TapeMaps.{client_mapped, client_mapped_back, ClientMapsCorrespond, client_twinned, IsClientTwin}
use Rattle.client_view.specs.Laws.{AreBothGivenTo, ClientTwinsSeeTheSame, GivesView, AllGive, AsMany, ClientTwinsAreAsMany}
use Rattle.client_view.proofs.Simulated.{with_more}
use Rattle.client_view.proofs.Maps.{client_maps_correspond}

module _ (source : ProgramTree) (p : TypedProgramTree) (is : List Instance) (first second : List Entry) (budget : ℕ) where
  is_twin :
      (t : FourTapes) → AreBothGivenTo source p is first second (lengths_of t) budget → AreTapes t
      → IsClientTwin p first second t (client_twinned p first second t budget) budget
  is_twin t both are =
      let s : FourTapes = client_mapped p first t budget in
      let t2 : FourTapes = client_twinned p first second t budget in
      let one : ClientMapsCorrespond p first t budget = client_maps_correspond source p is first both.one budget t are in
      let two : ClientMapsCorrespond p second s budget = client_maps_correspond source p is second both.other budget s one.words in
      let again : client_mapped p second t2 budget ≡ s = two.back_and_there in
      let long : lengths_of t2 ≡ lengths_of t = same_lengths t2 s two.back_kept ∙ same_lengths s t one.kept in
      let made : (part : List PublicEntry) (opened : List ℕ) (published : List ℕ) (v : FourTapes) → Option ClientView =
      λ (part : List PublicEntry) (opened : List ℕ) (published : List ℕ) (v : FourTapes).
      client_simulated p part (opened ++ []) (published ++ []) v budget in
      let run : List ℕ → Report = λ lengths. run_on p second lengths budget in
      let real : Report = run_on p first (lengths_of t) budget in
      record {
        words = two.back_words;
        lengths = long;
        sees =
            sym (with_more source p is second both.other t2 two.back_words budget [] [])
            ∙ ap (λ lengths. made (part_of second) (run lengths).opened (published_of (run lengths).events) (client_mapped p second t2 budget)) long
            ∙ ap (λ opened. made (part_of second) opened (published_of (run (lengths_of t)).events) (client_mapped p second t2 budget)) (sym both.alike.opened)
            ∙ ap (λ published. made (part_of second) real.opened published (client_mapped p second t2 budget)) (sym both.alike.published)
            ∙ ap (λ v. made (part_of second) real.opened (published_of real.events) v) again
            ∙ ap (λ (part : List PublicEntry). made part real.opened (published_of real.events) s) (sym both.alike.known)
            ∙ with_more source p is first both.one t are budget [] [];
        back = ap (λ v. client_mapped_back p first v budget) again ∙ one.there_and_back;
      }

  module _ (lengths : List ℕ) (view : ClientView) (both : AreBothGivenTo source p is first second lengths budget) where
    abbrev other : FourTapes → FourTapes
    other t = client_twinned p first second t budget

    abbrev Gives : FourTapes → Type 0
    Gives t = GivesView p first lengths budget view t

    abbrev Give : List FourTapes → Type 0
    Give ts = AllGive p first lengths budget view ts

    twin_of : (t : FourTapes) → Gives t → IsClientTwin p first second t (other t) budget
    twin_of t h = is_twin t (subst (λ ns. AreBothGivenTo source p is first second ns budget) (sym h.long) both) h.words

    all_give : (ts : List FourTapes) → Give ts → AllGive p second lengths budget view (map other ts)
    all_give [] h = tt
    all_give (t ∷ ts) h =
        let twin = twin_of t h.0 in
        (record { words = twin.words; long = twin.lengths ∙ h.0.long; sees = twin.sees ∙ h.0.sees }, all_give ts h.1)

    -- twins of two tapes differ where the tapes do
    none_is : (t : FourTapes) (ts : List FourTapes) → Gives t → Give ts → NoneIs t ts → NoneIs (other t) (map other ts)
    none_is t [] g h n = tt
    none_is t (u ∷ us) g h n = (
      λ e. n.0 (sym (twin_of t g).back ∙ ap (λ v. client_twinned p second first v budget) e ∙ (twin_of u h.0).back),
      none_is t us g h.1 n.1,
    )

    all_distinct : (ts : List FourTapes) → Give ts → AreDistinct ts → AreDistinct (map other ts)
    all_distinct [] h d = tt
    all_distinct (t ∷ ts) h d = (none_is t ts h.0 h.1 d.0, all_distinct ts h.1 d.1)

    as_many : (ts : List FourTapes) → Give ts → AreDistinct ts → AsMany p second lengths budget view ts (map other ts)
    as_many ts h d = record { count = length-map ts other; distinct = all_distinct ts h d; give = all_give ts h }

pub client_twins_see :
    (source : ProgramTree) (p : TypedProgramTree) (first second : List Entry) (t : FourTapes) (budget : ℕ)
    → ClientTwinsSeeTheSame source p first second t budget
client_twins_see source p first second t budget is both are = is_twin source p is first second budget t both are

pub client_twins_many :
    (source : ProgramTree) (p : TypedProgramTree) (first second : List Entry) (lengths : List ℕ) (budget : ℕ) (view : ClientView) (ts : List FourTapes)
    → ClientTwinsAreAsMany source p first second lengths budget view ts
client_twins_many source p first second lengths budget view ts is both give distinct =
    as_many source p is first second budget lengths view both ts give distinct
