-- Twins of tapes give the same view, and there are as many of them.
use Rattle.std.proofs.Common.{◌≡◌, ℕ, List, [], ◌∷◌, map, sym, ap, ◌∙◌, subst}
use Rattle.std.proofs.lemmas.List.{length-map}
use Rattle.proto_core.specs.declared.party.Number.{Number}
use Rattle.protocol_model.specs.Network.{Delivery}
use Rattle.program_trees.specs.Programs.{ProgramTree}
use Rattle.program_trees.specs.TypedPrograms.{TypedProgramTree}
use Rattle.reached_instances.specs.Instances.{Instance}
use Rattle.value_file.specs.declared.inputs.Entry.{Entry}
use Rattle.value_file.specs.declared.public.PublicEntry.{PublicEntry}
use Rattle.value_file.specs.Public.{part_of}
use Rattle.tape_file.specs.Tapes.{FourTapes}
use Rattle.view_text.specs.View.{View}
use Rattle.view_model.specs.TapeMaps.{AreTapes}
use Rattle.view_model.specs.Counting.{NoneIs, AreDistinct}
use Rattle.program_views.specs.Views.{lengths_of, run_on, simulated}
use Rattle.program_views.specs.TapeMaps.{mapped, mapped_back, MapsCorrespond, twinned, IsTwin}
use Rattle.program_views.specs.Counting.{GivesView, AllGive, AsMany}
use Rattle.program_views.specs.Laws.{AreBothGivenTo, TwinsSeeTheSame, TwinsAreAsMany}
use Rattle.program_views.proofs.Simulated.{same_lengths, exactly}
use Rattle.program_views.proofs.Corresponding.{maps_correspond}

module _ (i : Number) (source : ProgramTree) (p : TypedProgramTree) (is : List Instance) (first second : List Entry) (budget : ℕ) where
  is_twin :
      (t : FourTapes) → AreBothGivenTo source p is first second (lengths_of t) budget → AreTapes t
      → IsTwin i p first second t (twinned i p first second t budget) budget
  is_twin t both are =
      let s : FourTapes = mapped i p first t budget in
      let t2 : FourTapes = twinned i p first second t budget in
      let one : MapsCorrespond i p first t budget = maps_correspond i source p is first both.one budget t are in
      let two : MapsCorrespond i p second s budget = maps_correspond i source p is second both.other budget s one.words in
      let again : mapped i p second t2 budget ≡ s = two.back_and_there in
      let long : lengths_of t2 ≡ lengths_of t = same_lengths t2 s two.back_kept ∙ same_lengths s t one.kept in
      record {
        words = two.back_words;
        lengths = long;
        own = two.back_own ∙ one.own;
        sees = λ delivery.
            sym (exactly i source p is second both.other t2 two.back_words budget delivery)
            ∙ ap (λ lengths. simulated i p (part_of second) (run_on p second lengths budget).opened (mapped i p second t2 budget) budget delivery) long
            ∙ ap (λ opened. simulated i p (part_of second) opened (mapped i p second t2 budget) budget delivery) (sym both.alike.opened)
            ∙ ap (λ v. simulated i p (part_of second) (run_on p first (lengths_of t) budget).opened v budget delivery) again
            ∙ ap (λ (part : List PublicEntry). simulated i p part (run_on p first (lengths_of t) budget).opened s budget delivery) (sym both.alike.known)
            ∙ exactly i source p is first both.one t are budget delivery;
        back = ap (λ v. mapped_back i p first v budget) again ∙ one.there_and_back;
      }

  module _ (lengths : List ℕ) (delivery : Delivery) (view : View) (both : AreBothGivenTo source p is first second lengths budget) where
    abbrev other : FourTapes → FourTapes
    other t = twinned i p first second t budget

    abbrev Gives : FourTapes → Type 0
    Gives t = GivesView i p first lengths budget delivery view t

    abbrev Give : List FourTapes → Type 0
    Give ts = AllGive i p first lengths budget delivery view ts

    twin_of : (t : FourTapes) → Gives t → IsTwin i p first second t (other t) budget
    twin_of t h = is_twin t (subst (λ ns. AreBothGivenTo source p is first second ns budget) (sym h.long) both) h.words

    all_give : (ts : List FourTapes) → Give ts → AllGive i p second lengths budget delivery view (map other ts)
    all_give [] h = tt
    all_give (t ∷ ts) h =
        let twin = twin_of t h.0 in
        (record { words = twin.words; long = twin.lengths ∙ h.0.long; sees = twin.sees delivery ∙ h.0.sees }, all_give ts h.1)

    -- twins of two tapes differ where the tapes do
    none_is : (t : FourTapes) (ts : List FourTapes) → Gives t → Give ts → NoneIs t ts → NoneIs (other t) (map other ts)
    none_is t [] g h n = tt
    none_is t (u ∷ us) g h n = (
      λ e. n.0 (sym (twin_of t g).back ∙ ap (λ v. twinned i p second first v budget) e ∙ (twin_of u h.0).back),
      none_is t us g h.1 n.1,
    )

    all_distinct : (ts : List FourTapes) → Give ts → AreDistinct ts → AreDistinct (map other ts)
    all_distinct [] h d = tt
    all_distinct (t ∷ ts) h d = (none_is t ts h.0 h.1 d.0, all_distinct ts h.1 d.1)

    as_many : (ts : List FourTapes) → Give ts → AreDistinct ts → AsMany i p second lengths budget delivery view ts (map other ts)
    as_many ts h d = record { count = length-map ts other; distinct = all_distinct ts h d; give = all_give ts h }

pub twins_see :
    (i : Number) (source : ProgramTree) (p : TypedProgramTree) (first second : List Entry) (t : FourTapes) (budget : ℕ)
    → TwinsSeeTheSame i source p first second t budget
twins_see i source p first second t budget is both are = is_twin i source p is first second budget t both are

pub twins_many :
    (i : Number) (source : ProgramTree) (p : TypedProgramTree) (first second : List Entry) (lengths : List ℕ) (budget : ℕ) (delivery : Delivery)
    (view : View) (ts : List FourTapes)
    → TwinsAreAsMany i source p first second lengths budget delivery view ts
twins_many i source p first second lengths budget delivery view ts is both give distinct =
    as_many i source p is first second budget lengths delivery view both ts give distinct
