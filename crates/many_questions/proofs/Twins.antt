-- Twins of all tapes of many questions give a miner the same views, and there are as many of them.
use Rattle.std.proofs.Common.{◌≡◌, ℕ, List, [], ◌∷◌, map, Option, refl, sym, ap, ◌∙◌, subst}
use Rattle.std.proofs.lemmas.List.{length-map}
use Rattle.proto_core.specs.declared.party.Number.{Number}
use Rattle.proto_core.specs.Lists.{AreWords}
use Rattle.protocol_model.specs.Runs.{Tapes}
use Rattle.value_file.specs.declared.inputs.Entry.{Entry}
use Rattle.tape_file.specs.Tapes.{FourTapes}
use Rattle.view_text.specs.View.{View}
use Rattle.view_model.specs.TapeMaps.{miners_of, four_of}
use Rattle.view_model.specs.Counting.{NoneIs, AreDistinct}
use Rattle.program_views.specs.Views.{view_of}
use Rattle.program_views.specs.TapeMaps.{mapped, mapped_back, twinned}
use Rattle.program_views.proofs.Twins.{twins_see}
use Rattle.many_questions.specs.Questions.{Question, AllTapes, lengths_on, views_on, dealer_seen, mapped_on, mapped_back_on, to_asked, from_asked, twin_asked}
use Rattle.many_questions.specs.Laws.{AreGiven, AreOfWords, AreFor, Correspond, AllAlike, AreBothGiven, IsTwin, GivesViews, AllGive, AsMany}
use Rattle.many_questions.proofs.Asked.{tapes_are, mapped_is, mapped_back_is, asked_correspond}

module _ (i : Number) (first second : List Entry) where
  module _ (d : List ℕ) (words : AreWords d) where
    abbrev d2 : List ℕ
    d2 = dealer_seen i second (dealer_seen i first d)

    -- one run's twin is that run's part of the whole
    one_twin : (q : Question) (t : Tapes)
        → four_of d2
        (miners_of (mapped_back i q.program second (four_of (dealer_seen i first d) (miners_of (mapped i q.program first (four_of d t) q.budget))) q.budget))
        ≡ twinned i q.program first second (four_of d t) q.budget
    one_twin q t =
        sym (mapped_back_is i second q.program (four_of (dealer_seen i first d) (miners_of (mapped i q.program first (four_of d t) q.budget))) q.budget)
        ∙ ap (λ (f : FourTapes). mapped_back i q.program second f q.budget) (sym (mapped_is i first q.program (four_of d t) q.budget))

    same_views : (qs : List Question) (ts : List Tapes) → AreGiven first qs → AreGiven second qs → AllAlike first second qs (lengths_on d ts) → AreOfWords qs ts
        → views_on i second qs d2 (mapped_back_on i second qs (dealer_seen i first d) (mapped_on i first qs d ts)) ≡ views_on i first qs d ts
    same_views [] ts one other alike are = refl
    same_views (q ∷ qs) [] one other alike are = absurd are
    same_views (q ∷ qs) (t ∷ ts) one other alike are =
        let twin =
        twins_see i q.source q.program first second (four_of d t) q.budget q.instances
        (record { one = one.0; other = other.0; alike = alike.0 }) (tapes_are d t words are.0) in
        let later = views_on i second qs d2 (mapped_back_on i second qs (dealer_seen i first d) (mapped_on i first qs d ts)) in
        ap (λ (f : FourTapes). view_of i q.program second f q.budget q.delivery ∷ later) (one_twin q t)
        ∙ ap (λ (v : Option View). v ∷ later) (twin.sees q.delivery)
        ∙ ap (λ (vs : List (Option View)). view_of i q.program first (four_of d t) q.budget q.delivery ∷ vs)
        (same_views qs ts one.1 other.1 alike.1 are.1)

  pub asked_twin : (qs : List Question) (a : AllTapes) → AreBothGiven first second qs (lengths_on a.dealer a.miners) → AreFor qs a
      → IsTwin i first second qs a (twin_asked i first second qs a)
  asked_twin qs a both are =
      let s : AllTapes = to_asked i first qs a in
      let one : Correspond i first qs a = asked_correspond i first qs a both.one are in
      let two : Correspond i second qs s = asked_correspond i second qs s both.other one.words in
      record {
        words = two.back_words;
        lengths = two.back_kept ∙ one.kept;
        sees = same_views a.dealer are.dealer qs a.miners both.one both.other both.alike are.miners;
        back = ap (from_asked i first qs) two.back_and_there ∙ one.there_and_back;
      }

module _
    (i : Number) (first second : List Entry) (qs : List Question) (lengths : List (List ℕ)) (views : List View)
    (both : AreBothGiven first second qs lengths)
  where
    abbrev other : AllTapes → AllTapes
    other a = twin_asked i first second qs a

    abbrev Gives : AllTapes → Type 0
    Gives a = GivesViews i first qs lengths views a

    abbrev Give : List AllTapes → Type 0
    Give all = AllGive i first qs lengths views all

    twin_of : (a : AllTapes) → Gives a → IsTwin i first second qs a (other a)
    twin_of a h = asked_twin i first second qs a (subst (λ ls. AreBothGiven first second qs ls) (sym h.long) both) h.words

    all_give : (all : List AllTapes) → Give all → AllGive i second qs lengths views (map other all)
    all_give [] h = tt
    all_give (a ∷ all) h =
        let twin = twin_of a h.0 in
        (record { words = twin.words; long = twin.lengths ∙ h.0.long; sees = twin.sees ∙ h.0.sees }, all_give all h.1)

    -- twins of two tapes differ where the tapes do
    none_is : (a : AllTapes) (all : List AllTapes) → Gives a → Give all → NoneIs a all → NoneIs (other a) (map other all)
    none_is a [] g h n = tt
    none_is a (b ∷ all) g h n = (
      λ e. n.0 (sym (twin_of a g).back ∙ ap (twin_asked i second first qs) e ∙ (twin_of b h.0).back),
      none_is a all g h.1 n.1,
    )

    all_distinct : (all : List AllTapes) → Give all → AreDistinct all → AreDistinct (map other all)
    all_distinct [] h d = tt
    all_distinct (a ∷ all) h d = (none_is a all h.0 h.1 d.0, all_distinct all h.1 d.1)

    pub as_many : (all : List AllTapes) → Give all → AreDistinct all → AsMany i second qs lengths views all (map other all)
    as_many all h d = record { count = length-map all other; distinct = all_distinct all h d; give = all_give all h }
