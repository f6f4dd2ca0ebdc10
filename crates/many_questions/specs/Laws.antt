-- What is promised of many questions of one dealing.
use Rattle.std.specs.Prelude.{◌≡◌, ℕ, List, [], ◌∷◌, length, map, Some}
use Rattle.proto_core.specs.declared.party.Number.{Number}
use Rattle.proto_core.specs.Lists.{AreWords}
use Rattle.protocol_model.specs.Runs.{Tapes}
use Rattle.value_file.specs.declared.inputs.Entry.{Entry}
use Rattle.value_file.specs.Public.{part_of}
use Rattle.view_text.specs.View.{View}
use Rattle.view_model.specs.Counting.{AreDistinct}
use Rattle.program_views.specs.TapeMaps.{AreAlike}
use Rattle.program_views.specs.Laws.{IsGivenTo}
use Rattle.many_questions.specs.Questions.{Question, AllTapes, lengths_on, own_on, views_on, opened_on, made_on, to_asked, from_asked, twin_asked}

-- each program is accepted, and the inputs may stand in a file
abbrev pub AreGiven : List Entry → List Question → Type 0
AreGiven entries [] = Unit {0}
AreGiven entries (q ∷ qs) = IsGivenTo q.source q.program q.instances entries × AreGiven entries qs

-- tapes of words of the miners, for each question its own
abbrev pub AreOfWords : List Question → List Tapes → Type 0
AreOfWords [] [] = Unit {0}
AreOfWords [] (t ∷ ts) = ⊥
AreOfWords (q ∷ qs) [] = ⊥
AreOfWords (q ∷ qs) (t ∷ ts) = ((k : Number) → AreWords (t k)) × AreOfWords qs ts

pub record AreFor (qs : List Question) (a : AllTapes) : Type 0 where
  pub dealer : AreWords a.dealer
  pub miners : AreOfWords qs a.miners

-- ---- VIEWS

-- each run gives a view; and the simulators make all of them of the public part of the inputs, each run's opened words, and the mapped tapes,
-- the dealer's being the same for all
pub record AreSimulated (i : Number) (entries : List Entry) (qs : List Question) (a : AllTapes) : Type 0 where
  pub views : List View
  pub seen : views_on i entries qs a.dealer a.miners ≡ map Some views
  pub made :
      made_on i (part_of entries) qs (opened_on entries qs a.dealer a.miners) (to_asked i entries qs a).dealer (to_asked i entries qs a).miners
      ≡ map Some views

-- ---- TAPES

-- the maps of all tapes together are each other's inverse; each tape keeps its length, the miner's own its words, and words stay words
pub record Correspond (i : Number) (entries : List Entry) (qs : List Question) (a : AllTapes) : Type 0 where
  pub there_and_back : from_asked i entries qs (to_asked i entries qs a) ≡ a
  pub back_and_there : to_asked i entries qs (from_asked i entries qs a) ≡ a
  pub kept : lengths_on (to_asked i entries qs a).dealer (to_asked i entries qs a).miners ≡ lengths_on a.dealer a.miners
  pub back_kept : lengths_on (from_asked i entries qs a).dealer (from_asked i entries qs a).miners ≡ lengths_on a.dealer a.miners
  pub words : AreFor qs (to_asked i entries qs a)
  pub back_words : AreFor qs (from_asked i entries qs a)
  pub own : own_on i (to_asked i entries qs a).miners ≡ own_on i a.miners

-- ---- TWINS

-- on tapes as long as these, for each question
abbrev pub AllAlike : (first second : List Entry) → List Question → (lengths : List (List ℕ)) → Type 0
AllAlike first second [] lengths = Unit {0}
AllAlike first second (q ∷ qs) [] = Unit {0}
AllAlike first second (q ∷ qs) (l ∷ ls) = AreAlike q.program first second l q.budget × AllAlike first second qs ls

pub record AreBothGiven (first second : List Entry) (qs : List Question) (lengths : List (List ℕ)) : Type 0 where
  pub one : AreGiven first qs
  pub other : AreGiven second qs
  pub alike : AllAlike first second qs lengths

-- tapes as long, with which the second inputs give the same views of all runs, and the way back leads back
pub record IsTwin (i : Number) (first second : List Entry) (qs : List Question) (a b : AllTapes) : Type 0 where
  pub words : AreFor qs b
  pub lengths : lengths_on b.dealer b.miners ≡ lengths_on a.dealer a.miners
  pub sees : views_on i second qs b.dealer b.miners ≡ views_on i first qs a.dealer a.miners
  pub back : twin_asked i second first qs b ≡ a

-- ---- AS MANY

-- tapes of words, as long as these, which give these views
pub record GivesViews (i : Number) (entries : List Entry) (qs : List Question) (lengths : List (List ℕ)) (views : List View) (a : AllTapes) : Type 0 where
  pub words : AreFor qs a
  pub long : lengths_on a.dealer a.miners ≡ lengths
  pub sees : views_on i entries qs a.dealer a.miners ≡ map Some views

abbrev pub AllGive : Number → List Entry → List Question → (lengths : List (List ℕ)) → List View → List AllTapes → Type 0
AllGive i entries qs lengths views [] = Unit {0}
AllGive i entries qs lengths views (a ∷ more) = GivesViews i entries qs lengths views a × AllGive i entries qs lengths views more

-- as many distinct tapes, which give the same views with these inputs
pub record AsMany
    (i : Number) (second : List Entry) (qs : List Question) (lengths : List (List ℕ)) (views : List View) (all twins : List AllTapes) : Type 0 where
  pub count : length twins ≡ length all
  pub distinct : AreDistinct twins
  pub give : AllGive i second qs lengths views twins
