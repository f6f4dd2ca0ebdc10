-- What a miner sees of many questions of one dealing is what the simulators make.
use Rattle.std.proofs.Common.{◌≡◌, ℕ, List, [], ◌∷◌, map, Option, Some, refl, sym, ap, ◌∙◌}
use Rattle.proto_core.specs.declared.party.Number.{Number}
use Rattle.proto_core.specs.Lists.{AreWords}
use Rattle.protocol_model.specs.Runs.{Tapes}
use Rattle.value_file.specs.declared.inputs.Entry.{Entry}
use Rattle.value_file.specs.Public.{part_of}
use Rattle.tape_file.specs.Tapes.{FourTapes}
use Rattle.view_text.specs.View.{View}
use Rattle.view_model.specs.TapeMaps.{four_of}
use Rattle.program_views.specs.Views.{lengths_of, run_on, simulated}
use Rattle.program_views.proofs.Simulated.{is_simulated}
use Rattle.many_questions.specs.Questions.{Question, AllTapes, views_on, opened_on, made_on, dealer_seen, mapped_on}
use Rattle.many_questions.specs.Laws.{AreGiven, AreOfWords, AreFor, AreSimulated}
use Rattle.many_questions.proofs.Asked.{tapes_are, mapped_is}

module _ (i : Number) (entries : List Entry) (d : List ℕ) (words : AreWords d) where
  -- of these questions
  record Made (qs : List Question) (ts : List Tapes) : Type 0 where
    views : List View
    seen : views_on i entries qs d ts ≡ map Some views
    made : made_on i (part_of entries) qs (opened_on entries qs d ts) (dealer_seen i entries d) (mapped_on i entries qs d ts) ≡ map Some views

  all_made : (qs : List Question) (ts : List Tapes) → AreGiven entries qs → AreOfWords qs ts → Made qs ts
  all_made [] ts given are = record { views = []; seen = refl; made = refl }
  all_made (q ∷ qs) [] given are = absurd are
  all_made (q ∷ qs) (t ∷ ts) given are =
      let one = is_simulated i q.source q.program q.instances entries given.0 (four_of d t) (tapes_are d t words are.0) q.budget q.delivery in
      let rest = all_made qs ts given.1 are.1 in
      let opened = (run_on q.program entries (lengths_of (four_of d t)) q.budget).opened in
      let later = made_on i (part_of entries) qs (opened_on entries qs d ts) (dealer_seen i entries d) (mapped_on i entries qs d ts) in
      record {
        views = one.view ∷ rest.views;
        seen = ap (λ (v : Option View). v ∷ views_on i entries qs d ts) one.seen ∙ ap (λ (vs : List (Option View)). Some one.view ∷ vs) rest.seen;
        made =
            ap (λ (f : FourTapes). simulated i q.program (part_of entries) opened f q.budget q.delivery ∷ later)
            (sym (mapped_is i entries q.program (four_of d t) q.budget))
            ∙ ap (λ (v : Option View). v ∷ later) one.made
            ∙ ap (λ (vs : List (Option View)). Some one.view ∷ vs) rest.made;
      }

pub questions_simulated : (i : Number) (entries : List Entry) (qs : List Question) (a : AllTapes) → AreGiven entries qs → AreFor qs a
    → AreSimulated i entries qs a
questions_simulated i entries qs a given are =
    let all = all_made i entries a.dealer are.dealer qs a.miners given are.miners in
    record { views = all.views; seen = all.seen; made = all.made }
