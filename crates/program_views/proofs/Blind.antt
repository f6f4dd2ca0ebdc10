-- The run of one who is told what is opened takes the course of the run in the clear, and so gives the same view of what was seen.
use Rattle.std.proofs.Common.{◌≡◌, ℕ, List, [], ◌∷◌, ◌++◌, map, Option, Some, refl, sym, ap, ◌∙◌, subst}
use Rattle.sc_text.specs.declared.elements.Element.{Element}
use Rattle.sc_text.specs.declared.end.Ending.{Ending}
use Rattle.sc_text.specs.declared.event.Event.{Event}
use Rattle.sc_text.specs.declared.event.Event.TheVariants.{Open, Publish, Hand}
use Rattle.proto_core.specs.declared.party.Number.{Number}
use Rattle.proto_core.proofs.Beginnings.{append-none}
use Rattle.value_file.specs.declared.inputs.Entry.{Entry}
use Rattle.value_file.specs.Public.{part_of}
use Rattle.program_trees.specs.TypedPrograms.{TypedProgramTree}
use Rattle.language_model.specs.Effects.{Answers, GivenInput, RunStop, Ended, Short}
use Rattle.language_model.specs.Learned.{elements_words, learned_of}
use Rattle.language_model.specs.Reports.{Report, Offered, world_of, evaluated, public_part}
use Rattle.blind_evaluation.specs.Courses.{LikeEvents, TakeSameCourse, IsEnded}
use Rattle.blind_evaluation.proofs.Course.{same_course, never_short}
use Rattle.clear_eval.specs.Offers.{offered, offered_with, offered_part}
use Rattle.clear_eval.proofs.PublicParts.{entries_are_public}
use Rattle.view_text.specs.View.{View}
use Rattle.view_model.specs.Seen.{Seen}
use Rattle.program_views.specs.Views.{run_on, told_run, input_shares, received, openings, view_at, view_with}

part_is_public : (entries : List Entry) (lengths : List ℕ) → public_part (offered entries lengths) ≡ offered_part (part_of entries) lengths
part_is_public entries lengths = ap (λ (inputs : List GivenInput). offered_with inputs lengths) (sym (entries_are_public entries))

module _ (p : TypedProgramTree) (entries : List Entry) (lengths : List ℕ) (budget : ℕ) where
  abbrev real : Report
  real = run_on p entries lengths budget

  pub takes_same_course : (more : List ℕ) → TakeSameCourse real (told_run p (part_of entries) (real.opened ++ more) lengths budget)
  takes_same_course more =
      subst (λ (o : Offered). TakeSameCourse real (evaluated (world_of Answers o) p budget (real.opened ++ more)))
      (part_is_public entries lengths) (same_course p (offered entries lengths) budget more)

  pub same_course_exactly : TakeSameCourse real (told_run p (part_of entries) real.opened lengths budget)
  same_course_exactly =
      subst (λ (opened : List ℕ). TakeSameCourse real (told_run p (part_of entries) opened lengths budget)) (append-none real.opened)
      (takes_same_course [])

  pub is_ended : IsEnded real.stop
  is_ended = subst IsEnded (sym (same_course p (offered entries lengths) budget []).stop) (never_short p (offered entries lengths) budget [])

pub same_openings : (es fs : List Event) → LikeEvents es fs → openings es ≡ openings fs
same_openings [] [] h = refl
same_openings [] (f ∷ fs) h = absurd h
same_openings (e ∷ es) [] h = absurd h
same_openings (Open elements ∷ es) (Open others ∷ fs) h =
    ap (λ (x : List Element). x ∷ openings es) h.0 ∙ ap (λ xs. others ∷ xs) (same_openings es fs h.1)
same_openings (Publish text elements ∷ es) (Publish text' others ∷ fs) h = same_openings es fs h.1
same_openings (Hand text kind elements ∷ es) (Hand text' kind' others ∷ fs) h = same_openings es fs h.1
same_openings (Open elements ∷ es) (Publish text others ∷ fs) h = absurd h.0
same_openings (Open elements ∷ es) (Hand text kind others ∷ fs) h = absurd h.0
same_openings (Publish text elements ∷ es) (Open others ∷ fs) h = absurd h.0
same_openings (Publish text elements ∷ es) (Hand text' kind' others ∷ fs) h = absurd h.0
same_openings (Hand text kind elements ∷ es) (Open others ∷ fs) h = absurd h.0
same_openings (Hand text kind elements ∷ es) (Publish text' others ∷ fs) h = absurd h.0

-- the words that the gates open are those of the openings
words_of : List (List Element) → List ℕ
words_of [] = []
words_of (es ∷ ess) = elements_words es ++ words_of ess

learned_so : (es : List Event) → learned_of es ≡ words_of (openings es)
unfolding words_of
learned_so [] = refl
learned_so (Open elements ∷ es) = ap (λ ws. elements_words elements ++ ws) (learned_so es)
learned_so (Publish text elements ∷ es) = learned_so es
learned_so (Hand text kind elements ∷ es) = learned_so es

pub same_learned : (es fs : List Event) → LikeEvents es fs → learned_of es ≡ learned_of fs
same_learned es fs h = learned_so es ∙ ap words_of (same_openings es fs h) ∙ sym (learned_so fs)

module _ (i : Number) (seen : Seen) where
  abbrev shown : Ending → List (List Element) → (cost : ℕ) → Option View
  shown ending opened cost =
      Some (record {
        miner = i;
        inputs = input_shares seen.inputs;
        drew = seen.drew;
        got = map received seen.got;
        opened = opened;
        end = record { how = ending; cost = cost };
      })

  pub same_view : (r s : Report) → TakeSameCourse r s → view_with i seen r ≡ view_with i seen s
  same_view r s course = ap (view_at i seen r) course.stop ∙ by_stop s.stop
    where
      by_stop : (stop : RunStop) → view_at i seen r stop ≡ view_at i seen s stop
      by_stop (Ended ending) =
          ap (λ opened. shown ending opened r.cost) (same_openings r.events s.events course.events)
          ∙ ap (shown ending (openings s.events)) course.cost
      by_stop Short = refl

  -- a run that ended gives a view
  pub gives_view : (r : Report) → IsEnded r.stop → (view : View) × (view_with i seen r ≡ Some view) × (view.drew ≡ seen.drew)
  gives_view r ended = by_stop r.stop ended
    where
      by_stop : (stop : RunStop) → IsEnded stop → (view : View) × (view_at i seen r stop ≡ Some view) × (view.drew ≡ seen.drew)
      by_stop (Ended ending) h = (_, refl, refl)
      by_stop Short h = absurd h
