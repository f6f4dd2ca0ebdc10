-- The maps of all tapes are those of each run, with one dealer's tape.
use Rattle.std.proofs.Common.{◌≡◌, ℕ, Bool, true, false, if◌then◌else◌, List, [], ◌∷◌, length, refl, sym, ap, ◌∙◌, subst}
use Rattle.std.specs.Prelude.{nat_le}
use Rattle.proto_core.specs.declared.party.Number.{Number}
use Rattle.proto_core.specs.Lists.{AreWords}
use Rattle.protocol_model.specs.Runs.{Tapes}
use Rattle.protocol_model.specs.Views.{to_view, from_view}
use Rattle.program_trees.specs.TypedPrograms.{TypedProgramTree}
use Rattle.value_file.specs.declared.inputs.Entry.{Entry}
use Rattle.input_share.specs.Dealing.{need_of}
use Rattle.tape_file.specs.Tapes.{FourTapes}
use Rattle.view_model.specs.Dealing.{seen_dealer}
use Rattle.view_model.specs.TapeMaps.{miners_of, four_of, no_values, gates_dealt, is_dealt, to_simulated, from_simulated, AreTapes}
use Rattle.view_model.proofs.Corresponding.{le_from, miners_four}
use Rattle.view_model.proofs.Dealings.{seen_length, seen_words, seen_twice}
use Rattle.program_views.specs.Views.{lengths_of, run_on}
use Rattle.program_views.specs.TapeMaps.{mapped, mapped_back, MapsCorrespond}
use Rattle.program_views.proofs.Corresponding.{maps_correspond}
use Rattle.program_views.proofs.Simulated.{same_lengths}
use Rattle.many_questions.specs.Questions.{Question, AllTapes, lengths_on, own_on, dealer_seen, mapped_on, mapped_back_on}
use Rattle.many_questions.specs.Laws.{AreGiven, AreOfWords, AreFor, Correspond}

dealer_if : (b : Bool) (x : List ℕ) (ts : Tapes) (t : FourTapes) → (if b then four_of x ts else t).dealer ≡ (if b then x else t.dealer)
dealer_if true x ts t = refl
dealer_if false x ts t = refl

pub tapes_are : (dealer : List ℕ) (t : Tapes) → AreWords dealer → ((k : Number) → AreWords (t k)) → AreTapes (four_of dealer t)
tapes_are dealer t d ws = record { dealer = d; miners = λ k. subst (λ (v : Tapes). AreWords (v k)) (sym (miners_four dealer t)) (ws k) }

module _ (i : Number) (entries : List Entry) where
  -- ---- the dealer's tape

  dealer_dealt : (d : List ℕ) → nat_le (need_of entries) (length d) ≡ true → dealer_seen i entries d ≡ seen_dealer i entries d
  dealer_dealt d e = ap (λ b. if b then seen_dealer i entries d else d) e

  dealer_short : (d : List ℕ) → nat_le (need_of entries) (length d) ≡ false → dealer_seen i entries d ≡ d
  dealer_short d e = ap (λ b. if b then seen_dealer i entries d else d) e

  pub dealer_length : (d : List ℕ) → length (dealer_seen i entries d) ≡ length d
  dealer_length d = by_test (nat_le (need_of entries) (length d)) refl
    where
      by_test : (b : Bool) → nat_le (need_of entries) (length d) ≡ b → length (dealer_seen i entries d) ≡ length d
      by_test true e = ap length (dealer_dealt d e) ∙ seen_length i entries d (le_from _ _ e)
      by_test false e = ap length (dealer_short d e)

  pub dealer_words : (d : List ℕ) → AreWords d → AreWords (dealer_seen i entries d)
  dealer_words d are = by_test (nat_le (need_of entries) (length d)) refl
    where
      by_test : (b : Bool) → nat_le (need_of entries) (length d) ≡ b → AreWords (dealer_seen i entries d)
      by_test true e = subst AreWords (sym (dealer_dealt d e)) (seen_words i entries d (le_from _ _ e) are)
      by_test false e = subst AreWords (sym (dealer_short d e)) are

  pub dealer_twice : (d : List ℕ) → AreWords d → dealer_seen i entries (dealer_seen i entries d) ≡ d
  dealer_twice d are = by_test (nat_le (need_of entries) (length d)) refl
    where
      by_test : (b : Bool) → nat_le (need_of entries) (length d) ≡ b → dealer_seen i entries (dealer_seen i entries d) ≡ d
      by_test true e =
          ap (dealer_seen i entries) (dealer_dealt d e)
          ∙ dealer_dealt (seen_dealer i entries d) (ap (nat_le (need_of entries)) (seen_length i entries d (le_from _ _ e)) ∙ e)
          ∙ seen_twice i entries d (le_from _ _ e) are
      by_test false e = ap (dealer_seen i entries) (dealer_short d e) ∙ dealer_short d e

  -- ---- one run's map has it

  pub mapped_is : (p : TypedProgramTree) (t : FourTapes) (budget : ℕ)
      → mapped i p entries t budget ≡ four_of (dealer_seen i entries t.dealer) (miners_of (mapped i p entries t budget))
  unfolding to_simulated
  mapped_is p t budget =
      let gates = (run_on p entries (lengths_of t) budget).gates in
      ap (λ d. four_of d (miners_of (mapped i p entries t budget)))
      (dealer_if (is_dealt entries t) (seen_dealer i entries t.dealer) (to_view i (gates_dealt entries t.dealer gates) no_values (miners_of t)) t)

  pub mapped_back_is : (p : TypedProgramTree) (s : FourTapes) (budget : ℕ)
      → mapped_back i p entries s budget ≡ four_of (dealer_seen i entries s.dealer) (miners_of (mapped_back i p entries s budget))
  unfolding from_simulated
  mapped_back_is p s budget =
      let gates = (run_on p entries (lengths_of s) budget).gates in
      ap (λ d. four_of d (miners_of (mapped_back i p entries s budget)))
      (dealer_if (is_dealt entries s) (seen_dealer i entries s.dealer)
      (from_view i (gates_dealt entries (seen_dealer i entries s.dealer) gates) no_values (miners_of s)) s)

  -- ---- all of them

  module _ (d : List ℕ) (words : AreWords d) where
    as_run : (q : Question) (qs : List Question) → AreGiven entries (q ∷ qs) → (t : Tapes) → ((k : Number) → AreWords (t k))
        → MapsCorrespond i q.program entries (four_of d t) q.budget
    as_run q qs given t are = maps_correspond i q.source q.program q.instances entries given.0 q.budget (four_of d t) (tapes_are d t words are)

    there_miners : (qs : List Question) (ts : List Tapes) → AreGiven entries qs → AreOfWords qs ts
        → mapped_back_on i entries qs (dealer_seen i entries d) (mapped_on i entries qs d ts) ≡ ts
    there_miners [] ts given are = refl
    there_miners (q ∷ qs) [] given are = absurd are
    there_miners (q ∷ qs) (t ∷ ts) given are =
        let c = as_run q qs given t are.0 in
        let rest : List Tapes → List Tapes = λ (us : List Tapes). mapped_back_on i entries qs (dealer_seen i entries d) us in
        ap (λ (f : FourTapes). miners_of (mapped_back i q.program entries f q.budget) ∷ rest (mapped_on i entries qs d ts))
        (sym (mapped_is q.program (four_of d t) q.budget))
        ∙ ap (λ (f : FourTapes). miners_of f ∷ rest (mapped_on i entries qs d ts)) c.there_and_back
        ∙ ap (λ (v : Tapes). v ∷ rest (mapped_on i entries qs d ts)) (miners_four d t)
        ∙ ap (λ (us : List Tapes). t ∷ us) (there_miners qs ts given.1 are.1)

    back_miners : (qs : List Question) (ts : List Tapes) → AreGiven entries qs → AreOfWords qs ts
        → mapped_on i entries qs (dealer_seen i entries d) (mapped_back_on i entries qs d ts) ≡ ts
    back_miners [] ts given are = refl
    back_miners (q ∷ qs) [] given are = absurd are
    back_miners (q ∷ qs) (t ∷ ts) given are =
        let c = as_run q qs given t are.0 in
        let rest : List Tapes → List Tapes = λ (us : List Tapes). mapped_on i entries qs (dealer_seen i entries d) us in
        ap (λ (f : FourTapes). miners_of (mapped i q.program entries f q.budget) ∷ rest (mapped_back_on i entries qs d ts))
        (sym (mapped_back_is q.program (four_of d t) q.budget))
        ∙ ap (λ (f : FourTapes). miners_of f ∷ rest (mapped_back_on i entries qs d ts)) c.back_and_there
        ∙ ap (λ (v : Tapes). v ∷ rest (mapped_back_on i entries qs d ts)) (miners_four d t)
        ∙ ap (λ (us : List Tapes). t ∷ us) (back_miners qs ts given.1 are.1)

    there_long : (qs : List Question) (ts : List Tapes) → AreGiven entries qs → AreOfWords qs ts
        → lengths_on (dealer_seen i entries d) (mapped_on i entries qs d ts) ≡ lengths_on d ts
    there_long [] [] given are = refl
    there_long [] (t ∷ ts) given are = absurd are
    there_long (q ∷ qs) [] given are = absurd are
    there_long (q ∷ qs) (t ∷ ts) given are =
        let c = as_run q qs given t are.0 in
        ap (λ ns. ns ∷ lengths_on (dealer_seen i entries d) (mapped_on i entries qs d ts))
        (ap lengths_of (sym (mapped_is q.program (four_of d t) q.budget)) ∙ same_lengths _ _ c.kept)
        ∙ ap (λ (ls : List (List ℕ)). lengths_of (four_of d t) ∷ ls) (there_long qs ts given.1 are.1)

    back_long : (qs : List Question) (ts : List Tapes) → AreGiven entries qs → AreOfWords qs ts
        → lengths_on (dealer_seen i entries d) (mapped_back_on i entries qs d ts) ≡ lengths_on d ts
    back_long [] [] given are = refl
    back_long [] (t ∷ ts) given are = absurd are
    back_long (q ∷ qs) [] given are = absurd are
    back_long (q ∷ qs) (t ∷ ts) given are =
        let c = as_run q qs given t are.0 in
        ap (λ ns. ns ∷ lengths_on (dealer_seen i entries d) (mapped_back_on i entries qs d ts))
        (ap lengths_of (sym (mapped_back_is q.program (four_of d t) q.budget)) ∙ same_lengths _ _ c.back_kept)
        ∙ ap (λ (ls : List (List ℕ)). lengths_of (four_of d t) ∷ ls) (back_long qs ts given.1 are.1)

    there_words : (qs : List Question) (ts : List Tapes) → AreGiven entries qs → AreOfWords qs ts → AreOfWords qs (mapped_on i entries qs d ts)
    there_words [] ts given are = are
    there_words (q ∷ qs) [] given are = absurd are
    there_words (q ∷ qs) (t ∷ ts) given are = ((as_run q qs given t are.0).words.miners, there_words qs ts given.1 are.1)

    back_words : (qs : List Question) (ts : List Tapes) → AreGiven entries qs → AreOfWords qs ts → AreOfWords qs (mapped_back_on i entries qs d ts)
    back_words [] ts given are = are
    back_words (q ∷ qs) [] given are = absurd are
    back_words (q ∷ qs) (t ∷ ts) given are = ((as_run q qs given t are.0).back_words.miners, back_words qs ts given.1 are.1)

    own_kept : (qs : List Question) (ts : List Tapes) → AreGiven entries qs → AreOfWords qs ts → own_on i (mapped_on i entries qs d ts) ≡ own_on i ts
    own_kept [] ts given are = refl
    own_kept (q ∷ qs) [] given are = absurd are
    own_kept (q ∷ qs) (t ∷ ts) given are =
        ap (λ w. w ∷ own_on i (mapped_on i entries qs d ts)) ((as_run q qs given t are.0).own ∙ ap (λ (v : Tapes). v i) (miners_four d t))
        ∙ ap (λ (ws : List (List ℕ)). t i ∷ ws) (own_kept qs ts given.1 are.1)

  pub asked_correspond : (qs : List Question) (a : AllTapes) → AreGiven entries qs → AreFor qs a → Correspond i entries qs a
  asked_correspond qs a given are =
      let twice = dealer_twice a.dealer are.dealer in
      let both : List ℕ → List Tapes → AllTapes = λ (d : List ℕ) (ts : List Tapes). record { dealer = d; miners = ts } in
      record {
        there_and_back =
            ap (λ d. both d (mapped_back_on i entries qs (dealer_seen i entries a.dealer) (mapped_on i entries qs a.dealer a.miners))) twice
            ∙ ap (both a.dealer) (there_miners a.dealer are.dealer qs a.miners given are.miners);
        back_and_there =
            ap (λ d. both d (mapped_on i entries qs (dealer_seen i entries a.dealer) (mapped_back_on i entries qs a.dealer a.miners))) twice
            ∙ ap (both a.dealer) (back_miners a.dealer are.dealer qs a.miners given are.miners);
        kept = there_long a.dealer are.dealer qs a.miners given are.miners;
        back_kept = back_long a.dealer are.dealer qs a.miners given are.miners;
        words = record { dealer = dealer_words a.dealer are.dealer; miners = there_words a.dealer are.dealer qs a.miners given are.miners };
        back_words = record { dealer = dealer_words a.dealer are.dealer; miners = back_words a.dealer are.dealer qs a.miners given are.miners };
        own = own_kept a.dealer are.dealer qs a.miners given are.miners;
      }
