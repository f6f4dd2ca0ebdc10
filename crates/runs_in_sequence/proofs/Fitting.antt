-- Runs that take values of the sizes that they want go to their ends, whatever the values are.
use Rattle.std.proofs.Common.{◌≡◌, ℕ, ◌+◌, ◌≤◌, Bool, true, false, List, [], ◌∷◌, ◌++◌, length, refl, sym, ◌∙◌, ap, subst}
use Rattle.proto_core.specs.declared.party.Number.{Number}
use Rattle.proto_core.specs.Lists.{AreWords}
use Rattle.protocol_model.specs.Gates.{sizes_of}
use Rattle.protocol_model.specs.Runs.{Tapes, run_values, Ready}
use Rattle.protocol_model.specs.Views.{from_view}
use Rattle.protocol_model.proofs.Sizes.{sizes-append, ready-with}
use Rattle.protocol_model.proofs.Walks.{to_view-length, to_view-words, from_view-length, from_view-words}
use Rattle.gates.specs.declared.gate.Gate.{Gate}
use Rattle.gates.specs.declared.gate.Gate.TheVariants.{Result}
use Rattle.gates.specs.Clear.{Values}
use Rattle.gates.specs.Counts.{made_by, size_of, words_of_all}
use Rattle.shared_gates.specs.Model.{sizes_after, miner_of}
use Rattle.shared_gates.proofs.Models.{gates-sound, size-value}
use Rattle.shared_gates.proofs.Drawn.{run-ready}
use Rattle.shared_plans.proofs.RunLists.{values-sized}
use Rattle.shared_plans.proofs.GateRunLaws.{model-sizes}
use Rattle.handed_shares.specs.Handed.{kept_by, kept_from}
use Rattle.runs_in_sequence.specs.Sequences.{chosen, Leg, no_values, Kept, gates_on, kept_then, RunOn, to_views, from_views, AreMappedOf}
use Rattle.runs_in_sequence.specs.Twins.{size_kept_by, sizes_kept, chosen_sizes, Fits, sizes_then, AllFit, AreSized}
use Rattle.runs_in_sequence.proofs.Sequences.{sound, correspond}

-- ---- sizes

kept-sizes : (mine : ℕ → Bool) (own : Values) (gates : List Gate) (next : ℕ)
    → sizes_of (kept_from mine next own gates) ≡ sizes_kept mine next (sizes_of own) gates
kept-sizes mine own [] next = refl
kept-sizes mine own (Result ring u ∷ gates) next = either (mine next) (kept-sizes mine own gates (next + 1))
  where
    either : (b : Bool) → sizes_of (kept_from mine (next + 1) own gates) ≡ sizes_kept mine (next + 1) (sizes_of own) gates
        → sizes_of (kept_by (Result ring u) b next own ++ kept_from mine (next + 1) own gates)
        ≡ size_kept_by (Result ring u) b next (sizes_of own) ++ sizes_kept mine (next + 1) (sizes_of own) gates
    either true rest =
        ap (λ n. n ∷ sizes_of (kept_from mine (next + 1) own gates)) (size-value own next)
        ∙ ap (λ (ns : List ℕ). size_of (sizes_of own) next ∷ ns) rest
    either false rest = rest
kept-sizes mine own (gate ∷ gates) next = kept-sizes mine own gates (next + made_by gate)

chosen-sizes : (places : List ℕ) (values : Values) → sizes_of (chosen places values) ≡ chosen_sizes places (sizes_of values)
chosen-sizes [] values = refl
chosen-sizes (k ∷ ks) values =
    ap (λ n. n ∷ sizes_of (chosen ks values)) (size-value values k)
    ∙ ap (λ (ns : List ℕ). size_of (sizes_of values) k ∷ ns) (chosen-sizes ks values)

-- ---- one run

module _ (sizes : List ℕ) (kept : Kept) (sized : AreSized sizes kept) (leg : Leg) where
  begins-sized : (t : Tapes) → Fits sizes leg t → (i : Number) → sizes_of (chosen leg.takes (kept i) ++ leg.fresh i) ≡ leg.sizes
  begins-sized t fits i =
      sizes-append (chosen leg.takes (kept i)) (leg.fresh i)
      ∙ ap (λ ns. ns ++ sizes_of (leg.fresh i)) (chosen-sizes leg.takes (kept i) ∙ ap (chosen_sizes leg.takes) (sized i))
      ∙ fits.sizes i

  pub leg-ready : (t : Tapes) → Fits sizes leg t → Ready (gates_on leg kept) no_values t
  leg-ready t fits = run-ready (λ i. chosen leg.takes (kept i) ++ leg.fresh i) leg.sizes leg.gates t (begins-sized t fits) fits.suited fits.reach fits.words

  pub kept-sized : (t : Tapes) → Ready (gates_on leg kept) no_values t → AreSized (sizes_then sizes leg) (kept_then leg kept t)
  kept-sized t ready i =
      let own = run_values (gates_on leg kept) no_values t i in
      let all : sizes_of own ≡ sizes_after leg.sizes [] leg.gates =
      values-sized (gates_on leg kept) no_values t [] (gates-sound _ leg.sizes [] leg.gates) ready (λ k. refl) i ∙ model-sizes _ leg.sizes [] leg.gates in
      sizes-append (kept i) (kept_from leg.keeps 0 own leg.gates)
      ∙ ap (λ ns. ns ++ sizes_of (kept_from leg.keeps 0 own leg.gates)) (sized i)
      ∙ ap (λ ns. sizes ++ ns) (kept-sizes leg.keeps own leg.gates 0 ∙ ap (λ ns. sizes_kept leg.keeps 0 ns leg.gates) all)

-- ---- all of them

pub all-run : (sizes : List ℕ) (kept : Kept) → AreSized sizes kept → (legs : List Leg) (ts : List Tapes) → AllFit sizes legs ts → RunOn kept legs ts
all-run sizes kept sized [] [] fit = tt
all-run sizes kept sized [] (t ∷ ts) fit = absurd fit
all-run sizes kept sized (leg ∷ legs) [] fit = absurd fit
all-run sizes kept sized (leg ∷ legs) (t ∷ ts) fit =
    let ready = leg-ready sizes kept sized leg t fit.0 in
    (ready, all-run (sizes_then sizes leg) (kept_then leg kept t) (kept-sized sizes kept sized leg t ready) legs ts fit.1)

-- ---- tapes of the same lengths

pub record LikeTapes (t s : Tapes) : Type 0 where
  pub lengths : (m : Number) → length (s m) ≡ length (t m)
  pub words : (m : Number) → AreWords (s m)

abbrev pub AllLike : List Tapes → List Tapes → Type 0
AllLike [] [] = Unit {0}
AllLike [] (s ∷ ss) = ⊥
AllLike (t ∷ ts) [] = ⊥
AllLike (t ∷ ts) (s ∷ ss) = LikeTapes t s × AllLike ts ss

pub fit-like : (sizes : List ℕ) (legs : List Leg) (ts ss : List Tapes) → AllFit sizes legs ts → AllLike ts ss → AllFit sizes legs ss
fit-like sizes [] [] [] fit like = tt
fit-like sizes [] [] (s ∷ ss) fit like = absurd like
fit-like sizes [] (t ∷ ts) ss fit like = absurd fit
fit-like sizes (leg ∷ legs) [] ss fit like = absurd fit
fit-like sizes (leg ∷ legs) (t ∷ ts) [] fit like = absurd like
fit-like sizes (leg ∷ legs) (t ∷ ts) (s ∷ ss) fit like = (
  record {
    sizes = fit.0.sizes;
    suited = fit.0.suited;
    reach = λ i. subst (λ n. words_of_all (sizes_after leg.sizes [] leg.gates) (miner_of i) leg.gates ≤ n) (sym (like.0.lengths i)) (fit.0.reach i);
    words = like.0.words;
  },
  fit-like (sizes_then sizes leg) legs ts ss fit.1 like.1,
)

module _ (i : Number) where
  pub there-like : (kept : Kept) (legs : List Leg) (ts : List Tapes) → RunOn kept legs ts → AllLike ts (to_views i kept legs ts)
  there-like kept [] [] runs = tt
  there-like kept [] (t ∷ ts) runs = absurd runs
  there-like kept (leg ∷ legs) [] runs = absurd runs
  there-like kept (leg ∷ legs) (t ∷ ts) runs = (
    record {
      lengths = to_view-length i (gates_on leg kept) no_values t (sound i leg kept) (correspond i leg kept) runs.0;
      words = to_view-words i (gates_on leg kept) no_values t (sound i leg kept) (correspond i leg kept) runs.0;
    },
    there-like (kept_then leg kept t) legs ts runs.1,
  )

  back-one : (kept : Kept) (leg : Leg) (s : Tapes) → Ready (gates_on leg kept) no_values s → LikeTapes s (from_view i (gates_on leg kept) no_values s)
  back-one kept leg s ready =
      record {
        lengths = from_view-length i (gates_on leg kept) no_values s (sound i leg kept) (correspond i leg kept) ready;
        words = from_view-words i (gates_on leg kept) no_values s (sound i leg kept) (correspond i leg kept) ready;
      }

  pub back-like : (kept : Kept) (legs : List Leg) (ss : List Tapes) → AreMappedOf i kept legs ss → AllLike ss (from_views i kept legs ss)
  back-like kept [] [] runs = tt
  back-like kept [] (s ∷ ss) runs = absurd runs
  back-like kept (leg ∷ legs) [] runs = absurd runs
  back-like kept (leg ∷ legs) (s ∷ ss) runs =
      (back-one kept leg s runs.0, back-like (kept_then leg kept (from_view i (gates_on leg kept) no_values s)) legs ss runs.1)

  -- the tapes that mapped ones come from are as good
  pub mapped-run : (sizes : List ℕ) (kept : Kept) → AreSized sizes kept → (legs : List Leg) (ss : List Tapes) → AllFit sizes legs ss
      → AreMappedOf i kept legs ss
  mapped-run sizes kept sized [] [] fit = tt
  mapped-run sizes kept sized [] (s ∷ ss) fit = absurd fit
  mapped-run sizes kept sized (leg ∷ legs) [] fit = absurd fit
  mapped-run sizes kept sized (leg ∷ legs) (s ∷ ss) fit =
      let ready = leg-ready sizes kept sized leg s fit.0 in
      let real : Tapes = from_view i (gates_on leg kept) no_values s in
      let back = back-one kept leg s ready in
      let ready_too : Ready (gates_on leg kept) no_values real = ready-with (gates_on leg kept) no_values s real ready back.lengths back.words in
      (ready, mapped-run (sizes_then sizes leg) (kept_then leg kept real) (kept-sized sizes kept sized leg real ready_too) legs ss fit.1)
