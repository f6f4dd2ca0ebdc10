-- Whether tapes have the words that a run needs decides all that the run depends on them.
use Rattle.std.proofs.Common.{◌≡◌, ℕ, ◌<◌, List, Bool, true, false, cond, Ok, Err, refl, sym, ◌∙◌, ap, subst, arith}
use Rattle.std.specs.Prelude.{nat_le, sum, map}
use Rattle.std.proofs.lemmas.Bool.{leb-false}
use Rattle.reached_instances.specs.TypedPrograms.{TypedProgramTree}
use Rattle.language_model.specs.Effects.{World, Run}
use Rattle.language_model.specs.Values.{Value}
use Rattle.language_model.specs.Reports.{Report, words_dealt, dealing, beginning, report_of, not_dealt, evaluated}
use Rattle.language_model.specs.Tapes.{AtMost, HasWords, lacks_words}
use Rattle.language_model.proofs.Walk.{main_of}
use Rattle.language_model.proofs.Onward.{stage_of}
use Rattle.language_model.proofs.Kept.{words_kept}
use Rattle.language_model.proofs.Enough.{lacks, program_enough}

module _ (w w' : World) (source : w.source ≡ w'.source) (inputs : w.inputs ≡ w'.inputs) (p : TypedProgramTree) (budget : ℕ) (answers : List ℕ) where
  abbrev run : World → Run Value
  run v = main_of v p (beginning budget answers)

  same_dealing : dealing w ≡ dealing w'
  same_dealing = ap (λ xs. sum (map words_dealt xs)) inputs

  report_had : (v : World) (r : Run Value) → lacks_words (report_of v budget r).stop ≡ false → lacks r ≡ false
  report_had v (Ok x) n = refl
  report_had v (Err e) n = n

  report_drawn : (v : World) (r : Run Value) (n : AtMost (report_of v budget r).drawn w'.lengths) → AtMost (stage_of r).drawn w'.lengths
  report_drawn v (Ok x) n = n
  report_drawn v (Err e) n = n

  same_report : (r : Run Value) → report_of w' budget r ≡ report_of w budget r
  same_report (Ok x) = ap (λ d. record (report_of w budget (Ok x)) { dealt = d }) (sym same_dealing)
  same_report (Err e) = ap (λ d. record (report_of w budget (Err e)) { dealt = d }) (sym same_dealing)

  abbrev Reported : Bool → World → Report
  Reported c v = cond c (report_of v budget (run v)) (not_dealt v)

  report_dealt : (r : Run Value) → (report_of w budget r).dealt ≡ dealing w
  report_dealt (Ok x) = refl
  report_dealt (Err e) = refl

  tapes_same : lacks_words (evaluated w p budget answers).stop ≡ false → HasWords w' (evaluated w p budget answers)
      → evaluated w' p budget answers ≡ evaluated w p budget answers
  tapes_same = go (nat_le (dealing w) w.dealer) (nat_le (dealing w') w'.dealer) refl
    where
      go : (c c' : Bool) → nat_le (dealing w') w'.dealer ≡ c' → lacks_words (Reported c w).stop ≡ false → HasWords w' (Reported c w)
          → Reported c' w' ≡ Reported c w
      go true true e n h =
          let same : run w' ≡ run w = (program_enough w w' source inputs p).longer (beginning budget answers) (report_had w (run w) n)
          (report_drawn w (run w) h.drawn) in
          ap (report_of w' budget) same ∙ same_report (run w)
      go true false e n h =
          let more : w'.dealer < dealing w' = leb-false (dealing w') w'.dealer e in
          absurd (omega (arith, more, h.dealt, report_dealt (run w), same_dealing))
      go false c' e n h = cc

  tapes_neither : lacks_words (evaluated w p budget answers).stop ≡ false → lacks_words (evaluated w' p budget answers).stop ≡ false
      → evaluated w' p budget answers ≡ evaluated w p budget answers
  tapes_neither = go (nat_le (dealing w) w.dealer) (nat_le (dealing w') w'.dealer)
    where
      go : (c c' : Bool) → lacks_words (Reported c w).stop ≡ false → lacks_words (Reported c' w').stop ≡ false → Reported c' w' ≡ Reported c w
      go true true n n' =
          let same : run w' ≡ run w = (program_enough w w' source inputs p).neither (beginning budget answers) (report_had w (run w) n)
          (report_had w' (run w') n') in
          ap (report_of w' budget) same ∙ same_report (run w)
      go true false n n' = cc
      go false c' n n' = cc

  tapes_stop : lacks_words (evaluated w p budget answers).stop ≡ false → ¬ (HasWords w' (evaluated w p budget answers))
      → lacks_words (evaluated w' p budget answers).stop ≡ true
  tapes_stop n few = go (lacks_words (evaluated w' p budget answers).stop) refl
    where
      go : (c : Bool) → lacks_words (evaluated w' p budget answers).stop ≡ c → lacks_words (evaluated w' p budget answers).stop ≡ true
      go true q = q
      go false q = absurd (few (subst (HasWords w') (tapes_neither n q) (words_kept w' p budget answers)))

pub enough_words : (w w' : World) (p : TypedProgramTree) (budget : ℕ) (answers : List ℕ) → w.source ≡ w'.source → w.inputs ≡ w'.inputs
    → lacks_words (evaluated w p budget answers).stop ≡ false → HasWords w' (evaluated w p budget answers)
    → evaluated w' p budget answers ≡ evaluated w p budget answers
enough_words w w' p budget answers source inputs n h = tapes_same w w' source inputs p budget answers n h

pub too_few_words : (w w' : World) (p : TypedProgramTree) (budget : ℕ) (answers : List ℕ) → w.source ≡ w'.source → w.inputs ≡ w'.inputs
    → lacks_words (evaluated w p budget answers).stop ≡ false → ¬ (HasWords w' (evaluated w p budget answers))
    → lacks_words (evaluated w' p budget answers).stop ≡ true
too_few_words w w' p budget answers source inputs n h = tapes_stop w w' source inputs p budget answers n h
