-- Openings that three miners tell are of elements of 64 bits.
use Rattle.std.proofs.Common.{◌≡◌, ℕ, suc, ◌-◌, ◌<◌, ◌≤◌, ◌^◌, List, [], ◌∷◌, map, length, Bool, true, false, if◌then◌else◌, Ok, refl, sym, ap, subst, ◌∙◌, arith}
use Rattle.std.specs.Prelude.{nat_le, nat_lt}
use Rattle.std.proofs.lemmas.Bool.{leb-true}
use Rattle.program_trees.specs.declared.expression.DataType.{DataType}
use Rattle.program_trees.specs.declared.expression.DataType.TheVariants as datatype
use Rattle.sc_text.specs.declared.event.Event.{Event}
use Rattle.proto_core.specs.declared.party.Number.{Number}
use Rattle.proto_core.specs.Strand.{Notice}
use Rattle.language_model.specs.Values.{element_of}
use Rattle.gate_laws.specs.Dealt.{InRange}
use Rattle.program_run.specs.Telling.{type_of, Tells, nothing, opened, published, handed}
use Rattle.view_text.specs.View.{IsElement, AreElements, AreOpened}
use Rattle.program_views.specs.Views.{lengths_of, openings, run_on}
use Rattle.program_views.specs.Inputs.{AreSound}
use Rattle.program_views.proofs.Given.{same_need}
use Rattle.clear_eval.specs.Offers.{offered}
use Rattle.language_model.specs.Effects.{World, Clear}
use Rattle.language_model.specs.Reports.{Report, world_of, beginning, report_of, not_dealt}
use Rattle.language_model.proofs.Walk.{main_of}
use Rattle.program_run.specs.Accepted.{IsAccepted}
use Rattle.program_run.proofs.Shared.{runs_where_accepted}
use Rattle.tape_file.specs.Tapes.{FourTapes}
use Rattle.program_trees.specs.TypedPrograms.{TypedProgramTree}
use Rattle.value_file.specs.declared.inputs.Entry.{Entry}
use Rattle.view_model.specs.TapeMaps.{is_dealt, AreTapes}
use Rattle.view_model.proofs.Corresponding.{le_from}
use Rattle.view_reader.specs.Opened.{opened_bytes, opened_of}
use Rattle.view_laws.proofs.OpenedFiles.{words_again}
use Rattle.view_laws.proofs.OpenedWords.{opened_is_told}

-- a number with a sign
signed_is : (x : ℕ) → x < 2 ^ 64 → IsElement (element_of datatype.Int64 x)
signed_is x h = go (nat_le (2 ^ 63) x) (nat_lt x (2 ^ 64)) refl refl
  where
    go : (a b : Bool) → nat_le (2 ^ 63) x ≡ a → nat_lt x (2 ^ 64) ≡ b → IsElement (element_of datatype.Int64 x)
    go true true e f = let high = leb-true (2 ^ 63) x e in rw (e, f) (omega (arith, h), omega (arith, high))
    go true false e f = rw (e, f) h
    go false b e f = rw e h

pub elements_are : (e : DataType) (words : List ℕ) → InRange e words → AreElements (map (element_of e) words)
elements_are e [] h = tt
elements_are datatype.Uint64 (x ∷ xs) h = (h 0, elements_are datatype.Uint64 xs (λ k. h (suc k)))
elements_are datatype.Int64 (x ∷ xs) h = (signed_is x (h 0), elements_are datatype.Int64 xs (λ k. h (suc k)))
elements_are datatype.Bool (x ∷ xs) h = (tt, elements_are datatype.Bool xs (λ k. h (suc k)))

pub openings_are : {events : List Event} {notices : Number → List Notice} → Tells events notices → AreOpened (openings events)
openings_are nothing = tt
openings_are (opened form words range rest) = (elements_are (type_of form.element) words range, openings_are rest)
openings_are (published text form words range rest) = openings_are rest
openings_are (handed text form words shares range are rest) = openings_are rest

-- ---- of a whole run

module _ (p : TypedProgramTree) (entries : List Entry) (t : FourTapes) (budget : ℕ) where
  abbrev r : Report
  r = run_on p entries (lengths_of t) budget

  abbrev w : World
  w = world_of Clear (offered entries (lengths_of t))

  undealt : is_dealt entries t ≡ false → r ≡ not_dealt w
  undealt e =
      ap (λ (b : Bool). if b then report_of w budget (main_of w p (beginning budget [])) else not_dealt w)
      (ap (λ n. nat_le n (length t.dealer)) (same_need entries) ∙ e)

  pub run_openings_are : IsAccepted p → AreSound entries → AreTapes t → AreOpened (openings r.events)
  run_openings_are accepted sound tapes = go (is_dealt entries t) refl
    where
      go : (b : Bool) → is_dealt entries t ≡ b → AreOpened (openings r.events)
      go true e =
          openings_are
          (runs_where_accepted p entries t budget accepted
          (record { sound = sound; suffice = record { words = tapes.dealer; enough = le_from _ _ e }; words = tapes.miners })).run.told
      go false e = subst (λ (x : Report). AreOpened (openings x.events)) (sym (undealt e)) tt

  -- the file of what a run opens is read as the words that it opens
  pub opened_file_is_read_again : IsAccepted p → AreSound entries → AreTapes t → opened_of (opened_bytes (openings r.events)) ≡ Ok r.opened
  opened_file_is_read_again accepted sound tapes =
      words_again (openings r.events) (run_openings_are accepted sound tapes) ∙ ap Ok (sym (opened_is_told w p budget []))
