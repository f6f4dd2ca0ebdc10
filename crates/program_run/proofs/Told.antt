-- What is told where the dealer's words don't suffice, and what a miner knows.
use Rattle.std.proofs.Common.{◌≡◌, ◌<◌, ℕ, List, [], length, map, false, refl, sym, ◌∙◌, ap, ap₂, subst, arith}
use Rattle.std.specs.Prelude.{nat_le}
use Rattle.std.proofs.lemmas.Bool.Decides.{nat_tests}
use Rattle.sc_text.specs.declared.end.Ending.TheVariants.{Tape}
use Rattle.sc_text.specs.declared.end.TapeOwner.TheVariants.{Dealer}
use Rattle.tape_file.specs.Tapes.{FourTapes}
use Rattle.program_trees.specs.TypedPrograms.{TypedProgramTree}
use Rattle.value_file.specs.declared.inputs.Entry.{Entry}
use Rattle.value_file.specs.declared.public.PublicEntry.{PublicEntry}
use Rattle.value_file.specs.Public.{part_of}
use Rattle.input_share.specs.Dealing.{need_of}
use Rattle.language_model.specs.Effects.{World, Clear, Answers, Ended, GivenInput}
use Rattle.language_model.specs.Reports.{Report, world_of, public_part, not_dealt}
use Rattle.clear_eval.specs.Offers.{offered, offered_with, part_given}
use Rattle.clear_eval.proofs.PublicParts.{entries_are_public}
use Rattle.program_run.specs.declared.running.RunReport.{RunReport}
use Rattle.program_run.specs.Reports.{TellsAs, eval_with, lengths_of}
use Rattle.program_run.proofs.Offering.{need_same}

-- ---- the dealer's tape is too short

too_few : (need have : ℕ) → have < need → nat_le need have ≡ false
too_few need have h = grind (arith, nat_tests)

pub ended_so : (p : TypedProgramTree) (entries : List Entry) (t : FourTapes) (budget : ℕ) → length t.dealer < need_of entries
    → eval_with p entries t budget ≡ not_dealt (world_of Clear (offered entries (lengths_of t)))
ended_so p entries t budget few =
    rw (need_same entries (lengths_of t), too_few (need_of entries) (length t.dealer) few) refl

pub undealt_so : (p : TypedProgramTree) (entries : List Entry) (t : FourTapes) (budget : ℕ) (told : RunReport) → length t.dealer < need_of entries
    → told.events.items ≡ [] → told.end ≡ record { how = Tape Dealer (need_of entries) (length t.dealer); cost = 0 }
    → TellsAs (eval_with p entries t budget) told
undealt_so p entries t budget told few events end =
    subst (λ (r : Report). TellsAs r told) (sym (ended_so p entries t budget few)) (record {
      events = events;
      stop = rw (need_same entries (lengths_of t)) (ap (λ e. Ended e.how) (sym end));
      cost = ap (λ e. e.cost) end;
    })

-- ---- the world of one who knows the public part

pub known_so : (entries : List Entry) (part : List PublicEntry) (given : List GivenInput) (lengths lengths' : List ℕ) (w : World)
    → w ≡ world_of Answers (offered_with given lengths') → lengths' ≡ lengths → given ≡ map part_given part → part ≡ part_of entries
    → w ≡ world_of Answers (public_part (offered entries lengths))
known_so entries part given lengths lengths' w is same as_given as_part =
    is ∙ ap₂ (λ (g : List GivenInput) (l : List ℕ). world_of Answers (offered_with g l))
    (as_given ∙ ap (λ (x : List PublicEntry). map part_given x) as_part ∙ entries_are_public entries) same
