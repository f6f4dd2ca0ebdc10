-- The gates of a program's run can run on its tapes.
use Rattle.std.proofs.Common.{◌≡◌, ◌≤◌, ℕ, List, ◌++◌, All, sym, ◌∙◌, ap, subst, inl, inr, arith}
use Rattle.proto_core.specs.declared.party.Number.{Number}
use Rattle.gates.specs.declared.gate.Gate.{Gate}
use Rattle.program_trees.specs.TypedPrograms.{TypedProgramTree}
use Rattle.value_file.specs.declared.inputs.Entry.{Entry}
use Rattle.value_file.specs.declared.public.PublicEntry.{PublicEntry}
use Rattle.value_file.specs.Input.{AreInputs}
use Rattle.value_file.specs.Public.{part_of}
use Rattle.input_share.specs.AddUp.{HasWords}
use Rattle.input_share.specs.Dealing.{need_of}
use Rattle.tape_file.specs.Tapes.{FourTapes}
use Rattle.language_model.specs.Reports.{Report}
use Rattle.view_model.specs.TapeMaps.{from_simulated, to_simulated, AreTapes, CanRun, Reaches, SameLengths}
use Rattle.view_model.proofs.Corresponding.{correspond}
use Rattle.program_views.specs.Views.{lengths_of, run_on, told_run}
use Rattle.program_views.specs.TapeMaps.{mapped_back, twinned, AreAlike}
use Rattle.program_views.proofs.Blind.{takes_same_course, same_course_exactly}
use Rattle.program_views.proofs.Simulated.{can_run, same_lengths}
use Rattle.program_views.specs.Accepted.{IsAcceptedProgram}
use Rattle.tape_twin.specs.Alike.{BeginsWith, OneBegins}

pub gates-run :
    (p : TypedProgramTree) (entries : List Entry) (t : FourTapes) (budget : ℕ) (gates : List Gate) → IsAcceptedProgram p → AreInputs entries →
    All HasWords entries → AreTapes t → gates ≡ (run_on p entries (lengths_of t) budget).gates → CanRun entries gates t
gates-run p entries t budget gates accepted form words are is =
    subst (λ (gs : List Gate). CanRun entries gs t) (sym is)
    (can_run accepted.source p accepted.instances entries
    (record { program = accepted.accepted; inputs = record { form = form; words = words } }) t are budget)

-- ---- two inputs

-- with the same public part, no run opens but the first of the words that the other opens
module _ (p : TypedProgramTree) (lengths : List ℕ) (budget : ℕ) where
  abbrev opened_with : List Entry → List ℕ
  opened_with entries = (run_on p entries lengths budget).opened

  begins-same :
      (first second : List Entry) → part_of first ≡ part_of second → BeginsWith (opened_with second) (opened_with first) →
      opened_with first ≡ opened_with second
  begins-same first second known begins =
      (takes_same_course p first lengths budget begins.more).opened
      ∙ ap (λ (part : List PublicEntry). (told_run p part (opened_with first ++ begins.more) lengths budget).opened) known
      ∙ ap (λ (words : List ℕ). (told_run p (part_of second) words lengths budget).opened) (sym begins.is)
      ∙ sym (same_course_exactly p second lengths budget).opened

  pub alike-so :
      (first second : List Entry) → part_of first ≡ part_of second → OneBegins (opened_with first) (opened_with second) → AreAlike p first second lengths budget
  alike-so first second known one =
      record {
        known = known;
        opened =
            elim one as (λ _. opened_with first ≡ opened_with second) [
              | inl begins ↦ sym (begins-same second first (sym known) begins)
              | inr begins ↦ begins-same first second known begins
            ];
      }

-- ---- the gates of a run, on other tapes of the same lengths

pub runs-on-same : (entries : List Entry) (gates : List Gate) (s t : FourTapes) → SameLengths s t → CanRun entries gates t → CanRun entries gates s
runs-on-same entries gates s t same can enough =
    let reaches : Reaches entries gates t = can (subst (λ (n : ℕ). need_of entries ≤ n) same.0 enough) in
    record { suit = reaches.suit; reach = λ i. let reach = reaches.reach i in let long = same.1 i in omega (arith, reach, long) }

-- the gates of the second run can run on the tapes of the view of the first
pub runs-on-seen :
    (i : Number) (first second : List Entry) (gates others : List Gate) (t seen : FourTapes) → AreTapes t → CanRun first gates t →
    CanRun second others t → seen ≡ to_simulated i first gates t → CanRun second others seen
runs-on-seen i first second gates others t seen are one other there =
    runs-on-same second others seen t (subst (λ (s : FourTapes). SameLengths s t) (sym there) (correspond i first gates t are one).kept) other

-- the second map, after the first, by the gates of the second run on the tapes of the first
pub twin-is :
    (i : Number) (p : TypedProgramTree) (first second : List Entry) (t seen made : FourTapes) (budget : ℕ) (one other : Report) →
    AreTapes t → CanRun first one.gates t → one ≡ run_on p first (lengths_of t) budget → other ≡ run_on p second (lengths_of t) budget →
    seen ≡ to_simulated i first one.gates t → made ≡ from_simulated i second other.gates seen → made ≡ twinned i p first second t budget
twin-is i p first second t seen made budget one other are can first-run second-run there back =
    let kept : SameLengths seen t = subst (λ (s : FourTapes). SameLengths s t) (sym there) (correspond i first one.gates t are can).kept in
    back
    ∙ ap (λ (r : Report). from_simulated i second r.gates seen) second-run
    ∙ ap (λ (ls : List ℕ). from_simulated i second (run_on p second ls budget).gates seen) (sym (same_lengths seen t kept))
    ∙ ap (λ (s : FourTapes). mapped_back i p second s budget) (there ∙ ap (λ (r : Report). to_simulated i first r.gates t) first-run)
