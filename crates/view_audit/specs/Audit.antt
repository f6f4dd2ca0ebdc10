-- What an audit answers.
use Rattle.std.specs.Prelude.{◌≡◌, ◌⊎◌, ℕ, ◌+◌, if◌then◌else◌, List, [], Option, Some, None, option_map}
use Rattle.proto_core.specs.declared.party.Number.{Number}
use Rattle.proto_core.specs.declared.party.Number.TheVariants.{One, Two, Three}
use Rattle.shared_gates.specs.Model.{miner_of}
use Rattle.value_file.specs.declared.public.PublicEntry.{PublicEntry}
use Rattle.program_trees.specs.TypedPrograms.{TypedProgramTree}
use Rattle.language_model.specs.Reports.{Report}
use Rattle.gate_laws.specs.Dealt.{drawn_by}
use Rattle.view_text.specs.View.{View}
use Rattle.merged_orders.specs.Merging.{Orders}
use Rattle.merged_views.specs.Brought.{links_of}
use Rattle.merged_views.specs.Unreached.{IsFirstUnreached}
use Rattle.view_audit.specs.declared.answer.Audit.{Audit}
use Rattle.view_audit.specs.declared.answer.Audit.TheVariants.{Yes, No}
use Rattle.view_audit.specs.Found.{lines, messages, report, scripts, suffices}
use Rattle.view_audit.specs.OneRun.{AreOneRun, OneRun}
use Rattle.view_audit.specs.Places.{Place, lowest, place_in, then_ask}
use Rattle.view_audit.specs.Steps.{draws_line, ends_line, first_got, inputs_line, messages_line, sums_line}

module _ (p : TypedProgramTree) (part : List PublicEntry) (lengths : List ℕ) (budget : ℕ) (views : Number → View) where
  abbrev pub shown : Report
  shown = report part lengths views p budget

  -- where dealing ended the run no input has a line
  abbrev pub wanted : List PublicEntry
  wanted = if suffices part lengths then part else []

  -- STEPS 1 TO 5: each asks the views of all three miners, the lowest first; a sum that isn't of its type is named in the third view
  abbrev pub first_of_five : Option Place
  first_of_five =
      then_ask (lowest (λ i. inputs_line wanted i (views i)))
      (then_ask (option_map (place_in Three) (sums_line part (lines part lengths views One) (lines part lengths views Two) (lines part lengths views Three)))
      (then_ask (lowest (λ i. draws_line (drawn_by shown.drawn (miner_of i)) (views i)))
      (then_ask (lowest (λ i. messages_line (messages part lengths views p budget) i (views i)))
      (lowest (λ i. ends_line shown (views i))))))

  -- STEP 6: the first `got` line that no schedule within the three orders reaches
  abbrev pub orders : Orders
  orders i = links_of (views i).got

  abbrev pub IsUnreachedLine : Number → ℕ → Type 0
  IsUnreachedLine i line = (place : ℕ) × (line ≡ first_got (views i) + place) × IsFirstUnreached (scripts part lengths views p budget) orders i place

  abbrev pub IsFirstFailure : Number → ℕ → Type 0
  IsFirstFailure i line = (first_of_five ≡ Some (place_in i line)) ⊎ ((first_of_five ≡ None) × IsUnreachedLine i line)

  -- the line is the first failure, and the views are of no run
  pub record IsRefuted (i : Number) (line : ℕ) : Type 0 where
    pub first : IsFirstFailure i line
    pub none : AreOneRun p part lengths budget views → ⊥

  abbrev pub IsAudit : Audit → Type 0
  IsAudit (Yes order) = OneRun p part lengths budget views order.items
  IsAudit (No miner line) = IsRefuted miner line
