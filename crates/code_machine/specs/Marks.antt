-- Marks of a stage, and the stage that is there again when it is rewound.
use Rattle.std.specs.Prelude.{◌≡◌, ℕ, List, length, take, Ok, Err}
use Rattle.language_model.specs.Beginnings.{Begins}
use Rattle.language_model.specs.Effects.{Run, Stage, World}
use Rattle.bytecode.specs.Raw.{RawCode}
use Rattle.named_values.specs.Machine.{Machine}
use Rattle.value_steps.specs.Views.{drawn_seen}
use Rattle.code_machine.specs.declared.marks.Mark.{Mark}
use Rattle.code_machine.specs.Views.{stepped}

-- the mark of a stage: what is left, what was drawn and made, and how much was told
pub record IsMarkOf (mark : Mark) (s : Stage) : Type 0 where
  pub left : mark.left ≡ s.left
  pub drawn : drawn_seen mark.drawn ≡ s.drawn
  pub made : mark.made ≡ s.made
  pub gates : mark.gates ≡ length s.gates
  pub events : mark.events ≡ length s.events
  pub opened : mark.opened ≡ length s.opened

-- only more gates, events and opened words stand after those of a stage
pub record HasGained (s later : Stage) : Type 0 where
  pub gates : Begins s.gates later.gates
  pub events : Begins s.events later.events
  pub opened : Begins s.opened later.opened

-- the marked stage, of one that is further; answers that were taken stay taken
abbrev pub rewound : Mark → Stage → Stage
rewound mark s =
    record {
      left = mark.left;
      drawn = drawn_seen mark.drawn;
      made = mark.made;
      gates = take mark.gates s.gates;
      events = take mark.events s.events;
      opened = take mark.opened s.opened;
      answers = s.answers;
    }

-- a stage with these answers left
abbrev pub again_at : Stage → (answers : List ℕ) → Stage
again_at s answers = record s { answers = answers }

-- where a run came to, or stopped
abbrev pub reached : {A : Type 0} → Run A → Stage
reached (Ok x) = x.1
reached (Err e) = e.1

abbrev pub OnlyGains : World → RawCode → Machine → Stage → Type 0
OnlyGains w code m s = HasGained s (reached (stepped w code m s))
