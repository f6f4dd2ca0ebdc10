-- A run that draws its tapes from a source: what is said of it holds with all four tapes of words that begin with the words drawn, and have as many after
-- them as are left.
use Rattle.std.specs.Prelude.{◌≡◌, ◌<◌, ◌≤◌, ℕ, ◌+◌, List, [], ◌++◌, length, true, Result, IfErr}
use Rattle.outside.specs.Tapes.{TapesState, SameTape, StandsStill, left_of}
use Rattle.proto_core.specs.declared.party.Number.{Number}
use Rattle.proto_core.specs.Parties.{count_of}
use Rattle.gate_node.specs.Nodes.{IsTapeOf}
use Rattle.tape_file.specs.Tapes.{FourTapes}
use Rattle.tape_sources.specs.Parties.{four_of}
use Rattle.value_file.specs.declared.inputs.Entry.{Entry}
use Rattle.input_share.specs.Dealing.{need_of}
use Rattle.view_model.specs.TapeMaps.{miners_of, AreTapes}
use Rattle.miner_core.specs.Drawing.{left_for, IsTapeFault}
use Rattle.link_schedule.specs.Streams.{AreTapesOf}
use Rattle.delivered_run.specs.declared.errors.CourseErr.{CourseErr}
use Rattle.delivered_run.specs.declared.errors.CourseErr.TheVariants as course

-- the words that are left are those before but for these, which were drawn
pub record HaveGone (old new : TapesState) (taken : FourTapes) : Type 0 where
  pub dealer : old.words 0 ≡ taken.dealer ++ new.words 0
  pub miners : (i : Number) → old.words (count_of i) ≡ miners_of taken i ++ new.words (count_of i)

-- of each of the four tapes these words were drawn, its next ones
pub record DrewFour (old new : TapesState) (taken : FourTapes) : Type 0 where
  pub told : new.told ≡ old.told
  pub stands : StandsStill old new
  pub dealer : left_of old 0 ≡ length taken.dealer + left_of new 0
  pub miners : (i : Number) → left_for i old ≡ length (miners_of taken i) + left_for i new
  pub words : old.told ≡ true → HaveGone old new taken
  pub others : (p : ℕ) → 3 < p → SameTape old new p

-- four tapes of words that begin with the words drawn, and have as many after them as are left
pub record MayBe (taken : FourTapes) (new : TapesState) (t : FourTapes) : Type 0 where
  pub dealer : IsTapeOf taken.dealer (left_of new 0) t.dealer
  pub miners : AreTapesOf (miners_of taken) (λ i. left_for i new) (miners_of t)
  pub words : AreTapes t

module _ (old new : TapesState) where
  -- a tape couldn't be read only where the source counted a fault, and was not steady
  abbrev pub IsCause : CourseErr → Type 0
  IsCause (course.Delivery e) = Unit {0}
  IsCause course.TapeFault = IsTapeFault old new

  -- with inputs of these entries: the dealer draws no more words than it needs, and where it has fewer no miner draws any. This holds with each four
  -- tapes that the source may have had; so with those that it says that it had, where it tells them
  pub record RunsFrom {A : Type 0} (entries : List Entry) (result : Result A CourseErr) (Q : FourTapes → Type 0) : Type 0 where
    pub taken : FourTapes
    pub drew : DrewFour old new taken
    pub dealer : length taken.dealer ≤ need_of entries
    pub undealt : left_of old 0 < need_of entries → (i : Number) → miners_of taken i ≡ []
    pub holds : (t : FourTapes) → MayBe taken new t → Q t
    pub told : old.told ≡ true → AreTapes (four_of old) → Q (four_of old)
    pub cause : IfErr result IsCause
    pub still : old.steady ≡ true → new.steady ≡ true
