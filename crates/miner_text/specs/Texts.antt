-- Lines that a text can have.
use Rattle.std.specs.Prelude.{◌≡◌, ℕ, ◌<◌, ◌^◌, true, List, [], ◌∷◌, length}
use Rattle.bit_words.specs.Bits.{words_for}
use Rattle.program_trees.specs.declared.expression.DataType.{DataType}
use Rattle.program_trees.specs.declared.expression.DataType.TheVariants.{Uint64}
use Rattle.program_trees.specs.declared.expression.DataType.TheVariants as datatype
use Rattle.sc_text.specs.declared.event.Event.{Event}
use Rattle.sc_text.specs.declared.event.Event.TheVariants.{Open, Publish, Hand}
use Rattle.sc_text.specs.declared.end.End.{End}
use Rattle.sc_text.specs.Name.{is_name}
use Rattle.view_text.specs.View.{Words, AreElements, IsEnding}
use Rattle.miner_text.specs.Shares.{ResultShare}
use Rattle.miner_text.specs.declared.line.MinerLine.{MinerLine}
use Rattle.miner_text.specs.declared.line.MinerLine.TheVariants as lines

-- names, words of 64 bits, and numbers as large as an end may have; what is handed over is told by shares
abbrev pub IsEvent : Event → Type 0
IsEvent (Open es) = AreElements es
IsEvent (Publish name es) = (is_name name ≡ true) × AreElements es
IsEvent (Hand name kind es) = ⊥

-- so many elements take so many words: each number one, 64 truth values one
abbrev pub AreHeld : DataType → (count words : ℕ) → Type 0
AreHeld Uint64 count words = count ≡ words
AreHeld datatype.Int64 count words = count ≡ words
AreHeld datatype.Bool count words = (count < 2 ^ 64) × (words ≡ words_for count)

abbrev pub IsShare : ResultShare → Type 0
IsShare s = (is_name s.name ≡ true) × Words s.words × AreHeld s.element s.count (length s.words)

abbrev pub IsEnd : End → Type 0
IsEnd end = IsEnding end.how × (end.cost < 2 ^ 64)

-- events and shares in any order, then the end alone
abbrev pub IsText : List MinerLine → Type 0
IsText [] = ⊥
IsText (lines.Told event ∷ ls) = IsEvent event × IsText ls
IsText (lines.Share share ∷ ls) = IsShare share × IsText ls
IsText (lines.Ended end ∷ []) = IsEnd end
IsText (lines.Ended end ∷ l ∷ ls) = ⊥
