-- Worked values: what code needed in the first version, and needs today.
use Rattle.std.specs.Prelude.{◌≡◌, ℕ, List, [], ◌∷◌, Bool, true, false, None, codes, replicate, refl}
use Rattle.sc_text.specs.declared.end.Ending.TheVariants.{Done, Tape}
use Rattle.sc_text.specs.declared.end.TapeOwner.TheVariants.{Dealer, Miner1}
use Rattle.program_trees.specs.declared.expression.DataType.TheVariants as types
use Rattle.program_trees.specs.declared.operators.BoolOperator.TheVariants as truth
use Rattle.program_trees.specs.declared.operators.BinaryOperator.TheVariants.{Bools}
use Rattle.program_trees.specs.declared.operators.Operands.TheVariants.{Arrays}
use Rattle.bytecode.specs.declared.kind.Kind.{Kind}
use Rattle.language_model.specs.Effects.{Words, words_each, Ended, RunStop}
use Rattle.language_model.specs.Reports.{Offered, Report}
use Rattle.verified_code.specs.Steps.{Function, Argument, Store, Binary, Declassify, Publish, ReturnNone, kind_shape}
use Rattle.code_model.specs.Machine.{exec}
use Rattle.code_model.specs.Meaning.{mean}
use Rattle.first_version.specs.Meaning.{exec_v1, mean_v1}

abbrev pub truths : Bool → Kind
truths secret = record { secret = secret; element = types.Bool; array = true }

-- `p bool[[1]] a = argument("a"); bool[[1]] c = declassify(a & a); publish("c", c);`
abbrev pub both_opened : List Function
both_opened = record {
  parameters = 0;
  gives = None;
  kinds = truths true ∷ truths true ∷ truths true ∷ truths false ∷ truths false ∷ [];
  steps = Argument 1 (truths true) (codes "a") 0 ∷ Store 1 0 ∷ Binary 1 (Bools truth.And) Arrays 2 1 1 ∷ Declassify 3 2 ∷ Store 4 3
      ∷ Publish (codes "c") 4 ∷ ReturnNone ∷ [];
} ∷ []

-- 65 times true, with tapes of so many words
abbrev pub all_true : (dealer miners : ℕ) → Offered
all_true dealer miners = record {
  dealer = dealer;
  lengths = words_each miners;
  inputs = record { text = codes "a"; secret = true; shape = kind_shape (truths true); words = replicate 65 1 } ∷ [];
}

pub record Needs (r : Report) (stop : RunStop) (dealt : ℕ) (drawn : Words) (cost : ℕ) : Type 0 where
  pub stops : r.stop ≡ stop
  pub deals : r.dealt ≡ dealt
  pub draws : r.drawn ≡ drawn
  pub costs : r.cost ≡ cost

-- a word for each truth value then, and one for 64 of them now; the cost is that of all elements
pub needed_then : Needs (mean_v1 both_opened (all_true 130 260) 1000) (Ended Done) 130 (words_each 260) 390
unfolding exec_v1
needed_then = record { stops = refl; deals = refl; draws = refl; costs = refl }

pub needed_now : Needs (mean both_opened (all_true 4 8) 1000) (Ended Done) 4 (words_each 8) 390
unfolding exec
needed_now = record { stops = refl; deals = refl; draws = refl; costs = refl }

-- one word fewer
pub too_few_then : (mean_v1 both_opened (all_true 130 259) 1000).stop ≡ Ended (Tape Miner1 260 259)
unfolding exec_v1
too_few_then = refl

pub none_dealt_then : (mean_v1 both_opened (all_true 129 260) 1000).stop ≡ Ended (Tape Dealer 130 129)
unfolding exec_v1
none_dealt_then = refl
