-- What three miners show of a run of gates, and what is found of it.
use Rattle.std.specs.Prelude.{ℕ, List, [], ◌∷◌, map}
use Rattle.proto_core.specs.declared.party.Number.{Number}
use Rattle.proto_core.specs.declared.party.Number.TheVariants.{One, Two, Three}
use Rattle.value_file.specs.declared.inputs.Entry.{Entry}
use Rattle.value_file.specs.declared.public.PublicEntry.{PublicEntry}
use Rattle.view_text.specs.View.{InputShare, Received, Words}
use Rattle.view_model.specs.Seen.{Seen}
use Rattle.found_inputs.specs.Found.{found_entries, found_words, input_shares}
use Rattle.merged_views.specs.Brought.{Got, received}

-- shares of the hidden inputs, the words that were drawn, and the messages that came
pub record Shown : Type 0 where
  pub inputs : List InputShare
  pub drew : List ℕ
  pub got : List Received

-- what a miner sees, as its view shows it
abbrev pub shown : Seen → Shown
shown seen = record { inputs = input_shares seen.inputs; drew = seen.drew; got = map received seen.got }

abbrev pub Views : Type 0
Views = Number → Shown

abbrev pub got_of : Views → Got
got_of views i = (views i).got

-- the words of the shares have 64 bits each
abbrev pub AreShareWords : List InputShare → Type 0
AreShareWords [] = Unit {0}
AreShareWords (s ∷ ss) = Words s.words × AreShareWords ss

abbrev pub HaveShareWords : Views → Type 0
HaveShareWords views = (i : Number) → AreShareWords (views i).inputs

-- ---- what is found: the inputs with this public part, and the dealer's words

module _ (part : List PublicEntry) (views : Views) where
  abbrev pub found : List Entry
  found = found_entries part (views One).inputs (views Two).inputs (views Three).inputs

  abbrev pub dealt_with : List ℕ
  dealt_with = found_words part (views One).inputs (views Two).inputs
