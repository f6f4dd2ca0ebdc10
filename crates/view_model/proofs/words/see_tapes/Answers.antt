use Rattle.std.proofs.Common.{ℕ, ◌<◌, ◌^◌, List, length, subst}
use Rattle.proto_core.specs.declared.party.Number.{Number}
use Rattle.proto_core.specs.declared.party.Number.TheVariants.{One, Two, Three}
use Rattle.proto_core.specs.Lists.{AreWords}
use Rattle.view_model.specs.TapeMaps.{miners_of}
use Rattle.view_model.proofs.words.see_tapes.Goals as goal

abbrev IsFew : List ℕ → Type 0
IsFew words = length words < 2 ^ 64

pub returns-clause-words : goal.returns-clause-words
returns-clause-words c = record { dealer = subst AreWords c.dealer.ensures c.see_words.ensures.words; miners = own }
  where
    own : (i : Number) → AreWords (miners_of c.args.tapes.now i)
    own One = subst AreWords c.miner1.ensures c.see_words-2.ensures.words
    own Two = subst AreWords c.miner2.ensures c.see_words-3.ensures.words
    own Three = subst AreWords c.miner3.ensures c.see_words-4.ensures.words

pub returns-clause-few : goal.returns-clause-few
returns-clause-few c = own
  where
    own : (i : Number) → IsFew (miners_of c.args.tapes.now i)
    own One = subst IsFew c.miner1.ensures c.see_words-2.ensures.few
    own Two = subst IsFew c.miner2.ensures c.see_words-3.ensures.few
    own Three = subst IsFew c.miner3.ensures c.see_words-4.ensures.few
