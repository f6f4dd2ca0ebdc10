use Rattle.std.proofs.Common.{◌≡◌, true, refl}
use Rattle.clap.specs.Words.{is_simple, is_simple_and_free}
use Rattle.command_words.specs.Shapes.{secrec_app}
use Rattle.command_words.specs.Vectors.{words_on_literals}

pub secrec_is_simple : is_simple secrec_app ≡ true
unfolding words_on_literals
secrec_is_simple = refl

pub secrec_is_simple_and_free : is_simple_and_free secrec_app ≡ true
unfolding words_on_literals
secrec_is_simple_and_free = refl
