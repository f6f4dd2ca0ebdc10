-- Inputs and tapes that the files hold are of words.
use Rattle.std.proofs.Common.{◌≡◌, ℕ, List, Ok, IfOk, subst}
use Rattle.outside.specs.Files.{Contents}
use Rattle.command_words.specs.Ask.{Source, file}
use Rattle.tape_file.specs.Tapes.{AreOfWords, FourTapes}
use Rattle.value_file.specs.declared.inputs.Entry.{Entry}
use Rattle.program_views.specs.Inputs.{AreSound}
use Rattle.miner_commands.specs.Premises.{HaveWords}
use Rattle.miner_commands.proofs.TapeWords.{by_index, miners_words}
use Rattle.program_commands.specs.Reading.{inputs_at, tape_file_at, tapes_at}
use Rattle.program_commands.proofs.OfWords.{inputs_sound, source_words}

pub read_of_words : (files : Contents) (path : List ℕ) (source : Source) (entries : List Entry) (tapes : FourTapes)
    → inputs_at files path ≡ Ok entries → tapes_at files source ≡ Ok tapes → HaveWords entries tapes
read_of_words files path source entries tapes inputs taped =
    let words : AreOfWords tapes = subst (λ r. IfOk r AreOfWords) taped (source_words files source) in
    record {
      sound = subst (λ r. IfOk r AreSound) inputs (inputs_sound files path);
      dealer = by_index tapes.dealer words.dealer;
      words = miners_words tapes words;
    }

-- the same of tapes that stand in a file
pub file_of_words : (files : Contents) (path tape : List ℕ) (entries : List Entry) (tapes : FourTapes)
    → inputs_at files path ≡ Ok entries → tape_file_at files tape ≡ Ok tapes → HaveWords entries tapes
unfolding tapes_at
file_of_words files path tape entries tapes inputs taped = read_of_words files path (file tape) entries tapes inputs taped
