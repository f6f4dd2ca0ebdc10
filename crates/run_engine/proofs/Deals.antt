-- `deal` is refused exactly for a file that is there and not as it must be, and for a dealer's tape with too few words.
use Rattle.std.proofs.Common.{◌≡◌, ℕ, List, true, Some}
use Rattle.command_frame.specs.declared.status.Status.{Status}
use Rattle.command_frame.specs.Answer.{Answer}
use Rattle.command_frame.specs.Status.{can_refuse}
use Rattle.command_words.specs.Ask.{DealAsk, deal, words_of}
use Rattle.program_commands.specs.Deal.{deal_of}
use Rattle.program_commands.specs.Held.{DealRefused}
use Rattle.run_engine.specs.Told.{Outside}
use Rattle.run_engine.specs.Words.{answer_to, question_of}
use Rattle.program_commands.proofs.Judged.{found_nothing}
use Rattle.program_commands.proofs.Refusals.{status_in_answer}
use Rattle.run_engine.proofs.Runs.{AnswersAtOnce, HasAnswerOf, command_answers, is_answer}
use Rattle.program_commands.proofs.Deals.{deal_refused, deal_refused_by}

pub deal_answered_so : (words : List (List ℕ)) (ask : DealAsk) (outside : Outside) (s : Status) → words_of words ≡ Some (deal ask)
    → DealRefused ask outside.files s → HasAnswerOf words outside s
unfolding answer_to question_of
deal_answered_so words ask outside s asks out =
    let (found, any) = found_nothing outside.files in
    (deal_of ask outside.files, is_answer words (deal ask) outside found asks any, deal_refused ask outside.files s out)

pub deal_refused_only : (words : List (List ℕ)) (ask : DealAsk) (outside : Outside) → words_of words ≡ Some (deal ask) → (answer : Answer)
    → AnswersAtOnce words outside answer → can_refuse (status_in_answer answer) ≡ true → DealRefused ask outside.files (status_in_answer answer)
unfolding answer_to question_of
deal_refused_only words ask outside asks answer a refusal =
    let (found, at, is) = command_answers words (deal ask) outside answer asks a in
    deal_refused_by ask outside.files answer refusal is
