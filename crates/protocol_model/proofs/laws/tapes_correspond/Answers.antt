use Rattle.std.proofs.Common.{ap}
use Rattle.protocol_model.proofs.Walks.{
  private-correspond,
  from-to_view,
  to-from_view,
  to_view-length,
  to_view-words,
  from_view-length,
  from_view-words,
}
use Rattle.protocol_model.proofs.GateViews.{to_view-own}
use Rattle.protocol_model.proofs.laws.tapes_correspond.Goals as goal

pub returns : goal.returns
returns c =
    λ i gates values tapes sound private ready.
    let rows = private-correspond i gates private in
    record {
      there_and_back = λ m. ap (λ t. t m) (from-to_view i gates values tapes sound rows ready);
      back_and_there = λ m. ap (λ t. t m) (to-from_view i gates values tapes sound rows ready);
      own = to_view-own i gates values tapes sound private ready;
      kept = to_view-length i gates values tapes sound rows ready;
      back_kept = from_view-length i gates values tapes sound rows ready;
      words = to_view-words i gates values tapes sound rows ready;
      back_words = from_view-words i gates values tapes sound rows ready;
    }
