use Rattle.domain_types.proofs.TypingPrograms.{typed_is_accepted, accepted_exactly}
use Rattle.domain_types.proofs.Laws.{same_fault}
use Rattle.domain_types.proofs.checking.one_verdict.Goals as goal

pub returns : goal.returns
returns c = record {
  fault = λ p f g a b. same_fault f g (a.first g b.is) (b.first f a.is);
  either = λ p f a t. (typed_is_accepted p t).faultless f a.is;
  faultless = λ p. accepted_exactly p;
}
