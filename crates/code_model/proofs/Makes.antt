-- What is known of the value that an effect makes, whatever it does before.
use Rattle.std.proofs.Common.{Ok, Err}
use Rattle.sc_text.specs.declared.end.Ending.{Ending}
use Rattle.blind_evaluation.specs.Effects.{Stage, Run, Effect, ◌>>=◌, carry, done, end}
use Rattle.code_model.proofs.Gives.{GivesAt, Gives}

abbrev pub MakesAt : {A : Type 0} → Run A → (A → Type 0) → Type 0
MakesAt (Ok x) Q = Q x.0
MakesAt (Err e) Q = Unit {0}

pub record Makes {A : Type 0} (c : Effect A) (Q : A → Type 0) : Type 0 where
  pub from : (s : Stage) → MakesAt (c s) Q

pub makes_done : {A : Type 0} {a : A} {Q : A → Type 0} → Q a → Makes (done a) Q
makes_done h = record { from = λ s. h }

pub makes_end : {A : Type 0} {Q : A → Type 0} (e : Ending) → Makes (end {A = A} e) Q
makes_end e = record { from = λ s. tt }

pub makes_bind : {A B : Type 0} (c : Effect A) (f : A → Effect B) (P : A → Type 0) {Q : B → Type 0} → Makes c P → ((a : A) → P a → Makes (f a) Q) → Makes
    (c >>= f) Q
makes_bind {A = A} c f P {Q = Q} h k = record { from = λ s. go (c s) (h.from s) }
  where
    go : (r : Run A) → MakesAt r P → MakesAt (carry r f) Q
    go (Ok x) g = (k x.0 g).from x.1
    go (Err e) g = tt

pub makes_fact : {A B : Type 0} (c : Effect A) → B → Makes c (λ a. B)
makes_fact {A = A} {B = B} c b = record { from = λ s. go (c s) }
  where
    go : (r : Run A) → MakesAt r (λ a. B)
    go (Ok x) = b
    go (Err e) = tt

pub makes_after : {A B : Type 0} (c : Effect A) (f : A → Effect B) {Q : B → Type 0} → ((a : A) → Makes (f a) Q) → Makes (c >>= f) Q
makes_after {A = A} c f k = makes_bind c f (λ a. Unit {0}) (makes_fact c tt) (λ a u. k a)

-- what is known of the budget is left out
pub makes_of : {A : Type 0} {c : Effect A} {P : A → Type 0} → Gives c P → Makes c P
makes_of {A = A} {c = c} {P = P} h = record { from = λ s. go s (c s) (h.from s) }
  where
    go : (s : Stage) (r : Run A) → GivesAt s r P → MakesAt r P
    go s (Ok x) g = g.1
    go s (Err e) g = tt

pub makes_both : {A : Type 0} {c : Effect A} {P Q : A → Type 0} (R : A → Type 0) → Makes c P → Makes c Q → ((a : A) → P a → Q a → R a) → Makes c R
makes_both {A = A} {c = c} {P = P} {Q = Q} R h m k = record { from = λ s. go (c s) (h.from s) (m.from s) }
  where
    go : (r : Run A) → MakesAt r P → MakesAt r Q → MakesAt r R
    go (Ok x) h n = k x.0 h n
    go (Err e) h n = tt
