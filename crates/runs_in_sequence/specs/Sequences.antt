-- Runs in sequence: what a run hands over, its miners keep as shares, and later runs begin with it beside what is dealt for them.
use Rattle.std.specs.Prelude.{ℕ, Bool, List, [], ◌∷◌, ◌++◌}
use Rattle.proto_core.specs.declared.party.Number.{Number}
use Rattle.proto_core.specs.Net.{into}
use Rattle.proto_core.specs.Strand.{Mail}
use Rattle.protocol_model.specs.Gates as model
use Rattle.protocol_model.specs.Runs.{Tapes, run_messages, run_values, run_opened, Ready}
use Rattle.protocol_model.specs.Views.{to_view, from_view, made_messages, made_values}
use Rattle.gates.specs.declared.gate.Gate.{Gate}
use Rattle.gates.specs.Clear.{Values, value}
use Rattle.shared_gates.specs.Model.{run_gates}
use Rattle.handed_shares.specs.Handed.{kept_from}

-- ---- ONE RUN OF A SEQUENCE

-- values by their places in a list, in this order
abbrev pub chosen : (places : List ℕ) → Values → Values
chosen [] values = []
chosen (k ∷ ks) values = value values k ∷ chosen ks values

-- its gates; what it takes of that which was kept before, by the places, the same at each miner; what is dealt for it; the sizes of both
-- together; and which of the values that it hands over are kept after it, by their numbers in the run
pub record Leg : Type 0 where
  pub gates : List Gate
  pub takes : List ℕ
  pub fresh : Number → Values
  pub sizes : List ℕ
  pub keeps : ℕ → Bool

abbrev pub no_values : Number → Values
no_values i = []

-- what each miner has kept of the runs before
abbrev pub Kept : Type 0
Kept = Number → Values

-- the gates as three miners run them
abbrev pub gates_on : Leg → Kept → List model.Gate
gates_on leg kept = run_gates (λ k. chosen leg.takes (kept k) ++ leg.fresh k) leg.sizes [] leg.gates

-- what they keep after it
abbrev pub kept_then : Leg → Kept → Tapes → Kept
kept_then leg kept tapes k = kept k ++ kept_from leg.keeps 0 (run_values (gates_on leg kept) no_values tapes k) leg.gates

-- the gates run on tapes of their own, run after run
abbrev pub RunOn : Kept → List Leg → List Tapes → Type 0
RunOn kept [] [] = Unit {0}
RunOn kept [] (t ∷ ts) = ⊥
RunOn kept (leg ∷ legs) [] = ⊥
RunOn kept (leg ∷ legs) (t ∷ ts) = Ready (gates_on leg kept) no_values t × RunOn (kept_then leg kept t) legs ts

-- ---- THE MAPS OF ALL TAPES

-- each run's by the row of its protocols, along the shares that it began with
abbrev pub to_views : Number → Kept → List Leg → List Tapes → List Tapes
to_views i kept [] ts = ts
to_views i kept (leg ∷ legs) [] = []
to_views i kept (leg ∷ legs) (t ∷ ts) = to_view i (gates_on leg kept) no_values t ∷ to_views i (kept_then leg kept t) legs ts

-- the way back: a run's tapes, and the shares that they make, before the next run's
abbrev pub from_views : Number → Kept → List Leg → List Tapes → List Tapes
from_views i kept [] ss = ss
from_views i kept (leg ∷ legs) [] = []
from_views i kept (leg ∷ legs) (s ∷ ss) =
    from_view i (gates_on leg kept) no_values s ∷ from_views i (kept_then leg kept (from_view i (gates_on leg kept) no_values s)) legs ss

-- mapped tapes on which the runs go to their ends, once they are taken back
abbrev pub AreMappedOf : Number → Kept → List Leg → List Tapes → Type 0
AreMappedOf i kept [] [] = Unit {0}
AreMappedOf i kept [] (s ∷ ss) = ⊥
AreMappedOf i kept (leg ∷ legs) [] = ⊥
AreMappedOf i kept (leg ∷ legs) (s ∷ ss) =
    Ready (gates_on leg kept) no_values s × AreMappedOf i (kept_then leg kept (from_view i (gates_on leg kept) no_values s)) legs ss

-- ---- THE SIMULATOR: of other miners' shares it is told none

-- the gates by what one miner has kept, and was dealt for this run
abbrev pub own_gates : Number → Leg → (own : Values) → List model.Gate
own_gates i leg own = run_gates (λ k. chosen leg.takes own ++ leg.fresh i) leg.sizes [] leg.gates

-- what it will have kept, made of the opened words and of the mapped tapes
abbrev pub own_then : Number → Leg → (own : Values) → (opened : List ℕ) → (mapped : Tapes) → Values
own_then i leg own opened mapped = own ++ kept_from leg.keeps 0 (made_values i (own_gates i leg own) [] opened mapped) leg.gates

-- what comes to it in each run: made of what it has kept by the simulator's own making, of that run's opened words and of its mapped tapes
abbrev pub made_all : Number → (own : Values) → List Leg → (opened : List (List ℕ)) → (mapped : List Tapes) → List Mail
made_all i own [] opened mapped = []
made_all i own (leg ∷ legs) [] mapped = []
made_all i own (leg ∷ legs) (o ∷ os) [] = []
made_all i own (leg ∷ legs) (o ∷ os) (s ∷ ss) =
    into i (made_messages i (own_gates i leg own) [] o s) ∷ made_all i (own_then i leg own o s) legs os ss

-- ---- WHAT A MINER SEES

-- the messages that come to it, and the words that all learn, run after run
abbrev pub seen_all : Number → Kept → List Leg → List Tapes → List Mail
seen_all i kept [] ts = []
seen_all i kept (leg ∷ legs) [] = []
seen_all i kept (leg ∷ legs) (t ∷ ts) = into i (run_messages (gates_on leg kept) no_values t) ∷ seen_all i (kept_then leg kept t) legs ts

abbrev pub opened_all : Kept → List Leg → List Tapes → List (List ℕ)
opened_all kept [] ts = []
opened_all kept (leg ∷ legs) [] = []
opened_all kept (leg ∷ legs) (t ∷ ts) = run_opened (gates_on leg kept) no_values t ∷ opened_all (kept_then leg kept t) legs ts
