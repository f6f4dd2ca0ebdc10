-- Of a run's gates a miner's view has only what the miner itself was dealt.
use Rattle.std.proofs.Common.{◌≡◌, ℕ, ◌+◌, List, [], ◌∷◌, ◌++◌, refl, ◌∙◌, ap}
use Rattle.std.specs.Prelude.{Option}
use Rattle.proto_core.specs.declared.party.Number.{Number}
use Rattle.proto_core.specs.Protocol.{Protocol}
use Rattle.protocol_model.specs.Gates as model
use Rattle.protocol_model.specs.Gates.{Joined, Local}
use Rattle.protocol_model.specs.Views.{made_mail, made_messages, made_values}
use Rattle.gates.specs.declared.gate.Gate.{Gate}
use Rattle.gates.specs.declared.gate.Gate.TheVariants.{Mul, And, Split, Conv, Open, Result}
use Rattle.gates.specs.Clear.{Values}
use Rattle.shared_gates.specs.LocalGates.{local_share}
use Rattle.shared_gates.specs.Model.{run_gates, sizes_made}
use Rattle.shared_gates.specs.OwnShares.{SameFor}

joined-same :
    (i : Number) (p : Protocol) (n u : ℕ) (v : Option ℕ) (gs hs : List model.Gate) → SameFor i gs hs →
    SameFor i (Joined p n u v ∷ gs) (Joined p n u v ∷ hs)
joined-same i p n u v gs hs h =
    record {
      messages = λ own opened mapped l. ap (λ m. made_mail i p n u v own opened mapped l ++ m) (h.messages _ _ _ l);
      values = λ own opened mapped. h.values _ _ _;
      needs = λ k. ap (λ m. p.draws n k + m) (h.needs k);
      scripts = λ k. ap (λ m. p.script n k ++ m) (h.scripts k);
    }

local-same :
    (i : Number) (n : ℕ) (f g : Number → List (List ℕ) → List ℕ) (gs hs : List model.Gate) →
    ((own : List (List ℕ)) → f i own ≡ g i own) → SameFor i gs hs → SameFor i (Local n f ∷ gs) (Local n g ∷ hs)
local-same i n f g gs hs same h =
    record {
      messages = λ own opened mapped l.
          h.messages (own ++ f i own ∷ []) opened mapped l
          ∙ ap (λ w. made_messages i hs (own ++ w ∷ []) opened mapped l) (same own);
      values = λ own opened mapped.
          h.values (own ++ f i own ∷ []) opened mapped ∙ ap (λ w. made_values i hs (own ++ w ∷ []) opened mapped) (same own);
      needs = h.needs;
      scripts = h.scripts;
    }

module _ (i : Number) (dealt others : Number → Values) (same : dealt i ≡ others i) (ds : List ℕ) where
  pub own-same : (sizes : List ℕ) (gates : List Gate) → SameFor i (run_gates dealt ds sizes gates) (run_gates others ds sizes gates)
  own-same sizes [] =
      record { messages = λ own opened mapped l. refl; values = λ own opened mapped. refl; needs = λ k. refl; scripts = λ k. refl }
  own-same sizes (Mul u v ∷ gates) = joined-same i _ _ _ _ _ _ (own-same (sizes ++ sizes_made ds sizes (Mul u v)) gates)
  own-same sizes (And u v ∷ gates) = joined-same i _ _ _ _ _ _ (own-same (sizes ++ sizes_made ds sizes (And u v)) gates)
  own-same sizes (Split u negated ∷ gates) = joined-same i _ _ _ _ _ _ (own-same (sizes ++ sizes_made ds sizes (Split u negated)) gates)
  own-same sizes (Conv u ∷ gates) = joined-same i _ _ _ _ _ _ (own-same (sizes ++ sizes_made ds sizes (Conv u)) gates)
  own-same sizes (Open ring u ∷ gates) = joined-same i _ _ _ _ _ _ (own-same (sizes ++ sizes_made ds sizes (Open ring u)) gates)
  own-same sizes (Result ring u ∷ gates) = joined-same i _ _ _ _ _ _ (own-same (sizes ++ sizes_made ds sizes (Result ring u)) gates)
  own-same sizes (gate ∷ gates) =
      local-same i _ _ _ _ _ (λ own. ap (λ d. local_share i d own gate) same) (own-same (sizes ++ sizes_made ds sizes gate) gates)
