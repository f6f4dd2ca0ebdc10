-- A value of the run without the private inputs beside the run's in the clear: only the words of a gate's value may differ.
use Rattle.std.proofs.Common.{◌≡◌, ℕ, List, [], ◌∷◌, length, None, Bool, true, false, refl}
use Rattle.program_trees.specs.declared.kinds.Shape.{Shape}
use Rattle.language_model.specs.Values.{Private, Value, plain, hidden, size, visible_words, never_stored, default_words}

pub data LikeValues : Value → Value → Type 0 where
  plains : (shape : Shape) (words : List ℕ) → LikeValues (plain shape words) (plain shape words)
  unmade : (shape : Shape) (words : List ℕ)
      → LikeValues (record { secrecy = Private None; shape = shape; words = words }) (record { secrecy = Private None; shape = shape; words = words })
  made : (shape : Shape) (k : ℕ) (words words' : List ℕ) → length words ≡ length words' → LikeValues (hidden shape k words) (hidden shape k words')

pub like_size : {v v' : Value} → LikeValues v v' → size v ≡ size v'
like_size (plains shape words) = refl
like_size (unmade shape words) = refl
like_size (made shape k words words' e) = e

pub like_seen : {v v' : Value} → LikeValues v v' → visible_words v ≡ visible_words v'
like_seen (plains shape words) = refl
like_seen (unmade shape words) = refl
like_seen (made shape k words words' e) = refl

pub like_shape : {v v' : Value} → LikeValues v v' → v.shape ≡ v'.shape
like_shape (plains shape words) = refl
like_shape (unmade shape words) = refl
like_shape (made shape k words words' e) = refl

pub like_secrecy : {v v' : Value} → LikeValues v v' → v.secrecy ≡ v'.secrecy
like_secrecy (plains shape words) = refl
like_secrecy (unmade shape words) = refl
like_secrecy (made shape k words words' e) = refl

pub never_like : (secret : Bool) (shape : Shape) → LikeValues (never_stored secret shape) (never_stored secret shape)
never_like false shape = plains shape (default_words shape.array)
never_like true shape = unmade shape (default_words shape.array)

-- values one after another
pub data AllLike : List Value → List Value → Type 0 where
  no_more : AllLike [] []
  and_more : {x x' : Value} {xs xs' : List Value} → LikeValues x x' → AllLike xs xs' → AllLike (x ∷ xs) (x' ∷ xs')
