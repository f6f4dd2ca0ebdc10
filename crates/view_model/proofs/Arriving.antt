-- What arrives at a miner is said by the messages of the links that end at it.
use Rattle.std.proofs.Common.{◌≡◌, Bool, true, false, if◌then◌else◌, List, [], ◌∷◌, refl, sym, ◌∙◌, ap}
use Rattle.proto_core.specs.declared.party.Number.{Number}
use Rattle.proto_core.specs.declared.link.Link.{Link}
use Rattle.proto_core.specs.Parties.{receiver_of, is_same}
use Rattle.proto_core.specs.Strand.{same_link, Mail, taken, rest_of}
use Rattle.proto_core.proofs.Numbers.{same_is}
use Rattle.protocol_model.specs.Arrivals.{oldest_then, arrivals}

pub arrivals_same : (i : Number) (order : List Link) (x y : Mail) → ((l : Link) → receiver_of l ≡ i → x l ≡ y l) → arrivals i x order ≡ arrivals i y order
arrivals_same i [] x y h = refl
arrivals_same i (l ∷ ls) x y h =
    by_test (is_same (receiver_of l) i) refl
    (arrivals_same i ls (taken l x) (taken l y)
    (λ k g. ap (λ ms. if same_link l k then rest_of ms else ms) (h k g)))
  where
    by_test : (b : Bool) → is_same (receiver_of l) i ≡ b → arrivals i (taken l x) ls ≡ arrivals i (taken l y) ls → arrivals i x (l ∷ ls) ≡ arrivals i y (l ∷ ls)
    by_test true e later =
        ap (λ b. if b then oldest_then l (x l) (arrivals i (taken l x) ls) else arrivals i (taken l x) ls) e
        ∙ ap (λ ms. oldest_then l ms (arrivals i (taken l x) ls)) (h l (same_is (receiver_of l) i e))
        ∙ ap (oldest_then l (y l)) later
        ∙ sym (ap (λ b. if b then oldest_then l (y l) (arrivals i (taken l y) ls) else arrivals i (taken l y) ls) e)
    by_test false e later =
        ap (λ b. if b then oldest_then l (x l) (arrivals i (taken l x) ls) else arrivals i (taken l x) ls) e
        ∙ later
        ∙ sym (ap (λ b. if b then oldest_then l (y l) (arrivals i (taken l y) ls) else arrivals i (taken l y) ls) e)
