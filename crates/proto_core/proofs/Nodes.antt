-- What a miner does with the messages of its two links.
use Rattle.std.proofs.Common.{◌≡◌, ℕ, true, List, [], ◌∷◌, refl, ◌∙◌, ap}
use Rattle.proto_core.specs.declared.party.Number.{Number}
use Rattle.proto_core.specs.declared.party.Number.TheVariants.{One, Two, Three}
use Rattle.proto_core.specs.declared.link.Link.{Link}
use Rattle.proto_core.specs.declared.link.Link.TheVariants.{Link12, Link13, Link21, Link23, Link31, Link32}
use Rattle.proto_core.specs.Parties.{from_previous, from_next}
use Rattle.proto_core.specs.Strand.{Shape, accepts, Mail, Strand, Waits, rest_of, taken, run}
use Rattle.proto_core.specs.Net.{into, nothing, mail_of}
use Rattle.proto_core.proofs.Strands.{run-none, run-took, standing}

pub mail-previous : (i : Number) (p n : List (List ℕ)) → mail_of i p n (from_previous i) ≡ p
mail-previous One p n = refl
mail-previous Two p n = refl
mail-previous Three p n = refl

pub mail-next : (i : Number) (p n : List (List ℕ)) → mail_of i p n (from_next i) ≡ n
mail-next One p n = refl
mail-next Two p n = refl
mail-next Three p n = refl

pub taken-previous : (i : Number) (p n : List (List ℕ)) → taken (from_previous i) (mail_of i p n) ≡ mail_of i (rest_of p) n
taken-previous i p n = λ d. λ k. at_link i k d
  where
    at_link : (i : Number) (k : Link) → taken (from_previous i) (mail_of i p n) k ≡ mail_of i (rest_of p) n k
    at_link One Link12 = refl
    at_link One Link13 = refl
    at_link One Link21 = refl
    at_link One Link23 = refl
    at_link One Link31 = refl
    at_link One Link32 = refl
    at_link Two Link12 = refl
    at_link Two Link13 = refl
    at_link Two Link21 = refl
    at_link Two Link23 = refl
    at_link Two Link31 = refl
    at_link Two Link32 = refl
    at_link Three Link12 = refl
    at_link Three Link13 = refl
    at_link Three Link21 = refl
    at_link Three Link23 = refl
    at_link Three Link31 = refl
    at_link Three Link32 = refl

pub taken-next : (i : Number) (p n : List (List ℕ)) → taken (from_next i) (mail_of i p n) ≡ mail_of i p (rest_of n)
taken-next i p n = λ d. λ k. at_link i k d
  where
    at_link : (i : Number) (k : Link) → taken (from_next i) (mail_of i p n) k ≡ mail_of i p (rest_of n) k
    at_link One Link12 = refl
    at_link One Link13 = refl
    at_link One Link21 = refl
    at_link One Link23 = refl
    at_link One Link31 = refl
    at_link One Link32 = refl
    at_link Two Link12 = refl
    at_link Two Link13 = refl
    at_link Two Link21 = refl
    at_link Two Link23 = refl
    at_link Two Link31 = refl
    at_link Two Link32 = refl
    at_link Three Link12 = refl
    at_link Three Link13 = refl
    at_link Three Link21 = refl
    at_link Three Link23 = refl
    at_link Three Link31 = refl
    at_link Three Link32 = refl

-- all that comes to a miner comes on its two links
pub into-is : (i : Number) (m : Mail) → into i m ≡ mail_of i (m (from_previous i)) (m (from_next i))
into-is i m = λ d. λ k. at_link i k d
  where
    at_link : (i : Number) (k : Link) → into i m k ≡ mail_of i (m (from_previous i)) (m (from_next i)) k
    at_link One Link12 = refl
    at_link One Link13 = refl
    at_link One Link21 = refl
    at_link One Link23 = refl
    at_link One Link31 = refl
    at_link One Link32 = refl
    at_link Two Link12 = refl
    at_link Two Link13 = refl
    at_link Two Link21 = refl
    at_link Two Link23 = refl
    at_link Two Link31 = refl
    at_link Two Link32 = refl
    at_link Three Link12 = refl
    at_link Three Link13 = refl
    at_link Three Link21 = refl
    at_link Three Link23 = refl
    at_link Three Link31 = refl
    at_link Three Link32 = refl

pub mail-none : (i : Number) → mail_of i [] [] ≡ nothing
mail-none i = λ d. λ k. at_link i k d
  where
    at_link : (i : Number) (k : Link) → mail_of i [] [] k ≡ nothing k
    at_link One Link12 = refl
    at_link One Link13 = refl
    at_link One Link21 = refl
    at_link One Link23 = refl
    at_link One Link31 = refl
    at_link One Link32 = refl
    at_link Two Link12 = refl
    at_link Two Link13 = refl
    at_link Two Link21 = refl
    at_link Two Link23 = refl
    at_link Two Link31 = refl
    at_link Two Link32 = refl
    at_link Three Link12 = refl
    at_link Three Link13 = refl
    at_link Three Link21 = refl
    at_link Three Link23 = refl
    at_link Three Link31 = refl
    at_link Three Link32 = refl

module _ {A : Type 0} (i : Number) (shape : Shape) (k : List ℕ → Strand A) where
  pub run-previous :
      (m : List ℕ) (p n : List (List ℕ)) → accepts shape m ≡ true →
      run (Waits (from_previous i) shape k) (mail_of i (m ∷ p) n) ≡ run (k m) (mail_of i p n)
  run-previous m p n h =
      run-took (from_previous i) shape k (mail_of i (m ∷ p) n) m p (mail-previous i (m ∷ p) n) h
      ∙ ap (run (k m)) (taken-previous i (m ∷ p) n)

  pub run-next :
      (m : List ℕ) (p n : List (List ℕ)) → accepts shape m ≡ true →
      run (Waits (from_next i) shape k) (mail_of i p (m ∷ n)) ≡ run (k m) (mail_of i p n)
  run-next m p n h =
      run-took (from_next i) shape k (mail_of i p (m ∷ n)) m n (mail-next i p (m ∷ n)) h
      ∙ ap (run (k m)) (taken-next i p (m ∷ n))

  pub run-waits_previous : (n : List (List ℕ)) → run (Waits (from_previous i) shape k) (mail_of i [] n) ≡ standing (from_previous i) shape k (mail_of i [] n)
  run-waits_previous n = run-none (from_previous i) shape k (mail_of i [] n) (mail-previous i [] n)

  pub run-waits_next : (p : List (List ℕ)) → run (Waits (from_next i) shape k) (mail_of i p []) ≡ standing (from_next i) shape k (mail_of i p [])
  run-waits_next p = run-none (from_next i) shape k (mail_of i p []) (mail-next i p [])
