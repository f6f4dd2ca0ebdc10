-- What a miner hears of peers of which each sends the hello that it has to send.
use Rattle.std.proofs.Common.{◌≡◌, ℕ, true, false, ◌&&◌, List, [], ◌∷◌, ◌++◌, None, refl, ap, ◌∙◌, inl, inr}
use Rattle.std.specs.Prelude.{◌⊎◌, bytes_eq}
use Rattle.std.proofs.lemmas.Bool.{eq-eqb}
use Rattle.proto_core.specs.declared.party.Number.{Number}
use Rattle.proto_core.specs.declared.party.Number.TheVariants.{One, Two, Three}
use Rattle.proto_core.specs.declared.link.Link.{Link}
use Rattle.proto_core.specs.declared.link.Link.TheVariants.{Link12, Link13, Link21, Link23, Link31, Link32}
use Rattle.proto_core.specs.Parties.{count_of, is_same, receiver_of}
use Rattle.proto_core.specs.Strand.{Begins}
use Rattle.served_bytes.specs.Front.{Front, Truncated, Whole}
use Rattle.wire.specs.declared.fields.Hello.{Hello}
use Rattle.wire.specs.Hellos.{HasDigests, first_difference, greeted, hello_bytes}
use Rattle.wire.proofs.HelloLaws.{greeted-hello_bytes}
use Rattle.miner_node.specs.Peers.{coming_to, higher_peer, lower_peer, with_peer}
use Rattle.miner_node.specs.Serving.{Agreed, CutOff, Stops, at_hello, compared, greeting, heard, hello_from, then_hear}
use Rattle.honest_miners.specs.JoinedFrames.{GreetsFirst}

-- ---- one hello

same_bytes : (xs : List ℕ) → bytes_eq xs xs ≡ true
same_bytes [] = refl
same_bytes (x ∷ xs) = ap (λ b. b && bytes_eq xs xs) (eq-eqb x x refl) ∙ same_bytes xs

no_difference : (h : Hello) → first_difference h h ≡ None
unfolding first_difference
no_difference h =
    rw (eq-eqb h.version h.version refl, eq-eqb h.sender h.sender refl, eq-eqb h.receiver h.receiver refl, same_bytes h.code, same_bytes h.public) refl

module _ (hello : Hello) (p : Number) (c : ℕ → List ℕ) where
  hears : (rest : List ℕ) → greeted (c (count_of p)) ≡ Whole (hello_from hello p) rest → heard hello p c ≡ Agreed (with_peer (count_of p) rest c)
  hears rest e =
      ap (λ (v : Front Hello). at_hello (hello_from hello p) (count_of p) c v) e
      ∙ ap (λ v. compared (hello_from hello p) (hello_from hello p) v (with_peer (count_of p) rest c)) (no_difference (hello_from hello p))

  hears_less : greeted (c (count_of p)) ≡ Truncated → heard hello p c ≡ Stops CutOff
  hears_less e = ap (λ (v : Front Hello). at_hello (hello_from hello p) (count_of p) c v) e

-- ---- both

-- the links on which the lower and the higher peer send
abbrev pub lower_link : Number → Link
lower_link One = Link21
lower_link Two = Link12
lower_link Three = Link13

abbrev pub higher_link : Number → Link
higher_link One = Link31
higher_link Two = Link32
higher_link Three = Link23

-- what is left to come when both hellos were read
abbrev pub after_both : Number → (low high : List ℕ) → (ℕ → List ℕ) → ℕ → List ℕ
after_both i low high c = with_peer (count_of (higher_peer i)) high (with_peer (count_of (lower_peer i)) low c)

other_peer : (i : Number) (rest : List ℕ) (c : ℕ → List ℕ)
    → with_peer (count_of (lower_peer i)) rest c (count_of (higher_peer i)) ≡ c (count_of (higher_peer i))
other_peer One rest c = refl
other_peer Two rest c = refl
other_peer Three rest c = refl

-- fronts are left on both links
fronts_left : (i : Number) (low high : List ℕ) (c : ℕ → List ℕ) (more : Link → List ℕ) → Begins low (more (lower_link i)) → Begins high (more (higher_link i))
    → (l : Link) → Begins (coming_to i (after_both i low high c) l) (more l)
fronts_left One low high c more a b Link21 = a
fronts_left One low high c more a b Link31 = b
fronts_left Two low high c more a b Link12 = a
fronts_left Two low high c more a b Link32 = b
fronts_left Three low high c more a b Link13 = a
fronts_left Three low high c more a b Link23 = b
fronts_left _ low high c more a b _ = tt

-- and all of what follows, where all of it came
no_other : {X : Type 0} → false ≡ true → X
no_other e = cc

pub all_left : (i : Number) (c : ℕ → List ℕ) (more : Link → List ℕ) (l : Link) → is_same (receiver_of l) i ≡ true
    → coming_to i (after_both i (more (lower_link i)) (more (higher_link i)) c) l ≡ more l
all_left One c more Link21 e = refl
all_left One c more Link31 e = refl
all_left Two c more Link12 e = refl
all_left Two c more Link32 e = refl
all_left Three c more Link13 e = refl
all_left Three c more Link23 e = refl
all_left _ c more _ e = no_other e

module _ (i : Number) (hello : Hello) (more : Link → List ℕ) (c : ℕ → List ℕ) where
  -- both hellos are read, and fronts of what follows are left; or a peer's bytes end within its hello
  pub data Greets : Type 0 where
    cut : greeting i hello c ≡ Stops CutOff → Greets
    agreed : (rest : ℕ → List ℕ) → greeting i hello c ≡ Agreed rest → ((l : Link) → Begins (coming_to i rest l) (more l)) → Greets

  -- what has come from a peer
  abbrev pub Came : Number → Link → Type 0
  Came p l = (greeted (c (count_of p)) ≡ Truncated) ⊎ GreetsFirst (c (count_of p)) (more l) (hello_from hello p)

  heard_both : (low high : List ℕ) → greeted (c (count_of (lower_peer i))) ≡ Whole (hello_from hello (lower_peer i)) low
      → greeted (c (count_of (higher_peer i))) ≡ Whole (hello_from hello (higher_peer i)) high → greeting i hello c ≡ Agreed (after_both i low high c)
  heard_both low high e f =
      let first = with_peer (count_of (lower_peer i)) low c in
      ap (then_hear hello (higher_peer i)) (hears hello (lower_peer i) c low e)
      ∙ hears hello (higher_peer i) first high (ap greeted (other_peer i low c) ∙ f)

  heard_one : (low : List ℕ) → greeted (c (count_of (lower_peer i))) ≡ Whole (hello_from hello (lower_peer i)) low
      → greeted (c (count_of (higher_peer i))) ≡ Truncated → greeting i hello c ≡ Stops CutOff
  heard_one low e f =
      let first = with_peer (count_of (lower_peer i)) low c in
      ap (then_hear hello (higher_peer i)) (hears hello (lower_peer i) c low e)
      ∙ hears_less hello (higher_peer i) first (ap greeted (other_peer i low c) ∙ f)

  heard_none : greeted (c (count_of (lower_peer i))) ≡ Truncated → greeting i hello c ≡ Stops CutOff
  heard_none e = ap (then_hear hello (higher_peer i)) (hears_less hello (lower_peer i) c e)

  pub greets : Came (lower_peer i) (lower_link i) → Came (higher_peer i) (higher_link i) → Greets
  greets (inl short) other = cut (heard_none short)
  greets (inr low) (inl short) = cut (heard_one low.rest low.comes short)
  greets (inr low) (inr high) =
      agreed (after_both i low.rest high.rest c) (heard_both low.rest high.rest low.comes high.comes)
      (fronts_left i low.rest high.rest c more low.follows high.follows)

  -- where each peer's bytes are all there
  pub greets_whole : ((p : Number) → HasDigests (hello_from hello p))
      → c (count_of (lower_peer i)) ≡ hello_bytes (hello_from hello (lower_peer i)) ++ more (lower_link i)
      → c (count_of (higher_peer i)) ≡ hello_bytes (hello_from hello (higher_peer i)) ++ more (higher_link i)
      → greeting i hello c ≡ Agreed (after_both i (more (lower_link i)) (more (higher_link i)) c)
  greets_whole digests e f =
      heard_both (more (lower_link i)) (more (higher_link i))
      (ap greeted e ∙ greeted-hello_bytes (hello_from hello (lower_peer i)) (more (lower_link i)) (digests (lower_peer i)))
      (ap greeted f ∙ greeted-hello_bytes (hello_from hello (higher_peer i)) (more (higher_link i)) (digests (higher_peer i)))
