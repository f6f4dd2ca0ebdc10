-- A node does as its miner, and comes to its end with honest peers.
use Rattle.std.proofs.Common.{◌≡◌, ℕ, Bool, true, false, if◌then◌else◌, ◌&&◌, List, [], ◌∷◌, ◌++◌, None, refl, sym, ap, ◌∙◌, subst}
use Rattle.std.specs.Prelude.{bytes_eq}
use Rattle.std.proofs.lemmas.Bool.{eq-eqb}
use Rattle.proto_core.specs.declared.party.Number.{Number}
use Rattle.proto_core.specs.declared.party.Number.TheVariants.{One, Two, Three}
use Rattle.proto_core.specs.declared.link.Link.{Link}
use Rattle.proto_core.specs.declared.link.Link.TheVariants.{Link12, Link13, Link21, Link23, Link31, Link32}
use Rattle.proto_core.specs.Parties.{count_of, sender_of, receiver_of, is_same}
use Rattle.proto_core.specs.Net.{into}
use Rattle.proto_core.specs.Strand.{Mail, Strand, Ends, run}
use Rattle.proto_core.proofs.Numbers.{same_is}
use Rattle.served_bytes.specs.Front.{Front}
use Rattle.served_bytes.specs.Served.{Stop, AtEnd, AtRefusal, AtMalformed, OutOfBytes, Served, served, Spells}
use Rattle.served_bytes.specs.Laws.{StopIs}
use Rattle.served_bytes.proofs.Messages.{serves_its_messages, ends_on_honest_bytes}
use Rattle.miner_core.specs.OwnCode.{Ended}
use Rattle.wire.specs.declared.fields.Hello.{Hello}
use Rattle.wire.specs.Frames.{framed}
use Rattle.wire.specs.Hellos.{HasDigests, hello_bytes, greeted, first_difference}
use Rattle.wire.proofs.HelloLaws.{greeted-hello_bytes}
use Rattle.miner_node.specs.Peers.{lower_peer, higher_peer, with_peer, coming_to}
use Rattle.miner_node.specs.Serving.{Finished, outcome_at, Agreed, hello_from, compared, at_hello, heard, then_hear, greeting, after_greeting, serving}
use Rattle.miner_node.specs.Laws.{StandsSo, DoesAsItsMiner, AreHonest, EndsWithHonestPeers}

-- ---- AS ITS MINER

stands_so : (s : Strand Ended) (r : Served Ended) (stop : Stop Ended) → StopIs s r stop → StandsSo (run s r.received) (outcome_at stop)
stands_so s r (AtEnd e) h = h
stands_so s r (AtRefusal l cause) h = h
stands_so s r (AtMalformed l place) h = (l, h)
stands_so s r (OutOfBytes l) h = (l, h)

pub does_as_its_miner : (i : Number) (s : Strand Ended) (coming : ℕ → List ℕ) → DoesAsItsMiner i s coming
does_as_its_miner i s coming =
    let r = served framed s (coming_to i coming) in
    let h = serves_its_messages framed s (coming_to i coming) in
    record { received = r.received; spelled = h.spelled; acts = sym h.node.acts; stands = stands_so s r r.stop h.node.stop }

-- ---- A HELLO IS THE SAME AS ITSELF

same_bytes : (xs : List ℕ) → bytes_eq xs xs ≡ true
same_bytes [] = refl
same_bytes (x ∷ xs) = ap (λ b. b && bytes_eq xs xs) (eq-eqb x x refl) ∙ same_bytes xs

no_difference : (h : Hello) → first_difference h h ≡ None
unfolding first_difference
no_difference h =
    rw (eq-eqb h.version h.version refl, eq-eqb h.sender h.sender refl, eq-eqb h.receiver h.receiver refl, same_bytes h.code, same_bytes h.public) refl

-- ---- HONEST PEERS

none_so : {X : Type 0} → false ≡ true → X
none_so e = cc

other_peer : (i : Number) (rest : List ℕ) (c : ℕ → List ℕ)
    → with_peer (count_of (lower_peer i)) rest c (count_of (higher_peer i)) ≡ c (count_of (higher_peer i))
other_peer One rest c = refl
other_peer Two rest c = refl
other_peer Three rest c = refl

-- what is left to come when both hellos were read
abbrev after_both : Number → (rest coming : ℕ → List ℕ) → ℕ → List ℕ
after_both i rest coming =
    with_peer (count_of (higher_peer i)) (rest (count_of (higher_peer i)))
    (with_peer (count_of (lower_peer i)) (rest (count_of (lower_peer i))) coming)

left_is : (i : Number) (l : Link) (rest coming : ℕ → List ℕ) → is_same (receiver_of l) i ≡ true
    → after_both i rest coming (count_of (sender_of l)) ≡ rest (count_of (sender_of l))
left_is One Link21 rest coming e = refl
left_is One Link31 rest coming e = refl
left_is Two Link12 rest coming e = refl
left_is Two Link32 rest coming e = refl
left_is Three Link13 rest coming e = refl
left_is Three Link23 rest coming e = refl
left_is _ _ rest coming e = none_so e

module _ (i : Number) (hello : Hello) (digests : HasDigests hello) where
  of_peer : (p : Number) → HasDigests (hello_from hello p)
  of_peer p = record { code = digests.code; public = digests.public }

  hears : (p : Number) (rest : List ℕ) (c : ℕ → List ℕ) → c (count_of p) ≡ hello_bytes (hello_from hello p) ++ rest
      → heard hello p c ≡ Agreed (with_peer (count_of p) rest c)
  hears p rest c e =
      ap (λ (v : Front Hello). at_hello (hello_from hello p) (count_of p) c v) (ap greeted e ∙ greeted-hello_bytes (hello_from hello p) rest (of_peer p))
      ∙ ap (λ v. compared (hello_from hello p) (hello_from hello p) v (with_peer (count_of p) rest c)) (no_difference (hello_from hello p))

  module _ (mail : Mail) (coming : ℕ → List ℕ) (h : AreHonest i hello mail coming) where
    greets : greeting i hello coming ≡ Agreed (after_both i h.rest coming)
    greets =
        let low = count_of (lower_peer i) in
        let first = with_peer low (h.rest low) coming in
        ap (then_hear hello (higher_peer i)) (hears (lower_peer i) (h.rest low) coming h.lower)
        ∙ hears (higher_peer i) (h.rest (count_of (higher_peer i))) first (other_peer i (h.rest low) coming ∙ h.higher)

    spelled : (l : Link) → Spells framed (coming_to i (after_both i h.rest coming) l) (into i mail l)
    spelled l = by_receiver (is_same (receiver_of l) i) refl
      where
        by_receiver : (b : Bool) → is_same (receiver_of l) i ≡ b
            → Spells framed (if b then after_both i h.rest coming (count_of (sender_of l)) else []) (if b then mail l else [])
        by_receiver true e =
            subst (λ (v : List ℕ). Spells framed v (mail l)) (sym (left_is i l h.rest coming e)) (h.messages l (same_is (receiver_of l) i e))
        by_receiver false e = tt

    pub ends_so : (s : Strand Ended) (e : Ended) → (run s (into i mail)).left ≡ Ends e
        → ((serving i hello s coming).outcome ≡ Finished e) × ((serving i hello s coming).acts ≡ (run s (into i mail)).acts)
    ends_so s e ended =
        let is = ends_on_honest_bytes framed s (into i mail) (coming_to i (after_both i h.rest coming)) e ended spelled in
        let same = ap (after_greeting i s) greets in
        (ap (λ r. r.outcome) same ∙ ap outcome_at is.1, ap (λ r. r.acts) same ∙ is.0)

pub ends_with_honest_peers : (i : Number) (hello : Hello) (s : Strand Ended) (mail : Mail) (coming : ℕ → List ℕ)
    → EndsWithHonestPeers i hello s mail coming
ends_with_honest_peers i hello s mail coming digests h e ended = ends_so i hello digests mail coming h s e ended
