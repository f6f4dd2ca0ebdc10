-- Two hellos are sent, and two read.
use Rattle.std.proofs.Common.{◌≡◌, ◌≢◌, ℕ, ◌<◌, ◌==◌, Bool, List, [], ◌++◌, take, drop, length, Result, Ok, Err, Option, Some, None, refl, sym, ap, ◌∙◌, true}
use Rattle.std.proofs.Common.{false, if◌then◌else◌, arith, subst}
use Rattle.std.proofs.lemmas.Bool.{eqb-true, eqb-false}
use Rattle.std.proofs.lemmas.List.{append-nil, take-append-drop}
use Rattle.outside.specs.Links.{LinksState, no_bytes, bytes_of, and_then, Sent, Came, Did, Ordered}
use Rattle.outside.proofs.Moves.{then_none, then_assoc, bytes_here, bytes_elsewhere, did_as, did_then_give, did_then_take}
use Rattle.proto_core.specs.declared.party.Number.{Number}
use Rattle.proto_core.specs.declared.party.Number.TheVariants.{One, Two, Three}
use Rattle.proto_core.specs.Parties.{count_of, next_of, previous_of}
use Rattle.proto_core.specs.Strand.{Strand, Begins}
use Rattle.proto_core.proofs.Beginnings.{begins-self, begins-append, begins-trans}
use Rattle.served_bytes.specs.Front.{Front, Whole, Malformed, Truncated}
use Rattle.miner_core.specs.OwnCode.{Ended}
use Rattle.wire.specs.declared.bad_frame.BadFrame.{BadFrame}
use Rattle.wire.specs.declared.fields.Hello.{Hello}
use Rattle.wire.specs.declared.fields.Field.{Field}
use Rattle.wire.specs.Hellos.{hello_bytes, hello_of, greeted, first_difference}
use Rattle.wire.proofs.HelloLaws.{greeted-short, greeted-broken, greeted-came}
use Rattle.miner_node.specs.declared.node_err.NodeErr.{NodeErr}
use Rattle.miner_node.specs.declared.node_err.NodeErr.TheVariants as stop
use Rattle.miner_node.specs.Faults.{IsLater, WasNotSent, DidNotCome}
use Rattle.miner_node.specs.Transfers.{IsShort, SendsAll, FillsAll}
use Rattle.miner_node.specs.Peers.{lower_peer, higher_peer, with_peer, Sends, SendsFronts}
use Rattle.miner_node.specs.Serving.{Outcome, Mismatch, NoFrame, CutOff, Agreed, Stops, hello_to, hello_from, compared, at_hello, heard, then_hear}
use Rattle.miner_node.specs.Serving.{greeting, serving, after_greeting, frames_to_next, frames_to_previous, bytes_to_next, bytes_to_previous}
use Rattle.miner_node.specs.Order.{IsPart, IsUnfinished, IsHelloDue, hello_first, awaited_message, awaited}
use Rattle.miner_node.specs.Answers.{IsStop, IsUnheard, HearsOf, Hears, GreetsBy, Greets}
use Rattle.miner_node.proofs.Faulting.{later_self, later_on, fault_on, fault_so}

-- ---- ONE HELLO

module _ (hello : Hello) (peer : Number) (a b : LinksState) where
  heard_at : (f : Front Hello) → greeted (a.coming (count_of peer)) ≡ f
      → heard hello peer a.coming ≡ at_hello (hello_from hello peer) (count_of peer) a.coming f
  heard_at f e = ap (λ v. at_hello (hello_from hello peer) (count_of peer) a.coming v) e

  -- it didn't come whole
  pub unheard : (n : ℕ) → n ≡ 68 → (e : NodeErr) → DidNotCome a b (IsShort a (count_of peer) n) e → IsUnheard hello peer a b e
  unheard n is stop.LinkFault h =
      fault_so h (λ short t.
      heard_at Truncated
      (greeted-short (a.coming (count_of peer)) (subst (λ (k : ℕ). length (a.coming (count_of peer)) < k) is (short t))))
  unheard n is (stop.PeerMismatch field mine theirs) h = absurd h
  unheard n is (stop.BadFrame place) h = absurd h
  unheard n is (stop.BadMessage link cause) h = absurd h
  unheard n is stop.Memory h = tt

  -- fewer bytes than a hello has are no whole one
  pub part_of_hello : (n : ℕ) → n ≡ 68 → (g' c' : ℕ → List ℕ) (p : ℕ) → IsPart (count_of peer) n g' c' p → IsUnfinished greeted (count_of peer) g' c' p
  part_of_hello n is g' c' p h =
      record {
        same = h.same;
        none = h.none;
        part = (h.part.0, greeted-short h.part.0 (subst (λ (k : ℕ). length h.part.0 < k) is h.part.1), h.part.2);
      }

  module _ (bytes : List ℕ) (size : length bytes ≡ 68) (came : Came a b (count_of peer) bytes) where
    front_is : a.told ≡ true → greeted (a.coming (count_of peer)) ≡ greeted (bytes ++ b.coming (count_of peer))
    front_is t = ap greeted (came.came t)

    pub no_hello : (bad : BadFrame) → hello_of bytes ≡ Err bad → a.told ≡ true → heard hello peer a.coming ≡ Stops (NoFrame bad.place)
    no_hello bad is t = heard_at (Malformed bad.place) (front_is t ∙ greeted-broken bytes (b.coming (count_of peer)) bad size is)

    module _ (theirs : Hello) (is : hello_of bytes ≡ Ok theirs) where
      came_whole : (f : Option Field) → first_difference (hello_from hello peer) theirs ≡ f → a.told ≡ true
          → heard hello peer a.coming ≡ compared (hello_from hello peer) theirs f (with_peer (count_of peer) (b.coming (count_of peer)) a.coming)
      came_whole f e t =
          heard_at (Whole theirs (b.coming (count_of peer))) (front_is t ∙ greeted-came bytes (b.coming (count_of peer)) theirs size is)
          ∙ ap (λ v. compared (hello_from hello peer) theirs v (with_peer (count_of peer) (b.coming (count_of peer)) a.coming)) e

      pub differs : (field : Field) → first_difference (hello_from hello peer) theirs ≡ Some field → a.told ≡ true
          → heard hello peer a.coming ≡ Stops (Mismatch field (hello_from hello peer) theirs)
      differs field e t = came_whole (Some field) e t

      pub agrees : first_difference (hello_from hello peer) theirs ≡ None → a.told ≡ true → heard hello peer a.coming ≡ Agreed b.coming
      agrees e t = came_whole None e t ∙ ap Agreed (λ d. λ p. left p d)
        where
          left : (p : ℕ) → with_peer (count_of peer) (b.coming (count_of peer)) a.coming p ≡ b.coming p
          left p = by_peer (p == count_of peer) refl
            where
              by_peer : (same : Bool) → (p == count_of peer) ≡ same → (if same then b.coming (count_of peer) else a.coming p) ≡ b.coming p
              by_peer true e = ap b.coming (sym (eqb-true p (count_of peer) e))
              by_peer false e = sym (came.others t p (eqb-false p (count_of peer) e))

-- whatever comes after a hello that is the expected one
module _ (hello : Hello) (peer : Number) (bytes : List ℕ) (size : length bytes ≡ 68) (theirs : Hello) (is : hello_of bytes ≡ Ok theirs)
    (none : first_difference (hello_from hello peer) theirs ≡ None) (rest : ℕ → List ℕ) where
  abbrev with_hello : ℕ → List ℕ
  with_hello = and_then (bytes_of (count_of peer) bytes) rest

  rest_is : (p : ℕ) → with_peer (count_of peer) (rest (count_of peer)) with_hello p ≡ rest p
  rest_is p = by_peer (p == count_of peer) refl
    where
      by_peer : (same : Bool) → (p == count_of peer) ≡ same → (if same then rest (count_of peer) else with_hello p) ≡ rest p
      by_peer true e = ap rest (sym (eqb-true p (count_of peer) e))
      by_peer false e = ap (λ v. v ++ rest p) (bytes_elsewhere (count_of peer) p bytes (eqb-false p (count_of peer) e))

  pub heard_whole : heard hello peer with_hello ≡ Agreed rest
  heard_whole =
      let front : with_hello (count_of peer) ≡ bytes ++ rest (count_of peer) = ap (λ v. v ++ rest (count_of peer)) (bytes_here (count_of peer) bytes) in
      let whole = ap greeted front ∙ greeted-came bytes (rest (count_of peer)) theirs size is in
      ap (at_hello (hello_from hello peer) (count_of peer) with_hello) whole
      ∙ ap (λ v. compared (hello_from hello peer) theirs v (with_peer (count_of peer) (rest (count_of peer)) with_hello)) none
      ∙ ap Agreed (λ d. λ p. rest_is p d)

-- ---- A HELLO THAT IS READ

module _ (hello : Hello) (peer : Number) (a b : LinksState) (n : ℕ) (number : n ≡ count_of peer) (bytes : List ℕ) (size : length bytes ≡ 68) where
  pub hears_nothing : {T U : Type 0} (e : NodeErr) → FillsAll {T = T} a b n bytes (Err e) → Hears hello peer a b {T = U} (Err e)
  hears_nothing {T} e h =
      let g : FillsAll {T = T} a b (count_of peer) bytes (Err e) = subst (λ (k : ℕ). FillsAll {T = T} a b k bytes (Err e)) number h in
      record {
        ok = tt;
        heard_of = tt;
        did = λ t. let d = g.did t in (d.0, did_as _ _ a b no_bytes (bytes_of (count_of peer) d.0) (part_of_hello hello peer a b (length bytes) size) d.1);
        err = unheard hello peer a b (length bytes) size e g.err;
        sent = g.front.1.sent;
        later = g.later;
      }

  module _ {T : Type 0} (u : T) (h : FillsAll {T = T} a b n bytes (Ok u)) where
    came : Came a b (count_of peer) bytes
    came = subst (λ (k : ℕ). Came a b k bytes) number h.ok

    took : a.told ≡ true → Did (IsUnfinished greeted (count_of peer)) a b no_bytes (bytes_of (count_of peer) bytes)
    took t =
        did_as _ _ a b no_bytes (bytes_of (count_of peer) bytes) (part_of_hello hello peer a b (length bytes) size)
        (subst (λ (k : ℕ). Did (IsPart k (length bytes)) a b no_bytes (bytes_of k bytes)) number (h.did_all t))

    some : a.told ≡ true → (taken : List ℕ) × Did (IsUnfinished greeted (count_of peer)) a b no_bytes (bytes_of (count_of peer) taken)
    some t = (bytes, took t)

    pub hears_no_hello : {U : Type 0} (bad : BadFrame) → hello_of bytes ≡ Err bad → Hears hello peer a b {T = U} (Err (stop.BadFrame bad.place))
    hears_no_hello bad is =
        record { ok = tt; heard_of = tt; did = some; err = no_hello hello peer a b bytes size came bad is; sent = came.sent; later = h.later }

    module _ (theirs : Hello) (is : hello_of bytes ≡ Ok theirs) (mine : Hello) (same : mine ≡ hello_from hello peer) where
      pub hears_other : {U : Type 0} (field : Field) → first_difference mine theirs ≡ Some field
          → Hears hello peer a b {T = U} (Err (stop.PeerMismatch field mine theirs))
      hears_other {U} field e =
          subst (λ (v : Hello). Hears hello peer a b {T = U} (Err (stop.PeerMismatch field v theirs))) (sym same)
          record {
            ok = tt;
            heard_of = tt;
            did = some;
            err = differs hello peer a b bytes size came theirs is field (ap (λ v. first_difference v theirs) (sym same) ∙ e);
            sent = came.sent;
            later = h.later;
          }

      pub hears_so : {U : Type 0} (x : U) → first_difference mine theirs ≡ None → Hears hello peer a b {T = U} (Ok x)
      hears_so x e =
          record {
            ok = agrees hello peer a b bytes size came theirs is (ap (λ v. first_difference v theirs) (sym same) ∙ e);
            heard_of = λ t. (
              bytes,
              record { did = took t; agreed = heard_whole hello peer bytes size theirs is (ap (λ v. first_difference v theirs) (sym same) ∙ e) },
            );
            did = some;
            err = tt;
            sent = came.sent;
            later = h.later;
          }

-- ---- WHAT WAS SENT

pub numbers_differ : (i : Number) → count_of (previous_of i) ≢ count_of (next_of i)
numbers_differ One = λ e. omega arith
numbers_differ Two = λ e. omega arith
numbers_differ Three = λ e. omega arith

pub begins-take : (n : ℕ) (xs : List ℕ) → Begins (take n xs) xs
begins-take n xs = subst (λ (v : List ℕ). Begins (take n xs) v) (take-append-drop n xs) (begins-append (take n xs) (drop n xs))

module _ (i : Number) (a b c : LinksState) (x y : List ℕ) where
  -- to the next peer, at first
  pub fronts_next : (n : ℕ) → Sent a b (count_of (next_of i)) (take n x) → a.told ≡ true → SendsFronts i a.sent b.sent x y
  fronts_next n h t =
      record {
        to_next = (take n x, begins-take n x, h.sent t);
        to_previous = ([], tt, h.others t (count_of (previous_of i)) (numbers_differ i) ∙ sym (append-nil (a.sent (count_of (previous_of i)))));
        others = λ p apart apart2. h.others t p apart;
      }

  -- and then to the previous one
  pub fronts_previous : (n : ℕ) → Sent a b (count_of (next_of i)) x → Sent b c (count_of (previous_of i)) (take n y) → a.told ≡ true
      → SendsFronts i a.sent c.sent x y
  fronts_previous n p q t =
      let u : b.told ≡ true = p.told ∙ t in
      record {
        to_next =
            (x, begins-self x, q.others u (count_of (next_of i)) (λ e. numbers_differ i (sym e)) ∙ p.sent t);
        to_previous = (
          take n y,
          begins-take n y,
          q.sent u ∙ ap (λ (w : List ℕ). w ++ take n y) (p.others t (count_of (previous_of i)) (numbers_differ i)),
        );
        others = λ r apart apart2. q.others u r apart2 ∙ p.others t r apart;
      }

  pub sends_both : Sent a b (count_of (next_of i)) x → Sent b c (count_of (previous_of i)) y → a.told ≡ true → Sends i a.sent c.sent x y
  sends_both p q t =
      let u : b.told ≡ true = p.told ∙ t in
      record {
        to_next = q.others u (count_of (next_of i)) (λ e. numbers_differ i (sym e)) ∙ p.sent t;
        to_previous = q.sent u ∙ ap (λ (w : List ℕ). w ++ y) (p.others t (count_of (previous_of i)) (numbers_differ i));
        others = λ r apart apart2. q.others u r apart2 ∙ p.others t r apart;
      }

-- fronts of what is more
pub fronts_of_more : (i : Number) (before now : ℕ → List ℕ) (x y more more2 : List ℕ) → SendsFronts i before now x y
    → SendsFronts i before now (x ++ more) (y ++ more2)
fronts_of_more i before now x y more more2 h =
    record {
      to_next = (h.to_next.0, begins-trans _ _ _ h.to_next.1 (begins-append x more), h.to_next.2);
      to_previous = (h.to_previous.0, begins-trans _ _ _ h.to_previous.1 (begins-append y more2), h.to_previous.2);
      others = h.others;
    }

pub fronts_of_all : (i : Number) (before now : ℕ → List ℕ) (x y : List ℕ) → Sends i before now x y → SendsFronts i before now x y
fronts_of_all i before now x y h =
    record { to_next = (x, begins-self x, h.to_next); to_previous = (y, begins-self y, h.to_previous); others = h.others }

-- ---- WHERE A NODE STOPS

module _ (i : Number) (a c d : LinksState) (outcome : Outcome) (next previous : List ℕ) (later : IsLater a c)
    (fronts : a.told ≡ true → SendsFronts i a.sent d.sent next previous) where
  -- bytes were not sent
  pub unsent_stops : (e : NodeErr) → WasNotSent c d e → IsStop i a d outcome next previous e
  unsent_stops stop.LinkFault h = (fault_on later h (λ none. absurd none), fronts)
  unsent_stops (stop.PeerMismatch field mine theirs) h = absurd h
  unsent_stops (stop.BadFrame place) h = absurd h
  unsent_stops (stop.BadMessage link cause) h = absurd h
  unsent_stops stop.Memory h = fronts

module _ (i : Number) (hello : Hello) (s : Strand Ended) (a c d : LinksState) (later : IsLater a c) where
  abbrev to_next_peer : List ℕ
  to_next_peer = hello_bytes (hello_to hello (next_of i))

  abbrev to_previous_peer : List ℕ
  to_previous_peer = hello_bytes (hello_to hello (previous_of i))

  module _ (said : a.told ≡ true → Sends i a.sent d.sent to_next_peer to_previous_peer) (peer : Number)
      (after : a.told ≡ true → (o : Outcome) → heard hello peer c.coming ≡ Stops o → greeting i hello a.coming ≡ Stops o) where
    stopped_at : a.told ≡ true → (o : Outcome) → heard hello peer c.coming ≡ Stops o
        → serving i hello s a.coming ≡ record { outcome = o; acts = [] }
    stopped_at t o e = ap (after_greeting i s) (after t o e)

    exactly : a.told ≡ true → (o : Outcome) → heard hello peer c.coming ≡ Stops o
        → ((serving i hello s a.coming).outcome ≡ o)
        × Sends i a.sent d.sent (bytes_to_next i hello (serving i hello s a.coming).acts) (bytes_to_previous i hello (serving i hello s a.coming).acts)
    exactly t o e =
        let is = stopped_at t o e in
        let sent = said t in (
          ap (λ r. r.outcome) is,
          subst (λ r. Sends i a.sent d.sent (bytes_to_next i hello r.acts) (bytes_to_previous i hello r.acts)) (sym is)
              record {
                to_next = sent.to_next ∙ ap (λ (w : List ℕ). a.sent (count_of (next_of i)) ++ w) (sym (append-nil to_next_peer));
                to_previous = sent.to_previous ∙ ap (λ (w : List ℕ). a.sent (count_of (previous_of i)) ++ w) (sym (append-nil to_previous_peer));
                others = sent.others;
              },
        )

    -- a hello isn't heard
    pub unheard_stops : (e : NodeErr) → IsUnheard hello peer c d e
        → IsStop i a d (serving i hello s a.coming).outcome (bytes_to_next i hello (serving i hello s a.coming).acts)
        (bytes_to_previous i hello (serving i hello s a.coming).acts) e
    unheard_stops stop.LinkFault h = (
      fault_on later h (λ dry t. (exactly t CutOff (dry (later.told ∙ t))).0),
      λ t. fronts_of_more i a.sent d.sent to_next_peer to_previous_peer (frames_to_next i (serving i hello s a.coming).acts)
          (frames_to_previous i (serving i hello s a.coming).acts) (fronts_of_all i a.sent d.sent to_next_peer to_previous_peer (said t)),
    )
    unheard_stops (stop.PeerMismatch field mine theirs) h = λ t. exactly t (Mismatch field mine theirs) (h (later.told ∙ t))
    unheard_stops (stop.BadFrame place) h = λ t. exactly t (NoFrame place) (h (later.told ∙ t))
    unheard_stops (stop.BadMessage link cause) h = absurd h
    unheard_stops stop.Memory h =
        λ t. fronts_of_more i a.sent d.sent to_next_peer to_previous_peer (frames_to_next i (serving i hello s a.coming).acts)
        (frames_to_previous i (serving i hello s a.coming).acts) (fronts_of_all i a.sent d.sent to_next_peer to_previous_peer (said t))

-- ---- WHEN THEIR BYTES ARE DUE

module _ (i : Number) (hello : Hello) where
  abbrev both : ℕ → List ℕ
  both = and_then (bytes_of (count_of (next_of i)) (hello_bytes (hello_to hello (next_of i))))
      (bytes_of (count_of (previous_of i)) (hello_bytes (hello_to hello (previous_of i))))

  both_next : both (count_of (next_of i)) ≡ hello_bytes (hello_to hello (next_of i))
  both_next =
      let x = hello_bytes (hello_to hello (next_of i)) in
      let y = hello_bytes (hello_to hello (previous_of i)) in
      ap (λ v. v ++ bytes_of (count_of (previous_of i)) y (count_of (next_of i))) (bytes_here (count_of (next_of i)) x)
      ∙ ap (λ v. x ++ v) (bytes_elsewhere (count_of (previous_of i)) (count_of (next_of i)) y (λ e. numbers_differ i (sym e)))
      ∙ append-nil x

  both_previous : both (count_of (previous_of i)) ≡ hello_bytes (hello_to hello (previous_of i))
  both_previous =
      let x = hello_bytes (hello_to hello (next_of i)) in
      let y = hello_bytes (hello_to hello (previous_of i)) in
      ap (λ v. v ++ bytes_of (count_of (previous_of i)) y (count_of (previous_of i)))
      (bytes_elsewhere (count_of (next_of i)) (count_of (previous_of i)) x (numbers_differ i))
      ∙ bytes_here (count_of (previous_of i)) y

  -- a hello of a peer that is cut off
  cut : (peer : Number) (g' c' : ℕ → List ℕ) (p : ℕ) → IsUnfinished greeted (count_of peer) g' c' p → heard hello peer c' ≡ Stops CutOff
  cut peer g' c' p h =
      ap (heard hello peer) h.part.2
      ∙ ap (at_hello (hello_from hello peer) (count_of peer) (bytes_of (count_of peer) h.part.0))
      (ap greeted (bytes_here (count_of peer) h.part.0) ∙ h.part.1)

  due_now : (given came : ℕ → List ℕ) (p : ℕ) → given ≡ both → greeting i hello came ≡ Stops CutOff
      → ((s : Strand Ended) → awaited i hello s came ≡ Some p) → IsHelloDue i hello given came p
  due_now given came p is stops waits s =
      let none : serving i hello s came ≡ record { outcome = CutOff; acts = [] } = ap (after_greeting i s) stops in
      record {
        is_awaited = waits s;
        to_next = ap (λ f. f (count_of (next_of i))) is ∙ both_next ∙ sym (append-nil (hello_bytes (hello_to hello (next_of i))))
            ∙ ap (λ r. bytes_to_next i hello r.acts) (sym none);
        to_previous = ap (λ f. f (count_of (previous_of i))) is ∙ both_previous ∙ sym (append-nil (hello_bytes (hello_to hello (previous_of i))))
            ∙ ap (λ r. bytes_to_previous i hello r.acts) (sym none);
      }

  given_both : (g' : ℕ → List ℕ) → g' ≡ no_bytes → and_then both g' ≡ both
  given_both g' none = ap (and_then both) none ∙ then_none both

  pub due_lower : (g' c' : ℕ → List ℕ) (p : ℕ) → IsUnfinished greeted (count_of (lower_peer i)) g' c' p
      → IsHelloDue i hello (and_then both g') (and_then no_bytes c') p
  due_lower g' c' p h =
      let stops = cut (lower_peer i) g' c' p h in
      due_now (and_then both g') c' p (given_both g' h.none) (ap (then_hear hello (higher_peer i)) stops)
      (λ s.
      ap (λ r. hello_first (lower_peer i) r (λ rest. hello_first (higher_peer i) (heard hello (higher_peer i) rest) (awaited_message i s))) stops
      ∙ ap Some (sym h.same))

  pub due_higher : (taken : List ℕ)
      → ((rest : ℕ → List ℕ) → heard hello (lower_peer i) (and_then (bytes_of (count_of (lower_peer i)) taken) rest) ≡ Agreed rest)
      → (g' c' : ℕ → List ℕ) (p : ℕ) → IsUnfinished greeted (count_of (higher_peer i)) g' c' p
      → IsHelloDue i hello (and_then both g') (and_then (bytes_of (count_of (lower_peer i)) taken) c') p
  due_higher taken agreed g' c' p h =
      let stops = cut (higher_peer i) g' c' p h in
      due_now (and_then both g') (and_then (bytes_of (count_of (lower_peer i)) taken) c') p (given_both g' h.none)
      (ap (then_hear hello (higher_peer i)) (agreed c') ∙ stops)
      (λ s.
      ap (λ r. hello_first (lower_peer i) r (λ rest. hello_first (higher_peer i) (heard hello (higher_peer i) rest) (awaited_message i s))) (agreed c')
      ∙ ap (λ r. hello_first (higher_peer i) r (awaited_message i s)) stops ∙ ap Some (sym h.same))

-- ---- BOTH HELLOS

module _ (i : Number) (hello : Hello) (a b : LinksState) where
  abbrev for_next : List ℕ
  for_next = hello_bytes (hello_to hello (next_of i))

  abbrev for_previous : List ℕ
  for_previous = hello_bytes (hello_to hello (previous_of i))

  -- the first isn't sent
  pub greets_not_next : {T U : Type 0} (x : NodeErr) → SendsAll {T = T} a b (count_of (next_of i)) for_next (Err x) → Greets i hello a b {T = U} (Err x)
  greets_not_next x h =
      record {
        ok = tt;
        did = λ t. let d = h.did t in (d.0, no_bytes, did_as _ _ a b d.0 no_bytes (λ g' c' p e. absurd e) d.1);
        err = λ s.
            let r = serving i hello s a.coming in
            unsent_stops i a a b r.outcome (bytes_to_next i hello r.acts) (bytes_to_previous i hello r.acts) (later_self a)
            (λ t. fronts_of_more i a.sent b.sent for_next for_previous (frames_to_next i r.acts) (frames_to_previous i r.acts)
            (fronts_next i a b a for_next for_previous h.front.0 h.front.1 t)) x h.err;
        later = h.later;
      }

  module _ (c : LinksState) {T : Type 0} (u : T) (one : SendsAll {T = T} a b (count_of (next_of i)) for_next (Ok u)) where
    -- the second isn't sent
    pub greets_not_previous : {U V : Type 0} (x : NodeErr) → SendsAll {T = U} b c (count_of (previous_of i)) for_previous (Err x)
        → Greets i hello a c {T = V} (Err x)
    greets_not_previous x h =
        record {
          ok = tt;
          did = λ t.
              let d = h.did (one.later.told ∙ t) in (
                and_then (bytes_of (count_of (next_of i)) for_next) d.0,
                no_bytes,
                did_then_give (IsHelloDue i hello) _ a b c (bytes_of (count_of (next_of i)) for_next) d.0 no_bytes
                    (did_as _ _ a b (bytes_of (count_of (next_of i)) for_next) no_bytes (λ g' c' p e. absurd e) (one.did_all t)) d.1
                    (λ g' c' p e. absurd e),
              );
          err = λ s.
              let r = serving i hello s a.coming in
              unsent_stops i a b c r.outcome (bytes_to_next i hello r.acts) (bytes_to_previous i hello r.acts) one.later
              (λ t. fronts_of_more i a.sent c.sent for_next for_previous (frames_to_next i r.acts) (frames_to_previous i r.acts)
              (fronts_previous i a b c for_next for_previous h.front.0 one.ok h.front.1 t)) x h.err;
          later = later_on one.later h.later;
        }

    module _ (d : LinksState) {U : Type 0} (v : U) (two : SendsAll {T = U} b c (count_of (previous_of i)) for_previous (Ok v)) where
      said : (e : LinksState) → e.sent ≡ c.sent → a.told ≡ true → Sends i a.sent e.sent for_next for_previous
      said e kept t =
          subst (λ w. Sends i a.sent w for_next for_previous) (sym kept) (sends_both i a b c for_next for_previous one.ok two.ok t)

      later_two : IsLater a c
      later_two = later_on one.later two.later

      gave_both : a.told ≡ true → Did (IsHelloDue i hello) a c (both i hello) no_bytes
      gave_both t =
          did_then_give (IsHelloDue i hello) _ a b c (bytes_of (count_of (next_of i)) for_next) (bytes_of (count_of (previous_of i)) for_previous) no_bytes
          (did_as _ _ a b (bytes_of (count_of (next_of i)) for_next) no_bytes (λ g' c' p e. absurd e) (one.did_all t)) (two.did_all (one.later.told ∙ t))
          (λ g' c' p e. absurd e)

      took_lower : (taken : List ℕ) → a.told ≡ true
          → Did (IsUnfinished greeted (count_of (lower_peer i))) c d no_bytes (bytes_of (count_of (lower_peer i)) taken)
          → Did (IsHelloDue i hello) a d (both i hello) (bytes_of (count_of (lower_peer i)) taken)
      took_lower taken t h =
          did_then_take (IsHelloDue i hello) _ a c d (both i hello) no_bytes (bytes_of (count_of (lower_peer i)) taken) (gave_both t) h (due_lower i hello)

      unmoved : c.coming ≡ a.coming
      unmoved = two.ok.coming ∙ one.ok.coming

      -- the lower peer's isn't heard
      pub greets_not_lower : {V W : Type 0} (x : NodeErr) → Hears hello (lower_peer i) c d {T = V} (Err x) → Greets i hello a d {T = W} (Err x)
      greets_not_lower x h =
          record {
            ok = tt;
            did = λ t.
                let l = h.did (later_two.told ∙ t) in (both i hello, bytes_of (count_of (lower_peer i)) l.0, took_lower l.0 t l.1);
            err = λ s.
                unheard_stops i hello s a c d later_two (said d h.sent) (lower_peer i)
                (λ t o e. ap (then_hear hello (higher_peer i)) (ap (heard hello (lower_peer i)) (sym unmoved) ∙ e)) x h.err;
            later = later_on later_two h.later;
          }

      module _ (e : LinksState) {V : Type 0} (w : V) (three : Hears hello (lower_peer i) c d {T = V} (Ok w)) where
        agreed : a.told ≡ true → heard hello (lower_peer i) a.coming ≡ Agreed d.coming
        agreed t = ap (heard hello (lower_peer i)) (sym unmoved) ∙ three.ok (later_two.told ∙ t)

        later_three : IsLater a d
        later_three = later_on later_two three.later

        abbrev of_lower : List ℕ → ℕ → List ℕ
        of_lower taken = bytes_of (count_of (lower_peer i)) taken

        abbrev of_higher : List ℕ → ℕ → List ℕ
        of_higher taken = bytes_of (count_of (higher_peer i)) taken

        took_both : (t : a.told ≡ true) (taken : List ℕ)
            → Did (IsUnfinished greeted (count_of (higher_peer i))) d e no_bytes (of_higher taken)
            → Did (IsHelloDue i hello) a e (both i hello) (and_then (of_lower (three.heard_of (later_two.told ∙ t)).0) (of_higher taken))
        took_both t taken h =
            let low = three.heard_of (later_two.told ∙ t) in
            did_then_take (IsHelloDue i hello) _ a d e (both i hello) (of_lower low.0) (of_higher taken) (took_lower low.0 t low.1.did) h
            (due_higher i hello low.0 low.1.agreed)

        ordered : (a.told ≡ true → (taken : List ℕ) × Did (IsUnfinished greeted (count_of (higher_peer i))) d e no_bytes (of_higher taken))
            → Ordered (IsHelloDue i hello) a e
        ordered h t =
            let low = three.heard_of (later_two.told ∙ t) in
            let high = h t in (both i hello, and_then (of_lower low.0) (of_higher high.0), took_both t high.0 high.1)

        greets_by : (t : a.told ≡ true) (taken : List ℕ) → HearsOf hello (higher_peer i) d e taken
            → GreetsBy i hello a e (both i hello) (and_then (of_lower (three.heard_of (later_two.told ∙ t)).0) (of_higher taken))
        greets_by t taken h =
            let low = three.heard_of (later_two.told ∙ t) in
            record {
              did = took_both t taken h.did;
              to_next = both_next i hello;
              to_previous = both_previous i hello;
              heard_both = λ rest. (
                and_then (of_higher taken) rest,
                ap (heard hello (lower_peer i)) (then_assoc (of_lower low.0) (of_higher taken) rest) ∙ low.1.agreed (and_then (of_higher taken) rest),
                h.agreed rest,
              );
            }

        -- and last the higher peer's
        pub greets_so : {W : Type 0} (result : Result W NodeErr) → Hears hello (higher_peer i) d e result → Greets i hello a e result
        greets_so (Ok z) h =
            record {
              ok = λ t.
                  let high = h.heard_of (later_three.told ∙ t) in
                  record {
                    by = (_, _, greets_by t high.0 high.1);
                    agreed = ap (then_hear hello (higher_peer i)) (agreed t) ∙ h.ok (later_three.told ∙ t);
                    sent = said e (h.sent ∙ three.sent) t;
                  };
              did = ordered (λ t. h.did (later_three.told ∙ t));
              err = tt;
              later = later_on later_three h.later;
            }
        greets_so (Err x) h =
            record {
              ok = tt;
              did = ordered (λ t. h.did (later_three.told ∙ t));
              err = λ s.
                  unheard_stops i hello s a d e later_three (said e (h.sent ∙ three.sent)) (higher_peer i)
                  (λ t o g. ap (then_hear hello (higher_peer i)) (agreed t) ∙ g) x h.err;
              later = later_on later_three h.later;
            }
