-- Frames of messages are sent one after another.
use Rattle.std.proofs.Common.{◌≡◌, ◌≢◌, ◌≤◌, ◌<◌, ℕ, ◌+◌, List, [], ◌∷◌, ◌++◌, take, drop, length, get_or, Ok, Err, refl, sym, ap, ◌∙◌, subst, true, add-one}
use Rattle.std.proofs.Common.{take_all}
use Rattle.std.proofs.Math.Seq.{take-suc}
use Rattle.std.proofs.lemmas.Grind.{flat_map-append}
use Rattle.std.proofs.lemmas.List.{append-nil, append_assoc, take-append-drop}
use Rattle.outside.specs.Links.{LinksState, no_bytes, and_then, Sent, Did}
use Rattle.outside.proofs.Moves.{did_none, did_then_give}
use Rattle.proto_core.specs.declared.party.Number.{Number}
use Rattle.proto_core.specs.Parties.{count_of, next_of, previous_of}
use Rattle.proto_core.specs.Strand.{Begins}
use Rattle.proto_core.proofs.Beginnings.{begins-self, begins-append, begins-rest, begins-trans, begins-under}
use Rattle.miner_core.specs.Story.{Story, sent_to_next, sent_to_previous}
use Rattle.wire.specs.Frames.{frame_bytes}
use Rattle.miner_node.specs.declared.node_err.NodeErr.{NodeErr}
use Rattle.miner_node.specs.declared.node_err.NodeErr.TheVariants as stop
use Rattle.miner_node.specs.declared.sending.SentCounts.{SentCounts}
use Rattle.miner_node.specs.Faults.{IsLater, WasNotSent}
use Rattle.miner_node.specs.Order.{NeverDue, GivesOnly}
use Rattle.miner_node.specs.Peers.{Sends}
use Rattle.miner_node.specs.Serving.{frames}
use Rattle.miner_node.specs.Transfers.{SendsAll}
use Rattle.miner_node.specs.Turns.{SendsFrom, HasSentSome, SendsNew}
use Rattle.miner_node.proofs.Pieces.{sent_none}
use Rattle.miner_node.proofs.Faulting.{later_self, later_on, fault_on}
use Rattle.miner_node.proofs.Greetings.{numbers_differ, begins-take}

-- ---- FRAMES OF LISTS

frames_more : (m : List (List ℕ)) (n : ℕ) → n < length m → frames (take (n + 1) m) ≡ frames (take n m) ++ frame_bytes (get_or m n [])
frames_more m n h =
    ap (λ (k : ℕ). frames (take k m)) (add-one n) ∙ ap frames (take-suc m n [] h) ∙ flat_map-append frame_bytes (take n m) (get_or m n [] ∷ [])
    ∙ ap (λ (w : List ℕ). frames (take n m) ++ w) (append-nil (frame_bytes (get_or m n [])))

pub begins_frames : (xs ys : List (List ℕ)) → Begins xs ys → Begins (frames xs) (frames ys)
begins_frames xs ys h =
    subst (λ v. Begins (frames xs) v)
    (sym (flat_map-append frame_bytes xs (drop (length xs) ys)) ∙ ap frames (begins-rest xs ys h))
    (begins-append (frames xs) (frames (drop (length xs) ys)))

pub front_frames : (m : List (List ℕ)) (n : ℕ) → Begins (frames (take n m)) (frames m)
front_frames m n = begins_frames (take n m) m (subst (λ (v : List (List ℕ)). Begins (take n m) v) (take-append-drop n m) (begins-append (take n m) (drop n m)))

-- the frames of so many messages, and a front of the next
front_within : (m : List (List ℕ)) (n k : ℕ) → n < length m → Begins (frames (take n m) ++ take k (frame_bytes (get_or m n []))) (frames m)
front_within m n k h =
    begins-trans _ (frames (take n m) ++ frame_bytes (get_or m n [])) _
    (begins-under (frames (take n m)) _ _ (begins-take k (frame_bytes (get_or m n []))))
    (subst (λ (v : List ℕ). Begins v (frames m)) (frames_more m n h) (front_frames m (n + 1)))

pub unsent_on : (a b c : LinksState) → IsLater a b → (e : NodeErr) → WasNotSent b c e → WasNotSent a c e
unsent_on a b c p stop.LinkFault h = fault_on p h (λ none. none)
unsent_on a b c p (stop.PeerMismatch field mine theirs) h = absurd h
unsent_on a b c p (stop.BadFrame place) h = absurd h
unsent_on a b c p (stop.BadMessage link cause) h = absurd h
unsent_on a b c p stop.Memory h = tt

-- ---- TO ONE PEER

-- of the messages for a peer the frames of `sent` were sent, and now those of `now`
pub record SendsUpTo (a b : LinksState) (peer : ℕ) (m : List (List ℕ)) (sent now : ℕ) : Type 0 where
  pub all : a.told ≡ true → (base : List ℕ) → a.sent peer ≡ base ++ frames (take sent m) → b.sent peer ≡ base ++ frames (take now m)
  pub others : a.told ≡ true → (p : ℕ) → p ≢ peer → b.sent p ≡ a.sent p
  pub did : GivesOnly a b
  pub coming : b.coming ≡ a.coming
  pub later : IsLater a b

-- there was no memory for the bytes
pub sends_nothing : (a : LinksState) (peer : ℕ) (bytes : List ℕ) {T : Type 0} → SendsAll {T = T} a a peer bytes (Err stop.Memory)
sends_nothing a peer bytes =
    record {
      ok = tt;
      front = (0, sent_none a peer bytes);
      did_all = tt;
      did = λ t. (no_bytes, did_none NeverDue a);
      err = tt;
      later = later_self a;
    }

-- bytes are given, and then more
pub gives_on : (a b c : LinksState) → b.told ≡ a.told → GivesOnly a b → GivesOnly b c → GivesOnly a c
gives_on a b c told one two t =
    let x = one t in
    let y = two (told ∙ t) in
    (and_then x.0 y.0, did_then_give NeverDue NeverDue a b c x.0 y.0 no_bytes x.1 y.1 (λ g' c' p h. absurd h))

pub up_to_itself : (a : LinksState) (peer : ℕ) (m : List (List ℕ)) (sent : ℕ) → SendsUpTo a a peer m sent sent
up_to_itself a peer m sent =
    record { all = λ t base e. e; others = λ t p apart. refl; did = λ t. (no_bytes, did_none NeverDue a); coming = refl; later = later_self a }

module _ (a b : LinksState) (peer : ℕ) (m : List (List ℕ)) (sent now : ℕ) (h : SendsUpTo a b peer m sent now) where
  pub up_to_next : (c : LinksState) → now < length m → Sent b c peer (frame_bytes (get_or m now [])) → GivesOnly b c → IsLater b c
      → SendsUpTo a c peer m sent (now + 1)
  up_to_next c within q gives later =
      record {
        all = λ t base e.
            q.sent (h.later.told ∙ t) ∙ ap (λ (w : List ℕ). w ++ frame_bytes (get_or m now [])) (h.all t base e)
            ∙ append_assoc base (frames (take now m)) (frame_bytes (get_or m now []))
            ∙ ap (λ (w : List ℕ). base ++ w) (sym (frames_more m now within));
        others = λ t p apart. q.others (h.later.told ∙ t) p apart ∙ h.others t p apart;
        did = gives_on a b c h.later.told h.did gives;
        coming = q.coming ∙ h.coming;
        later = later_on h.later later;
      }

  pub stops_within : (c : LinksState) → now < length m → (n : ℕ) → Sent b c peer (take n (frame_bytes (get_or m now []))) → (e : NodeErr)
      → WasNotSent b c e → GivesOnly b c → IsLater b c → SendsFrom a c peer m sent (Err e)
  stops_within c within n q e unsent gives later =
      record {
        count = tt;
        all = tt;
        front = λ t base is. (
          frames (take now m) ++ take n (frame_bytes (get_or m now [])),
          front_within m now n within,
          q.sent (h.later.told ∙ t) ∙ ap (λ (w : List ℕ). w ++ take n (frame_bytes (get_or m now []))) (h.all t base is)
              ∙ append_assoc base (frames (take now m)) (take n (frame_bytes (get_or m now []))),
        );
        did = gives_on a b c h.later.told h.did gives;
        err = unsent_on a b c h.later e unsent;
        others = λ t p apart. q.others (h.later.told ∙ t) p apart ∙ h.others t p apart;
        coming = q.coming ∙ h.coming;
        later = later_on h.later later;
      }

  pub sends_all : length m ≤ now → (count : ℕ) → count ≡ length m → SendsFrom a b peer m sent (Ok count)
  sends_all done count is =
      let whole : frames (take now m) ≡ frames m = ap frames (take_all now m done) in
      record {
        count = is;
        all = λ t base e. h.all t base e ∙ ap (λ (w : List ℕ). base ++ w) whole;
        front = λ t base e. (frames m, begins-self (frames m), h.all t base e ∙ ap (λ (w : List ℕ). base ++ w) whole);
        did = h.did;
        err = tt;
        others = h.others;
        coming = h.coming;
        later = h.later;
      }

-- ---- TO BOTH

module _ (i : Number) (s : Story) (counts : SentCounts) (a b : LinksState) where
  pub new_stops_first : {T : Type 0} (after : SentCounts) (e : NodeErr)
      → SendsFrom a b (count_of (next_of i)) (sent_to_next i s) counts.to_next (Err e) → SendsNew {T = T} i s counts after a b (Err e)
  new_stops_first after e p =
      record {
        next = tt;
        previous = tt;
        all = tt;
        front = λ t base is.
            record {
              to_next = p.front t (base (count_of (next_of i))) is.to_next;
              to_previous = (
                frames (take counts.to_previous (sent_to_previous i s)),
                front_frames (sent_to_previous i s) counts.to_previous,
                p.others t (count_of (previous_of i)) (numbers_differ i) ∙ is.to_previous,
              );
              others = λ r apart apart2. p.others t r apart ∙ is.others r apart apart2;
            };
        did = p.did;
        err = p.err;
        coming = p.coming;
        later = p.later;
      }

  module _ (c : LinksState) (count : ℕ) (p : SendsFrom a b (count_of (next_of i)) (sent_to_next i s) counts.to_next (Ok count)) where
    pub new_stops_second : {T : Type 0} (after : SentCounts) (e : NodeErr)
        → SendsFrom b c (count_of (previous_of i)) (sent_to_previous i s) counts.to_previous (Err e) → SendsNew {T = T} i s counts after a c (Err e)
    new_stops_second after e q =
        record {
          next = tt;
          previous = tt;
          all = tt;
          front = λ t base is.
              let u : b.told ≡ true = p.later.told ∙ t in
              record {
                to_next = (
                  frames (sent_to_next i s),
                  begins-self (frames (sent_to_next i s)),
                  q.others u (count_of (next_of i)) (λ e. numbers_differ i (sym e)) ∙ p.all t (base (count_of (next_of i))) is.to_next,
                );
                to_previous =
                    q.front u (base (count_of (previous_of i)))
                    (p.others t (count_of (previous_of i)) (numbers_differ i) ∙ is.to_previous);
                others = λ r apart apart2. q.others u r apart2 ∙ p.others t r apart ∙ is.others r apart apart2;
              };
          did = gives_on a b c p.later.told p.did q.did;
          err = unsent_on a b c p.later e q.err;
          coming = q.coming ∙ p.coming;
          later = later_on p.later q.later;
        }

    pub new_all : {T : Type 0} (x : T) (after : SentCounts) (count2 : ℕ)
        → SendsFrom b c (count_of (previous_of i)) (sent_to_previous i s) counts.to_previous (Ok count2)
        → after.to_next ≡ count → after.to_previous ≡ count2 → SendsNew {T = T} i s counts after a c (Ok x)
    new_all x after count2 q one two =
        let sent : a.told ≡ true → (base : ℕ → List ℕ) → HasSentSome i base a.sent s counts → Sends i base c.sent (frames (sent_to_next i s)) (frames (sent_to_previous i s)) =
        λ t base is.
        let u : b.told ≡ true = p.later.told ∙ t in
        record {
          to_next = q.others u (count_of (next_of i)) (λ e. numbers_differ i (sym e)) ∙ p.all t (base (count_of (next_of i))) is.to_next;
          to_previous = q.all u (base (count_of (previous_of i))) (p.others t (count_of (previous_of i)) (numbers_differ i) ∙ is.to_previous);
          others = λ r apart apart2. q.others u r apart2 ∙ p.others t r apart ∙ is.others r apart apart2;
        } in
        record {
          next = one ∙ p.count;
          previous = two ∙ q.count;
          all = sent;
          front = λ t base is.
              let all = sent t base is in
              record {
                to_next = (frames (sent_to_next i s), begins-self (frames (sent_to_next i s)), all.to_next);
                to_previous = (frames (sent_to_previous i s), begins-self (frames (sent_to_previous i s)), all.to_previous);
                others = all.others;
              };
          did = gives_on a b c p.later.told p.did q.did;
          err = tt;
          coming = q.coming ∙ p.coming;
          later = later_on p.later q.later;
        }
