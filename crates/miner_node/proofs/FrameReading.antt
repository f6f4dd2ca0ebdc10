-- A frame is read in two pieces.
use Rattle.std.proofs.Common.{◌≡◌, ℕ, ◌*◌, ◌<◌, List, ◌++◌, length, Ok, Err, sym, ap, ◌∙◌, true, subst, refl, append_assoc}
use Rattle.outside.specs.Links.{LinksState, no_bytes, bytes_of, and_then, Came, Did}
use Rattle.outside.proofs.Moves.{bytes_more, did_as, did_then_take}
use Rattle.served_bytes.specs.Front.{Malformed}
use Rattle.tape_file.specs.Format.{words_at}
use Rattle.wire.specs.declared.bad_frame.BadFrame.{BadFrame}
use Rattle.wire.specs.Frames.{framed, header_of}
use Rattle.wire.proofs.FrameLaws.{framed-short, framed-broken, framed-cut, framed-came}
use Rattle.miner_node.specs.declared.node_err.NodeErr.{NodeErr}
use Rattle.miner_node.specs.declared.node_err.NodeErr.TheVariants as stop
use Rattle.miner_node.specs.Faults.{IsLater, DidNotCome}
use Rattle.miner_node.specs.Order.{IsPart, IsUnfinished}
use Rattle.miner_node.specs.Transfers.{IsShort, FillsAll}
use Rattle.miner_node.specs.Answers.{IsUnread, ReadsOne, ReadsMessage}
use Rattle.miner_node.proofs.Faulting.{later_on, fault_on, fault_so}

module _ (a b : LinksState) (peer : ℕ) where
  -- the header didn't come
  pub unread_header : (n : ℕ) → n ≡ 5 → (e : NodeErr) → DidNotCome a b (IsShort a peer n) e → IsUnread a b peer e
  unread_header n is stop.LinkFault h =
      fault_so h (λ short t. framed-short (a.coming peer) (subst (λ (k : ℕ). length (a.coming peer) < k) is (short t)))
  unread_header n is (stop.PeerMismatch field mine theirs) h = absurd h
  unread_header n is (stop.BadFrame place) h = absurd h
  unread_header n is (stop.BadMessage link cause) h = absurd h
  unread_header n is stop.Memory h = tt

  -- fewer bytes than a header has are no whole frame
  pub part_of_header : (n : ℕ) → n ≡ 5 → (g' c' : ℕ → List ℕ) (p : ℕ) → IsPart peer n g' c' p → IsUnfinished framed peer g' c' p
  part_of_header n is g' c' p h =
      record {
        same = h.same;
        none = h.none;
        part = (h.part.0, framed-short h.part.0 (subst (λ (k : ℕ). length h.part.0 < k) is h.part.1), h.part.2);
      }

module _ (a b : LinksState) (peer : ℕ) (head : List ℕ) (five : length head ≡ 5) (came : Came a b peer head) where
  -- the header is none
  pub unread_bad : (bad : BadFrame) → header_of head ≡ Err bad → a.told ≡ true → framed (a.coming peer) ≡ Malformed bad.place
  unread_bad bad is t = ap framed (came.came t) ∙ framed-broken head (b.coming peer) bad five is

  module _ (c : LinksState) (later : IsLater a b) (count : ℕ) (is : header_of head ≡ Ok count) where
    -- the words didn't come
    pub unread_words : (n : ℕ) → n ≡ 8 * count → (e : NodeErr) → DidNotCome b c (IsShort b peer n) e → IsUnread a c peer e
    unread_words n size stop.LinkFault h =
        fault_on later h (λ short t.
        ap framed (came.came t)
        ∙ framed-cut head (b.coming peer) count five is (subst (λ (k : ℕ). length (b.coming peer) < k) size (short (later.told ∙ t))))
    unread_words n size (stop.PeerMismatch field mine theirs) h = absurd h
    unread_words n size (stop.BadFrame place) h = absurd h
    unread_words n size (stop.BadMessage link cause) h = absurd h
    unread_words n size stop.Memory h = tt

    -- and so are fewer bytes than its words have, after the header
    part_of_words : (n : ℕ) → n ≡ 8 * count → (g' c' : ℕ → List ℕ) (p : ℕ) → IsPart peer n g' c' p
        → IsUnfinished framed peer (and_then no_bytes g') (and_then (bytes_of peer head) c') p
    part_of_words n size g' c' p h =
        record {
          same = h.same;
          none = h.none;
          part = (
            head ++ h.part.0,
            framed-cut head h.part.0 count five is (subst (λ (k : ℕ). length h.part.0 < k) size h.part.1),
            ap (and_then (bytes_of peer head)) h.part.2 ∙ bytes_more peer head h.part.0,
          );
        }

    pub words_after : (n : ℕ) → n ≡ 8 * count → (xs : List ℕ) → Did (IsPart peer 5) a b no_bytes (bytes_of peer head)
        → Did (IsPart peer n) b c no_bytes (bytes_of peer xs) → Did (IsUnfinished framed peer) a c no_bytes (bytes_of peer (head ++ xs))
    words_after n size xs one two =
        subst (λ v. Did (IsUnfinished framed peer) a c no_bytes v) (bytes_more peer head xs)
        (did_then_take (IsUnfinished framed peer) (IsPart peer n) a b c no_bytes (bytes_of peer head) (bytes_of peer xs)
        (did_as (IsPart peer 5) (IsUnfinished framed peer) a b no_bytes (bytes_of peer head) (part_of_header a b peer 5 refl) one) two
        (part_of_words n size))

    -- the words came
    pub reads_words : (body : List ℕ) → length body ≡ 8 * count → Came b c peer body → (a.told ≡ true → Did (IsPart peer 5) a b no_bytes (bytes_of peer head))
        → (b.told ≡ true → Did (IsPart peer (length body)) b c no_bytes (bytes_of peer body)) → a.told ≡ true → ReadsOne a c peer (words_at 0 count body)
    reads_words body size more one two t =
        record {
          taken = head ++ body;
          did = words_after (length body) size body (one t) (two (later.told ∙ t));
          whole = λ rest. ap framed (append_assoc head body rest) ∙ framed-came head body rest count five is size;
          first =
              ap framed (came.came t ∙ ap (λ (w : List ℕ). head ++ w) (more.came (later.told ∙ t)))
              ∙ framed-came head body (c.coming peer) count five is size;
          others = λ p apart. more.others (later.told ∙ t) p apart ∙ came.others t p apart;
        }

-- ---- in one relation

module _ (a b : LinksState) (peer : ℕ) (head : List ℕ) (five : length head ≡ 5) where
  pub reads_no_header : {T : Type 0} (e : NodeErr) → FillsAll {T = T} a b peer head (Err e) → ReadsMessage a b peer (Err e)
  reads_no_header e h =
      record {
        ok = tt;
        did = λ t. let d = h.did t in (d.0, did_as _ _ a b no_bytes (bytes_of peer d.0) (part_of_header a b peer (length head) five) d.1);
        err = unread_header a b peer (length head) five e h.err;
        sent = h.front.1.sent;
        later = h.later;
      }

  module _ {T : Type 0} (u : T) (h : FillsAll {T = T} a b peer head (Ok u)) where
    header : a.told ≡ true → Did (IsPart peer 5) a b no_bytes (bytes_of peer head)
    header t = subst (λ (k : ℕ). Did (IsPart peer k) a b no_bytes (bytes_of peer head)) five (h.did_all t)

    pub reads_bad : (bad : BadFrame) → header_of head ≡ Err bad → ReadsMessage a b peer (Err (stop.BadFrame bad.place))
    reads_bad bad is =
        record {
          ok = tt;
          did = λ t. (head, did_as _ _ a b no_bytes (bytes_of peer head) (part_of_header a b peer 5 refl) (header t));
          err = unread_bad a b peer head five h.ok bad is;
          sent = h.ok.sent;
          later = h.later;
        }

    module _ (c : LinksState) (count : ℕ) (is : header_of head ≡ Ok count) (body : List ℕ) (size : length body ≡ 8 * count) where
      pub reads_no_words : {U : Type 0} (e : NodeErr) → FillsAll {T = U} b c peer body (Err e) → ReadsMessage a c peer (Err e)
      reads_no_words e g =
          record {
            ok = tt;
            did = λ t.
                let d = g.did (h.later.told ∙ t) in (
                  head ++ d.0,
                  words_after a b peer head five h.ok c h.later count is (length body) size d.0 (header t) d.1,
                );
            err = unread_words a b peer head five h.ok c h.later count is (length body) size e g.err;
            sent = g.front.1.sent ∙ h.ok.sent;
            later = later_on h.later g.later;
          }

      pub reads_so : {U : Type 0} (v : U) (m : List ℕ) → m ≡ words_at 0 count body → FillsAll {T = U} b c peer body (Ok v) → ReadsMessage a c peer (Ok m)
      reads_so v m same g =
          let one = reads_words a b peer head five h.ok c h.later count is body size g.ok header g.did_all in
          record {
            ok = λ t. subst (λ (w : List ℕ). ReadsOne a c peer w) (sym same) (one t);
            did = λ t. let r = one t in (r.taken, r.did);
            err = tt;
            sent = g.ok.sent ∙ h.ok.sent;
            later = later_on h.later g.later;
          }
