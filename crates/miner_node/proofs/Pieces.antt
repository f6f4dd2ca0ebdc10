-- Bytes sent or received piece by piece.
use Rattle.std.proofs.Common.{◌≡◌, ◌≤◌, ◌<◌, ℕ, ◌+◌, List, [], ◌++◌, take, drop, length, ◌-◌, length-drop, length-append, ap, ◌∙◌, sym, subst, true, append_assoc, refl, arith}
use Rattle.std.proofs.Math.Seq.{take-add, take-length, take-append-add}
use Rattle.std.proofs.lemmas.List.{append-nil, take-append-le}
use lib.Seq.{length-take-le}
use borrow.Rule.Slice.PartMut.{put_mid, post_of}
use Rattle.outside.specs.Links.{LinksState, no_bytes, bytes_of, and_then, gave, took, OneMore, Sent, Came, IsDry, Did}
use Rattle.outside.proofs.Moves.{bytes_more, bytes_none, did_none, did_then_give, did_then_take, did_give, did_take}
use Rattle.miner_node.specs.Order.{NeverDue, IsPart}
use Rattle.miner_node.specs.Transfers.{IsShort}

pub sent_none : (s : LinksState) (peer : ℕ) (bytes : List ℕ) → Sent s s peer (take 0 bytes)
sent_none s peer bytes =
    record { told = refl; sent = λ _. sym (append-nil (s.sent peer)); others = λ _ p apart. refl; coming = refl }

pub sent_more : {a b c : LinksState} (peer n k : ℕ) (bytes : List ℕ) → Sent a b peer (take n bytes)
    → Sent b c peer (take k (take (length bytes - n) (drop n bytes))) → Sent a c peer (take (n + k) bytes)
sent_more {a} {b} {c} peer n k bytes p q =
    let all : take (length bytes - n) (drop n bytes) ≡ drop n bytes =
    ap (λ (m : ℕ). take m (drop n bytes)) (sym (length-drop n bytes)) ∙ take-length (drop n bytes) in
    record {
      told = q.told ∙ p.told;
      sent = λ t. q.sent (p.told ∙ t) ∙ ap (λ (r : List ℕ). b.sent peer ++ take k r) all ∙ ap (λ (w : List ℕ). w ++ take k (drop n bytes)) (p.sent t)
          ∙ append_assoc (a.sent peer) (take n bytes) (take k (drop n bytes)) ∙ ap (λ (w : List ℕ). a.sent peer ++ w) (sym (take-add n k bytes));
      others = λ t r apart. q.others (p.told ∙ t) r apart ∙ p.others t r apart;
      coming = q.coming ∙ p.coming;
    }

pub gave_none : (s : LinksState) (peer : ℕ) (bytes : List ℕ) → Did NeverDue s s (bytes_of peer (take 0 bytes)) no_bytes
gave_none s peer bytes = subst (λ v. Did NeverDue s s v no_bytes) (sym (bytes_none peer)) (did_none NeverDue s)

pub gave_more : {a b c : LinksState} (peer n k : ℕ) (bytes : List ℕ) → b.told ≡ true → Did NeverDue a b (bytes_of peer (take n bytes)) no_bytes
    → Sent b c peer (take k (take (length bytes - n) (drop n bytes))) → OneMore b c (gave peer (take k (take (length bytes - n) (drop n bytes))))
    → Did NeverDue a c (bytes_of peer (take (n + k) bytes)) no_bytes
gave_more {a} {b} {c} peer n k bytes told did q more =
    let piece : List ℕ = take k (take (length bytes - n) (drop n bytes)) in
    let all : take (length bytes - n) (drop n bytes) ≡ drop n bytes =
    ap (λ (m : ℕ). take m (drop n bytes)) (sym (length-drop n bytes)) ∙ take-length (drop n bytes) in
    let joint : and_then (bytes_of peer (take n bytes)) (bytes_of peer piece) ≡ bytes_of peer (take (n + k) bytes) =
    bytes_more peer (take n bytes) piece
    ∙ ap (λ (r : List ℕ). bytes_of peer (take n bytes ++ take k r)) all
    ∙ ap (bytes_of peer) (sym (take-add n k bytes)) in
    subst (λ v. Did NeverDue a c v no_bytes) joint
    (did_then_give NeverDue NeverDue a b c (bytes_of peer (take n bytes)) (bytes_of peer piece) no_bytes did
    (did_give b c told peer piece NeverDue q more) (λ g' c' p h. absurd h))

pub came_none : (s : LinksState) (peer : ℕ) (bytes : List ℕ) → Came s s peer (take 0 bytes)
came_none s peer bytes = record { told = refl; sent = refl; came = λ _. refl; others = λ _ p apart. refl }

-- a slice whose part was written to
filled_part : (n k m : ℕ) (xs ys : List ℕ) → n ≤ length xs → k ≤ length ys → take (n + k) (put_mid n m xs ys) ≡ take n xs ++ take k ys
filled_part n k m xs ys within fits =
    let front : length (take n xs) ≡ n = length-take-le n xs within in
    ap (λ (a : ℕ). take (a + k) (put_mid n m xs ys)) (sym front)
    ∙ take-append-add (take n xs) (ys ++ post_of n m xs) k
    ∙ ap (λ (w : List ℕ). take n xs ++ w) (take-append-le k ys (post_of n m xs) fits)

pub came_more : {a b c : LinksState} (peer n k m : ℕ) (xs ys : List ℕ) → n ≤ length xs → k ≤ length ys → Came a b peer (take n xs)
    → Came b c peer (take k ys) → Came a c peer (take (n + k) (put_mid n m xs ys))
came_more {a} {b} {c} peer n k m xs ys within fits p q =
    record {
      told = q.told ∙ p.told;
      sent = q.sent ∙ p.sent;
      came = λ t. p.came t ∙ ap (λ (w : List ℕ). take n xs ++ w) (q.came (p.told ∙ t)) ∙ sym (append_assoc (take n xs) (take k ys) (c.coming peer))
          ∙ ap (λ (w : List ℕ). w ++ c.coming peer) (sym (filled_part n k m xs ys within fits));
      others = λ t r apart. q.others (p.told ∙ t) r apart ∙ p.others t r apart;
    }

pub took_none : (s : LinksState) (peer count : ℕ) (bytes : List ℕ) → Did (IsPart peer count) s s no_bytes (bytes_of peer (take 0 bytes))
took_none s peer count bytes = subst (λ v. Did (IsPart peer count) s s no_bytes v) (sym (bytes_none peer)) (did_none (IsPart peer count) s)

-- each front of what is taken by one call is less than all of it
front_of : (peer : ℕ) (bytes : List ℕ) (j : ℕ) → j < length bytes → IsPart peer (length bytes) no_bytes (bytes_of peer (take j bytes)) peer
front_of peer bytes j below =
    let long : length (take j bytes) ≡ j = length-take-le j bytes (omega arith) in
    record { same = refl; none = refl; part = (take j bytes, omega arith, refl) }

-- and less than what is to be filled, after what was
part_after : (peer n k count : ℕ) (xs ys : List ℕ) → length xs ≡ n → length ys ≡ k → n + k ≤ count → (g c : ℕ → List ℕ) (p : ℕ)
    → IsPart peer (length ys) g c p → IsPart peer count (and_then no_bytes g) (and_then (bytes_of peer xs) c) p
part_after peer n k count xs ys long long2 room g c p h =
    let zs = h.part.0 in
    let both : length (xs ++ zs) ≡ length xs + length zs = length-append xs zs in
    let below : length zs < length ys = h.part.1 in
    record {
      same = h.same;
      none = h.none;
      part = (xs ++ zs, omega arith, ap (and_then (bytes_of peer xs)) h.part.2 ∙ bytes_more peer xs zs);
    }

pub took_more : {a b c : LinksState} (peer n k m count : ℕ) (xs ys : List ℕ) → n ≤ length xs → k ≤ length ys → n + k ≤ count → b.told ≡ true
    → Did (IsPart peer count) a b no_bytes (bytes_of peer (take n xs)) → Came b c peer (take k ys) → OneMore b c (took peer (take k ys))
    → Did (IsPart peer count) a c no_bytes (bytes_of peer (take (n + k) (put_mid n m xs ys)))
took_more {a} {b} {c} peer n k m count xs ys within fits room told did q more =
    let front = take n xs in
    let piece = take k ys in
    let joint : and_then (bytes_of peer front) (bytes_of peer piece) ≡ bytes_of peer (take (n + k) (put_mid n m xs ys)) =
    bytes_more peer front piece ∙ ap (bytes_of peer) (sym (filled_part n k m xs ys within fits)) in
    subst (λ v. Did (IsPart peer count) a c no_bytes v) joint
    (did_then_take (IsPart peer count) (IsPart peer (length piece)) a b c no_bytes (bytes_of peer front) (bytes_of peer piece) did
    (did_take b c told peer piece (IsPart peer (length piece)) q more (front_of peer piece))
    (part_after peer n k count front piece (length-take-le n xs within) (length-take-le k ys fits) room))

-- where no byte is left before a slice is full, fewer were to come
pub short_of : {a b : LinksState} (peer n : ℕ) (xs : List ℕ) → n < length xs → Came a b peer (take n xs) → IsDry b peer → IsShort a peer (length xs)
short_of {a} {b} peer n xs below p dry t =
    let none : b.coming peer ≡ [] = dry (p.told ∙ t) in
    let all : a.coming peer ≡ take n xs = p.came t ∙ ap (λ (w : List ℕ). take n xs ++ w) none ∙ append-nil (take n xs) in
    let long : length (take n xs) ≡ n = length-take-le n xs (omega arith) in
    let same : length (a.coming peer) ≡ n = ap length all ∙ long in
    omega arith
