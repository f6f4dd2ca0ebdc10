-- The messages of a whole gate are those of its first block and then those of the rest.
use Rattle.std.proofs.Common.{◌≡◌, ℕ, ◌+◌, ◌-◌, ◌<◌, ◌≤◌, min, List, [], ◌∷◌, ◌++◌, length, take, drop, refl, sym, ◌∙◌, ap, subst, arith, length-drop}
use Rattle.std.proofs.Common.{append_assoc}
use Rattle.std.proofs.lemmas.List.{length-take-le}
use Rattle.proto_core.specs.declared.party.Number.{Number}
use Rattle.proto_core.specs.declared.party.Number.TheVariants.{One, Two, Three}
use Rattle.proto_core.specs.declared.link.Link.{Link}
use Rattle.proto_core.specs.Parties.{from_previous, from_next}
use Rattle.proto_core.specs.Protocol.{Protocol}
use Rattle.proto_core.proofs.Beginnings.{append-none}
use Rattle.gates.specs.Blocks.{block_sizes}
use Rattle.blocked_protocol.specs.Blocked.{blocks_received}
use Rattle.blocked_protocol.proofs.Fitting.{front-length, behind-length}
use Rattle.gate_exchanges.specs.declared.exchange.Exchange.{Exchange}
use Rattle.joint_run.specs.Parts.{ThreeLists}
use Rattle.joint_run.specs.Three.{each_of}
use Rattle.joint_run.specs.Exchanges.{protocol_of}
use Rattle.gate_exchanges.proofs.Blockables.{blockable-of, first-block}
use Rattle.view_simulator.specs.declared.mails.Mails.{Mails}
use Rattle.view_simulator.specs.Sources.{SourceWords, drawn_lists, left_lists, Reach, IsDrawn, front, behind, block_mail, gate_mail, Brings}
use Rattle.view_simulator.proofs.Acceptance.{any-second}
use Rattle.view_simulator.proofs.WholeGates.{blocks-any_second}

-- ---- each miner's words

pub each-drawn : (p : Protocol) (m : ℕ) (t : ThreeLists) → each_of (drawn_lists p m t) ≡ (λ k. take (p.draws m k) (each_of t k))
each-drawn p m t = λ d. λ k. at_miner k d
  where
    at_miner : (k : Number) → each_of (drawn_lists p m t) k ≡ take (p.draws m k) (each_of t k)
    at_miner One = refl
    at_miner Two = refl
    at_miner Three = refl

pub each-left : (p : Protocol) (m : ℕ) (t : ThreeLists) → each_of (left_lists p m t) ≡ (λ k. drop (p.draws m k) (each_of t k))
each-left p m t = λ d. λ k. at_miner k d
  where
    at_miner : (k : Number) → each_of (left_lists p m t) k ≡ drop (p.draws m k) (each_of t k)
    at_miner One = refl
    at_miner Two = refl
    at_miner Three = refl

module _ (e : Exchange) (s : SourceWords) (drawn : IsDrawn (protocol_of e) s) (m : ℕ) (within : m ≤ length s.u) where
  abbrev p : Protocol
  p = protocol_of e

  abbrev n : ℕ
  n = length s.u - m

  whole : length s.u ≡ m + n
  whole = omega arith

  words-apart : (k : Number) (w : List ℕ) → length w ≡ p.draws (length s.u) k → length w ≡ p.draws (m + n) k
  words-apart k w h = h ∙ ap (λ l. p.draws l k) whole

  size-front : length (take m s.u) ≡ m
  size-front = length-take-le m s.u within

  size-behind : length (drop m s.u) ≡ n
  size-behind = length-drop m s.u

  reach-at : (k : Number) (w : List ℕ) → length w ≡ p.draws (length s.u) k → p.draws m k ≤ length w
  reach-at k w h =
      let more : p.draws (m + n) k ≡ p.draws m k + p.draws n k = ((blockable-of e).draws k).more m n in
      let all : length w ≡ p.draws (m + n) k = words-apart k w h in
      omega arith

  pub drawn-reach : Reach p m s.words
  drawn-reach =
      record {
        first = reach-at One s.words.first drawn.first;
        second = reach-at Two s.words.second drawn.second;
        third = reach-at Three s.words.third drawn.third;
      }

  front-at : (k : Number) (w : List ℕ) → length w ≡ p.draws (length s.u) k → length (take (p.draws m k) w) ≡ p.draws (length (take m s.u)) k
  front-at k w h =
      front-length (λ l. p.draws l k) ((blockable-of e).draws k) m n w (words-apart k w h) ∙ ap (λ l. p.draws l k) (sym size-front)

  behind-at : (k : Number) (w : List ℕ) → length w ≡ p.draws (length s.u) k → length (drop (p.draws m k) w) ≡ p.draws (length (drop m s.u)) k
  behind-at k w h =
      behind-length (λ l. p.draws l k) ((blockable-of e).draws k) m n w (words-apart k w h) ∙ ap (λ l. p.draws l k) (sym size-behind)

  pub drawn-front : IsDrawn p (front p m s)
  drawn-front =
      record {
        first = front-at One s.words.first drawn.first;
        second = front-at Two s.words.second drawn.second;
        third = front-at Three s.words.third drawn.third;
      }

  pub drawn-behind : IsDrawn p (behind p m s)
  drawn-behind =
      record {
        first = behind-at One s.words.first drawn.first;
        second = behind-at Two s.words.second drawn.second;
        third = behind-at Three s.words.third drawn.third;
      }

  -- ---- the first block, and the rest

  pub gate-cut :
      (i : Number) (l : Link) → 0 < length s.u → m ≡ min (length s.u) 512 →
      gate_mail p i s l ≡ block_mail p i (front p m s) l ++ gate_mail p i (behind p m s) l
  gate-cut i l some is =
      let cut : block_sizes (length s.u) ≡ m ∷ block_sizes n =
      subst (λ k. block_sizes (length s.u) ≡ k ∷ block_sizes (length s.u - k)) (sym is) (first-block (length s.u) some) in
      let here : Number → List ℕ = λ k. take (p.draws m k) (each_of s.words k) in
      let later : Number → List ℕ = λ k. drop (p.draws m k) (each_of s.words k) in
      let now : List ℕ = take (p.opens m) s.opened in
      let then_opened : List ℕ = drop (p.opens m) s.opened in
      let rest : List (List ℕ) = blocks_received p (block_sizes n) i (drop m s.u) (drop (p.second m) []) later then_opened l in
      ap (λ sizes. blocks_received p sizes i s.u [] (each_of s.words) s.opened l) cut
      ∙ ap (λ f. f l ++ rest) (any-second e m i (take m s.u) (take (p.second m) []) [] here now)
      ∙ ap (λ w. p.received m i (take m s.u) [] w now l ++ rest) (sym (each-drawn p m s.words))
      ∙ ap (λ k. p.received k i (take m s.u) [] (each_of (drawn_lists p m s.words)) now l ++ rest) (sym size-front)
      ∙ ap (λ f. block_mail p i (front p m s) l ++ f l) (blocks-any_second e (block_sizes n) i (drop m s.u) (drop (p.second m) []) [] later then_opened)
      ∙ ap (λ w. block_mail p i (front p m s) l ++ blocks_received p (block_sizes n) i (drop m s.u) [] w then_opened l) (sym (each-left p m s.words))
      ∙ ap (λ k. block_mail p i (front p m s) l ++ blocks_received p (block_sizes k) i (drop m s.u) [] (each_of (left_lists p m s.words)) then_opened l)
      (sym size-behind)

-- ---- the loop over blocks

-- what came, and what is left
pub record Left (p : Protocol) (i : Number) (whole : SourceWords) (before now : Mails) (rest : SourceWords) : Type 0 where
  pub drawn : IsDrawn p rest
  pub previous : now.previous ++ gate_mail p i rest (from_previous i) ≡ before.previous ++ gate_mail p i whole (from_previous i)
  pub next : now.next ++ gate_mail p i rest (from_next i) ≡ before.next ++ gate_mail p i whole (from_next i)

module _ (e : Exchange) (i : Number) (whole : SourceWords) (before now : Mails) (rest : SourceWords) (left : Left (protocol_of e) i whole before now rest) where
  abbrev q : Protocol
  q = protocol_of e

  behind-these :
      (xs ys here more all : List (List ℕ)) (l : Link) →
      gate_mail q i rest l ≡ here ++ more → ys ≡ xs ++ here → xs ++ gate_mail q i rest l ≡ all → ys ++ more ≡ all
  behind-these xs ys here more all l cut added done =
      ap (λ x. x ++ more) added ∙ append_assoc xs here more ∙ ap (λ x. xs ++ x) (sym cut) ∙ done

  pub block-done :
      (m : ℕ) (block behind_it : SourceWords) (later : Mails) → 0 < length rest.u → m ≡ min (length rest.u) 512 →
      block ≡ front q m rest → behind_it ≡ behind q m rest →
      Brings i (block_mail q i block) now later → Left q i whole before later behind_it
  block-done m block behind_it later some is front_is behind_is brings =
      let within : m ≤ length rest.u = omega arith in
      let brought : Brings i (block_mail q i (front q m rest)) now later = subst (λ b. Brings i (block_mail q i b) now later) front_is brings in
      subst (λ r. Left q i whole before later r) (sym behind_is)
      (record {
        drawn = drawn-behind e rest left.drawn m within;
        previous =
            behind-these now.previous later.previous (block_mail q i (front q m rest) (from_previous i)) _ _ (from_previous i)
            (gate-cut e rest left.drawn m within i (from_previous i) some is) brought.previous left.previous;
        next =
            behind-these now.next later.next (block_mail q i (front q m rest) (from_next i)) _ _ (from_next i)
            (gate-cut e rest left.drawn m within i (from_next i) some is) brought.next left.next;
      })

  none-here : (l : Link) → length rest.u ≡ 0 → gate_mail q i rest l ≡ []
  none-here l none = ap (λ k. blocks_received q (block_sizes k) i rest.u [] (each_of rest.words) rest.opened l) none

  pub all-done : length rest.u ≡ 0 → Brings i (gate_mail q i whole) before now
  all-done none =
      record {
        previous = sym (append-none now.previous) ∙ ap (λ x. now.previous ++ x) (sym (none-here (from_previous i) none)) ∙ left.previous;
        next = sym (append-none now.next) ∙ ap (λ x. now.next ++ x) (sym (none-here (from_next i) none)) ∙ left.next;
      }
