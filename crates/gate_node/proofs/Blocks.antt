-- A gate at work, block by block, is the gate.
use Rattle.std.proofs.Common.{◌≡◌, ℕ, suc, ◌+◌, ◌-◌, ◌<◌, ◌≤◌, min, Bool, true, false, ◌&&◌, nat_le, if◌then◌else◌, List, [], ◌∷◌, ◌++◌, length, take}
use Rattle.std.proofs.Common.{map, drop, refl, sym, ◌∙◌, ap, subst, arith, Some, None, IsTrue, ◌↔◌, get_or, drop-cons, add-one}
use Rattle.std.specs.Prelude.{Option}
use Rattle.std.proofs.lemmas.Bool.{le-leb, lt-leb, leb-true, leb-false, and_parts}
use Rattle.std.proofs.lemmas.List.{drop-drop, drop-take, length-take-le, length-map, length-append}
use Rattle.std.proofs.Math.Seq.{take-add}
use Rattle.proto_core.specs.declared.party.Number.{Number}
use Rattle.proto_core.specs.Protocol.{Protocol}
use Rattle.proto_core.specs.Strand.{Strand, Ends, then_do}
use Rattle.proto_core.proofs.MessageFields.{take-front}
use Rattle.protocol_model.specs.Gates as model
use Rattle.protocol_model.specs.Gates.{Joined, Local, nth_value, operand, sizes_of, needed, gates_strand}
use Rattle.gates.specs.Blocks.{block_sizes}
use Rattle.gates.specs.declared.gate.Gate.{Gate}
use Rattle.gates.specs.declared.gate.Gate.TheVariants.{Mul, And, Split, Conv, Open, Result}
use Rattle.gates.specs.Counts.{size_of}
use Rattle.gates.specs.Clear.{Values, value}
use Rattle.blocked_protocol.specs.Blocked.{joined, no_elements, blocks_strand, Blockable}
use Rattle.gate_exchanges.specs.LocalGates.{local_share, IsLocal}
use Rattle.gate_exchanges.specs.Model.{SizesSuit}
use Rattle.gate_exchanges.proofs.Models.{nth_value-value, size-value}
use Rattle.gate_exchanges.specs.declared.exchange.Exchange.{Exchange}
use Rattle.gate_exchanges.specs.declared.exchange.Exchange.TheVariants.{Product, Splitting, Conversion, Opening, Resharing}
use Rattle.gate_exchanges.specs.declared.exchanged.Exchanged.{Exchanged}
use Rattle.gate_exchanges.specs.Exchanges.{protocol_of}
use Rattle.gate_exchanges.specs.Exchanged.{IsExchanged, second_value}
use Rattle.gate_exchanges.proofs.Blockables.{blockable-of, first-block, joined-assoc}
use Rattle.gate_exchanges.proofs.OneGate.{local-gate, exchanged-gate, local-draws}
use Rattle.gate_node.specs.OwnGates.{GatesEnd, Stuck, own_gate, own_draws, can_run, own_gates}
use Rattle.gate_node.specs.Nodes.{blocks_then}
use Rattle.gate_node.proofs.Suiting.{test-is}
use Rattle.gate_node.proofs.Always.{HaveSizes, then-same, then-all, then-assoc, gate-sized}

-- ---- blocks

module _ (p : Protocol) (blockable : Blockable p) (i : Number) where
  -- after the last
  pub blocks-end :
      (from : ℕ) (u v tape : List ℕ) (made : List (List ℕ)) (go : List (List ℕ) → List ℕ → Strand GatesEnd) → length u ≤ from →
      blocks_then p i from u v tape made go ≡ go (joined made (no_elements p)) tape
  blocks-end from u v tape made go h =
      let none : length u - from ≡ 0 = omega (arith, h) in
      ap (λ k.
      then_do (blocks_strand p (block_sizes k) i (drop from u) (drop (p.second from) v) (take (p.draws k i) tape))
      (λ later. go (joined made later) (drop (p.draws k i) tape))) none
      ∙ ap (λ k. go (joined made (no_elements p)) (drop k tape)) ((blockable.draws i).none)

  take-of-more : (a b : ℕ) (xs : List ℕ) → a ≤ length xs → take a (take (a + b) xs) ≡ take a xs
  take-of-more a b xs h = ap (take a) (take-add a b xs) ∙ take-front a (take a xs) (take b (drop a xs)) (length-take-le a xs h)

  -- the next, and those after it
  module _ (from size : ℕ) (u v tape : List ℕ) (made : List (List ℕ)) (go : List (List ℕ) → List ℕ → Strand GatesEnd) where
    abbrev k : ℕ
    k = length u - from

    abbrev d : ℕ
    d = p.draws size i

    abbrev one : List ℕ → Strand (List (List ℕ))
    one words = p.strand size i (take size (drop from u)) (take (p.second size) (drop (p.second from) v)) words

    abbrev rest : ℕ → (u2 v2 w2 : List ℕ) → Strand (List (List ℕ))
    rest n u2 v2 w2 = blocks_strand p (block_sizes n) i u2 v2 w2

    abbrev whole : (w1 w2 u2 v2 t : List ℕ) → Strand GatesEnd
    whole w1 w2 u2 v2 t =
        then_do (then_do (one w1) (λ here. then_do (rest (k - size) u2 v2 w2) (λ later. Ends (joined here later)))) (λ later. go (joined made later) t)

    abbrev in_order : ℕ → (w1 w2 u2 v2 t : List ℕ) → Strand GatesEnd
    in_order n w1 w2 u2 v2 t = then_do (one w1) (λ here. then_do (rest n u2 v2 w2) (λ later. go (joined (joined made here) later) t))

    whole-in_order : (w1 w2 u2 v2 t : List ℕ) → whole w1 w2 u2 v2 t ≡ in_order (k - size) w1 w2 u2 v2 t
    whole-in_order w1 w2 u2 v2 t =
        then-assoc (one w1) (λ here. then_do (rest (k - size) u2 v2 w2) (λ later. Ends (joined here later))) (λ later. go (joined made later) t)
        ∙ then-all (one w1) _ _
        (λ here.
        then-assoc (rest (k - size) u2 v2 w2) (λ later. Ends (joined here later)) (λ later. go (joined made later) t)
        ∙ then-all (rest (k - size) u2 v2 w2) _ _ (λ later. ap (λ m. go m t) (sym (joined-assoc made here later))))

    pub blocks-begin :
        from < length u → size ≡ min (length u - from) 512 → p.draws (length u - from) i ≤ length tape →
        blocks_then p i from u v tape made go
        ≡ then_do (one (take d tape)) (λ here. blocks_then p i (from + size) u v (drop d tape) (joined made here) go)
    blocks-begin some is reach =
        let more : k ≡ size + (k - size) = omega (arith, is) in
        let positive : 0 < k = omega (arith, some) in
        let draws : p.draws k i ≡ d + p.draws (k - size) i = ap (λ n. p.draws n i) more ∙ (blockable.draws i).more size (k - size) in
        let cut : block_sizes k ≡ size ∷ block_sizes (k - size) = subst (λ m. block_sizes k ≡ m ∷ block_sizes (k - m)) (sym is) (first-block k positive) in
        let fits : d ≤ length tape = omega (arith, draws, reach) in
        let w : List ℕ = take (p.draws k i) tape in
        let front : take d w ≡ take d tape = ap (λ n. take d (take n tape)) draws ∙ take-of-more d (p.draws (k - size) i) tape fits in
        let back : drop d w ≡ take (p.draws (k - size) i) (drop d tape) = ap (λ n. drop d (take n tape)) draws ∙ drop-take d (p.draws (k - size) i) tape in
        let behind : drop (p.draws k i) tape ≡ drop (p.draws (k - size) i) (drop d tape) =
        ap (λ n. drop n tape) draws ∙ sym (drop-drop (p.draws (k - size) i) d tape) in
        let us : drop size (drop from u) ≡ drop (from + size) u = drop-drop size from u in
        let vs : drop (p.second size) (drop (p.second from) v) ≡ drop (p.second (from + size)) v =
        drop-drop (p.second size) (p.second from) v ∙ ap (λ n. drop n v) (sym (blockable.second.more from size)) in
        let less : k - size ≡ length u - (from + size) = omega arith in
        let u2 : List ℕ = drop (from + size) u in
        let v2 : List ℕ = drop (p.second (from + size)) v in
        ap (λ sizes. then_do (blocks_strand p sizes i (drop from u) (drop (p.second from) v) w) (λ later. go (joined made later) (drop (p.draws k i) tape))) cut
        ∙ ap (λ x. whole x (drop d w) (drop size (drop from u)) (drop (p.second size) (drop (p.second from) v)) (drop (p.draws k i) tape)) front
        ∙ ap (λ x. whole (take d tape) x (drop size (drop from u)) (drop (p.second size) (drop (p.second from) v)) (drop (p.draws k i) tape)) back
        ∙ ap (λ x. whole (take d tape) (take (p.draws (k - size) i) (drop d tape)) x (drop (p.second size) (drop (p.second from) v))
        (drop (p.draws k i) tape)) us
        ∙ ap (λ x. whole (take d tape) (take (p.draws (k - size) i) (drop d tape)) u2 x (drop (p.draws k i) tape)) vs
        ∙ ap (λ x. whole (take d tape) (take (p.draws (k - size) i) (drop d tape)) u2 v2 x) behind
        ∙ whole-in_order (take d tape) (take (p.draws (k - size) i) (drop d tape)) u2 v2 (drop (p.draws (k - size) i) (drop d tape))
        ∙ ap (λ n. in_order n (take d tape) (take (p.draws n i) (drop d tape)) u2 v2 (drop (p.draws n i) (drop d tape))) less

-- ---- what a gate's operands and words are long

pub second-fits : (e : Exchange) (a b n : ℕ) → a + b ≤ n → (protocol_of e).second a + (protocol_of e).second b ≤ (protocol_of e).second n
second-fits (Product ring) a b n h = h
second-fits (Splitting negated) a b n h = omega arith
second-fits Conversion a b n h = omega arith
second-fits (Opening ring) a b n h = omega arith
second-fits (Resharing ring) a b n h = omega arith

pub draws-apart : (e : Exchange) (i : Number) (a b n : ℕ) → a + b ≡ n → (protocol_of e).draws a i + (protocol_of e).draws b i ≡ (protocol_of e).draws n i
draws-apart e i a b n h = sym (((blockable-of e).draws i).more a b) ∙ ap (λ m. (protocol_of e).draws m i) h

-- ---- how a gate begins

pub drop-front : {X : Type 0} (k : ℕ) (xs : List X) (x : X) → k < length xs → get_or xs k x ≡ x → drop k xs ≡ x ∷ drop (k + 1) xs
drop-front k xs x h is = drop-cons xs k x h ∙ ap (λ y. y ∷ drop (suc k) xs) is ∙ ap (λ n. x ∷ drop n xs) (sym (add-one k))

joined-emptied : (sizes : List ℕ) (xs : List (List ℕ)) → length sizes ≡ length xs → joined (map (λ size. []) sizes) xs ≡ xs
joined-emptied [] [] h = refl
joined-emptied [] (x ∷ xs) h = absurd (omega arith)
joined-emptied (n ∷ sizes) [] h = absurd (omega arith)
joined-emptied (n ∷ sizes) (x ∷ xs) h = ap (λ ys. x ∷ ys) (joined-emptied sizes xs (omega arith))

made-count : (e : Exchange) (n : ℕ) → length ((protocol_of e).made 0) ≡ length ((protocol_of e).made n)
made-count (Product ring) n = refl
made-count (Splitting negated) n = refl
made-count Conversion n = refl
made-count (Opening ring) n = refl
made-count (Resharing ring) n = refl

joined-start : (e : Exchange) (n : ℕ) (xs : List (List ℕ)) → HaveSizes ((protocol_of e).made n) xs → joined (no_elements (protocol_of e)) xs ≡ xs
joined-start e n xs h = joined-emptied ((protocol_of e).made 0) xs (made-count e n ∙ ap length (sym h) ∙ length-map xs length)

operand-is : (values : Values) (v : Option ℕ) → operand values v ≡ second_value values v
operand-is values None = refl
operand-is values (Some v) = nth_value-value values v

module _ (i : Number) (dealt values : Values) (tape : List ℕ) (gate : Gate) (gates : List Gate) where
  abbrev goes : Bool → Strand GatesEnd
  goes b =
      if b
      then then_do (gates_strand i (own_gate i dealt values gate ∷ []) values tape)
      (λ all. own_gates i dealt gates all (drop (own_draws i dealt values gate) tape))
      else Ends Stuck

  abbrev by_gate : model.Gate → Strand GatesEnd
  by_gate g = then_do (gates_strand i (g ∷ []) values tape) (λ all. own_gates i dealt gates all (drop (needed (g ∷ []) i) tape))

  pub gate-stuck : can_run i dealt values tape gate ≡ false → own_gates i dealt (gate ∷ gates) values tape ≡ Ends Stuck
  gate-stuck cannot = ap goes cannot

  pub gate-alone :
      can_run i dealt values tape gate ≡ true → IsLocal gate →
      own_gates i dealt (gate ∷ gates) values tape ≡ own_gates i dealt gates (values ++ local_share i dealt values gate ∷ []) tape
  gate-alone can local = ap goes can ∙ ap by_gate (local-gate (λ k. dealt) (sizes_of dealt) (sizes_of values) gate local)

  module _ (x : Exchanged) (is : IsExchanged gate x) where
    abbrev p : Protocol
    p = protocol_of x.exchange

    abbrev u : List ℕ
    u = value values x.u

    abbrev v : List ℕ
    v = second_value values x.v

    abbrev blocks : ℕ → (u v : List ℕ) → ℕ → Strand GatesEnd
    blocks n u v drawn =
        then_do (blocks_strand p (block_sizes n) i u v (take (p.draws n i) tape)) (λ made. own_gates i dealt gates (values ++ made) (drop drawn tape))

    nothing-more : (n : ℕ) → n + 0 ≡ n
    nothing-more n = omega arith

    pub gate-begins :
        can_run i dealt values tape gate ≡ true →
        own_gates i dealt (gate ∷ gates) values tape
        ≡ blocks_then p i 0 u v tape (no_elements p) (λ made left. own_gates i dealt gates (values ++ made) left)
    gate-begins can =
        let n : ℕ = size_of (sizes_of values) x.u in
        let size : n ≡ length u = sym (size-value values x.u) in
        let all : length u ≡ length u - 0 = omega arith in
        ap goes can
        ∙ ap by_gate (exchanged-gate (λ k. dealt) (sizes_of dealt) (sizes_of values) gate x is)
        ∙ then-assoc (blocks_strand p (block_sizes n) i (nth_value values x.u) (operand values x.v) (take (p.draws n i) tape)) (λ made. Ends (values ++ made))
        (λ all. own_gates i dealt gates all (drop (p.draws n i + 0) tape))
        ∙ ap (λ m. blocks n (nth_value values x.u) (operand values x.v) m) (nothing-more (p.draws n i))
        ∙ ap (λ w. blocks n w (operand values x.v) (p.draws n i)) (nth_value-value values x.u)
        ∙ ap (λ w. blocks n u w (p.draws n i)) (operand-is values x.v)
        ∙ ap (λ m. blocks m u v (p.draws m i)) size
        ∙ then-same (HaveSizes (p.made (length u))) (blocks_strand p (block_sizes (length u)) i u v (take (p.draws (length u) i) tape)) _ _
        (gate-sized x.exchange (length u) i u v (take (p.draws (length u) i) tape))
        (λ made same. ap (λ m. own_gates i dealt gates (values ++ m) (drop (p.draws (length u) i) tape)) (sym (joined-start x.exchange (length u) made same)))
        ∙ ap (λ w.
        then_do (blocks_strand p (block_sizes (length u)) i u w (take (p.draws (length u) i) tape))
        (λ made. own_gates i dealt gates (values ++ joined (no_elements p) made) (drop (p.draws (length u) i) tape)))
        (ap (λ m. drop m v) (sym ((blockable-of x.exchange).second.none)))
        ∙ ap (λ m.
        then_do (blocks_strand p (block_sizes m) i u (drop (p.second 0) v) (take (p.draws m i) tape))
        (λ made. own_gates i dealt gates (values ++ joined (no_elements p) made) (drop (p.draws m i) tape))) all

-- ---- the operands of a gate that can run, and its words

module _ (ds : List ℕ) (values : Values) where
  abbrev SecondFits : Exchanged → Type 0
  SecondFits x = length (second_value values x.v) ≡ (protocol_of x.exchange).second (length (value values x.u))

  pub second-sized :
      (gate : Gate) (x : Exchanged) → IsExchanged gate x → SizesSuit ds (sizes_of values) gate → SecondFits x
  second-sized (Mul a b) x is suit = subst SecondFits (sym is) (size-value values b ∙ sym suit.same_size ∙ sym (size-value values a))
  second-sized (And a b) x is suit = subst SecondFits (sym is) (size-value values b ∙ sym suit.same_size ∙ sym (size-value values a))
  second-sized (Split a negated) x is suit = subst SecondFits (sym is) refl
  second-sized (Conv a) x is suit = subst SecondFits (sym is) refl
  second-sized (Open ring a) x is suit = subst SecondFits (sym is) refl
  second-sized (Result ring a) x is suit = subst SecondFits (sym is) refl
  second-sized _ x is suit = absurd is

pub draws-are :
    (i : Number) (dealt values : Values) (gate : Gate) (x : Exchanged) → IsExchanged gate x →
    own_draws i dealt values gate ≡ (protocol_of x.exchange).draws (length (value values x.u)) i
draws-are i dealt values gate x is =
    let e : Exchange = x.exchange in
    let size : size_of (sizes_of values) x.u ≡ length (value values x.u) = sym (size-value values x.u) in
    ap (λ g. needed (g ∷ []) i) (exchanged-gate (λ k. dealt) (sizes_of dealt) (sizes_of values) gate x is)
    ∙ ap (λ n. (protocol_of e).draws n i + 0) size
    ∙ omega arith

-- ---- what the test tells

bool-same : (a b : Bool) {P : Type 0} → IsTrue a ↔ P → IsTrue b ↔ P → a ≡ b
bool-same true b p q = sym (q.1 (p.0 refl))
bool-same false true p q = p.1 (q.0 refl)
bool-same false false p q = refl

module _ (i : Number) (dealt values : Values) (tape : List ℕ) (gate : Gate) (b : Bool)
    (tells : IsTrue b ↔ SizesSuit (sizes_of dealt) (sizes_of values) gate) where
  can-is : can_run i dealt values tape gate ≡ (b && nat_le (own_draws i dealt values gate) (length tape))
  can-is = ap (λ t. t && nat_le (own_draws i dealt values gate) (length tape)) (bool-same _ b (test-is (sizes_of dealt) (sizes_of values) gate) tells)

  pub unfit-no : b ≡ false → can_run i dealt values tape gate ≡ false
  unfit-no refused = can-is ∙ ap (λ t. t && nat_le (own_draws i dealt values gate) (length tape)) refused

  pub alone-can : b ≡ true → IsLocal gate → can_run i dealt values tape gate ≡ true
  alone-can told local =
      let none : own_draws i dealt values gate ≡ 0 = local-draws (λ k. dealt) (sizes_of dealt) (sizes_of values) gate i local in
      can-is ∙ ap (λ t. t && nat_le (own_draws i dealt values gate) (length tape)) told ∙ le-leb _ _ (omega (arith, none))

  pub together-can :
      (x : Exchanged) → IsExchanged gate x → b ≡ true → (protocol_of x.exchange).draws (length (value values x.u)) i ≤ length tape →
      can_run i dealt values tape gate ≡ true
  together-can x is told reach =
      let draws = draws-are i dealt values gate x is in
      can-is ∙ ap (λ t. t && nat_le (own_draws i dealt values gate) (length tape)) told ∙ le-leb _ _ (omega (arith, draws, reach))

  pub together-short :
      (x : Exchanged) → IsExchanged gate x → b ≡ true → length tape < (protocol_of x.exchange).draws (length (value values x.u)) i →
      can_run i dealt values tape gate ≡ false
  together-short x is told short =
      let draws = draws-are i dealt values gate x is in
      can-is ∙ ap (λ t. t && nat_le (own_draws i dealt values gate) (length tape)) told ∙ lt-leb _ _ (omega (arith, draws, short))

-- where words are missing, it can run exactly with as many
module _ (i : Number) (dealt values : Values) (tape : List ℕ) (gate : Gate) (b : Bool)
    (tells : IsTrue b ↔ SizesSuit (sizes_of dealt) (sizes_of values) gate) (x : Exchanged) (is : IsExchanged gate x) (told : b ≡ true) (count : ℕ)
    (wanting : length tape + count ≡ (protocol_of x.exchange).draws (length (value values x.u)) i) (more : List ℕ) where
  by_test : (t : Bool) → nat_le count (length more) ≡ t → can_run i dealt values (tape ++ more) gate ≡ t
  by_test true e =
      let l : length (tape ++ more) ≡ length tape + length more = length-append tape more in
      let reach : count ≤ length more = leb-true _ _ e in
      together-can i dealt values (tape ++ more) gate b tells x is told (omega (arith, l, wanting, reach))
  by_test false e =
      let l : length (tape ++ more) ≡ length tape + length more = length-append tape more in
      let short : length more < count = leb-false _ _ e in
      together-short i dealt values (tape ++ more) gate b tells x is told (omega (arith, l, wanting, short))

  pub wants-exactly : can_run i dealt values (tape ++ more) gate ≡ nat_le count (length more)
  wants-exactly = by_test (nat_le count (length more)) refl

-- a gate that can run suits, and its words are there
module _ (i : Number) (dealt values : Values) (tape : List ℕ) (gate : Gate) (can : can_run i dealt values tape gate ≡ true) where
  pub can-suits : SizesSuit (sizes_of dealt) (sizes_of values) gate
  can-suits = (test-is (sizes_of dealt) (sizes_of values) gate).0 (and_parts _ _ can).0

  pub can-reach : own_draws i dealt values gate ≤ length tape
  can-reach = leb-true _ _ (and_parts _ _ can).1

  -- more words make no difference
  pub can-more : (more : List ℕ) → can_run i dealt values (tape ++ more) gate ≡ true
  can-more more =
      let l : length (tape ++ more) ≡ length tape + length more = length-append tape more in
      ap (λ b. b && nat_le (own_draws i dealt values gate) (length (tape ++ more))) (and_parts _ _ can).0
      ∙ le-leb (own_draws i dealt values gate) (length (tape ++ more)) (omega (arith, l, can-reach))
