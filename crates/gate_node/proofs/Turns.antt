-- One step of a block changes nothing of what a miner has done and will do.
use Rattle.std.proofs.Common.{◌≡◌, ℕ, ◌+◌, ◌-◌, ◌<◌, ◌≤◌, min, true, get_or, List, [], ◌∷◌, ◌++◌, length, take, drop, refl, sym, ◌∙◌, ap, subst, arith}
use Rattle.std.proofs.Common.{length-drop, Option, Some, None, Vec, Global, ◌⊎◌, inl, inr}
use Rattle.std.proofs.lemmas.List.{length-take-le, drop-append-le}
use Rattle.proto_core.specs.declared.party.Number.{Number}
use Rattle.proto_core.specs.declared.refused.BadMessage.{BadMessage}
use Rattle.proto_core.specs.Strand.{Strand, Ends, Acts, Waits, then_do}
use Rattle.gates.specs.Blocks.{block_sizes}
use Rattle.gates.specs.declared.gate.Gate.{Gate}
use Rattle.gates.specs.Clear.{Values, value}
use Rattle.blocked_protocol.specs.Blocked.{joined, blocks_strand}
use Rattle.gate_exchanges.specs.LocalGates.{local_share, IsLocal}
use Rattle.gate_exchanges.specs.declared.exchange.Exchange.{Exchange}
use Rattle.gate_exchanges.specs.Exchanges.{protocol_of}
use Rattle.gate_exchanges.specs.Exchanged.{second_value}
use Rattle.gate_exchanges.proofs.Blockables.{blockable-of}
use Rattle.block_steps.specs.declared.links.Links.{Links}
use Rattle.block_steps.specs.declared.progress.Progress.{Progress}
use Rattle.block_steps.specs.declared.progress.Progress.TheVariants.{Stands, Goes, Made}
use Rattle.block_steps.specs.Outcomes.{outcome_of, mail_left, StandsAt, AwaitsOn}
use Rattle.block_steps.specs.Pendings.{pending_left, progress_left}
use Rattle.block_steps.proofs.Behind.{outcome-then}
use Rattle.gate_node.specs.declared.running.Running.{Running}
use Rattle.gate_node.specs.declared.engine.AtWork.{AtWork}
use Rattle.gate_node.specs.declared.engine.AtWork.TheVariants as work
use Rattle.gate_node.specs.declared.engine.Engine.{Engine}
use Rattle.gate_node.specs.OwnGates.{GatesEnd, can_run, own_gates, then_gates}
use Rattle.gate_node.specs.Shares.{shares_of}
use Rattle.gate_node.specs.Nodes.{blocks_then, protocol_at, size_at, gates_left, running_left, work_left, left_at, engine_left, engine_outcome, filled}
use Rattle.gate_node.specs.Plans.{then_wanted}
use Rattle.gate_node.specs.Nodes.{IsSoundWork}
use Rattle.gate_node.proofs.Always.{then-all, then-assoc}
use Rattle.gate_node.proofs.OwnGates.{run-behind}
use Rattle.gate_node.proofs.Blocks.{blocks-begin, draws-apart, drop-front, gate-alone, can-more}

-- ---- what comes after

pub outcome-behind :
    {A B : Type 0} (i : Number) (f : A → Strand B) (a b : Links) (s t : Strand A) → outcome_of i a s ≡ outcome_of i b t →
    outcome_of i a (then_do s f) ≡ outcome_of i b (then_do t f)
outcome-behind i f a b s t h =
    outcome-then i f a.to_next a.to_previous b.to_next b.to_previous a.opened.items b.opened.items s t (mail_left i a) (mail_left i b) h

pub stands-behind :
    {A B : Type 0} (i : Number) (l : Links) (cause : Option BadMessage) (s : Strand A) (f : A → Strand B) → StandsAt i l cause s →
    StandsAt i l cause (then_do s f)
stands-behind i l cause (Ends a) f h = absurd h
stands-behind i l cause (Acts act s) f h = absurd h
stands-behind i l cause (Waits link shape k) f h = h

pub awaits-behind : {A B : Type 0} (l : _) (s : Strand A) (f : A → Strand B) → AwaitsOn l s → AwaitsOn l (then_do s f)
awaits-behind l (Ends a) f h = absurd h
awaits-behind l (Acts act s) f h = absurd h
awaits-behind l (Waits link shape k) f h = h

-- ---- a block that begins

module _ (i : Number) (x : Exchange) (from size : ℕ) (u v tape : List ℕ) (made : List (List ℕ)) (go : List (List ℕ) → List ℕ → Strand GatesEnd) where
  pub begin-turn :
      (a b : Links) (s : Strand (List (List ℕ))) (bu bv bw : List ℕ) →
      from < length u → size ≡ min (length u - from) 512 → (protocol_of x).draws (length u - from) i ≤ length tape →
      bu ≡ take size (drop from u) → bv ≡ take ((protocol_of x).second size) (drop ((protocol_of x).second from) v) →
      bw ≡ take ((protocol_of x).draws size i) tape → length bu ≡ size →
      outcome_of i b s ≡ outcome_of i a ((protocol_of x).strand (length bu) i bu bv bw) →
      outcome_of i b (then_do s (λ here. blocks_then (protocol_of x) i (from + size) u v (drop ((protocol_of x).draws size i) tape) (joined made here) go))
      ≡ outcome_of i a (blocks_then (protocol_of x) i from u v tape made go)
  begin-turn a b s bu bv bw some is reach hu hv hw len same =
      let p = protocol_of x in
      let behind : List (List ℕ) → Strand GatesEnd = λ here. blocks_then p i (from + size) u v (drop (p.draws size i) tape) (joined made here) go in
      outcome-behind i behind b a s (p.strand (length bu) i bu bv bw) same
      ∙ ap (λ n. outcome_of i a (then_do (p.strand n i bu bv bw) behind)) len
      ∙ ap (λ w. outcome_of i a (then_do (p.strand size i w bv bw) behind)) hu
      ∙ ap (λ w. outcome_of i a (then_do (p.strand size i (take size (drop from u)) w bw) behind)) hv
      ∙ ap (λ w. outcome_of i a (then_do (p.strand size i (take size (drop from u)) (take (p.second size) (drop (p.second from) v)) w) behind)) hw
      ∙ ap (outcome_of i a) (sym (blocks-begin p (blockable-of x) i from size u v tape made go some is reach))

-- the same, as the code reads its operands, and its words from the front of the tape
module _ (i : Number) (x : Exchange) (from size : ℕ) (u v tape : List ℕ) (made : List (List ℕ)) (go : List (List ℕ) → List ℕ → Strand GatesEnd) where
  pub next-turn :
      (a b : Links) (s : Strand (List (List ℕ))) (tape2 w w2 t : List ℕ) (f n count : ℕ) →
      w ≡ u → w2 ≡ v → take count t ≡ take count tape → f ≡ (protocol_of x).second from → n ≡ (protocol_of x).second size →
      count ≡ (protocol_of x).draws size i →
      tape2 ≡ drop count tape → from < length w → size ≡ min (length w - from) 512 → (protocol_of x).draws (length u - from) i ≤ length tape →
      outcome_of i b s
      ≡ outcome_of i a ((protocol_of x).strand (length (take ((from + size) - from) (drop from w))) i (take ((from + size) - from) (drop from w))
      (take ((f + n) - f) (drop f w2)) (take count t)) →
      outcome_of i b (then_do s (λ here. blocks_then (protocol_of x) i (from + size) u v tape2 (joined made here) go))
      ≡ outcome_of i a (blocks_then (protocol_of x) i from u v tape made go)
  next-turn a b s tape2 w w2 t f n count hw hw2 ht hf hn hc hd some is reach same =
      let p = protocol_of x in
      let begins : from < length u = subst (λ l. from < length l) hw some in
      let is_size : size ≡ min (length u - from) 512 = subst (λ l. size ≡ min (length l - from) 512) hw is in
      let of_u : (from + size) - from ≡ size = omega arith in
      let of_v : (f + n) - f ≡ n = omega arith in
      let is_u : take ((from + size) - from) (drop from w) ≡ take size (drop from u) =
      ap (λ k. take k (drop from w)) of_u ∙ ap (λ l. take size (drop from l)) hw in
      let is_v : take ((f + n) - f) (drop f w2) ≡ take (p.second size) (drop (p.second from) v) =
      ap (λ k. take k (drop f w2)) (of_v ∙ hn) ∙ ap (λ k. take (p.second size) (drop k w2)) hf ∙ ap (λ l. take (p.second size) (drop (p.second from) l)) hw2 in
      let l = length-drop from u in
      let len : length (take size (drop from u)) ≡ size = length-take-le size (drop from u) (omega (arith, l, is_size)) in
      ap (λ t. outcome_of i b (then_do s (λ here. blocks_then p i (from + size) u v t (joined made here) go))) (hd ∙ ap (λ k. drop k tape) hc)
      ∙ begin-turn i x from size u v tape made go a b s (take ((from + size) - from) (drop from w)) (take ((f + n) - f) (drop f w2)) (take count t)
      begins is_size reach is_u is_v (ht ∙ ap (λ k. take k tape) hc) (ap length is_u ∙ len) same

-- the words of the next block are there
pub reaches :
    (i : Number) (x : Exchange) (from size : ℕ) (u w : List ℕ) (count : ℕ) (tape : List ℕ) → w ≡ u → from < length w → size ≡ min (length w - from) 512 →
    count ≡ (protocol_of x).draws size i → (protocol_of x).draws (length u - from) i ≤ length tape → count ≤ length tape
reaches i x from size u w count tape hw some is hc reach =
    let l : length w ≡ length u = ap length hw in
    let apart : size + (length u - (from + size)) ≡ length u - from = omega (arith, l, some, is) in
    let draws = draws-apart x i size (length u - (from + size)) (length u - from) apart in
    omega (arith, draws, hc, reach)

-- ---- a block that is through

pub of-made :
    {S : Type 0} (left : S → Strand (List (List ℕ))) (to : Progress S) (first : Vec ℕ Global) (second : Option (Vec ℕ Global)) → to ≡ Made first second →
    progress_left left to ≡ Ends (shares_of first second)
of-made left to first None is = ap (progress_left left) is
of-made left to first (Some second) is = ap (progress_left left) is

pub begun-left :
    {S : Type 0} (left : S → Strand (List (List ℕ))) (to : Progress S) (state : S) →
    ((cause : Option BadMessage) × (to ≡ Stands state cause)) ⊎ (to ≡ Goes state) →
    progress_left left to ≡ left state
begun-left left to state (inl is) = ap (progress_left left) is.1
begun-left left to state (inr is) = ap (progress_left left) is

-- ---- what is put to work

module _ {P : Type 0} (i : Number) (e : Engine P) (w : AtWork P) (is : e.work ≡ w) where
  pub put-to-work : engine_outcome i e ≡ outcome_of i e.links (left_at i e w)
  put-to-work = ap (λ v. outcome_of i e.links (left_at i e v)) is

  pub sound-work : IsSoundWork i e w → IsSoundWork i e e.work
  sound-work = subst (IsSoundWork i e) (sym is)

-- a gate that sends nothing, and can run with the words that were supplied, is through at once, whatever words come later
pub runs-alone :
    {P : Type 0} (i : Number) (e : Engine P) (gate : Gate) (values : Values) → e.work ≡ work.Idle → e.begun < length e.gates.items →
    get_or e.gates.items e.begun gate ≡ gate → can_run i e.dealt e.values e.tape.1 gate ≡ true → IsLocal gate →
    values ≡ e.values ++ local_share i e.dealt e.values gate ∷ [] → (more : List ℕ) →
    engine_left i (filled (record e { values = values; begun = e.begun + 1 }) more) ≡ engine_left i (filled e more)
runs-alone i e gate values idle some is can local made more =
    let rest = drop (e.begun + 1) e.gates.items in
    ap (then_wanted i e.dealt e.wanted)
    (ap (work_left i (filled (record e { values = values; begun = e.begun + 1 }) more)) idle
    ∙ ap (λ v. own_gates i e.dealt rest v (e.tape.1 ++ more)) made
    ∙ sym (ap (work_left i (filled e more)) idle
    ∙ ap (λ l. own_gates i e.dealt l e.values (e.tape.1 ++ more)) (drop-front e.begun e.gates.items gate some is)
    ∙ gate-alone i e.dealt e.values (e.tape.1 ++ more) gate rest (can-more i e.dealt e.values e.tape.1 gate can more) local))

-- ---- gates are added

module _ {P : Type 0} (i : Number) (more : List Gate) (e f : Engine P) (has : f.gates.items ≡ e.gates.items ++ more)
    (within : e.begun ≤ length e.gates.items) where
  dropped : drop e.begun f.gates.items ≡ drop e.begun e.gates.items ++ more
  dropped = ap (drop e.begun) has ∙ drop-append-le e.begun e.gates.items more within

  abbrev behind : GatesEnd → Strand GatesEnd
  behind = then_gates i e.dealt more

  gates-more : (values : Values) (tape : List ℕ)
      → own_gates i e.dealt (drop e.begun f.gates.items) values tape ≡ then_do (own_gates i e.dealt (gates_left i e) values tape) behind
  gates-more values tape = ap (λ l. own_gates i e.dealt l values tape) dropped ∙ run-behind i e.dealt more (gates_left i e) values tape

  running-more : (r : Running) (made : List (List ℕ)) → running_left i (record e { gates = f.gates }) r made ≡ then_do (running_left i e r made) behind
  running-more r made =
      let p = protocol_at r in
      let k = size_at e.values r - r.begun in
      let tape = e.tape.1 in
      let blocks = blocks_strand p (block_sizes k) i (drop r.begun (value e.values r.gate.u))
      (drop (p.second r.begun) (second_value e.values r.gate.v)) (take (p.draws k i) tape) in
      then-all blocks _ _ (λ later. gates-more (e.values ++ joined made later) (drop (p.draws k i) tape))
      ∙ sym (then-assoc blocks (λ later. own_gates i e.dealt (gates_left i e) (e.values ++ joined made later) (drop (p.draws k i) tape)) behind)

  pub work-more : (w : AtWork P) → work_left i (record e { gates = f.gates }) w ≡ then_do (work_left i e w) behind
  work-more work.Idle = gates-more e.values e.tape.1
  work-more (work.Between r) = running-more r r.made
  work-more (work.Within r block) =
      then-all (pending_left i block) _ _ (λ here. running-more r (joined r.made here))
      ∙ sym (then-assoc (pending_left i block) (λ here. running_left i e r (joined r.made here)) behind)

-- no gate is added
module _ {P : Type 0} (i : Number) (e f : Engine P) (same : f.gates.items ≡ e.gates.items) where
  pub work-same : (w : AtWork P) → work_left i (record e { gates = f.gates }) w ≡ work_left i e w
  work-same work.Idle = ap (λ l. own_gates i e.dealt (drop e.begun l) e.values e.tape.1) same
  work-same (work.Between r) =
      ap (λ l.
      blocks_then (protocol_at r) i r.begun (value e.values r.gate.u) (second_value e.values r.gate.v) e.tape.1 r.made
      (λ all tape. own_gates i e.dealt (drop e.begun l) (e.values ++ all) tape)) same
  work-same (work.Within r block) =
      ap (λ l.
      then_do (pending_left i block)
      (λ here.
      blocks_then (protocol_at r) i r.begun (value e.values r.gate.u) (second_value e.values r.gate.v) e.tape.1 (joined r.made here)
      (λ all tape. own_gates i e.dealt (drop e.begun l) (e.values ++ all) tape))) same

-- gates that have begun are let go
module _ {P : Type 0} (i : Number) (e : Engine P) (f : Engine P) (same : drop f.begun f.gates.items ≡ drop e.begun e.gates.items) where
  work-kept :
      (t : List ℕ × List ℕ) (w : AtWork P) →
      work_left i (record e { gates = f.gates; begun = f.begun; tape = t }) w ≡ work_left i (record e { tape = t }) w
  work-kept t work.Idle = ap (λ l. own_gates i e.dealt l e.values t.1) same
  work-kept t (work.Between r) =
      ap (λ l.
      blocks_then (protocol_at r) i r.begun (value e.values r.gate.u) (second_value e.values r.gate.v) t.1 r.made
      (λ all tape. own_gates i e.dealt l (e.values ++ all) tape)) same
  work-kept t (work.Within r block) =
      ap (λ l.
      then_do (pending_left i block)
      (λ here.
      blocks_then (protocol_at r) i r.begun (value e.values r.gate.u) (second_value e.values r.gate.v) t.1 (joined r.made here)
      (λ all tape. own_gates i e.dealt l (e.values ++ all) tape))) same

  pub engine-kept : f ≡ record e { gates = f.gates; begun = f.begun } → (more : List ℕ) → engine_left i (filled f more) ≡ engine_left i (filled e more)
  engine-kept is more =
      subst (λ v. engine_left i (filled v more) ≡ engine_left i (filled e more)) (sym is)
      (ap (then_wanted i e.dealt e.wanted) (work-kept (e.tape.0 ++ more, e.tape.1 ++ more) e.work))
