-- The simulator makes what the client is given.
use Rattle.std.proofs.Common.{◌≡◌, ℕ, suc, Bool, true, false, ◌+◌, ◌<◌, ◌≤◌, List, [], ◌∷◌, ◌++◌, length, take, drop, refl, sym, ◌∙◌, ap, subst}
use Rattle.std.proofs.Common.{arith, length-append}
use Rattle.std.specs.Prelude.{Option, Some, None}
use Rattle.std.proofs.lemmas.List.{get_or_append_left}
use Rattle.proto_core.specs.Ring.{Ring}
use Rattle.proto_core.specs.Rings.{add_ring, xor_ring}
use Rattle.proto_core.specs.declared.party.Number.{Number}
use Rattle.proto_core.specs.declared.party.Number.TheVariants.{One, Two, Three}
use Rattle.proto_core.specs.Protocol.{Joint, Protocol, Fits, Sound, AreBlocks}
use Rattle.proto_core.specs.Resharing.{reshared, reshared_of, sum_of_three}
use Rattle.proto_core.proofs.MessageFields.{take-front, drop-front}
use Rattle.proto_core.proofs.Each.{each_none}
use Rattle.proto_core.proofs.ResharingLaws.{length-reshared, left_over}
use Rattle.protocol_model.specs.Gates.{Joined, Local, nth_value}
use Rattle.protocol_model.specs.Gates as model
use Rattle.protocol_model.specs.Runs.{Shares, Tapes, drawn, left, gate_joint, after, after_local, run_values, Ready}
use Rattle.protocol_model.specs.Views.{to_view}
use Rattle.protocol_model.proofs.Sizes.{block-fits, ready-next, ready-local}
use Rattle.protocol_model.proofs.Walks.{same_tapes}
use Rattle.blocked_protocol.specs.Blocked.{blocked, total, joined, front, behind, blocks_output}
use Rattle.blocked_protocol.specs.Multiplying.{mul_protocol}
use Rattle.blocked_protocol.specs.Converting.{conv_protocol}
use Rattle.blocked_protocol.specs.Splitting.{split_protocol}
use Rattle.blocked_protocol.specs.Resharing.{reshare_protocol}
use Rattle.blocked_protocol.specs.Opening.{open_protocol, left_of_opened}
use Rattle.blocked_protocol.proofs.Cuts.{three-cut}
use Rattle.blocked_protocol.proofs.Sizes.{block_sizes-cut}
use Rattle.gates.specs.Blocks.{block_sizes}
use Rattle.gates.specs.declared.ring_kind.RingKind.{RingKind}
use Rattle.gates.specs.declared.gate.Gate.{Gate}
use Rattle.gates.specs.declared.gate.Gate.TheVariants.{Mul, And, Split, Conv, Open, Result}
use Rattle.gates.specs.Clear.{Values, value, ring_of, FitFrom}
use Rattle.gates.specs.Counts.{size_of, made_by_all}
use Rattle.gates.proofs.Columns.{stands}
use Rattle.shared_gates.specs.Shares.{AreShares, Kind, Holds, share_at, AllHeld}
use Rattle.shared_gates.specs.Kinds.{AllKinded}
use Rattle.shared_gates.specs.LocalGates.{local_share}
use Rattle.shared_gates.specs.Model.{size_made, sizes_made, run_gates}
use Rattle.shared_gates.proofs.LocalGates.{laws_of}
use Rattle.shared_gates.proofs.Models.{gates-sound}
use Rattle.shared_gates.proofs.Gained.{value-is}
use Rattle.client_model.specs.ClientRows.{client_row, rowed}
use Rattle.client_model.specs.ClientMaps.{row_of, client_gates}
use Rattle.handed_shares.specs.Handed.{handed_by, handed_values}
use Rattle.client_model.specs.Given.{Given, given_by, given_from, made_given, made_by_gate, published_after, made_from, after_gate}

-- ---- a value shared anew in blocks is one that is shared anew as a whole

reshared-cut :
    (r : Ring) (m n : ℕ) (x y z : List ℕ) →
    reshared r (m + n) x y z ≡ reshared r m (take m x) (take m y) (take m z) ++ reshared r n (drop m x) (drop m y) (drop m z)
unfolding reshared
reshared-cut r m n x y z = three-cut (λ a b c. r.sub (r.add a b) c) m n x y z

reshared-none : (r : Ring) (x y z : List ℕ) → reshared r 0 x y z ≡ []
unfolding reshared
reshared-none r x y z = each_none _

blocks-reshared : (r : Ring) (sizes : List ℕ) (j : Joint) (i : Number) → blocks_output (reshare_protocol r) sizes j i ≡ reshared_of r (total sizes) j i ∷ []
blocks-reshared r [] j i = ap (λ w. w ∷ []) (sym (reshared-none r _ _ _))
blocks-reshared r (m ∷ sizes) j i =
    ap (joined (reshared_of r m (front (reshare_protocol r) m j) i ∷ [])) (blocks-reshared r sizes (behind (reshare_protocol r) m j) i)
    ∙ ap (λ w. w ∷ []) (sym (reshared-cut r m (total sizes) _ _ _))

pub whole-reshared : (r : Ring) (n : ℕ) (j : Joint) (i : Number) → (blocked (reshare_protocol r)).output n j i ≡ reshared_of r n j i ∷ []
whole-reshared r n j i = blocks-reshared r (block_sizes n) j i ∙ ap (λ k. reshared_of r k j i ∷ []) (block_sizes-cut n)

-- ---- values stay where they are made

at_end : (xs : Values) (x : List ℕ) → value (xs ++ x ∷ []) (length xs) ≡ x
at_end [] x = refl
at_end (y ∷ xs) x = at_end xs x

longer : (k : ℕ) (xs ys : Values) → k < length xs → k < length (xs ++ ys)
longer k xs ys lt = let l = length-append xs ys in omega (arith, lt, l)

pub run-keeps : (gates : List model.Gate) (values : Shares) (tapes : Tapes) (i : Number) (k : ℕ) → k < length (values i)
    → value (run_values gates values tapes i) k ≡ value (values i) k
run-keeps [] values tapes i k lt = refl
run-keeps (Joined p n u v ∷ gates) values tapes i k lt =
    let out = p.output n (gate_joint u v values (drawn p n tapes)) i in
    run-keeps gates (after p n u v values (drawn p n tapes)) (left p n tapes) i k (longer k (values i) out lt)
    ∙ get_or_append_left (values i) out [] k lt
run-keeps (Local n f ∷ gates) values tapes i k lt =
    run-keeps gates (after_local f values) tapes i k (longer k (values i) (f i (values i) ∷ []) lt)
    ∙ get_or_append_left (values i) (f i (values i) ∷ []) [] k lt

blocks-count : (sizes : List ℕ) (blocks : Values) → AreBlocks sizes blocks → length blocks ≡ length sizes
blocks-count [] [] h = refl
blocks-count [] (x ∷ blocks) h = absurd h
blocks-count (n ∷ sizes) [] h = absurd h
blocks-count (n ∷ sizes) (x ∷ blocks) h = ap suc (blocks-count sizes blocks h.1)

-- ---- the words after a gate's

after-front : (draws : Number → ℕ) (words rest : Tapes) → ((m : Number) → length (words m) ≡ draws m)
    → (λ (m : Number). drop (draws m + 0) (words m ++ rest m)) ≡ rest
after-front draws words rest len =
    same_tapes _ rest (λ m. ap (λ k. drop k (words m ++ rest m)) (none (draws m)) ∙ drop-front (draws m) (words m) (rest m) (len m))
  where
    none : (k : ℕ) → k + 0 ≡ k
    none k = omega arith

-- ---- a list of gates

module _ (mine : ℕ → Bool) (dealt_kinds kinds : List Kind) (inputs : Values) (dealt : Number → Values) (ds : List ℕ) (values : Values)
    (final : Number → Values) (held : AllHeld kinds values final) (more : Values) where
  abbrev mapped : (sizes : List ℕ) → (next : ℕ) → List Gate → Shares → Tapes → Tapes
  mapped sizes next gates shares tapes = to_view Three (client_gates mine next dealt ds sizes gates) shares tapes

  -- what is known before these gates, of which the first makes the value of number next
  record Stands (sizes : List ℕ) (gates : List Gate) (shares : Shares) (tapes : Tapes) (next : ℕ) : Type 0 where
    ready : Ready (run_gates dealt ds sizes gates) shares tapes
    count : (i : Number) → length (shares i) ≡ next
    kinded : AllKinded dealt_kinds kinds next gates
    fit : FitFrom inputs values next gates
    enough : next + made_by_all gates ≤ length values
    ends : (i : Number) → final i ≡ run_values (run_gates dealt ds sizes gates) shares tapes i

  abbrev IsMade : (sizes : List ℕ) → List Gate → Shares → Tapes → (next : ℕ) → Type 0
  IsMade sizes gates shares tapes next =
      made_from mine next ds sizes gates (handed_values mine next values gates ++ more) (mapped sizes next gates shares tapes)
      ≡ given_from mine next final gates

  -- after a gate that sends messages
  module _ (sizes : List ℕ) (gate : Gate) (gates : List Gate) (shares : Shares) (tapes : Tapes) (next : ℕ) (p : Protocol) (n u : ℕ) (v : Option ℕ)
      (rest : List model.Gate) (sound : Sound p) (ready : Ready (Joined p n u v ∷ rest) shares tapes) (count : (i : Number) → length (shares i) ≡ next) where
    abbrev j : Joint
    j = gate_joint u v shares (drawn p n tapes)

    abbrev shares_then : Shares
    shares_then = after p n u v shares (drawn p n tapes)

    fits : Fits p n j
    fits = block-fits p n u v rest shares tapes ready

    count-then : (made : ℕ) → length (p.made n) ≡ made → (i : Number) → length (shares_then i) ≡ next + made
    count-then made e i =
        length-append (shares i) (p.output n j i)
        ∙ ap (λ k. k + length (p.output n j i)) (count i)
        ∙ ap (λ k. next + k) (blocks-count (p.made n) (p.output n j i) (sound.blocks n j fits i) ∙ e)

    ready-then : Ready rest shares_then (left p n tapes)
    ready-then = ready-next p n u v rest shares tapes ready sound

    -- where all words stay
    after-left : (later : Tapes) → (λ (m : Number). drop (p.draws n m + 0) (drawn p n tapes m ++ later m)) ≡ later
    after-left later = after-front (λ m. p.draws n m) (drawn p n tapes) later (fits).words

  -- the number of a gate's first value, and room for those after it
  room : (next made rest total : ℕ) → next + (made + rest) ≤ total → next + made + rest ≤ total
  room next made rest total le = omega (arith, le)

  -- a publication, where it's the recipient's own, and where it isn't
  module _ (ring : RingKind) (u : ℕ) (gates : List Gate) (sizes : List ℕ) (shares : Shares) (tapes : Tapes) (next : ℕ)
      (h : Stands sizes (Result ring u ∷ gates) shares tapes next) where
    row-size : (r : Ring) (n : ℕ) (j : Joint) → length (j.words Three) ≡ n → (m : Number) → length (client_row r n j m) ≡ n
    row-size r n j e One = length-reshared r n _ _ _
    row-size r n j e Two = length-reshared r n _ _ _
    row-size r n j e Three = e

    first_there : (next rest total : ℕ) → next + (1 + rest) ≤ total → next < total
    first_there next rest total le = omega (arith, le)

    below : (xs out : Values) (x : List ℕ) → out ≡ x ∷ [] → length xs < length (xs ++ out)
    below xs out x e = let l = length-append xs out in let one = ap length e in omega (arith, l, one)

    same-given :
        (r : Ring) (n : ℕ) (words : List ℕ) (slots shares : Tapes) → slots One ≡ shares One → slots Two ≡ shares Two →
        left_of_opened r n words (shares One) (shares Two) ≡ shares Three →
        made_given r n slots words ≡ record { first = shares One; second = shares Two; third = shares Three }
    same-given r n words slots shares a b c =
        ap (λ x. record { first = x; second = slots Two; third = left_of_opened r n words x (slots Two) }) a
        ∙ ap (λ y. record { first = shares One; second = y; third = left_of_opened r n words (shares One) y }) b
        ∙ ap (λ z. record { first = shares One; second = shares Two; third = z }) c

    abbrev p : Protocol
    p = blocked (reshare_protocol (ring_of ring))

    abbrev n : ℕ
    n = size_of sizes u

    abbrev rest : List model.Gate
    rest = run_gates dealt ds (sizes ++ n ∷ []) gates

    abbrev then : Shares
    then = after p n u None shares (drawn p n tapes)

    abbrev later : Tapes
    later = mapped (sizes ++ n ∷ []) (next + 1) gates then (left p n tapes)

    -- the tapes, where the value is the recipient's own or isn't
    abbrev whole_with : Bool → Tapes
    whole_with b =
        to_view Three (Joined (rowed (row_of (Result ring u) b) p) n u None ∷ client_gates mine (next + 1) dealt ds (sizes ++ n ∷ []) gates) shares
        tapes

    abbrev Goal : Bool → Type 0
    Goal b =
        made_by_gate (Result ring u) b sizes ((handed_by (Result ring u) b values ++ handed_values mine (next + 1) values gates) ++ more) (whole_with b)
        ++ made_from mine (next + 1) ds (sizes ++ n ∷ []) gates
        (published_after (Result ring u) b ((handed_by (Result ring u) b values ++ handed_values mine (next + 1) values gates) ++ more))
        (after_gate ds sizes (Result ring u) (whole_with b))
        ≡ given_by (Result ring u) b next final ++ given_from mine (next + 1) final gates

    sound : Sound p
    sound = (gates-sound dealt ds sizes (Result ring u ∷ gates)).0

    module _ (others : IsMade (sizes ++ n ∷ []) gates then (left p n tapes) (next + 1)) where
      anothers : Goal false
      anothers =
          ap (made_from mine (next + 1) ds (sizes ++ n ∷ []) gates (handed_values mine (next + 1) values gates ++ more))
          (after-left sizes (Result ring u) gates shares tapes next p n u None rest sound h.ready h.count later)
          ∙ others

      own : Goal true
      own =
          let r = ring_of ring in
          let j = gate_joint u None shares (drawn p n tapes) in
          let row : Tapes = client_row r n j in
          let whole : Tapes = λ m. row m ++ later m in
          let fits : Fits p n j = block-fits p n u None rest shares tapes h.ready in
          let size : (m : Number) → length (row m) ≡ n = row-size r n j (fits.words Three) in
          -- the slots are the first two shares
          let slot : (m : Number) → drawn p n whole m ≡ row m = λ m. take-front n (row m) (later m) (size m) in
          -- each miner's share
          let made : (i : Number) → share_at final next i ≡ reshared_of r n j i =
          λ i.
          ap (λ vs. value vs next) (h.ends i)
          ∙ run-keeps rest then (left p n tapes) i next
          (subst (λ k. k < length (then i)) (h.count i) (below (shares i) (p.output n j i) (reshared_of r n j i) (whole-reshared r n j i)))
          ∙ ap (λ out. value (shares i ++ out) next) (whole-reshared r n j i)
          ∙ ap (value (shares i ++ reshared_of r n j i ∷ [])) (sym (h.count i))
          ∙ at_end (shares i) (reshared_of r n j i) in
          let lt : next < length values = first_there next (made_by_all gates) (length values) h.enough in
          let holds : AreShares r (value values next) (share_at final next) =
          subst (λ kind. Holds kind (value values next) (share_at final next)) h.kinded.0.1.0 (held next lt) in
          let same : value values next ≡ value values u = stands values next h.fit.1 in
          let shared : AreShares r (value values u) (share_at final next) = subst (λ xs. AreShares r xs (share_at final next)) same holds in
          let length-shared : length (value values u) ≡ n =
          sym (shared.sizes One) ∙ ap length (made One) ∙ length-reshared r n _ _ _ in
          let sum : value values u ≡ sum_of_three r n (share_at final next One) (share_at final next Two) (share_at final next Three) =
          sym (value-is r n (value values u) (share_at final next) length-shared shared) in
          let third : left_of_opened r n (value values u) (share_at final next One) (share_at final next Two) ≡ share_at final next Three =
          left_over (laws_of ring) n (share_at final next One) (share_at final next Two) (share_at final next Three) (value values u)
          (shared.sizes Three ∙ length-shared) (shared.words Three) sum in
          let first : drawn p n whole One ≡ share_at final next One = slot One ∙ sym (made One) in
          let second : drawn p n whole Two ≡ share_at final next Two = slot Two ∙ sym (made Two) in
          let given : made_given r n (drawn p n whole) (value values u)
          ≡ record { first = share_at final next One; second = share_at final next Two; third = share_at final next Three } =
          same-given r n (value values u) (drawn p n whole) (share_at final next) first second third in
          ap (λ (g : Given). g ∷ made_from mine (next + 1) ds (sizes ++ n ∷ []) gates (handed_values mine (next + 1) values gates ++ more)
          (after_gate ds sizes (Result ring u) whole)) given
          ∙ ap (λ t. record { first = share_at final next One; second = share_at final next Two; third = share_at final next Three }
          ∷ made_from mine (next + 1) ds (sizes ++ n ∷ []) gates (handed_values mine (next + 1) values gates ++ more) t)
          (after-front (λ m. n) row later size)
          ∙ ap (λ (gs : List Given). record { first = share_at final next One; second = share_at final next Two; third = share_at final next Three } ∷ gs)
          others

  is-made : (gates : List Gate) (sizes : List ℕ) (shares : Shares) (tapes : Tapes) (next : ℕ) → Stands sizes gates shares tapes next
      → IsMade sizes gates shares tapes next
  is-made [] sizes shares tapes next h = refl
  is-made (Result ring u ∷ gates) sizes shares tapes next h =
      let n = size_of sizes u in
      let p = blocked (reshare_protocol (ring_of ring)) in
      let rest = run_gates dealt ds (sizes ++ n ∷ []) gates in
      let sound = (gates-sound dealt ds sizes (Result ring u ∷ gates)).0 in
      let then = after p n u None shares (drawn p n tapes) in
      let others =
      is-made gates (sizes ++ n ∷ []) then (left p n tapes) (next + 1)
      (record {
        ready = ready-then sizes (Result ring u) gates shares tapes next p n u None rest sound h.ready h.count;
        count = count-then sizes (Result ring u) gates shares tapes next p n u None rest sound h.ready h.count 1 refl;
        kinded = h.kinded.1;
        fit = h.fit.2;
        enough = room next 1 (made_by_all gates) (length values) h.enough;
        ends = h.ends;
      }) in
      elim (mine next) as (λ b. Goal ring u gates sizes shares tapes next h b)
      [ true ↦ own ring u gates sizes shares tapes next h others | false ↦ anothers ring u gates sizes shares tapes next h others ]
  is-made (Mul u v ∷ gates) sizes shares tapes next h =
      let n = size_of sizes u in
      let p = blocked (mul_protocol add_ring) in
      let rest = run_gates dealt ds (sizes ++ n ∷ []) gates in
      let sound = (gates-sound dealt ds sizes (Mul u v ∷ gates)).0 in
      let then = after p n u (Some v) shares (drawn p n tapes) in
      ap (made_from mine (next + 1) ds (sizes ++ n ∷ []) gates (handed_values mine (next + 1) values gates ++ more))
      (after-left sizes (Mul u v) gates shares tapes next p n u (Some v) rest sound h.ready h.count
      (mapped (sizes ++ n ∷ []) (next + 1) gates then (left p n tapes)))
      ∙ is-made gates (sizes ++ n ∷ []) then (left p n tapes) (next + 1)
      (record {
        ready = ready-then sizes (Mul u v) gates shares tapes next p n u (Some v) rest sound h.ready h.count;
        count = count-then sizes (Mul u v) gates shares tapes next p n u (Some v) rest sound h.ready h.count 1 refl;
        kinded = h.kinded.1;
        fit = h.fit.2;
        enough = room next 1 (made_by_all gates) (length values) h.enough;
        ends = h.ends;
      })
  is-made (And u v ∷ gates) sizes shares tapes next h =
      let n = size_of sizes u in
      let p = blocked (mul_protocol xor_ring) in
      let rest = run_gates dealt ds (sizes ++ n ∷ []) gates in
      let sound = (gates-sound dealt ds sizes (And u v ∷ gates)).0 in
      let then = after p n u (Some v) shares (drawn p n tapes) in
      ap (made_from mine (next + 1) ds (sizes ++ n ∷ []) gates (handed_values mine (next + 1) values gates ++ more))
      (after-left sizes (And u v) gates shares tapes next p n u (Some v) rest sound h.ready h.count
      (mapped (sizes ++ n ∷ []) (next + 1) gates then (left p n tapes)))
      ∙ is-made gates (sizes ++ n ∷ []) then (left p n tapes) (next + 1)
      (record {
        ready = ready-then sizes (And u v) gates shares tapes next p n u (Some v) rest sound h.ready h.count;
        count = count-then sizes (And u v) gates shares tapes next p n u (Some v) rest sound h.ready h.count 1 refl;
        kinded = h.kinded.1;
        fit = h.fit.2;
        enough = room next 1 (made_by_all gates) (length values) h.enough;
        ends = h.ends;
      })
  is-made (Split u negated ∷ gates) sizes shares tapes next h =
      let n = size_of sizes u in
      let p = blocked (split_protocol negated) in
      let rest = run_gates dealt ds (sizes ++ n ∷ n ∷ []) gates in
      let sound = (gates-sound dealt ds sizes (Split u negated ∷ gates)).0 in
      let then = after p n u None shares (drawn p n tapes) in
      ap (made_from mine (next + 2) ds (sizes ++ n ∷ n ∷ []) gates (handed_values mine (next + 2) values gates ++ more))
      (after-left sizes (Split u negated) gates shares tapes next p n u None rest sound h.ready h.count
      (mapped (sizes ++ n ∷ n ∷ []) (next + 2) gates then (left p n tapes)))
      ∙ is-made gates (sizes ++ n ∷ n ∷ []) then (left p n tapes) (next + 2)
      (record {
        ready = ready-then sizes (Split u negated) gates shares tapes next p n u None rest sound h.ready h.count;
        count = count-then sizes (Split u negated) gates shares tapes next p n u None rest sound h.ready h.count 2 refl;
        kinded = h.kinded.1;
        fit = h.fit.2;
        enough = room next 2 (made_by_all gates) (length values) h.enough;
        ends = h.ends;
      })
  is-made (Conv u ∷ gates) sizes shares tapes next h =
      let n = size_of sizes u in
      let p = blocked conv_protocol in
      let rest = run_gates dealt ds (sizes ++ n ∷ []) gates in
      let sound = (gates-sound dealt ds sizes (Conv u ∷ gates)).0 in
      let then = after p n u None shares (drawn p n tapes) in
      ap (made_from mine (next + 1) ds (sizes ++ n ∷ []) gates (handed_values mine (next + 1) values gates ++ more))
      (after-left sizes (Conv u) gates shares tapes next p n u None rest sound h.ready h.count
      (mapped (sizes ++ n ∷ []) (next + 1) gates then (left p n tapes)))
      ∙ is-made gates (sizes ++ n ∷ []) then (left p n tapes) (next + 1)
      (record {
        ready = ready-then sizes (Conv u) gates shares tapes next p n u None rest sound h.ready h.count;
        count = count-then sizes (Conv u) gates shares tapes next p n u None rest sound h.ready h.count 1 refl;
        kinded = h.kinded.1;
        fit = h.fit.2;
        enough = room next 1 (made_by_all gates) (length values) h.enough;
        ends = h.ends;
      })
  is-made (Open ring u ∷ gates) sizes shares tapes next h =
      let n = size_of sizes u in
      let p = blocked (open_protocol (ring_of ring)) in
      let rest = run_gates dealt ds (sizes ++ n ∷ []) gates in
      let sound = (gates-sound dealt ds sizes (Open ring u ∷ gates)).0 in
      let then = after p n u None shares (drawn p n tapes) in
      ap (made_from mine (next + 1) ds (sizes ++ n ∷ []) gates (handed_values mine (next + 1) values gates ++ more))
      (after-left sizes (Open ring u) gates shares tapes next p n u None rest sound h.ready h.count
      (mapped (sizes ++ n ∷ []) (next + 1) gates then (left p n tapes)))
      ∙ is-made gates (sizes ++ n ∷ []) then (left p n tapes) (next + 1)
      (record {
        ready = ready-then sizes (Open ring u) gates shares tapes next p n u None rest sound h.ready h.count;
        count = count-then sizes (Open ring u) gates shares tapes next p n u None rest sound h.ready h.count 1 refl;
        kinded = h.kinded.1;
        fit = h.fit.2;
        enough = room next 1 (made_by_all gates) (length values) h.enough;
        ends = h.ends;
      })
  is-made (gate ∷ gates) sizes shares tapes next h =
      is-made gates (sizes ++ sizes_made ds sizes gate) (after_local (λ i own. local_share i (dealt i) own gate) shares) tapes (next + 1)
      (record {
        ready = ready-local (size_made ds sizes gate) (λ i own. local_share i (dealt i) own gate) _ shares tapes h.ready;
        count = λ i. length-append (shares i) (local_share i (dealt i) (shares i) gate ∷ []) ∙ ap (λ k. k + 1) (h.count i);
        kinded = h.kinded.1;
        fit = h.fit.2;
        enough = room next 1 (made_by_all gates) (length values) h.enough;
        ends = h.ends;
      })

  -- all gates of a run
  pub given-made :
      (gates : List Gate) (tapes : Tapes) → Ready (run_gates dealt ds [] gates) (λ i. []) tapes → AllKinded dealt_kinds kinds 0 gates →
      FitFrom inputs values 0 gates → length values ≡ made_by_all gates →
      ((i : Number) → final i ≡ run_values (run_gates dealt ds [] gates) (λ k. []) tapes i) →
      made_from mine 0 ds [] gates (handed_values mine 0 values gates ++ more) (mapped [] 0 gates (λ i. []) tapes) ≡ given_from mine 0 final gates
  given-made gates tapes ready kinded fit count ends =
      is-made gates [] (λ i. []) tapes 0
      (record { ready = ready; count = λ i. refl; kinded = kinded; fit = fit; enough = room_for_all (made_by_all gates) (length values) count; ends = ends })
    where
      room_for_all : (made total : ℕ) → total ≡ made → 0 + made ≤ total
      room_for_all made total e = omega (arith, e)
