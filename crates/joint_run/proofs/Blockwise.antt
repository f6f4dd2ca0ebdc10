-- A whole gate, block by block: what was done and what is left of it are always the whole.
use Rattle.std.proofs.Common.{◌≡◌, ℕ, ◌+◌, ◌-◌, ◌<◌, min, Bool, true, false, List, [], ◌∷◌, ◌++◌, refl, sym, ◌∙◌, ap, subst, arith, inl, inr, append_assoc}
use Rattle.std.proofs.lemmas.Bool.{cases_lt}
use Rattle.proto_core.specs.declared.party.Number.{Number}
use Rattle.proto_core.specs.declared.party.Number.TheVariants.{One, Two, Three}
use Rattle.proto_core.specs.declared.link.Link.{Link}
use Rattle.proto_core.specs.declared.link.Link.TheVariants.{Link12, Link13, Link21, Link23, Link31, Link32}
use Rattle.proto_core.specs.Protocol.{Joint, Protocol}
use Rattle.proto_core.proofs.Beginnings.{append-none}
use Rattle.gates.specs.Blocks.{block_sizes}
use Rattle.gates.specs.Clear.{ring_of}
use Rattle.shared_gates.specs.Blocked.{joined, no_elements, front, behind, blocks_messages, blocks_output, blocks_opened, Blockable}
use Rattle.shared_gates.proofs.Blockables.{mul-blockable, open-blockable, reshare-blockable, conv-blockable, split-blockable}
use Rattle.shared_gates.proofs.Fitting.{front-length, behind-length, itself}
use Rattle.shared_gates.proofs.Sizes.{block_sizes-full, block_sizes-last}
use Rattle.gate_exchanges.specs.declared.exchange.Exchange.{Exchange}
use Rattle.gate_exchanges.specs.declared.exchange.Exchange.TheVariants.{Product, Splitting, Conversion, Opening, Resharing}
use Rattle.gate_exchanges.proofs.Blockables.{first-block, joined-assoc}
use Rattle.joint_run.specs.declared.transcript.Transcript.{Transcript}
use Rattle.joint_run.specs.declared.outputs.Outputs.{Outputs}
use Rattle.joint_run.specs.Three.{carried, share_of}
use Rattle.gate_exchanges.specs.Exchanges.{protocol_of, makes_two, IsSizedAt, IsSized, HasEnoughAt, HasEnough, IsFront, IsBehind}
use Rattle.joint_run.specs.Adding.{words_of, AddsBlock, AddsGate}

pub same_joint : (j k : Joint) → ((i : Number) → j.u i ≡ k.u i) → ((i : Number) → j.v i ≡ k.v i) → ((i : Number) → j.words i ≡ k.words i) → j ≡ k
same_joint j k u v words = λ d. record { u = λ i. u i d; v = λ i. v i d; words = λ i. words i d }

pub for_three : (P : Number → Type 0) → P One → P Two → P Three → (i : Number) → P i
for_three P x y z One = x
for_three P x y z Two = y
for_three P x y z Three = z

pub for_links : (P : Link → Type 0) → P Link12 → P Link13 → P Link21 → P Link23 → P Link31 → P Link32 → (l : Link) → P l
for_links P a b c d e f Link12 = a
for_links P a b c d e f Link13 = b
for_links P a b c d e f Link21 = c
for_links P a b c d e f Link23 = d
for_links P a b c d e f Link31 = e
for_links P a b c d e f Link32 = f

-- ---- sizes

module _ (p : Protocol) (blockable : Blockable p) (m n : ℕ) (j : Joint) where
  front-at : (i : Number) → IsSizedAt p (m + n) i j → IsSizedAt p m i (front p m j)
  front-at i sized =
      record {
        u = front-length (λ k. k) itself m n (j.u i) sized.u;
        v = front-length p.second blockable.second m n (j.v i) sized.v;
        words = front-length (λ k. p.draws k i) (blockable.draws i) m n (j.words i) sized.words;
      }

  behind-at : (i : Number) → IsSizedAt p (m + n) i j → IsSizedAt p n i (behind p m j)
  behind-at i sized =
      record {
        u = behind-length (λ k. k) itself m n (j.u i) sized.u;
        v = behind-length p.second blockable.second m n (j.v i) sized.v;
        words = behind-length (λ k. p.draws k i) (blockable.draws i) m n (j.words i) sized.words;
      }

  pub sized-front : IsSized p (m + n) j → IsSized p m (front p m j)
  sized-front sized = record { first = front-at One sized.first; second = front-at Two sized.second; third = front-at Three sized.third }

  pub sized-behind : IsSized p (m + n) j → IsSized p n (behind p m j)
  sized-behind sized = record { first = behind-at One sized.first; second = behind-at Two sized.second; third = behind-at Three sized.third }

enough-at : (p : Protocol) → Blockable p → (m n : ℕ) (i : Number) (j : Joint) → IsSizedAt p (m + n) i j → HasEnoughAt p m i j
enough-at p blockable m n i j sized =
    let v : p.second (m + n) ≡ p.second m + p.second n = blockable.second.more m n in
    let words : p.draws (m + n) i ≡ p.draws m i + p.draws n i = (blockable.draws i).more m n in
    record { u = omega arith; v = omega arith; words = omega arith }

pub enough : (p : Protocol) → Blockable p → (m n : ℕ) (j : Joint) → IsSized p (m + n) j → HasEnough p m j
enough p blockable m n j sized =
    record {
      first = enough-at p blockable m n One j sized.first;
      second = enough-at p blockable m n Two j sized.second;
      third = enough-at p blockable m n Three j sized.third;
    }

front-is : (p : Protocol) (m : ℕ) (whole some : Joint) → IsFront p m whole some → some ≡ front p m whole
front-is p m whole some h = same_joint some (front p m whole) h.u h.v h.words

behind-is : (p : Protocol) (m : ℕ) (whole rest : Joint) → IsBehind p m whole rest → rest ≡ behind p m whole
behind-is p m whole rest h = same_joint rest (behind p m whole) h.u h.v h.words

pub block-sized : (p : Protocol) → Blockable p → (m n : ℕ) (rest some : Joint) → IsSized p (m + n) rest → IsFront p m rest some → IsSized p m some
block-sized p blockable m n rest some sized h =
    subst (λ k. IsSized p m k) (sym (front-is p m rest some h)) (sized-front p blockable m n rest sized)

-- ---- how many values

abbrev pub IsCount : Bool → List (List ℕ) → Type 0
IsCount false xs = (x : List ℕ) × (xs ≡ x ∷ [])
IsCount true xs = (x : List ℕ) × ((y : List ℕ) × (xs ≡ x ∷ y ∷ []))

abbrev pub empties : Bool → List (List ℕ)
empties false = [] ∷ []
empties true = [] ∷ [] ∷ []

-- a protocol that makes one value, or two
pub record Counted (two : Bool) (p : Protocol) : Type 0 where
  pub some : (m : ℕ) (j : Joint) (i : Number) → IsCount two (p.output m j i)
  pub none : no_elements p ≡ empties two

pub counted-of : (e : Exchange) → Counted (makes_two e) (protocol_of e)
counted-of (Product ring) = record { some = λ m j i. (_, refl); none = refl }
counted-of (Splitting negated) = record { some = λ m j i. (_, (_, refl)); none = refl }
counted-of Conversion = record { some = λ m j i. (_, refl); none = refl }
counted-of (Opening ring) = record { some = λ m j i. (_, refl); none = refl }
counted-of (Resharing ring) = record { some = λ m j i. (_, refl); none = refl }

count-joined : (two : Bool) (xs ys : List (List ℕ)) → IsCount two xs → IsCount two ys → IsCount two (joined xs ys)
count-joined false xs ys h k = (h.0 ++ k.0, ap (λ v. joined v ys) h.1 ∙ ap (λ w. joined (h.0 ∷ []) w) k.1)
count-joined true xs ys h k =
    (h.0 ++ k.0, (h.1.0 ++ k.1.0, ap (λ v. joined v ys) h.1.1 ∙ ap (λ w. joined (h.0 ∷ h.1.0 ∷ []) w) k.1.1))

empties-joined : (two : Bool) (ys : List (List ℕ)) → IsCount two ys → joined (empties two) ys ≡ ys
empties-joined false ys h = ap (λ v. joined (empties false) v) h.1 ∙ sym h.1
empties-joined true ys h = ap (λ v. joined (empties true) v) h.1.1 ∙ sym h.1.1

pub words-joined : (two : Bool) (made : Outputs) (i : Number) → joined (words_of two made i) (empties two) ≡ words_of two made i
words-joined false made i = ap (λ x. x ∷ []) (append-none (share_of made.first i))
words-joined true made i =
    ap (λ x. x ∷ (share_of made.second i ++ []) ∷ []) (append-none (share_of made.first i))
    ∙ ap (λ y. share_of made.first i ∷ y ∷ []) (append-none (share_of made.second i))

-- what is done of a gate, and what is left
pub record Left (two : Bool) (p : Protocol) (n : ℕ) (j : Joint) (before now : Transcript) (made : Outputs) (left : ℕ) (rest : Joint) : Type 0 where
  pub sized : IsSized p left rest
  pub sent : (l : Link) → carried now.traffic l ++ blocks_messages p (block_sizes left) rest l
      ≡ carried before.traffic l ++ blocks_messages p (block_sizes n) j l
  pub learnt : now.opened.items ++ blocks_opened p (block_sizes left) rest ≡ before.opened.items ++ blocks_opened p (block_sizes n) j
  pub words : (i : Number) → joined (words_of two made i) (blocks_output p (block_sizes left) rest i) ≡ blocks_output p (block_sizes n) j i

module _ (two : Bool) (p : Protocol) (counted : Counted two p) where
  count-blocks : (sizes : List ℕ) (j : Joint) (i : Number) → IsCount two (blocks_output p sizes j i)
  count-blocks [] j i = subst (λ xs. IsCount two xs) (sym counted.none) (count-empties two)
    where
      count-empties : (b : Bool) → IsCount b (empties b)
      count-empties false = ([], refl)
      count-empties true = ([], ([], refl))
  count-blocks (m ∷ sizes) j i =
      count-joined two _ _ (counted.some m (front p m j) i) (count-blocks sizes (behind p m j) i)

  -- nothing is done
  pub all-left :
      (n : ℕ) (j : Joint) (before : Transcript) (made : Outputs) → ((i : Number) → share_of made.first i ≡ []) → ((i : Number) → share_of made.second i ≡ []) →
      IsSized p n j → Left two p n j before before made n j
  all-left n j before made first second sized =
      record {
        sized = sized;
        sent = λ l. refl;
        learnt = refl;
        words = λ i.
            ap (λ v. joined v (blocks_output p (block_sizes n) j i)) (nothing-made two made i (first i) (second i))
            ∙ empties-joined two _ (count-blocks (block_sizes n) j i);
      }
    where
      nothing-made : (b : Bool) (made : Outputs) (i : Number) → share_of made.first i ≡ [] → share_of made.second i ≡ [] → words_of b made i ≡ empties b
      nothing-made false made i e f = ap (λ x. x ∷ []) e
      nothing-made true made i e f = ap (λ x. x ∷ share_of made.second i ∷ []) e ∙ ap (λ y. [] ∷ y ∷ []) f

  -- one block more is done
  pub one-less :
      Blockable p → (n : ℕ) (j : Joint) (before now later : Transcript) (made more : Outputs) (left : ℕ) (rest : Joint) → 0 < left →
      Left two p n j before now made left rest → AddsBlock two p (min left 512) (front p (min left 512) rest) now later made more →
      Left two p n j before later more (left - min left 512) (behind p (min left 512) rest)
  one-less blockable n j before now later made more left rest some done added =
      let m : ℕ = min left 512 in
      let left' : ℕ = left - min left 512 in
      let whole : left ≡ m + left' = omega arith in
      let cut : block_sizes left ≡ m ∷ block_sizes left' = first-block left some in
      record {
        sized = sized-behind p blockable m left' rest
            (subst (λ k. IsSized p k rest) whole done.sized);
        sent = λ l.
            ap (λ v. v ++ blocks_messages p (block_sizes left') (behind p m rest) l) (added.told.sent l)
            ∙ append_assoc (carried now.traffic l) (p.messages m (front p m rest) l) (blocks_messages p (block_sizes left') (behind p m rest) l)
            ∙ ap (λ sizes. carried now.traffic l ++ blocks_messages p sizes rest l) (sym cut)
            ∙ done.sent l;
        learnt =
            ap (λ v. v ++ blocks_opened p (block_sizes left') (behind p m rest)) added.told.learnt
            ∙ append_assoc now.opened.items (p.opened m (front p m rest)) (blocks_opened p (block_sizes left') (behind p m rest))
            ∙ ap (λ sizes. now.opened.items ++ blocks_opened p sizes rest) (sym cut)
            ∙ done.learnt;
        words = λ i.
            ap (λ v. joined v (blocks_output p (block_sizes left') (behind p m rest) i)) (added.made i)
            ∙ joined-assoc (words_of two made i) (p.output m (front p m rest) i) (blocks_output p (block_sizes left') (behind p m rest) i)
            ∙ ap (λ sizes. joined (words_of two made i) (blocks_output p sizes rest i)) (sym cut)
            ∙ done.words i;
      }

  -- all is done
  pub none-left :
      (n : ℕ) (j : Joint) (before now : Transcript) (made : Outputs) (left : ℕ) (rest : Joint) → left ≡ 0 →
      Left two p n j before now made left rest → AddsGate two p n j before now made
  none-left n j before now made left rest e done =
      record {
        told =
            record {
              sent = λ l.
                  sym (append-none (carried now.traffic l))
                  ∙ ap (λ k. carried now.traffic l ++ blocks_messages p (block_sizes k) rest l) (sym e)
                  ∙ done.sent l;
              learnt =
                  sym (append-none now.opened.items)
                  ∙ ap (λ k. now.opened.items ++ blocks_opened p (block_sizes k) rest) (sym e)
                  ∙ done.learnt;
            };
        words = λ i.
            sym (words-joined two made i)
            ∙ ap (λ v. joined (words_of two made i) v) (sym counted.none)
            ∙ ap (λ k. joined (words_of two made i) (blocks_output p (block_sizes k) rest i)) (sym e)
            ∙ done.words i;
      }

  -- with the code's own block and rest
  pub goes-on :
      Blockable p → (n : ℕ) (j : Joint) (before now later : Transcript) (made more : Outputs) (left size left' : ℕ) (rest some rest' : Joint) →
      0 < left → size ≡ min left 512 → left' ≡ left - min left 512 → IsFront p (min left 512) rest some → IsBehind p (min left 512) rest rest' →
      Left two p n j before now made left rest → AddsBlock two p size some now later made more → Left two p n j before later more left' rest'
  goes-on blockable n j before now later made more left size left' rest some rest' positive e f front_h behind_h done added =
      let block : AddsBlock two p (min left 512) (front p (min left 512) rest) now later made more =
      subst (λ k. AddsBlock two p (min left 512) k now later made more) (front-is p (min left 512) rest some front_h)
      (subst (λ k. AddsBlock two p k some now later made more) e added) in
      subst (λ k. Left two p n j before later more left' k) (sym (behind-is p (min left 512) rest rest' behind_h))
      (subst (λ k. Left two p n j before later more k (behind p (min left 512) rest)) (sym f)
      (one-less blockable n j before now later made more left rest positive done block))
