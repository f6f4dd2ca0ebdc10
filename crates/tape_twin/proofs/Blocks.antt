-- A whole gate, block by block: what was made and what the rest makes is always the whole.
use Rattle.std.proofs.Common.{◌≡◌, ℕ, ◌+◌, ◌-◌, ◌<◌, min, [], ◌++◌, length, sym, ◌∙◌, ap, subst, arith, append_assoc, length-append}
use Rattle.proto_core.specs.declared.party.Number.{Number}
use Rattle.proto_core.specs.Protocol.{Joint, Protocol}
use Rattle.protocol_model.specs.Runs.{Tapes}
use Rattle.gates.specs.Blocks.{block_sizes}
use Rattle.blocked_protocol.specs.Blocked.{front, behind, by_block, Blockable}
use Rattle.joint_run.specs.Exchanges.{IsSized, IsFront, IsBehind}
use Rattle.joint_run.proofs.Blockwise.{same_joint, sized-behind}
use Rattle.gate_exchanges.proofs.Blockables.{first-block}
use Rattle.tape_twin.specs.declared.way.Way.{Way}
use Rattle.tape_twin.specs.Maps.{block_map}

-- what is made of a gate's words, and what is left of the gate
pub record Left (way : Way) (p : Protocol) (n : ℕ) (i : Number) (j : Joint) (made : Tapes) (left : ℕ) (rest : Joint) : Type 0 where
  pub sized : IsSized p left rest
  pub whole :
      (k : Number) →
      made k ++ by_block p (block_map way p) (block_sizes left) i rest k ≡ by_block p (block_map way p) (block_sizes n) i j k
  pub count : (k : Number) → length (made k) + p.draws left k ≡ p.draws n k

module _ (way : Way) (p : Protocol) (n : ℕ) (i : Number) (j : Joint) where
  -- nothing is made
  pub all-left : (made : Tapes) → ((k : Number) → made k ≡ []) → IsSized p n j → Left way p n i j made n j
  all-left made none sized =
      record {
        sized = sized;
        whole = λ k. ap (λ w. w ++ by_block p (block_map way p) (block_sizes n) i j k) (none k);
        count = λ k. let e : length (made k) ≡ 0 = ap length (none k) in omega arith;
      }

  module _ (blockable : Blockable p) where
    -- one block more
    one-less :
        (made more : Tapes) (left : ℕ) (rest : Joint) → 0 < left →
        ((k : Number) → more k ≡ made k ++ block_map way p (min left 512) i (front p (min left 512) rest) k) →
        ((k : Number) → length (block_map way p (min left 512) i (front p (min left 512) rest) k) ≡ p.draws (min left 512) k) →
        Left way p n i j made left rest → Left way p n i j more (left - min left 512) (behind p (min left 512) rest)
    one-less made more left rest some here len done =
        let m : ℕ = min left 512 in
        let left' : ℕ = left - min left 512 in
        let whole : left ≡ m + left' = omega arith in
        record {
          sized = sized-behind p blockable m left' rest (subst (λ k. IsSized p k rest) whole done.sized);
          whole = λ k.
              ap (λ w. w ++ by_block p (block_map way p) (block_sizes left') i (behind p m rest) k) (here k)
              ∙ append_assoc (made k) (block_map way p m i (front p m rest) k)
              (by_block p (block_map way p) (block_sizes left') i (behind p m rest) k)
              ∙ ap (λ sizes. made k ++ by_block p (block_map way p) sizes i rest k) (sym (first-block left some))
              ∙ done.whole k;
          count = λ k.
              let e : length (more k) ≡ length (made k) + p.draws m k =
              ap length (here k) ∙ length-append (made k) (block_map way p m i (front p m rest) k)
              ∙ ap (λ l. length (made k) + l) (len k) in
              let d : p.draws left k ≡ p.draws m k + p.draws left' k = ap (λ l. p.draws l k) whole ∙ (blockable.draws k).more m left' in
              let before : length (made k) + p.draws left k ≡ p.draws n k = done.count k in
              omega arith;
        }

    -- with the code's own block and rest
    pub goes-on :
        (made more : Tapes) (left size left' : ℕ) (rest some rest' : Joint) → 0 < left → size ≡ min left 512 → left' ≡ left - min left 512 →
        IsFront p (min left 512) rest some → IsBehind p (min left 512) rest rest' →
        ((k : Number) → more k ≡ made k ++ block_map way p size i some k) →
        ((k : Number) → length (block_map way p size i some k) ≡ p.draws size k) →
        Left way p n i j made left rest → Left way p n i j more left' rest'
    goes-on made more left size left' rest some rest' positive e f front_h behind_h here len done =
        let m : ℕ = min left 512 in
        let front_is : some ≡ front p m rest = same_joint some (front p m rest) front_h.u front_h.v front_h.words in
        let behind_is : rest' ≡ behind p m rest = same_joint rest' (behind p m rest) behind_h.u behind_h.v behind_h.words in
        let same : (k : Number) → block_map way p size i some k ≡ block_map way p m i (front p m rest) k =
        λ k. ap (λ s. block_map way p s i some k) e ∙ ap (λ b. block_map way p m i b k) front_is in
        let less : Left way p n i j more (left - m) (behind p m rest) =
        one-less made more left rest positive (λ k. here k ∙ ap (λ w. made k ++ w) (same k))
        (λ k. ap length (sym (same k)) ∙ len k ∙ ap (λ s. p.draws s k) e) done in
        subst (λ b. Left way p n i j more left' b) (sym behind_is) (subst (λ l. Left way p n i j more l (behind p m rest)) (sym f) less)
