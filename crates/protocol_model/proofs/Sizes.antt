-- Shares and tapes that suffice for a list of gates suffice at each of its blocks.
use Rattle.std.proofs.Common.{◌≡◌, ℕ, zero, suc, ◌+◌, ◌≤◌, ◌<◌, ◌^◌, List, [], ◌∷◌, ◌++◌, length, take, drop, refl, sym, ◌∙◌, ap, subst, arith}
use Rattle.std.proofs.Common.{add_assoc, zero-add}
use Rattle.std.specs.Prelude.{Option, Some, None, slice_get}
use Rattle.std.proofs.lemmas.List.{length-take-le, length-drop, map-append}
use Rattle.proto_core.specs.declared.party.Number.{Number}
use Rattle.proto_core.specs.Lists.{at, AreWords}
use Rattle.proto_core.specs.Protocol.{Protocol, Fits, Sound, AreBlocks}
use Rattle.protocol_model.specs.Gates.{Gate, Joined, Local, nth_value, operand, HasSize, sizes_of, needed}
use Rattle.protocol_model.specs.Runs.{Shares, Tapes, drawn, left, gate_joint, after, after_local, Ready}

-- ---- words

pub past_end : (k : ℕ) → at [] k < 2 ^ 64
past_end zero = omega arith
past_end (suc k) = omega arith

pub AreWords-take : (n : ℕ) (xs : List ℕ) → AreWords xs → AreWords (take n xs)
AreWords-take zero xs h k = past_end k
AreWords-take (suc n) [] h k = past_end k
AreWords-take (suc n) (x ∷ xs) h zero = h 0
AreWords-take (suc n) (x ∷ xs) h (suc k) = AreWords-take n xs (λ i. h (suc i)) k

pub AreWords-drop : (n : ℕ) (xs : List ℕ) → AreWords xs → AreWords (drop n xs)
AreWords-drop zero xs h k = h k
AreWords-drop (suc n) [] h k = past_end k
AreWords-drop (suc n) (x ∷ xs) h k = AreWords-drop n xs (λ i. h (suc i)) k

-- ---- sizes

none_some : {P : Type 0} (n : ℕ) → None ≡ Some n → P
none_some n h = cc

pub nth_value-sized : (values : List (List ℕ)) (k n : ℕ) → slice_get (sizes_of values) k ≡ Some n → length (nth_value values k) ≡ n
nth_value-sized [] k n h = none_some n h
nth_value-sized (x ∷ xs) zero n h = cc
nth_value-sized (x ∷ xs) (suc k) n h = nth_value-sized xs k n h

pub operand-sized : (values : List (List ℕ)) (k : Option ℕ) (n : ℕ) → HasSize (sizes_of values) k n → length (operand values k) ≡ n
operand-sized values None n h = sym h
operand-sized values (Some k) n h = nth_value-sized values k n h

pub sizes-append : (xs ys : List (List ℕ)) → sizes_of (xs ++ ys) ≡ sizes_of xs ++ sizes_of ys
sizes-append xs ys = map-append length xs ys

pub sizes-blocks : (sizes : List ℕ) (blocks : List (List ℕ)) → AreBlocks sizes blocks → sizes_of blocks ≡ sizes
sizes-blocks [] [] h = refl
sizes-blocks [] (xs ∷ blocks) h = absurd h
sizes-blocks (n ∷ sizes) [] h = absurd h
sizes-blocks (n ∷ sizes) (xs ∷ blocks) h = ap (λ k. k ∷ sizes_of blocks) h.0.len ∙ ap (λ ks. n ∷ ks) (sizes-blocks sizes blocks h.1)

-- ---- at a block

module _ (p : Protocol) (n u : ℕ) (v : Option ℕ) (gates : List Gate) (values : Shares) (tapes : Tapes)
    (ready : Ready (Joined p n u v ∷ gates) values tapes) where
  pub block-fits : Fits p n (gate_joint u v values (drawn p n tapes))
  block-fits =
      record {
        u = λ i. nth_value-sized (values i) u n (subst (λ s. slice_get s u ≡ Some n) (sym (ready.shares i)) ready.sized.0);
        v = λ i. operand-sized (values i) v (p.second n) (subst (λ s. HasSize s v (p.second n)) (sym (ready.shares i)) ready.sized.1);
        words = λ i. length-take-le (p.draws n i) (tapes i) (reaches i);
        are_words = λ i. AreWords-take (p.draws n i) (tapes i) (ready.tapes_are_words i);
      }
    where
      reaches : (i : Number) → p.draws n i ≤ length (tapes i)
      reaches i = let h : p.draws n i + needed gates i ≤ length (tapes i) = ready.tapes_reach i in omega arith

  -- and after it, whatever words the block drew, where its blocks have the sizes that they must
  pub ready-after :
      (words : Tapes) → ((i : Number) → AreBlocks (p.made n) (p.output n (gate_joint u v values words) i)) →
      Ready gates (after p n u v values words) (left p n tapes)
  ready-after words blocks =
      record {
        sizes = ready.sizes ++ p.made n;
        sized = ready.sized.2;
        shares = λ i.
            sizes-append (values i) (p.output n (gate_joint u v values words) i)
            ∙ ap (λ s. s ++ sizes_of (p.output n (gate_joint u v values words) i)) (ready.shares i)
            ∙ ap (λ s. ready.sizes ++ s) (sizes-blocks (p.made n) _ (blocks i));
        tapes_reach = reaches;
        tapes_are_words = λ i. AreWords-drop (p.draws n i) (tapes i) (ready.tapes_are_words i);
      }
    where
      reaches : (i : Number) → needed gates i ≤ length (drop (p.draws n i) (tapes i))
      reaches i =
          let h : p.draws n i + needed gates i ≤ length (tapes i) = ready.tapes_reach i in
          let l = length-drop (p.draws n i) (tapes i) in
          omega arith

  pub ready-next : Sound p → Ready gates (after p n u v values (drawn p n tapes)) (left p n tapes)
  ready-next sound = ready-after (drawn p n tapes) (λ i. sound.blocks n (gate_joint u v values (drawn p n tapes)) block-fits i)

pub ready-local :
    (n : ℕ) (f : Number → List (List ℕ) → List ℕ) (gates : List Gate) (values : Shares) (tapes : Tapes) →
    Ready (Local n f ∷ gates) values tapes → Ready gates (after_local f values) tapes
ready-local n f gates values tapes ready =
    record {
      sizes = ready.sizes ++ n ∷ [];
      sized = ready.sized.1;
      shares = λ i.
          sizes-append (values i) (f i (values i) ∷ [])
          ∙ ap (λ s. s ++ length (f i (values i)) ∷ []) (ready.shares i)
          ∙ ap (λ k. ready.sizes ++ k ∷ []) (ready.sized.0 i (values i) (ready.shares i));
      tapes_reach = ready.tapes_reach;
      tapes_are_words = ready.tapes_are_words;
    }

-- the tapes may be changed where their lengths stay
pub ready-with :
    (gates : List Gate) (values : Shares) (tapes other : Tapes) → Ready gates values tapes →
    ((i : Number) → length (other i) ≡ length (tapes i)) → ((i : Number) → AreWords (other i)) → Ready gates values other
ready-with gates values tapes other ready len words =
    record {
      sizes = ready.sizes;
      sized = ready.sized;
      shares = ready.shares;
      tapes_reach = λ i. subst (λ k. needed gates i ≤ k) (sym (len i)) (ready.tapes_reach i);
      tapes_are_words = words;
    }

-- ---- gates after gates

pub needed-append : (xs ys : List Gate) (i : Number) → needed (xs ++ ys) i ≡ needed xs i + needed ys i
needed-append [] ys i = sym (zero-add (needed ys i))
needed-append (Local n f ∷ xs) ys i = needed-append xs ys i
needed-append (Joined p n u v ∷ xs) ys i =
    ap (λ k. p.draws n i + k) (needed-append xs ys i) ∙ sym (add_assoc (p.draws n i) (needed xs i) (needed ys i))
