-- What fits a whole gate fits its first block, and the blocks after it.
use Rattle.std.proofs.Common.{◌≡◌, ℕ, suc, ◌+◌, List, [], ◌∷◌, length, take, drop, map, refl, sym, ◌∙◌, ap, subst, arith, length-append, length-drop}
use Rattle.std.proofs.lemmas.List.{length-take-le}
use Rattle.proto_core.specs.declared.party.Number.{Number}
use Rattle.proto_core.specs.Protocol.{Joint, Protocol, Fits, AreBlocks}
use Rattle.proto_core.proofs.Parts.{AreWords-append}
use Rattle.protocol_model.proofs.Sizes.{AreWords-take, AreWords-drop, past_end}
use Rattle.blocked_protocol.specs.Blocked.{total, joined, no_elements, front, behind, in_blocks, IsCut, Additive, sums, Blockable}

-- ---- lengths

pub front-length : (f : ℕ → ℕ) → Additive f → (m n : ℕ) (xs : List ℕ) → length xs ≡ f (m + n) → length (take (f m) xs) ≡ f m
front-length f a m n xs e = let h : f (m + n) ≡ f m + f n = a.more m n in length-take-le (f m) xs (omega arith)

pub behind-length : (f : ℕ → ℕ) → Additive f → (m n : ℕ) (xs : List ℕ) → length xs ≡ f (m + n) → length (drop (f m) xs) ≡ f n
behind-length f a m n xs e =
    let h : f (m + n) ≡ f m + f n = a.more m n in
    let l = length-drop (f m) xs in
    omega arith

-- the number of elements itself
pub itself : Additive (λ n. n)
itself = record { none = refl; more = λ m n. refl }

pub no_words : (xs : List ℕ) → length xs ≡ 0 → [] ≡ xs
no_words [] h = refl
no_words (x ∷ xs) h = absurd (never (length xs) h)
  where
    never : (k : ℕ) → suc k ≡ 0 → ⊥
    never k e = omega arith

-- ---- operands and words

module _ (p : Protocol) (blockable : Blockable p) where
  pub fits-front : (m n : ℕ) (j : Joint) → Fits p (m + n) j → Fits p m (front p m j)
  fits-front m n j fits =
      record {
        u = λ i. front-length (λ k. k) itself m n (j.u i) (fits.u i);
        v = λ i. front-length p.second blockable.second m n (j.v i) (fits.v i);
        words = λ i. front-length (λ k. p.draws k i) (blockable.draws i) m n (j.words i) (fits.words i);
        are_words = λ i. AreWords-take (p.draws m i) (j.words i) (fits.are_words i);
      }

  pub fits-behind : (m n : ℕ) (j : Joint) → Fits p (m + n) j → Fits p n (behind p m j)
  fits-behind m n j fits =
      record {
        u = λ i. behind-length (λ k. k) itself m n (j.u i) (fits.u i);
        v = λ i. behind-length p.second blockable.second m n (j.v i) (fits.v i);
        words = λ i. behind-length (λ k. p.draws k i) (blockable.draws i) m n (j.words i) (fits.words i);
        are_words = λ i. AreWords-drop (p.draws m i) (j.words i) (fits.are_words i);
      }

  -- with no elements nothing is drawn
  pub none-drawn : (j : Joint) → Fits p 0 j → (i : Number) → [] ≡ j.words i
  none-drawn j fits i = no_words (j.words i) (fits.words i ∙ (blockable.draws i).none)

  pub fits-whole : (cut : ℕ → List ℕ) → IsCut cut → (n : ℕ) (j : Joint) → Fits (in_blocks p cut) n j → Fits p (total (cut n)) j
  fits-whole cut is_cut n j fits =
      subst (λ k. Fits p k j) (sym (is_cut n))
      (record { u = fits.u; v = fits.v; words = fits.words; are_words = fits.are_words })

  pub whole-fits : (cut : ℕ → List ℕ) → IsCut cut → (n : ℕ) (j : Joint) → Fits p (total (cut n)) j → Fits (in_blocks p cut) n j
  whole-fits cut is_cut n j fits =
      let same : Fits p n j = subst (λ k. Fits p k j) (is_cut n) fits in
      record { u = same.u; v = same.v; words = same.words; are_words = same.are_words }

-- ---- blocks end to end

pub sizes-joined : (xs ys : List (List ℕ)) → map length (joined xs ys) ≡ sums (map length xs) (map length ys)
sizes-joined [] ys = refl
sizes-joined (x ∷ xs) [] = refl
sizes-joined (x ∷ xs) (y ∷ ys) =
    ap (λ k. k ∷ map length (joined xs ys)) (length-append x y) ∙ ap (λ s. (length x + length y) ∷ s) (sizes-joined xs ys)

-- lists of no elements
abbrev emptied : List ℕ → List (List ℕ)
emptied sizes = map (λ size. []) sizes

pub sizes-none : (sizes : List ℕ) → map length (emptied sizes) ≡ map (λ size. 0) sizes
sizes-none [] = refl
sizes-none (n ∷ sizes) = ap (λ s. 0 ∷ s) (sizes-none sizes)

pub blocks-joined : (s t : List ℕ) (xs ys : List (List ℕ)) → AreBlocks s xs → AreBlocks t ys → AreBlocks (sums s t) (joined xs ys)
blocks-joined [] t [] ys h k = tt
blocks-joined [] t (x ∷ xs) ys h k = absurd h
blocks-joined (n ∷ s) t [] ys h k = absurd h
blocks-joined (n ∷ s) [] (x ∷ xs) [] h k = tt
blocks-joined (n ∷ s) [] (x ∷ xs) (y ∷ ys) h k = absurd k
blocks-joined (n ∷ s) (m ∷ t) (x ∷ xs) [] h k = absurd k
blocks-joined (n ∷ s) (m ∷ t) (x ∷ xs) (y ∷ ys) h k = (
  record {
    len = length-append x y ∙ ap (λ l. l + length y) h.0.len ∙ ap (λ l. n + l) k.0.len;
    words = AreWords-append x y h.0.words k.0.words;
  },
  blocks-joined s t xs ys h.1 k.1,
)

empty-blocks : (sizes : List ℕ) → AreBlocks (map (λ size. 0) sizes) (emptied sizes)
empty-blocks [] = tt
empty-blocks (n ∷ sizes) = (record { len = refl; words = λ k. past_end k }, empty-blocks sizes)

pub blocks-none : (p : Protocol) → Blockable p → AreBlocks (p.made 0) (no_elements p)
blocks-none p blockable = subst (λ s. AreBlocks s (no_elements p)) blockable.made_none (empty-blocks (p.made 0))
