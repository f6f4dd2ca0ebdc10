-- The links of a list that pass a test, one by one.
use Rattle.std.proofs.Common.{◌≡◌, ℕ, zero, suc, ◌+◌, ◌<◌, Bool, true, false, if◌then◌else◌, List, [], ◌∷◌, ◌++◌, length, take, drop, get_or}
use Rattle.std.proofs.Common.{length-append, refl, sym, ◌∙◌, ap, arith}
use Rattle.std.proofs.lemmas.List.{drop_more, take_more}
use Rattle.std.specs.Prelude.{Some, None, filter, slice_get}
use Rattle.proto_core.specs.declared.link.Link.{Link}

pub one_longer : (ks : List Link) (l : Link) → length (ks ++ l ∷ []) ≡ length ks + 1
one_longer ks l = length-append ks (l ∷ [])

-- ---- the links of which a test holds

module _ (p : Link → Bool) where
  those_more : (ls : List Link) (l : Link) → filter p (ls ++ l ∷ []) ≡ (if p l then filter p ls ++ l ∷ [] else filter p ls)
  those_more [] l = refl
  those_more (k ∷ ks) l = by_test (p k) (p l) (those_more ks l)
    where
      by_test : (b c : Bool) → filter p (ks ++ l ∷ []) ≡ (if c then filter p ks ++ l ∷ [] else filter p ks) →
          (if b then k ∷ filter p (ks ++ l ∷ []) else filter p (ks ++ l ∷ []))
          ≡ (if c then (if b then k ∷ filter p ks else filter p ks) ++ l ∷ [] else (if b then k ∷ filter p ks else filter p ks))
      by_test true true e = ap (λ v. k ∷ v) e
      by_test true false e = ap (λ v. k ∷ v) e
      by_test false true e = e
      by_test false false e = e

  -- the number of those among the first of a list
  abbrev pub count_to : ℕ → List Link → ℕ
  count_to i ls = length (filter p (take i ls))

  count_more : (ls : List Link) (i : ℕ) (d : Link) → i < length ls → count_to (i + 1) ls ≡ (if p (get_or ls i d) then count_to i ls + 1 else count_to i ls)
  count_more ls i d h =
      ap (λ v. length (filter p v)) (take_more ls i d h)
      ∙ ap length (those_more (take i ls) (get_or ls i d))
      ∙ by_test (p (get_or ls i d))
    where
      by_test : (b : Bool) →
          length (if b then filter p (take i ls) ++ get_or ls i d ∷ [] else filter p (take i ls)) ≡ (if b then count_to i ls + 1 else count_to i ls)
      by_test true = one_longer (filter p (take i ls)) (get_or ls i d)
      by_test false = refl

  -- a test more, of which this is the answer
  module _ (ls : List Link) (i : ℕ) (d : Link) (below : i < length ls) (b : Bool) (is : b ≡ p (get_or ls i d))
      (count more : ℕ) (h : count ≡ count_to i ls) where
    pub count_yes : b ≡ true → more ≡ count + 1 → more ≡ count_to (i + 1) ls
    count_yes e n =
        n ∙ ap (λ k. k + 1) h
        ∙ sym (count_more ls i d below ∙ ap (λ t. if t then count_to i ls + 1 else count_to i ls) (sym is ∙ e))

    pub count_no : b ≡ false → more ≡ count → more ≡ count_to (i + 1) ls
    count_no e n =
        n ∙ h ∙ sym (count_more ls i d below ∙ ap (λ t. if t then count_to i ls + 1 else count_to i ls) (sym is ∙ e))

  those_drop : (ls : List Link) (i : ℕ) (d : Link) → i < length ls →
      filter p (drop i ls) ≡ (if p (get_or ls i d) then get_or ls i d ∷ filter p (drop (i + 1) ls) else filter p (drop (i + 1) ls))
  those_drop ls i d h = ap (filter p) (drop_more ls i d h)

  -- the link at a place of those that are left: this one, or one of those after
  pub at_later : (ls : List Link) (i : ℕ) (d : Link) (left less : ℕ) → i < length ls → p (get_or ls i d) ≡ true → less + 1 ≡ left →
      slice_get (filter p (drop i ls)) left ≡ slice_get (filter p (drop (i + 1) ls)) less
  at_later ls i d left less h e n =
      let s : left ≡ suc less = omega arith in
      ap (λ v. slice_get v left) (those_drop ls i d h ∙ ap (λ b. if b then get_or ls i d ∷ filter p (drop (i + 1) ls) else filter p (drop (i + 1) ls)) e)
      ∙ ap (slice_get (get_or ls i d ∷ filter p (drop (i + 1) ls))) s

  pub at_other : (ls : List Link) (i : ℕ) (d : Link) (left : ℕ) → i < length ls → p (get_or ls i d) ≡ false →
      slice_get (filter p (drop i ls)) left ≡ slice_get (filter p (drop (i + 1) ls)) left
  at_other ls i d left h e =
      ap (λ v. slice_get v left) (those_drop ls i d h ∙ ap (λ b. if b then get_or ls i d ∷ filter p (drop (i + 1) ls) else filter p (drop (i + 1) ls)) e)

  some_at : {P : Type 0} (l : Link) → None ≡ Some l → P
  some_at l e = cc

  -- what stands among those passes
  pub in_those : (ls : List Link) (k : ℕ) (l : Link) → slice_get (filter p ls) k ≡ Some l → p l ≡ true
  in_those [] k l h = some_at l h
  in_those (x ∷ xs) k l h = by_test (p x) refl (λ i g. in_those xs i l g)
    where
      by_test : (b : Bool) → p x ≡ b → ((i : ℕ) → slice_get (filter p xs) i ≡ Some l → p l ≡ true) → p l ≡ true
      by_test false e more = more k (sym (ap (λ b. slice_get (if b then x ∷ filter p xs else filter p xs) k) e) ∙ h)
      by_test true e more = by_place k (sym (ap (λ b. slice_get (if b then x ∷ filter p xs else filter p xs) k) e) ∙ h)
        where
          by_place : (k : ℕ) → slice_get (x ∷ filter p xs) k ≡ Some l → p l ≡ true
          by_place zero g = let same : x ≡ l = cc in ap p (sym same) ∙ e
          by_place (suc k) g = more k g
