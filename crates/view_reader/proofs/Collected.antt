-- Reading words one after another.
use Rattle.std.proofs.Common.{◌≡◌, ℕ, ◌<◌, List, [], ◌∷◌, ◌++◌, ◌+◌, map, take, drop, length, refl, sym, ◌∙◌, ap}
use Rattle.std.specs.Prelude.{Option, Some, None, get_or}
use Rattle.std.specs.Borrow.{Bor}
use Rattle.std.proofs.lemmas.List.{take_more, drop_more, take-append-drop, map-append}
use Rattle.view_text.proofs.Found.{both, nothing_found}
use Rattle.view_text.specs.Reading.{all_in}

module _ {A : Type 0} (one : List ℕ → Option A) where
  pub all_more : (ws : List (List ℕ)) (xs : List A) (w : List ℕ) (x : A) → all_in one ws ≡ Some xs → one w ≡ Some x →
      all_in one (ws ++ w ∷ []) ≡ Some (xs ++ x ∷ [])
  all_more [] [] w x h e = ap (λ v. both v (Some [])) e
  all_more [] (y ∷ ys) w x h e = cc
  all_more (v ∷ vs) xs w x h e = by_first (one v) (all_in one vs) h refl refl (λ ys g. all_more vs ys w x g e)
    where
      by_first : (a : Option A) (b : Option (List A)) → both (one v) (all_in one vs) ≡ Some xs → one v ≡ a → all_in one vs ≡ b →
          ((ys : List A) → all_in one vs ≡ Some ys → all_in one (vs ++ w ∷ []) ≡ Some (ys ++ x ∷ [])) →
          both (one v) (all_in one (vs ++ w ∷ [])) ≡ Some (xs ++ x ∷ [])
      by_first None b h p q more = nothing_found xs (sym (ap (λ z. both z (all_in one vs)) p) ∙ h)
      by_first (Some y) None h p q more = nothing_found xs (sym (ap (λ z. both z (all_in one vs)) p ∙ ap (both (Some y)) q) ∙ h)
      by_first (Some y) (Some ys) h p q more =
          let is : Some (y ∷ ys) ≡ Some xs = sym (ap (λ z. both z (all_in one vs)) p ∙ ap (both (Some y)) q) ∙ h in
          ap (λ z. both z (all_in one (vs ++ w ∷ []))) p
          ∙ ap (both (Some y)) (more ys q)
          ∙ ap (λ o. behind o) is
        where
          behind : Option (List A) → Option (List A)
          behind None = None
          behind (Some zs) = Some (zs ++ x ∷ [])

  pub all_none : (ws : List (List ℕ)) (w : List ℕ) (more : List (List ℕ)) → one w ≡ None → all_in one (ws ++ w ∷ more) ≡ None
  all_none [] w more e = ap (λ v. both v (all_in one more)) e
  all_none (v ∷ vs) w more e = by_first (one v) (all_none vs w more e)
    where
      by_first : (a : Option A) → all_in one (vs ++ w ∷ more) ≡ None → both a (all_in one (vs ++ w ∷ more)) ≡ None
      by_first None h = refl
      by_first (Some y) h = ap (both (Some y)) h

  -- the parts of a text, one after another
  pub parts_more : (parts : List (Bor (List ℕ))) (i : ℕ) (d : Bor (List ℕ)) (xs : List A) (x : A) → i < length parts →
      all_in one (map (λ part. part.now) (take i parts)) ≡ Some xs → one (get_or parts i d).now ≡ Some x →
      all_in one (map (λ part. part.now) (take (i + 1) parts)) ≡ Some (xs ++ x ∷ [])
  parts_more parts i d xs x lt h e =
      ap (λ ps. all_in one (map (λ part. part.now) ps)) (take_more parts i d lt)
      ∙ ap (all_in one) (map-append (λ part. part.now) (take i parts) (get_or parts i d ∷ []))
      ∙ all_more (map (λ part. part.now) (take i parts)) xs (get_or parts i d).now x h e

  pub parts_none : (parts : List (Bor (List ℕ))) (i : ℕ) (d : Bor (List ℕ)) → i < length parts → one (get_or parts i d).now ≡ None →
      all_in one (map (λ part. part.now) parts) ≡ None
  parts_none parts i d lt e =
      ap (λ ps. all_in one (map (λ part. part.now) ps)) (sym (take-append-drop i parts) ∙ ap (λ ps. take i parts ++ ps) (drop_more parts i d lt))
      ∙ ap (all_in one) (map-append (λ part. part.now) (take i parts) (get_or parts i d ∷ drop (i + 1) parts))
      ∙ all_none (map (λ part. part.now) (take i parts)) (get_or parts i d).now (map (λ part. part.now) (drop (i + 1) parts)) e
