-- Readings of lists: one part after another.
use Rattle.std.proofs.Common.{◌≡◌, ℕ, zero, suc, ◌<◌, List, [], ◌∷◌, ◌++◌, refl, sym, ap, ◌∙◌, subst, append_assoc, append-nil, Ok, Bool, true, false}
use Rattle.std.proofs.Common.{cond, length, length-append, arith}
use Rattle.secrec_lexer.specs.declared.token.Token.{Token}
use Rattle.secrec_lexer.specs.Tokens.{IsEnded}
use Rattle.expression_parser.specs.Phrases.{Phrase}
use Rattle.expression_parser.specs.Steps.{Outcome, ◌>>=◌}
use Rattle.expression_parser.proofs.Reading.{Reads, Stops, reads_as}
use Rattle.expression_parser.proofs.Tokens.{good_ended}
use Rattle.secrec_parser.specs.Grammar.{AreAll}
use Rattle.secrec_parser.specs.inner.Steps.{list_from, listed}
use Rattle.secrec_parser.proofs.Made.{Made, Both, reads_same, seq}
use Rattle.secrec_parser.proofs.Heads.{nothing_reads}

module _ {A : Type 0} (P : A → Phrase) (Fits1 : A → Type 0) (F1 : A → Token → Type 0) (Fits : List A → Type 0) (End : Token → Type 0) (Bound : List A → Type 0)
    (stop : List A → List Token → Bool) (inner : List Token → Outcome A)
    (reads_inner : (w : List Token) → IsEnded w → Reads P Fits1 F1 w (inner w))
    -- a low list has low parts, and grows by a low part
    (low : (found zs : List A) (a : A) → Fits (found ++ a ∷ zs) → Fits1 a)
    (more : (found : List A) (a : A) → Fits found → Fits1 a → Fits (found ++ a ∷ []))
    -- what begins a part, and what ends the list, may follow a part
    (next : (a b : A) (s m : List Token) → P b s → Stops (F1 a) (s ++ m))
    (last : (a : A) (m : List Token) → Stops End m → Stops (F1 a) m)
    (some : (a : A) → P a [] → ⊥)
    -- where the list stops no part begins, and else it does not end
    (stops : (found : List A) (x : Token) (m : List Token) → stop found (x ∷ m) ≡ true → (a : A) (zs : List A) (s m' m2 : List Token)
    → Bound (found ++ a ∷ zs) → P a s → s ++ m' ≡ x ∷ m2 → ⊥)
    (goes : (found : List A) (x : Token) (m : List Token) → stop found (x ∷ m) ≡ false → End x → ⊥)
    (bound : (found : List A) (x : Token) (m : List Token) (a : A) → stop found (x ∷ m) ≡ false → Bound found → Bound (found ++ a ∷ []))
  where
    abbrev Ends : List A → Token → Type 0
    Ends zs x = End x

    From : List A → List A → Phrase
    From found = Made (λ zs. found ++ zs) (λ zs ts. Bound (found ++ zs) × AreAll P zs ts)

    end_stops : (zs : List A) (m : List Token) → Stops (Ends zs) m → Stops End m
    end_stops zs [] st = st
    end_stops zs (y ∷ m) st = st

    behind : (a : A) (zs found : List A) (t m : List Token) → AreAll P zs t → Stops (Ends found) m → Stops (F1 a) (t ++ m)
    behind a [] found t m v st = subst (λ l. Stops (F1 a) (l ++ m)) (sym v) (last a m (end_stops found m st))
    behind a (b ∷ bs) found t m v st =
        subst (λ l. Stops (F1 a) l) (sym (ap (λ l. l ++ m) v.2 ∙ append_assoc v.0 v.1 m)) (next a b v.0 (v.1 ++ m) v.3)

    shorter : (a : A) (s r w : List Token) → P a s → w ≡ s ++ r → length r < length w
    shorter a [] r w v e = absurd (some a v)
    shorter a (x ∷ s) r w v e = let l = ap length e in let k = length-append (x ∷ s) r in omega (arith, l, k)

    -- what was found so far, and more after it
    pub from_reads : (n : ℕ) (found : List A) (w : List Token) → length w < n → Fits found → Bound found → IsEnded w
        → Reads (Made (λ zs. found ++ zs) (λ zs ts. Bound (found ++ zs) × AreAll P zs ts)) Fits (λ zs x. End x) w (list_from stop inner n found w)
    unfolding list_from From
    from_reads zero found w l fits bd en = absurd (omega (arith, l))
    from_reads (suc n) found [] l fits bd en = cc
    from_reads (suc n) found (x ∷ m) l fits bd en = go (stop found (x ∷ m)) refl (from_reads n)
      where
        none : stop found (x ∷ m) ≡ true → (b : List A) (s m' m2 : List Token) → From found b s → Stops (Ends b) m' → s ++ m' ≡ x ∷ m2 → (b ≡ found) × (s ≡ [])
        none t b s m' m2 v st eq = at v.0 v.1 v.2
          where
            at : (zs : List A) → b ≡ found ++ zs → Bound (found ++ zs) × AreAll P zs s → (b ≡ found) × (s ≡ [])
            at [] e u = (e ∙ append-nil found, u.1)
            at (a ∷ zs) e u =
                let w = u.1 in
                absurd (stops found x m t a zs w.0 (w.1 ++ m') m2 u.0 w.3 (sym (append_assoc w.0 w.1 m') ∙ ap (λ l. l ++ m') (sym w.2) ∙ eq))

        up : (c : List A) (s : List Token)
            → Made (λ (v : A × List A). found ++ v.0 ∷ v.1) (Both P (λ a zs ts. Bound (found ++ a ∷ zs) × AreAll P zs ts)) c s → From found c s
        up c s v = let w = v.2 in (v.0.0 ∷ v.0.1, v.1, (w.4.0, (w.0, w.1, w.2, w.3, w.4.1)))

        down : stop found (x ∷ m) ≡ false → (c : List A) (s m' m2 : List Token) → From found c s → Stops (Ends c) m' → s ++ m' ≡ x ∷ m2
            → Made (λ (v : A × List A). found ++ v.0 ∷ v.1) (Both P (λ a zs ts. Bound (found ++ a ∷ zs) × AreAll P zs ts)) c s
        down t c s m' m2 v st eq = at v.0 v.1 v.2
          where
            at : (zs : List A) → c ≡ found ++ zs → Bound (found ++ zs) × AreAll P zs s
                → Made (λ (v : A × List A). found ++ v.0 ∷ v.1) (Both P (λ a zs ts. Bound (found ++ a ∷ zs) × AreAll P zs ts)) c s
            at [] e u = absurd (goes found x m t (subst (Stops (Ends c)) (ap (λ l. l ++ m') (sym u.1) ∙ eq) st))
            at (a ∷ zs) e u = let w = u.1 in ((a, zs), e, (w.0, w.1, w.2, w.3, (u.0, w.4)))

        rest_up : (a : A) (c : List A) (s : List Token) → From (found ++ a ∷ []) c s
            → Made (λ zs. found ++ a ∷ zs) (λ zs ts. Bound (found ++ a ∷ zs) × AreAll P zs ts) c s
        rest_up a c s v = (v.0, v.1 ∙ append_assoc found (a ∷ []) v.0, (subst Bound (append_assoc found (a ∷ []) v.0) v.2.0, v.2.1))

        rest_down : (a : A) (c : List A) (s : List Token) → Made (λ zs. found ++ a ∷ zs) (λ zs ts. Bound (found ++ a ∷ zs) × AreAll P zs ts) c s
            → From (found ++ a ∷ []) c s
        rest_down a c s v = (v.0, v.1 ∙ sym (append_assoc found (a ∷ []) v.0), (subst Bound (sym (append_assoc found (a ∷ []) v.0)) v.2.0, v.2.1))

        go : (b : Bool) → stop found (x ∷ m) ≡ b
            → ((found : List A) (w : List Token) → length w < n → Fits found → Bound found → IsEnded w
            → Reads (From found) Fits Ends w (list_from stop inner n found w))
            → Reads (From found) Fits Ends (x ∷ m) (cond b (Ok (found, x ∷ m)) (inner (x ∷ m) >>= λ a. list_from stop inner n (found ++ a.0 ∷ []) a.1))
        go true t again = nothing_reads (From found) Fits Ends x m found ([], sym (append-nil found), (subst Bound (sym (append-nil found)) bd, refl))
            fits (none t)
        go false t again =
            reads_as (Made (λ (v : A × List A). found ++ v.0 ∷ v.1) (Both P (λ a zs ts. Bound (found ++ a ∷ zs) × AreAll P zs ts)))
            (From found) Fits Ends Ends x up (down t) (λ c m' st. st) (x ∷ m) m _ refl
            (seq P Fits1 F1 (λ a zs ts. Bound (found ++ a ∷ zs) × AreAll P zs ts) (λ a zs. found ++ a ∷ zs) Fits Ends
            (λ a zs s v f. low found zs a f)
            (λ a zs s m' v st. behind a zs (found ++ a ∷ zs) s m' v.1 st)
            (λ a s v. ([], [], (bound found x m a t bd, refl), λ f. more found a fits f))
            (x ∷ m) (inner (x ∷ m)) _ (reads_inner (x ∷ m) en) (λ a r is g.
            let k = shorter a g.s r (x ∷ m) g.here g.split in
            reads_same (From (found ++ a ∷ [])) (Made (λ zs. found ++ a ∷ zs) (λ zs ts. Bound (found ++ a ∷ zs) × AreAll P zs ts)) Fits Ends Ends
            (rest_up a) (rest_down a) (λ c m' st. st) r _
            (again (found ++ a ∷ []) r (omega (arith, k, l)) (more found a fits g.fits) (bound found x m a t bd) (good_ended g en))))

    pub listed_reads : (found : List A) (w : List Token) → Fits found → Bound found → IsEnded w
        → Reads (Made (λ zs. found ++ zs) (λ zs ts. Bound (found ++ zs) × AreAll P zs ts)) Fits (λ zs x. End x) w (listed stop inner found w)
    listed_reads found w fits bd en = from_reads (suc (length w)) found w (omega arith) fits bd en
