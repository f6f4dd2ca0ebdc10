-- Lists of which one begins the other.
use Rattle.std.proofs.Common.{◌≡◌, List, [], ◌∷◌, ◌++◌, length, drop, refl, sym, ◌∙◌, ap, subst}
use Rattle.proto_core.specs.Strand.{Begins, Agree, next_after}

module _ {A : Type 0} where
  pub begins-self : (xs : List A) → Begins xs xs
  begins-self [] = tt
  begins-self (x ∷ xs) = (refl, begins-self xs)

  pub begins-append : (xs zs : List A) → Begins xs (xs ++ zs)
  begins-append [] zs = tt
  begins-append (x ∷ xs) zs = (refl, begins-append xs zs)

  pub append-none : (xs : List A) → xs ++ [] ≡ xs
  append-none [] = refl
  append-none (x ∷ xs) = ap (λ v. x ∷ v) (append-none xs)

  pub begins-rest : (xs ys : List A) → Begins xs ys → xs ++ drop (length xs) ys ≡ ys
  begins-rest [] ys h = refl
  begins-rest (x ∷ xs) [] h = absurd h
  begins-rest (x ∷ xs) (y ∷ ys) h = ap (λ v. v ∷ (xs ++ drop (length xs) ys)) h.0 ∙ ap (λ v. y ∷ v) (begins-rest xs ys h.1)

  pub begins-trans : (xs ys zs : List A) → Begins xs ys → Begins ys zs → Begins xs zs
  begins-trans [] ys zs h k = tt
  begins-trans (x ∷ xs) [] zs h k = absurd h
  begins-trans (x ∷ xs) (y ∷ ys) [] h k = absurd k
  begins-trans (x ∷ xs) (y ∷ ys) (z ∷ zs) h k = (h.0 ∙ k.0, begins-trans xs ys zs h.1 k.1)

  pub begins-both : (xs ys : List A) → Begins xs ys → Begins ys xs → xs ≡ ys
  begins-both [] [] h k = refl
  begins-both [] (y ∷ ys) h k = absurd k
  begins-both (x ∷ xs) [] h k = absurd h
  begins-both (x ∷ xs) (y ∷ ys) h k = ap (λ v. v ∷ xs) h.0 ∙ ap (λ v. y ∷ v) (begins-both xs ys h.1 k.1)

  pub agree-begins : (xs ys zs : List A) → Begins xs zs → Begins ys zs → Agree xs ys
  agree-begins [] ys zs h k = tt
  agree-begins (x ∷ xs) [] zs h k = tt
  agree-begins (x ∷ xs) (y ∷ ys) [] h k = absurd k
  agree-begins (x ∷ xs) (y ∷ ys) (z ∷ zs) h k = (h.0 ∙ sym k.0, agree-begins xs ys zs h.1 k.1)

  pub begins-agree : (xs ys zs : List A) → Begins xs ys → Agree ys zs → Agree xs zs
  begins-agree [] ys zs h k = tt
  begins-agree (x ∷ xs) [] zs h k = absurd h
  begins-agree (x ∷ xs) (y ∷ ys) [] h k = tt
  begins-agree (x ∷ xs) (y ∷ ys) (z ∷ zs) h k = (h.0 ∙ k.0, begins-agree xs ys zs h.1 k.1)

  -- the longer of two
  abbrev pub longer : List A → List A → List A
  longer [] ys = ys
  longer (x ∷ xs) [] = x ∷ xs
  longer (x ∷ xs) (y ∷ ys) = x ∷ longer xs ys

  pub begins-longer : (xs ys : List A) → Begins xs (longer xs ys)
  begins-longer [] ys = tt
  begins-longer (x ∷ xs) [] = begins-self (x ∷ xs)
  begins-longer (x ∷ xs) (y ∷ ys) = (refl, begins-longer xs ys)

  pub agree-longer : (xs ys : List A) → Agree xs ys → Begins ys (longer xs ys)
  agree-longer [] ys h = begins-self ys
  agree-longer (x ∷ xs) [] h = tt
  agree-longer (x ∷ xs) (y ∷ ys) h = (sym h.0, agree-longer xs ys h.1)

  -- one more element of a list that begins it too
  pub begins-next : (xs ys zs : List A) → Begins xs zs → Begins ys zs → Begins (xs ++ next_after xs ys) zs
  begins-next [] [] zs h k = tt
  begins-next [] (y ∷ ys) [] h k = absurd k
  begins-next [] (y ∷ ys) (z ∷ zs) h k = (k.0, tt)
  begins-next (x ∷ xs) ys [] h k = absurd h
  begins-next (x ∷ xs) [] (z ∷ zs) h k = (h.0, subst (λ v. Begins v zs) (sym (append-none xs)) h.1)
  begins-next (x ∷ xs) (y ∷ ys) (z ∷ zs) h k = (h.0, begins-next xs ys zs h.1 k.1)

  pub agree_none : (vs : List A) → Agree vs []
  agree_none [] = tt
  agree_none (v ∷ vs) = tt

  pub agree-next : (xs ys zs : List A) → Agree zs xs → Agree zs ys → Agree zs (xs ++ next_after xs ys)
  agree-next xs ys [] h k = tt
  agree-next [] [] (z ∷ zs) h k = tt
  agree-next [] (y ∷ ys) (z ∷ zs) h k = (k.0, agree_none zs)
  agree-next (x ∷ xs) [] (z ∷ zs) h k = (h.0, subst (λ v. Agree zs v) (sym (append-none xs)) h.1)
  agree-next (x ∷ xs) (y ∷ ys) (z ∷ zs) h k = (h.0, agree-next xs ys zs h.1 k.1)

  pub agree-shorter : (xs ys zs : List A) → Begins xs ys → Agree zs ys → Agree zs xs
  agree-shorter xs ys [] h k = tt
  agree-shorter [] ys (z ∷ zs) h k = tt
  agree-shorter (x ∷ xs) [] (z ∷ zs) h k = absurd h
  agree-shorter (x ∷ xs) (y ∷ ys) (z ∷ zs) h k = (k.0 ∙ sym h.0, agree-shorter xs ys zs h.1 k.1)

  pub begins-under : (ws xs ys : List A) → Begins xs ys → Begins (ws ++ xs) (ws ++ ys)
  begins-under [] xs ys h = h
  begins-under (w ∷ ws) xs ys h = (refl, begins-under ws xs ys h)
