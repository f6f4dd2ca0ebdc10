-- What is in two lists, one after the other.
use Rattle.std.proofs.Common.{List, [], ◌∷◌, ◌++◌, ◌⊎◌, inl, inr}
use Rattle.sc_text.specs.Lists.{Among}

pub among_left : {A : Type 0} (a : A) (bs cs : List A) → Among a bs → Among a (bs ++ cs)
among_left a [] cs h = absurd h
among_left a (b ∷ bs) cs (inl e) = inl e
among_left a (b ∷ bs) cs (inr h) = inr (among_left a bs cs h)

pub among_right : {A : Type 0} (a : A) (bs cs : List A) → Among a cs → Among a (bs ++ cs)
among_right a [] cs h = h
among_right a (b ∷ bs) cs h = inr (among_right a bs cs h)

pub among_parts : {A : Type 0} (a : A) (bs cs : List A) → Among a (bs ++ cs) → Among a bs ⊎ Among a cs
among_parts a [] cs h = inr h
among_parts a (b ∷ bs) cs (inl e) = inl (inl e)
among_parts a (b ∷ bs) cs (inr h) = further (among_parts a bs cs h)
  where
    further : Among a bs ⊎ Among a cs → Among a (b ∷ bs) ⊎ Among a cs
    further (inl m) = inl (inr m)
    further (inr m) = inr m
