-- What runs of strands end with.
use Rattle.std.proofs.Common.{◌≡◌, ℕ, Bool, true, false, cond, List, [], ◌∷◌, refl, sym, ◌∙◌, ap, subst}
use Rattle.proto_core.specs.declared.link.Link.{Link}
use Rattle.proto_core.specs.Strand.{Notice, Shape, accepts, Mail, taken, Strand, Ends, Acts, Waits, Ran, came, run, then_do}
use Rattle.proto_core.proofs.Strands.{run-none, run-took, run-refused}
use Rattle.driven_nodes.specs.Driven.{telling}
use Rattle.gate_node.proofs.Always.{EndsAlways}

-- ---- what holds of each end

pub always_any : {A : Type 0} (s : Strand A) → EndsAlways (λ a. Unit {0}) s
always_any (Ends a) = tt
always_any (Acts act s) = always_any s
always_any (Waits l shape k) = λ m. always_any (k m)

module _ {A : Type 0} (P : A → Type 0) where
  pub always_telling : (notices : List Notice) (s : Strand A) → EndsAlways P s → EndsAlways P (telling notices s)
  always_telling [] s h = h
  always_telling (n ∷ ns) s h = always_telling ns s h

  pub always_run : (s : Strand A) (mail : Mail) → EndsAlways P s → EndsAlways P (run s mail).left
  always_run (Ends a) mail h = h
  always_run (Acts act s) mail h = always_run s mail h
  always_run (Waits l shape k) mail h = by_mail (mail l) (λ m. always_run (k m) (taken l mail) (h m))
    where
      still : Ran A
      still = record { acts = []; left = Waits l shape k; unread = mail }

      by_mail :
          (ms : List (List ℕ)) → ((m : List ℕ) → EndsAlways P (run (k m) (taken l mail)).left) →
          EndsAlways P (came ms shape still (λ m. run (k m) (taken l mail))).left
      by_mail [] more = h
      by_mail (m ∷ ms) more = by_shape (accepts shape m)
        where
          by_shape : (b : Bool) → EndsAlways P (cond b (run (k m) (taken l mail)) still).left
          by_shape true = more m
          by_shape false = h

-- ---- where two strands in a row have ended

pub ends_are : {A : Type 0} (a b : A) → Ends a ≡ Ends b → a ≡ b
ends_are a b e = cc

waits_end : {A X : Type 0} (l : Link) (n : Shape) (k : List ℕ → Strand A) (a : A) → Waits l n k ≡ Ends a → X
waits_end l n k a e = cc

module _ {A B : Type 0} (f : A → Strand B) (b : B) where
  -- the first has ended with this, and the second after it
  pub record EndsBoth (r : Ran A) : Type 0 where
    pub first : A
    pub ended : r.left ≡ Ends first
    pub behind : (run (f first) r.unread).left ≡ Ends b

  pub both_ended : (x : Strand A) (mail : Mail) → (run (then_do x f) mail).left ≡ Ends b → EndsBoth (run x mail)
  both_ended (Ends a) mail e = record { first = a; ended = refl; behind = e }
  both_ended (Acts act x) mail e = let h = both_ended x mail e in record { first = h.first; ended = h.ended; behind = h.behind }
  both_ended (Waits l n k) mail e = by_mail (mail l) refl (λ m. both_ended (k m) (taken l mail))
    where
      then_f : List ℕ → Strand B
      then_f m = then_do (k m) f

      by_mail :
          (xs : List (List ℕ)) → mail l ≡ xs →
          ((m : List ℕ) → (run (then_f m) (taken l mail)).left ≡ Ends b → EndsBoth (run (k m) (taken l mail))) → EndsBoth (run (Waits l n k) mail)
      by_mail [] x more = waits_end l n then_f b (sym (ap (λ (r : Ran B). r.left) (run-none l n then_f mail x)) ∙ e)
      by_mail (m ∷ ms) x more = by_shape (accepts n m) refl
        where
          by_shape : (c : Bool) → accepts n m ≡ c → EndsBoth (run (Waits l n k) mail)
          by_shape true o =
              subst EndsBoth (sym (run-took l n k mail m ms x o)) (more m (sym (ap (λ (r : Ran B). r.left) (run-took l n then_f mail m ms x o)) ∙ e))
          by_shape false o = waits_end l n then_f b (sym (ap (λ (r : Ran B). r.left) (run-refused l n then_f mail m ms x o)) ∙ e)
