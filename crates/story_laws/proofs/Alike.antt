-- Runs of strands that go on alike.
use Rattle.std.proofs.Common.{◌≡◌, ◌≤◌, ◌<◌, ℕ, Bool, true, false, List, [], ◌∷◌, refl, sym, ◌∙◌, ap, subst, arith}
use Rattle.proto_core.specs.Strand.{Notice, accepts, Mail, taken, Told, Strand, Ends, Acts, Waits, Ran, run, then_do}
use Rattle.proto_core.specs.Net.{added}
use Rattle.proto_core.specs.Standing.{standing_of, standing_with}
use Rattle.proto_core.proofs.Strands.{standing, run-none, run-took, run-refused, run-added, run-then_do}
use Rattle.driven_nodes.specs.Driven.{telling}
use Rattle.story_laws.specs.Drawn.{at_end, drawn_behind}
use Rattle.story_laws.specs.Alike.{StandSame, RunAlike}

stand_self : {A : Type 0} (s : Strand A) → StandSame s s
stand_self (Ends a) = refl
stand_self (Acts act s) = refl
stand_self (Waits l shape k) = (k, refl)

pub run_self : {A : Type 0} (r : Ran A) → RunAlike r r
run_self r = record { acts = refl; unread = refl; left = stand_self r.left }

pub alike_stands : {A : Type 0} (r q : Ran A) → RunAlike r q → standing_of r ≡ standing_of q
alike_stands {A} r q h = ap (standing_with r.left) h.unread ∙ at r.left q.left h.left
  where
    at : (s t : Strand A) → StandSame s t → standing_with s q.unread ≡ standing_with t q.unread
    at (Ends a) t e = ap (λ x. standing_with x q.unread) (sym e)
    at (Acts act s) t e = ap (λ x. standing_with x q.unread) (sym e)
    at (Waits l shape k) t e = ap (λ x. standing_with x q.unread) (sym e.1)

-- ---- one strand, and what is after it

module _ {A B : Type 0} (f g : A → Strand B) where
  abbrev GoAlike : Ran A → Type 0
  GoAlike r = (a : A) → r.left ≡ Ends a → RunAlike (run (f a) r.unread) (run (g a) r.unread)

  both : {r q r' q' : Ran B} → r ≡ r' → q ≡ q' → RunAlike r' q' → RunAlike r q
  both {r = r} {q' = q'} e u h = subst (λ y. RunAlike r y) (sym u) (subst (λ x. RunAlike x q') (sym e) h)

  pub alike_then : (x : Strand A) (mail : Mail) → GoAlike (run x mail) → RunAlike (run (then_do x f) mail) (run (then_do x g) mail)
  alike_then (Ends a) mail h = h a refl
  alike_then (Acts act x) mail h =
      let r = alike_then x mail h in record { acts = ap (λ rest. act ∷ rest) r.acts; unread = r.unread; left = r.left }
  alike_then (Waits l n k) mail h = by_mail (mail l) refl (λ m. alike_then (k m) (taken l mail))
    where
      then_f : List ℕ → Strand B
      then_f m = then_do (k m) f

      then_g : List ℕ → Strand B
      then_g m = then_do (k m) g

      still : RunAlike (standing l n then_f mail) (standing l n then_g mail)
      still = record { acts = refl; unread = refl; left = (then_g, refl) }

      by_mail :
          (xs : List (List ℕ)) → mail l ≡ xs →
          ((m : List ℕ) → GoAlike (run (k m) (taken l mail)) → RunAlike (run (then_f m) (taken l mail)) (run (then_g m) (taken l mail))) →
          RunAlike (run (Waits l n then_f) mail) (run (Waits l n then_g) mail)
      by_mail [] e more = both (run-none l n then_f mail e) (run-none l n then_g mail e) still
      by_mail (m ∷ ms) e more = by_shape (accepts n m) refl
        where
          by_shape : (b : Bool) → accepts n m ≡ b → RunAlike (run (Waits l n then_f) mail) (run (Waits l n then_g) mail)
          by_shape true o =
              both (run-took l n then_f mail m ms e o) (run-took l n then_g mail m ms e o) (more m (subst GoAlike (run-took l n k mail m ms e o) h))
          by_shape false o = both (run-refused l n then_f mail m ms e o) (run-refused l n then_g mail m ms e o) still

pub alike_telling :
    {A : Type 0} (notices : List Notice) (s t : Strand A) (mail : Mail) → RunAlike (run s mail) (run t mail) →
    RunAlike (run (telling notices s) mail) (run (telling notices t) mail)
alike_telling [] s t mail h = h
alike_telling (n ∷ ns) s t mail h =
    let r = alike_telling ns s t mail h in record { acts = ap (λ rest. Told n ∷ rest) r.acts; unread = r.unread; left = r.left }

-- ---- where a run stands

pub left_then :
    {A B : Type 0} (x : Strand A) (f : A → Strand B) (mail : Mail) (a : A) → (run x mail).left ≡ Ends a →
    (run (then_do x f) mail).left ≡ (run (f a) (run x mail).unread).left
left_then {B = B} x f mail a e =
    let r = run x mail in
    ap (λ (q : Ran B). q.left) (run-then_do x f mail) ∙ ap (λ y. (run (then_do y f) r.unread).left) e

pub left_telling : {A : Type 0} (notices : List Notice) (s : Strand A) (mail : Mail) → (run (telling notices s) mail).left ≡ (run s mail).left
left_telling [] s mail = refl
left_telling (n ∷ ns) s mail = left_telling ns s mail

-- ---- what is drawn after a run

none_is_least : (n : ℕ) → 0 ≤ n
none_is_least n = omega arith

no_fewer : {X : Type 0} (n : ℕ) → n < 0 → X
no_fewer n h = absurd (omega (arith, h))

module _ {A : Type 0} where
  end_same : (s : Strand A) (f g : A → ℕ) → ((a : A) → s ≡ Ends a → f a ≡ g a) → at_end s f ≡ at_end s g
  end_same (Ends a) f g h = h a refl
  end_same (Acts act s) f g h = refl
  end_same (Waits l shape k) f g h = refl

  pub behind_same :
      (r : Ran A) (f g : A → Mail → ℕ) → ((a : A) → r.left ≡ Ends a → f a r.unread ≡ g a r.unread) → drawn_behind r f ≡ drawn_behind r g
  behind_same r f g h = end_same r.left (λ a. f a r.unread) (λ a. g a r.unread) h

  pub behind_at : (r : Ran A) (f : A → Mail → ℕ) (a : A) → r.left ≡ Ends a → drawn_behind r f ≡ f a r.unread
  behind_at r f a e = ap (λ s. at_end s (λ b. f b r.unread)) e

  end_most : (s : Strand A) (f : A → ℕ) (n : ℕ) → ((a : A) → f a ≤ n) → at_end s f ≤ n
  end_most (Ends a) f n h = h a
  end_most (Acts act s) f n h = none_is_least n
  end_most (Waits l shape k) f n h = none_is_least n

  pub behind_most : (r : Ran A) (f : A → Mail → ℕ) (n : ℕ) → ((a : A) (unread : Mail) → f a unread ≤ n) → drawn_behind r f ≤ n
  behind_most r f n h = end_most r.left (λ a. f a r.unread) n (λ a. h a r.unread)

  end_some : (s : Strand A) (f : A → ℕ) (n : ℕ) → n < at_end s f → (a : A) × (s ≡ Ends a) × (n < f a)
  end_some (Ends a) f n h = (a, refl, h)
  end_some (Acts act s) f n h = no_fewer n h
  end_some (Waits l shape k) f n h = no_fewer n h

  -- where any is drawn the run has ended
  pub behind_some : (r : Ran A) (f : A → Mail → ℕ) (n : ℕ) → n < drawn_behind r f → (a : A) × (r.left ≡ Ends a) × (n < f a r.unread)
  behind_some r f n h = end_some r.left (λ a. f a r.unread) n h

  -- with further messages
  pub behind_grows :
      (x : Strand A) (f : A → Mail → ℕ) (mail more : Mail) → ((a : A) (unread : Mail) → f a unread ≤ f a (added unread more)) →
      drawn_behind (run x mail) f ≤ drawn_behind (run x (added mail more)) f
  behind_grows x f mail more h =
      let r = run x mail in
      subst (λ (q : Ran A). drawn_behind r f ≤ drawn_behind q f) (sym (run-added x mail more)) (go r.left r.unread)
    where
      go : (s : Strand A) (unread : Mail) → at_end s (λ a. f a unread) ≤ drawn_behind (run s (added unread more)) f
      go (Ends a) unread = h a unread
      go (Acts act s) unread = none_is_least _
      go (Waits l shape k) unread = none_is_least _
