-- Two strands that begin alike.
use Rattle.std.proofs.Common.{◌≡◌, ℕ, Bool, true, false, if◌then◌else◌, List, [], ◌∷◌, ◌++◌, length, drop, refl, sym, ◌∙◌, ap, subst}
use Rattle.proto_core.specs.declared.link.Link.{Link}
use Rattle.proto_core.specs.Strand.{Act, Notice, Sent, Opened, Told, Shape, accepts, Mail, Strand, Ends, Acts, Waits, Begins}
use Rattle.proto_core.specs.Strand.{same_link, taken, Ran, acted, run, then_do}
use Rattle.proto_core.specs.Net.{nothing, added, MailBegins}
use Rattle.proto_core.proofs.Beginnings.{begins-append, begins-rest}
use Rattle.proto_core.proofs.Strands.{run-none, run-took, run-refused, run-added, standing, followed}
use Rattle.driven_nodes.specs.Alike.{SameRun, Alike}
use Rattle.driven_nodes.specs.Driven.{telling}

same_acted : {A B : Type 0} {made : B → A} (act : Act) (r : Ran A) (q : Ran B) → SameRun made r q → SameRun made (acted act r) (acted act q)
same_acted (Sent k m) r q h =
    record {
      sent = λ l. ap (λ v. if same_link l k then m ∷ v else v) (h.sent l);
      opened = h.opened;
      unread = h.unread;
      waits = h.waits;
      stands = h.stands;
      ends = h.ends;
    }
same_acted (Opened w) r q h =
    record {
      sent = h.sent;
      opened = ap (λ v. w ++ v) h.opened;
      unread = h.unread;
      waits = h.waits;
      stands = h.stands;
      ends = h.ends;
    }
same_acted (Told t) r q h =
    record { sent = h.sent; opened = h.opened; unread = h.unread; waits = h.waits; stands = h.stands; ends = h.ends }

-- what the first tells makes no difference
same_telling :
    {A B : Type 0} {made : B → A} (notices : List Notice) (s : Strand A) (q : Ran B) (x : Mail) →
    SameRun made (run s x) q → SameRun made (run (telling notices s) x) q
same_telling [] s q x h = h
same_telling (t ∷ notices) s q x h =
    let more = same_telling notices s q x h in
    record {
      sent = more.sent;
      opened = more.opened;
      unread = more.unread;
      waits = more.waits;
      stands = more.stands;
      ends = more.ends;
    }

pub alike_telling :
    {A B : Type 0} {made : B → A} (notices : List Notice) (s : Strand A) (t : Strand B) (full : Mail) →
    Alike made full s t → Alike made full (telling notices s) t
alike_telling notices s t full h x begins = same_telling notices s (run t x) x (h x begins)

no_end : {A X : Type 0} (l : Link) (n : Shape) (k : List ℕ → Strand A) (a : A) → Waits l n k ≡ Ends a → X
no_end l n k a e = cc

same_standing :
    {A B : Type 0} {made : B → A} (l : Link) (n : Shape) (f : List ℕ → Strand A) (g : List ℕ → Strand B) (x : Mail) →
    SameRun made (standing l n f x) (standing l n g x)
same_standing l n f g x =
    record {
      sent = λ k. refl;
      opened = refl;
      unread = refl;
      waits = refl;
      stands = refl;
      ends = λ b e. no_end l n g b e;
    }

-- where they differ only after what they begin with
module _ {A B C : Type 0} (made : C → B) (f : A → Strand B) (g : A → Strand C) where
  abbrev Behind : Strand A → Mail → Type 0
  Behind s x = (a : A) → (run s x).left ≡ Ends a → SameRun made (run (f a) (run s x).unread) (run (g a) (run s x).unread)

  abbrev Both : Strand A → Mail → Type 0
  Both s x = SameRun made (run (then_do s f) x) (run (then_do s g) x)

  same_then : (s : Strand A) (x : Mail) → Behind s x → Both s x
  same_then (Ends a) x h = h a refl
  same_then (Acts a s) x h = same_acted a _ _ (same_then s x h)
  same_then (Waits l n k) x h = by_mail (x l) refl (λ m. same_then (k m) (taken l x))
    where
      first : List ℕ → Strand B
      first m = then_do (k m) f

      second : List ℕ → Strand C
      second m = then_do (k m) g

      -- of runs that are these
      by_runs : (r : Ran B) (q : Ran C) → run (Waits l n first) x ≡ r → run (Waits l n second) x ≡ q → SameRun made r q → Both (Waits l n k) x
      by_runs r q e d same =
          subst (λ v. SameRun made v (run (Waits l n second) x)) (sym e) (subst (λ v. SameRun made r v) (sym d) same)

      by_mail : (xs : List (List ℕ)) → x l ≡ xs → ((m : List ℕ) → Behind (k m) (taken l x) → Both (k m) (taken l x)) → Both (Waits l n k) x
      by_mail [] e more = by_runs _ _ (run-none l n first x e) (run-none l n second x e) (same_standing l n first second x)
      by_mail (m ∷ ms) e more = by_shape (accepts n m) refl
        where
          by_shape : (b : Bool) → accepts n m ≡ b → Both (Waits l n k) x
          by_shape true o =
              by_runs _ _ (run-took l n first x m ms e o) (run-took l n second x m ms e o)
              (more m
              (subst
              (λ r. (a : A) → r.left ≡ Ends a → SameRun made (run (f a) r.unread) (run (g a) r.unread)) (run-took l n k x m ms e o) h))
          by_shape false o =
              by_runs _ _ (run-refused l n first x m ms e o) (run-refused l n second x m ms e o) (same_standing l n first second x)

ends_same : {A : Type 0} (a b : A) → Ends a ≡ Ends b → a ≡ b
ends_same a b e = cc

rest_of_mail : (x y : Mail) → MailBegins x y → added x (λ l. drop (length (x l)) (y l)) ≡ y
rest_of_mail x y h = λ i. λ l. begins-rest (x l) (y l) (h l) i

-- where the first part comes to its end with the first messages, what is after it decides
pub alike_then :
    {A B C : Type 0} {made : C → B} (s : Strand A) (f : A → Strand B) (g : A → Strand C) (full more : Mail) (a : A) →
    (run s full).left ≡ Ends a → (run s full).unread ≡ nothing → Alike made more (f a) (g a) →
    Alike made (added full more) (then_do s f) (then_do s g)
alike_then {A} {made = made} s f g full more a ended read h x begins = same_then made f g s x behind
  where
    y : Mail
    y l = drop (length (x l)) (added full more l)

    r : Ran A
    r = run s x

    whole : run s (added full more) ≡ followed (run s full) (run (Ends a) more)
    whole =
        run-added s full more
        ∙ ap (λ t. followed (run s full) (run t (added (run s full).unread more))) ended
        ∙ ap (λ u. followed (run s full) (run (Ends a) (added u more))) read

    here : run s (added full more) ≡ followed r (run r.left (added r.unread y))
    here = ap (run s) (sym (rest_of_mail x (added full more) begins)) ∙ run-added s x y

    behind : (b : A) → r.left ≡ Ends b → SameRun made (run (f b) r.unread) (run (g b) r.unread)
    behind b e =
        let at_end : run s (added full more) ≡ followed r (run (Ends b) (added r.unread y)) =
        here ∙ ap (λ t. followed r (run t (added r.unread y))) e in
        let both : followed (run s full) (run (Ends a) more) ≡ followed r (run (Ends b) (added r.unread y)) = sym whole ∙ at_end in
        let same : a ≡ b = ends_same a b (ap (λ v. v.left) both) in
        let mail : more ≡ added r.unread y = ap (λ v. v.unread) both in
        let in_more : MailBegins r.unread more =
        λ l. subst (λ v. Begins (r.unread l) v) (sym (ap (λ v. v l) mail)) (begins-append (r.unread l) (y l)) in
        subst (λ v. SameRun made (run (f v) r.unread) (run (g v) r.unread)) same (h r.unread in_more)
