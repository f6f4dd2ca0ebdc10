-- More mail only adds to what a miner does.
use Rattle.std.proofs.Common.{◌≡◌, ℕ, Bool, true, false, if◌then◌else◌, List, [], ◌∷◌, ◌++◌, length, drop, refl, sym, ◌∙◌, ap, subst}
use Rattle.std.proofs.lemmas.List.{append_assoc}
use Rattle.proto_core.specs.Net.{added, MailBegins}
use Rattle.proto_core.proofs.Beginnings.{begins-append, begins-rest, append-none, agree-begins, longer, begins-longer, agree-longer}
use Rattle.proto_core.specs.declared.link.Link.{Link}
use Rattle.proto_core.specs.declared.link.Link.TheVariants.{Link12, Link13, Link21, Link23, Link31, Link32}
use Rattle.proto_core.specs.Strand.{Shape, accepts, same_link, Act, Sent, Opened, Told, Mail, Strand, Ends, Acts, Waits, taken, came, Ran, acted, run}
use Rattle.proto_core.specs.Strand.{then_do, on_link, opened_in, told_in, Begins, Agree, IsEnded}

pub same-link_is : (l k : Link) → same_link l k ≡ true → l ≡ k
same-link_is Link12 Link12 h = refl
same-link_is Link13 Link13 h = refl
same-link_is Link21 Link21 h = refl
same-link_is Link23 Link23 h = refl
same-link_is Link31 Link31 h = refl
same-link_is Link32 Link32 h = refl
same-link_is _ _ h = cc

pub same-link_self : (l : Link) → same_link l l ≡ true
same-link_self Link12 = refl
same-link_self Link13 = refl
same-link_self Link21 = refl
same-link_self Link23 = refl
same-link_self Link31 = refl
same-link_self Link32 = refl

came_none : {R : Type 0} (xs : List (List ℕ)) (n : Shape) (stands : R) (goes : List ℕ → R) → xs ≡ [] → came xs n stands goes ≡ stands
came_none xs n stands goes e = ap (λ v. came v n stands goes) e

came_took : {R : Type 0} (xs : List (List ℕ)) (n : Shape) (stands : R) (goes : List ℕ → R) (m : List ℕ) (ms : List (List ℕ)) → xs ≡ m ∷ ms
    → accepts n m ≡ true → came xs n stands goes ≡ goes m
came_took xs n stands goes m ms e f = ap (λ v. came v n stands goes) e ∙ ap (λ b. if b then goes m else stands) f

came_refused : {R : Type 0} (xs : List (List ℕ)) (n : Shape) (stands : R) (goes : List ℕ → R) (m : List ℕ) (ms : List (List ℕ)) → xs ≡ m ∷ ms
    → accepts n m ≡ false → came xs n stands goes ≡ stands
came_refused xs n stands goes m ms e f = ap (λ v. came v n stands goes) e ∙ ap (λ b. if b then goes m else stands) f

abbrev pub standing : {A : Type 0} → Link → Shape → (List ℕ → Strand A) → Mail → Ran A
standing l n k mail = record { acts = []; left = Waits l n k; unread = mail }

module _ {A : Type 0} where
  pub run-none : (l : Link) (n : Shape) (k : List ℕ → Strand A) (mail : Mail) → mail l ≡ [] → run (Waits l n k) mail ≡ standing l n k mail
  run-none l n k mail e = came_none (mail l) n _ _ e

  pub run-took : (l : Link) (n : Shape) (k : List ℕ → Strand A) (mail : Mail) (m : List ℕ) (ms : List (List ℕ)) → mail l ≡ m ∷ ms → accepts n m ≡ true
      → run (Waits l n k) mail ≡ run (k m) (taken l mail)
  run-took l n k mail m ms e f = came_took (mail l) n _ _ m ms e f

  pub run-refused : (l : Link) (n : Shape) (k : List ℕ → Strand A) (mail : Mail) (m : List ℕ) (ms : List (List ℕ)) → mail l ≡ m ∷ ms
      → accepts n m ≡ false → run (Waits l n k) mail ≡ standing l n k mail
  run-refused l n k mail m ms e f = came_refused (mail l) n _ _ m ms e f

pub taken-added : (l : Link) (x y : Mail) (m : List ℕ) (ms : List (List ℕ)) → x l ≡ m ∷ ms → taken l (added x y) ≡ added (taken l x) y
taken-added l x y m ms e = λ i. λ k. at_link k i
  where
    at_link : (k : Link) → taken l (added x y) k ≡ added (taken l x) y k
    at_link k = go (same_link l k) refl
      where
        go : (b : Bool) → same_link l k ≡ b → taken l (added x y) k ≡ added (taken l x) y k
        go true h = let f : x k ≡ m ∷ ms = ap x (sym (same-link_is l k h)) ∙ e in rw (h, f) refl
        go false h = rw h refl

-- the second run goes on where the first stood
abbrev pub followed : {A B : Type 0} → Ran A → Ran B → Ran B
followed a b = record { acts = a.acts ++ b.acts; left = b.left; unread = b.unread }

pub run-added : {A : Type 0} (s : Strand A) (x y : Mail) → run s (added x y) ≡ followed (run s x) (run (run s x).left (added (run s x).unread y))
run-added (Ends a) x y = refl
run-added (Acts a s) x y = ap (acted a) (run-added s x y)
run-added {A} (Waits l n k) x y = by_mail (x l) refl (λ m. run-added (k m) (taken l x) y)
  where
    by_mail : (xs : List (List ℕ)) → x l ≡ xs
        → ((m : List ℕ) → run (k m) (added (taken l x) y)
        ≡ followed (run (k m) (taken l x)) (run (run (k m) (taken l x)).left (added (run (k m) (taken l x)).unread y)))
        → run (Waits l n k) (added x y) ≡ followed (run (Waits l n k) x) (run (run (Waits l n k) x).left (added (run (Waits l n k) x).unread y))
    by_mail [] e more = sym (ap (λ r. followed r (run r.left (added r.unread y))) (run-none l n k x e))
    by_mail (m ∷ ms) e more = by_size (accepts n m) refl
      where
        by_size : (b : Bool) → accepts n m ≡ b
            → run (Waits l n k) (added x y) ≡ followed (run (Waits l n k) x) (run (run (Waits l n k) x).left (added (run (Waits l n k) x).unread y))
        by_size true f =
            run-took l n k (added x y) m (ms ++ y l) (ap (λ v. v ++ y l) e) f
            ∙ ap (run (k m)) (taken-added l x y m ms e)
            ∙ more m
            ∙ sym (ap (λ r. followed r (run r.left (added r.unread y))) (run-took l n k x m ms e f))
        by_size false f = sym (ap (λ r. followed r (run r.left (added r.unread y))) (run-refused l n k x m ms e f))

pub on_link-append : (l : Link) (xs ys : List Act) → on_link l (xs ++ ys) ≡ on_link l xs ++ on_link l ys
on_link-append l [] ys = refl
on_link-append l (Sent k m ∷ xs) ys =
    elim (same_link l k) as (λ b. (if b then m ∷ on_link l (xs ++ ys) else on_link l (xs ++ ys))
    ≡ (if b then m ∷ on_link l xs else on_link l xs) ++ on_link l ys)
    [ true ↦ ap (λ v. m ∷ v) (on_link-append l xs ys) | false ↦ on_link-append l xs ys ]
on_link-append l (Opened w ∷ xs) ys = on_link-append l xs ys
on_link-append l (Told t ∷ xs) ys = on_link-append l xs ys

pub opened-append : (xs ys : List Act) → opened_in (xs ++ ys) ≡ opened_in xs ++ opened_in ys
opened-append [] ys = refl
opened-append (Sent k m ∷ xs) ys = opened-append xs ys
opened-append (Opened w ∷ xs) ys = ap (λ v. w ++ v) (opened-append xs ys) ∙ sym (append_assoc w (opened_in xs) (opened_in ys))
opened-append (Told t ∷ xs) ys = opened-append xs ys

pub told-append : (xs ys : List Act) → told_in (xs ++ ys) ≡ told_in xs ++ told_in ys
told-append [] ys = refl
told-append (Sent k m ∷ xs) ys = told-append xs ys
told-append (Opened w ∷ xs) ys = told-append xs ys
told-append (Told t ∷ xs) ys = ap (λ v. t ∷ v) (told-append xs ys)

-- ---- what follows from it

pub added-rest : (x y : Mail) → MailBegins x y → added x (λ l. drop (length (x l)) (y l)) ≡ y
added-rest x y h = λ i. λ l. begins-rest (x l) (y l) (h l) i

-- longer lists of messages extend what is done
pub run-more : {A : Type 0} (s : Strand A) (x y : Mail) → MailBegins x y → Begins (run s x).acts (run s y).acts
run-more s x y h =
    let more : Mail = λ l. drop (length (x l)) (y l) in
    let r = run s x in
    let e : (run s y).acts ≡ r.acts ++ (run r.left (added r.unread more)).acts =
    ap (λ m. (run s m).acts) (sym (added-rest x y h)) ∙ ap (λ v. v.acts) (run-added s x more) in
    subst (λ v. Begins r.acts v) (sym e) (begins-append r.acts _)

ended-acts : {A : Type 0} (s : Strand A) (mail : Mail) → IsEnded s → (run s mail).acts ≡ []
ended-acts (Ends a) mail h = refl
ended-acts (Acts a s) mail h = absurd h
ended-acts (Waits l n k) mail h = absurd h

-- an ended miner does no more
pub run-ended : {A : Type 0} (s : Strand A) (x y : Mail) → MailBegins x y → IsEnded (run s x).left → (run s y).acts ≡ (run s x).acts
run-ended s x y h e =
    let more : Mail = λ l. drop (length (x l)) (y l) in
    let r = run s x in
    ap (λ m. (run s m).acts) (sym (added-rest x y h)) ∙ ap (λ v. v.acts) (run-added s x more)
    ∙ ap (λ v. r.acts ++ v) (ended-acts r.left (added r.unread more) e) ∙ append-none r.acts

abbrev pub MailAgrees : Mail → Mail → Type 0
MailAgrees x y = (l : Link) → Agree (x l) (y l)

abbrev longer_mail : Mail → Mail → Mail
longer_mail x y l = longer (x l) (y l)

-- of two mails that agree, what is done with one begins what is done with the other
pub run-agree : {A : Type 0} (s : Strand A) (x y : Mail) → MailAgrees x y → Agree (run s x).acts (run s y).acts
run-agree s x y h =
    agree-begins (run s x).acts (run s y).acts (run s (longer_mail x y)).acts
    (run-more s x (longer_mail x y) (λ l. begins-longer (x l) (y l)))
    (run-more s y (longer_mail x y) (λ l. agree-longer (x l) (y l) (h l)))

-- and no more is done than by one who ended
pub run-most : {A : Type 0} (s : Strand A) (x y : Mail) → MailAgrees x y → IsEnded (run s y).left → Begins (run s x).acts (run s y).acts
run-most s x y h e =
    subst (λ v. Begins (run s x).acts v) (run-ended s y (longer_mail x y) (λ l. agree-longer (x l) (y l) (h l)) e)
    (run-more s x (longer_mail x y) (λ l. begins-longer (x l) (y l)))

-- ---- links and opened words of the acts

pub begins-on_link : (l : Link) (xs ys : List Act) → Begins xs ys → Begins (on_link l xs) (on_link l ys)
begins-on_link l xs ys h = subst (λ v. Begins (on_link l xs) v)
    (sym (ap (on_link l) (sym (begins-rest xs ys h)) ∙ on_link-append l xs (drop (length xs) ys))) (begins-append (on_link l xs) _)

pub begins-opened : (xs ys : List Act) → Begins xs ys → Begins (opened_in xs) (opened_in ys)
begins-opened xs ys h = subst (λ v. Begins (opened_in xs) v) (sym (ap opened_in (sym (begins-rest xs ys h)) ∙ opened-append xs (drop (length xs) ys)))
    (begins-append (opened_in xs) _)

pub agree-on_link : (l : Link) (xs ys : List Act) → Agree xs ys → Agree (on_link l xs) (on_link l ys)
agree-on_link l xs ys h =
    agree-begins _ _ (on_link l (longer xs ys)) (begins-on_link l xs (longer xs ys) (begins-longer xs ys))
    (begins-on_link l ys (longer xs ys) (agree-longer xs ys h))

-- ---- one after the other

pub then-regrouped :
    {A B C : Type 0} (s : Strand A) (f : A → Strand B) (g : B → Strand C) → then_do (then_do s f) g ≡ then_do s (λ a. then_do (f a) g)
then-regrouped (Ends a) f g = refl
then-regrouped (Acts a s) f g = ap (Acts a) (then-regrouped s f g)
then-regrouped (Waits l n k) f g = ap (Waits l n) (λ d. λ m. then-regrouped (k m) f g d)

pub run-then_do : {A B : Type 0} (s : Strand A) (f : A → Strand B) (x : Mail)
    → run (then_do s f) x ≡ followed (run s x) (run (then_do (run s x).left f) (run s x).unread)
run-then_do (Ends a) f x = refl
run-then_do (Acts a s) f x = ap (acted a) (run-then_do s f x)
run-then_do {A} {B} (Waits l n k) f x = by_mail (x l) refl (λ m. run-then_do (k m) f (taken l x))
  where
    by_mail : (xs : List (List ℕ)) → x l ≡ xs
        → ((m : List ℕ) → run (then_do (k m) f) (taken l x)
        ≡ followed (run (k m) (taken l x)) (run (then_do (run (k m) (taken l x)).left f) (run (k m) (taken l x)).unread))
        → run (then_do (Waits l n k) f) x ≡ followed (run (Waits l n k) x) (run (then_do (run (Waits l n k) x).left f) (run (Waits l n k) x).unread)
    by_mail [] e more = sym (ap (λ r. followed r (run (then_do r.left f) r.unread)) (run-none l n k x e))
    by_mail (m ∷ ms) e more = by_size (accepts n m) refl
      where
        by_size : (b : Bool) → accepts n m ≡ b
            → run (then_do (Waits l n k) f) x ≡ followed (run (Waits l n k) x) (run (then_do (run (Waits l n k) x).left f) (run (Waits l n k) x).unread)
        by_size true e2 =
            run-took l n (λ m. then_do (k m) f) x m ms e e2 ∙ more m
            ∙ sym (ap (λ r. followed r (run (then_do r.left f) r.unread)) (run-took l n k x m ms e e2))
        by_size false e2 = sym (ap (λ r. followed r (run (then_do r.left f) r.unread)) (run-refused l n k x m ms e e2))

-- the second begins with the mail that the first leaves and all that is after it
pub run-then : {A B : Type 0} (s : Strand A) (f : A → Strand B) (x y : Mail) (a : A) → (run s x).left ≡ Ends a
    → run (then_do s f) (added x y) ≡ followed (run s x) (run (f a) (added (run s x).unread y))
run-then s f x y a e =
    let r = run s x in
    run-then_do s f (added x y)
    ∙ ap (λ v. followed v (run (then_do v.left f) v.unread)) (run-added s x y ∙ ap (λ t. followed r (run t (added r.unread y))) e)
    ∙ ap (λ v. record {
      acts = v ++ (run (f a) (added r.unread y)).acts;
      left = (run (f a) (added r.unread y)).left;
      unread =
          (run (f a) (added r.unread y)).unread;
    }) (append-none r.acts)

pub then-begins : {A B : Type 0} (s : Strand A) (f : A → Strand B) (x : Mail) → Begins (run s x).acts (run (then_do s f) x).acts
then-begins s f x = subst (λ v. Begins (run s x).acts v) (sym (ap (λ r. r.acts) (run-then_do s f x))) (begins-append (run s x).acts _)
