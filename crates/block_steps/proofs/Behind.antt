-- What stands after a part of a miner's strand, and what comes later.
use Rattle.std.proofs.Common.{◌≡◌, ℕ, List, [], ◌∷◌, ◌++◌, refl, sym, ◌∙◌, ap, append_assoc, false, Option, Some, None, is_none}
use Rattle.proto_core.specs.declared.party.Number.{Number}
use Rattle.proto_core.specs.declared.party.Number.TheVariants.{One, Two, Three}
use Rattle.proto_core.specs.declared.link.Link.{Link}
use Rattle.proto_core.specs.declared.link.Link.TheVariants.{Link12, Link13, Link21, Link23, Link31, Link32}
use Rattle.proto_core.specs.declared.refused.BadMessage.{BadMessage}
use Rattle.proto_core.specs.Parties.{to_next, to_previous}
use Rattle.proto_core.specs.Strand.{Shape, accepts, Mail, Strand, Ends, Acts, Waits, Ran, run, then_do, on_link, opened_in}
use Rattle.proto_core.specs.Net.{mail_of, added}
use Rattle.proto_core.specs.Standing.{fault_of}
use Rattle.proto_core.proofs.Refusing.{faultless_is_accepted}
use Rattle.proto_core.proofs.Strands.{followed, standing, on_link-append, opened-append, run-none, run-refused, run-added, run-then_do}
use Rattle.block_steps.specs.declared.links.Links.{Links}
use Rattle.block_steps.specs.Outcomes.{Outcome, outcome, mail_left, IsStill, HasNoneOf, StandsAt}

-- ---- after what stands still all stands still

unfit : (shape : Shape) (m : List ℕ) (cause : BadMessage) → fault_of shape m ≡ Some cause → accepts shape m ≡ false
unfit shape m cause told = sym (faultless_is_accepted shape m) ∙ ap is_none told

still-of :
    {A : Type 0} (link : Link) (shape : Shape) (k : List ℕ → Strand A) (mail : Mail) (cause : Option BadMessage) (front : List (List ℕ)) →
    mail link ≡ front → HasNoneOf shape cause front → run (Waits link shape k) mail ≡ standing link shape k mail
still-of link shape k mail None [] e h = run-none link shape k mail e
still-of link shape k mail None (m ∷ ms) e h = absurd h
still-of link shape k mail (Some cause) [] e h = absurd h
still-of link shape k mail (Some cause) (m ∷ ms) e h = run-refused link shape k mail m ms e (unfit shape m cause h)

pub still-then :
    {A B : Type 0} (i : Number) (l : Links) (cause : Option BadMessage) (s : Strand A) (f : A → Strand B) → StandsAt i l cause s → IsStill i l (then_do s f)
still-then i l cause (Ends a) f h = absurd h
still-then i l cause (Acts act s) f h = absurd h
still-then i l cause (Waits link shape k) f h = still-of link shape (λ m. then_do (k m) f) (mail_left i l) cause (mail_left i l link) refl h

pub still-is : {A : Type 0} (i : Number) (l : Links) (cause : Option BadMessage) (s : Strand A) → StandsAt i l cause s → IsStill i l s
still-is i l cause (Ends a) h = absurd h
still-is i l cause (Acts act s) h = absurd h
still-is i l cause (Waits link shape k) h = still-of link shape k (mail_left i l) cause (mail_left i l link) refl h

-- ---- what comes to the same comes to the same with what stands after it

module _ {A B : Type 0} (i : Number) (f : A → Strand B) where
  abbrev goes_on : Outcome A → Outcome B
  goes_on q = outcome i q.to_next q.to_previous q.opened (run (then_do q.left f) q.unread)

  abbrev of_lists : (n p : List (List ℕ)) → (o : List ℕ) → Ran B → Outcome B
  of_lists n p o b = record { to_next = n; to_previous = p; opened = o; left = b.left; unread = b.unread }

  outcome-followed :
      (n p : List (List ℕ)) (o : List ℕ) (a : Ran A) (b : Ran B) →
      outcome i n p o (followed a b) ≡ outcome i (n ++ on_link (to_next i) a.acts) (p ++ on_link (to_previous i) a.acts) (o ++ opened_in a.acts) b
  outcome-followed n p o a b =
      let n2 = n ++ on_link (to_next i) a.acts in
      let p2 = p ++ on_link (to_previous i) a.acts in
      ap (λ v. of_lists v (p ++ on_link (to_previous i) (a.acts ++ b.acts)) (o ++ opened_in (a.acts ++ b.acts)) b)
      (ap (λ v. n ++ v) (on_link-append (to_next i) a.acts b.acts) ∙ sym (append_assoc n (on_link (to_next i) a.acts) (on_link (to_next i) b.acts)))
      ∙ ap (λ v. of_lists (n2 ++ on_link (to_next i) b.acts) v (o ++ opened_in (a.acts ++ b.acts)) b)
      (ap (λ v. p ++ v) (on_link-append (to_previous i) a.acts b.acts) ∙ sym (append_assoc p (on_link (to_previous i) a.acts) (on_link (to_previous i) b.acts)))
      ∙ ap (λ v. of_lists (n2 ++ on_link (to_next i) b.acts) (p2 ++ on_link (to_previous i) b.acts) v b)
      (ap (λ v. o ++ v) (opened-append a.acts b.acts) ∙ sym (append_assoc o (opened_in a.acts) (opened_in b.acts)))

  pub outcome-goes_on :
      (n p : List (List ℕ)) (o : List ℕ) (s : Strand A) (x : Mail) →
      outcome i n p o (run (then_do s f) x) ≡ goes_on (outcome i n p o (run s x))
  outcome-goes_on n p o s x =
      ap (outcome i n p o) (run-then_do s f x) ∙ outcome-followed n p o (run s x) (run (then_do (run s x).left f) (run s x).unread)

  pub outcome-then :
      (n p n2 p2 : List (List ℕ)) (o o2 : List ℕ) (s s2 : Strand A) (x x2 : Mail) →
      outcome i n p o (run s x) ≡ outcome i n2 p2 o2 (run s2 x2) →
      outcome i n p o (run (then_do s f) x) ≡ outcome i n2 p2 o2 (run (then_do s2 f) x2)
  outcome-then n p n2 p2 o o2 s s2 x x2 h = outcome-goes_on n p o s x ∙ ap goes_on h ∙ sym (outcome-goes_on n2 p2 o2 s2 x2)

-- ---- what more mail adds to what was done

pub mail-added : (i : Number) (p n p2 n2 : List (List ℕ)) → added (mail_of i p n) (mail_of i p2 n2) ≡ mail_of i (p ++ p2) (n ++ n2)
mail-added i p n p2 n2 = λ d. λ k. at_link i k d
  where
    at_link : (i : Number) (k : Link) → added (mail_of i p n) (mail_of i p2 n2) k ≡ mail_of i (p ++ p2) (n ++ n2) k
    at_link One Link12 = refl
    at_link One Link13 = refl
    at_link One Link21 = refl
    at_link One Link23 = refl
    at_link One Link31 = refl
    at_link One Link32 = refl
    at_link Two Link12 = refl
    at_link Two Link13 = refl
    at_link Two Link21 = refl
    at_link Two Link23 = refl
    at_link Two Link31 = refl
    at_link Two Link32 = refl
    at_link Three Link12 = refl
    at_link Three Link13 = refl
    at_link Three Link21 = refl
    at_link Three Link23 = refl
    at_link Three Link31 = refl
    at_link Three Link32 = refl

-- where this was done, and more comes, what is done is what was and what follows from there
pub kahn-behind :
    {A : Type 0} (i : Number) (n p : List (List ℕ)) (o : List ℕ) (s : Strand A) (x y : Mail) (e : Outcome A) → e ≡ outcome i n p o (run s x) →
    outcome i n p o (run s (added x y)) ≡ outcome i e.to_next e.to_previous e.opened (run e.left (added e.unread y))
kahn-behind i n p o s x y e h =
    let ran = run s x in
    ap (outcome i n p o) (run-added s x y)
    ∙ outcome-followed i (λ a. Ends a) n p o ran (run ran.left (added ran.unread y))
    ∙ sym (ap (λ q. outcome i q.to_next q.to_previous q.opened (run q.left (added q.unread y))) h)

-- the same where nothing was done before
pub kahn-step :
    {A : Type 0} (i : Number) (s : Strand A) (x y : Mail) (e : Outcome A) → e ≡ outcome i [] [] [] (run s x) →
    outcome i [] [] [] (run s (added x y)) ≡ outcome i e.to_next e.to_previous e.opened (run e.left (added e.unread y))
kahn-step i s x y e h = kahn-behind i [] [] [] s x y e h
