-- Strands that take all messages of a mail and end.
use Rattle.std.proofs.Common.{◌≡◌, ℕ, true, if◌then◌else◌, List, [], ◌∷◌, ◌++◌, refl, sym, ◌∙◌, ap, subst}
use Rattle.std.specs.Prelude.{Bool, false}
use Rattle.proto_core.specs.declared.party.Number.{Number}
use Rattle.proto_core.specs.declared.link.Link.{Link}
use Rattle.proto_core.specs.Parties.{receiver_of, is_same, from_previous, from_next}
use Rattle.proto_core.specs.Strand.{Act, Shape, accepts, Mail, Strand, Ends, Acts, Waits, IsEnded, run, then_do}
use Rattle.proto_core.specs.Net.{into, mail_of, nothing, added}
use Rattle.proto_core.proofs.Strands.{run-then, run-then_do}
use Rattle.proto_core.proofs.Nodes.{into-is, mail-none, run-previous, run-next}
use Rattle.protocol_model.specs.Views.{blocks_at_end}
use Rattle.view_simulator.specs.Simulators.{EndsOn}

pub record TakesAll {A : Type 0} (s : Strand A) (mail : Mail) : Type 0 where
  pub ended : IsEnded (run s mail).left
  pub unread : (run s mail).unread ≡ nothing

-- ---- step by step

module _ {A : Type 0} where
  pub takes-act : (act : Act) (s : Strand A) (mail : Mail) → TakesAll s mail → TakesAll (Acts act s) mail
  takes-act act s mail h = record { ended = h.ended; unread = h.unread }

  pub takes-end : (i : Number) (a : A) → TakesAll (Ends a) (mail_of i [] [])
  takes-end i a = record { ended = tt; unread = mail-none i }

  module _ (i : Number) (shape : Shape) (k : List ℕ → Strand A) (m : List ℕ) (p n : List (List ℕ)) (fits : accepts shape m ≡ true) where
    pub takes-previous : TakesAll (k m) (mail_of i p n) → TakesAll (Waits (from_previous i) shape k) (mail_of i (m ∷ p) n)
    takes-previous h =
        let e = run-previous i shape k m p n fits in
        record { ended = subst (λ r. IsEnded r.left) (sym e) h.ended; unread = ap (λ r. r.unread) e ∙ h.unread }

    pub takes-next : TakesAll (k m) (mail_of i p n) → TakesAll (Waits (from_next i) shape k) (mail_of i p (m ∷ n))
    takes-next h =
        let e = run-next i shape k m p n fits in
        record { ended = subst (λ r. IsEnded r.left) (sym e) h.ended; unread = ap (λ r. r.unread) e ∙ h.unread }

  -- of the messages that come to a miner only those of its two links count
  pub takes-into :
      (i : Number) (s : Strand A) (mail : Mail) (p n : List (List ℕ)) → mail (from_previous i) ≡ p → mail (from_next i) ≡ n →
      TakesAll s (mail_of i p n) → TakesAll s (into i mail)
  takes-into i s mail p n hp hn h =
      subst (λ x. TakesAll s x) (sym (into-is i mail ∙ ap (λ q. mail_of i q (mail (from_next i))) hp ∙ ap (λ q. mail_of i p q) hn)) h

-- ---- one after the other

ended-is : {A : Type 0} (t : Strand A) → IsEnded t → (a : A) × (t ≡ Ends a)
ended-is (Ends a) h = (a, refl)
ended-is (Acts act s) h = absurd h
ended-is (Waits l shape k) h = absurd h

module _ {A B : Type 0} where
  pub takes-both :
      (s : Strand A) (f : A → Strand B) (x y : Mail) → TakesAll s x → ((a : A) → TakesAll (f a) y) → TakesAll (then_do s f) (added x y)
  takes-both s f x y h g =
      let end = ended-is (run s x).left h.ended in
      let a : A = end.0 in
      let e = run-then s f x y a end.1 in
      record {
        ended =
            subst (λ r. IsEnded r.left) (sym e)
            (subst (λ m. IsEnded (run (f a) (added m y)).left) (sym h.unread) (g a).ended);
        unread = ap (λ r. r.unread) e ∙ ap (λ m. (run (f a) (added m y)).unread) h.unread ∙ (g a).unread;
      }

  pub ends-map : (s : Strand A) (f : A → B) (x : Mail) (a : A) → EndsOn s x a → EndsOn (then_do s (λ b. Ends (f b))) x (f a)
  ends-map s f x a h =
      let go : A → Strand B = λ b. Ends (f b) in
      let e = run-then_do s go x in
      record {
        left = ap (λ r. r.left) e ∙ ap (λ t. (run (then_do t go) (run s x).unread).left) h.left;
        unread = ap (λ r. r.unread) e ∙ ap (λ t. (run (then_do t go) (run s x).unread).unread) h.left ∙ h.unread;
      }

  pub takes-map : (s : Strand A) (f : A → B) (x : Mail) → TakesAll s x → TakesAll (then_do s (λ b. Ends (f b))) x
  takes-map s f x h =
      let end = ended-is (run s x).left h.ended in
      let is = ends-map s f x end.0 (record { left = end.1; unread = h.unread }) in
      record { ended = subst IsEnded (sym is.left) tt; unread = is.unread }

-- ---- what it ends with

at-end : (t : Strand (List (List ℕ))) → IsEnded t → t ≡ Ends (blocks_at_end t)
at-end (Ends a) h = refl
at-end (Acts act s) h = absurd h
at-end (Waits l shape k) h = absurd h

pub ends-at : (s : Strand (List (List ℕ))) (x : Mail) → TakesAll s x → EndsOn s x (blocks_at_end (run s x).left)
ends-at s x h = record { left = at-end (run s x).left h.ended; unread = h.unread }

pub into-added : (i : Number) (x y : Mail) → into i (λ l. x l ++ y l) ≡ added (into i x) (into i y)
into-added i x y = λ d. λ l. at_link l d
  where
    at_link : (l : Link) → into i (λ k. x k ++ y k) l ≡ added (into i x) (into i y) l
    at_link l = by_test (is_same (receiver_of l) i) (x l) (y l)
      where
        by_test :
            (b : Bool) (p q : List (List ℕ)) → (if b then p ++ q else []) ≡ (if b then p else []) ++ (if b then q else [])
        by_test true p q = refl
        by_test false p q = refl
