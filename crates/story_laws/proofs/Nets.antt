-- Three miners of whom each does the same do the same together.
use Rattle.std.proofs.Common.{◌≡◌, ◌≤◌, ℕ, true, false, if◌then◌else◌, List, [], ◌∷◌, ◌++◌, length, drop, refl, ◌∙◌, ap, subst}
use Rattle.proto_core.specs.declared.party.Number.{Number}
use Rattle.proto_core.specs.declared.link.Link.{Link}
use Rattle.proto_core.specs.Parties.{sender_of}
use Rattle.proto_core.specs.Strand.{Mail, Strand, Begins, next_after, on_link, same_link}
use Rattle.proto_core.specs.Net.{MailBegins, all_delivered, delivered, into, posted, run_of, under_way}
use Rattle.proto_core.proofs.Beginnings.{begins-append, begins-self, begins-trans}
use Rattle.proto_core.proofs.Nets.{into-more}
use Rattle.proto_core.proofs.Strands.{added-rest}
use Rattle.story_laws.proofs.Reading.{Counting, ReadsOnly, ReadsSame, SameFront, Taping, front_less}

-- ---- what comes

module _ {A : Type 0} (nodes : Number → Strand A) where
  one_begins : (x : Mail) (l : Link) → MailBegins x (delivered nodes x l)
  one_begins x l k =
      elim (same_link l k) as (λ b. Begins (x k) (if b then x k ++ under_way nodes x k else x k))
      [ true ↦ begins-append (x k) (under_way nodes x k) | false ↦ begins-self (x k) ]

  all_begins : (links : List Link) (x : Mail) → MailBegins x (all_delivered nodes x links)
  all_begins [] x k = begins-self (x k)
  all_begins (l ∷ ls) x k = begins-trans _ _ _ (one_begins x l k) (all_begins ls (delivered nodes x l) k)

module _ {A : Type 0} (f g : Number → Strand A) where
  -- with messages that begin these each sends the same
  abbrev SendAlike : Mail → Type 0
  SendAlike full = (x : Mail) → MailBegins x full → (i : Number) → (run_of f x i).acts ≡ (run_of g x i).acts

  pub comes_alike : (links : List Link) (x : Mail) → SendAlike (all_delivered g x links) → all_delivered f x links ≡ all_delivered g x links
  comes_alike [] x h = refl
  comes_alike (l ∷ ls) x h = ap (λ y. all_delivered f y ls) (λ d. λ k. at k d) ∙ comes_alike ls (delivered g x l) h
    where
      posted_same : (k : Link) → posted f x k ≡ posted g x k
      posted_same k = ap (on_link k) (h x (all_begins g (l ∷ ls) x) (sender_of k))

      at : (k : Link) → delivered f x l k ≡ delivered g x l k
      at k = ap (λ ms. if same_link l k then x k ++ next_after (x k) ms else x k) (posted_same k)

-- ---- miners that read only what they draw

module _ {A : Type 0} (unfit : A) (strand : Number → Taping A) (count : Number → Counting) (each : (i : Number) → ReadsOnly unfit (strand i) (count i))
    (tapes others : Number → List ℕ) (links : List Link) (first : Mail) where
  abbrev on : (Number → List ℕ) → Number → Strand A
  on given i = strand i (given i)

  abbrev full : Mail
  full = all_delivered (on tapes) first links

  abbrev IsSame : Number → Type 0
  IsSame i = (length (others i) ≤ length (tapes i)) × SameFront (count i (tapes i) (into i full)) (others i) (tapes i)

  module _ (same : (i : Number) → IsSame i) where
    fewer : (i : Number) (x : Mail) → MailBegins x full → count i (tapes i) (into i x) ≤ count i (tapes i) (into i full)
    fewer i x h =
        subst (λ y. count i (tapes i) (into i x) ≤ count i (tapes i) y) (added-rest (into i x) (into i full) (into-more (on tapes) i x full h))
        ((each i).grows (tapes i) (into i x) (λ l. drop (length (into i x l)) (into i full l)))

    reads : (i : Number) (x : Mail) → MailBegins x full → ReadsSame (strand i) (count i) (tapes i) (others i) (into i x)
    reads i x h =
        (each i).same (tapes i) (others i) (into i x) (same i).0
        (front_less (count i (tapes i) (into i x)) (count i (tapes i) (into i full)) (others i) (tapes i) (fewer i x h) (same i).1)

    pub come_same : all_delivered (on others) first links ≡ full
    come_same = comes_alike (on others) (on tapes) links first (λ x h i. (reads i x h).0.acts)

    pub read_same : (i : Number) → ReadsSame (strand i) (count i) (tapes i) (others i) (into i full)
    read_same i = reads i full (λ l. begins-self (full l))
