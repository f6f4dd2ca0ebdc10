-- Which entries of a schedule are refused depends on counts alone, by the moves along the run.
use Rattle.std.proofs.Common.{◌≡◌, ℕ, suc, ◌+◌, ◌<◌, ◌++◌, arith, Bool, true, false, if◌then◌else◌, List, [], ◌∷◌, length, refl, sym, ◌∙◌, ap, subst}
use Rattle.proto_core.specs.declared.party.Number.{Number}
use Rattle.proto_core.specs.declared.link.Link.{Link}
use Rattle.proto_core.specs.Parties.{sender_of, receiver_of, is_same}
use Rattle.proto_core.specs.Strand.{same_link, Mail, Strand, next_after}
use Rattle.proto_core.specs.Net.{into, run_of, posted, under_way, delivered, MailBegins, Finishes}
use Rattle.proto_core.specs.Script.{Move}
use Rattle.protocol_model.specs.Along.{MovesAlong}
use Rattle.protocol_model.proofs.Counting.{along-counted}
use Rattle.protocol_model.specs.Network.{sent_by, stands_at, waits_for, into_counts, posted_count, one_more, walked, counted, at_the_end, EmptyLink}
use Rattle.protocol_model.specs.Network.{counts}
use Rattle.proto_core.proofs.Nets.{into-more, posted-more, covers, delivered-begins}
use Rattle.proto_core.proofs.Beginnings.{begins-trans}
use Rattle.proto_core.proofs.Strands.{same-link_is}
use Rattle.std.specs.Prelude.{nat_lt}

counts-into : (i : Number) (mail : Mail) → counts (into i mail) ≡ into_counts i (counts mail)
counts-into i mail = λ d. λ l. at_link l d
  where
    at_link : (l : Link) → counts (into i mail) l ≡ into_counts i (counts mail) l
    at_link l = elim (is_same (receiver_of l) i) as (λ b. length (if b then mail l else []) ≡ (if b then length (mail l) else 0)) [ true ↦ refl | false ↦ refl ]

pub lt_from : (a b : ℕ) → nat_lt a b ≡ true → a < b
lt_from a b h = grind arith

-- how many messages are sent on a link, after any schedule, is said by the scripts and by how many came on each
pub posted-counted :
    {A : Type 0} (nodes : Number → Strand A) (scripts : Number → List Move) (full mail : Mail) (outputs : Number → A) → Finishes nodes full outputs →
    ((i : Number) → MovesAlong (nodes i) (scripts i) (into i full)) → MailBegins mail full → (l : Link)
    → length (posted nodes mail l) ≡ posted_count scripts (counts mail) l
posted-counted nodes scripts full mail outputs f moves h l =
    let i = sender_of l in
    (along-counted (nodes i) (scripts i) (into i mail) (into i full) (moves i) (into-more nodes i mail full h)).sent l
    ∙ ap (λ c. sent_by (scripts i) c l) (counts-into i mail)

pub stood-counted :
    {A : Type 0} (nodes : Number → Strand A) (scripts : Number → List Move) (full mail : Mail) (outputs : Number → A) → Finishes nodes full outputs →
    ((i : Number) → MovesAlong (nodes i) (scripts i) (into i full)) → MailBegins mail full → (i : Number) →
    waits_for (run_of nodes mail i).left ≡ stands_at (scripts i) (into_counts i (counts mail))
stood-counted nodes scripts full mail outputs f moves h i =
    (along-counted (nodes i) (scripts i) (into i mail) (into i full) (moves i) (into-more nodes i mail full h)).waits
    ∙ ap (stands_at (scripts i)) (counts-into i mail)

-- ---- one entry

none_below : (k : ℕ) → k < 0 → ⊥
none_below k h = omega arith

-- one more of a list that is shorter
next-length : (xs ys : List (List ℕ)) → length xs < length ys → length (xs ++ next_after xs ys) ≡ length xs + 1
next-length [] [] h = absurd (none_below 0 h)
next-length [] (y ∷ ys) h = refl
next-length (x ∷ xs) [] h = absurd (none_below (suc (length xs)) h)
next-length (x ∷ xs) (y ∷ ys) h = ap suc (next-length xs ys (omega arith)) ∙ omega arith

pub counts-delivered :
    {A : Type 0} (nodes : Number → Strand A) (mail : Mail) (l : Link) → length (mail l) < length (posted nodes mail l) →
    counts (delivered nodes mail l) ≡ one_more l (counts mail)
counts-delivered nodes mail l h = λ d. λ k. at_link k (same_link l k) refl d
  where
    at_link : (k : Link) (b : Bool) → same_link l k ≡ b → counts (delivered nodes mail l) k ≡ one_more l (counts mail) k
    at_link k true e =
        let same : l ≡ k = same-link_is l k e in
        ap (λ b. length (if b then mail k ++ under_way nodes mail k else mail k)) e
        ∙ next-length (mail k) (posted nodes mail k) (subst (λ v. length (mail v) < length (posted nodes mail v)) same h)
        ∙ sym (ap (λ b. if b then length (mail k) + 1 else length (mail k)) e)
    at_link k false e =
        ap (λ b. length (if b then mail k ++ under_way nodes mail k else mail k)) e
        ∙ sym (ap (λ b. if b then length (mail k) + 1 else length (mail k)) e)

-- what three miners that finish do with a schedule is what the counts say
module _ {A : Type 0} (nodes : Number → Strand A) (scripts : Number → List Move) (full : Mail) (outputs : Number → A)
    (f : Finishes nodes full outputs) (moves : (i : Number) → MovesAlong (nodes i) (scripts i) (into i full)) where
  pub posted-begins : (mail : Mail) → MailBegins mail full → MailBegins (posted nodes mail) full
  posted-begins mail h l = begins-trans _ _ _ (posted-more nodes mail full h l) (covers nodes full outputs f l)

  pub walked-counted :
      (order : List Link) (entry : ℕ) (mail : Mail) → MailBegins mail full → walked nodes entry mail order ≡ counted scripts entry (counts mail) order
  walked-counted [] entry mail h =
      ap at_the_end (λ d. λ i. stood-counted nodes scripts full mail outputs f moves h i d)
  walked-counted (l ∷ ls) entry mail h =
      let n : length (posted nodes mail l) ≡ posted_count scripts (counts mail) l = posted-counted nodes scripts full mail outputs f moves h l in
      by_test (nat_lt (length (mail l)) (length (posted nodes mail l))) refl n
      (λ e. walked-counted ls (entry + 1) (delivered nodes mail l) (delivered-begins nodes mail full l h (posted-begins mail h)))
    where
      by_test :
          (b : Bool) → nat_lt (length (mail l)) (length (posted nodes mail l)) ≡ b → length (posted nodes mail l) ≡ posted_count scripts (counts mail) l →
          (length (mail l) < length (posted nodes mail l)
          → walked nodes (entry + 1) (delivered nodes mail l) ls ≡ counted scripts (entry + 1) (counts (delivered nodes mail l)) ls) →
          walked nodes entry mail (l ∷ ls) ≡ counted scripts entry (counts mail) (l ∷ ls)
      by_test true e n more =
          let lt : length (mail l) < length (posted nodes mail l) = lt_from _ _ e in
          ap (λ b. if b then walked nodes (entry + 1) (delivered nodes mail l) ls else EmptyLink entry l (length (posted nodes mail l))) e
          ∙ more lt
          ∙ ap (λ c. counted scripts (entry + 1) c ls) (counts-delivered nodes mail l lt)
          ∙ sym (ap (λ b. if b then counted scripts (entry + 1) (one_more l (counts mail)) ls else EmptyLink entry l
          (posted_count scripts (counts mail) l)) (ap (nat_lt (length (mail l))) (sym n) ∙ e))
      by_test false e n more =
          ap (λ b. if b then walked nodes (entry + 1) (delivered nodes mail l) ls else EmptyLink entry l (length (posted nodes mail l))) e
          ∙ ap (EmptyLink entry l) n
          ∙ sym (ap (λ b. if b then counted scripts (entry + 1) (one_more l (counts mail)) ls else EmptyLink entry l
          (posted_count scripts (counts mail) l)) (ap (nat_lt (length (mail l))) (sym n) ∙ e))
