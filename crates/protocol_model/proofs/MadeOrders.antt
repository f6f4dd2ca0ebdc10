-- Orders that are made, by the first link with a message or by chance, are always accepted.
use Rattle.std.proofs.Common.{◌≡◌, ℕ, zero, suc, ◌+◌, ◌<◌, ◌≤◌, ◌%◌, Bool, true, false, if◌then◌else◌, List, [], ◌∷◌, length, refl, sym, ◌∙◌, ap, arith}
use Rattle.std.specs.Option.{option_map_or}
use Rattle.std.specs.Prelude.{nat_lt, Option, Some, None, filter, slice_get}
use Rattle.proto_core.specs.declared.party.Number.{Number}
use Rattle.proto_core.specs.declared.link.Link.{Link}
use Rattle.proto_core.specs.declared.link.Link.TheVariants.{Link12, Link13, Link21, Link23, Link31, Link32}
use Rattle.proto_core.specs.Strand.{Mail, Strand, Begins}
use Rattle.proto_core.specs.Script.{Move}
use Rattle.protocol_model.specs.Along.{MovesAlong}
use Rattle.proto_core.specs.Net.{into, run_of, posted, delivered, MailBegins, Finishes}
use Rattle.proto_core.proofs.Beginnings.{begins-both}
use Rattle.proto_core.proofs.Nets.{nothing-under_way, delivered-begins}
use Rattle.protocol_model.specs.Network.{Accepted, EmptyLink, waits_for, at_the_end, Counts, one_more, into_counts, stands_at, posted_count, counted}
use Rattle.protocol_model.specs.Network.{all_links, is_full, chosen, made_order, total}
use Rattle.protocol_model.specs.Network.{counts}
use Rattle.protocol_model.proofs.NetCounts.{posted-counted, stood-counted, counts-delivered, posted-begins, lt_from}
use Rattle.protocol_model.proofs.Choosing.{in_those}

-- ---- choosing

pub some_there : (ls : List Link) (k : ℕ) → k < length ls → slice_get ls k ≡ None → ⊥
some_there [] k h e = let f : ⊥ = omega arith in f
some_there (l ∷ ls) zero h e = cc
some_there (l ∷ ls) (suc k) h e = some_there ls k (omega arith) e

pub none_chosen : (word : ℕ) (ls : List Link) → chosen word ls ≡ None → ls ≡ []
none_chosen word [] e = refl
none_chosen word (l ∷ ls) e = absurd (some_there (l ∷ ls) (word % length (l ∷ ls)) (omega arith) e)

none_those : (p : Link → Bool) (x : Link) (xs : List Link) → filter p (x ∷ xs) ≡ [] → (p x ≡ false) × (filter p xs ≡ [])
none_those p x xs h = by_test (p x) refl
  where
    by_test : (b : Bool) → p x ≡ b → (p x ≡ false) × (filter p xs ≡ [])
    by_test false e = (e, sym (ap (λ b. if b then x ∷ filter p xs else filter p xs) e) ∙ h)
    by_test true e = let g : x ∷ filter p xs ≡ [] = sym (ap (λ b. if b then x ∷ filter p xs else filter p xs) e) ∙ h in cc

none_full : (p : Link → Bool) → filter p all_links ≡ [] → (l : Link) → p l ≡ false
none_full p h l =
    let a = none_those p Link12 (Link13 ∷ Link21 ∷ Link23 ∷ Link31 ∷ Link32 ∷ []) h in
    let b = none_those p Link13 (Link21 ∷ Link23 ∷ Link31 ∷ Link32 ∷ []) a.1 in
    let c = none_those p Link21 (Link23 ∷ Link31 ∷ Link32 ∷ []) b.1 in
    let d = none_those p Link23 (Link31 ∷ Link32 ∷ []) c.1 in
    let e = none_those p Link31 (Link32 ∷ []) d.1 in
    let f = none_those p Link32 ([]) e.1 in
    by_link a.0 b.0 c.0 d.0 e.0 f.0 l
  where
    by_link :
        p Link12 ≡ false → p Link13 ≡ false → p Link21 ≡ false → p Link23 ≡ false → p Link31 ≡ false → p Link32 ≡ false →
        (l : Link) → p l ≡ false
    by_link a b c d e f Link12 = a
    by_link a b c d e f Link13 = b
    by_link a b c d e f Link21 = c
    by_link a b c d e f Link23 = d
    by_link a b c d e f Link31 = e
    by_link a b c d e f Link32 = f

-- ---- totals

pub total-more : (l : Link) (got : Counts) → total (one_more l got) ≡ total got + 1
total-more Link12 got = omega arith
total-more Link13 got = omega arith
total-more Link21 got = omega arith
total-more Link23 got = omega arith
total-more Link31 got = omega arith
total-more Link32 got = omega arith

-- none is above, and the sums are not below: they are equal
total-same : (x y : Counts) → ((l : Link) → x l ≤ y l) → total y ≤ total x → (l : Link) → x l ≡ y l
total-same x y h t l =
    by_link (h Link12) (h Link13) (h Link21) (h Link23) (h Link31) (h Link32) l
  where
    by_link : x Link12 ≤ y Link12 → x Link13 ≤ y Link13 → x Link21 ≤ y Link21 → x Link23 ≤ y Link23 → x Link31 ≤ y Link31 → x Link32 ≤ y Link32
        → (l : Link) → x l ≡ y l
    by_link a b c d e f Link12 = omega arith
    by_link a b c d e f Link13 = omega arith
    by_link a b c d e f Link21 = omega arith
    by_link a b c d e f Link23 = omega arith
    by_link a b c d e f Link31 = omega arith
    by_link a b c d e f Link32 = omega arith

pub begins-length : (xs ys : List (List ℕ)) → Begins xs ys → length xs ≤ length ys
begins-length [] ys h = omega arith
begins-length (x ∷ xs) [] h = absurd h
begins-length (x ∷ xs) (y ∷ ys) h = let l = begins-length xs ys h.1 in omega arith

-- of two beginnings of one list the shorter begins the longer
begins-shorter : (xs ys zs : List (List ℕ)) → Begins xs zs → Begins ys zs → length xs ≤ length ys → Begins xs ys
begins-shorter [] ys zs h k l = tt
begins-shorter (x ∷ xs) [] zs h k l = let f : ⊥ = omega arith in absurd f
begins-shorter (x ∷ xs) (y ∷ ys) [] h k l = absurd h
begins-shorter (x ∷ xs) (y ∷ ys) (z ∷ zs) h k l = (h.0 ∙ sym k.0, begins-shorter xs ys zs h.1 k.1 (omega arith))

not_lt : (a b : ℕ) → nat_lt a b ≡ false → b ≤ a
not_lt a b h = grind arith

-- ---- acceptance

module _ {A : Type 0} (nodes : Number → Strand A) (scripts : Number → List Move) (full : Mail) (outputs : Number → A)
    (f : Finishes nodes full outputs) (moves : (i : Number) → MovesAlong (nodes i) (scripts i) (into i full)) where
  -- where all has come, none waits
  all-ended : (mail : Mail) → MailBegins mail full → ((l : Link) → mail l ≡ full l)
      → at_the_end (λ i. stands_at (scripts i) (into_counts i (counts mail))) ≡ Accepted
  all-ended mail h same =
      let is : mail ≡ full = λ d. λ l. same l d in
      ap at_the_end (λ d. λ i. ended i d)
    where
      ended : (i : Number) → stands_at (scripts i) (into_counts i (counts mail)) ≡ None
      ended i =
          sym (stood-counted nodes scripts full mail outputs f moves h i)
          ∙ ap (λ m. waits_for (run_of nodes m i).left) (λ d. λ l. same l d)
          ∙ ap waits_for (f.ended i)

  pub made-accepted :
      (words : ℕ → ℕ) (fuel entry : ℕ) (mail : Mail) → MailBegins mail full → total (counts full) ≤ total (counts mail) + fuel →
      counted scripts entry (counts mail) (made_order scripts words fuel entry (counts mail)) ≡ Accepted
  made-accepted words zero entry mail h t =
      all-ended mail h (λ l. begins-both _ _ (h l)
      (begins-shorter (full l) (mail l) (full l) (begins-own (full l)) (h l) (same_length l)))
    where
      begins-own : (xs : List (List ℕ)) → Begins xs xs
      begins-own [] = tt
      begins-own (x ∷ xs) = (refl, begins-own xs)

      same_length : (l : Link) → length (full l) ≤ length (mail l)
      same_length l = let e : counts mail l ≡ counts full l =
          total-same (counts mail) (counts full) (λ k. begins-length (mail k) (full k) (h k)) (omega arith) l in omega arith
  made-accepted words (suc fuel) entry mail h t =
      by_choice (chosen (words entry) (filter (is_full scripts (counts mail)) all_links)) refl
      (λ l lt. made-accepted words fuel (entry + 1) (delivered nodes mail l)
      (delivered-begins nodes mail full l h (posted-begins nodes scripts full outputs f moves mail h))
      (let n : total (counts (delivered nodes mail l)) ≡ total (counts mail) + 1 =
      ap total (counts-delivered nodes mail l lt) ∙ total-more l (counts mail) in omega arith))
    where
      order : Option Link → List Link
      order choice = option_map_or (λ l. l ∷ made_order scripts words fuel (entry + 1) (one_more l (counts mail))) choice []

      by_choice :
          (choice : Option Link) → chosen (words entry) (filter (is_full scripts (counts mail)) all_links) ≡ choice →
          ((l : Link) → length (mail l) < length (posted nodes mail l) →
          counted scripts (entry + 1) (counts (delivered nodes mail l)) (made_order scripts words fuel (entry + 1) (counts (delivered nodes mail l)))
          ≡ Accepted) →
          counted scripts entry (counts mail) (made_order scripts words (suc fuel) entry (counts mail)) ≡ Accepted
      by_choice None e more =
          ap (λ c. counted scripts entry (counts mail) (order c)) e
          ∙ all-ended mail h (λ l. begins-both _ _ (h l) (nothing-under_way nodes full mail outputs f (λ k. caught k) l))
        where
          caught : (k : Link) → Begins (posted nodes mail k) (mail k)
          caught k =
              let none : is_full scripts (counts mail) k ≡ false = none_full (is_full scripts (counts mail)) (none_chosen (words entry) _ e) k in
              let n : length (posted nodes mail k) ≡ posted_count scripts (counts mail) k = posted-counted nodes scripts full mail outputs f moves h k in
              let le : posted_count scripts (counts mail) k ≤ length (mail k) = not_lt _ _ none in
              begins-shorter (posted nodes mail k) (mail k) (full k) (posted-begins nodes scripts full outputs f moves mail h k) (h k) (omega arith)
      by_choice (Some l) e more =
          let test : is_full scripts (counts mail) l ≡ true = in_those (is_full scripts (counts mail)) all_links _ l e in
          let n : length (posted nodes mail l) ≡ posted_count scripts (counts mail) l = posted-counted nodes scripts full mail outputs f moves h l in
          let here : counts mail l < posted_count scripts (counts mail) l = lt_from _ _ test in
          let lt : length (mail l) < length (posted nodes mail l) = omega arith in
          ap (λ c. counted scripts entry (counts mail) (order c)) e
          ∙ ap (λ b. if b then counted scripts (entry + 1) (one_more l (counts mail))
          (made_order scripts words fuel (entry + 1) (one_more l (counts mail))) else EmptyLink entry l (posted_count scripts (counts mail) l)) test
          ∙ ap (λ c. counted scripts (entry + 1) c (made_order scripts words fuel (entry + 1) c)) (sym (counts-delivered nodes mail l lt))
          ∙ more l lt
