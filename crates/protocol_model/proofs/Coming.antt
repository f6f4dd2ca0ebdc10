-- What comes, entry by entry, is of the full run; and where a schedule is accepted, all of it has come.
use Rattle.std.proofs.Common.{◌≡◌, ℕ, suc, ◌+◌, ◌<◌, Bool, true, false, if◌then◌else◌, List, [], ◌∷◌, ◌++◌, length, refl, sym, ◌∙◌, ap, subst, arith}
use Rattle.std.specs.Prelude.{nat_lt}
use Rattle.proto_core.specs.declared.party.Number.{Number}
use Rattle.proto_core.specs.declared.link.Link.{Link}
use Rattle.proto_core.specs.Parties.{receiver_of, is_same}
use Rattle.proto_core.specs.Strand.{same_link, Mail, Strand, taken, rest_of, Begins, next_after}
use Rattle.proto_core.specs.Net.{posted, under_way, delivered, MailBegins, Finishes}
use Rattle.proto_core.proofs.Beginnings.{begins-append, begins-rest, begins-trans}
use Rattle.proto_core.proofs.Strands.{same-link_is}
use Rattle.proto_core.proofs.Nets.{posted-more, covers}
use Rattle.protocol_model.specs.Network.{Answer, Accepted, EmptyLink, walked}
use Rattle.protocol_model.proofs.NetCounts.{lt_from}
use Rattle.protocol_model.specs.Arrivals.{Arrival, oldest_then, arrivals, arrived, to_come}

none_below : {P : Type 0} (k : ℕ) → k < 0 → P
none_below k h = absurd (omega arith)

-- ---- the message under way is the next of the run

next-comes : (l : Link) (xs ys rest : List (List ℕ)) (more : List Arrival) → Begins ys (xs ++ rest) → length xs < length ys
    → oldest_then l (next_after xs ys) more ≡ oldest_then l rest more
next-comes l [] [] rest more b h = none_below 0 h
next-comes l [] (y ∷ ys) [] more b h = absurd b
next-comes l [] (y ∷ ys) (r ∷ rs) more b h = ap (λ m. record { link = l; message = m } ∷ more) b.0
next-comes l (x ∷ xs) [] rest more b h = none_below (suc (length xs)) h
next-comes l (x ∷ xs) (y ∷ ys) rest more b h = next-comes l xs ys rest more b.1 (omega arith)

next-leaves : (xs ys rest : List (List ℕ)) → Begins ys (xs ++ rest) → length xs < length ys → (xs ++ next_after xs ys) ++ rest_of rest ≡ xs ++ rest
next-leaves [] [] rest b h = none_below 0 h
next-leaves [] (y ∷ ys) [] b h = absurd b
next-leaves [] (y ∷ ys) (r ∷ rs) b h = ap (λ m. m ∷ rs) b.0
next-leaves (x ∷ xs) [] rest b h = none_below (suc (length xs)) h
next-leaves (x ∷ xs) (y ∷ ys) rest b h = ap (λ ms. x ∷ ms) (next-leaves xs ys rest b.1 (omega arith))

refused : {P : Type 0} (entry : ℕ) (l : Link) (sent : ℕ) → EmptyLink entry l sent ≡ Accepted → P
refused entry l sent e = cc

-- what is still to come after what was delivered
abbrev pub Parted : Mail → Mail → Mail → Type 0
Parted mail rest full = (l : Link) → mail l ++ rest l ≡ full l

module _ {A : Type 0} (nodes : Number → Strand A) (full : Mail) (outputs : Number → A) (f : Finishes nodes full outputs) where
  parted-begins : (mail rest : Mail) → Parted mail rest full → MailBegins mail full
  parted-begins mail rest h l = subst (λ v. Begins (mail l) v) (h l) (begins-append (mail l) (rest l))

  posted-within : (mail rest : Mail) → Parted mail rest full → (l : Link) → Begins (posted nodes mail l) (mail l ++ rest l)
  posted-within mail rest h l =
      subst (λ v. Begins (posted nodes mail l) v) (sym (h l))
      (begins-trans _ _ _ (posted-more nodes mail full (parted-begins mail rest h) l) (covers nodes full outputs f l))

  parted-next : (mail rest : Mail) (l : Link) → Parted mail rest full → length (mail l) < length (posted nodes mail l)
      → Parted (delivered nodes mail l) (taken l rest) full
  parted-next mail rest l h lt k = by_link (same_link l k) refl
    where
      by_link : (b : Bool) → same_link l k ≡ b → delivered nodes mail l k ++ taken l rest k ≡ full k
      by_link true e =
          let same : l ≡ k = same-link_is l k e in
          ap (λ b. (if b then mail k ++ under_way nodes mail k else mail k) ++ (if b then rest_of (rest k) else rest k)) e
          ∙ next-leaves (mail k) (posted nodes mail k) (rest k) (posted-within mail rest h k)
          (subst (λ v. length (mail v) < length (posted nodes mail v)) same lt)
          ∙ h k
      by_link false e = ap (λ b. (if b then mail k ++ under_way nodes mail k else mail k) ++ (if b then rest_of (rest k) else rest k)) e ∙ h k

  -- the test that an accepted entry passes
  module _ (entry : ℕ) (mail : Mail) (l : Link) (ls : List Link) where
    abbrev go_on : Answer → Bool → Answer
    go_on later b = if b then later else EmptyLink entry l (length (posted nodes mail l))

    pub passes : walked nodes entry mail (l ∷ ls) ≡ Accepted → nat_lt (length (mail l)) (length (posted nodes mail l)) ≡ true
    passes e = by_test (nat_lt (length (mail l)) (length (posted nodes mail l))) refl
      where
        by_test : (b : Bool) → nat_lt (length (mail l)) (length (posted nodes mail l)) ≡ b → nat_lt (length (mail l)) (length (posted nodes mail l)) ≡ true
        by_test true g = g
        by_test false g = refused entry l (length (posted nodes mail l)) (sym (ap (go_on (walked nodes (entry + 1) (delivered nodes mail l) ls)) g) ∙ e)

    pub goes-on : walked nodes entry mail (l ∷ ls) ≡ Accepted → walked nodes (entry + 1) (delivered nodes mail l) ls ≡ Accepted
    goes-on e = sym (ap (go_on (walked nodes (entry + 1) (delivered nodes mail l) ls)) (passes e)) ∙ e

  pub come : (i : Number) (order : List Link) (entry : ℕ) (mail rest : Mail) → Parted mail rest full → walked nodes entry mail order ≡ Accepted
      → arrived nodes i mail order ≡ arrivals i rest order
  come i [] entry mail rest h e = refl
  come i (l ∷ ls) entry mail rest h e =
      let lt : length (mail l) < length (posted nodes mail l) = lt_from _ _ (passes entry mail l ls e) in
      let later : arrived nodes i (delivered nodes mail l) ls ≡ arrivals i (taken l rest) ls =
      come i ls (entry + 1) (delivered nodes mail l) (taken l rest) (parted-next mail rest l h lt) (goes-on entry mail l ls e) in
      ap (λ x. if is_same (receiver_of l) i then oldest_then l (under_way nodes mail l) x else x) later
      ∙ ap (λ x. if is_same (receiver_of l) i then x else arrivals i (taken l rest) ls)
      (next-comes l (mail l) (posted nodes mail l) (rest l) (arrivals i (taken l rest) ls) (posted-within mail rest h l) lt)

  pub come-in_order :
      (i : Number) (order : List Link) (entry : ℕ) (mail : Mail) → MailBegins mail full → walked nodes entry mail order ≡ Accepted →
      arrived nodes i mail order ≡ arrivals i (to_come full mail) order
  come-in_order i order entry mail b e = come i order entry mail (to_come full mail) (λ l. begins-rest (mail l) (full l) (b l)) e
