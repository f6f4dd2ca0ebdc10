-- Messages are whole exactly where each is the next of its link and none is missing.
use Rattle.std.proofs.Common.{◌≡◌, ℕ, ◌+◌, ◌&&◌, Bool, true, false, if◌then◌else◌, List, [], ◌∷◌, length, drop, map, Option, Some, None}
use Rattle.std.proofs.Common.{refl, sym, ◌∙◌, ap, subst, arith, ◌⊎◌, inl, inr}
use Rattle.std.proofs.lemmas.Bool.{and_from, and_left, and_parts}
use Rattle.std.proofs.lemmas.Slice.Eq.{bytes_eq-Decides}
use Rattle.proto_core.specs.declared.party.Number.{Number}
use Rattle.proto_core.specs.declared.link.Link.{Link}
use Rattle.proto_core.specs.Parties.{from_previous, from_next, receiver_of}
use Rattle.proto_core.specs.Strand.{same_link, Mail, rest_of, taken}
use Rattle.proto_core.proofs.Strands.{same-link_is, same-link_self}
use Rattle.protocol_model.specs.Arrivals.{arrivals}
use Rattle.view_text.specs.View.{Received}
use Rattle.audit_steps.specs.Places.{one_later}
use Rattle.audit_steps.specs.Messages.{is_next, none_left, wrong_at}
use Rattle.merged_orders.specs.Merging.{count_in}
use Rattle.merged_views.specs.Brought.{links_of, received}
use Rattle.merged_views.proofs.Whole.{IsWhole, brings_first, next_into, next_not_previous, previous_into, previous_not_next, two_links, whole_more}

-- ---- answers

none_from : (place : Option ℕ) → one_later place ≡ None → place ≡ None
none_from None e = refl
none_from (Some k) e = cc

some_is_none : {P : Type 0} (k : ℕ) → Some k ≡ None → P
some_is_none k e = cc

none_are_left : (xs : List (List ℕ)) → none_left xs ≡ true → xs ≡ []
none_are_left [] e = refl
none_are_left (x ∷ xs) e = cc

-- ---- what is still to come after one message

module _ (i : Number) (mail : Mail) where
  abbrev first : Link
  first = from_previous i

  abbrev second : Link
  second = from_next i

  taken_first : taken first mail first ≡ rest_of (mail first)
  taken_first = ap (λ b. if b then drop 1 (mail first) else mail first) (same-link_self first)

  first_keeps : taken first mail second ≡ mail second
  first_keeps = ap (λ b. if b then drop 1 (mail second) else mail second) (previous_not_next i)

  taken_second : taken second mail second ≡ rest_of (mail second)
  taken_second = ap (λ b. if b then drop 1 (mail second) else mail second) (same-link_self second)

  second_keeps : taken second mail first ≡ mail first
  second_keeps = ap (λ b. if b then drop 1 (mail first) else mail first) (next_not_previous i)

-- ---- forth

next_there : (message : List ℕ) (xs : List (List ℕ)) → is_next message xs ≡ true → xs ≡ message ∷ drop 1 xs
next_there message [] e = cc
next_there message (x ∷ xs) e = ap (λ v. v ∷ xs) ((bytes_eq-Decides x message).0 e)

nothing_came : (i : Number) (mail : Mail) → wrong_at i (mail (from_previous i)) (mail (from_next i)) [] ≡ None → IsWhole i mail []
nothing_came i mail e = by_test (none_left (mail (from_previous i)) && none_left (mail (from_next i))) refl
  where
    both : (none_left (mail (from_previous i)) && none_left (mail (from_next i))) ≡ true → (l : Link) → receiver_of l ≡ i → 0 ≡ length (mail l)
    both g l to = by_link (two_links l)
      where
        parts : (none_left (mail (from_previous i)) ≡ true) × (none_left (mail (from_next i)) ≡ true)
        parts = and_parts (none_left (mail (from_previous i))) (none_left (mail (from_next i))) g

        by_link : (l ≡ from_previous (receiver_of l)) ⊎ (l ≡ from_next (receiver_of l)) → 0 ≡ length (mail l)
        by_link (inl is) = sym (ap (λ k. length (mail k)) (is ∙ ap from_previous to) ∙ ap length (none_are_left (mail (from_previous i)) parts.0))
        by_link (inr is) = sym (ap (λ k. length (mail k)) (is ∙ ap from_next to) ∙ ap length (none_are_left (mail (from_next i)) parts.1))

    by_test : (b : Bool) → (none_left (mail (from_previous i)) && none_left (mail (from_next i))) ≡ b → IsWhole i mail []
    by_test true g = record { come = refl; own = tt; all = both g }
    by_test false g = some_is_none 0 (sym (ap (λ b. if b then None else Some 0) g) ∙ e)

abbrev pub Later : Number → List Received → Type 0
Later i rs = (mail : Mail) → wrong_at i (mail (from_previous i)) (mail (from_next i)) rs ≡ None → IsWhole i mail rs

module _ (i : Number) (mail : Mail) (r : Received) (rs : List Received) (later : Later i rs) where
  abbrev is_first : Bool
  is_first = same_link r.link (from_previous i) && is_next r.message (mail (from_previous i))

  abbrev is_second : Bool
  is_second = same_link r.link (from_next i) && is_next r.message (mail (from_next i))

  abbrev after_first : Option ℕ
  after_first = one_later (wrong_at i (rest_of (mail (from_previous i))) (mail (from_next i)) rs)

  abbrev after_second : Option ℕ
  after_second = one_later (wrong_at i (mail (from_previous i)) (rest_of (mail (from_next i))) rs)

  from_the_first : is_first ≡ true → after_first ≡ None → IsWhole i mail (r ∷ rs)
  from_the_first g e =
      let parts = and_parts (same_link r.link (from_previous i)) (is_next r.message (mail (from_previous i))) g in
      let is : r.link ≡ from_previous i = same-link_is r.link (from_previous i) parts.0 in
      let none : wrong_at i (rest_of (mail (from_previous i))) (mail (from_next i)) rs ≡ None = none_from _ e in
      let rest : IsWhole i (taken (from_previous i) mail) rs =
      later (taken (from_previous i) mail)
      (ap (λ v. wrong_at i v (taken (from_previous i) mail (from_next i)) rs) (taken_first i mail)
      ∙ ap (λ v. wrong_at i (rest_of (mail (from_previous i))) v rs) (first_keeps i mail)
      ∙ none) in
      whole_more i mail r rs (drop 1 (mail (from_previous i))) (ap receiver_of is ∙ previous_into i)
      (ap mail is ∙ next_there r.message (mail (from_previous i)) parts.1)
      (subst (λ l. IsWhole i (taken l mail) rs) (sym is) rest)

  from_the_second : is_second ≡ true → after_second ≡ None → IsWhole i mail (r ∷ rs)
  from_the_second g e =
      let parts = and_parts (same_link r.link (from_next i)) (is_next r.message (mail (from_next i))) g in
      let is : r.link ≡ from_next i = same-link_is r.link (from_next i) parts.0 in
      let none : wrong_at i (mail (from_previous i)) (rest_of (mail (from_next i))) rs ≡ None = none_from _ e in
      let rest : IsWhole i (taken (from_next i) mail) rs =
      later (taken (from_next i) mail)
      (ap (λ v. wrong_at i v (taken (from_next i) mail (from_next i)) rs) (second_keeps i mail)
      ∙ ap (λ v. wrong_at i (mail (from_previous i)) v rs) (taken_second i mail)
      ∙ none) in
      whole_more i mail r rs (drop 1 (mail (from_next i))) (ap receiver_of is ∙ next_into i)
      (ap mail is ∙ next_there r.message (mail (from_next i)) parts.1)
      (subst (λ l. IsWhole i (taken l mail) rs) (sym is) rest)

  one_came : wrong_at i (mail (from_previous i)) (mail (from_next i)) (r ∷ rs) ≡ None → IsWhole i mail (r ∷ rs)
  one_came e = by_first is_first refl
    where
      by_second : (b : Bool) → is_second ≡ b → (if is_second then after_second else Some 0) ≡ None → IsWhole i mail (r ∷ rs)
      by_second true g h = from_the_second g (sym (ap (λ b. if b then after_second else Some 0) g) ∙ h)
      by_second false g h = some_is_none 0 (sym (ap (λ b. if b then after_second else Some 0) g) ∙ h)

      by_first : (b : Bool) → is_first ≡ b → IsWhole i mail (r ∷ rs)
      by_first true g = from_the_first g (sym (ap (λ b. if b then after_first else if is_second then after_second else Some 0) g) ∙ e)
      by_first false g =
          by_second is_second refl (sym (ap (λ b. if b then after_first else if is_second then after_second else Some 0) g) ∙ e)

pub all_next : (i : Number) (got : List Received) → Later i got
all_next i [] = nothing_came i
all_next i (r ∷ rs) = λ mail. one_came i mail r rs (all_next i rs)

-- ---- and back

empty_from : (xs : List (List ℕ)) → 0 ≡ length xs → none_left xs ≡ true
empty_from [] e = refl
empty_from (x ∷ xs) e = absurd (omega arith)

module _ (i : Number) (mail : Mail) (r : Received) (rs : List Received) (whole : IsWhole i mail (r ∷ rs)) where
  abbrev l : Link
  l = r.link

  to : receiver_of l ≡ i
  to = whole.own.0

  abbrev Front : Type 0
  Front = (ms : List (List ℕ)) × (mail l ≡ r.message ∷ ms) × (map received (arrivals i (taken l mail) (links_of rs)) ≡ rs)

  front : Front
  front = by_mail (mail l) refl
    where
      by_mail : (xs : List (List ℕ)) → mail l ≡ xs → Front
      by_mail [] e =
          let n : count_in l (links_of (r ∷ rs)) ≡ length (mail l) = whole.all l to in
          let one : count_in l (links_of (r ∷ rs)) ≡ 1 + count_in l (links_of rs) =
          ap (λ b. (if b then 1 else 0) + count_in l (links_of rs)) (same-link_self l) in
          let none : length (mail l) ≡ 0 = ap length e in
          absurd (omega (arith, n, one, none))
      by_mail (m ∷ ms) e =
          let same : record { link = l; message = m } ∷ map received (arrivals i (taken l mail) (links_of rs)) ≡ r ∷ rs =
          sym (ap (map received) (brings_first i mail l m ms to e (links_of rs))) ∙ whole.come in
          let head : record { link = l; message = m } ≡ r = cc in
          let tail : map received (arrivals i (taken l mail) (links_of rs)) ≡ rs = cc in
          let message : m ≡ r.message = ap (λ (v : Received). v.message) head in
          (ms, e ∙ ap (λ v. v ∷ ms) message, tail)

  abbrev ms : List (List ℕ)
  ms = front.0

  there : mail l ≡ r.message ∷ ms
  there = front.1

  left : (k : Link) → receiver_of k ≡ i → count_in k (links_of rs) ≡ length (taken l mail k)
  left k into = by_link (same_link l k) refl (whole.all k into)
    where
      by_link : (b : Bool) → same_link l k ≡ b → (if same_link l k then 1 else 0) + count_in k (links_of rs) ≡ length (mail k)
          → count_in k (links_of rs) ≡ length (taken l mail k)
      by_link true g n =
          let here : mail k ≡ r.message ∷ ms = ap mail (sym (same-link_is l k g)) ∙ there in
          let one : 1 + count_in k (links_of rs) ≡ length (mail k) = sym (ap (λ b. (if b then 1 else 0) + count_in k (links_of rs)) g) ∙ n in
          let whole_is : length (mail k) ≡ length (r.message ∷ ms) = ap length here in
          let rest : length (drop 1 (mail k)) ≡ length ms = ap (λ v. length (drop 1 v)) here in
          let less : count_in k (links_of rs) ≡ length (drop 1 (mail k)) = omega (arith, one, whole_is, rest) in
          less ∙ sym (ap (λ b. length (if b then drop 1 (mail k) else mail k)) g)
      by_link false g n =
          let none : 0 + count_in k (links_of rs) ≡ length (mail k) = sym (ap (λ b. (if b then 1 else 0) + count_in k (links_of rs)) g) ∙ n in
          let same : count_in k (links_of rs) ≡ length (mail k) = omega (arith, none) in
          same ∙ sym (ap (λ b. length (if b then drop 1 (mail k) else mail k)) g)

  rest_whole : IsWhole i (taken l mail) rs
  rest_whole = record { come = front.2; own = whole.own.1; all = left }

  is_there : is_next r.message (mail l) ≡ true
  is_there = ap (is_next r.message) there ∙ (bytes_eq-Decides r.message r.message).1 refl

  module _ (later : wrong_at i (taken l mail (from_previous i)) (taken l mail (from_next i)) rs ≡ None) where
    abbrev first_test : Bool
    first_test = same_link l (from_previous i) && is_next r.message (mail (from_previous i))

    abbrev second_test : Bool
    second_test = same_link l (from_next i) && is_next r.message (mail (from_next i))

    abbrev answer : Bool → Bool → Option ℕ
    answer a b =
        if a then one_later (wrong_at i (rest_of (mail (from_previous i))) (mail (from_next i)) rs)
        else if b then one_later (wrong_at i (mail (from_previous i)) (rest_of (mail (from_next i))) rs)
        else Some 0

    of_first : l ≡ from_previous i → answer first_test second_test ≡ None
    of_first is =
        let same : same_link l (from_previous i) ≡ true = ap (λ k. same_link k (from_previous i)) is ∙ same-link_self (from_previous i) in
        let here : is_next r.message (mail (from_previous i)) ≡ true = ap (λ k. is_next r.message (mail k)) (sym is) ∙ is_there in
        let none : wrong_at i (rest_of (mail (from_previous i))) (mail (from_next i)) rs ≡ None =
        sym (ap (λ v. wrong_at i v (taken l mail (from_next i)) rs) (ap (λ k. taken k mail (from_previous i)) is ∙ taken_first i mail)
        ∙ ap (λ v. wrong_at i (rest_of (mail (from_previous i))) v rs) (ap (λ k. taken k mail (from_next i)) is ∙ first_keeps i mail)) ∙ later in
        ap (λ a. answer a second_test) (and_from (same_link l (from_previous i)) (is_next r.message (mail (from_previous i))) same here)
        ∙ ap one_later none

    of_second : l ≡ from_next i → answer first_test second_test ≡ None
    of_second is =
        let other : same_link l (from_previous i) ≡ false = ap (λ k. same_link k (from_previous i)) is ∙ next_not_previous i in
        let same : same_link l (from_next i) ≡ true = ap (λ k. same_link k (from_next i)) is ∙ same-link_self (from_next i) in
        let here : is_next r.message (mail (from_next i)) ≡ true = ap (λ k. is_next r.message (mail k)) (sym is) ∙ is_there in
        let none : wrong_at i (mail (from_previous i)) (rest_of (mail (from_next i))) rs ≡ None =
        sym (ap (λ v. wrong_at i v (taken l mail (from_next i)) rs) (ap (λ k. taken k mail (from_previous i)) is ∙ second_keeps i mail)
        ∙ ap (λ v. wrong_at i (mail (from_previous i)) v rs) (ap (λ k. taken k mail (from_next i)) is ∙ taken_second i mail)) ∙ later in
        ap (λ a. answer a second_test) (and_left (same_link l (from_previous i)) (is_next r.message (mail (from_previous i))) other)
        ∙ ap (λ b. answer false b) (and_from (same_link l (from_next i)) (is_next r.message (mail (from_next i))) same here)
        ∙ ap one_later none

    next_one : wrong_at i (mail (from_previous i)) (mail (from_next i)) (r ∷ rs) ≡ None
    next_one = by_link (two_links l)
      where
        by_link : (l ≡ from_previous (receiver_of l)) ⊎ (l ≡ from_next (receiver_of l)) → answer first_test second_test ≡ None
        by_link (inl is) = of_first (is ∙ ap from_previous to)
        by_link (inr is) = of_second (is ∙ ap from_next to)

pub none_wrong : (i : Number) (got : List Received) (mail : Mail) → IsWhole i mail got → wrong_at i (mail (from_previous i)) (mail (from_next i)) got ≡ None
none_wrong i [] mail whole =
    ap (λ b. if b then None else Some 0)
    (and_from (none_left (mail (from_previous i))) (none_left (mail (from_next i)))
    (empty_from (mail (from_previous i)) (whole.all (from_previous i) (previous_into i)))
    (empty_from (mail (from_next i)) (whole.all (from_next i) (next_into i))))
none_wrong i (r ∷ rs) mail whole =
    next_one i mail r rs whole (none_wrong i rs (taken r.link mail) (rest_whole i mail r rs whole))
