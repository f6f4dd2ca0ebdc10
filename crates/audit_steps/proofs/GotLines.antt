-- A walk over the `got` lines of a view.
use Rattle.std.proofs.Common.{◌≡◌, ℕ, zero, suc, ◌+◌, ◌<◌, ◌≤◌, ◌&&◌, Bool}
use Rattle.std.proofs.Common.{true, false, if◌then◌else◌, List, [], ◌∷◌, length, drop, get_or, Option, Some, None}
use Rattle.std.proofs.Common.{refl, sym, ◌∙◌, ap, subst, arith, ◌⊎◌, inl, inr}
use Rattle.std.specs.Prelude.{slice_get}
use Rattle.std.specs.Bool.{Decides}
use Rattle.std.specs.Str.{bytes_eq}
use Rattle.std.proofs.lemmas.Slice.Eq.{bytes_eq-Decides}
use Rattle.std.proofs.lemmas.List.{drop_all, drop_more}
use Rattle.proto_core.specs.declared.party.Number.{Number}
use Rattle.proto_core.specs.Parties.{from_previous, from_next}
use Rattle.proto_core.specs.Strand.{rest_of, same_link}
use Rattle.view_text.specs.View.{Received}
use Rattle.audit_steps.specs.Places.{one_later}
use Rattle.audit_steps.specs.Messages.{is_next, none_left, wrong_at}
use Rattle.audit_steps.proofs.Places.{drop_rest, here_first, later_by, later_none, one_more}

-- ---- tests

-- a test that says whether two lists are the same
pub tests_same : (b : Bool) (xs ys : List ℕ) → Decides b (xs ≡ ys) → b ≡ bytes_eq xs ys
tests_same true xs ys h = sym ((bytes_eq-Decides xs ys).1 (h.0 refl))
tests_same false xs ys h = by_test (bytes_eq xs ys) refl
  where
    by_test : (b : Bool) → bytes_eq xs ys ≡ b → false ≡ bytes_eq xs ys
    by_test false e = sym e
    by_test true e = let clash : false ≡ true = h.1 ((bytes_eq-Decides xs ys).0 e) in absurd cc

pub next_some : (ms : List (List ℕ)) (place : ℕ) (m words : List ℕ) (b : Bool) → slice_get ms place ≡ Some m → b ≡ bytes_eq m words
    → b ≡ is_next words (drop place ms)
next_some [] place m words b at e = absurd cc
next_some (x ∷ xs) zero m words b at e = let is : m ≡ x = cc in e ∙ ap (λ v. bytes_eq v words) is
next_some (x ∷ xs) (suc place) m words b at e = next_some xs place m words b at e

pub next_none : (ms : List (List ℕ)) (place : ℕ) (words : List ℕ) → slice_get ms place ≡ None → false ≡ is_next words (drop place ms)
next_none [] zero words at = refl
next_none [] (suc place) words at = refl
next_none (x ∷ xs) zero words at = absurd cc
next_none (x ∷ xs) (suc place) words at = next_none xs place words at

-- ---- the walk

module _ (i : Number) (previous next : List (List ℕ)) (got : List Received) (n p q : ℕ) (d : Received) (below : n < length got) where
  abbrev r : Received
  r = get_or got n d

  abbrev left_at : (p q n : ℕ) → Option ℕ
  left_at p q n = later_by n (wrong_at i (drop p previous) (drop q next) (drop n got))

  opened : left_at p q n ≡ later_by n (wrong_at i (drop p previous) (drop q next) (r ∷ drop (n + 1) got))
  opened = ap (λ l. later_by n (wrong_at i (drop p previous) (drop q next) l)) (drop_more got n d below)

  pub from_first : (same_link r.link (from_previous i) && is_next r.message (drop p previous)) ≡ true → left_at p q n ≡ left_at (p + 1) q (n + 1)
  from_first e =
      opened
      ∙ ap (λ b. later_by n (if b then one_later (wrong_at i (rest_of (drop p previous)) (drop q next) (drop (n + 1) got))
      else if same_link r.link (from_next i) && is_next r.message (drop q next)
      then one_later (wrong_at i (drop p previous) (rest_of (drop q next)) (drop (n + 1) got)) else Some 0)) e
      ∙ one_more n (wrong_at i (rest_of (drop p previous)) (drop q next) (drop (n + 1) got))
      ∙ ap (λ l. later_by (n + 1) (wrong_at i l (drop q next) (drop (n + 1) got))) (drop_rest previous p)

  pub from_second : (same_link r.link (from_previous i) && is_next r.message (drop p previous)) ≡ false
      → (same_link r.link (from_next i) && is_next r.message (drop q next)) ≡ true → left_at p q n ≡ left_at p (q + 1) (n + 1)
  from_second e f =
      opened
      ∙ ap (λ b. later_by n (if b then one_later (wrong_at i (rest_of (drop p previous)) (drop q next) (drop (n + 1) got))
      else if same_link r.link (from_next i) && is_next r.message (drop q next)
      then one_later (wrong_at i (drop p previous) (rest_of (drop q next)) (drop (n + 1) got)) else Some 0)) e
      ∙ ap (λ b. later_by n (if b then one_later (wrong_at i (drop p previous) (rest_of (drop q next)) (drop (n + 1) got)) else Some 0)) f
      ∙ one_more n (wrong_at i (drop p previous) (rest_of (drop q next)) (drop (n + 1) got))
      ∙ ap (λ l. later_by (n + 1) (wrong_at i (drop p previous) l (drop (n + 1) got))) (drop_rest next q)

  pub from_none : (same_link r.link (from_previous i) && is_next r.message (drop p previous)) ≡ false
      → (same_link r.link (from_next i) && is_next r.message (drop q next)) ≡ false → left_at p q n ≡ Some n
  from_none e f =
      opened
      ∙ ap (λ b. later_by n (if b then one_later (wrong_at i (rest_of (drop p previous)) (drop q next) (drop (n + 1) got))
      else if same_link r.link (from_next i) && is_next r.message (drop q next)
      then one_later (wrong_at i (drop p previous) (rest_of (drop q next)) (drop (n + 1) got)) else Some 0)) e
      ∙ ap (λ b. later_by n (if b then one_later (wrong_at i (drop p previous) (rest_of (drop q next)) (drop (n + 1) got)) else Some 0)) f
      ∙ here_first n

-- ---- the end

left_none : (ms : List (List ℕ)) (n : ℕ) → n ≡ length ms → none_left (drop n ms) ≡ true
left_none ms n e = ap none_left (drop_all n ms (omega arith))

left_some : (ms : List (List ℕ)) (n : ℕ) → n < length ms → none_left (drop n ms) ≡ false
left_some [] n h = absurd (omega arith)
left_some (m ∷ ms) zero h = refl
left_some (m ∷ ms) (suc n) h = left_some ms n (omega arith)

pub next_there : (ms : List (List ℕ)) (place : ℕ) (words : List ℕ) → is_next words (drop place ms) ≡ true → place < length ms
next_there [] zero words e = absurd cc
next_there [] (suc place) words e = absurd cc
next_there (m ∷ ms) zero words e = omega arith
next_there (m ∷ ms) (suc place) words e = let h = next_there ms place words e in omega arith

-- how far the walk has come
pub record Walked (i : Number) (previous next : List (List ℕ)) (got : List Received) (n p q : ℕ) : Type 0 where
  pub so_far : wrong_at i previous next got ≡ later_by n (wrong_at i (drop p previous) (drop q next) (drop n got))
  pub first : p ≤ length previous
  pub second : q ≤ length next
  pub counted : p + q ≡ n

pub walked_none : (i : Number) (previous next : List (List ℕ)) (got : List Received) → Walked i previous next got 0 0 0
walked_none i previous next got =
    record { so_far = later_none (wrong_at i previous next got); first = omega arith; second = omega arith; counted = omega arith }

module _ (i : Number) (previous next : List (List ℕ)) (got : List Received) (n p q : ℕ) (w : Walked i previous next got n p q) where
  -- all that came was right
  pub walked_end : length got ≤ n → wrong_at i previous next got ≡ later_by n (if none_left (drop p previous) && none_left (drop q next) then None else Some 0)
  walked_end le = w.so_far ∙ ap (λ l. later_by n (wrong_at i (drop p previous) (drop q next) l)) (drop_all n got le)

  pub all_right : length got ≤ n → p ≡ length previous → q ≡ length next → wrong_at i previous next got ≡ None
  all_right le e f =
      walked_end le
      ∙ ap (λ b. later_by n (if b && none_left (drop q next) then None else Some 0)) (left_none previous p e)
      ∙ ap (λ b. later_by n (if b then None else Some 0)) (left_none next q f)

  pub some_left : length got ≤ n → (p < length previous) ⊎ (q < length next) → wrong_at i previous next got ≡ Some n
  some_left le (inl h) =
      walked_end le
      ∙ ap (λ b. later_by n (if b && none_left (drop q next) then None else Some 0)) (left_some previous p h)
      ∙ here_first n
  some_left le (inr h) =
      walked_end le
      ∙ ap (λ b. later_by n (if none_left (drop p previous) && b then None else Some 0)) (left_some next q h)
      ∙ by_test (none_left (drop p previous))
      ∙ here_first n
    where
      by_test : (b : Bool) → later_by n (if b && false then None else Some 0) ≡ later_by n (Some 0)
      by_test true = refl
      by_test false = refl

  module _ (d : Received) (below : n < length got) where
    abbrev came : Received
    came = get_or got n d

    pub takes_first : same_link came.link (from_previous i) ≡ true → is_next came.message (drop p previous) ≡ true
        → Walked i previous next got (n + 1) (p + 1) q
    takes_first e f =
        let there = next_there previous p came.message f in
        let le = w.second in
        let all = w.counted in
        record {
          so_far = w.so_far ∙ from_first i previous next got n p q d below (ap (λ b. b && is_next came.message (drop p previous)) e ∙ f);
          first = omega arith;
          second = le;
          counted = omega arith;
        }

    pub takes_second : (same_link came.link (from_previous i) && is_next came.message (drop p previous)) ≡ false → same_link came.link (from_next i) ≡ true
        → is_next came.message (drop q next) ≡ true → Walked i previous next got (n + 1) p (q + 1)
    takes_second e f g =
        let there = next_there next q came.message g in
        let le = w.first in
        let all = w.counted in
        record {
          so_far = w.so_far ∙ from_second i previous next got n p q d below e (ap (λ b. b && is_next came.message (drop q next)) f ∙ g);
          first = le;
          second = omega arith;
          counted = omega arith;
        }

    pub stops : (same_link came.link (from_previous i) && is_next came.message (drop p previous)) ≡ false
        → (same_link came.link (from_next i) && is_next came.message (drop q next)) ≡ false → wrong_at i previous next got ≡ Some n
    stops e f = w.so_far ∙ from_none i previous next got n p q d below e f

    pub took_first : (p' q' : ℕ) → p' ≡ p + 1 → q' ≡ q → same_link came.link (from_previous i) ≡ true → is_next came.message (drop p previous) ≡ true
        → Walked i previous next got (n + 1) p' q'
    took_first p' q' a b e f =
        subst (λ k. Walked i previous next got (n + 1) k q') (sym a) (subst (λ k. Walked i previous next got (n + 1) (p + 1) k) (sym b) (takes_first e f))

    pub took_second : (p' q' : ℕ) → p' ≡ p → q' ≡ q + 1 → (same_link came.link (from_previous i) && is_next came.message (drop p previous)) ≡ false
        → same_link came.link (from_next i) ≡ true → is_next came.message (drop q next) ≡ true → Walked i previous next got (n + 1) p' q'
    took_second p' q' a b e f g =
        subst (λ k. Walked i previous next got (n + 1) k q') (sym a) (subst (λ k. Walked i previous next got (n + 1) p k) (sym b) (takes_second e f g))

  pub walk_first : (r d : Received) (p' q' : ℕ) → n < length got → r ≡ get_or got n d → p' ≡ p + 1 → q' ≡ q → same_link r.link (from_previous i) ≡ true
      → is_next r.message (drop p previous) ≡ true → Walked i previous next got (n + 1) p' q'
  walk_first r d p' q' below at a b e f =
      took_first d below p' q' a b (sym (ap (λ v. same_link v.link (from_previous i)) at) ∙ e) (sym (ap (λ v. is_next v.message (drop p previous)) at) ∙ f)

  pub walk_second : (r d : Received) (p' q' : ℕ) → n < length got → r ≡ get_or got n d → p' ≡ p → q' ≡ q + 1
      → (same_link r.link (from_previous i) && is_next r.message (drop p previous)) ≡ false → same_link r.link (from_next i) ≡ true
      → is_next r.message (drop q next) ≡ true → Walked i previous next got (n + 1) p' q'
  walk_second r d p' q' below at a b e f g =
      took_second d below p' q' a b (sym (ap (λ v. same_link v.link (from_previous i) && is_next v.message (drop p previous)) at) ∙ e)
      (sym (ap (λ v. same_link v.link (from_next i)) at) ∙ f) (sym (ap (λ v. is_next v.message (drop q next)) at) ∙ g)
