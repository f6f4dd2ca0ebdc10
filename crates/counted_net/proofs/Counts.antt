-- Numbers of messages, link by link.
use Rattle.std.proofs.Common.{◌≡◌, ◌≤◌, ◌<◌, ◌+◌, ℕ, zero, suc, pred, Bool, true, false, if◌then◌else◌, List, [], ◌∷◌, ◌++◌, length}
use Rattle.std.proofs.Common.{refl, sym, ◌∙◌, ap, subst, arith, add-zero}
use Rattle.proto_core.specs.declared.party.Number.{Number}
use Rattle.proto_core.specs.declared.link.Link.{Link}
use Rattle.proto_core.specs.declared.link.Link.TheVariants.{Link12, Link13, Link21, Link23, Link31, Link32}
use Rattle.proto_core.specs.Parties.{receiver_of, is_same}
use Rattle.proto_core.specs.Strand.{same_link}
use Rattle.proto_core.proofs.Strands.{same-link_is}
use Rattle.protocol_model.specs.Network.{Counts, into_counts, none_delivered, one_less, one_more, total}
use Rattle.protocol_model.proofs.MadeOrders.{total-more}
use Rattle.counted_net.specs.Cursors.{both}
use Rattle.counted_net.specs.Nets.{got_of, with_all}

pub same_turned : (l k : Link) → same_link l k ≡ same_link k l
same_turned Link12 Link12 = refl
same_turned Link13 Link13 = refl
same_turned Link21 Link21 = refl
same_turned Link23 Link23 = refl
same_turned Link31 Link31 = refl
same_turned Link32 Link32 = refl
same_turned _ _ = refl

-- ---- one more, one less

pub both_none : (x : Counts) → both x none_delivered ≡ x
both_none x = λ d. λ l. add-zero (x l) d

-- what comes more comes first or last
pub more_first : (l : Link) (x y : Counts) → both (one_more l x) y ≡ both x (one_more l y)
more_first l x y = λ d. λ k. at_link k d
  where
    at_link : (k : Link) → both (one_more l x) y k ≡ both x (one_more l y) k
    at_link k = elim (same_link l k) as (λ b. (if b then x k + 1 else x k) + y k ≡ x k + (if b then y k + 1 else y k)) [ true ↦ omega arith | false ↦ refl ]

less_of_sum : (n m : ℕ) → 0 < n → pred (n + m) ≡ pred n + m
less_of_sum zero m h = absurd (omega (arith, h))
less_of_sum (suc n) m h = let e : suc n + m ≡ suc (n + m) = omega arith in ap pred e

pub less_first : (l : Link) (x y : Counts) → 0 < x l → one_less l (both x y) ≡ both (one_less l x) y
less_first l x y h = λ d. λ k. at_link k (same_link l k) refl d
  where
    at_link : (k : Link) (b : Bool) → same_link l k ≡ b → one_less l (both x y) k ≡ both (one_less l x) y k
    at_link k true e =
        ap (λ b. if b then pred (x k + y k) else x k + y k) e
        ∙ less_of_sum (x k) (y k) (subst (λ j. 0 < x j) (same-link_is l k e) h)
        ∙ sym (ap (λ b. (if b then pred (x k) else x k) + y k) e)
    at_link k false e =
        ap (λ b. if b then pred (x k + y k) else x k + y k) e ∙ sym (ap (λ b. (if b then pred (x k) else x k) + y k) e)

pub more_is_few : (l : Link) (x : Counts) (k : Link) → one_more l x k ≤ x k + 1
more_is_few l x k = elim (same_link l k) as (λ b. (if b then x k + 1 else x k) ≤ x k + 1) [ true ↦ omega arith | false ↦ omega arith ]

pub no_fewer : (l : Link) (x : Counts) (k : Link) → x k ≤ one_more l x k
no_fewer l x k = elim (same_link l k) as (λ b. x k ≤ (if b then x k + 1 else x k)) [ true ↦ omega arith | false ↦ omega arith ]

pub more_of_few : (l : Link) (x y : Counts) (k : Link) → x k ≤ y k → one_more l x k ≤ one_more l y k
more_of_few l x y k h =
    elim (same_link l k) as (λ b. (if b then x k + 1 else x k) ≤ (if b then y k + 1 else y k)) [ true ↦ omega arith | false ↦ h ]

less_of_few : (n m : ℕ) → n ≤ m → pred n ≤ m
less_of_few zero m h = h
less_of_few (suc n) m h = omega arith

pub less_is_few : (l : Link) (x y : Counts) (k : Link) → x k ≤ y k → one_less l x k ≤ y k
less_is_few l x y k h = elim (same_link l k) as (λ b. (if b then pred (x k) else x k) ≤ y k) [ true ↦ less_of_few (x k) (y k) h | false ↦ h ]

-- ---- one more comes to its receiver alone

module _ (i : Number) (l : Link) (got : Counts) where
  pub comes_here : is_same (receiver_of l) i ≡ true → into_counts i (one_more l got) ≡ one_more l (into_counts i got)
  comes_here to = λ d. λ k. at_link k (same_link l k) refl d
    where
      at_link : (k : Link) (b : Bool) → same_link l k ≡ b → into_counts i (one_more l got) k ≡ one_more l (into_counts i got) k
      at_link k true e =
          let here : is_same (receiver_of k) i ≡ true = ap (λ j. is_same (receiver_of j) i) (sym (same-link_is l k e)) ∙ to in
          ap (λ b. if b then one_more l got k else 0) here
          ∙ ap (λ b. if b then got k + 1 else got k) e
          ∙ sym (ap (λ b. (if b then got k else 0) + 1) here)
          ∙ sym (ap (λ b. if b then into_counts i got k + 1 else into_counts i got k) e)
      at_link k false e =
          ap (λ b. if is_same (receiver_of k) i then (if b then got k + 1 else got k) else 0) e
          ∙ sym (ap (λ b. if b then into_counts i got k + 1 else into_counts i got k) e)

  pub passes_by : is_same (receiver_of l) i ≡ false → into_counts i (one_more l got) ≡ into_counts i got
  passes_by to = λ d. λ k. at_link k (same_link l k) refl d
    where
      at_link : (k : Link) (b : Bool) → same_link l k ≡ b → into_counts i (one_more l got) k ≡ into_counts i got k
      at_link k true e =
          let here : is_same (receiver_of k) i ≡ false = ap (λ j. is_same (receiver_of j) i) (sym (same-link_is l k e)) ∙ to in
          ap (λ b. if b then one_more l got k else 0) here ∙ sym (ap (λ b. if b then got k else 0) here)
      at_link k false e = ap (λ b. if is_same (receiver_of k) i then (if b then got k + 1 else got k) else 0) e

  pub into_few : (k : Link) → into_counts i got k ≤ got k
  into_few k = elim (is_same (receiver_of k) i) as (λ b. (if b then got k else 0) ≤ got k) [ true ↦ omega arith | false ↦ omega arith ]

-- ---- totals

pub total_few : (x y : Counts) → ((l : Link) → x l ≤ y l) → total x ≤ total y
total_few x y h = by_link (h Link12) (h Link13) (h Link21) (h Link23) (h Link31) (h Link32)
  where
    by_link :
        x Link12 ≤ y Link12 → x Link13 ≤ y Link13 → x Link21 ≤ y Link21 → x Link23 ≤ y Link23 → x Link31 ≤ y Link31 → x Link32 ≤ y Link32
        → total x ≤ total y
    by_link a b c d e f = omega arith

-- none is above, and one is below
pub total_less : (x y : Counts) → ((l : Link) → x l ≤ y l) → (l : Link) → x l < y l → total x < total y
total_less x y h l lt =
    let few = total_few (one_more l x) y (λ k. at_link k (same_link l k) refl) in
    let more = total-more l x in
    omega arith
  where
    at_link : (k : Link) (b : Bool) → same_link l k ≡ b → one_more l x k ≤ y k
    at_link k true e =
        let here = subst (λ j. x j < y j) (same-link_is l k e) lt in
        let is : one_more l x k ≡ x k + 1 = ap (λ b. if b then x k + 1 else x k) e in
        omega arith
    at_link k false e =
        let is : one_more l x k ≡ x k = ap (λ b. if b then x k + 1 else x k) e in
        let few = h k in
        omega arith

-- ---- after deliveries

with_behind : (got : Counts) (xs ys : List Link) → with_all got (xs ++ ys) ≡ with_all (with_all got xs) ys
with_behind got [] ys = refl
with_behind got (x ∷ xs) ys = with_behind (one_more x got) xs ys

pub got_more : (links : List Link) (l : Link) → got_of (links ++ l ∷ []) ≡ one_more l (got_of links)
got_more links l = with_behind none_delivered links (l ∷ [])

with_few : (got : Counts) (links : List Link) (l : Link) → with_all got links l ≤ got l + length links
with_few got [] l = omega arith
with_few got (k ∷ ks) l =
    let rest = with_few (one_more k got) ks l in
    let one = more_is_few k got l in
    omega arith

pub got_few : (links : List Link) (l : Link) → got_of links l ≤ length links
got_few links l = let h = with_few none_delivered links l in omega arith

with_total : (got : Counts) (links : List Link) → total (with_all got links) ≡ total got + length links
with_total got [] = omega arith
with_total got (k ∷ ks) =
    let rest = with_total (one_more k got) ks in
    let one = total-more k got in
    omega arith

pub got_total : (links : List Link) → total (got_of links) ≡ length links
got_total links = let h = with_total none_delivered links in omega arith
