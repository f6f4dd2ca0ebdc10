-- Where no miner's next entry can be delivered, no schedule within the three orders goes further.
use Rattle.std.proofs.Common.{◌≡◌, ◌<◌, ◌+◌, ◌⊎◌, inl, inr, ℕ, Bool, true, false, if◌then◌else◌, List, [], ◌∷◌, ◌++◌, length}
use Rattle.std.proofs.Common.{refl, sym, ◌∙◌, ap, subst, arith, append_assoc, ◌↔◌}
use Rattle.proto_core.specs.declared.party.Number.{Number}
use Rattle.proto_core.specs.declared.link.Link.{Link}
use Rattle.proto_core.specs.Parties.{receiver_of, is_same}
use Rattle.proto_core.specs.Script.{Move}
use Rattle.proto_core.specs.Strand.{Begins}
use Rattle.proto_core.proofs.Beginnings.{append-none, begins-append, begins-trans, begins-under}
use Rattle.proto_core.proofs.Numbers.{same_is}
use Rattle.protocol_model.specs.Network.{Counts, is_full, none_delivered, one_more}
use Rattle.merged_orders.specs.Merging.{with_all, count_in, links_to, Orders, Passes, Reaches, IsBlocked, Stuck, Within}
use Rattle.merged_orders.proofs.Numbers.{Few, begins_counts, begins_long, with_all_counts, full_stays, links_to_counts}

-- ---- entries after others

pub links_to_append : (i : Number) (xs ys : List Link) → links_to i (xs ++ ys) ≡ links_to i xs ++ links_to i ys
links_to_append i [] ys = refl
links_to_append i (x ∷ xs) ys = by_test (is_same (receiver_of x) i) (links_to_append i xs ys)
  where
    by_test :
        (b : Bool) → links_to i (xs ++ ys) ≡ links_to i xs ++ links_to i ys
        → (if b then x ∷ links_to i (xs ++ ys) else links_to i (xs ++ ys)) ≡ (if b then x ∷ links_to i xs else links_to i xs) ++ links_to i ys
    by_test true e = ap (λ v. x ∷ v) e
    by_test false e = e

with_all_more : (got : Counts) (xs : List Link) (l : Link) → with_all got (xs ++ l ∷ []) ≡ one_more l (with_all got xs)
with_all_more got [] l = refl
with_all_more got (x ∷ xs) l = with_all_more (one_more x got) xs l

-- one entry more, of two lists of which the first begins the second: it is the second's, or the second ends here
one_further :
    (l : Link) (xs ys zs : List Link) → Begins xs ys → Begins (xs ++ l ∷ []) (ys ++ zs) → Begins (xs ++ l ∷ []) ys ⊎ ((xs ≡ ys) × Begins (l ∷ []) zs)
one_further l [] [] zs h k = inr (refl, k)
one_further l [] (y ∷ ys) zs h k = inl (k.0, tt)
one_further l (x ∷ xs) [] zs h k = absurd h
one_further l (x ∷ xs) (y ∷ ys) zs h k = longer (one_further l xs ys zs h.1 k.1)
  where
    longer : Begins (xs ++ l ∷ []) ys ⊎ ((xs ≡ ys) × Begins (l ∷ []) zs) → Begins (x ∷ xs ++ l ∷ []) (y ∷ ys) ⊎ ((x ∷ xs ≡ y ∷ ys) × Begins (l ∷ []) zs)
    longer (inl b) = inl (h.0, b)
    longer (inr e) = inr (ap (λ v. v ∷ xs) h.0 ∙ ap (λ vs. y ∷ vs) e.0, e.1)

-- the first of those that are left can't be delivered
blocked_first : (scripts : Number → List Move) (got : Counts) (l : Link) (left : List Link) → IsBlocked scripts got left → Begins (l ∷ []) left
    → is_full scripts got l ≡ false
blocked_first scripts got l [] h b = absurd b
blocked_first scripts got l (z ∷ zs) h b = ap (is_full scripts got) b.0 ∙ h

module _ (scripts : Number → List Move) (orders : Orders) (ls : List Link) (left : Orders) (s : Stuck scripts orders ls left) where
  abbrev final : Counts
  final = with_all none_delivered ls

  -- ---- one entry more of another schedule

  module _ (before : List Link) (l : Link) (sofar : (i : Number) → Begins (links_to i before) (links_to i ls)) where
    abbrev got : Counts
    got = with_all none_delivered before

    -- what it has delivered, the stuck one has too
    few : Few got final
    few k =
        let a : got k ≡ 0 + count_in k before = with_all_counts none_delivered before k in
        let b : final k ≡ 0 + count_in k ls = with_all_counts none_delivered ls k in
        let c = links_to_counts k before in
        let d = links_to_counts k ls in
        let e = begins_counts k (links_to (receiver_of k) before) (links_to (receiver_of k) ls) (sofar (receiver_of k)) in
        omega arith

    -- and as many of this link, where its receiver has come as far
    as_far : links_to (receiver_of l) before ≡ links_to (receiver_of l) ls → got l ≡ final l
    as_far e =
        let a : got l ≡ 0 + count_in l before = with_all_counts none_delivered before l in
        let b : final l ≡ 0 + count_in l ls = with_all_counts none_delivered ls l in
        let c = links_to_counts l before in
        let d = links_to_counts l ls in
        let f : count_in l (links_to (receiver_of l) before) ≡ count_in l (links_to (receiver_of l) ls) = ap (count_in l) e in
        omega arith

    here : is_full scripts got l ≡ true → Begins (links_to (receiver_of l) before ++ l ∷ []) (orders (receiver_of l))
        → Begins (links_to (receiver_of l) before ++ l ∷ []) (links_to (receiver_of l) ls)
    here full inside =
        by_case
        (one_further l (links_to (receiver_of l) before) (links_to (receiver_of l) ls) (left (receiver_of l)) (sofar (receiver_of l))
        (subst (λ v. Begins (links_to (receiver_of l) before ++ l ∷ []) v) (sym (s.parts (receiver_of l))) inside))
      where
        by_case :
            Begins (links_to (receiver_of l) before ++ l ∷ []) (links_to (receiver_of l) ls)
            ⊎ ((links_to (receiver_of l) before ≡ links_to (receiver_of l) ls) × Begins (l ∷ []) (left (receiver_of l)))
            → Begins (links_to (receiver_of l) before ++ l ∷ []) (links_to (receiver_of l) ls)
        by_case (inl b) = b
        by_case (inr e) =
            let stays : is_full scripts final l ≡ true = full_stays scripts got final l few (as_far e.0) full in
            let stops : is_full scripts final l ≡ false = blocked_first scripts final l (left (receiver_of l)) (s.blocked (receiver_of l)) e.1 in
            let clash : true ≡ false = sym stays ∙ stops in
            cc

    next : (rest : List Link) → is_full scripts got l ≡ true → Within orders (before ++ l ∷ rest) → (i : Number)
        → Begins (links_to i (before ++ l ∷ [])) (links_to i ls)
    next rest full within i = subst (λ v. Begins v (links_to i ls)) (sym (links_to_append i before (l ∷ []))) (by_receiver (is_same (receiver_of l) i) refl)
      where
        inside : Begins (links_to i before ++ links_to i (l ∷ rest)) (orders i)
        inside = subst (λ v. Begins v (orders i)) (links_to_append i before (l ∷ rest)) (within i)

        by_receiver : (b : Bool) → is_same (receiver_of l) i ≡ b → Begins (links_to i before ++ links_to i (l ∷ [])) (links_to i ls)
        by_receiver false e =
            subst (λ b. Begins (links_to i before ++ (if b then l ∷ [] else [])) (links_to i ls)) (sym e)
            (subst (λ v. Begins v (links_to i ls)) (sym (append-none (links_to i before))) (sofar i))
        by_receiver true e =
            let to : receiver_of l ≡ i = same_is (receiver_of l) i e in
            let first : Begins (links_to i before ++ l ∷ links_to i rest) (orders i) =
            subst (λ b. Begins (links_to i before ++ (if b then l ∷ links_to i rest else links_to i rest)) (orders i)) e inside in
            let one : Begins (links_to i before ++ l ∷ []) (orders i) =
            begins-trans (links_to i before ++ l ∷ []) (links_to i before ++ l ∷ links_to i rest) (orders i)
            (begins-under (links_to i before) (l ∷ []) (l ∷ links_to i rest) (refl, tt)) first in
            subst (λ b. Begins (links_to i before ++ (if b then l ∷ [] else [])) (links_to i ls)) (sym e)
            (subst (λ k. Begins (links_to k before ++ l ∷ []) (links_to k ls)) to
            (here full (subst (λ k. Begins (links_to k before ++ l ∷ []) (orders k)) (sym to) one)))

  -- ---- all of it

  go : (before rest : List Link) → Passes scripts (with_all none_delivered before) rest → ((i : Number) → Begins (links_to i before) (links_to i ls))
      → Within orders (before ++ rest) → (i : Number) → Begins (links_to i (before ++ rest)) (links_to i ls)
  go before [] p sofar within i = subst (λ v. Begins (links_to i v) (links_to i ls)) (sym (append-none before)) (sofar i)
  go before (l ∷ rest) p sofar within i =
      let same : (before ++ l ∷ []) ++ rest ≡ before ++ l ∷ rest = append_assoc before (l ∷ []) rest in
      subst (λ v. Begins (links_to i v) (links_to i ls)) same
      (go (before ++ l ∷ []) rest (subst (λ c. Passes scripts c rest) (sym (with_all_more none_delivered before l)) p.1)
      (next before l sofar rest p.0 within)
      (subst (Within orders) (sym same) within) i)

  pub furthest : (other : List Link) → Passes scripts none_delivered other → Within orders other → (i : Number) → Begins (links_to i other) (links_to i ls)
  furthest other p within i = go [] other p (λ k. tt) within i

  pub within_itself : Within orders ls
  within_itself i = subst (Begins (links_to i ls)) (s.parts i) (begins-append (links_to i ls) (left i))

  pub is_reached : (i : Number) (place : ℕ) → Reaches scripts orders i place ↔ (place < length (links_to i ls))
  is_reached i place = (there, back)
    where
      there : Reaches scripts orders i place → place < length (links_to i ls)
      there r =
          let a = r.beyond in
          let b = begins_long (links_to i r.schedule) (links_to i ls) (furthest r.schedule r.passes r.within i) in
          omega arith

      back : place < length (links_to i ls) → Reaches scripts orders i place
      back h = record { schedule = ls; passes = s.passes; within = within_itself; beyond = h }
