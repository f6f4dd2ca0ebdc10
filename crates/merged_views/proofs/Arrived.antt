-- The links of what a schedule brings a miner are its entries that lead to it.
use Rattle.std.proofs.Common.{◌≡◌, ℕ, ◌+◌, ◌≤◌, Bool, true, false, if◌then◌else◌, List, [], ◌∷◌, length, drop, map, refl, sym, ap, subst, arith}
use Rattle.proto_core.specs.declared.party.Number.{Number}
use Rattle.proto_core.specs.declared.link.Link.{Link}
use Rattle.proto_core.specs.Parties.{receiver_of, is_same}
use Rattle.proto_core.specs.Strand.{same_link, Mail, taken}
use Rattle.proto_core.proofs.Numbers.{same_is}
use Rattle.proto_core.proofs.Strands.{same-link_self}
use Rattle.protocol_model.specs.Arrivals.{arrivals, oldest_then}
use Rattle.merged_orders.specs.Merging.{count_in, links_to}
use Rattle.merged_views.specs.Brought.{links_of, received}
use Rattle.merged_views.proofs.Whole.{AllInto}

-- each link has as many messages as entries, or more
abbrev pub Enough : List Link → Mail → Type 0
Enough ls mail = (l : Link) → count_in l ls ≤ length (mail l)

rest_long : (xs : List (List ℕ)) (n : ℕ) → 1 + n ≤ length xs → n ≤ length (drop 1 xs)
rest_long [] n h = absurd (omega arith)
rest_long (x ∷ xs) n h = omega arith

module _ (l : Link) (ls : List Link) (mail : Mail) (enough : Enough (l ∷ ls) mail) where
  enough_left : Enough ls (taken l mail)
  enough_left k = by_link (same_link l k) refl (enough k)
    where
      by_link : (b : Bool) → same_link l k ≡ b → (if same_link l k then 1 else 0) + count_in k ls ≤ length (mail k) → count_in k ls ≤ length (taken l mail k)
      by_link true g h =
          subst (λ b. count_in k ls ≤ length (if b then drop 1 (mail k) else mail k)) (sym g)
          (rest_long (mail k) (count_in k ls) (subst (λ b. (if b then 1 else 0) + count_in k ls ≤ length (mail k)) g h))
      by_link false g h =
          subst (λ b. count_in k ls ≤ length (if b then drop 1 (mail k) else mail k)) (sym g)
          (let few : 0 + count_in k ls ≤ length (mail k) = subst (λ b. (if b then 1 else 0) + count_in k ls ≤ length (mail k)) g h in omega (arith, few))

  -- so one is there
  one_there : 1 ≤ length (mail l)
  one_there =
      let few : 1 + count_in l ls ≤ length (mail l) = subst (λ b. (if b then 1 else 0) + count_in l ls ≤ length (mail l)) (same-link_self l) (enough l) in
      omega (arith, few)

pub own_links : (i : Number) (ls : List Link) (mail : Mail) → Enough ls mail → links_of (map received (arrivals i mail ls)) ≡ links_to i ls
own_links i [] mail enough = refl
own_links i (l ∷ ls) mail enough =
    by_receiver (is_same (receiver_of l) i) (own_links i ls (taken l mail) (enough_left l ls mail enough)) (mail l) (one_there l ls mail enough)
  where
    by_receiver :
        (b : Bool) → links_of (map received (arrivals i (taken l mail) ls)) ≡ links_to i ls → (xs : List (List ℕ)) → 1 ≤ length xs
        → links_of (map received (if b then oldest_then l xs (arrivals i (taken l mail) ls) else arrivals i (taken l mail) ls))
        ≡ (if b then l ∷ links_to i ls else links_to i ls)
    by_receiver true later [] h = absurd (omega arith)
    by_receiver true later (x ∷ xs) h = ap (λ v. l ∷ v) later
    by_receiver false later xs h = later

pub all_into : (i : Number) (ls : List Link) → AllInto i (links_to i ls)
all_into i [] = tt
all_into i (l ∷ ls) = by_receiver (is_same (receiver_of l) i) refl (all_into i ls)
  where
    by_receiver : (b : Bool) → is_same (receiver_of l) i ≡ b → AllInto i (links_to i ls)
        → AllInto i (if is_same (receiver_of l) i then l ∷ links_to i ls else links_to i ls)
    by_receiver true e later = subst (λ b. AllInto i (if b then l ∷ links_to i ls else links_to i ls)) (sym e) (same_is (receiver_of l) i e, later)
    by_receiver false e later = subst (λ b. AllInto i (if b then l ∷ links_to i ls else links_to i ls)) (sym e) later
