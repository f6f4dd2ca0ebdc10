-- The deliveries that serve the lowest miner first go as far as any.
use Rattle.std.proofs.Common.{◌≡◌, ◌≤◌, ◌+◌, ℕ, zero, suc, Bool, true, false, if◌then◌else◌, List, [], ◌∷◌, ◌++◌, length, refl, sym, ◌∙◌, ap, subst, arith}
use Rattle.proto_core.specs.declared.party.Number.{Number}
use Rattle.proto_core.specs.declared.party.Number.TheVariants.{One, Two, Three}
use Rattle.proto_core.specs.declared.link.Link.{Link}
use Rattle.proto_core.specs.Parties.{is_same, of_three, receiver_of}
use Rattle.proto_core.specs.Script.{Move}
use Rattle.protocol_model.specs.Network.{Counts, is_full, none_delivered, one_more}
use Rattle.merged_orders.specs.Merging.{IsBlocked, Orders, Passes, Stuck, links_to, with_all}
use Rattle.furthest_order.specs.Merged.{can_go_on, first_then, merged, merged_from}
use Rattle.furthest_order.specs.Orders.{AllTo, AreOwn}

-- from so many deliveries and these entries on: the schedule passes, and after it no next entry can be delivered
pub record IsStuckFrom (scripts : Number → List Move) (got : Counts) (orders : Orders) (ls : List Link) : Type 0 where
  pub left : Orders
  pub passes : Passes scripts got ls
  pub parts : (i : Number) → links_to i ls ++ left i ≡ orders i
  pub blocked : (i : Number) → IsBlocked scripts (with_all got ls) (left i)

abbrev three : (one two third : List Link) → Orders
three one two third = of_three one two third

module _ (scripts : Number → List Move) where
  -- ---- nothing goes on

  stands : (got : Counts) (ls : List Link) → can_go_on scripts got ls ≡ false → IsBlocked scripts got ls
  stands got [] e = tt
  stands got (l ∷ ls) e = e

  none_goes : (got : Counts) (a b c : List Link) → can_go_on scripts got a ≡ false → can_go_on scripts got b ≡ false → can_go_on scripts got c ≡ false
      → IsStuckFrom scripts got (three a b c) []
  none_goes got a b c first second third = record { left = three a b c; passes = tt; parts = λ i. refl; blocked = by_number }
    where
      by_number : (i : Number) → IsBlocked scripts got (three a b c i)
      by_number One = stands got a first
      by_number Two = stands got b second
      by_number Three = stands got c third

  empty_stands : (got : Counts) (ls : List Link) → length ls ≡ 0 → can_go_on scripts got ls ≡ false
  empty_stands got [] e = refl
  empty_stands got (l ∷ ls) e = absurd (omega (arith, e))

  -- ---- an entry goes on

  module _ (got : Counts) (l : Link) (full : is_full scripts got l ≡ true) where
    own_link : (i : Number) (to : receiver_of l ≡ i) (ls : List Link) → links_to i (l ∷ ls) ≡ l ∷ links_to i ls
    own_link One to ls = ap (λ j. if is_same j One then l ∷ links_to One ls else links_to One ls) to
    own_link Two to ls = ap (λ j. if is_same j Two then l ∷ links_to Two ls else links_to Two ls) to
    own_link Three to ls = ap (λ j. if is_same j Three then l ∷ links_to Three ls else links_to Three ls) to

    other_link : (i k : Number) (to : receiver_of l ≡ i) → is_same i k ≡ false → (ls : List Link) → links_to k (l ∷ ls) ≡ links_to k ls
    other_link i k to other ls =
        ap (λ j. if is_same j k then l ∷ links_to k ls else links_to k ls) to ∙ ap (λ b. if b then l ∷ links_to k ls else links_to k ls) other

    first_goes : (ls b c rest : List Link) → receiver_of l ≡ One → IsStuckFrom scripts (one_more l got) (three ls b c) rest
        → IsStuckFrom scripts got (three (l ∷ ls) b c) (l ∷ rest)
    first_goes ls b c rest to later = record { left = later.left; passes = (full, later.passes); parts = by_number; blocked = later.blocked }
      where
        by_number : (i : Number) → links_to i (l ∷ rest) ++ later.left i ≡ three (l ∷ ls) b c i
        by_number One = ap (λ v. v ++ later.left One) (own_link One to rest) ∙ ap (λ v. l ∷ v) (later.parts One)
        by_number Two = ap (λ v. v ++ later.left Two) (other_link One Two to refl rest) ∙ later.parts Two
        by_number Three = ap (λ v. v ++ later.left Three) (other_link One Three to refl rest) ∙ later.parts Three

    second_goes : (a ls c rest : List Link) → receiver_of l ≡ Two → IsStuckFrom scripts (one_more l got) (three a ls c) rest
        → IsStuckFrom scripts got (three a (l ∷ ls) c) (l ∷ rest)
    second_goes a ls c rest to later = record { left = later.left; passes = (full, later.passes); parts = by_number; blocked = later.blocked }
      where
        by_number : (i : Number) → links_to i (l ∷ rest) ++ later.left i ≡ three a (l ∷ ls) c i
        by_number One = ap (λ v. v ++ later.left One) (other_link Two One to refl rest) ∙ later.parts One
        by_number Two = ap (λ v. v ++ later.left Two) (own_link Two to rest) ∙ ap (λ v. l ∷ v) (later.parts Two)
        by_number Three = ap (λ v. v ++ later.left Three) (other_link Two Three to refl rest) ∙ later.parts Three

    third_goes : (a b ls rest : List Link) → receiver_of l ≡ Three → IsStuckFrom scripts (one_more l got) (three a b ls) rest
        → IsStuckFrom scripts got (three a b (l ∷ ls)) (l ∷ rest)
    third_goes a b ls rest to later = record { left = later.left; passes = (full, later.passes); parts = by_number; blocked = later.blocked }
      where
        by_number : (i : Number) → links_to i (l ∷ rest) ++ later.left i ≡ three a b (l ∷ ls) i
        by_number One = ap (λ v. v ++ later.left One) (other_link Three One to refl rest) ∙ later.parts One
        by_number Two = ap (λ v. v ++ later.left Two) (other_link Three Two to refl rest) ∙ later.parts Two
        by_number Three = ap (λ v. v ++ later.left Three) (own_link Three to rest) ∙ ap (λ v. l ∷ v) (later.parts Three)

  -- ---- as long as one goes on

  abbrev IsFrom : (n : ℕ) (got : Counts) (a b c : List Link) → Type 0
  IsFrom n got a b c = IsStuckFrom scripts got (three a b c) (merged_from scripts n got a b c)

  -- what comes of so many more
  abbrev Later : ℕ → Type 0
  Later n = (got : Counts) (a b c : List Link) → AllTo One a → AllTo Two b → AllTo Three c → length a + length b + length c ≤ n → IsFrom n got a b c

  module _ (n : ℕ) (ih : Later n) (got : Counts) where
    abbrev by_third : (a b c : List Link) → Bool → List Link
    by_third a b c t = if t then first_then c (λ l ls. merged_from scripts n (one_more l got) a b ls) else []

    abbrev by_second : (a b c : List Link) → Bool → List Link
    by_second a b c t =
        if t then first_then b (λ l ls. merged_from scripts n (one_more l got) a ls c) else by_third a b c (can_go_on scripts got c)

    abbrev by_first : (a b c : List Link) → Bool → List Link
    by_first a b c t =
        if t then first_then a (λ l ls. merged_from scripts n (one_more l got) ls b c) else by_second a b c (can_go_on scripts got b)

    third_case : (a b c : List Link) → AllTo One a → AllTo Two b → AllTo Three c → length a + length b + length c ≤ suc n
        → can_go_on scripts got a ≡ false → can_go_on scripts got b ≡ false → (t : Bool) → can_go_on scripts got c ≡ t
        → IsStuckFrom scripts got (three a b c) (by_third a b c t)
    third_case a b c to1 to2 to3 few first second false e = none_goes got a b c first second e
    third_case a b [] to1 to2 to3 few first second true e = absurd cc
    third_case a b (l ∷ ls) to1 to2 to3 few first second true e =
        third_goes got l e a b ls (merged_from scripts n (one_more l got) a b ls) to3.0 (ih (one_more l got) a b ls to1 to2 to3.1 (omega (arith, few)))

    second_case : (a b c : List Link) → AllTo One a → AllTo Two b → AllTo Three c → length a + length b + length c ≤ suc n
        → can_go_on scripts got a ≡ false → (t : Bool) → can_go_on scripts got b ≡ t → IsStuckFrom scripts got (three a b c) (by_second a b c t)
    second_case a b c to1 to2 to3 few first false e = third_case a b c to1 to2 to3 few first e (can_go_on scripts got c) refl
    second_case a [] c to1 to2 to3 few first true e = absurd cc
    second_case a (l ∷ ls) c to1 to2 to3 few first true e =
        second_goes got l e a ls c (merged_from scripts n (one_more l got) a ls c) to2.0 (ih (one_more l got) a ls c to1 to2.1 to3 (omega (arith, few)))

    first_case : (a b c : List Link) → AllTo One a → AllTo Two b → AllTo Three c → length a + length b + length c ≤ suc n
        → (t : Bool) → can_go_on scripts got a ≡ t → IsStuckFrom scripts got (three a b c) (by_first a b c t)
    first_case a b c to1 to2 to3 few false e = second_case a b c to1 to2 to3 few e (can_go_on scripts got b) refl
    first_case [] b c to1 to2 to3 few true e = absurd cc
    first_case (l ∷ ls) b c to1 to2 to3 few true e =
        first_goes got l e ls b c (merged_from scripts n (one_more l got) ls b c) to1.0 (ih (one_more l got) ls b c to1.1 to2 to3 (omega (arith, few)))

  from_any : (n : ℕ) → Later n
  from_any zero got a b c to1 to2 to3 few =
      none_goes got a b c (empty_stands got a (omega (arith, few))) (empty_stands got b (omega (arith, few))) (empty_stands got c (omega (arith, few)))
  from_any (suc n) got a b c to1 to2 to3 few = first_case n (from_any n) got a b c to1 to2 to3 few (can_go_on scripts got a) refl

-- what is left then
pub record GoesFurthest (scripts : Number → List Move) (orders : Orders) : Type 0 where
  pub left : Orders
  pub stuck : Stuck scripts orders (merged scripts orders) left

pub merged_is_stuck : (scripts : Number → List Move) (orders : Orders) → AreOwn orders → GoesFurthest scripts orders
unfolding merged
merged_is_stuck scripts orders own =
    let from : IsFrom scripts (length (orders One) + length (orders Two) + length (orders Three)) none_delivered (orders One) (orders Two) (orders Three) =
    from_any scripts (length (orders One) + length (orders Two) + length (orders Three)) none_delivered (orders One) (orders Two) (orders Three) (own One)
    (own Two) (own Three) (omega arith) in
    record { left = from.left; stuck = record { passes = from.passes; parts = λ i. from.parts i ∙ same i; blocked = from.blocked } }
  where
    same : (i : Number) → three (orders One) (orders Two) (orders Three) i ≡ orders i
    same One = refl
    same Two = refl
    same Three = refl
