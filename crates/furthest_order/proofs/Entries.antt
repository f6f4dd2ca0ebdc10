-- Deliveries along three orders: how far they have come.
use Rattle.std.proofs.Common.{◌≡◌, ◌≤◌, ◌<◌, ◌+◌, ℕ, zero, suc, Bool, true, false, if◌then◌else◌, List, [], ◌∷◌, ◌++◌, length, take, drop, get_or}
use Rattle.std.proofs.Common.{refl, sym, ◌∙◌, ap, subst, arith, Some}
use Rattle.std.proofs.lemmas.List.{drop_all, take-append-drop}
use Rattle.std.specs.Prelude.{slice_get}
use Rattle.proto_core.specs.declared.party.Number.{Number}
use Rattle.proto_core.specs.declared.party.Number.TheVariants.{One, Two, Three}
use Rattle.proto_core.specs.declared.link.Link.{Link}
use Rattle.proto_core.specs.Parties.{count_of, receiver_of, is_same, of_three}
use Rattle.proto_core.specs.Script.{Move}
use Rattle.proto_core.proofs.Beginnings.{append-none}
use Rattle.proto_core.proofs.Numbers.{same_is}
use Rattle.protocol_model.specs.Network.{Counts, is_full, none_delivered, one_more}
use Rattle.counted_net.specs.declared.moves.Scripts.{Scripts}
use Rattle.counted_net.specs.Scripts.{plain_of, AreScripts}
use Rattle.counted_net.specs.Nets.{NetState, after, got_of, is_under_way, scripts_in, state_of, with_all as with_all_given}
use Rattle.counted_net.proofs.Shapes.{full_of}
use Rattle.merged_orders.specs.Merging.{with_all, links_to, Passes, IsBlocked, Stuck}
use Rattle.merged_orders.proofs.Furthest.{links_to_append}
use Rattle.furthest_order.specs.declared.along.Places.{Places}
use Rattle.furthest_order.specs.Orders.{place_of, AllTo, AreOwn, GoesOn, Serves, IsBlockedIn, StepsOn}

-- ---- counts, and entries that pass

-- the same counts, as the net of counts has them
with_all_same : (got : Counts) (ls : List Link) → with_all got ls ≡ with_all_given got ls
with_all_same got [] = refl
with_all_same got (l ∷ ls) = with_all_same (one_more l got) ls

module _ (scripts : Number → List Move) where
  passes_more : (got : Counts) (xs : List Link) (l : Link) → Passes scripts got xs → is_full scripts (with_all got xs) l ≡ true
      → Passes scripts got (xs ++ l ∷ [])
  passes_more got [] l p full = (full, tt)
  passes_more got (x ∷ xs) l p full = (p.0, passes_more (one_more x got) xs l p.1 full)

-- of scripts that send as much
module _ (scripts others : Number → List Move) (same : (got : Counts) (l : Link) → is_full scripts got l ≡ is_full others got l) where
  passes_same : (got : Counts) (ls : List Link) → Passes scripts got ls → Passes others got ls
  passes_same got [] p = tt
  passes_same got (l ∷ ls) p = (sym (same got l) ∙ p.0, passes_same (one_more l got) ls p.1)

-- ---- entries of an order

own_at : (i : Number) (ls : List Link) (k : ℕ) (l : Link) → AllTo i ls → slice_get ls k ≡ Some l → receiver_of l ≡ i
own_at i [] k l own at = absurd cc
own_at i (x ∷ xs) zero l own at = let e : x ≡ l = cc in ap receiver_of (sym e) ∙ own.0
own_at i (x ∷ xs) (suc k) l own at = own_at i xs k l own.1 at

take_one : (ls : List Link) (k : ℕ) (l : Link) → slice_get ls k ≡ Some l → take (k + 1) ls ≡ take k ls ++ l ∷ []
take_one [] k l at = absurd cc
take_one (x ∷ xs) zero l at = let e : x ≡ l = cc in ap (λ y. y ∷ []) e
take_one (x ∷ xs) (suc k) l at =
    let n : suc k + 1 ≡ suc (k + 1) = omega arith in
    ap (λ m. take m (x ∷ xs)) n ∙ ap (λ v. x ∷ v) (take_one xs k l at)

below : (ls : List Link) (k : ℕ) (l : Link) → slice_get ls k ≡ Some l → k < length ls
below [] k l at = absurd cc
below (x ∷ xs) zero l at = omega arith
below (x ∷ xs) (suc k) l at = let h = below xs k l at in omega arith

pub at_place : (ls : List Link) (k : ℕ) (d : Link) → k < length ls → slice_get ls k ≡ Some (get_or ls k d)
at_place [] k d lt = absurd (omega arith)
at_place (x ∷ xs) zero d lt = refl
at_place (x ∷ xs) (suc k) d lt = at_place xs k d (omega arith)

pub blocked_past : (net : NetState) (ls : List Link) (k : ℕ) → length ls ≤ k → IsBlockedIn net (drop k ls)
blocked_past net ls k le = subst (IsBlockedIn net) (sym (drop_all k ls le)) tt

pub blocked_here : (net : NetState) (ls : List Link) (k : ℕ) (l : Link) → slice_get ls k ≡ Some l → is_under_way net l ≡ false → IsBlockedIn net (drop k ls)
blocked_here net [] k l at e = absurd cc
blocked_here net (x ∷ xs) zero l at e = let is : x ≡ l = cc in ap (is_under_way net) is ∙ e
blocked_here net (x ∷ xs) (suc k) l at e = blocked_here net xs k l at e

-- ---- one step

module _ (orders : Number → List Link) (before later : NetState) (places : Places) where
  -- no miner is lower than the first
  below_one : (h : Number) → count_of h < count_of One → ⊥
  below_one One lt = omega (arith, lt)
  below_one Two lt = omega (arith, lt)
  below_one Three lt = omega (arith, lt)

  pub serve_one : (next : ℕ) → GoesOn (orders One) before later places.one next true
      → StepsOn orders before later places (record { one = next; two = places.two; three = places.three }) true
  serve_one next g = (One, record { gives = g.0; here = g.1; others = others; lower = λ h lt. absurd (below_one h lt) })
    where
      others : (k : Number) → is_same One k ≡ false → of_three next places.two places.three k ≡ place_of places k
      others One e = absurd cc
      others Two e = refl
      others Three e = refl

  pub serve_two : (next : ℕ) → IsBlockedIn before (drop places.one (orders One)) → GoesOn (orders Two) before later places.two next true
      → StepsOn orders before later places (record { one = places.one; two = next; three = places.three }) true
  serve_two next first g = (Two, record { gives = g.0; here = g.1; others = others; lower = lower })
    where
      lower : (h : Number) → count_of h < count_of Two → IsBlockedIn before (drop (place_of places h) (orders h))
      lower One lt = first
      lower Two lt = absurd (omega (arith, lt))
      lower Three lt = absurd (omega (arith, lt))

      others : (k : Number) → is_same Two k ≡ false → of_three places.one next places.three k ≡ place_of places k
      others One e = refl
      others Two e = absurd cc
      others Three e = refl

  pub serve_three : (next : ℕ) → IsBlockedIn before (drop places.one (orders One)) → IsBlockedIn before (drop places.two (orders Two))
      → GoesOn (orders Three) before later places.three next true
      → StepsOn orders before later places (record { one = places.one; two = places.two; three = next }) true
  serve_three next first second g = (Three, record { gives = g.0; here = g.1; others = others; lower = lower })
    where
      lower : (h : Number) → count_of h < count_of Three → IsBlockedIn before (drop (place_of places h) (orders h))
      lower One lt = first
      lower Two lt = second
      lower Three lt = absurd (omega (arith, lt))

      others : (k : Number) → is_same Three k ≡ false → of_three places.one places.two next k ≡ place_of places k
      others One e = refl
      others Two e = refl
      others Three e = absurd cc

  pub serve_none : (next : ℕ) → IsBlockedIn before (drop places.one (orders One)) → IsBlockedIn before (drop places.two (orders Two))
      → GoesOn (orders Three) before later places.three next false
      → StepsOn orders before later places (record { one = places.one; two = places.two; three = next }) false
  serve_none next first second g = (stand, g.1, ap (λ n. record { one = places.one; two = places.two; three = n }) g.2)
    where
      stand : (i : Number) → IsBlockedIn before (drop (place_of places i) (orders i))
      stand One = first
      stand Two = second
      stand Three = g.0

-- ---- how far

-- the first entries of each order, up to its place, were delivered, all with a message under way
pub record Far (s : Scripts) (orders : Number → List Link) (places : Places) (now : NetState) : Type 0 where
  pub here : now ≡ state_of s now.delivered
  pub passes : Passes (plain_of s) none_delivered now.delivered
  pub within : (i : Number) → place_of places i ≤ length (orders i)
  pub parts : (i : Number) → links_to i now.delivered ≡ take (place_of places i) (orders i)

pub far_none : (s : Scripts) (orders : Number → List Link) (now : NetState) → now ≡ state_of s [] → Far s orders (record { one = 0; two = 0; three = 0 }) now
far_none s orders now is =
    subst (Far s orders (record { one = 0; two = 0; three = 0 })) (sym is)
    (record { here = refl; passes = tt; within = λ i. few i; parts = λ i. none i })
  where
    few : (i : Number) → of_three 0 0 0 i ≤ length (orders i)
    few One = omega arith
    few Two = omega arith
    few Three = omega arith

    none : (i : Number) → links_to i [] ≡ take (of_three 0 0 0 i) (orders i)
    none One = refl
    none Two = refl
    none Three = refl

module _ (s : Scripts) (orders : Number → List Link) (own : AreOwn orders) (places : Places) (now : NetState) (far : Far s orders places now) where
  full_so : (l : Link) → is_full (plain_of s) (got_of now.delivered) l ≡ is_under_way now l
  full_so l = ap (λ (n : NetState). is_full (scripts_in n) (got_of now.delivered) l) (sym far.here)

  module _ (i : Number) (nexts : Places) (later : NetState) (serves : Serves orders now later places nexts i) where
    abbrev l : Link
    l = serves.gives.link

    to : receiver_of l ≡ i
    to = own_at i (orders i) (place_of places i) l (own i) serves.gives.at

    inside : (k : Number) (b : Bool) → is_same i k ≡ b → place_of nexts k ≤ length (orders k)
    inside k true e =
        subst (λ j. place_of nexts j ≤ length (orders j)) (same_is i k e)
        (let a = below (orders i) (place_of places i) l serves.gives.at in let b = serves.here in omega arith)
    inside k false e = let a = far.within k in let b = serves.others k e in omega arith

    by_receiver : (k : Number) (b : Bool) → is_same i k ≡ b → links_to k now.delivered ++ links_to k (l ∷ []) ≡ take (place_of nexts k) (orders k)
    by_receiver k false e =
        ap (λ b. links_to k now.delivered ++ (if b then l ∷ [] else [])) (ap (λ j. is_same j k) to ∙ e)
        ∙ append-none (links_to k now.delivered)
        ∙ far.parts k
        ∙ ap (λ n. take n (orders k)) (sym (serves.others k e))
    by_receiver k true e =
        ap (λ b. links_to k now.delivered ++ (if b then l ∷ [] else [])) (ap (λ j. is_same j k) to ∙ e)
        ∙ subst (λ j. links_to j now.delivered ++ l ∷ [] ≡ take (place_of nexts j) (orders j)) (same_is i k e)
        (ap (λ v. v ++ l ∷ []) (far.parts i)
        ∙ sym (take_one (orders i) (place_of places i) l serves.gives.at)
        ∙ ap (λ n. take n (orders i)) (sym serves.here))

    pub far_more : Far s orders nexts later
    far_more =
        subst (Far s orders nexts) (sym serves.gives.gives)
        (record {
          here = ap (λ (n : NetState). after n l) far.here;
          passes =
              passes_more (plain_of s) none_delivered now.delivered l far.passes
              (ap (λ c. is_full (plain_of s) c l) (with_all_same none_delivered now.delivered) ∙ full_so l ∙ serves.gives.full);
          within = λ k. inside k (is_same i k) refl;
          parts = λ k. links_to_append k now.delivered (l ∷ []) ∙ by_receiver k (is_same i k) refl;
        })

  pub far_step : (nexts : Places) (later : NetState) (goes : Bool) → StepsOn orders now later places nexts goes → Far s orders nexts later
  far_step nexts later true steps = far_more steps.0 nexts later steps.1
  far_step nexts later false steps = subst (λ p. Far s orders p later) (sym steps.2) (subst (Far s orders places) (sym steps.1) far)

pub blocked_step : (orders : Number → List Link) (now later : NetState) (places nexts : Places) (goes : Bool) → StepsOn orders now later places nexts goes
    → goes ≡ false → (i : Number) → IsBlockedIn later (drop (place_of nexts i) (orders i))
blocked_step orders now later places nexts true steps e i = absurd cc
blocked_step orders now later places nexts false steps e i =
    subst (λ p. IsBlockedIn later (drop (place_of p i) (orders i))) (sym steps.2)
    (subst (λ n. IsBlockedIn n (drop (place_of places i) (orders i))) (sym steps.1) (steps.0 i))

module _ (s : Scripts) (orders : Number → List Link) (places : Places) (now : NetState) (far : Far s orders places now) where
  under : (l : Link) → is_full (plain_of s) (got_of now.delivered) l ≡ is_under_way now l
  under l = ap (λ (n : NetState). is_full (scripts_in n) (got_of now.delivered) l) (sym far.here)

  -- ---- where none goes on

  pub far_end : ((i : Number) → IsBlockedIn now (drop (place_of places i) (orders i))) → (moves : Number → List Move) → AreScripts moves s
      → Stuck moves orders now.delivered (λ i. drop (place_of places i) (orders i))
  far_end blocked moves are =
      record {
        passes = passes_same (plain_of s) moves (full_of s moves are) none_delivered now.delivered far.passes;
        parts = λ i. ap (λ v. v ++ drop (place_of places i) (orders i)) (far.parts i) ∙ take-append-drop (place_of places i) (orders i);
        blocked = λ i. stood (drop (place_of places i) (orders i)) (blocked i);
      }
    where
      stood : (left : List Link) → IsBlockedIn now left → IsBlocked moves (with_all none_delivered now.delivered) left
      stood [] h = tt
      stood (l ∷ ls) h =
          sym (full_of s moves are (with_all none_delivered now.delivered) l)
          ∙ ap (λ c. is_full (plain_of s) c l) (with_all_same none_delivered now.delivered)
          ∙ under l ∙ h
