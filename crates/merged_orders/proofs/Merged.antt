-- Three orders are merged by a schedule that leaves nothing of them, and by none where one leaves something.
use Rattle.std.proofs.Common.{◌≡◌, ◌+◌, ℕ, Bool, true, false, if◌then◌else◌, List, [], ◌∷◌, ◌++◌, refl, sym, ◌∙◌, ap, subst, arith}
use Rattle.proto_core.specs.declared.party.Number.{Number}
use Rattle.proto_core.specs.declared.link.Link.{Link}
use Rattle.proto_core.specs.Net.{Finishes, into}
use Rattle.proto_core.specs.Parties.{receiver_of, is_same}
use Rattle.proto_core.specs.Script.{Move}
use Rattle.proto_core.specs.Strand.{same_link, Begins, Mail, Strand, rest_of, taken}
use Rattle.proto_core.proofs.Beginnings.{append-none, begins-self}
use Rattle.proto_core.proofs.Strands.{same-link_is}
use Rattle.protocol_model.specs.Along.{MovesAlong}
use Rattle.protocol_model.specs.Arrivals.{arrivals, oldest_then}
use Rattle.protocol_model.specs.Network.{Accepted, Answer, Counts, EmptyLink, at_the_end, counted, counts, into_counts, is_full, none_delivered, one_more}
use Rattle.protocol_model.specs.Network.{posted_count, stands_at}
use Rattle.protocol_model.proofs.MadeOrders.{made-accepted}
use Rattle.merged_orders.specs.Merging.{with_all, count_in, links_to, AllCome, Merges, Orders, Passes, Stuck, Within}
use Rattle.merged_orders.proofs.Numbers.{with_all_counts, links_to_counts}
use Rattle.merged_orders.proofs.Furthest.{furthest}

refused : {P : Type 0} (entry : ℕ) (l : Link) (sent : ℕ) → EmptyLink entry l sent ≡ Accepted → P
refused entry l sent e = cc

-- ---- what passes is accepted where no miner waits after it

abbrev pub ends_at : (Number → List Move) → Counts → Answer
ends_at scripts got = at_the_end (λ i. stands_at (scripts i) (into_counts i got))

module _ (scripts : Number → List Move) where
  abbrev go_on : ℕ → Counts → Link → Answer → Bool → Answer
  go_on entry got l later b = if b then later else EmptyLink entry l (posted_count scripts got l)

  pub passed_is : (entry : ℕ) (got : Counts) (ls : List Link) → Passes scripts got ls → counted scripts entry got ls ≡ ends_at scripts (with_all got ls)
  passed_is entry got [] p = refl
  passed_is entry got (l ∷ ls) p =
      ap (go_on entry got l (counted scripts (entry + 1) (one_more l got) ls)) p.0 ∙ passed_is (entry + 1) (one_more l got) ls p.1

  pub accepted_passes : (entry : ℕ) (got : Counts) (ls : List Link) → counted scripts entry got ls ≡ Accepted → Passes scripts got ls
  accepted_passes entry got [] e = tt
  accepted_passes entry got (l ∷ ls) e = by_test (is_full scripts got l) refl (λ g. accepted_passes (entry + 1) (one_more l got) ls g)
    where
      by_test :
          (b : Bool) → is_full scripts got l ≡ b
          → (counted scripts (entry + 1) (one_more l got) ls ≡ Accepted → Passes scripts (one_more l got) ls) → Passes scripts got (l ∷ ls)
      by_test true g more = (g, more (sym (ap (go_on entry got l (counted scripts (entry + 1) (one_more l got) ls)) g) ∙ e))
      by_test false g more =
          refused entry l (posted_count scripts got l) (sym (ap (go_on entry got l (counted scripts (entry + 1) (one_more l got) ls)) g) ∙ e)

-- ---- nothing is left where some schedule merges the orders

nothing_after : (xs zs : List Link) → Begins (xs ++ zs) xs → zs ≡ []
nothing_after [] [] h = refl
nothing_after [] (z ∷ zs) h = absurd h
nothing_after (x ∷ xs) zs h = nothing_after xs zs h.1

pub leaves_none : (scripts : Number → List Move) (orders left : Orders) (ls other : List Link) (i : Number)
    → Stuck scripts orders ls left → Merges scripts orders other → left i ≡ []
leaves_none scripts orders left ls other i s m =
    let within : Within orders other = λ k. subst (Begins (links_to k other)) (m.parts k) (begins-self (links_to k other)) in
    let far : Begins (links_to i other) (links_to i ls) =
    furthest scripts orders ls left s other (accepted_passes scripts 0 none_delivered other m.accepted) within i in
    nothing_after (links_to i ls) (left i) (subst (λ v. Begins v (links_to i ls)) (m.parts i ∙ sym (s.parts i)) far)

-- ---- one that leaves nothing merges them

module _ {A : Type 0} (nodes : Number → Strand A) (scripts : Number → List Move) (full : Mail) (outputs : Number → A)
    (f : Finishes nodes full outputs) (moves : (i : Number) → MovesAlong (nodes i) (scripts i) (into i full)) where
  all_ended : ends_at scripts (counts full) ≡ Accepted
  all_ended = made-accepted nodes scripts full outputs f moves (λ k. 0) 0 0 full (λ l. begins-self (full l)) (omega arith)

  pub is_merged : (orders left : Orders) (ls : List Link) → AllCome full orders → Stuck scripts orders ls left → ((i : Number) → left i ≡ [])
      → Merges scripts orders ls
  is_merged orders left ls all s none =
      let parts : (i : Number) → links_to i ls ≡ orders i =
      λ i. sym (append-none (links_to i ls)) ∙ ap (λ v. links_to i ls ++ v) (sym (none i)) ∙ s.parts i in
      record {
        accepted = passed_is scripts 0 none_delivered ls s.passes ∙ ap (ends_at scripts) (came parts) ∙ all_ended;
        parts = parts;
      }
    where
      came : ((i : Number) → links_to i ls ≡ orders i) → with_all none_delivered ls ≡ counts full
      came parts = λ d. λ l. at_link l d
        where
          at_link : (l : Link) → with_all none_delivered ls l ≡ counts full l
          at_link l =
              let a : with_all none_delivered ls l ≡ 0 + count_in l ls = with_all_counts none_delivered ls l in
              let b = links_to_counts l ls in
              let c : count_in l (links_to (receiver_of l) ls) ≡ count_in l (orders (receiver_of l)) = ap (count_in l) (parts (receiver_of l)) in
              let d = all l in
              omega arith

-- ---- arrivals

-- the messages of the links into a miner are the same
abbrev SameInto : Number → Mail → Mail → Type 0
SameInto i x y = (l : Link) → is_same (receiver_of l) i ≡ true → x l ≡ y l

taken_both : (i : Number) (x y : Mail) (k : Link) → SameInto i x y → SameInto i (taken k x) (taken k y)
taken_both i x y k h l e = ap (λ v. if same_link k l then rest_of v else v) (h l e)

-- an entry to another miner takes none of them
taken_other : (i : Number) (x y : Mail) (k : Link) → is_same (receiver_of k) i ≡ false → SameInto i x y → SameInto i (taken k x) y
taken_other i x y k other h l e = by_link (same_link k l) refl
  where
    by_link : (b : Bool) → same_link k l ≡ b → taken k x l ≡ y l
    by_link false g = ap (λ b. if b then rest_of (x l) else x l) g ∙ h l e
    by_link true g =
        let clash : true ≡ false = sym e ∙ sym (ap (λ j. is_same (receiver_of j) i) (same-link_is k l g)) ∙ other in
        cc

by_own : (i : Number) (x y : Mail) (order : List Link) → SameInto i x y → arrivals i x order ≡ arrivals i y (links_to i order)
by_own i x y [] h = refl
by_own i x y (l ∷ ls) h =
    by_receiver (is_same (receiver_of l) i) refl (λ u v g. by_own i u v ls g)
  where
    by_receiver :
        (b : Bool) → is_same (receiver_of l) i ≡ b
        → ((u v : Mail) → SameInto i u v → arrivals i u ls ≡ arrivals i v (links_to i ls))
        → arrivals i x (l ∷ ls) ≡ arrivals i y (links_to i (l ∷ ls))
    by_receiver true e later =
        ap (λ b. if b then oldest_then l (x l) (arrivals i (taken l x) ls) else arrivals i (taken l x) ls) e
        ∙ ap (λ v. oldest_then l v (arrivals i (taken l x) ls)) (h l e)
        ∙ ap (oldest_then l (y l)) (later (taken l x) (taken l y) (taken_both i x y l h))
        ∙ sym (ap (λ b. if b then oldest_then l (y l) (arrivals i (taken l y) (links_to i ls)) else arrivals i (taken l y) (links_to i ls)) e)
        ∙ sym (ap (λ b. arrivals i y (if b then l ∷ links_to i ls else links_to i ls)) e)
    by_receiver false e later =
        ap (λ b. if b then oldest_then l (x l) (arrivals i (taken l x) ls) else arrivals i (taken l x) ls) e
        ∙ later (taken l x) y (taken_other i x y l e h)
        ∙ sym (ap (λ b. arrivals i y (if b then l ∷ links_to i ls else links_to i ls)) e)

pub by_own_entries : (i : Number) (mail : Mail) (order : List Link) → arrivals i mail order ≡ arrivals i mail (links_to i order)
by_own_entries i mail order = by_own i mail mail order (λ l e. refl)
