-- The deliveries so far, and those that are still to come, are those that serve the lowest miner first.
use Rattle.std.proofs.Common.{◌≡◌, ◌≤◌, ◌<◌, ◌+◌, ◌-◌, ℕ, zero, suc, Bool, true, false, if◌then◌else◌, List, [], ◌∷◌, ◌++◌, length, drop}
use Rattle.std.proofs.Common.{refl, sym, ◌∙◌, ap, subst, arith, append_assoc, Some, length-drop}
use Rattle.std.specs.Prelude.{slice_get}
use Rattle.proto_core.specs.declared.party.Number.{Number}
use Rattle.proto_core.specs.declared.party.Number.TheVariants.{One, Two, Three}
use Rattle.proto_core.specs.declared.link.Link.{Link}
use Rattle.proto_core.specs.Parties.{count_of, is_same}
use Rattle.proto_core.proofs.Beginnings.{append-none}
use Rattle.proto_core.specs.Script.{Move}
use Rattle.protocol_model.specs.Network.{Counts, is_full, none_delivered, one_more}
use Rattle.counted_net.specs.declared.moves.Scripts.{Scripts}
use Rattle.counted_net.specs.Scripts.{AreScripts, plain_of}
use Rattle.counted_net.specs.Nets.{NetState, after, got_of, is_under_way, scripts_in, state_of, with_all}
use Rattle.counted_net.proofs.Shapes.{full_of}
use Rattle.furthest_order.specs.declared.along.Places.{Places}
use Rattle.furthest_order.specs.Merged.{can_go_on, first_then, merged, merged_from}
use Rattle.furthest_order.specs.Orders.{place_of, Gives, IsBlockedIn, Serves, StepsOn}
use Rattle.furthest_order.proofs.Entries.{Far}

-- ---- one more delivery

drop_entry : (ls : List Link) (k : ℕ) (l : Link) → slice_get ls k ≡ Some l → drop k ls ≡ l ∷ drop (k + 1) ls
drop_entry [] k l at = absurd cc
drop_entry (x ∷ xs) zero l at = let e : x ≡ l = cc in ap (λ y. y ∷ xs) e
drop_entry (x ∷ xs) (suc k) l at = let n : suc k + 1 ≡ suc (k + 1) = omega arith in drop_entry xs k l at ∙ ap (λ m. l ∷ drop m (x ∷ xs)) (sym n)

entry_below : (ls : List Link) (k : ℕ) (l : Link) → slice_get ls k ≡ Some l → k < length ls
entry_below [] k l at = absurd cc
entry_below (x ∷ xs) zero l at = omega arith
entry_below (x ∷ xs) (suc k) l at = let h = entry_below xs k l at in omega arith

with_one_more : (got : Counts) (ls : List Link) (l : Link) → with_all got (ls ++ l ∷ []) ≡ one_more l (with_all got ls)
with_one_more got [] l = refl
with_one_more got (x ∷ xs) l = with_one_more (one_more x got) xs l

module _ (scripts : Number → List Move) (got : Counts) (n : ℕ) where
  goes : (a ls : List Link) (l : Link) → a ≡ l ∷ ls → is_full scripts got l ≡ true → can_go_on scripts got a ≡ true
  goes a ls l e full = ap (can_go_on scripts got) e ∙ full

  step_one : (a b c ls : List Link) (l : Link) → a ≡ l ∷ ls → is_full scripts got l ≡ true
      → merged_from scripts (suc n) got a b c ≡ l ∷ merged_from scripts n (one_more l got) ls b c
  step_one a b c ls l e full =
      ap (λ t. if t then first_then a (λ k ks. merged_from scripts n (one_more k got) ks b c)
      else if can_go_on scripts got b then first_then b (λ k ks. merged_from scripts n (one_more k got) a ks c)
      else if can_go_on scripts got c then first_then c (λ k ks. merged_from scripts n (one_more k got) a b ks)
      else []) (goes a ls l e full)
      ∙ ap (λ v. first_then v (λ k ks. merged_from scripts n (one_more k got) ks b c)) e

  step_two : (a b c ls : List Link) (l : Link) → can_go_on scripts got a ≡ false → b ≡ l ∷ ls → is_full scripts got l ≡ true
      → merged_from scripts (suc n) got a b c ≡ l ∷ merged_from scripts n (one_more l got) a ls c
  step_two a b c ls l first e full =
      ap (λ t. if t then first_then a (λ k ks. merged_from scripts n (one_more k got) ks b c)
      else if can_go_on scripts got b then first_then b (λ k ks. merged_from scripts n (one_more k got) a ks c)
      else if can_go_on scripts got c then first_then c (λ k ks. merged_from scripts n (one_more k got) a b ks)
      else []) first
      ∙ ap (λ t. if t then first_then b (λ k ks. merged_from scripts n (one_more k got) a ks c)
      else if can_go_on scripts got c then first_then c (λ k ks. merged_from scripts n (one_more k got) a b ks)
      else []) (goes b ls l e full)
      ∙ ap (λ v. first_then v (λ k ks. merged_from scripts n (one_more k got) a ks c)) e

  step_three : (a b c ls : List Link) (l : Link) → can_go_on scripts got a ≡ false → can_go_on scripts got b ≡ false → c ≡ l ∷ ls
      → is_full scripts got l ≡ true → merged_from scripts (suc n) got a b c ≡ l ∷ merged_from scripts n (one_more l got) a b ls
  step_three a b c ls l first second e full =
      ap (λ t. if t then first_then a (λ k ks. merged_from scripts n (one_more k got) ks b c)
      else if can_go_on scripts got b then first_then b (λ k ks. merged_from scripts n (one_more k got) a ks c)
      else if can_go_on scripts got c then first_then c (λ k ks. merged_from scripts n (one_more k got) a b ks)
      else []) first
      ∙ ap (λ t. if t then first_then b (λ k ks. merged_from scripts n (one_more k got) a ks c)
      else if can_go_on scripts got c then first_then c (λ k ks. merged_from scripts n (one_more k got) a b ks)
      else []) second
      ∙ ap (λ t. if t then first_then c (λ k ks. merged_from scripts n (one_more k got) a b ks) else []) (goes c ls l e full)
      ∙ ap (λ v. first_then v (λ k ks. merged_from scripts n (one_more k got) a b ks)) e

no_step : (scripts : Number → List Move) (n : ℕ) (got : Counts) (a b c : List Link) → can_go_on scripts got a ≡ false → can_go_on scripts got b ≡ false
    → can_go_on scripts got c ≡ false → merged_from scripts n got a b c ≡ []
no_step scripts zero got a b c first second third = refl
no_step scripts (suc n) got a b c first second third =
    ap (λ t. if t then first_then a (λ k ks. merged_from scripts n (one_more k got) ks b c)
    else if can_go_on scripts got b then first_then b (λ k ks. merged_from scripts n (one_more k got) a ks c)
    else if can_go_on scripts got c then first_then c (λ k ks. merged_from scripts n (one_more k got) a b ks)
    else []) first
    ∙ ap (λ t. if t then first_then b (λ k ks. merged_from scripts n (one_more k got) a ks c)
    else if can_go_on scripts got c then first_then c (λ k ks. merged_from scripts n (one_more k got) a b ks)
    else []) second
    ∙ ap (λ t. if t then first_then c (λ k ks. merged_from scripts n (one_more k got) a b ks) else []) third

-- scripts that send as much are merged alike
same_merged : (scripts others : Number → List Move) → ((got : Counts) (l : Link) → is_full scripts got l ≡ is_full others got l)
    → (n : ℕ) (got : Counts) (a b c : List Link) → merged_from scripts n got a b c ≡ merged_from others n got a b c
same_merged scripts others same n got a b c = by_tests n got a b c
  where
    test : (got : Counts) (ls : List Link) → can_go_on scripts got ls ≡ can_go_on others got ls
    test got [] = refl
    test got (l ∷ ls) = same got l

    firsts : (ls : List Link) (f g : Link → List Link → List Link) → ((l : Link) (ks : List Link) → f l ks ≡ g l ks) → first_then ls f ≡ first_then ls g
    firsts [] f g h = refl
    firsts (l ∷ ls) f g h = ap (λ v. l ∷ v) (h l ls)

    by_tests : (n : ℕ) (got : Counts) (a b c : List Link) → merged_from scripts n got a b c ≡ merged_from others n got a b c
    by_tests zero got a b c = refl
    by_tests (suc n) got a b c =
        let f = first_then a (λ k ks. merged_from scripts n (one_more k got) ks b c) in
        let g = first_then b (λ k ks. merged_from scripts n (one_more k got) a ks c) in
        let h = first_then c (λ k ks. merged_from scripts n (one_more k got) a b ks) in
        ap (λ t. if t then f else if can_go_on scripts got b then g else if can_go_on scripts got c then h else []) (test got a)
        ∙ ap (λ t. if can_go_on others got a then f else if t then g else if can_go_on scripts got c then h else []) (test got b)
        ∙ ap (λ t. if can_go_on others got a then f else if can_go_on others got b then g else if t then h else []) (test got c)
        ∙ ap (λ v. if can_go_on others got a then v else if can_go_on others got b then g else if can_go_on others got c then h else [])
        (firsts a (λ k ks. merged_from scripts n (one_more k got) ks b c) (λ k ks. merged_from others n (one_more k got) ks b c)
        (λ k ks. by_tests n (one_more k got) ks b c))
        ∙ ap (λ v. if can_go_on others got a then first_then a (λ k ks. merged_from others n (one_more k got) ks b c)
        else if can_go_on others got b then v else if can_go_on others got c then h else [])
        (firsts b (λ k ks. merged_from scripts n (one_more k got) a ks c) (λ k ks. merged_from others n (one_more k got) a ks c)
        (λ k ks. by_tests n (one_more k got) a ks c))
        ∙ ap (λ v. if can_go_on others got a then first_then a (λ k ks. merged_from others n (one_more k got) ks b c)
        else if can_go_on others got b then first_then b (λ k ks. merged_from others n (one_more k got) a ks c) else if can_go_on others got c then v else [])
        (firsts c (λ k ks. merged_from scripts n (one_more k got) a b ks) (λ k ks. merged_from others n (one_more k got) a b ks)
        (λ k ks. by_tests n (one_more k got) a b ks))

-- ---- what is still to come

module _ (s : Scripts) (orders : Number → List Link) where
  abbrev moves : Number → List Move
  moves = plain_of s

  abbrev left_at : Places → Number → List Link
  left_at places i = drop (place_of places i) (orders i)

  abbrev rest : (n : ℕ) → Places → List Link → List Link
  rest n places delivered = merged_from moves n (got_of delivered) (left_at places One) (left_at places Two) (left_at places Three)

  abbrev left_count : Places → ℕ
  left_count places = length (left_at places One) + length (left_at places Two) + length (left_at places Three)

  -- with what is still to come the deliveries so far are all
  pub record AreFirst (places : Places) (now : NetState) : Type 0 where
    pub most : ℕ
    pub enough : left_count places ≤ most
    pub is : now.delivered ++ rest most places now.delivered ≡ merged moves orders

  pub first_none : (now : NetState) → now ≡ state_of s [] → AreFirst (record { one = 0; two = 0; three = 0 }) now
  unfolding merged
  first_none now e =
      record {
        most = length (orders One) + length (orders Two) + length (orders Three);
        enough = omega arith;
        is = ap (λ (n : NetState). n.delivered ++ rest (length (orders One) + length (orders Two) + length (orders Three)) (record { one = 0; two = 0; three = 0 }) n.delivered) e;
      }

  -- ---- an entry that is delivered, or can't be

  module _ (places : Places) (now : NetState) (far : Far s orders places now) where
    full_so : (l : Link) → is_full moves (got_of now.delivered) l ≡ is_under_way now l
    full_so l = ap (λ (n : NetState). is_full (scripts_in n) (got_of now.delivered) l) (sym far.here)

    stands : (ls : List Link) → IsBlockedIn now ls → can_go_on moves (got_of now.delivered) ls ≡ false
    stands [] h = refl
    stands (l ∷ ls) h = full_so l ∙ h

    module _ (i : Number) (nexts : Places) (later : NetState) (serves : Serves orders now later places nexts i) (first : AreFirst places now) where
      abbrev l : Link
      l = serves.gives.link

      full : is_full moves (got_of now.delivered) l ≡ true
      full = full_so l ∙ serves.gives.full

      entry : left_at places i ≡ l ∷ drop (place_of places i + 1) (orders i)
      entry = drop_entry (orders i) (place_of places i) l serves.gives.at

      taken : left_at places i ≡ l ∷ left_at nexts i
      taken = entry ∙ ap (λ n. l ∷ drop n (orders i)) (sym serves.here)

      kept : (k : Number) → is_same i k ≡ false → left_at places k ≡ left_at nexts k
      kept k other = ap (λ n. drop n (orders k)) (sym (serves.others k other))

      lower_stands : (h : Number) → count_of h < count_of i → can_go_on moves (got_of now.delivered) (left_at places h) ≡ false
      lower_stands h lt = stands (left_at places h) (serves.lower h lt)

      abbrev one_more_delivered : List Link
      one_more_delivered = now.delivered ++ l ∷ []

      -- the next is delivered, and one less is left
      pub record OneStep (n : ℕ) : Type 0 where
        pub is : rest (suc n) places now.delivered ≡ l ∷ rest n nexts one_more_delivered
        pub less : left_count places ≡ left_count nexts + 1

    counted : (got : Counts) (n : ℕ) (a b c : List Link) (x y z : List Link) (l : Link) → one_more l (got_of now.delivered) ≡ got → a ≡ x → b ≡ y → c ≡ z
        → merged_from moves n (one_more l (got_of now.delivered)) a b c ≡ merged_from moves n got x y z
    counted got n a b c x y z l e f g h =
        ap (λ k. merged_from moves n k a b c) e
        ∙ ap (λ v. merged_from moves n got v b c) f
        ∙ ap (λ v. merged_from moves n got x v c) g
        ∙ ap (λ v. merged_from moves n got x y v) h

    one_step : (i : Number) (nexts : Places) (later : NetState) (serves : Serves orders now later places nexts i) (first : AreFirst places now) (n : ℕ)
        → OneStep i nexts later serves first n
    one_step One nexts later serves first n =
        let l = serves.gives.link in
        let b = kept One nexts later serves first Two refl in
        let c = kept One nexts later serves first Three refl in
        let mine = ap length (taken One nexts later serves first) in
        let second = ap length b in
        let third = ap length c in
        record {
          is =
              step_one moves (got_of now.delivered) n (left_at places One) (left_at places Two) (left_at places Three) (left_at nexts One) l
              (taken One nexts later serves first) (full One nexts later serves first)
              ∙ ap (λ v. l ∷ v)
              (counted (got_of (now.delivered ++ l ∷ [])) n (left_at nexts One) (left_at places Two) (left_at places Three) (left_at nexts One)
              (left_at nexts Two) (left_at nexts Three) l (sym (with_one_more none_delivered now.delivered l)) refl b c);
          less = omega (arith, mine, second, third);
        }
    one_step Two nexts later serves first n =
        let l = serves.gives.link in
        let a = kept Two nexts later serves first One refl in
        let c = kept Two nexts later serves first Three refl in
        let mine = ap length (taken Two nexts later serves first) in
        let one = ap length a in
        let third = ap length c in
        record {
          is =
              step_two moves (got_of now.delivered) n (left_at places One) (left_at places Two) (left_at places Three) (left_at nexts Two) l
              (lower_stands Two nexts later serves first One (omega arith)) (taken Two nexts later serves first) (full Two nexts later serves first)
              ∙ ap (λ v. l ∷ v)
              (counted (got_of (now.delivered ++ l ∷ [])) n (left_at places One) (left_at nexts Two) (left_at places Three) (left_at nexts One)
              (left_at nexts Two) (left_at nexts Three) l (sym (with_one_more none_delivered now.delivered l)) a refl c);
          less = omega (arith, mine, one, third);
        }
    one_step Three nexts later serves first n =
        let l = serves.gives.link in
        let a = kept Three nexts later serves first One refl in
        let b = kept Three nexts later serves first Two refl in
        let mine = ap length (taken Three nexts later serves first) in
        let one = ap length a in
        let second = ap length b in
        record {
          is =
              step_three moves (got_of now.delivered) n (left_at places One) (left_at places Two) (left_at places Three) (left_at nexts Three) l
              (lower_stands Three nexts later serves first One (omega arith)) (lower_stands Three nexts later serves first Two (omega arith))
              (taken Three nexts later serves first) (full Three nexts later serves first)
              ∙ ap (λ v. l ∷ v)
              (counted (got_of (now.delivered ++ l ∷ [])) n (left_at places One) (left_at places Two) (left_at nexts Three) (left_at nexts One)
              (left_at nexts Two) (left_at nexts Three) l (sym (with_one_more none_delivered now.delivered l)) a b refl);
          less = omega (arith, mine, one, second);
        }

    first_more : (i : Number) (nexts : Places) (later : NetState) (serves : Serves orders now later places nexts i) (first : AreFirst places now)
        → AreFirst nexts later
    first_more i nexts later serves first = by_most first.most refl
      where
        by_most : (most : ℕ) → first.most ≡ most → AreFirst nexts later
        by_most zero e =
            let step = one_step i nexts later serves first zero in
            let less = step.less in
            let enough = first.enough in
            absurd (omega (arith, less, enough, e))
        by_most (suc n) e =
            let step = one_step i nexts later serves first n in
            let l = serves.gives.link in
            let less = step.less in
            let enough = first.enough in
            subst (AreFirst nexts) (sym serves.gives.gives)
            (record {
              most = n;
              enough = omega (arith, less, enough, e);
              is =
                  append_assoc now.delivered (l ∷ []) (rest n nexts (now.delivered ++ l ∷ []))
                  ∙ ap (λ v. now.delivered ++ v) (sym step.is)
                  ∙ ap (λ m. now.delivered ++ rest m places now.delivered) (sym e)
                  ∙ first.is;
            })

    pub first_step : AreFirst places now → (nexts : Places) (later : NetState) (goes_on : Bool) → StepsOn orders now later places nexts goes_on
        → AreFirst nexts later
    first_step first nexts later true steps = first_more steps.0 nexts later steps.1 first
    first_step first nexts later false steps =
        subst (λ p. AreFirst p later) (sym steps.2) (subst (AreFirst places) (sym steps.1) first)

    -- ---- where none goes on

    pub first_end : AreFirst places now → ((i : Number) → IsBlockedIn now (left_at places i)) → (scripts : Number → List Move) → AreScripts scripts s
        → now.delivered ≡ merged scripts orders
    unfolding merged
    first_end first blocked scripts are =
        sym (append-none now.delivered)
        ∙ ap (λ v. now.delivered ++ v)
        (sym (no_step moves first.most (got_of now.delivered) (left_at places One) (left_at places Two) (left_at places Three)
        (stands (left_at places One) (blocked One)) (stands (left_at places Two) (blocked Two)) (stands (left_at places Three) (blocked Three))))
        ∙ first.is
        ∙ same_merged moves scripts (full_of s scripts are)
        (length (orders One) + length (orders Two) + length (orders Three)) none_delivered (orders One) (orders Two) (orders Three)
