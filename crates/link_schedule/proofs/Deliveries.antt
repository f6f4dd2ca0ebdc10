-- What deliveries make of the messages of a net.
use Rattle.std.proofs.Common.{◌≡◌, ◌≢◌, ℕ, ◌+◌, ◌<◌, ◌≤◌, Bool, true, false, if◌then◌else◌, List, [], ◌∷◌, ◌++◌, length}
use Rattle.std.specs.Option.{option_map_or}
use Rattle.std.proofs.Common.{refl, sym, ◌∙◌, ap, subst, arith}
use Rattle.std.specs.Prelude.{nat_lt, slice_get, Option, Some, None}
use Rattle.std.proofs.lemmas.Option.{same_Some}
use Rattle.proto_core.specs.declared.party.Number.{Number}
use Rattle.proto_core.specs.declared.party.Number.TheVariants.{One, Two, Three}
use Rattle.proto_core.specs.declared.link.Link.{Link}
use Rattle.proto_core.specs.Parties.{receiver_of, is_same}
use Rattle.proto_core.specs.Strand.{Shape, same_link, Mail, Strand, Ends, Acts, Waits, Ran, run, next_after, Begins, IsEnded}
use Rattle.proto_core.specs.Net.{into, added, nothing, posted, under_way, delivered, all_delivered, MailBegins}
use Rattle.proto_core.specs.Standing.{AtItsEnd, Awaits, Refuses, standing_with, standing_of, before_mail, fault_of}
use Rattle.proto_core.specs.declared.refused.BadMessage.{BadMessage}
use Rattle.proto_core.proofs.Beginnings.{append-none, begins-self, begins-append, begins-trans}
use Rattle.proto_core.proofs.Nets.{posted-more, delivered-begins}
use Rattle.proto_core.proofs.Strands.{same-link_is, run-added, followed}
use Rattle.protocol_model.specs.Network.{waits_for}
use Rattle.protocol_model.proofs.Completing.{not_waiting}

-- ---- one message more

-- a message of this link, and no other
abbrev pub just : Link → List ℕ → Mail
just l m k = if same_link l k then m ∷ [] else []

pub none_is_some : {A P : Type 0} (x : A) → None ≡ Some x → P
none_is_some x e = cc

pub next_found : (xs ys : List (List ℕ)) (m : List ℕ) → slice_get ys (length xs) ≡ Some m → next_after xs ys ≡ m ∷ []
next_found [] [] m e = none_is_some m e
next_found [] (y ∷ ys) m e = ap (λ v. v ∷ []) (same_Some y m e)
next_found (x ∷ xs) [] m e = none_is_some m e
next_found (x ∷ xs) (y ∷ ys) m e = next_found xs ys m e

lt_true : (a b : ℕ) → a < b → nat_lt a b ≡ true
lt_true a b h = grind arith

lt_false : (a b : ℕ) → b ≤ a → nat_lt a b ≡ false
lt_false a b h = grind arith

found_below : (xs ys : List (List ℕ)) (m : List ℕ) → slice_get ys (length xs) ≡ Some m → length xs < length ys
found_below [] [] m e = none_is_some m e
found_below [] (y ∷ ys) m e = omega arith
found_below (x ∷ xs) [] m e = none_is_some m e
found_below (x ∷ xs) (y ∷ ys) m e = let h = found_below xs ys m e in omega arith

some_is_none : {A P : Type 0} (x : A) → Some x ≡ None → P
some_is_none x e = cc

none_above : (xs ys : List (List ℕ)) → slice_get ys (length xs) ≡ None → length ys ≤ length xs
none_above [] [] e = omega arith
none_above [] (y ∷ ys) e = some_is_none y e
none_above (x ∷ xs) [] e = omega arith
none_above (x ∷ xs) (y ∷ ys) e = let h = none_above xs ys e in omega arith

pub found_is_more : (xs ys : List (List ℕ)) (m : List ℕ) → slice_get ys (length xs) ≡ Some m → nat_lt (length xs) (length ys) ≡ true
found_is_more xs ys m e = lt_true (length xs) (length ys) (found_below xs ys m e)

pub none_is_all : (xs ys : List (List ℕ)) → slice_get ys (length xs) ≡ None → nat_lt (length xs) (length ys) ≡ false
none_is_all xs ys e = lt_false (length xs) (length ys) (none_above xs ys e)

pub same_number : (k : Number) → is_same k k ≡ true
same_number One = refl
same_number Two = refl
same_number Three = refl

pub is_number : (i j : Number) → is_same i j ≡ true → i ≡ j
is_number One One e = refl
is_number Two Two e = refl
is_number Three Three e = refl
is_number _ _ e = cc

module _ {A : Type 0} (nodes : Number → Strand A) where
  pub delivered-all : (mail : Mail) (xs ys : List Link) → all_delivered nodes mail (xs ++ ys) ≡ all_delivered nodes (all_delivered nodes mail xs) ys
  delivered-all mail [] ys = refl
  delivered-all mail (x ∷ xs) ys = delivered-all (delivered nodes mail x) xs ys

  next_short : (xs ys : List (List ℕ)) → length (xs ++ next_after xs ys) ≤ length xs + 1
  next_short [] [] = omega arith
  next_short [] (y ∷ ys) = omega arith
  next_short (x ∷ xs) [] = let n = ap length (append-none xs) in omega arith
  next_short (x ∷ xs) (y ∷ ys) = let n = next_short xs ys in omega arith

  one_short : (mail : Mail) (k l : Link) → length (delivered nodes mail k l) ≤ length (mail l) + 1
  one_short mail k l =
      elim (same_link k l) as (λ b. length (if b then mail l ++ under_way nodes mail l else mail l) ≤ length (mail l) + 1)
      [ true ↦ next_short (mail l) (posted nodes mail l) | false ↦ omega arith ]

  -- no link has more messages than there were deliveries
  pub no_more : (mail : Mail) (order : List Link) (l : Link) → length (all_delivered nodes mail order l) ≤ length (mail l) + length order
  no_more mail [] l = omega arith
  no_more mail (k ∷ ks) l =
      let n = no_more (delivered nodes mail k) ks l in
      let m = one_short mail k l in
      omega arith

  came_begins : (mail : Mail) (l : Link) → MailBegins mail (delivered nodes mail l)
  came_begins mail l k =
      elim (same_link l k) as (λ b. Begins (mail k) (if b then mail k ++ under_way nodes mail k else mail k))
      [ true ↦ begins-append (mail k) (under_way nodes mail k) | false ↦ begins-self (mail k) ]

  -- what was delivered begins what was sent
  pub came_sent : (order : List Link) (mail : Mail) → MailBegins mail (posted nodes mail) →
      MailBegins (all_delivered nodes mail order) (posted nodes (all_delivered nodes mail order))
  came_sent [] mail h = h
  came_sent (l ∷ ls) mail h =
      came_sent ls (delivered nodes mail l)
      (λ k.
      begins-trans _ _ _ (delivered-begins nodes mail (posted nodes mail) l h (λ j. begins-self (posted nodes mail j)) k)
      (posted-more nodes mail (delivered nodes mail l) (came_begins mail l) k))

  module _ (mail : Mail) (l : Link) (m : List ℕ) (is : under_way nodes mail l ≡ m ∷ []) where
    at_link : (k : Link) (b : Bool) → same_link l k ≡ b → (if b then mail k ++ under_way nodes mail k else mail k) ≡ mail k ++ (if b then m ∷ [] else [])
    at_link k true e = ap (λ v. mail k ++ v) (ap (under_way nodes mail) (sym (same-link_is l k e)) ∙ is)
    at_link k false e = sym (append-none (mail k))

    delivered-just : (k : Link) → delivered nodes mail l k ≡ mail k ++ just l m k
    delivered-just k = at_link k (same_link l k) refl

    into_receiver : (i : Number) → is_same (receiver_of l) i ≡ true → (k : Link) → into i (delivered nodes mail l) k ≡ added (into i mail) (just l m) k
    into_receiver i to k = by_link (same_link l k) refl
      where
        by_link : (b : Bool) → same_link l k ≡ b → into i (delivered nodes mail l) k ≡ added (into i mail) (just l m) k
        by_link true e =
            let here : is_same (receiver_of k) i ≡ true = ap (λ v. is_same (receiver_of v) i) (sym (same-link_is l k e)) ∙ to in
            ap (λ b. if b then delivered nodes mail l k else []) here ∙ delivered-just k
            ∙ sym (ap (λ b. (if b then mail k else []) ++ just l m k) here)
        by_link false e =
            ap (λ v. if is_same (receiver_of k) i then v else []) (ap (λ b. if b then mail k ++ under_way nodes mail k else mail k) e)
            ∙ sym (append-none (into i mail k))
            ∙ sym (ap (λ b. into i mail k ++ (if b then m ∷ [] else [])) e)

    into_other : (i : Number) → is_same (receiver_of l) i ≡ false → (k : Link) → into i (delivered nodes mail l) k ≡ into i mail k
    into_other i to k = by_link (same_link l k) refl
      where
        by_link : (b : Bool) → same_link l k ≡ b → into i (delivered nodes mail l) k ≡ into i mail k
        by_link true e =
            let here : is_same (receiver_of k) i ≡ false = ap (λ v. is_same (receiver_of v) i) (sym (same-link_is l k e)) ∙ to in
            ap (λ b. if b then delivered nodes mail l k else []) here ∙ sym (ap (λ b. if b then mail k else []) here)
        by_link false e = ap (λ v. if is_same (receiver_of k) i then v else []) (ap (λ b. if b then mail k ++ under_way nodes mail k else mail k) e)

    pub comes_to : (i : Number) → is_same (receiver_of l) i ≡ true → into i (delivered nodes mail l) ≡ added (into i mail) (just l m)
    comes_to i to = λ d. λ k. into_receiver i to k d

    pub passes_by : (i : Number) → is_same (receiver_of l) i ≡ false → into i (delivered nodes mail l) ≡ into i mail
    passes_by i to = λ d. λ k. into_other i to k d

pub added_none : (x : Mail) → added x nothing ≡ x
added_none x = λ d. λ l. append-none (x l) d

-- ---- mail that comes to a miner that has ended

not_at_end_awaits : (l : Link) → Awaits l ≡ AtItsEnd → ⊥
not_at_end_awaits l e = cc

not_at_end_refuses : (l : Link) (cause : BadMessage) → Refuses l cause ≡ AtItsEnd → ⊥
not_at_end_refuses l cause e = cc

waits_no_end : (l : Link) (shape : Shape) (ms : List (List ℕ)) → before_mail l shape ms ≢ AtItsEnd
waits_no_end l shape [] e = not_at_end_awaits l e
waits_no_end l shape (m ∷ ms) e = by_fault (fault_of shape m) e
  where
    by_fault : (fault : Option BadMessage) → option_map_or (Refuses l) fault (Awaits l) ≢ AtItsEnd
    by_fault None e = not_at_end_awaits l e
    by_fault (Some cause) e = not_at_end_refuses l cause e

module _ {A : Type 0} where
  -- what it has done, and where it stands
  pub record SameNode (a b : Ran A) : Type 0 where
    pub acts : a.acts ≡ b.acts
    pub left : a.left ≡ b.left
    pub stands : standing_of a ≡ standing_of b

  pub waits_going : (s : Strand A) (unread : Mail) (l : Link) → waits_for s ≡ Some l → standing_with s unread ≢ AtItsEnd
  waits_going (Ends a) unread l h e = none_is_some l h
  waits_going (Acts a s) unread l h e = none_is_some l h
  waits_going (Waits k shape f) unread l h e = waits_no_end k shape (unread k) e

  ended_same : (r : Ran A) → IsEnded r.left → (late : Mail) → SameNode r (followed r (run r.left (added r.unread late)))
  ended_same r h late = by_left r.left refl h
    where
      ends : (a : A) → r.left ≡ Ends a → SameNode r (followed r (run (Ends a) (added r.unread late)))
      ends a e = record { acts = sym (append-none r.acts); left = e; stands = ap (λ s. standing_with s r.unread) e }

      by_left : (s : Strand A) → r.left ≡ s → IsEnded s → SameNode r (followed r (run r.left (added r.unread late)))
      by_left (Ends a) e h = subst (λ s. SameNode r (followed r (run s (added r.unread late)))) (sym e) (ends a e)
      by_left (Acts a s) e h = absurd h
      by_left (Waits l shape k) e h = absurd h

  pub late_same : (s : Strand A) (x late : Mail) → (standing_of (run s x) ≢ AtItsEnd → late ≡ nothing) → SameNode (run s x) (run s (added x late))
  late_same s x late h = by_waiting (waits_for (run s x).left) refl
    where
      by_waiting : (o : Option Link) → waits_for (run s x).left ≡ o → SameNode (run s x) (run s (added x late))
      by_waiting None e = subst (λ r. SameNode (run s x) r) (sym (run-added s x late)) (ended_same (run s x) (not_waiting s x e) late)
      by_waiting (Some l) e =
          subst (λ m. SameNode (run s x) (run s m)) (sym (ap (added x) (h (waits_going (run s x).left (run s x).unread l e)) ∙ added_none x))
          (record { acts = refl; left = refl; stands = refl })
