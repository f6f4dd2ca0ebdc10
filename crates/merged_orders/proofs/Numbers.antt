-- Numbers of messages, and that with more that came more is sent.
use Rattle.std.proofs.Common.{◌≡◌, ◌≤◌, ◌<◌, ◌+◌, ℕ, zero, suc, pred, Bool, true, false, if◌then◌else◌, List, [], ◌∷◌, length}
use Rattle.std.proofs.Common.{refl, sym, ◌∙◌, ap, subst, arith}
use Rattle.std.specs.Prelude.{nat_lt}
use Rattle.proto_core.specs.declared.party.Number.{Number}
use Rattle.proto_core.specs.declared.link.Link.{Link}
use Rattle.proto_core.specs.Parties.{sender_of, receiver_of, is_same}
use Rattle.proto_core.specs.Script.{Move, Sends, Takes}
use Rattle.proto_core.specs.Strand.{same_link, Begins}
use Rattle.proto_core.proofs.Numbers.{same_itself}
use Rattle.proto_core.proofs.Strands.{same-link_is}
use Rattle.protocol_model.specs.Network.{Counts, into_counts, is_full, one_less, one_more, posted_count, sent_by}
use Rattle.protocol_model.proofs.NetCounts.{lt_from}
use Rattle.merged_orders.specs.Merging.{with_all, count_in, links_to}

zero_few : (n : ℕ) → 0 ≤ n
zero_few n = omega arith

plus_few : (a n m : ℕ) → n ≤ m → a + n ≤ a + m
plus_few a n m h = omega arith

pred_few : (n m : ℕ) → n ≤ m → pred n ≤ pred m
pred_few zero m h = zero_few (pred m)
pred_few (suc n) zero h = absurd (omega arith)
pred_few (suc n) (suc m) h = omega arith

lt_true : (a b : ℕ) → a < b → nat_lt a b ≡ true
lt_true a b h = grind arith

-- ---- fewer of each link

abbrev pub Few : Counts → Counts → Type 0
Few x y = (l : Link) → x l ≤ y l

less_few : (k : Link) (x y : Counts) → Few x y → Few (one_less k x) (one_less k y)
less_few k x y h l =
    elim (same_link k l) as (λ b. (if b then pred (x l) else x l) ≤ (if b then pred (y l) else y l)) [ true ↦ pred_few (x l) (y l) (h l) | false ↦ h l ]

into_few : (i : Number) (x y : Counts) → Few x y → Few (into_counts i x) (into_counts i y)
into_few i x y h l =
    elim (is_same (receiver_of l) i) as (λ b. (if b then x l else 0) ≤ (if b then y l else 0)) [ true ↦ h l | false ↦ zero_few 0 ]

-- where fewer have come no more is sent
sent_few : (moves : List Move) (x y : Counts) (l : Link) → Few x y → sent_by moves x l ≤ sent_by moves y l
sent_few [] x y l h = zero_few 0
sent_few (Sends k shape ∷ moves) x y l h =
    plus_few (if same_link l k then 1 else 0) (sent_by moves x l) (sent_by moves y l) (sent_few moves x y l h)
sent_few (Takes k shape ∷ moves) x y l h = by_counts (x k) (y k) (h k) (sent_few moves (one_less k x) (one_less k y) l (less_few k x y h))
  where
    by_counts :
        (n m : ℕ) → n ≤ m → sent_by moves (one_less k x) l ≤ sent_by moves (one_less k y) l
        → elim n as (λ _. ℕ) [ zero ↦ 0 | suc _ ↦ sent_by moves (one_less k x) l ] ≤ elim m as (λ _. ℕ) [ zero ↦ 0 | suc _ ↦ sent_by moves (one_less k y) l ]
    by_counts zero m le later = zero_few (elim m as (λ _. ℕ) [ zero ↦ 0 | suc _ ↦ sent_by moves (one_less k y) l ])
    by_counts (suc n) zero le later = absurd (omega arith)
    by_counts (suc n) (suc m) le later = later

posted_few : (scripts : Number → List Move) (x y : Counts) (l : Link) → Few x y → posted_count scripts x l ≤ posted_count scripts y l
posted_few scripts x y l h =
    sent_few (scripts (sender_of l)) (into_counts (sender_of l) x) (into_counts (sender_of l) y) l (into_few (sender_of l) x y h)

-- a link with a message under way keeps it until it is delivered
pub full_stays : (scripts : Number → List Move) (x y : Counts) (l : Link) → Few x y → x l ≡ y l → is_full scripts x l ≡ true → is_full scripts y l ≡ true
full_stays scripts x y l few same full =
    let here : x l < posted_count scripts x l = lt_from (x l) (posted_count scripts x l) full in
    let more : posted_count scripts x l ≤ posted_count scripts y l = posted_few scripts x y l few in
    let there : y l < posted_count scripts y l = omega arith in
    lt_true (y l) (posted_count scripts y l) there

-- ---- how often a link stands in a list

pub with_all_counts : (got : Counts) (ls : List Link) (l : Link) → with_all got ls l ≡ got l + count_in l ls
with_all_counts got [] l = omega arith
with_all_counts got (k ∷ ks) l = with_all_counts (one_more k got) ks l ∙ by_link (same_link k l)
  where
    by_link : (b : Bool) → (if b then got l + 1 else got l) + count_in l ks ≡ got l + ((if b then 1 else 0) + count_in l ks)
    by_link true = omega arith
    by_link false = omega arith

other_link : (k l : Link) → is_same (receiver_of k) (receiver_of l) ≡ false → same_link k l ≡ false
other_link k l e = by_link (same_link k l) refl
  where
    by_link : (b : Bool) → same_link k l ≡ b → same_link k l ≡ false
    by_link false g = g
    by_link true g =
        let same : is_same (receiver_of k) (receiver_of l) ≡ true =
        ap (λ j. is_same (receiver_of j) (receiver_of l)) (same-link_is k l g) ∙ same_itself (receiver_of l) in
        let clash : true ≡ false = sym same ∙ e in
        cc

-- all entries of a link are its receiver's
pub links_to_counts : (l : Link) (ls : List Link) → count_in l (links_to (receiver_of l) ls) ≡ count_in l ls
links_to_counts l [] = refl
links_to_counts l (k ∷ ks) = by_receiver (is_same (receiver_of k) (receiver_of l)) refl (links_to_counts l ks)
  where
    by_receiver :
        (b : Bool) → is_same (receiver_of k) (receiver_of l) ≡ b → count_in l (links_to (receiver_of l) ks) ≡ count_in l ks
        → count_in l (links_to (receiver_of l) (k ∷ ks)) ≡ count_in l (k ∷ ks)
    by_receiver true e later =
        ap (λ b. count_in l (if b then k ∷ links_to (receiver_of l) ks else links_to (receiver_of l) ks)) e
        ∙ ap (λ n. (if same_link k l then 1 else 0) + n) later
    by_receiver false e later =
        let none : count_in l ks ≡ 0 + count_in l ks = omega arith in
        ap (λ b. count_in l (if b then k ∷ links_to (receiver_of l) ks else links_to (receiver_of l) ks)) e
        ∙ later
        ∙ none
        ∙ ap (λ b. (if b then 1 else 0) + count_in l ks) (sym (other_link k l e))

pub begins_counts : (l : Link) (xs ys : List Link) → Begins xs ys → count_in l xs ≤ count_in l ys
begins_counts l [] ys h = zero_few (count_in l ys)
begins_counts l (x ∷ xs) [] h = absurd h
begins_counts l (x ∷ xs) (y ∷ ys) h =
    subst (λ v. (if same_link x l then 1 else 0) + count_in l xs ≤ (if same_link v l then 1 else 0) + count_in l ys) h.0
    (plus_few (if same_link x l then 1 else 0) (count_in l xs) (count_in l ys) (begins_counts l xs ys h.1))

pub begins_long : (xs ys : List Link) → Begins xs ys → length xs ≤ length ys
begins_long [] ys h = zero_few (length ys)
begins_long (x ∷ xs) [] h = absurd h
begins_long (x ∷ xs) (y ∷ ys) h = let l = begins_long xs ys h.1 in omega arith
