-- The messages that are still to come, entry by entry.
use Rattle.std.proofs.Common.{◌≡◌, ℕ, zero, suc, ◌+◌, ◌<◌, ◌≤◌, Bool, true, false, if◌then◌else◌, List, [], ◌∷◌, ◌++◌, length, drop, refl, sym, ◌∙◌}
use Rattle.std.proofs.Common.{ap, get_or, drop-cons, add-one, append_assoc, Option, Some, None}
use Rattle.std.specs.List.{slice_get}
use Rattle.std.proofs.lemmas.List.{drop_all}
use Rattle.proto_core.specs.declared.party.Number.{Number}
use Rattle.proto_core.specs.declared.party.Number.TheVariants.{One, Two, Three}
use Rattle.proto_core.specs.declared.link.Link.{Link}
use Rattle.proto_core.specs.declared.link.Link.TheVariants.{Link12, Link13, Link21, Link23, Link31, Link32}
use Rattle.proto_core.specs.Parties.{receiver_of, is_same, from_previous, from_next}
use Rattle.proto_core.specs.Strand.{same_link, Mail, rest_of, taken}
use Rattle.proto_core.specs.Net.{mail_of}
use Rattle.proto_core.proofs.Beginnings.{append-none}
use Rattle.proto_core.proofs.Numbers.{same_is}
use Rattle.protocol_model.specs.Arrivals.{Arrival, oldest_then, arrivals}
use Rattle.program_views.specs.Coming.{ToCome, mail_in, first_of, brought, come_with, AreArrivals}

-- ---- a queue

pub first-got : (k : ℕ) (xs : List (List ℕ)) → slice_get xs k ≡ first_of (drop k xs)
first-got zero [] = refl
first-got (suc k) [] = refl
first-got zero (x ∷ xs) = refl
first-got (suc k) (x ∷ xs) = first-got k xs

pub rest-dropped : (k : ℕ) (xs : List (List ℕ)) → k < length xs → drop (k + 1) xs ≡ rest_of (drop k xs)
rest-dropped k xs h = rw (add-one, drop-cons xs k [] h) refl

pub none-left : (k : ℕ) (xs : List (List ℕ)) → length xs ≤ k → drop k xs ≡ rest_of (drop k xs)
none-left k xs h = let e = drop_all k xs h in e ∙ sym (ap rest_of e)

pub none-first : (k : ℕ) (xs : List (List ℕ)) → length xs ≤ k → None ≡ first_of (drop k xs)
none-first k xs h = sym (ap first_of (drop_all k xs h))

pub ruleset queue_steps = (first-got, rest-dropped, none-left, none-first)

-- ---- one entry

by_message :
    (l : Link) (into : Bool) (xs : List (List ℕ)) (message : Option (List ℕ)) (more : List Arrival) →
    (if into then first_of xs else None) ≡ message →
    (if into then oldest_then l xs more else more) ≡ come_with l message more
by_message l true [] message more is = ap (λ m. come_with l m more) is
by_message l true (x ∷ xs) message more is = ap (λ m. come_with l m more) is
by_message l false xs message more is = ap (λ m. come_with l m more) is

module _ (before after : ToCome) (l : Link) (same : after.miner ≡ before.miner) (left : (k : Link) → mail_in after k ≡ taken l (mail_in before) k) where
  pub entry-comes :
      (message : Option (List ℕ)) (ls : List Link) → message ≡ brought before l →
      arrivals before.miner (mail_in before) (l ∷ ls) ≡ come_with l message (arrivals after.miner (mail_in after) ls)
  entry-comes message ls is =
      by_message l (is_same (receiver_of l) before.miner) (mail_in before l) message (arrivals before.miner (taken l (mail_in before)) ls) (sym is)
      ∙ ap (λ mail. come_with l message (arrivals before.miner mail ls)) (λ d. λ k. sym (left k) d)
      ∙ ap (λ i. come_with l message (arrivals i (mail_in after) ls)) (sym same)

come-append : (l : Link) (message : Option (List ℕ)) (more : List Arrival) → come_with l message more ≡ come_with l message [] ++ more
come-append l None more = refl
come-append l (Some m) more = refl

pub comes-some :
    (l : Link) (message : Option (List ℕ)) (m : List ℕ) (a : Arrival) (got more : List Arrival) →
    more ≡ got ++ a ∷ [] → a ≡ record { link = l; message = m } → message ≡ Some m → more ≡ got ++ come_with l message []
comes-some l message m a got more has is some =
    has ∙ ap (λ x. got ++ x ∷ []) is ∙ ap (λ x. got ++ come_with l x []) (sym some)

pub comes-none :
    (l : Link) (message : Option (List ℕ)) (got more : List Arrival) → more ≡ got → message ≡ None → more ≡ got ++ come_with l message []
comes-none l message got more has none = has ∙ sym (append-none got) ∙ ap (λ x. got ++ come_with l x []) (sym none)

-- the entry of a place in the order, after those before it
pub entry-goes :
    (before after : ToCome) (k : ℕ) (d : Link) (order : List Link) (message : Option (List ℕ)) (got more whole : List Arrival) →
    k < length order → message ≡ brought before (get_or order k d) → after.miner ≡ before.miner →
    ((l : Link) → mail_in after l ≡ taken (get_or order k d) (mail_in before) l) →
    more ≡ got ++ come_with (get_or order k d) message [] →
    got ++ arrivals before.miner (mail_in before) (drop k order) ≡ whole →
    more ++ arrivals after.miner (mail_in after) (drop (k + 1) order) ≡ whole
entry-goes before after k d order message got more whole within is same left has done =
    let l : Link = get_or order k d in
    let rest : List Arrival = arrivals after.miner (mail_in after) (drop (suc k) order) in
    ap (λ n. more ++ arrivals after.miner (mail_in after) (drop n order)) (add-one k)
    ∙ ap (λ xs. xs ++ rest) has
    ∙ append_assoc got (come_with l message []) rest
    ∙ ap (λ xs. got ++ xs) (sym (come-append l message rest) ∙ sym (entry-comes before after l same left message (drop (suc k) order) is))
    ∙ ap (λ ls. got ++ arrivals before.miner (mail_in before) ls) (sym (drop-cons order k d within))
    ∙ done

-- ---- other links make no difference

same-on : (i : Number) (x y : Mail) (l k : Link) → x k ≡ y k → taken l x k ≡ taken l y k
same-on i x y l k h = elim (same_link l k) as (λ b. (if b then rest_of (x k) else x k) ≡ (if b then rest_of (y k) else y k)) [ true ↦ ap rest_of h | false ↦ h ]

own-alone :
    (i : Number) (x y : Mail) (ls : List Link) → ((l : Link) → receiver_of l ≡ i → x l ≡ y l) → arrivals i x ls ≡ arrivals i y ls
own-alone i x y [] same = refl
own-alone i x y (l ∷ ls) same =
    by_link (is_same (receiver_of l) i) refl
    (own-alone i (taken l x) (taken l y) ls (λ k into. same-on i x y l k (same k into)))
  where
    by_link :
        (b : Bool) → is_same (receiver_of l) i ≡ b → arrivals i (taken l x) ls ≡ arrivals i (taken l y) ls →
        (if b then oldest_then l (x l) (arrivals i (taken l x) ls) else arrivals i (taken l x) ls)
        ≡ (if b then oldest_then l (y l) (arrivals i (taken l y) ls) else arrivals i (taken l y) ls)
    by_link true into more =
        ap (λ ms. oldest_then l ms (arrivals i (taken l x) ls)) (same l (same_is (receiver_of l) i into)) ∙ ap (oldest_then l (y l)) more
    by_link false into more = more

on-own : (i : Number) (mail : Mail) (l : Link) → receiver_of l ≡ i → mail_of i (mail (from_previous i)) (mail (from_next i)) l ≡ mail l
on-own One mail Link21 h = refl
on-own One mail Link31 h = refl
on-own Two mail Link12 h = refl
on-own Two mail Link32 h = refl
on-own Three mail Link13 h = refl
on-own Three mail Link23 h = refl
on-own _ mail _ h = cc

-- ---- all entries

pub all-come :
    (i : Number) (previous next : List (List ℕ)) (order : List Link) (got : List Arrival) →
    got ≡ arrivals i (mail_of i previous next) order → AreArrivals i previous next order got
all-come i previous next order got is mail p n =
    is
    ∙ ap (λ ms. arrivals i (mail_of i ms next) order) (sym p)
    ∙ ap (λ ms. arrivals i (mail_of i (mail (from_previous i)) ms) order) (sym n)
    ∙ own-alone i (mail_of i (mail (from_previous i)) (mail (from_next i))) mail order (on-own i mail)
