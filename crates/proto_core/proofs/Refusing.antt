-- Where a miner refuses a message, it says what the protocol's own refusal says, and goes on refusing it.
use Rattle.std.proofs.Common.{◌≡◌, ◌≢◌, ℕ, zero, suc, ◌+◌, ◌*◌, ◌<◌, ◌≤◌, ◌==◌, Bool, true, false, ◌&&◌, if◌then◌else◌}
use Rattle.std.specs.Option.{option_or, option_map_or}
use Rattle.std.proofs.Common.{List, [], ◌∷◌, ◌++◌, length, take, drop, refl, sym, ◌∙◌, ap, ap₂, subst, arith, inl, inr, is_none, length-append}
use Rattle.std.specs.Prelude.{Option, Some, None, replicate}
use Rattle.std.specs.List.{list_all}
use Rattle.std.proofs.lemmas.List.{get_or-take, get_or-drop, length-take, length-drop, length-replicate, drop-drop}
use Rattle.proto_core.specs.declared.link.Link.{Link}
use Rattle.proto_core.specs.declared.refused.BadMessage.{BadMessage}
use Rattle.proto_core.specs.declared.refused.BadMessage.TheVariants.{BadLength, NotABit}
use Rattle.proto_core.specs.declared.refused.Refused.{Refused}
use Rattle.proto_core.specs.Lists.{at}
use Rattle.proto_core.specs.Refusals.{WrongLength, WrongBit, RefusesBits}
use Rattle.proto_core.specs.Strand.{Field, Words, Bits, Shape, shaped, is_bit, has_bits, accepts, Mail, Strand, Ends, Acts, Waits, taken, Ran, run}
use Rattle.proto_core.specs.Net.{added}
use Rattle.proto_core.specs.Standing.{first_no_bit, bad_bit, fault_of, Awaits, Refuses, AtItsEnd, before_mail, standing_with, standing_of}
use Rattle.proto_core.proofs.Beginnings.{append-none}
use Rattle.proto_core.proofs.Strands.{run-none, run-took, run-refused, run-added, followed}

-- ---- a message has a fault exactly where it isn't accepted

no_bit : (place : ℕ) (xs : List ℕ) → is_none (first_no_bit place xs) ≡ list_all is_bit xs
no_bit place [] = refl
no_bit place (x ∷ xs) =
    elim (is_bit x) as (λ b. is_none (if b then first_no_bit (place + 1) xs else Some (NotABit place x)) ≡ (b && list_all is_bit xs))
    [ true ↦ no_bit (place + 1) xs | false ↦ refl ]

neither : (a b : Option BadMessage) → is_none (option_or a b) ≡ (is_none a && is_none b)
neither None b = refl
neither (Some cause) b = refl

no_field : (n place : ℕ) (fields : List Field) (m : List ℕ) → is_none (bad_bit n place fields m) ≡ has_bits n fields m
no_field n place [] m = refl
no_field n place (Words ∷ fields) m = no_field n (place + n) fields (drop n m)
no_field n place (Bits ∷ fields) m =
    neither (first_no_bit place (take n m)) (bad_bit n (place + n) fields (drop n m))
    ∙ ap (λ b. b && is_none (bad_bit n (place + n) fields (drop n m))) (no_bit place (take n m))
    ∙ ap (λ b. list_all is_bit (take n m) && b) (no_field n (place + n) fields (drop n m))

pub faultless_is_accepted : (s : Shape) (m : List ℕ) → is_none (fault_of s m) ≡ accepts s m
faultless_is_accepted s m =
    elim (length m == length s.fields * s.count)
    as (λ b. is_none (if b then bad_bit s.count 0 s.fields m else Some (BadLength (length s.fields * s.count) (length m))) ≡ (b && has_bits s.count s.fields m))
    [ true ↦ no_field s.count 0 s.fields m | false ↦ refl ]

-- ---- the protocols' own refusals

equal : (a b : ℕ) → a ≡ b → (a == b) ≡ true
equal a b h = grind arith

unequal : (a b : ℕ) → a ≢ b → (a == b) ≡ false
unequal a b h = grind arith

fault_by_length : (s : Shape) (m : List ℕ) → length m ≢ length s.fields * s.count → fault_of s m ≡ Some (BadLength (length s.fields * s.count) (length m))
fault_by_length s m h =
    ap (λ b. if b then bad_bit s.count 0 s.fields m else Some (BadLength (length s.fields * s.count) (length m))) (unequal _ _ h)

fault_by_bits : (s : Shape) (m : List ℕ) → length m ≡ length s.fields * s.count → fault_of s m ≡ bad_bit s.count 0 s.fields m
fault_by_bits s m h =
    ap (λ b. if b then bad_bit s.count 0 s.fields m else Some (BadLength (length s.fields * s.count) (length m))) (equal _ _ h)

-- a wrong length is told with both lengths
pub wrong_length_is_told :
    {S : Type 0} (before : S) (s : Shape) (want : ℕ) (m : List ℕ) (refused : Refused S) → want ≡ length s.fields * s.count →
    WrongLength before want (length m) refused → fault_of s m ≡ Some refused.cause
wrong_length_is_told before s want m refused size h =
    fault_by_length s m (λ e. h.differs (e ∙ sym size)) ∙ ap (λ k. Some (BadLength k (length m))) (sym size) ∙ ap Some (sym h.cause)

pub bit_test : (x : ℕ) → x < 2 → is_bit x ≡ true
bit_test x h = grind arith

no_bit_test : (x : ℕ) → 1 < x → is_bit x ≡ false
no_bit_test x h = grind arith

nothing_there : {P : Type 0} (k : ℕ) → k < 0 → P
nothing_there k h = absurd (omega arith)

first_is :
    (base : ℕ) (xs : List ℕ) (place : ℕ) → place < length xs → ((k : ℕ) → k < place → at xs k < 2) → 1 < at xs place →
    first_no_bit base xs ≡ Some (NotABit (base + place) (at xs place))
first_is base [] place within before above = nothing_there place within
first_is base (x ∷ xs) zero within before above =
    ap (λ b. if b then first_no_bit (base + 1) xs else Some (NotABit base x)) (no_bit_test x above) ∙ ap (λ p. Some (NotABit p x)) (omega arith)
first_is base (x ∷ xs) (suc place) within before above =
    ap (λ b. if b then first_no_bit (base + 1) xs else Some (NotABit base x)) (bit_test x (before 0 (omega arith)))
    ∙ first_is (base + 1) xs place (omega arith) (λ k h. before (suc k) (omega arith)) above
    ∙ ap (λ p. Some (NotABit p (at xs place))) (omega arith)

nothing_more : (n : ℕ) → 0 + n ≡ n
nothing_more n = omega arith

none_times : (n : ℕ) → 0 ≡ 0 * n
none_times n = omega arith

one_more_times : (k n : ℕ) → n + k * n ≡ suc k * n
one_more_times k n = grind arith

-- fields of words are passed over
behind_words :
    (n place before : ℕ) (fields : List Field) (m : List ℕ) →
    bad_bit n place (replicate before Words ++ fields) m ≡ bad_bit n (place + before * n) fields (drop (before * n) m)
behind_words n place zero fields m =
    ap (λ p. bad_bit n p fields m) (omega arith) ∙ ap (λ k. bad_bit n (place + 0 * n) fields (drop k m)) (none_times n)
behind_words n place (suc before) fields m =
    behind_words n (place + n) before fields (drop n m)
    ∙ ap (λ v. bad_bit n ((place + n) + before * n) fields v) (drop-drop (before * n) n m)
    ∙ ap (λ k. bad_bit n k fields (drop (n + before * n) m)) (let e = one_more_times before n in omega arith)
    ∙ ap (λ k. bad_bit n (place + suc before * n) fields (drop k m)) (one_more_times before n)

small : (x y : ℕ) → x ≡ y → y < 2 → x < 2
small x y e l = omega arith

large : (x y : ℕ) → x ≡ y → 1 < y → 1 < x
large x y e l = omega arith

module _ (n before after : ℕ) (m : List ℕ) where
  -- one field of bits, with fields of words before it and after it
  abbrev pub one_bit_field : Shape
  one_bit_field = shaped n (replicate before Words ++ Bits ∷ replicate after Words)

  at_field : (k : ℕ) → k < n → at (take n (drop (before * n) m)) k ≡ at m (before * n + k)
  at_field k h = get_or-take n (drop (before * n) m) k 0 h ∙ get_or-drop (before * n) m k 0

  wrong_bit : (cause : BadMessage) → before * n + n ≤ length m → WrongBit m (before * n) n cause → bad_bit n 0 one_bit_field.fields m ≡ Some cause
  wrong_bit cause enough h =
      let first = h.is_first in
      let field = take n (drop (before * n) m) in
      let there : at field h.place ≡ at m (before * n + h.place) = at_field h.place first.within in
      let long : h.place < length field = omega (arith, first.within, length-take n (drop (before * n) m), length-drop (before * n) m) in
      behind_words n 0 before (Bits ∷ replicate after Words) m
      ∙ ap (λ p. bad_bit n p (Bits ∷ replicate after Words) (drop (before * n) m)) (nothing_more (before * n))
      ∙ ap (λ o. option_or o (bad_bit n (before * n + n) (replicate after Words) (drop n (drop (before * n) m))))
      (first_is (before * n) field h.place long (λ k below. small _ _ (at_field k (omega (arith, first.within))) (first.first k below))
      (large _ _ there first.above)
      ∙ ap (λ w. Some (NotABit (before * n + h.place) w)) there)
      ∙ ap Some (sym h.is)

  -- a wrong length is told, and else the first word of the field that is no bit, with its place in the message
  pub wrong_bits_are_told :
      {S : Type 0} (state : S) (want from : ℕ) (refused : Refused S) → want ≡ length one_bit_field.fields * n → from ≡ before * n → before * n + n ≤ want →
      RefusesBits state m want from n refused → fault_of one_bit_field m ≡ Some refused.cause
  wrong_bits_are_told state want from refused size place within h =
      elim h.why as (λ w. fault_of one_bit_field m ≡ Some refused.cause) [
        | inl wrong ↦ fault_by_length one_bit_field m (λ e. wrong.0 (e ∙ sym size)) ∙ ap (λ k. Some (BadLength k (length m))) (sym size) ∙ ap Some (sym wrong.1)
        | inr bits ↦ fault_by_bits one_bit_field m (bits.0 ∙ size)
            ∙ wrong_bit refused.cause (omega (arith, bits.0)) (subst (λ v. WrongBit m v n refused.cause) place bits.1)
      ]

-- so many words are as long as the fields to the end of that of bits
fields_times : (b a n : ℕ) → b * n + n ≤ (b + suc a) * n
fields_times b a n = grind arith

bits_within : (n before after : ℕ) → before * n + n ≤ length (replicate before Words ++ Bits ∷ replicate after Words) * n
bits_within n before after =
    let many : length (replicate before Words ++ Bits ∷ replicate after Words) ≡ before + suc after =
    length-append (replicate before Words) (Bits ∷ replicate after Words)
    ∙ ap₂ (λ b a. b + suc a) (length-replicate before Words) (length-replicate after Words) in
    subst (λ k. before * n + n ≤ k * n) (sym many) (fields_times before after n)

pub wrong_bit_is_told :
    (n before after : ℕ) (m : List ℕ) (cause : BadMessage) → length m ≡ length (replicate before Words ++ Bits ∷ replicate after Words) * n →
    WrongBit m (before * n) n cause → fault_of (shaped n (replicate before Words ++ Bits ∷ replicate after Words)) m ≡ Some cause
wrong_bit_is_told n before after m cause size h =
    fault_by_bits (one_bit_field n before after m) m size
    ∙ wrong_bit n before after m cause (subst (λ k. before * n + n ≤ k) (sym size) (bits_within n before after)) h

one_times : (n : ℕ) → n ≡ 1 * n
one_times n = omega arith

two_times : (n : ℕ) → 1 * n + n ≤ 2 * n
two_times n = omega arith

-- so in the messages that have a field of bits: after, between or before words, or alone
module _ {S : Type 0} (state : S) (n : ℕ) (m : List ℕ) (refused : Refused S) where
  pub bits_between_words : RefusesBits state m (3 * n) n n refused → fault_of (shaped n (Words ∷ Bits ∷ Words ∷ [])) m ≡ Some refused.cause
  bits_between_words h = wrong_bits_are_told n 1 1 m state (3 * n) n refused refl (one_times n) (omega arith) h

  pub bits_behind_words : RefusesBits state m (2 * n) n n refused → fault_of (shaped n (Words ∷ Bits ∷ [])) m ≡ Some refused.cause
  bits_behind_words h = wrong_bits_are_told n 1 0 m state (2 * n) n refused refl (one_times n) (two_times n) h

  pub bits_before_words : RefusesBits state m (2 * n) 0 n refused → fault_of (shaped n (Bits ∷ Words ∷ [])) m ≡ Some refused.cause
  bits_before_words h = wrong_bits_are_told n 0 1 m state (2 * n) 0 refused refl (none_times n) (omega arith) h

  pub bits_alone : RefusesBits state m n 0 n refused → fault_of (shaped n (Bits ∷ [])) m ≡ Some refused.cause
  bits_alone h = wrong_bits_are_told n 0 0 m state n 0 refused (one_times n) (none_times n) (omega arith) h

-- ---- runs

-- what holds of a place and of the messages that were not taken
abbrev pub IsStood : {A : Type 0} → Strand A → Mail → Type 0
IsStood (Ends a) unread = Unit {0}
IsStood (Acts a s) unread = ⊥
IsStood (Waits l n k) unread = (m : List ℕ) (ms : List (List ℕ)) → unread l ≡ m ∷ ms → accepts n m ≡ false

cons_none : {P : Type 0} (m : List ℕ) (ms : List (List ℕ)) → [] ≡ m ∷ ms → P
cons_none m ms e = cc

heads : (m m2 : List ℕ) (ms ms2 : List (List ℕ)) → m ∷ ms ≡ m2 ∷ ms2 → m ≡ m2
heads m m2 ms ms2 e = cc

-- a run stands at its end, before no message, or before one of another shape
pub run_is_stood : {A : Type 0} (s : Strand A) (x : Mail) → IsStood (run s x).left (run s x).unread
run_is_stood (Ends a) x = tt
run_is_stood (Acts a s) x = run_is_stood s x
run_is_stood {A} (Waits l n k) x = by_mail (x l) refl (λ m. run_is_stood (k m) (taken l x))
  where
    Stood : Ran A → Type 0
    Stood r = IsStood r.left r.unread

    by_mail : (xs : List (List ℕ)) → x l ≡ xs → ((m : List ℕ) → Stood (run (k m) (taken l x))) → Stood (run (Waits l n k) x)
    by_mail [] e more = subst (λ r. Stood r) (sym (run-none l n k x e)) (λ m ms f. cons_none m ms (sym e ∙ f))
    by_mail (m ∷ ms) e more = by_shape (accepts n m) refl
      where
        by_shape : (b : Bool) → accepts n m ≡ b → Stood (run (Waits l n k) x)
        by_shape true f = subst (λ r. Stood r) (sym (run-took l n k x m ms e f)) (more m)
        by_shape false f = subst (λ r. Stood r) (sym (run-refused l n k x m ms e f)) (λ m2 ms2 g. ap (accepts n) (sym (heads m m2 ms ms2 (sym e ∙ g))) ∙ f)

no_such_end : {P : Type 0} (l : Link) (cause : BadMessage) → AtItsEnd ≡ Refuses l cause → P
no_such_end l cause e = cc

no_such_wait : {P : Type 0} (l k : Link) (cause : BadMessage) → Awaits k ≡ Refuses l cause → P
no_such_wait l k cause e = cc

no_end_awaits : {P : Type 0} (l : Link) → AtItsEnd ≡ Awaits l → P
no_end_awaits l e = cc

same_wait : (k l : Link) → Awaits k ≡ Awaits l → k ≡ l
same_wait k l e = cc

-- with more mail a place that refuses a message does nothing, and refuses it
refuses_on :
    {A : Type 0} (t : Strand A) (unread y : Mail) (l : Link) (cause : BadMessage) → IsStood t unread → standing_with t unread ≡ Refuses l cause →
    (run t (added unread y) ≡ record { acts = []; left = t; unread = added unread y }) × (standing_with t (added unread y) ≡ Refuses l cause)
refuses_on (Ends a) unread y l cause stood e = no_such_end l cause e
refuses_on (Acts a s) unread y l cause stood e = absurd stood
refuses_on (Waits k n f) unread y l cause stood e = by_mail (unread k) refl
  where
    by_mail : (xs : List (List ℕ)) → unread k ≡ xs →
        (run (Waits k n f) (added unread y) ≡ record { acts = []; left = Waits k n f; unread = added unread y })
        × (standing_with (Waits k n f) (added unread y) ≡ Refuses l cause)
    by_mail [] g = no_such_wait l k cause (sym (ap (before_mail k n) g) ∙ e)
    by_mail (m ∷ ms) g =
        let more : added unread y k ≡ m ∷ (ms ++ y k) = ap (λ v. v ++ y k) g in
        (run-refused k n f (added unread y) m (ms ++ y k) more (stood m ms g), ap (before_mail k n) more ∙ sym (ap (before_mail k n) g) ∙ e)

-- whatever comes after a refused message, a miner refuses it again, for the same cause, and does no more
pub refused_stays :
    {A : Type 0} (s : Strand A) (x y : Mail) (l : Link) (cause : BadMessage) → standing_of (run s x) ≡ Refuses l cause →
    (standing_of (run s (added x y)) ≡ Refuses l cause) × ((run s (added x y)).acts ≡ (run s x).acts)
refused_stays s x y l cause e =
    let r = run s x in
    let still = refuses_on r.left r.unread y l cause (run_is_stood s x) e in
    let whole = run-added s x y ∙ ap (followed r) still.0 in
    (ap standing_of whole ∙ still.1, ap (λ q. q.acts) whole ∙ append-none r.acts)

faulty : {P : Type 0} (l k : Link) (o : Option BadMessage) → is_none o ≡ false → option_map_or (Refuses k) o (Awaits k) ≡ Awaits l → P
faulty l k None e g = cc
faulty l k (Some cause) e g = cc

none_unread : {A : Type 0} (t : Strand A) (unread : Mail) (l : Link) → IsStood t unread → standing_with t unread ≡ Awaits l → unread l ≡ []
none_unread (Ends a) unread l stood e = no_end_awaits l e
none_unread (Acts a s) unread l stood e = absurd stood
none_unread (Waits k n f) unread l stood e = by_mail (unread k) refl
  where
    by_mail : (xs : List (List ℕ)) → unread k ≡ xs → unread l ≡ []
    by_mail [] g = subst (λ j. unread j ≡ []) (same_wait k l (sym (ap (before_mail k n) g) ∙ e)) g
    by_mail (m ∷ ms) g =
        faulty l k (fault_of n m) (faultless_is_accepted n m ∙ stood m ms g) (sym (ap (before_mail k n) g) ∙ e)

-- a miner that waits for a link has taken all messages of it
pub awaits_what_is_not_there : {A : Type 0} (s : Strand A) (x : Mail) (l : Link) → standing_of (run s x) ≡ Awaits l → (run s x).unread l ≡ []
awaits_what_is_not_there s x l e = none_unread (run s x).left (run s x).unread l (run_is_stood s x) e
