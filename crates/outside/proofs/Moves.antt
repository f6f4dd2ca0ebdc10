-- Calls of links one after another.
use Rattle.std.proofs.Common.{◌≡◌, ◌≢◌, ◌<◌, ℕ, ◌==◌, Bool, true, false, if◌then◌else◌, List, [], ◌∷◌, ◌++◌, length, take}
use Rattle.std.proofs.Common.{refl, sym, ap, ◌∙◌, subst, inl, inr}
use Rattle.std.proofs.lemmas.Bool.{eqb-true, eqb-false}
use Rattle.std.proofs.lemmas.List.{append-nil, append_assoc}
use Rattle.outside.specs.Links.{LinkMove, joined, gave, took, no_bytes, bytes_of, and_then, given_in, taken_in, AreDue}
use Rattle.outside.specs.Links.{LinksState, SameBytes, SameLinks, OneMore, Sent, Came, Did, Ordered, JoinedFirst, JoinedOrNot}

-- ---- BYTES BY PEERS

pub then_none : (f : ℕ → List ℕ) → and_then f no_bytes ≡ f
then_none f = λ x. λ p. append-nil (f p) x

pub then_assoc : (f g h : ℕ → List ℕ) → and_then (and_then f g) h ≡ and_then f (and_then g h)
then_assoc f g h = λ x. λ p. append_assoc (f p) (g p) (h p) x

pub bytes_here : (n : ℕ) (bytes : List ℕ) → bytes_of n bytes n ≡ bytes
bytes_here n bytes = by_test (n == n) refl
  where
    by_test : (same : Bool) → (n == n) ≡ same → (if same then bytes else []) ≡ bytes
    by_test true e = refl
    by_test false e = absurd (eqb-false n n e refl)

pub bytes_elsewhere : (n p : ℕ) (bytes : List ℕ) → p ≢ n → bytes_of n bytes p ≡ []
bytes_elsewhere n p bytes apart = by_test (p == n) refl
  where
    by_test : (same : Bool) → (p == n) ≡ same → (if same then bytes else []) ≡ []
    by_test true e = absurd (apart (eqb-true p n e))
    by_test false e = refl

pub bytes_more : (n : ℕ) (xs ys : List ℕ) → and_then (bytes_of n xs) (bytes_of n ys) ≡ bytes_of n (xs ++ ys)
bytes_more n xs ys = λ x. λ p. by_test p (p == n) x
  where
    by_test : (p : ℕ) (same : Bool) → (if same then xs else []) ++ (if same then ys else []) ≡ (if same then xs ++ ys else [])
    by_test p true = refl
    by_test p false = refl

pub bytes_none : (n : ℕ) → bytes_of n [] ≡ no_bytes
bytes_none n = λ x. λ p. by_test p (p == n) x
  where
    by_test : (p : ℕ) (same : Bool) → (if same then no_bytes p else no_bytes p) ≡ no_bytes p
    by_test p true = refl
    by_test p false = refl

-- ---- LISTS OF CALLS

pub given_more : (xs ys : List LinkMove) → given_in (xs ++ ys) ≡ and_then (given_in xs) (given_in ys)
given_more [] ys = refl
given_more (joined me port ∷ xs) ys = given_more xs ys
given_more (gave peer bytes ∷ xs) ys =
    ap (and_then (bytes_of peer bytes)) (given_more xs ys) ∙ sym (then_assoc (bytes_of peer bytes) (given_in xs) (given_in ys))
given_more (took peer bytes ∷ xs) ys = given_more xs ys

pub taken_more : (xs ys : List LinkMove) → taken_in (xs ++ ys) ≡ and_then (taken_in xs) (taken_in ys)
taken_more [] ys = refl
taken_more (joined me port ∷ xs) ys = taken_more xs ys
taken_more (gave peer bytes ∷ xs) ys = taken_more xs ys
taken_more (took peer bytes ∷ xs) ys =
    ap (and_then (bytes_of peer bytes)) (taken_more xs ys) ∙ sym (then_assoc (bytes_of peer bytes) (taken_in xs) (taken_in ys))

abbrev pub Dues : Type 1
Dues = (given came : ℕ → List ℕ) → ℕ → Type 0

module _ (D : Dues) where
  pub due_on :
      (g c : ℕ → List ℕ) (xs ys : List LinkMove) → AreDue D g c xs → AreDue D (and_then g (given_in xs)) (and_then c (taken_in xs)) ys →
      AreDue D g c (xs ++ ys)
  due_on g c [] ys h k = subst (λ v. AreDue D v c ys) (then_none g) (subst (λ v. AreDue D (and_then g no_bytes) v ys) (then_none c) k)
  due_on g c (joined me port ∷ xs) ys h k = absurd h
  due_on g c (gave peer bytes ∷ xs) ys h k =
      due_on (and_then g (bytes_of peer bytes)) c xs ys h
      (subst (λ v. AreDue D v (and_then c (taken_in xs)) ys) (sym (then_assoc g (bytes_of peer bytes) (given_in xs))) k)
  due_on g c (took peer bytes ∷ xs) ys h k = (
    h.0,
    due_on g (and_then c (bytes_of peer bytes)) xs ys h.1
        (subst (λ v. AreDue D (and_then g (given_in xs)) v ys) (sym (then_assoc c (bytes_of peer bytes) (taken_in xs))) k),
  )

  -- what is due after other calls, by another account
  module _ (E : Dues) (g0 c0 : ℕ → List ℕ) (step : (g c : ℕ → List ℕ) (p : ℕ) → D g c p → E (and_then g0 g) (and_then c0 c) p) where
    pub due_after : (g c : ℕ → List ℕ) (xs : List LinkMove) → AreDue D g c xs → AreDue E (and_then g0 g) (and_then c0 c) xs
    due_after g c [] h = tt
    due_after g c (joined me port ∷ xs) h = absurd h
    due_after g c (gave peer bytes ∷ xs) h =
        subst (λ v. AreDue E v (and_then c0 c) xs) (sym (then_assoc g0 g (bytes_of peer bytes)))
        (due_after (and_then g (bytes_of peer bytes)) c xs h)
    due_after g c (took peer bytes ∷ xs) h = (
      λ n below.
          subst (λ v. E (and_then g0 g) v peer) (sym (then_assoc c0 c (bytes_of peer (take n bytes))))
          (step g (and_then c (bytes_of peer (take n bytes))) peer (h.0 n below)),
      subst (λ v. AreDue E (and_then g0 g) v xs) (sym (then_assoc c0 c (bytes_of peer bytes)))
          (due_after g (and_then c (bytes_of peer bytes)) xs h.1),
    )

-- ---- SEVERAL CALLS

pub did_none : (D : Dues) (a : LinksState) → Did D a a no_bytes no_bytes
did_none D a =
    record {
      since = [];
      moves = sym (append-nil a.moves);
      gave_these = refl;
      took_those = refl;
      sent = sym (then_none a.sent);
      came = refl;
      due = tt;
    }

-- by another account
pub did_as :
    (D E : Dues) (a b : LinksState) (given taken : ℕ → List ℕ) → ((g c : ℕ → List ℕ) (p : ℕ) → D g c p → E g c p) → Did D a b given taken →
    Did E a b given taken
did_as D E a b given taken step h =
    record {
      since = h.since;
      moves = h.moves;
      gave_these = h.gave_these;
      took_those = h.took_those;
      sent = h.sent;
      came = h.came;
      due = due_after D E no_bytes no_bytes step no_bytes no_bytes h.since h.due;
    }

-- one after another
pub did_on :
    (D E : Dues) (a b c : LinksState) (g k t u : ℕ → List ℕ) → Did D a b g t → Did E b c k u →
    ((g' c' : ℕ → List ℕ) (p : ℕ) → E g' c' p → D (and_then g g') (and_then t c') p) → Did D a c (and_then g k) (and_then t u)
did_on D E a b c g k t u one two step =
    let given : given_in (one.since ++ two.since) ≡ and_then g k =
    given_more one.since two.since ∙ ap (λ v. and_then v (given_in two.since)) one.gave_these ∙ ap (and_then g) two.gave_these in
    let taken : taken_in (one.since ++ two.since) ≡ and_then t u =
    taken_more one.since two.since ∙ ap (λ v. and_then v (taken_in two.since)) one.took_those ∙ ap (and_then t) two.took_those in
    let later : AreDue D g t two.since =
    subst (λ v. AreDue D v t two.since) (then_none g)
    (subst (λ v. AreDue D (and_then g no_bytes) v two.since) (then_none t) (due_after E D g t step no_bytes no_bytes two.since two.due)) in
    record {
      since = one.since ++ two.since;
      moves = two.moves ∙ ap (λ v. v ++ two.since) one.moves ∙ append_assoc a.moves one.since two.since;
      gave_these = given;
      took_those = taken;
      sent = two.sent ∙ ap (λ v. and_then v k) one.sent ∙ then_assoc a.sent g k;
      came = one.came ∙ ap (and_then t) two.came ∙ sym (then_assoc t u c.coming);
      due = due_on D no_bytes no_bytes one.since two.since one.due
          (subst (λ v. AreDue D v (taken_in one.since) two.since) (sym one.gave_these)
          (subst (λ v. AreDue D g v two.since) (sym one.took_those) later));
    }

-- bytes are given, or taken, after other calls
pub did_then_give :
    (D E : Dues) (a b c : LinksState) (g k t : ℕ → List ℕ) → Did D a b g t → Did E b c k no_bytes →
    ((g' c' : ℕ → List ℕ) (p : ℕ) → E g' c' p → D (and_then g g') (and_then t c') p) → Did D a c (and_then g k) t
did_then_give D E a b c g k t one two step =
    subst (λ v. Did D a c (and_then g k) v) (then_none t) (did_on D E a b c g k t no_bytes one two step)

pub did_then_take :
    (D E : Dues) (a b c : LinksState) (g t u : ℕ → List ℕ) → Did D a b g t → Did E b c no_bytes u →
    ((g' c' : ℕ → List ℕ) (p : ℕ) → E g' c' p → D (and_then g g') (and_then t c') p) → Did D a c g (and_then t u)
did_then_take D E a b c g t u one two step =
    subst (λ v. Did D a c v (and_then t u)) (then_none g) (did_on D E a b c g no_bytes t u one two step)

-- ---- ONE CALL

pub did_same : (D : Dues) (a b : LinksState) → SameLinks a b → Did D a b no_bytes no_bytes
did_same D a b h =
    record {
      since = [];
      moves = h.moves ∙ sym (append-nil a.moves);
      gave_these = refl;
      took_those = refl;
      sent = h.sent ∙ sym (then_none a.sent);
      came = sym h.coming;
      due = tt;
    }

module _ (a b : LinksState) (told : a.told ≡ true) (peer : ℕ) (bytes : List ℕ) where
  pub did_give : (D : Dues) → Sent a b peer bytes → OneMore a b (gave peer bytes) → Did D a b (bytes_of peer bytes) no_bytes
  did_give D h more =
      record {
        since = gave peer bytes ∷ [];
        moves = more told;
        gave_these = then_none (bytes_of peer bytes);
        took_those = refl;
        sent = λ x. λ p. at p (p == peer) refl x;
        came = sym h.coming;
        due = tt;
      }
    where
      at : (p : ℕ) (same : Bool) → (p == peer) ≡ same → b.sent p ≡ a.sent p ++ (if same then bytes else [])
      at p true e =
          let is : p ≡ peer = eqb-true p peer e in
          subst (λ q. b.sent q ≡ a.sent q ++ bytes) (sym is) (h.sent told)
      at p false e = h.others told p (eqb-false p peer e) ∙ sym (append-nil (a.sent p))

  pub did_take :
      (D : Dues) → Came a b peer bytes → OneMore a b (took peer bytes) → ((n : ℕ) → n < length bytes → D no_bytes (bytes_of peer (take n bytes)) peer) →
      Did D a b no_bytes (bytes_of peer bytes)
  did_take D h more due =
      record {
        since = took peer bytes ∷ [];
        moves = more told;
        gave_these = refl;
        took_those = then_none (bytes_of peer bytes);
        sent = h.sent ∙ sym (then_none a.sent);
        came = λ x. λ p. at p (p == peer) refl x;
        due = (due, tt);
      }
    where
      at : (p : ℕ) (same : Bool) → (p == peer) ≡ same → a.coming p ≡ (if same then bytes else []) ++ b.coming p
      at p true e =
          let is : p ≡ peer = eqb-true p peer e in
          subst (λ q. a.coming q ≡ bytes ++ b.coming q) (sym is) (h.came told)
      at p false e = sym (h.others told p (eqb-false p peer e))

-- ---- PEERS THAT ARE JOINED

module _ (D : Dues) (me port : ℕ) (a b c : LinksState) (told : a.told ≡ true) where
  pub did_join : SameBytes a b → OneMore a b (joined me port) → Ordered D b c → JoinedOrNot D me port a c
  did_join same more after =
      let later = after (same.told ∙ told) in
      let did = later.2 in
      inr (record {
        since = did.since;
        moves = did.moves ∙ ap (λ v. v ++ did.since) (more told) ∙ append_assoc a.moves (joined me port ∷ []) did.since;
        sent = did.sent ∙ ap (λ v. and_then v later.0) same.sent ∙ ap (and_then a.sent) (sym did.gave_these);
        came = sym same.coming ∙ did.came ∙ ap (λ v. and_then v c.coming) (sym did.took_those);
        due = did.due;
      })

-- the same by another account of what is due
pub joined_as :
    (D E : Dues) (me port : ℕ) (a c : LinksState) → ((g' c' : ℕ → List ℕ) (p : ℕ) → D g' c' p → E g' c' p) → JoinedOrNot D me port a c →
    JoinedOrNot E me port a c
joined_as D E me port a c step (inl same) = inl same
joined_as D E me port a c step (inr h) =
    inr (record {
      since = h.since;
      moves = h.moves;
      sent = h.sent;
      came = h.came;
      due = due_after D E no_bytes no_bytes step no_bytes no_bytes h.since h.due;
    })
