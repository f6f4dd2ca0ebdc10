-- The last lines of a view are those that a run tells exactly where none is wrong.
use Rattle.std.proofs.Common.{◌≡◌, ◌+◌, ◌&&◌, ◌==◌, true, false, if◌then◌else◌, List, [], ◌∷◌, Some, None, refl, sym, ◌∙◌, ap}
use Rattle.std.proofs.lemmas.Bool.{and_from, and_parts, eqb-true, eq-eqb}
use Rattle.std.proofs.lemmas.Slice.Eq.{bytes_eq-Decides}
use Rattle.std.specs.Str.{bytes_eq}
use Rattle.sc_text.specs.declared.elements.Element.{Element}
use Rattle.sc_text.specs.declared.elements.Element.TheVariants as elements
use Rattle.sc_text.specs.declared.event.Event.{Event}
use Rattle.sc_text.specs.declared.event.Event.TheVariants.{Open, Publish, Hand}
use Rattle.sc_text.specs.declared.end.Ending.{Ending}
use Rattle.sc_text.specs.declared.end.Ending.TheVariants as endings
use Rattle.sc_text.specs.declared.end.End.{End}
use Rattle.sc_text.specs.declared.end.TapeOwner.{TapeOwner}
use Rattle.sc_text.specs.declared.end.TapeOwner.TheVariants as owners
use Rattle.sc_text.specs.declared.end.TrapKind.{TrapKind}
use Rattle.sc_text.specs.declared.end.TrapKind.TheVariants as kinds
use Rattle.sc_text.specs.End.{trap_word, owner_digit}
use Rattle.view_text.specs.Reading.{one_of, owners_of_tapes, traps}
use Rattle.audit_steps.specs.Places.{one_later}
use Rattle.audit_steps.specs.Ends.{same_element, same_elements, same_end, same_ending, wrong_end_at}
use Rattle.program_views.specs.Views.{openings}
use Rattle.view_audit.proofs.Asked.{none_before, none_named, some_is_none, tested}

-- ---- equal lines

element_is : (x y : Element) → same_element x y ≡ true → x ≡ y
element_is (elements.Word n) (elements.Word m) h = ap elements.Word (eqb-true n m h)
element_is (elements.Word n) (elements.Truth b) h = absurd cc
element_is (elements.Word n) (elements.Negative m) h = absurd cc
element_is (elements.Negative n) (elements.Negative m) h = ap elements.Negative (eqb-true n m h)
element_is (elements.Negative n) (elements.Word m) h = absurd cc
element_is (elements.Negative n) (elements.Truth b) h = absurd cc
element_is (elements.Truth true) (elements.Negative m) h = absurd cc
element_is (elements.Truth false) (elements.Negative m) h = absurd cc
element_is (elements.Truth true) (elements.Truth true) h = refl
element_is (elements.Truth false) (elements.Truth false) h = refl
element_is (elements.Truth true) (elements.Truth false) h = absurd cc
element_is (elements.Truth false) (elements.Truth true) h = absurd cc
element_is (elements.Truth true) (elements.Word m) h = absurd cc
element_is (elements.Truth false) (elements.Word m) h = absurd cc

elements_are : (xs ys : List Element) → same_elements xs ys ≡ true → xs ≡ ys
elements_are [] [] h = refl
elements_are [] (y ∷ ys) h = absurd cc
elements_are (x ∷ xs) [] h = absurd cc
elements_are (x ∷ xs) (y ∷ ys) h =
    let both = and_parts (same_element x y) (same_elements xs ys) h in
    ap (λ v. v ∷ xs) (element_is x y both.0) ∙ ap (λ l. y ∷ l) (elements_are xs ys both.1)

element_self : (x : Element) → same_element x x ≡ true
element_self (elements.Word n) = eq-eqb n n refl
element_self (elements.Negative n) = eq-eqb n n refl
element_self (elements.Truth true) = refl
element_self (elements.Truth false) = refl

elements_self : (xs : List Element) → same_elements xs xs ≡ true
elements_self [] = refl
elements_self (x ∷ xs) = and_from (same_element x x) (same_elements xs xs) (element_self x) (elements_self xs)

trap_back : (k : TrapKind) → one_of trap_word traps (trap_word k) ≡ Some k
unfolding trap_word
trap_back kinds.Length = refl
trap_back kinds.Div = refl
trap_back kinds.Index = refl
trap_back kinds.Argument = refl
trap_back kinds.Depth = refl
trap_back kinds.Assert = refl
trap_back kinds.Large = refl

owner_back : (o : TapeOwner) → one_of owner_digit owners_of_tapes (owner_digit o) ≡ Some o
unfolding owner_digit
owner_back owners.Dealer = refl
owner_back owners.Miner1 = refl
owner_back owners.Miner2 = refl
owner_back owners.Miner3 = refl

some_same : {A : Type 0} (x y : A) → Some x ≡ Some y → x ≡ y
some_same x y e = cc

trap_is : (k o : TrapKind) → bytes_eq (trap_word k) (trap_word o) ≡ true → k ≡ o
trap_is k o h =
    some_same k o (sym (trap_back k) ∙ ap (one_of trap_word traps) ((bytes_eq-Decides (trap_word k) (trap_word o)).0 h) ∙ trap_back o)

owner_is : (k o : TapeOwner) → bytes_eq (owner_digit k) (owner_digit o) ≡ true → k ≡ o
owner_is k o h =
    some_same k o (sym (owner_back k) ∙ ap (one_of owner_digit owners_of_tapes) ((bytes_eq-Decides (owner_digit k) (owner_digit o)).0 h) ∙ owner_back o)

ending_is : (e o : Ending) → same_ending e o ≡ true → e ≡ o
ending_is endings.Done endings.Done h = refl
ending_is endings.Done (endings.Trap k n) h = absurd cc
ending_is endings.Done endings.Budget h = absurd cc
ending_is endings.Done (endings.Tape a b c) h = absurd cc
ending_is (endings.Trap k n) endings.Done h = absurd cc
ending_is (endings.Trap k n) (endings.Trap l m) h =
    let both = and_parts (bytes_eq (trap_word k) (trap_word l)) (n == m) h in
    ap (λ x. endings.Trap x n) (trap_is k l both.0) ∙ ap (endings.Trap l) (eqb-true n m both.1)
ending_is (endings.Trap k n) endings.Budget h = absurd cc
ending_is (endings.Trap k n) (endings.Tape a b c) h = absurd cc
ending_is endings.Budget endings.Done h = absurd cc
ending_is endings.Budget (endings.Trap l m) h = absurd cc
ending_is endings.Budget endings.Budget h = refl
ending_is endings.Budget (endings.Tape a b c) h = absurd cc
ending_is (endings.Tape a b c) endings.Done h = absurd cc
ending_is (endings.Tape a b c) (endings.Trap l m) h = absurd cc
ending_is (endings.Tape a b c) endings.Budget h = absurd cc
ending_is (endings.Tape a b c) (endings.Tape x y z) h =
    let first = and_parts (bytes_eq (owner_digit a) (owner_digit x)) ((b == y) && (c == z)) h in
    let rest = and_parts (b == y) (c == z) first.1 in
    ap (λ v. endings.Tape v b c) (owner_is a x first.0)
    ∙ ap (λ v. endings.Tape x v c) (eqb-true b y rest.0)
    ∙ ap (λ v. endings.Tape x y v) (eqb-true c z rest.1)

ending_self : (e : Ending) → same_ending e e ≡ true
ending_self endings.Done = refl
ending_self (endings.Trap k n) =
    and_from (bytes_eq (trap_word k) (trap_word k)) (n == n) ((bytes_eq-Decides (trap_word k) (trap_word k)).1 refl) (eq-eqb n n refl)
ending_self endings.Budget = refl
ending_self (endings.Tape a b c) =
    and_from (bytes_eq (owner_digit a) (owner_digit a)) ((b == b) && (c == c)) ((bytes_eq-Decides (owner_digit a) (owner_digit a)).1 refl)
    (and_from (b == b) (c == c) (eq-eqb b b refl) (eq-eqb c c refl))

end_is : (e o : End) → same_end e o ≡ true → e ≡ o
end_is e o h =
    let both = and_parts (same_ending e.how o.how) (e.cost == o.cost) h in
    ap (λ how. record { how = how; cost = e.cost }) (ending_is e.how o.how both.0)
    ∙ ap (λ cost. record { how = o.how; cost = cost }) (eqb-true e.cost o.cost both.1)

-- ---- all of them

pub lines_are : (events : List Event) (end shown : End) (opened : List (List Element)) → wrong_end_at events end shown opened ≡ None
    → (openings events ≡ opened) × (end ≡ shown)
lines_are [] end shown [] e = (refl, end_is end shown (none_named (same_end end shown) 0 e))
lines_are [] end shown (o ∷ os) e = some_is_none 0 e
lines_are (Open x ∷ es) end shown [] e = some_is_none 0 e
lines_are (Open x ∷ es) end shown (o ∷ os) e =
    let t = tested (same_elements x o) (one_later (wrong_end_at es end shown os)) 0 e in
    let rest = lines_are es end shown os (none_before (λ k. k + 1) (wrong_end_at es end shown os) t.1) in
    (ap (λ v. v ∷ openings es) (elements_are x o t.0) ∙ ap (λ l. o ∷ l) rest.0, rest.1)
lines_are (Publish name x ∷ es) end shown opened e = lines_are es end shown opened e
lines_are (Hand name kind x ∷ es) end shown opened e = lines_are es end shown opened e

pub lines_pass : (events : List Event) (end : End) → wrong_end_at events end end (openings events) ≡ None
lines_pass [] end =
    ap (λ b. if b then None else Some 0)
    (and_from (same_ending end.how end.how) (end.cost == end.cost) (ending_self end.how) (eq-eqb end.cost end.cost refl))
lines_pass (Open x ∷ es) end =
    ap (λ b. if b then one_later (wrong_end_at es end end (openings es)) else Some 0) (elements_self x) ∙ ap one_later (lines_pass es end)
lines_pass (Publish name x ∷ es) end = lines_pass es end
lines_pass (Hand name kind x ∷ es) end = lines_pass es end
