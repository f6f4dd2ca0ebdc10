-- The first of three answers that is wrong.
use Rattle.std.proofs.Common.{◌≡◌, true, false, Bool, refl, sym, ◌∙◌, ap}
use Rattle.std.specs.Prelude.{ℤ, ◌||◌, Result, Ok, Err, if◌then◌else◌}
use Rattle.outside.specs.declared.error.SpawnErr.{SpawnErr}
use Rattle.outside.specs.declared.error.SpawnErr.TheVariants as spawn_err
use Rattle.proto_core.specs.declared.party.Number.{Number}
use Rattle.proto_core.specs.declared.party.Number.TheVariants.{One, Two, Three}
use Rattle.trio.specs.Children.{fault_in, is_end_status, child_answer, unless_wrong, lacked_memory, all_answers}
use Rattle.trio.specs.declared.child_err.ChildErr.{ChildErr}
use Rattle.trio.specs.declared.child_err.ChildErr.TheVariants as child_err

abbrev Judged : Type 0
Judged = Result (Unit {0}) ChildErr

pub first_wrong : (a b c : Judged) (err : ChildErr) → a ≡ Err err → Err err ≡ unless_wrong a (unless_wrong b c)
first_wrong a b c err e = sym (ap (λ (x : Judged). unless_wrong x (unless_wrong b c)) e)

pub second_wrong : (a b c : Judged) (err : ChildErr) (done : Unit {0}) → a ≡ Ok done → b ≡ Err err → Err err ≡ unless_wrong a (unless_wrong b c)
second_wrong a b c err done e f =
    sym (ap (λ (x : Judged). unless_wrong x (unless_wrong b c)) e ∙ ap (λ (x : Judged). unless_wrong x c) f)

pub third_told : (a b c : Judged) (d f : Unit {0}) → a ≡ Ok d → b ≡ Ok f → c ≡ unless_wrong a (unless_wrong b c)
third_told a b c d f e g = sym (ap (λ (x : Judged). unless_wrong x (unless_wrong b c)) e ∙ ap (λ (x : Judged). unless_wrong x c) g)

-- ---- a fault is that of a wait

no_fault : {P : Type 0} (done : Unit {0}) → Ok done ≡ Err child_err.Fault → P
no_fault done e = cc

status_is_fault : {P : Type 0} (r : Judged) (i : Number) (s : ℤ) → r ≡ Err (child_err.Status i s) → r ≡ Err child_err.Fault → P
status_is_fault r i s e f = cc

memory_is_fault : {P : Type 0} (r : Judged) → r ≡ Err child_err.Memory → r ≡ Err child_err.Fault → P
memory_is_fault r e f = cc

child_fault : (i : Number) (r : Result ℤ SpawnErr) → child_answer i r ≡ Err child_err.Fault → r ≡ Err spawn_err.Failed
child_fault i (Ok s) e = by_status (is_end_status s) tt e
  where
    by_status : (b : Bool) (done : Unit {0}) → (if b then Ok done else Err (child_err.Status i s)) ≡ Err child_err.Fault → Ok s ≡ Err spawn_err.Failed
    by_status true done e = no_fault done e
    by_status false done e = status_is_fault (Err (child_err.Status i s)) i s refl e
child_fault i (Err spawn_err.Failed) e = refl
child_fault i (Err spawn_err.Memory) e = memory_is_fault (Err child_err.Memory) refl e

wrong_found : {P : Type 0} (a later : Judged) → unless_wrong a later ≡ Err child_err.Fault → (a ≡ Err child_err.Fault → P)
    → (later ≡ Err child_err.Fault → P) → P
wrong_found (Ok done) later e here there = there e
wrong_found (Err err) later e here there = here e

among : {P : Type 0} (answer : Number → Result ℤ SpawnErr)
    → unless_wrong (child_answer One (answer One)) (unless_wrong (child_answer Two (answer Two)) (child_answer Three (answer Three))) ≡ Err child_err.Fault
    → ((i : Number) → answer i ≡ Err spawn_err.Failed → P) → P
among answer e goes =
    wrong_found (child_answer One (answer One)) (unless_wrong (child_answer Two (answer Two)) (child_answer Three (answer Three))) e
    (λ h. goes One (child_fault One (answer One) h))
    (λ f. wrong_found (child_answer Two (answer Two)) (child_answer Three (answer Three)) f
    (λ h. goes Two (child_fault Two (answer Two) h))
    (λ h. goes Three (child_fault Three (answer Three) h)))

with_memory : {P : Type 0} (b : Bool) (r : Judged) → (if b then Err child_err.Memory else r) ≡ Err child_err.Fault → (r ≡ Err child_err.Fault → P) → P
with_memory true r e goes = memory_is_fault (Err child_err.Memory) refl e
with_memory false r e goes = goes e

pub fault_found : {P : Type 0} (answer : Number → Result ℤ SpawnErr) → all_answers answer ≡ Err child_err.Fault
    → ((i : Number) → answer i ≡ Err spawn_err.Failed → P) → P
fault_found answer e goes =
    with_memory (lacked_memory (answer One) || (lacked_memory (answer Two) || lacked_memory (answer Three)))
    (unless_wrong (child_answer One (answer One)) (unless_wrong (child_answer Two (answer Two)) (child_answer Three (answer Three)))) e
    (λ h. among answer h goes)

pub halt_fault : (err : SpawnErr) (r : Judged) → r ≡ Err (fault_in err) → r ≡ Err child_err.Fault → err ≡ spawn_err.Failed
halt_fault spawn_err.Failed r e f = refl
halt_fault spawn_err.Memory r e f = memory_is_fault r e f
