-- What the checker has found after a part of a program.
use Rattle.std.proofs.Common.{◌≡◌, List, ◌++◌, sym, ap, ◌∙◌, Option, append_assoc}
use Rattle.std.specs.Prelude.{Result, Ok, Err, IfOk}
use Rattle.domain_types.specs.declared.calls.Found.{Found}
use Rattle.domain_types.specs.declared.fault.TypeFault.{TypeFault}
use Rattle.domain_types.specs.declared.value_type.ValueType.{ValueType}
use Rattle.program_trees.specs.Tree.{Tree}
use Rattle.domain_types.specs.Types.{of_typed}
use Rattle.domain_types.specs.Settings.{Setting}
use Rattle.domain_types.specs.Scopes.{Scope}
use Rattle.domain_types.specs.ExpressionTypes.{value_type, value_faults}
use Rattle.domain_types.specs.Reached.{Call, calls_of}
use Rattle.domain_types.specs.Views.{calls_seen}
use Rattle.domain_types.specs.inner.Walks.{Gives}
use Rattle.domain_types.specs.inner.LeastFault.{least}
use Rattle.domain_types.proofs.Faults.{least-append}

-- the least of two lists, one after the other
pub then_least : (o o1 o2 : Option TypeFault) (fs gs : List TypeFault) → o1 ≡ least o fs → o2 ≡ least o1 gs → o2 ≡ least o (fs ++ gs)
then_least o o1 o2 fs gs e f = f ∙ ap (λ (z : Option TypeFault). least z gs) e ∙ sym (least-append o fs gs)

-- the calls of two parts, one after the other
pub then_calls : (a b c : List Call) (cs ds : List Call) → b ≡ a ++ cs → c ≡ b ++ ds → c ≡ a ++ (cs ++ ds)
then_calls a b c cs ds e f = f ∙ ap (λ (z : List Call). z ++ ds) e ∙ append_assoc a cs ds

-- after a part: its faults and calls, and then those of the rest
pub gives_behind : {A : Type 0} (wanted given : A) (f g h : Found) (fs gs : List TypeFault) (cs ds : List Call)
    → g.least_fault ≡ least f.least_fault fs → calls_seen g.calls.items ≡ calls_seen f.calls.items ++ cs → Gives wanted given g h gs ds
    → Gives wanted given f h (fs ++ gs) (cs ++ ds)
gives_behind wanted given f g h fs gs cs ds least_fault calls rest =
    record {
      kind = rest.kind;
      least_fault = then_least f.least_fault g.least_fault h.least_fault fs gs least_fault rest.least_fault;
      calls = then_calls (calls_seen f.calls.items) (calls_seen g.calls.items) (calls_seen h.calls.items) cs ds calls rest.calls;
    }

-- what follows from what a call gives, where it gives something
pub if_ok_so : {A E : Type 0} (P Q : A → Type 0) (r : Result A E) → ((a : A) → P a → Q a) → IfOk r P → IfOk r Q
if_ok_so P Q (Ok a) so given = so a given
if_ok_so P Q (Err e) so given = given

-- a node with one part, and one with two: what is found in the parts, and then the node's own faults
pub one_part : {A : Type 0} (w : Setting) (s : Scope) (e : Tree) (f g h : Found) (v : Option ValueType) (wanted given : A)
    (own : ValueType → List TypeFault) → Gives (value_type w s e) v f g (value_faults w s e) (calls_of w s e) → given ≡ wanted
    → h.least_fault ≡ least g.least_fault (of_typed v own) → calls_seen h.calls.items ≡ calls_seen g.calls.items
    → Gives wanted given f h (value_faults w s e ++ of_typed (value_type w s e) own) (calls_of w s e)
one_part w s e f g h v wanted given own part kind last same =
    record {
      kind = kind;
      least_fault =
          then_least f.least_fault g.least_fault h.least_fault (value_faults w s e) (of_typed (value_type w s e) own) part.least_fault
          (last ∙ ap (λ z. least g.least_fault (of_typed z own)) part.kind);
      calls = same ∙ part.calls;
    }

pub two_parts : {A : Type 0} (w : Setting) (s : Scope) (a b : Tree) (f g h k : Found) (u v : Option ValueType) (wanted given : A)
    (own : ValueType → ValueType → List TypeFault) → Gives (value_type w s a) u f g (value_faults w s a) (calls_of w s a)
    → Gives (value_type w s b) v g h (value_faults w s b) (calls_of w s b) → given ≡ wanted
    → k.least_fault ≡ least h.least_fault (of_typed u (λ t. of_typed v (own t))) → calls_seen k.calls.items ≡ calls_seen h.calls.items
    → Gives wanted given f k ((value_faults w s a ++ value_faults w s b) ++ of_typed (value_type w s a) (λ t. of_typed (value_type w s b) (own t)))
    (calls_of w s a ++ calls_of w s b)
two_parts w s a b f g h k u v wanted given own first second kind last same =
    record {
      kind = kind;
      least_fault =
          then_least f.least_fault h.least_fault k.least_fault (value_faults w s a ++ value_faults w s b)
          (of_typed (value_type w s a) (λ t. of_typed (value_type w s b) (own t)))
          (then_least f.least_fault g.least_fault h.least_fault (value_faults w s a) (value_faults w s b) first.least_fault second.least_fault)
          (last ∙ ap (λ z. least h.least_fault (of_typed z (λ t. of_typed v (own t)))) first.kind
          ∙ ap (λ z. least h.least_fault (of_typed (value_type w s a) (λ t. of_typed z (own t)))) second.kind);
      calls = same ∙ then_calls (calls_seen f.calls.items) (calls_seen g.calls.items) (calls_seen h.calls.items) (calls_of w s a)
          (calls_of w s b) first.calls second.calls;
    }
