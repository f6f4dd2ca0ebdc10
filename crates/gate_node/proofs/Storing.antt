-- The last gate, a store into an array that is let go, is run in place.
use Rattle.std.proofs.Common.{◌≡◌, ℕ, ◌+◌, ◌<◌, ◌≤◌, Bool, true, IsTrue, ◌↔◌, List, [], ◌∷◌, ◌++◌, length, get_or, refl, sym, ◌∙◌, ap, subst, arith}
use Rattle.std.specs.Prelude.{set, Option, Some, None, is_some, Result, Ok, Err, IfOk}
use Rattle.std.proofs.lemmas.Bool.{false≢true}
use Rattle.std.proofs.lemmas.List.{drop_all, length-map, length_push, set-append_left}
use Rattle.proto_core.specs.declared.party.Number.{Number}
use Rattle.proto_core.specs.Strand.{Ends}
use Rattle.protocol_model.specs.Gates.{sizes_of}
use Rattle.gates.specs.declared.gate.Gate.{Gate}
use Rattle.gates.specs.declared.gate.Gate.TheVariants.{Put}
use Rattle.gates.specs.Clear.{Values, value, first_word}
use Rattle.gate_exchanges.specs.Model.{SizesSuit}
use Rattle.gate_exchanges.proofs.Models.{size-value}
use Rattle.gate_node.specs.declared.engine.AtWork.TheVariants as work
use Rattle.gate_node.specs.declared.wanted.Wanted.TheVariants as wanted
use Rattle.gate_node.specs.declared.engine.Engine.{Engine}
use Rattle.gate_node.specs.OwnGates.{Whole, own_gates}
use Rattle.gate_node.specs.Nodes.{work_left, filled, StoresLast, HasStored, IsAhead}
use Rattle.gate_node.proofs.Blocks.{drop-front, gate-alone, alone-can}
use Rattle.gate_node.proofs.Plans.{all-left}

module _ {P : Type 0} (i : Number) (e : Engine P) (array index v : ℕ) where
  abbrev store : Gate
  store = Put array index v

  pub stores-last :
      (word : ℕ) (b : Bool) → e.work ≡ work.Idle → e.wanted ≡ wanted.All → e.begun + 1 ≡ length e.gates.items → get_or e.gates.items e.begun store ≡ store →
      IsTrue b ↔ SizesSuit (sizes_of e.dealt) (sizes_of e.values) store → b ≡ true → word ≡ first_word (value e.values v) →
      StoresLast i array index word e
  stores-last word b idle all last is tells told has =
      let suit : SizesSuit (sizes_of e.dealt) (sizes_of e.values) store = tells.0 told in
      let some : e.begun < length e.gates.items = omega (arith, last) in
      let none : length e.gates.items ≤ e.begun + 1 = omega (arith, last) in
      let many : length (sizes_of e.values) ≡ length e.values = length-map e.values length in
      let size : length (value e.values array) ≡ _ = size-value e.values array in
      record {
        idle = idle;
        last = last;
        all = all;
        left =
            λ more.
            all-left i (filled e more) all
            ∙ ap (work_left i (filled e more)) idle
            ∙ ap (λ l. own_gates i e.dealt l e.values (e.tape.1 ++ more))
            (drop-front e.begun e.gates.items store some is ∙ ap (λ l. store ∷ l) (drop_all (e.begun + 1) e.gates.items none))
            ∙ gate-alone i e.dealt e.values (e.tape.1 ++ more) store [] (alone-can i e.dealt e.values (e.tape.1 ++ more) store b tells told tt) tt
            ∙ ap (λ x. Ends (Whole (e.values ++ set (value e.values array) index x ∷ []) (e.tape.1 ++ more))) (sym has);
        there = subst (λ n. array < n) many suit.0;
        within = subst (λ n. index < n) (sym size) suit.2;
      }

module _ {P : Type 0} (i : Number) (array index word count : ℕ) (e : Engine P) (h : StoresLast i array index word e) (values : Values) (begun : ℕ) where
  abbrev after : Engine P
  after = record e { values = values; begun = begun }

  pub has-stored :
      values ≡ set e.values array [] ++ set (value e.values array) index word ∷ [] → begun ≡ e.begun + 1 → length e.values + 1 ≡ count →
      HasStored i array count e after
  has-stored is next counted =
      let new : List ℕ = set (value e.values array) index word in
      let all : Values = e.values ++ new ∷ [] in
      let grown : length all ≡ length e.values + 1 = length_push e.values new in
      let none : length e.gates.items ≤ begun = omega (arith, h.last, next) in
      record {
        values = all;
        stored = λ more. record {
          came = h.left more;
          left =
              all-left i (filled after more) h.all
              ∙ ap (work_left i (filled after more)) h.idle
              ∙ ap (λ l. own_gates i e.dealt l values (e.tape.1 ++ more)) (drop_all begun e.gates.items none);
          let_go = is ∙ sym (set-append_left e.values (new ∷ []) array [] h.there);
          earlier = omega (arith, grown, h.there);
          counted = grown ∙ counted;
          links = refl;
          dealt = refl;
          tape = refl;
        };
      }

-- other gates were run before
pub stored_behind :
    {P : Type 0} (i : Number) (array count : ℕ) (e f h : Engine P) → IsAhead i e f → HasStored i array count f h → HasStored i array count e h
stored_behind i array count e f h ahead stored =
    record {
      values = stored.values;
      stored = λ more. let s = stored.stored more in record {
        came = sym (ahead.left more) ∙ s.came ∙ ap (λ (t : List ℕ × List ℕ). Ends (Whole stored.values (t.1 ++ more))) ahead.tape;
        left = s.left;
        let_go = s.let_go;
        earlier = s.earlier;
        counted = s.counted;
        links = s.links ∙ ahead.links;
        dealt = s.dealt ∙ ahead.dealt;
        tape = s.tape ∙ ap (λ (t : List ℕ × List ℕ). (t.0 ++ more, t.1 ++ more)) ahead.tape;
      };
    }

pub stored_behind_all :
    {P E : Type 0} (i : Number) (array count : ℕ) (e f h : Engine P) (r : Result Bool E) → IsAhead i e f →
    IfOk r (λ done. done ≡ true → HasStored i array count f h) → IfOk r (λ done. done ≡ true → HasStored i array count e h)
stored_behind_all i array count e f h (Ok done) ahead stored = λ is. stored_behind i array count e f h ahead (stored is)
stored_behind_all i array count e f h (Err x) ahead stored = tt

pub ahead_of_all : {P : Type 0} (i : Number) (e f h : Engine P) → IsAhead i e f → IsAhead i f h → IsAhead i e h
ahead_of_all i e f h a b =
    record { left = λ more. b.left more ∙ a.left more; links = b.links ∙ a.links; dealt = b.dealt ∙ a.dealt; tape = b.tape ∙ a.tape }

-- what a test tells of a fact it tells of one that is as good
pub tells-of : (b : Bool) {P Q : Type 0} → IsTrue b ↔ P → P ↔ Q → IsTrue b ↔ Q
tells-of b told same = (λ h. same.0 (told.0 h), λ h. told.1 (same.1 h))

pub all-tell : {E : Type 0} (r : Result Bool E) (P Q : Type 0) → P ↔ Q → IfOk r (λ done. IsTrue done ↔ P) → IfOk r (λ done. IsTrue done ↔ Q)
all-tell (Ok done) P Q same told = tells-of done told same
all-tell (Err x) P Q same told = tt

-- there is no value where none is found
pub none-there : {A : Type 0} (r : Option A) → ((x : A) → r ≡ Some x → ⊥) → IsTrue (is_some r) → ⊥
none-there None none told = false≢true told
none-there (Some x) none told = none x refl
