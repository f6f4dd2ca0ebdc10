-- As many values are made as gates say, after those that were there, whatever messages come.
use Rattle.std.proofs.Common.{◌≡◌, ℕ, ◌+◌, Bool, true, false, List, [], ◌∷◌, ◌++◌, length, take, drop, refl, sym, ◌∙◌, ap, subst}
use Rattle.std.proofs.Common.{append_assoc, append-nil, length-append}
use Rattle.std.specs.Prelude.{Option, Some, None}
use Rattle.std.proofs.lemmas.List.{length-map}
use Rattle.proto_core.specs.declared.party.Number.{Number}
use Rattle.proto_core.specs.Strand.{Shape, accepts, Mail, taken, Strand, Ends, Acts, Waits, run}
use Rattle.proto_core.specs.declared.link.Link.{Link}
use Rattle.proto_core.proofs.Strands.{run-none, run-took, run-refused}
use Rattle.protocol_model.specs.Gates.{Joined, nth_value, operand, sizes_of}
use Rattle.shared_gates.specs.Blocked.{blocked}
use Rattle.gates.specs.declared.ring_kind.RingKind.TheVariants.{Arithmetic, Boolean}
use Rattle.gates.specs.declared.gate.Gate.{Gate}
use Rattle.gates.specs.declared.gate.Gate.TheVariants.{Mul, And, Split, Conv, Open, Result}
use Rattle.gates.specs.Clear.{Values}
use Rattle.gates.specs.Counts.{size_of, made_by, made_by_all}
use Rattle.gate_exchanges.specs.declared.exchange.Exchange.{Exchange}
use Rattle.gate_exchanges.specs.declared.exchange.Exchange.TheVariants.{Product, Splitting, Conversion, Opening, Resharing}
use Rattle.gate_exchanges.specs.Exchanges.{protocol_of}
use Rattle.gate_node.specs.OwnGates.{GatesEnd, Whole, Stuck, own_draws, can_run, own_gates}
use Rattle.gate_node.proofs.Always.{EndsAlways, HaveSizes, always-then, gate-sized}
use Rattle.own_code.specs.LettingGo.{HasBehind, MakeWhatTheyCount}
use Rattle.gate_node.proofs.OneGate.{makes, first_then, made_by_gate, gate_first}

always_so : {A : Type 0} (P Q : A → Type 0) → ((a : A) → P a → Q a) → (s : Strand A) → EndsAlways P s → EndsAlways Q s
always_so P Q so (Ends a) h = so a h
always_so P Q so (Acts act s) h = always_so P Q so s h
always_so P Q so (Waits l shape k) h = λ m. always_so P Q so (k m) (h m)

ends_are : {A : Type 0} (a b : A) → Ends a ≡ Ends b → a ≡ b
ends_are a b e = cc

waits_end : {A X : Type 0} (l : Link) (n : Shape) (k : List ℕ → Strand A) (a : A) → Waits l n k ≡ Ends a → X
waits_end l n k a e = cc

-- so it holds of what a run ends with
of_run : {A : Type 0} (P : A → Type 0) (s : Strand A) (mail : Mail) (a : A) → EndsAlways P s → (run s mail).left ≡ Ends a → P a
of_run P (Ends b) mail a h e = subst P (ends_are b a e) h
of_run P (Acts act s) mail a h e = of_run P s mail a h e
of_run {A} P (Waits l n k) mail a h e = by_mail (mail l) refl (λ m. of_run P (k m) (taken l mail) a (h m))
  where
    by_mail : (xs : List (List ℕ)) → mail l ≡ xs → ((m : List ℕ) → (run (k m) (taken l mail)).left ≡ Ends a → P a) → P a
    by_mail [] x more = waits_end l n k a (sym (ap (λ r. r.left) (run-none l n k mail x)) ∙ e)
    by_mail (m ∷ ms) x more = by_shape (accepts n m) refl
      where
        by_shape : (b : Bool) → accepts n m ≡ b → P a
        by_shape true o = more m (sym (ap (λ r. r.left) (run-took l n k mail m ms x o)) ∙ e)
        by_shape false o = waits_end l n k a (sym (ap (λ r. r.left) (run-refused l n k mail m ms x o)) ∙ e)

abbrev HaveCount : ℕ → Values → Type 0
HaveCount n made = length made ≡ n

module _ (i : Number) (dealt : Values) where
  joined_count :
      (e : Exchange) (n u : ℕ) (v : Option ℕ) (values : Values) (tape : List ℕ) →
      EndsAlways (HaveCount (length ((protocol_of e).made n))) (makes i (Joined (blocked (protocol_of e)) n u v) values tape)
  joined_count e n u v values tape =
      always_so (HaveSizes ((protocol_of e).made n)) (HaveCount (length ((protocol_of e).made n)))
      (λ made same. sym (length-map made length) ∙ ap length same) (makes i (Joined (blocked (protocol_of e)) n u v) values tape)
      (gate-sized e n i (nth_value values u) (operand values v) (take ((blocked (protocol_of e)).draws n i) tape))

  gate_count : (gate : Gate) (values : Values) (tape : List ℕ) → EndsAlways (HaveCount (made_by gate)) (made_by_gate i dealt gate values tape)
  gate_count (Mul u v) values tape = joined_count (Product Arithmetic) (size_of (sizes_of values) u) u (Some v) values tape
  gate_count (And u v) values tape = joined_count (Product Boolean) (size_of (sizes_of values) u) u (Some v) values tape
  gate_count (Split u negated) values tape = joined_count (Splitting negated) (size_of (sizes_of values) u) u None values tape
  gate_count (Conv u) values tape = joined_count Conversion (size_of (sizes_of values) u) u None values tape
  gate_count (Open ring u) values tape = joined_count (Opening ring) (size_of (sizes_of values) u) u None values tape
  gate_count (Result ring u) values tape = joined_count (Resharing ring) (size_of (sizes_of values) u) u None values tape
  gate_count gate values tape = refl

  further :
      (values made : Values) (n m : ℕ) → length made ≡ n → (h : GatesEnd) → HasBehind (values ++ made) m h → HasBehind values (n + m) h
  further values made n m count (Whole all tape) h = (
    made ++ h.0,
    h.1 ∙ append_assoc values made h.0,
    length-append made h.0 ∙ ap (λ k. k + length h.0) count ∙ ap (λ k. n + k) h.2,
  )
  further values made n m count Stuck h = tt

  pub gates_count :
      (gates : List Gate) (values : Values) (tape : List ℕ) →
      EndsAlways (HasBehind values (made_by_all gates)) (own_gates i dealt gates values tape)
  gates_count [] values tape = ([], sym (append-nil values), refl)
  gates_count (gate ∷ gates) values tape =
      subst (EndsAlways (HasBehind values (made_by gate + made_by_all gates))) (sym (gate_first i dealt gate gates values tape))
      (by_test (can_run i dealt values tape gate) (λ made. gates_count gates (values ++ made) rest))
    where
      rest : List ℕ
      rest = drop (own_draws i dealt values gate) tape

      on : Values → Strand GatesEnd
      on made = own_gates i dealt gates (values ++ made) rest

      by_test : (b : Bool) → ((made : Values) → EndsAlways (HasBehind (values ++ made) (made_by_all gates)) (on made))
          → EndsAlways (HasBehind values (made_by gate + made_by_all gates)) (first_then b (made_by_gate i dealt gate values tape) on)
      by_test true more =
          always-then (HaveCount (made_by gate)) (HasBehind values (made_by gate + made_by_all gates)) (made_by_gate i dealt gate values tape) on
          (gate_count gate values tape)
          (λ made count.
          always_so (HasBehind (values ++ made) (made_by_all gates)) (HasBehind values (made_by gate + made_by_all gates))
          (further values made (made_by gate) (made_by_all gates) count) (on made) (more made))
      by_test false more = tt

  pub gates_make : (gates : List Gate) (values : Values) (tape : List ℕ) (mail : Mail) → MakeWhatTheyCount i dealt gates values tape mail
  gates_make gates values tape mail h ended =
      of_run (HasBehind values (made_by_all gates)) (own_gates i dealt gates values tape) mail h (gates_count gates values tape) ended
