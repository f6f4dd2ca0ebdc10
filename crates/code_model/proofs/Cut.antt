-- The code of `&&` and `||`: where the left operand is public it may decide alone.
use Rattle.std.proofs.Common.{◌≡◌, ℕ, ◌+◌, ◌≤◌, List, [], ◌∷◌, ◌++◌, length, Some, Bool, true, false, ◌||◌, refl, sym, ap, ◌∙◌, subst, arith}
use Rattle.std.proofs.Common.{length-append}
use Rattle.std.specs.Prelude.{slice_get}
use Rattle.program_trees.specs.declared.expression.DataType.TheVariants as datatype
use Rattle.program_trees.specs.declared.operators.BinaryOperator.TheVariants as binary
use Rattle.program_trees.specs.declared.operators.Operands.TheVariants.{Scalars}
use Rattle.program_trees.specs.declared.operators.Connective.{Connective}
use Rattle.program_trees.specs.declared.operators.Connective.TheVariants.{AndAlso, OrElse}
use Rattle.program_trees.specs.TypedTree.{TypedTree, cut_node}
use Rattle.reached_instances.specs.Domains.{Setting, domain}
use Rattle.blind_evaluation.specs.Effects.{World, Effect, ◌>>=◌, carry, done}
use Rattle.blind_evaluation.specs.Values.{Value}
use Rattle.blind_evaluation.specs.Words.{truth_word}
use Rattle.blind_evaluation.specs.Operations.{classified, wanted}
use Rattle.blind_evaluation.specs.Evaluation.{Frame, Calls, gives_private, connective, decides, truth_value, either, cut_short, not_cut_short, value}
use Rattle.verified_code.specs.Steps.{Step, Literal, Move, Classify, Branch, Jump, Function}
use Rattle.code_model.specs.Machine.{Machine, at, next, step, same_truth}
use Rattle.code_model.specs.Kinds.{kind_in, truth_kind, in_row}
use Rattle.code_model.specs.Expressions.{Numbers, own_at, stands_at, next_row, deciding, settling, cut_code}
use Rattle.code_model.proofs.Places.{HasAt, has_front, has_back, put_same, put_other}
use Rattle.code_model.proofs.Gives.{IsSecret, class_gives}
use Rattle.code_model.proofs.Follows.{Runs, runs_bind, runs_more, runs_first, instruct, silent}
use Rattle.code_model.proofs.Near.{Near, near_on, near_less, near_set, row_from, Landed, Read, Ready, ready_front, ready_back, ready_step, ready_at}
use Rattle.code_model.proofs.Near.{branch_runs}
use Rattle.code_model.proofs.Operands.{private_joined, code, both_code, Evaluates, binary_runs}

decides_same : (c : Connective) (o : Bool) → same_truth o (deciding c) ≡ decides c o
decides_same AndAlso true = refl
decides_same AndAlso false = refl
decides_same OrElse true = refl
decides_same OrElse false = refl

decides_value : (c : Connective) (o : Bool) → decides c o ≡ true → o ≡ deciding c
decides_value AndAlso false h = refl
decides_value OrElse true h = refl
decides_value AndAlso true h = sym h
decides_value OrElse false h = h

module _ (w : World) (p : List Function) (number : Numbers) (calls : Calls) (d : ℕ) where
  module _ (here : Setting) (c : Connective) (a b : TypedTree) (t pc : ℕ) (fr : Frame) (m : Machine) where
    abbrev u0 : ℕ
    u0 = next_row t

    abbrev x0 : ℕ
    x0 = stands_at here a t

    abbrev u : ℕ
    u = stands_at here b u0

    -- the node's own register, and that of a public truth value
    abbrev q0 : ℕ
    q0 = own_at here (cut_node c a b) t

    abbrev p0 : ℕ
    p0 = in_row t (truth_kind false)

    from_q : t ≤ q0
    from_q = row_from t (kind_in here (cut_node c a b))

    from_p : t ≤ p0
    from_p = row_from t (truth_kind false)

    abbrev ca : List Step
    ca = code w p number calls d here t pc a

    abbrev pb : ℕ
    pb = pc + length ca + 1

    abbrev cb : List Step
    cb = code w p number calls d here u0 pb b

    abbrev pd : ℕ
    pd = pb + length cb + 2

    abbrev secret : Bool
    secret = gives_private here b

    abbrev last : List Step
    last = Move q0 u ∷ Jump (pd + 2) ∷ Literal p0 datatype.Bool (truth_word (deciding c)) ∷ settling secret q0 p0 ∷ []

    abbrev whole : List Step
    whole = cut_code q0 p0 x0 u pc c secret ca (λ q. code w p number calls d here u0 q b)

    abbrev Q : Value → Machine → Type 0
    Q = Landed t q0 (pc + length whole) m secret

    len : pd + 2 ≡ pc + length whole
    len = omega (arith, length-append ca (Branch x0 (deciding c) pd ∷ (cb ++ last)), length-append cb last)

    -- these steps stand where they should
    Standing : Type 0
    Standing = HasAt m.steps (pb + length cb) last

    -- the value that the left operand decides
    settles : (s : Bool) (m3 : Machine) → slice_get m3.steps m3.pc ≡ Some (settling s q0 p0) → Near t m m3 → m3.pc ≡ pd + 1 → m3.registers p0
        ≡ truth_value (deciding c) → Runs w p m3 (wanted s (truth_value (deciding c))) (Landed t q0 (pc + length whole) m s)
    settles true m3 h n e v3 =
        instruct m3 (Classify q0 p0) (classified (truth_value (deciding c))) (λ v. next q0 v m3) (IsSecret true) _ h
        (λ s. ap (λ z. carry (classified z s) (λ v. done (next q0 v m3))) v3) (class_gives w (truth_value (deciding c)))
        (λ v q. record {
          near = near_on (omega arith) n (near_set t q0 v m3 from_q);
          pc = omega (arith, e, len);
          here = put_same q0 v m3.registers;
          private = q;
        })
    settles false m3 h n e v3 =
        silent m3 (next q0 (m3.registers p0) m3) (truth_value (deciding c)) _ (λ s. ap (λ o. step w p o m3 s) h)
        (record {
          near = near_on (omega arith) n (near_set t q0 (m3.registers p0) m3 from_q);
          pc = omega (arith, e, len);
          here = put_same q0
              (m3.registers p0) m3.registers ∙ v3;
          private = refl;
        })

    decided : Standing → (m2 : Machine) → Near t m m2 → m2.pc ≡ pd → Runs w p m2 (wanted secret (truth_value (deciding c))) Q
    unfolding Standing
    decided has m2 n e =
        let two : pd ≡ pb + length cb + 1 + 1 = omega arith in
        let three : pd + 1 ≡ pb + length cb + 1 + 1 + 1 = omega arith in
        let v = truth_value (deciding c) in
        let m3 = next p0 v m2 in
        let lit : slice_get m2.steps m2.pc ≡ Some (Literal p0 datatype.Bool (truth_word (deciding c))) = ap (λ z. slice_get z m2.pc) n.steps ∙ ap
        (λ z. slice_get m.steps z) (e ∙ two) ∙ has.1.1.0 in
        let settled : slice_get m3.steps m3.pc ≡ Some (settling secret q0 p0) = ap (λ z. slice_get z (m2.pc + 1)) n.steps ∙ ap
        (λ z. slice_get m.steps (z + 1)) e ∙ ap (λ z. slice_get m.steps z) three ∙ has.1.1.1.0 in
        runs_first m2 m3 (λ s. ap (λ o. step w p o m2 s) lit)
        (settles secret m3 settled (near_on (omega arith) n (near_set t p0 v m2 from_p)) (ap (λ z. z + 1) e) (put_same p0 v m2.registers))

    -- the right operand's value is moved
    other : Standing → (m2 : Machine) → Near t m m2 → (c' : Effect Value) → Runs w p m2 c' (Read here u u0 (pb + length cb) m2 secret)
        → Runs w p m2 c' Q
    unfolding Standing
    other has m2 n c' h =
        runs_more h (λ v m3 h3.
        let n3 = near_on (omega arith) n (near_less t (omega arith) h3.near) in
        let m4 = next q0 (m3.registers u) m3 in
        let move : slice_get m3.steps m3.pc ≡ Some (Move q0 u) = ap (λ z. slice_get z m3.pc) n3.steps ∙ ap (λ z. slice_get m.steps z) h3.pc ∙ has.0 in
        let jump : slice_get m4.steps m4.pc ≡ Some (Jump (pd + 2)) = ap (λ z. slice_get z (m3.pc + 1)) n3.steps ∙ ap (λ z. slice_get m.steps (z + 1)) h3.pc
        ∙ has.1.0 in
        runs_first m3 m4 (λ s. ap (λ o. step w p o m3 s) move)
        (silent m4 (at (pd + 2) m4) v Q (λ s. ap (λ o. step w p o m4 s) jump)
        (record {
          near = record {
            steps = n3.steps;
            stack = n3.stack;
            kept = λ i l. put_other q0 i (m3.registers u) m3.registers (let from = from_q in omega (arith, from, l)) ∙ n3.kept i l;
          };
          pc = len;
          here = put_same q0 (m3.registers u) m3.registers ∙ h3.held;
          private = h3.private;
        })))

    chosen : Standing → HasAt m.steps pb cb → Evaluates w p number calls d here b → Ready d here fr t pc whole m → (o : Bool)
        (m2 : Machine) → Near t m m2
        → (e : Bool) → decides c o ≡ e → m2.pc ≡ either e pd pb
        → Runs w p m2 (either e (wanted secret (truth_value o)) (value w calls here b fr)) Q
    chosen has right evb r o m2 n true q e = subst (λ z. Runs w p m2 (wanted secret (truth_value z)) Q) (sym (decides_value c o q)) (decided has m2 n e)
    chosen has right evb r o m2 n false q e =
        other has m2 n (value w calls here b fr) (evb u0 pb fr m2 (ready_at u0 pb cb (omega arith) r n e right))

    pub cut_short_runs : Evaluates w p number calls d here a → Evaluates w p number calls d here b
        → Ready d here fr t pc whole m
        → Runs w p m (value w calls here a fr >>= λ x. cut_short c secret x (value w calls here b fr)) Q
    unfolding Standing
    cut_short_runs eva evb r =
        let rest = Branch x0 (deciding c) pd ∷ (cb ++ last) in
        let behind = (has_back m.steps pc ca rest r.has).1 in
        runs_bind (eva t pc fr m (ready_front t ca rest (omega arith) r)) (λ x m1 h1.
        let r1 = ready_back t t ca rest (omega arith) (omega arith) r h1.near h1.pc in
        let n1 = h1.near in
        runs_bind (branch_runs x0 (deciding c) pd x m1 h1.held (ready_step r1)) (λ o m2 h2.
        let n2 : Near t m m2 = record { steps = h2.steps ∙ n1.steps; stack = h2.stack ∙ n1.stack; kept = λ i l. h2.registers i ∙ n1.kept i l } in
        let place : m2.pc ≡ either (decides c o) pd pb = h2.pc ∙ ap (λ z. either z pd (m1.pc + 1)) (decides_same c o) ∙ ap
        (λ z. either (decides c o) pd (z + 1)) h1.pc in
        chosen (has_back m.steps pb cb last behind) (has_front m.steps pb cb last behind) evb r o m2 n2 (decides c o) refl place))

  -- whether the left operand is private decides which code stands there
  pub cut_runs : (here : Setting) (c : Connective) (a b : TypedTree) (t pc : ℕ) (fr : Frame) (m : Machine)
      → Evaluates w p number calls d here a → Evaluates w p number calls d here b
      → (g : Bool) → gives_private here a ≡ g
      → Ready d here fr t pc (either g (both_code w p number calls d here (own_at here (cut_node c a b) t) t pc 0 (binary.Bools (connective c)) Scalars a b) (whole here c a b t pc fr
      m)) m
      → Runs w p m (value w calls here a fr >>= λ x. either g (not_cut_short w c x (value w calls here b fr))
      (cut_short c (gives_private here b) x (value w calls here b fr)))
      (Landed t (own_at here (cut_node c a b) t) (pc + length (either g (both_code w p number calls d here (own_at here (cut_node c a b) t) t pc 0 (binary.Bools (connective c)) Scalars a b) (whole here c a b t pc fr
      m))) m (gives_private here (cut_node c a b)))
  cut_runs here c a b t pc fr m eva evb true e r =
      binary_runs w p number calls d here a b t (own_at here (cut_node c a b) t) pc 0 (binary.Bools (connective c)) Scalars fr m
      (row_from t (kind_in here (cut_node c a b))) eva evb r
  cut_runs here c a b t pc fr m eva evb false e r =
      let same : gives_private here (cut_node c a b) ≡ gives_private here b = private_joined (domain here a) (domain here b) ∙ ap
      (λ z. z || gives_private here b) e in
      subst (λ z. Runs w p m (value w calls here a fr >>= λ x. cut_short c (gives_private here b) x (value w calls here b fr))
      (Landed t (own_at here (cut_node c a b) t) (pc + length (whole here c a b t pc fr m)) m z)) (sym same)
      (cut_short_runs here c a b t pc fr m eva evb r)
