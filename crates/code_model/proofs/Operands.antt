-- The code of nodes with one operand and with two, where the operands' code does what the operands do.
use Rattle.std.proofs.Common.{◌≡◌, ◌≢◌, ℕ, ◌+◌, ◌<◌, ◌≤◌, List, [], ◌∷◌, ◌++◌, length, Some, Bool, true, false, not, ◌&&◌, ◌||◌, refl, sym, ap}
use Rattle.std.proofs.Common.{◌∙◌}
use Rattle.std.proofs.Common.{subst, arith, length-append}
use Rattle.program_trees.specs.declared.operators.BinaryOperator.{BinaryOperator}
use Rattle.program_trees.specs.declared.operators.Operands.{Operands}
use Rattle.program_trees.specs.TypedTree.{TypedTree, cat_node, lookup_node, element_node}
use Rattle.reached_instances.specs.declared.instance.BoundDomain.{BoundDomain}
use Rattle.reached_instances.specs.declared.instance.BoundDomain.TheVariants as bound
use Rattle.reached_instances.specs.Domains.{Setting, domain, joined_domain}
use Rattle.blind_evaluation.specs.Effects.{World, Stage, Effect, ◌>>=◌, carry, done}
use Rattle.blind_evaluation.specs.Values.{Value, is_secret}
use Rattle.blind_evaluation.specs.Operations as row
use Rattle.blind_evaluation.specs.Operations.{wanted, is_product, is_classified, operated, operation}
use Rattle.blind_evaluation.specs.Evaluation.{Frame, Calls, is_private, gives_private, value}
use Rattle.verified_code.specs.Steps.{Step, Function, Binary, Cat, Lookup, At}
use Rattle.code_model.specs.Machine.{Machine, next, step}
use Rattle.bytecode.specs.declared.kind.Kind.{Kind}
use Rattle.code_model.specs.Kinds.{kind_in, private_kind_in, in_row}
use Rattle.code_model.specs.Expressions.{Numbers, classifying, picked, lacks, mixes, own_at, classified_at, stands_at, next_row, one_code, binary_code}
use Rattle.code_model.specs.Expressions.{expression_code}
use Rattle.code_model.specs.Statements.{first_free}
use Rattle.code_model.specs.Fit.{MayStand}
use Rattle.code_model.proofs.Places.{put_same}
use Rattle.code_model.proofs.Gives.{Gives, IsSecret, operated_gives, concatenated_gives, looked_up_gives, element_gives}
use Rattle.code_model.proofs.Follows.{Runs, runs_bind, instruct}
use Rattle.code_model.proofs.Near.{Near, near_on, near_less, near_set, row_from, row_below, Landed, Read, Ready, ready_front, ready_back, ready_step, Wanting}
use Rattle.code_model.proofs.Near.{near_wanting}
use Rattle.code_model.proofs.Near.{ready_classify, ready_wanting, classifying_runs, wanting_runs}

pub private_joined : (d e : BoundDomain) → is_private (joined_domain d e) ≡ (is_private d || is_private e)
private_joined bound.Public e = refl
private_joined (bound.Private k) e = refl

left_may : (d e : BoundDomain) → MayStand (is_private d) (is_private (joined_domain d e))
left_may bound.Public e h = absurd (clash h)
  where
    clash : false ≡ true → ⊥
    clash h = cc
left_may (bound.Private k) e h = refl

right_may : (d e : BoundDomain) → MayStand (is_private e) (is_private (joined_domain d e))
right_may bound.Public e h = h
right_may (bound.Private k) e h = refl

joined_both : (d e : BoundDomain) → (is_private (joined_domain d e) || is_private (joined_domain d e)) ≡ is_private (joined_domain d e)
joined_both d e = go (is_private (joined_domain d e))
  where
    go : (b : Bool) → (b || b) ≡ b
    go true = refl
    go false = refl

-- what is picked stands below the next row
pub picked_below : (b : Bool) (t : ℕ) (k : Kind) (r : ℕ) → r < t + 12 → picked b (in_row t k) r < t + 12
picked_below true t k r l = row_below t k
picked_below false t k r l = l

either_secret : (np ga gb : Bool) → (((np && (gb && not ga)) || ga) || ((np && (ga && not gb)) || gb)) ≡ (ga || gb)
either_secret true true true = refl
either_secret true true false = refl
either_secret true false true = refl
either_secret true false false = refl
either_secret false true true = refl
either_secret false true false = refl
either_secret false false true = refl
either_secret false false false = refl

-- two operands stand in their registers, v in the row that begins at t and u in the next one, where they are none of slots
pub record Both (here : Setting) (ga gb : Bool) (t v u : ℕ) (m : Machine) (x y : Value) (m2 : Machine) : Type 0 where
  pub near : Near t m m2
  pub left : m2.registers v ≡ x
  pub right : m2.registers u ≡ y
  pub low : v < t + 12
  pub apart_right : (i : ℕ) → first_free here.slots ≤ i → i < t + 12 → u ≢ i
  pub left_private : IsSecret ga x
  pub right_private : IsSecret gb y

module _ (w : World) (p : List Function) (number : Numbers) (calls : Calls) (d : ℕ) where
  abbrev pub code : Setting → (t pc : ℕ) → TypedTree → List Step
  code = expression_code number

  -- the code of an operation on two operands, whose own register is q
  abbrev pub both_code : Setting → (q t pc line : ℕ) → BinaryOperator → Operands → (left right : TypedTree) → List Step
  both_code here q t pc line op ds a b =
      binary_code q (classified_at here a t) (classified_at here b (next_row t)) (stands_at here a t) (stands_at here b (next_row t)) pc line op ds
      (gives_private here a) (gives_private here b) (code here t pc a) (λ z. code here (next_row t) z b)

  -- the code of an expression does what the expression does
  abbrev pub Evaluates : Setting → TypedTree → Type 0
  Evaluates here e =
      (t pc : ℕ) (fr : Frame) (m : Machine) → Ready d here fr t pc (code here t pc e) m → Runs w p m (value w calls here e fr)
      (Read here (stands_at here e t) t (pc + length (code here t pc e)) m (gives_private here e))

  pub unary_runs : (here : Setting) (e : TypedTree) (t q pc : ℕ) (fr : Frame) (m : Machine) (last : ℕ → Step) (c : Value → Effect Value) (out : Bool)
      → t ≤ q → Evaluates here e
      → ((r : ℕ) (x : Value) (m1 : Machine) (s : Stage) → m1.registers r ≡ x → step w p (Some (last r)) m1 s ≡ carry (c x s) (λ v. done (next q v m1)))
      → ((x : Value) → IsSecret (gives_private here e) x → Gives (c x) (IsSecret out))
      → Ready d here fr t pc (one_code last (stands_at here e t) (code here t pc e)) m
      → Runs w p m (value w calls here e fr >>= c)
      (Landed t q (pc + length (one_code last (stands_at here e t) (code here t pc e))) m out)
  unary_runs here e t q pc fr m last c out from ev st gives r =
      let ce = code here t pc e in
      let x' = stands_at here e t in
      runs_bind (ev t pc fr m (ready_front t ce (last x' ∷ []) (omega arith) r)) (λ x m1 h.
      let r1 = ready_back t t ce (last x' ∷ []) (omega arith) (omega arith) r h.near h.pc in
      instruct m1 (last x') (c x) (λ v. next q v m1) (IsSecret out) _ (ready_step r1) (λ s. st x' x m1 s h.held) (gives x h.private)
      (λ v k. record {
        near = near_on (omega arith) h.near (near_set t q v m1 from);
        pc = omega
            (arith, h.pc, length-append ce (last x' ∷ []));
        here = put_same q v m1.registers;
        private = k;
      }))

  pub operands_run : {A : Type 0} (here : Setting) (a b : TypedTree) (t pc : ℕ) (fr : Frame) (m : Machine) (rest : List Step)
      (f : Value → Value → Effect A) (Q : A → Machine → Type 0)
      → Evaluates here a → Evaluates here b
      → Ready d here fr t pc (code here t pc a ++ (code here (next_row t) (pc + length (code here t pc a)) b ++ rest)) m
      → ((x y : Value) (m2 : Machine) → Both here (gives_private here a) (gives_private here b) t (stands_at here a t) (stands_at here b (next_row t)) m
      x y m2 → Ready d here fr t
      (pc + length (code here t pc a) + length (code here (next_row t) (pc + length (code here t pc a)) b)) rest m2 → Runs w p m2 (f x y) Q)
      → Runs w p m (value w calls here a fr >>= λ x. value w calls here b fr >>= λ y. f x y) Q
  operands_run here a b t pc fr m rest f Q eva evb r k =
      let u = next_row t in
      let ca = code here t pc a in
      let cb = code here u (pc + length ca) b in
      runs_bind (eva t pc fr m (ready_front t ca (cb ++ rest) (omega arith) r)) (λ x m1 h1.
      let r1 = ready_back t t ca (cb ++ rest) (omega arith) (omega arith) r h1.near h1.pc in
      runs_bind (evb u (pc + length ca) fr m1 (ready_front u cb rest (omega arith) r1)) (λ y m2 h2.
      let r2 = ready_back t u cb rest (omega arith) (omega arith) r1 h2.near h2.pc in
      let low = h1.low in
      k x y m2 (record {
        near = near_on (omega arith) h1.near h2.near;
        left = h2.near.kept (stands_at here a t) low ∙ h1.held;
        right = h2.held;
        low = low;
        apart_right = h2.apart;
        left_private = h1.private;
        right_private = h2.private;
      }) r2))

  pub element_runs : (here : Setting) (a i : TypedTree) (t pc line : ℕ) (fr : Frame) (m : Machine)
      → Evaluates here a → Evaluates here i → Ready d here fr t pc (code here t pc (element_node line a i)) m
      → Runs w p m (value w calls here a fr >>= λ x. value w calls here i fr >>= λ j. row.element_of_array line x j)
      (Landed t (own_at here (element_node line a i) t) (pc + length (code here t pc (element_node line a i))) m (gives_private here a))
  element_runs here a i t pc line fr m eva evi r =
      let q = own_at here (element_node line a i) t in
      let u = next_row t in
      let v' = stands_at here a t in
      let u' = stands_at here i u in
      let ca = code here t pc a in
      let ci = code here u (pc + length ca) i in
      let last = At line q v' u' ∷ [] in
      operands_run here a i t pc fr m last (row.element_of_array line) _ eva evi r (λ x j m2 h r2.
      instruct m2 (At line q v' u') (row.element_of_array line x j) (λ v. next q v m2) (IsSecret (gives_private here a)) _ (ready_step r2)
      (λ s. ap (λ z. carry (row.element_of_array line z (m2.registers u') s) (λ v. done (next q v m2))) h.left ∙ ap
      (λ z. carry (row.element_of_array line x z s) (λ v. done (next q v m2))) h.right)
      (subst (λ z. Gives (row.element_of_array line x j) (IsSecret z)) h.left_private (element_gives w line x j))
      (λ v k. record {
        near = near_on (omega arith) h.near (near_set t q v m2 (row_from t (kind_in here (element_node line a i))));
        pc = omega (arith, r2.place, length-append ca (ci ++ last), length-append ci last);
        here = put_same q v m2.registers;
        private = k;
      }))

  -- the node's own register is q
  pub binary_runs : (here : Setting) (a b : TypedTree) (t q pc line : ℕ) (op : BinaryOperator) (ds : Operands) (fr : Frame) (m : Machine)
      → t ≤ q → Evaluates here a → Evaluates here b
      → Ready d here fr t pc (both_code here q t pc line op ds a b) m
      → Runs w p m (value w calls here a fr >>= λ x. value w calls here b fr >>= λ y. operation w line op ds x y)
      (Landed t q (pc + length (both_code here q t pc line op ds a b)) m (is_private (joined_domain (domain here a) (domain here b))))
  binary_runs here a b t q pc line op ds fr m from eva evb r =
      let ga = gives_private here a in
      let gb = gives_private here b in
      let f1 = mixes op ga gb in
      let f2 = mixes op gb ga in
      let u0 = next_row t in
      let ka = private_kind_in here a in
      let kb = private_kind_in here b in
      let c1 = in_row t ka in
      let c2 = in_row u0 kb in
      let x' = stands_at here a t in
      let u = stands_at here b u0 in
      let ca = code here t pc a in
      let cb = code here u0 (pc + length ca) b in
      let cl = classifying f1 c1 x' in
      let cr = classifying f2 c2 u in
      let last = Binary line op ds q (picked f1 c1 x') (picked f2 c2 u) ∷ [] in
      let from1 = row_from t ka in
      let below1 = row_below t ka in
      let from2 = row_from u0 kb in
      operands_run here a b t pc fr m (cl ++ (cr ++ last)) (operation w line op ds) _ eva evb r (λ x y
      m2 h r2.
      let flags : is_classified op x y ≡ f1 = ap (λ z. not (is_product op) && (z && not (is_secret x.secrecy))) h.right_private ∙ ap
      (λ z. not (is_product op) && (gb && not z)) h.left_private in
      let other_flags : is_classified op y x ≡ f2 = ap (λ z. not (is_product op) && (z && not (is_secret y.secrecy))) h.left_private ∙ ap
      (λ z. not (is_product op) && (ga && not z)) h.right_private in
      let free = r.free in
      runs_bind (subst (λ z. Runs w p m2 (wanted z x) (Wanting f1 c1 x' m2 (f1 || ga))) (sym flags)
      (subst (λ z. Runs w p m2 (wanted f1 x) (Wanting f1 c1 x' m2 (f1 || z))) h.left_private
      (classifying_runs f1 c1 x' x m2 h.left (ready_classify f1 c1 x' (cr ++ last) r2)))) (λ a' m3 h3.
      let r3 = ready_wanting f1 c1 x' (cr ++ last) from1 r2 h3 in
      runs_bind (subst (λ z. Runs w p m3 (wanted z y) (Wanting f2 c2 u m3 (f2 || gb))) (sym other_flags)
      (subst (λ z. Runs w p m3 (wanted f2 y) (Wanting f2 c2 u m3 (f2 || z))) h.right_private
      (classifying_runs f2 c2 u y m3 (h3.kept u (h.apart_right c1 (omega (arith, free, from1)) below1) ∙ h.right)
      (ready_classify f2 c2 u last r3)))) (λ b' m4 h4.
      let r4 = ready_wanting f2 c2 u last (omega (arith, from2)) r3 h4 in
      let low = picked_below f1 t ka x' h.low in
      let left : m4.registers (picked f1 c1 x') ≡ a' = h4.kept (picked f1 c1 x') (omega (arith, low, from2)) ∙ h3.here in
      let secret : (is_secret a'.secrecy || is_secret b'.secrecy) ≡ is_private (joined_domain (domain here a) (domain here b)) =
      ap (λ z. z || is_secret b'.secrecy) h3.private ∙ ap (λ z. (f1 || ga) || z) h4.private ∙ either_secret (not (is_product op)) ga gb ∙ sym
      (private_joined (domain here a) (domain here b)) in
      instruct m4 (Binary line op ds q (picked f1 c1 x') (picked f2 c2 u)) (operated w line op ds a' b') (λ v. next q v m4)
      (IsSecret (is_private (joined_domain (domain here a) (domain here b)))) _ (ready_step r4)
      (λ s. ap (λ z. carry (operated w line op ds z (m4.registers (picked f2 c2 u)) s) (λ v. done (next q v m4))) left ∙ ap
      (λ z. carry (operated w line op ds a' z s) (λ v. done (next q v m4))) h4.here)
      (subst (λ z. Gives (operated w line op ds a' b') (IsSecret z)) secret (operated_gives w line op ds a' b'))
      (λ v k. record {
        near = near_on (omega arith) h.near (near_on (omega arith) (near_wanting t from1 h3) (near_on (omega arith) (near_wanting t (omega (arith, from2)) h4)
            (near_set t q v m4 from)));
        pc = omega (
          arith,
          r4.place,
          length-append ca (cb ++ (cl ++ (cr ++ last))),
          length-append cb (cl ++ (cr ++ last)),
          length-append cl (cr ++ last),
          length-append cr last,
        );
        here = put_same q v m4.registers;
        private = k;
      }))))

  -- both are private after their classifications
  pub lookup_runs : (here : Setting) (a i : TypedTree) (t pc line : ℕ) (fr : Frame) (m : Machine)
      → Evaluates here a → Evaluates here i → gives_private here (lookup_node line a i) ≡ true
      → Ready d here fr t pc (code here t pc (lookup_node line a i)) m
      → Runs w p m (value w calls here (lookup_node line a i) fr) (Landed t (own_at here (lookup_node line a i) t)
      (pc + length (code here t pc (lookup_node line a i))) m
      (gives_private here (lookup_node line a i)))
  unfolding value
  lookup_runs here a i t pc line fr m eva evi private r =
      let ga = gives_private here a in
      let gi = gives_private here i in
      let f1 = lacks true ga in
      let f2 = lacks true gi in
      let q = own_at here (lookup_node line a i) t in
      let u0 = next_row t in
      let ka = private_kind_in here a in
      let ki = private_kind_in here i in
      let c1 = in_row t ka in
      let c2 = in_row u0 ki in
      let x0 = stands_at here a t in
      let u = stands_at here i u0 in
      let ca = code here t pc a in
      let ci = code here u0 (pc + length ca) i in
      let cl = classifying f1 c1 x0 in
      let cr = classifying f2 c2 u in
      let last = Lookup line q (picked f1 c1 x0) (picked f2 c2 u) ∷ [] in
      let from = row_from t (kind_in here (lookup_node line a i)) in
      let from1 = row_from t ka in
      let below1 = row_below t ka in
      let from2 = row_from u0 ki in
      let free = r.free in
      operands_run here a i t pc fr m (cl ++ (cr ++ last)) (row.lookup w line) _ eva evi r (λ x y m2 h r2.
      runs_bind (wanting_runs true ga c1 x0 x m2 h.left_private (λ e. refl) h.left (ready_classify f1 c1 x0 (cr ++ last) r2)) (λ x' m3 h3.
      let r3 = ready_wanting f1 c1 x0 (cr ++ last) from1 r2 h3 in
      runs_bind (wanting_runs true gi c2 u y m3 h.right_private (λ e. refl)
      (h3.kept u (h.apart_right c1 (omega (arith, free, from1)) below1) ∙ h.right) (ready_classify f2 c2 u last r3)) (λ y' m4 h4.
      let r4 = ready_wanting f2 c2 u last (omega (arith, from2)) r3 h4 in
      let low = picked_below f1 t ka x0 h.low in
      let left : m4.registers (picked f1 c1 x0) ≡ x' = h4.kept (picked f1 c1 x0) (omega (arith, low, from2)) ∙ h3.here in
      instruct m4 (Lookup line q (picked f1 c1 x0) (picked f2 c2 u)) (row.looked_up w line x' y') (λ v. next q v m4)
      (IsSecret (gives_private here (lookup_node line a i))) _ (ready_step r4)
      (λ s. ap (λ z. carry (row.looked_up w line z (m4.registers (picked f2 c2 u)) s) (λ v. done (next q v m4))) left ∙ ap
      (λ z. carry (row.looked_up w line x' z s) (λ v. done (next q v m4))) h4.here)
      (subst (λ z. Gives (row.looked_up w line x' y') (IsSecret z)) (sym private) (looked_up_gives w line x' y'))
      (λ v k. record {
        near = near_on (omega arith) h.near (near_on (omega arith) (near_wanting t from1 h3) (near_on (omega arith) (near_wanting t (omega (arith, from2)) h4)
            (near_set t q v m4 from)));
        pc = omega (
          arith,
          r4.place,
          length-append ca (ci ++ (cl ++ (cr ++ last))),
          length-append ci (cl ++ (cr ++ last)),
          length-append cl (cr ++ last),
          length-append cr last,
        );
        here = put_same q v m4.registers;
        private = k;
      }))))

  pub cat_runs : (here : Setting) (a b : TypedTree) (t pc line : ℕ) (fr : Frame) (m : Machine)
      → Evaluates here a → Evaluates here b
      → Ready d here fr t pc (code here t pc (cat_node line a b)) m
      → Runs w p m (value w calls here (cat_node line a b) fr) (Landed t (own_at here (cat_node line a b) t)
      (pc + length (code here t pc (cat_node line a b))) m
      (gives_private here (cat_node line a b)))
  unfolding value
  cat_runs here a b t pc line fr m eva evb r =
      let ga = gives_private here a in
      let gb = gives_private here b in
      let g = gives_private here (cat_node line a b) in
      let f1 = lacks g ga in
      let f2 = lacks g gb in
      let q = own_at here (cat_node line a b) t in
      let u0 = next_row t in
      let ka = private_kind_in here a in
      let kb = private_kind_in here b in
      let c1 = in_row t ka in
      let c2 = in_row u0 kb in
      let x0 = stands_at here a t in
      let u = stands_at here b u0 in
      let ca = code here t pc a in
      let cl = classifying f1 c1 x0 in
      let pb = pc + length ca + length cl in
      let cb = code here u0 pb b in
      let cr = classifying f2 c2 u in
      let last = Cat line q (picked f1 c1 x0) (picked f2 c2 u) ∷ [] in
      let from = row_from t (kind_in here (cat_node line a b)) in
      let from1 = row_from t ka in
      let from2 = row_from u0 kb in
      runs_bind (eva t pc fr m (ready_front t ca (cl ++ (cb ++ (cr ++ last))) (omega arith) r)) (λ x m1 h1.
      let r1 = ready_back t t ca (cl ++ (cb ++ (cr ++ last))) (omega arith) (omega arith) r h1.near h1.pc in
      runs_bind (wanting_runs g ga c1 x0 x m1 h1.private (left_may (domain here a) (domain here b)) h1.held
      (ready_classify f1 c1 x0 (cb ++ (cr ++ last)) r1)) (λ x' m2 h2.
      let r2 = ready_wanting f1 c1 x0 (cb ++ (cr ++ last)) from1 r1 h2 in
      runs_bind (evb u0 pb fr m2 (ready_front u0 cb (cr ++ last) (omega arith) r2)) (λ y m3 h3.
      let r3 = ready_back t u0 cb (cr ++ last) (omega arith) (omega arith) r2 h3.near h3.pc in
      runs_bind (wanting_runs g gb c2 u y m3 h3.private (right_may (domain here a) (domain here b)) h3.held (ready_classify f2 c2 u last r3))
      (λ y' m4 h4.
      let r4 = ready_wanting f2 c2 u last (omega (arith, from2)) r3 h4 in
      let low = picked_below f1 t ka x0 h1.low in
      let left : m4.registers (picked f1 c1 x0) ≡ x' = h4.kept (picked f1 c1 x0)
      (omega (arith, low, from2)) ∙ h3.near.kept (picked f1 c1 x0) low ∙ h2.here in
      let secret : (is_secret x'.secrecy || is_secret y'.secrecy) ≡ g = ap (λ z. z || is_secret y'.secrecy) h2.private ∙ ap (λ z. g || z) h4.private
      ∙ joined_both (domain here a) (domain here b) in
      instruct m4 (Cat line q (picked f1 c1 x0) (picked f2 c2 u)) (row.concatenated line x' y') (λ v. next q v m4) (IsSecret g) _ (ready_step r4)
      (λ s. ap (λ z. carry (row.concatenated line z (m4.registers (picked f2 c2 u)) s) (λ v. done (next q v m4))) left ∙ ap
      (λ z. carry (row.concatenated line x' z s) (λ v. done (next q v m4))) h4.here)
      (subst (λ z. Gives (row.concatenated line x' y') (IsSecret z)) secret (concatenated_gives w line x' y'))
      (λ v k. record {
        near = near_on (omega arith) h1.near (near_on (omega arith) (near_wanting t from1 h2)
            (near_on (omega arith) (near_less t (omega arith) h3.near) (near_on (omega arith) (near_wanting t (omega (arith, from2)) h4)
            (near_set t q v m4 from))));
        pc = omega (
          arith,
          r4.place,
          length-append ca (cl ++ (cb ++ (cr ++ last))),
          length-append cl (cb ++ (cr ++ last)),
          length-append cb (cr ++ last),
          length-append cr last,
        );
        here = put_same q v m4.registers;
        private = k;
      })))))
