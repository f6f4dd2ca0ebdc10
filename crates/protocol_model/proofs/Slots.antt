-- Gates leave all values as they were that aren't their own.
use Rattle.std.proofs.Common.{◌≡◌, ℕ, zero, suc, ◌+◌, ◌≤◌, ◌<◌, Bool, true, false, List, [], ◌∷◌, ◌++◌}
use Rattle.std.proofs.Common.{length, map, take, drop, refl, sym, ◌∙◌, ap, subst, arith, ◌⊎◌, inl, inr, length-append, append_assoc}
use Rattle.std.specs.Prelude.{Some, slice_get}
use Rattle.std.proofs.lemmas.Bool.{cases_lt}
use Rattle.std.proofs.lemmas.List.{length-take-le, length-drop, length-map}
use Rattle.proto_core.specs.declared.party.Number.{Number}
use Rattle.proto_core.specs.declared.link.Link.{Link}
use Rattle.proto_core.specs.Strand.{Shape, accepts, Mail, Strand, Ends, Acts, Waits, taken, run, then_do}
use Rattle.proto_core.specs.Script.{EndsWith}
use Rattle.proto_core.proofs.Beginnings.{append-none}
use Rattle.proto_core.proofs.Strands.{run-none, run-took, run-refused}
use Rattle.protocol_model.specs.Gates.{Gate, Joined, Local, AreSound, Sized, HasSize, nth_value, operand, sizes_of, needed, gates_strand}
use Rattle.protocol_model.specs.Slots.{made_by, IsOwn}
use Rattle.protocol_model.proofs.Sizes.{nth_value-sized, operand-sized, sizes-append}

-- ---- what holds at the ends of strands

waits_end : {A P : Type 0} (l : Link) (n : Shape) (k : List ℕ → Strand A) (a : A) → Waits l n k ≡ Ends a → P
waits_end l n k a e = cc

ends_are : {A : Type 0} (a b : A) → Ends b ≡ Ends a → b ≡ a
ends_are a b e = cc

-- it holds of what a run ends with
of_run_end : {A : Type 0} (P : A → Type 0) (s : Strand A) (mail : Mail) (a : A) → EndsWith P s → (run s mail).left ≡ Ends a → P a
of_run_end P (Ends b) mail a h e = subst P (ends_are a b e) h
of_run_end P (Acts act s) mail a h e = of_run_end P s mail a h e
of_run_end {A} P (Waits l n k) mail a h e = by_mail (mail l) refl (λ m o. of_run_end P (k m) (taken l mail) a (h m o))
  where
    by_mail :
        (xs : List (List ℕ)) → mail l ≡ xs → ((m : List ℕ) → accepts n m ≡ true → (run (k m) (taken l mail)).left ≡ Ends a → P a) → P a
    by_mail [] x more = waits_end l n k a (sym (ap (λ r. r.left) (run-none l n k mail x)) ∙ e)
    by_mail (m ∷ ms) x more = by_shape (accepts n m) refl
      where
        by_shape : (b : Bool) → accepts n m ≡ b → P a
        by_shape true o = more m o (sym (ap (λ r. r.left) (run-took l n k mail m ms x o)) ∙ e)
        by_shape false o = waits_end l n k a (sym (ap (λ r. r.left) (run-refused l n k mail m ms x o)) ∙ e)

ends_mapped : {A : Type 0} (P Q : A → Type 0) (s : Strand A) → ((a : A) → P a → Q a) → EndsWith P s → EndsWith Q s
ends_mapped P Q (Ends a) f h = f a h
ends_mapped P Q (Acts act s) f h = ends_mapped P Q s f h
ends_mapped P Q (Waits l n k) f h = λ m o. ends_mapped P Q (k m) f (h m o)

pub ends_then :
    {A B : Type 0} (P : A → Type 0) (Q : B → Type 0) (s : Strand A) (f : A → Strand B) → EndsWith P s →
    ((a : A) → P a → EndsWith Q (f a)) → EndsWith Q (then_do s f)
ends_then P Q (Ends a) f h more = more a h
ends_then P Q (Acts act s) f h more = ends_then P Q s f h more
ends_then P Q (Waits l n k) f h more = λ m o. ends_then P Q (k m) f (h m o) more

ends_anyhow : {A : Type 0} (s : Strand A) → EndsWith (λ a. Unit {0}) s
ends_anyhow (Ends a) = tt
ends_anyhow (Acts act s) = ends_anyhow s
ends_anyhow (Waits l n k) = λ m o. ends_anyhow (k m)

-- ---- values after values

-- these are the values, and so many more after them
pub record Behind (values all : List (List ℕ)) (count : ℕ) : Type 0 where
  pub more : List (List ℕ)
  pub parts : all ≡ values ++ more
  pub len : length more ≡ count

abbrev Grown : List (List ℕ) → List (List ℕ) → Type 0
Grown values all = (more : List (List ℕ)) × (all ≡ values ++ more)

grown_on : (values xs all : List (List ℕ)) → Grown (values ++ xs) all → Grown values all
grown_on values xs all h = (xs ++ h.0, h.1 ∙ append_assoc values xs h.0)

behind_on : (values xs all : List (List ℕ)) (count : ℕ) → Behind (values ++ xs) all count → Behind values all (length xs + count)
behind_on values xs all count h =
    record {
      more = xs ++ h.more;
      parts = h.parts ∙ append_assoc values xs h.more;
      len = length-append xs h.more ∙ ap (λ k. length xs + k) h.len;
    }

grows : (i : Number) (gates : List Gate) (values : List (List ℕ)) (tape : List ℕ) → EndsWith (Grown values) (gates_strand i gates values tape)
grows i [] values tape = ([], sym (append-none values))
grows i (Local n f ∷ gates) values tape =
    ends_mapped _ _ (gates_strand i gates (values ++ f i values ∷ []) tape) (λ all h. grown_on values (f i values ∷ []) all h)
    (grows i gates (values ++ f i values ∷ []) tape)
grows i (Joined p n u v ∷ gates) values tape =
    let block = p.strand n i (nth_value values u) (operand values v) (take (p.draws n i) tape) in
    let rest = drop (p.draws n i) tape in
    ends_then (λ made. Unit {0}) (Grown values) block (λ made. gates_strand i gates (values ++ made) rest) (ends_anyhow block)
    (λ made h.
    ends_mapped _ _ (gates_strand i gates (values ++ made) rest) (λ all g. grown_on values made all g) (grows i gates (values ++ made) rest))

grows_by :
    (i : Number) (gates : List Gate) (sizes : List ℕ) (values : List (List ℕ)) (tape : List ℕ) → AreSound gates → Sized gates sizes →
    sizes_of values ≡ sizes → needed gates i ≤ length tape →
    EndsWith (λ all. Behind values all (made_by gates)) (gates_strand i gates values tape)
grows_by i [] sizes values tape sound sized same reach = record { more = []; parts = sym (append-none values); len = refl }
grows_by i (Local n f ∷ gates) sizes values tape sound sized same reach =
    ends_mapped _ _ (gates_strand i gates (values ++ f i values ∷ []) tape)
    (λ all h. behind_on values (f i values ∷ []) all (made_by gates) h)
    (grows_by i gates (sizes ++ n ∷ []) (values ++ f i values ∷ []) tape sound sized.1
    (sizes-append values (f i values ∷ [])
    ∙ ap (λ s. s ++ length (f i values) ∷ []) same
    ∙ ap (λ k. sizes ++ k ∷ []) (sized.0 i values same))
    reach)
grows_by i (Joined p n u v ∷ gates) sizes values tape sound sized same reach =
    let a : length (nth_value values u) ≡ n = nth_value-sized values u n (subst (λ s. slice_get s u ≡ Some n) (sym same) sized.0) in
    let b : length (operand values v) ≡ p.second n =
    operand-sized values v (p.second n) (subst (λ s. HasSize s v (p.second n)) (sym same) sized.1) in
    let c : length (take (p.draws n i) tape) ≡ p.draws n i = length-take-le (p.draws n i) tape (omega arith) in
    let block = p.strand n i (nth_value values u) (operand values v) (take (p.draws n i) tape) in
    let rest = drop (p.draws n i) tape in
    ends_then (λ made. map length made ≡ p.made n) (λ all. Behind values all (length (p.made n) + made_by gates)) block
    (λ made. gates_strand i gates (values ++ made) rest) (sound.0.sizes n i _ _ _ a b c)
    (λ made e.
    let count : length made ≡ length (p.made n) = sym (length-map made length) ∙ ap length e in
    ends_mapped _ _ (gates_strand i gates (values ++ made) rest)
    (λ all h. subst (λ k. Behind values all (k + made_by gates)) count (behind_on values made all (made_by gates) h))
    (grows_by i gates (sizes ++ p.made n) (values ++ made) rest sound.1 sized.2
    (sizes-append values made ∙ ap (λ s. s ++ sizes_of made) same ∙ ap (λ s. sizes ++ s) e)
    (let l = length-drop (p.draws n i) tape in omega arith)))

-- ---- numbers

below_zero : {P : Type 0} (k : ℕ) → k < 0 → P
below_zero k h = absurd (omega arith)

value_before : (xs ys : List (List ℕ)) (k : ℕ) → k < length xs → nth_value (xs ++ ys) k ≡ nth_value xs k
value_before [] ys k h = below_zero k h
value_before (x ∷ xs) ys zero h = refl
value_before (x ∷ xs) ys (suc k) h = value_before xs ys k (omega arith)

value_past : (xs : List (List ℕ)) (k : ℕ) → length xs ≤ k → nth_value xs k ≡ []
value_past [] k h = refl
value_past (x ∷ xs) zero h = below_zero (length xs) (omega arith)
value_past (x ∷ xs) (suc k) h = value_past xs k (omega arith)

module _ (i : Number) (gates : List Gate) (values all : List (List ℕ)) (tape : List ℕ) (mail : Mail) (k : ℕ)
    (ends : (run (gates_strand i gates values tape) mail).left ≡ Ends all) where
  pub values_before_stay : k < length values → nth_value all k ≡ nth_value values k
  values_before_stay below =
      let h = of_run_end (Grown values) (gates_strand i gates values tape) mail all (grows i gates values tape) ends in
      ap (λ v. nth_value v k) h.1 ∙ value_before values h.0 k below

  pub other_values_stay :
      AreSound gates → Sized gates (sizes_of values) → needed gates i ≤ length tape → (IsOwn (length values) gates k → ⊥) →
      nth_value all k ≡ nth_value values k
  other_values_stay sound sized reach other =
      elim (cases_lt k (length values)) as (λ c. nth_value all k ≡ nth_value values k)
      [ inl below ↦ values_before_stay below | inr above ↦ by_end above (cases_lt k (length values + made_by gates)) ]
    where
      h : Behind values all (made_by gates)
      h =
          of_run_end (λ v. Behind values v (made_by gates)) (gates_strand i gates values tape) mail all
          (grows_by i gates (sizes_of values) values tape sound sized refl reach) ends

      by_end : length values ≤ k → (k < length values + made_by gates) ⊎ (length values + made_by gates ≤ k) → nth_value all k ≡ nth_value values k
      by_end above (inl below) = absurd (other (above, below))
      by_end above (inr past) =
          let n = length-append values h.more in
          ap (λ v. nth_value v k) h.parts
          ∙ value_past (values ++ h.more) k (omega (arith, h.len))
          ∙ sym (value_past values k above)
