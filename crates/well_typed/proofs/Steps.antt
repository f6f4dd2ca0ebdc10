-- Resolving, step by step: what holds between the place before a step, what it makes, and the place after it.
use Rattle.std.proofs.Common.{◌≡◌, ℕ, length, refl, subst, Option, Some, None}
use Rattle.std.specs.Prelude.{option_map}
use Rattle.program_trees.specs.declared.statement.Identifier.{Identifier}
use Rattle.program_trees.specs.declared.statement.DeclaredType.{DeclaredType}
use Rattle.name_resolution.specs.Scopes.{FunctionScope, declaring, entering, behind_block}
use Rattle.name_resolution.specs.Resolving.{Resolving, carry, ◌>>=◌, done, reading, next_slot, declare, closed, in_block}

-- what is said of a step from one place to another
abbrev pub Relation : Type 0 → Type 1
Relation A = FunctionScope → A → FunctionScope → Type 0

pub record Step {A : Type 0} (m : Resolving A) (P : Relation A) : Type 0 where
  pub from : (p : FunctionScope) (a : A) (q : FunctionScope) → m p ≡ Some (a, q) → P p a q

abbrev pub pair_of : {A : Type 0} → A → FunctionScope → A × FunctionScope
pair_of a p = (a, p)

-- what holds of what a step comes to
pub comes : {A : Type 0} (P : A → FunctionScope → Type 0) (a b : A) (p q : FunctionScope) → Some (pair_of a p) ≡ Some (pair_of b q) → P a p → P b q
comes {A} P a b p q e h =
    let same : pair_of a p ≡ pair_of b q = cc in
    subst (λ (z : A × FunctionScope). P z.0 z.1) same h

pub step_done : {A : Type 0} (P : Relation A) (a : A) → ((p : FunctionScope) → P p a p) → Step (done a) P
step_done P a h = record { from = λ p b q e. comes (P p) a b p q e (h p) }

pub step_bind : {A B : Type 0} (m : Resolving A) (g : A → Resolving B) (P : Relation A) (Q : Relation B) → Step m P
    → ((a : A) → Step (g a) (λ q b r. (p : FunctionScope) → P p a q → Q p b r)) → Step (m >>= g) Q
step_bind {A} {B} m g P Q first then = record { from = λ p b r e. go p b r (m p) refl e }
  where
    go : (p : FunctionScope) (b : B) (r : FunctionScope) → (o : Option (A × FunctionScope)) → m p ≡ o → carry o g ≡ Some (b, r) → Q p b r
    go p b r None h e = cc
    go p b r (Some s) h e = (then s.0).from s.1 b r e p (first.from p s.0 s.1 h)

pub step_reading : {A : Type 0} (f : FunctionScope → Option A) (P : Relation A) → ((p : FunctionScope) (a : A) → f p ≡ Some a → P p a p) → Step (reading f) P
step_reading {A} f P h = record { from = λ p a q e. go p a q (f p) refl e }
  where
    go : (p : FunctionScope) (a : A) (q : FunctionScope) → (o : Option A) → f p ≡ o → option_map (λ b. pair_of b p) o ≡ Some (a, q) → P p a q
    go p a q None g e = cc
    go p a q (Some b) g e = comes (P p) b a p q e (h p b g)

pub step_block : {A : Type 0} (m : Resolving A) (P Q : Relation A) → Step m P
    → ((p : FunctionScope) (a : A) (q : FunctionScope) → P (entering p) a q → Q p a (behind_block p q)) → Step (in_block m) Q
step_block {A} m P Q h within = record { from = λ p a q e. go p a q (m (entering p)) refl e }
  where
    go : (p : FunctionScope) (a : A) (q : FunctionScope) → (o : Option (A × FunctionScope)) → m (entering p) ≡ o → closed p o ≡ Some (a, q) → Q p a q
    go p a q None g e = cc
    go p a q (Some r) g e = comes (Q p) r.0 a (behind_block p r.1) q e (within p r.0 r.1 (h.from (entering p) r.0 r.1 g))

pub step_declare : (x : Identifier) (t : DeclaredType) (P : Relation (Unit {0})) → ((p : FunctionScope) → P p tt (declaring x t p)) → Step (declare x t) P
step_declare x t P h = record { from = λ p a q e. comes (P p) tt a (declaring x t p) q e (h p) }

pub step_next : (P : Relation ℕ) → ((p : FunctionScope) → P p (length p.slots) p) → Step next_slot P
step_next P h = record { from = λ p a q e. comes (P p) (length p.slots) a p q e (h p) }

pub step_as : {A : Type 0} (m : Resolving A) (P Q : Relation A) → Step m P → ((p : FunctionScope) (a : A) (q : FunctionScope) → P p a q → Q p a q) → Step m Q
step_as m P Q h f = record { from = λ p a q e. f p a q (h.from p a q e) }
