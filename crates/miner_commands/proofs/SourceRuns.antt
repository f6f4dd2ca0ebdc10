-- Runs that draw their tapes from a source, and those whose source tells its words.
use Rattle.std.proofs.Common.{◌≡◌, ℕ, List, true, Result, Ok, Err, sym, subst}
use Rattle.std.specs.Prelude.{IfErr}
use Rattle.outside.specs.Tapes.{TapesState}
use Rattle.protocol_model.specs.Network.{Delivery}
use Rattle.tape_file.specs.Tapes.{FourTapes}
use Rattle.tape_sources.specs.Parties.{four_of}
use Rattle.program_trees.specs.TypedPrograms.{TypedProgramTree}
use Rattle.value_file.specs.declared.inputs.Entry.{Entry}
use Rattle.view_model.specs.TapeMaps.{AreTapes}
use Rattle.counted_net.specs.declared.delivery.DeliveryErr.{DeliveryErr}
use Rattle.counted_net.specs.declared.delivery.DeliveryErr.TheVariants.{Memory}
use Rattle.viewed_run.specs.CourseErr.{CourseErr}
use Rattle.viewed_run.specs.CourseErr.TheVariants as fault
use Rattle.viewed_run.specs.Sources.{IsCause, RunsFrom}
use Rattle.viewed_run.proofs.Sources.{runs_as}
use Rattle.viewed_run.specs.Deliveries.{IsOrRefused, IsRefusedOf}

-- ---- of a source

module _ (p : TypedProgramTree) (entries : List Entry) (budget : ℕ) (given : Delivery) where
  -- an error is the same, whatever was to come
  error_so : {A B : Type 0} (t : FourTapes) (Q : A → Type 0) (R : B → Type 0) (e : CourseErr) → IsOrRefused p entries t budget given Q (Err e)
      → IsOrRefused p entries t budget given R (Err e)
  error_so t Q R (fault.Delivery e) h = h
  error_so t Q R fault.TapeFault h = tt

  module _ (a b : TapesState) where
    pub refused_on : {A B : Type 0} (Q : FourTapes → A → Type 0) (R : FourTapes → B → Type 0) (e : CourseErr)
        → RunsFrom a b {A = A} entries (Err e) (λ t. IsOrRefused p entries t budget given (Q t) (Err e))
        → RunsFrom a b {A = B} entries (Err e) (λ t. IsOrRefused p entries t budget given (R t) (Err e))
    refused_on {A} {B} Q R e h =
        runs_as a b entries (Err e) (Err e) (λ t. IsOrRefused p entries t budget given (Q t) (Err e))
        (λ t. IsOrRefused p entries t budget given (R t) (Err e)) h h.cause (λ t k. error_so t (Q t) (R t) e k)

    -- memory ran out after it
    pub memory_after : {A B : Type 0} (x : A) (Q : FourTapes → Type 0) (R : FourTapes → B → Type 0) → RunsFrom a b entries (Ok x) Q
        → RunsFrom a b {A = B} entries (Err (fault.Delivery Memory)) (λ t. IsOrRefused p entries t budget given (R t) (Err (fault.Delivery Memory)))
    memory_after {A} {B} x Q R h =
        runs_as a b entries (Ok x) (Err (fault.Delivery Memory)) Q
        (λ t. IsOrRefused p entries t budget given (R t) (Err (fault.Delivery Memory))) h tt (λ t k. tt)

    -- a plan is made of it
    pub done_after : {A B : Type 0} (x : A) (y : B) (Q : FourTapes → A → Type 0) (R : FourTapes → B → Type 0)
        → RunsFrom a b entries (Ok x) (λ t. IsOrRefused p entries t budget given (Q t) (Ok x)) → ((t : FourTapes) → Q t x → R t y)
        → RunsFrom a b entries (Ok y) (λ t. IsOrRefused p entries t budget given (R t) (Ok y))
    done_after x y Q R h step =
        runs_as a b entries (Ok x) (Ok y) (λ t. IsOrRefused p entries t budget given (Q t) (Ok x))
        (λ t. IsOrRefused p entries t budget given (R t) (Ok y)) h tt step

-- ---- of a source that tells its words

module _ {A : Type 0} (entries : List Entry) (a b : TapesState) (told : a.told ≡ true) (tapes : FourTapes) (is : four_of a ≡ tapes) where
  -- what is said of its tapes
  pub told_so : (r : Result A CourseErr) (Q : FourTapes → Type 0) → RunsFrom a b entries r Q → AreTapes tapes → Q tapes
  told_so r Q runs words = subst Q is (runs.told told (subst AreTapes (sym is) words))

  pub told_refused : (p : TypedProgramTree) (budget : ℕ) (given : Delivery) (R : FourTapes → A → Type 0) (e : CourseErr) (refusal : DeliveryErr)
      → RunsFrom a b {A = A} entries (Err e) (λ t. IsOrRefused p entries t budget given (R t) (Err e)) → AreTapes tapes
      → e ≡ fault.Delivery refusal → IsRefusedOf p entries tapes budget given refusal
  told_refused p budget given R e refusal runs words same =
      subst (λ (x : CourseErr). IsOrRefused p entries tapes budget given (R tapes) (Err x)) same
      (told_so (Err e) (λ t. IsOrRefused p entries t budget given (R t) (Err e)) runs words)

-- a steady one can be read
pub never_faults : {A : Type 0} (entries : List Entry) (a b : TapesState) (steady : a.steady ≡ true) (e : CourseErr) (Q : FourTapes → Type 0)
    → RunsFrom a b {A = A} entries (Err e) Q → e ≡ fault.TapeFault → ⊥
never_faults entries a b steady e Q runs fault = (subst (IsCause a b) fault runs.cause).unsteady steady
