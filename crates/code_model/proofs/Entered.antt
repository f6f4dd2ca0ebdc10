-- What stands in the registers where a function begins.
use Rattle.std.proofs.Common.{◌≡◌, ℕ, zero, suc, ◌+◌, ◌<◌, List, [], ◌∷◌, ◌++◌, length, Option, Some, None, Bool, true, false, refl, ap, ◌∙◌}
use Rattle.std.proofs.Common.{arith}
use Rattle.std.specs.Prelude.{slice_get, map}
use Rattle.program_trees.specs.declared.expression.DataType.{DataType}
use Rattle.program_trees.specs.declared.expression.DataType.TheVariants.{Uint64, Int64}
use Rattle.program_trees.specs.declared.expression.DataType.TheVariants as datatype
use Rattle.program_trees.specs.declared.kinds.Shape.{Shape}
use Rattle.program_trees.specs.declared.kinds.Slot.{Slot}
use Rattle.program_trees.specs.TypedPrograms.{TypedFunctionTree}
use Rattle.reached_instances.specs.declared.instance.BoundDomain.{BoundDomain}
use Rattle.reached_instances.specs.Domains.{domain_under, slot_domain}
use Rattle.blind_evaluation.specs.Values.{Value, never_stored}
use Rattle.blind_evaluation.specs.Evaluation.{Frame, is_private, begins, entered, place_in}
use Rattle.bytecode.specs.declared.kind.Kind.{Kind}
use Rattle.code_model.specs.Machine.{begun, filled_with}
use Rattle.code_model.specs.Kinds.{slot_kind, rows_kinds}
use Rattle.code_model.specs.Statements.{shape_number, default_kinds, defaults_behind, statements_depth}
use Rattle.code_model.specs.Programs.{last_kinds}
use Rattle.code_model.proofs.Gives.{IsSecret}
use Rattle.code_model.proofs.Near.{Holds}
use Rattle.code_model.proofs.Expressions.{ArgumentsFit}

-- ---- SLOTS

begun_same : (b : List BoundDomain) (ss : List Slot) (rest : List Kind) (k : ℕ) → k < length ss → begun (slice_get (map (slot_kind b) ss ++ rest) k) ≡ begins
    b (slice_get ss k)
begun_same b [] rest k l = absurd (omega arith)
begun_same b (s ∷ ss) rest zero l = refl
begun_same b (s ∷ ss) rest (suc k) l = begun_same b ss rest k (omega arith)

filled_same : (b : List BoundDomain) (ss : List Slot) (rest : List Kind) (xs : List Value) (k : ℕ) → k < length ss → filled_with
    (map (slot_kind b) ss ++ rest) xs k ≡ entered b ss xs k
filled_same b ss rest [] k l = begun_same b ss rest k l
filled_same b ss rest (x ∷ xs) zero l = refl
filled_same b [] rest (x ∷ xs) (suc k) l = absurd (omega arith)
filled_same b (s ∷ ss) rest (x ∷ xs) (suc k) l = filled_same b ss rest xs k (omega arith)

begins_fit : (b : List BoundDomain) (o : Option Slot) → IsSecret (is_private (slot_domain b o)) (begins b o)
begins_fit b None = refl
begins_fit b (Some s) = go (is_private (domain_under b s.domain))
  where
    go : (x : Bool) → IsSecret x (never_stored x s.shape)
    go true = refl
    go false = refl

entered_fit : (b : List BoundDomain) (ss : List Slot) (xs : List Value) → ArgumentsFit b ss xs → (k : ℕ) → IsSecret
    (is_private (slot_domain b (slice_get ss k))) (entered b ss xs k)
entered_fit b ss [] h k = begins_fit b (slice_get ss k)
entered_fit b [] (x ∷ xs) h k = absurd h
entered_fit b (s ∷ ss) (x ∷ xs) h zero = h.0
entered_fit b (s ∷ ss) (x ∷ xs) h (suc k) = entered_fit b ss xs h.1 k

-- ---- DEFAULTS

default_at : (s : Shape) (rest : List Kind) → begun (slice_get (default_kinds ++ rest) (shape_number s)) ≡ never_stored false s
default_at s rest = go s.element s.array
  where
    go : (e : DataType) (a : Bool) → begun (slice_get (default_kinds ++ rest) (shape_number (record { element = e; array = a }))) ≡ never_stored false
        (record { element = e; array = a })
    go Uint64 false = refl
    go Uint64 true = refl
    go Int64 false = refl
    go Int64 true = refl
    go datatype.Bool false = refl
    go datatype.Bool true = refl

-- after as many slots as there are
filled_behind : (b : List BoundDomain) (ss : List Slot) (rest : List Kind) (xs : List Value) (k : ℕ) → ArgumentsFit b ss xs → filled_with
    (map (slot_kind b) ss ++ rest) xs (length ss + k) ≡ begun (slice_get rest k)
filled_behind b [] rest [] k fit = let e : length {A = Slot} [] + k ≡ k = omega arith in ap (λ z. begun (slice_get rest z)) e
filled_behind b [] rest (x ∷ xs) k fit = absurd fit
filled_behind b (s ∷ ss) rest [] k fit =
    let e : length (s ∷ ss) + k ≡ suc (length ss + k) = omega arith in
    ap (λ z. filled_with (map (slot_kind b) (s ∷ ss) ++ rest) [] z) e ∙ filled_behind b ss rest [] k tt
filled_behind b (s ∷ ss) rest (x ∷ xs) k fit =
    let e : length (s ∷ ss) + k ≡ suc (length ss + k) = omega arith in
    ap (λ z. filled_with (map (slot_kind b) (s ∷ ss) ++ rest) (x ∷ xs) z) e ∙ filled_behind b ss rest xs k fit.1

with_defaults : (ss : List Slot) → 0 < length ss → defaults_behind ss ≡ default_kinds
with_defaults [] h = absurd (omega arith)
with_defaults (s ∷ ss) h = refl

pub begins_holding : (fs : List TypedFunctionTree) (f : TypedFunctionTree) (b : List BoundDomain) (xs : List Value) (registers : Frame) → ArgumentsFit b
    f.slots xs
    → ((i : ℕ) → registers i ≡ filled_with (map (slot_kind b) f.slots
    ++ (defaults_behind f.slots ++ (rows_kinds (statements_depth f.body) ++ last_kinds b f.given))) xs i)
    → Holds (place_in fs f b).here (entered b f.slots xs) registers
begins_holding fs f b xs registers fit h =
    let more = rows_kinds (statements_depth f.body) ++ last_kinds b f.given in
    record {
      agree = λ i l. h i ∙ filled_same b f.slots (defaults_behind f.slots ++ more) xs i l;
      fits = entered_fit b f.slots xs fit;
      defaults = λ s z. h (length f.slots + shape_number s) ∙ filled_behind b f.slots (defaults_behind f.slots ++ more) xs (shape_number s) fit ∙ ap
          (λ ks. begun (slice_get (ks ++ more) (shape_number s))) (with_defaults f.slots z) ∙ default_at s more;
    }
