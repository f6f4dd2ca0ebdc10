-- Machines that are alike stay alike.
use Rattle.std.proofs.Common.{◌≡◌, ℕ, zero, suc, ◌+◌, List, [], ◌∷◌, Option, Some, None, Bool, true, false, cond, refl, ap, ◌∙◌, subst}
use Rattle.std.specs.Prelude.{nat_eq, map, slice_get}
use Rattle.std.specs.List.{AllZip}
use Rattle.program_trees.specs.declared.kinds.Shape.{Shape}
use Rattle.language_model.specs.Values.{Secrecy, Plain, Private, Value, plain, size}
use Rattle.language_model.specs.Evaluation.{Frame, put, array_elements, either}
use Rattle.bytecode.specs.declared.kind.Kind.{Kind}
use Rattle.verified_code.specs.Steps.{Function}
use Rattle.gate_laws.specs.Machine.{Caller, Machine, at, next, values_at, begun, behind_first, filled_with, kinds_of, entering, received, start}
use Rattle.blind_evaluation.proofs.AlikeValues.{LikeValues, plains, unmade, made, like_size, like_shape}
use Rattle.code_places.specs.Twins.{LikeWords, LikeValue, LikeRegisters, LikeCaller, LikeMachine}

-- ---- VALUES

to_like : {v v' : Value} → LikeValue v v' → LikeValues v v'
to_like {v = v} {v' = v'} h =
    subst (λ k. LikeValues v (record { secrecy = k; shape = v'.shape; words = v'.words })) h.secrecy
    (subst (λ t. LikeValues v (record { secrecy = v.secrecy; shape = t; words = v'.words })) h.shape (go v.secrecy v.words v'.words h.words))
  where
    go :
        (k : Secrecy) (words others : List ℕ) → LikeWords k words others →
        LikeValues (record { secrecy = k; shape = v.shape; words = words }) (record { secrecy = k; shape = v.shape; words = others })
    go Plain words others e = subst (λ z. LikeValues (plain v.shape words) (plain v.shape z)) e (plains v.shape words)
    go (Private None) words others e =
        subst
        (λ z. LikeValues (record { secrecy = Private None; shape = v.shape; words = words }) (record { secrecy = Private None; shape = v.shape; words = z }))
        e (unmade v.shape words)
    go (Private (Some k)) words others e = made v.shape k words others e

pub from_like : {v v' : Value} → LikeValues v v' → LikeValue v v'
from_like (plains shape words) = record { secrecy = refl; shape = refl; words = refl }
from_like (unmade shape words) = record { secrecy = refl; shape = refl; words = refl }
from_like (made shape k words words' e) = record { secrecy = refl; shape = refl; words = e }

same_words : (k : Secrecy) (words : List ℕ) → LikeWords k words words
same_words Plain words = refl
same_words (Private None) words = refl
same_words (Private (Some k)) words = refl

pub same_value : (v : Value) → LikeValue v v
same_value v = record { secrecy = refl; shape = refl; words = same_words v.secrecy v.words }

-- ---- REGISTERS

module _ {registers registers' : Frame} (like : LikeRegisters registers registers') where
  pub like_at : (r : ℕ) → LikeValues (registers r) (registers' r)
  like_at r = to_like (like r)

  pub size_at : (r : ℕ) → size (registers r) ≡ size (registers' r)
  size_at r = like_size (like_at r)

  put_like : (d : ℕ) {v v' : Value} → LikeValue v v' → LikeRegisters (put d v registers) (put d v' registers')
  put_like d {v = v} {v' = v'} h r = go (nat_eq r d)
    where
      go : (b : Bool) → LikeValue (cond b v (registers r)) (cond b v' (registers' r))
      go true = h
      go false = like r

  filled_like :
      (kinds : List Kind) (rs : List ℕ) →
      LikeRegisters (filled_with kinds (values_at registers rs)) (filled_with kinds (values_at registers' rs))
  filled_like kinds [] k = same_value (begun (slice_get kinds k))
  filled_like kinds (r ∷ rs) zero = like r
  filled_like kinds (r ∷ rs) (suc k) = filled_like (behind_first kinds) rs k

  pub like_elements : (rs : List ℕ) → map array_elements (values_at registers rs) ≡ map array_elements (values_at registers' rs)
  like_elements [] = refl
  like_elements (r ∷ rs) =
      ap (λ n. n ∷ map array_elements (values_at registers rs)) (elements (like_at r))
      ∙ ap (λ ns. array_elements (registers' r) ∷ ns) (like_elements rs)
    where
      elements : {v v' : Value} → LikeValues v v' → array_elements v ≡ array_elements v'
      elements {v = v} {v' = v'} l =
          ap (λ n. either v.shape.array n 0) (like_size l) ∙ ap (λ (s : Shape). either s.array (size v') 0) (like_shape l)

-- ---- MACHINES

pub next_like : (d : ℕ) {v v' : Value} {m m' : Machine} → LikeValues v v' → LikeMachine m m' → LikeMachine (next d v m) (next d v' m')
next_like d h l =
    record { steps = l.steps; pc = ap (λ n. n + 1) l.pc; registers = put_like l.registers d (from_like h); stack = l.stack }

pub at_like : {pc pc' : ℕ} {m m' : Machine} → pc ≡ pc' → LikeMachine m m' → LikeMachine (at pc m) (at pc' m')
at_like e l = record { steps = l.steps; pc = e; registers = l.registers; stack = l.stack }

pub behind_like : {m m' : Machine} → LikeMachine m m' → LikeMachine (at (m.pc + 1) m) (at (m'.pc + 1) m')
behind_like l = at_like (ap (λ n. n + 1) l.pc) l

pub entering_like :
    (f : Option Function) (d : Option ℕ) (rs : List ℕ) {m m' : Machine} → LikeMachine m m' →
    LikeMachine (entering f d (values_at m.registers rs) m) (entering f d (values_at m'.registers rs) m')
entering_like f d rs l =
    record {
      steps = refl;
      pc = refl;
      registers = filled_like l.registers (kinds_of f) rs;
      stack = (record { steps = l.steps; pc = ap (λ n. n + 1) l.pc; registers = l.registers; result = refl }, l.stack);
    }

received_like :
    (d : Option ℕ) {v v' : Value} {registers registers' : Frame} → LikeValue v v' → LikeRegisters registers registers' →
    LikeRegisters (received d v registers) (received d v' registers')
received_like None h like = like
received_like (Some d) h like = put_like like d h

-- where a call comes back to
abbrev pub returned : Caller → List Caller → Value → Machine
returned c cs v = record { steps = c.steps; pc = c.pc; registers = received c.result v c.registers; stack = cs }

pub returned_like :
    {c c' : Caller} {cs cs' : List Caller} {v v' : Value} → LikeCaller c c' → AllZip LikeCaller cs cs' → LikeValues v v' →
    LikeMachine (returned c cs v) (returned c' cs' v')
returned_like {c = c} {c' = c'} {v = v} {v' = v'} l ls h =
    record {
      steps = l.steps;
      pc = l.pc;
      registers = subst (λ d. LikeRegisters (received c.result v c.registers) (received d v' c'.registers)) l.result
          (received_like c.result (from_like h) l.registers);
      stack = ls;
    }

pub start_like : (c : List Function) → LikeMachine (start c) (start c)
start_like c = record { steps = refl; pc = refl; registers = λ r. same_value ((start c).registers r); stack = tt }
