-- How a text is read: by a layout, one number after the other.
use Rattle.std.specs.Prelude.{ℕ, zero, suc, ◌+◌, ◌*◌, List, [], ◌∷◌, Bool, true, false, ◌&&◌, nat_le, Result, Ok, Err}
pub use Rattle.bytecode.specs.declared.fault.FaultKind.{FaultKind}
pub use Rattle.bytecode.specs.declared.fault.FaultKind.TheVariants.{Truncated, BadTag, BadVersion, Trailing}

-- what is laid out: numbers of so many bytes, each of which passes a test, and names; what comes next may depend on them
pub data Layout (A : Type 0) : Type 0 where
  Makes : A → Layout A
  Field : FaultKind → (bytes : ℕ) → (ℕ → Bool) → (ℕ → Layout A) → Layout A
  NameField : (List ℕ → Bool) → (List ℕ → Layout A) → Layout A

-- what was read and the text after it, or the fault and the text from its place on
abbrev pub Read : Type 0 → Type 0
Read A = Result (A × List ℕ) (FaultKind × List ℕ)

abbrev pub carry : {A B : Type 0} → Read A → (A → List ℕ → Read B) → Read B
carry (Ok x) f = f x.0 x.1
carry (Err e) f = Err e

-- the lowest byte first
abbrev pub number : ℕ → List ℕ → Read ℕ
number zero text = Ok (0, text)
number (suc n) [] = Err (Truncated, [])
number (suc n) (b ∷ text) = carry (number n text) (λ x rest. Ok (b + 256 * x, rest))

-- so many bytes as they stand
abbrev pub characters : ℕ → List ℕ → Read (List ℕ)
characters zero text = Ok ([], text)
characters (suc n) [] = Err (Truncated, [])
characters (suc n) (b ∷ text) = carry (characters n text) (λ bs rest. Ok (b ∷ bs, rest))

-- what doesn't pass its test is refused where it begins
abbrev pub passed : {A : Type 0} → Bool → FaultKind → (text : List ℕ) → Read A → Read A
passed true why text r = r
passed false why text r = Err (why, text)

abbrev pub is_name_length : ℕ → Bool
is_name_length n = nat_le 1 n && nat_le n 64

abbrev pub read : {A : Type 0} → Layout A → List ℕ → Read A
read (Makes a) text = Ok (a, text)
read (Field why n test next) text = carry (number n text) (λ x rest. passed (test x) why text (read (next x) rest))
read (NameField test next) text =
    carry (number 1 text) (λ n rest. passed (is_name_length n) BadTag text
    (carry (characters n rest) (λ name left. passed (test name) BadTag text (read (next name) left))))

-- one layout after the other
abbrev pub behind : {A B : Type 0} → Layout A → (A → Layout B) → Layout B
behind (Makes a) next = next a
behind (Field why n test k) next = Field why n test (λ x. behind (k x) next)
behind (NameField test k) next = NameField test (λ name. behind (k name) next)
