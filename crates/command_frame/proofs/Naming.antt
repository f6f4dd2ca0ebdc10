-- A stop that names one path names one of a longer list.
use Rattle.std.proofs.Common.{◌≡◌, ℕ, List, [], ◌∷◌, refl, ap, sym, ◌∙◌, arith, zero, suc, Contains, string_bytes}
use Rattle.sc_text.specs.Fault.{file_line}
use Rattle.command_frame.specs.declared.stop.Stop.{Stop}
use Rattle.command_frame.specs.Reads.{IsLineOf, StopNames}

-- what a list of one path contains is that path
only_one : (p q : List ℕ) → Contains (p ∷ []) q → q ≡ p
only_one p q (zero, lt, is) = sym is
only_one p q (suc k, lt, is) = absurd (omega arith)

line_among : (p : List ℕ) (ps : List (List ℕ)) (line : List ℕ) → Contains ps p → IsLineOf (p ∷ []) line → IsLineOf ps line
line_among p ps line among (q, one, is) = (p, among, is ∙ ap file_line (only_one p q one))

pub names_among : (p : List ℕ) (ps : List (List ℕ)) (stop : Stop) → Contains ps p → StopNames (p ∷ []) stop → StopNames ps stop
names_among p ps stop among names = record { named = λ line e. line_among p ps (string_bytes line) among (names.named line e) }

contains_later : (p q : List ℕ) (ps : List (List ℕ)) → Contains ps q → Contains (p ∷ ps) q
contains_later p q ps (k, lt, is) = (suc k, omega arith, is)

-- of a list the first path, and those after it
pub names_first : (p : List ℕ) (ps : List (List ℕ)) (stop : Stop) → StopNames (p ∷ []) stop → StopNames (p ∷ ps) stop
names_first p ps stop names = names_among p (p ∷ ps) stop (zero, omega arith, refl) names

pub names_later : (p : List ℕ) (ps : List (List ℕ)) (stop : Stop) → StopNames ps stop → StopNames (p ∷ ps) stop
names_later p ps stop names = record {
  named = λ line e. let (q, among, is) = names.named line e in (q, contains_later p q ps among, is);
}
