-- The `in` lines of a view: a name and words for each hidden input, in order.
use Rattle.std.specs.Prelude.{ℕ, ◌==◌, ◌&&◌, Bool, false, if◌then◌else◌, List, [], ◌∷◌, length, drop, Option, Some, None}
use Rattle.std.specs.Str.{bytes_eq}
use Rattle.value_file.specs.declared.value.DataType.{DataType}
use Rattle.value_file.specs.declared.value.Shape.{Shape}
use Rattle.value_file.specs.declared.public.PublicValue.{PublicValue}
use Rattle.value_file.specs.declared.public.PublicValue.TheVariants.{Known, Hidden}
use Rattle.value_file.specs.declared.public.PublicEntry.{PublicEntry}
use Rattle.value_file.specs.Values.{size_of}
use Rattle.input_share.specs.Values.{shared_size}
use Rattle.view_text.specs.View.{InputShare}
use Rattle.audit_steps.specs.Places.{one_later}

-- the first of these lines is there, and shows a share of the input of this name, type and shape
abbrev pub is_first_share : (name : List ℕ) → DataType → Shape → List InputShare → Bool
is_first_share name kind shape [] = false
is_first_share name kind shape (s ∷ ss) = bytes_eq s.name name && (length s.words == shared_size kind (size_of shape))

-- a public input has no line; a hidden one has the first of these
abbrev pub share_then : (name : List ℕ) → PublicValue → List InputShare → (List InputShare → Option ℕ) → Option ℕ
share_then name (Known value) shares more = more shares
share_then name (Hidden kind shape) shares more = if is_first_share name kind shape shares then one_later (more (drop 1 shares)) else Some 0

abbrev pub no_more : List InputShare → Option ℕ
no_more [] = None
no_more (s ∷ ss) = Some 0

-- the place of the first line that isn't the next hidden input's; where the last ones are missing, the place after the lines
abbrev pub wrong_share_at : List PublicEntry → List InputShare → Option ℕ
wrong_share_at [] shares = no_more shares
wrong_share_at (e ∷ es) shares = share_then e.name e.value shares (λ rest. wrong_share_at es rest)
