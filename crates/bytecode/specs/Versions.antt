-- By which rules a version of code is laid out.
use Rattle.std.specs.Prelude.{ℕ, Bool, not, ◌&&◌, ◌==◌, nat_lt, List, slice_get, unwrap_or}
use Rattle.bytecode.specs.declared.version.CodeVersion.{CodeVersion}
use Rattle.bytecode.specs.declared.version.CodeVersion.TheVariants.{First, Second}

-- the byte that stands for it after the letters
abbrev pub version_byte : CodeVersion → ℕ
version_byte First = 1
version_byte Second = 2

-- the tags are below this number; the first version has no look-ups
abbrev pub tag_limit : CodeVersion → ℕ
tag_limit First = 25
tag_limit Second = 26

-- the bytes with which instructions begin
abbrev pub is_tag : CodeVersion → ℕ → Bool
is_tag version tag = nat_lt 0 tag && nat_lt tag (tag_limit version) && not (tag == 0x15)

-- how many arguments a call of this function has by the heads: as many as it has parameters, none where there is no such function
abbrev pub arguments_at : List ℕ → ℕ → ℕ
arguments_at parameters f = unwrap_or (slice_get parameters f) 0

-- how the number of a call's arguments is known: the heads of the functions say it, or it stands before the arguments
pub data Counting : Type 0 where
  ByHeads : (parameters : List ℕ) → Counting
  Counted : Counting

-- where the functions have so many parameters
abbrev pub counting : CodeVersion → List ℕ → Counting
counting First parameters = ByHeads parameters
counting Second parameters = Counted

-- the version in which it is known so
abbrev pub version_of : Counting → CodeVersion
version_of (ByHeads parameters) = First
version_of Counted = Second
