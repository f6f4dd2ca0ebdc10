-- Kinds as bytes: bit 0 is set where private, bit 1 at bool, bit 2 at an array, bit 3 at a number with a sign.
use Rattle.std.specs.Prelude.{ℕ, ◌+◌, ◌/◌, ◌%◌, ◌==◌, ◌&&◌, ◌||◌, nat_lt, Bool, Option, None, Some, if◌then◌else◌}
use Rattle.program_trees.specs.declared.expression.DataType.{DataType}
use Rattle.program_trees.specs.declared.expression.DataType.TheVariants as types
use Rattle.bytecode.specs.declared.kind.Kind.{Kind}
use Rattle.bytecode.specs.declared.version.CodeVersion.{CodeVersion}
use Rattle.bytecode.specs.declared.version.CodeVersion.TheVariants.{First, Second}

abbrev pub element_bit : DataType → ℕ
element_bit types.Uint64 = 0
element_bit types.Int64 = 8
element_bit types.Bool = 2

abbrev pub kind_byte : Kind → ℕ
kind_byte kind = (if kind.secret then 1 else 0) + element_bit kind.element + (if kind.array then 4 else 0)

-- the first version has no numbers with a sign; no kind is both bool and of numbers with a sign
abbrev pub is_kind : CodeVersion → ℕ → Bool
is_kind First byte = nat_lt byte 8
is_kind Second byte = nat_lt byte 10 || (nat_lt 11 byte && nat_lt byte 14)

abbrev pub kind_of : ℕ → Kind
kind_of byte = record {
  secret = byte % 2 == 1;
  element = if byte / 2 % 2 == 1 then types.Bool else if byte / 8 == 1 then types.Int64 else types.Uint64;
  array = byte / 4 % 2 == 1;
}

-- what a function gives back: 255 for nothing
abbrev pub return_byte : Option Kind → ℕ
return_byte None = 255
return_byte (Some kind) = kind_byte kind

abbrev pub is_return : CodeVersion → ℕ → Bool
is_return version byte = is_kind version byte || byte == 255

abbrev pub return_of : ℕ → Option Kind
return_of byte = if byte == 255 then None else Some (kind_of byte)
