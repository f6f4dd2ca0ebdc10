-- A program to run with two private arrays, for each number.
use Rattle.std.specs.Prelude.{ℕ, ◌+◌, ◌*◌, ◌%◌, ◌^◌, List, [], ◌∷◌, ◌++◌, map, replicate, codes}
use Rattle.std.specs.List.{range_with_len}
use Rattle.byteorder.specs.Endian.{little_bytes}
use Rattle.value_file.specs.declared.inputs.Entry.{Entry}
use Rattle.value_file.specs.declared.value.Domain.TheVariants.{Private}
use Rattle.value_file.specs.declared.value.Value.TheVariants.{Numbers}

-- the program: the sum of the products, and how often the first array is below the second
unfoldable pub load_program : List ℕ
load_program =
    codes "import stdlib; import shared3p; domain p shared3p;\n"
    ++ codes "void main() { p uint64[[1]] a = argument(\"a\"); p uint64[[1]] b = argument(\"b\");\n"
    ++ codes "publish(\"dot\", declassify(sum(a * b))); publish(\"less\", declassify(sum((uint64)(a < b)))); }\n"

-- how many elements each array has
abbrev pub load_count : ℕ → ℕ
load_count number = 1 + number % 600

-- element j of the first array
abbrev pub left_element : ℕ → ℕ → ℕ
left_element number j = j * (number + 1) % 2 ^ 64

-- element j of the second array
abbrev pub right_element : ℕ → ℕ → ℕ
right_element number j = (j + number) % 2 ^ 64

-- a private array of so many elements
abbrev pub private_array : List ℕ → (ℕ → ℕ) → ℕ → Entry
private_array name element count = record {
  name = name;
  domain = Private;
  value = Numbers (map element (range_with_len 0 count));
}

-- the inputs
unfoldable pub load_entries : ℕ → List Entry
load_entries number =
    private_array (codes "a") (left_element number) (load_count number)
    ∷ private_array (codes "b") (right_element number) (load_count number)
    ∷ []

-- the seed of the tapes
unfoldable pub load_seed : ℕ → List ℕ
load_seed number = little_bytes 8 number ++ replicate 24 0
