-- The two rings: the integers modulo 2^64, and the words with xor as sum and `and` as product.
use Rattle.std.specs.Prelude.{◌+◌, ◌-◌, ◌*◌, ◌^◌, ◌%◌, bit_xor, bit_and}
use Rattle.proto_core.specs.Ring.{Ring}

abbrev pub add_ring : Ring
add_ring =
    record {
      zero = 0;
      one = 1;
      add = λ x y. (x + y) % 2 ^ 64;
      neg = λ x. (2 ^ 64 - x % 2 ^ 64) % 2 ^ 64;
      sub = λ x y. (x + (2 ^ 64 - y % 2 ^ 64)) % 2 ^ 64;
      mul = λ x y. (x * y) % 2 ^ 64;
    }

abbrev pub xor_ring : Ring
xor_ring =
    record {
      zero = 0;
      one = 2 ^ 64 - 1;
      add = λ x y. bit_xor x y % 2 ^ 64;
      neg = λ x. x % 2 ^ 64;
      sub = λ x y. bit_xor x y % 2 ^ 64;
      mul = λ x y. bit_and x y % 2 ^ 64;
    }
