use Rattle.std.proofs.Common.{◌≡◌, ◌+◌, ◌-◌, ◌<◌, ◌^◌, length, take}
use Rattle.std.specs.List.{fold}
use Rattle.secrec_lexer.specs.Places.{next_place}
use Rattle.secrec_lexer.proofs.place.moved.Given as goal

abbrev pub invariant-loop-byte : goal.invariant-loop-byte
invariant-loop-byte l = record {
  place : l.moved ≡ fold next_place l.initial.moved (take l.byte-index l.bytes);
  lines : l.moved.line + (length l.bytes - l.byte-index) < 2 ^ 32;
  columns : l.moved.column + (length l.bytes - l.byte-index) < 2 ^ 32;
}
