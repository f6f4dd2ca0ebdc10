-- Cited by private functions alone: no contract of another crate rests on it.
-- Instructions by their tags, and which operands stand after a tag. A call's arguments are read by themselves.
use Rattle.std.specs.Prelude.{ℕ, Bool, true, false}
use Rattle.bytecode.specs.declared.tag.Tag.{Tag}
use Rattle.bytecode.specs.declared.tag.Tag.TheVariants as tags
use Rattle.bytecode.specs.Raw.{Raw, Literal, Move, Store, Binary, Not, Cast, Classify, Fill, At, Put, Size, Cat, Sum, Bits, Lookup, Declassify, Argument}
use Rattle.bytecode.specs.Raw.{Publish, Assert, Branch, Jump, Return, ReturnNone}
use Rattle.bytecode.specs.Layouts.{Layout, Makes, Field, BadTag, behind}
use Rattle.bytecode.specs.Decoded.{any, is_operator, is_truth}
use Rattle.bytecode.specs.inner.Reading.{optional}

abbrev pub tag_byte : Tag → ℕ
tag_byte tags.Literal = 0x01
tag_byte tags.Move = 0x02
tag_byte tags.Store = 0x03
tag_byte tags.Binary = 0x04
tag_byte tags.Not = 0x05
tag_byte tags.Cast = 0x06
tag_byte tags.Classify = 0x07
tag_byte tags.Fill = 0x08
tag_byte tags.At = 0x09
tag_byte tags.Put = 0x0a
tag_byte tags.Size = 0x0b
tag_byte tags.Cat = 0x0c
tag_byte tags.Sum = 0x0d
tag_byte tags.Bits = 0x0e
tag_byte tags.Declassify = 0x0f
tag_byte tags.Argument = 0x10
tag_byte tags.Publish = 0x11
tag_byte tags.Assert = 0x12
tag_byte tags.Branch = 0x13
tag_byte tags.Jump = 0x14
tag_byte tags.Call = 0x16
tag_byte tags.Return = 0x17
tag_byte tags.ReturnNone = 0x18
tag_byte tags.Lookup = 0x19

abbrev pub has_operator : Tag → Bool
has_operator tags.Literal = false
has_operator tags.Move = false
has_operator tags.Store = false
has_operator tags.Binary = true
has_operator tags.Not = false
has_operator tags.Cast = false
has_operator tags.Classify = false
has_operator tags.Fill = false
has_operator tags.At = false
has_operator tags.Put = false
has_operator tags.Size = false
has_operator tags.Cat = false
has_operator tags.Sum = false
has_operator tags.Bits = false
has_operator tags.Lookup = false
has_operator tags.Declassify = false
has_operator tags.Argument = false
has_operator tags.Publish = false
has_operator tags.Assert = false
has_operator tags.Branch = false
has_operator tags.Jump = false
has_operator tags.Call = false
has_operator tags.Return = false
has_operator tags.ReturnNone = false

abbrev pub has_first : Tag → Bool
has_first tags.Literal = true
has_first tags.Move = true
has_first tags.Store = true
has_first tags.Binary = true
has_first tags.Not = true
has_first tags.Cast = true
has_first tags.Classify = true
has_first tags.Fill = true
has_first tags.At = true
has_first tags.Put = true
has_first tags.Size = true
has_first tags.Cat = true
has_first tags.Sum = true
has_first tags.Bits = true
has_first tags.Lookup = true
has_first tags.Declassify = true
has_first tags.Argument = true
has_first tags.Publish = true
has_first tags.Assert = true
has_first tags.Branch = true
has_first tags.Jump = true
has_first tags.Call = false
has_first tags.Return = true
has_first tags.ReturnNone = false

abbrev pub has_truth : Tag → Bool
has_truth tags.Literal = false
has_truth tags.Move = false
has_truth tags.Store = false
has_truth tags.Binary = false
has_truth tags.Not = false
has_truth tags.Cast = false
has_truth tags.Classify = false
has_truth tags.Fill = false
has_truth tags.At = false
has_truth tags.Put = false
has_truth tags.Size = false
has_truth tags.Cat = false
has_truth tags.Sum = false
has_truth tags.Bits = false
has_truth tags.Lookup = false
has_truth tags.Declassify = false
has_truth tags.Argument = false
has_truth tags.Publish = false
has_truth tags.Assert = false
has_truth tags.Branch = true
has_truth tags.Jump = false
has_truth tags.Call = false
has_truth tags.Return = false
has_truth tags.ReturnNone = false

abbrev pub has_second : Tag → Bool
has_second tags.Literal = false
has_second tags.Move = true
has_second tags.Store = true
has_second tags.Binary = true
has_second tags.Not = true
has_second tags.Cast = true
has_second tags.Classify = true
has_second tags.Fill = true
has_second tags.At = true
has_second tags.Put = true
has_second tags.Size = true
has_second tags.Cat = true
has_second tags.Sum = true
has_second tags.Bits = true
has_second tags.Lookup = true
has_second tags.Declassify = true
has_second tags.Argument = true
has_second tags.Publish = true
has_second tags.Assert = false
has_second tags.Branch = true
has_second tags.Jump = false
has_second tags.Call = false
has_second tags.Return = false
has_second tags.ReturnNone = false

abbrev pub has_third : Tag → Bool
has_third tags.Literal = false
has_third tags.Move = false
has_third tags.Store = false
has_third tags.Binary = true
has_third tags.Not = false
has_third tags.Cast = false
has_third tags.Classify = false
has_third tags.Fill = true
has_third tags.At = true
has_third tags.Put = true
has_third tags.Size = false
has_third tags.Cat = true
has_third tags.Sum = false
has_third tags.Bits = false
has_third tags.Lookup = true
has_third tags.Declassify = false
has_third tags.Argument = false
has_third tags.Publish = false
has_third tags.Assert = false
has_third tags.Branch = false
has_third tags.Jump = false
has_third tags.Call = false
has_third tags.Return = false
has_third tags.ReturnNone = false

abbrev pub has_line : Tag → Bool
has_line tags.Literal = false
has_line tags.Move = false
has_line tags.Store = false
has_line tags.Binary = true
has_line tags.Not = false
has_line tags.Cast = false
has_line tags.Classify = false
has_line tags.Fill = true
has_line tags.At = true
has_line tags.Put = true
has_line tags.Size = false
has_line tags.Cat = true
has_line tags.Sum = false
has_line tags.Bits = true
has_line tags.Lookup = true
has_line tags.Declassify = false
has_line tags.Argument = true
has_line tags.Publish = false
has_line tags.Assert = true
has_line tags.Branch = false
has_line tags.Jump = false
has_line tags.Call = false
has_line tags.Return = false
has_line tags.ReturnNone = false

abbrev pub has_word : Tag → Bool
has_word tags.Literal = true
has_word tags.Move = false
has_word tags.Store = false
has_word tags.Binary = false
has_word tags.Not = false
has_word tags.Cast = false
has_word tags.Classify = false
has_word tags.Fill = false
has_word tags.At = false
has_word tags.Put = false
has_word tags.Size = false
has_word tags.Cat = false
has_word tags.Sum = false
has_word tags.Bits = false
has_word tags.Lookup = false
has_word tags.Declassify = false
has_word tags.Argument = false
has_word tags.Publish = false
has_word tags.Assert = false
has_word tags.Branch = false
has_word tags.Jump = false
has_word tags.Call = false
has_word tags.Return = false
has_word tags.ReturnNone = false

-- the instruction of a tag with these operands
abbrev pub made : Tag → (operator first truth second third line word : ℕ) → Raw
made tags.Literal o a v b c line x = Literal a x
made tags.Move o a v b c line x = Move a b
made tags.Store o a v b c line x = Store a b
made tags.Binary o a v b c line x = Binary o a b c line
made tags.Not o a v b c line x = Not a b
made tags.Cast o a v b c line x = Cast a b
made tags.Classify o a v b c line x = Classify a b
made tags.Fill o a v b c line x = Fill a b c line
made tags.At o a v b c line x = At a b c line
made tags.Put o a v b c line x = Put a b c line
made tags.Size o a v b c line x = Size a b
made tags.Cat o a v b c line x = Cat a b c line
made tags.Sum o a v b c line x = Sum a b
made tags.Bits o a v b c line x = Bits a b line
made tags.Lookup o a v b c line x = Lookup a b c line
made tags.Declassify o a v b c line x = Declassify a b
made tags.Argument o a v b c line x = Argument a b line
made tags.Publish o a v b c line x = Publish a b
made tags.Assert o a v b c line x = Assert a line
made tags.Branch o a v b c line x = Branch a v b
made tags.Jump o a v b c line x = Jump a
made tags.Call o a v b c line x = ReturnNone
made tags.Return o a v b c line x = Return a
made tags.ReturnNone o a v b c line x = ReturnNone

-- the operands that a tag has, in the order in which they stand
abbrev pub operands_of : Tag → Layout Raw
operands_of tag =
    behind (optional (has_operator tag) (Field BadTag 1 is_operator Makes)) (λ o.
    behind (optional (has_first tag) (Field BadTag 2 any Makes)) (λ a.
    behind (optional (has_truth tag) (Field BadTag 1 is_truth Makes)) (λ v.
    behind (optional (has_second tag) (Field BadTag 2 any Makes)) (λ b.
    behind (optional (has_third tag) (Field BadTag 2 any Makes)) (λ c.
    behind (optional (has_line tag) (Field BadTag 4 any Makes)) (λ line.
    behind (optional (has_word tag) (Field BadTag 8 any Makes)) (λ x. Makes (made tag o a v b c line x))))))))
