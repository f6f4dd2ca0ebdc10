-- How signs and keywords are spelled.
use Rattle.std.specs.Prelude.{ℕ, ◌==◌, List, [], ◌∷◌, Option, Some, None, codes, if◌then◌else◌}
use Rattle.std.specs.Str.{bytes_eq}
use Rattle.secrec_lexer.specs.declared.sign.Sign.{Sign}
use Rattle.secrec_lexer.specs.declared.sign.Sign.TheVariants as signs

-- the sign that stands in the list where the byte stands in the text
abbrev pub sign_beside : ℕ → List ℕ → List Sign → Option Sign
sign_beside byte [] more = None
sign_beside byte (first ∷ rest) [] = None
sign_beside byte (first ∷ rest) (sign ∷ more) = if byte == first then Some sign else sign_beside byte rest more

-- the sign of this one byte
unfoldable pub single_sign : ℕ → Option Sign
single_sign byte =
    sign_beside byte (codes "()[]{}<>,;:=+-*/%&|^!")
    (signs.LeftParenthesis ∷ signs.RightParenthesis ∷ signs.LeftBracket ∷ signs.RightBracket ∷ signs.LeftBrace ∷ signs.RightBrace
    ∷ signs.Less ∷ signs.Greater ∷ signs.Comma ∷ signs.Semicolon ∷ signs.Colon ∷ signs.Assign
    ∷ signs.Plus ∷ signs.Minus ∷ signs.Star ∷ signs.Slash ∷ signs.Percent
    ∷ signs.Ampersand ∷ signs.Bar ∷ signs.Caret ∷ signs.Exclamation ∷ [])

-- the sign that is this one with `=` after it
abbrev pub with_equals : Sign → Option Sign
with_equals signs.Assign = Some signs.Equal
with_equals signs.Exclamation = Some signs.NotEqual
with_equals signs.Less = Some signs.LessOrEqual
with_equals signs.Greater = Some signs.GreaterOrEqual
with_equals signs.Plus = Some signs.PlusAssign
with_equals signs.Minus = Some signs.MinusAssign
with_equals signs.Star = Some signs.StarAssign
with_equals signs.Ampersand = Some signs.AmpersandAssign
with_equals signs.Bar = Some signs.BarAssign
with_equals signs.Caret = Some signs.CaretAssign
with_equals other = None

-- the sign that is this one written twice, `==` apart
abbrev pub doubled : Sign → Option Sign
doubled signs.Ampersand = Some signs.DoubleAmpersand
doubled signs.Bar = Some signs.DoubleBar
doubled signs.Plus = Some signs.Increment
doubled signs.Minus = Some signs.Decrement
doubled other = None

-- the sign of two bytes that begins with this one, spelled by this byte, if more bytes go on so
abbrev pub longer_sign : Sign → ℕ → List ℕ → Option Sign
longer_sign sign byte [] = None
longer_sign sign byte (next ∷ more) =
    if next == 61 then with_equals sign
    else if next == byte then doubled sign
    else None

-- the sign in the list that is spelled by this word
abbrev pub sign_spelled : List ℕ → List (List ℕ × Sign) → Option Sign
sign_spelled word [] = None
sign_spelled word (entry ∷ more) = if bytes_eq word entry.0 then Some entry.1 else sign_spelled word more

-- the keyword that the word is
unfoldable pub keyword : List ℕ → Option Sign
keyword word = sign_spelled word
    ((codes "import", signs.Import) ∷ (codes "kind", signs.Kind) ∷ (codes "domain", signs.Domain) ∷ (codes "template", signs.Template)
    ∷ (codes "public", signs.Public) ∷ (codes "void", signs.Void) ∷ (codes "uint64", signs.Uint64) ∷ (codes "uint", signs.Uint)
    ∷ (codes "int64", signs.Int64) ∷ (codes "int", signs.Int) ∷ (codes "bool", signs.Bool) ∷ (codes "if", signs.If)
    ∷ (codes "else", signs.Else) ∷ (codes "while", signs.While) ∷ (codes "do", signs.Do) ∷ (codes "for", signs.For)
    ∷ (codes "break", signs.Break) ∷ (codes "continue", signs.Continue) ∷ (codes "return", signs.Return) ∷ (codes "assert", signs.Assert)
    ∷ (codes "true", signs.True) ∷ (codes "false", signs.False) ∷ (codes "argument", signs.Argument) ∷ (codes "publish", signs.Publish)
    ∷ (codes "declassify", signs.Declassify) ∷ [])
