-- What is no text is neither a number nor a name.
use Rattle.std.proofs.Common.{◌≡◌, ℕ, ◌<◌, ◌≤◌, ◌^◌, List, refl, sym, subst, arith}
use Rattle.std.specs.Prelude.{Option, Some, None}
use Rattle.std.specs.Fmt.{decimal}
use Rattle.std.specs.Str.{IsUtf8}
use Rattle.std.proofs.lemmas.Fmt.{IsAscii-decimal_wide}
use Rattle.std.proofs.lemmas.Str.{IsUtf8-from_ascii}
use Rattle.view_text.specs.Reading.{number_in, word_in}
use Rattle.view_text.proofs.LinesRead.{number_read}

decimal_text : (n : ℕ) → n < 10 ^ 64 → IsUtf8 (decimal n)
decimal_text n h = IsUtf8-from_ascii (decimal n) (IsAscii-decimal_wide n h)

pub no_number : (limit : ℕ) (word : List ℕ) → limit ≤ 10 ^ 64 → (IsUtf8 word → ⊥) → number_in limit word ≡ None
no_number limit word low no_text = by_answer (number_in limit word) refl
  where
    by_answer : (o : Option ℕ) → number_in limit word ≡ o → number_in limit word ≡ None
    by_answer None e = e
    by_answer (Some n) e =
        let read = number_read limit word n e in
        let small : n < limit = read.1 in
        absurd (no_text (subst IsUtf8 (sym read.0) (decimal_text n (omega arith))))

pub no_word : (word : List ℕ) → (IsUtf8 word → ⊥) → None ≡ word_in word
no_word word no_text = sym (no_number (2 ^ 64) word (omega arith) no_text)
