-- Places after more and more bytes.
use Rattle.std.proofs.Common.{◌≡◌, ℕ, ◌+◌, ◌-◌, ◌≤◌, List, [], ◌∷◌, ◌++◌, refl, sym, ap, ◌∙◌, append_assoc, append-nil, length, arith, Bool, true}
use Rattle.std.proofs.Common.{false, cond, length-drop}
use Rattle.std.specs.Prelude.{not}
use Rattle.std.specs.List.{fold, count_by, suffix_len, prefix_len}
use Rattle.std.proofs.lemmas.List.{reverse-append}
use Rattle.std.proofs.lemmas.List.Sums.{count_by-le-length, suffix_len-le-length, fold-append}
use Rattle.sc_text.specs.declared.span.Span.{Span}
use Rattle.secrec_lexer.specs.Bytes.{is_newline}
use Rattle.secrec_lexer.specs.Places.{place_behind, next_place}

-- the column is counted back from the end
column_is : (bytes : List ℕ) → (place_behind bytes).column ≡ 1 + suffix_len (λ byte. not (is_newline byte)) bytes
column_is bytes =
    let p : ℕ → Bool = λ byte. not (is_newline byte) in
    omega (arith, length-drop (length bytes - suffix_len p bytes) bytes, suffix_len-le-length p bytes)

count-push : (before : List ℕ) (byte : ℕ) → count_by is_newline (before ++ byte ∷ []) ≡ count_by is_newline before + cond (is_newline byte) 1 0
count-push before byte = fold-append (λ n x. n + cond (is_newline x) 1 0) 0 before (byte ∷ [])

suffix-push : (before : List ℕ) (byte : ℕ)
    → suffix_len (λ b. not (is_newline b)) (before ++ byte ∷ []) ≡ cond (not (is_newline byte)) (1 + suffix_len (λ b. not (is_newline b)) before) 0
suffix-push before byte = ap (prefix_len (λ b. not (is_newline b))) (reverse-append before (byte ∷ []))

span_is : (place : Span) (line column : ℕ) → place.line ≡ line → place.column ≡ column → place ≡ record { line = line; column = column }
span_is place line column f g =
    let span : ℕ → ℕ → Span = λ l c. record { line = l; column = c } in
    ap (λ l. span l place.column) f ∙ ap (span line) g

-- the place after one byte more
pub place_behind-push : (before : List ℕ) (byte : ℕ) → place_behind (before ++ byte ∷ []) ≡ next_place (place_behind before) byte
place_behind-push before byte = go (is_newline byte) refl
  where
    go : (test : Bool) → is_newline byte ≡ test
        → place_behind (before ++ byte ∷ [])
        ≡ cond test (record { line = (place_behind before).line + 1; column = 1 })
        (record { line = (place_behind before).line; column = (place_behind before).column + 1 })
    go true e =
        let lines = rw e at (count-push before byte) in
        let columns = rw e at (suffix-push before byte) in
        span_is (place_behind (before ++ byte ∷ [])) ((place_behind before).line + 1) 1 (omega arith) (omega (arith, column_is (before ++ byte ∷ [])))
    go false e =
        let lines = rw e at (count-push before byte) in
        let columns = rw e at (suffix-push before byte) in
        span_is (place_behind (before ++ byte ∷ [])) (place_behind before).line ((place_behind before).column + 1) (omega arith)
        (omega (arith, column_is (before ++ byte ∷ []), column_is before))

-- the place after more bytes
pub place_behind-append : (before bytes : List ℕ) → place_behind (before ++ bytes) ≡ fold next_place (place_behind before) bytes
place_behind-append before [] = ap place_behind (append-nil before)
place_behind-append before (byte ∷ more) =
    ap place_behind (sym (append_assoc before (byte ∷ []) more))
    ∙ place_behind-append (before ++ byte ∷ []) more
    ∙ ap (λ place. fold next_place place more) (place_behind-push before byte)

-- no line and no column is above the number of bytes by more than one
pub line-le : (bytes : List ℕ) → (place_behind bytes).line ≤ 1 + length bytes
line-le bytes = omega (arith, count_by-le-length is_newline bytes)

pub column-le : (bytes : List ℕ) → (place_behind bytes).column ≤ 1 + length bytes
column-le bytes = omega (arith, length-drop (length bytes - suffix_len (λ b. not (is_newline b)) bytes) bytes)
