-- Where the steps over `in` lines find nothing wrong, the lines are of the public part and their sums of its types.
use Rattle.std.proofs.Common.{◌≡◌, ℕ, zero, suc, ◌+◌, ◌<◌, ◌^◌, ◌==◌, Bool, true}
use Rattle.std.proofs.Common.{false, if◌then◌else◌, List, [], ◌∷◌, All, length, drop, Option, Some, None}
use Rattle.std.proofs.Common.{refl, sym, subst, arith}
use Rattle.std.proofs.lemmas.Bool.{and_parts, eqb-true}
use Rattle.std.proofs.lemmas.Slice.Eq.{bytes_eq-Decides}
use Rattle.std.specs.Prelude.{option_map}
use Rattle.std.specs.Str.{bytes_eq}
use Rattle.value_file.specs.declared.value.DataType.{DataType}
use Rattle.value_file.specs.declared.value.DataType.TheVariants.{Uint64, Int64, Bool as Truths_}
use Rattle.value_file.specs.declared.public.PublicValue.{PublicValue}
use Rattle.value_file.specs.declared.public.PublicValue.TheVariants.{Known, Hidden}
use Rattle.value_file.specs.declared.public.PublicEntry.{PublicEntry}
use Rattle.value_file.specs.Values.{size_of}
use Rattle.input_share.specs.Values.{shared_size}
use Rattle.view_text.specs.View.{InputShare, Words}
use Rattle.audit_steps.specs.Places.{one_later}
use Rattle.audit_steps.specs.Shares.{is_first_share, share_then, wrong_share_at}
use Rattle.found_inputs.specs.Found.{AreLines, HaveTruths, IsSumOf, rest_of, sums_first}
use Rattle.found_inputs.specs.Sums.{are_of_type, wrong_sums_at}
use Rattle.gate_audit.specs.Shown.{AreShareWords}

some_is_none : {P : Type 0} (k : ℕ) → Some k ≡ None → P
some_is_none k e = cc

none_from : (place : Option ℕ) → one_later place ≡ None → place ≡ None
none_from None e = refl
none_from (Some k) e = cc

none_later : (n : ℕ) (place : Option ℕ) → option_map (λ k. n + k) place ≡ None → place ≡ None
none_later n None e = refl
none_later n (Some k) e = cc

-- a test that answers none
tested : (b : Bool) (place : Option ℕ) → (if b then place else Some 0) ≡ None → (b ≡ true) × (place ≡ None)
tested true place e = (refl, e)
tested false place e = some_is_none 0 e

-- one more that is so, in front of others
all_more : (P : ℕ → Type 0) (w : ℕ) (ws : List ℕ) → P w → All P ws → All P (w ∷ ws)
all_more P w ws here later zero d lt = here
all_more P w ws here later (suc k) d lt = later k d (omega arith)

words_all : (ws : List ℕ) → Words ws → All (λ n. n < 2 ^ 64) ws
words_all [] h = λ k d lt. absurd (omega arith)
words_all (w ∷ ws) h = all_more (λ n. n < 2 ^ 64) w ws h.0 (words_all ws h.1)

-- ---- lines

-- one line, and those of the inputs after it
abbrev Later : List PublicEntry → Type 0
Later ps = (ss : List InputShare) → AreShareWords ss → wrong_share_at ps ss ≡ None → AreLines ps ss

line_is : (name : List ℕ) (v : PublicValue) (ps : List PublicEntry) (ss : List InputShare) → Later ps → AreShareWords ss
    → share_then name v ss (λ rest. wrong_share_at ps rest) ≡ None → AreLines (record { name = name; value = v } ∷ ps) ss
line_is name (Known value) ps ss later h e = later ss h e
line_is name (Hidden kind shape) ps [] later h e = some_is_none 0 e
line_is name (Hidden kind shape) ps (s ∷ ss) later h e =
    let m : ℕ = shared_size kind (size_of shape) in
    let t = tested (is_first_share name kind shape (s ∷ ss)) (one_later (wrong_share_at ps ss)) e in
    let both = and_parts (bytes_eq s.name name) (length s.words == m) t.0 in (
      ((bytes_eq-Decides s.name name).0 both.0, eqb-true (length s.words) m both.1, words_all s.words h.0),
      later ss h.1 (none_from (wrong_share_at ps ss) t.1),
    )

pub lines_are : (part : List PublicEntry) (ss : List InputShare) → AreShareWords ss → wrong_share_at part ss ≡ None → AreLines part ss
lines_are [] [] h e = refl
lines_are [] (s ∷ ss) h e = some_is_none 0 e
lines_are (p ∷ ps) ss h e = line_is p.name p.value ps ss (lines_are ps) h e

-- ---- sums

of_type : (kind : DataType) (count : ℕ) (ws : List ℕ) → are_of_type kind count ws ≡ true → IsSumOf kind count ws
of_type Uint64 count ws e = refl
of_type Int64 count ws e = refl
of_type Truths_ count ws e = (bytes_eq-Decides _ ws).0 e

rest_is : (ss : List InputShare) → rest_of ss ≡ drop 1 ss
rest_is [] = refl
rest_is (s ∷ ss) = refl

abbrev LaterSums : List PublicEntry → Type 0
LaterSums ps = (one two three : List InputShare) → wrong_sums_at ps one two three ≡ None → HaveTruths ps one two three

sums_are : (name : List ℕ) (v : PublicValue) (ps : List PublicEntry) (one two three : List InputShare) → LaterSums ps
    → wrong_sums_at (record { name = name; value = v } ∷ ps) one two three ≡ None → HaveTruths (record { name = name; value = v } ∷ ps) one two three
sums_are name (Known value) ps one two three later e = later one two three (none_later 0 (wrong_sums_at ps one two three) e)
sums_are name (Hidden kind shape) ps one two three later e =
    let rest : Option ℕ = wrong_sums_at ps (drop 1 one) (drop 1 two) (drop 1 three) in
    let t = tested (are_of_type kind (size_of shape) (sums_first kind one two three)) (option_map (λ k. 1 + k) rest) e in
    let truths : HaveTruths ps (drop 1 one) (drop 1 two) (drop 1 three) = later (drop 1 one) (drop 1 two) (drop 1 three) (none_later 1 rest t.1) in (
      of_type kind (size_of shape) (sums_first kind one two three) t.0,
      subst (λ l. HaveTruths ps l (rest_of two) (rest_of three)) (sym (rest_is one))
          (subst (λ l. HaveTruths ps (drop 1 one) l (rest_of three)) (sym (rest_is two))
          (subst (λ l. HaveTruths ps (drop 1 one) (drop 1 two) l) (sym (rest_is three)) truths)),
    )

pub truths_are : (part : List PublicEntry) (one two three : List InputShare) → wrong_sums_at part one two three ≡ None → HaveTruths part one two three
truths_are [] one two three e = tt
truths_are (p ∷ ps) one two three e = sums_are p.name p.value ps one two three (truths_are ps) e
