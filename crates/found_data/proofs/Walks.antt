-- A walk over a public part and the `in` lines of three views.
use Rattle.std.proofs.Common.{◌≡◌, ℕ, zero, suc, ◌+◌, ◌<◌, ◌≤◌, Bool, true, false, if◌then◌else◌, List}
use Rattle.std.proofs.Common.{[], ◌∷◌, ◌++◌, length, length-drop, min, drop, get_or, add-one, Option, Some, None}
use Rattle.std.proofs.Common.{refl, sym, ◌∙◌, ap, arith}
use Rattle.std.proofs.Math.Seq.{drop-cons}
use Rattle.std.proofs.Math.ListN.{drop_of_length-le}
use Rattle.std.proofs.lemmas.List.{drop-drop}
use Rattle.std.specs.Prelude.{option_map}
use Rattle.proto_core.specs.Ring.{Ring}
use Rattle.value_file.specs.declared.public.PublicValue.{PublicValue}
use Rattle.value_file.specs.declared.public.PublicValue.TheVariants.{Known, Hidden}
use Rattle.value_file.specs.declared.public.PublicEntry.{PublicEntry}
use Rattle.input_share.specs.AddUp.{sums_of}
use Rattle.input_share.proofs.Steps.{drop-item}
use Rattle.view_text.specs.View.{InputShare}
use Rattle.found_inputs.specs.Found.{found_entries, found_words, rest_of, words_first}
use Rattle.found_inputs.specs.Sums.{are_right, entry_of, lines_for, masks_of, wrong_sums_at}

-- ---- sums

pub sums-drop : (r : Ring) (xs ys zs : List ℕ) (k : ℕ) → k < length xs → k < length ys → k < length zs
    → sums_of r (drop k xs) (drop k ys) (drop k zs)
    ≡ r.add (r.add (get_or xs k 0) (get_or ys k 0)) (get_or zs k 0) ∷ sums_of r (drop (k + 1) xs) (drop (k + 1) ys) (drop (k + 1) zs)
sums-drop r xs ys zs k h1 h2 h3 = rw (add-one, drop-cons xs k 0, drop-cons ys k 0, drop-cons zs k 0)

any_empty : (r : Ring) (xs ys zs : List ℕ) → min (min (length xs) (length ys)) (length zs) ≡ 0 → sums_of r xs ys zs ≡ []
any_empty r [] ys zs h = refl
any_empty r (x ∷ xs) [] zs h = refl
any_empty r (x ∷ xs) (y ∷ ys) [] h = refl
any_empty r (x ∷ xs) (y ∷ ys) (z ∷ zs) h = absurd (omega (arith, h))

pub sums-end : (r : Ring) (xs ys zs : List ℕ) (k : ℕ) → min (min (length xs) (length ys)) (length zs) ≤ k
    → sums_of r (drop k xs) (drop k ys) (drop k zs) ≡ []
sums-end r xs ys zs k h =
    any_empty r (drop k xs) (drop k ys) (drop k zs) (omega (arith, length-drop k xs, length-drop k ys, length-drop k zs))

-- ---- lines

rest_is : (ss : List InputShare) → rest_of ss ≡ drop 1 ss
rest_is [] = refl
rest_is (s ∷ ss) = refl

pub words-here : (ss : List InputShare) (k : ℕ) (d : InputShare) → k < length ss → (get_or ss k d).words ≡ words_first (drop k ss)
words-here [] k d h = absurd (omega arith)
words-here (s ∷ ss) zero d h = refl
words-here (s ∷ ss) (suc k) d h = words-here ss k d (omega arith)

pub words-past : (ss : List InputShare) (k : ℕ) → length ss ≤ k → [] ≡ words_first (drop k ss)
words-past ss k h = sym (ap words_first (drop_of_length-le ss h))

-- ---- inputs

entries-step : (name : List ℕ) (v : PublicValue) (es : List PublicEntry) (one two three : List InputShare)
    → found_entries (record { name = name; value = v } ∷ es) one two three
    ≡ entry_of name v (words_first one) (words_first two) (words_first three)
    ∷ found_entries es (drop (lines_for v) one) (drop (lines_for v) two) (drop (lines_for v) three)
entries-step name (Known value) es one two three = refl
entries-step name (Hidden kind shape) es one two three =
    ap (λ l. entry_of name (Hidden kind shape) (words_first one) (words_first two) (words_first three) ∷ l)
    (ap (λ l. found_entries es l (rest_of two) (rest_of three)) (rest_is one)
    ∙ ap (λ l. found_entries es (drop 1 one) l (rest_of three)) (rest_is two)
    ∙ ap (λ l. found_entries es (drop 1 one) (drop 1 two) l) (rest_is three))

words-step : (name : List ℕ) (v : PublicValue) (es : List PublicEntry) (one two : List InputShare)
    → found_words (record { name = name; value = v } ∷ es) one two
    ≡ masks_of v (words_first one) (words_first two) ++ found_words es (drop (lines_for v) one) (drop (lines_for v) two)
words-step name (Known value) es one two = refl
words-step name (Hidden kind shape) es one two =
    ap (λ l. words_first one ++ (words_first two ++ l))
    (ap (λ l. found_words es l (rest_of two)) (rest_is one) ∙ ap (λ l. found_words es (drop 1 one) l) (rest_is two))
    ∙ sym (grouped (words_first one) (words_first two) (found_words es (drop 1 one) (drop 1 two)))
  where
    grouped : (xs ys zs : List ℕ) → (xs ++ ys) ++ zs ≡ xs ++ (ys ++ zs)
    grouped [] ys zs = refl
    grouped (x ∷ xs) ys zs = ap (λ l. x ∷ l) (grouped xs ys zs)

module _ (part : List PublicEntry) (one two three : List InputShare) (k taken : ℕ) where
  module _ (e : PublicEntry) (below : k < length part) (at : e ≡ get_or part k e) where
    pub entries-drop :
        found_entries (drop k part) (drop taken one) (drop taken two) (drop taken three)
        ≡ entry_of e.name e.value (words_first (drop taken one)) (words_first (drop taken two)) (words_first (drop taken three))
        ∷ found_entries (drop (k + 1) part) (drop (taken + lines_for e.value) one) (drop (taken + lines_for e.value) two)
        (drop (taken + lines_for e.value) three)
    entries-drop =
        ap (λ l. found_entries l (drop taken one) (drop taken two) (drop taken three)) (drop-item part k e below at)
        ∙ entries-step e.name e.value (drop (k + 1) part) (drop taken one) (drop taken two) (drop taken three)
        ∙ ap (λ l. entry_of e.name e.value (words_first (drop taken one)) (words_first (drop taken two)) (words_first (drop taken three)) ∷ l)
        (ap (λ l. found_entries (drop (k + 1) part) l (drop (lines_for e.value) (drop taken two)) (drop (lines_for e.value) (drop taken three)))
        (drop-drop (lines_for e.value) taken one)
        ∙ ap (λ l. found_entries (drop (k + 1) part) (drop (taken + lines_for e.value) one) l (drop (lines_for e.value) (drop taken three)))
        (drop-drop (lines_for e.value) taken two)
        ∙ ap (λ l. found_entries (drop (k + 1) part) (drop (taken + lines_for e.value) one) (drop (taken + lines_for e.value) two) l)
        (drop-drop (lines_for e.value) taken three))

    pub words-drop :
        found_words (drop k part) (drop taken one) (drop taken two)
        ≡ masks_of e.value (words_first (drop taken one)) (words_first (drop taken two))
        ++ found_words (drop (k + 1) part) (drop (taken + lines_for e.value) one) (drop (taken + lines_for e.value) two)
    words-drop =
        ap (λ l. found_words l (drop taken one) (drop taken two)) (drop-item part k e below at)
        ∙ words-step e.name e.value (drop (k + 1) part) (drop taken one) (drop taken two)
        ∙ ap (λ l. masks_of e.value (words_first (drop taken one)) (words_first (drop taken two)) ++ l)
        (ap (λ l. found_words (drop (k + 1) part) l (drop (lines_for e.value) (drop taken two))) (drop-drop (lines_for e.value) taken one)
        ∙ ap (λ l. found_words (drop (k + 1) part) (drop (taken + lines_for e.value) one) l) (drop-drop (lines_for e.value) taken two))

    -- ---- the first wrong sums

    abbrev rest : Option ℕ
    rest =
        wrong_sums_at (drop (k + 1) part) (drop (taken + lines_for e.value) one) (drop (taken + lines_for e.value) two)
        (drop (taken + lines_for e.value) three)

    abbrev right : Bool
    right = are_right e.value (words_first (drop taken one)) (words_first (drop taken two)) (words_first (drop taken three))

    sums-drop_part :
        wrong_sums_at (drop k part) (drop taken one) (drop taken two) (drop taken three)
        ≡ (if right then option_map (λ n. lines_for e.value + n) rest else Some 0)
    sums-drop_part =
        ap (λ l. wrong_sums_at l (drop taken one) (drop taken two) (drop taken three)) (drop-item part k e below at)
        ∙ ap (λ (o : Option ℕ). if right then option_map (λ n. lines_for e.value + n) o else Some 0)
        (ap (λ l. wrong_sums_at (drop (k + 1) part) l (drop (lines_for e.value) (drop taken two)) (drop (lines_for e.value) (drop taken three)))
        (drop-drop (lines_for e.value) taken one)
        ∙ ap (λ l. wrong_sums_at (drop (k + 1) part) (drop (taken + lines_for e.value) one) l (drop (lines_for e.value) (drop taken three)))
        (drop-drop (lines_for e.value) taken two)
        ∙ ap (λ l. wrong_sums_at (drop (k + 1) part) (drop (taken + lines_for e.value) one) (drop (taken + lines_for e.value) two) l)
        (drop-drop (lines_for e.value) taken three))

    abbrev whole : Option ℕ
    whole = wrong_sums_at part one two three

    abbrev Before : Type 0
    Before = whole ≡ option_map (λ n. taken + n) (wrong_sums_at (drop k part) (drop taken one) (drop taken two) (drop taken three))

    both_lines : (a b : ℕ) (o : Option ℕ) → option_map (λ n. a + n) (option_map (λ n. b + n) o) ≡ option_map (λ n. a + b + n) o
    both_lines a b None = refl
    both_lines a b (Some n) = let same : a + (b + n) ≡ a + b + n = omega arith in ap Some same

    pub sums_more : Before → right ≡ true → whole ≡ option_map (λ n. taken + lines_for e.value + n) rest
    sums_more before so =
        before
        ∙ ap (option_map (λ n. taken + n)) (sums-drop_part ∙ ap (λ (b : Bool). if b then option_map (λ n. lines_for e.value + n) rest else Some 0) so)
        ∙ both_lines taken (lines_for e.value) rest

    pub sums_stop : Before → right ≡ false → whole ≡ Some taken
    sums_stop before not_so =
        let same : taken + 0 ≡ taken = omega arith in
        before
        ∙ ap (option_map (λ n. taken + n)) (sums-drop_part ∙ ap (λ (b : Bool). if b then option_map (λ n. lines_for e.value + n) rest else Some 0) not_so)
        ∙ ap Some same

  pub entries-end : length part ≤ k → found_entries (drop k part) (drop taken one) (drop taken two) (drop taken three) ≡ []
  entries-end h = ap (λ l. found_entries l (drop taken one) (drop taken two) (drop taken three)) (drop_of_length-le part h)

  pub words-end : length part ≤ k → found_words (drop k part) (drop taken one) (drop taken two) ≡ []
  words-end h = ap (λ l. found_words l (drop taken one) (drop taken two)) (drop_of_length-le part h)

  pub right-end : length part ≤ k
      → wrong_sums_at part one two three ≡ option_map (λ n. taken + n) (wrong_sums_at (drop k part) (drop taken one) (drop taken two) (drop taken three))
      → wrong_sums_at part one two three ≡ None
  right-end h before =
      before ∙ ap (λ l. option_map (λ n. taken + n) (wrong_sums_at l (drop taken one) (drop taken two) (drop taken three))) (drop_of_length-le part h)

pub sums_begin : (o : Option ℕ) → o ≡ option_map (λ n. 0 + n) o
sums_begin None = refl
sums_begin (Some n) = let same : n ≡ 0 + n = omega arith in ap Some same

-- words after words, in front of what is left
pub more_words : (done next left after all_of words : List ℕ) → done ++ left ≡ all_of → left ≡ words ++ after → next ≡ done ++ words → next ++ after ≡ all_of
more_words done next left after all_of words before step now =
    ap (λ l. l ++ after) now ∙ grouped done words after ∙ ap (λ l. done ++ l) (sym step) ∙ before
  where
    grouped : (xs ys zs : List ℕ) → (xs ++ ys) ++ zs ≡ xs ++ (ys ++ zs)
    grouped [] ys zs = refl
    grouped (x ∷ xs) ys zs = ap (λ l. x ∷ l) (grouped xs ys zs)
