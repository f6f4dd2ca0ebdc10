-- Lists of words by number, each of them a span of one list.
use Rattle.std.proofs.Common.{◌≡◌, ◌≢◌, ℕ, ◌+◌, ◌-◌, ◌<◌, ◌≤◌, ◌⊎◌, inl, inr, List, [], ◌∷◌, ◌++◌, length, take, drop, zero, suc, Bool, true, false, cond}
use Rattle.std.proofs.Common.{Option, Some, None, refl, sym, ap, subst, ◌∙◌, arith, rules, length-append, length-drop}
use Rattle.std.specs.Prelude.{set}
use Rattle.std.specs.List.{filter}
use Rattle.std.specs.List.Sorted.{IsStrictlySortedBy}
use Rattle.std.specs.Option.{option_map, unwrap_or, MatchOption}
use Rattle.std.specs.Ordering.{nat_cmp}
use Rattle.std.specs.Cmp.{nat_cmp_total, eq_by_cmp_equiv}
use Rattle.std.specs.Map.{keys_of, values_of, remove_entry}
use Rattle.std.specs.BTreeMap.{insert_entry, is_at}
use Rattle.std.specs.BTreeSet.{BTreeSet, contains}
use Rattle.std.proofs.lemmas.Bool.{cases_lt, cases_eq}
use Rattle.std.proofs.lemmas.Grind.{common_steps}
use Rattle.std.proofs.lemmas.List.{drop-append-le, take-append-le, drop_at, take_all, length-take-le, length-set, take-set-le, drop-set-lt, drop-set-add}
use Rattle.std.proofs.lemmas.List.Sums.{sum_by-cons}
use Rattle.std.proofs.lemmas.Map.{lookup-none}
use Rattle.std.proofs.lemmas.Map.Entries.{none_past_head, lookup_tail, lookup_head, lookup-filter-keys, sum_by-insert_entry, sum_by-remove_entry}
use Rattle.std.proofs.lemmas.Map.Keys.{IsDistinct-from_sorted, sorted_tail}
use Rattle.std.proofs.lemmas.Option.{same_Some, none-some, MatchOption-at_some}
use Rattle.gates.specs.declared.span.Span.{Span}
use Rattle.gates.specs.Held.{if_kept}
use Rattle.gates.specs.inner.Spans.{found, within, words_at, Covers, AreSpans, live_words, HasPut, HasMoved, HasAllBut}

-- ---- the words of a span

within_more : (words more : List ℕ) (span : Span) → span.place + span.len ≤ length words → within (words ++ more) span ≡ within words span
within_more words more span le =
    let first : span.place ≤ length words = omega arith in
    let second : span.len ≤ length (drop span.place words) = omega (arith, length-drop span.place words) in
    ap (take span.len) (drop-append-le span.place words more first) ∙ take-append-le span.len (drop span.place words) more second

within_end : (words more : List ℕ) (span : Span) → span.place ≡ length words → span.len ≡ length more → within (words ++ more) span ≡ more
within_end words more span p l = ap (take span.len) (drop_at words more span.place (sym p)) ∙ take_all span.len more (omega arith)

pub length-within : (words : List ℕ) (span : Span) → span.place + span.len ≤ length words → length (within words span) ≡ span.len
length-within words span le = length-take-le span.len (drop span.place words) (omega (arith, length-drop span.place words))

take-set : (n : ℕ) (xs : List ℕ) (i w : ℕ) → take n (set xs i w) ≡ set (take n xs) i w
take-set zero xs i w = refl
take-set (suc n) [] i w = refl
take-set (suc n) (x ∷ xs) zero w = refl
take-set (suc n) (x ∷ xs) (suc i) w = ap (λ ys. x ∷ ys) (take-set n xs i w)

within_set : (words : List ℕ) (span : Span) (index w : ℕ) → within (set words (span.place + index) w) span ≡ set (within words span) index w
within_set words span index w =
    ap (take span.len) (drop-set-add span.place words index w) ∙ take-set span.len (drop span.place words) index w

within_set_apart : (words : List ℕ) (span : Span) (i w : ℕ) → (Covers span i → ⊥) → within (set words i w) span ≡ within words span
within_set_apart words span i w apart = by_place (cases_lt i span.place)
  where
    by_end : span.place ≤ i → (i < span.place + span.len) ⊎ (span.place + span.len ≤ i) → within (set words i w) span ≡ within words span
    by_end from (inl below) = absurd (apart (from, below))
    by_end from (inr past) =
        let j = i - span.place in
        let place : i ≡ span.place + j = omega arith in
        let le : span.len ≤ j = omega arith in
        ap (λ k. within (set words k w) span) place
        ∙ ap (take span.len) (drop-set-add span.place words j w)
        ∙ take-set-le span.len (drop span.place words) j w le

    by_place : (i < span.place) ⊎ (span.place ≤ i) → within (set words i w) span ≡ within words span
    by_place (inl below) = ap (take span.len) (drop-set-lt span.place words i w below)
    by_place (inr from) = by_end from (cases_lt i (span.place + span.len))

-- ---- the words of a number

pub at_some : (words : List ℕ) (at : ℕ → Option Span) (k : ℕ) (span : Span) → at k ≡ Some span → words_at words at k ≡ within words span
at_some words at k span is = ap (λ o. unwrap_or (option_map (within words) o) []) is

pub at_none : (words : List ℕ) (at : ℕ → Option Span) (k : ℕ) → at k ≡ None → words_at words at k ≡ []
at_none words at k is = ap (λ o. unwrap_or (option_map (within words) o) []) is

pub at_same : (words : List ℕ) (new old : ℕ → Option Span) (k : ℕ) → new k ≡ old k → words_at words new k ≡ words_at words old k
at_same words new old k is = ap (λ o. unwrap_or (option_map (within words) o) []) is

option_same : (words other : List ℕ) (o : Option Span) → ((span : Span) → o ≡ Some span → within other span ≡ within words span) →
    unwrap_or (option_map (within other) o) [] ≡ unwrap_or (option_map (within words) o) []
option_same words other None h = refl
option_same words other (Some span) h = h span refl

pub at_more : (words more : List ℕ) (at : ℕ → Option Span) → AreSpans words at → (k : ℕ) → words_at (words ++ more) at k ≡ words_at words at k
at_more words more at spans k = option_same words (words ++ more) (at k) (λ span is. within_more words more span (spans.end k span is))

pub spans_more : (words more : List ℕ) (at : ℕ → Option Span) → AreSpans words at → AreSpans (words ++ more) at
spans_more words more at spans =
    record {
      end = λ k span is. omega (arith, spans.end k span is, length-append words more);
      apart = spans.apart;
    }

pub spans_fewer : (words : List ℕ) (old new : ℕ → Option Span) → ((k : ℕ) (span : Span) → new k ≡ Some span → old k ≡ Some span) → AreSpans words old →
    AreSpans words new
spans_fewer words old new h spans =
    record {
      end = λ k span is. spans.end k span (h k span is);
      apart = λ j k a b i x y. spans.apart j k a b i (h j a x) (h k b y);
    }

-- ---- one list fewer

pub fewer_found :
    (old new : ℕ → Option Span) (number : ℕ) → new number ≡ None → ((k : ℕ) → k ≢ number → new k ≡ old k) → (k : ℕ) (span : Span) → new k ≡ Some span →
    old k ≡ Some span
fewer_found old new number none others k span h = by_number (cases_eq k number)
  where
    by_number : (k ≡ number) ⊎ (k ≡ number → ⊥) → old k ≡ Some span
    by_number (inl is) = absurd (none-some span (sym none ∙ ap new (sym is) ∙ h))
    by_number (inr apart) = sym (others k apart) ∙ h

-- ---- one more list

module _ (words more : List ℕ) (old new : ℕ → Option Span) (number : ℕ) (span : Span) (own : new number ≡ Some span)
    (others : (k : ℕ) → k ≢ number → new k ≡ old k) (place : span.place ≡ length words) (len : span.len ≡ length more) (spans : AreSpans words old) where
  pub put_has : HasPut (words_at words old) (words_at (words ++ more) new) number more
  put_has =
      record {
        own = at_some (words ++ more) new number span own ∙ within_end words more span place len;
        others = λ k apart. at_same (words ++ more) new old k (others k apart) ∙ at_more words more old spans k;
      }

  own_is : (k : ℕ) (a : Span) → k ≡ number → new k ≡ Some a → a ≡ span
  own_is k a is e = same_Some a span (sym e ∙ ap new is ∙ own)

  end : (k : ℕ) (a : Span) → new k ≡ Some a → (k ≡ number) ⊎ (k ≡ number → ⊥) → a.place + a.len ≤ length (words ++ more)
  end k a e (inl is) =
      let p : a.place ≡ span.place = ap (λ s. s.place) (own_is k a is e) in
      let l : a.len ≡ span.len = ap (λ s. s.len) (own_is k a is e) in
      omega (arith, p, l, place, len, length-append words more)
  end k a e (inr apart) = omega (arith, spans.end k a (sym (others k apart) ∙ e), length-append words more)

  disjoint : (j k : ℕ) (a b : Span) (i : ℕ) → new j ≡ Some a → new k ≡ Some b → Covers a i → Covers b i →
      (j ≡ number) ⊎ (j ≡ number → ⊥) → (k ≡ number) ⊎ (k ≡ number → ⊥) → j ≡ k
  disjoint j k a b i x y p q (inl js) (inl ks) = js ∙ sym ks
  disjoint j k a b i x y p q (inl js) (inr ks) =
      let at : a.place ≡ span.place = ap (λ s. s.place) (own_is j a js x) in
      absurd (omega (arith, p.0, q.1, at, place, spans.end k b (sym (others k ks) ∙ y)))
  disjoint j k a b i x y p q (inr js) (inl ks) =
      let at : b.place ≡ span.place = ap (λ s. s.place) (own_is k b ks y) in
      absurd (omega (arith, q.0, p.1, at, place, spans.end j a (sym (others j js) ∙ x)))
  disjoint j k a b i x y p q (inr js) (inr ks) = spans.apart j k a b i (sym (others j js) ∙ x) (sym (others k ks) ∙ y) p q

  pub put_spans : AreSpans (words ++ more) new
  put_spans =
      record {
        end = λ k a e. end k a e (cases_eq k number);
        apart = λ j k a b i x y p q. disjoint j k a b i x y p q (cases_eq j number) (cases_eq k number);
      }

-- ---- a list gets another number

module _ (words : List ℕ) (old new : ℕ → Option Span) (from to index w : ℕ) (span : Span) (was : old from ≡ Some span) (own : new to ≡ Some span)
    (none : new from ≡ None) (others : (k : ℕ) → k ≢ to → k ≢ from → new k ≡ old k) (spans : AreSpans words old) where
  before : (k : ℕ) (a : Span) → new k ≡ Some a → k ≢ to → (k ≢ from) × (old k ≡ Some a)
  before k a e apart =
      let far : k ≢ from = λ is. none-some a (sym none ∙ sym (ap new is) ∙ e) in
      (far, sym (others k apart far) ∙ e)

  moved_disjoint : (j k : ℕ) (a b : Span) (i : ℕ) → new j ≡ Some a → new k ≡ Some b → Covers a i → Covers b i →
      (j ≡ to) ⊎ (j ≡ to → ⊥) → (k ≡ to) ⊎ (k ≡ to → ⊥) → j ≡ k
  moved_disjoint j k a b i x y p q (inl js) (inl ks) = js ∙ sym ks
  moved_disjoint j k a b i x y p q (inl js) (inr ks) =
      let is : a ≡ span = same_Some a span (sym x ∙ ap new js ∙ own) in
      let e = before k b y ks in
      absurd (e.0 (sym (spans.apart from k span b i was e.1 (subst (λ s. Covers s i) is p) q)))
  moved_disjoint j k a b i x y p q (inr js) (inl ks) =
      let is : b ≡ span = same_Some b span (sym y ∙ ap new ks ∙ own) in
      let e = before j a x js in
      absurd (e.0 (spans.apart j from a span i e.1 was p (subst (λ s. Covers s i) is q)))
  moved_disjoint j k a b i x y p q (inr js) (inr ks) = spans.apart j k a b i (before j a x js).1 (before k b y ks).1 p q

  moved_end : (k : ℕ) (a : Span) → new k ≡ Some a → (k ≡ to) ⊎ (k ≡ to → ⊥) → a.place + a.len ≤ length words
  moved_end k a e (inl is) = subst (λ s. s.place + s.len ≤ length words) (sym (same_Some a span (sym e ∙ ap new is ∙ own))) (spans.end from span was)
  moved_end k a e (inr apart) = spans.end k a (before k a e apart).1

  pub moved_spans : AreSpans (set words (span.place + index) w) new
  moved_spans =
      record {
        end = λ k a e. omega (arith, moved_end k a e (cases_eq k to), length-set words (span.place + index) w);
        apart = λ j k a b i x y p q. moved_disjoint j k a b i x y p q (cases_eq j to) (cases_eq k to);
      }

  module _ (there : index < span.len) where
    pub moved_has : HasMoved (words_at words old) (words_at (set words (span.place + index) w) new) from to index w
    moved_has =
        let all = set words (span.place + index) w in
        record {
          own = at_some all new to span own ∙ within_set words span index w ∙ sym (ap (λ ws. set ws index w) (at_some words old from span was));
          emptied = at_none all new from none;
          others = λ k a b.
              at_same all new old k (others k a b)
              ∙ option_same words all (old k) (λ s is. within_set_apart words s (span.place + index) w
              (λ c. b (spans.apart k from s span (span.place + index) is was c (omega arith, omega arith))));
        }

-- ---- how many words are in spans

-- a number without words has no span, or an empty one
pub nothing_there : (words : List ℕ) (at : ℕ → Option Span) → AreSpans words at → (k : ℕ) → words_at words at k ≡ [] →
    unwrap_or (option_map (λ (s : Span). s.len) (at k)) 0 ≡ 0
nothing_there words at spans k none = by_cases (at k) refl
  where
    by_cases : (o : Option Span) → at k ≡ o → unwrap_or (option_map (λ (s : Span). s.len) o) 0 ≡ 0
    by_cases None is = refl
    by_cases (Some s) is = sym (length-within words s (spans.end k s is)) ∙ ap length (sym (at_some words at k s is) ∙ none)

pub live_put : (es new : List (ℕ × Span)) (number : ℕ) (span : Span) → IsStrictlySortedBy nat_cmp (keys_of es) → new ≡ insert_entry nat_cmp es number span →
    unwrap_or (option_map (λ (s : Span). s.len) (found es number)) 0 ≡ 0 → live_words new ≡ live_words es + span.len
live_put es new number span ordered is none =
    let sums = sum_by-insert_entry (λ (s : Span). s.len) nat_cmp_total es number span ordered in
    let same : live_words new ≡ live_words (insert_entry nat_cmp es number span) = ap live_words is in
    omega (arith, sums, same, none)

pub live_removed : (es new : List (ℕ × Span)) (number : ℕ) (span : Span) → new ≡ remove_entry (is_at (nat_cmp number)) es →
    found es number ≡ Some span → live_words new + span.len ≡ live_words es
live_removed es new number span is there =
    let sums = sum_by-remove_entry (λ (s : Span). s.len) (is_at (nat_cmp number)) es in
    let same : live_words new ≡ live_words (remove_entry (is_at (nat_cmp number)) es) = ap live_words is in
    let own : unwrap_or (option_map (λ (s : Span). s.len) (found es number)) 0 ≡ span.len = ap (λ o. unwrap_or (option_map (λ (s : Span). s.len) o) 0) there in
    omega (arith, sums, same, own)

live_cons : (e : ℕ × Span) (es : List (ℕ × Span)) → live_words (e ∷ es) ≡ e.1.len + live_words es
live_cons e es = sum_by-cons (λ (s : Span). s.len) e.1 (values_of es)

live_test : (p : ℕ × Span → Bool) (e : ℕ × Span) (es : List (ℕ × Span)) → live_words (filter p es) ≤ live_words es → (b : Bool) → p e ≡ b →
    live_words (filter p (e ∷ es)) ≤ live_words (e ∷ es)
live_test p e es h true is =
    let kept : live_words (filter p (e ∷ es)) ≡ live_words (e ∷ filter p es) = ap (λ b. live_words (cond b (e ∷ filter p es) (filter p es))) is in
    omega (arith, kept, h, live_cons e es, live_cons e (filter p es))
live_test p e es h false is =
    let gone : live_words (filter p (e ∷ es)) ≡ live_words (filter p es) = ap (λ b. live_words (cond b (e ∷ filter p es) (filter p es))) is in
    omega (arith, gone, h, live_cons e es)

pub live_filter : (p : ℕ × Span → Bool) (es : List (ℕ × Span)) → live_words (filter p es) ≤ live_words es
live_filter p [] = omega arith
live_filter p (e ∷ es) = live_test p e es (live_filter p es) (p e) refl

-- ---- some are kept

kept_some : (b : Bool) (o : Option Span) (span : Span) → cond b o None ≡ Some span → o ≡ Some span
kept_some true o span is = is
kept_some false o span is = absurd (none-some span is)

kept_words : (words : List ℕ) (b : Bool) (o : Option Span) →
    unwrap_or (option_map (within words) (cond b o None)) [] ≡ cond b (unwrap_or (option_map (within words) o) []) []
kept_words words true o = refl
kept_words words false o = refl

found_kept : (numbers : BTreeSet ℕ) (es : List (ℕ × Span)) (k : ℕ) →
    found (filter (λ e. contains nat_cmp numbers e.0) es) k ≡ cond (contains nat_cmp numbers k) (found es k) None
found_kept numbers es k =
    lookup-filter-keys (is_at (nat_cmp k)) (λ x. contains nat_cmp numbers x) (contains nat_cmp numbers k)
    (λ x h. ap (contains nat_cmp numbers) (is_same k x h)) es
  where
    is_same : (k x : ℕ) → is_at (nat_cmp k) x ≡ true → x ≡ k
    is_same k x h = sym (search (rules, h))

pub spans_kept : (words : List ℕ) (numbers : BTreeSet ℕ) (es : List (ℕ × Span)) → AreSpans words (found es) →
    AreSpans words (found (filter (λ e. contains nat_cmp numbers e.0) es))
spans_kept words numbers es spans =
    spans_fewer words (found es) (found (filter (λ e. contains nat_cmp numbers e.0) es))
    (λ k span is. kept_some (contains nat_cmp numbers k) (found es k) span (sym (found_kept numbers es k) ∙ is)) spans

pub at_kept : (words : List ℕ) (numbers : BTreeSet ℕ) (es : List (ℕ × Span)) (k : ℕ) →
    words_at words (found (filter (λ e. contains nat_cmp numbers e.0) es)) k ≡ if_kept numbers k (words_at words (found es) k)
at_kept words numbers es k =
    ap (λ o. unwrap_or (option_map (within words) o) []) (found_kept numbers es k) ∙ kept_words words (contains nat_cmp numbers k) (found es k)

-- ---- lists move one after another

is_own : (n : ℕ) → is_at (nat_cmp n) n ≡ true
is_own n = grind (arith, common_steps)

is_other : (q n : ℕ) → q ≢ n → is_at (nat_cmp q) n ≡ false
is_other q n apart = grind (arith, common_steps, apart)

pub all_but_all : (new : ℕ → List ℕ) (words : List ℕ) (spans : List (ℕ × Span)) → ((k : ℕ) → new k ≡ []) → HasAllBut (words_at words (found spans)) new spans
all_but_all new words spans none q = by_cases (found spans q) refl
  where
    by_cases : (o : Option Span) → found spans q ≡ o → MatchOption o (new q ≡ words_at words (found spans) q) (λ s. new q ≡ [])
    by_cases None is = none q ∙ sym (at_none words (found spans) q is)
    by_cases (Some s) is = none q

pub free_next : (old new : ℕ → List ℕ) (n : ℕ) (s : Span) (left rest : List (ℕ × Span)) → left ≡ (n, s) ∷ rest → HasAllBut old new left → new n ≡ []
free_next old new n s left rest is all =
    let there : found left n ≡ Some s = ap (λ es. found es n) is ∙ lookup_head (is_at (nat_cmp n)) (n, s) rest (is_own n) in
    MatchOption-at_some (new n ≡ old n) (λ span. new n ≡ []) s there (all n)

pub all_but_rest : (old new more : ℕ → List ℕ) (n : ℕ) (s : Span) (left rest : List (ℕ × Span)) → left ≡ (n, s) ∷ rest →
    IsStrictlySortedBy nat_cmp (keys_of left) →
    HasAllBut old new left → HasPut new more n (old n) → HasAllBut old more rest
all_but_rest old new more n s left rest is sorted all put q = by_number (cases_eq q n)
  where
    by_number : (q ≡ n) ⊎ (q ≡ n → ⊥) → MatchOption (found rest q) (more q ≡ old q) (λ span. more q ≡ [])
    by_number (inl own) =
        let sorted_all : IsStrictlySortedBy nat_cmp (keys_of ((n, s) ∷ rest)) = subst (λ es. IsStrictlySortedBy nat_cmp (keys_of es)) is sorted in
        let test : is_at (nat_cmp q) n ≡ true = ap (λ k. is_at (nat_cmp k) n) own ∙ is_own n in
        let none : found rest q ≡ None =
        lookup-none (is_at (nat_cmp q)) rest
        (none_past_head (eq_by_cmp_equiv nat_cmp_total) q (n, s) rest (IsDistinct-from_sorted nat_cmp (keys_of ((n, s) ∷ rest)) sorted_all) test) in
        subst (λ o. MatchOption o (more q ≡ old q) (λ span. more q ≡ [])) (sym none) (ap more own ∙ put.own ∙ ap old (sym own))
    by_number (inr apart) =
        let same : found left q ≡ found rest q =
        ap (λ es. found es q) is ∙ lookup_tail (is_at (nat_cmp q)) (n, s) rest (is_other q n apart) in
        let before : MatchOption (found rest q) (new q ≡ old q) (λ span. new q ≡ []) =
        subst (λ o. MatchOption o (new q ≡ old q) (λ span. new q ≡ [])) same (all q) in
        subst (λ ws. MatchOption (found rest q) (ws ≡ old q) (λ span. ws ≡ [])) (sym (put.others q apart)) before

pub sorted_rest : (n : ℕ) (s : Span) (left rest : List (ℕ × Span)) → left ≡ (n, s) ∷ rest →
    IsStrictlySortedBy nat_cmp (keys_of left) →
    IsStrictlySortedBy nat_cmp (keys_of rest)
sorted_rest n s left rest is sorted = sorted_tail nat_cmp n (keys_of rest) (subst (λ es. IsStrictlySortedBy nat_cmp (keys_of es)) is sorted)
