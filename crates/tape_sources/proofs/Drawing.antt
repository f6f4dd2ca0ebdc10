-- Words that are drawn from a file that is read.
use Rattle.std.proofs.Common.{◌≡◌, ◌≢◌, true≢false, ℕ, zero, suc, ◌+◌, ◌-◌, ◌*◌, ◌<◌, ◌≤◌, List, [], ◌∷◌, ◌++◌, length, set, Bool, true, false, ◌&&◌, Option}
use Rattle.std.proofs.Common.{Some, None, IfSome, IsSomeAnd, refl, sym, ap, ap₂, ◌∙◌, arith}
use Rattle.std.specs.Prelude.{slice_index, nat_le, if◌then◌else◌}
use Rattle.std.proofs.lemmas.Bool.{and_parts}
use Rattle.std.proofs.lemmas.Bool.Decides.{nat_tests}
use Rattle.std.proofs.lemmas.Grind.{common_steps}
use Rattle.std.proofs.lemmas.List.{get_or-set_same, get_or-set_other}
use Rattle.outside.specs.Files.{FilesState, OnlyRead}
use Rattle.outside.specs.Tapes.{Drew, SameTapes, left_of}
use Rattle.tape_file.specs.Format.{words_at, tapes_at}
use Rattle.tape_file.proofs.WordLists.{length-words_at}
use Rattle.tape_sources.specs.FileTapes.{AreWithin, file_in, has_bytes, is_told, words_in, words_state}
use Rattle.tape_sources.specs.Opening.{OpensFour, OpensOne}
use Rattle.tape_sources.specs.declared.lengths.TapeLengths.{TapeLengths}
use Rattle.tape_sources.proofs.Filling.{same_file}
use Rattle.tape_sources.proofs.Splits.{words_at-split}

left_by : (told : Bool) (file : Option (List ℕ)) (size from count : ℕ) → (told ≡ true → has_bytes file size ≡ true)
    → (if told then length (words_in file from count) else count) ≡ count
left_by false file size from count has = refl
left_by true None size from count has = absurd (true≢false (sym (has refl)))
left_by true (Some all) size from count has = length-words_at from count all

-- as many words are left as are counted
pub left_is : (state : FilesState) (held : ℕ) (path : List ℕ) (size : ℕ) (next left : List ℕ) (party : ℕ)
    → left_of (words_state state held path size next left) party ≡ slice_index left party
left_is state held path size next left party =
    left_by (is_told state path size) (file_in state path) size (slice_index next party) (slice_index left party) (λ t. (and_parts state.told _ t).1)

told_stays : {a b : FilesState} (path : List ℕ) (size : ℕ) → OnlyRead a b → is_told b path size ≡ is_told a path size
told_stays path size read = ap₂ (λ (t : Bool) (file : Option (List ℕ)). t && has_bytes file size) read.same.told (same_file path read)

-- the rest of the words, after those that were drawn
words_drawn : (file : Option (List ℕ)) (size from count : ℕ) (drawn : List ℕ) → IfSome file (λ all. drawn ≡ words_at from (length drawn) all)
    → length drawn ≤ count → has_bytes file size ≡ true → words_in file from count ≡ drawn ++ words_in file (from + 8 * length drawn) (count - length drawn)
words_drawn None size from count drawn are le has = absurd (true≢false (sym has))
words_drawn (Some all) size from count drawn are le has =
    let whole : count ≡ length drawn + (count - length drawn) = omega arith in
    ap (λ (n : ℕ). words_at from n all) whole ∙ words_at-split from (length drawn) (count - length drawn) all
    ∙ ap (λ (ws : List ℕ). ws ++ words_at (from + 8 * length drawn) (count - length drawn) all) (sym are)

pub drew : {old new : FilesState} (held : ℕ) (path : List ℕ) (size : ℕ) (next left : List ℕ) (party : ℕ) (drawn : List ℕ) → OnlyRead old new
    → party < length next → party < length left → length drawn ≤ slice_index left party
    → (old.told ≡ true → IfSome (file_in old path) (λ all. drawn ≡ words_at (slice_index next party) (length drawn) all))
    → Drew (words_state old held path size next left)
    (words_state new held path size (set next party (slice_index next party + 8 * length drawn)) (set left party (slice_index left party - length drawn))) party drawn
drew {old} {new} held path size next left party drawn read in_next in_left le are =
    let next' = set next party (slice_index next party + 8 * length drawn) in
    let left' = set left party (slice_index left party - length drawn) in
    let further : slice_index next' party ≡ slice_index next party + 8 * length drawn = get_or-set_same next party _ 0 in_next in
    let fewer : slice_index left' party ≡ slice_index left party - length drawn = get_or-set_same left party _ 0 in_left in
    let before = left_is old held path size next left party in
    let after = left_is new held path size next' left' party in
    record {
      told = told_stays path size read;
      stands = record { held = refl; read = read };
      fewer = omega (arith, before, after, fewer, le);
      words = λ t.
          let parts = and_parts old.told _ t in
          words_drawn (file_in old path) size (slice_index next party) (slice_index left party) drawn (are parts.0) le parts.1
          ∙ ap (λ (ws : List ℕ). drawn ++ ws) (sym (rw (same_file path read, further, fewer) refl));
      others = λ p ne. record {
        left = left_is new held path size next' left' p ∙ get_or-set_other left party p _ 0 ne ∙ sym (left_is old held path size next left p);
        words = λ t. rw (
          same_file path read,
          get_or-set_other next party p (slice_index next party + 8 * length drawn) 0 ne,
          get_or-set_other left party p (slice_index left party - length drawn) 0 ne,
        ) refl;
      };
    }

pub drew_none : {old new : FilesState} (held : ℕ) (path : List ℕ) (size : ℕ) (next left : List ℕ) → OnlyRead old new
    → SameTapes (words_state old held path size next left) (words_state new held path size next left)
drew_none {old} {new} held path size next left read = record {
  told = told_stays path size read;
  stands = record { held = refl; read = read };
  tapes = λ p. record {
    left = left_is new held path size next left p ∙ sym (left_is old held path size next left p);
    words = λ t. rw (same_file path read) refl;
  };
}

-- a file that has all its bytes doesn't end too early
whole_file : (file : Option (List ℕ)) (size end : ℕ) → has_bytes file size ≡ true → end ≤ size → IfSome file (λ all. length all < end) → ⊥
whole_file None size end has le short = absurd (true≢false (sym has))
whole_file (Some all) size end has le short = let whole : size ≤ length all = grind (arith, nat_tests) in omega (arith, whole, le, short)

pub never_short : (state : FilesState) (path : List ℕ) (size end : ℕ) → (is_told state path size && state.steady) ≡ true → end ≤ size
    → (state.told ≡ true → IfSome (file_in state path) (λ all. length all < end)) → ⊥
never_short state path size end steady le short =
    let parts = and_parts (is_told state path size) state.steady steady in
    let told = and_parts state.told _ parts.0 in
    whole_file (file_in state path) size end told.1 le (short told.0)

pub files_steady : (state : FilesState) (path : List ℕ) (size : ℕ) → (is_told state path size && state.steady) ≡ true → state.steady ≡ true
files_steady state path size steady = (and_parts (is_told state path size) state.steady steady).1

pub steady_stays : {a b : FilesState} (path : List ℕ) (size : ℕ) → OnlyRead a b → (is_told a path size && a.steady) ≡ true → (is_told b path size && b.steady) ≡ true
steady_stays {a} {b} path size read steady =
    let parts = and_parts (is_told a path size) a.steady steady in
    rw (told_stays path size read ∙ parts.0, read.still parts.1) refl

-- a party's words end within the file
pub within_of : (size : ℕ) (next left : List ℕ) (party : ℕ) → AreWithin size next left → party ≤ 3 → slice_index next party + 8 * slice_index left party ≤ size
within_of size next left zero within le = within.dealer
within_of size next left (suc zero) within le = within.one
within_of size next left (suc (suc zero)) within le = within.two
within_of size next left (suc (suc (suc zero))) within le = within.three
within_of size next left (suc (suc (suc (suc n)))) within le = absurd (omega arith)

still_within : (size n party q : ℕ) (next left : List ℕ) → slice_index next q + 8 * slice_index left q ≤ size
    → slice_index next party + 8 * slice_index left party ≤ size → n ≤ slice_index left party → party < length next → party < length left
    → slice_index (set next party (slice_index next party + 8 * n)) q + 8 * slice_index (set left party (slice_index left party - n)) q ≤ size
still_within size n party q next left there within le in_next in_left = grind (arith, common_steps)

pub within_after : (size n party : ℕ) (next left : List ℕ) → AreWithin size next left → party ≤ 3 → n ≤ slice_index left party → party < length next
    → party < length left
    → AreWithin size (set next party (slice_index next party + 8 * n)) (set left party (slice_index left party - n))
within_after size n party next left within few le in_next in_left =
    let there = within_of size next left party within few in
    record {
      dealer = still_within size n party 0 next left within.dealer there le in_next in_left;
      one = still_within size n party 1 next left within.one there le in_next in_left;
      two = still_within size n party 2 next left within.two there le in_next in_left;
      three = still_within size n party 3 next left within.three there le in_next in_left;
    }

told_by : (told : Bool) (file : Option (List ℕ)) (bytes : List ℕ) (size : ℕ) → told ≡ true → file ≡ Some bytes → length bytes ≡ size
    → (told && has_bytes file size) ≡ true
told_by told file bytes size t there long =
    let le : nat_le size (length bytes) ≡ true = grind (arith, nat_tests) in
    rw (t, there, le) refl

steady_by : (told steady : Bool) → told ≡ true → steady ≡ true → (told && steady) ≡ true
steady_by told steady t s = rw (t, s) refl

-- where the tapes begin in a file with these lengths
abbrev first_places : TapeLengths → List ℕ
first_places l = 32 ∷ (32 + 8 * l.dealer) ∷ (32 + 8 * (l.dealer + l.miner1)) ∷ (32 + 8 * (l.dealer + l.miner1 + l.miner2)) ∷ []

abbrev all_lengths : TapeLengths → List ℕ
all_lengths l = l.dealer ∷ l.miner1 ∷ l.miner2 ∷ l.miner3 ∷ []

pub opens_four : (l : TapeLengths) (files : FilesState) (held : ℕ) (path : List ℕ)
    → OpensFour l files path (words_state files held path l.size (first_places l) (all_lengths l))
unfolding tapes_at
opens_four l files held path =
    let left = left_is files held path l.size (first_places l) (all_lengths l) in
    record {
      dealer = left 0;
      one = left 1;
      two = left 2;
      three = left 3;
      told = λ t bytes there long. (told_by files.told (file_in files path) bytes l.size t there long, rw there refl);
      steady = λ s t. steady_by (is_told files path l.size) files.steady t s;
    }

pub opens_one : (party words size : ℕ) (files : FilesState) (held : ℕ) (path next left : List ℕ) → slice_index next party ≡ 8
    → slice_index left party ≡ words → ((p : ℕ) → p ≢ party → slice_index left p ≡ 0)
    → OpensOne party words size files path (words_state files held path size next left)
opens_one party words size files held path next left first all none =
    let count = left_is files held path size next left in
    record {
      all = count party ∙ all;
      none = λ p ne. count p ∙ none p ne;
      told = λ t bytes there long. (told_by files.told (file_in files path) bytes size t there long, rw (there, first, all) refl);
      steady = λ s t. steady_by (is_told files path size) files.steady t s;
    }

zero_of : (p : ℕ) → slice_index (0 ∷ 0 ∷ 0 ∷ 0 ∷ []) p ≡ 0
zero_of zero = refl
zero_of (suc zero) = refl
zero_of (suc (suc zero)) = refl
zero_of (suc (suc (suc zero))) = refl
zero_of (suc (suc (suc (suc n)))) = refl

pub none_of_four : (party words p : ℕ) → p ≢ party → slice_index (set (0 ∷ 0 ∷ 0 ∷ 0 ∷ []) party words) p ≡ 0
none_of_four party words p ne = get_or-set_other (0 ∷ 0 ∷ 0 ∷ 0 ∷ []) party p words 0 ne ∙ zero_of p

-- what is drawn ends within the file, and is left
pub record IsThere (size from count most : ℕ) : Type 0 where
  pub ends : from + 8 * count ≤ size
  pub left : count ≤ most

pub is_there : (state : FilesState) (held : ℕ) (path : List ℕ) (size : ℕ) (next left : List ℕ) (party count : ℕ) → AreWithin size next left → party ≤ 3
    → count ≤ left_of (words_state state held path size next left) party → IsThere size (slice_index next party) count (slice_index left party)
is_there state held path size next left party count within few enough =
    let whole = within_of size next left party within few in
    let counted = left_is state held path size next left party in
    record { ends = omega (arith, whole, counted, enough); left = omega (arith, counted, enough) }

pub sized_to : (sized : Option ℕ) (size end : ℕ) → sized ≡ Some size → end ≤ size → IsSomeAnd sized (λ s. end ≤ s)
sized_to sized size end is le = rw is le
