-- What is read, line by line.
use Rattle.std.proofs.Common.{◌≡◌, ◌≢◌, ℕ, ◌+◌, ◌-◌, ◌*◌, ◌<◌, ◌≤◌, List, [], ◌∷◌, ◌++◌, length, get_or, take, drop}
use Rattle.std.proofs.Common.{length-append, refl, sym, ◌∙◌, ap, subst, arith}
use Rattle.std.proofs.lemmas.Grind.{common_steps}
use Rattle.std.proofs.lemmas.List.Splits.{join_with_byte-slice_split, length-slice_split}
use Rattle.std.proofs.lemmas.List.{append_assoc, take_more}
use Rattle.std.proofs.lemmas.Slice.Eq.{bytes_eq-Decides}
use Rattle.std.specs.List.{find, join_with_byte, count_by}
use Rattle.std.specs.Prelude.{Bool, true, false, ◌==◌, if◌then◌else◌, Option, Some, None, Result, Ok, Err, bytes_eq}
use Rattle.proto_core.specs.declared.link.Link.{Link}
use Rattle.proto_core.specs.declared.link.Link.TheVariants.{Link12, Link13, Link21, Link23, Link31, Link32}
use Rattle.proto_core.specs.Parties.{link_text}
use Rattle.schedule_file.specs.Text.{schedule_bytes}
use Rattle.schedule_file.specs.Reading.{link_in, then_later, at_the_end, links_from, lines_in, links_of}
use Rattle.schedule_file.specs.FirstWrong.{IsFirstWrong}

-- ---- one line

abbrev all_of : List Link
all_of = Link12 ∷ Link13 ∷ Link21 ∷ Link23 ∷ Link31 ∷ Link32 ∷ []

link_back : (l : Link) → link_in (link_text l) ≡ Some l
link_back Link12 = refl
link_back Link13 = refl
link_back Link21 = refl
link_back Link23 = refl
link_back Link31 = refl
link_back Link32 = refl

line_first : (l : Link) (rest : List ℕ) → lines_in (link_text l ++ 10 ∷ rest) ≡ link_text l ∷ lines_in rest
line_first Link12 rest = refl
line_first Link13 rest = refl
line_first Link21 rest = refl
line_first Link23 rest = refl
line_first Link31 rest = refl
line_first Link32 rest = refl

not_found : {P : Type 0} (l : Link) → None ≡ Some l → P
not_found l e = cc

one_read : (ls : List Link) (line : List ℕ) (l : Link) → find (λ k. bytes_eq (link_text k) line) ls ≡ Some l → line ≡ link_text l
one_read [] line l h = not_found l h
one_read (k ∷ ks) line l h = by_test (bytes_eq (link_text k) line) refl (λ e. one_read ks line l e)
  where
    by_test : (b : Bool) → bytes_eq (link_text k) line ≡ b → (find (λ k. bytes_eq (link_text k) line) ks ≡ Some l → line ≡ link_text l) → line ≡ link_text l
    by_test true e more =
        let found : Some k ≡ Some l = sym (ap (λ b. if b then Some k else find (λ k. bytes_eq (link_text k) line) ks) e) ∙ h in
        let same : k ≡ l = cc in
        sym ((bytes_eq-Decides (link_text k) line).0 e) ∙ ap link_text same
    by_test false e more = more (sym (ap (λ b. if b then Some k else find (λ k. bytes_eq (link_text k) line) ks) e) ∙ h)

-- there is always a first part
record Parted (bytes : List ℕ) : Type 0 where
  pub first : List ℕ
  pub more : List (List ℕ)
  pub is : lines_in bytes ≡ first ∷ more

parted : (bytes : List ℕ) → Parted bytes
parted bytes = by_parts (lines_in bytes) refl (length-slice_split (λ x. x == 10) bytes)
  where
    by_parts : (ps : List (List ℕ)) → lines_in bytes ≡ ps → length (lines_in bytes) ≡ count_by (λ x. x == 10) bytes + 1 → Parted bytes
    by_parts [] e h = absurd (let g = sym (ap length e) ∙ h in omega arith)
    by_parts (p ∷ ps) e h = record { first = p; more = ps; is = e }

-- ---- a line that is a link

pub link_first : (number : ℕ) (l : Link) (rest : List ℕ) →
    links_from number (lines_in (link_text l ++ 10 ∷ rest)) ≡ then_later number (Some l) (links_from (number + 1) (lines_in rest))
link_first number l rest =
    let p = parted rest in
    ap (links_from number) (line_first l rest)
    ∙ ap (λ ps. links_from number (link_text l ∷ ps)) p.is
    ∙ ap (λ o. then_later number o (links_from (number + 1) (p.first ∷ p.more))) (link_back l)
    ∙ ap (λ ps. then_later number (Some l) (links_from (number + 1) ps)) (sym p.is)

-- ---- a line that is none

abbrev pub IsWrong : List ℕ → Type 0
IsWrong text = (text ≢ []) × ((l : Link) (rest : List ℕ) → text ≢ link_text l ++ 10 ∷ rest)

pub wrong_first : (number : ℕ) (text : List ℕ) → IsWrong text → links_from number (lines_in text) ≡ Err number
wrong_first number text h =
    let p = parted text in
    ap (links_from number) p.is ∙ by_more p.first p.more (sym (join_with_byte-slice_split 10 text) ∙ ap (join_with_byte 10) p.is)
  where
    at_end : (last : List ℕ) → text ≡ last → at_the_end number last ≡ Err number
    at_end [] e = absurd (h.0 e)
    at_end (x ∷ xs) e = refl

    by_link : (line : List ℕ) (rest : List ℕ) (later : Result (List Link) ℕ) (o : Option Link) → link_in line ≡ o → text ≡ line ++ 10 ∷ rest →
        then_later number o later ≡ Err number
    by_link line rest later None found e = refl
    by_link line rest later (Some l) found e = absurd (h.1 l rest (e ∙ ap (λ v. v ++ 10 ∷ rest) (one_read all_of line l found)))

    by_more : (first : List ℕ) (more : List (List ℕ)) → text ≡ join_with_byte 10 (first ∷ more) → links_from number (first ∷ more) ≡ Err number
    by_more first [] e = at_end first e
    by_more first (m ∷ ms) e = by_link first (join_with_byte 10 (m ∷ ms)) (links_from (number + 1) (m ∷ ms)) (link_in first) refl e

pub some_bytes : (text : List ℕ) → false ≡ (length text == 0) → text ≢ []
some_bytes [] e n = cc
some_bytes (x ∷ xs) e n = cc

-- ---- links that were read, and what is read after them

abbrev pub behind : List Link → Result (List Link) ℕ → Result (List Link) ℕ
behind links (Ok more) = Ok (links ++ more)
behind links (Err number) = Err number

one_more : (links : List Link) (number : ℕ) (l : Link) (later : Result (List Link) ℕ) →
    behind links (then_later number (Some l) later) ≡ behind (links ++ l ∷ []) later
one_more links number l (Ok ls) = ap Ok (sym (append_assoc links (l ∷ []) ls))
one_more links number l (Err wrong) = refl

-- as far as the reader has come
abbrev pub ReadSoFar : List ℕ → List Link → List ℕ → Type 0
ReadSoFar bytes links rest = links_of bytes ≡ behind links (links_from (length links + 1) (lines_in rest))

pub read_none : (bytes : List ℕ) → ReadSoFar bytes [] bytes
unfolding links_of
read_none bytes = by_answer (links_from 1 (lines_in bytes))
  where
    by_answer : (r : Result (List Link) ℕ) → r ≡ behind [] r
    by_answer (Ok ls) = refl
    by_answer (Err number) = refl

pub read_more : (bytes : List ℕ) (links : List Link) (l : Link) (text rest : List ℕ) →
    text ≡ link_text l ++ 10 ∷ rest → length (links ++ l ∷ []) ≡ length links + 1 →
    ReadSoFar bytes links text → ReadSoFar bytes (links ++ l ∷ []) rest
read_more bytes links l text rest e n h =
    h ∙ ap (λ t. behind links (links_from (length links + 1) (lines_in t))) e
    ∙ ap (behind links) (link_first (length links + 1) l rest)
    ∙ one_more links (length links + 1) l (links_from (length links + 1 + 1) (lines_in rest))
    ∙ ap (λ k. behind (links ++ l ∷ []) (links_from (k + 1) (lines_in rest))) (sym n)

-- the bytes after an entry
behind_entry : (text : List ℕ) (l : Link) → text ≡ link_text l ++ 10 ∷ drop 3 text →
    (3 + length (drop 3 text) ≡ length text) × (take (length text - 3) (drop 3 text) ≡ drop 3 text)
behind_entry text l e =
    let long : length (link_text l ++ 10 ∷ drop 3 text) ≡ 3 + length (drop 3 text) = by_link l in
    let n : 3 + length (drop 3 text) ≡ length text = sym (ap length e ∙ long) in
    (n, take-all (length text - 3) (drop 3 text) (omega arith))
  where
    by_link : (l : Link) → length (link_text l ++ 10 ∷ drop 3 text) ≡ 3 + length (drop 3 text)
    by_link Link12 = omega arith
    by_link Link13 = omega arith
    by_link Link21 = omega arith
    by_link Link23 = omega arith
    by_link Link31 = omega arith
    by_link Link32 = omega arith

    take-all : (k : ℕ) (xs : List ℕ) → length xs ≤ k → take k xs ≡ xs
    take-all k xs h = grind (arith, common_steps)

pub read_next : (bytes : List ℕ) (links more : List Link) (l : Link) (text : List ℕ) → more ≡ links ++ l ∷ [] → text ≡ link_text l ++ 10 ∷ drop 3 text →
    ReadSoFar bytes links text → ReadSoFar bytes more (take (length text - 3) (drop 3 text))
read_next bytes links more l text is e h =
    subst (λ ls. ReadSoFar bytes ls (take (length text - 3) (drop 3 text))) (sym is)
    (subst (λ t. ReadSoFar bytes (links ++ l ∷ []) t) (sym (behind_entry text l e).1)
    (read_more bytes links l text (drop 3 text) e (length-append links (l ∷ [])) h))

pub cut_next : (all : ℕ) (links more : List Link) (l : Link) (text : List ℕ) → more ≡ links ++ l ∷ [] → text ≡ link_text l ++ 10 ∷ drop 3 text →
    3 * length links + length text ≡ all → 3 * length more + length (take (length text - 3) (drop 3 text)) ≡ all
cut_next all links more l text is e h =
    let one : length more ≡ length links + 1 = ap length is ∙ length-append links (l ∷ []) in
    let n = (behind_entry text l e).0 in
    let same = ap length (behind_entry text l e).1 in
    omega arith

pub read_all : (bytes : List ℕ) (links : List Link) (rest : List ℕ) → rest ≡ [] → ReadSoFar bytes links rest → links_of bytes ≡ Ok links
read_all bytes links rest none h =
    h ∙ ap (λ t. behind links (links_from (length links + 1) (lines_in t))) none ∙ ap Ok (append-none links)
  where
    append-none : (ls : List Link) → ls ++ [] ≡ ls
    append-none [] = refl
    append-none (l ∷ ls) = ap (λ v. l ∷ v) (append-none ls)

pub read_wrong : (bytes : List ℕ) (links : List Link) (rest : List ℕ) → IsWrong rest → ReadSoFar bytes links rest → links_of bytes ≡ Err (length links + 1)
read_wrong bytes links rest wrong h = h ∙ ap (behind links) (wrong_first (length links + 1) rest wrong)

-- ---- laws

read_from : (number : ℕ) (ls : List Link) → links_from number (lines_in (schedule_bytes ls)) ≡ Ok ls
read_from number [] = refl
read_from number (l ∷ ls) = link_first number l (schedule_bytes ls) ∙ ap (then_later number (Some l)) (read_from (number + 1) ls)

pub read_again : (ls : List Link) → links_of (schedule_bytes ls) ≡ Ok ls
unfolding links_of
read_again ls = read_from 1 ls

pub record FirstWrongFrom (text : List ℕ) (number wrong : ℕ) : Type 0 where
  pub before : List Link
  pub rest : List ℕ
  pub cut : text ≡ schedule_bytes before ++ rest
  pub counted : wrong ≡ length before + number
  pub at : IsWrong rest

-- a text whose lines are these, and its parts after a first line that is a link
module _ (text line next : List ℕ) (lines : List (List ℕ)) (is : lines_in text ≡ line ∷ next ∷ lines) (l : Link) (found : link_in line ≡ Some l) where
  abbrev later : List ℕ
  later = join_with_byte 10 (next ∷ lines)

  cut_first : text ≡ link_text l ++ 10 ∷ later
  cut_first = sym (join_with_byte-slice_split 10 text) ∙ ap (join_with_byte 10) is ∙ ap (λ v. v ++ 10 ∷ later) (one_read all_of line l found)

  later_is : lines_in later ≡ next ∷ lines
  later_is = same_later (sym (line_first l later) ∙ sym (ap lines_in cut_first) ∙ is)
    where
      same_later : link_text l ∷ lines_in later ≡ line ∷ next ∷ lines → lines_in later ≡ next ∷ lines
      same_later e = cc

is_later : {P : Type 0} (x : List ℕ) (xs : List (List ℕ)) (l : Link) (rest : List ℕ) → x ∷ xs ≡ link_text l ∷ lines_in rest →
    (x ≡ link_text l → xs ≡ lines_in rest → P) → P
is_later x xs l rest e more = let a : x ≡ link_text l = cc in let b : xs ≡ lines_in rest = cc in more a b

none_is_some : {P : Type 0} (l : Link) (o : Option Link) → o ≡ None → o ≡ Some l → P
none_is_some l o e f = cc

no_parts : {P : Type 0} (xs : List (List ℕ)) (x : List ℕ) (ys : List (List ℕ)) → [] ≡ xs → xs ≡ x ∷ ys → P
no_parts xs x ys e f = cc

two_parts : {P : Type 0} (x y z : List ℕ) (ys : List (List ℕ)) → x ∷ [] ≡ y ∷ z ∷ ys → P
two_parts x y z ys e = cc

ok_is_err : {P : Type 0} (ls : List Link) (n : ℕ) → Ok ls ≡ Err n → P
ok_is_err ls n e = cc

err_is_ok : {P : Type 0} (ls : List Link) (n : ℕ) → Err n ≡ Ok ls → P
err_is_ok ls n e = cc

same_err : (k n : ℕ) (r : Result (List Link) ℕ) → r ≡ Err k → r ≡ Err n → k ≡ n
same_err k n r e f = cc

same_ok : (a b : List Link) (r : Result (List Link) ℕ) → r ≡ Ok a → r ≡ Ok b → a ≡ b
same_ok a b r e f = cc

read_is : (number : ℕ) (ls : List Link) (text first : List ℕ) (more : List (List ℕ)) → lines_in text ≡ first ∷ more →
    links_from number (first ∷ more) ≡ Ok ls → schedule_bytes ls ≡ text
read_is number ls text first [] is h = by_last first (sym (join_with_byte-slice_split 10 text) ∙ ap (join_with_byte 10) is) h
  where
    by_last : (last : List ℕ) → text ≡ last → at_the_end number last ≡ Ok ls → schedule_bytes ls ≡ text
    by_last [] e g = ap schedule_bytes (sym (same_ok [] ls (Ok []) refl g)) ∙ sym e
    by_last (x ∷ xs) e g = err_is_ok ls number g
read_is number ls text first (next ∷ lines) is h =
    by_link (link_in first) refl (links_from (number + 1) (next ∷ lines)) h (λ ks rest e g. read_is (number + 1) ks rest next lines e g) refl
  where
    by_link : (o : Option Link) → link_in first ≡ o → (r : Result (List Link) ℕ) → then_later number o r ≡ Ok ls →
        ((ks : List Link) (rest : List ℕ) → lines_in rest ≡ next ∷ lines → links_from (number + 1) (next ∷ lines) ≡ Ok ks → schedule_bytes ks ≡ rest) →
        links_from (number + 1) (next ∷ lines) ≡ r → schedule_bytes ls ≡ text
    by_link None found r g more e = err_is_ok ls number g
    by_link (Some l) found (Err wrong) g more e = err_is_ok ls wrong g
    by_link (Some l) found (Ok ks) g more e =
        ap schedule_bytes (sym (same_ok (l ∷ ks) ls (Ok (l ∷ ks)) refl g))
        ∙ ap (λ v. link_text l ++ 10 ∷ v) (more ks (later text first next lines is l found) (later_is text first next lines is l found) e)
        ∙ sym (cut_first text first next lines is l found)

wrong_from : (number wrong : ℕ) (text first : List ℕ) (more : List (List ℕ)) → lines_in text ≡ first ∷ more → links_from number (first ∷ more) ≡ Err wrong →
    FirstWrongFrom text number wrong
wrong_from number wrong text first [] is h = by_last first (sym (join_with_byte-slice_split 10 text) ∙ ap (join_with_byte 10) is) h
  where
    by_last : (last : List ℕ) → text ≡ last → at_the_end number last ≡ Err wrong → FirstWrongFrom text number wrong
    by_last [] e g = ok_is_err [] wrong g
    by_last (x ∷ xs) e g =
        record {
          before = [];
          rest = text;
          cut = refl;
          counted = let n = same_err number wrong (Err number) refl g in omega arith;
          at = (
            λ none. some (sym e ∙ none),
            λ l rest f.
                let p = parted rest in
                is_later first [] l rest (sym is ∙ ap lines_in f ∙ line_first l rest) (λ a b. no_parts (lines_in rest) p.first p.more b p.is),
          );
        }
      where
        some : x ∷ xs ≡ [] → ⊥
        some e = cc
wrong_from number wrong text first (next ∷ lines) is h =
    by_link (link_in first) refl (links_from (number + 1) (next ∷ lines)) h (λ rest e g. wrong_from (number + 1) wrong rest next lines e g) refl
  where
    by_link : (o : Option Link) → link_in first ≡ o → (r : Result (List Link) ℕ) → then_later number o r ≡ Err wrong →
        ((rest : List ℕ) → lines_in rest ≡ next ∷ lines → links_from (number + 1) (next ∷ lines) ≡ Err wrong → FirstWrongFrom rest (number + 1) wrong) →
        links_from (number + 1) (next ∷ lines) ≡ r → FirstWrongFrom text number wrong
    by_link None found r g more e =
        record {
          before = [];
          rest = text;
          cut = refl;
          counted = let n = same_err number wrong (Err number) refl g in omega arith;
          at = (
            λ none. two_parts [] first next lines (sym (ap lines_in none) ∙ is),
            λ l rest f.
                is_later first (next ∷ lines) l rest (sym is ∙ ap lines_in f ∙ line_first l rest)
                (λ a b. none_is_some l (link_in first) found (ap link_in a ∙ link_back l)),
          );
        }
    by_link (Some l) found (Ok ks) g more e = ok_is_err (l ∷ ks) wrong g
    by_link (Some l) found (Err n) g more e =
        let w = more (later text first next lines is l found) (later_is text first next lines is l found) (e ∙ g) in
        let counted = w.counted in
        record {
          before = l ∷ w.before;
          rest = w.rest;
          cut = cut_first text first next lines is l found ∙ ap (λ v. link_text l ++ 10 ∷ v) w.cut
              ∙ sym (append_assoc (link_text l) (10 ∷ schedule_bytes w.before) w.rest);
          counted = omega arith;
          at = w.at;
        }

pub read_was_written : (bytes : List ℕ) (ls : List Link) → links_of bytes ≡ Ok ls → schedule_bytes ls ≡ bytes
unfolding links_of
read_was_written bytes ls h = let p = parted bytes in read_is 1 ls bytes p.first p.more p.is (sym (ap (links_from 1) p.is) ∙ h)

pub first_wrong : (bytes : List ℕ) (number : ℕ) → links_of bytes ≡ Err number → IsFirstWrong bytes number
unfolding links_of
first_wrong bytes number h =
    let p = parted bytes in
    let w = wrong_from 1 number bytes p.first p.more p.is (sym (ap (links_from 1) p.is) ∙ h) in
    record { before = w.before; rest = w.rest; cut = w.cut; counted = w.counted; some = w.at.0; wrong = w.at.1 }

-- ---- writing

append_line : (ls : List Link) (l : Link) → schedule_bytes (ls ++ l ∷ []) ≡ schedule_bytes ls ++ (link_text l ++ 10 ∷ [])
append_line [] l = refl
append_line (k ∷ ks) l = ap (λ v. link_text k ++ 10 ∷ v) (append_line ks l) ∙ sym (append_assoc (link_text k) (10 ∷ schedule_bytes ks) (link_text l ++ 10 ∷ []))

pub line_more : (ls : List Link) (i : ℕ) (d : Link) → i < length ls →
    schedule_bytes (take (i + 1) ls) ≡ schedule_bytes (take i ls) ++ (link_text (get_or ls i d) ++ 10 ∷ [])
line_more ls i d h = ap schedule_bytes (take_more ls i d h) ∙ append_line (take i ls) (get_or ls i d)
