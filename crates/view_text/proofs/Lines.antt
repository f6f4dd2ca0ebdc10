-- Each line is read again, and has no newline in it.
use Rattle.std.proofs.Common.{◌≡◌, ℕ, ◌+◌, ◌<◌, ◌≤◌, ◌^◌, Bool, true, false, if◌then◌else◌, List, [], ◌∷◌, map, drop, refl, sym, ◌∙◌, ap, subst, ne_eqb, arith}
use Rattle.std.specs.Prelude.{codes, bytes_eq, slice_index, not, ◌&&◌, ◌==◌, Option, Some, None, option_map, option_and_then}
use Rattle.std.specs.Fmt.{decimal}
use Rattle.std.proofs.lemmas.Slice.Eq.{bytes_eq-Decides}
use Rattle.sc_text.specs.declared.elements.Element.{Element}
use Rattle.sc_text.specs.declared.elements.Element.TheVariants as elements
use Rattle.sc_text.specs.declared.end.TrapKind.{TrapKind}
use Rattle.sc_text.specs.declared.end.TrapKind.TheVariants as kinds
use Rattle.sc_text.specs.declared.end.TapeOwner.{TapeOwner}
use Rattle.sc_text.specs.declared.end.TapeOwner.TheVariants as owners
use Rattle.sc_text.specs.declared.end.Ending.{Ending}
use Rattle.sc_text.specs.declared.end.Ending.TheVariants as endings
use Rattle.sc_text.specs.declared.end.End.{End}
use Rattle.sc_text.specs.Elements.{element_text}
use Rattle.sc_text.specs.Name.{is_name}
use Rattle.sc_text.specs.End.{trap_word, owner_digit}
use Rattle.proto_core.specs.declared.party.Number.{Number}
use Rattle.proto_core.specs.declared.party.Number.TheVariants.{One, Two, Three}
use Rattle.proto_core.specs.declared.link.Link.{Link}
use Rattle.proto_core.specs.declared.link.Link.TheVariants.{Link12, Link13, Link21, Link23, Link31, Link32}
use Rattle.view_text.specs.View.{Words, IsElement, AreElements, IsEnding}
use Rattle.proto_core.specs.Parties.{number_text, link_text}
use Rattle.view_text.specs.Text.{Line, Heading, Input, Drew, Got, Opened, Ended, line_words}
use Rattle.view_text.specs.Reading.{miner_in, link_in, one_of, traps, owners_of_tapes, below_in, signed_in, element_in, all_in}
use Rattle.view_text.specs.Reading.{word_in, number_in, line_in}
use Rattle.view_text.proofs.Bytes.{Free, AllFree}
use Rattle.view_text.proofs.Decimals.{AreDigits, number_back, decimal_digits, decimal_free, name_free}
use Rattle.view_text.proofs.Found.{both}

pub record IsEnd (e : End) : Type 0 where
  pub how : IsEnding e.how
  pub cost : e.cost < 2 ^ 64

abbrev pub IsLine : Line → Type 0
IsLine (Heading i) = Unit {0}
IsLine (Input s) = (is_name s.name ≡ true) × Words s.words
IsLine (Drew ws) = Words ws
IsLine (Got r) = Words r.message
IsLine (Opened es) = AreElements es
IsLine (Ended e) = IsEnd e

-- ---- words

wide : (n : ℕ) → n < 2 ^ 64 → n < 10 ^ 64
wide n h = omega arith

wide128 : (n : ℕ) → n < 2 ^ 128 → n < 10 ^ 64
wide128 n h = omega arith

wide32 : (n : ℕ) → n < 2 ^ 32 → n < 10 ^ 64
wide32 n h = omega arith

word_back : (n : ℕ) → n < 2 ^ 64 → word_in (decimal n) ≡ Some n
word_back n h = number_back (2 ^ 64) n h (wide n h)

words_in : (ns : List ℕ) → Words ns → all_in word_in (map decimal ns) ≡ Some ns
words_in [] h = refl
words_in (n ∷ ns) h = ap (λ x. both x (all_in word_in (map decimal ns))) (word_back n h.0) ∙ ap (both (Some n)) (words_in ns h.1)

eq_from : (xs ys : List ℕ) → bytes_eq xs ys ≡ true → xs ≡ ys
eq_from xs ys h = (bytes_eq-Decides xs ys).0 h

-- a text whose first byte is no digit isn't that of a number
not_digits : (x : ℕ) (xs ds : List ℕ) → 57 < x → AreDigits ds → bytes_eq (x ∷ xs) ds ≡ false
not_digits x xs ds h digits = by_test (bytes_eq (x ∷ xs) ds) refl
  where
    too_large : {P : Type 0} (d : AreDigits (x ∷ xs)) → P
    too_large d = absurd (let l = d.1 in omega arith)

    by_test : (b : Bool) → bytes_eq (x ∷ xs) ds ≡ b → bytes_eq (x ∷ xs) ds ≡ false
    by_test false e = e
    by_test true e = too_large (subst AreDigits (sym (eq_from (x ∷ xs) ds e)) digits)

-- digits begin with no `-`
no_sign : (ds : List ℕ) → AreDigits ds → (slice_index ds 0 == 45) ≡ false
no_sign [] h = refl
no_sign (d ∷ ds) h = let l : 48 ≤ d = h.0 in grind arith

below_back : (n : ℕ) → 0 < n → n ≤ 2 ^ 63 → below_in (decimal n) ≡ Some n
below_back n some fits =
    ap (option_and_then (λ m. if m == 0 then None else Some m)) (number_back (2 ^ 63 + 1) n (omega (arith, fits)) (omega (arith, fits)))
    ∙ ap (λ b. if b then None else Some n) (ne_eqb n 0 (λ none. omega (arith, some, none)))

signed_back : (n : ℕ) → n < 2 ^ 64 → signed_in (decimal n) ≡ Some (elements.Word n)
signed_back n h =
    ap (λ b. if b then option_map elements.Negative (below_in (drop 1 (decimal n))) else option_map elements.Word (word_in (decimal n)))
    (no_sign (decimal n) (decimal_digits n (wide n h)))
    ∙ ap (option_map elements.Word) (word_back n h)

element_back : (e : Element) → IsElement e → element_in (element_text e) ≡ Some e
unfolding element_text
element_back (elements.Truth true) h = refl
element_back (elements.Truth false) h = refl
element_back (elements.Word n) h =
    let digits = decimal_digits n (wide n h) in
    let word = signed_in (decimal n) in
    ap (λ b. if b then Some (elements.Truth true) else if bytes_eq (codes "false") (decimal n) then Some (elements.Truth false) else word)
    (not_digits 116 (codes "rue") (decimal n) (omega arith) digits)
    ∙ ap (λ b. if b then Some (elements.Truth false) else word)
    (not_digits 102 (codes "alse") (decimal n) (omega arith) digits)
    ∙ signed_back n h
element_back (elements.Negative n) h = ap (option_map elements.Negative) (below_back n h.0 h.1)

elements_in : (es : List Element) → AreElements es → all_in element_in (map element_text es) ≡ Some es
elements_in [] h = refl
elements_in (e ∷ es) h = ap (λ x. both x (all_in element_in (map element_text es))) (element_back e h.0) ∙ ap (both (Some e)) (elements_in es h.1)

miner_back : (i : Number) → miner_in (number_text i) ≡ Some i
miner_back One = refl
miner_back Two = refl
miner_back Three = refl

pub link_back : (l : Link) → link_in (link_text l) ≡ Some l
link_back Link12 = refl
link_back Link13 = refl
link_back Link21 = refl
link_back Link23 = refl
link_back Link31 = refl
link_back Link32 = refl

trap_back : (k : TrapKind) → one_of trap_word traps (trap_word k) ≡ Some k
unfolding trap_word
trap_back kinds.Length = refl
trap_back kinds.Div = refl
trap_back kinds.Index = refl
trap_back kinds.Argument = refl
trap_back kinds.Depth = refl
trap_back kinds.Assert = refl
trap_back kinds.Large = refl

owner_back : (o : TapeOwner) → one_of owner_digit owners_of_tapes (owner_digit o) ≡ Some o
unfolding owner_digit
owner_back owners.Dealer = refl
owner_back owners.Miner1 = refl
owner_back owners.Miner2 = refl
owner_back owners.Miner3 = refl

-- ---- lines

abbrev ends : Ending → Option ℕ → Option End
ends how x = option_and_then (λ n. Some (record { how = how; cost = n })) x

end_back : (how : Ending) (cost : ℕ) → IsEnding how → cost < 2 ^ 64 →
    line_in (line_words (Ended (record { how = how; cost = cost }))) ≡ Some (Ended (record { how = how; cost = cost }))
end_back endings.Done cost h c = ap (λ x. option_map Ended (ends endings.Done x)) (word_back cost c)
end_back endings.Budget cost h c = ap (λ x. option_map Ended (ends endings.Budget x)) (word_back cost c)
end_back (endings.Trap kind line) cost h c =
    let behind : TrapKind → ℕ → Option End = λ k n. ends (endings.Trap k n) (word_in (decimal cost)) in
    ap (λ x. option_map Ended (option_and_then (λ k. option_and_then (behind k) (number_in (2 ^ 32) (decimal line))) x)) (trap_back kind)
    ∙ ap (λ x. option_map Ended (option_and_then (behind kind) x)) (number_back (2 ^ 32) line h (wide32 line h))
    ∙ ap (λ x. option_map Ended (ends (endings.Trap kind line) x)) (word_back cost c)
end_back (endings.Tape owner need have) cost h c =
    let behind : TapeOwner → ℕ → ℕ → Option End = λ o a b. ends (endings.Tape o a b) (word_in (decimal cost)) in
    let counts : TapeOwner → ℕ → Option End = λ o a. option_and_then (behind o a) (word_in (decimal have)) in
    ap (λ x. option_map Ended (option_and_then (λ o. option_and_then (counts o) (number_in (2 ^ 128) (decimal need))) x)) (owner_back owner)
    ∙ ap (λ x. option_map Ended (option_and_then (counts owner) x)) (number_back (2 ^ 128) need h.0 (wide128 need h.0))
    ∙ ap (λ x. option_map Ended (option_and_then (behind owner need) x)) (word_back have h.1)
    ∙ ap (λ x. option_map Ended (ends (endings.Tape owner need have) x)) (word_back cost c)

pub line_back : (l : Line) → IsLine l → line_in (line_words l) ≡ Some l
line_back (Heading i) h = ap (option_map Heading) (miner_back i)
line_back (Input s) h =
    let of_words : List ℕ → List ℕ → Option Line = λ name words. Some (Input (record { name = name; words = words })) in
    ap (λ b. option_and_then (λ name. option_and_then (of_words name) (all_in word_in (map decimal s.words))) (if b then Some s.name else None)) h.0
    ∙ ap (option_and_then (of_words s.name)) (words_in s.words h.1)
line_back (Drew ws) h = ap (option_map Drew) (words_in ws h)
line_back (Got r) h =
    let of_words : Link → List ℕ → Option Line = λ link message. Some (Got (record { link = link; message = message })) in
    ap (λ x. option_and_then (λ link. option_and_then (of_words link) (all_in word_in (map decimal r.message))) x) (link_back r.link)
    ∙ ap (option_and_then (of_words r.link)) (words_in r.message h)
line_back (Opened es) h = ap (option_map Opened) (elements_in es h)
line_back (Ended e) h = end_back e.how e.cost h.how h.cost

-- ---- neither spaces nor newlines in words

abbrev pub NoGap : List ℕ → Type 0
NoGap w = Free 32 w × Free 10 w

abbrev pub NoGaps : List (List ℕ) → Type 0
NoGaps [] = Unit {0}
NoGaps (w ∷ ws) = NoGap w × NoGaps ws

abbrev is_plain : ℕ → Bool
is_plain x = not (x == 32) && not (x == 10)

abbrev are_plain : List ℕ → Bool
are_plain [] = true
are_plain (x ∷ xs) = is_plain x && are_plain xs

clash : {P : Type 0} → false ≡ true → P
clash e = cc

two : (a b c : Bool) → ((not a && not b) && c) ≡ true → (a ≡ false) × (b ≡ false) × (c ≡ true)
two true b c h = clash h
two false true c h = clash h
two false false c h = (refl, refl, h)

-- of a fixed text it is computed
pub plain : (xs : List ℕ) → are_plain xs ≡ true → NoGap xs
plain [] h = (tt, tt)
plain (x ∷ xs) h =
    let t = two (x == 32) (x == 10) (are_plain xs) h in
    let rest = plain xs t.2 in
    ((t.0, rest.0), (t.1, rest.1))

decimal_plain : (n : ℕ) → n < 10 ^ 64 → NoGap (decimal n)
decimal_plain n h = (decimal_free 32 n (omega arith) h, decimal_free 10 n (omega arith) h)

words_plain : (ns : List ℕ) → Words ns → NoGaps (map decimal ns)
words_plain [] h = tt
words_plain (n ∷ ns) h = (decimal_plain n (wide n h.0), words_plain ns h.1)

element_plain : (e : Element) → IsElement e → NoGap (element_text e)
unfolding element_text
element_plain (elements.Truth true) h = plain (codes "true") refl
element_plain (elements.Truth false) h = plain (codes "false") refl
element_plain (elements.Word n) h = decimal_plain n (wide n h)
element_plain (elements.Negative n) h = let digits = decimal_plain n (omega (arith, h.1)) in ((refl, digits.0), (refl, digits.1))

elements_plain : (es : List Element) → AreElements es → NoGaps (map element_text es)
elements_plain [] h = tt
elements_plain (e ∷ es) h = (element_plain e h.0, elements_plain es h.1)

miner_plain : (i : Number) → NoGap (number_text i)
miner_plain One = plain (number_text One) refl
miner_plain Two = plain (number_text Two) refl
miner_plain Three = plain (number_text Three) refl

link_plain : (l : Link) → NoGap (link_text l)
link_plain Link12 = plain (link_text Link12) refl
link_plain Link13 = plain (link_text Link13) refl
link_plain Link21 = plain (link_text Link21) refl
link_plain Link23 = plain (link_text Link23) refl
link_plain Link31 = plain (link_text Link31) refl
link_plain Link32 = plain (link_text Link32) refl

trap_plain : (k : TrapKind) → NoGap (trap_word k)
unfolding trap_word
trap_plain kinds.Length = plain (trap_word kinds.Length) refl
trap_plain kinds.Div = plain (trap_word kinds.Div) refl
trap_plain kinds.Index = plain (trap_word kinds.Index) refl
trap_plain kinds.Argument = plain (trap_word kinds.Argument) refl
trap_plain kinds.Depth = plain (trap_word kinds.Depth) refl
trap_plain kinds.Assert = plain (trap_word kinds.Assert) refl
trap_plain kinds.Large = plain (trap_word kinds.Large) refl

owner_plain : (o : TapeOwner) → NoGap (owner_digit o)
unfolding owner_digit
owner_plain owners.Dealer = plain (owner_digit owners.Dealer) refl
owner_plain owners.Miner1 = plain (owner_digit owners.Miner1) refl
owner_plain owners.Miner2 = plain (owner_digit owners.Miner2) refl
owner_plain owners.Miner3 = plain (owner_digit owners.Miner3) refl

end_plain : (how : Ending) (cost : ℕ) → IsEnding how → cost < 2 ^ 64 → NoGaps (line_words (Ended (record { how = how; cost = cost })))
end_plain endings.Done cost h c =
    (plain (codes "end") refl, (plain (codes "done") refl, (plain (codes "cost") refl, (decimal_plain cost (wide cost c), tt))))
end_plain endings.Budget cost h c =
    (plain (codes "end") refl, (plain (codes "budget") refl, (plain (codes "cost") refl, (decimal_plain cost (wide cost c), tt))))
end_plain (endings.Trap kind line) cost h c = (
  plain (codes "end") refl,
  (
    plain (codes "trap") refl,
    (
      trap_plain kind,
      (
        plain (codes "line") refl,
        (
          decimal_plain line (wide32 line h),
          (plain (codes "cost") refl, (decimal_plain cost (wide cost c), tt)),
        ),
      ),
    ),
  ),
)
end_plain (endings.Tape owner need have) cost h c = (
  plain (codes "end") refl,
  (
    plain (codes "tape") refl,
    (
      owner_plain owner,
      (
        plain (codes "need") refl,
        (
          decimal_plain need (wide128 need h.0),
          (plain (codes "have") refl, (decimal_plain have (wide have h.1), (plain (codes "cost") refl, (decimal_plain cost (wide cost c), tt)))),
        ),
      ),
    ),
  ),
)

pub line_plain : (l : Line) → IsLine l → NoGaps (line_words l)
line_plain (Heading i) h = (plain (codes "view") refl, (miner_plain i, tt))
line_plain (Input s) h = (plain (codes "in") refl, ((name_free 32 refl s.name h.0, name_free 10 refl s.name h.0), words_plain s.words h.1))
line_plain (Drew ws) h = (plain (codes "drew") refl, words_plain ws h)
line_plain (Got r) h = (plain (codes "got") refl, (link_plain r.link, words_plain r.message h))
line_plain (Opened es) h = (plain (codes "open") refl, elements_plain es h)
line_plain (Ended e) h = end_plain e.how e.cost h.how h.cost

pub no_spaces : (ws : List (List ℕ)) → NoGaps ws → AllFree 32 ws
no_spaces [] h = tt
no_spaces (w ∷ ws) h = (h.0.0, no_spaces ws h.1)

pub no_newlines : (ws : List (List ℕ)) → NoGaps ws → AllFree 10 ws
no_newlines [] h = tt
no_newlines (w ∷ ws) h = (h.0.1, no_newlines ws h.1)
