-- The words of which a line is read are those that it is written with.
use Rattle.std.proofs.Common.{◌≡◌, ℕ, zero, suc, ◌+◌, ◌<◌, ◌≤◌, ◌^◌, Bool, true, false, if◌then◌else◌, List, [], ◌∷◌, map, refl, sym, ◌∙◌, ap, subst, arith}
use Rattle.std.specs.Prelude.{◌&&◌, ◌==◌, nat_lt, drop, slice_index, codes, bytes_eq, Option, Some, None, option_map, option_and_then}
use Rattle.std.specs.Fmt.{decimal}
use Rattle.std.specs.Str.Parse.{digits_value}
use Rattle.std.proofs.lemmas.Slice.Eq.{bytes_eq-Decides}
use Rattle.sc_text.specs.declared.elements.Element.{Element}
use Rattle.sc_text.specs.declared.elements.Element.TheVariants as elements
use Rattle.sc_text.specs.declared.end.TrapKind.{TrapKind}
use Rattle.sc_text.specs.declared.end.TapeOwner.{TapeOwner}
use Rattle.sc_text.specs.declared.end.Ending.{Ending}
use Rattle.sc_text.specs.declared.end.Ending.TheVariants as endings
use Rattle.sc_text.specs.declared.end.End.{End}
use Rattle.sc_text.specs.Elements.{element_text}
use Rattle.sc_text.specs.Name.{is_name}
use Rattle.sc_text.specs.End.{trap_word, owner_digit}
use Rattle.proto_core.specs.declared.link.Link.{Link}
use Rattle.view_text.specs.View.{Words, IsElement, AreElements, IsEnding}
use Rattle.proto_core.specs.Parties.{number_text, link_text}
use Rattle.view_text.specs.Text.{Line, Heading, Input, Drew, Got, Opened, Ended, cost_words, ending_words, line_words}
use Rattle.view_text.specs.Reading.{miners, links, traps, owners_of_tapes, miner_in, link_in}
use Rattle.view_text.specs.Reading.{one_of, below_in, signed_in, element_in, all_in, word_in, number_in, name_in}
use Rattle.view_text.specs.Reading.{fixed, cost_in, trap_end_in, tape_end_in, end_in, heading_in, input_in, got_in, line_in}
use Rattle.view_text.proofs.Found.{both, nothing_found, same_found, if_found, then_found, map_found, next_found}
use Rattle.view_text.proofs.Lines.{IsLine, IsEnd}

same_bytes : (xs ys : List ℕ) → bytes_eq xs ys ≡ true → xs ≡ ys
same_bytes xs ys h = (bytes_eq-Decides xs ys).0 h

-- ---- words

less_is : (a b : ℕ) → nat_lt a b ≡ true → a < b
less_is a b h = grind arith

both_true : {P : Type 0} (a b : Bool) → (a && b) ≡ true → (a ≡ true → b ≡ true → P) → P
both_true true b h more = more refl h
both_true false b h more = absurd (let e : false ≡ true = h in cc)

pub number_read : (limit : ℕ) (word : List ℕ) (n : ℕ) → number_in limit word ≡ Some n → (word ≡ decimal n) × (n < limit)
unfolding number_in
number_read limit word n h =
    let value = digits_value 10 word in
    then_found (nat_lt value limit && bytes_eq (decimal value) word) value n h
    (λ holds is. both_true (nat_lt value limit) (bytes_eq (decimal value) word) holds
    (λ less same. (sym (same_bytes (decimal value) word same) ∙ ap decimal is, subst (λ v. v < limit) is (less_is value limit less))))

one_read : {A : Type 0} (text : A → List ℕ) (xs : List A) (word : List ℕ) (x : A) → one_of text xs word ≡ Some x → word ≡ text x
one_read text [] word x h = nothing_found x h
one_read text (y ∷ ys) word x h =
    if_found (bytes_eq (text y) word) (Some y) (one_of text ys word) x h
    (λ same is. sym (same_bytes (text y) word same) ∙ ap text (same_found y x is))
    (λ later. one_read text ys word x later)

fixed_read : (text word : List ℕ) (u : Unit {0}) → fixed text word ≡ Some u → word ≡ text
fixed_read text word u h = then_found (bytes_eq text word) tt u h (λ same is. sym (same_bytes text word same))

abbrev ElementRead : List ℕ → Element → Type 0
ElementRead word e = (word ≡ element_text e) × IsElement e

pub below_read : (word : List ℕ) (n : ℕ) → below_in word ≡ Some n → (word ≡ decimal n) × (0 < n) × (n ≤ 2 ^ 63)
below_read word n h =
    next_found (λ m. if m == 0 then None else Some m) (number_in (2 ^ 63 + 1) word) n h
    (λ m first rest. if_found (m == 0) None (Some m) n rest (λ none is. nothing_found n is)
    (λ is. subst (λ k. (word ≡ decimal k) × (0 < k) × (k ≤ 2 ^ 63)) (same_found m n is) (above m first rest)))
  where
    above : (m : ℕ) → number_in (2 ^ 63 + 1) word ≡ Some m → (if m == 0 then None else Some m) ≡ Some n → (word ≡ decimal m) × (0 < m) × (m ≤ 2 ^ 63)
    above zero first rest = nothing_found n rest
    above (suc m) first rest = let read = number_read (2 ^ 63 + 1) word (suc m) first in (read.0, omega arith, omega (arith, read.1))

-- the sign stands first
sign_first : (word : List ℕ) → (slice_index word 0 == 45) ≡ true → word ≡ 45 ∷ drop 1 word
sign_first [] h = absurd (let e : false ≡ true = h in cc)
sign_first (x ∷ xs) h = let e : x ≡ 45 = grind arith in ap (λ y. y ∷ xs) e

signed_read : (word : List ℕ) (e : Element) → signed_in word ≡ Some e → ElementRead word e
unfolding element_text
signed_read word e h =
    if_found (slice_index word 0 == 45) (option_map elements.Negative (below_in (drop 1 word))) (option_map elements.Word (word_in word)) e h
    (λ sign is. map_found (ElementRead word) elements.Negative (below_in (drop 1 word)) e is
    (λ n found. let read = below_read (drop 1 word) n found in (sign_first word sign ∙ ap (λ ds. 45 ∷ ds) read.0, (read.1, read.2))))
    (λ is. map_found (ElementRead word) elements.Word (word_in word) e is (λ n found. number_read (2 ^ 64) word n found))

element_read : (word : List ℕ) (e : Element) → element_in word ≡ Some e → ElementRead word e
unfolding element_text
element_read word e h =
    if_found (bytes_eq (codes "true") word) (Some (elements.Truth true)) _ e h
    (λ same is. subst (ElementRead word) (same_found (elements.Truth true) e is) (sym (same_bytes (codes "true") word same), tt))
    (λ g. if_found (bytes_eq (codes "false") word) (Some (elements.Truth false)) (signed_in word) e g
    (λ same is. subst (ElementRead word) (same_found (elements.Truth false) e is) (sym (same_bytes (codes "false") word same), tt))
    (λ f. signed_read word e f))

-- of a list each is read
module _ {A P : Type 0} where
  all_read : (one : List ℕ → Option A) (w : List ℕ) (ws : List (List ℕ)) (xs : List A) → all_in one (w ∷ ws) ≡ Some xs →
      ((y : A) (ys : List A) → one w ≡ Some y → all_in one ws ≡ Some ys → y ∷ ys ≡ xs → P) → P
  all_read one w ws xs h more = by_both (one w) (all_in one ws) refl refl h
    where
      by_both : (o : Option A) (os : Option (List A)) → one w ≡ o → all_in one ws ≡ os → both o os ≡ Some xs → P
      by_both None os e f g = nothing_found xs g
      by_both (Some y) None e f g = nothing_found xs g
      by_both (Some y) (Some ys) e f g = more y ys e f (same_found (y ∷ ys) xs g)

abbrev WordsRead : List (List ℕ) → List ℕ → Type 0
WordsRead ws ns = (ws ≡ map decimal ns) × Words ns

words_read : (ws : List (List ℕ)) (ns : List ℕ) → all_in word_in ws ≡ Some ns → WordsRead ws ns
words_read [] ns h = subst (WordsRead []) (same_found [] ns h) (refl, tt)
words_read (w ∷ ws) ns h =
    all_read word_in w ws ns h
    (λ m ms one rest is. put m ms is (number_read (2 ^ 64) w m one) (words_read ws ms rest))
  where
    put : (m : ℕ) (ms : List ℕ) → m ∷ ms ≡ ns → (w ≡ decimal m) × (m < 2 ^ 64) → WordsRead ws ms → WordsRead (w ∷ ws) ns
    put m ms is a b = subst (WordsRead (w ∷ ws)) is (ap (λ v. v ∷ ws) a.0 ∙ ap (λ vs. decimal m ∷ vs) b.0, (a.1, b.1))

abbrev ElementsRead : List (List ℕ) → List Element → Type 0
ElementsRead ws es = (ws ≡ map element_text es) × AreElements es

elements_read : (ws : List (List ℕ)) (es : List Element) → all_in element_in ws ≡ Some es → ElementsRead ws es
elements_read [] es h = subst (ElementsRead []) (same_found [] es h) (refl, tt)
elements_read (w ∷ ws) es h =
    all_read element_in w ws es h
    (λ d ds one rest is. put d ds is (element_read w d one) (elements_read ws ds rest))
  where
    put : (d : Element) (ds : List Element) → d ∷ ds ≡ es → ElementRead w d → ElementsRead ws ds → ElementsRead (w ∷ ws) es
    put d ds is a b = subst (ElementsRead (w ∷ ws)) is (ap (λ v. v ∷ ws) a.0 ∙ ap (λ vs. element_text d ∷ vs) b.0, (a.1, b.1))

-- ---- lines

abbrev pub LineRead : List (List ℕ) → Line → Type 0
LineRead ws l = (ws ≡ line_words l) × IsLine l

abbrev CostRead : Ending → List (List ℕ) → End → Type 0
CostRead how ws e = (how ≡ e.how) × (ws ≡ cost_words e.cost) × (e.cost < 2 ^ 64)

cost_read : (how : Ending) (cost_word cost : List ℕ) (e : End) → cost_in how cost_word cost ≡ Some e →
    CostRead how (cost_word ∷ cost ∷ []) e
cost_read how cost_word cost e h =
    next_found (λ _. option_and_then made (word_in cost)) (fixed (codes "cost") cost_word) e h
    (λ u first rest. next_found made (word_in cost) e rest
    (λ n second is. subst (CostRead how (cost_word ∷ cost ∷ [])) (same_found (record { how = how; cost = n }) e is)
    (with_number n (fixed_read (codes "cost") cost_word u first) (number_read (2 ^ 64) cost n second))))
  where
    made : ℕ → Option End
    made n = Some (record { how = how; cost = n })

    with_number : (n : ℕ) → cost_word ≡ codes "cost" → (cost ≡ decimal n) × (n < 2 ^ 64) →
        CostRead how (cost_word ∷ cost ∷ []) (record { how = how; cost = n })
    with_number n a b = (refl, ap (λ w. w ∷ cost ∷ []) a ∙ ap (λ w. codes "cost" ∷ w ∷ []) b.0, b.1)

abbrev EndRead : List (List ℕ) → End → Type 0
EndRead ws e = (ws ≡ ending_words e.how e.cost) × IsEnd e

-- an end without numbers of its own
plain_end_read : (how : Ending) (name word cost_word cost : List ℕ) (e : End) → IsEnding how →
    ((n : ℕ) → ending_words how n ≡ name ∷ cost_words n) → word ≡ name → cost_in how cost_word cost ≡ Some e →
    EndRead (word ∷ cost_word ∷ cost ∷ []) e
plain_end_read how name word cost_word cost e good written same h =
    let read = cost_read how cost_word cost e h in (
      ap (λ w. w ∷ cost_word ∷ cost ∷ []) same ∙ ap (λ ws. name ∷ ws) read.1 ∙ sym (written e.cost) ∙ ap (λ x. ending_words x e.cost) read.0,
      record { how = subst IsEnding read.0 good; cost = read.2 },
    )

-- words one after another, each the text that is wanted
two_words : (a b x y : List ℕ) (rest more : List (List ℕ)) → a ≡ x → b ≡ y → rest ≡ more → a ∷ b ∷ rest ≡ x ∷ y ∷ more
two_words a b x y rest more e f g = ap (λ w. w ∷ b ∷ rest) e ∙ ap (λ w. x ∷ w ∷ rest) f ∙ ap (λ ws. x ∷ y ∷ ws) g

trap_end_read : (word kind line_word line cost_word cost : List ℕ) (e : End) → word ≡ codes "trap" →
    trap_end_in kind line_word line cost_word cost ≡ Some e →
    EndRead (word ∷ kind ∷ line_word ∷ line ∷ cost_word ∷ cost ∷ []) e
trap_end_read word kind line_word line cost_word cost e same h =
    next_found (λ k. option_and_then (λ _. option_and_then (behind k) (number_in (2 ^ 32) line)) (fixed (codes "line") line_word))
    (one_of trap_word traps kind) e h
    (λ k first after_kind.
    next_found (λ _. option_and_then (behind k) (number_in (2 ^ 32) line)) (fixed (codes "line") line_word) e after_kind
    (λ u second after_word.
    next_found (behind k) (number_in (2 ^ 32) line) e after_word
    (λ n third is. together k n (one_read trap_word traps kind k first) (fixed_read (codes "line") line_word u second) (number_read (2 ^ 32) line n third)
    (cost_read (endings.Trap k n) cost_word cost e is))))
  where
    behind : TrapKind → ℕ → Option End
    behind k n = cost_in (endings.Trap k n) cost_word cost

    together : (k : TrapKind) (n : ℕ) → kind ≡ trap_word k → line_word ≡ codes "line" → (line ≡ decimal n) × (n < 2 ^ 32) →
        CostRead (endings.Trap k n) (cost_word ∷ cost ∷ []) e → EndRead (word ∷ kind ∷ line_word ∷ line ∷ cost_word ∷ cost ∷ []) e
    together k n a b c d = (
      two_words word kind (codes "trap") (trap_word k) _ _ same a (two_words line_word line (codes "line") (decimal n) _ _ b c.0 d.1)
          ∙ ap (λ x. ending_words x e.cost) d.0,
      record { how = subst IsEnding d.0 c.1; cost = d.2 },
    )

tape_end_read : (word owner need_word need have_word have cost_word cost : List ℕ) (e : End) → word ≡ codes "tape" →
    tape_end_in owner need_word need have_word have cost_word cost ≡ Some e →
    EndRead (word ∷ owner ∷ need_word ∷ need ∷ have_word ∷ have ∷ cost_word ∷ cost ∷ []) e
tape_end_read word owner need_word need have_word have cost_word cost e same h =
    next_found (λ o. option_and_then (λ _. option_and_then (needed o) (number_in (2 ^ 128) need)) (fixed (codes "need") need_word))
    (one_of owner_digit owners_of_tapes owner) e h
    (λ o first after_owner.
    next_found (λ _. option_and_then (needed o) (number_in (2 ^ 128) need)) (fixed (codes "need") need_word) e after_owner
    (λ u second after_word.
    next_found (needed o) (number_in (2 ^ 128) need) e after_word
    (λ a third after_need.
    next_found (λ _. option_and_then (behind o a) (word_in have)) (fixed (codes "have") have_word) e after_need
    (λ v fourth after_have.
    next_found (behind o a) (word_in have) e after_have
    (λ b fifth is. together o a b (one_read owner_digit owners_of_tapes owner o first)
    (fixed_read (codes "need") need_word u second) (number_read (2 ^ 128) need a third)
    (fixed_read (codes "have") have_word v fourth) (number_read (2 ^ 64) have b fifth)
    (cost_read (endings.Tape o a b) cost_word cost e is))))))
  where
    behind : TapeOwner → ℕ → ℕ → Option End
    behind o a b = cost_in (endings.Tape o a b) cost_word cost

    needed : TapeOwner → ℕ → Option End
    needed o a = option_and_then (λ _. option_and_then (behind o a) (word_in have)) (fixed (codes "have") have_word)

    together : (o : TapeOwner) (a b : ℕ) → owner ≡ owner_digit o → need_word ≡ codes "need" → (need ≡ decimal a) × (a < 2 ^ 128) →
        have_word ≡ codes "have" → (have ≡ decimal b) × (b < 2 ^ 64) → CostRead (endings.Tape o a b) (cost_word ∷ cost ∷ []) e →
        EndRead (word ∷ owner ∷ need_word ∷ need ∷ have_word ∷ have ∷ cost_word ∷ cost ∷ []) e
    together o a b is_owner is_need n is_have m d = (
      two_words word owner (codes "tape") (owner_digit o) _ _ same is_owner
          (two_words need_word need (codes "need") (decimal a) _ _ is_need n.0
          (two_words have_word have (codes "have") (decimal b) _ _ is_have m.0 d.1))
          ∙ ap (λ x. ending_words x e.cost) d.0,
      record { how = subst IsEnding d.0 (n.1, m.1); cost = d.2 },
    )

end_read : (ws : List (List ℕ)) (e : End) → end_in ws ≡ Some e → EndRead ws e
end_read [] e h = nothing_found e h
end_read (word ∷ []) e h = nothing_found e h
end_read (word ∷ a ∷ []) e h = nothing_found e h
end_read (word ∷ cost_word ∷ cost ∷ []) e h =
    if_found (bytes_eq (codes "done") word) (cost_in endings.Done cost_word cost) _ e h
    (λ same is. plain_end_read endings.Done (codes "done") word cost_word cost e tt (λ n. refl) (sym (same_bytes (codes "done") word same)) is)
    (λ g. if_found (bytes_eq (codes "budget") word) (cost_in endings.Budget cost_word cost) None e g
    (λ same is. plain_end_read endings.Budget (codes "budget") word cost_word cost e tt (λ n. refl) (sym (same_bytes (codes "budget") word same)) is)
    (λ none. nothing_found e none))
end_read (word ∷ a ∷ b ∷ c ∷ []) e h = nothing_found e h
end_read (word ∷ a ∷ b ∷ c ∷ d ∷ []) e h = nothing_found e h
end_read (word ∷ kind ∷ line_word ∷ line ∷ cost_word ∷ cost ∷ []) e h =
    if_found (bytes_eq (codes "trap") word) (trap_end_in kind line_word line cost_word cost) None e h
    (λ same is. trap_end_read word kind line_word line cost_word cost e (sym (same_bytes (codes "trap") word same)) is)
    (λ none. nothing_found e none)
end_read (word ∷ a ∷ b ∷ c ∷ d ∷ f ∷ g ∷ []) e h = nothing_found e h
end_read (word ∷ owner ∷ need_word ∷ need ∷ have_word ∷ have ∷ cost_word ∷ cost ∷ []) e h =
    if_found (bytes_eq (codes "tape") word) (tape_end_in owner need_word need have_word have cost_word cost) None e h
    (λ same is. tape_end_read word owner need_word need have_word have cost_word cost e (sym (same_bytes (codes "tape") word same)) is)
    (λ none. nothing_found e none)
end_read (word ∷ a ∷ b ∷ c ∷ d ∷ f ∷ g ∷ i ∷ j ∷ more) e h = nothing_found e h

heading_read : (ws : List (List ℕ)) (l : Line) → heading_in ws ≡ Some l → LineRead (codes "view" ∷ ws) l
heading_read [] l h = nothing_found l h
heading_read (w ∷ []) l h =
    map_found (LineRead (codes "view" ∷ w ∷ [])) Heading (miner_in w) l h
    (λ i is. (ap (λ v. codes "view" ∷ v ∷ []) (one_read number_text miners w i is), tt))
heading_read (w ∷ v ∷ vs) l h = nothing_found l h

input_read : (ws : List (List ℕ)) (l : Line) → input_in ws ≡ Some l → LineRead (codes "in" ∷ ws) l
input_read [] l h = nothing_found l h
input_read (w ∷ ws) l h =
    next_found (λ name. option_and_then (made name) (all_in word_in ws)) (name_in w) l h
    (λ name first rest. next_found (made name) (all_in word_in ws) l rest
    (λ ns second is. then_found (is_name w) w name first
    (λ good same. subst (LineRead (codes "in" ∷ w ∷ ws)) (same_found _ l is) (together name ns good same (words_read ws ns second)))))
  where
    made : List ℕ → List ℕ → Option Line
    made name words = Some (Input (record { name = name; words = words }))

    together : (name ns : List ℕ) → is_name w ≡ true → w ≡ name → WordsRead ws ns →
        LineRead (codes "in" ∷ w ∷ ws) (Input (record { name = name; words = ns }))
    together name ns good same read =
        (ap (λ v. codes "in" ∷ v ∷ ws) same ∙ ap (λ vs. codes "in" ∷ name ∷ vs) read.0, (subst (λ v. is_name v ≡ true) same good, read.1))

got_read : (ws : List (List ℕ)) (l : Line) → got_in ws ≡ Some l → LineRead (codes "got" ∷ ws) l
got_read [] l h = nothing_found l h
got_read (w ∷ ws) l h =
    next_found (λ link. option_and_then (made link) (all_in word_in ws)) (link_in w) l h
    (λ link first rest. next_found (made link) (all_in word_in ws) l rest
    (λ ns second is. subst (LineRead (codes "got" ∷ w ∷ ws)) (same_found _ l is)
    (together link ns (one_read link_text links w link first) (words_read ws ns second))))
  where
    made : Link → List ℕ → Option Line
    made link message = Some (Got (record { link = link; message = message }))

    together : (link : Link) (ns : List ℕ) → w ≡ link_text link → WordsRead ws ns →
        LineRead (codes "got" ∷ w ∷ ws) (Got (record { link = link; message = ns }))
    together link ns same read =
        (ap (λ v. codes "got" ∷ v ∷ ws) same ∙ ap (λ vs. codes "got" ∷ link_text link ∷ vs) read.0, read.1)

-- the first word is the line's
named : (name w : List ℕ) (ws : List (List ℕ)) (l : Line) → bytes_eq name w ≡ true → LineRead (name ∷ ws) l → LineRead (w ∷ ws) l
named name w ws l same read = (ap (λ v. v ∷ ws) (sym (same_bytes name w same)) ∙ read.0, read.1)

pub line_read : (ws : List (List ℕ)) (l : Line) → line_in ws ≡ Some l → LineRead ws l
line_read [] l h = nothing_found l h
line_read (w ∷ ws) l h =
    if_found (bytes_eq (codes "view") w) (heading_in ws) _ l h (λ same is. named (codes "view") w ws l same (heading_read ws l is))
    (λ h1. if_found (bytes_eq (codes "in") w) (input_in ws) _ l h1 (λ same is. named (codes "in") w ws l same (input_read ws l is))
    (λ h2. if_found (bytes_eq (codes "drew") w) (option_map Drew (all_in word_in ws)) _ l h2
    (λ same is. named (codes "drew") w ws l same (map_found (LineRead (codes "drew" ∷ ws)) Drew (all_in word_in ws) l is
    (λ ns all. let read = words_read ws ns all in (ap (λ vs. codes "drew" ∷ vs) read.0, read.1))))
    (λ h3. if_found (bytes_eq (codes "got") w) (got_in ws) _ l h3 (λ same is. named (codes "got") w ws l same (got_read ws l is))
    (λ h4. if_found (bytes_eq (codes "open") w) (option_map Opened (all_in element_in ws)) _ l h4
    (λ same is. named (codes "open") w ws l same (map_found (LineRead (codes "open" ∷ ws)) Opened (all_in element_in ws) l is
    (λ es all. let read = elements_read ws es all in (ap (λ vs. codes "open" ∷ vs) read.0, read.1))))
    (λ h5. if_found (bytes_eq (codes "end") w) (option_map Ended (end_in ws)) None l h5
    (λ same is. named (codes "end") w ws l same (map_found (LineRead (codes "end" ∷ ws)) Ended (end_in ws) l is
    (λ e all. let read = end_read ws e all in (ap (λ vs. codes "end" ∷ vs) read.0, read.1))))
    (λ none. nothing_found l none))))))
