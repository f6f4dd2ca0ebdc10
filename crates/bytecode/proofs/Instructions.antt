-- Instructions are spelled by the numbers that are written of them, and by no others.
use Rattle.std.proofs.Common.{append-nil, sym, ◌≡◌, ℕ, zero, suc, ◌<◌, List, [], ◌∷◌, ◌++◌, length, map, refl, ap, ◌∙◌, subst, arith, IsTrue}
use Rattle.std.proofs.lemmas.Bool.{lt-ltb, ltb-true, and_parts}
use Rattle.bytecode.specs.Raw.{Raw, Literal, Move, Store, Binary, Not, Cast, Classify, Fill, At, Put, Size, Cat, Sum, Bits, Lookup, Declassify, Argument}
use Rattle.bytecode.specs.Raw.{Publish, Assert, Branch, Jump, Call, Return, ReturnNone}
use Rattle.bytecode.specs.declared.version.CodeVersion.TheVariants.{Second}
use Rattle.bytecode.specs.Versions.{is_tag, Counted}
use Rattle.bytecode.specs.Written.{Number, byte, short, source_line, word, instruction_numbers}
use Rattle.bytecode.specs.Writable.{IsProper}
use Rattle.bytecode.specs.Layouts.{behind, Layout, Makes}
use Rattle.bytecode.specs.Decoded.{repeated, short_layout, line_field, shorts, pair_layout, triple_layout, operands, instruction_layout}
use Rattle.bytecode.proofs.Layouts.{Spells, behind_spells, behind_apart}

-- ---- what is written spells

registers_spell : (xs : List ℕ) → Spells (repeated short_layout (length xs)) (map short xs) xs
registers_spell [] = (refl, refl)
registers_spell (x ∷ xs) =
    behind_spells short_layout _ (short x ∷ []) (map short xs) x (x ∷ xs) (x, [], refl, refl, (refl, refl))
    (subst (λ z. Spells (behind (repeated short_layout (length xs)) (λ ys. Makes (x ∷ ys))) z (x ∷ xs)) (append-nil (map short xs))
    (behind_spells (repeated short_layout (length xs)) _ (map short xs) [] xs (x ∷ xs) (registers_spell xs) (refl, refl)))

shorts_spell : {A : Type 0} (xs : List ℕ) (next : List ℕ → Layout A) (rest : List Number) (a : A) → Spells (next xs) rest a
    → Spells (shorts (length xs) next) (map short xs ++ rest) a
shorts_spell xs next rest a s = behind_spells (repeated short_layout (length xs)) next (map short xs) rest xs a (registers_spell xs) s

pub instruction_spells : (i : Raw) → IsProper i → Spells (instruction_layout Counted) (instruction_numbers i) i
instruction_spells (Literal d x) h = (_, _, refl, refl, (_, _, refl, refl, (_, _, refl, refl, (refl, refl))))
instruction_spells (Move d r) h = (_, _, refl, refl, (_, _, refl, refl, (_, _, refl, refl, (refl, refl))))
instruction_spells (Store d r) h = (_, _, refl, refl, (_, _, refl, refl, (_, _, refl, refl, (refl, refl))))
instruction_spells (Binary o d a b line) h =
    (_, _, refl, refl, (_, _, refl, lt-ltb o 14 h, (_, _, refl, refl, (_, _, refl, refl, (_, _, refl, refl, (_, _, refl, refl, (refl, refl)))))))
instruction_spells (Not d r) h = (_, _, refl, refl, (_, _, refl, refl, (_, _, refl, refl, (refl, refl))))
instruction_spells (Cast d r) h = (_, _, refl, refl, (_, _, refl, refl, (_, _, refl, refl, (refl, refl))))
instruction_spells (Classify d r) h = (_, _, refl, refl, (_, _, refl, refl, (_, _, refl, refl, (refl, refl))))
instruction_spells (Fill a b c line) h = (_, _, refl, refl, (_, _, refl, refl, (_, _, refl, refl, (_, _, refl, refl, (_, _, refl, refl, (refl, refl))))))
instruction_spells (At a b c line) h = (_, _, refl, refl, (_, _, refl, refl, (_, _, refl, refl, (_, _, refl, refl, (_, _, refl, refl, (refl, refl))))))
instruction_spells (Put a b c line) h = (_, _, refl, refl, (_, _, refl, refl, (_, _, refl, refl, (_, _, refl, refl, (_, _, refl, refl, (refl, refl))))))
instruction_spells (Size d r) h = (_, _, refl, refl, (_, _, refl, refl, (_, _, refl, refl, (refl, refl))))
instruction_spells (Cat a b c line) h = (_, _, refl, refl, (_, _, refl, refl, (_, _, refl, refl, (_, _, refl, refl, (_, _, refl, refl, (refl, refl))))))
instruction_spells (Sum d r) h = (_, _, refl, refl, (_, _, refl, refl, (_, _, refl, refl, (refl, refl))))
instruction_spells (Bits d r line) h = (_, _, refl, refl, (_, _, refl, refl, (_, _, refl, refl, (_, _, refl, refl, (refl, refl)))))
instruction_spells (Lookup a b c line) h = (_, _, refl, refl, (_, _, refl, refl, (_, _, refl, refl, (_, _, refl, refl, (_, _, refl, refl, (refl, refl))))))
instruction_spells (Declassify d r) h = (_, _, refl, refl, (_, _, refl, refl, (_, _, refl, refl, (refl, refl))))
instruction_spells (Argument d name line) h = (_, _, refl, refl, (_, _, refl, refl, (_, _, refl, refl, (_, _, refl, refl, (refl, refl)))))
instruction_spells (Publish d r) h = (_, _, refl, refl, (_, _, refl, refl, (_, _, refl, refl, (refl, refl))))
instruction_spells (Assert r line) h = (_, _, refl, refl, (_, _, refl, refl, (_, _, refl, refl, (refl, refl))))
instruction_spells (Branch r v target) h = (_, _, refl, refl, (_, _, refl, refl, (_, _, refl, lt-ltb v 2 h, (_, _, refl, refl, (refl, refl)))))
instruction_spells (Jump target) h = (_, _, refl, refl, (_, _, refl, refl, (refl, refl)))
instruction_spells (Return r) h = (_, _, refl, refl, (_, _, refl, refl, (refl, refl)))
instruction_spells (Call f d xs line) h = (
  _,
  _,
  refl,
  refl,
  (
    _,
    _,
    refl,
    refl,
    (
      _,
      _,
      refl,
      refl,
      (
        _,
        _,
        refl,
        refl,
        shorts_spell xs (λ xs. line_field (λ line. Makes (Call f d xs line))) (source_line line ∷ []) (Call f d xs line) (_, _, refl, refl, (refl, refl)),
      ),
    ),
  ),
)
instruction_spells (ReturnNone) h = (_, _, refl, refl, (refl, refl))

-- ---- and what spells is written

-- the numbers after the tag are those of an instruction that is proper
abbrev Told : ℕ → List Number → Raw → Type 0
Told tag ns i = (byte tag ∷ ns ≡ instruction_numbers i) × IsProper i

told : (tag : ℕ) (ns : List Number) (i j : Raw) → i ≡ j → (byte tag ∷ ns ≡ instruction_numbers i) → IsProper i → Told tag ns j
told tag ns i j e same proper = subst (Told tag ns) e (same, proper)

record Shorts {A : Type 0} (n : ℕ) (next : List ℕ → Layout A) (ns : List Number) (a : A) : Type 0 where
  xs : List ℕ
  rest : List Number
  long : length xs ≡ n
  same : ns ≡ map short xs ++ rest
  spells : Spells (next xs) rest a

registers_told : (n : ℕ) (ns : List Number) (xs : List ℕ) → Spells (repeated short_layout n) ns xs → (ns ≡ map short xs) × (length xs ≡ n)
registers_told zero ns xs h = (h.0 ∙ ap (map short) h.1, ap length (sym h.1))
registers_told (suc n) ns xs h =
    let q = behind_apart (repeated short_layout n) (λ ys. Makes (h.0 ∷ ys)) h.1 xs h.4 in
    let ih = registers_told n q.first q.value q.firsts in
    let e : (h.0 ∷ q.value) ≡ xs = q.seconds.1 in
    let tail : h.1 ≡ map short q.value = q.apart ∙ ap (λ z. q.first ++ z) q.seconds.0 ∙ append-nil q.first ∙ ih.0 in
    (h.2 ∙ ap (λ z. short h.0 ∷ z) tail ∙ ap (map short) e, ap length (sym e) ∙ ap suc ih.1)

shorts_told : {A : Type 0} (n : ℕ) (next : List ℕ → Layout A) (ns : List Number) (a : A) → Spells (shorts n next) ns a → Shorts n next ns a
shorts_told n next ns a h =
    let r = behind_apart (repeated short_layout n) next ns a h in
    let q = registers_told n r.first r.value r.firsts in
    record { xs = r.value; rest = r.second; long = q.1; same = r.apart ∙ ap (λ z. z ++ r.second) q.0; spells = r.seconds }

pair_told : (tag : ℕ) (make : ℕ → ℕ → Raw) (ns : List Number) (i : Raw)
    → ((d r : ℕ) → (byte tag ∷ short d ∷ short r ∷ [] ≡ instruction_numbers (make d r)) × IsProper (make d r)) → Spells (pair_layout make) ns i
    → Told tag ns i
pair_told tag make ns i w h =
    let same : ns ≡ short h.0 ∷ short h.4.0 ∷ [] = h.2 ∙ ap (λ z. short h.0 ∷ z) (h.4.2 ∙ ap (λ z. short h.4.0 ∷ z) h.4.4.0) in
    let t = w h.0 h.4.0 in
    told tag ns (make h.0 h.4.0) i h.4.4.1 (ap (λ z. byte tag ∷ z) same ∙ t.0) t.1

abbrev triple : ℕ → ℕ → ℕ → ℕ → List Number
triple a b c line = short a ∷ short b ∷ short c ∷ source_line line ∷ []

triple_same : (make : ℕ → ℕ → ℕ → ℕ → Raw) (ns : List Number) (i : Raw) (h : Spells (triple_layout make) ns i) → ns ≡ triple h.0 h.4.0 h.4.4.0 h.4.4.4.0
triple_same make ns i h =
    h.2 ∙ ap (λ z. short h.0 ∷ z)
    (h.4.2 ∙ ap (λ z. short h.4.0 ∷ z) (h.4.4.2 ∙ ap (λ z. short h.4.4.0 ∷ z) (h.4.4.4.2 ∙ ap (λ z. source_line h.4.4.4.0 ∷ z) h.4.4.4.4.0)))

triple_told : (tag : ℕ) (make : ℕ → ℕ → ℕ → ℕ → Raw) (ns : List Number) (i : Raw)
    → ((a b c line : ℕ) → (byte tag ∷ triple a b c line ≡ instruction_numbers (make a b c line)) × IsProper (make a b c line))
    → Spells (triple_layout make) ns i → Told tag ns i
triple_told tag make ns i w h =
    let t = w h.0 h.4.0 h.4.4.0 h.4.4.4.0 in
    told tag ns (make h.0 h.4.0 h.4.4.0 h.4.4.4.0) i h.4.4.4.4.1 (ap (λ z. byte tag ∷ z) (triple_same make ns i h) ∙ t.0) t.1

literal_told : (ns : List Number) (i : Raw) → Spells (operands Counted 0x01) ns i → Told 0x01 ns i
literal_told ns i h = told 0x01 ns (Literal h.0 h.4.0) i h.4.4.1
    (ap (λ z. byte 0x01 ∷ z) (h.2 ∙ ap (λ z. short h.0 ∷ z) (h.4.2 ∙ ap (λ z. word h.4.0 ∷ z) (h.4.4.0)))) (tt)

bits_told : (ns : List Number) (i : Raw) → Spells (operands Counted 0x0e) ns i → Told 0x0e ns i
bits_told ns i h = told 0x0e ns (Bits h.0 h.4.0 h.4.4.0) i h.4.4.4.1
    (ap (λ z. byte 0x0e ∷ z) (h.2 ∙ ap (λ z. short h.0 ∷ z) (h.4.2 ∙ ap (λ z. short h.4.0 ∷ z) (h.4.4.2 ∙ ap (λ z. source_line h.4.4.0 ∷ z) (h.4.4.4.0))))) (tt)

argument_told : (ns : List Number) (i : Raw) → Spells (operands Counted 0x10) ns i → Told 0x10 ns i
argument_told ns i h = told 0x10 ns (Argument h.0 h.4.0 h.4.4.0) i h.4.4.4.1
    (ap (λ z. byte 0x10 ∷ z) (h.2 ∙ ap (λ z. short h.0 ∷ z) (h.4.2 ∙ ap (λ z. short h.4.0 ∷ z) (h.4.4.2 ∙ ap (λ z. source_line h.4.4.0 ∷ z) (h.4.4.4.0))))) (tt)

assert_told : (ns : List Number) (i : Raw) → Spells (operands Counted 0x12) ns i → Told 0x12 ns i
assert_told ns i h = told 0x12 ns (Assert h.0 h.4.0) i h.4.4.1
    (ap (λ z. byte 0x12 ∷ z) (h.2 ∙ ap (λ z. short h.0 ∷ z) (h.4.2 ∙ ap (λ z. source_line h.4.0 ∷ z) (h.4.4.0)))) (tt)

branch_told : (ns : List Number) (i : Raw) → Spells (operands Counted 0x13) ns i → Told 0x13 ns i
branch_told ns i h = told 0x13 ns (Branch h.0 h.4.0 h.4.4.0) i h.4.4.4.1
    (ap (λ z. byte 0x13 ∷ z) (h.2 ∙ ap (λ z. short h.0 ∷ z) (h.4.2 ∙ ap (λ z. byte h.4.0 ∷ z) (h.4.4.2 ∙ ap (λ z. short h.4.4.0 ∷ z) (h.4.4.4.0)))))
    (ltb-true h.4.0 2 h.4.3)

jump_told : (ns : List Number) (i : Raw) → Spells (operands Counted 0x14) ns i → Told 0x14 ns i
jump_told ns i h = told 0x14 ns (Jump h.0) i h.4.1 (ap (λ z. byte 0x14 ∷ z) (h.2 ∙ ap (λ z. short h.0 ∷ z) (h.4.0))) (tt)

return_told : (ns : List Number) (i : Raw) → Spells (operands Counted 0x17) ns i → Told 0x17 ns i
return_told ns i h = told 0x17 ns (Return h.0) i h.4.1 (ap (λ z. byte 0x17 ∷ z) (h.2 ∙ ap (λ z. short h.0 ∷ z) (h.4.0))) (tt)

returnnone_told : (ns : List Number) (i : Raw) → Spells (operands Counted 0x18) ns i → Told 0x18 ns i
returnnone_told ns i h = told 0x18 ns ReturnNone i h.1 (ap (λ z. byte 0x18 ∷ z) h.0) tt

binary_told : (ns : List Number) (i : Raw) → Spells (operands Counted 0x04) ns i → Told 0x04 ns i
binary_told ns i h =
    let o = h.0 in
    let k = h.4 in
    told 0x04 ns (Binary o k.0 k.4.0 k.4.4.0 k.4.4.4.0) i k.4.4.4.4.1
    (ap (λ z. byte 0x04 ∷ z) (h.2 ∙ ap (λ z. byte o ∷ z) (triple_same (Binary o) h.1 i k))) (ltb-true o 14 h.3)

call_told : (ns : List Number) (i : Raw) → Spells (operands Counted 0x16) ns i → Told 0x16 ns i
call_told ns i h =
    let f = h.0 in
    let d = h.4.0 in
    let n = h.4.4.0 in
    let r = shorts_told n (λ xs. line_field (λ line. Makes (Call f d xs line))) h.4.4.1 i h.4.4.4 in
    let k = r.spells in
    let end : r.rest ≡ source_line k.0 ∷ [] = k.2 ∙ ap (λ z. source_line k.0 ∷ z) k.4.0 in
    told 0x16 ns (Call f d r.xs k.0) i k.4.1
    (ap (λ z. byte 0x16 ∷ z) (h.2 ∙ ap (λ z. short f ∷ z) (h.4.2 ∙ ap (λ z. short d ∷ z)
    (h.4.4.2 ∙ ap (λ m. short m ∷ h.4.4.1) (sym r.long) ∙ ap (λ z. short (length r.xs) ∷ z) (r.same ∙ ap (λ z. map short r.xs ++ z) end))))) tt

abbrev Tells : ℕ → Type 0
Tells tag = (ns : List Number) (i : Raw) → Spells (operands Counted tag) ns i → Told tag ns i

no_tag : {X : Type 0} (tag : ℕ) → 26 < suc tag → IsTrue (is_tag Second tag) → X
no_tag tag l h = absurd (omega (arith, l, ltb-true tag 26 (and_parts _ _ (and_parts _ _ h).0).1))

by_tag : (tag : ℕ) → IsTrue (is_tag Second tag) → Tells tag
by_tag zero h = λ ns i s. cc
by_tag (suc zero) h = literal_told
by_tag (suc (suc zero)) h = λ ns i. pair_told 0x02 Move ns i (λ d r. (refl, tt))
by_tag (suc (suc (suc zero))) h = λ ns i. pair_told 0x03 Store ns i (λ d r. (refl, tt))
by_tag (suc (suc (suc (suc zero)))) h = binary_told
by_tag (suc (suc (suc (suc (suc zero))))) h = λ ns i. pair_told 0x05 Not ns i (λ d r. (refl, tt))
by_tag (suc (suc (suc (suc (suc (suc zero)))))) h = λ ns i. pair_told 0x06 Cast ns i (λ d r. (refl, tt))
by_tag (suc (suc (suc (suc (suc (suc (suc zero))))))) h = λ ns i. pair_told 0x07 Classify ns i (λ d r. (refl, tt))
by_tag (suc (suc (suc (suc (suc (suc (suc (suc zero)))))))) h = λ ns i. triple_told 0x08 Fill ns i (λ a b c line. (refl, tt))
by_tag (suc (suc (suc (suc (suc (suc (suc (suc (suc zero))))))))) h = λ ns i. triple_told 0x09 At ns i (λ a b c line. (refl, tt))
by_tag (suc (suc (suc (suc (suc (suc (suc (suc (suc (suc zero)))))))))) h = λ ns i. triple_told 0x0a Put ns i (λ a b c line. (refl, tt))
by_tag (suc (suc (suc (suc (suc (suc (suc (suc (suc (suc (suc zero))))))))))) h = λ ns i. pair_told 0x0b Size ns i (λ d r. (refl, tt))
by_tag (suc (suc (suc (suc (suc (suc (suc (suc (suc (suc (suc (suc zero)))))))))))) h = λ ns i. triple_told 0x0c Cat ns i (λ a b c line. (refl, tt))
by_tag (suc (suc (suc (suc (suc (suc (suc (suc (suc (suc (suc (suc (suc zero))))))))))))) h = λ ns i. pair_told 0x0d Sum ns i (λ d r. (refl, tt))
by_tag (suc (suc (suc (suc (suc (suc (suc (suc (suc (suc (suc (suc (suc (suc zero)))))))))))))) h = bits_told
by_tag (suc (suc (suc (suc (suc (suc (suc (suc (suc (suc (suc (suc (suc (suc (suc zero))))))))))))))) h =
    λ ns i. pair_told 0x0f Declassify ns i (λ d r. (refl, tt))
by_tag (suc (suc (suc (suc (suc (suc (suc (suc (suc (suc (suc (suc (suc (suc (suc (suc zero)))))))))))))))) h = argument_told
by_tag (suc (suc (suc (suc (suc (suc (suc (suc (suc (suc (suc (suc (suc (suc (suc (suc (suc zero))))))))))))))))) h =
    λ ns i. pair_told 0x11 Publish ns i (λ d r. (refl, tt))
by_tag (suc (suc (suc (suc (suc (suc (suc (suc (suc (suc (suc (suc (suc (suc (suc (suc (suc (suc zero)))))))))))))))))) h = assert_told
by_tag (suc (suc (suc (suc (suc (suc (suc (suc (suc (suc (suc (suc (suc (suc (suc (suc (suc (suc (suc zero))))))))))))))))))) h = branch_told
by_tag (suc (suc (suc (suc (suc (suc (suc (suc (suc (suc (suc (suc (suc (suc (suc (suc (suc (suc (suc (suc zero)))))))))))))))))))) h = jump_told
by_tag (suc (suc (suc (suc (suc (suc (suc (suc (suc (suc (suc (suc (suc (suc (suc (suc (suc (suc (suc (suc (suc zero))))))))))))))))))))) h = λ ns i s. cc
by_tag (suc (suc (suc (suc (suc (suc (suc (suc (suc (suc (suc (suc (suc (suc (suc (suc (suc (suc (suc (suc (suc (suc zero)))))))))))))))))))))) h = call_told
by_tag (suc (suc (suc (suc (suc (suc (suc (suc (suc (suc (suc (suc (suc (suc (suc (suc (suc (suc (suc (suc (suc (suc (suc zero)))))))))))))))))))))))
    h = return_told
by_tag (suc (suc (suc (suc (suc
    (suc (suc (suc (suc (suc (suc (suc (suc (suc (suc (suc (suc (suc (suc (suc (suc (suc (suc (suc zero)))))))))))))))))))))))) h = returnnone_told
by_tag (suc (suc (suc (suc (suc
    (suc (suc (suc (suc (suc (suc (suc (suc (suc (suc (suc (suc (suc (suc (suc (suc (suc (suc (suc (suc zero))))))))))))))))))))))))) h =
    λ ns i. triple_told 0x19 Lookup ns i (λ a b c line. (refl, tt))
by_tag (suc (suc (suc (suc (suc (suc
    (suc (suc (suc (suc (suc (suc (suc (suc (suc (suc (suc (suc (suc (suc (suc (suc (suc (suc (suc (suc tag)))))))))))))))))))))))))) h =
    no_tag (suc (suc (suc (suc (suc
    (suc (suc (suc (suc (suc (suc (suc (suc (suc (suc (suc (suc (suc (suc (suc (suc (suc (suc (suc (suc (suc tag)))))))))))))))))))))))))) (omega arith) h

pub instruction_told : (ns : List Number) (i : Raw) → Spells (instruction_layout Counted) ns i → (ns ≡ instruction_numbers i) × IsProper i
instruction_told ns i h = let t = by_tag h.0 h.3 h.1 i h.4 in (h.2 ∙ t.0, t.1)
