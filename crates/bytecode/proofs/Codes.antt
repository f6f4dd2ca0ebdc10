-- A whole text: what is written of code is read again, and what is read is what would be written.
use Rattle.std.proofs.Common.{◌≡◌, ℕ, zero, suc, ◌==◌, ◌&&◌, ◌||◌, ◌<◌, nat_lt, List, [], ◌∷◌, ◌++◌, length, map, Bool, true, false, Option, None, Some, Ok, Err}
use Rattle.std.proofs.Common.{refl, sym, ap, ◌∙◌, subst, inl, inr, arith, append-nil, IsTrue, if◌then◌else◌}
use Rattle.std.proofs.lemmas.Bool.{lt-ltb, ltb-true, eqb-true, or_cases, and_parts}
use Rattle.std.specs.List.{AllByRecursion as Each, All, flat_map}
use Rattle.sc_text.specs.Name.{is_name}
use Rattle.program_trees.specs.declared.expression.DataType.{DataType}
use Rattle.program_trees.specs.declared.expression.DataType.TheVariants as types
use Rattle.bytecode.specs.declared.kind.Kind.{Kind}
use Rattle.bytecode.specs.Kinds.{kind_byte, is_kind, kind_of, return_byte, is_return, return_of}
use Rattle.bytecode.specs.Raw.{Raw, RawFunction, RawCode}
use Rattle.bytecode.specs.Written.{Number, byte, short, bytes_of, instruction_numbers, head_numbers, body_numbers, name_numbers, code_numbers, written_code}
use Rattle.bytecode.specs.Versions.{Counted}
use Rattle.bytecode.specs.declared.version.CodeVersion.TheVariants.{Second}
use Rattle.bytecode.specs.Writable.{Fits, IsProper, AreNewNames, AreProper, IsWritable}
use Rattle.bytecode.specs.Layouts.{is_name_length, Layout, Makes, Field, Read, read, behind}
use Rattle.bytecode.specs.Decoded.{repeated, kind_layout, instruction_layout, body_layout, Head, kinds, head_layout, heads_layout, names_layout}
use Rattle.bytecode.specs.Decoded.{function_of, bodies_layout, functions_layout, code_layout, ended, whole, decoded}
use Rattle.bytecode.proofs.Layouts.{Spells, layout_reads, AreBytes, Spelled, layout_spelled, behind_spells, behind_apart}
use Rattle.bytecode.proofs.Instructions.{instruction_spells, instruction_told}

-- ---- kinds

of_parts : (s : Bool) (e : DataType) (a : Bool)
    → (kind_of (kind_byte (record { secret = s; element = e; array = a })) ≡ record { secret = s; element = e; array = a })
    × IsTrue (is_kind Second (kind_byte (record { secret = s; element = e; array = a })))
of_parts false types.Uint64 false = (refl, refl)
of_parts true types.Uint64 false = (refl, refl)
of_parts false types.Int64 false = (refl, refl)
of_parts true types.Int64 false = (refl, refl)
of_parts false types.Bool false = (refl, refl)
of_parts true types.Bool false = (refl, refl)
of_parts false types.Uint64 true = (refl, refl)
of_parts true types.Uint64 true = (refl, refl)
of_parts false types.Int64 true = (refl, refl)
of_parts true types.Int64 true = (refl, refl)
of_parts false types.Bool true = (refl, refl)
of_parts true types.Bool true = (refl, refl)

pub kind_back : (k : Kind) → kind_of (kind_byte k) ≡ k
kind_back k = (of_parts k.secret k.element k.array).0

pub byte_is_kind : (k : Kind) → IsTrue (is_kind Second (kind_byte k))
byte_is_kind k = (of_parts k.secret k.element k.array).1

-- no byte above the last one is a kind
no_kind : {X : Type 0} (b : ℕ) → 13 < b → IsTrue (is_kind Second b) → X
no_kind b l h = elim (or_cases (nat_lt b 10) (nat_lt 11 b && nat_lt b 14) h)
    [ inl low ↦ absurd (omega (arith, l, ltb-true b 10 low)) | inr high ↦ absurd (omega (arith, l, ltb-true b 14 (and_parts _ _ high).1)) ]

pub byte_back : (b : ℕ) → IsTrue (is_kind Second b) → kind_byte (kind_of b) ≡ b
byte_back zero h = refl
byte_back (suc zero) h = refl
byte_back (suc (suc zero)) h = refl
byte_back (suc (suc (suc zero))) h = refl
byte_back (suc (suc (suc (suc zero)))) h = refl
byte_back (suc (suc (suc (suc (suc zero))))) h = refl
byte_back (suc (suc (suc (suc (suc (suc zero)))))) h = refl
byte_back (suc (suc (suc (suc (suc (suc (suc zero))))))) h = refl
byte_back (suc (suc (suc (suc (suc (suc (suc (suc zero)))))))) h = refl
byte_back (suc (suc (suc (suc (suc (suc (suc (suc (suc zero))))))))) h = refl
byte_back (suc (suc (suc (suc (suc (suc (suc (suc (suc (suc zero)))))))))) h = cc
byte_back (suc (suc (suc (suc (suc (suc (suc (suc (suc (suc (suc zero))))))))))) h = cc
byte_back (suc (suc (suc (suc (suc (suc (suc (suc (suc (suc (suc (suc zero)))))))))))) h = refl
byte_back (suc (suc (suc (suc (suc (suc (suc (suc (suc (suc (suc (suc (suc zero))))))))))))) h = refl
byte_back (suc (suc (suc (suc (suc (suc (suc (suc (suc (suc (suc (suc (suc (suc b)))))))))))))) h =
    no_kind (suc (suc (suc (suc (suc (suc (suc (suc (suc (suc (suc (suc (suc (suc b)))))))))))))) (omega arith) h

or_right : (a b : Bool) → IsTrue b → IsTrue (a || b)
or_right true b h = refl
or_right false b h = h

or_left : (a b : Bool) → IsTrue a → IsTrue (a || b)
or_left true b h = refl
or_left false b h = cc

not_255 : (s : Bool) (e : DataType) (a : Bool)
    → return_of (kind_byte (record { secret = s; element = e; array = a })) ≡ Some (kind_of (kind_byte (record { secret = s; element = e; array = a })))
not_255 false types.Uint64 false = refl
not_255 true types.Uint64 false = refl
not_255 false types.Int64 false = refl
not_255 true types.Int64 false = refl
not_255 false types.Bool false = refl
not_255 true types.Bool false = refl
not_255 false types.Uint64 true = refl
not_255 true types.Uint64 true = refl
not_255 false types.Int64 true = refl
not_255 true types.Int64 true = refl
not_255 false types.Bool true = refl
not_255 true types.Bool true = refl

pub return_back : (gives : Option Kind) → (return_of (return_byte gives) ≡ gives) × IsTrue (is_return Second (return_byte gives))
return_back None = (refl, refl)
return_back (Some k) = (not_255 k.secret k.element k.array ∙ ap Some (kind_back k), or_left (is_kind Second (kind_byte k)) _ (byte_is_kind k))

pub return_byte_back : (b : ℕ) → IsTrue (is_return Second b) → return_byte (return_of b) ≡ b
return_byte_back b h = go (b == 255) refl
  where
    below : (b == 255) ≡ false → IsTrue (is_kind Second b)
    below e = elim (or_cases (is_kind Second b) (b == 255) h) [ inl l ↦ l | inr r ↦ cc ]

    go : (t : Bool) → (b == 255) ≡ t → return_byte (return_of b) ≡ b
    go true e = ap (λ t. return_byte (if t then None else Some (kind_of b))) e ∙ sym (eqb-true b 255 e)
    go false e = ap (λ t. return_byte (if t then None else Some (kind_of b))) e ∙ byte_back b (below e)

abbrev kind_numbers : List Kind → List Number
kind_numbers = map (λ k. byte (kind_byte k))

all_kinds_spell : (ks : List Kind) → Spells (repeated (kind_layout Second) (length ks)) (kind_numbers ks) ks
all_kinds_spell [] = (refl, refl)
all_kinds_spell (k ∷ ks) =
    behind_spells (kind_layout Second) (λ k. behind (repeated (kind_layout Second) (length ks)) (λ ys. Makes (k ∷ ys))) (byte (kind_byte k) ∷ []) (kind_numbers ks) k
    (k ∷ ks) (kind_byte k, [], refl, byte_is_kind k, (refl, kind_back k))
    (subst (λ z. Spells (behind (repeated (kind_layout Second) (length ks)) (λ ys. Makes (k ∷ ys))) z (k ∷ ks)) (append-nil (kind_numbers ks))
    (behind_spells (repeated (kind_layout Second) (length ks)) _ (kind_numbers ks) [] ks (k ∷ ks) (all_kinds_spell ks) (refl, refl)))

kinds_spell : {A : Type 0} (ks : List Kind) (next : List Kind → Layout A) (rest : List Number) (a : A) → Spells (next ks) rest a
    → Spells (kinds Second (length ks) next) (kind_numbers ks ++ rest) a
kinds_spell ks next rest a s = behind_spells (repeated (kind_layout Second) (length ks)) next (kind_numbers ks) rest ks a (all_kinds_spell ks) s

record KindsTold {A : Type 0} (n : ℕ) (next : List Kind → Layout A) (ns : List Number) (a : A) : Type 0 where
  ks : List Kind
  rest : List Number
  long : length ks ≡ n
  same : ns ≡ kind_numbers ks ++ rest
  spells : Spells (next ks) rest a

all_kinds_told : (n : ℕ) (ns : List Number) (ks : List Kind) → Spells (repeated (kind_layout Second) n) ns ks → (ns ≡ kind_numbers ks) × (length ks ≡ n)
all_kinds_told zero ns ks h = (h.0 ∙ ap (λ z. kind_numbers z) h.1, ap length (sym h.1))
all_kinds_told (suc n) ns ks h =
    let k = kind_of h.0 in
    let q = behind_apart (repeated (kind_layout Second) n) (λ ys. Makes (k ∷ ys)) h.1 ks h.4 in
    let ih = all_kinds_told n q.first q.value q.firsts in
    let e : (k ∷ q.value) ≡ ks = q.seconds.1 in
    let tail : h.1 ≡ kind_numbers q.value = q.apart ∙ ap (λ z. q.first ++ z) q.seconds.0 ∙ append-nil q.first ∙ ih.0 in (
      h.2 ∙ ap (λ z. byte z ∷ h.1) (sym (byte_back h.0 h.3)) ∙ ap (λ z. byte (kind_byte k) ∷ z) tail ∙ ap (λ z. kind_numbers z) e,
      ap length (sym e)
          ∙ ap suc ih.1,
    )

kinds_told : {A : Type 0} (n : ℕ) (next : List Kind → Layout A) (ns : List Number) (a : A) → Spells (kinds Second n next) ns a → KindsTold n next ns a
kinds_told n next ns a h =
    let r = behind_apart (repeated (kind_layout Second) n) next ns a h in
    let q = all_kinds_told n r.first r.value r.firsts in
    record { ks = r.value; rest = r.second; long = q.1; same = r.apart ∙ ap (λ z. z ++ r.second) q.0; spells = r.seconds }

-- ---- heads

abbrev head_of : RawFunction → Head
head_of f = record { parameters = f.parameters; gives = f.gives; registers = f.registers; instructions = length f.body }

head_spells : (f : RawFunction) → Spells (head_layout Second) (head_numbers f) (head_of f)
head_spells f =
    let r = return_back f.gives in (
      _,
      _,
      refl,
      refl,
      (
        _,
        _,
        refl,
        r.1,
        (
          _,
          _,
          refl,
          refl,
          kinds_spell f.registers _ (short (length f.body) ∷ []) (head_of f)
              (_, _, refl, refl, (refl, ap (λ g. record { parameters = f.parameters; gives = g; registers = f.registers; instructions = length f.body }) r.0)),
        ),
      ),
    )

-- the numbers of a head, whatever the body
abbrev numbers_of_head : Head → List Number
numbers_of_head h =
    short h.parameters ∷ byte (return_byte h.gives) ∷ short (length h.registers) ∷ (kind_numbers h.registers ++ short h.instructions ∷ [])

head_told : (ns : List Number) (head : Head) → Spells (head_layout Second) ns head → ns ≡ numbers_of_head head
head_told ns head h =
    let p = h.0 in
    let b = h.4.0 in
    let n = h.4.4.0 in
    let r = kinds_told n (λ ks. Field _ 2 _ (λ count. Makes (record { parameters = p; gives = return_of b; registers = ks; instructions = count })))
    h.4.4.1 head h.4.4.4 in
    let s = r.spells in
    let count = s.0 in
    let made : Head = record { parameters = p; gives = return_of b; registers = r.ks; instructions = count } in
    let end : r.rest ≡ short count ∷ [] = s.2 ∙ ap (λ z. short count ∷ z) s.4.0 in
    let same : ns ≡ numbers_of_head made =
    h.2 ∙ ap (λ z. short p ∷ z) (h.4.2 ∙ ap (λ z. byte z ∷ h.4.1) (sym (return_byte_back b h.4.3)) ∙ ap (λ z. byte (return_byte (return_of b)) ∷ z)
    (h.4.4.2 ∙ ap (λ z. short z ∷ h.4.4.1) (sym r.long) ∙ ap (λ z. short (length r.ks) ∷ z) (r.same ∙ ap (λ z. kind_numbers r.ks ++ z) end))) in
    same ∙ ap numbers_of_head s.4.1

heads_spell : (fs : List RawFunction) → Spells (heads_layout Second (length fs)) (flat_map head_numbers fs) (map head_of fs)
heads_spell [] = (refl, refl)
heads_spell (f ∷ fs) =
    behind_spells (head_layout Second) _ (head_numbers f) (flat_map head_numbers fs) (head_of f) (map head_of (f ∷ fs)) (head_spells f)
    (subst (λ z. Spells (behind (heads_layout Second (length fs)) (λ hs. Makes (head_of f ∷ hs))) z (map head_of (f ∷ fs))) (append-nil (flat_map head_numbers fs))
    (behind_spells (heads_layout Second (length fs)) _ (flat_map head_numbers fs) [] (map head_of fs) (map head_of (f ∷ fs)) (heads_spell fs) (refl, refl)))

heads_told : (n : ℕ) (ns : List Number) (hs : List Head) → Spells (heads_layout Second n) ns hs → (ns ≡ flat_map numbers_of_head hs) × (length hs ≡ n)
heads_told zero ns hs h = (h.0 ∙ ap (λ z. flat_map numbers_of_head z) h.1, ap length (sym h.1))
heads_told (suc n) ns hs h =
    let r = behind_apart (head_layout Second) (λ h. behind (heads_layout Second n) (λ hs. Makes (h ∷ hs))) ns hs h in
    let q = behind_apart (heads_layout Second n) (λ hs. Makes (r.value ∷ hs)) r.second hs r.seconds in
    let ih = heads_told n q.first q.value q.firsts in
    let e : (r.value ∷ q.value) ≡ hs = q.seconds.1 in
    let tail : r.second ≡ flat_map numbers_of_head q.value = q.apart ∙ ap (λ z. q.first ++ z) q.seconds.0 ∙ append-nil q.first ∙ ih.0 in (
      r.apart ∙ ap (λ z. z ++ r.second) (head_told r.first r.value r.firsts) ∙ ap (λ z. numbers_of_head r.value ++ z) tail
          ∙ ap (λ z. flat_map numbers_of_head z) e,
      ap length (sym e) ∙ ap suc ih.1,
    )

-- ---- names

is_name_short : (name : List ℕ) → IsTrue (is_name name) → IsTrue (is_name_length (length name))
unfolding is_name
is_name_short name h = (and_parts _ _ h).0

names_spell : (earlier names : List (List ℕ)) → AreNewNames earlier names → Spells (names_layout earlier (length names)) (flat_map name_numbers names) names
names_spell earlier [] h = (refl, refl)
names_spell earlier (name ∷ names) h = (
  name,
  flat_map name_numbers names,
  refl,
  is_name_short name (and_parts _ _ h.0).0,
  h.0,
  subst (λ z. Spells (behind (names_layout (name ∷ earlier) (length names)) (λ ns. Makes (name ∷ ns))) z (name ∷ names))
      (append-nil (flat_map name_numbers names))
      (behind_spells (names_layout (name ∷ earlier) (length names)) _ (flat_map name_numbers names) [] names (name ∷ names)
      (names_spell (name ∷ earlier) names h.1) (refl, refl)),
)

names_told : (earlier : List (List ℕ)) (n : ℕ) (ns : List Number) (names : List (List ℕ)) → Spells (names_layout earlier n) ns names
    → (ns ≡ flat_map name_numbers names) × (length names ≡ n) × AreNewNames earlier names
names_told earlier zero ns names h =
    (h.0 ∙ ap (λ z. flat_map name_numbers z) h.1, ap length (sym h.1), subst (AreNewNames earlier) h.1 tt)
names_told earlier (suc n) ns names h =
    let q = behind_apart (names_layout (h.0 ∷ earlier) n) (λ names. Makes (h.0 ∷ names)) h.1 names h.5 in
    let ih = names_told (h.0 ∷ earlier) n q.first q.value q.firsts in
    let e : (h.0 ∷ q.value) ≡ names = q.seconds.1 in
    let tail : h.1 ≡ flat_map name_numbers q.value = q.apart ∙ ap (λ z. q.first ++ z) q.seconds.0 ∙ append-nil q.first ∙ ih.0 in (
      h.2 ∙ ap (λ z. name_numbers h.0 ++ z) tail ∙ ap (λ z. flat_map name_numbers z) e,
      ap length (sym e) ∙ ap suc ih.1,
      subst (AreNewNames earlier) e (h.4, ih.2),
    )

-- ---- bodies

body_spells : (is : List Raw) → Each IsProper is → Spells (body_layout Counted (length is)) (flat_map instruction_numbers is) is
body_spells [] h = (refl, refl)
body_spells (i ∷ is) h =
    behind_spells (instruction_layout Counted) _ (instruction_numbers i) (flat_map instruction_numbers is) i (i ∷ is) (instruction_spells i h.0)
    (subst (λ z. Spells (behind (body_layout Counted (length is)) (λ js. Makes (i ∷ js))) z (i ∷ is)) (append-nil (flat_map instruction_numbers is))
    (behind_spells (body_layout Counted (length is)) _ (flat_map instruction_numbers is) [] is (i ∷ is) (body_spells is h.1) (refl, refl)))

body_told : (n : ℕ) (ns : List Number) (is : List Raw) → Spells (body_layout Counted n) ns is
    → (ns ≡ flat_map instruction_numbers is) × (length is ≡ n) × Each IsProper is
body_told zero ns is h = (h.0 ∙ ap (λ z. flat_map instruction_numbers z) h.1, ap length (sym h.1), subst (Each IsProper) h.1 tt)
body_told (suc n) ns is h =
    let r = behind_apart (instruction_layout Counted) (λ i. behind (body_layout Counted n) (λ is. Makes (i ∷ is))) ns is h in
    let q = behind_apart (body_layout Counted n) (λ is. Makes (r.value ∷ is)) r.second is r.seconds in
    let ih = body_told n q.first q.value q.firsts in
    let i = instruction_told r.first r.value r.firsts in
    let e : (r.value ∷ q.value) ≡ is = q.seconds.1 in
    let tail : r.second ≡ flat_map instruction_numbers q.value = q.apart ∙ ap (λ z. q.first ++ z) q.seconds.0 ∙ append-nil q.first ∙ ih.0 in (
      r.apart ∙ ap (λ z. z ++ r.second) i.0 ∙ ap (λ z. instruction_numbers r.value ++ z) tail ∙ ap (λ z. flat_map instruction_numbers z) e,
      ap length (sym e) ∙ ap suc ih.1,
      subst (Each IsProper) e (i.1, ih.2),
    )

bodies_spell : (fs : List RawFunction) → AreProper fs → Spells (bodies_layout Counted (map head_of fs)) (flat_map body_numbers fs) fs
bodies_spell [] h = (refl, refl)
bodies_spell (f ∷ fs) h =
    behind_spells (body_layout Counted (length f.body)) _ (body_numbers f) (flat_map body_numbers fs) f.body (f ∷ fs) (body_spells f.body h.0)
    (subst (λ z. Spells (behind (bodies_layout Counted (map head_of fs)) (λ gs. Makes (f ∷ gs))) z (f ∷ fs)) (append-nil (flat_map body_numbers fs))
    (behind_spells (bodies_layout Counted (map head_of fs)) _ (flat_map body_numbers fs) [] fs (f ∷ fs) (bodies_spell fs h.1) (refl, refl)))

record BodiesTold (hs : List Head) (ns : List Number) (fs : List RawFunction) : Type 0 where
  numbers : ns ≡ flat_map body_numbers fs
  heads : flat_map numbers_of_head hs ≡ flat_map head_numbers fs
  long : length fs ≡ length hs
  proper : AreProper fs

bodies_told : (hs : List Head) (ns : List Number) (fs : List RawFunction) → Spells (bodies_layout Counted hs) ns fs → BodiesTold hs ns fs
bodies_told [] ns fs h = subst (BodiesTold [] ns) h.1 (record { numbers = h.0; heads = refl; long = refl; proper = tt })
bodies_told (head ∷ hs) ns fs h =
    let r = behind_apart (body_layout Counted head.instructions) (λ is. behind (bodies_layout Counted hs) (λ fs. Makes (function_of head is ∷ fs))) ns fs h in
    let q = behind_apart (bodies_layout Counted hs) (λ fs. Makes (function_of head r.value ∷ fs)) r.second fs r.seconds in
    let ih = bodies_told hs q.first q.value q.firsts in
    let b = body_told head.instructions r.first r.value r.firsts in
    let f = function_of head r.value in
    let tail : r.second ≡ flat_map body_numbers q.value = q.apart ∙ ap (λ z. q.first ++ z) q.seconds.0 ∙ append-nil q.first ∙ ih.numbers in
    let own : numbers_of_head head ≡ head_numbers f =
    ap (λ n. short head.parameters ∷ byte (return_byte head.gives) ∷ short (length head.registers) ∷ (kind_numbers head.registers ++ short n ∷ [])) (sym b.1) in
    let told : BodiesTold (head ∷ hs) ns (f ∷ q.value) = record {
      numbers = r.apart ∙ ap (λ z. z ++ r.second) b.0 ∙ ap (λ z. body_numbers f ++ z) tail;
      heads = ap (λ z. z ++ flat_map numbers_of_head hs) own ∙ ap (λ z. head_numbers f ++ z) ih.heads;
      long = ap suc ih.long;
      proper = (b.2, ih.proper);
    } in
    subst (BodiesTold (head ∷ hs) ns) q.seconds.1 told

abbrev functions_numbers : List RawFunction → List Number
functions_numbers fs = flat_map head_numbers fs ++ flat_map body_numbers fs

functions_spell : (fs : List RawFunction) → AreProper fs → Spells (functions_layout Second (length fs)) (functions_numbers fs) fs
functions_spell fs h =
    behind_spells (heads_layout Second (length fs)) (bodies_layout Counted) (flat_map head_numbers fs)
    (flat_map body_numbers fs) (map head_of fs) fs (heads_spell fs) (bodies_spell fs h)

functions_told : (n : ℕ) (ns : List Number) (fs : List RawFunction) → Spells (functions_layout Second n) ns fs
    → (ns ≡ functions_numbers fs) × (length fs ≡ n) × AreProper fs
functions_told n ns fs h =
    let r = behind_apart (heads_layout Second n) (bodies_layout Counted) ns fs h in
    let heads = heads_told n r.first r.value r.firsts in
    let b = bodies_told r.value r.second fs r.seconds in (
      r.apart ∙ ap (λ z. z ++ r.second) (heads.0 ∙ b.heads) ∙ ap (λ z. flat_map head_numbers fs ++ z) b.numbers,
      b.long ∙ heads.1,
      b.proper,
    )

-- ---- code

abbrev counted : RawCode → List Number
counted code = short (length code.functions) ∷ functions_numbers code.functions

code_spells : (code : RawCode) → IsWritable code → Spells (code_layout Second) (code_numbers code) code
code_spells code w = (
  _,
  _,
  refl,
  refl,
  (
    _,
    _,
    refl,
    refl,
    (
      _,
      _,
      refl,
      refl,
      (
        _,
        _,
        refl,
        refl,
        (
          _,
          _,
          refl,
          refl,
          (
            _,
            _,
            refl,
            refl,
            behind_spells (names_layout [] (length code.names)) _ (flat_map name_numbers code.names) (counted code) code.names code
                (names_spell [] code.names w.names) (
                  _,
                  _,
                  refl,
                  lt-ltb 0 (length code.functions) w.some_function,
                  subst (λ z. Spells (behind (functions_layout Second (length code.functions)) (λ fs. Makes (record { names = code.names; functions = fs }))) z
                      code) (append-nil (functions_numbers code.functions))
                      (behind_spells (functions_layout Second (length code.functions)) _ (functions_numbers code.functions) [] code.functions code
                      (functions_spell code.functions w.instructions) (refl, refl)),
                ),
          ),
        ),
      ),
    ),
  ),
)

record CodeTold (ns : List Number) (code : RawCode) : Type 0 where
  numbers : ns ≡ code_numbers code
  names : AreNewNames [] code.names
  some_function : 0 < length code.functions
  instructions : AreProper code.functions

opened : (x y : ℕ) (rest ns more : List Number) → (x == y) ≡ true → ns ≡ byte x ∷ rest → rest ≡ more → ns ≡ byte y ∷ more
opened x y rest ns more t e s = e ∙ ap (λ z. byte z ∷ rest) (eqb-true x y t) ∙ ap (λ z. byte y ∷ z) s

code_told : (ns : List Number) (code : RawCode) → Spells (code_layout Second) ns code → CodeTold ns code
code_told ns code h =
    let version = h.4.4.4.4 in
    let count = version.4 in
    let r = behind_apart (names_layout [] count.0)
    (λ ns. Field _ 2 _ (λ n. behind (functions_layout Second n) (λ fs. Makes (record { names = ns; functions = fs })))) count.1 code count.4 in
    let names = names_told [] count.0 r.first r.value r.firsts in
    let s = r.seconds in
    let q = behind_apart (functions_layout Second s.0) (λ fs. Makes (record { names = r.value; functions = fs })) s.1 code s.4 in
    let functions = functions_told s.0 q.first q.value q.firsts in
    let e : ◌≡◌ {A = RawCode} (record { names = r.value; functions = q.value }) code = q.seconds.1 in
    let tail : s.1 ≡ functions_numbers q.value = q.apart ∙ ap (λ z. q.first ++ z) q.seconds.0 ∙ append-nil q.first ∙ functions.0 in
    let counts : r.second ≡ short (length q.value) ∷ functions_numbers q.value =
    s.2 ∙ ap (λ z. short z ∷ s.1) (sym functions.1) ∙ ap (λ z. short (length q.value) ∷ z) tail in
    let all : count.1 ≡ flat_map name_numbers r.value ++ (short (length q.value) ∷ functions_numbers q.value) =
    r.apart ∙ ap (λ z. z ++ r.second) names.0 ∙ ap (λ z. flat_map name_numbers r.value ++ z) counts in
    let told : CodeTold ns (record { names = r.value; functions = q.value }) = record {
      numbers =
          opened h.0 83 h.1 ns _ h.3 h.2
          (opened h.4.0 67 h.4.1 h.1 _ h.4.3 h.4.2
          (opened h.4.4.0 51 h.4.4.1 h.4.1 _ h.4.4.3 h.4.4.2 (opened h.4.4.4.0 80 h.4.4.4.1 h.4.4.1 _ h.4.4.4.3 h.4.4.4.2
          (opened version.0 2 version.1 h.4.4.4.1 _ version.3 version.2
          (count.2 ∙ ap (λ z. short z ∷ count.1) (sym names.1) ∙ ap (λ z. short (length r.value) ∷ z) all)))));
      names = names.2;
      some_function = subst (λ z. 0 < z) (sym functions.1) (ltb-true 0 s.0 s.3);
      instructions = functions.2;
    } in
    subst (CodeTold ns) e told

-- ---- texts

pub read_again : (code : RawCode) → IsWritable code → decoded (written_code code) ≡ Ok code
read_again code w =
    ap (λ r. whole (length (written_code code)) r)
    (ap (read (code_layout Second)) (sym (append-nil (written_code code))) ∙ layout_reads (code_layout Second) (code_numbers code) code (code_spells code w) w.fits [])

pub are_bytes : (text : List ℕ) → All (λ byte. byte < 256) text → AreBytes text
are_bytes [] h = tt
are_bytes (b ∷ text) h = (h 0 b (omega arith), are_bytes text (λ k d l. h (suc k) d (omega (arith, l))))

ended_whole : {A : Type 0} (size : ℕ) (a b : A) (left : List ℕ) → ended size a left ≡ Ok b → (a ≡ b) × (left ≡ [])
ended_whole size a b [] h = (cc, refl)
ended_whole size a b (c ∷ left) h = cc

pub read_is_written : (text : List ℕ) (code : RawCode) → AreBytes text → decoded text ≡ Ok code → (written_code code ≡ text) × IsWritable code
read_is_written text code bs h = go (read (code_layout Second) text) refl h
  where
    go : (r : Read RawCode) → read (code_layout Second) text ≡ r → whole (length text) r ≡ Ok code → (written_code code ≡ text) × IsWritable code
    go (Err f) e h = cc
    go (Ok x) e h =
        let w = ended_whole (length text) x.0 code x.1 h in
        let s : Spelled (code_layout Second) text code [] =
        subst (λ z. Spelled (code_layout Second) text z []) w.0 (subst (λ z. Spelled (code_layout Second) text x.0 z) w.1 (layout_spelled (code_layout Second) text x.0 x.1 bs e)) in
        let t = code_told s.numbers code s.spells in (
          ap bytes_of (sym t.numbers) ∙ sym (append-nil (bytes_of s.numbers)) ∙ sym s.same,
          record { fits = subst (Each Fits) t.numbers s.fits; names = t.names; some_function = t.some_function; instructions = t.instructions },
        )
