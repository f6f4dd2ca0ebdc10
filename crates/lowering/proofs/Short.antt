-- Instructions whose numbers are small enough are what they are with each number cut to its field, and the others can't be written.
use Rattle.std.proofs.Common.{◌≡◌, ℕ, ◌<◌, List, [], ◌∷◌, ◌++◌, length, get_or, zero, suc, Bool, true, false, refl, sym, ap, ap₂, ◌∙◌, subst, arith}
use Rattle.std.specs.Prelude.{map, ◌&&◌, Result, Err, IfErr}
use Rattle.std.specs.List.{flat_map, list_all, AllByRecursion as Each}
use Rattle.std.proofs.lemmas.List.{length-map, get_or-map}
use Rattle.std.proofs.lemmas.Bool.{and_parts, ltb-true, lt-ltb}
use Rattle.bytecode.specs.Raw.{Raw, Literal, Move, Store, Binary, Not, Cast, Classify, Fill, At, Put, Size, Cat, Sum, Bits, Lookup, Declassify, Argument, Publish}
use Rattle.bytecode.specs.Raw.{Assert, Branch, Jump, Call, Return, ReturnNone, RawFunction, RawCode}
use Rattle.bytecode.specs.Writable.{Fits}
use Rattle.bytecode.specs.Written.{Number, short, source_line, instruction_numbers, head_numbers, body_numbers, name_numbers, opening_numbers, code_numbers}
use Rattle.lowering.specs.declared.errors.LowerErr.{LowerErr}
use Rattle.lowering.specs.declared.errors.LowerErr.TheVariants.{Memory, TooLarge}
use Rattle.lowering.specs.Narrow.{is_short, are_short, capped, capped_instruction, IsJust, IsJustOfSome, IsJustRefusal}

-- ---- SMALL ENOUGH

low : (n : ℕ) → is_short n ≡ true → capped n ≡ n
low n e = let less = ltb-true n 65536 e in omega (arith, less)

all_low : (ns : List ℕ) → list_all is_short ns ≡ true → map capped ns ≡ ns
all_low [] e = refl
all_low (n ∷ ns) e =
    let p = and_parts (is_short n) (list_all is_short ns) e in
    ap₂ (λ (x : ℕ) (xs : List ℕ). x ∷ xs) (low n p.0) (all_low ns p.1)

two_low : (f : ℕ → ℕ → Raw) (a b : ℕ) → is_short a && is_short b ≡ true → f (capped a) (capped b) ≡ f a b
two_low f a b e = let p = and_parts (is_short a) (is_short b) e in ap₂ f (low a p.0) (low b p.1)

three_low : (f : ℕ → ℕ → ℕ → Raw) (a b c : ℕ) → is_short a && (is_short b && is_short c) ≡ true → f (capped a) (capped b) (capped c) ≡ f a b c
three_low f a b c e =
    let p = and_parts (is_short a) (is_short b && is_short c) e in
    ap (λ (x : ℕ). f x (capped b) (capped c)) (low a p.0) ∙ two_low (f a) b c p.1

pub capped_is : (r : Raw) → are_short r ≡ true → capped_instruction r ≡ r
capped_is (Literal d x) e = ap (λ (z : ℕ). Literal z x) (low d e)
capped_is (Move d r) e = two_low Move d r e
capped_is (Store d r) e = two_low Store d r e
capped_is (Binary o d a b line) e = three_low (λ x y z. Binary o x y z line) d a b e
capped_is (Not d r) e = two_low Not d r e
capped_is (Cast d r) e = two_low Cast d r e
capped_is (Classify d r) e = two_low Classify d r e
capped_is (Fill d n x line) e = three_low (λ x y z. Fill x y z line) d n x e
capped_is (At d a i line) e = three_low (λ x y z. At x y z line) d a i e
capped_is (Put a i x line) e = three_low (λ x y z. Put x y z line) a i x e
capped_is (Size d r) e = two_low Size d r e
capped_is (Cat d a b line) e = three_low (λ x y z. Cat x y z line) d a b e
capped_is (Sum d r) e = two_low Sum d r e
capped_is (Bits d r line) e = two_low (λ x y. Bits x y line) d r e
capped_is (Lookup d a i line) e = three_low (λ x y z. Lookup x y z line) d a i e
capped_is (Declassify d r) e = two_low Declassify d r e
capped_is (Argument d name line) e = two_low (λ x y. Argument x y line) d name e
capped_is (Publish name r) e = two_low Publish name r e
capped_is (Assert r line) e = ap (λ (z : ℕ). Assert z line) (low r e)
capped_is (Branch r v target) e = two_low (λ x y. Branch x v y) r target e
capped_is (Jump target) e = ap Jump (low target e)
capped_is (Call f d arguments line) e =
    let p = and_parts (is_short f) (is_short d && list_all is_short arguments) e in
    let q = and_parts (is_short d) (list_all is_short arguments) p.1 in
    ap₂ (λ (x y : ℕ). Call x y (map capped arguments) line) (low f p.0) (low d q.0) ∙ ap (λ (xs : List ℕ). Call f d xs line) (all_low arguments q.1)
capped_is (Return r) e = ap Return (low r e)
capped_is ReturnNone e = refl

-- ---- TOO LARGE

fitting : (n : ℕ) → Fits (short n) → is_short n ≡ true
fitting n h = lt-ltb n 65536 h

two_fitting : (a b : ℕ) → Fits (short a) → Fits (short b) → is_short a && is_short b ≡ true
two_fitting a b h k = ap₂ (λ (x y : Bool). x && y) (fitting a h) (fitting b k)

three_fitting : (a b c : ℕ) → Fits (short a) → Fits (short b) → Fits (short c) → is_short a && (is_short b && is_short c) ≡ true
three_fitting a b c h k l = ap₂ (λ (x y : Bool). x && y) (fitting a h) (two_fitting b c k l)

all_fitting : (ns : List ℕ) (ms : List Number) → Each Fits (map short ns ++ ms) → list_all is_short ns ≡ true
all_fitting [] ms h = refl
all_fitting (n ∷ ns) ms h = ap₂ (λ (x y : Bool). x && y) (fitting n h.0) (all_fitting ns ms h.1)

fits_short : (r : Raw) → Each Fits (instruction_numbers r) → are_short r ≡ true
fits_short (Literal d x) h = fitting d h.1.0
fits_short (Move d r) h = two_fitting d r h.1.0 h.1.1.0
fits_short (Store d r) h = two_fitting d r h.1.0 h.1.1.0
fits_short (Binary o d a b line) h = three_fitting d a b h.1.1.0 h.1.1.1.0 h.1.1.1.1.0
fits_short (Not d r) h = two_fitting d r h.1.0 h.1.1.0
fits_short (Cast d r) h = two_fitting d r h.1.0 h.1.1.0
fits_short (Classify d r) h = two_fitting d r h.1.0 h.1.1.0
fits_short (Fill d n x line) h = three_fitting d n x h.1.0 h.1.1.0 h.1.1.1.0
fits_short (At d a i line) h = three_fitting d a i h.1.0 h.1.1.0 h.1.1.1.0
fits_short (Put a i x line) h = three_fitting a i x h.1.0 h.1.1.0 h.1.1.1.0
fits_short (Size d r) h = two_fitting d r h.1.0 h.1.1.0
fits_short (Cat d a b line) h = three_fitting d a b h.1.0 h.1.1.0 h.1.1.1.0
fits_short (Sum d r) h = two_fitting d r h.1.0 h.1.1.0
fits_short (Bits d r line) h = two_fitting d r h.1.0 h.1.1.0
fits_short (Lookup d a i line) h = three_fitting d a i h.1.0 h.1.1.0 h.1.1.1.0
fits_short (Declassify d r) h = two_fitting d r h.1.0 h.1.1.0
fits_short (Argument d name line) h = two_fitting d name h.1.0 h.1.1.0
fits_short (Publish name r) h = two_fitting name r h.1.0 h.1.1.0
fits_short (Assert r line) h = fitting r h.1.0
fits_short (Branch r v target) h = two_fitting r target h.1.0 h.1.1.1.0
fits_short (Jump target) h = fitting target h.1.0
fits_short (Call f d arguments line) h =
    ap₂ (λ (x y : Bool). x && y) (fitting f h.1.0)
    (ap₂ (λ (x y : Bool). x && y) (fitting d h.1.1.0) (all_fitting arguments (source_line line ∷ []) h.1.1.1.1))
fits_short (Return r) h = fitting r h.1.0
fits_short ReturnNone h = refl

clash : (b : Bool) → b ≡ true → b ≡ false → ⊥
clash true e f = cc
clash false e f = cc

pub refused : (r : Raw) → are_short r ≡ false → IsJust TooLarge (instruction_numbers r)
refused r e = λ h. clash (are_short r) (fits_short r h) e

pub large_head : (f : RawFunction) (numbers : List Number) → is_short f.parameters && is_short (length f.registers) ≡ false
    → IsJust TooLarge (head_numbers f ++ numbers)
large_head f numbers e = λ h. clash (is_short f.parameters && is_short (length f.registers)) (two_fitting f.parameters (length f.registers) h.0 h.1.1.0) e

-- ---- REFUSALS OF PARTS

each_front : (xs ys : List Number) → Each Fits (xs ++ ys) → Each Fits xs
each_front [] ys h = tt
each_front (x ∷ xs) ys h = (h.0, each_front xs ys h.1)

each_behind : (xs ys : List Number) → Each Fits (xs ++ ys) → Each Fits ys
each_behind [] ys h = h
each_behind (x ∷ xs) ys h = each_behind xs ys h.1

pub just_behind : (e : LowerErr) (xs ys : List Number) → IsJust e ys → IsJust e (xs ++ ys)
just_behind Memory xs ys j = tt
just_behind TooLarge xs ys j = λ h. j (each_behind xs ys h)

each_among : {X : Type 0} (f : X → List Number) (xs : List X) (i : ℕ) (d : X) → i < length xs → Each Fits (flat_map f xs) → Each Fits (f (get_or xs i d))
each_among f [] i d l h = absurd (omega (arith, l))
each_among f (x ∷ xs) zero d l h = each_front (f x) (flat_map f xs) h
each_among f (x ∷ xs) (suc i) d l h =
    let within : i < length xs = omega (arith, l) in
    each_among f xs i d within (each_behind (f x) (flat_map f xs) h)

pub just_among : {X : Type 0} (e : LowerErr) (f : X → List Number) (xs : List X) (i : ℕ) (d : X) → i < length xs → IsJust e (f (get_or xs i d))
    → IsJust e (flat_map f xs)
just_among Memory f xs i d l j = tt
just_among TooLarge f xs i d l j = λ h. j (each_among f xs i d l h)

each_both : (xs ys : List Number) → Each Fits xs → Each Fits ys → Each Fits (xs ++ ys)
each_both [] ys h k = k
each_both (x ∷ xs) ys h k = (h.0, each_both xs ys h.1 k)

pub just_of_some : (e : LowerErr) (fs : List RawFunction) (i : ℕ) (d : RawFunction) → i < length fs
    → IsJust e (head_numbers (get_or fs i d) ++ body_numbers (get_or fs i d)) → IsJustOfSome e fs
just_of_some Memory fs i d l j = tt
just_of_some TooLarge fs i d l j =
    λ heads bodies. j (each_both (head_numbers (get_or fs i d)) (body_numbers (get_or fs i d)) (each_among head_numbers fs i d l heads)
    (each_among body_numbers fs i d l bodies))

-- what is after the names of code
behind_names : (code : RawCode) → Each Fits (code_numbers code)
    → Each Fits (short (length code.functions) ∷ (flat_map head_numbers code.functions ++ flat_map body_numbers code.functions))
behind_names code h =
    each_behind (flat_map name_numbers code.names) _
    (each_behind opening_numbers (short (length code.names) ∷ (flat_map name_numbers code.names
    ++ (short (length code.functions) ∷ (flat_map head_numbers code.functions ++ flat_map body_numbers code.functions)))) h).1

pub just_of_code : (e : LowerErr) (code : RawCode) → IsJustOfSome e code.functions → IsJustRefusal e code
just_of_code Memory code j = tt
just_of_code TooLarge code j =
    λ w. let all = (behind_names code w.fits).1 in
    j (each_front (flat_map head_numbers code.functions) (flat_map body_numbers code.functions) all)
    (each_behind (flat_map head_numbers code.functions) (flat_map body_numbers code.functions) all)

-- ---- REFUSALS THAT ARE HANDED ON

just_here : {X Y Z : Type 0} (e : LowerErr) (numbers : Y → List Number) (f : Z → Y) (g : X → Z) (xs : List X) (i : ℕ) (d : X) → i < length xs
    → d ≡ get_or xs i d
    → IsJust e (numbers (f (g d))) → IsJust e (numbers (get_or (map f (map g xs)) i (f (g d))))
just_here e numbers f g xs i d l same j =
    let within : i < length (map g xs) = omega (arith, l, length-map xs g) in
    let at = get_or-map f (map g xs) i (g d) (f (g d)) within ∙ ap f (get_or-map g xs i d (g d) l ∙ ap g (sym same)) in
    subst (λ y. IsJust e (numbers y)) (sym at) j

-- of the element at a place, as it is seen
pub just_seen : {X Y Z : Type 0} (e : LowerErr) (numbers : Y → List Number) (f : Z → Y) (g : X → Z) (xs : List X) (i : ℕ) (d : X) → i < length xs
    → d ≡ get_or xs i d
    → IsJust e (numbers (f (g d))) → IsJust e (flat_map numbers (map f (map g xs)))
just_seen e numbers f g xs i d l same j =
    let within : i < length (map f (map g xs)) = omega (arith, l, length-map xs g, length-map (map g xs) f) in
    just_among e numbers (map f (map g xs)) i (f (g d)) within (just_here e numbers f g xs i d l same j)

pub some_seen : {X Z : Type 0} (e : LowerErr) (f : Z → RawFunction) (g : X → Z) (xs : List X) (i : ℕ) (d : X) → i < length xs → d ≡ get_or xs i d
    → IsJust e (head_numbers (f (g d)) ++ body_numbers (f (g d))) → IsJustOfSome e (map f (map g xs))
some_seen e f g xs i d l same j =
    let within : i < length (map f (map g xs)) = omega (arith, l, length-map xs g, length-map (map g xs) f) in
    just_of_some e (map f (map g xs)) i (f (g d)) within (just_here e (λ h. head_numbers h ++ body_numbers h) f g xs i d l same j)

pub handed : {T : Type 0} (P : LowerErr → Type 0) (e : LowerErr) (r : Result T LowerErr) → (y : LowerErr) × (r ≡ Err y) × (y ≡ e) → P e → IfErr r P
handed P e r p j = subst (λ z. IfErr z P) (sym p.1) (subst P (sym p.2) j)
