-- What is answered of a whole text is what the definition says.
use Rattle.std.proofs.Common.{◌≡◌, ℕ, ◌-◌, List, [], ◌∷◌, length, map, Result, Ok, Err, refl, sym, ap, ◌∙◌, subst, arith, nat_eq, false, if◌then◌else◌}
use Rattle.std.proofs.lemmas.Bool.Decides.{nat_tests}
use Rattle.bytecode.specs.declared.fault.DecodeErr.TheVariants as decoding
use Rattle.bytecode.specs.declared.code.Code.{Code}
use Rattle.bytecode.specs.declared.version.CodeVersion.{CodeVersion}
use Rattle.bytecode.specs.Versions.{counting}
use Rattle.bytecode.specs.declared.fault.Stopped.{Stopped}
use Rattle.bytecode.specs.declared.fault.Stopped.TheVariants.{Refused, Memory}
use Rattle.bytecode.specs.declared.head.Head as heads
use Rattle.bytecode.specs.InMemory.{raw_code, raw_head}
use Rattle.bytecode.specs.Layouts.{BadTag, Trailing, Layout, Makes, Field, Read, read, behind}
use Rattle.bytecode.specs.Raw.{RawFunction, RawCode}
use Rattle.bytecode.specs.inner.Reading.{Reads, Stops}
use Rattle.bytecode.specs.Decoded.{Head, bodies_layout, code_layout, decoded_by, functions_layout, heads_layout, is_some_count, names_layout, short_layout, whole}
use Rattle.bytecode.specs.Decoding.{IsDecoded, opening_layout, settled, some_functions_layout}
use Rattle.bytecode.proofs.Reading.{reads_behind, step_ok, step_stops}

answered : (size : ℕ) (r : Read RawCode) (a : Result Code Stopped) (rest : List ℕ) → Reads raw_code r a rest
    → IsDecoded (whole size r) (settled size a (length rest))
answered size r (Ok code) rest e = subst (λ r. IsDecoded (whole size r) (settled size (Ok code) (length rest))) (sym e) (by_rest rest)
  where
    by_rest : (rest : List ℕ) → IsDecoded (whole size (Ok (raw_code code, rest))) (settled size (Ok code) (length rest))
    by_rest [] = refl
    by_rest (b ∷ bs) =
        let more : nat_eq (length (b ∷ bs)) 0 ≡ false = grind (arith, nat_tests) in
        subst (λ t. IsDecoded (whole size (Ok (raw_code code, b ∷ bs)))
        (if t then Ok code else Err (decoding.Refused (record { kind = Trailing; place = size - length (b ∷ bs) })))) (sym more) refl
answered size (Ok x) (Err (Refused k n)) rest h = absurd h
answered size (Err e) (Err (Refused k n)) rest h = ap (λ k. Err (record { kind = k; place = size - length e.1 })) h.0
    ∙ ap (λ n. Err (record { kind = k; place = size - n })) h.1
answered size r (Err Memory) rest h = tt

pub decoded_answered : (version : CodeVersion) (text : List ℕ) (size left : ℕ) (a : Result Code Stopped) (rest : List ℕ) → size ≡ length text → left ≡ length rest
    → Reads raw_code (read (code_layout version) text) a rest
    → IsDecoded (decoded_by version text) (settled size a left)
decoded_answered version text size left a rest s l h =
    subst (λ n. IsDecoded (decoded_by version text) (settled n a left)) (sym s) (subst (λ n. IsDecoded (decoded_by version text) (settled (length text) a n)) (sym l)
    (answered (length text) (read (code_layout version) text) a rest h))

-- ---- the functions

pub counts_of : (hs : List heads.Head) → map (λ h. h.parameters) hs ≡ map (λ h. h.parameters) (map raw_head hs)
counts_of [] = refl
counts_of (h ∷ hs) = ap (λ ns. h.parameters ∷ ns) (counts_of hs)

abbrev count_layout : Layout ℕ
count_layout = Field BadTag 2 is_some_count Makes

abbrev of_heads : CodeVersion → List Head → Layout (List RawFunction)
of_heads version hs = bodies_layout (counting version (map (λ h. h.parameters) hs)) hs

pub functions_stop_at_heads : (version : CodeVersion) (n : ℕ) (t0 t1 : List ℕ) (e : Stopped) → read count_layout t0 ≡ Ok (n, t1)
    → Stops (read (heads_layout version n) t1) e → Stops (read (some_functions_layout version) t0) e
functions_stop_at_heads version n t0 t1 e e0 s = subst (λ r. Stops r e) (sym (step_ok count_layout (functions_layout version) t0 n t1 e0))
    (step_stops (heads_layout version n) (of_heads version) t1 e s)

pub functions_read : {T : Type 0} (view : T → List RawFunction) (version : CodeVersion) (n : ℕ) (hs : List heads.Head) (ps : List ℕ)
    (t0 t1 t2 : List ℕ) (answer : Result T Stopped) (new : List ℕ) → read count_layout t0 ≡ Ok (n, t1)
    → read (heads_layout version n) t1 ≡ Ok (map raw_head hs, t2) → ps ≡ map (λ h. h.parameters) hs
    → Reads view (read (bodies_layout (counting version ps) (map raw_head hs)) t2) answer new
    → Reads view (read (some_functions_layout version) t0) answer new
functions_read view version n hs ps t0 t1 t2 answer new e0 e1 p h =
    reads_behind view count_layout (functions_layout version) t0 n t1 answer new e0
    (reads_behind view (heads_layout version n) (of_heads version) t1 (map raw_head hs) t2 answer new e1
    (subst (λ ps. Reads view (read (bodies_layout (counting version ps) (map raw_head hs)) t2) answer new) (p ∙ counts_of hs) h))

-- ---- the code

abbrev with_functions : CodeVersion → List (List ℕ) → Layout RawCode
with_functions version ns = behind (some_functions_layout version) (λ fs. Makes (record { names = ns; functions = fs }))

abbrev with_names : CodeVersion → ℕ → Layout RawCode
with_names version n = behind (names_layout [] n) (with_functions version)

abbrev counted : CodeVersion → ℕ → Layout RawCode
counted version v = behind short_layout (with_names version)

to_names : (version : CodeVersion) (v n : ℕ) (t0 t1 t2 : List ℕ) → read (opening_layout version) t0 ≡ Ok (v, t1) → read short_layout t1 ≡ Ok (n, t2)
    → read (code_layout version) t0 ≡ read (with_names version n) t2
to_names version v n t0 t1 t2 e0 e1 =
    step_ok (opening_layout version) (counted version) t0 v t1 e0 ∙ step_ok short_layout (with_names version) t1 n t2 e1

pub code_stops_at_names : (version : CodeVersion) (v n : ℕ) (t0 t1 t2 : List ℕ) (e : Stopped) → read (opening_layout version) t0 ≡ Ok (v, t1)
    → read short_layout t1 ≡ Ok (n, t2)
    → Stops (read (names_layout [] n) t2) e → Stops (read (code_layout version) t0) e
code_stops_at_names version v n t0 t1 t2 e e0 e1 s =
    subst (λ r. Stops r e) (sym (to_names version v n t0 t1 t2 e0 e1)) (step_stops (names_layout [] n) (with_functions version) t2 e s)

to_functions : (version : CodeVersion) (v n : ℕ) (ns : List (List ℕ)) (t0 t1 t2 t3 : List ℕ) → read (opening_layout version) t0 ≡ Ok (v, t1)
    → read short_layout t1 ≡ Ok (n, t2) → read (names_layout [] n) t2 ≡ Ok (ns, t3)
    → read (code_layout version) t0 ≡ read (with_functions version ns) t3
to_functions version v n ns t0 t1 t2 t3 e0 e1 e2 =
    to_names version v n t0 t1 t2 e0 e1 ∙ step_ok (names_layout [] n) (with_functions version) t2 ns t3 e2

pub code_stops_at_functions : (version : CodeVersion) (v n : ℕ) (ns : List (List ℕ)) (t0 t1 t2 t3 : List ℕ) (e : Stopped)
    → read (opening_layout version) t0 ≡ Ok (v, t1) → read short_layout t1 ≡ Ok (n, t2)
    → read (names_layout [] n) t2 ≡ Ok (ns, t3) → Stops (read (some_functions_layout version) t3) e → Stops (read (code_layout version) t0) e
code_stops_at_functions version v n ns t0 t1 t2 t3 e e0 e1 e2 s =
    subst (λ r. Stops r e) (sym (to_functions version v n ns t0 t1 t2 t3 e0 e1 e2))
    (step_stops (some_functions_layout version) (λ fs. Makes (record { names = ns; functions = fs })) t3 e s)

pub code_ok : (version : CodeVersion) (v n : ℕ) (ns : List (List ℕ)) (fs : List RawFunction) (t0 t1 t2 t3 t4 : List ℕ)
    → read (opening_layout version) t0 ≡ Ok (v, t1) → read short_layout t1 ≡ Ok (n, t2)
    → read (names_layout [] n) t2 ≡ Ok (ns, t3) → read (some_functions_layout version) t3 ≡ Ok (fs, t4)
    → read (code_layout version) t0 ≡ Ok (record { names = ns; functions = fs }, t4)
code_ok version v n ns fs t0 t1 t2 t3 t4 e0 e1 e2 e3 =
    to_functions version v n ns t0 t1 t2 t3 e0 e1 e2
    ∙ step_ok (some_functions_layout version) (λ fs. Makes (record { names = ns; functions = fs })) t3 fs t4 e3
