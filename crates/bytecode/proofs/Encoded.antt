-- What stands in a text when the parts of a head and of code have been written one after the other.
use Rattle.std.proofs.Common.{◌≡◌, ℕ, List, [], ◌∷◌, ◌++◌, map, length, sym, ap, ◌∙◌, append_assoc}
use Rattle.std.proofs.lemmas.List.{length-map}
use Rattle.std.specs.List.{flat_map}
use Rattle.bytecode.specs.declared.kind.Kind.{Kind}
use Rattle.bytecode.specs.declared.code.CodeFunction.{CodeFunction}
use Rattle.bytecode.specs.declared.code.Code.{Code}
use Rattle.bytecode.specs.InMemory.{raw_instruction, raw_function, raw_code}
use Rattle.bytecode.specs.Kinds.{kind_byte, return_byte}
use Rattle.bytecode.specs.Raw.{RawCode}
use Rattle.bytecode.specs.Written.{Number, byte, short, bytes_of, opening_numbers, name_numbers, head_numbers, body_numbers, written_code}
use Rattle.bytecode.proofs.Little.{behind_bytes}

abbrev kind_numbers : List Kind → List Number
kind_numbers = map (λ kind. byte (kind_byte kind))

pub head_written : (f : CodeFunction) (start a b d : List ℕ) (gives n m : ℕ) (kinds : List Kind)
    → gives ≡ return_byte f.gives → n ≡ length f.registers.items → kinds ≡ f.registers.items → m ≡ length f.body.items
    → a ≡ start ++ bytes_of (short f.parameters ∷ byte gives ∷ short n ∷ []) → b ≡ a ++ bytes_of (kind_numbers kinds) → d ≡ b ++ bytes_of (short m ∷ [])
    → d ≡ start ++ bytes_of (head_numbers (raw_function f))
head_written f start a b d gives n m kinds eg en ek em h1 h2 h3 =
    let head = short f.parameters ∷ byte gives ∷ short n ∷ [] in
    let two = behind_bytes start a b head (kind_numbers kinds) h1 h2 in
    behind_bytes start b d (head ++ kind_numbers kinds) (short m ∷ []) two h3
    ∙ ap (λ z. start ++ bytes_of (short f.parameters ∷ byte z ∷ short n ∷ (kind_numbers kinds ++ short m ∷ []))) eg
    ∙ ap (λ z. start ++ bytes_of (short f.parameters ∷ byte (return_byte f.gives) ∷ short z ∷ (kind_numbers kinds ++ short m ∷ []))) en
    ∙ ap (λ z. start ++ bytes_of (short f.parameters ∷ byte (return_byte f.gives) ∷ short (length f.registers.items) ∷ (kind_numbers z ++ short m ∷ []))) ek
    ∙ ap (λ z. start ++ bytes_of
    (short f.parameters ∷ byte (return_byte f.gives) ∷ short (length f.registers.items) ∷ (kind_numbers f.registers.items ++ short z ∷ [])))
    (em ∙ sym (length-map f.body.items raw_instruction))

parts_written : (code : RawCode) (t1 t2 t3 t4 t5 : List ℕ)
    → t1 ≡ bytes_of (opening_numbers ++ short (length code.names) ∷ []) → t2 ≡ t1 ++ bytes_of (flat_map name_numbers code.names)
    → t3 ≡ t2 ++ bytes_of (short (length code.functions) ∷ []) → t4 ≡ t3 ++ bytes_of (flat_map head_numbers code.functions)
    → t5 ≡ t4 ++ bytes_of (flat_map body_numbers code.functions) → t5 ≡ written_code code
parts_written code t1 t2 t3 t4 t5 h1 h2 h3 h4 h5 =
    let opening = opening_numbers ++ short (length code.names) ∷ [] in
    let names = flat_map name_numbers code.names in
    let count = short (length code.functions) ∷ [] in
    let heads = flat_map head_numbers code.functions in
    let bodies = flat_map body_numbers code.functions in
    let two = behind_bytes [] t1 t2 opening names h1 h2 in
    let three = behind_bytes [] t2 t3 (opening ++ names) count two h3 in
    let four = behind_bytes [] t3 t4 ((opening ++ names) ++ count) heads three h4 in
    behind_bytes [] t4 t5 (((opening ++ names) ++ count) ++ heads) bodies four h5
    ∙ ap (λ z. bytes_of (opening ++ z)) (append_assoc (names ++ count) heads bodies ∙ append_assoc names count (heads ++ bodies))

pub code_written : (code : Code) (t0 t1 t2 t3 t4 t5 : List ℕ) (n m : ℕ) (names : List (List ℕ)) (fs gs : List CodeFunction)
    → t0 ≡ [] → n ≡ length code.names.items → names ≡ code.names.items → m ≡ length code.functions.items → fs ≡ code.functions.items → gs ≡ code.functions.items
    → t1 ≡ t0 ++ bytes_of (opening_numbers ++ short n ∷ []) → t2 ≡ t1 ++ bytes_of (flat_map name_numbers names)
    → t3 ≡ t2 ++ bytes_of (short m ∷ []) → t4 ≡ t3 ++ bytes_of (flat_map head_numbers (map raw_function fs))
    → t5 ≡ t4 ++ bytes_of (flat_map body_numbers (map raw_function gs)) → t5 ≡ written_code (raw_code code)
code_written code t0 t1 t2 t3 t4 t5 n m names fs gs e0 en ename em ef eg h1 h2 h3 h4 h5 =
    parts_written (raw_code code) t1 t2 t3 t4 t5
    (h1 ∙ ap (λ z. z ++ bytes_of (opening_numbers ++ short n ∷ [])) e0 ∙ ap (λ z. bytes_of (opening_numbers ++ short z ∷ [])) en)
    (h2 ∙ ap (λ z. t1 ++ bytes_of (flat_map name_numbers z)) ename)
    (h3 ∙ ap (λ z. t2 ++ bytes_of (short z ∷ [])) (em ∙ sym (length-map code.functions.items raw_function)))
    (h4 ∙ ap (λ z. t3 ++ bytes_of (flat_map head_numbers (map raw_function z))) ef)
    (h5 ∙ ap (λ z. t4 ++ bytes_of (flat_map body_numbers (map raw_function z))) eg)
