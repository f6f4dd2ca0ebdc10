-- Told the words of a value that was opened, a step has as many elements as the value.
use Rattle.std.proofs.Common.{◌≡◌, ℕ, List, [], ◌∷◌, Option, Some, sym, subst, arith}
use Rattle.std.specs.Prelude.{length}
use Rattle.proto_core.specs.Lists.{AreWords}
use Rattle.protocol_model.proofs.Sizes.{past_end}
use Rattle.program_trees.specs.declared.expression.DataType.{DataType}
use Rattle.program_trees.specs.declared.expression.DataType.TheVariants.{Uint64, Int64}
use Rattle.program_trees.specs.declared.expression.DataType.TheVariants as datatype
use Rattle.gates.specs.Gathered.{unpacked}
use Rattle.gates.proofs.Packing.{length-unpacked, unpacked-bits}
use Rattle.language_model.specs.Values.{size, gate_size}
use Rattle.verified_code.specs.Steps.{Step, Declassify}
use Rattle.gate_laws.specs.Machine.{Machine}
use Rattle.code_places.specs.Places.{answers_told, elements_opened}

none_of : (e : DataType) (n : ℕ) → 0 ≡ gate_size e n → 0 ≡ n
none_of Uint64 n h = h
none_of Int64 n h = h
none_of datatype.Bool n h = omega (arith, h)

of_elements : (e : DataType) (n : ℕ) (words : List ℕ) → length words ≡ gate_size e n → length (elements_opened e n words) ≡ n
of_elements Uint64 n words h = h
of_elements Int64 n words h = h
of_elements datatype.Bool n words h = length-unpacked words n

-- bits of any words are words
bits_are_words : (words : List ℕ) (n : ℕ) → AreWords (unpacked words n)
bits_are_words words n k = let low = unpacked-bits words n k in omega (arith, low)

elements_words : (e : DataType) (n : ℕ) (words : List ℕ) → AreWords words → AreWords (elements_opened e n words)
elements_words Uint64 n words h = h
elements_words Int64 n words h = h
elements_words datatype.Bool n words h = bits_are_words words n

module _ (m : Machine) (d r : ℕ) where
  told_many : (words : List ℕ) → length words ≡ gate_size (m.registers r).shape.element (size (m.registers r))
      → length (answers_told words (Some (Declassify d r)) m) ≡ size (m.registers r)
  told_many [] h = none_of (m.registers r).shape.element (size (m.registers r)) h
  told_many (x ∷ xs) h = of_elements (m.registers r).shape.element (size (m.registers r)) (x ∷ xs) h

  told_words : (words : List ℕ) → AreWords words → AreWords (answers_told words (Some (Declassify d r)) m)
  told_words [] h = past_end
  told_words (x ∷ xs) h = elements_words (m.registers r).shape.element (size (m.registers r)) (x ∷ xs) h

  pub elements_are : (o : Option Step) → o ≡ Some (Declassify d r) → (words : List ℕ)
      → length words ≡ gate_size (m.registers r).shape.element (size (m.registers r)) → length (answers_told words o m) ≡ size (m.registers r)
  elements_are o is words h = subst (λ o. length (answers_told words o m) ≡ size (m.registers r)) (sym is) (told_many words h)

  pub words_are : (o : Option Step) → o ≡ Some (Declassify d r) → (words : List ℕ) → AreWords words → AreWords (answers_told words o m)
  words_are o is words h = subst (λ o. AreWords (answers_told words o m)) (sym is) (told_words words h)
