-- The literals in the raw code of a well-typed program are words.
use Rattle.std.proofs.Common.{◌≡◌, ℕ, ◌^◌, List, Some, refl, ap, ◌∙◌, subst}
use Rattle.std.specs.Prelude.{slice_get}
use Rattle.std.proofs.lemmas.Bool.{ltb-true}
use Rattle.program_trees.specs.Programs.{ProgramTree}
use Rattle.program_trees.specs.TypedPrograms.{TypedProgramTree}
use Rattle.reached_instances.specs.Instances.{Instance}
use Rattle.reached_instances.specs.Reached.{IsReachedList}
use Rattle.bytecode.specs.Raw.{RawFunction}
use Rattle.verified_code.specs.Steps.{Step, Function, Literal, Move, Store, Binary, Not, Cast, Classify, Fill, At, Put, Size, Cat, Sum, Bits, Lookup, Declassify}
use Rattle.verified_code.specs.Steps.{Argument, Publish, Assert, Branch, Jump, Call, Return, ReturnNone}
use Rattle.code_model.specs.Kinded.{IsIn}
use Rattle.code_model.specs.Programs.{code_of}
use Rattle.lowered_code.specs.Instructions.{instruction, raw_function, names_of}
use Rattle.lowered_code.proofs.Passing.{unmapped}
use Rattle.written_code.specs.Programs.{IsWellTyped}
use Rattle.written_code.proofs.Reaching.{accepted_well_typed}
use Rattle.lowered_code.specs.RawCodes.{raw_code_of_program}
use Rattle.lowered_code.proofs.Limits.{within_small}
use Rattle.lowered_code.proofs.RegistersOfPrograms.{small_numbered}
use Rattle.lowered_code.proofs.Verified.{well_typed_verified}
use Rattle.gate_laws.specs.Laws.{LiteralIsWord}
use Rattle.gate_laws.proofs.Verified.{verified_suits}
use Rattle.code_inputs.specs.Laws.{HasWordsWhereWellTyped, SuitsWhereAccepted}
use Rattle.written_code.specs.Says.{StepSays}
use Rattle.written_code.specs.Laws.{is_word, any_number, any_text}
use Rattle.written_code.proofs.Saying.{says_what_trees_say}
use Rattle.written_code.proofs.Words.{well_typed_words as words_said}

-- ---- STEPS

abbrev SaysWord : Step → Type 0
SaysWord = StepSays is_word any_number any_text

literal_word : (names : List (List ℕ)) (i : Step) → SaysWord i → LiteralIsWord (instruction names i)
literal_word names (Literal d e n) h = ltb-true n (2 ^ 64) h
literal_word names (Move d r) h = tt
literal_word names (Store d r) h = tt
literal_word names (Binary line op ds d a b) h = tt
literal_word names (Not d r) h = tt
literal_word names (Cast c d r) h = tt
literal_word names (Classify d r) h = tt
literal_word names (Fill line d n x) h = tt
literal_word names (At line d a i) h = tt
literal_word names (Put line a i x) h = tt
literal_word names (Size d r) h = tt
literal_word names (Cat line d a b) h = tt
literal_word names (Sum d r) h = tt
literal_word names (Bits line d r) h = tt
literal_word names (Lookup line d a i) h = tt
literal_word names (Declassify d r) h = tt
literal_word names (Argument line k text d) h = tt
literal_word names (Publish text r) h = tt
literal_word names (Assert line r) h = tt
literal_word names (Branch r b target) h = tt
literal_word names (Jump target) h = tt
literal_word names (Call line g d arguments) h = tt
literal_word names (Return r) h = tt
literal_word names ReturnNone h = tt

-- ---- PROGRAMS

module _ (p : TypedProgramTree) (is : List Instance) (typed : IsWellTyped p) (reached : IsReachedList p is) where
  steps_say : (f : Function) → IsIn (code_of p is) f → (k : ℕ) (i : Step) → slice_get f.steps k ≡ Some i → SaysWord i
  steps_say = says_what_trees_say is_word any_number any_text p is refl refl refl (words_said p is typed reached)

pub well_typed_words : (p : TypedProgramTree) (is : List Instance) → HasWordsWhereWellTyped p is
well_typed_words p is typed reached n f there k i e =
    let names = names_of (code_of p is) in
    let x = unmapped (raw_function names) (code_of p is) n f there in
    let y = unmapped (instruction names) x.0.steps k i (ap (λ (z : RawFunction). slice_get z.body k) x.2 ∙ e) in
    subst LiteralIsWord y.2 (literal_word names y.0 (steps_say p is typed reached x.0 (n, x.1) k y.0 y.1))

pub accepted_suits : (source : ProgramTree) → SuitsWhereAccepted source
accepted_suits source p is a =
    let few = small_numbered source p a.resolved is (within_small p is a.within a.reached) in
    let typed = accepted_well_typed source a.typed a.written p a.resolved in
    verified_suits (raw_code_of_program p is) (well_typed_verified p is typed a.reached few).0 (well_typed_words p is typed a.reached)
