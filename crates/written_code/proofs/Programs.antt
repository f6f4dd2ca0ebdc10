-- The code of an accepted program within the limits of size has room in its bytes.
use Rattle.std.proofs.Common.{◌≡◌, ℕ, zero, suc, ◌+◌, ◌<◌, ◌≤◌, ◌^◌, List, [], ◌∷◌, ◌++◌, length, map, Option, Some, None, Bool, true, false, cond}
use Rattle.std.proofs.Common.{refl, sym, ap, ◌∙◌, subst, arith, length-append, inl, inr}
use Rattle.std.specs.Prelude.{slice_get, nat_lt, sum, count_by}
use Rattle.std.specs.Option.{option_map_or}
use Rattle.std.specs.List.{flat_map}
use Rattle.std.proofs.lemmas.Bool.{ltb-false}
use Rattle.std.proofs.lemmas.List.{length-map}
use Rattle.std.proofs.lemmas.List.Sums.{sum_by-cons}
use Rattle.sc_text.specs.Lists.{Among}
use Rattle.sc_text.specs.Name.{is_name}
use Rattle.program_trees.specs.Programs.{FunctionTree, ProgramTree}
use Rattle.domain_types.specs.Declarations.{Declared, declared_by, functions_of}
use Rattle.domain_types.specs.ProgramTypes.{IsAccepted}
use Rattle.program_trees.specs.TypedPrograms.{TypedFunctionTree, TypedProgramTree}
use Rattle.name_resolution.specs.Functions.{typed_function, typed_functions, program_of, typed_of}
use Rattle.name_resolution.specs.Order.{reached}
use Rattle.name_resolution.proofs.SoundValues.{mapped, some_is}
use Rattle.reached_instances.specs.Instances.{Instance}
use Rattle.reached_instances.specs.Reached.{IsReachedList}
use Rattle.reached_instances.proofs.ReachedLists.{is_the_only_list}
use Rattle.reached_instances.specs.Limits as limits
use Rattle.reached_instances.specs.Templates.{is_of_template}
use Rattle.reached_instances.specs.Limits.{sizes, IsWithinLimits}
use Rattle.verified_code.specs.Steps.{Step, Function, Literal, Move, Store, Binary, Not, Cast, Classify, Fill, At, Put, Size, Cat, Sum, Bits, Lookup}
use Rattle.verified_code.specs.Steps.{Declassify, Argument, Publish, Assert, Branch, Jump, Call, Return, ReturnNone}
use Rattle.code_model.specs.Programs.{numbers_in, code_of_found, instance_code, code_of}
use Rattle.lowered_code.specs.Instructions.{function_names}
use Rattle.lowered_code.proofs.Passing.{unmapped}
use Rattle.written_code.specs.Sources.{IsWellWritten}
use Rattle.written_code.proofs.Calling.{known_in}
use Rattle.written_code.proofs.Heads.{function_at}
use Rattle.written_code.proofs.Reaching.{accepted_well_typed, reached_checked}
use Rattle.bytecode.specs.Writable.{IsWritable}
use Rattle.lowered_code.specs.RawCodes.{raw_code_of_program}
use Rattle.lowered_code.proofs.Limits.{within_small}
use Rattle.lowered_code.proofs.RegistersOfPrograms.{small_numbered}
use Rattle.lowered_code.proofs.Standing.{found_among}
use Rattle.lowered_code.proofs.Verified.{code_right}
use Rattle.written_code.specs.Says.{StatementsSay, InstancesSay, StepSays}
use Rattle.written_code.specs.Laws.{is_word, any_number, any_text}
use Rattle.written_code.proofs.Saying.{says_what_trees_say}
use Rattle.written_code.proofs.Words.{well_typed_words}
use Rattle.written_code.specs.WrittenSources.{is_line, StandPlaced, AreAllPlaced, IsPlacedProgram}
use Rattle.written_code.specs.WritingLaws.{HasRoom, IsWritableWhereAccepted}
use Rattle.written_code.proofs.Fields.{writable}
use Rattle.written_code.proofs.Lengths.{function_short}
use Rattle.written_code.proofs.Making.{body_made}
use Rattle.written_code.proofs.Resolving.{StandSaid, statements_made}
use Rattle.written_code.proofs.Weights.{IsModest, function_modest}

-- ---- FUNCTIONS

-- a typed function whose lines and names are told, and which is modest for its size
pub record IsSaid (t : TypedFunctionTree) : Type 0 where
  pub modest : IsModest t.size t
  pub say : StatementsSay any_number is_line is_name t.body

function_said : (d : Declared) (f : FunctionTree) (t : TypedFunctionTree) → typed_function d f ≡ Some t → StandPlaced f.body.statements → t.size ≤ 4095
    → IsSaid t
function_said d f t e placed small =
    record {
      modest = function_modest d f t e (omega (arith, small));
      say = body_made StandSaid d f t (statements_made d f.body.statements placed) e;
    }

placed_at : (fs : List FunctionTree) (n : ℕ) (f : FunctionTree) → AreAllPlaced fs → slice_get fs n ≡ Some f → StandPlaced f.body.statements
placed_at [] n f h e = cc
placed_at (g ∷ gs) zero f h e = subst (λ (x : FunctionTree). StandPlaced x.body.statements) (some_is g f e) h.0
placed_at (g ∷ gs) (suc n) f h e = placed_at gs n f h.1 e

-- ---- SUMS OVER INSTANCES

few_sizes : {B : Type 0} (a b : Bool) (x y : B) (o : Option B) → cond a (Some x) (cond b (Some y) o) ≡ None → b ≡ false
few_sizes true b x y o e = cc
few_sizes false true x y o e = cc
few_sizes false false x y o e = refl

sizes_within : (p : TypedProgramTree) (is : List Instance) → IsWithinLimits p → IsReachedList p is → sum (sizes p is) ≤ 65535
sizes_within p is within reached =
    let same = is_the_only_list p is within.list reached within.reached in
    let fine = few_sizes (nat_lt 1024 (count_by (is_of_template p) within.list)) (nat_lt 65535 (sum (sizes p within.list))) _ _ _ within.is in
    subst (λ js. sum (sizes p js) ≤ 65535) (sym same) (ltb-false 65535 (sum (sizes p within.list)) fine)

sizes_first : (p : TypedProgramTree) (i : Instance) (is : List Instance) → sum (sizes p (i ∷ is)) ≡ limits.size_of p i + sum (sizes p is)
sizes_first p i is = sum_by-cons (λ n. n) (limits.size_of p i) (sizes p is)

-- what is at most the size of each instance is at most the sum of the sizes in all
all_within : {A : Type 0} (p : TypedProgramTree) (g : Instance → List A) (is : List Instance)
    → ((i : Instance) → Among i is → length (g i) ≤ limits.size_of p i) → length (flat_map g is) ≤ sum (sizes p is)
all_within p g [] h = omega arith
all_within p g (i ∷ is) h =
    let one = h i (inl refl) in
    let rest = all_within p g is (λ j m. h j (inr m)) in
    let both = length-append (g i) (flat_map g is) in
    let whole = sizes_first p i is in
    omega (arith, one, rest, both, whole)

each_counts : (p : TypedProgramTree) (is : List Instance) → ((i : Instance) → Among i is → 1 ≤ limits.size_of p i) → length is ≤ sum (sizes p is)
each_counts p [] h = omega arith
each_counts p (i ∷ is) h =
    let one = h i (inl refl) in
    let rest = each_counts p is (λ j m. h j (inr m)) in
    let whole = sizes_first p i is in
    omega (arith, one, rest, whole)

map_names : (g : Instance → Function) (is : List Instance) → flat_map function_names (map g is) ≡ flat_map (λ i. function_names (g i)) is
map_names g [] = refl
map_names g (i ∷ is) = ap (λ z. function_names (g i) ++ z) (map_names g is)

-- ---- STEPS

both_say : (i : Step) → StepSays is_word any_number any_text i → StepSays any_number is_line is_name i → StepSays is_word is_line is_name i
both_say (Literal d e n) w s = w
both_say (Move d r) w s = tt
both_say (Store d r) w s = tt
both_say (Binary line op ds d a b) w s = s
both_say (Not d r) w s = tt
both_say (Cast c d r) w s = tt
both_say (Classify d r) w s = tt
both_say (Fill line d n x) w s = s
both_say (At line d a i) w s = s
both_say (Put line a i x) w s = s
both_say (Size d r) w s = tt
both_say (Cat line d a b) w s = s
both_say (Sum d r) w s = tt
both_say (Bits line d r) w s = s
both_say (Lookup line d a i) w s = s
both_say (Declassify d r) w s = tt
both_say (Argument line k text d) w s = s
both_say (Publish text r) w s = s
both_say (Assert line r) w s = s
both_say (Branch r b target) w s = tt
both_say (Jump target) w s = tt
both_say (Call line g d arguments) w s = s
both_say (Return r) w s = tt
both_say ReturnNone w s = tt

-- ---- PROGRAMS

module _ (source : ProgramTree) (accepted : IsAccepted source) (written : IsWellWritten source) (placed : IsPlacedProgram source)
    (p : TypedProgramTree) (resolved : typed_of source ≡ Some p) (is : List Instance) (reached_list : IsReachedList p is) (within : IsWithinLimits p) where
  abbrev own_code : Instance → Function
  own_code = instance_code p.functions (numbers_in is)

  -- the function of an instance, typed of one that is written
  pub record IsTyped (i : Instance) : Type 0 where
    pub called : TypedFunctionTree
    pub there : slice_get p.functions i.function ≡ Some called
    pub said : IsSaid called
    pub small : called.size ≤ 4095

  typed_at : (i : Instance) → Among i is → IsTyped i
  typed_at i m =
      let x = reached_checked source accepted written p resolved i (reached_list.reached i m) in
      let z = mapped program_of (typed_functions (known_in source) (reached (declared_by source))) p resolved in
      let u = function_at (known_in source) (reached (declared_by source)) z.part i.function x.function z.there x.named in
      let there = subst (λ (y : TypedProgramTree). slice_get y.functions i.function ≡ Some u.0) z.is u.1 in
      let small = within_small p is within reached_list i m u.0 there in
      record {
        called = u.0;
        there = there;
        said = function_said (known_in source) x.function u.0 u.2 (placed_at (functions_of source.items) x.number x.function placed x.there) small;
        small = small;
      }

  size_there : (i : Instance) (m : Among i is) → limits.size_of p i ≡ (typed_at i m).called.size
  size_there i m = ap (λ (o : Option TypedFunctionTree). option_map_or (λ g. g.size) o 0) (typed_at i m).there

  -- its code has few steps and few names
  instance_short : (i : Instance) → Among i is → (length (own_code i).steps < 2 ^ 16) × (length (function_names (own_code i)) ≤ limits.size_of p i)
  instance_short i m =
      let t = typed_at i m in
      let short = function_short (numbers_in is) p.functions t.called i.binding in
      let steps = short.steps in
      let names = short.names in
      let most = t.said.modest.steps in
      let typed_statements = t.said.modest.typed_statements in
      let small = t.small in
      let size = size_there i m in
      let is_code = ap (code_of_found (numbers_in is) p.functions i.binding) t.there in
      subst (λ (f : Function). (length f.steps < 2 ^ 16) × (length (function_names f) ≤ limits.size_of p i)) (sym is_code)
      (omega (arith, steps, most, small), omega (arith, names, typed_statements, size))

  instances_say : InstancesSay any_number is_line is_name p is
  instances_say i m f there =
      let t = typed_at i m in
      subst (λ (z : TypedFunctionTree). StatementsSay any_number is_line is_name z.body) (some_is t.called f (sym t.there ∙ there)) t.said.say

  has_room : HasRoom (code_of p is)
  has_room =
      let all = sizes_within p is within reached_list in
      let many = each_counts p is (λ i m. let size = size_there i m in let some = (typed_at i m).said.modest.typed_statements in omega (arith, size, some)) in
      let codes = length-map is own_code in
      let names = all_within p (λ i. function_names (own_code i)) is (λ i m. (instance_short i m).1) in
      let mapped_names = ap length (map_names own_code is) in
      let words = well_typed_words p is (accepted_well_typed source accepted written p resolved) reached_list in
      record {
        functions = omega (arith, all, many, codes);
        steps = λ f there.
            let x = unmapped own_code is there.0 f there.1 in
            subst (λ (g : Function). length g.steps < 2 ^ 16) x.2 (instance_short x.0 (found_among is there.0 x.0 x.1)).0;
        names = omega (arith, all, names, mapped_names);
        says = λ f there place i e.
            both_say i (says_what_trees_say is_word any_number any_text p is refl refl refl words f there place i e)
            (says_what_trees_say any_number is_line is_name p is refl refl refl instances_say f there place i e);
      }

  accepted_writable_here : IsWritable (raw_code_of_program p is)
  accepted_writable_here =
      let few = small_numbered source p resolved is (within_small p is within reached_list) in
      writable (code_of p is) (code_right p is (accepted_well_typed source accepted written p resolved) reached_list few) has_room

pub accepted_writable : (source : ProgramTree) → IsWritableWhereAccepted source
accepted_writable source accepted written placed p resolved is reached_list within =
    accepted_writable_here source accepted written placed p resolved is reached_list within
