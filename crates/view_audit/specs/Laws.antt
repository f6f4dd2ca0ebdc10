-- What is promised of an audit's steps.
use Rattle.std.specs.Prelude.{◌≡◌, ℕ, List, [], ◌∷◌, length, None}
use Rattle.program_trees.specs.Programs.{ProgramTree}
use Rattle.program_trees.specs.TypedPrograms.{TypedProgramTree}
use Rattle.reached_instances.specs.Instances.{Instance}
use Rattle.proto_core.specs.declared.link.Link.{Link}
use Rattle.proto_core.specs.declared.party.Number.{Number}
use Rattle.value_file.specs.declared.public.PublicValue.{PublicValue}
use Rattle.value_file.specs.declared.public.PublicValue.TheVariants.{Known, Hidden}
use Rattle.value_file.specs.declared.public.PublicEntry.{PublicEntry}
use Rattle.value_file.specs.PublicFile.{IsWritable}
use Rattle.input_share.specs.Values.{elements_of}
use Rattle.view_text.specs.View.{IsView, View, Words}
use Rattle.code_inputs.specs.Laws.{IsAccepted}
use Rattle.merged_orders.specs.Merging.{Orders, Stuck}
use Rattle.view_audit.specs.Audit.{first_of_five, orders}
use Rattle.view_audit.specs.Found.{scripts}
use Rattle.view_audit.specs.OneRun.{OneRun}

-- ---- WHAT IS AUDITED: an accepted program, a public part that may stand in a file and has words of 64 bits, four lengths, and three views that may stand
-- in files

abbrev pub KnownWords : PublicValue → Type 0
KnownWords (Known value) = Words (elements_of value)
KnownWords (Hidden kind shape) = Unit {0}

abbrev pub AreKnownWords : List PublicEntry → Type 0
AreKnownWords [] = Unit {0}
AreKnownWords (e ∷ es) = KnownWords e.value × AreKnownWords es

pub record IsAuditable
    (source : ProgramTree) (p : TypedProgramTree) (is : List Instance) (part : List PublicEntry) (lengths : List ℕ) (views : Number → View) : Type 0 where
  pub program : IsAccepted source p is
  pub form : IsWritable part
  pub known : AreKnownWords part
  pub forms : (i : Number) → IsView (views i)
  pub four : length lengths ≡ 4

-- ---- THE LAWS

-- views are of one run where the five steps find nothing wrong in them and a schedule leaves none of their messages
abbrev pub PassedViewsAreOneRun :
    (source : ProgramTree) (p : TypedProgramTree) → List PublicEntry → (lengths : List ℕ) → (budget : ℕ) → (Number → View) → List Link → Orders → Type 0
PassedViewsAreOneRun source p part lengths budget views ls left =
    (is : List Instance) → IsAuditable source p is part lengths views → first_of_five p part lengths budget views ≡ None
    → Stuck (scripts part lengths views p budget) (orders p part lengths budget views) ls left
    → ((i : Number) → left i ≡ []) → OneRun p part lengths budget views ls

-- in views of one run the five steps find nothing wrong, and a schedule that goes as far as it can leaves nothing
pub record IsFound (p : TypedProgramTree) (part : List PublicEntry) (lengths : List ℕ) (budget : ℕ) (views : Number → View) : Type 0 where
  pub steps : first_of_five p part lengths budget views ≡ None
  pub leaves_none :
      (ls : List Link) (left : Orders) (i : Number)
      → Stuck (scripts part lengths views p budget) (orders p part lengths budget views) ls left → left i ≡ []

abbrev pub ViewsOfOneRunPass :
    (source : ProgramTree) (p : TypedProgramTree) → List PublicEntry → (lengths : List ℕ) → (budget : ℕ) → (Number → View) → List Link → Type 0
ViewsOfOneRunPass source p part lengths budget views order =
    (is : List Instance) → IsAuditable source p is part lengths views → OneRun p part lengths budget views order → IsFound p part lengths budget views
