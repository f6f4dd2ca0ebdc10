-- Whether or not dealing ended the run: when three views are of one run, and when they are refuted.
use Rattle.std.proofs.Common.{◌≡◌, ◌≢◌, ℕ, ◌+◌, Bool, true, false, List, [], length, Option, Some, None, refl, sym, ◌∙◌, inl, inr}
use Rattle.proto_core.specs.declared.link.Link.{Link}
use Rattle.proto_core.specs.declared.party.Number.{Number}
use Rattle.program_trees.specs.Programs.{ProgramTree}
use Rattle.program_trees.specs.TypedPrograms.{TypedProgramTree}
use Rattle.reached_instances.specs.Instances.{Instance}
use Rattle.value_file.specs.declared.public.PublicEntry.{PublicEntry}
use Rattle.view_text.specs.View.{View}
use Rattle.merged_orders.specs.Merging.{Orders, Stuck, links_to}
use Rattle.merged_views.specs.Unreached.{NoneIsLeftBelow}
use Rattle.merged_views.proofs.Left.{first_left}
use Rattle.view_audit.specs.Audit.{first_of_five, orders, IsRefuted}
use Rattle.view_audit.specs.Found.{scripts, suffices}
use Rattle.view_audit.specs.Laws.{IsAuditable, IsFound}
use Rattle.view_audit.specs.OneRun.{OneRun}
use Rattle.view_audit.specs.Places.{place_in}
use Rattle.view_audit.specs.Steps.{first_got}
use Rattle.view_audit.proofs.Nothing.{find_nothing}
use Rattle.view_audit.proofs.Shown.{is_found}
use Rattle.view_audit.proofs.Undealt.{undealt_found, undealt_one_run}
use Rattle.view_audit.proofs.Whole.{one_run}

some_and_none : {A : Type 0} (x : A) (o : Option A) → o ≡ Some x → o ≡ None → ⊥
some_and_none x o e f = let clash : Some x ≡ None = sym e ∙ f in cc

module _
    (source : ProgramTree) (p : TypedProgramTree) (is : List Instance) (part : List PublicEntry) (lengths : List ℕ) (budget : ℕ)
    (views : Number → View) (may : IsAuditable source p is part lengths views)
  where
    pub passed : first_of_five p part lengths budget views ≡ None → (ls : List Link) (left : Orders)
        → Stuck (scripts part lengths views p budget) (orders p part lengths budget views) ls left → ((i : Number) → left i ≡ [])
        → OneRun p part lengths budget views ls
    passed none ls left stuck nothing = by_test (suffices part lengths) refl
      where
        by_test : (b : Bool) → suffices part lengths ≡ b → OneRun p part lengths budget views ls
        by_test true e =
            one_run source p is part lengths budget views may e (find_nothing p part lengths budget views none) ls left stuck nothing
        by_test false e =
            undealt_one_run source p is part lengths budget views may e (find_nothing p part lengths budget views none) ls left stuck

    pub found : (order : List Link) → OneRun p part lengths budget views order → IsFound p part lengths budget views
    found order one = by_test (suffices part lengths) refl
      where
        by_test : (b : Bool) → suffices part lengths ≡ b → IsFound p part lengths budget views
        by_test true e = is_found source p is part lengths budget views may e order one
        by_test false e = undealt_found source p is part lengths budget views may e order one

    pub refuted_by_step : (i : Number) (line : ℕ) → first_of_five p part lengths budget views ≡ Some (place_in i line)
        → IsRefuted p part lengths budget views i line
    refuted_by_step i line e =
        record {
          first = inl e;
          none = λ one. some_and_none (place_in i line) (first_of_five p part lengths budget views) e (found one.0 one.1).steps;
        }

    pub refuted_by_line : first_of_five p part lengths budget views ≡ None → (ls : List Link) (left : Orders)
        → Stuck (scripts part lengths views p budget) (orders p part lengths budget views) ls left → (i : Number) → NoneIsLeftBelow left i → left i ≢ []
        → IsRefuted p part lengths budget views i (first_got (views i) + length (links_to i ls))
    refuted_by_line none ls left stuck i lower some =
        record {
          first =
              inr (
                none,
                (
                  length (links_to i ls),
                  refl,
                  first_left (scripts part lengths views p budget) (orders p part lengths budget views) left ls stuck i lower some,
                ),
              );
          none = λ one. some ((found one.0 one.1).leaves_none ls left i stuck);
        }
