use Rattle.std.proofs.Common.{◌≡◌, ℕ, Bool, List, Some, length, refl, sym, ap, ◌∙◌, subst}
use Rattle.std.specs.Prelude.{map, option_map}
use Rattle.std.specs.List.{slice_get}
use Rattle.std.proofs.lemmas.Option.{get_or_from_slice_get, slice_get-map}
use Rattle.program_trees.specs.declared.kinds.Slot.{Slot}
use Rattle.program_trees.specs.TypedStatements.{typed_statement, typed_statements_of}
use Rattle.program_trees.specs.Sound.{parameters_of, AreSoundStatementTrees}
use Rattle.program_trees.specs.TypedPrograms.{typed_function_tree}
use Rattle.reached_instances.specs.Domains.{given_domain}
use Rattle.language_model.specs.Effects.{Run, carry, done}
use Rattle.language_model.specs.Values.{Value}
use Rattle.language_model.specs.Evaluation.{Frame, execute_all, entered, result_of, is_private, body_of}
use Rattle.value_steps.specs.Views.{value_seen}
use Rattle.clear_eval.specs.inner.Views.{frame_seen}
use Rattle.clear_eval.proofs.Sound.{body_sound}
use Rattle.clear_eval.proofs.Work.{body_within}
use Rattle.clear_eval.proofs.beginning.begin.Goals as goal

pub returns : goal.returns
returns c =
    let fs = c.args.callee.now.functions.now in
    let k = c.args.callee.now.number in
    let g = c.index-functions-number.result in
    let b = c.args.callee.now.binding.now in
    let xs = map value_seen c.args.arguments.items in
    let there : slice_get fs k ≡ Some g =
    c.requires.fitting.there ∙ ap Some
    (sym (c.index-functions-number.is ∙ get_or_from_slice_get fs k c.requires.fitting.function g c.requires.fitting.there)) in
    let tree = typed_function_tree g in
    let among : slice_get (map typed_function_tree fs) k ≡ Some tree = slice_get-map typed_function_tree fs k ∙ ap (option_map typed_function_tree) there in
    let secret = c.is_private.ensures ∙ ap is_private c.given_domain.ensures in
    let frame = c.in_ok-frame.ensures.frame ∙ ap (λ ss. entered b ss xs) c.deref.ensures.value in
    record {
      around = refl;
      depth = refl;
      executes = λ w calls s.
          let run : List Slot → Bool → Frame → Run Value =
          λ slots private fr. carry (execute_all w calls
          (record { here = record { functions = map typed_function_tree fs; slots = slots; binding = b }; secret_result = private }) tree.body fr
          s) (λ g. done (result_of g)) in
          ap (λ o. body_of w calls (map typed_function_tree fs) o b xs s) among
          ∙ sym (ap (λ slots. run slots c.is_private.result (frame_seen c.in_ok-frame.frame.items)) c.deref-2.ensures.value
          ∙ ap (λ private. run tree.slots private (frame_seen c.in_ok-frame.frame.items)) secret
          ∙ ap (run tree.slots (is_private (given_domain b g.given))) frame);
      sound =
          let P : ℕ → Type 0 =
          λ n. AreSoundStatementTrees n (map parameters_of (map typed_function_tree fs)) (typed_statements_of (map typed_statement g.body.items)) in
          subst P (sym (c.in_ok-frame.ensures.slots ∙ ap length c.deref.ensures.value)) (body_sound fs k g c.requires.program there);
      lighter = body_within (map typed_function_tree fs) k tree among;
    }
