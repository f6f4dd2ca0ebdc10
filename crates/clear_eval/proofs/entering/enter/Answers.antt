use Rattle.std.proofs.Common.{◌≡◌, [], ◌∷◌, ◌++◌, length, sym, ap, ◌∙◌, get_or, arith}
use Rattle.std.proofs.Common.{inl, inr}
use Rattle.std.specs.Prelude.{map}
use mathlib.Core.Path.{fun_ext}
use Rattle.std.proofs.lemmas.Bool.{cases_lt}
use Rattle.std.proofs.lemmas.List.{length-append, length-map, map-append, get_or_past, get_or_append_left}
use Rattle.std.proofs.lemmas.Option.{slice_get_past}
use Rattle.std.proofs.Math.Seq.{get_or-append_seam}
use Rattle.language_model.specs.Evaluation.{entered, begins, nothing}
use Rattle.value_steps.specs.Views.{value_seen}
use Rattle.clear_eval.specs.inner.Views.{frame_seen}
use Rattle.clear_eval.proofs.Entries.{entered-argument, entered-behind}
use Rattle.clear_eval.proofs.entering.enter.Goals as goal

pub loop-number-init : goal.loop-number-init
loop-number-init c = record {
  slots = omega (arith, c.len-number.ensures, c.args.arguments.ok.0);
  frame = λ k h.
      let xs = map value_seen c.args.arguments.items in
      let count : length xs ≡ length c.args.arguments.items = simp length-map in
      sym (entered-argument c.args.binding.now c.args.slots.now xs k (omega (arith, count, c.len-number.ensures, c.args.arguments.ok.0)));
}

pub loop-number-preserved : goal.loop-number-preserved
loop-number-preserved c =
    let b = c.args.binding.now in
    let ss = c.args.slots.now in
    let n = c.loop-number.number in
    let xs = map value_seen c.args.arguments.items in
    let old = c.loop-number.frame.items in
    let v = c.in_ok-beginning.field-0 in
    let count : length xs ≡ length c.args.arguments.items = simp length-map in
    let seen : length (map value_seen old) ≡ n = simp length-map c.loop-number.invariant.slots in
    let items : map value_seen c.push.new.self.items ≡ map value_seen old ++ value_seen v ∷ [] =
    ap (map value_seen) c.in_ok-push.ensures.items ∙ map-append value_seen old (v ∷ []) in
    let last : get_or (map value_seen old ++ value_seen v ∷ []) n nothing ≡ entered b ss xs n =
    ap (λ j. get_or (map value_seen old ++ value_seen v ∷ []) j nothing) (sym seen)
    ∙ get_or-append_seam (map value_seen old) (value_seen v) [] nothing
    ∙ c.in_ok-beginning.ensures
    ∙ sym (entered-behind b ss xs n (omega (arith, count, c.len-number.ensures, c.args.arguments.ok.0, c.loop-number.auto.number))) in
    record {
      slots = omega (
        arith,
        ap length c.in_ok-push.ensures.items,
        c.loop-number.invariant.slots,
        simp (length-append) at (ap length c.in_ok-push.ensures.items),
      );
      frame = λ k h.
          ap (λ l. get_or l k nothing) items
          ∙ elim (cases_lt k n) [
            | inl less ↦ get_or_append_left (map value_seen old) (value_seen v ∷ []) nothing k (omega (arith, seen)) ∙ c.loop-number.invariant.frame k less
            | inr more ↦ let same : k ≡ n = omega arith in ap (λ j. get_or (map value_seen old ++ value_seen v ∷ []) j nothing) same ∙ last
                ∙ ap (entered b ss xs) (sym same)
          ];
    }

pub returns-clause-frame : goal.returns-clause-frame
unfolding frame_seen
returns-clause-frame c =
    let b = c.args.binding.now in
    let ss = c.args.slots.now in
    let xs = map value_seen c.args.arguments.items in
    let items = c.loop-number.frame.items in
    let count : length xs ≡ length c.args.arguments.items = simp length-map in
    let seen : length (map value_seen items) ≡ c.loop-number.number = simp length-map c.loop-number.invariant.slots in
    fun_ext (λ k. elim (cases_lt k c.loop-number.number) [
      | inl less ↦ c.loop-number.invariant.frame k less
      | inr more ↦ get_or_past (map value_seen items) k nothing (omega (arith, seen))
          ∙ sym (entered-behind b ss xs k (omega (arith, count, c.len-number.ensures, c.args.arguments.ok.0, c.loop-number.auto.number))
          ∙ ap (begins b) (slice_get_past ss k (omega (arith, c.loop-number-test.false))))
    ])
