use Rattle.std.proofs.Common.{◌≡◌, [], ◌∷◌, ◌++◌, length, sym, ap, ◌∙◌, get_or, arith}
use Rattle.std.proofs.Common.{inl, inr}
use Rattle.std.specs.Prelude.{map}
use Rattle.std.proofs.lemmas.Bool.{cases_lt}
use Rattle.std.proofs.lemmas.List.{length-append, length-map, map-append, get_or_past, get_or_append_left}
use Rattle.std.proofs.lemmas.Option.{slice_get_past, slice_get-get_or}
use Rattle.std.proofs.Math.Seq.{get_or-append_seam}
use Rattle.language_model.specs.Evaluation.{nothing}
use Rattle.named_values.specs.Machine.{begun, filled_with}
use Rattle.value_steps.specs.Views.{value_seen}
use Rattle.code_machine.proofs.Frames.{filled-argument, filled-behind, registers-are}
use Rattle.code_machine.proofs.begin.filled.Goals as goal

pub loop-number-init : goal.loop-number-init
loop-number-init c = record {
  count = omega (arith, c.len-number.ensures, c.args.arguments.ok.0);
  values = λ k h.
      let xs = map value_seen c.args.arguments.items in
      let count : length xs ≡ length c.args.arguments.items = simp length-map in
      sym (filled-argument c.args.kinds.now xs k (omega (arith, count, c.len-number.ensures, c.args.arguments.ok.0)));
}

pub loop-number-preserved : goal.loop-number-preserved
loop-number-preserved c =
    let ks = c.args.kinds.now in
    let n = c.loop-number.number in
    let xs = map value_seen c.args.arguments.items in
    let old = c.loop-number.registers.items in
    let v = c.in_ok-begun.field-0 in
    let count : length xs ≡ length c.args.arguments.items = simp length-map in
    let seen : length (map value_seen old) ≡ n = simp length-map c.loop-number.invariant.count in
    let items : map value_seen c.push.new.self.items ≡ map value_seen old ++ value_seen v ∷ [] = ap (map value_seen) c.in_ok-push.ensures.items
    ∙ map-append value_seen old (v ∷ []) in
    let last : get_or (map value_seen old ++ value_seen v ∷ []) n nothing ≡ filled_with ks xs n =
    ap (λ j. get_or (map value_seen old ++ value_seen v ∷ []) j nothing) (sym seen)
    ∙ get_or-append_seam (map value_seen old) (value_seen v) [] nothing
    ∙ c.in_ok-begun.ensures
    ∙ ap begun (sym (slice_get-get_or ks n _ c.loop-number-test.true))
    ∙ sym (filled-behind ks xs n (omega (arith, count, c.len-number.ensures, c.args.arguments.ok.0, c.loop-number.auto.number))) in
    record {
      count = omega (
        arith,
        ap length c.in_ok-push.ensures.items,
        c.loop-number.invariant.count,
        simp (length-append) at
            (ap length c.in_ok-push.ensures.items),
      );
      values = λ k h.
          ap (λ l. get_or l k nothing) items
          ∙ elim (cases_lt k n) [
            | inl less ↦ get_or_append_left (map value_seen old) (value_seen v ∷ []) nothing k (omega (arith, seen)) ∙ c.loop-number.invariant.values k less
            | inr more ↦ let same : k ≡ n = omega arith in ap (λ j. get_or (map value_seen old ++ value_seen v ∷ []) j nothing) same ∙ last
                ∙ ap (filled_with ks xs) (sym same)
          ];
    }

pub returns-clause-registers : goal.returns-clause-registers
returns-clause-registers c =
    let ks = c.args.kinds.now in
    let xs = map value_seen c.args.arguments.items in
    let items = c.loop-number.registers.items in
    let count : length xs ≡ length c.args.arguments.items = simp length-map in
    let seen : length (map value_seen items) ≡ c.loop-number.number = simp length-map c.loop-number.invariant.count in
    registers-are items (filled_with ks xs) (λ k. elim (cases_lt k c.loop-number.number) [
      | inl less ↦ c.loop-number.invariant.values k less
      | inr more ↦ get_or_past (map value_seen items) k nothing (omega (arith, seen))
          ∙ sym (filled-behind ks xs k (omega (arith, count, c.len-number.ensures, c.args.arguments.ok.0, c.loop-number.auto.number))
          ∙ ap begun (slice_get_past ks k (omega (arith, c.loop-number-test.false))))
    ])
