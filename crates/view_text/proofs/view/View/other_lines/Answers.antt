use Rattle.std.proofs.Common.{◌≡◌, ◌∷◌, ap, ◌∙◌}
use Rattle.view_text.specs.Text.{view_bytes}
use Rattle.view_text.specs.View.{View}
use Rattle.view_text.proofs.Pieced.{behind_first}
use Rattle.view_text.proofs.view.View.other_lines.Goals as goal

pub returns : goal.returns
unfolding view_bytes
returns c =
    let v = c.args.self.now in
    let inputs : c.deref.result.now ≡ v.inputs = c.deref.ensures.value ∙ ap (λ (x : View). x.inputs) c.self.view_is in
    let got : c.deref-2.result.now ≡ v.got = c.deref-2.ensures.value ∙ ap (λ (x : View). x.got) c.self.view_is in
    let opened : c.deref-3.result.now ≡ v.opened = c.deref-3.ensures.value ∙ ap (λ (x : View). x.opened) c.self.view_is in
    let drew : c.as_slice.result.now ≡ v.drew = c.as_slice.ensures.value ∙ ap (λ (x : View). x.drew) c.self.view_is in
    let end : c.self.inside.end ≡ v.end = ap (λ (x : View). x.end) c.self.view_is in
    ap (λ x. 118 ∷ 105 ∷ 101 ∷ 119 ∷ 32 ∷ x) (behind_first _ _ _ (rw (inputs, got, opened, drew, end)))
