use Rattle.std.proofs.Common.{◌≡◌, ◌∙◌, Some, cond, sym, ap, rules, string_bytes}
use Rattle.std.specs.BTreeMap.{get_by_text}
use Rattle.std.specs.Str.{bytes_eq}
use Rattle.std.proofs.lemmas.Bool.{false_from_ne_true}
use Rattle.std.proofs.lemmas.Map.Text.{btree_map_updates_text}
use Rattle.std.proofs.lemmas.Slice.Eq.{bytes_eq-Decides}
use Rattle.real_objects.proofs.files.keep_size.Goals as goal

pub returns-clause-others : goal.returns-clause-others
returns-clause-others c = λ q ne.
    let old = c.args.sizes.now in
    let name = string_bytes c.in_ok-name.name in
    let named : string_bytes c.in_ok-name.name ≡ c.args.path.now = search rules in
    btree_map_updates_text name old c.insert.new.self (Some c.args.size) c.in_ok-insert.ensures.updates q
    ∙ ap (λ b. cond b (Some c.args.size) (get_by_text old q)) (false_from_ne_true (bytes_eq name q) (λ t. ne (sym ((bytes_eq-Decides name q).0 t) ∙ named)))
