use Rattle.std.proofs.Common.{◌≡◌, ◌+◌, ◌∙◌, length, refl, arith}
use Rattle.std.proofs.lemmas.Bool.{false≢true}
use Rattle.gate_node.proofs.Storing.{has-stored, none-there}
use Rattle.gate_node.proofs.engine.Engine.store_last.Goals as goal
use Rattle.gate_node.proofs.engine.Engine.store_last.Goals.{then-count-eq0-via-then-count-eq0, then-count-eq0-via-else-count-eq0+then-len-count}

pub returns-clause-stored : goal.returns-clause-stored
returns-clause-stored g c =
    λ done.
    let e = c.args.self.now in
    let store = c.in-Some.store in
    let counted : length e.values + 1 ≡ c.args.count = omega (arith, c.len.ensures, c.if-len-count.false, c.if-count-eq0.false) in
    has-stored g.P.Party.me c.args.array store.index store.word c.args.count e c.in-Some.ensures.stores c.put_in_place.new.self (e.begun + 1)
    c.in_ok-put_in_place.ensures.ok refl counted

pub returns-clause-exactly : goal.returns-clause-exactly
returns-clause-exactly g c =
    let e = c.args.self.now in
    let counted : length e.values + 1 ≡ c.args.count = omega (arith, c.len.ensures, c.if-len-count.false, c.if-count-eq0.false) in
    (λ told. (c.in-Some.ensures.exactly.0 refl, counted), λ h. refl)

pub returns-in_default-clause-exactly : goal.returns-in_default-clause-exactly
returns-in_default-clause-exactly g c = (
  λ told. absurd (false≢true told),
  λ h. absurd (none-there c.last_store.result c.in_default.not-Some (c.last_store.ensures.exactly.1 h.0)),
)

pub returns-then-count-eq0-clause-exactly : goal.returns-then-count-eq0-clause-exactly
returns-then-count-eq0-clause-exactly g c =
    elim c.then-count-eq0.branch [
      | then-count-eq0-via-then-count-eq0 w ↦ (λ told. absurd (false≢true told), λ h. absurd (omega (arith, h.1, w.if-count-eq0.true)))
      | then-count-eq0-via-else-count-eq0+then-len-count w ↦
          (λ told. absurd (false≢true told), λ h. absurd (omega (arith, h.1, w.len.ensures, w.if-len-count.true)))
    ]
