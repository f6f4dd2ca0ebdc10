use Rattle.std.proofs.Common.{rules, ◌≡◌, ◌∙◌, ◌∷◌, map, ap, sym, Vec, Global}
use Rattle.std.proofs.lemmas.List.{map-append}
use Rattle.std.proofs.lemmas.Result.{err_from_is_err_and}
use Rattle.bytecode.specs.declared.code.CodeFunction.{CodeFunction}
use Rattle.bytecode.specs.Decoded.{bodies_layout}
use Rattle.bytecode.specs.InMemory.{raw_function, raw_head}
use Rattle.bytecode.specs.Layouts.{read}
use Rattle.bytecode.specs.Versions.{counting}
use Rattle.bytecode.proofs.Reading.{after, reads_err}
use Rattle.bytecode.proofs.NameReads.{nothing_left, bodies_begin, bodies_more, bodies_stop, bodies_end}
use Rattle.bytecode.proofs.decoding.bodies.Goals as goal

pub loop-head-init : goal.loop-head-init
loop-head-init c =
    let rule = counting c.args.version c.args.parameters.now in
    bodies_begin rule (map raw_head c.args.heads.items) c.args.reader.now
    ∙ ap (λ fs. after (map raw_function fs) (read (bodies_layout rule (map raw_head c.args.heads.items)) c.args.reader.now)) (sym c.new-functions.ensures.items)
    ∙ ap (λ hs. after (map raw_function c.new-functions.result.items) (read (bodies_layout rule (map raw_head hs)) c.args.reader.now))
    (sym c.into_iter-head-iterator.ensures.into_iter_gives.0)

pub returns-in_err-next : goal.returns-in_err-next
returns-in_err-next c =
    let rule = counting c.args.version c.args.parameters.now in
    let more : c.loop-head.head-iterator.rest.items ≡ c.in-Some.head ∷ c.next.new.self.rest.items = search rules in
    let stop = bodies_stop rule (map raw_head c.loop-head.head-iterator.rest.items) (map raw_head c.next.new.self.rest.items) (raw_head c.in-Some.head)
    (map raw_function c.loop-head.functions.items) c.loop-head.reader
    (read (bodies_layout rule (map raw_head c.args.heads.items)) c.args.reader.now) c.in_err-next.field-0.0
    (ap (map raw_head) more) c.in_err-next.ensures c.loop-head.invariant in
    let from = c.from_residual.ensures in
    reads_err (λ (v : Vec CodeFunction Global). map raw_function v.items) _ _ _ _ (err_from_is_err_and c.from_residual.result from.1) stop

pub loop-head-preserved : goal.loop-head-preserved
loop-head-preserved c =
    let rule = counting c.args.version c.args.parameters.now in
    let more : c.loop-head.head-iterator.rest.items ≡ c.in-Some.head ∷ c.next.new.self.rest.items = search rules in
    bodies_more rule (map raw_head c.loop-head.head-iterator.rest.items) (map raw_head c.next.new.self.rest.items) (raw_head c.in-Some.head)
    (map raw_function c.loop-head.functions.items) _ c.loop-head.reader _
    (read (bodies_layout rule (map raw_head c.args.heads.items)) c.args.reader.now) (ap (map raw_head) more) c.in_ok-next.ensures c.loop-head.invariant
    ∙ ap (λ xs. after xs (read (bodies_layout rule (map raw_head c.next.new.self.rest.items)) c.function.new.reader))
    (sym (ap (map raw_function) c.in_ok-push.ensures ∙ map-append raw_function c.loop-head.functions.items _))

pub returns : goal.returns
returns c =
    let none = nothing_left c.loop-head.head-iterator.rest.items (sym c.loop-head.head-iterator.rest.ok.0 ∙ c.in-None.ensures.steps.0) in
    bodies_end (counting c.args.version c.args.parameters.now) (map raw_head c.loop-head.head-iterator.rest.items) (map raw_function c.loop-head.functions.items) c.loop-head.reader
    (read (bodies_layout (counting c.args.version c.args.parameters.now) (map raw_head c.args.heads.items)) c.args.reader.now) (ap (map raw_head) none) c.loop-head.invariant
