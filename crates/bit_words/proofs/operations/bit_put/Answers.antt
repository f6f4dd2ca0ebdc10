use Rattle.std.proofs.Common.{◌≡◌, ◌<◌, ◌≤◌, ◌/◌, ℕ, Vec, Global, length, sym, ◌∙◌, ap, arith}
use Rattle.std.proofs.Math.Facts.{Fits-lt-pow}
use Rattle.std.proofs.lemmas.List.{get_or_read_under}
use Rattle.proto_core.specs.Words.{AreWords}
use Rattle.bit_words.proofs.Putting.{put_made, put_past}
use Rattle.bit_words.proofs.operations.bit_put.Goals as goal
use Rattle.bit_words.proofs.operations.bit_put.Goals.{then-place-len, else-place-len}

pub returns : goal.returns
returns c =
    let are : AreWords c.args.words.now = λ k. Fits-lt-pow (c.type_inv.words k) in
    let many : c.len.result ≡ length c.args.words.now = c.len.ensures ∙ c.in_ok-made.ensures.len in
    let place : ℕ = c.args.i / 64 in
    elim c.if-place-len.branch [
      | then-place-len w ↦
          let inside : place < c.len.result = w.if-place-len.true in
          let as_many : c.len.result ≡ length c.in_ok-made.made.items = many ∙ sym (ap length c.in_ok-made.ensures.items) in
          ap (λ (v : Vec ℕ Global). v.items) w.made-is
          ∙ put_made c.args.words.now c.in_ok-made.made.items c.args.i c.args.others.now w.index.result.now w.bit_of.result w.with_bit.result are
          c.in_ok-made.ensures.items
          (get_or_read_under c.in_ok-made.made.items place c.len.result w.index.result.now 0 w.index.ensures inside as_many)
          w.bit_of.ensures w.with_bit.ensures
      | else-place-len w ↦
          let past : c.len.result ≤ place = w.if-place-len.false in
          ap (λ (v : Vec ℕ Global). v.items) w.made-is
          ∙ put_past c.args.words.now c.in_ok-made.made.items c.args.i c.args.others.now are c.in_ok-made.ensures.items (omega (arith, past, many))
    ]
