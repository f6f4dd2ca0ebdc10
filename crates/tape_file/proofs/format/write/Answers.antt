use Rattle.std.proofs.Common.{subst, All}
use Rattle.tape_file.specs.Tapes.{IsWord}
use Rattle.tape_file.proofs.Laws.{AreTapes, pushed, read_of-pushed, same-lengths}
use Rattle.tape_file.proofs.format.write.Goals as goal

pub returns-clause-bytes : goal.returns-clause-bytes
returns-clause-bytes c =
    pushed c.args.tapes.now c.lengths.result c.dealer-dealer.result.now c.miner1-miner1.result.now c.miner2-miner2.result.now
    c.miner3-miner3.result.now _ _ _ _ _ _
    (record { dealer = c.dealer-dealer.ensures; one = c.miner1-miner1.ensures; two = c.miner2-miner2.ensures; three = c.miner3-miner3.ensures })
    c.lengths.ensures c.new-file.ensures.items c.in_ok-push_words.ensures.bytes c.in_ok-push_words-2.ensures.bytes
    c.in_ok-push_words-3.ensures.bytes c.in_ok-push_words-4.ensures.bytes c.in_ok-push_words-5.ensures.bytes

pub returns-clause-read_again : goal.returns-clause-read_again
returns-clause-read_again c =
    let same : AreTapes c.args.tapes.now c.dealer-dealer.result.now c.miner1-miner1.result.now c.miner2-miner2.result.now c.miner3-miner3.result.now =
    record { dealer = c.dealer-dealer.ensures; one = c.miner1-miner1.ensures; two = c.miner2-miner2.ensures; three = c.miner3-miner3.ensures } in
    read_of-pushed c.args.tapes.now c.dealer-dealer.result.now c.miner1-miner1.result.now c.miner2-miner2.result.now c.miner3-miner3.result.now
    c.push_words-5.new.file.items same (returns-clause-bytes c)
    (record {
      lengths = subst (All IsWord) (same-lengths c.args.tapes.now c.lengths.result c.dealer-dealer.result.now c.miner1-miner1.result.now
          c.miner2-miner2.result.now c.miner3-miner3.result.now same c.lengths.ensures) c.in_ok-push_words.ensures.words;
      dealer = c.in_ok-push_words-2.ensures.words;
      one = c.in_ok-push_words-3.ensures.words;
      two = c.in_ok-push_words-4.ensures.words;
      three = c.in_ok-push_words-5.ensures.words;
    })
