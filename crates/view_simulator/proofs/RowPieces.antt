-- Pieces of lists of words, and the messages that are put together of them.
use Rattle.std.proofs.Common.{◌≡◌, ℕ, ◌+◌, ◌-◌, ◌*◌, ◌%◌, ◌≤◌, ◌<◌, List, [], ◌∷◌, ◌++◌, length, take, drop, refl, sym, ◌∙◌, ap, arith, append_assoc}
use Rattle.std.proofs.Common.{length-append}
use Rattle.std.proofs.lemmas.List.{drop_all, take_all, get_or_past}
use Rattle.std.proofs.Math.Seq.{take-add}
use Rattle.proto_core.specs.declared.party.Number.{Number}
use Rattle.proto_core.specs.Parties.{from_previous, from_next}
use Rattle.proto_core.specs.Lists.{at, part}
use Rattle.proto_core.specs.Strand.{Mail}
use Rattle.proto_core.specs.Protocol.{Protocol}
use Rattle.proto_core.proofs.Parts.{length-part, part-take, part_slice}
use Rattle.proto_core.proofs.Beginnings.{append-none}
use Rattle.proto_core.proofs.Each.{each_none, each_more}
use Rattle.share_convert.specs.Bits.{bits}
use Rattle.share_convert.specs.BitLaws.{length-bits}
use Rattle.joint_run.specs.Three.{each_of}
use Rattle.joint_run.proofs.Blockwise.{for_three}
use Rattle.view_simulator.specs.declared.mails.Mails.{Mails}
use Rattle.view_simulator.specs.Sources.{SourceWords, IsDrawn, Brings}

pub all-taken : (k : ℕ) (xs : List ℕ) → length xs < k → xs ≡ take k xs
all-taken k xs h = sym (take_all k xs (omega arith))

pub none-behind : (k : ℕ) (xs : List ℕ) → length xs < k → [] ≡ drop k xs
none-behind k xs h = sym (drop_all k xs (omega arith))

pub none-there : (xs : List ℕ) (k : ℕ) → length xs ≤ k → 0 ≡ at xs k
none-there xs k h = sym (get_or_past xs k 0 h)

pub slice-is : (n j : ℕ) (xs : List ℕ) → j * n + n ≤ length xs → take (j * n + n - j * n) (drop (j * n) xs) ≡ part n j xs
slice-is n j xs h =
    let size : j * n + n - j * n ≡ n = omega arith in
    ap (λ k. take k (drop (j * n) xs)) size ∙ part_slice n j (j * n) xs refl h

pub slice-size : (n j : ℕ) (xs : List ℕ) → j * n + n ≤ length xs → length (take (j * n + n - j * n) (drop (j * n) xs)) ≡ n
slice-size n j xs h = ap length (slice-is n j xs h) ∙ length-part n j xs

pub ruleset cut_steps = (all-taken, none-behind, none-there)

pub two-fields : (n : ℕ) (w : List ℕ) → 2 * n ≤ length w → take (2 * n) w ≡ part n 0 w ++ part n 1 w
two-fields n w h =
    let twice : 2 * n ≡ n + n = omega arith in
    let one : n ≡ 1 * n = omega arith in
    ap (λ k. take k w) twice
    ∙ take-add n n w
    ∙ ap (λ x. x ++ take n (drop n w)) (sym (part-take n w (omega arith)))
    ∙ ap (λ x. part n 0 w ++ x) (part_slice n 1 n w one (omega arith))

pub drawn-at : (p : Protocol) (s : SourceWords) → IsDrawn p s → (k : Number) → length (each_of s.words k) ≡ p.draws (length s.u) k
drawn-at p s h = for_three (λ k. length (each_of s.words k) ≡ p.draws (length s.u) k) h.first h.second h.third

-- ---- bits, word by word

pub bits-none : (xs ws : List ℕ) → xs ≡ xs ++ bits 0 ws
unfolding bits
bits-none xs ws = sym (append-none xs) ∙ ap (λ b. xs ++ b) (sym (each_none _))

pub bits-more :
    (k : ℕ) (ws old msg new : List ℕ) → msg ≡ old ++ bits k ws → new ≡ msg ++ (at ws k % 2) ∷ [] → new ≡ old ++ bits (k + 1) ws
unfolding bits
bits-more k ws old msg new is has =
    has
    ∙ ap (λ m. m ++ (at ws k % 2) ∷ []) is
    ∙ append_assoc old (bits k ws) ((at ws k % 2) ∷ [])
    ∙ ap (λ b. old ++ b) (sym (each_more k (λ j. at ws j % 2)))

pub bits-length : (k : ℕ) (ws old msg : List ℕ) → msg ≡ old ++ bits k ws → length msg ≡ length old + k
bits-length k ws old msg is = ap length is ∙ length-append old (bits k ws) ∙ ap (λ n. length old + n) (length-bits k ws)

-- ---- messages after others

module _ (i : Number) (mail : Mail) (before : Mails) where
  pub two-brought :
      (first after : Mails) (x y : List ℕ) → first.previous ≡ before.previous ++ x ∷ [] → first.next ≡ before.next →
      after.previous ≡ first.previous ++ y ∷ [] → after.next ≡ first.next →
      mail (from_previous i) ≡ x ∷ y ∷ [] → mail (from_next i) ≡ [] → Brings i mail before after
  two-brought first after x y p n p2 n2 hp hn =
      record {
        previous = p2 ∙ ap (λ m. m ++ y ∷ []) p ∙ append_assoc before.previous (x ∷ []) (y ∷ []) ∙ ap (λ m. before.previous ++ m) (sym hp);
        next = n2 ∙ n ∙ sym (append-none before.next) ∙ ap (λ m. before.next ++ m) (sym hn);
      }
