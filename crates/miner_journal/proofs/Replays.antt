-- A journal that was read to its end can be written there.
use Rattle.std.proofs.Common.{◌≡◌, ◌≢◌, ◌≤◌, ◌<◌, ◌+◌, ◌==◌, ◌&&◌, ℕ, inl, inr, Bool, true, false, List, [], ◌∷◌, ◌++◌, length, drop, get_or}
use Rattle.std.proofs.Common.{Option, Some, None}
use Rattle.std.proofs.Common.{refl, sym, ◌∙◌, ap, subst, arith, append_assoc, length-drop}
use Rattle.std.specs.Prelude.{nat_le}
use Rattle.std.proofs.lemmas.Bool.{cases_eq, cases_lt}
use Rattle.std.proofs.lemmas.Bool.Decides.{nat_tests}
use Rattle.std.proofs.lemmas.List.{append-nil, drop-drop, drop_at, length-take-le, take-append-drop}
use Rattle.wire.specs.Frames.{AreBytes}
use Rattle.wire.proofs.Fronts.{bytes-drop}
use Rattle.kept_disk.specs.Images.{DiskFile}
use Rattle.kept_frames.specs.Kept.{AllGood, Kept}
use Rattle.miner_journal.specs.Format.{Open, Shut, at_gate, behind_record, blocks, digests, is_begun, read_record, record_bytes}
use Rattle.miner_journal.specs.Replay.{Leads, SettlesReplayed}
use Rattle.miner_journal.proofs.Spelled.{open_spelled}
use Rattle.miner_journal.proofs.Standing.{blocks_length, front, good_more, opened_is}

module _ (sums : List ℕ) (long : length sums ≡ 96) (seen : List ℕ) (small : AreBytes seen) where
  -- the records up to a place are these, and a byte stands there
  pub record Reached (rs : List Kept) (place : ℕ) : Type 0 where
    pub good : AllGood rs
    pub are : seen ≡ front sums long rs ++ drop place seen
    pub placed : place ≡ 97 + length (blocks rs)
    pub more : 0 < length (drop place seen)

  one_more : (rs : List Kept) (place : ℕ) (k : Kept) (rest : List ℕ) → Reached rs place → at_gate (drop place seen) ≡ Open k rest
      → Reached (rs ++ k ∷ []) (place + 1 + length (record_bytes k))
  one_more rs place k rest r e =
      let spelled = open_spelled k rest (drop place seen) (bytes-drop place seen small) e in
      let next : place + 1 + length (record_bytes k) ≡ place + (1 + length (record_bytes k)) = omega arith in
      let left : drop (place + 1 + length (record_bytes k)) seen ≡ rest =
      ap (λ n. drop n seen) next
      ∙ sym (drop-drop (1 + length (record_bytes k)) place seen)
      ∙ ap (drop (1 + length (record_bytes k))) spelled.0
      ∙ drop_at (1 ∷ record_bytes k) rest (1 + length (record_bytes k)) (omega arith) in
      let size = blocks_length rs k in
      let start = r.placed in
      record {
        good = good_more rs k r.good spelled.1;
        are = r.are ∙ ap (λ v. front sums long rs ++ v) spelled.0 ∙ opened_is sums long rs r.good k spelled.1 rest
            ∙ ap (λ v. front sums long (rs ++ k ∷ []) ++ v) (sym left);
        placed = omega (arith, size, start);
        more = subst (λ v. 0 < length v) (sym left) spelled.2;
      }

  walked : (ks rs : List Kept) (place last : ℕ) → Reached rs place → Leads seen place ks last → Reached (rs ++ ks) last
  walked [] rs place last r e = subst (λ v. Reached v last) (sym (append-nil rs)) (subst (Reached rs) (sym e) r)
  walked (k ∷ ks) rs place last r e =
      subst (λ v. Reached v last) (append_assoc rs (k ∷ []) ks)
      (walked ks (rs ++ k ∷ []) (place + 1 + length (record_bytes k)) last (one_more rs place k e.0.0 r e.0.1) e.1)

-- ---- where a journal begins

both : (a b : Bool) → (a && b) ≡ true → (a ≡ true) × (b ≡ true)
both true b e = (refl, e)
both false b e = absurd cc

enough : (n : ℕ) → nat_le 98 n ≡ true → 98 ≤ n
enough n e = elim (cases_lt n 98) [
  | inl few ↦ absurd (short few (sym e ∙ not_enough few))
  | inr h ↦ h
]
  where
    not_enough : n < 98 → nat_le 98 n ≡ false
    not_enough h = grind arith

    short : n < 98 → true ≡ false → ⊥
    short h f = cc

is_one : (n : ℕ) → (n == 1) ≡ true → n ≡ 1
is_one n e = elim (cases_eq n 1) [
  | inl is ↦ is
  | inr ne ↦ absurd (apart (sym e ∙ other ne))
]
  where
    other : n ≢ 1 → (n == 1) ≡ false
    other ne = grind (arith, nat_tests)

    apart : true ≡ false → ⊥
    apart f = cc

first_is : (bytes : List ℕ) → 0 < length bytes → get_or bytes 0 0 ≡ 1 → bytes ≡ 1 ∷ drop 1 bytes
first_is [] h e = absurd (omega (arith, h))
first_is (x ∷ xs) h e = ap (λ v. v ∷ xs) e

module _ (sums seen : List ℕ) (small : AreBytes seen) (begun : is_begun seen ≡ true) (signed : digests seen ≡ sums) where
  long_enough : 98 ≤ length seen
  long_enough = enough (length seen) (both (nat_le 98 (length seen)) (get_or seen 0 0 == 1) begun).0

  pub sums_long : length sums ≡ 96
  sums_long =
      let a = length-drop 1 seen in
      ap length (sym signed) ∙ length-take-le 96 (drop 1 seen) (omega (arith, a, long_enough))

  first_record : seen ≡ (1 ∷ sums) ++ drop 97 seen
  first_record =
      let one = is_one (get_or seen 0 0) (both (nat_le 98 (length seen)) (get_or seen 0 0 == 1) begun).1 in
      let after : drop 1 seen ≡ sums ++ drop 97 seen =
      sym (take-append-drop 96 (drop 1 seen)) ∙ ap (λ v. v ++ drop 96 (drop 1 seen)) signed ∙ ap (λ v. sums ++ v) (drop-drop 96 1 seen) in
      first_is seen (omega (arith, long_enough)) one ∙ ap (λ v. 1 ∷ v) after

  pub start : Reached sums sums_long seen small [] 97
  start = let a = length-drop 97 seen in record {
    good = tt;
    are = first_record ∙ ap (λ v. v ++ drop 97 seen) (sym (append-nil (1 ∷ sums)));
    placed = refl;
    more = omega (arith, a, long_enough);
  }

-- ---- where it ends

never_shut : (o : Option (Kept × List ℕ)) → behind_record o ≡ Shut → ⊥
never_shut None e = cc
never_shut (Some (k, [])) e = cc
never_shut (Some (k, gate ∷ rest)) e = cc

last_gate : (rest : List ℕ) → 0 < length rest → at_gate rest ≡ Shut → (gate : ℕ) × (tail : List ℕ) × (gate ≢ 1) × (rest ≡ gate ∷ tail)
last_gate [] h e = absurd (omega (arith, h))
last_gate (gate ∷ tail) h e = (gate, tail, (λ one. never_shut (read_record tail) (opens one ∙ e)), refl)
  where
    opens : gate ≡ 1 → behind_record (read_record tail) ≡ at_gate (gate ∷ tail)
    opens one = ap (λ g. at_gate (g ∷ tail)) (sym one)

pub settles_replayed : (sums : List ℕ) (rs : List Kept) (file : DiskFile) (place : ℕ) → SettlesReplayed sums rs file place
settles_replayed sums rs file place small r =
    let long = sums_long sums file.seen small r.begun r.signed in
    let end = walked sums long file.seen small rs [] 97 place (start sums file.seen small r.begun r.signed) r.leads in
    let last = last_gate (drop place file.seen) end.more r.shut in
    record {
      gate = last.0;
      tail = last.1;
      shut = last.2;
      walked = record {
        sums_long = long;
        good = end.good;
        are = end.are ∙ ap (λ v. front sums long rs ++ v) last.3;
        placed = end.placed;
      };
      synced = r.synced;
    }
