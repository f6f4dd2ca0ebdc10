-- What stands at an open gate was spelled so.
use Rattle.std.proofs.Common.{◌≡◌, ◌≢◌, ◌<◌, ◌==◌, ℕ, zero, suc, inl, inr, true, false, if◌then◌else◌, List, [], ◌∷◌, ◌++◌, length, drop}
use Rattle.std.proofs.Common.{Option, Some, None, refl, sym, ◌∙◌, ap, subst, arith}
use Rattle.std.proofs.lemmas.Bool.{cases_eq}
use Rattle.std.proofs.lemmas.Bool.Decides.{nat_tests}
use Rattle.proto_core.specs.declared.link.Link.{Link}
use Rattle.proto_core.specs.declared.link.Link.TheVariants.{Link12, Link13, Link21, Link23, Link31, Link32}
use Rattle.served_bytes.specs.Front.{Framed, Whole, Malformed, Truncated}
use Rattle.wire.specs.Frames.{AreBytes, IsFrameable, frame_bytes, framed}
use Rattle.wire.proofs.Fronts.{bytes-drop}
use Rattle.wire.proofs.FrameLaws.{framed-spelled}
use Rattle.kept_frames.specs.Kept.{Kept}
use Rattle.miner_journal.specs.Format.{Open, Shut, at_gate, behind_record, link_at, link_number, of_link, read_record, record_bytes}
use Rattle.miner_journal.proofs.Records.{gate_shut}

-- ---- the link

abbrev number_in : Option Link → ℕ
number_in None = 0
number_in (Some l) = link_number l

is_one_of : (n k : ℕ) → n ≡ k → (n == k) ≡ true
is_one_of n k is = grind (arith, nat_tests)

is_not : (n k : ℕ) → n ≢ k → (n == k) ≡ false
is_not n k ne = grind (arith, nat_tests)

-- one number more is tried
tried : (n k : ℕ) (here other : Option Link) (l : Link) → number_in here ≡ k → (if n == k then here else other) ≡ Some l
    → (other ≡ Some l → link_number l ≡ n) → link_number l ≡ n
tried n k here other l numbered e later = elim (cases_eq n k) [
  | inl is ↦ let at : here ≡ Some l = sym (ap (λ b. if b then here else other) (is_one_of n k is)) ∙ e in sym (ap number_in at) ∙ numbered ∙ sym is
  | inr ne ↦ later (sym (ap (λ b. if b then here else other) (is_not n k ne)) ∙ e)
]

link_back : (n : ℕ) (l : Link) → link_at n ≡ Some l → link_number l ≡ n
link_back n l e =
    tried n 0 (Some Link12) _ l refl e
    (λ e1. tried n 1 (Some Link13) _ l refl e1
    (λ e2. tried n 2 (Some Link21) _ l refl e2
    (λ e3. tried n 3 (Some Link23) _ l refl e3
    (λ e4. tried n 4 (Some Link31) _ l refl e4
    (λ e5. tried n 5 (Some Link32) None l refl e5 (λ e6. absurd cc))))))

-- ---- the record

module _ (k : Kept) (rest : List ℕ) where
  abbrev found_or : Option (Kept × List ℕ) → Kept × List ℕ
  found_or None = (k, rest)
  found_or (Some v) = v

  of_link_is : (o : Option Link) (f : Framed) → of_link o f ≡ Some (k, rest) → (o ≡ Some k.link) × (f ≡ Whole k.words rest)
  of_link_is None f e = absurd cc
  of_link_is (Some l) (Whole words left) e =
      let p = ap found_or e in
      (ap (λ v. Some v.0.link) p, ap (λ v. Whole v.0.words v.1) p)
  of_link_is (Some l) (Malformed place) e = absurd cc
  of_link_is (Some l) Truncated e = absurd cc

  record_is : (o : Option (Kept × List ℕ)) → behind_record o ≡ Open k rest → (o ≡ Some (k, rest)) × (0 < length rest)
  record_is None e = absurd cc
  record_is (Some (b, [])) e = absurd cc
  record_is (Some (b, gate ∷ left)) e =
      let same : gate ∷ left ≡ rest = cc in
      let kept : b ≡ k = cc in
      (ap (λ v. Some (v, gate ∷ left)) kept ∙ ap (λ v. Some (k, v)) same, subst (λ v. 0 < length v) same (omega arith))

  with_one : (bytes : List ℕ) → AreBytes bytes → AreBytes (1 ∷ bytes)
  with_one bytes small zero = omega arith
  with_one bytes small (suc i) = small i

  frame_tail : (words : List ℕ) → drop 1 (frame_bytes words ++ rest) ≡ drop 1 (frame_bytes words) ++ rest
  unfolding frame_bytes
  frame_tail words = refl

  read_spelled : (bytes : List ℕ) → AreBytes bytes → read_record bytes ≡ Some (k, rest) → (bytes ≡ record_bytes k ++ rest) × IsFrameable k.words
  unfolding read_record record_bytes
  read_spelled [] small e = absurd cc
  read_spelled (n ∷ tail) small e =
      let is = of_link_is (link_at n) (framed (1 ∷ tail)) e in
      let spelled = framed-spelled (1 ∷ tail) k.words rest (with_one tail (bytes-drop 1 (n ∷ tail) small)) is.1 in
      let after : tail ≡ drop 1 (frame_bytes k.words) ++ rest = ap (drop 1) spelled.1 ∙ frame_tail k.words in
      (ap (λ v. v ∷ tail) (sym (link_back n k.link is.0)) ∙ ap (λ v. link_number k.link ∷ v) after, spelled.0)

  pub open_spelled : (bytes : List ℕ) → AreBytes bytes → at_gate bytes ≡ Open k rest
      → (bytes ≡ 1 ∷ (record_bytes k ++ rest)) × IsFrameable k.words × (0 < length rest)
  open_spelled [] small e = absurd cc
  open_spelled (gate ∷ tail) small e = elim (cases_eq gate 1) [
    | inl one ↦
        let at : behind_record (read_record tail) ≡ Open k rest = sym (ap (λ b. if b then behind_record (read_record tail) else Shut) (is_one_of gate 1 one)) ∙ e in
        let found = record_is (read_record tail) at in
        let spelled = read_spelled tail (bytes-drop 1 (gate ∷ tail) small) found.0 in
        (ap (λ v. v ∷ tail) one ∙ ap (λ v. 1 ∷ v) spelled.0, spelled.1, found.1)
    | inr shut ↦ absurd (shut_open (sym (gate_shut gate tail shut) ∙ e))
  ]
    where
      shut_open : Shut ≡ Open k rest → ⊥
      shut_open f = cc
