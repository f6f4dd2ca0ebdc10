-- What miners keep of the values that a run hands over are shares of these.
use Rattle.std.proofs.Common.{◌≡◌, ℕ, zero, suc, Bool, true, false, ◌+◌, ◌<◌, ◌≤◌, List, [], ◌∷◌, ◌++◌, length, refl, ap, subst, arith}
use Rattle.proto_core.specs.declared.party.Number.{Number}
use Rattle.gates.specs.declared.ring_kind.RingKind.{RingKind}
use Rattle.gates.specs.declared.gate.Gate.{Gate}
use Rattle.gates.specs.declared.gate.Gate.TheVariants.{Result}
use Rattle.gates.specs.Clear.{Values, value, ring_of, FitFrom}
use Rattle.gates.specs.Counts.{made_by, made_by_all}
use Rattle.gates.proofs.Columns.{stands}
use Rattle.shared_gates.specs.Shares.{AreShares, Kind, Shared, Holds, share_at, AllHeld}
use Rattle.shared_gates.specs.Kinds.{AllKinded}
use Rattle.shared_gates.specs.Computed.{Computed}
use Rattle.handed_shares.specs.Handed.{handed_by, handed_values, kind_by, handed_kinds, kept_by, kept_from, AreKept}

-- one value more, in front
held-more :
    (kind : Kind) (kinds : List Kind) (x : List ℕ) (values : Values) (s : Number → List ℕ) (shares : Number → Values)
    → Holds kind x s → AllHeld kinds values shares → AllHeld (kind ∷ kinds) (x ∷ values) (λ i. s i ∷ shares i)
held-more kind kinds x values s shares h held zero lt = h
held-more kind kinds x values s shares h held (suc k) lt = held k (omega (arith, lt))

first_there : (next made total : ℕ) → next + (1 + made) ≤ total → next < total
first_there next made total le = omega (arith, le)

later : (next one made total : ℕ) → next + (one + made) ≤ total → next + one + made ≤ total
later next one made total le = omega (arith, le)

module _ (mine : ℕ → Bool) (dealt_kinds kinds : List Kind) (inputs values : Values) (final : Number → Values) (held : AllHeld kinds values final) where
  abbrev kept : (next : ℕ) → List Gate → Number → Values
  kept next gates i = kept_from mine next (final i) gates

  abbrev IsHeld : (next : ℕ) → List Gate → Type 0
  IsHeld next gates = AllHeld (handed_kinds mine next gates) (handed_values mine next values gates) (kept next gates)

  -- the value that was handed over is the one that the gate makes, and its shares are in the gate's ring
  result-held :
      (ring : RingKind) (u next : ℕ) (gates : List Gate) → AllKinded dealt_kinds kinds next (Result ring u ∷ gates)
      → FitFrom inputs values next (Result ring u ∷ gates) → next < length values → AreShares (ring_of ring) (value values u) (share_at final next)
  result-held ring u next gates kinded fit lt =
      subst (λ xs. AreShares (ring_of ring) xs (share_at final next)) (stands values next fit.1)
      (subst (λ kind. Holds kind (value values next) (share_at final next)) kinded.0.1.0 (held next lt))

  all-held : (gates : List Gate) (next : ℕ) → AllKinded dealt_kinds kinds next gates → FitFrom inputs values next gates
      → next + made_by_all gates ≤ length values → IsHeld next gates
  all-held [] next kinded fit room = λ k lt. absurd (omega (arith, lt))
  all-held (Result ring u ∷ gates) next kinded fit room =
      either (mine next) (all-held gates (next + 1) kinded.1 fit.2 (later next 1 (made_by_all gates) (length values) room))
    where
      either : (b : Bool) → IsHeld (next + 1) gates → AllHeld (kind_by (Result ring u) b ++ handed_kinds mine (next + 1) gates)
          (handed_by (Result ring u) b values ++ handed_values mine (next + 1) values gates)
          (λ i. kept_by (Result ring u) b next (final i) ++ kept (next + 1) gates i)
      either true others =
          held-more (Shared ring) (handed_kinds mine (next + 1) gates) (value values u) (handed_values mine (next + 1) values gates)
          (share_at final next) (kept (next + 1) gates)
          (result-held ring u next gates kinded fit (first_there next (made_by_all gates) (length values) room)) others
      either false others = others
  all-held (gate ∷ gates) next kinded fit room =
      all-held gates (next + made_by gate) kinded.1 fit.2 (later next (made_by gate) (made_by_all gates) (length values) room)

-- ---- as many

count-kept : (mine : ℕ → Bool) (values own : Values) (gates : List Gate) (next : ℕ)
    → length (kept_from mine next own gates) ≡ length (handed_values mine next values gates)
count-kept mine values own [] next = refl
count-kept mine values own (Result ring u ∷ gates) next = either (mine next) (count-kept mine values own gates (next + 1))
  where
    either : (b : Bool) → length (kept_from mine (next + 1) own gates) ≡ length (handed_values mine (next + 1) values gates)
        → length (kept_by (Result ring u) b next own ++ kept_from mine (next + 1) own gates)
        ≡ length (handed_by (Result ring u) b values ++ handed_values mine (next + 1) values gates)
    either true rest = ap suc rest
    either false rest = rest
count-kept mine values own (gate ∷ gates) next = count-kept mine values own gates (next + made_by gate)

count-kinds : (mine : ℕ → Bool) (values : Values) (gates : List Gate) (next : ℕ)
    → length (handed_kinds mine next gates) ≡ length (handed_values mine next values gates)
count-kinds mine values [] next = refl
count-kinds mine values (Result ring u ∷ gates) next = either (mine next) (count-kinds mine values gates (next + 1))
  where
    either : (b : Bool) → length (handed_kinds mine (next + 1) gates) ≡ length (handed_values mine (next + 1) values gates)
        → length (kind_by (Result ring u) b ++ handed_kinds mine (next + 1) gates)
        ≡ length (handed_by (Result ring u) b values ++ handed_values mine (next + 1) values gates)
    either true rest = ap suc rest
    either false rest = rest
count-kinds mine values (gate ∷ gates) next = count-kinds mine values gates (next + made_by gate)

pub are-kept :
    (mine : ℕ → Bool) (dealt_kinds kinds : List Kind) (inputs : Values) (gates : List Gate) (shares : Number → Values) (opened : List ℕ)
    → AllKinded dealt_kinds kinds 0 gates → (run : Computed kinds inputs [] gates shares opened) → AreKept mine gates run.more shares
are-kept mine dealt_kinds kinds inputs gates shares opened kinded run =
    record {
      held = all-held mine dealt_kinds kinds inputs run.more shares run.held gates 0 kinded run.fit (enough (made_by_all gates) (length run.more) run.count);
      count = λ i. count-kept mine run.more (shares i) gates 0;
      kinds = count-kinds mine run.more gates 0;
    }
  where
    enough : (made total : ℕ) → total ≡ made → 0 + made ≤ total
    enough made total e = omega (arith, e)
