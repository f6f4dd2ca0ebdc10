-- What `gather` decides of files that are as they must be; and that it is refused exactly for one that is there and is not, and for files that
-- don't go together.
use Rattle.std.proofs.Common.{◌≡◌, ℕ, List, [], ◌∷◌, ◌++◌, true, Some, Ok, Err, Result, refl, ap, subst, sym, ◌∙◌, inl, inr}
use Rattle.outside.specs.Files.{Contents, file_at}
use Rattle.command_frame.specs.declared.status.Status.{Status}
use Rattle.command_frame.specs.declared.status.Status.TheVariants as statuses
use Rattle.command_frame.specs.Answer.{Answer, Cause, ◌>>=◌}
use Rattle.command_frame.specs.Status.{can_refuse}
use Rattle.command_words.specs.Ask.{GatherAsk}
use Rattle.input_share.specs.Reading.{read_share_of}
use Rattle.input_share.specs.ShareFile.{MinerFile}
use Rattle.proto_core.specs.Parties.{count_of as number_of}
use Rattle.proto_core.specs.declared.party.Number.{Number}
use Rattle.value_file.specs.declared.read_err.ReadErr.{ReadErr}
use Rattle.gather_command.specs.Gathering.{gathered}
use Rattle.gather_command.specs.Owners.{Lengths, Owner, dealt_by, dealt_by_all, dealt_by_one}
use Rattle.gather_command.specs.declared.gathering.GatherErr.{GatherErr}
use Rattle.gather_command.proofs.OneDealing.{gathered_is_dealt}
use Rattle.program_commands.specs.Reading.{bad_input, read_or, share_at}
use Rattle.program_commands.proofs.Held.{read_there}
use Rattle.program_commands.proofs.Refusals.{ReadRefused, input_status, not_done, not_missing, refusing, share_refused, status_in_answer, status_of_cause}
use Rattle.program_commands.proofs.Refusals.{steps}
use Rattle.gather_command.specs.Gather.{gather_effect, gather_of, shares_at, ungathered}
use Rattle.gather_command.specs.Held.{GatherRefused, HoldsDealt, HoldsShares, WritesOneDealing, unlike_shares, unreadable_share}

-- ---- files that are as they must be

pub gather_answer : (ask : GatherAsk) (files : Contents) (first : MinerFile) (more : List MinerFile) (file : MinerFile) → HoldsShares ask files first more
    → gathered first more ≡ Ok file → gather_of ask files ≡ Ok (gather_effect ask.to file)
unfolding gather_of
gather_answer ask files first more file h is = rw (h.first, h.more, is) refl

pub writes_one_dealing : (ask : GatherAsk) (files : Contents) (miners : Lengths) (owner : Owner) (owners : List Owner)
    → HoldsDealt ask files miners owner owners → WritesOneDealing ask files miners owner owners
writes_one_dealing ask files miners owner owners h = (
  dealt_by ask.miner miners owner,
  dealt_by_all ask.miner miners owners,
  dealt_by_one ask.miner miners (owner ∷ owners),
  h.shares,
  gathered_is_dealt ask.miner miners owner owners h.enough h.inputs h.long,
  refl,
)

-- ---- files that are refused

share_bad : (files : Contents) (miner : Number) (path bytes : List ℕ) (err : ReadErr) → file_at files path ≡ Some bytes
    → read_share_of (number_of miner) bytes ≡ Err err → share_at files miner path ≡ Err (bad_input err)
unfolding share_at
share_bad files miner path bytes err there bad = rw (read_there files path bytes there, bad) refl

shares_bad : (files : Contents) (miner : Number) (before : List (List ℕ)) (path : List ℕ) (behind : List (List ℕ)) (earlier : List MinerFile) (c : Cause)
    → shares_at files miner before ≡ Ok earlier → share_at files miner path ≡ Err c → shares_at files miner (before ++ path ∷ behind) ≡ Err c
unfolding shares_at
shares_bad files miner [] path behind earlier c read bad = rw bad refl
shares_bad files miner (p ∷ ps) path behind earlier c read bad =
    elim (steps (share_at files miner p) (λ f. shares_at files miner ps >>= λ more. Ok (f ∷ more)) (Ok earlier) read) [
      | inl (c2, e, wrong) ↦ absurd cc
      | inr (f, e, rest) ↦
          elim (steps (shares_at files miner ps) (λ more. Ok (f ∷ more)) (Ok earlier) rest) [
            | inl (c2, e2, wrong) ↦ absurd cc
            | inr (more, e2, is) ↦ rw (e, shares_bad files miner ps path behind more c e2 bad) refl
          ]
    ]

-- all share files at once
abbrev whole : GatherAsk → Contents → Result (List MinerFile) Cause
whole ask files = shares_at files ask.miner (ask.first ∷ ask.more)

whole_bad : (ask : GatherAsk) (files : Contents) (c : Cause) → whole ask files ≡ Err c → gather_of ask files ≡ Err c
unfolding gather_of shares_at
whole_bad ask files c is =
    elim (steps (share_at files ask.miner ask.first) (λ f. shares_at files ask.miner ask.more >>= λ more. Ok (f ∷ more)) (Err c) is) [
      | inl (c2, e, same) ↦ let here : c2 ≡ c = cc in rw e (ap Err here)
      | inr (f, e, rest) ↦
          elim (steps (shares_at files ask.miner ask.more) (λ more. Ok (f ∷ more)) (Err c) rest) [
            | inl (c2, e2, same) ↦ let here : c2 ≡ c = cc in rw (e, e2) (ap Err here)
            | inr (more, e2, wrong) ↦ absurd cc
          ]
    ]

ungathered_status : (err : GatherErr) → status_of_cause (ungathered err) ≡ statuses.Input
unfolding ungathered
ungathered_status err = refl

refused : (ask : GatherAsk) (files : Contents) (first : MinerFile) (more : List MinerFile) (err : GatherErr) → HoldsShares ask files first more
    → gathered first more ≡ Err err → gather_of ask files ≡ Err (ungathered err)
unfolding gather_of
refused ask files first more err h bad = rw (h.first, h.more, bad) refl

pub gather_refused : (ask : GatherAsk) (files : Contents) (s : Status) → GatherRefused ask files s → status_in_answer (gather_of ask files) ≡ s
gather_refused ask files s (unreadable_share is h) =
    let all : whole ask files ≡ Err (bad_input h.err) = ap (shares_at files ask.miner) h.order
    ∙ shares_bad files ask.miner h.before h.path h.behind h.earlier (bad_input h.err) h.read
    (share_bad files ask.miner h.path h.bytes h.err h.there h.bad) in
    ap status_in_answer (whole_bad ask files (bad_input h.err) all) ∙ input_status h.err ∙ sym is
gather_refused ask files s (unlike_shares is first more h err bad) =
    ap status_in_answer (refused ask files first more err h bad) ∙ ungathered_status err ∙ sym is

-- ---- and only so

-- the first of the files that is missing or refused
record StopsAtShare (files : Contents) (miner : Number) (paths : List (List ℕ)) (c : Cause) : Type 0 where
  before : List (List ℕ)
  path : List ℕ
  behind : List (List ℕ)
  order : paths ≡ before ++ path ∷ behind
  earlier : List MinerFile
  read : shares_at files miner before ≡ Ok earlier
  refused : ReadRefused files path bad_input (read_share_of (number_of miner)) c

stops_at : (files : Contents) (miner : Number) (paths : List (List ℕ)) (c : Cause) → shares_at files miner paths ≡ Err c
    → StopsAtShare files miner paths c
unfolding shares_at
stops_at files miner [] c is = absurd cc
stops_at files miner (p ∷ ps) c is =
    elim (steps (share_at files miner p) (λ f. shares_at files miner ps >>= λ more. Ok (f ∷ more)) (Err c) is) [
      | inl (c2, e, same) ↦
          let here : c2 ≡ c = cc in
          record {
            before = [];
            path = p;
            behind = ps;
            order = refl;
            earlier = [];
            read = refl;
            refused = subst (ReadRefused files p bad_input (read_share_of (number_of miner))) here (share_refused files miner p c2 e);
          }
      | inr (f, e, rest) ↦
          elim (steps (shares_at files miner ps) (λ more. Ok (f ∷ more)) (Err c) rest) [
            | inl (c2, e2, same) ↦
                let here : c2 ≡ c = cc in
                let later : StopsAtShare files miner ps c = stops_at files miner ps c (e2 ∙ ap Err here) in
                record {
                  before = p ∷ later.before;
                  path = later.path;
                  behind = later.behind;
                  order = ap (λ (l : List (List ℕ)). p ∷ l) later.order;
                  earlier = f ∷ later.earlier;
                  read = rw (e, later.read) refl;
                  refused = later.refused;
                }
            | inr (more, e2, wrong) ↦ absurd cc
          ]
    ]

module _ (ask : GatherAsk) (files : Contents) (r : Answer) (refusal : can_refuse (status_in_answer r) ≡ true) where
  by_share : (c : Cause) → r ≡ Err c → whole ask files ≡ Err c → GatherRefused ask files (status_in_answer r)
  by_share c is bad = go (stops_at files ask.miner (ask.first ∷ ask.more) c bad)
    where
      go : StopsAtShare files ask.miner (ask.first ∷ ask.more) c → GatherRefused ask files (status_in_answer r)
      go s = elim s.refused [
        | inl missed ↦ not_missing r c s.path refusal is missed
        | inr (bytes, err, there, bad, e) ↦
            unreadable_share (refusing r c is ∙ ap status_of_cause e ∙ input_status err)
            (record {
              before = s.before;
              path = s.path;
              behind = s.behind;
              order = s.order;
              earlier = s.earlier;
              read = s.read;
              bytes = bytes;
              there = there;
              err = err;
              bad = bad;
            })
      ]

  at_gathering : (first : MinerFile) (more : List MinerFile) → HoldsShares ask files first more → (g : Result MinerFile GatherErr)
      → gathered first more ≡ g → (read_or ungathered g >>= λ file. Ok (gather_effect ask.to file)) ≡ r → GatherRefused ask files (status_in_answer r)
  at_gathering first more held (Ok file) e is = not_done r refusal (ap status_in_answer (sym is))
  at_gathering first more held (Err err) e is =
      unlike_shares (refusing r (ungathered err) (sym is) ∙ ungathered_status err) first more held err e

  at_more : (first : MinerFile) → share_at files ask.miner ask.first ≡ Ok first
      → (shares_at files ask.miner ask.more >>= λ more. read_or ungathered (gathered first more) >>= λ file. Ok (gather_effect ask.to file)) ≡ r
      → GatherRefused ask files (status_in_answer r)
  unfolding shares_at
  at_more first one is =
      elim (steps (shares_at files ask.miner ask.more)
      (λ more. read_or ungathered (gathered first more) >>= λ file. Ok (gather_effect ask.to file)) r is) [
        | inl (c, e, is_r) ↦ by_share c is_r (rw (one, e) refl)
        | inr (more, e, rest) ↦ at_gathering first more (record { first = one; more = e }) (gathered first more) refl rest
      ]

  pub gather_refused_by : gather_of ask files ≡ r → GatherRefused ask files (status_in_answer r)
  unfolding gather_of shares_at
  gather_refused_by is =
      elim (steps (share_at files ask.miner ask.first)
      (λ first. shares_at files ask.miner ask.more
      >>= λ more. read_or ungathered (gathered first more) >>= λ file. Ok (gather_effect ask.to file)) r is) [
        | inl (c, e, is_r) ↦ by_share c is_r (rw e refl)
        | inr (first, e, rest) ↦ at_more first e rest
      ]
