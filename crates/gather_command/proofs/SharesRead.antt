-- Share files that are read one after another.
use Rattle.std.proofs.Common.{◌≡◌, ℕ, ◌+◌, ◌<◌, ◌≤◌, List, [], ◌∷◌, ◌++◌, All, Global, String, true, length, map, get_or, drop, Ok, Err, Result}
use Rattle.std.proofs.Common.{refl, ap, sym, subst, ◌∙◌, append_assoc, arith, string_bytes}
use Rattle.std.proofs.lemmas.List.{append-nil, drop_all, drop_more, get_or-map, length-map}
use Rattle.std.proofs.lemmas.List.Elements.{All-push}
use Rattle.std.specs.Result.{IsErrAnd}
use Rattle.outside.specs.Files.{Contents, FilesState}
use Rattle.command_frame.specs.declared.object.Object.TheVariants as objects
use Rattle.command_frame.specs.declared.stop.Stop.{Stop}
use Rattle.command_frame.specs.declared.stop.Stop.TheVariants as stops
use Rattle.command_frame.specs.Answer.{Cause, cause_of, ◌>>=◌}
use Rattle.command_frame.specs.Reads.{Gives, OnlyRead, StopNames, Stops}
use Rattle.command_frame.proofs.Naming.{names_among}
use Rattle.input_share.specs.Reading.{AreWritable}
use Rattle.input_share.specs.ShareFile.{MinerFile}
use Rattle.proto_core.specs.declared.party.Number.{Number}
use Rattle.program_commands.specs.Reading.{share_at}
use Rattle.gather_command.specs.Gather.{shares_at}

-- ---- a stop that is handed on, and one in the reading of a later file

pub given_stop : {X Y : Type 0} (view : X → Y) (a c : FilesState) (r : Result X Stop) (stop : Stop) (whole : Result Y Cause)
    → IsErrAnd r (λ given. given ≡ stop) → Stops a c stop whole → Gives view a c r whole
given_stop view a c (Ok x) stop whole is s = absurd is
given_stop view a c (Err given) stop whole is s = subst (λ (x : Stop). Stops a c x whole) (sym is) s

pub stops_in : {X Y : Type 0} (a b c : FilesState) (stop : Stop) (part : Result X Cause) (whole : Result Y Cause) → OnlyRead a b → Stops b c stop part
    → (a.told ≡ true → (why : Cause) → part ≡ Err why → whole ≡ Err why) → Stops a c stop whole
stops_in a b c stops.Memory part whole read s up = tt
stops_in a b c (stops.Refused r) part whole read s up = λ t. up t (cause_of r) (s (read.same.told ∙ t))
stops_in a b c (stops.Breached x) part whole read s up = s
stops_in a b c stops.Usage part whole read s up = s
stops_in a b c (stops.Failed (objects.File line)) part whole read s up = record {
  rose = omega (arith, read.later, s.rose);
  missing = λ steady t. up t _ (s.missing (read.still steady) (read.same.told ∙ t));
}
stops_in a b c (stops.Failed objects.Output) part whole read s up = s
stops_in a b c (stops.Failed objects.Links) part whole read s up = s
stops_in a b c (stops.Failed objects.Children) part whole read s up = s

pub only_read_more : (a b c : FilesState) → OnlyRead a b → OnlyRead b c → OnlyRead a c
only_read_more a b c first then = record {
  same = record { told = then.same.told ∙ first.same.told; contents = then.same.contents ∙ first.same.contents };
  later = omega (arith, first.later, then.later);
  still = λ s. then.still (first.still s);
}

-- ---- what was read before, and then the rest

abbrev behind : List MinerFile → Result (List MinerFile) Cause → Result (List MinerFile) Cause
behind before rest = rest >>= λ more. Ok (before ++ more)

behind-none : (r : Result (List MinerFile) Cause) → r ≡ behind [] r
behind-none (Ok fs) = refl
behind-none (Err c) = refl

abbrev joined : MinerFile → Result (List MinerFile) Cause → Result (List MinerFile) Cause
joined f rest = rest >>= λ more. Ok (f ∷ more)

behind-more : (before : List MinerFile) (f : MinerFile) (r : Result (List MinerFile) Cause) → behind before (joined f r) ≡ behind (before ++ f ∷ []) r
behind-more before f (Ok fs) = ap Ok (sym (append_assoc before (f ∷ []) fs))
behind-more before f (Err c) = refl

module _ (a : FilesState) (miner : Number) (ps : List (String Global)) where
  abbrev pub whole : Result (List MinerFile) Cause
  whole = shares_at a.contents miner (map string_bytes ps)

  abbrev rest : ℕ → Result (List MinerFile) Cause
  rest i = shares_at a.contents miner (map string_bytes (drop i ps))

  -- so many files were read, and these they are
  pub record ReadSoFar (b : FilesState) (i : ℕ) (before : List MinerFile) : Type 0 where
    pub read : OnlyRead a b
    pub same : a.told ≡ true → whole ≡ behind before (rest i)
    pub form : All (λ (f : MinerFile). AreWritable f.entries) before

  pub so_far-init : (before : List MinerFile) → before ≡ [] → ReadSoFar a 0 before
  so_far-init before none = record {
    read = record { same = record { told = refl; contents = refl }; later = omega arith; still = λ s. s };
    same = λ t. subst (λ (fs : List MinerFile). whole ≡ behind fs whole) (sym none) (behind-none whole);
    form = subst (λ (fs : List MinerFile). All (λ (f : MinerFile). AreWritable f.entries) fs) (sym none) (λ k d h. absurd (omega arith));
  }

  module _ (b c : FilesState) (i : ℕ) (p : String Global) (text : List ℕ) (before : List MinerFile) (here : i < length ps) (at : p ≡ get_or ps i p)
      (named : text ≡ string_bytes p) (far : ReadSoFar b i before) where
    next : map string_bytes (drop i ps) ≡ text ∷ map string_bytes (drop (i + 1) ps)
    next = rw (drop_more ps i p here, ← at, ← named) refl

    told_at : (r : Result MinerFile Cause) → share_at b.contents miner text ≡ r → share_at a.contents miner text ≡ r
    told_at r is = ap (λ (m : Contents). share_at m miner text) (sym far.read.same.contents) ∙ is

    pub so_far-more : (f : MinerFile) (after : List MinerFile) → OnlyRead b c → (b.told ≡ true → share_at b.contents miner text ≡ Ok f)
        → AreWritable f.entries → after ≡ before ++ f ∷ [] → ReadSoFar c (i + 1) after
    unfolding shares_at
    so_far-more f after read is good grown = record {
      read = only_read_more a b c far.read read;
      same = λ t.
          let one : share_at a.contents miner text ≡ Ok f = told_at (Ok f) (is (far.read.same.told ∙ t)) in
          let step : rest i ≡ joined f (rest (i + 1)) = ap (shares_at a.contents miner) next ∙ rw one refl in
          far.same t ∙ ap (behind before) step ∙ behind-more before f (rest (i + 1))
          ∙ ap (λ (fs : List MinerFile). behind fs (rest (i + 1))) (sym grown);
      form = subst (λ (fs : List MinerFile). All (λ (f : MinerFile). AreWritable f.entries) fs) (sym grown)
          (All-push (λ (f : MinerFile). AreWritable f.entries) before f far.form good);
    }

    pub so_far-stop : (stop : Stop) → Stops b c stop (share_at b.contents miner text) → Stops a c stop whole
    unfolding shares_at
    so_far-stop stop s =
        stops_in a b c stop (share_at b.contents miner text) whole far.read s
        (λ t why is.
        let step : rest i ≡ Err why = ap (shares_at a.contents miner) next ∙ rw (told_at (Err why) is) refl in
        far.same t ∙ ap (behind before) step)

    pub so_far-named : (stop : Stop) → StopNames (text ∷ []) stop → StopNames (map string_bytes ps) stop
    so_far-named stop names =
        names_among text (map string_bytes ps) stop
        (i, omega (arith, length-map ps string_bytes), get_or-map string_bytes ps i p text here ∙ ap string_bytes (sym at) ∙ sym named) names

  pub so_far-end : (b : FilesState) (i : ℕ) (before : List MinerFile) → length ps ≤ i → ReadSoFar b i before → a.told ≡ true → whole ≡ Ok before
  unfolding shares_at
  so_far-end b i before past far t = far.same t ∙ rw (drop_all i ps past) (ap Ok (append-nil before))
