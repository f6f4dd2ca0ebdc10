-- What is made of a miner's shares is what the simulator has it see.
use Rattle.std.proofs.Common.{◌≡◌, ℕ, ◌+◌, ◌-◌, ◌≤◌, true, List, [], ◌∷◌, length, take, drop, refl, sym, ap, ◌∙◌, subst, arith, length-drop}
use Rattle.std.proofs.lemmas.List.Sums.{sum_by-cons}
use Rattle.proto_core.specs.declared.party.Number.{Number}
use Rattle.proto_core.specs.declared.link.Link.{Link}
use Rattle.proto_core.specs.Parties.{from_previous, from_next}
use Rattle.protocol_model.specs.Gates as model
use Rattle.protocol_model.specs.Gates.{needed, sizes_of}
use Rattle.protocol_model.specs.Runs.{Tapes}
use Rattle.protocol_model.specs.Views.{made_messages}
use Rattle.protocol_model.specs.Arrivals.{Arrival, arrivals}
use Rattle.gates.specs.declared.gate.Gate.{Gate}
use Rattle.gates.specs.Clear.{Values}
use Rattle.shared_gates.specs.Model.{AllSizesSuit, run_gates}
use Rattle.joint_run.specs.Three.{each_of}
use Rattle.value_file.specs.declared.public.PublicEntry.{PublicEntry}
use Rattle.input_share.specs.declared.entry.ShareEntry.{ShareEntry}
use Rattle.tape_file.specs.Tapes.{FourTapes}
use Rattle.program_views.specs.Coming.{AreArrivals}
use Rattle.view_simulator.specs.declared.made_gates.MadeRun.{MadeRun}
use Rattle.view_simulator.specs.Made.{own_run, IsMade}
use Rattle.view_simulator.specs.Need as need
use Rattle.view_simulator.specs.Need.{made_shares}
use Rattle.view_simulator.proofs.InputPieces.{sizes-made}
use Rattle.view_model.specs.Dealing.{hidden_sizes, hidden_draws, made_entries}
use Rattle.view_model.specs.TapeMaps.{miners_of}
use Rattle.view_model.specs.Seen.{Seen, gates_made}
use Rattle.view_model.proofs.Corresponding.{le_from}
use Rattle.program_views.specs.Views.{hidden_need, can_deal}
use Rattle.view_simulator.specs.Making.{CanBeMade, made_in_order}

same_needs : (part : List PublicEntry) → need.hidden_need part ≡ hidden_need part
same_needs [] = refl
same_needs (e ∷ es) =
    sum_by-cons (λ (x : PublicEntry). hidden_draws x.value) e es ∙ ap (λ n. hidden_draws e.value + n) (same_needs es)

-- what is taken off the front, by what is left
front_taken : (n : ℕ) (xs : List ℕ) → n ≤ length xs → take (length xs - length (drop n xs)) xs ≡ take n xs
front_taken n xs h =
    let left : length (drop n xs) ≡ length xs - n = length-drop n xs in
    let front : length xs - length (drop n xs) ≡ n = omega (arith, left, h) in
    ap (λ m. take m xs) front

module _
    (i : Number) (part : List PublicEntry) (gates : List Gate) (s : FourTapes) (dealt : can_deal part s ≡ true) (own : Values)
    (is : own ≡ made_shares i part s.dealer)
  where
    enough : need.hidden_need part ≤ length s.dealer
    enough = subst (λ n. n ≤ length s.dealer) (sym (same_needs part)) (le_from _ _ dealt)

    sizes_own : sizes_of own ≡ hidden_sizes part
    sizes_own = ap sizes_of is ∙ sizes-made i part s.dealer enough

    runs_own : own_run own gates ≡ gates_made i part s.dealer gates
    runs_own =
        ap (λ v. own_run v gates) is
        ∙ ap (λ sizes. run_gates (λ k. made_shares i part s.dealer) sizes [] gates) (sizes-made i part s.dealer enough)

    module _ (can : CanBeMade part gates s) (tapes : Tapes) (same : (k : Number) → tapes k ≡ miners_of s k) where
      pub suits_own : AllSizesSuit (sizes_of own) [] gates
      suits_own = subst (λ ns. AllSizesSuit ns [] gates) (sym sizes_own) can.suit

      pub reaches_own : (k : Number) → needed (own_run own gates) k ≤ length (tapes k)
      reaches_own k =
          subst (λ (run : List model.Gate). needed run k ≤ length (tapes k)) (sym runs_own)
          (subst (λ xs. needed (gates_made i part s.dealer gates) k ≤ length xs) (sym (same k)) (can.reach i k))

      -- ---- what is seen

      module _ (opened : List ℕ) (order : List Link) (made : MadeRun) (made_so : IsMade i (own_run own gates) opened tapes made) where
        abbrev run : List model.Gate
        run = gates_made i part s.dealer gates

        came_on : (l : Link) → made_messages i (own_run own gates) [] opened tapes l ≡ made_messages i run [] opened (miners_of s) l
        came_on l =
            ap (λ (g : List model.Gate). made_messages i g [] opened tapes l) runs_own
            ∙ ap (λ (t : Tapes). made_messages i run [] opened t l) (λ j. λ k. same k j)

        got_so :
            (got : List Arrival) → AreArrivals i made.mails.previous made.mails.next order got →
            got ≡ arrivals i (made_messages i run [] opened (miners_of s)) order
        got_so got h =
            h (made_messages i run [] opened (miners_of s)) (sym (made_so.previous ∙ came_on (from_previous i)))
            (sym (made_so.next ∙ came_on (from_next i)))

        left_so : (left : List ℕ) → left ≡ each_of made.left i → left ≡ drop (needed run i) (miners_of s i)
        left_so left h =
            h
            ∙ made_so.left i
            ∙ ap (λ (g : List model.Gate). drop (needed g i) (tapes i)) runs_own
            ∙ ap (λ xs. drop (needed run i) xs) (same i)

        drew_so :
            (drew tape left : List ℕ) → tape ≡ tapes i → left ≡ each_of made.left i → drew ≡ take (length tape - length left) tape →
            drew ≡ take (needed run i) (miners_of s i)
        drew_so drew tape left whole rest h =
            h
            ∙ ap (λ xs. take (length xs - length left) xs) (whole ∙ same i)
            ∙ ap (λ xs. take (length (miners_of s i) - length xs) (miners_of s i)) (left_so left rest)
            ∙ front_taken (needed run i) (miners_of s i) (can.reach i i)

        pub left_within : (tape left : List ℕ) → tape ≡ tapes i → left ≡ each_of made.left i → length left ≤ length tape
        left_within tape left whole rest =
            let behind : length left ≡ length (miners_of s i) - needed run i = ap length (left_so left rest) ∙ length-drop (needed run i) (miners_of s i) in
            let all : length tape ≡ length (miners_of s i) = ap length (whole ∙ same i) in
            omega (arith, behind, all)

        abbrev seen : List ShareEntry → List ℕ → List Arrival → Seen
        seen inputs drew got = record { inputs = inputs; drew = drew; got = got }

        pub all_seen :
            (inputs : List ShareEntry) (drew tape left : List ℕ) (got : List Arrival) → inputs ≡ made_entries i part s.dealer → tape ≡ tapes i →
            left ≡ each_of made.left i → drew ≡ take (length tape - length left) tape → AreArrivals i made.mails.previous made.mails.next order got →
            seen inputs drew got ≡ made_in_order i part gates opened s order
        all_seen inputs drew tape left got entries whole rest taken came =
            ap (λ (es : List ShareEntry). seen es drew got) entries
            ∙ ap (λ (ws : List ℕ). seen (made_entries i part s.dealer) ws got) (drew_so drew tape left whole rest taken)
            ∙ ap (seen (made_entries i part s.dealer) (take (needed run i) (miners_of s i))) (got_so got came)
