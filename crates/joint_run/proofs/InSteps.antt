-- The joint run of some gates and then of others is the joint run of all of them.
use Rattle.std.proofs.Common.{◌≡◌, ◌+◌, List, [], ◌∷◌, ◌++◌, drop, refl, sym, ◌∙◌, ap, append_assoc, add-zero}
use Rattle.std.proofs.lemmas.List.{drop-drop}
use Rattle.proto_core.specs.declared.party.Number.{Number}
use Rattle.proto_core.specs.declared.link.Link.{Link}
use Rattle.proto_core.proofs.Beginnings.{append-none}
use Rattle.protocol_model.specs.Gates.{Gate, Joined, Local, needed}
use Rattle.protocol_model.specs.Runs.{Tapes, drawn, left, gate_joint, after, after_local, run_messages, run_values, run_opened}
use Rattle.joint_run.specs.RunState.{RunState, behind}

pub same_state :
    (s t : RunState) → ((i : Number) → s.shares i ≡ t.shares i) → ((i : Number) → s.tapes i ≡ t.tapes i) →
    ((l : Link) → s.messages l ≡ t.messages l) → s.opened ≡ t.opened → s ≡ t
same_state s t shares tapes messages opened =
    λ d. record { shares = λ i. shares i d; tapes = λ i. tapes i d; messages = λ l. messages l d; opened = opened d }

-- nothing is done
none-behind : (s : RunState) → s ≡ behind [] s
none-behind s = same_state s (behind [] s) (λ i. refl) (λ i. refl) (λ l. sym (append-none (s.messages l))) (sym (append-none s.opened))

first-behind : (gate : Gate) (gates : List Gate) (s : RunState) → behind (gate ∷ gates) s ≡ behind gates (behind (gate ∷ []) s)
first-behind (Local n f) gates s =
    same_state _ _ (λ i. refl) (λ i. refl)
    (λ l. ap (λ m. m ++ run_messages gates (after_local f s.shares) s.tapes l) (sym (append-none (s.messages l))))
    (ap (λ w. w ++ run_opened gates (after_local f s.shares) s.tapes) (sym (append-none s.opened)))
first-behind (Joined p n u v) gates s =
    let j = gate_joint u v s.shares (drawn p n s.tapes) in
    let next = after p n u v s.shares (drawn p n s.tapes) in
    let tapes : Tapes = λ i. drop (p.draws n i + 0) (s.tapes i) in
    let same : left p n s.tapes ≡ tapes = λ d. λ i. ap (λ k. drop k (s.tapes i)) (sym (add-zero (p.draws n i))) d in
    same_state _ _
    (λ i. ap (λ t. run_values gates next t i) same)
    (λ i.
    sym (drop-drop (needed gates i) (p.draws n i) (s.tapes i))
    ∙ ap (λ t. drop (needed gates i) (t i)) same)
    (λ l.
    ap (λ t. s.messages l ++ (p.messages n j l ++ run_messages gates next t l)) same
    ∙ sym (append_assoc (s.messages l) (p.messages n j l) (run_messages gates next tapes l))
    ∙ ap (λ m. (s.messages l ++ m) ++ run_messages gates next tapes l) (sym (append-none (p.messages n j l))))
    (ap (λ t. s.opened ++ (p.opened n j ++ run_opened gates next t)) same
    ∙ sym (append_assoc s.opened (p.opened n j) (run_opened gates next tapes))
    ∙ ap (λ w. (s.opened ++ w) ++ run_opened gates next tapes) (sym (append-none (p.opened n j))))

pub both-behind : (xs ys : List Gate) (s : RunState) → behind (xs ++ ys) s ≡ behind ys (behind xs s)
both-behind [] ys s = ap (behind ys) (none-behind s)
both-behind (gate ∷ xs) ys s =
    first-behind gate (xs ++ ys) s
    ∙ both-behind xs ys (behind (gate ∷ []) s)
    ∙ ap (behind ys) (sym (first-behind gate xs s))
