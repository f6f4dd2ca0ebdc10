-- What links in memory hold of each peer.
use Rattle.std.proofs.Common.{◌≡◌, ◌≢◌, ℕ, ◌+◌, ◌-◌, ◌≤◌, List, [], ◌++◌, length, take, drop, refl, sym, ap, ◌∙◌, length-drop, arith}
use Rattle.std.proofs.lemmas.Grind.{common_steps}
use Rattle.std.proofs.lemmas.List.{take-append-drop, drop-drop}
use Rattle.std.proofs.Math.Seq.{take-append_seam, take-length}
use Rattle.outside.specs.MemLinks.{by_peer}

pub of_first : (a b c : List ℕ) → by_peer a b c 1 ≡ a
unfolding by_peer
of_first a b c = refl

pub of_second : (a b c : List ℕ) → by_peer a b c 2 ≡ b
unfolding by_peer
of_second a b c = refl

pub of_third : (a b c : List ℕ) → by_peer a b c 3 ≡ c
unfolding by_peer
of_third a b c = refl

pub of_none : (p : ℕ) → by_peer [] [] [] p ≡ []
unfolding by_peer
of_none p = grind (arith, common_steps)

pub not_first : (a a' b c : List ℕ) (p : ℕ) → p ≢ 1 → by_peer a b c p ≡ by_peer a' b c p
unfolding by_peer
not_first a a' b c p ne = grind (arith, common_steps)

pub not_second : (a b b' c : List ℕ) (p : ℕ) → p ≢ 2 → by_peer a b c p ≡ by_peer a b' c p
unfolding by_peer
not_second a b b' c p ne = grind (arith, common_steps)

pub not_third : (a b c c' : List ℕ) (p : ℕ) → p ≢ 3 → by_peer a b c p ≡ by_peer a b c' p
unfolding by_peer
not_third a b c c' p ne = grind (arith, common_steps)

pub of_rest : (a b c : List ℕ) (p : ℕ) → 1 ≤ p → p ≤ 3 → p ≢ 1 → p ≢ 2 → by_peer a b c p ≡ c
of_rest a b c p from to ne ne' =
    let e : p ≡ 3 = omega arith in
    rw e (of_third a b c)

pub ruleset peers = (of_first, of_second, of_third, of_rest, not_first, not_second, not_third)

-- the bytes that were copied to the front of a slice, and those that are then still to come
pub came_split : (bytes now : List ℕ) (taken n : ℕ) (front rest : List ℕ) → now ≡ bytes → length front ≡ n
    → front ≡ take n (take (length now - taken) (drop taken now)) → drop taken bytes ≡ take n (front ++ rest) ++ drop (taken + n) bytes
came_split bytes now taken n front rest same len is =
    let all : take (length now - taken) (drop taken now) ≡ drop taken now =
    ap (λ (m : ℕ). take m (drop taken now)) (sym (length-drop taken now)) ∙ take-length (drop taken now) in
    let seam : take n (front ++ rest) ≡ front = rw (← len) (take-append_seam front rest) in
    let whole : take n (drop taken now) ++ drop n (drop taken now) ≡ drop taken now = take-append-drop n (drop taken now) in
    let later : drop n (drop taken now) ≡ drop (taken + n) now = drop-drop n taken now in
    cc
