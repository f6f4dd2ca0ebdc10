-- Products of words, element by element.
use Rattle.std.specs.Prelude.{ℕ, List}
use Rattle.proto_core.specs.Ring.{Ring}
use Rattle.proto_core.specs.Lists.{at, each}

unfoldable pub times : Ring → ℕ → List ℕ → List ℕ → List ℕ
times r n x y = each n (λ k. r.mul (at x k) (at y k))

-- u v + u v_p + u_p v, of a miner's factors u and v and the previous miner's u_p and v_p
unfoldable pub cross : Ring → ℕ → (u v up vp : List ℕ) → List ℕ
cross r n u v up vp = each n (λ k. r.add (r.add (r.mul (at u k) (at v k)) (r.mul (at u k) (at vp k))) (r.mul (at up k) (at v k)))
