-- What the kernels make, place by place.
use Rattle.std.specs.Prelude.{ℕ, List, length}
use Rattle.proto_core.specs.Ring.{Ring}
use Rattle.proto_core.specs.Lists.{at, each}

abbrev pub placewise : (ℕ → ℕ → ℕ) → (x y : List ℕ) → List ℕ
placewise op x y = each (length x) (λ k. op (at x k) (at y k))

-- u v + u v' + u' v
abbrev pub crossed : Ring → (u v up vp : List ℕ) → ℕ → ℕ
crossed r u v up vp k = r.add (r.add (r.mul (at u k) (at v k)) (r.mul (at u k) (at vp k))) (r.mul (at up k) (at v k))

abbrev pub crosses : Ring → ℕ → (u v up vp : List ℕ) → List ℕ
crosses r n u v up vp = each n (crossed r u v up vp)
