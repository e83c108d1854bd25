-- The ten seed numbers that make is given are read as a header's are.
use mathlib.Core.Path.{◌≡◌, refl, ◌∙◌}
use mathlib.Core.List.{List, [], ◌∷◌}
use Prim.Native.Nat.{ℕ, zero, suc, ◌+◌, ◌*◌, ◌<◌}
use native.Mathlib.Omega.{arith}
use lib.ListN.{length, get_or, drop}
use Rattle.sizes.specs.Numbers.{field, rows_in}
use Rattle.sizes.specs.Header.{seed_in}
use Rattle.sizes.proofs.Laws.Numbers.{field_drop}

pub seed_given : (n : ℕ) (bs seed : List ℕ) → length seed ≡ n → ((i : ℕ) → i < n → get_or seed i 0 ≡ field (4 * i) 4 bs) → seed ≡ seed_in n bs
unfolding rows_in
seed_given zero bs [] l e = refl
seed_given zero bs (x ∷ xs) l e = absurd (omega arith)
seed_given (suc n) bs [] l e = absurd (omega arith)
seed_given (suc n) bs (x ∷ xs) l e =
    let first : x ≡ field 0 4 bs = e 0 (omega arith) in
    let rest : xs ≡ seed_in n (drop 4 bs) = seed_given n (drop 4 bs) xs (omega arith) (λ i h. let q : 4 + 4 * i ≡ 4 * suc i = omega arith in e (suc i) (omega arith) ∙ rw (field_drop (4 * i) 4 4 bs, q)) in
    cc
