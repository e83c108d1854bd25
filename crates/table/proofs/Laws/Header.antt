-- A header that obeys rule 1, written again from what was read.
use mathlib.Core.Path.{◌≡◌, refl, sym, ap, ◌∙◌}
use mathlib.Core.List.{List, [], ◌∷◌, ◌++◌}
use Prim.Native.Nat.{ℕ, zero, suc, ◌+◌, ◌*◌, ◌≤◌}
use native.Mathlib.Omega.{arith}
use lib.ListN.{length, get_or, take, drop, length-drop}
use lib.Seq.{drop-cons}
use Rattle.sizes.specs.Numbers.{big, field, rows, rows_in}
use Rattle.sizes.specs.Header.{table_long, header, seed_bytes, seed_in, sizes_in, held_in}
use Rattle.sizes.proofs.Laws.Numbers.{Bytes, bytes_drop, take_more, field_again}
use Rattle.sizes.proofs.Laws.HeaderLoops.{Ruled}

seeds_again : (k : ℕ) (xs : List ℕ) → Bytes xs → 4 * k ≤ length xs → seed_bytes (seed_in k xs) ≡ take (4 * k) xs
unfolding rows rows_in
seeds_again zero xs u h = refl
seeds_again (suc k) xs u h =
    let e : 4 * suc k ≡ 4 + 4 * k = omega arith in
    let f : big 4 (field 0 4 xs) ≡ take 4 xs = field_again 0 4 xs (omega arith) u in
    rw (e, f, seeds_again k (drop 4 xs) (bytes_drop 4 xs u) (simp length-drop (omega arith))) (take_more 4 (4 * k) xs)

one_byte : (bs : List ℕ) → 53 ≤ length bs → get_or bs 0 0 ∷ [] ≡ take 1 bs
one_byte [] h = absurd (omega arith)
one_byte (x ∷ bs) h = refl

two_bytes : (bs : List ℕ) → 53 ≤ length bs → get_or bs 5 0 ∷ get_or bs 6 0 ∷ [] ≡ take 2 (drop 5 bs)
two_bytes bs h = rw (drop-cons bs 5 0 (omega arith), drop-cons bs 6 0 (omega arith))

glue : (bs A B C D E F G : List ℕ) → A ≡ take 1 bs → B ≡ take 4 (drop 1 bs) → C ≡ take 2 (drop 5 bs) → D ≡ take 2 (drop 7 bs) → E ≡ take 2 (drop 9 bs) → F ≡ take 2 (drop 11 bs) → G ≡ take 40 (drop 13 bs) →
    A ++ B ++ C ++ D ++ E ++ F ++ G ≡ take 53 bs
glue bs A B C D E F G a b c d e f g = rw (a, b, c, d, e, f, g, take_more 1 4 bs, take_more 5 2 bs, take_more 7 2 bs, take_more 9 2 bs, take_more 11 2 bs, take_more 13 40 bs)

pub header_again : (bs : List ℕ) → Bytes bs → Ruled bs → header (sizes_in bs) (held_in bs) ≡ take 53 bs
unfolding header sizes_in held_in
header_again bs u r =
    let l = r.long in
    let a : big 4 (table_long (sizes_in bs)) ≡ take 4 (drop 1 bs) = ap (big 4) (sym r.length_field) ∙ field_again 1 4 bs (omega arith) u in
    let s : seed_bytes (seed_in 10 (drop 13 bs)) ≡ take 40 (drop 13 bs) = seeds_again 10 (drop 13 bs) (bytes_drop 13 bs u) (simp length-drop (omega arith)) in
    glue bs (get_or bs 0 0 ∷ []) (big 4 (table_long (sizes_in bs))) (get_or bs 5 0 ∷ get_or bs 6 0 ∷ []) (big 2 (field 7 2 bs)) (big 2 (field 9 2 bs)) (big 2 (field 11 2 bs)) (seed_bytes (seed_in 10 (drop 13 bs)))
    (one_byte bs l) a (two_bytes bs l) (field_again 7 2 bs (omega arith) u) (field_again 9 2 bs (omega arith) u) (field_again 11 2 bs (omega arith) u) s
