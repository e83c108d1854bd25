-- The header: its length, the sizes that it has, and its number of orders written.
use mathlib.Core.Path.{◌≡◌, refl, sym, ap, ◌∙◌}
use mathlib.Core.Bool.{true}
use mathlib.Core.List.{List, [], ◌∷◌, ◌++◌, append-nil}
use Prim.Native.Nat.{ℕ, zero, suc, ◌+◌, ◌*◌, ◌≤◌}
use native.Mathlib.Omega.{arith}
use lib.Dec.{ltb}
use lib.ListN.{length, set, drop, length-drop, length-set}
use lib.Seq.{sets, set-append_left, drop-append-le}
use borrow.Author.Tests.{ltb-true}
use Rattle.std.proofs.lemmas.List.{get_or_append_left}
use Rattle.sizes.specs.declared.Sizes.{Sizes}
use Rattle.sizes.specs.Sizes.{prime, seed_good}
use Rattle.sizes.specs.Numbers.{big, field}
use Rattle.sizes.specs.Header.{header, seed_bytes, seed_in, sizes_in}
use Rattle.sizes.proofs.Laws.Sizes.{and_parts, Limits}
use Rattle.sizes.proofs.Laws.Parts.{get_d_sets_before, part_before, drop_sets}
use Rattle.sizes.proofs.Laws.Numbers.{field_head, field_big, length_big}
use Rattle.sizes.specs.Numbers.{rows_in}
use Rattle.sizes.specs.Numbers.{rows}

seed_long : (ss : List ℕ) → length (seed_bytes ss) ≡ 4 * length ss
unfolding rows big
seed_long [] = refl
seed_long (x ∷ ss) = omega (arith, seed_long ss)

pub header_long : (s : Sizes) (n : ℕ) → length s.seed ≡ 10 → length (header s n) ≡ 53
unfolding header big
header_long s n e = omega (arith, seed_long s.seed)

two_back : (v : ℕ) → v ≤ 65535 → field 0 2 (big 2 v ++ []) ≡ v
two_back v h = field_big 2 v [] (omega arith)

seed_back : (ss r : List ℕ) → seed_good ss ≡ true → seed_in (length ss) (seed_bytes ss ++ r) ≡ ss
unfolding rows_in rows seed_good big
seed_back [] r e = refl
seed_back (x ∷ ss) r e =
    let p = and_parts (ltb x prime) (seed_good ss) e in
    let v : field 0 4 (big 4 x ++ (seed_bytes ss ++ r)) ≡ x = field_big 4 x (seed_bytes ss ++ r) (omega (arith, ltb-true x prime p.0)) in
    let t = seed_back ss r p.1 in
    λ i. v i ∷ t i

pub header_sizes : (s : Sizes) (n : ℕ) → Limits s → sizes_in (header s n) ≡ s
unfolding sizes_in header big field
header_sizes s n l =
    let u = two_back s.orders l.orders_most in
    let m = two_back s.blocks l.blocks_most in
    let ss : seed_in 10 (seed_bytes s.seed) ≡ s.seed = ap (seed_in 10) (sym (append-nil (seed_bytes s.seed))) ∙ rw (← l.ten) (seed_back s.seed [] l.seeds) in
    λ i. record { version = s.version; gamma = s.gamma; nodes = s.nodes; orders = u i; blocks = m i; seed = ss i }

-- bytes written inside the first of two lists
pub sets_left : (x y : List ℕ) (a : ℕ) (vs : List ℕ) → a + length vs ≤ length x → sets (x ++ y) a vs ≡ sets x a vs ++ y
sets_left x y a [] h = refl
sets_left x y a (v ∷ vs) h = rw (set-append_left x y a v (omega arith)) (sets_left (set x a v) y (suc a) vs (rw length-set (omega arith)))

-- the number of orders stands at 11, and is no part of the sizes
pub count_sizes : (hd : List ℕ) (k : ℕ) → sizes_in (sets hd 11 (big 2 k)) ≡ sizes_in hd
unfolding sizes_in field
count_sizes hd k =
    let e : length (big 2 k) ≡ 2 = length_big 2 k in
    rw (get_d_sets_before hd 11 (big 2 k) 0 0 (omega arith), get_d_sets_before hd 11 (big 2 k) 5 0 (omega arith), get_d_sets_before hd 11 (big 2 k) 6 0 (omega arith), part_before 2 7 hd 11 (big 2 k) (omega arith), part_before 2 9 hd 11 (big 2 k) (omega arith), drop_sets 13 hd 11 (big 2 k) (omega arith))

-- THE SIZES that a table has are those of its header
seed_head : (k : ℕ) (hd x : List ℕ) → 4 * k ≤ length hd → seed_in k (hd ++ x) ≡ seed_in k hd
unfolding rows_in
seed_head zero hd x h = refl
seed_head (suc k) hd x h =
    let e : field 0 4 (hd ++ x) ≡ field 0 4 hd = field_head 0 4 hd x (omega arith) in
    let f : drop 4 (hd ++ x) ≡ drop 4 hd ++ x = drop-append-le 4 hd x (omega arith) in
    rw (e, f, seed_head k (drop 4 hd) x (simp length-drop (omega arith)))

pub sizes_head : (hd x : List ℕ) → length hd ≡ 53 → sizes_in (hd ++ x) ≡ sizes_in hd
unfolding sizes_in
sizes_head hd x e =
    let f : drop 13 (hd ++ x) ≡ drop 13 hd ++ x = drop-append-le 13 hd x (omega arith) in
    rw (get_or_append_left hd x 0 0 (omega arith), get_or_append_left hd x 0 5 (omega arith), get_or_append_left hd x 0 6 (omega arith), field_head 7 2 hd x (omega arith), field_head 9 2 hd x (omega arith), f, seed_head 10 (drop 13 hd) x (simp length-drop (omega arith)))
