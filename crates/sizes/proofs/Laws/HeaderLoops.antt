-- The functions on headers: the table of fields, the seed's test, the length, a header read, and rule 1.
use mathlib.Core.Logic.{◌⊎◌, ◌↔◌}
use mathlib.Core.Path.{◌≡◌, refl, ap, sym, ◌∙◌}
use mathlib.Core.List.{List, [], ◌∷◌}
use mathlib.Core.Bool.{Bool, true, false, ◌&&◌, ◌||◌, false≢true}
use Prim.Native.Nat.{ℕ, zero, suc, ◌+◌, ◌*◌, ◌-◌, ◌≤◌, ◌<◌}
use native.Mathlib.Numerals.{add-one}
use native.Mathlib.Nat.{mul-le-mul, mul-le-mul_left, mul-suc, mul-sub, add_comm}
use native.Mathlib.Omega.{arith}
use lib.Dec.{leb, eqb}
use lib.Arith.{lt_of_le-ne}
use borrow.Author.Tests.{leb-true, eqb-true, eqb-false, lt-leb, lt-ltb, ne_eqb}
use mir.Val.{Fits}
use mir.Syntax.{w32}
use lib.ListN.{get_or-map, length, get_or, set, take, drop, length-set}
use lib.Seq.{ext_get_or, take-suc, take-suc-set, take_all}
use Rattle.std.proofs.lemmas.Bool.Decides.{nat_tests}
use Rattle.sizes.specs.declared.Sizes.{Sizes}
use Rattle.sizes.specs.declared.Field.{Field}
use Rattle.sizes.specs.declared.header.TheConstants.Header.{FIELDS}
use Rattle.sizes.specs.Numbers.{field, value_from, rows_in}
use Rattle.sizes.specs.Sizes.{prime, row, sizes_good, seed_good, made}
use Rattle.sizes.specs.Header.{header_at, header_wide, block_long, table_long, seed_in, sizes_in, held_in, rule_1}
use Rattle.sizes.proofs.Laws.Sizes.{and_parts, seed_below}
use Rattle.sizes.proofs.Laws.Bytes.{take_drop_cons}
use Rattle.sizes.proofs.Laws.Numbers.{field_drop}

-- THE TABLE OF FIELDS: a rule is a test at each of its fields, which antt computes
upto : (ℕ → Bool) → ℕ → Bool
upto p zero = true
upto p (suc n) = p n && upto p n

each : (p : ℕ → Bool) (n k : ℕ) → upto p n ≡ true → k < n → p k ≡ true
unfolding upto
each p zero k e h = absurd (omega arith)
each p (suc n) k e h = go (each p n k (and_parts (p n) (upto p n) e).1) (eqb k n) refl
  where
    go : (k < n → p k ≡ true) → (t : Bool) → eqb k n ≡ t → p k ≡ true
    go f true q = rw (eqb-true k n q) (and_parts (p n) (upto p n) e).0
    go f false q = f (lt_of_le-ne (omega arith) (eqb-false k n q))

pub header_ends : (k : ℕ) → k < 17 → header_at k + header_wide k ≤ 53
unfolding upto
header_ends k h = leb-true _ _ (each (λ k. leb (header_at k + header_wide k) 53) 17 k refl h)

header_widths : (k : ℕ) → k < 17 → (header_wide k ≡ 1) ⊎ (header_wide k ≡ 2) ⊎ (header_wide k ≡ 4)
unfolding upto
header_widths k h =
    let e = each (λ k. eqb (header_wide k) 1 || (eqb (header_wide k) 2 || eqb (header_wide k) 4)) 17 k refl h in
    grind (arith, nat_tests)

-- what field k of the constant table is
pub record Placed (k : ℕ) (x : Field) : Type 0 where
  pub at_is : x.at ≡ header_at k
  pub width_is : x.width ≡ header_wide k
  pub ends : x.at + x.width ≤ 53
  pub widths : (x.width ≡ 1) ⊎ (x.width ≡ 2) ⊎ (x.width ≡ 4)

pub placed : (k : ℕ) → k < 17 → Placed k (get_or FIELDS k (record { at = 0; width = 0 }))
placed k h =
    let a = sym (get_or-map (λ (x : Field). x.at) FIELDS k (record { at = 0; width = 0 })) in
    let w = sym (get_or-map (λ (x : Field). x.width) FIELDS k (record { at = 0; width = 0 })) in
    record { at_is = a; width_is = w; ends = rw (a, w) (header_ends k h); widths = rw w (header_widths k h) }

pub header_next : (k : ℕ) → k < 16 → header_at k + header_wide k ≡ header_at (k + 1)
unfolding upto
header_next k h = eqb-true _ _ (each (λ k. eqb (header_at k + header_wide k) (header_at (k + 1))) 16 k refl h)

pub seed_wide : (i : ℕ) → i < 10 → header_wide (7 + i) ≡ 4
unfolding upto
seed_wide i h = eqb-true _ _ (each (λ k. eqb (header_wide (7 + k)) 4) 10 i refl h)

-- THE SEED'S TEST
seeds_good : (ss : List ℕ) → ((i : ℕ) → i < length ss → get_or ss i 0 < 2147483647) → seed_good ss ≡ true
unfolding seed_good
seeds_good [] h = refl
seeds_good (x ∷ ss) h = rw (lt-ltb x prime (h 0 (omega arith))) (seeds_good ss (λ i l. h (suc i) (omega arith)))

pub seeds_each : (t : Bool) (ss : List ℕ) → ((t ≡ true) ↔ ((i : ℕ) → i < length ss → get_or ss i 0 < 2147483647)) → t ≡ seed_good ss
seeds_each true ss h = sym (seeds_good ss (h.0 refl))
seeds_each false ss h = go (seed_good ss) refl
  where
    go : (u : Bool) → seed_good ss ≡ u → false ≡ seed_good ss
    go true e = absurd (false≢true (h.1 (λ i l. seed_below ss i e)))
    go false e = sym e

-- THE LENGTH of a table
pub row_one : (s : Sizes) → s.version ≡ 1 → 12 ≡ row s
unfolding row
row_one s e = rw e

pub row_other : (s : Sizes) → (s.version ≡ 1 → ⊥) → 16 ≡ row s
unfolding row
row_other s ne = rw (ne_eqb s.version 1 ne)

pub rows_most : (w n : ℕ) → w ≤ 16 → w * n ≤ 16 * n
rows_most w n h = mul-le-mul {n₂ = 16} {m₂ = n} h (omega arith)

-- rows of a block: k of n in w bytes each
pub rows_room : (w k n : ℕ) → k ≤ n → w * k ≤ w * n
rows_room w k n h = mul-le-mul_left w h

pub row_room : (w j n : ℕ) → j < n → w * j + w ≤ w * n
row_room w j n h = omega (arith, mul-le-mul_left w h, mul-suc w j)

pub rows_one : (w j : ℕ) → 0 < j → w * j ≡ w + w * (j - 1)
rows_one w j h =
    let e : j ≡ suc (j - 1) = omega arith in
    ap (λ (z : ℕ). w * z) e ∙ mul-suc w (j - 1) ∙ add_comm _ _

pub rows_left : (w k n : ℕ) → w * n - w * k ≡ w * (n - k)
rows_left w k n = sym (mul-sub w n k)

pub rows_is : (s : Sizes) (w k r : ℕ) → w ≡ row s → r ≡ w * k → r ≡ row s * k
rows_is s w k r ew er = er ∙ ap (λ (z : ℕ). z * k) ew

pub block_is : (s : Sizes) (w r : ℕ) → w ≡ row s → r ≡ w * s.nodes → 8 + r ≡ block_long s
unfolding block_long
block_is s w r ew er = rw (er, ew)

long_most : (b m : ℕ) → b ≤ 520 → m ≤ 65535 → m * b ≤ 65535 * 520
long_most b m hb hm = mul-le-mul {n₂ = 65535} {m₂ = 520} hm hb

pub long_fits : (b m : ℕ) → b ≤ 520 → m ≤ 65535 → Fits w32 (m * b)
long_fits b m hb hm = record { fits = omega (arith, long_most b m hb hm) }

pub long_sum : (b m : ℕ) → b ≤ 520 → m ≤ 65535 → Fits w32 (53 + m * b)
long_sum b m hb hm = record { fits = omega (arith, long_most b m hb hm) }

pub long_is : (s : Sizes) (b : ℕ) → b ≡ block_long s → 53 + s.blocks * b ≡ table_long s
unfolding table_long
long_is s b e = rw e

-- A HEADER READ
seed_number : (n i : ℕ) (bs : List ℕ) → i < n → get_or (seed_in n bs) i 0 ≡ field (4 * i) 4 bs
unfolding rows_in
seed_number zero i bs h = absurd (omega arith)
seed_number (suc n) zero bs h = refl
seed_number (suc n) (suc i) bs h =
    let e : 4 + 4 * i ≡ 4 * suc i = omega arith in
    seed_number n i (drop 4 bs) (omega arith) ∙ field_drop (4 * i) 4 4 bs ∙ rw e

seed_count : (n : ℕ) (bs : List ℕ) → length (seed_in n bs) ≡ n
unfolding rows_in
seed_count zero bs = refl
seed_count (suc n) bs = ap suc (seed_count n (drop 4 bs))

pub seed_read : (bs seed : List ℕ) → length seed ≡ 10 → ((i : ℕ) → i < 10 → get_or seed i 0 ≡ field (13 + 4 * i) 4 bs) → seed ≡ seed_in 10 (drop 13 bs)
seed_read bs seed l e =
    ext_get_or 0 seed (seed_in 10 (drop 13 bs)) (l ∙ sym (seed_count 10 (drop 13 bs)))
    (λ i h.
    let k : i < 10 = omega arith in
    e i k ∙ sym (seed_number 10 i (drop 13 bs) k ∙ field_drop (4 * i) 4 13 bs))

-- what a loop keeps that reads the seed: i of its numbers are read
pub record Seeded (bs seed : List ℕ) (i : ℕ) : Type 0 where
  pub within : i ≤ 10
  pub count : length seed ≡ 10
  pub is : take i seed ≡ take i (seed_in 10 (drop 13 bs))

module _ (bs : List ℕ) where
  pub seeded_start : (seed : List ℕ) → length seed ≡ 10 → Seeded bs seed 0
  seeded_start seed e = record { within = omega arith; count = e; is = refl }

  module _ (seed : List ℕ) (i : ℕ) (s : Seeded bs seed i) where
    pub seeded_more : (v : ℕ) → i < 10 → v ≡ field (13 + 4 * i) 4 bs → Seeded bs (set seed i v) (i + 1)
    seeded_more v h e =
        let x : get_or (seed_in 10 (drop 13 bs)) i 0 ≡ v = seed_number 10 i (drop 13 bs) h ∙ field_drop (4 * i) 4 13 bs ∙ sym e in
        let l : i < length (seed_in 10 (drop 13 bs)) = omega (arith, seed_count 10 (drop 13 bs)) in
        let k : i < length seed = omega (arith, s.count) in
        record {
          within = omega arith;
          count = length-set seed i v ∙ s.count;
          is = rw (add-one, take-suc-set seed i v, s.is, take-suc (seed_in 10 (drop 13 bs)) i 0, x);
        }

    pub seeded_end : 10 ≤ i → seed ≡ seed_in 10 (drop 13 bs)
    seeded_end h =
        sym (take_all i seed (omega (arith, s.count))) ∙ s.is ∙ take_all i (seed_in 10 (drop 13 bs)) (omega (arith, seed_count 10 (drop 13 bs)))

pub field_one : (bs : List ℕ) (a : ℕ) → a < length bs → field a 1 bs ≡ get_or bs a 0
unfolding field value_from
field_one bs a h = rw (take_drop_cons bs a 0) (omega arith)

pub sizes_read : (bs : List ℕ) (v c b n m : ℕ) (ss : List ℕ) → 53 ≤ length bs → v ≡ field 0 1 bs → c ≡ field 5 1 bs → b ≡ field 6 1 bs → n ≡ field 7 2 bs → m ≡ field 9 2 bs → ss ≡ seed_in 10 (drop 13 bs)
    → ◌≡◌ {A = Sizes} (record { version = v; gamma = c; nodes = b; orders = n; blocks = m; seed = ss }) (sizes_in bs)
unfolding sizes_in
sizes_read bs v c b n m ss l ev ec eb en em es =
    let ev' : v ≡ get_or bs 0 0 = ev ∙ field_one bs 0 (omega arith) in
    let ec' : c ≡ get_or bs 5 0 = ec ∙ field_one bs 5 (omega arith) in
    let eb' : b ≡ get_or bs 6 0 = eb ∙ field_one bs 6 (omega arith) in
    λ i. record { version = ev' i; gamma = ec' i; nodes = eb' i; orders = en i; blocks = em i; seed = es i }

pub held_read : (bs : List ℕ) (n : ℕ) → n ≡ field 11 2 bs → n ≡ held_in bs
unfolding held_in
held_read bs n e = e

-- RULE 1
module _ (s : Sizes) (t : Bool) (et : t ≡ sizes_good s) (e : t ≡ true) where
  pub good_nodes : s.nodes ≤ 32
  unfolding sizes_good
  good_nodes = grind (arith, nat_tests)

  pub good_blocks : s.blocks ≤ 65535
  unfolding sizes_good
  good_blocks = grind (arith, nat_tests)

pub rule_short : (bs : List ℕ) → length bs < 53 → false ≡ rule_1 bs
unfolding rule_1
rule_short bs h = sym (rw (lt-leb 53 (length bs) h))

-- what rule 1 says
pub record Ruled (bs : List ℕ) : Type 0 where
  pub long : 53 ≤ length bs
  pub makes : made (sizes_in bs) ≡ true
  pub version : field 0 1 bs ≡ (sizes_in bs).version
  pub length_field : field 1 4 bs ≡ table_long (sizes_in bs)
  pub length_is : length bs ≡ table_long (sizes_in bs)
  pub held : held_in bs ≤ (sizes_in bs).orders

seed_ten : (bs : List ℕ) → length (sizes_in bs).seed ≡ 10
unfolding sizes_in
seed_ten bs = seed_count 10 (drop 13 bs)

version_read : (bs : List ℕ) → 53 ≤ length bs → field 0 1 bs ≡ (sizes_in bs).version
unfolding sizes_in
version_read bs h = field_one bs 0 (omega arith)

pub ruled : (bs : List ℕ) → rule_1 bs ≡ true → Ruled bs
unfolding rule_1 made
ruled bs e =
    let ten = seed_ten bs in
    record {
      long = grind (arith, nat_tests);
      makes = grind (arith, nat_tests);
      version = version_read bs (grind (arith, nat_tests));
      length_field = grind (arith, nat_tests);
      length_is = grind (arith, nat_tests);
      held = grind (arith, nat_tests);
    }
