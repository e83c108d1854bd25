-- Bytes that the check accepts: rule 1, the orders that they hold, and the partitions that were read.
use Rattle.std.proofs.Common.{Option, Some, None, option_and_then, Result, Ok, Err}
use Rattle.std.specs.Result.{result_ok}
use mathlib.Core.Path.{◌≡◌, refl, ap, ◌∙◌, subst}
use mathlib.Core.Bool.{true, ◌&&◌, false≢true}
use mathlib.Core.List.{List, [], ◌∷◌}
use Prim.Native.Nat.{ℕ, zero, suc, ◌+◌, ◌*◌, ◌-◌, ◌≤◌, ◌<◌}
use native.Mathlib.Omega.{arith}
use borrow.Author.Tests.{eq-eqb, ne_eqb, le-leb, lt-ltb, eqb-true}
use lib.Dec.{leb, eqb}
use lib.ListN.{length, take, drop}
use Rattle.sizes.specs.Numbers.{value_from, field, rows_in}
use Rattle.sizes.specs.Sizes.{prime, beta, row}
use Rattle.sizes.specs.Header.{block_long, sizes_in, held_in, rule_1}
use Rattle.placement.specs.Decode.{node_in, nodes_from}
use Rattle.sizes.specs.declared.Sizes.{Sizes}
use Rattle.placement.specs.declared.Order.{Order}
use Rattle.sizes.proofs.Laws.Numbers.{Bytes, bytes_take, bytes_drop}
use Rattle.sizes.proofs.Laws.Sizes.{and_parts, some_blocks, some_nodes, row_most}
use Rattle.sizes.proofs.Laws.HeaderLoops.{Ruled, ruled}
use Rattle.skiplist.specs.Lists.{front}
use Rattle.skiplist.specs.Image.{price_good, quantities_good, orders_good}
use Rattle.skiplist.proofs.Laws.Parts.{Up}
use Rattle.skiplist.proofs.Laws.Edits.{beta_least}
use Rattle.skiplist.proofs.Laws.Opens.{Walks, shape}
use Rattle.table.specs.declared.Seen.{Seen}
use Rattle.table.specs.Walk.{nothing_in, quantities_ok, price_ok, count_in}
use Rattle.table.specs.Check.{swept, walked, ended, check_passes}
use Rattle.table.proofs.Laws.Came.{weighs, Weighs, Rising, Step, chunk_read}
use Rattle.table.proofs.Laws.Counted.{tally}
use Rattle.table.proofs.Laws.Reading.{part_sound, Small, Weighed, opened}

-- ---- totals and prices of four bytes

take_most : (n : ℕ) (xs : List ℕ) → length (take n xs) ≤ n
take_most zero xs = omega arith
take_most (suc n) [] = omega arith
take_most (suc n) (x ∷ xs) = omega (arith, take_most n xs)

four_small : (xs : List ℕ) → length xs ≤ 4 → Bytes xs → value_from 0 xs < 4294967296
unfolding value_from
four_small [] h u = omega arith
four_small (a ∷ []) h u = omega (arith, u.0)
four_small (a ∷ b ∷ []) h u = omega (arith, u.0, u.1.0)
four_small (a ∷ b ∷ c ∷ []) h u = omega (arith, u.0, u.1.0, u.1.1.0)
four_small (a ∷ b ∷ c ∷ d ∷ []) h u = omega (arith, u.0, u.1.0, u.1.1.0, u.1.1.1.0)
four_small (a ∷ b ∷ c ∷ d ∷ e ∷ xs) h u = absurd (omega arith)

field_small : (a n : ℕ) (xs : List ℕ) → n ≤ 4 → Bytes xs → field a n xs < 4294967296
unfolding field
field_small a n xs h u = four_small (take n (drop a xs)) (omega (arith, take_most n (drop a xs))) (bytes_take n (drop a xs) (bytes_drop a xs u))

small_from : (w : ℕ) → w ≤ 16 → (n : ℕ) (xs : List ℕ) → Bytes xs → Small (nodes_from w n xs)
unfolding rows_in node_in
small_from w h zero xs u = tt
small_from w h (suc n) xs u = (field_small 4 4 xs (omega arith) u, field_small 12 (w - 12) xs (omega arith) u, small_from w h n (drop w xs) (bytes_drop w xs u))

pub small_read : (s : Sizes) (bs : List ℕ) → Bytes bs → (b : ℕ) → Small (chunk_read s bs b)
unfolding chunk_read
small_read s bs u b = small_from (row s) (row_most s) (count_in (block_long s) bs b) (drop (53 + b * block_long s + 8) bs) (bytes_drop (53 + b * block_long s + 8) bs u)

-- ---- orders that came by

rising_up : (s : Sizes) (a b : ℕ) (os : List Order) → Rising s a os b → Up a os
rising_up s a b [] u = tt
rising_up s a b (o ∷ os) u = (u.0, rising_up s (suc o.key) b os u.3)

rising_good : (s : Sizes) (a b : ℕ) (os : List Order) → 1 ≤ a → Rising s a os b → orders_good s a os ≡ true
unfolding orders_good weighs price_ok quantities_ok quantities_good
rising_good s a b [] h u = refl
rising_good s a b (o ∷ os) h u =
    let k0 : o.key ≡ 0 → ⊥ = λ q. omega (arith, q, u.0) in
    let q : (price_good s o.price && (leb 1 o.total && leb o.displayed o.total)) ≡ true = rw (ne_eqb o.key 0 k0) at u.2.0 in
    let v = and_parts (price_good s o.price) (leb 1 o.total && leb o.displayed o.total) q in
    let w = and_parts (leb 1 o.total) (leb o.displayed o.total) v.1 in
    rw (le-leb a o.key u.0, lt-ltb o.key prime u.1, w.0, w.1, v.0, le-leb o.total 4294967295 (omega (arith, u.2.1)), le-leb o.price 4294967295 (omega (arith, u.2.2)))
    (rising_good s (suc o.key) b os (omega arith) u.3)

front_is : (s : Sizes) (o : Order) → o.key ≡ 0 → Weighs s o → o ≡ front
unfolding front weighs price_ok quantities_ok nothing_in
front_is s o e w =
    let q : (eqb o.price 0 && (eqb o.total 0 && eqb o.displayed 0)) ≡ true = rw (eq-eqb o.key 0 e) at w.0 in
    let v = and_parts (eqb o.price 0) (eqb o.total 0 && eqb o.displayed 0) q in
    let r = and_parts (eqb o.total 0) (eqb o.displayed 0) v.1 in
    let p = eqb-true o.price 0 v.0 in
    let t = eqb-true o.total 0 r.0 in
    let d = eqb-true o.displayed 0 r.1 in
    λ i. record { key = e i; total = t i; displayed = d i; price = p i }

-- ---- WHAT ACCEPTED BYTES HOLD

pub record Accepted (bs : List ℕ) : Type 0 where
  pub rule : Ruled bs
  pub full : ℕ
  pub clean : swept (sizes_in bs) bs ≡ Ok full
  pub orders : List Order
  pub walk : Walks (sizes_in bs) (part_sound (sizes_in bs) bs) (beta (sizes_in bs)) front (front ∷ orders)
  pub good : orders_good (sizes_in bs) 1 orders ≡ true
  pub up : Up 1 orders
  pub held : length orders ≡ held_in bs
  pub chunks : full ≡ tally (sizes_in bs) (part_sound (sizes_in bs) bs) (beta (sizes_in bs)) 0

record Passed (bs : List ℕ) : Type 0 where
  pub rule : rule_1 bs ≡ true
  pub full : ℕ
  pub clean : swept (sizes_in bs) bs ≡ Ok full
  pub end : Seen
  pub walk : walked (sizes_in bs) bs (held_in bs) full ≡ Some end
  pub orders : end.orders ≡ 0
  pub chunks : end.chunks ≡ 0

passed : (bs : List ℕ) → check_passes bs ≡ true → Passed bs
unfolding check_passes ended
passed bs e = let p = and_parts (rule_1 bs) (ended (option_and_then (walked (sizes_in bs) bs (held_in bs)) (result_ok (swept (sizes_in bs) bs)))) e in swept_all p.0 (swept (sizes_in bs) bs) refl p.1
  where
    seen_all : rule_1 bs ≡ true → (m : ℕ) → swept (sizes_in bs) bs ≡ Ok m → (r : Option Seen) → walked (sizes_in bs) bs (held_in bs) m ≡ r → ended r ≡ true → Passed bs
    seen_all u m c None w q = absurd (false≢true q)
    seen_all u m c (Some z) w q =
        let v = and_parts (eqb z.orders 0) (eqb z.chunks 0) q in
        record { rule = u; full = m; clean = c; end = z; walk = w; orders = eqb-true z.orders 0 v.0; chunks = eqb-true z.chunks 0 v.1 }

    swept_all : rule_1 bs ≡ true → (r : Result ℕ ℕ) → swept (sizes_in bs) bs ≡ r → ended (option_and_then (walked (sizes_in bs) bs (held_in bs)) (result_ok r)) ≡ true → Passed bs
    swept_all u (Err m) c q = absurd (false≢true q)
    swept_all u (Ok m) c q = seen_all u m c (walked (sizes_in bs) bs (held_in bs) m) refl q

weighed_top : (s : Sizes) (b : ℕ) → 2 ≤ b → Weighed s b front
weighed_top s zero h = absurd (omega arith)
weighed_top s (suc b) h = tt

pub accepted : (bs : List ℕ) → Bytes bs → check_passes bs ≡ true → Accepted bs
unfolding walked front
accepted bs u e = go (passed bs e)
  where
    s : Sizes
    s = sizes_in bs

    go : Passed bs → Accepted bs
    go p =
        let r = ruled bs p.rule in
        let x : Seen = record { low = 0; orders = held_in bs + 1; chunks = p.full } in
        let o = opened s bs (small_read s bs u) (some_nodes s r.makes) (some_blocks s r.makes) (beta s) front x p.end (weighed_top s (beta s) (beta_least s)) p.walk in
        let h = shape s (part_sound s bs) (beta s) front o.seg o.walk in
        let t = subst (λ (q : List Order). Step s x q (tally s (part_sound s bs) (beta s) 0) p.end) h.whole o.step in
        let f : h.head ≡ front = front_is s h.head h.same t.rising.2 in
        let w = subst (λ (q : List Order). Walks s (part_sound s bs) (beta s) front q) (h.whole ∙ ap (λ (y : Order). y ∷ h.rest) f) o.walk in
        let a = subst (λ (y : Order). Rising s (suc y.key) h.rest p.end.low) f t.rising.3 in
        record {
          rule = r;
          full = p.full;
          clean = p.clean;
          orders = h.rest;
          walk = w;
          good = rising_good s 1 p.end.low h.rest (omega arith) a;
          up = rising_up s 1 p.end.low h.rest a;
          held = omega (arith, t.orders, p.orders);
          chunks = omega (arith, t.chunks, p.chunks);
        }
