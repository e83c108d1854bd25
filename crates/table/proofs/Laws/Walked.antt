-- Over bytes where each search finds the chunk of its partition, a walk goes on exactly by the orders and chunks under a node.
use Rattle.std.proofs.Common.{Some}
use mathlib.Core.Path.{◌≡◌, refl, sym, ap, ◌∙◌, subst}
use mathlib.Core.Bool.{Bool, true, false, cond, true≢false}
use mathlib.Core.List.{List, [], ◌∷◌, ◌++◌, append_assoc, map}
use Prim.Native.Nat.{ℕ, zero, suc, ◌+◌, ◌*◌, ◌-◌, ◌≤◌, ◌<◌}
use native.Mathlib.Nat.{suc-mul, zero-mul}
use native.Mathlib.Numerals.{add-one}
use native.Mathlib.Omega.{arith}
use borrow.Author.Tests.{eq-eqb, ne_eqb, le-leb, lt-ltb, ltb-true}
use lib.Dec.{ltb, eqb}
use lib.ListN.{length, take, drop, length-take, length-drop, length-map, take-append-drop}
use lib.Seq.{take-nil, drop-drop}
use Rattle.sizes.specs.Sizes.{prime, beta}
use Rattle.sizes.specs.Hash.{level}
use Rattle.sizes.specs.Header.{block_long}
use Rattle.placement.specs.Place.{found_at}
use Rattle.sizes.specs.declared.Sizes.{Sizes}
use Rattle.placement.specs.declared.Order.{Order}
use Rattle.sizes.proofs.Laws.Sizes.{and_parts}
use Rattle.skiplist.specs.Lists.{masked}
use Rattle.skiplist.proofs.Laws.Count.{pieces, pieces_less}
use Rattle.skiplist.proofs.Laws.Opens.{Exact, Nodes, Walks, shape}
use Rattle.table.specs.declared.Seen.{Seen}
use Rattle.table.specs.Walk.{nothing_in, quantities_ok, price_ok, belongs_in, counts, counted, enters_ok, entered_seen, ended_seen, fits_in, node_good, spot, chunk_spot, count_in, chunk_by, chunks_by, opens_of}
use Rattle.table.proofs.Laws.Came.{weighs, Rising, Step, rising_split, step_split, nodes_on, chunk_read, chunk_are}
use Rattle.table.proofs.Laws.Counted.{under, under_both, tally}
use Rattle.table.proofs.Laws.Reading.{Fitting, read_count}

-- nothing came by
pub step_same : {s : Sizes} (x z : Seen) → Step s x [] 0 z → x ≡ z
step_same x z u =
    let l = u.rising in
    let n : x.orders ≡ z.orders = omega (arith, u.orders) in
    let c : x.chunks ≡ z.chunks = omega (arith, u.chunks) in
    λ i. record { low = l i; orders = n i; chunks = c i }

-- one order came by
one_counted : {s : Sizes} (o : Order) (x z : Seen) → Step s x (o ∷ []) 0 z → counted o.key x ≡ Some z
unfolding counted counts
one_counted o x z u =
    let r = u.rising in
    let k : o.key + 1 ≡ z.low = add-one o.key ∙ r.3 in
    let n : x.orders - 1 ≡ z.orders = omega (arith, u.orders) in
    let c : x.chunks ≡ z.chunks = omega (arith, u.chunks) in
    rw (le-leb x.low o.key r.0, lt-ltb o.key prime r.1, le-leb 1 x.orders (omega (arith, u.orders))) (λ i. Some (record { low = k i; orders = n i; chunks = c i }))

-- after an order some key is passed
rising_most : (s : Sizes) (a b : ℕ) (xs : List Order) → Rising s a xs b → a ≤ b
rising_most s a b [] u = omega (arith, u)
rising_most s a b (x ∷ xs) u = omega (arith, u.0, rising_most s (suc x.key) b xs u.3)

nodes_split : (s : Sizes) (T : (l f : ℕ) → List Order) (W : Order → List Order → Type 0) (xs zs seg : List Order) → Nodes s T W (xs ++ zs) seg →
    (a : List Order) × (b : List Order) × (seg ≡ a ++ b) × Nodes s T W xs a × Nodes s T W zs b
nodes_split s T W [] zs seg w = ([], seg, refl, refl, w)
nodes_split s T W (x ∷ xs) zs seg w =
    let r = nodes_split s T W xs zs w.1 w.4 in
    (w.0 ++ r.0, r.1, w.2 ∙ ap (λ (z : List Order). w.0 ++ z) r.2 ∙ sym (append_assoc w.0 r.0 r.1), (w.0, r.0, refl, w.3, r.3), r.4)

fitting_split : (s : Sizes) (l f : ℕ) (o : Bool) (xs zs : List Order) → 0 < length xs → Fitting s l f o (xs ++ zs) → Fitting s l f o xs × Exact s l zs
fitting_split s l f o xs zs h u = go o xs h u
  where
    exact : (xs : List Order) → Exact s l (xs ++ zs) → Exact s l xs × Exact s l zs
    exact [] u = (tt, u)
    exact (x ∷ xs) u = let w = exact xs u.1 in ((u.0, w.0), w.1)

    go : (o : Bool) (xs : List Order) → 0 < length xs → Fitting s l f o (xs ++ zs) → Fitting s l f o xs × Exact s l zs
    go o [] h u = absurd (omega arith)
    go true (x ∷ xs) h u = let w = exact xs u.1 in ((u.0, w.0), w.1)
    go false (x ∷ xs) h u = exact (x ∷ xs) u

-- what a search finds, where a partition is p
pub record FindsChunk (s : Sizes) (bs : List ℕ) (l f i : ℕ) (ms : List Order) : Type 0 where
  pub there : 0 < length ms → (found_at (chunk_spot s bs l f i) ≡ true) × (chunk_read s bs (spot (chunk_spot s bs l f i)) ≡ ms)
  pub gone : length ms ≡ 0 → found_at (chunk_spot s bs l f i) ≡ false

key_is : (l : ℕ) (n : Order) → (masked l n).key ≡ n.key
unfolding masked
key_is l n = refl

module _ (s : Sizes) (bs : List ℕ) (T : (l f : ℕ) → List Order) (b : 0 < s.nodes)
    (finds : (l f i : ℕ) → 0 < l → l ≤ beta s → FindsChunk s bs l f i (map (masked l) (take s.nodes (drop (i * s.nodes) (T l f))))) where
  -- a node that opens as it should
  abbrev Opens : (l : ℕ) → Type 0
  Opens l = (x : Order) (seg : List Order) → Walks s T l x seg → (st z : Seen) → st.chunks ≤ s.blocks → Step s st seg (tally s T l x.key) z → opens_of s bs l x.key st ≡ Some z

  module _ (l f : ℕ) (ih : Opens l) where
    -- a node is good: its key, its level, its price and its quantities
    weighs_masked : (n : Order) (a : List Order) (low end : ℕ) → Walks s T l n a → Rising s low a end → weighs s (suc l) (masked (suc l) n) ≡ true
    unfolding weighs price_ok quantities_ok masked nothing_in
    weighs_masked n a low end w r = go l w
      where
        go : (l : ℕ) → Walks s T l n a → weighs s (suc l) (masked (suc l) n) ≡ true
        go zero w = (subst (λ (z : List Order). Rising s low z end) w r).2.0
        go (suc l) w =
            let e = ne_eqb (suc (suc l)) 1 (λ q. omega arith) in
            rw e

    head_low : (n : Order) (a : List Order) (low end : ℕ) → Walks s T l n a → Rising s low a end → (low ≤ n.key) × (0 < end)
    head_low n a low end w r =
        let p = shape s T l n a w in
        let q = subst (λ (z : List Order). Rising s low z end) p.whole r in
        (omega (arith, p.same, q.0), omega (arith, rising_most s (suc p.head.key) end p.rest q.3))

    belongs : (o : Bool) (n : Order) (ns : List Order) → Fitting s (suc l) f o (n ∷ ns) → (o ≡ false → 0 < n.key) → belongs_in s (suc l) f o n.key ≡ true
    unfolding belongs_in
    belongs true n ns u h = eq-eqb n.key f u.0
    belongs false n ns u h = let k = h refl in rw (ne_eqb n.key 0 (λ q. omega (arith, q)), eq-eqb (level s n.key) (suc l) u.0)

    rest_exact : (o : Bool) (n : Order) (ns : List Order) → Fitting s (suc l) f o (n ∷ ns) → Exact s (suc l) ns
    rest_exact true n ns u = u.1
    rest_exact false n ns u = u.1

    good_is : (o : Bool) (n : Order) → belongs_in s (suc l) f o n.key ≡ true → weighs s (suc l) (masked (suc l) n) ≡ true → node_good s (suc l) f o (masked (suc l) n) ≡ true
    unfolding node_good fits_in weighs masked
    good_is o n c d =
        let p = and_parts (price_ok s (suc l) (masked (suc l) n)) (quantities_ok (suc l) (masked (suc l) n)) d in
        rw (c, p.0, p.1)

    -- THE NODES of a chunk
    nodes_is : (ns : List Order) (o : Bool) (seg : List Order) (st z : Seen) → Nodes s T (Walks s T l) ns seg → Fitting s (suc l) f o ns → (o ≡ false → 0 < st.low) → st.chunks ≤ s.blocks →
        Step s st seg (under (tally s T l) ns) z → nodes_on (opens_of s bs l) s (suc l) f o (map (masked (suc l)) ns) st ≡ Some z
    unfolding nodes_on under
    nodes_is [] o seg st z w u h m p = ap Some (step_same st z (subst (λ (r : List Order). Step s st r 0 z) w p))
    nodes_is (n ∷ ns) o seg st z w u h m p =
        let d = step_split st z w.0 w.1 (tally s T l n.key) (under (tally s T l) ns) (subst (λ (r : List Order). Step s st r (tally s T l n.key + under (tally s T l) ns) z) w.2 p) in
        let y = d.state in
        let k = head_low n w.0 st.low y.low w.3 d.first.rising in
        let e1 = belongs o n ns u (λ q. omega (arith, k.0, h q)) in
        let e2 = weighs_masked n w.0 st.low y.low w.3 d.first.rising in
        let e3 = ih n w.0 w.3 st y m d.first in
        rw (good_is o n e1 e2, key_is (suc l) n, e3) (nodes_is ns false w.1 y z w.4 (rest_exact o n ns u) (λ q. k.1) (omega (arith, d.first.chunks)) d.then)

    -- ONE CHUNK
    entered_step : (st y : Seen) (seg : List Order) (c : ℕ) → Step s st seg (suc c) y → Step s (entered_seen st) seg c y
    unfolding entered_seen
    entered_step st y seg c p = record { rising = p.rising; orders = p.orders; chunks = omega (arith, p.chunks) }

    enters_is : (n : ℕ) (st y : Seen) (seg : List Order) (c : ℕ) → 0 < n → n ≤ s.nodes → Step s st seg (suc c) y → enters_ok s.nodes n st ≡ true
    unfolding enters_ok
    enters_is n st y seg c h g p = rw (le-leb 1 n h, le-leb n s.nodes g, le-leb 1 st.chunks (omega (arith, p.chunks)))

    entered_low : (st : Seen) → ((entered_seen st).low ≡ st.low) × ((entered_seen st).chunks ≤ st.chunks)
    unfolding entered_seen
    entered_low st = (refl, omega arith)

    chunk_is : (i k : ℕ) (ns seg : List Order) (st y : Seen) → chunk_read s bs k ≡ map (masked (suc l)) ns → 0 < length ns → length ns ≤ s.nodes → Nodes s T (Walks s T l) ns seg →
        Fitting s (suc l) f (eqb i 0) ns → (eqb i 0 ≡ false → 0 < st.low) → st.chunks ≤ s.blocks → Step s st seg (suc (under (tally s T l) ns)) y → chunk_by (opens_of s bs l) s bs (suc l) f i k st ≡ Some y
    chunk_is i k ns seg st y e h g w u low m p =
        let c : count_in (block_long s) bs k ≡ length ns = sym (read_count s bs k) ∙ ap length e ∙ length-map ns (masked (suc l)) in
        let q = entered_low st in
        chunk_are (opens_of s bs l) s bs (suc l) f i k st
        ∙ rw (c, enters_is (length ns) st y seg (under (tally s T l) ns) h g p, e)
        (nodes_is ns (eqb i 0) seg (entered_seen st) y w u (λ z. omega (arith, q.0, low z)) (omega (arith, q.1)) (entered_step st y seg (under (tally s T l) ns) p))

    -- THE CHUNKS of a partition: one, and those behind it
    one_more : (j i : ℕ) (st y : Seen) → found_at (chunk_spot s bs (suc l) f i) ≡ true → chunk_by (opens_of s bs l) s bs (suc l) f i (spot (chunk_spot s bs (suc l) f i)) st ≡ Some y →
        chunks_by (opens_of s bs l) s bs (suc l) f (suc j) i st
        ≡ cond (ltb (count_in (block_long s) bs (spot (chunk_spot s bs (suc l) f i))) s.nodes) (Some y) (chunks_by (opens_of s bs l) s bs (suc l) f j (suc i) y)
    unfolding chunks_by
    one_more j i st y e q = rw (e, q)

    none_more : (j i : ℕ) (st : Seen) → found_at (chunk_spot s bs (suc l) f i) ≡ false → (i ≡ 0 → ⊥) → chunks_by (opens_of s bs l) s bs (suc l) f (suc j) i st ≡ Some st
    unfolding chunks_by ended_seen
    none_more j i st e ne = rw (e, ne_eqb i 0 ne)

    none_left : (ys seg : List Order) (y z : Seen) → length ys ≡ 0 → Nodes s T (Walks s T l) ys seg → Step s y seg (pieces s.nodes (length ys) + under (tally s T l) ys) z → y ≡ z
    unfolding pieces under
    none_left [] seg y z h w p = step_same y z (subst (λ (r : List Order). Step s y r 0 z) w p)
    none_left (x ∷ ys) seg y z h w p = absurd (omega arith)

    nodes_low : (xs a : List Order) (low end : ℕ) → 0 < length xs → Nodes s T (Walks s T l) xs a → Rising s low a end → 0 < end
    nodes_low [] a low end h w r = absurd (omega arith)
    nodes_low (x ∷ xs) a low end h w r =
        let d = rising_split s low end w.0 w.1 (subst (λ (z : List Order). Rising s low z end) w.2 r) in
        omega (arith, (head_low x w.0 low d.0 w.3 d.1).1, rising_most s d.0 end w.1 d.2)

    chunks_is : suc l ≤ beta s → (j i : ℕ) (rest seg : List Order) (st z : Seen) → rest ≡ drop (i * s.nodes) (T (suc l) f) → pieces s.nodes (length rest) ≤ j → (i ≡ 0 → 0 < length rest) →
        Nodes s T (Walks s T l) rest seg → Fitting s (suc l) f (eqb i 0) rest → (eqb i 0 ≡ false → 0 < st.low) → st.chunks ≤ s.blocks →
        Step s st seg (pieces s.nodes (length rest) + under (tally s T l) rest) z → chunks_by (opens_of s bs l) s bs (suc l) f j i st ≡ Some z
    unfolding pieces under chunks_by
    chunks_is top zero i [] seg st z e h g w u low m p = ap Some (step_same st z (subst (λ (r : List Order). Step s st r 0 z) w p))
    chunks_is top (suc j) i [] seg st z e h g w u low m p =
        let d = finds (suc l) f i (omega arith) top in
        let n : length (map (masked (suc l)) (take s.nodes (drop (i * s.nodes) (T (suc l) f)))) ≡ 0 = rw (← e) (ap length (ap (map (masked (suc l))) (take-nil {A = Order} s.nodes))) in
        none_more j i st (d.gone n) (λ q. omega (arith, g q)) ∙ ap Some (step_same st z (subst (λ (r : List Order). Step s st r 0 z) w p))
    chunks_is top zero i (r ∷ rs) seg st z e h g w u low m p = absurd (omega arith)
    chunks_is top (suc j) i (r ∷ rs) seg st z e h g w u low m p =
        go (λ seg' y. chunks_is top j (suc i) (drop s.nodes (r ∷ rs)) seg' y z) (nodes_split s T (Walks s T l) xs ys seg (subst (λ (q : List Order). Nodes s T (Walks s T l) q seg) (sym both) w))
      where
        xs : List Order
        xs = take s.nodes (r ∷ rs)

        ys : List Order
        ys = drop s.nodes (r ∷ rs)

        both : xs ++ ys ≡ r ∷ rs
        both = take-append-drop s.nodes (r ∷ rs)

        go : ((seg' : List Order) (y : Seen) → ys ≡ drop (suc i * s.nodes) (T (suc l) f) → pieces s.nodes (length ys) ≤ j → (suc i ≡ 0 → 0 < length ys) → Nodes s T (Walks s T l) ys seg' →
            Fitting s (suc l) f (eqb (suc i) 0) ys → (eqb (suc i) 0 ≡ false → 0 < y.low) → y.chunks ≤ s.blocks → Step s y seg' (pieces s.nodes (length ys) + under (tally s T l) ys) z →
            chunks_by (opens_of s bs l) s bs (suc l) f j (suc i) y ≡ Some z) →
            (a : List Order) × (b : List Order) × (seg ≡ a ++ b) × Nodes s T (Walks s T l) xs a × Nodes s T (Walks s T l) ys b → chunks_by (opens_of s bs l) s bs (suc l) f (suc j) i st ≡ Some z
        go ih v =
            let n = length-take s.nodes (r ∷ rs) in
            let lx : 0 < length xs = omega (arith, n, b) in
            let lb : length xs ≤ s.nodes = omega (arith, n) in
            let k = finds (suc l) f i (omega arith) top in
            let ms : map (masked (suc l)) (take s.nodes (drop (i * s.nodes) (T (suc l) f))) ≡ map (masked (suc l)) xs = ap (λ (q : List Order). map (masked (suc l)) (take s.nodes q)) (sym e) in
            let k1 = k.there (omega (arith, ap length ms, length-map xs (masked (suc l)), lx)) in
            let fs = fitting_split s (suc l) f (eqb i 0) xs ys lx (subst (Fitting s (suc l) f (eqb i 0)) (sym both) u) in
            let c1 : pieces s.nodes (length (r ∷ rs)) ≡ suc (pieces s.nodes (length ys)) = pieces_less s.nodes (length rs) b ∙ ap (λ (q : ℕ). suc (pieces s.nodes q)) (sym (length-drop s.nodes (r ∷ rs))) in
            let c2 : under (tally s T l) (r ∷ rs) ≡ under (tally s T l) xs + under (tally s T l) ys = ap (under (tally s T l)) (sym both) ∙ under_both (tally s T l) xs ys in
            let c3 : pieces s.nodes (length (r ∷ rs)) + under (tally s T l) (r ∷ rs) ≡ suc (under (tally s T l) xs) + (pieces s.nodes (length ys) + under (tally s T l) ys) = omega (arith, c1, c2) in
            let d = step_split st z v.0 v.1 (suc (under (tally s T l) xs)) (pieces s.nodes (length ys) + under (tally s T l) ys)
            (subst (λ (q : ℕ). Step s st (v.0 ++ v.1) q z) c3 (subst (λ (q : List Order). Step s st q (pieces s.nodes (length (r ∷ rs)) + under (tally s T l) (r ∷ rs)) z) v.2 p)) in
            let ck = chunk_is i (spot (chunk_spot s bs (suc l) f i)) xs v.0 st d.state (k1.1 ∙ ms) lx lb v.3 fs.0 low m d.first in
            let lc : count_in (block_long s) bs (spot (chunk_spot s bs (suc l) f i)) ≡ length xs = sym (read_count s bs (spot (chunk_spot s bs (suc l) f i))) ∙ ap length (k1.1 ∙ ms) ∙ length-map xs (masked (suc l)) in
            one_more j i st d.state k1.0 ck
            ∙ last d.state d.first d.then lc (omega (arith, c1, h)) fs.1 (ltb (count_in (block_long s) bs (spot (chunk_spot s bs (suc l) f i))) s.nodes) refl
          where
            last : (y : Seen) → Step s st v.0 (suc (under (tally s T l) xs)) y → Step s y v.1 (pieces s.nodes (length ys) + under (tally s T l) ys) z →
                count_in (block_long s) bs (spot (chunk_spot s bs (suc l) f i)) ≡ length xs → pieces s.nodes (length ys) ≤ j → Exact s (suc l) ys →
                (t : Bool) → ltb (count_in (block_long s) bs (spot (chunk_spot s bs (suc l) f i))) s.nodes ≡ t → cond t (Some y) (chunks_by (opens_of s bs l) s bs (suc l) f j (suc i) y) ≡ Some z
            last y p1 p2 lc few ex true q =
                let n = length-take s.nodes (r ∷ rs) in
                let n2 = length-drop s.nodes (r ∷ rs) in
                ap Some (none_left ys v.1 y z (omega (arith, n, n2, lc, ltb-true (count_in (block_long s) bs (spot (chunk_spot s bs (suc l) f i))) s.nodes q)) v.4 p2)
            last y p1 p2 lc few ex false q =
                let n = length-take s.nodes (r ∷ rs) in
                let en : suc i * s.nodes ≡ i * s.nodes + s.nodes = suc-mul i s.nodes in
                let ey : ys ≡ drop (suc i * s.nodes) (T (suc l) f) = ap (drop s.nodes) e ∙ drop-drop s.nodes (i * s.nodes) (T (suc l) f) ∙ ap (λ (k : ℕ). drop k (T (suc l) f)) (sym en) in
                ih v.1 y ey few (λ k. absurd (omega (arith, k))) v.4 (subst (λ (k : Bool). Fitting s (suc l) f k ys) (sym (ne_eqb (suc i) 0 (λ k. omega (arith, k)))) ex)
                (λ k. nodes_low xs v.0 st.low y.low (omega (arith, n, b)) v.3 p1.rising) (omega (arith, p1.chunks, m)) p2

  -- A NODE OPENS
  pub opens_is : (l : ℕ) → l ≤ beta s → Opens l
  unfolding opens_of tally
  opens_is zero h x seg w st z m p = one_counted x st z (subst (λ (r : List Order). Step s st r 0 z) w p)
  opens_is (suc l) h x seg w st z m p =
      let ih = opens_is l (omega arith) in
      let t = w.2 in
      let c : Step s st seg (pieces s.nodes (length (w.0 ∷ w.1)) + under (tally s T l) (w.0 ∷ w.1)) z = subst (λ (r : List Order). Step s st seg (pieces s.nodes (length r) + under (tally s T l) r) z) t p in
      chunks_is l x.key ih h s.blocks 0 (w.0 ∷ w.1) seg st z (sym t ∙ ap (λ (k : ℕ). drop k (T (suc l) x.key)) (sym (zero-mul s.nodes))) (omega (arith, c.chunks)) (λ k. omega arith)
      w.5 (w.3, w.4) (λ k. absurd (true≢false k)) m c
