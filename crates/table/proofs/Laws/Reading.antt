-- A walk that comes to its end reads partitions that open one another.
use Rattle.std.proofs.Common.{Option, Some, None, option_and_then}
use mathlib.Core.Path.{◌≡◌, refl, sym, ap, ◌∙◌, subst}
use mathlib.Core.Bool.{Bool, true, false, ◌&&◌, not, cond}
use mathlib.Core.List.{List, [], ◌∷◌, ◌++◌, append_assoc, append-nil}
use Prim.Native.Nat.{ℕ, zero, suc, ◌+◌, ◌*◌, ◌-◌, ◌≤◌, ◌<◌}
use native.Mathlib.Nat.{suc-mul, zero-mul, add-zero, add_comm}
use native.Mathlib.Numerals.{add-one}
use native.Mathlib.Decide.{dec_lt}
use native.Mathlib.Omega.{arith}
use Rattle.std.proofs.lemmas.Option.{none-some, option_and_then_some}
use borrow.Author.Tests.{eq-eqb, ne_eqb, le-leb, leb-true, ltb-false, eqb-true, eqb-false}
use lib.Dec.{ltb, leb, eqb}
use lib.ListN.{length, take, drop, length-append}
use lib.Seq.{take_all, take_at, drop-append-add}
use Rattle.sizes.specs.Sizes.{row}
use Rattle.sizes.specs.Hash.{level}
use Rattle.sizes.specs.Header.{block_long}
use Rattle.placement.specs.Place.{found_at}
use Rattle.sizes.specs.declared.Sizes.{Sizes}
use Rattle.placement.specs.declared.Order.{Order}
use Rattle.sizes.proofs.Laws.Sizes.{and_parts}
use Rattle.placement.proofs.Laws.Decoding.{nodes_count}
use Rattle.skiplist.proofs.Laws.Count.{pieces, pieces_less}
use Rattle.skiplist.proofs.Laws.Opens.{Exact, Nodes, Walks}
use Rattle.table.specs.declared.Seen.{Seen}
use Rattle.table.specs.Walk.{quantities_ok, price_ok, belongs_in, counts, counted, enters_ok, entered_seen, ended_seen, fits_in, node_good, spot, chunk_spot, count_in, chunk_by, chunks_by, opens_of}
use Rattle.table.proofs.Laws.Steps.{enters_parts, counts_parts}
use Rattle.table.proofs.Laws.Came.{weighs, Weighs, Step, step_none, step_both, nodes_on, chunk_read, chunk_are}
use Rattle.table.proofs.Laws.Counted.{under, under_both, tally}

-- ---- WHAT IS READ

-- the nodes of a partition, chunk after chunk
unfoldable pub part_from : Sizes → List ℕ → (l f fuel i : ℕ) → List Order
part_from s bs l f zero i = []
part_from s bs l f (suc j) i =
    cond (found_at (chunk_spot s bs l f i))
    (chunk_read s bs (spot (chunk_spot s bs l f i))
    ++ cond (ltb (count_in (block_long s) bs (spot (chunk_spot s bs l f i))) s.nodes) [] (part_from s bs l f j (suc i))) []

unfoldable pub weigh_all : Sizes → (l : ℕ) → List Order → Bool
weigh_all s l [] = true
weigh_all s l (o ∷ ns) = weighs s l o && weigh_all s l ns

-- every chunk that is met has 1 to B nodes, and the price and quantities of its level
unfoldable pub sound_from : Sizes → List ℕ → (l f fuel i : ℕ) → Bool
sound_from s bs l f zero i = true
sound_from s bs l f (suc j) i =
    cond (found_at (chunk_spot s bs l f i))
    (((leb 1 (count_in (block_long s) bs (spot (chunk_spot s bs l f i))) && leb (count_in (block_long s) bs (spot (chunk_spot s bs l f i))) s.nodes) && weigh_all s l (chunk_read s bs (spot (chunk_spot s bs l f i))))
    && cond (ltb (count_in (block_long s) bs (spot (chunk_spot s bs l f i))) s.nodes) true (sound_from s bs l f j (suc i))) true

-- a partition as it was read, where it is sound
unfoldable pub part_sound : Sizes → List ℕ → (l f : ℕ) → List Order
part_sound s bs l f = cond (sound_from s bs l f s.blocks 0) (part_from s bs l f s.blocks 0) []

pub read_count : (s : Sizes) (bs : List ℕ) (b : ℕ) → length (chunk_read s bs b) ≡ count_in (block_long s) bs b
unfolding chunk_read
read_count s bs b = nodes_count (row s) (count_in (block_long s) bs b) (drop (53 + b * block_long s + 8) bs)

-- how many chunks: one more before a full one, and one for the last
pub pieces_full : (b n : ℕ) → 0 < b → pieces b (b + n) ≡ suc (pieces b n)
pieces_full zero n h = absurd (omega arith)
pieces_full (suc b) n h =
    let e : suc b + n ≡ suc (b + n) = omega arith in
    let d : suc (b + n) - suc b ≡ n = omega arith in
    rw e (pieces_less (suc b) (b + n) h ∙ rw d)

pub pieces_last : (b n : ℕ) → 0 < n → n ≤ b → pieces b n ≡ 1
unfolding pieces
pieces_last b zero h g = absurd (omega arith)
pieces_last b (suc n) h g =
    let d : suc n - b ≡ 0 = omega arith in
    pieces_less b n (omega arith) ∙ rw d

-- ---- A WALK THAT ENDS RIGHT

abbrev pub Weighed : Sizes → (l : ℕ) → Order → Type 0
Weighed s zero o = Weighs s o
Weighed s (suc l) o = Unit {0}

-- the first node of a partition has its key, every other the level
abbrev pub Fitting : Sizes → (l f : ℕ) → (opens : Bool) → List Order → Type 0
Fitting s l f true [] = Unit {0}
Fitting s l f true (o ∷ ns) = (o.key ≡ f) × Exact s l ns
Fitting s l f false ns = Exact s l ns

exact_both : (s : Sizes) (l : ℕ) (xs zs : List Order) → Exact s l xs → Exact s l zs → Exact s l (xs ++ zs)
exact_both s l [] zs u v = v
exact_both s l (x ∷ xs) zs u v = (u.0, exact_both s l xs zs u.1 v)

nodes_both : (s : Sizes) (T : (l f : ℕ) → List Order) (W : Order → List Order → Type 0) (xs zs a b : List Order) → Nodes s T W xs a → Nodes s T W zs b → Nodes s T W (xs ++ zs) (a ++ b)
nodes_both s T W [] zs a b u v = subst (λ (r : List Order). Nodes s T W zs (r ++ b)) (sym u) v
nodes_both s T W (x ∷ xs) zs a b u v =
    (u.0, u.1 ++ b, ap (λ (r : List Order). r ++ b) u.2 ∙ append_assoc u.0 u.1 b, u.3, nodes_both s T W xs zs u.1 b u.4 v)

-- totals and prices of four bytes
abbrev pub Small : List Order → Type 0
Small [] = Unit {0}
Small (o ∷ ns) = (o.total < 4294967296) × (o.price < 4294967296) × Small ns

module _ (s : Sizes) (bs : List ℕ) (small : (b : ℕ) → Small (chunk_read s bs b)) where
  abbrev T : (l f : ℕ) → List Order
  T = part_sound s bs

  pub record Opened (l : ℕ) (o : Order) (x z : Seen) : Type 0 where
    pub seg : List Order
    pub walk : Walks s T l o seg
    pub step : Step s x seg (tally s T l o.key) z

  pub record Listed (l : ℕ) (opens : Bool) (f : ℕ) (ns : List Order) (x z : Seen) : Type 0 where
    pub seg : List Order
    pub nodes : Nodes s T (Walks s T l) ns seg
    pub fitting : Fitting s (suc l) f opens ns
    pub weights : weigh_all s (suc l) ns ≡ true
    pub step : Step s x seg (under (tally s T l) ns) z

  -- at level 0
  opened_zero : (o : Order) (x z : Seen) → Weighs s o → counted o.key x ≡ Some z → Opened zero o x z
  unfolding counted tally
  opened_zero o x z q e = go (counts o.key x) refl e
    where
      now : Seen
      now = record { low = o.key + 1; orders = x.orders - 1; chunks = x.chunks }

      go : (t : Bool) → counts o.key x ≡ t → cond t (Some now) None ≡ Some z → Opened zero o x z
      go true c h =
          let a = counts_parts o.key x c in
          let k : now ≡ z = cc in
          subst (Opened zero o x) k
          (record {
            seg = o ∷ [];
            walk = refl;
            step = record { rising = (a.0, a.1, q, sym (add-one o.key)); orders = omega (arith, a.2); chunks = omega arith };
          })
      go false c h = absurd (none-some z h)

  module _ (l : ℕ) (ih : (o : Order) (x z : Seen) → Weighed s l o → opens_of s bs l o.key x ≡ Some z → Opened l o x z) (f : ℕ) where
    weighed_of : (o : Order) → o.total < 4294967296 → o.price < 4294967296 → weighs s (suc l) o ≡ true → Weighed s l o
    weighed_of o h g e = go l e
      where
        go : (l : ℕ) → weighs s (suc l) o ≡ true → Weighed s l o
        go zero e = (e, h, g)
        go (suc l) e = tt

    -- a node is good: its key, its price and its quantities
    good_parts : (o : Bool) (n : Order) → node_good s (suc l) f o n ≡ true → (belongs_in s (suc l) f o n.key ≡ true) × (weighs s (suc l) n ≡ true)
    unfolding node_good fits_in weighs
    good_parts o n e =
        let p = and_parts (price_ok s (suc l) n) (fits_in s (suc l) f o n) e in
        let q = and_parts (belongs_in s (suc l) f o n.key) (quantities_ok (suc l) n) p.1 in
        (q.0, rw (p.0, q.1))

    -- a node that belongs
    fitting_more : (o : Bool) (n : Order) (ns : List Order) → belongs_in s (suc l) f o n.key ≡ true → Exact s (suc l) ns → Fitting s (suc l) f o (n ∷ ns)
    unfolding belongs_in
    fitting_more true n ns e u = (eqb-true n.key f e, u)
    fitting_more false n ns e u = (eqb-true (level s n.key) (suc l) (and_parts (not (eqb n.key 0)) (eqb (level s n.key) (suc l)) e).1, u)

    fitting_none : (o : Bool) → Fitting s (suc l) f o []
    fitting_none true = tt
    fitting_none false = tt

    -- THE NODES of a chunk
    listed : (ns : List Order) (o : Bool) (x z : Seen) → Small ns → nodes_on (opens_of s bs l) s (suc l) f o ns x ≡ Some z → Listed l o f ns x z
    unfolding nodes_on under weigh_all
    listed [] o x z m e =
        let k : x ≡ z = cc in
        subst (Listed l o f [] x) k (record { seg = []; nodes = refl; fitting = fitting_none o; weights = refl; step = step_none x })
    listed (n ∷ ns) o x z m e = go (λ y h. listed ns false y z m.2 h) (node_good s (suc l) f o n) refl e
      where
        go : ((y : Seen) → nodes_on (opens_of s bs l) s (suc l) f false ns y ≡ Some z → Listed l false f ns y z) → (t : Bool) → node_good s (suc l) f o n ≡ t
            → cond t (option_and_then (nodes_on (opens_of s bs l) s (suc l) f false ns) (opens_of s bs l n.key x)) None ≡ Some z → Listed l o f (n ∷ ns) x z
        go next true c h =
            option_and_then_some (nodes_on (opens_of s bs l) s (suc l) f false ns) (opens_of s bs l n.key x) z h
            (λ y a b.
            let q = good_parts o n c in
            let r = next y b in
            let w = ih n x y (weighed_of n m.0 m.1 q.1) a in
            record {
              seg = w.seg ++ r.seg;
              nodes = (w.seg, r.seg, refl, w.walk, r.nodes);
              fitting = fitting_more o n ns q.0 r.fitting;
              weights = rw (q.1, r.weights);
              step = step_both x y z w.seg r.seg (tally s T l n.key) (under (tally s T l) ns) w.step r.step;
            })
        go next false c h = absurd (none-some z h)

    -- ONE CHUNK
    record Chunked (i : ℕ) (ns : List Order) (x z : Seen) : Type 0 where
      pub seg : List Order
      pub nodes : Nodes s T (Walks s T l) ns seg
      pub fitting : Fitting s (suc l) f (eqb i 0) ns
      pub some : 0 < length ns
      pub most : length ns ≤ s.nodes
      pub weights : weigh_all s (suc l) ns ≡ true
      pub step : Step s x seg (suc (under (tally s T l) ns)) z

    chunked : (i b : ℕ) (x z : Seen) → chunk_by (opens_of s bs l) s bs (suc l) f i b x ≡ Some z → Chunked i (chunk_read s bs b) x z
    unfolding entered_seen
    chunked i b x z e = go (enters_ok s.nodes n x) refl (sym (chunk_are (opens_of s bs l) s bs (suc l) f i b x) ∙ e)
      where
        n : ℕ
        n = count_in (block_long s) bs b

        go : (t : Bool) → enters_ok s.nodes n x ≡ t → cond t (nodes_on (opens_of s bs l) s (suc l) f (eqb i 0) (chunk_read s bs b) (entered_seen x)) None ≡ Some z
            → Chunked i (chunk_read s bs b) x z
        go true c h =
            let p = enters_parts s.nodes n x c in
            let v = listed (chunk_read s bs b) (eqb i 0) (entered_seen x) z (small b) h in
            let k = read_count s bs b in
            record {
              seg = v.seg;
              nodes = v.nodes;
              fitting = v.fitting;
              weights = v.weights;
              some = omega (arith, k, p.0);
              most = omega (arith, k, p.1);
              step = record { rising = v.step.rising; orders = v.step.orders; chunks = omega (arith, v.step.chunks, p.2) };
            }
        go false c h = absurd (none-some z h)

    -- THE CHUNKS of a partition
    record Parted (i : ℕ) (ns : List Order) (v : Bool) (x z : Seen) : Type 0 where
      pub seg : List Order
      pub nodes : Nodes s T (Walks s T l) ns seg
      pub fitting : Fitting s (suc l) f (eqb i 0) ns
      pub some : i ≡ 0 → 0 < length ns
      pub sound : v ≡ true
      pub step : Step s x seg (pieces s.nodes (length ns) + under (tally s T l) ns) z

    fitting_both : (o : Bool) (xs zs : List Order) → 0 < length xs → Fitting s (suc l) f o xs → Exact s (suc l) zs → Fitting s (suc l) f o (xs ++ zs)
    fitting_both true [] zs h u v = absurd (omega arith)
    fitting_both true (x ∷ xs) zs h u v = (u.0, exact_both s (suc l) xs zs u.1 v)
    fitting_both false xs zs h u v = exact_both s (suc l) xs zs u v

    parted_none : (i : ℕ) (x : Seen) → (i ≡ 0 → ⊥) → Parted i [] true x x
    unfolding pieces under
    parted_none i x ne = record { seg = []; nodes = refl; fitting = fitting_none (eqb i 0); some = λ q. absurd (ne q); sound = refl; step = step_none x }

    -- one chunk, and those behind it
    joined : (i n : ℕ) (cs ns seg : List Order) (v : Bool) (x y z : Seen) → length cs ≡ n → Chunked i cs x y → pieces s.nodes (length (cs ++ ns)) ≡ suc (pieces s.nodes (length ns)) → v ≡ true →
        Nodes s T (Walks s T l) ns seg → Exact s (suc l) ns → Step s y seg (pieces s.nodes (length ns) + under (tally s T l) ns) z →
        Parted i (cs ++ ns) (((leb 1 n && leb n s.nodes) && weigh_all s (suc l) cs) && v) x z
    joined i n cs ns seg v x y z k w more ev b c r =
        let t = step_both x y z w.seg seg (suc (under (tally s T l) cs)) (pieces s.nodes (length ns) + under (tally s T l) ns) w.step r in
        record {
          seg = w.seg ++ seg;
          nodes = nodes_both s T (Walks s T l) cs ns w.seg seg w.nodes b;
          fitting = fitting_both (eqb i 0) cs ns w.some w.fitting c;
          some = λ q. simp length-append (omega (arith, w.some));
          sound = rw (le-leb 1 n (omega (arith, w.some)), le-leb n s.nodes (omega (arith, w.most)), w.weights, ev);
          step = record { rising = t.rising; orders = t.orders; chunks = omega (arith, t.chunks, more, under_both (tally s T l) cs ns) };
        }

    parted : (j i : ℕ) (x z : Seen) → 0 < s.nodes → 0 < i + j → chunks_by (opens_of s bs l) s bs (suc l) f j i x ≡ Some z
        → Parted i (part_from s bs (suc l) f j i) (sound_from s bs (suc l) f j i) x z
    unfolding chunks_by part_from sound_from ended_seen pieces under
    parted zero i x z b h e =
        let k : x ≡ z = cc in
        subst (Parted i [] true x) k (parted_none i x (λ q. omega (arith, q)))
    parted (suc j) i x z b h e = go (λ y h'. parted j (suc i) y z b (omega arith) h') (found_at r) e
      where
        r : Option ℕ
        r = chunk_spot s bs (suc l) f i

        n : ℕ
        n = count_in (block_long s) bs (spot r)

        cs : List Order
        cs = chunk_read s bs (spot r)

        ns : List Order
        ns = part_from s bs (suc l) f j (suc i)

        v : Bool
        v = sound_from s bs (suc l) f j (suc i)

        behind : Seen → Option Seen
        behind = chunks_by (opens_of s bs l) s bs (suc l) f j (suc i)

        more : (y : Seen) → Chunked i cs x y → (behind y ≡ Some z → Parted (suc i) ns v y z) → (t : Bool) → ltb n s.nodes ≡ t → cond t (Some y) (behind y) ≡ Some z
            → Parted i (cs ++ cond t [] ns) (((leb 1 n && leb n s.nodes) && weigh_all s (suc l) cs) && cond t true v) x z
        more y w next true e' q =
            let k : y ≡ z = cc in
            subst (Parted i (cs ++ []) (((leb 1 n && leb n s.nodes) && weigh_all s (suc l) cs) && true) x) k
            (joined i n cs [] [] true x y y (read_count s bs (spot r)) w (rw (append-nil cs) (pieces_last s.nodes (length cs) w.some w.most)) refl refl tt (step_none y))
        more y w next false e' q =
            let p = next q in
            let k = read_count s bs (spot r) in
            let full : length cs ≡ s.nodes = omega (arith, w.most, ltb-false n s.nodes e') in
            joined i n cs ns p.seg v x y z k w (rw (length-append, full) (pieces_full s.nodes (length ns) b)) p.sound p.nodes
            (subst (λ (t : Bool). Fitting s (suc l) f t ns) (ne_eqb (suc i) 0 (λ o. omega (arith, o))) p.fitting) p.step

        go : ((y : Seen) → behind y ≡ Some z → Parted (suc i) ns v y z) → (t : Bool) →
            cond t (option_and_then (λ y. cond (ltb n s.nodes) (Some y) (behind y)) (chunk_by (opens_of s bs l) s bs (suc l) f i (spot r) x)) (cond (eqb i 0) None (Some x)) ≡ Some z →
            Parted i (cond t (cs ++ cond (ltb n s.nodes) [] ns) []) (cond t (((leb 1 n && leb n s.nodes) && weigh_all s (suc l) cs) && cond (ltb n s.nodes) true v) true) x z
        go next true q =
            option_and_then_some (λ y. cond (ltb n s.nodes) (Some y) (behind y)) (chunk_by (opens_of s bs l) s bs (suc l) f i (spot r) x) z q
            (λ y a b'. more y (chunked i (spot r) x y a) (next y) (ltb n s.nodes) refl b')
        go next false q = last (eqb i 0) refl q
          where
            last : (u : Bool) → eqb i 0 ≡ u → cond u None (Some x) ≡ Some z → Parted i [] true x z
            last true e' q' = absurd (none-some z q')
            last false e' q' =
                let k : x ≡ z = cc in
                subst (Parted i [] true x) k (parted_none i x (eqb-false i 0 e'))

  -- A NODE that opens
  head_of : (ns : List Order) → 0 < length ns → (o : Order) × (rest : List Order) × (ns ≡ o ∷ rest)
  head_of [] h = absurd (omega arith)
  head_of (o ∷ ns) h = (o, ns, refl)

  pub opened : 0 < s.nodes → 0 < s.blocks → (l : ℕ) (o : Order) (x z : Seen) → Weighed s l o → opens_of s bs l o.key x ≡ Some z → Opened l o x z
  unfolding opens_of tally part_sound
  opened b pos zero o x z q e = opened_zero o x z q e
  opened b pos (suc l) o x z q e = go (opened b pos l)
    where
      f : ℕ
      f = o.key

      all : List Order
      all = part_from s bs (suc l) f s.blocks 0

      go : ((o : Order) (x z : Seen) → Weighed s l o → opens_of s bs l o.key x ≡ Some z → Opened l o x z) → Opened (suc l) o x z
      go ih =
          let p = parted l ih f s.blocks 0 x z b (omega arith) e in
          let st : T (suc l) f ≡ all = rw p.sound in
          let w = head_of all (p.some refl) in
          let u : Fitting s (suc l) f true (w.0 ∷ w.1) = subst (λ (r : List Order). Fitting s (suc l) f true r) w.2 (subst (λ (b : Bool). Fitting s (suc l) f b all) (eq-eqb 0 0 refl) p.fitting) in
          record {
            seg = p.seg;
            walk = (w.0, w.1, st ∙ w.2, u.0, u.1, subst (λ (r : List Order). Nodes s T (Walks s T l) r p.seg) w.2 p.nodes);
            step = subst (λ (r : List Order). Step s x p.seg (pieces s.nodes (length r) + under (tally s T l) r) z) (sym st) p.step;
          }

-- ---- EVERY CHUNK OF A PARTITION that was read is found by its number
pub record FoundPiece (s : Sizes) (bs : List ℕ) (l f i : ℕ) (ms : List Order) : Type 0 where
  pub found : found_at (chunk_spot s bs l f i) ≡ true
  pub most : count_in (block_long s) bs (spot (chunk_spot s bs l f i)) ≤ s.nodes
  pub nodes : chunk_read s bs (spot (chunk_spot s bs l f i)) ≡ ms

module _ (s : Sizes) (bs : List ℕ) (l f : ℕ) where
  -- a chunk that is met, by its number
  abbrev met : (i : ℕ) → List Order
  met i = chunk_read s bs (spot (chunk_spot s bs l f i))

  record Met (i : ℕ) : Type 0 where
    pub found : found_at (chunk_spot s bs l f i) ≡ true
    pub most : length (met i) ≤ s.nodes
    pub weights : weigh_all s l (met i) ≡ true

  -- what holds of no chunk, and of a chunk with what comes behind it, which is nothing unless it is full, holds of what was read
  each_met : (P : (i : ℕ) → List Order → Type 0) → ((i : ℕ) → P i []) → ((i : ℕ) (ys : List Order) → Met i → (length (met i) < s.nodes → ys ≡ []) → P (suc i) ys → P i (met i ++ ys))
      → (j i : ℕ) → sound_from s bs l f j i ≡ true → P i (part_from s bs l f j i)
  unfolding sound_from part_from
  each_met P none more zero i e = none i
  each_met P none more (suc j) i e = go (each_met P none more j (suc i)) (found_at (chunk_spot s bs l f i)) refl e
    where
      c : ℕ
      c = count_in (block_long s) bs (spot (chunk_spot s bs l f i))

      ys : List Order
      ys = part_from s bs l f j (suc i)

      behind : (sound_from s bs l f j (suc i) ≡ true → P (suc i) ys) → Met i → (v : Bool) → ltb c s.nodes ≡ v → cond v true (sound_from s bs l f j (suc i)) ≡ true → P i (met i ++ cond v [] ys)
      behind rest m true ev e = more i [] m (λ h. refl) (none (suc i))
      behind rest m false ev e = more i ys m (λ h. absurd (omega (arith, h, read_count s bs (spot (chunk_spot s bs l f i)), ltb-false c s.nodes ev))) (rest e)

      go : (sound_from s bs l f j (suc i) ≡ true → P (suc i) ys) → (t : Bool) → found_at (chunk_spot s bs l f i) ≡ t →
          cond t (((leb 1 c && leb c s.nodes) && weigh_all s l (met i)) && cond (ltb c s.nodes) true (sound_from s bs l f j (suc i))) true ≡ true →
          P i (cond t (met i ++ cond (ltb c s.nodes) [] ys) [])
      go rest true ef e =
          let a = and_parts ((leb 1 c && leb c s.nodes) && weigh_all s l (met i)) (cond (ltb c s.nodes) true (sound_from s bs l f j (suc i))) e in
          let b = and_parts (leb 1 c && leb c s.nodes) (weigh_all s l (met i)) a.0 in
          let most = leb-true c s.nodes (and_parts (leb 1 c) (leb c s.nodes) b.0).1 in
          behind rest (record { found = ef; most = omega (arith, most, read_count s bs (spot (chunk_spot s bs l f i))); weights = b.1 }) (ltb c s.nodes) refl a.1
      go rest false ef e = none i

  abbrev Pieced : (i : ℕ) → List Order → Type 0
  Pieced i ns = (n : ℕ) → n * s.nodes < length ns → FoundPiece s bs l f (i + n) (take s.nodes (drop (n * s.nodes) ns))

  piece_from : (j i : ℕ) → sound_from s bs l f j i ≡ true → Pieced i (part_from s bs l f j i)
  piece_from = each_met Pieced (λ i n h. absurd (omega arith)) (λ i ys m last rest n h. go i ys m last rest n (dec_lt (length (met i)) s.nodes) h)
    where
      first : (i : ℕ) (ns : List Order) → Met i → take s.nodes ns ≡ met i → FoundPiece s bs l f (i + 0) (take s.nodes (drop (0 * s.nodes) ns))
      first i ns m e = rw (add-zero i, zero-mul s.nodes, e) (record { found = m.found; most = omega (arith, m.most, read_count s bs (spot (chunk_spot s bs l f i))); nodes = refl })

      go : (i : ℕ) (ys : List Order) → Met i → (length (met i) < s.nodes → ys ≡ []) → Pieced (suc i) ys → (n : ℕ) → Dec (length (met i) < s.nodes) → n * s.nodes < length (met i ++ ys)
          → FoundPiece s bs l f (i + n) (take s.nodes (drop (n * s.nodes) (met i ++ ys)))
      go i ys m last rest zero (yes q) h = first i (met i ++ ys) m (rw (last q, append-nil (met i)) (take_all s.nodes (met i) m.most))
      go i ys m last rest zero (no q) h = first i (met i ++ ys) m (take_at (met i) ys s.nodes (omega (arith, m.most)))
      go i ys m last rest (suc n) (yes q) h = absurd (omega (arith, suc-mul n s.nodes, simp length-append at h, ap length (last q)))
      go i ys m last rest (suc n) (no q) h =
          let full : length (met i) ≡ s.nodes = omega (arith, m.most) in
          let e : suc n * s.nodes ≡ length (met i) + n * s.nodes = suc-mul n s.nodes ∙ add_comm (n * s.nodes) s.nodes ∙ rw full in
          let k : suc i + n ≡ i + suc n = omega arith in
          rw (e, drop-append-add (met i) ys (n * s.nodes), ← k) (rest n (omega (arith, e, simp length-append at h)))

  pub piece_read : (n : ℕ) → n * s.nodes < length (part_sound s bs l f) → FoundPiece s bs l f n (take s.nodes (drop (n * s.nodes) (part_sound s bs l f)))
  unfolding part_sound
  piece_read n h = go (sound_from s bs l f s.blocks 0) refl h
    where
      all : List Order
      all = part_from s bs l f s.blocks 0

      go : (t : Bool) → sound_from s bs l f s.blocks 0 ≡ t → n * s.nodes < length (cond t all []) → FoundPiece s bs l f n (take s.nodes (drop (n * s.nodes) (cond t all [])))
      go true e h =
          let z : 0 + n ≡ n = omega arith in
          subst (λ (k : ℕ). FoundPiece s bs l f k (take s.nodes (drop (n * s.nodes) all))) z (piece_from s.blocks 0 e n h)
      go false e h = absurd (omega arith)

  -- and it has the price and quantities of its level
  weigh_both : (xs zs : List Order) → weigh_all s l xs ≡ true → weigh_all s l zs ≡ true → weigh_all s l (xs ++ zs) ≡ true
  unfolding weigh_all
  weigh_both [] zs a b = b
  weigh_both (x ∷ xs) zs a b =
      let p = and_parts (weighs s l x) (weigh_all s l xs) a in
      rw p.0 (weigh_both xs zs p.1 b)

  weigh_from : (j i : ℕ) → sound_from s bs l f j i ≡ true → weigh_all s l (part_from s bs l f j i) ≡ true
  unfolding weigh_all
  weigh_from = each_met (λ i ns. weigh_all s l ns ≡ true) (λ i. refl) (λ i ys m last rest. weigh_both (met i) ys m.weights rest)

  pub weigh_read : weigh_all s l (part_sound s bs l f) ≡ true
  unfolding part_sound weigh_all
  weigh_read = go (sound_from s bs l f s.blocks 0) refl
    where
      go : (t : Bool) → sound_from s bs l f s.blocks 0 ≡ t → weigh_all s l (cond t (part_from s bs l f s.blocks 0) []) ≡ true
      go true e = weigh_from s.blocks 0 e
      go false e = refl
