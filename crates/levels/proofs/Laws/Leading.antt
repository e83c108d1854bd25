-- The way down in a table: the blocks that come on it, and the node where it ends.
use Rattle.std.proofs.Common.{Option, Some, None}
use Rattle.std.specs.Option.{IsSomeAnd}
use mathlib.Core.Path.{◌≡◌, refl, sym, ap, ◌∙◌, subst}
use mathlib.Core.Bool.{Bool, true, false, cond}
use mathlib.Core.List.{List, [], ◌∷◌, ◌++◌, map}
use Prim.Native.Nat.{ℕ, zero, suc, ◌+◌, ◌*◌, ◌-◌, ◌/◌, ◌%◌, ◌≤◌, ◌<◌}
use native.Mathlib.Decide.{dec_lt}
use native.Mathlib.Nat.{add-zero, zero-mul, suc-mul, add_comm, div-eq_of_lt, mod-eq_of_lt, mul-add-div_right, mul-add-mod_self_right}
use native.Mathlib.Omega.{arith}
use borrow.Author.Tests.{ltb-true, leb-true, ne_eqb, le-ltb, lt-ltb}
use lib.Dec.{ltb, leb}
use lib.ListN.{length, get_or, take, drop, length-append, length-take, length-drop, take-append-drop, get_or-append}
use lib.Seq.{drop-append-le, drop-drop}
use Rattle.sizes.specs.Numbers.{field, rows_in}
use Rattle.sizes.specs.Sizes.{row}
use Rattle.sizes.specs.Header.{block_long}
use Rattle.placement.specs.Blocks.{Block}
use Rattle.placement.specs.Chunks.{Chunk}
use Rattle.placement.specs.Decode.{node_of, nodes_from}
use Rattle.placement.specs.Labels.{label}
use Rattle.placement.specs.Place.{search_in}
use Rattle.placement.specs.Maps.{Map, Table}
use Rattle.sizes.specs.declared.Sizes.{Sizes}
use Rattle.placement.specs.declared.Order.{Order}
use Rattle.sizes.proofs.Laws.Sizes.{some_nodes}
use Rattle.placement.proofs.Laws.Cells.{cond_valid}
use Rattle.placement.proofs.Laws.Reading.{node_at, key_of, nodes_read, node_read}
use Rattle.skiplist.specs.Paths.{labels_from, stands_in}
use Rattle.skiplist.proofs.Laws.Parts.{Up, below, up_front, and_left, and_right}
use Rattle.skiplist.proofs.Laws.Count.{pieces}
use Rattle.skiplist.proofs.Laws.Descent.{last_from}
use Rattle.skiplist.proofs.Laws.Paths.{found_stands}
use Rattle.levels.specs.declared.Trail.{Trail}
use Rattle.levels.specs.Edit.{Pieces}
use Rattle.levels.specs.Ways.{Trek, trek, upto_in, passed_in, reached_in, found_upto, found_block, node_place, trod, chunks_in}
use Rattle.levels.proofs.Laws.Numbers.{numbers_in}
use Rattle.levels.proofs.Laws.Takes.{Stood, none_found, some_found, counted}
use Rattle.levels.proofs.Laws.Chunking.{pieces_none, pieces_full, drop_past}

-- A NODE stands in bytes
abbrev pub NodeAt : Sizes → List ℕ → (at : ℕ) → Order → Type 0
NodeAt s bs a o = node_of (row s) bs a ≡ o

-- the last of some nodes, z where there is none
unfoldable pub last_of : (z : Order) → List Order → Order
last_of z [] = z
last_of z (o ∷ os) = last_of o os

pub last_append : (z : Order) (xs ys : List Order) → last_of z (xs ++ ys) ≡ last_of (last_of z xs) ys
unfolding last_of
last_append z [] ys = refl
last_append z (x ∷ xs) ys = last_append x xs ys

pub last_key : (z : Order) (xs : List Order) → (last_of z xs).key ≡ last_from z.key xs
unfolding last_of last_from
last_key z [] = refl
last_key z (x ∷ xs) = last_key x xs

last_at : (z : Order) (xs : List Order) → 0 < length xs → last_of z xs ≡ node_at xs (length xs - 1)
unfolding last_of
last_at z [] h = absurd (omega arith)
last_at z (x ∷ []) h = refl
last_at z (x ∷ y ∷ xs) h =
    let e : length (x ∷ y ∷ xs) - 1 ≡ suc (length (y ∷ xs) - 1) = omega arith in
    last_at x (y ∷ xs) (omega arith) ∙ ap (λ (i : ℕ). node_at (x ∷ y ∷ xs) i) (sym e)

-- so many nodes below a key, and the others
below_cut : (k m : ℕ) (ps : List Order) → below k ps ≡ true → (below k (take m ps) ≡ true) × (below k (drop m ps) ≡ true)
unfolding below
below_cut k zero ps e = (refl, e)
below_cut k (suc m) [] e = (refl, refl)
below_cut k (suc m) (p ∷ ps) e =
    let r = below_cut k m ps (and_right (ltb p.key k) (below k ps) e) in
    (rw (and_left (ltb p.key k) (below k ps) e) r.0, r.1)

take_both : (m : ℕ) (ps qs : List Order) → take m (ps ++ qs) ≡ take m ps ++ take (m - length ps) qs
take_both zero ps qs = let z : 0 - length ps ≡ 0 = omega arith in rw z
take_both (suc m) [] qs = let z : suc m - 0 ≡ suc m = omega arith in ap (λ (i : ℕ). take i qs) (sym z)
take_both (suc m) (p ∷ ps) qs =
    let z : suc m - length (p ∷ ps) ≡ m - length ps = omega arith in
    ap (λ (l : List Order). p ∷ l) (take_both m ps qs) ∙ ap (λ (i : ℕ). p ∷ (take m ps ++ take i qs)) (sym z)

-- as many nodes as their keys in the bytes tell
upto_read : (w : ℕ) (bs : List ℕ) (y : ℕ) (ps qs : List Order) (a : ℕ) → below (suc y) ps ≡ true → Up (suc y) qs →
    nodes_from w (length (ps ++ qs)) (drop a bs) ≡ ps ++ qs → upto_in w bs (length (ps ++ qs)) a y ≡ length ps
unfolding upto_in below node_of rows_in
upto_read w bs y [] [] a e u h = refl
upto_read w bs y [] (q ∷ qs) a e u h = rw (lt-ltb y (field a 4 bs) (omega (arith, key_of w bs a, ap (λ (l : List Order). (node_at l 0).key) h, u.0)))
upto_read w bs y (p ∷ ps) qs a e u h =
    let low = ltb-true p.key (suc y) (and_left (ltb p.key (suc y)) (below (suc y) ps) e) in
    rw (le-ltb y (field a 4 bs) (omega (arith, key_of w bs a, ap (λ (l : List Order). (node_at l 0).key) h, low)))
    (ap suc (upto_read w bs y ps qs (a + w) (and_right (ltb p.key (suc y)) (below (suc y) ps) e) u (rw drop-drop at (ap (drop 1) h))))

-- .. the last being asked first: where it is not above y, none is
up_last : (a : ℕ) (z : Order) (qs : List Order) → a ≤ z.key → Up (suc z.key) qs → a ≤ (last_of z qs).key
unfolding last_of
up_last a z [] h u = h
up_last a z (q ∷ qs) h u = up_last a q qs (omega (arith, u.0)) u.1

last_above : (y : ℕ) (ps qs : List Order) → Up (suc y) qs → (0 < length (ps ++ qs) → (node_at (ps ++ qs) (length (ps ++ qs) - 1)).key ≤ y) → length (ps ++ qs) ≡ length ps
unfolding last_of
last_above y ps [] u l = omega (arith, length-append ps [])
last_above y ps (q ∷ qs) u l =
    let h : 0 < length (ps ++ q ∷ qs) = omega (arith, length-append ps (q ∷ qs)) in
    let e = sym (last_at q (ps ++ q ∷ qs) h) ∙ last_append q ps (q ∷ qs) in
    absurd (omega (arith, ap (λ (o : Order). o.key) e, l h, up_last (suc y) q qs u.0 u.1))

module _ (w : ℕ) (bs : List ℕ) (y : ℕ) (ps qs : List Order) (a : ℕ) (u : Up (suc y) qs) where
  abbrev n : ℕ
  n = length (ps ++ qs)

  passed_read : (0 < n → field (a + w * (n - 1)) 4 bs ≡ (node_at (ps ++ qs) (n - 1)).key) → upto_in w bs n a y ≡ length ps → passed_in w bs n a y ≡ length ps
  unfolding passed_in
  passed_read e h = go (leb (field (a + w * (n - 1)) 4 bs) y) refl
    where
      go : (t : Bool) → leb (field (a + w * (n - 1)) 4 bs) y ≡ t → cond t n (upto_in w bs n a y) ≡ length ps
      go true t = last_above y ps qs u (λ p. omega (arith, e p, leb-true (field (a + w * (n - 1)) 4 bs) y t))
      go false t = h

-- A CHUNK of a table
module _ (s : Sizes) (F : Map) (n : ℕ) (hd bs : List ℕ) (t : Table s F n hd bs) (k f : ℕ) (pos : 0 < k) where
  abbrev sought : (j : ℕ) → Option ℕ
  sought j = search_in s bs (label k f j)

  module _ (j : ℕ) where
    -- how many of its nodes are not above a key
    chunk_upto : (y : ℕ) (ps qs : List Order) → F k f j ≡ ps ++ qs → below (suc y) ps ≡ true → Up (suc y) qs → found_upto s bs y (sought j) ≡ length ps
    unfolding found_upto reached_in
    chunk_upto y ps qs e l u = go (sought j) refl
      where
        last : (b : ℕ) → Stood s F (label k f j) bs b → 0 < length (F k f j)
            → node_of (row s) bs (53 + b * block_long s + 8 + row s * (length (F k f j) - 1)) ≡ node_at (F k f j) (length (F k f j) - 1)
        last b v p = node_read s bs b (label k f j) (F k f j) v.is v.held.fine (length (F k f j) - 1) (omega arith)

        go : (r : Option ℕ) → r ≡ sought j → found_upto s bs y r ≡ length ps
        go None er = omega (arith, ap length (sym e ∙ none_found s F n hd bs t (label k f j) pos None er refl), length-append ps qs)
        go (Some b) er =
            let v = some_found s F n hd bs t (label k f j) pos (Some b) er b refl in
            let c : get_or bs (53 + b * block_long s + 1) 0 ≡ length (ps ++ qs) = counted s F n hd bs t (label k f j) pos (Some b) er b refl _ refl ∙ ap length e in
            let front = upto_read (row s) bs y ps qs (53 + b * block_long s + 8) l u (rw e at (nodes_read s bs b (label k f j) (F k f j) v.is v.held.fine)) in
            rw (c, le-ltb s.nodes (length (ps ++ qs)) (omega (arith, v.held.nodes, ap length e)))
            (cond_valid (λ (z : ℕ). z ≡ length ps) (ltb (length (ps ++ qs)) s.nodes) front
            (passed_read (row s) bs y ps qs (53 + b * block_long s + 8) u
            (λ p. sym (key_of (row s) bs _) ∙ ap (λ (o : Order). o.key) (rw e at (last b v (rw e p)))) front))

    module _ (full : 0 < length (F k f j)) where
      there : (b : ℕ) × (sought j ≡ Some b)
      there = go (sought j) refl
        where
          go : (r : Option ℕ) → r ≡ sought j → (b : ℕ) × (sought j ≡ Some b)
          go None er = absurd (omega (arith, ap length (none_found s F n hd bs t (label k f j) pos None er refl)))
          go (Some b) er = (b, sym er)

      chunk_found : sought j ≡ Some (found_block (sought j))
      unfolding found_block
      chunk_found = there.1 ∙ ap (λ (r : Option ℕ). Some (found_block r)) (sym there.1)

      -- its block
      chunk_block : found_block (sought j) ≡ stands_in t.blocks (label k f j)
      unfolding found_block
      chunk_block = rw there.1 (sym (found_stands s F n hd bs t (label k f j) there.0 pos there.1))

      -- its nodes, counted from 1
      chunk_node : (i : ℕ) → 0 < i → i ≤ length (F k f j) → NodeAt s bs (node_place s (found_block (sought j)) i) (node_at (F k f j) (i - 1))
      unfolding found_block node_place
      chunk_node i h g =
          let b = there.0 in
          let v = some_found s F n hd bs t (label k f j) pos (sought j) refl b there.1 in
          let z : 53 + b * block_long s + (8 + row s * (i - 1)) ≡ 53 + b * block_long s + 8 + row s * (i - 1) = omega arith in
          rw there.1 (ap (node_of (row s) bs) z ∙ node_read s bs b (label k f j) (F k f j) v.is v.held.fine (i - 1) (omega arith))

-- WHERE THE WAY ENDS: at a node, whose key it has
abbrev pub Ends : Sizes → List ℕ → Trail → Order → Type 0
Ends s bs x z = (x.first ≡ z.key) × IsSomeAnd x.at (λ a. NodeAt s bs a z)

-- WHERE NODE m of partition f of level k stands, counted from 0: in the block of its chunk
pub record Seated (s : Sizes) (bs : List ℕ) (k f m a : ℕ) : Type 0 where
  pub block : ℕ
  pub found : search_in s bs (label k f (m / s.nodes)) ≡ Some block
  pub is : a ≡ 53 + block * block_long s + (8 + row s * (m % s.nodes))

-- .. as node n of chunk j, counted from 1
seated : (s : Sizes) (bs : List ℕ) (k f j b n m : ℕ) → search_in s bs (label k f j) ≡ Some b → 0 < n → n ≤ s.nodes → m + 1 ≡ j * s.nodes + n → Seated s bs k f m (node_place s b n)
unfolding node_place
seated s bs k f j b n m h lo hi e =
    let less : n - 1 < s.nodes = omega arith in
    let is : m ≡ j * s.nodes + (n - 1) = omega arith in
    let q : m / s.nodes ≡ j = rw (is, mul-add-div_right {m = s.nodes} (omega arith) j (n - 1), div-eq_of_lt less) (omega arith) in
    let r : m % s.nodes ≡ n - 1 = rw (is, mul-add-mod_self_right j s.nodes (n - 1)) (mod-eq_of_lt less) in
    record { block = b; found = rw q h; is = rw r }

-- where it has come, from x and an output o on, through chunks j, j + 1, .. that begin with the nodes ps, if these are all that are not above the key
pub record Landed (s : Sizes) (bs : List ℕ) (bl : List (Block Chunk)) (k f : ℕ) (r : Trek) (j : ℕ) (ps : List Order) (x : Trail) (o : List ℕ) : Type 0 where
  pub trail : Trail
  pub is : r ≡ trek trail (numbers_in o x.count (map (stands_in bl) (labels_from (pieces s.nodes (length ps)) k f j)))
  pub count : trail.count ≡ x.count + pieces s.nodes (length ps)
  pub ends : (z : Order) → (length ps ≡ 0 → Ends s bs x z) → Ends s bs trail (last_of z ps)
  pub seat : (m : ℕ) → (length ps ≡ 0 → IsSomeAnd x.at (Seated s bs k f m)) → (0 < length ps → m + 1 ≡ j * s.nodes + length ps) → IsSomeAnd trail.at (Seated s bs k f m)

module _ (s : Sizes) (bs : List ℕ) (bl : List (Block Chunk)) (k f : ℕ) where
  landed_none : (j : ℕ) (x : Trail) (o : List ℕ) → Landed s bs bl k f (trek x o) j [] x o
  unfolding numbers_in labels_from last_of
  landed_none j x o = record { trail = x; is = rw (pieces_none s.nodes); count = omega (arith, pieces_none s.nodes); ends = λ z h. h refl; seat = λ m h g. h refl }

  -- one chunk more, in block i
  landed_more : (r : Trek) (j : ℕ) (own rest : List Order) (x : Trail) (o : List ℕ) (i : ℕ) → i ≡ stands_in bl (label k f j) → search_in s bs (label k f j) ≡ Some i → 0 < length own →
      length own ≤ s.nodes → (0 < length rest → length own ≡ s.nodes) →
      pieces s.nodes (length (own ++ rest)) ≡ suc (pieces s.nodes (length rest)) → NodeAt s bs (node_place s i (length own)) (node_at own (length own - 1)) →
      Landed s bs bl k f r (suc j) rest (trod s bs i (length own) (trek x o)).trail (trod s bs i (length own) (trek x o)).path → Landed s bs bl k f r j (own ++ rest) x o
  unfolding numbers_in labels_from trod
  landed_more r j own rest x o i ei found some few full e h w = record {
    trail = w.trail;
    is = w.is ∙ rw (e, ← ei);
    count = omega (arith, w.count, e);
    ends = λ z q. rw (last_append z own rest, last_at z own some) (w.ends (node_at own (length own - 1)) (λ g. (sym (key_of (row s) bs (node_place s i (length own))) ∙ ap (λ (q : Order). q.key) h, h)));
    seat = λ m z g.
        w.seat m
        (λ q. seated s bs k f j i (length own) m found some few (omega (arith, g (omega (arith, length-append own rest)), length-append own rest)))
        (λ q. omega (arith, g (omega (arith, length-append own rest)), length-append own rest, suc-mul j s.nodes, full q));
  }

-- the first of some pieces, and the others
module _ (F : Map) (b k f j : ℕ) (ns : List Order) (p : Pieces F b k f j ns) where
  piece_first : F k f j ≡ take b ns
  unfolding Pieces
  piece_first = rw (add-zero, zero-mul) at (p 0)

  pieces_later : Pieces F b k f (suc j) (drop b ns)
  unfolding Pieces
  pieces_later i =
      let e : suc j + i ≡ j + suc i = omega arith in
      rw e (p (suc i) ∙ ap (take b) (sym (drop-drop (i * b) b ns ∙ ap (λ (z : ℕ). drop z ns) (add_comm b (i * b) ∙ sym (suc-mul i b)))))

-- THE CHUNKS of a partition, of which ps are the nodes not above y
module _ (s : Sizes) (F : Map) (n : ℕ) (hd bs : List ℕ) (t : Table s F n hd bs) (k f y : ℕ) (pos : 0 < k) where
  some : 0 < s.nodes
  some = some_nodes s t.good

  -- the first chunk of some, where the first node is not above y
  module _ (j : ℕ) (ps qs : List Order) (p : Pieces F s.nodes k f j (ps ++ qs)) (l : below (suc y) ps ≡ true) (u : Up (suc y) qs) (long : 0 < length ps) (x : Trail) (o : List ℕ) where
    abbrev own : List Order
    own = take s.nodes ps

    abbrev rest : List Order
    rest = drop s.nodes ps

    abbrev high : List Order
    high = take (s.nodes - length ps) qs

    abbrev block : ℕ
    block = found_block (search_in s bs (label k f j))

    abbrev trodden : Trek
    trodden = trod s bs block (length own) (trek x o)

    is : F k f j ≡ own ++ high
    is = piece_first F s.nodes k f j (ps ++ qs) p ∙ take_both s.nodes ps qs

    own_some : 0 < length own
    own_some = rw length-take (omega (arith, some))

    many : length own ≤ length (F k f j)
    many = omega (arith, ap length is, length-append own high)

    reach : found_upto s bs y (search_in s bs (label k f j)) ≡ length own
    reach =
        chunk_upto s F n hd bs t k f pos j y own high is (below_cut (suc y) s.nodes ps l).0
        (up_front high (drop (s.nodes - length ps) qs) (suc y) (rw take-append-drop u))

    node : NodeAt s bs (node_place s block (length own)) (node_at own (length own - 1))
    node =
        subst (NodeAt s bs (node_place s block (length own)))
        (ap (λ (z : List Order). node_at z (length own - 1)) is ∙ get_or-append own high _ (length own - 1) (omega (arith, own_some)))
        (chunk_node s F n hd bs t k f pos j (omega (arith, many, own_some)) (length own) own_some many)

    one_more : (r : Trek) → Landed s bs t.blocks k f r (suc j) rest trodden.trail trodden.path → Landed s bs t.blocks k f r j ps x o
    one_more r w =
        subst (λ (z : List Order). Landed s bs t.blocks k f r j z x o) (take-append-drop s.nodes ps)
        (landed_more s bs t.blocks k f r j own rest x o block (chunk_block s F n hd bs t k f pos j (omega (arith, many, own_some)))
        (chunk_found s F n hd bs t k f pos j (omega (arith, many, own_some))) own_some (rw length-take (omega arith)) (λ g. rw length-take (omega (arith, length-drop s.nodes ps)))
        (rw (take-append-drop, length-drop) (pieces_full s.nodes (length ps) some long)) node w)

    pub chunk_last : (m : ℕ) → length ps < s.nodes → Landed s bs t.blocks k f (chunks_in s bs k f y (suc m) j (trek x o)) j ps x o
    unfolding chunks_in trod
    chunk_last m h =
        one_more _
        (rw (reach, ne_eqb (length own) 0 (omega (arith, own_some)), lt-ltb (length own) s.nodes (rw length-take (omega arith)), drop_past s.nodes ps (omega arith))
        (landed_none s bs t.blocks k f (suc j) trodden.trail trodden.path))

    pub chunk_full : (m : ℕ) → s.nodes ≤ length ps → Landed s bs t.blocks k f (chunks_in s bs k f y m (suc j) trodden) (suc j) rest trodden.trail trodden.path →
        Landed s bs t.blocks k f (chunks_in s bs k f y (suc m) j (trek x o)) j ps x o
    unfolding chunks_in
    chunk_full m h w =
        one_more _ (rw (reach, ne_eqb (length own) 0 (omega (arith, own_some)), le-ltb (length own) s.nodes (rw length-take (omega arith))) w)

  pub told : (m j : ℕ) (ps qs : List Order) → Pieces F s.nodes k f j (ps ++ qs) → below (suc y) ps ≡ true → Up (suc y) qs → pieces s.nodes (length ps) ≤ m →
      (x : Trail) (o : List ℕ) → Landed s bs t.blocks k f (chunks_in s bs k f y m j (trek x o)) j ps x o
  unfolding chunks_in
  told zero j [] qs p l u h x o = landed_none s bs t.blocks k f j x o
  told zero j (q ∷ ps) qs p l u h x o = absurd (omega (arith, pieces_full s.nodes (length (q ∷ ps)) some (omega arith)))
  told (suc m) j [] qs p l u h x o =
      let front : Up (suc y) (take s.nodes qs) = up_front (take s.nodes qs) (drop s.nodes qs) (suc y) (rw take-append-drop u) in
      rw (chunk_upto s F n hd bs t k f pos j y [] (take s.nodes qs) (piece_first F s.nodes k f j qs p) l front) (landed_none s bs t.blocks k f j x o)
  told (suc m) j (q ∷ ps) qs p l u h x o = go (told m (suc j) (drop s.nodes (q ∷ ps)) qs) (dec_lt (length (q ∷ ps)) s.nodes)
    where
      go : (Pieces F s.nodes k f (suc j) (drop s.nodes (q ∷ ps) ++ qs) → below (suc y) (drop s.nodes (q ∷ ps)) ≡ true → Up (suc y) qs →
          pieces s.nodes (length (drop s.nodes (q ∷ ps))) ≤ m → (x : Trail) (o : List ℕ) →
          Landed s bs t.blocks k f (chunks_in s bs k f y m (suc j) (trek x o)) (suc j) (drop s.nodes (q ∷ ps)) x o) →
          Dec (length (q ∷ ps) < s.nodes) → Landed s bs t.blocks k f (chunks_in s bs k f y (suc m) j (trek x o)) j (q ∷ ps) x o
      go ih (yes g) = chunk_last j (q ∷ ps) qs p l u (omega arith) x o m g
      go ih (no g) =
          chunk_full j (q ∷ ps) qs p l u (omega arith) x o m (omega (arith, g))
          (ih (rw (drop-append-le s.nodes (q ∷ ps) qs (omega (arith, g))) at (pieces_later F s.nodes k f j ((q ∷ ps) ++ qs) p))
          (below_cut (suc y) s.nodes (q ∷ ps) l).1 u (rw length-drop (omega (arith, pieces_full s.nodes (length (q ∷ ps)) some (omega arith)))) _ _)
