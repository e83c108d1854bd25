-- COMPLETE: an image passes the check.
use Rattle.std.proofs.Common.{Option, Some, None, Ok}
use mathlib.Core.Path.{◌≡◌, refl, ap, ◌∙◌, subst}
use mathlib.Core.Bool.{true, false, ◌&&◌}
use mathlib.Core.List.{List, [], ◌∷◌, ◌++◌, map}
use mathlib.Core.Logic.{◌≢◌}
use Prim.Native.Nat.{ℕ, suc, ◌+◌, ◌*◌, ◌-◌, ◌≤◌, ◌<◌}
use native.Mathlib.Omega.{arith}
use borrow.Author.Tests.{ne_eqb, ltb-true, leb-true}
use lib.Dec.{leb}
use lib.ListN.{length, get_or, take, drop, replicate, get_or-replicate}
use lib.Seq.{drop_at}
use Rattle.sizes.specs.Numbers.{big, field}
use Rattle.sizes.specs.Sizes.{prime, beta, row, made}
use Rattle.sizes.specs.Header.{block_long, header, held_in}
use Rattle.placement.specs.Blocks.{Block, empty, holds, how_many}
use Rattle.placement.specs.Chunks.{Chunk, nodes_bytes, block_bytes}
use Rattle.sizes.specs.Parts.{block_in}
use Rattle.placement.specs.Decode.{nodes_from}
use Rattle.placement.specs.Place.{search_in, found_at}
use Rattle.placement.specs.Maps.{Map, Keeps, Fines, labelled, map_of, Table, Finds, is_at, is_none}
use Rattle.sizes.specs.declared.Sizes.{Sizes}
use Rattle.placement.specs.declared.Order.{Order}
use Rattle.placement.specs.declared.Label.{Label}
use Rattle.sizes.proofs.Laws.Numbers.{field_big}
use Rattle.sizes.proofs.Laws.Sizes.{and_parts, some_blocks, some_nodes, limits}
use Rattle.placement.proofs.Laws.Reading.{count_read, nodes_read}
use Rattle.placement.proofs.Laws.Blocks.{around_inside}
use Rattle.sizes.proofs.Laws.Headers.{header_long}
use Rattle.placement.proofs.Laws.Cells.{length_zero}
use Rattle.placement.proofs.Laws.Bridge.{Good, free, held, AllGood, good_at, length_nodes}
use Rattle.placement.proofs.Laws.Edits.{block_bytes_at}
use Rattle.placement.proofs.Laws.Decoding.{Clean, zeros, filled}
use Rattle.placement.proofs.Laws.Tables.{sound_blocks, find_told, shaped}
use Rattle.skiplist.specs.Lists.{front, masked, chunks, blocks}
use Rattle.skiplist.specs.Image.{image, price_good, quantities_good, orders_good, fits}
use Rattle.skiplist.specs.Promise.{ImageReadsBack}
use Rattle.skiplist.proofs.Laws.Parts.{good_parts, good_up, part}
use Rattle.skiplist.proofs.Laws.Faithful.{map_is}
use Rattle.skiplist.proofs.Laws.Kept.{fits_parts}
use Rattle.skiplist.proofs.Laws.Opens.{walks_all}
use Rattle.skiplist.proofs.Laws.Sound.{chunks_sound}
use Rattle.skiplist.proofs.Laws.Image.{blocks_keep, image_keeps}
use Rattle.skiplist.proofs.Laws.Decode.{blocks_back}
use Rattle.skiplist.proofs.Laws.Readback.{image_rule_1, reads_back}
use Rattle.table.specs.declared.Seen.{Seen}
use Rattle.table.specs.Walk.{nothing_in, quantities_ok, price_ok, spot, chunk_spot, count_in}
use Rattle.table.specs.Check.{swept, walked, ended, check_passes}
use Rattle.table.proofs.Laws.Came.{weighs, Weighs, Rising, Step, chunk_read}
use Rattle.table.proofs.Laws.Counted.{tally, tally_all}
use Rattle.table.proofs.Laws.Swept.{swept_count, block_cleaned, cleaned}
use Rattle.table.proofs.Laws.Walked.{FindsChunk, opens_is}

-- ---- WHAT A SEARCH FINDS in an image

-- the block at i has the nodes ns under a label: the walk reads them
block_reads : (s : Sizes) (bs : List ℕ) (i : ℕ) (w : Label) (ns : List Order) → block_in (block_long s) bs i ≡ block_bytes s (holds (labelled w ns)) → Fines (row s) ns → chunk_read s bs i ≡ ns
unfolding chunk_read count_in
block_reads s bs i w ns e fine = ap (λ (k : ℕ). nodes_from (row s) k (drop (53 + i * block_long s + 8) bs)) (count_read s bs i w ns e) ∙ nodes_read s bs i w ns e fine

module _ (s : Sizes) (F : Map) (n : ℕ) (hd bs : List ℕ) (t : Table s F n hd bs) where
  pub table_finds : (l f i : ℕ) → 0 < l → FindsChunk s bs l f i (F l f i)
  unfolding chunk_spot found_at spot
  table_finds l f i h = record { there = λ p. there (search_in s bs w) (find_told s F n hd bs t w h) p; gone = λ p. gone (search_in s bs w) (find_told s F n hd bs t w h) p }
    where
      w : Label
      w = record { level = l; first = f; number = i }

      there : (r : Option ℕ) → Finds s F w bs r → 0 < length (F l f i) → (found_at r ≡ true) × (chunk_read s bs (spot r) ≡ F l f i)
      there (Some k) (is_at g full e) p =
          (refl, block_reads s bs k w (F l f i) e (t.sound l f i full).fine)
      there None (is_none z) p = absurd (omega (arith, ap length z))

      gone : (r : Option ℕ) → Finds s F w bs r → length (F l f i) ≡ 0 → found_at r ≡ false
      gone (Some k) (is_at g full e) p = absurd (full (length_zero (F l f i) p))
      gone None z p = refl

-- ---- THE WALK over an image

good_weighs : (s : Sizes) (o : Order) → 1 ≤ o.key → quantities_good s o.total o.displayed o.price ≡ true → Weighs s o
unfolding quantities_good weighs price_ok quantities_ok
good_weighs s o h e =
    let v = and_parts ((leb 1 o.total && leb o.total 4294967295) && leb o.displayed o.total) (price_good s o.price && leb o.price 4294967295) e in
    let p = and_parts (leb 1 o.total && leb o.total 4294967295) (leb o.displayed o.total) v.0 in
    let q = and_parts (leb 1 o.total) (leb o.total 4294967295) p.0 in
    let r = and_parts (price_good s o.price) (leb o.price 4294967295) v.1 in
    (rw (ne_eqb o.key 0 (λ z. omega (arith, z)), r.0, q.0, p.1), omega (arith, leb-true o.total 4294967295 q.1), omega (arith, leb-true o.price 4294967295 r.1))

good_rising : (s : Sizes) (a : ℕ) (os : List Order) → 1 ≤ a → orders_good s a os ≡ true → (b : ℕ) × Rising s a os b
good_rising s a [] h e = (a, refl)
good_rising s a (o ∷ os) h e =
    let w = good_parts s a o os e in
    let r = good_rising s (suc o.key) os (omega arith) w.others in
    (r.0, (w.from, ltb-true o.key prime w.key, good_weighs s o (omega (arith, w.from)) w.quantity, r.1))

front_weighs : (s : Sizes) → Weighs s front
unfolding front weighs price_ok quantities_ok nothing_in
front_weighs s = (refl, omega arith, omega arith)

module _ (s : Sizes) (os : List Order) (m : made s ≡ true) (g : orders_good s 1 os ≡ true) (f : fits s os ≡ true) where
  finds : (l f i : ℕ) → 0 < l → l ≤ beta s → FindsChunk s (image s os) l f i (map (masked l) (take s.nodes (drop (i * s.nodes) (part s os l f))))
  finds l k i h top =
      subst (FindsChunk s (image s os) l k i) (map_is s l k i os (some_nodes s m) (good_up s 1 os g) h top)
      (table_finds s (map_of (chunks s os)) (length (chunks s os)) (header s (length os)) (image s os) (image_keeps s os m g f) l k i h)

  pub walk_ends : ended (walked s (image s os) (length os) (length (chunks s os))) ≡ true
  unfolding ended walked front
  walk_ends =
      let u = good_up s 1 os g in
      let r = good_rising s 1 os (omega arith) g in
      let st : Seen = record { low = 0; orders = length os + 1; chunks = length (chunks s os) } in
      let z : Seen = record { low = r.0; orders = 0; chunks = 0 } in
      let c = tally_all s os u (some_nodes s m) in
      let p : Step s st (front ∷ os) (tally s (part s os) (beta s) 0) z =
      record { rising = (omega arith, omega arith, front_weighs s, r.1); orders = omega arith; chunks = omega (arith, c) } in
      ap ended (opens_is s (image s os) (part s os) (some_nodes s m) finds (beta s) (omega arith) front (front ∷ os) (walks_all s os u) st z (fits_parts s os f).room p)

-- ---- THE PASS over an image

head_long : (s : Sizes) (c : Chunk) → length ((c.label.level ∷ length c.nodes ∷ []) ++ big 2 c.label.number ++ big 4 c.label.first ++ nodes_bytes (row s) c.nodes) ≡ 8 + row s * length c.nodes
unfolding big
head_long s c = omega (arith, length_nodes s c.nodes)

bytes_clean : (s : Sizes) (b : Block Chunk) → Good s b → ((c : Chunk) → b ≡ holds c → c.nodes ≢ []) → Clean s (block_bytes s b)
unfolding block_bytes block_long
bytes_clean s empty free full = zeros (get_or-replicate (8 + row s * s.nodes) 0 0 0 (omega arith)) refl
bytes_clean s (holds c) (held k) full =
    filled k.level (some_length c.nodes (full c refl)) k.nodes
    (drop_at ((c.label.level ∷ length c.nodes ∷ []) ++ big 2 c.label.number ++ big 4 c.label.first ++ nodes_bytes (row s) c.nodes) (replicate (row s * (s.nodes - length c.nodes)) 0) (8 + row s * length c.nodes) (head_long s c))
  where
    some_length : (ns : List Order) → ns ≢ [] → 0 < length ns
    some_length [] h = absurd (h refl)
    some_length (n ∷ ns) h = omega arith

module _ (s : Sizes) (os : List Order) (m : made s ≡ true) (g : orders_good s 1 os ≡ true) (f : fits s os ≡ true) where
  keeps : Keeps s (blocks s os) (map_of (chunks s os)) (length (chunks s os))
  keeps = blocks_keep s os m g f

  all : AllGood s (blocks s os)
  all = sound_blocks s (map_of (chunks s os)) (length (chunks s os)) (blocks s os) (chunks_sound s os m g f) keeps

  head : length (header s (length os)) ≡ 53
  head = header_long s (length os) (limits s m).ten

  image_clean : (i : ℕ) → i < s.blocks → Clean s (block_in (block_long s) (image s os) i)
  unfolding image
  image_clean i h =
      rw (block_bytes_at s (some_blocks s m) (header s (length os)) head (blocks s os) all keeps.long i h)
      (bytes_clean s (get_or (blocks s os) i empty) (good_at s all i) (λ c e. keeps.map.full c (record { at = i; is = around_inside s.blocks (blocks s os) i h ∙ e })))

  swept_image : swept s (image s os) ≡ Ok (length (chunks s os))
  unfolding image
  swept_image =
      let l = (shaped s (map_of (chunks s os)) (length (chunks s os)) (header s (length os)) (image s os) (image_keeps s os m g f)).long in
      let c = cleaned s (image s os) (λ i h. block_cleaned s (image s os) i l h (image_clean i h)) in
      c.1 ∙ ap Ok (swept_count s (image s os) c.0 c.1 ∙ ap how_many (blocks_back s (header s (length os)) (blocks s os) head keeps.long all) ∙ keeps.count)

  held_back : held_in (image s os) ≡ length os
  unfolding held_in image header big field
  held_back = field_big 2 (length os) [] (omega (arith, (fits_parts s os f).few, (limits s m).orders_most))

  -- COMPLETE
  pub check_complete : check_passes (image s os) ≡ true
  unfolding check_passes ImageReadsBack
  check_complete =
      let e = (reads_back s os m g f).2 in
      rw (image_rule_1 s os m g f, e, held_back, swept_image) (walk_ends s os m g f)
