-- SOUND: bytes that pass the check are an image.
use Rattle.std.proofs.Common.{Some}
use mathlib.Core.Path.{◌≡◌, refl, sym, ap, ◌∙◌, subst}
use mathlib.Core.Bool.{true}
use mathlib.Core.List.{List, [], ◌∷◌, map}
use mathlib.Core.Logic.{inl, inr, ◌≢◌}
use Prim.Native.Nat.{ℕ, zero, suc, ◌+◌, ◌*◌, ◌≤◌, ◌<◌}
use native.Mathlib.Omega.{arith}
use borrow.Author.Tests.{ne_eqb}
use lib.ListN.{length, get_or, take, drop, length-map, take-append-drop}
use lib.Seq.{length-take-le}
use Rattle.sizes.specs.Sizes.{row, made}
use Rattle.sizes.specs.Header.{block_long, table_long, header, sizes_in}
use Rattle.placement.specs.Blocks.{Among, Block, empty, holds, Stands, how_many}
use Rattle.placement.specs.Chunks.{Chunk}
use Rattle.sizes.specs.Parts.{block_in}
use Rattle.placement.specs.Decode.{chunk_of, block_of, cut, blocks_in}
use Rattle.placement.specs.Place.{label_in, search_in}
use Rattle.placement.specs.Maps.{Table}
use Rattle.sizes.specs.declared.Sizes.{Sizes}
use Rattle.placement.specs.declared.Order.{Order}
use Rattle.sizes.proofs.Laws.Numbers.{Bytes}
use Rattle.sizes.proofs.Laws.Sizes.{some_blocks, some_nodes}
use Rattle.placement.proofs.Laws.Blocks.{around_inside}
use Rattle.placement.proofs.Laws.Placed.{counted}
use Rattle.placement.proofs.Laws.Labels.{lower_ordering}
use Rattle.placement.proofs.Laws.Maps.{nodes_at}
use Rattle.sizes.proofs.Laws.Headers.{sizes_head}
use Rattle.placement.proofs.Laws.Cells.{cut_length, label_cell}
use Rattle.placement.proofs.Laws.Decoding.{Clean, nodes_count}
use Rattle.placement.proofs.Laws.Tables.{sound_blocks, how_many_most}
use Rattle.placement.proofs.Laws.Searched.{checked_keeps}
use Rattle.skiplist.specs.Lists.{masked, chunks, blocks}
use Rattle.skiplist.specs.Image.{image, fits, is_image}
use Rattle.skiplist.specs.Rules.{Piece, ChunksAre}
use Rattle.skiplist.specs.Promise.{ImageReadsBack, OneArrangement}
use Rattle.skiplist.proofs.Laws.Parts.{part}
use Rattle.skiplist.proofs.Laws.Masks.{map_take, map_drop}
use Rattle.skiplist.proofs.Laws.Faithful.{Filled, chunks_filled}
use Rattle.skiplist.proofs.Laws.Kept.{fits_make}
use Rattle.skiplist.proofs.Laws.Pieces.{chunks_are}
use Rattle.skiplist.proofs.Laws.Rising.{lower_chunk, chunks_rising}
use Rattle.skiplist.proofs.Laws.Opens.{Heading}
use Rattle.skiplist.proofs.Laws.Decode.{blocks_back}
use Rattle.skiplist.proofs.Laws.Arranged.{one_arrangement}
use Rattle.skiplist.proofs.Laws.Readback.{reads_back}
use Rattle.table.specs.Check.{check_passes}
use Rattle.table.proofs.Laws.Counted.{met_all}
use Rattle.table.proofs.Laws.Reading.{part_sound, piece_read}
use Rattle.table.proofs.Laws.Accepted.{Accepted, accepted}
use Rattle.table.proofs.Laws.Masking.{reads_keys, reads_masked, head_of, among_part}
use Rattle.table.proofs.Laws.Standing.{block_at, level_says, Standing, standing}
use Rattle.table.proofs.Laws.Swept.{swept_count, swept_clean, clean_block}
use Rattle.table.proofs.Laws.Header.{header_again}
use Rattle.table.proofs.Laws.Once.{once}

filled_member : (b : ℕ) (c : Chunk) (cs : List Chunk) → Filled b cs → Among c cs → (0 < length c.nodes) × (length c.nodes ≤ b)
filled_member b c [] u h = absurd h
filled_member b c (d ∷ cs) u (inl e) = rw e (u.0, u.1)
filled_member b c (d ∷ cs) u (inr h) = filled_member b c cs u.2 h

-- the piece of a masked partition
piece_masked : (l b n : ℕ) (p : List Order) → take b (drop n (map (masked l) p)) ≡ map (masked l) (take b (drop n p))
piece_masked l b n p = ap (take b) (sym (map_drop (masked l) n p)) ∙ sym (map_take (masked l) b (drop n p))

module _ (bs : List ℕ) (u : Bytes bs) (a : Accepted bs) where
  abbrev s : Sizes
  s = sizes_in bs

  abbrev os : List Order
  os = a.orders

  good : made s ≡ true
  good = a.rule.makes

  some : 0 < s.blocks
  some = some_blocks s good

  long : length bs ≡ 53 + s.blocks * block_long s
  unfolding table_long
  long = a.rule.length_is

  blocks_many : length (blocks_in s bs) ≡ s.blocks
  unfolding blocks_in
  blocks_many = length-map (cut (block_long s) s.blocks (drop 53 bs)) (block_of (row s)) ∙ cut_length (block_long s) s.blocks (drop 53 bs)

  -- AS MANY full blocks as the orders have chunks
  count : how_many (blocks_in s bs) ≡ length (chunks s os)
  count = sym (swept_count s bs a.full a.clean) ∙ a.chunks ∙ met_all s os a.up (part_sound s bs) (reads_keys s (part_sound s bs) os a.walk a.up) (some_nodes s good)

  fit : fits s os ≡ true
  fit = fits_make s os (omega (arith, a.held, a.rule.held)) (omega (arith, count, how_many_most (blocks_in s bs), blocks_many))

  -- EVERY CHUNK of the orders stands where the search for it ends
  found_at_level : (j : ℕ) (c : Chunk) → c.label.level ≡ suc j → Piece s os c → Standing s bs c
  found_at_level j c el w =
      let l = c.label.level in
      let f = c.label.first in
      let e : part s os l f ≡ w.part = ap (part s os l) w.first_is ∙ among_part s os l w.part a.up w.of_level in
      let some_part : 0 < length (part s os l f) = rw e (omega (arith, w.inside)) in
      let h = head_of s os a.up l f some_part in
      let r : part_sound s bs l f ≡ map (masked l) (part s os l f) = reads h.node h.key h.heads in
      let n : length (part_sound s bs l f) ≡ length w.part = ap length r ∙ length-map (part s os l f) (masked l) ∙ ap length e in
      let p = piece_read s bs l f c.label.number (omega (arith, n, w.inside)) in
      let q : take s.nodes (drop (c.label.number * s.nodes) (part_sound s bs l f)) ≡ c.nodes =
      ap (λ (z : List Order). take s.nodes (drop (c.label.number * s.nodes) z)) (r ∙ ap (map (masked l)) e) ∙ piece_masked l s.nodes (c.label.number * s.nodes) w.part ∙ sym w.nodes_are in
      standing s bs some l f c.label.number c.nodes (omega arith) p.found p.most (p.nodes ∙ q)
    where
      reads : (x : Order) → x.key ≡ c.label.first → Heading s os c.label.level x → part_sound s bs c.label.level c.label.first ≡ map (masked c.label.level) (part s os c.label.level c.label.first)
      reads x k h =
          subst (λ (z : ℕ). part_sound s bs c.label.level z ≡ map (masked c.label.level) (part s os c.label.level z)) k
          (subst (λ (l : ℕ). part_sound s bs l x.key ≡ map (masked l) (part s os l x.key)) (sym el)
          (reads_masked s bs os a.walk a.up j x (omega (arith, w.high)) (subst (λ (l : ℕ). Heading s os l x) el h)))

  found_chunk : (c : Chunk) → Among c (chunks s os) → Standing s bs c
  unfolding ChunksAre
  found_chunk c h = go c.label.level refl ((chunks_are s os c good).0 h)
    where
      go : (l : ℕ) → c.label.level ≡ l → Piece s os c → Standing s bs c
      go zero e w = absurd (omega (arith, w.low))
      go (suc j) e w = found_at_level j c e w

  stands : (c : Chunk) → Among c (chunks s os) → Stands s.blocks (blocks_in s bs) c
  stands c h = let t = found_chunk c h in record { at = t.at; is = around_inside s.blocks (blocks_in s bs) t.at t.inside ∙ t.is }

  -- AND NOTHING ELSE does
  only : (i : ℕ) (c : Chunk) → i < s.blocks → get_or (blocks_in s bs) i empty ≡ holds c → Among c (chunks s os)
  only i c h e =
      counted lower_chunk s.blocks some (λ c. lower_ordering.strict c.label) (chunks s os) (blocks_in s bs) blocks_many (chunks_rising s os a.good) stands count c
      (record { at = i; is = around_inside s.blocks (blocks_in s bs) i h ∙ e })

  full_block : (i : ℕ) → i < s.blocks → 0 < get_or (block_in (block_long s) bs i) 0 0 → get_or (blocks_in s bs) i empty ≡ holds (chunk_of (row s) (block_in (block_long s) bs i))
  unfolding block_of
  full_block i h p = block_at s bs i h ∙ rw (ne_eqb (get_or (block_in (block_long s) bs i) 0 0) 0 (λ z. omega (arith, z)))

  clean : (i : ℕ) → i < s.blocks → Clean s (block_in (block_long s) bs i)
  unfolding chunk_of
  clean i h =
      clean_block s bs i long h (swept_clean s bs a.full a.clean i h)
      (λ p.
      let x = block_in (block_long s) bs i in
      let m = filled_member s.nodes (chunk_of (row s) x) (chunks s os) (chunks_filled s os (some_nodes s good)) (only i (chunk_of (row s) x) h (full_block i h p)) in
      let n = nodes_count (row s) (get_or x 1 0) (drop 8 x) in
      (omega (arith, n, m.0), omega (arith, n, m.1)))

  label_is : (i : ℕ) → label_in (block_long s) bs i ≡ (chunk_of (row s) (block_in (block_long s) bs i)).label
  unfolding chunk_of block_long
  label_is i = label_cell (8 + row s * s.nodes) bs i (omega arith)

  found : (i : ℕ) → i < s.blocks → (label_in (block_long s) bs i).level ≢ 0 → search_in s bs (label_in (block_long s) bs i) ≡ Some i
  found i h ne =
      let c = chunk_of (row s) (block_in (block_long s) bs i) in
      let e = full_block i h (omega (arith, level_says s bs i, ne)) in
      let t = found_chunk c (only i c h e) in
      let k : t.at ≡ i = once s.blocks some (chunks s os) (blocks_in s bs) blocks_many (chunks_rising s os a.good) stands count c t.at i t.inside h
      (around_inside s.blocks (blocks_in s bs) t.at t.inside ∙ t.is) (around_inside s.blocks (blocks_in s bs) i h ∙ e) in
      ap (search_in s bs) (label_is i) ∙ t.search ∙ ap Some k

  head : length (take 53 bs) ≡ 53
  head = length-take-le 53 bs a.rule.long

  table : Table s (nodes_at (blocks_in s bs)) (how_many (blocks_in s bs)) (take 53 bs) bs
  table = checked_keeps s good bs long (sym (sizes_head (take 53 bs) (drop 53 bs) head) ∙ ap sizes_in (take-append-drop 53 bs)) u clean found

  back : blocks_in s bs ≡ table.blocks
  back = ap (blocks_in s) table.is ∙ blocks_back s (take 53 bs) table.blocks head table.keeps.long (sound_blocks s (nodes_at (blocks_in s bs)) (how_many (blocks_in s bs)) table.blocks table.sound table.keeps)

  arranged : table.blocks ≡ blocks s os
  unfolding OneArrangement
  arranged =
      one_arrangement s os table.blocks good a.good fit table.keeps.long table.keeps.rule_3
      (λ c h. subst (λ (z : List (Block Chunk)). Stands s.blocks z c) back (stands c h)) (table.keeps.count ∙ count)

  -- THE BYTES are the image of the orders that were read
  pub bytes_are : image s os ≡ bs
  unfolding image
  bytes_are =
      let h : header s (length os) ≡ take 53 bs = ap (header s) a.held ∙ header_again bs u a.rule in
      sym (table.is ∙ rw (h, arranged))

  pub accepted_image : is_image bs ≡ true
  unfolding ImageReadsBack
  accepted_image = subst (λ (z : List ℕ). is_image z ≡ true) bytes_are (reads_back s os good a.good fit).0

-- SOUND
pub check_sound : (bs : List ℕ) → Bytes bs → check_passes bs ≡ true → is_image bs ≡ true
check_sound bs u e = accepted_image bs u (accepted bs u e)
