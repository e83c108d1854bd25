-- WHAT PLACEMENT PROMISES: what search, removal, insertion and change by the code do to the map that the bytes of a table keep.
use Rattle.std.proofs.Common.{◌≡◌, ℕ, suc, ◌+◌, ◌-◌, ◌<◌, ◌≤◌, true, false, ◌≢◌, List, [], ◌∷◌, ◌++◌, length, get_or, set, sym, refl, ap, ◌∙◌, subst, true≢false, mod-eq_of_lt, arith, length-append, Option, Some, None}
use native.Mathlib.Decide.{dec_lt}
use lib.ListN.{get_or-eq_default}
use lib.Seq.{sets, length-sets}
use Rattle.placement.specs.Blocks.{Block, empty, holds, around, stored, Stands, how_many}
use Rattle.sizes.specs.declared.Sizes.{Sizes}
use Rattle.placement.specs.declared.Order.{Order}
use Rattle.placement.specs.Labels.{label, home}
use Rattle.placement.specs.Chunks.{Chunk, chunk_home, chunk_before, block_bytes, all_bytes, nodes_bytes}
use Rattle.sizes.specs.Numbers.{big}
use Rattle.sizes.specs.Sizes.{row}
use Rattle.sizes.specs.Header.{sizes_in, block_long}
use Rattle.sizes.specs.Parts.{put_block}
use Rattle.placement.specs.Place.{Shaped, label_in, search_in, bytes, pull, found_at, taken_out, free_in, block_with, inserted}
use Rattle.placement.specs.Maps.{Map, chunk, Keeps, Holdable, Sound, labelled, nodes_of, with_nodes, cleared, Table, Finds, is_at, is_none, with_chunk, without_label}
use Rattle.placement.specs.declared.Label.{Label}
use Rattle.placement.proofs.Laws.Labels.{LabelIs, is, isnt, label_is}
use Rattle.sizes.proofs.Laws.Sizes.{some_blocks, limits, row_least, row_most}
use Rattle.placement.proofs.Laws.Blocks.{around_inside}
use Rattle.placement.proofs.Laws.Kinds.{kept_once, put_in, take_out, change}
use Rattle.placement.proofs.Laws.Maps.{lawful}
use Rattle.sizes.proofs.Laws.Headers.{sizes_head, sets_left, count_sizes}
use Rattle.placement.proofs.Laws.Removal.{removed_at}
use Rattle.placement.proofs.Laws.Insertion.{insert_from}
use Rattle.placement.proofs.Laws.Placed.{store_count}
use Rattle.placement.proofs.Laws.Bridge.{Good, free, held, AllGood, good_none, good_more, blocks_long}
use Rattle.placement.proofs.Laws.Finding.{Told, search_told}
use Rattle.placement.proofs.Laws.Edits.{block_bytes_at, block_put, search_blocks, pull_at, insert_at, block_written}
use Rattle.placement.proofs.Laws.Finding
use Rattle.sizes.proofs.Laws.Numbers.{length_big}

-- ---- sound maps

all_good : (s : Sizes) (bl : List (Block Chunk)) → ((i : ℕ) → Good s (get_or bl i empty)) → AllGood s bl
all_good s [] h = good_none
all_good s (b ∷ bl) h = good_more (h 0) (all_good s bl (λ i. h (suc i)))

-- the blocks that keep a sound map are such that bytes can hold
pub sound_blocks : (s : Sizes) (F : Map) (n : ℕ) (bl : List (Block Chunk)) → Sound s F → Keeps s bl F n → AllGood s bl
sound_blocks s F n bl q k = all_good s bl (λ i. go i (get_or bl i empty) refl (dec_lt i s.blocks))
  where
    go : (i : ℕ) (b : Block Chunk) → get_or bl i empty ≡ b → Dec (i < s.blocks) → Good s b
    go i empty z d = free
    go i (holds c) z (no l) = absurd (true≢false (cc (get_or-eq_default bl empty {n = i} (omega (arith, k.long)))))
    go i (holds c) z (yes l) =
        let t : Stands s.blocks bl c = record { at = i; is = around_inside s.blocks bl i l ∙ z } in
        let e = k.map.told c t in
        let h = q c.label.level c.label.first c.label.number (λ u. k.map.full c t (sym e ∙ u)) in
        held {c = c} (record { level = h.level; first = h.first; number = h.number; fine = rw (← e) h.fine; nodes = rw (← e) h.nodes })

pub sound_with : (s : Sizes) (F : Map) (c : Chunk) → Sound s F → Holdable s c → Sound s (with_chunk c F)
unfolding with_chunk
sound_with s F c q h l f i = go (label_is c.label (label l f i))
  where
    go : LabelIs c.label (label l f i) → with_chunk c F l f i ≢ [] → Holdable s (chunk (with_chunk c F) l f i)
    go (is z p) w =
        let n : c.nodes ≡ with_chunk c F l f i = rw z in
        subst (Holdable s) (λ j. record { label = p j; nodes = n j }) h
    go (isnt z n) w = rw z (q l f i (rw z at w))

pub sound_without : (s : Sizes) (F : Map) (c : Chunk) → Sound s F → Sound s (without_label c F)
unfolding without_label
sound_without s F c q l f i = go (label_is c.label (label l f i))
  where
    go : LabelIs c.label (label l f i) → without_label c F l f i ≢ [] → Holdable s (chunk (without_label c F) l f i)
    go (is z p) w = absurd (w (rw z))
    go (isnt z n) w = rw z (q l f i (rw z at w))

stored_inside : {A : Type 0} (m : ℕ) (bl : List (Block A)) (i : ℕ) (b : Block A) → i < m → set bl i b ≡ stored m bl i b
unfolding stored
stored_inside m bl i b h = ap (λ (x : ℕ). set bl x b) (sym (mod-eq_of_lt h))

-- no more blocks hold something than there are
pub how_many_most : (bl : List (Block Chunk)) → how_many bl ≤ length bl
unfolding how_many
how_many_most [] = omega arith
how_many_most (empty ∷ bl) = omega (arith, how_many_most bl)
how_many_most (holds c ∷ bl) = omega (arith, how_many_most bl)

-- ---- the promises

module _ (s : Sizes) (F : Map) (n : ℕ) (hd bs : List ℕ) (t : Table s F n hd bs) where
  some : 0 < s.blocks
  some = some_blocks s t.good

  all : AllGood s t.blocks
  all = sound_blocks s F n t.blocks t.sound t.keeps

  -- SIZES, as the functions read them from the bytes
  pub sizes_read : sizes_in bs ≡ s
  sizes_read = ap sizes_in t.is ∙ sizes_head hd (all_bytes s t.blocks) t.head ∙ t.sizes

  -- SEARCH
  pub find_told : (w : Label) → 0 < w.level → Finds s F w bs (search_in s bs w)
  find_told w pos =
      subst (λ (x : List ℕ). Finds s F w x (search_in s x w)) (sym t.is)
      (rw (search_blocks s some hd t.head t.blocks all t.keeps.long w)
      (go _ (search_told s some F n t.blocks all t.keeps w pos)))
    where
      go : (r : Option ℕ) → Told s F w t.blocks r → Finds s F w (hd ++ all_bytes s t.blocks) r
      go (Some i) (Finding.is_at h e q) =
          is_at h q (block_bytes_at s some hd t.head t.blocks all t.keeps.long i h ∙ ap (block_bytes s) (sym (around_inside s.blocks t.blocks i h) ∙ e))
      go None (Finding.is_none q) = is_none q

  -- HOW MANY blocks are full: no more than there are, and some where a label has nodes
  pub count_most : n ≤ s.blocks
  count_most = omega (arith, how_many_most t.blocks, t.keeps.count, t.keeps.long)

  pub count_some : (w : Label) → nodes_of F w ≢ [] → 0 < n
  count_some w full =
      let z = t.keeps.map.all w full in
      omega (arith, store_count s.blocks t.blocks z.at (holds (labelled w (nodes_of F w))) empty t.keeps.long some z.is, t.keeps.count)

  -- a block that is found has the label's chunk
  pub found_there : (w : Label) (i : ℕ) → 0 < w.level → search_in s bs w ≡ Some i
      → (i < s.blocks) × (around s.blocks t.blocks i ≡ holds (labelled w (nodes_of F w))) × (nodes_of F w ≢ [])
  found_there w i pos e =
      go (subst (Told s F w t.blocks)
      (sym (search_blocks s some hd t.head t.blocks all t.keeps.long w) ∙ ap (λ (x : List ℕ). search_in s x w) (sym t.is) ∙ e)
      (search_told s some F n t.blocks all t.keeps w pos))
    where
      go : Told s F w t.blocks (Some i) → (i < s.blocks) × (around s.blocks t.blocks i ≡ holds (labelled w (nodes_of F w))) × (nodes_of F w ≢ [])
      go (Finding.is_at h z q) = (h, z, q)

  -- a table of the same header, by its blocks
  now_keeps : (G : Map) (k : ℕ) (bl : List (Block Chunk)) (bs' : List ℕ) → bs' ≡ hd ++ all_bytes s bl → Sound s G → Keeps s bl G k → Table s G k hd bs'
  now_keeps G k bl bs' e q h = record { good = t.good; head = t.head; sizes = t.sizes; sound = q; blocks = bl; is = e; keeps = h }

  -- REMOVAL of the chunk in a block that was found
  pub pull_keeps : (w : Label) (i : ℕ) → 0 < w.level → search_in s bs w ≡ Some i
      → Table s (cleared w F) (n - 1) hd (pull (bytes (block_long s)) (home s) s.blocks (s.blocks - 1) i (i + 1) bs)
  unfolding without_label
  pull_keeps w i pos e =
      let f = found_there w i pos e in
      let c : n ≡ suc (n - 1) = omega (arith, count_some w f.2) in
      now_keeps (cleared w F) (n - 1) (removed_at (chunk_home s) s.blocks i t.blocks) _
      (ap (λ (x : List ℕ). pull (bytes (block_long s)) (home s) s.blocks (s.blocks - 1) i (i + 1) x) t.is
      ∙ pull_at s some hd t.head t.blocks all t.keeps.long i f.0)
      (sound_without s F (labelled w []) t.sound)
      (take_out (lawful s some) (labelled w (nodes_of F w)) i (subst (λ (x : ℕ). Keeps s t.blocks F x) c t.keeps) f.1)

  -- as `remove` has it: the label is cleared where it is there, and nothing changes where it is not
  pub remove_keeps : (w : Label) → 0 < w.level → nodes_of F w ≢ []
      → (found_at (search_in s bs w) ≡ true) × Table s (cleared w F) (n - 1) hd (taken_out s (search_in s bs w) bs)
  unfolding taken_out found_at
  remove_keeps w pos full = go (search_in s bs w) refl (find_told w pos)
    where
      go : (r : Option ℕ) → search_in s bs w ≡ r → Finds s F w bs r → (found_at r ≡ true) × Table s (cleared w F) (n - 1) hd (taken_out s r bs)
      go (Some i) e f = (refl, pull_keeps w i pos e)
      go None e (is_none z) = absurd (full z)

  pub remove_none : (w : Label) → 0 < w.level → nodes_of F w ≡ []
      → (found_at (search_in s bs w) ≡ false) × (taken_out s (search_in s bs w) bs ≡ bs)
  unfolding taken_out found_at
  remove_none w pos gone = go (search_in s bs w) (find_told w pos)
    where
      go : (r : Option ℕ) → Finds s F w bs r → (found_at r ≡ false) × (taken_out s r bs ≡ bs)
      go (Some i) (is_at h z e) = absurd (z gone)
      go None f = (refl, refl)

  -- INSERTION of a chunk whose label is absent
  pub insert_keeps : (w : Label) (ns : List Order) → Holdable s (labelled w ns) → nodes_of F w ≡ [] → ns ≢ [] → n < s.blocks
      → (r : Option ℕ) (bs' : List ℕ) → r ≡ free_in (label_in (block_long s) bs) s.blocks s.blocks (home s w)
      → bs' ≡ inserted s r w (length ns) (nodes_bytes (row s) ns) bs → Table s (with_nodes w ns F) (suc n) hd bs'
  unfolding with_chunk
  insert_keeps w ns q gone full room r bs' er eb =
      now_keeps (with_nodes w ns F) (suc n) (insert_from (chunk_before s) s.blocks (home s w) s.blocks (labelled w ns) t.blocks) bs'
      (eb ∙ ap (inserted s r w (length ns) (nodes_bytes (row s) ns)) t.is
      ∙ insert_at s some hd t.head t.blocks all t.keeps.long F n t.keeps w ns q gone room r
      (er ∙ ap (λ (x : List ℕ). free_in (label_in (block_long s) x) s.blocks s.blocks (home s w)) t.is))
      (sound_with s F (labelled w ns) t.sound q) (put_in (lawful s some) (labelled w ns) t.keeps gone full room)

  -- CHANGE of the nodes in a block that was found
  pub write_keeps : (w : Label) (i : ℕ) (ns : List Order) → 0 < w.level → search_in s bs w ≡ Some i → Holdable s (labelled w ns) → ns ≢ []
      → Table s (with_nodes w ns F) n hd (put_block (block_long s) bs i (block_with (block_long s) w (length ns) (nodes_bytes (row s) ns)))
  unfolding with_chunk
  write_keeps w i ns pos e q full =
      let f = found_there w i pos e in
      now_keeps (with_nodes w ns F) n (stored s.blocks t.blocks i (holds (labelled w ns))) _
      (ap (λ (x : List ℕ). put_block (block_long s) bs i x) (block_written s w ns q.nodes)
      ∙ ap (λ (x : List ℕ). put_block (block_long s) x i (block_bytes s (holds (labelled w ns)))) t.is
      ∙ block_put s some hd t.head t.blocks all t.keeps.long i (holds (labelled w ns)) f.0 (held q)
      ∙ ap (λ (x : List (Block Chunk)). hd ++ all_bytes s x) (stored_inside s.blocks t.blocks i (holds (labelled w ns)) f.0))
      (sound_with s F (labelled w ns) t.sound q)
      (change (lawful s some) (labelled w (nodes_of F w)) (labelled w ns) i t.keeps f.1 refl full)

  -- the form of the bytes that the functions ask
  pub shaped : Shaped s bs
  unfolding block_long
  shaped =
      let l = limits s t.good in
      record {
        long = ap length t.is ∙ length-append hd (all_bytes s t.blocks) ∙ rw (t.head, blocks_long s all, t.keeps.long);
        width = refl;
        least = row_least s;
        wide = row_most s;
        few = l.nodes_most;
        some = some;
        most = l.blocks_most;
        seeds = l.seeds;
      }

  -- THE NUMBER OF ORDERS in the header
  pub count_keeps : (k : ℕ) → Table s F n (sets hd 11 (big 2 k)) (sets bs 11 (big 2 k))
  count_keeps k = record {
    good = t.good;
    head = length-sets hd 11 (big 2 k) ∙ t.head;
    sizes = count_sizes hd k ∙ t.sizes;
    sound = t.sound;
    blocks = t.blocks;
    is = ap (λ (x : List ℕ). sets x 11 (big 2 k)) t.is ∙ sets_left hd (all_bytes s t.blocks) 11 (big 2 k) (omega (arith, length_big 2 k, t.head));
    keeps = t.keeps;
  }

-- ONE TABLE keeps a map under a header
pub same_bytes : (s : Sizes) (F G : Map) (n k : ℕ) (hd bs cs : List ℕ) → ((l f i : ℕ) → F l f i ≡ G l f i) → Table s F n hd bs → Table s G k hd cs → bs ≡ cs
same_bytes s F G n k hd bs cs e x y =
    let one = kept_once (lawful s (some_blocks s x.good)) (λ w. e w.level w.first w.number) x.keeps y.keeps in
    x.is ∙ ap (λ (z : List (Block Chunk)). hd ++ all_bytes s z) one ∙ sym y.is
