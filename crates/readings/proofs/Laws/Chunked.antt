-- What the search for a chunk finds in an image: the next piece of a partition, as its bytes say.
use Rattle.std.proofs.Common.{Option, Some, None}
use mathlib.Core.Path.{◌≡◌, refl, sym, ap, ◌∙◌, subst}
use mathlib.Core.Bool.{true}
use mathlib.Core.List.{List, [], ◌∷◌, map}
use Prim.Native.Nat.{ℕ, zero, suc, ◌+◌, ◌*◌, ◌-◌, ◌≤◌, ◌<◌}
use native.Mathlib.Nat.{pos_of_ne-zero}
use native.Mathlib.Omega.{arith}
use lib.ListN.{length, get_or, take, drop, length-map, length-take}
use lib.Seq.{drop-drop}
use Rattle.sizes.specs.Numbers.{rows_in}
use Rattle.sizes.specs.Sizes.{made, beta, row}
use Rattle.sizes.specs.Header.{header, block_long}
use Rattle.placement.specs.Decode.{node_in, node_of, nodes_from}
use Rattle.placement.specs.Place.{search_in}
use Rattle.placement.specs.Labels.{label}
use Rattle.placement.specs.Maps.{Map, map_of, Table, Finds, is_at, is_none}
use Rattle.sizes.specs.declared.Sizes.{Sizes}
use Rattle.placement.specs.declared.Order.{Order}
use Rattle.sizes.proofs.Laws.Sizes.{limits}
use Rattle.placement.proofs.Laws.Tables.{find_told}
use Rattle.placement.proofs.Laws.Cells.{length_zero}
use Rattle.placement.proofs.Laws.Decoding.{nodes_count}
use Rattle.skiplist.specs.Lists.{masked, chunks}
use Rattle.skiplist.specs.Image.{image, orders_in, orders_good, fits}
use Rattle.skiplist.proofs.Laws.Parts.{Up, good_up, part}
use Rattle.skiplist.proofs.Laws.Faithful.{map_is}
use Rattle.skiplist.proofs.Laws.Image.{image_keeps}
use Rattle.table.specs.Walk.{spot, chunk_spot, count_in}
use Rattle.table.proofs.Laws.Came.{chunk_read as nodes_read}
use Rattle.table.proofs.Laws.Complete.{table_finds}
use Rattle.readings.specs.Visit.{Known}

-- nodes read one after the other
pub nodes_split : (w : ℕ) (bs : List ℕ) (a j : ℕ) → nodes_from w (suc j) (drop a bs) ≡ node_of w bs a ∷ nodes_from w j (drop (a + w) bs)
unfolding rows_in node_of
nodes_split w bs a j = ap (λ (z : List ℕ). node_in w (drop a bs) ∷ nodes_from w j z) (drop-drop w a bs)

pub nodes_first : (w : ℕ) (bs : List ℕ) (a j : ℕ) → 0 < j → nodes_from w j (drop a bs) ≡ node_of w bs a ∷ nodes_from w (j - 1) (drop (a + w) bs)
nodes_first w bs a j h =
    let e : j ≡ suc (j - 1) = omega arith in
    ap (λ (i : ℕ). nodes_from w i (drop a bs)) e ∙ nodes_split w bs a (j - 1)

none_left : (l b : ℕ) (d : List Order) → 0 < b → map (masked l) (take b d) ≡ [] → d ≡ []
none_left l (suc b) [] h e = refl
none_left l (suc b) (x ∷ d) h e = absurd (omega (arith, ap length e))
none_left l zero d h e = absurd (omega arith)

-- what stands in a block that was found
pub record Read (s : Sizes) (bs : List ℕ) (l b : ℕ) (own : List Order) : Type 0 where
  pub few : length own ≤ s.nodes
  pub count : get_or bs (53 + b * block_long s + 1) 0 ≡ length own
  pub nodes : nodes_from (row s) (length own) (drop (53 + b * block_long s + 8) bs) ≡ map (masked l) own

abbrev pub told_by : Sizes → List ℕ → Map
told_by s bs = map_of (chunks s (orders_in bs))

pub kept_by : (s : Sizes) (bs : List ℕ) → made s ≡ true → orders_good s 1 (orders_in bs) ≡ true → fits s (orders_in bs) ≡ true → image s (orders_in bs) ≡ bs →
    Table s (told_by s bs) (length (chunks s (orders_in bs))) (header s (length (orders_in bs))) bs
kept_by s bs m g f e = rw e at (image_keeps s (orders_in bs) m g f)

-- piece i of the partition that f heads
abbrev pub piece : Sizes → List ℕ → (l f i : ℕ) → List Order
piece s bs l f i = take s.nodes (drop (i * s.nodes) (part s (orders_in bs) l f))

module _ (s : Sizes) (bs : List ℕ) (w : Known s bs) where
  pub orders_up : Up 1 (orders_in bs)
  orders_up = good_up s 1 (orders_in bs) w.good

  pub kept : Table s (told_by s bs) (length (chunks s (orders_in bs))) (header s (length (orders_in bs))) bs
  kept = kept_by s bs w.sizes_made w.good w.fit w.bytes

  module _ (l f i : ℕ) (low : 1 ≤ l) (high : l ≤ beta s) where
    told : told_by s bs l f i ≡ map (masked l) (piece s bs l f i)
    told = map_is s l f i (orders_in bs) (limits s w.sizes_made).nodes_some orders_up low high

    finds : (r : Option ℕ) → r ≡ search_in s bs (label l f i) → Finds s (told_by s bs) (label l f i) bs r
    finds r e = subst (Finds s (told_by s bs) (label l f i) bs) (sym e) (find_told s (told_by s bs) _ _ bs kept (label l f i) low)

    nothing_there : told_by s bs l f i ≡ [] → drop (i * s.nodes) (part s (orders_in bs) l f) ≡ []
    nothing_there e = none_left l s.nodes _ (limits s w.sizes_made).nodes_some (sym told ∙ e)

    pub chunk_none : (r : Option ℕ) → r ≡ search_in s bs (label l f i) → r ≡ None → drop (i * s.nodes) (part s (orders_in bs) l f) ≡ []
    chunk_none r e n = go (finds None (sym n ∙ e))
      where
        go : Finds s (told_by s bs) (label l f i) bs None → drop (i * s.nodes) (part s (orders_in bs) l f) ≡ []
        go (is_none z) = nothing_there z

    pub chunk_end : 65536 ≤ i → drop (i * s.nodes) (part s (orders_in bs) l f) ≡ []
    chunk_end h = go (told_by s bs l f i) refl
      where
        go : (ns : List Order) → told_by s bs l f i ≡ ns → drop (i * s.nodes) (part s (orders_in bs) l f) ≡ []
        go [] e = nothing_there e
        go (n ∷ ns) e = absurd (omega (arith, (kept.sound l f i (λ z. omega (arith, ap length (sym e ∙ z)))).number))

    pub chunk_read : (r : Option ℕ) → r ≡ search_in s bs (label l f i) → (b : ℕ) → r ≡ Some b → Read s bs l b (piece s bs l f i)
    unfolding chunk_spot spot nodes_read count_in
    chunk_read r e b q = go (finds (Some b) (sym q ∙ e))
      where
        go : Finds s (told_by s bs) (label l f i) bs (Some b) → Read s bs l b (piece s bs l f i)
        go (is_at h full is) =
            let some : 0 < length (told_by s bs l f i) = pos_of_ne-zero (λ z. full (length_zero (told_by s bs l f i) z)) in
            let read : nodes_from (row s) (get_or bs (53 + b * block_long s + 1) 0) (drop (53 + b * block_long s + 8) bs) ≡ map (masked l) (piece s bs l f i) =
            (rw (sym e ∙ q) at ((table_finds s (told_by s bs) _ _ bs kept l f i low).there some).1) ∙ told in
            let many : get_or bs (53 + b * block_long s + 1) 0 ≡ length (piece s bs l f i) = sym (nodes_count (row s) _ _) ∙ ap length read ∙ length-map (piece s bs l f i) (masked l) in
            record { few = omega (arith, length-take s.nodes (drop (i * s.nodes) (part s (orders_in bs) l f))); count = many; nodes = rw (← many) read }
