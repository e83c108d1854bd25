-- A chunk taken out of a table, its nodes behind those of a carry.
use Rattle.std.proofs.Common.{Option, Some, None}
use mathlib.Core.Path.{◌≡◌, refl, sym, ap, ◌∙◌, subst}
use mathlib.Core.Logic.{◌≢◌}
use mathlib.Core.Bool.{true≢false}
use mathlib.Core.List.{List, [], ◌∷◌, append-nil}
use Prim.Native.Nat.{ℕ, ◌+◌, ◌*◌, ◌-◌, ◌≤◌, ◌<◌}
use native.Mathlib.Omega.{arith}
use lib.ListN.{length, get_or, take, drop, replicate, length-append}
use lib.Seq.{sets, take_at, drop-drop, take-take}
use Rattle.sizes.specs.Numbers.{big}
use Rattle.sizes.specs.Sizes.{row}
use Rattle.placement.specs.Blocks.{holds}
use Rattle.sizes.specs.Header.{block_long}
use Rattle.sizes.specs.Parts.{block_in}
use Rattle.placement.specs.Chunks.{block_bytes, nodes_bytes}
use Rattle.placement.specs.Place.{search_in, taken_out}
use Rattle.placement.specs.Maps.{Map, Table, Finds, is_at, is_none, Holdable, labelled, nodes_of}
use Rattle.sizes.specs.declared.Sizes.{Sizes}
use Rattle.placement.specs.declared.Order.{Order}
use Rattle.placement.specs.declared.Label.{Label}
use Rattle.placement.proofs.Laws.Tables.{find_told, remove_keeps, remove_none, count_some}
use Rattle.placement.proofs.Laws.Reading.{count_read}
use Rattle.placement.proofs.Laws.Bridge.{length_nodes}
use Rattle.levels.specs.Pour.{one, Read, Reads, Taken, Takes}
use Rattle.sizes.proofs.Laws.Numbers.{drop_take}
use Rattle.sizes.proofs.Laws.HeaderLoops.{rows_room}
use Rattle.levels.proofs.Laws.MapLabels.{cleared_is, with_none}
use Rattle.levels.proofs.Laws.CarryFronts.{front_more}

pub one_some : (ns : List Order) → ns ≢ [] → one ns ≡ 1
unfolding one
one_some [] h = absurd (h refl)
one_some (o ∷ os) h = refl

pub one_none : (ns : List Order) → ns ≡ [] → one ns ≡ 0
unfolding one
one_none ns e = ap one e

-- the bytes of the nodes in a block that was found
nodes_read : (s : Sizes) (bs : List ℕ) (i : ℕ) (w : Label) (ns : List Order) → block_in (block_long s) bs i ≡ block_bytes s (holds (labelled w ns)) → length ns ≤ s.nodes
    → take (row s * length ns) (drop (53 + i * block_long s + 8) bs) ≡ nodes_bytes (row s) ns
unfolding block_in block_long block_bytes big
nodes_read s bs i w ns e h =
    let d = drop (53 + i * block_long s) bs in
    let few = rows_room (row s) (length ns) s.nodes h in
    rw (← drop-drop)
    (sym (take-take (row s * length ns) (row s * s.nodes) (drop 8 d) few) ∙ ap (take (row s * length ns)) (sym (drop_take 8 (row s * s.nodes) d) ∙ ap (drop 8) e)
    ∙ take_at (nodes_bytes (row s) ns) (replicate (row s * (s.nodes - length ns)) 0) (row s * length ns) (length_nodes s ns))

-- WHAT A SEARCH FOUND: nothing where the map has nothing, or the block with the label and its nodes
pub record Stood (s : Sizes) (F : Map) (w : Label) (bs : List ℕ) (b : ℕ) : Type 0 where
  pub below : b < s.blocks
  pub full : nodes_of F w ≢ []
  pub is : block_in (block_long s) bs b ≡ block_bytes s (holds (labelled w (nodes_of F w)))
  pub held : Holdable s (labelled w (nodes_of F w))

module _ (s : Sizes) (F : Map) (m : ℕ) (hd bs : List ℕ) (t : Table s F m hd bs) (w : Label) (pos : 0 < w.level) (r : Option ℕ) (er : r ≡ search_in s bs w) where
  pub none_found : r ≡ None → nodes_of F w ≡ []
  none_found e = go (subst (Finds s F w bs) (sym er ∙ e) (find_told s F m hd bs t w pos))
    where
      go : Finds s F w bs None → nodes_of F w ≡ []
      go (is_none g) = g

  module _ (b : ℕ) (eb : r ≡ Some b) where
    pub some_found : Stood s F w bs b
    some_found = go (subst (Finds s F w bs) (sym er ∙ eb) (find_told s F m hd bs t w pos))
      where
        go : Finds s F w bs (Some b) → Stood s F w bs b
        go (is_at p q g) = record { below = p; full = q; is = g; held = t.sound w.level w.first w.number q }

    -- how many nodes it has
    pub counted : (n : ℕ) → n ≡ get_or bs (53 + b * block_long s + 1) 0 → n ≡ length (nodes_of F w)
    counted n en = let v = some_found in en ∙ count_read s bs b w (nodes_of F w) v.is

-- A CHUNK READ
module _ (s : Sizes) (w : Label) (n : ℕ) (bs cs : List ℕ) (r : Option ℕ) (er : r ≡ search_in s bs w) where
  pub read_none : r ≡ None → Reads s w n bs cs cs n
  unfolding Reads
  read_none e F m hd c t pos f en = let g = none_found s F m hd bs t w pos r er e in record { front = rw (g, append-nil) f; size = rw (g, append-nil) en }

  module _ (i : ℕ) (e : r ≡ Some i) (more : ℕ) (em : more ≡ get_or bs (53 + i * block_long s + 1) 0) where
    pub read_over : s.nodes < more → Reads s w n bs cs cs n
    unfolding Reads
    read_over h F m hd c t pos f en = absurd (omega (arith, (some_found s F m hd bs t w pos r er i e).held.nodes, counted s F m hd bs t w pos r er i e more em))

    pub read_some : (at x k y : ℕ) (cs' : List ℕ) → at ≡ 53 + i * block_long s → x ≡ row s → k ≡ x * n → y ≡ row s * more → more ≤ s.nodes → 16 * (n + s.nodes) ≤ length cs
        → cs' ≡ sets cs k (take y (drop (at + 8) bs)) → Reads s w n bs cs cs' (n + more)
    unfolding Reads
    read_some at x k y cs' ea ex ek ey few room ec F m hd c t pos f en =
        let v = some_found s F m hd bs t w pos r er i e in
        let lm = counted s F m hd bs t w pos r er i e more em in
        record {
          front =
              front_more s cs cs' c (nodes_of F w) k (take y (drop (at + 8) bs)) f (ek ∙ rw (ex, en))
              (rw (ey, lm, ea) (nodes_read s bs i w (nodes_of F w) v.is v.held.nodes)) ec (omega arith);
          size = omega (arith, length-append c (nodes_of F w));
        }

-- .. and then removed
pub take_made : (s : Sizes) (w : Label) (n : ℕ) (bs bs' cs cs' : List ℕ) (r : ℕ) → Reads s w n bs cs cs' r → bs' ≡ taken_out s (search_in s bs w) bs → Takes s w n bs bs' cs cs' r
unfolding Takes Reads
take_made s w n bs bs' cs cs' r rd eb F m hd c t pos f en = go (nodes_of F w) refl
  where
    u : Read s F w c cs' r
    u = rd F m hd c t pos f en

    go : (ns : List Order) → nodes_of F w ≡ ns → Taken s F m hd w c bs' cs' r
    go [] e = record {
      full = m;
      table = rw (eb ∙ (remove_none s F m hd bs t w pos e).1) (subst (λ (G : Map). Table s G m hd bs) (sym (cleared_is w F ∙ with_none w F e)) t);
      count = omega (arith, one_none (nodes_of F w) e);
      front = u.front;
      size = u.size;
    }
    go (o ∷ os) e =
        let q : nodes_of F w ≢ [] = λ z. true≢false cc in
        record {
          full = m - 1;
          table = rw eb (remove_keeps s F m hd bs t w pos q).1;
          count = omega (arith, one_some (nodes_of F w) q, count_some s F m hd bs t w q);
          front = u.front;
          size = u.size;
        }
