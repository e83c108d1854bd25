-- A chunk set to the first nodes of a row, in place where it is there.
use Rattle.std.proofs.Common.{Option, Some, None}
use mathlib.Core.Path.{◌≡◌, refl, sym, ◌∙◌, subst}
use mathlib.Core.List.{List, []}
use Prim.Native.Nat.{ℕ, ◌+◌, ◌*◌, ◌-◌, ◌≤◌, ◌<◌}
use native.Mathlib.Omega.{arith}
use lib.ListN.{length, take, drop, length-drop}
use lib.Seq.{sets, take_all, length-take-le}
use Rattle.sizes.specs.Sizes.{row}
use Rattle.sizes.specs.Header.{block_long}
use Rattle.placement.specs.Chunks.{nodes_bytes}
use Rattle.sizes.specs.Parts.{put_block}
use Rattle.placement.specs.Labels.{home}
use Rattle.placement.specs.Place.{search_in, bytes, pull, block_with}
use Rattle.placement.specs.Maps.{Map, Table, nodes_of, with_nodes}
use Rattle.sizes.specs.declared.Sizes.{Sizes}
use Rattle.placement.specs.declared.Order.{Order}
use Rattle.placement.specs.declared.Label.{Label}
use Rattle.placement.proofs.Laws.Tables.{pull_keeps, write_keeps, count_some}
use Rattle.levels.specs.Pour.{one, Puts}
use Rattle.levels.specs.Shift.{Stored, Stores, Renews}
use Rattle.levels.proofs.Laws.CarryFronts.{front_none, front_first, front_moved}
use Rattle.levels.proofs.Laws.MapLabels.{cleared_is}
use Rattle.levels.proofs.Laws.Takes.{one_some, one_none, none_found, some_found}
use Rattle.levels.proofs.Laws.Flushes.{fines_take, not_none}
use Rattle.levels.proofs.Laws.Chunking.{drop_past}

module _ (s : Sizes) (w : Label) (n : ℕ) (bs cs : List ℕ) (r : Option ℕ) (er : r ≡ search_in s bs w) where
  -- the label is absent
  pub store_absent : r ≡ None → (bs' : List ℕ) → Puts s w n bs bs' cs → Stores s w n bs bs' cs
  unfolding Stores Puts
  store_absent e bs' put F m hd c t f k fine can =
      let g = none_found s F m hd bs t w can.level r er e in
      let p = put F m hd c t f k fine g (λ pos. (can.label pos, can.room pos g)) in
      record { full = p.full; table = p.table; count = omega (arith, p.count, one_none (nodes_of F w) g) }

  module _ (i : ℕ) (e : r ≡ Some i) where
    -- .. or there, and cleared
    pub store_none : n ≡ 0 → (bs' : List ℕ) → bs' ≡ pull (bytes (block_long s)) (home s) s.blocks (s.blocks - 1) i (i + 1) bs → Stores s w n bs bs' cs
    unfolding Stores one
    store_none z bs' eb F m hd c t f k fine can =
        let v = some_found s F m hd bs t w can.level r er i e in
        rw z (record {
          full = m - 1;
          table = subst (λ (G : Map). Table s G (m - 1) hd bs') (cleared_is w F) (rw eb (pull_keeps s F m hd bs t w i can.level (sym er ∙ e)));
          count = omega (arith, one_some (nodes_of F w) v.full, count_some s F m hd bs t w v.full);
        })

    -- .. or there, and written over
    pub store_over : (n ≡ 0 → ⊥) → n ≤ s.nodes → (bs' : List ℕ) → bs' ≡ put_block (block_long s) bs i (block_with (block_long s) w n (take (row s * n) (drop 0 cs))) → Stores s w n bs bs' cs
    unfolding Stores
    store_over z few bs' eb F m hd c t f k fine can =
        let l : length (take n c) ≡ n = length-take-le n c k in
        let pos : 0 < n = omega (arith, z) in
        let some = not_none (take n c) (omega arith) in
        let q = can.label pos in
        let v = some_found s F m hd bs t w can.level r er i e in
        record {
          full = m;
          table =
              rw (eb, front_first s cs c n f k)
              (subst (λ (x : ℕ). Table s (with_nodes w (take n c) F) m hd (put_block (block_long s) bs i (block_with (block_long s) w x (nodes_bytes (row s) (take n c))))) l
              (write_keeps s F m hd bs t w i (take n c) can.level (sym er ∙ e)
              (record { level = q.level; first = q.first; number = q.number; fine = fines_take (row s) n c fine; nodes = omega arith }) some));
          count = omega (arith, one_some (nodes_of F w) v.full, one_some (take n c) some);
        }

-- THE FIRST NODES OF A CARRY
module _ (s : Sizes) (w : Label) (n : ℕ) (bs bs' cs : List ℕ) where
  pub renew_all : n ≤ s.nodes → Stores s w n bs bs' cs → Renews s w n bs bs' cs cs 0
  unfolding Renews Stores
  renew_all h st F m hd c t f en fine can =
      let z : drop s.nodes c ≡ [] = drop_past s.nodes c (omega arith) in
      let a : take n c ≡ take s.nodes c = take_all n c (omega arith) ∙ sym (take_all s.nodes c (omega arith)) in
      record {
        stored = subst (λ (x : List Order). Stored s F m hd w x bs') a (st F m hd c t f (omega arith) fine can);
        front = rw z (front_none s cs);
        size = rw z refl;
      }

  pub renew_first : s.nodes < n → (left : ℕ) (cs' : List ℕ) → Stores s w s.nodes bs bs' cs → left ≡ n - s.nodes → 16 * n ≤ length cs
      → cs' ≡ sets cs 0 (take (row s * left) (drop (row s * s.nodes) cs)) → Renews s w n bs bs' cs cs' left
  unfolding Renews Stores
  renew_first h left cs' st el room ec F m hd c t f en fine can =
      record {
        stored = st F m hd c t f (omega arith) fine (record { level = can.level; label = λ z. can.label (omega arith); room = λ z. can.room (omega arith) });
        front = front_moved s cs cs' c s.nodes left f (omega arith) ec (omega arith);
        size = omega (arith, length-drop s.nodes c);
      }
