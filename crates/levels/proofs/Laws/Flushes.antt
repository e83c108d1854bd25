-- A full chunk written from a carry.
use Rattle.std.proofs.Common.{Option}
use mathlib.Core.Path.{◌≡◌, refl, sym, ◌∙◌, subst}
use mathlib.Core.Logic.{◌≢◌}
use mathlib.Core.Bool.{true≢false}
use mathlib.Core.List.{List, [], ◌∷◌, ◌++◌}
use Prim.Native.Nat.{ℕ, zero, suc, ◌+◌, ◌*◌, ◌-◌, ◌≤◌, ◌<◌}
use native.Mathlib.Omega.{arith}
use lib.ListN.{length, take, drop, length-drop}
use lib.Seq.{sets, length-take-le}
use Rattle.sizes.specs.Sizes.{row}
use Rattle.sizes.specs.Header.{block_long}
use Rattle.placement.specs.Labels.{home}
use Rattle.placement.specs.Place.{free_in, label_in, inserted}
use Rattle.placement.specs.Maps.{Map, Table, Fines, with_nodes}
use Rattle.sizes.specs.declared.Sizes.{Sizes}
use Rattle.placement.specs.declared.Order.{Order}
use Rattle.placement.specs.declared.Label.{Label}
use Rattle.placement.proofs.Laws.Tables.{insert_keeps}
use Rattle.sizes.proofs.Laws.Sizes.{row_most, some_nodes}
use Rattle.sizes.proofs.Laws.HeaderLoops.{rows_most}
use Rattle.levels.specs.Pour.{one, waits, writes, Flushes, Puts}
use Rattle.levels.proofs.Laws.Takes.{one_some}
use Rattle.levels.proofs.Laws.CarryFronts.{front_first, front_moved}
use Rattle.levels.proofs.Laws.MapLabels.{with_none}

module _ (w : ℕ) where
  pub fines_take : (n : ℕ) (c : List Order) → Fines w c → Fines w (take n c)
  fines_take zero c f = tt
  fines_take (suc n) [] f = tt
  fines_take (suc n) (o ∷ c) f = (f.0, fines_take n c f.1)

  pub fines_drop : (n : ℕ) (c : List Order) → Fines w c → Fines w (drop n c)
  fines_drop zero c f = f
  fines_drop (suc n) [] f = tt
  fines_drop (suc n) (o ∷ c) f = fines_drop n c f.1

  pub fines_append : (c d : List Order) → Fines w c → Fines w d → Fines w (c ++ d)
  fines_append [] d f g = g
  fines_append (o ∷ c) d f g = (f.0, fines_append c d f.1 g)

pub not_none : (c : List Order) → 0 < length c → c ≢ []
not_none [] h e = absurd (omega arith)
not_none (o ∷ c) h e = true≢false (cc)

-- the nodes under a label of a table
pub fines_there : (s : Sizes) (F : Map) (n : ℕ) (hd bs : List ℕ) (k f i : ℕ) → Table s F n hd bs → Fines (row s) (F k f i)
fines_there s F n hd bs k f i t = go (F k f i) refl
  where
    go : (ns : List Order) → F k f i ≡ ns → Fines (row s) ns
    go [] e = tt
    go (o ∷ os) e = rw e at (t.sound k f i (rw e (not_none (o ∷ os) (omega arith)))).fine

-- there is room for them in a row
pub put_room : (s : Sizes) (n l : ℕ) → 16 * n ≤ l → 0 + row s * n ≤ l
put_room s n l h = omega (arith, rows_most (row s) n (row_most s))

-- SOME NODES OF A ROW written under a label that is absent, or none; a full chunk, and the others moved to the front
module _ (s : Sizes) (w : Label) (n : ℕ) (bs cs : List ℕ) where
  pub put_none : n ≤ 0 → Puts s w n bs bs cs
  unfolding Puts one
  put_none h F m hd c t f k fine gone can =
      let e : n ≡ 0 = omega arith in
      rw e (record { full = m; table = subst (λ (G : Map). Table s G m hd bs) (sym (with_none w F gone)) t; count = omega arith })

  pub put_some : (bs' : List ℕ) (r : Option ℕ) → 0 < n → n ≤ s.nodes → r ≡ free_in (label_in (block_long s) bs) s.blocks s.blocks (home s w)
      → bs' ≡ inserted s r w n (take (row s * n) (drop 0 cs)) bs → Puts s w n bs bs' cs
  unfolding Puts
  put_some bs' r pos few er eb F m hd c t f k fine gone can =
      let q = can pos in
      let l : length (take n c) ≡ n = length-take-le n c k in
      let some = not_none (take n c) (omega arith) in
      record {
        full = suc m;
        table =
            insert_keeps s F m hd bs t w (take n c)
            (record { level = q.0.level; first = q.0.first; number = q.0.number; fine = fines_take (row s) n c fine; nodes = omega arith })
            gone some q.1 r bs' er (eb ∙ rw (front_first s cs c n f k, l));
        count = omega (arith, one_some (take n c) some);
      }

  pub flush_waits : n < s.nodes → Flushes s w n bs bs cs cs n
  unfolding Flushes
  flush_waits h F m hd c t f en fine can = waits (omega arith) en t f

  pub flush_writes : (bs' cs' : List ℕ) (left : ℕ) → s.nodes ≤ n → 16 * n ≤ length cs → Puts s w s.nodes bs bs' cs
      → left ≡ n - s.nodes → cs' ≡ sets cs 0 (take (row s * left) (drop (row s * s.nodes) cs)) → Flushes s w n bs bs' cs cs' left
  unfolding Flushes Puts
  flush_writes bs' cs' left h room pt el ec F m hd c t f en fine can =
      let k : s.nodes ≤ length c = omega arith in
      let q = can k in
      let u = pt F m hd c t f k fine q.1 (λ z. (q.0, q.2)) in
      let some = not_none (take s.nodes c) (omega (arith, length-take-le s.nodes c k, some_nodes s t.good)) in
      let sum : u.full ≡ suc m = omega (arith, u.count, one_some (take s.nodes c) some) in
      writes k (omega (arith, length-drop s.nodes c)) (subst (λ (z : ℕ). Table s (with_nodes w (take s.nodes c) F) z hd bs') sum u.table)
      (front_moved s cs cs' c s.nodes left f (omega arith) ec (omega arith))
