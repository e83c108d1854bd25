-- Every chunk of good orders that fit is one that a block can hold, and has nodes.
use mathlib.Core.Path.{◌≡◌, ap}
use mathlib.Core.Logic.{inl, inr, ◌≢◌}
use mathlib.Core.Bool.{Bool, true, false, ◌&&◌, cond}
use mathlib.Core.List.{List, [], ◌∷◌, ◌++◌, map}
use Prim.Native.Nat.{ℕ, suc, ◌*◌, ◌-◌, ◌^◌, ◌≤◌, ◌<◌}
use native.Mathlib.Nat.{le-mul_of_pos_right, one-le-pow}
use native.Mathlib.Omega.{arith}
use borrow.Author.Tests.{ltb-true, leb-true, eqb-true}
use lib.Dec.{ltb, leb, eqb}
use lib.ListN.{length, take, drop, length-append, take-append-drop}
use Rattle.sizes.specs.Sizes.{prime, row, made}
use Rattle.sizes.specs.Hash.{level}
use Rattle.placement.specs.Chunks.{Chunk}
use Rattle.placement.specs.Labels.{label}
use Rattle.placement.specs.Maps.{map_of, Fine, Fines, Holdable, Sound}
use Rattle.sizes.specs.declared.Sizes.{Sizes}
use Rattle.placement.specs.declared.Order.{Order}
use Rattle.sizes.proofs.Laws.Sizes.{and_parts, limits, some_blocks}
use Rattle.placement.proofs.Laws.Kinds.{map_only}
use Rattle.placement.proofs.Laws.Maps.{lawful}
use Rattle.placement.proofs.Laws.Cells.{cond_valid}
use Rattle.skiplist.specs.Lists.{front, at_least, list_at, partitions, first_key, masked, chunks}
use Rattle.skiplist.specs.Image.{price_good, quantities_good, orders_good, fits}
use Rattle.skiplist.specs.Rules.{Piece}
use Rattle.skiplist.proofs.Laws.Parts.{good_parts}
use Rattle.skiplist.proofs.Laws.Walk.{flat}
use Rattle.skiplist.proofs.Laws.Nodes.{nodes_list}
use Rattle.skiplist.proofs.Laws.Kept.{fits_parts}
use Rattle.skiplist.proofs.Laws.Pieces.{piece_of, piece_filled}
use Rattle.placement.specs.Blocks.{Among}

-- ---- nodes that a row's bytes can hold

price_fine : (s : Sizes) (p : ℕ) → price_good s p ≡ true → p ≤ 4294967295 → p < 256 ^ (row s - 12)
unfolding price_good row
price_fine s p = go (eqb s.version 1)
  where
    go : (t : Bool) → cond t (eqb p 0) (leb 1 p) ≡ true → p ≤ 4294967295 → p < 256 ^ (cond t 12 16 - 12)
    go true e h = omega (arith, eqb-true p 0 e)
    go false e h = omega arith

pub fine_good : (s : Sizes) (o : Order) → ltb o.key prime ≡ true → quantities_good s o.total o.displayed o.price ≡ true → Fine (row s) o
unfolding quantities_good
fine_good s o k e =
    let v = and_parts ((leb 1 o.total && leb o.total 4294967295) && leb o.displayed o.total) (price_good s o.price && leb o.price 4294967295) e in
    let q = and_parts (leb 1 o.total && leb o.total 4294967295) (leb o.displayed o.total) v.0 in
    let p = and_parts (price_good s o.price) (leb o.price 4294967295) v.1 in
    let most = leb-true o.total 4294967295 (and_parts (leb 1 o.total) (leb o.total 4294967295) q.0).1 in
    let part = leb-true o.displayed o.total q.1 in
    let price = price_fine s o.price p.0 (leb-true o.price 4294967295 p.1) in
    record { key = omega (arith, ltb-true o.key prime k); total = omega arith; displayed = omega arith; price = price }

good_fines : (s : Sizes) (a : ℕ) (os : List Order) → orders_good s a os ≡ true → Fines (row s) os
good_fines s a [] e = tt
good_fines s a (o ∷ os) e = let w = good_parts s a o os e in (fine_good s o w.key w.quantity, good_fines s (suc o.key) os w.others)

-- a node of zeros
pub none_fine : (w : ℕ) → Fine w (record { key = 0; total = 0; displayed = 0; price = 0 })
none_fine w = record { key = omega arith; total = omega arith; displayed = omega arith; price = one-le-pow (w - 12) 256 (omega arith) }

-- the elements of a level are of the orders
record Some (w : ℕ) (os xs : List Order) : Type 0 where
  pub few : length xs ≤ length os
  pub fine : Fines w os → Fines w xs

module _ (w : ℕ) where
  least_some : (s : Sizes) (k : ℕ) (os : List Order) → Some w os (at_least s k os)
  unfolding at_least
  least_some s k [] = record { few = omega arith; fine = λ f. f }
  least_some s k (o ∷ os) =
      let v = least_some s k os in
      cond_valid (Some w (o ∷ os)) (leb k (level s o.key))
      (record { few = omega (arith, v.few); fine = λ f. (f.0, v.fine f.1) }) (record { few = omega (arith, v.few); fine = λ f. v.fine f.1 })

  list_some : (s : Sizes) (k : ℕ) (os : List Order) → Some w (front ∷ os) (list_at s k os)
  unfolding list_at
  list_some s k os = let v = least_some s k os in record { few = omega (arith, v.few); fine = λ f. (f.0, v.fine f.1) }

  fines_parts : (xs zs : List Order) → Fines w (xs ++ zs) → Fines w xs × Fines w zs
  fines_parts [] zs f = (tt, f)
  fines_parts (x ∷ xs) zs f = let v = fines_parts xs zs f.1 in ((f.0, v.0), v.1)

  part_some : (p : List Order) (ps : List (List Order)) → Among p ps → Some w (flat ps) p
  unfolding flat
  part_some p [] h = absurd h
  part_some p (q ∷ ps) (inl e) = rw e (record { few = simp length-append (omega arith); fine = λ f. (fines_parts q (flat ps) f).0 })
  part_some p (q ∷ ps) (inr h) = let v = part_some p ps h in record { few = simp length-append (omega (arith, v.few)); fine = λ f. v.fine (fines_parts q (flat ps) f).1 }

  fines_piece : (n k : ℕ) (xs : List Order) → Fines w xs → Fines w (take n (drop k xs))
  fines_piece n k xs f =
      let v = (fines_parts (take k xs) (drop k xs) (rw (take-append-drop k xs) f)).1 in
      (fines_parts (take n (drop k xs)) (drop n (drop k xs)) (rw (take-append-drop n (drop k xs)) v)).0

  fines_masked : (l : ℕ) (xs : List Order) → Fines w xs → Fines w (map (masked l) xs)
  unfolding masked
  fines_masked l [] f = tt
  fines_masked l (x ∷ xs) f =
      let small : (m n : ℕ) → 0 < m → n < m → cond (eqb l 1) n 0 < m = λ m n z h. cond_valid (λ i. i < m) (eqb l 1) h z in
      let z = none_fine w in (
        record {
          key = f.0.key;
          total = small 4294967296 x.total z.total f.0.total;
          displayed = small 4294967296 x.displayed z.displayed f.0.displayed;
          price = small (256 ^ (w - 12)) x.price z.price f.0.price;
        },
        fines_masked l xs f.1,
      )

  first_fine : (p : List Order) → Fines w p → first_key p < 4294967296
  unfolding first_key
  first_fine [] f = omega arith
  first_fine (o ∷ p) f = f.0.key

-- ---- pieces

piece_holdable : (s : Sizes) (os : List Order) (c : Chunk) → made s ≡ true → orders_good s 1 os ≡ true → fits s os ≡ true → Piece s os c → Holdable s c
unfolding front
piece_holdable s os c m g f w =
    let x = part_some (row s) w.part (partitions s c.label.level (list_at s c.label.level os)) w.of_level in
    let e = nodes_list c.label.level s os in
    let y = list_some (row s) s c.label.level os in
    let d = limits s m in
    let fine : Fines (row s) w.part = x.fine (rw e (y.fine (none_fine (row s), good_fines s 1 os g))) in
    let few : length w.part ≤ suc (length os) = omega (arith, x.few, ap length e, y.few) in
    record {
      level = w.low;
      first = rw w.first_is (first_fine (row s) w.part fine);
      number = omega (arith, le-mul_of_pos_right c.label.number d.nodes_some, w.inside, (fits_parts s os f).few, d.orders_most);
      fine = rw w.nodes_are (fines_masked (row s) c.label.level (take s.nodes (drop (c.label.number * s.nodes) w.part)) (fines_piece (row s) s.nodes (c.label.number * s.nodes) w.part fine));
      nodes = (piece_filled s os c d.nodes_some w).1;
    }

-- THE CHUNKS of good orders that fit
pub chunks_full : (s : Sizes) (os : List Order) → made s ≡ true → (c : Chunk) → Among c (chunks s os) → c.nodes ≢ []
chunks_full s os m c a e = omega (arith, (piece_filled s os c (limits s m).nodes_some (piece_of s os c a)).0, ap length e)

pub chunks_sound : (s : Sizes) (os : List Order) → made s ≡ true → orders_good s 1 os ≡ true → fits s os ≡ true → Sound s (map_of (chunks s os))
unfolding map_of
chunks_sound s os m g f l h i =
    map_only (lawful s (some_blocks s m)) (Holdable s) (chunks s os) (λ c a. piece_holdable s os c m g f (piece_of s os c a)) (label l h i)
