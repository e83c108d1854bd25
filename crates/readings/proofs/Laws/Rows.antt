-- Where the nodes of a level stand, and what they open: a partition is a stretch of its list, and all orders under a node come before
-- the next node.
use mathlib.Core.Path.{◌≡◌, refl, sym, ap, ◌∙◌, subst}
use mathlib.Core.Bool.{Bool, true, false, cond}
use mathlib.Core.List.{List, [], ◌∷◌, ◌++◌, map, append_assoc, append-nil}
use mathlib.Core.Logic.{inl, inr}
use Prim.Native.Nat.{ℕ, zero, suc}
use native.Mathlib.Omega.{arith}
use borrow.Author.Tests.{eqb-true, leb-true}
use lib.Dec.{leb, eqb}
use lib.ListN.{length, take, drop, take-append-drop}
use Rattle.sizes.specs.Hash.{level}
use Rattle.sizes.specs.declared.Sizes.{Sizes}
use Rattle.placement.specs.declared.Order.{Order}
use Rattle.skiplist.specs.Lists.{front, at_least, list_at, partitions, first_key, masked}
use Rattle.skiplist.proofs.Laws.Parts.{Up, Heads, up_from, pick, part, pick_past, below, below_here}
use Rattle.skiplist.proofs.Laws.Edits.{parts_heads}
use Rattle.skiplist.proofs.Laws.Walk.{each, spread, each_append, flat, spread_all}
use Rattle.skiplist.proofs.Laws.Nodes.{nodes_list}
use Rattle.skiplist.proofs.Laws.Opens.{Spot, Heading, nothing, shape, walks_part}
use Rattle.readings.specs.Visit.{Row}

-- STRETCHES of a list
record Stretch (whole xs : List Order) : Type 0 where
  pub before : List Order
  pub behind : List Order
  pub is : whole ≡ before ++ (xs ++ behind)

pick_stretch : (f a : ℕ) (ps : List (List Order)) → Heads a ps → Stretch (flat ps) (pick f ps)
unfolding pick flat
pick_stretch f a [] u = record { before = []; behind = []; is = refl }
pick_stretch f a (p ∷ ps) u = go (pick_stretch f (suc (first_key p)) ps u.1) (eqb (first_key p) f) refl
  where
    go : Stretch (flat ps) (pick f ps) → (t : Bool) → eqb (first_key p) f ≡ t → Stretch (p ++ flat ps) (cond t p [] ++ pick f ps)
    go ih true e =
        record { before = []; behind = flat ps; is = rw (pick_past f ps (suc (first_key p)) (omega (arith, eqb-true (first_key p) f e)) u.1, append-nil) }
    go ih false e =
        record { before = p ++ ih.before; behind = ih.behind; is = ap (λ (z : List Order). p ++ z) ih.is ∙ sym (append_assoc p ih.before (pick f ps ++ ih.behind)) }

part_stretch : (s : Sizes) (os : List Order) (l f : ℕ) → Up 1 os → Stretch (list_at s l os) (part s os l f)
unfolding part
part_stretch s os l f u =
    subst (λ (z : List Order). Stretch z (pick f (partitions s l (list_at s l os)))) (nodes_list l s os)
    (pick_stretch f 0 (partitions s l (list_at s l os)) (parts_heads s l os u))

-- ROWS
pub row_piece : (s : Sizes) (os : List Order) (l f n m : ℕ) → Up 1 os → Row s os l (map (masked l) (take n (drop m (part s os l f))))
row_piece s os l f n m u =
    let t = part_stretch s os l f u in
    let xs = part s os l f in
    record {
      before = t.before ++ take m xs;
      own = take n (drop m xs);
      behind = drop n (drop m xs) ++ t.behind;
      there =
          t.is
          ∙ ap (λ (z : List Order). t.before ++ (z ++ t.behind)) (sym (take-append-drop m xs) ∙ ap (λ (z : List Order). take m xs ++ z) (sym (take-append-drop n (drop m xs))))
          ∙ simp append_assoc;
      is = refl;
    }

-- a row of at least one node
first_own : (l : ℕ) (n : Order) (ns own : List Order) → n ∷ ns ≡ map (masked l) own →
    (x : Order) × (xs : List Order) × (own ≡ x ∷ xs) × (n ≡ masked l x) × (ns ≡ map (masked l) xs)
first_own l n ns [] e = absurd (omega (arith, ap length e))
first_own l n ns (x ∷ xs) e = (x, xs, refl, cc, cc)

pub row_tail : (s : Sizes) (os : List Order) (l : ℕ) (n : Order) (ns : List Order) → Row s os l (n ∷ ns) → Row s os l ns
row_tail s os l n ns r =
    let f = first_own l n ns r.own r.is in
    record {
      before = r.before ++ f.0 ∷ [];
      own = f.1;
      behind = r.behind;
      there = r.there ∙ ap (λ (z : List Order). r.before ++ (z ++ r.behind)) f.2 ∙ sym (append_assoc r.before (f.0 ∷ []) (f.1 ++ r.behind));
      is = f.4;
    }

-- AN ORDER of a list, and of those of a list from some level on
spot_more : (o x : Order) (xs : List Order) → Spot o xs → Spot o (x ∷ xs)
spot_more o x xs w = record { before = x ∷ w.before; behind = w.behind; is = ap (λ (z : List Order). x ∷ z) w.is }

spot_from : (s : Sizes) (k : ℕ) (y : Order) (B os A : List Order) → at_least s k os ≡ A ++ y ∷ B → Spot y os × (leb k (level s y.key) ≡ true)
unfolding at_least
spot_from s k y B [] A e = absurd (nothing A y B e)
spot_from s k y B (x ∷ xs) A e = go (spot_from s k y B xs) (leb k (level s x.key)) refl A e
  where
    go : ((A : List Order) → at_least s k xs ≡ A ++ y ∷ B → Spot y xs × (leb k (level s y.key) ≡ true)) → (t : Bool) → leb k (level s x.key) ≡ t →
        (A : List Order) → cond t (x ∷ at_least s k xs) (at_least s k xs) ≡ A ++ y ∷ B → Spot y (x ∷ xs) × (leb k (level s y.key) ≡ true)
    go ih true q [] h =
        let w : x ≡ y = cc in
        subst (λ (o : Order). Spot o (x ∷ xs) × (leb k (level s o.key) ≡ true)) w (record { before = []; behind = xs; is = refl }, q)
    go ih true q (a ∷ A) h = let w = ih A (cc) in (spot_more y x xs w.0, w.1)
    go ih false q A h = let w = ih A h in (spot_more y x xs w.0, w.1)

-- A NODE of a level above heads a partition of this one
heading : (s : Sizes) (os : List Order) (l : ℕ) (y : Order) (B A : List Order) → list_at s (suc l) os ≡ A ++ y ∷ B → Heading s os l y
unfolding list_at
heading s os l y B [] e = inl (cc)
heading s os l y B (a ∷ A) e =
    let w = spot_from s (suc l) y B os A (cc) in
    inr (w.0, omega (arith, leb-true (suc l) (level s y.key) w.1))

-- THE ORDERS UNDER A NODE come before the next node
pub up_behind : (xs zs : List Order) (a : ℕ) → Up a (xs ++ zs) → Up 0 zs
up_behind [] zs a u = up_from zs (omega arith) u
up_behind (x ∷ xs) zs a u = up_behind xs zs (suc x.key) u.1

module _ (s : Sizes) (os : List Order) (u : Up 1 os) where
  pub next_below : (l : ℕ) (x y : Order) (A B : List Order) → list_at s (suc l) os ≡ A ++ x ∷ y ∷ B → below y.key (spread s os l x) ≡ true
  unfolding each front
  next_below l x y A B e =
      let f = spread s os l in
      let v : Up 0 (front ∷ os) = (omega arith, u) in
      let n = heading s os l y B (A ++ x ∷ []) (e ∙ sym (append_assoc A (x ∷ []) (y ∷ B))) in
      let p = shape s (part s os) l y (f y) (walks_part s os u l y n) in
      let w : front ∷ os ≡ each f A ++ (f x ++ p.head ∷ (p.rest ++ each f B)) =
      sym (spread_all s os u l) ∙ ap (each f) e ∙ each_append f A (x ∷ y ∷ B) ∙ ap (λ (z : List Order). each f A ++ (f x ++ (z ++ each f B))) p.whole in
      subst (λ (k : ℕ). below k (f x) ≡ true) p.same (below_here (f x) p.head (p.rest ++ each f B) 0 (up_behind (each f A) _ 0 (subst (Up 0) w v)))

  -- masked nodes open the same
  pub spread_masked : (l : ℕ) (x : Order) → spread s os l (masked (suc l) x) ≡ spread s os l x
  unfolding spread masked
  spread_masked zero x = refl
  spread_masked (suc l) x = refl

  pub each_masked : (l : ℕ) (xs : List Order) → each (spread s os l) (map (masked (suc l)) xs) ≡ each (spread s os l) xs
  unfolding each
  each_masked l [] = refl
  each_masked l (x ∷ xs) = rw (spread_masked l x, each_masked l xs)

  pub row_below : (l : ℕ) (n m : Order) (ns : List Order) → Row s os (suc l) (n ∷ m ∷ ns) → below m.key (spread s os l n) ≡ true
  unfolding masked
  row_below l n m ns r =
      let f = first_own (suc l) n (m ∷ ns) r.own r.is in
      let g = first_own (suc l) m ns f.1 f.4 in
      let e = r.there ∙ ap (λ (z : List Order). r.before ++ (z ++ r.behind)) (f.2 ∙ ap (λ (z : List Order). f.0 ∷ z) g.2) in
      ap (below m.key) (ap (spread s os l) f.3 ∙ spread_masked l f.0)
      ∙ ap (λ (o : Order). below o.key (spread s os l f.0)) g.3
      ∙ next_below l f.0 g.0 r.before (g.1 ++ r.behind) e
