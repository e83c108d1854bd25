-- The partitions that an accepted table reads are those of its orders, masked.
use mathlib.Core.Path.{◌≡◌, refl, sym, ap, ◌∙◌, subst}
use mathlib.Core.Bool.{Bool, true, false, ◌&&◌, cond, true≢false}
use mathlib.Core.List.{List, [], ◌∷◌, ◌++◌, append_assoc, map}
use mathlib.Core.Logic.{inl, inr}
use Prim.Native.Nat.{ℕ, zero, suc, ◌≤◌, ◌<◌}
use native.Mathlib.Omega.{arith}
use borrow.Author.Tests.{ne_eqb, eqb-true, ltb-true, ltb-false}
use lib.Dec.{ltb, leb, eqb}
use lib.ListN.{length}
use Rattle.sizes.specs.Sizes.{beta}
use Rattle.sizes.specs.Hash.{level}
use Rattle.sizes.specs.declared.Sizes.{Sizes}
use Rattle.placement.specs.declared.Order.{Order}
use Rattle.sizes.proofs.Laws.Sizes.{and_parts}
use Rattle.skiplist.specs.Lists.{front, at_least, list_at, starts_one, run, partitions, first_key, masked}
use Rattle.placement.specs.Blocks.{Among}
use Rattle.skiplist.proofs.Laws.Parts.{Up, Heads, up_from, up_past, up_front, pick, part, pick_at}
use Rattle.skiplist.proofs.Laws.Edits.{beta_least, stays, tail_part, parts_heads}
use Rattle.skiplist.proofs.Laws.Descent.{all_there}
use Rattle.skiplist.proofs.Laws.Shapes.{up_behind, from_key, part_direct}
use Rattle.skiplist.proofs.Laws.Masks.{masked_one}
use Rattle.skiplist.proofs.Laws.Segment.{tail_segment, part_segment}
use Rattle.skiplist.proofs.Laws.Opens.{keys, Heading, Walks, Found, dive, found_piece, read_part, read_front, part_front, one_level}
use Rattle.table.specs.Walk.{nothing_in, quantities_ok, price_ok}
use Rattle.table.proofs.Laws.Came.{weighs}
use Rattle.table.proofs.Laws.Reading.{part_sound, weigh_all, weigh_read}

module _ (s : Sizes) (T : (l f : ℕ) → List Order) (os : List Order) (walk : Walks s T (beta s) front (front ∷ os)) (u : Up 1 os) where
  -- keys
  pub reads_keys : (j : ℕ) (x : Order) → suc j ≤ beta s → Heading s os (suc j) x → keys (T (suc j) x.key) ≡ keys (part s os (suc j) x.key)
  unfolding front
  reads_keys j x h (inl e) = rw e (read_front s T front os walk u j h)
  reads_keys j x h (inr w) = read_part s T front os walk u j w.0.before x w.0.behind w.0.is w.1

  -- at level 1 all else too
  pub reads_one : (x : Order) → Heading s os 1 x → T 1 x.key ≡ part s os 1 x.key
  unfolding front
  reads_one x (inl e) = subst (λ (z : Order). T 1 z.key ≡ part s os 1 z.key) (sym e) (go (dive s T (beta s) front (front ∷ os) walk 1 (omega (arith, beta_least s)) [] front os refl (λ k. absurd (omega arith))))
    where
      go : Found s T 1 front os → T 1 0 ≡ part s os 1 0
      go f =
          let q = found_piece s T 0 front f.mine f.node f.same f.walk in
          let m : Up 1 f.mine = up_front f.mine f.others 1 (subst (Up 1) f.whole u) in
          let a : T 1 0 ≡ front ∷ f.mine = ap (T 1) (sym f.same) ∙ one_level s T f.node (front ∷ f.mine) f.walk in
          let b : tail_part s 1 os ≡ f.mine = ap (tail_part s 1) f.whole ∙ tail_segment s 1 f.mine f.others m q.low f.high ∙ all_there s f.mine in
          a ∙ sym (part_front s T 1 os u ∙ ap (λ (r : List Order). front ∷ r) b)
  reads_one x (inr w) = go (dive s T (beta s) front (front ∷ os) walk 1 (omega (arith, beta_least s)) (front ∷ w.0.before) x w.0.behind (ap (λ (r : List Order). front ∷ r) w.0.is) (λ k. w.1))
    where
      go : Found s T 1 x w.0.behind → T 1 x.key ≡ part s os 1 x.key
      go f =
          let xs = w.0.before in
          let e : os ≡ xs ++ x ∷ (f.mine ++ f.others) = w.0.is ∙ ap (λ (r : List Order). xs ++ x ∷ r) f.whole in
          let v : Up 1 (xs ++ x ∷ (f.mine ++ f.others)) = subst (Up 1) e u in
          let q = found_piece s T 0 x f.mine f.node f.same f.walk in
          let m : Up 1 f.mine = up_front f.mine f.others 1 (up_from (f.mine ++ f.others) (omega arith) (up_behind xs x (f.mine ++ f.others) 1 v)) in
          let a : T 1 x.key ≡ x ∷ f.mine = ap (T 1) (sym f.same) ∙ one_level s T f.node (x ∷ f.mine) f.walk in
          let b : part s os 1 x.key ≡ x ∷ f.mine = ap (λ (z : List Order). part s z 1 x.key) e ∙ part_segment s 1 xs x f.mine f.others v m w.1 q.low f.high ∙ ap (λ (r : List Order). x ∷ r) (all_there s f.mine) in
          a ∙ sym b

-- above level 1 nothing but keys is told
one_masked : (s : Sizes) (l : ℕ) → (l ≡ 1 → ⊥) → (x z : Order) → weighs s l x ≡ true → x.key ≡ z.key → x ≡ masked l z
unfolding masked weighs price_ok quantities_ok nothing_in
one_masked s l h x z w k =
    let v : (eqb x.price 0 && (eqb x.total 0 && eqb x.displayed 0)) ≡ true = rw (ne_eqb l 1 h) at w in
    let q = and_parts (eqb x.price 0) (eqb x.total 0 && eqb x.displayed 0) v in
    let r = and_parts (eqb x.total 0) (eqb x.displayed 0) q.1 in
    let t = eqb-true x.total 0 r.0 in
    let d = eqb-true x.displayed 0 r.1 in
    let p = eqb-true x.price 0 q.0 in
    rw (ne_eqb l 1 h) (λ i. record { key = k i; total = t i; displayed = d i; price = p i })

keys_masked : (s : Sizes) (l : ℕ) → (l ≡ 1 → ⊥) → (xs zs : List Order) → weigh_all s l xs ≡ true → keys xs ≡ keys zs → xs ≡ map (masked l) zs
unfolding weigh_all keys
keys_masked s l h [] [] w e = refl
keys_masked s l h [] (z ∷ zs) w e = absurd (omega (arith, ap length e))
keys_masked s l h (x ∷ xs) [] w e = absurd (omega (arith, ap length e))
keys_masked s l h (x ∷ xs) (z ∷ zs) w e =
    let p = and_parts (weighs s l x) (weigh_all s l xs) w in
    let k : x.key ≡ z.key = cc in
    let ks : keys xs ≡ keys zs = cc in
    let o = one_masked s l h x z p.0 k in
    let os = keys_masked s l h xs zs p.1 ks in
    λ i. o i ∷ os i

-- THE PARTITIONS THAT WERE READ
pub reads_masked : (s : Sizes) (bs : List ℕ) (os : List Order) → Walks s (part_sound s bs) (beta s) front (front ∷ os) → Up 1 os → (j : ℕ) (x : Order) → suc j ≤ beta s → Heading s os (suc j) x →
    part_sound s bs (suc j) x.key ≡ map (masked (suc j)) (part s os (suc j) x.key)
reads_masked s bs os walk u zero x h k = reads_one s (part_sound s bs) os walk u x k ∙ sym (masked_one (part s os 1 x.key))
reads_masked s bs os walk u (suc j) x h k =
    keys_masked s (suc (suc j)) (λ e. omega arith) (part_sound s bs (suc (suc j)) x.key) (part s os (suc (suc j)) x.key) (weigh_read s bs (suc (suc j)) x.key) (reads_keys s (part_sound s bs) os walk u (suc j) x h k)

-- ---- WHAT HEADS a partition that is not empty

pub record HeadOf (s : Sizes) (os : List Order) (l f : ℕ) : Type 0 where
  pub node : Order
  pub key : node.key ≡ f
  pub heads : Heading s os l node

module _ (s : Sizes) (os : List Order) (u : Up 1 os) (l f : ℕ) where
  from_orders : (zs pre : List Order) → os ≡ pre ++ zs → 0 < length (from_key (starts_one s l) f (at_least s l zs)) → HeadOf s os l f
  unfolding from_key at_least
  from_orders [] pre e h = absurd (omega arith)
  from_orders (z ∷ zs) pre e h =
      go (from_orders zs (pre ++ z ∷ []) (e ∙ sym (append_assoc pre (z ∷ []) zs))) (leb l (level s z.key)) h
    where
      high : starts_one s l z ≡ true → l < level s z.key
      high q = by (ltb l (level s z.key)) refl
        where
          by : (t : Bool) → ltb l (level s z.key) ≡ t → l < level s z.key
          by true g = ltb-true l (level s z.key) g
          by false g = absurd (true≢false (sym q ∙ stays s l z (up_past pre z zs 1 (subst (Up 1) e u)) (ltb-false l (level s z.key) g)))

      pick_it : (0 < length (from_key (starts_one s l) f (at_least s l zs)) → HeadOf s os l f) → (a b : Bool) → eqb z.key f ≡ a → starts_one s l z ≡ b →
          0 < length (cond (a && b) (z ∷ run (starts_one s l) (at_least s l zs)) (from_key (starts_one s l) f (at_least s l zs))) → HeadOf s os l f
      pick_it ih true true ea eb h = record { node = z; key = eqb-true z.key f ea; heads = inr (record { before = pre; behind = zs; is = e }, high eb) }
      pick_it ih true false ea eb h = ih h
      pick_it ih false b ea eb h = ih h

      go : (0 < length (from_key (starts_one s l) f (at_least s l zs)) → HeadOf s os l f) → (t : Bool) →
          0 < length (from_key (starts_one s l) f (cond t (z ∷ at_least s l zs) (at_least s l zs))) → HeadOf s os l f
      go ih true h = pick_it ih (eqb z.key f) (starts_one s l z) refl refl h
      go ih false h = ih h

  pub head_of : 0 < length (part s os l f) → HeadOf s os l f
  unfolding list_at from_key front
  head_of h = go (eqb 0 f) (starts_one s l front) refl (subst (λ (p : List Order). 0 < length p) (part_direct s os l f u) h)
    where
      X : List Order
      X = at_least s l os

      go : (a b : Bool) → eqb 0 f ≡ a → 0 < length (cond (a && b) (front ∷ run (starts_one s l) X) (from_key (starts_one s l) f X)) → HeadOf s os l f
      go true true ea h = record { node = front; key = eqb-true 0 f ea; heads = inl refl }
      go true false ea h = from_orders os [] refl h
      go false b ea h = from_orders os [] refl h

-- ---- A PARTITION is the one that its first key heads

among_pick : (ps : List (List Order)) (p : List Order) (a : ℕ) → Heads a ps → Among p ps → (a ≤ first_key p) × (pick (first_key p) ps ≡ p)
unfolding pick
among_pick [] p a u h = absurd h
among_pick (q ∷ ps) p a u (inl e) =
    (rw e u.0, subst (λ (r : List Order). pick (first_key r) (q ∷ ps) ≡ r) (sym e) (pick_at [] q ps a u))
among_pick (q ∷ ps) p a u (inr h) =
    let w = among_pick ps p (suc (first_key q)) u.1 h in
    (omega (arith, u.0, w.0), rw (ne_eqb (first_key q) (first_key p) (λ z. omega (arith, z, w.0))) w.1)

pub among_part : (s : Sizes) (os : List Order) (l : ℕ) (p : List Order) → Up 1 os → Among p (partitions s l (list_at s l os)) → part s os l (first_key p) ≡ p
unfolding part
among_part s os l p u h = (among_pick (partitions s l (list_at s l os)) p 0 (parts_heads s l os u) h).1
