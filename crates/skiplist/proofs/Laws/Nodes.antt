-- All nodes of a level, through all its chunks, are its list; and orders put in one by one, in whatever order, come out rising.
use mathlib.Core.Path.{◌≡◌, refl, sym, ap, ◌∙◌}
use mathlib.Core.Bool.{Bool, true, false, cond}
use mathlib.Core.List.{List, [], ◌∷◌, ◌++◌, map, append_assoc, append-nil, map-append}
use Prim.Native.Nat.{ℕ, zero, suc, ◌≤◌, ◌<◌}
use native.Mathlib.Omega.{arith}
use borrow.Author.Tests.{ltb-true, ltb-false, eq-eqb, ne_eqb, lt-ltb, le-ltb}
use lib.Dec.{ltb, eqb}
use lib.ListN.{length, drop, length-drop, length-map, take-append-drop}
use Rattle.sizes.specs.Orders.{sort_in}
use Rattle.sizes.specs.Sizes.{beta}
use Rattle.placement.specs.Chunks.{Chunk}
use Rattle.sizes.specs.declared.Sizes.{Sizes}
use Rattle.placement.specs.declared.Order.{Order}
use Rattle.placement.proofs.Laws.Cells.{cond_out}
use Rattle.skiplist.specs.Lists.{front, at_least, list_at, starts_one, partitions, first_key, masked, chunks_of, all_chunks, chunks}
use Rattle.skiplist.specs.Image.{into, all_into}
use Rattle.skiplist.proofs.Laws.Runs.{partitions_front}
use Rattle.skiplist.proofs.Laws.Parts.{Up, and_left, and_right, up_past, below, below_here}
use Rattle.skiplist.proofs.Laws.Shapes.{into_between}
use Rattle.skiplist.proofs.Laws.Descent.{all_there}
use Rattle.skiplist.proofs.Laws.Walk.{flat, run_flat}
use Rattle.skiplist.proofs.Laws.Masks.{masked_one}
use Rattle.skiplist.proofs.Laws.Content.{picked, picked_append, picked_from}

abbrev pub all_nodes : (l : ℕ) → List Chunk → List Order
all_nodes l cs = picked (λ w. eqb w.level l) cs

module _ (l : ℕ) where
  pub nodes_of : (k b f i : ℕ) (p : List Order) → 0 < b → length p ≤ k → all_nodes l (chunks_of k b l f i p) ≡ p
  unfolding picked chunks_of
  nodes_of zero b f i [] h g = refl
  nodes_of zero b f i (o ∷ os) h g = absurd (omega arith)
  nodes_of (suc k) b f i [] h g = refl
  nodes_of (suc k) b f i (o ∷ os) h g =
      rw (eq-eqb l l refl, nodes_of k b f (suc i) (drop b (o ∷ os)) h (simp length-drop (omega arith))) (take-append-drop b (o ∷ os))

  module _ (s : Sizes) where
    pub nodes_all : (ps : List (List Order)) → 0 < s.nodes → all_nodes l (all_chunks s l ps) ≡ map (masked l) (flat ps)
    unfolding picked all_chunks flat
    nodes_all [] h = refl
    nodes_all (p ∷ ps) h =
        rw (picked_append, nodes_of (length p) s.nodes (first_key p) 0 (map (masked l) p) h (simp length-map (omega arith)), nodes_all ps h, map-append)

    pub nodes_list : (os : List Order) → flat (partitions s l (list_at s l os)) ≡ list_at s l os
    unfolding flat list_at
    nodes_list os = rw (partitions_front s l (at_least s l os), run_flat (starts_one s l) (at_least s l os))

-- ALL NODES OF A LEVEL: its list, masked; of level 1: the front and the orders
pub nodes_level : (s : Sizes) (l : ℕ) (os : List Order) → 0 < s.nodes → 1 ≤ l → l ≤ beta s → all_nodes l (chunks s os) ≡ map (masked l) (list_at s l os)
unfolding chunks
nodes_level s l os b h g =
    picked_from _ s (beta s) 1 l os h (omega arith) (λ l' f n e. ne_eqb l' l e)
    ∙ nodes_all l s (partitions s l (list_at s l os)) b ∙ ap (map (masked l)) (nodes_list l s os)

pub nodes_one : (s : Sizes) (os : List Order) → 0 < s.nodes → 1 ≤ beta s → all_nodes 1 (chunks s os) ≡ front ∷ os
unfolding list_at
nodes_one s os b h = nodes_level s 1 os b (omega arith) h ∙ masked_one (list_at s 1 os) ∙ rw (all_there s os)

-- ONE BY ONE
pub all_into_append : (ms ns acc : List Order) → all_into (ms ++ ns) acc ≡ all_into ns (all_into ms acc)
unfolding all_into
all_into_append [] ns acc = refl
all_into_append (m ∷ ms) ns acc = all_into_append ms ns (cond (eqb m.key 0) acc (into m acc))

pub into_comm : (a b : Order) (os : List Order) → a.key < b.key → into a (into b os) ≡ into b (into a os)
unfolding sort_in
into_comm a b [] h = rw (lt-ltb a.key b.key h, le-ltb b.key a.key (omega arith))
into_comm a b (q ∷ os) h = go (into_comm a b os h) (ltb a.key q.key) refl (ltb b.key q.key) refl
  where
    go : into a (into b os) ≡ into b (into a os) → (t : Bool) → ltb a.key q.key ≡ t → (r : Bool) → ltb b.key q.key ≡ r →
        into a (cond r (b ∷ q ∷ os) (q ∷ into b os)) ≡ into b (cond t (a ∷ q ∷ os) (q ∷ into a os))
    go ih true e true f = rw (lt-ltb a.key b.key h, le-ltb b.key a.key (omega arith), f)
    go ih true e false f = rw (e, le-ltb b.key a.key (omega arith), f)
    go ih false e true f = absurd (omega (arith, ltb-false a.key q.key e, ltb-true b.key q.key f))
    go ih false e false f = rw (e, f, ih)

pub into_past : (n : Order) (vs acc : List Order) → below n.key vs ≡ true → into n (all_into vs acc) ≡ all_into vs (into n acc)
unfolding all_into below
into_past n [] acc e = refl
into_past n (v ∷ vs) acc e =
    let later = into_comm v n acc (ltb-true v.key n.key (and_left (ltb v.key n.key) (below n.key vs) e)) in
    into_past n vs (cond (eqb v.key 0) acc (into v acc)) (and_right (ltb v.key n.key) (below n.key vs) e)
    ∙ ap (all_into vs) (rw later (sym (cond_out (into n) (eqb v.key 0) acc (into v acc))))

pub below_more : (a b : ℕ) (xs : List Order) → a ≤ b → below a xs ≡ true → below b xs ≡ true
unfolding below
below_more a b [] h e = refl
below_more a b (x ∷ xs) h e =
    rw (lt-ltb x.key b (omega (arith, ltb-true x.key a (and_left (ltb x.key a) (below a xs) e)))) (below_more a b xs h (and_right (ltb x.key a) (below a xs) e))

-- rising ones after lower ones, or before them
pub all_comm : (a : ℕ) (ns vs acc : List Order) → Up a ns → below a vs ≡ true → all_into ns (all_into vs acc) ≡ all_into vs (all_into ns acc)
unfolding all_into
all_comm a [] vs acc u e = refl
all_comm a (n ∷ ns) vs acc u e =
    ap (all_into ns) (rw (into_past n vs acc (below_more a n.key vs u.0 e)) (cond_out (all_into vs) (eqb n.key 0) acc (into n acc)))
    ∙ all_comm (suc n.key) ns vs (cond (eqb n.key 0) acc (into n acc)) u.1 (below_more a (suc n.key) vs (omega (arith, u.0)) e)

-- rising ones come out as they are
pub all_rising : (xs zs : List Order) → Up 1 (xs ++ zs) → all_into zs xs ≡ xs ++ zs
unfolding all_into
all_rising xs [] u = sym (append-nil xs)
all_rising xs (z ∷ zs) u =
    rw (ne_eqb z.key 0 (omega (arith, up_past xs z zs 1 u)))
    (ap (all_into zs) (rw append-nil at (into_between z xs [] (below_here xs z zs 1 u) tt)) ∙ all_rising (xs ++ z ∷ []) zs (rw (append_assoc xs (z ∷ []) zs) u) ∙ append_assoc xs (z ∷ []) zs)
