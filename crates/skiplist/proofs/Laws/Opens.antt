-- For the check: partitions that were read, each opening its nodes and each node its partition one level down, are the partitions of the orders at the bottom.
use mathlib.Core.Path.{◌≡◌, refl, sym, ap, ◌∙◌, subst}
use mathlib.Core.Bool.{Bool, true, false, cond, false≢true}
use mathlib.Core.List.{List, [], ◌∷◌, ◌++◌, append_assoc, append-nil}
use mathlib.Core.Logic.{◌⊎◌, inl, inr}
use Prim.Native.Nat.{ℕ, zero, suc, ◌≤◌, ◌<◌}
use native.Mathlib.Omega.{arith}
use borrow.Author.Tests.{ltb-true, ltb-false, leb-true, le-leb, lt-leb}
use lib.Dec.{ltb, leb}
use lib.ListN.{length, length-append}
use Rattle.sizes.specs.Sizes.{beta}
use Rattle.sizes.specs.Hash.{level}
use Rattle.sizes.specs.declared.Sizes.{Sizes}
use Rattle.placement.specs.declared.Order.{Order}
use Rattle.skiplist.specs.Lists.{front, at_least, starts_one, run, first_key}
use Rattle.sizes.proofs.Laws.Round.{Which, which, less, same, more}
use Rattle.skiplist.proofs.Laws.Runs.{opened}
use Rattle.skiplist.proofs.Laws.Parts.{Up, up_from, at_least_append, part, up_front}
use Rattle.skiplist.proofs.Laws.Edits.{level_most, starts, head_part, tail_part, part_at, part_right}
use Rattle.skiplist.proofs.Laws.Shapes.{up_behind}
use Rattle.skiplist.proofs.Laws.Walk.{each, spread, walk_all}
use Rattle.skiplist.proofs.Laws.Segment.{Low, High, tail_segment, part_segment}

unfoldable pub keys : List Order → List ℕ
keys [] = []
keys (x ∷ xs) = x.key ∷ keys xs

-- no place in an empty list
pub nothing : (r : List Order) (y : Order) (v : List Order) → [] ≡ r ++ y ∷ v → ⊥
nothing r y v e = omega (arith, simp length-append at (ap length e))

module _ (s : Sizes) where
  -- every level in a list is l
  abbrev pub Exact : (l : ℕ) → List Order → Type 0
  Exact l [] = Unit {0}
  Exact l (x ∷ xs) = (level s x.key ≡ l) × Exact l xs

  pub low_more : (l m : ℕ) (xs : List Order) → l ≤ m → Low s l xs → Low s m xs
  low_more l m [] h u = tt
  low_more l m (x ∷ xs) h u = (omega (arith, u.0), low_more l m xs h u.1)

  pub low_both : (l : ℕ) (xs zs : List Order) → Low s l xs → Low s l zs → Low s l (xs ++ zs)
  low_both l [] zs u v = v
  low_both l (x ∷ xs) zs u v = (u.0, low_both l xs zs u.1 v)

  pub low_none : (l : ℕ) (xs : List Order) → Low s l xs → at_least s (suc l) xs ≡ []
  unfolding at_least
  low_none l [] u = refl
  low_none l (x ∷ xs) u = rw (lt-leb (suc l) (level s x.key) (omega (arith, u.0))) (low_none l xs u.1)

  pub low_at : (l : ℕ) (xs : List Order) (y : Order) (zs : List Order) → Low s l (xs ++ y ∷ zs) → level s y.key ≤ l
  low_at l [] y zs u = u.0
  low_at l (x ∷ xs) y zs u = low_at l xs y zs u.1

  module _ (T : (l f : ℕ) → List Order) where
    -- nodes, one after the other, and the orders under each
    abbrev pub Nodes : (Order → List Order → Type 0) → (nodes seg : List Order) → Type 0
    Nodes W [] seg = seg ≡ []
    Nodes W (x ∷ xs) seg = (a : List Order) × (b : List Order) × (seg ≡ a ++ b) × W x a × Nodes W xs b

    -- a node opens at level l and below: the orders under it
    abbrev pub Walks : (l : ℕ) → Order → (seg : List Order) → Type 0
    Walks zero x seg = seg ≡ x ∷ []
    Walks (suc l) x seg = (o : Order) × (ns : List Order) × (T (suc l) x.key ≡ o ∷ ns) × (o.key ≡ x.key) × Exact (suc l) ns × Nodes (Walks l) (o ∷ ns) seg

    abbrev pub Reads : (l : ℕ) → Order → List Order → Type 0
    Reads zero x rest = Unit {0}
    Reads (suc l) x rest = keys (T (suc l) x.key) ≡ x.key ∷ keys (at_least s (suc l) rest)

    pub record Shape (l : ℕ) (x : Order) (seg : List Order) : Type 0 where
      pub head : Order
      pub rest : List Order
      pub whole : seg ≡ head ∷ rest
      pub same : head.key ≡ x.key
      pub low : Low s l rest
      pub reads : Reads l x rest

    pub record Under (l : ℕ) (ns seg : List Order) : Type 0 where
      pub low : Low s (suc l) seg
      pub found : keys (at_least s (suc l) seg) ≡ keys ns

    pub under : (l : ℕ) → ((x : Order) (a : List Order) → Walks l x a → Shape l x a) → (ns seg : List Order) → Exact (suc l) ns → Nodes (Walks l) ns seg → Under l ns seg
    unfolding at_least keys
    under l f [] seg e w = record { low = rw w tt; found = rw w }
    under l f (n ∷ ns) seg e w =
        let a = w.0 in
        let b = w.1 in
        let p = f n a w.3 in
        let q = under l f ns b e.1 w.4 in
        let g : seg ≡ p.head ∷ (p.rest ++ b) = w.2 ∙ ap (λ (r : List Order). r ++ b) p.whole in
        let k : level s p.head.key ≡ suc l = rw p.same e.0 in
        record {
          low = rw g (omega (arith, k), low_both (suc l) p.rest b (low_more l (suc l) p.rest (omega arith) p.low) q.low);
          found =
              rw (g, le-leb (suc l) (level s p.head.key) (omega (arith, k)), at_least_append s (suc l) p.rest b, low_none l p.rest p.low, q.found, p.same);
        }

    pub shape : (l : ℕ) (x : Order) (seg : List Order) → Walks l x seg → Shape l x seg
    unfolding keys
    shape zero x seg w = record { head = x; rest = []; whole = w; same = refl; low = tt; reads = tt }
    shape (suc l) x seg w =
        let o = w.0 in
        let ns = w.1 in
        let n = w.5 in
        let p = shape l o n.0 n.3 in
        let q = under l (shape l) ns n.1 w.4 n.4 in
        record {
          head = p.head;
          rest = p.rest ++ n.1;
          whole = n.2 ∙ ap (λ (r : List Order). r ++ n.1) p.whole;
          same = p.same ∙ w.3;
          low = low_both (suc l) p.rest n.1 (low_more l (suc l) p.rest (omega arith) p.low) q.low;
          reads = rw (w.2, at_least_append s (suc l) p.rest n.1, low_none l p.rest p.low, q.found, w.3);
        }

    -- a walk that was found inside another
    pub record Found (j : ℕ) (y : Order) (v : List Order) : Type 0 where
      pub mine : List Order
      pub others : List Order
      pub whole : v ≡ mine ++ others
      pub node : Order
      pub same : node.key ≡ y.key
      pub walk : Walks j node (y ∷ mine)
      pub high : High s j others

    pub nodes_high : (l j : ℕ) (ns b : List Order) → j ≤ l → Exact (suc l) ns → Nodes (Walks l) ns b → High s j b
    nodes_high l j [] b h e w = rw w tt
    nodes_high l j (n ∷ ns) b h e w =
        let p = shape l n w.0 w.3 in
        rw (w.2, p.whole) (rw (p.same, e.0) (omega arith))

high_both : (s : Sizes) (j : ℕ) (c b : List Order) → High s j c → High s j b → High s j (c ++ b)
high_both s j [] b u v = v
high_both s j (x ∷ c) b u v = u

-- where a place in two lists lies
pub data Split (a b u : List Order) (y : Order) (v : List Order) : Type 0 where
  left : (w : List Order) → a ≡ u ++ y ∷ w → v ≡ w ++ b → Split a b u y v
  right : (w : List Order) → u ≡ a ++ w → b ≡ w ++ y ∷ v → Split a b u y v

head_same : (x y : Order) (a b : List Order) → x ∷ a ≡ y ∷ b → (x ≡ y) × (a ≡ b)
head_same x y a b e = (cc, cc)

pub split : (a b u : List Order) (y : Order) (v : List Order) → a ++ b ≡ u ++ y ∷ v → Split a b u y v
split [] b u y v e = right u refl e
split (x ∷ a) b [] y v e = let w = head_same x y (a ++ b) v e in left a (ap (λ (z : Order). z ∷ a) w.0) (sym w.1)
split (x ∷ a) b (z ∷ u) y v e = go (split a b u y v w.1)
  where
    w : (x ≡ z) × (a ++ b ≡ u ++ y ∷ v)
    w = head_same x z (a ++ b) (u ++ y ∷ v) e

    go : Split a b u y v → Split (x ∷ a) b (z ∷ u) y v
    go (left r p q) = left r (rw (w.0, p)) q
    go (right r p q) = right r (rw (w.0, p)) q

module _ (s : Sizes) (T : (l f : ℕ) → List Order) where
  -- each place of seg, but the first of a level that is not above j, is found in a walk of level j
  abbrev Dives : (j : ℕ) → (seg : List Order) → Type 0
  Dives j seg = (u : List Order) (y : Order) (v : List Order) → seg ≡ u ++ y ∷ v → (0 < length u → j < level s y.key) → Found s T j y v

  here : (l : ℕ) (x : Order) (seg : List Order) → Walks s T l x seg → Dives l seg
  here l x seg w [] y v e h =
      let p = shape s T l x seg w in
      let q = head_same p.head y p.rest v (sym p.whole ∙ e) in
      record { mine = v; others = []; whole = sym (append-nil v); node = x; same = sym p.same ∙ ap (λ (z : Order). z.key) q.0; walk = subst (Walks s T l x) e w; high = tt }
  here l x seg w (z ∷ u) y v e h =
      let p = shape s T l x seg w in
      let q = head_same p.head z p.rest (u ++ y ∷ v) (sym p.whole ∙ e) in
      absurd (omega (arith, h (omega arith), low_at s l u y v (rw q.1 at p.low)))

  -- .. so in two parts, if it is in each
  both_dive : (j : ℕ) (a b : List Order) → Dives j a → High s j b → Dives j b → Dives j (a ++ b)
  both_dive j a b p k q u y v e g = go (split a b u y v e)
    where
      go : Split a b u y v → Found s T j y v
      go (left r m o) =
          let x = p u y r m g in
          record {
            mine = x.mine;
            others = x.others ++ b;
            whole = o ∙ ap (λ (z : List Order). z ++ b) x.whole ∙ append_assoc x.mine x.others b;
            node = x.node;
            same = x.same;
            walk = x.walk;
            high = high_both s j x.others b x.high k;
          }
      go (right r m o) = q r y v o (λ k. g (omega (arith, k, simp length-append at (ap length m))))

  nodes_dive : (l j : ℕ) → ((x : Order) (seg : List Order) → Walks s T l x seg → Dives j seg) → j ≤ l
      → (ns seg : List Order) → Exact s (suc l) ns → Nodes s T (Walks s T l) ns seg → Dives j seg
  nodes_dive l j f h [] seg ex w u y v e g = absurd (nothing u y v (sym w ∙ e))
  nodes_dive l j f h (n ∷ ns) seg ex w u y v e g =
      both_dive j w.0 w.1 (f n w.0 w.3) (nodes_high s T l j ns w.1 h ex.1 w.4) (nodes_dive l j f h ns w.1 ex.1 w.4) u y v (sym w.2 ∙ e) g

  pub dive : (l : ℕ) (x : Order) (seg : List Order) → Walks s T l x seg → (j : ℕ) → j ≤ l → (u : List Order) (y : Order) (v : List Order) → seg ≡ u ++ y ∷ v → (0 < length u → j < level s y.key) → Found s T j y v
  dive zero x seg w j h u y v e g = subst (λ (i : ℕ). Found s T i y v) (omega arith) (here 0 x seg w u y v e (λ k. omega (arith, g k)))
  dive (suc l) x seg w j h u y v e g = go (λ k x seg w. dive l x seg w j k) (which (suc l) j)
    where
      go : (j ≤ l → (x : Order) (seg : List Order) → Walks s T l x seg → Dives j seg) → Which (suc l) j → Found s T j y v
      go ih (less k) = absurd (omega arith)
      go ih (same k) = subst (λ (i : ℕ). Found s T i y v) k (here (suc l) x seg w u y v e (λ z. omega (arith, g z, k)))
      go ih (more k) =
          let n = w.5 in
          let f = ih (omega arith) in
          both_dive j n.0 n.1 (f w.0 n.0 n.3) (nodes_high s T l j w.1 n.1 (omega arith) w.4 n.4)
          (nodes_dive l j f (omega arith) w.1 n.1 w.4 n.4) u y v (sym n.2 ∙ e) g

  -- THE PARTITIONS THAT WERE READ are those of the orders at the bottom
  pub record Piece (j : ℕ) (y : Order) (mine : List Order) : Type 0 where
    pub low : Low s (suc j) mine
    pub reads : keys (T (suc j) y.key) ≡ y.key ∷ keys (at_least s (suc j) mine)

  pub found_piece : (j : ℕ) (y : Order) (mine : List Order) (x : Order) → x.key ≡ y.key → Walks s T (suc j) x (y ∷ mine) → Piece j y mine
  found_piece j y mine x e w =
      let p = shape s T (suc j) x (y ∷ mine) w in
      let q : p.rest ≡ mine = sym (head_same y p.head mine p.rest p.whole).1 in
      record {
        low = subst (Low s (suc j)) q p.low;
        reads =
            subst (λ (k : ℕ). keys (T (suc j) k) ≡ k ∷ keys (at_least s (suc j) mine)) e
            (subst (λ (r : List Order). keys (T (suc j) x.key) ≡ x.key ∷ keys (at_least s (suc j) r)) q p.reads);
      }

  pub read_part : (o : Order) (os : List Order) → Walks s T (beta s) front (o ∷ os) → Up 1 os →
      (j : ℕ) (xs : List Order) (y : Order) (zs : List Order) → os ≡ xs ++ y ∷ zs → suc j < level s y.key → keys (T (suc j) y.key) ≡ keys (part s os (suc j) y.key)
  unfolding keys
  read_part o os w u j xs y zs e h =
      let f = dive (beta s) front (o ∷ os) w (suc j) (omega (arith, level_most s y.key)) (o ∷ xs) y zs (ap (λ (r : List Order). o ∷ r) e) (λ k. h) in
      let p = found_piece j y f.mine f.node f.same f.walk in
      let g : os ≡ xs ++ y ∷ (f.mine ++ f.others) = e ∙ ap (λ (r : List Order). xs ++ y ∷ r) f.whole in
      let v = subst (Up 1) g u in
      let m : Up 1 f.mine = up_front f.mine f.others 1 (up_from (f.mine ++ f.others) (omega arith) (up_behind xs y (f.mine ++ f.others) 1 v)) in
      p.reads ∙ sym (ap (λ (z : List Order). keys (part s z (suc j) y.key)) g ∙ ap keys (part_segment s (suc j) xs y f.mine f.others v m h p.low f.high))

  pub part_front : (l : ℕ) (os : List Order) → Up 1 os → part s os l 0 ≡ front ∷ tail_part s l os
  unfolding head_part at_least opened first_key front
  part_front l os u = part_at s l [] os u

  pub read_front : (o : Order) (os : List Order) → Walks s T (beta s) front (o ∷ os) → Up 1 os → (j : ℕ) → suc j ≤ beta s → keys (T (suc j) 0) ≡ keys (part s os (suc j) 0)
  unfolding keys front
  read_front o os w u j h =
      let f = dive (beta s) front (o ∷ os) w (suc j) h [] o os refl (λ k. absurd (omega arith)) in
      let q = found_piece j o f.mine f.node f.same f.walk in
      let m : Up 1 f.mine = up_front f.mine f.others 1 (subst (Up 1) f.whole u) in
      let s₀ = shape s T (beta s) front (o ∷ os) w in
      let z : o.key ≡ 0 = ap (λ (z : Order). z.key) (head_same o s₀.head os s₀.rest s₀.whole).0 ∙ s₀.same in
      let a : keys (T (suc j) 0) ≡ 0 ∷ keys (at_least s (suc j) f.mine) =
      subst (λ (k : ℕ). keys (T (suc j) k) ≡ k ∷ keys (at_least s (suc j) f.mine)) z q.reads in
      let b : tail_part s (suc j) os ≡ at_least s (suc j) f.mine =
      ap (tail_part s (suc j)) f.whole ∙ tail_segment s (suc j) f.mine f.others m q.low f.high in
      a ∙ sym (ap keys (part_front (suc j) os u ∙ ap (λ (r : List Order). front ∷ r) b))

  -- at level 1 with quantities
  pub one_nodes : (ns seg : List Order) → Nodes s T (Walks s T zero) ns seg → seg ≡ ns
  one_nodes [] seg w = w
  one_nodes (n ∷ ns) seg w = w.2 ∙ rw (w.3, one_nodes ns w.1 w.4)

  pub one_level : (x : Order) (seg : List Order) → Walks s T 1 x seg → T 1 x.key ≡ seg
  one_level x seg w = w.2 ∙ sym (one_nodes (w.0 ∷ w.1) seg w.5)

-- THE OTHER WAY: the partitions of some orders open one another
module _ (s : Sizes) (l : ℕ) where
  pub not_starting : (y : Order) → starts_one s l y ≡ false → level s y.key ≤ l
  not_starting y e = go (ltb l (level s y.key)) refl
    where
      go : (t : Bool) → ltb l (level s y.key) ≡ t → level s y.key ≤ l
      go true f = absurd (false≢true (sym e ∙ starts s l y (ltb-true l (level s y.key) f)))
      go false f = ltb-false l (level s y.key) f

  pub exact_tail : (zs : List Order) → Exact s l (tail_part s l zs)
  unfolding tail_part at_least run
  exact_tail [] = tt
  exact_tail (z ∷ zs) = go (exact_tail zs) (leb l (level s z.key)) refl (starts_one s l z) refl
    where
      go : Exact s l (run (starts_one s l) (at_least s l zs)) → (t : Bool) → leb l (level s z.key) ≡ t → (r : Bool) → starts_one s l z ≡ r →
          Exact s l (run (starts_one s l) (cond t (z ∷ at_least s l zs) (at_least s l zs)))
      go ih true e true f = rw f tt
      go ih true e false f = rw f (omega (arith, leb-true l (level s z.key) e, not_starting z f), ih)
      go ih false e r f = ih

pub record Spot (n : Order) (os : List Order) : Type 0 where
  pub before : List Order
  pub behind : List Order
  pub is : os ≡ before ++ n ∷ behind

abbrev pub Spots : (ns os : List Order) → Type 0
Spots [] os = Unit {0}
Spots (n ∷ ns) os = Spot n os × Spots ns os

pub spots_tail : (s : Sizes) (l : ℕ) (zs pre os : List Order) → os ≡ pre ++ zs → Spots (tail_part s l zs) os
unfolding tail_part at_least run
spots_tail s l [] pre os e = tt
spots_tail s l (z ∷ zs) pre os e = go (spots_tail s l zs (pre ++ z ∷ []) os (e ∙ sym (append_assoc pre (z ∷ []) zs))) (leb l (level s z.key)) (starts_one s l z) refl
  where
    go : Spots (run (starts_one s l) (at_least s l zs)) os → (t r : Bool) → starts_one s l z ≡ r → Spots (run (starts_one s l) (cond t (z ∷ at_least s l zs) (at_least s l zs))) os
    go ih true true f = rw f tt
    go ih true false f = rw f (record { before = pre; behind = zs; is = e }, ih)
    go ih false r f = ih

-- nodes that head a partition of level l: the front, and orders of a level above
abbrev pub Heading : Sizes → List Order → (l : ℕ) → Order → Type 0
Heading s os l x = (x ≡ front) ⊎ (Spot x os × (l < level s x.key))

pub record Headed (s : Sizes) (os : List Order) (l : ℕ) (x : Order) : Type 0 where
  pub ns : List Order
  pub is : part s os l x.key ≡ x ∷ ns
  pub exact : Exact s l ns
  pub spots : Spots ns os

pub headed : (s : Sizes) (os : List Order) → Up 1 os → (l : ℕ) (x : Order) → Heading s os l x → Headed s os l x
unfolding front
headed s os u l x (inl e) =
    record {
      ns = tail_part s l os;
      is = subst (λ (z : Order). part s os l z.key ≡ z ∷ tail_part s l os) (sym e) (part_front s (λ a b. []) l os u);
      exact = exact_tail s l os;
      spots = spots_tail s l os [] os refl;
    }
headed s os u l x (inr w) =
    let zs = w.0.behind in
    let xs = w.0.before in
    record {
      ns = tail_part s l zs;
      is = ap (λ (z : List Order). part s z l x.key) w.0.is ∙ part_right s l xs x zs (subst (Up 1) w.0.is u) w.1;
      exact = exact_tail s l zs;
      spots = spots_tail s l zs (xs ++ x ∷ []) os (w.0.is ∙ sym (append_assoc xs (x ∷ []) zs));
    }

module _ (s : Sizes) (os : List Order) (u : Up 1 os) where
  nodes_part : (l : ℕ) → ((x : Order) → Heading s os l x → Walks s (part s os) l x (spread s os l x)) → (ns : List Order) → Exact s (suc l) ns → Spots ns os → Nodes s (part s os) (Walks s (part s os) l) ns (each (spread s os l) ns)
  unfolding each
  nodes_part l f [] e w = refl
  nodes_part l f (n ∷ ns) e w = (spread s os l n, each (spread s os l) ns, refl, f n (inr (w.0, omega (arith, e.0))), nodes_part l f ns e.1 w.1)

  pub walks_part : (l : ℕ) (x : Order) → Heading s os l x → Walks s (part s os) l x (spread s os l x)
  unfolding spread each
  walks_part zero x h = refl
  walks_part (suc l) x h =
      let w = headed s os u (suc l) x h in
      (x, w.ns, w.is, refl, w.exact, (spread s os l x, each (spread s os l) w.ns, ap (each (spread s os l)) w.is, walks_part l x (lower h), nodes_part l (walks_part l) w.ns w.exact w.spots))
    where
      lower : Heading s os (suc l) x → Heading s os l x
      lower (inl e) = inl e
      lower (inr v) = inr (v.0, omega (arith, v.1))

  -- FROM THE TOP
  pub walks_all : Walks s (part s os) (beta s) front (front ∷ os)
  walks_all = subst (Walks s (part s os) (beta s) front) (walk_all s os u) (walks_part (beta s) front (inl refl))
