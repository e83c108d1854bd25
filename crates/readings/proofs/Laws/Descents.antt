-- The way down to one key: the order where it ends, and the path that is written.
use Rattle.std.proofs.Common.{Option, Some, None}
use Rattle.std.specs.Bool.{then_some}
use Rattle.std.specs.Option.{MatchOption, IsSomeAnd, option_map}
use Rattle.std.proofs.lemmas.Option.{cond_some}
use mathlib.Core.Path.{◌≡◌, refl, sym, ap, ◌∙◌, subst}
use mathlib.Core.Bool.{Bool, true, false, cond}
use mathlib.Core.List.{List, [], ◌∷◌, ◌++◌, append_assoc}
use Prim.Native.Nat.{ℕ, suc, ◌+◌, ◌*◌, ◌-◌, ◌≤◌, ◌<◌}
use native.Mathlib.Nat.{zero-add}
use native.Mathlib.Omega.{arith}
use borrow.Author.Tests.{ltb-true, lt-ltb, eq-eqb, ne_eqb, le-leb, lt-leb}
use lib.Dec.{ltb, eqb}
use lib.ListN.{length, take, drop, length-map}
use lib.Seq.{sets, sets-eq, take_at}
use Rattle.sizes.specs.Numbers.{field}
use Rattle.sizes.specs.Sizes.{beta, row}
use Rattle.sizes.specs.declared.Sizes.{Sizes}
use Rattle.sizes.specs.declared.Geometry.{Geometry}
use Rattle.placement.specs.Decode.{node_of}
use Rattle.placement.specs.declared.Order.{Order}
use Rattle.sizes.proofs.Laws.Sizes.{and_parts, row_least}
use Rattle.placement.proofs.Laws.Reading.{key_of}
use Rattle.skiplist.specs.Lists.{front}
use Rattle.skiplist.specs.Image.{orders_in}
use Rattle.skiplist.specs.Questions.{between}
use Rattle.skiplist.specs.Paths.{descent_path, path_bytes}
use Rattle.skiplist.proofs.Laws.Parts.{Up, up_from, up_front, below, below_here}
use Rattle.skiplist.proofs.Laws.Shapes.{Place, there, absent, place, up_behind}
use Rattle.skiplist.proofs.Laws.Segment.{between_above}
use Rattle.skiplist.proofs.Laws.Descent.{below_both, start_top}
use Rattle.skiplist.proofs.Laws.Nodes.{below_more}
use Rattle.table.proofs.Laws.Descents.{path_long}
use Rattle.levels.specs.declared.Trail.{Trail}
use Rattle.levels.specs.Edit.{Way}
use Rattle.levels.specs.Ways.{Trek, trek, starting, Inside, down_in, way_down}
use Rattle.levels.proofs.Laws.Numbers.{numbers_in, numbers_long, numbers_room, Goes, goes_down}
use Rattle.levels.proofs.Laws.Leading.{last_of, last_append, Ends}
use Rattle.levels.proofs.Laws.Arriving.{arrives, last_listed}
use Rattle.readings.specs.Visit.{Known, first_of}
use Rattle.readings.specs.Descent.{way, landed, standing, Written}
use Rattle.readings.proofs.Laws.Chunked.{orders_up}

-- THE ORDER OF A KEY among rising orders: those below it, and what comes then
between_behind : (lo hi : ℕ) (xs zs : List Order) → below lo xs ≡ true → between lo hi (xs ++ zs) ≡ between lo hi zs
unfolding between below
between_behind lo hi [] zs e = refl
between_behind lo hi (x ∷ xs) zs e =
    let w = and_parts (ltb x.key lo) (below lo xs) e in
    rw (lt-leb lo x.key (ltb-true x.key lo w.0)) (between_behind lo hi xs zs w.1)

found_there : (xs : List Order) (y : Order) (zs : List Order) → below y.key xs ≡ true → first_of (between y.key y.key (xs ++ y ∷ zs)) ≡ Some y
unfolding between first_of
found_there xs y zs e = rw (between_behind y.key y.key xs (y ∷ zs) e, le-leb y.key y.key (omega arith))

found_absent : (k : ℕ) (xs zs : List Order) → below k xs ≡ true → Up (suc k) zs → first_of (between k k (xs ++ zs)) ≡ None
unfolding first_of
found_absent k xs zs e u = rw (between_behind k k xs zs e, between_above k k (suc k) zs (omega arith) u)

-- the last of some orders below a key, or the front, has not the key
last_below : (k : ℕ) (z : Order) (xs : List Order) → z.key < k → below k xs ≡ true → (last_of z xs).key < k
unfolding last_of below
last_below k z [] h e = h
last_below k z (x ∷ xs) h e = let w = and_parts (ltb x.key k) (below k xs) e in last_below k x xs (ltb-true x.key k w.0) w.1

last_low : (k : ℕ) (xs : List Order) → 0 < k → below k xs ≡ true → (last_of front xs).key < k
unfolding front
last_low k xs h e = last_below k front xs h e

last_one : (z : Order) (xs : List Order) (y : Order) → last_of z (xs ++ y ∷ []) ≡ y
unfolding last_of
last_one z xs y = last_append z xs (y ∷ [])

below_one : (k : ℕ) (y : Order) → y.key < k → below k (y ∷ []) ≡ true
unfolding below
below_one k y h = rw (lt-ltb y.key k h)

-- what stands where a way has ended
landed_is : (s : Sizes) (bs : List ℕ) (k : ℕ) (t : Trail) (o : Order) → Ends s bs t o → landed (row s) bs t.at k ≡ cond (eqb o.key k) (Some o) None
unfolding landed standing
landed_is s bs k t o e = go t.at e.1
  where
    held : (a : ℕ) → node_of (row s) bs a ≡ o → (b : Bool) → option_map (node_of (row s) bs) (cond b (Some a) None) ≡ cond b (Some o) None
    held a e true = ap Some e
    held a e false = refl

    go : (at : Option ℕ) → IsSomeAnd at (λ a. node_of (row s) bs a ≡ o) → landed (row s) bs at k ≡ cond (eqb o.key k) (Some o) None
    go None e = absurd e
    go (Some a) e = ap (λ (z : Order). option_map (node_of (row s) bs) (cond (eqb z.key k) (Some a) None)) e ∙ held a e (eqb o.key k)

module _ (s : Sizes) (bs : List ℕ) (k : ℕ) where
  -- .. and its place, whose key is in the bytes
  pub standing_key : (at : Option ℕ) → Inside s bs at → (a : ℕ) → at ≡ Some a → a + 4 ≤ length bs
  standing_key at h a e =
      let r : a + row s ≤ length bs = rw e at h in
      omega (arith, r, row_least s)

  pub standing_is : (at : Option ℕ) → Inside s bs at → (r : Option ℕ) (Q : ℕ → Bool → Type 0) → MatchOption at (r ≡ None) (λ a. (b : Bool) × Q a b × (r ≡ then_some b a)) →
      ((a : ℕ) (b : Bool) → Q a b → b ≡ eqb (field a 4 bs) k) → (r ≡ standing (row s) bs at k) × Inside s bs r
  unfolding standing
  standing_is None h r Q e q = (e, rw e tt)
  standing_is (Some a) h r Q (b, eb, er) q = rw (er, key_of (row s) bs a, ← q a b eb) (go b)
    where
      go : (t : Bool) → (then_some t a ≡ cond t (Some a) None) × Inside s bs (then_some t a)
      go true = (refl, h)
      go false = (refl, tt)

  pub standing_there : (at : Option ℕ) (a : ℕ) → standing (row s) bs at k ≡ Some a → at ≡ Some a
  unfolding standing
  standing_there None a e = cc
  standing_there (Some b) a e = ap Some (cond_some (eqb (node_of (row s) bs b).key k) b a e).1

  -- the order at that place
  pub landed_at : (at p : Option ℕ) → p ≡ standing (row s) bs at k → (r : Option Order) (Q : ℕ → Order → Type 0) → MatchOption p (r ≡ None) (λ a. IsSomeAnd r (Q a)) →
      ((a : ℕ) (o : Order) → Q a o → o ≡ node_of (row s) bs a) → r ≡ landed (row s) bs at k
  unfolding landed
  landed_at at p ep r Q h q = go p r h ∙ ap (option_map (node_of (row s) bs)) ep
    where
      go : (p : Option ℕ) (r : Option Order) → MatchOption p (r ≡ None) (λ a. IsSomeAnd r (Q a)) → r ≡ option_map (node_of (row s) bs) p
      go None r h = h
      go (Some a) None h = absurd h
      go (Some a) (Some o) h = ap Some (q a o h)

  pub landed_none : (at : Option ℕ) → standing (row s) bs at k ≡ None → landed (row s) bs at k ≡ None
  unfolding landed
  landed_none at e = rw e

  pub landed_some : (at : Option ℕ) (a : ℕ) → standing (row s) bs at k ≡ Some a → landed (row s) bs at k ≡ Some (node_of (row s) bs a)
  unfolding landed
  landed_some at a e = rw e

-- the front of a list where it was written over
take_sets_front : (l vs : List ℕ) (n : ℕ) → length vs ≡ n → n ≤ length l → take n (sets l 0 vs) ≡ vs
take_sets_front l vs n e h = ap (take n) (sets-eq vs l 0 (omega arith)) ∙ take_at vs (drop (0 + length vs) l) n e

-- THE PATH, on any bytes: how many numbers it has, and what is written, do not depend on what it is written to
module _ (q : Geometry) (bs : List ℕ) (k : ℕ) where
  pub goes : Goes (down_in q.sizes bs 0 k (q.top - 0)) starting
  goes = goes_down q.sizes bs 0 k (q.top - 0) starting

  abbrev pub numbers : List ℕ
  numbers = goes.numbers

  pub way_path : (o : List ℕ) → (way q bs k o).path ≡ numbers_in o 0 numbers
  way_path o = ap (λ (x : Trek). x.path) (goes.is o)

  pub way_count : (o : List ℕ) → (way q bs k o).trail.count ≡ length numbers
  way_count o = ap (λ (x : Trek). x.trail.count) (goes.is o) ∙ goes.count ∙ zero-add _

  -- a short path that was kept
  pub path_kept : (count : ℕ) (short o : List ℕ) → Written q bs k count short → 2 * count ≤ length short → 2 * count ≤ length o →
      (z : List ℕ) → z ≡ sets o 0 (take (2 * count) (drop 0 short)) → z ≡ (way q bs k o).path
  path_kept count short o w h r z e =
      let c : count ≡ length numbers = w.number ∙ way_count w.output in
      let p : short ≡ numbers_in w.output 0 numbers = w.is ∙ way_path w.output in
      let l : 2 * (0 + length numbers) ≤ length w.output = omega (arith, ap length p, numbers_long w.output 0 numbers) in
      let front : take (2 * count) (drop 0 short) ≡ path_bytes numbers =
      rw (p, numbers_room w.output 0 numbers l, c) (take_sets_front w.output (path_bytes numbers) (2 * length numbers) (path_long numbers) (omega arith)) in
      e ∙ ap (sets o 0) front ∙ sym (way_path o ∙ numbers_room o 0 numbers (omega arith))

-- THE WAY in an image
module _ (s : Sizes) (bs : List ℕ) (w : Known s bs) (k : ℕ) (pos : 1 ≤ k) where
  -- where the orders are cut behind the key
  cut_way : (xs zs : List Order) → orders_in bs ≡ xs ++ zs → below (suc k) xs ≡ true → Up (suc k) zs → Way s bs (suc k) xs zs
  cut_way xs zs q b u =
      record { good = w.sizes_made; orders = rw q at w.good; fit = rw q at w.fit; is = sym (rw q at w.bytes); low = b; high = u; pos = omega arith }

  module _ (q : Geometry) (eq : q.sizes ≡ s) where
    -- .. the way ends at the last of those before, and its path is the one that the definition tells
    pub record Reached (o : List ℕ) (z : Order) : Type 0 where
      pub trail : Trail
      pub is : way q bs k o ≡ trek trail (numbers_in o 0 (descent_path s (orders_in bs) k))
      pub count : trail.count ≡ length (descent_path s (orders_in bs) k)
      pub ends : Ends s bs trail z

    by_cut : (xs zs : List Order) → orders_in bs ≡ xs ++ zs → below (suc k) xs ≡ true → Up (suc k) zs → (o : List ℕ) → Reached o (last_of front xs)
    unfolding descent_path
    by_cut xs zs e b u o =
        let v = cut_way xs zs e b u in
        let a = arrives s bs k xs zs v (beta s) (omega arith) starting (sym (start_top s xs (up_front xs zs 1 (rw e at (orders_up s bs w))))) o in
        let top : q.top - 0 ≡ beta s = omega (arith, q.top_is, ap beta eq) in
        record {
          trail = a.trail;
          is = rw (e, eq, top) a.is;
          count = rw (e, length-map) (a.count ∙ zero-add _);
          ends = rw (last_listed s xs) at (a.ended (omega (arith, q.top_least, q.top_is, ap beta eq))).ends;
        }

    -- THE ORDER OF THE KEY is what stands there, if it has the key
    pub ends_right : (o : List ℕ) → (z : Order) × Reached o z × (cond (eqb z.key k) (Some z) None ≡ first_of (between k k (orders_in bs)))
    ends_right o = go (place k 1 (orders_in bs) (orders_up s bs w))
      where
        go : Place k (orders_in bs) → (z : Order) × Reached o z × (cond (eqb z.key k) (Some z) None ≡ first_of (between k k (orders_in bs)))
        go (there xs y zs e h) =
            let u : Up 1 (xs ++ y ∷ zs) = rw e at (orders_up s bs w) in
            let b = below_here xs y zs 1 u in
            let low : below (suc k) (xs ++ y ∷ []) ≡ true =
            below_both (suc k) xs (y ∷ []) (below_more y.key (suc k) xs (omega arith) b) (below_one (suc k) y (omega arith)) in
            let z : last_of front (xs ++ y ∷ []) ≡ y = last_one front xs y in (
              y,
              subst (Reached o) z (by_cut (xs ++ y ∷ []) zs (e ∙ sym (append_assoc xs (y ∷ []) zs)) low (up_from zs (omega arith) (up_behind xs y zs 1 u)) o),
              rw (eq-eqb y.key k h, e, ← h) (sym (found_there xs y zs b)),
            )
        go (absent xs zs e b u) = (
          last_of front xs,
          by_cut xs zs e (below_more k (suc k) xs (omega arith) b) u o,
          rw (ne_eqb (last_of front xs).key k (λ h. omega (arith, last_low k xs (omega arith) b)), e) (sym (found_absent k xs zs b u)),
        )

    pub order_right : (o : List ℕ) (t : Trail) (z : List ℕ) → trek t z ≡ way q bs k o → (r : Option Order) → r ≡ landed (row q.sizes) bs t.at k → r ≡ first_of (between k k (orders_in bs))
    order_right o t z e r er =
        let v = ends_right o in
        er ∙ ap (λ (x : Sizes). landed (row x) bs t.at k) eq ∙ ap (λ (x : Trek). landed (row s) bs x.trail.at k) (e ∙ v.1.is) ∙ landed_is s bs k v.1.trail v.0 v.1.ends ∙ v.2

    -- .. by the way alone
    pub order_alone : (t : Trail) → t ≡ way_down q.sizes bs q.top 0 k → (r : Option Order) → r ≡ landed (row q.sizes) bs t.at k → r ≡ first_of (between k k (orders_in bs))
    unfolding way_down
    order_alone t e r er = order_right (0 ∷ []) t (way q bs k (0 ∷ [])).path (ap (λ (x : Trail). trek x (way q bs k (0 ∷ [])).path) e) r er
