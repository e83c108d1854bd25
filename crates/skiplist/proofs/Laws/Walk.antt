-- A partition opens its nodes, and each node opens its partition one level down: that walk gives all orders, rising.
use mathlib.Core.Path.{◌≡◌, refl, ap, ◌∙◌}
use mathlib.Core.Bool.{Bool, true, false, cond}
use mathlib.Core.List.{List, [], ◌∷◌, ◌++◌, append_assoc, append-nil}
use Prim.Native.Nat.{ℕ, zero, suc}
use native.Mathlib.Omega.{arith}
use borrow.Author.Tests.{lt-ltb, le-ltb, le-leb, lt-leb}
use lib.Dec.{leb}
use Rattle.sizes.specs.Sizes.{beta}
use Rattle.sizes.specs.Hash.{level}
use Rattle.sizes.specs.declared.Sizes.{Sizes}
use Rattle.placement.specs.declared.Order.{Order}
use Rattle.sizes.proofs.Laws.Round.{Which, which, less, same, more}
use Rattle.skiplist.specs.Lists.{front, at_least, list_at, starts_one, run, rest, partitions, first_key}
unfoldable pub use Rattle.skiplist.specs.Parts.{each, spread}
use Rattle.skiplist.proofs.Laws.Runs.{partitions_front}
use Rattle.skiplist.proofs.Laws.Parts.{Up, Heads, up_from, pick, part, pick_at}
use Rattle.skiplist.proofs.Laws.Edits.{beta_least, starts, stays, parts_heads}
use Rattle.skiplist.proofs.Laws.Descent.{none_above, all_there}

pub each_append : (f : Order → List Order) (xs zs : List Order) → each f (xs ++ zs) ≡ each f xs ++ each f zs
unfolding each
each_append f [] zs = refl
each_append f (x ∷ xs) zs = rw (each_append f xs zs, append_assoc)

pub each_each : (f g : Order → List Order) (xs : List Order) → each (λ x. each f (g x)) xs ≡ each f (each g xs)
unfolding each
each_each f g [] = refl
each_each f g (x ∷ xs) = rw (each_each f g xs, each_append f (g x) (each g xs))

pub each_one : (xs : List Order) → each (λ x. x ∷ []) xs ≡ xs
unfolding each
each_one [] = refl
each_one (x ∷ xs) = rw (each_one xs)

unfoldable pub flat : List (List Order) → List Order
flat [] = []
flat (p ∷ ps) = p ++ flat ps

module _ (st : Order → Bool) where
  unfoldable pub starting : List Order → List Order
  starting [] = []
  starting (x ∷ xs) = cond (st x) (x ∷ starting xs) (starting xs)

  pub run_flat : (xs : List Order) → run st xs ++ flat (rest st xs) ≡ xs
  unfolding run rest flat
  run_flat [] = refl
  run_flat (x ∷ xs) = go (run_flat xs) (st x)
    where
      go : run st xs ++ flat (rest st xs) ≡ xs → (t : Bool) → cond t [] (x ∷ run st xs) ++ flat (cond t ((x ∷ run st xs) ∷ rest st xs) (rest st xs)) ≡ x ∷ xs
      go ih true = rw ih
      go ih false = rw ih

  -- each start opens its own partition
  pub each_rest : (xs : List Order) (qs : List (List Order)) (a : ℕ) → Heads a (qs ++ rest st xs) → each (λ x. pick x.key (qs ++ rest st xs)) (starting xs) ≡ flat (rest st xs)
  unfolding rest flat starting each first_key
  each_rest [] qs a u = refl
  each_rest (x ∷ xs) qs a u = go (λ qs' u'. each_rest xs qs' a u') (st x) u
    where
      go : ((qs' : List (List Order)) → Heads a (qs' ++ rest st xs) → each (λ x. pick x.key (qs' ++ rest st xs)) (starting xs) ≡ flat (rest st xs)) →
          (t : Bool) → Heads a (qs ++ cond t ((x ∷ run st xs) ∷ rest st xs) (rest st xs)) →
          each (λ z. pick z.key (qs ++ cond t ((x ∷ run st xs) ∷ rest st xs) (rest st xs))) (cond t (x ∷ starting xs) (starting xs)) ≡ flat (cond t ((x ∷ run st xs) ∷ rest st xs) (rest st xs))
      go ih true v =
          let e : qs ++ (x ∷ run st xs) ∷ [] ++ rest st xs ≡ qs ++ (x ∷ run st xs) ∷ rest st xs = append_assoc qs ((x ∷ run st xs) ∷ []) (rest st xs) in
          rw (pick_at qs (x ∷ run st xs) (rest st xs) a v)
          (ap (λ (r : List Order). x ∷ (run st xs ++ r)) (rw e at (ih (qs ++ (x ∷ run st xs) ∷ []) (rw e v))))
      go ih false v = ih qs v

module _ (s : Sizes) (l : ℕ) where
  -- the starts of a level are the list above
  pub starting_above : (xs : List Order) → Up 1 xs → starting (starts_one s l) (at_least s l xs) ≡ at_least s (suc l) xs
  unfolding starting at_least
  starting_above [] u = refl
  starting_above (x ∷ xs) u =
      go (starting_above xs (up_from xs (omega arith) u.1)) (which l (level s x.key))
    where
      go : starting (starts_one s l) (at_least s l xs) ≡ at_least s (suc l) xs → Which l (level s x.key) →
          starting (starts_one s l) (cond (leb l (level s x.key)) (x ∷ at_least s l xs) (at_least s l xs))
          ≡ cond (leb (suc l) (level s x.key)) (x ∷ at_least s (suc l) xs) (at_least s (suc l) xs)
      go ih (less h) = rw (le-leb l (level s x.key) (omega arith), lt-ltb l (level s x.key) h, starts s l x h, ih)
      go ih (same h) = rw (le-leb l (level s x.key) (omega arith), le-ltb l (level s x.key) (omega arith), stays s l x u.0 (omega arith), ih)
      go ih (more h) = rw (lt-leb l (level s x.key) h, le-ltb l (level s x.key) (omega arith), ih)

  -- the elements of a list open, together, the list below
  pub each_part : (os : List Order) → Up 1 os → each (λ x. part s os l x.key) (list_at s (suc l) os) ≡ list_at s l os
  unfolding part list_at each first_key
  each_part os u =
      let X = at_least s l os in
      let st = starts_one s l in
      let v : Heads 0 ((front ∷ run st X) ∷ rest st X) = rw (partitions_front s l X) at (parts_heads s l os u) in
      let w = ap (λ (ps : List (List Order)). each (λ (x : Order). pick x.key ps) (starting st X)) (partitions_front s l X) in
      rw (partitions_front s l X, ← starting_above os u, pick_at [] (front ∷ run st X) (rest st X) 0 v, w, each_rest st X ((front ∷ run st X) ∷ []) 0 v, run_flat st X)

pub run_none : (st : Order → Bool) (xs : List Order) → starting st xs ≡ [] → (run st xs ≡ xs) × (rest st xs ≡ [])
unfolding starting run rest
run_none st [] e = (refl, refl)
run_none st (x ∷ xs) e = go (λ e'. run_none st xs e') (st x) e
  where
    go : (starting st xs ≡ [] → (run st xs ≡ xs) × (rest st xs ≡ [])) → (t : Bool) → cond t (x ∷ starting st xs) (starting st xs) ≡ [] →
        (cond t [] (x ∷ run st xs) ≡ x ∷ xs) × (cond t ((x ∷ run st xs) ∷ rest st xs) (rest st xs) ≡ [])
    go ih true f = (cc, cc)
    go ih false f = (rw (ih f).0, (ih f).1)

module _ (s : Sizes) (os : List Order) (u : Up 1 os) where
  -- the top list is one partition
  pub parts_top : partitions s (beta s) (list_at s (beta s) os) ≡ list_at s (beta s) os ∷ []
  unfolding list_at
  parts_top =
      let w = run_none (starts_one s (beta s)) (at_least s (beta s) os) (starting_above s (beta s) os u ∙ none_above s (suc (beta s)) os (omega arith)) in
      rw (partitions_front s (beta s), w.0, w.1)

  pub part_top : part s os (beta s) 0 ≡ list_at s (beta s) os
  unfolding part list_at pick first_key front
  part_top = rw (parts_top, append-nil (at_least s (beta s) os))

  pub spread_all : (l : ℕ) → each (spread s os l) (list_at s (suc l) os) ≡ front ∷ os
  unfolding spread list_at
  spread_all zero = each_one (front ∷ at_least s 1 os) ∙ rw (all_there s os)
  spread_all (suc l) = each_each (spread s os l) (λ x. part s os (suc l) x.key) (list_at s (suc (suc l)) os) ∙ rw (each_part s (suc l) os u) (spread_all l)

  -- THE WALK from the front, at the top, gives the front and all orders
  pub walk_all : spread s os (beta s) front ≡ front ∷ os
  unfolding spread front
  walk_all = go (beta s) refl
    where
      go : (b : ℕ) → beta s ≡ b → spread s os b front ≡ front ∷ os
      go zero e = absurd (omega (arith, beta_least s))
      go (suc k) e = rw (rw e at part_top) (spread_all k)
