-- How many chunks lie under a node, and that under the front at the top there are as many as the orders have.
use mathlib.Core.Path.{◌≡◌, refl, sym, ap, ◌∙◌, subst}
use mathlib.Core.Bool.{Bool, true, false, cond}
use mathlib.Core.List.{List, [], ◌∷◌, ◌++◌, append_assoc}
use mathlib.Core.Logic.{inl, inr}
use Prim.Native.Nat.{ℕ, zero, suc, ◌+◌, ◌≤◌, ◌<◌}
use native.Mathlib.Omega.{arith}
use lib.ListN.{length}
use Rattle.sizes.specs.Sizes.{beta}
use Rattle.sizes.specs.declared.Sizes.{Sizes}
use Rattle.placement.specs.declared.Order.{Order}
use Rattle.skiplist.specs.Lists.{front, at_least, list_at, starts_one, run, rest, first_key, chunks}
use Rattle.skiplist.proofs.Laws.Runs.{partitions_front}
use Rattle.skiplist.proofs.Laws.Parts.{Up, Heads, pick, part, pick_at}
use Rattle.skiplist.proofs.Laws.Edits.{parts_heads}
use Rattle.skiplist.proofs.Laws.Descent.{none_above}
use Rattle.skiplist.proofs.Laws.Walk.{each, starting, each_part, starting_above}
use Rattle.skiplist.proofs.Laws.Count.{pieces, pieces_all, count, counts, length_chunks}
use Rattle.skiplist.proofs.Laws.Opens.{keys, Exact, Spots, Heading, headed}

-- a number for each key, summed over some nodes
unfoldable pub under : ((key : ℕ) → ℕ) → List Order → ℕ
under f [] = 0
under f (n ∷ ns) = f n.key + under f ns

pub under_both : (f : (key : ℕ) → ℕ) (xs zs : List Order) → under f (xs ++ zs) ≡ under f xs + under f zs
unfolding under
under_both f [] zs = omega arith
under_both f (x ∷ xs) zs = omega (arith, under_both f xs zs)

-- THE CHUNKS UNDER A NODE, where T gives the partitions: those of its partition, and those under each of its nodes
unfoldable pub tally : Sizes → (T : (l f : ℕ) → List Order) → (l f : ℕ) → ℕ
tally s T zero f = 0
tally s T (suc l) f = pieces s.nodes (length (T (suc l) f)) + under (tally s T l) (T (suc l) f)

-- ---- a level at a time

pub parts_count : (b : ℕ) (st : Order → Bool) (xs : List Order) (qs : List (List Order)) (a : ℕ) → Heads a (qs ++ rest st xs) →
    under (λ f. pieces b (length (pick f (qs ++ rest st xs)))) (starting st xs) ≡ pieces_all b (rest st xs)
unfolding rest starting under pieces_all first_key
parts_count b st [] qs a u = refl
parts_count b st (x ∷ xs) qs a u = go (λ qs' u'. parts_count b st xs qs' a u') (st x) u
  where
    go : ((qs' : List (List Order)) → Heads a (qs' ++ rest st xs) → under (λ f. pieces b (length (pick f (qs' ++ rest st xs)))) (starting st xs) ≡ pieces_all b (rest st xs)) →
        (t : Bool) → Heads a (qs ++ cond t ((x ∷ run st xs) ∷ rest st xs) (rest st xs)) →
        under (λ f. pieces b (length (pick f (qs ++ cond t ((x ∷ run st xs) ∷ rest st xs) (rest st xs))))) (cond t (x ∷ starting st xs) (starting st xs)) ≡ pieces_all b (cond t ((x ∷ run st xs) ∷ rest st xs) (rest st xs))
    go ih true v =
        let e : qs ++ (x ∷ run st xs) ∷ [] ++ rest st xs ≡ qs ++ (x ∷ run st xs) ∷ rest st xs = append_assoc qs ((x ∷ run st xs) ∷ []) (rest st xs) in
        let h = subst (λ (r : List (List Order)). under (λ f. pieces b (length (pick f r))) (starting st xs) ≡ pieces_all b (rest st xs)) e (ih (qs ++ (x ∷ run st xs) ∷ []) (subst (Heads a) (sym e) v)) in
        let q : pieces b (length (pick x.key (qs ++ (x ∷ run st xs) ∷ rest st xs))) ≡ pieces b (length (x ∷ run st xs)) = ap (λ (r : List Order). pieces b (length r)) (pick_at qs (x ∷ run st xs) (rest st xs) a v) in
        omega (arith, q, h)
    go ih false v = ih qs v

pub level_count : (s : Sizes) (l : ℕ) (os : List Order) → Up 1 os → under (λ f. pieces s.nodes (length (part s os l f))) (list_at s (suc l) os) ≡ count s l os
unfolding part list_at under first_key count pieces_all
level_count s l os u =
    let X = at_least s l os in
    let st = starts_one s l in
    let v : Heads 0 ((front ∷ run st X) ∷ rest st X) = rw (partitions_front s l X) at (parts_heads s l os u) in
    let q : pieces s.nodes (length (pick front.key ((front ∷ run st X) ∷ rest st X))) ≡ pieces s.nodes (length (front ∷ run st X)) = ap (λ (r : List Order). pieces s.nodes (length r)) (pick_at [] (front ∷ run st X) (rest st X) 0 v) in
    let h = parts_count s.nodes st X ((front ∷ run st X) ∷ []) 0 v in
    subst (λ (ps : List (List Order)). under (λ f. pieces s.nodes (length (pick f ps))) (list_at s (suc l) os) ≡ pieces_all s.nodes ps) (sym (partitions_front s l X))
    (rw (← starting_above s l os u) (omega (arith, q, h)))

-- the highest of the counted levels comes last
pub counts_snoc : (n l : ℕ) (s : Sizes) (os : List Order) → counts (suc n) l s os ≡ counts n l s os + count s (l + n) os
unfolding counts
counts_snoc zero l s os =
    let e : l + 0 ≡ l = omega arith in
    rw e (omega arith)
counts_snoc (suc n) l s os =
    let e : suc l + n ≡ l + suc n = omega arith in
    omega (arith, rw e at (counts_snoc n (suc l) s os))

under_split : (a g : (key : ℕ) → ℕ) (p : (key : ℕ) → List Order) (xs : List Order) → under (λ f. a f + under g (p f)) xs ≡ under a xs + under g (each (λ x. p x.key) xs)
unfolding under each
under_split a g p [] = refl
under_split a g p (x ∷ xs) = omega (arith, under_split a g p xs, under_both g (p x.key) (each (λ x. p x.key) xs))

under_nothing : (xs : List Order) → under (λ f. 0) xs ≡ 0
unfolding under
under_nothing [] = refl
under_nothing (x ∷ xs) = omega (arith, under_nothing xs)

module _ (s : Sizes) (os : List Order) (u : Up 1 os) where
  sum_levels : (j : ℕ) → under (tally s (part s os) j) (list_at s (suc j) os) ≡ counts j 1 s os
  unfolding tally counts
  sum_levels zero = under_nothing (list_at s 1 os)
  sum_levels (suc j) =
      let e : 1 + j ≡ suc j = omega arith in
      under_split (λ f. pieces s.nodes (length (part s os (suc j) f))) (tally s (part s os) j) (part s os (suc j)) (list_at s (suc (suc j)) os)
      ∙ omega (arith, level_count s (suc j) os u, ap (under (tally s (part s os) j)) (each_part s (suc j) os u), sum_levels j, rw e at (counts_snoc j 1 s os))

  -- ALL CHUNKS lie under the front at the top
  pub tally_all : 0 < s.nodes → tally s (part s os) (beta s) 0 ≡ length (chunks s os)
  unfolding list_at under front
  tally_all h =
      let e = none_above s (suc (beta s)) os (omega arith) in
      omega (arith, rw e at (sum_levels (beta s)), length_chunks s os h)

-- ---- partitions with the same keys

keys_count : (xs : List Order) → length xs ≡ length (keys xs)
unfolding keys
keys_count [] = refl
keys_count (x ∷ xs) = ap suc (keys_count xs)

pub keys_length : (xs zs : List Order) → keys xs ≡ keys zs → length xs ≡ length zs
keys_length xs zs e = keys_count xs ∙ ap length e ∙ sym (keys_count zs)

sum_of : ((key : ℕ) → ℕ) → List ℕ → ℕ
sum_of f [] = 0
sum_of f (x ∷ xs) = f x + sum_of f xs

keys_sum : (f : (key : ℕ) → ℕ) (xs : List Order) → under f xs ≡ sum_of f (keys xs)
unfolding under keys sum_of
keys_sum f [] = refl
keys_sum f (x ∷ xs) = omega (arith, keys_sum f xs)

module _ (s : Sizes) (os : List Order) (u : Up 1 os) (T : (l f : ℕ) → List Order)
    (reads : (j : ℕ) (x : Order) → suc j ≤ beta s → Heading s os (suc j) x → keys (T (suc j) x.key) ≡ keys (part s os (suc j) x.key)) where
  lower : (l : ℕ) (x : Order) → Heading s os (suc l) x → Heading s os l x
  lower l x (inl e) = inl e
  lower l x (inr v) = inr (v.0, omega (arith, v.1))

  same_under : (l : ℕ) → ((x : Order) → Heading s os l x → tally s T l x.key ≡ tally s (part s os) l x.key) → (ns : List Order) → Exact s (suc l) ns → Spots ns os →
      under (tally s T l) ns ≡ under (tally s (part s os) l) ns
  unfolding under
  same_under l f [] e w = refl
  same_under l f (n ∷ ns) e w = omega (arith, f n (inr (w.0, omega (arith, e.0))), same_under l f ns e.1 w.1)

  pub same_tally : (l : ℕ) → l ≤ beta s → (x : Order) → Heading s os l x → tally s T l x.key ≡ tally s (part s os) l x.key
  unfolding tally under
  same_tally zero h x k = refl
  same_tally (suc l) h x k =
      let e = reads l x h k in
      let w = headed s os u (suc l) x k in
      let p = part s os (suc l) x.key in
      let a : pieces s.nodes (length (T (suc l) x.key)) ≡ pieces s.nodes (length p) = ap (pieces s.nodes) (keys_length (T (suc l) x.key) p e) in
      let b : under (tally s T l) (T (suc l) x.key) ≡ under (tally s T l) p = keys_sum (tally s T l) (T (suc l) x.key) ∙ ap (sum_of (tally s T l)) e ∙ sym (keys_sum (tally s T l) p) in
      let c : under (tally s T l) p ≡ under (tally s (part s os) l) p = rw w.is (omega (arith, same_tally l (omega arith) x (lower l x k), same_under l (same_tally l (omega arith)) w.ns w.exact w.spots)) in
      omega (arith, a, b, c)

  pub met_all : 0 < s.nodes → tally s T (beta s) 0 ≡ length (chunks s os)
  unfolding front
  met_all h = same_tally (beta s) (omega arith) front (inl refl) ∙ tally_all s os u h
