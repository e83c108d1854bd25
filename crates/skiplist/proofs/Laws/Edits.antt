-- What one more order does to the partition that a key heads, at each level.
use mathlib.Core.Path.{◌≡◌, refl, sym, ap, ◌∙◌}
use mathlib.Core.Bool.{Bool, true, false, cond, or-true, and-false}
use mathlib.Core.List.{List, [], ◌∷◌, ◌++◌, append_assoc, append-nil}
use Prim.Native.Nat.{ℕ, zero, suc, ◌+◌, ◌-◌, ◌%◌, ◌^◌, ◌≤◌, ◌<◌}
use native.Mathlib.Omega.{arith}
use borrow.Author.Tests.{ltb-true, ltb-false, eqb-true, eqb-false, ne_eqb, le-leb, lt-leb, lt-ltb, le-ltb}
use lib.Dec.{ltb, leb, eqb}
use lib.ListN.{length, length-append}
use Rattle.sizes.specs.Sizes.{beta}
use Rattle.sizes.specs.Hash.{h, divides_from, level}
use Rattle.sizes.specs.declared.Sizes.{Sizes}
use Rattle.placement.specs.declared.Order.{Order}
use Rattle.placement.proofs.Laws.Cells.{cond_valid}
use Rattle.skiplist.specs.Lists.{front, at_least, list_at, starts_one, run, rest, partitions, first_key}
unfoldable pub use Rattle.skiplist.specs.Parts.{head_part}
use Rattle.skiplist.proofs.Laws.Runs.{closed, opened, runs_split, partitions_front}
use Rattle.skiplist.proofs.Laws.Parts.{Up, Heads, up_past, first_more, at_least_append, at_least_up, rest_heads, pick, part, pick_at, pick_other}

pub divides_most : (left j c v : ℕ) → divides_from left j c v ≤ j + left
unfolding divides_from
divides_most zero j c v = omega arith
divides_most (suc k) j c v =
    cond_valid (λ n. n ≤ j + suc k) (eqb (v % c ^ suc j) 0) (omega (arith, divides_most k (suc j) c v)) (omega arith)

pub beta_least : (s : Sizes) → 2 ≤ beta s
unfolding beta
beta_least s = omega arith

pub level_most : (s : Sizes) (x : ℕ) → level s x ≤ beta s
unfolding level
level_most s x =
    cond_valid (λ n. n ≤ beta s) (eqb x 0) (omega arith) (omega (arith, beta_least s, divides_most (beta s - 1) 0 s.gamma (h s x)))

pub level_least : (s : Sizes) (x : ℕ) → 1 ≤ level s x
unfolding level
level_least s x = cond_valid (λ n. 1 ≤ n) (eqb x 0) (omega (arith, beta_least s)) (omega arith)

pub opened_long : (st : Order → Bool) (p xs : List Order) → 0 < length p → 0 < length (opened st p xs)
unfolding opened
opened_long st p [] h = h
opened_long st p (x ∷ xs) h =
    cond_valid (λ (q : List Order). 0 < length q) (st x) (opened_long st (x ∷ []) xs (omega arith)) (opened_long st (p ++ x ∷ []) xs (simp length-append (omega arith)))

module _ (s : Sizes) (l : ℕ) where
  -- an order of a higher level starts a partition, and one of this level none
  pub starts : (y : Order) → l < level s y.key → starts_one s l y ≡ true
  unfolding starts_one
  starts y h = rw (lt-ltb l (beta s) (omega (arith, level_most s y.key)), lt-ltb l (level s y.key) h) (or-true (eqb y.key 0))

  pub stays : (y : Order) → 0 < y.key → level s y.key ≤ l → starts_one s l y ≡ false
  unfolding starts_one
  stays y p h = rw (ne_eqb y.key 0 (omega arith), le-ltb l (level s y.key) h) (and-false (ltb l (beta s)))

  -- what some orders go on with the partition that is open
  unfoldable pub tail_part : List Order → List Order
  tail_part zs = run (starts_one s l) (at_least s l zs)

  unfoldable pub parts_before : List Order → List (List Order)
  parts_before xs = closed (starts_one s l) (front ∷ []) (at_least s l xs)

  unfoldable pub parts_after : List Order → List (List Order)
  parts_after zs = rest (starts_one s l) (at_least s l zs)

  pub parts_split : (xs zs : List Order) → partitions s l (list_at s l (xs ++ zs)) ≡ parts_before xs ++ (head_part s l xs ++ tail_part zs) ∷ parts_after zs
  unfolding list_at head_part tail_part parts_before parts_after
  parts_split xs zs = rw (at_least_append s l xs zs, partitions_front s l) (runs_split (starts_one s l) (front ∷ []) (at_least s l xs) (at_least s l zs))

  pub parts_heads : (os : List Order) → Up 1 os → Heads 0 (partitions s l (list_at s l os))
  unfolding list_at front first_key
  parts_heads os u = rw (partitions_front s l) (omega arith, rest_heads (starts_one s l) 1 (at_least s l os) (at_least_up s l 1 os u))

  -- the open partition is never empty, and what goes on leaves its first key
  pub head_part_long : (xs : List Order) → 0 < length (head_part s l xs)
  unfolding head_part
  head_part_long xs = opened_long (starts_one s l) (front ∷ []) (at_least s l xs) (omega arith)

  pub head_part_first : (xs qs : List Order) → first_key (head_part s l xs ++ qs) ≡ first_key (head_part s l xs)
  head_part_first xs qs = first_more (head_part s l xs) qs (head_part_long xs)

  -- what y, before some orders, goes on with and starts
  pub tail_low : (y : Order) (zs : List Order) → level s y.key < l → tail_part (y ∷ zs) ≡ tail_part zs
  unfolding tail_part at_least
  tail_low y zs h = rw (lt-leb l (level s y.key) h)

  pub tail_same : (y : Order) (zs : List Order) → 0 < y.key → level s y.key ≡ l → tail_part (y ∷ zs) ≡ y ∷ tail_part zs
  unfolding tail_part at_least run
  tail_same y zs p h = rw (le-leb l (level s y.key) (omega arith), stays y p (omega arith))

  pub after_not : (y : Order) (zs : List Order) → 0 < y.key → level s y.key ≤ l → parts_after (y ∷ zs) ≡ parts_after zs
  unfolding parts_after at_least rest
  after_not y zs p h = cond_valid (λ (r : List Order). rest (starts_one s l) r ≡ parts_after zs) (leb l (level s y.key)) (rw (stays y p h)) refl

  pub tail_high : (y : Order) (zs : List Order) → l < level s y.key → tail_part (y ∷ zs) ≡ []
  unfolding tail_part at_least run
  tail_high y zs h = rw (le-leb l (level s y.key) (omega arith), starts y h)

  pub after_high : (y : Order) (zs : List Order) → l < level s y.key → parts_after (y ∷ zs) ≡ (y ∷ tail_part zs) ∷ parts_after zs
  unfolding tail_part parts_after at_least rest
  after_high y zs h = rw (le-leb l (level s y.key) (omega arith), starts y h)

  module _ (xs zs : List Order) where
    pub part_at : Up 1 (xs ++ zs) → part s (xs ++ zs) l (first_key (head_part s l xs)) ≡ head_part s l xs ++ tail_part zs
    unfolding part
    part_at u =
        rw (parts_split xs zs, ← head_part_first xs (tail_part zs))
        (pick_at (parts_before xs) (head_part s l xs ++ tail_part zs) (parts_after zs) 0 (rw (parts_split xs zs) at (parts_heads (xs ++ zs) u)))

    pub part_elsewhere : (g : ℕ) → (first_key (head_part s l xs) ≡ g → ⊥) → part s (xs ++ zs) l g ≡ pick g (parts_before xs ++ parts_after zs)
    unfolding part
    part_elsewhere g h = rw (parts_split xs zs) (pick_other g (parts_before xs) (head_part s l xs ++ tail_part zs) (parts_after zs) (rw head_part_first h))

  -- what g heads after y came between xs and zs
  unfoldable pub with_part : (xs : List Order) → Order → (zs : List Order) → (g : ℕ) → List Order
  with_part xs y zs g =
      cond (ltb l (level s y.key))
      (cond (eqb y.key g) (y ∷ tail_part zs) (cond (eqb (first_key (head_part s l xs)) g) (head_part s l xs) (part s (xs ++ zs) l g)))
      (cond (eqb l (level s y.key))
      (cond (eqb (first_key (head_part s l xs)) g) (head_part s l xs ++ y ∷ tail_part zs) (part s (xs ++ zs) l g))
      (part s (xs ++ zs) l g))

  module _ (xs : List Order) (y : Order) (zs : List Order) (u : Up 1 (xs ++ y ∷ zs)) where
    key_good : 0 < y.key
    key_good = up_past xs y zs 1 u

    -- below y's level: the open partition is cut in two
    pub part_left : l < level s y.key → part s (xs ++ y ∷ zs) l (first_key (head_part s l xs)) ≡ head_part s l xs
    part_left h = part_at xs (y ∷ zs) u ∙ rw (tail_high y zs h, append-nil)

    pub parts_high : l < level s y.key → partitions s l (list_at s l (xs ++ y ∷ zs)) ≡ parts_before xs ++ head_part s l xs ∷ [] ++ (y ∷ tail_part zs) ∷ parts_after zs
    parts_high h = rw (parts_split xs (y ∷ zs), tail_high y zs h, after_high y zs h, append-nil (head_part s l xs), append_assoc)

    pub part_right : l < level s y.key → part s (xs ++ y ∷ zs) l y.key ≡ y ∷ tail_part zs
    unfolding part first_key
    part_right h =
        rw (parts_high h)
        (pick_at (parts_before xs ++ head_part s l xs ∷ []) (y ∷ tail_part zs) (parts_after zs) 0 (rw (parts_high h) at (parts_heads (xs ++ y ∷ zs) u)))

    -- at y's level: y comes into it
    pub part_in : level s y.key ≡ l → part s (xs ++ y ∷ zs) l (first_key (head_part s l xs)) ≡ head_part s l xs ++ y ∷ tail_part zs
    part_in h = part_at xs (y ∷ zs) u ∙ rw (tail_same y zs key_good h)

    -- above y's level: nothing changes
    pub part_above : (g : ℕ) → level s y.key < l → part s (xs ++ y ∷ zs) l g ≡ part s (xs ++ zs) l g
    unfolding part
    part_above g h = rw (parts_split xs (y ∷ zs), parts_split xs zs, tail_low y zs h, after_not y zs key_good (omega arith))

    -- every other partition stays
    pub part_other : (g : ℕ) → (first_key (head_part s l xs) ≡ g → ⊥) → (y.key ≡ g → ⊥) → part s (xs ++ y ∷ zs) l g ≡ part s (xs ++ zs) l g
    unfolding first_key
    part_other g a b = part_elsewhere xs (y ∷ zs) g a ∙ go (ltb l (level s y.key)) refl ∙ sym (part_elsewhere xs zs g a)
      where
        go : (t : Bool) → ltb l (level s y.key) ≡ t → pick g (parts_before xs ++ parts_after (y ∷ zs)) ≡ pick g (parts_before xs ++ parts_after zs)
        go true e = rw (after_high y zs (ltb-true l (level s y.key) e)) (pick_other g (parts_before xs) (y ∷ tail_part zs) (parts_after zs) b)
        go false e = rw (after_not y zs key_good (ltb-false l (level s y.key) e))

    -- ALL IN ONE
    pub part_with : (g : ℕ) → part s (xs ++ y ∷ zs) l g ≡ with_part xs y zs g
    unfolding with_part
    part_with g = go (ltb l (level s y.key)) refl (eqb l (level s y.key)) refl (eqb y.key g) refl (eqb (first_key (head_part s l xs)) g) refl
      where
        F : ℕ
        F = first_key (head_part s l xs)

        go : (a : Bool) → ltb l (level s y.key) ≡ a → (b : Bool) → eqb l (level s y.key) ≡ b → (c : Bool) → eqb y.key g ≡ c → (d : Bool) → eqb (first_key (head_part s l xs)) g ≡ d →
            part s (xs ++ y ∷ zs) l g
            ≡ cond a (cond c (y ∷ tail_part zs) (cond d (head_part s l xs) (part s (xs ++ zs) l g))) (cond b (cond d (head_part s l xs ++ y ∷ tail_part zs) (part s (xs ++ zs) l g)) (part s (xs ++ zs) l g))
        go true p b q true r d t = rw (← eqb-true y.key g r) (part_right (ltb-true l (level s y.key) p))
        go true p b q false r true t = rw (← eqb-true F g t) (part_left (ltb-true l (level s y.key) p))
        go true p b q false r false t = part_other g (eqb-false F g t) (eqb-false y.key g r)
        go false p true q c r true t = rw (← eqb-true F g t) (part_in (sym (eqb-true l (level s y.key) q)))
        go false p true q c r false t =
            part_elsewhere xs (y ∷ zs) g (eqb-false F g t)
            ∙ ap (λ (ps : List (List Order)). pick g (parts_before xs ++ ps)) (after_not y zs key_good (omega (arith, eqb-true l (level s y.key) q)))
            ∙ sym (part_elsewhere xs zs g (eqb-false F g t))
        go false p false q c r d t = part_above g (omega (arith, ltb-false l (level s y.key) p, eqb-false l (level s y.key) q))
