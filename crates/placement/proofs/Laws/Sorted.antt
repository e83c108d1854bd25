-- Lists sorted by an order: the same elements, rising where any two can be compared.
use Rattle.std.proofs.Common.{◌≡◌, ℕ, suc, ◌+◌, Bool, true, false, cond, ◌⊎◌, List, [], ◌∷◌, length, refl, ap, ◌∙◌, inl, inr}
use Rattle.sizes.specs.Orders.{sort_in, sorted}
use Rattle.placement.specs.Blocks.{Among, Block, Stands, how_many}
use Rattle.placement.proofs.Laws.Placed.{Rising, Placing}
use Rattle.placement.proofs.Laws.Cells.{cond_valid}

module _ {A : Type 0} (before : A → A → Bool) where
  -- ---- the same elements

  sort_in_comes : (x : A) (ys : List A) (c : A) → (c ≡ x) ⊎ Among c ys → Among c (sort_in before x ys)
  unfolding sort_in
  sort_in_comes x [] c a = a
  sort_in_comes x (y ∷ ys) c (inl e) = cond_valid (Among c) (before x y) (inl e) (inr (sort_in_comes x ys c (inl e)))
  sort_in_comes x (y ∷ ys) c (inr (inl e)) = cond_valid (Among c) (before x y) (inr (inl e)) (inl e)
  sort_in_comes x (y ∷ ys) c (inr (inr a)) = cond_valid (Among c) (before x y) (inr (inr a)) (inr (sort_in_comes x ys c (inr a)))

  pub sort_in_only : (x : A) (ys : List A) (c : A) → Among c (sort_in before x ys) → (c ≡ x) ⊎ Among c ys
  unfolding sort_in
  sort_in_only x [] c a = a
  sort_in_only x (y ∷ ys) c a = go (before x y) (sort_in_only x ys c) a
    where
      later : (c ≡ x) ⊎ Among c ys → (c ≡ x) ⊎ Among c (y ∷ ys)
      later (inl e) = inl e
      later (inr a) = inr (inr a)

      go : (t : Bool) → (Among c (sort_in before x ys) → (c ≡ x) ⊎ Among c ys) → Among c (cond t (x ∷ y ∷ ys) (y ∷ sort_in before x ys)) → (c ≡ x) ⊎ Among c (y ∷ ys)
      go true on a = a
      go false on (inl e) = inr (inl e)
      go false on (inr a) = later (on a)

  sort_in_long : (x : A) (ys : List A) → length (sort_in before x ys) ≡ suc (length ys)
  unfolding sort_in
  sort_in_long x [] = refl
  sort_in_long x (y ∷ ys) = cond_valid (λ (zs : List A). length zs ≡ suc (suc (length ys))) (before x y) refl (ap suc (sort_in_long x ys))

  pub sorted_comes : (cs : List A) (c : A) → Among c cs → Among c (sorted before cs)
  unfolding sorted
  sorted_comes [] c a = a
  sorted_comes (x ∷ xs) c (inl e) = sort_in_comes x (sorted before xs) c (inl e)
  sorted_comes (x ∷ xs) c (inr a) = sort_in_comes x (sorted before xs) c (inr (sorted_comes xs c a))

  pub sorted_only : (cs : List A) (c : A) → Among c (sorted before cs) → Among c cs
  unfolding sorted
  sorted_only [] c a = a
  sorted_only (x ∷ xs) c a = go (sorted_only xs c) (sort_in_only x (sorted before xs) c a)
    where
      go : (Among c (sorted before xs) → Among c xs) → (c ≡ x) ⊎ Among c (sorted before xs) → Among c (x ∷ xs)
      go on (inl e) = inl e
      go on (inr a) = inr (on a)

  pub sorted_long : (cs : List A) → length (sorted before cs) ≡ length cs
  unfolding sorted
  sorted_long [] = refl
  sorted_long (x ∷ xs) = sort_in_long x (sorted before xs) ∙ ap suc (sorted_long xs)

  -- ---- in order

  -- of any two one is before the other
  abbrev pub Comparable : List A → Type 0
  Comparable [] = Unit {0}
  Comparable (c ∷ cs) = ((d : A) → Among d cs → before c d ≡ false → before d c ≡ true) × Comparable cs

  -- .. where they rise by another order, and no two of such have one label by this
  pub comparable : (other : A → A → Bool) → ((c d : A) → other c d ≡ true → before c d ≡ false → before d c ≡ true) → (cs : List A) → Rising other cs → Comparable cs
  comparable other h [] u = tt
  comparable other h (c ∷ cs) u = (λ d a. h c d (u.0 d a), comparable other h cs u.1)

  module _ (chain : (a b c : A) → before a b ≡ true → before b c ≡ true → before a c ≡ true) where
    sort_in_rises : (x : A) (ys : List A) → ((d : A) → Among d ys → before x d ≡ false → before d x ≡ true) → Rising before ys → Rising before (sort_in before x ys)
    unfolding sort_in
    sort_in_rises x [] h u = (λ d a. absurd a, tt)
    sort_in_rises x (y ∷ ys) h u = go (before x y) refl (sort_in_rises x ys (λ d a. h d (inr a)) u.1)
      where
        first : before x y ≡ true → (d : A) → Among d (y ∷ ys) → before x d ≡ true
        first e d (inl q) = rw q e
        first e d (inr a) = chain x y d e (u.0 d a)

        after : before x y ≡ false → (d : A) → (d ≡ x) ⊎ Among d ys → before y d ≡ true
        after e d (inl q) = rw q (h y (inl refl) e)
        after e d (inr a) = u.0 d a

        go : (t : Bool) → before x y ≡ t → Rising before (sort_in before x ys) → Rising before (cond t (x ∷ y ∷ ys) (y ∷ sort_in before x ys))
        go true e on = (first e, u)
        go false e on = (λ d a. after e d (sort_in_only x ys d a), on)

    pub sorted_rises : (cs : List A) → Comparable cs → Rising before (sorted before cs)
    unfolding sorted
    sorted_rises [] u = tt
    sorted_rises (x ∷ xs) u = sort_in_rises x (sorted before xs) (λ d a. u.0 d (sorted_only xs d a)) (sorted_rises xs u.1)

  -- what rises stays as it is
  pub sorted_same : (cs : List A) → Rising before cs → sorted before cs ≡ cs
  unfolding sorted sort_in
  sorted_same [] u = refl
  sorted_same (x ∷ []) u = refl
  sorted_same (x ∷ y ∷ ys) u = ap (sort_in before x) (sorted_same (y ∷ ys) u.1) ∙ rw (u.0 y (inl refl))

-- what is placed in order is placed
pub placing_sorted : {A : Type 0} (home : A → ℕ) (before : A → A → Bool) (m : ℕ) (cs : List A) (bs now : List (Block A)) →
    Placing home before m (sorted before cs) bs now → Placing home before m cs bs now
placing_sorted {A} home before m cs bs now p = record {
  long = p.long;
  rule_3 = p.rule_3;
  stays = p.stays;
  comes = λ c a. p.comes c (sorted_comes before cs c a);
  only = λ c t. old c (p.only c t);
  count = p.count ∙ ap (λ (n : ℕ). how_many bs + n) (sorted_long before cs);
}
  where
    old : (c : A) → Among c (sorted before cs) ⊎ Stands m bs c → Among c cs ⊎ Stands m bs c
    old c (inl a) = inl (sorted_only before cs c a)
    old c (inr t) = inr t
