-- Which levels come before a level, told by one comparison of numbers that are counted round at 2^32.
use Rattle.std.proofs.Common.{◌≡◌, ℕ, ◌+◌, ◌-◌, ◌%◌, ◌^◌, ◌<◌, Bool, true, false, ◌&&◌, ltb, refl, arith, ltb-false, ltb-true, le-ltb, lt-ltb, eq-eqb, ne_eqb}
use Rattle.sizes.specs.declared.Sizes.{Sizes}
use Rattle.placement.specs.Labels.{level_before}
use Rattle.placement.specs.Place.{Leading}

-- those from 1 up to l, where l itself is not asked
lower_told : (l v d : ℕ) → l < 2 ^ 32 → (v ≡ l → ⊥) → d < 2 ^ 32 → (d + 1) % 2 ^ 32 ≡ v → ltb d l ≡ (ltb 0 v && ltb v l)
lower_told l v d hl ne hd e = go (ltb 0 v) (ltb v l) refl refl
  where
    go : (p q : Bool) → ltb 0 v ≡ p → ltb v l ≡ q → ltb d l ≡ (p && q)
    go false q a b = le-ltb d l (omega (arith, e, ltb-false 0 v a))
    go true true a b = lt-ltb d l (omega (arith, e, ltb-true 0 v a, ltb-true v l b))
    go true false a b = le-ltb d l (omega (arith, e, ne, ltb-true 0 v a, ltb-false v l b))

-- those from l on
higher_told : (l v d : ℕ) → l < 2 ^ 32 → v < 256 → (v ≡ l → ⊥) → d < 2 ^ 32 → (d + l) % 2 ^ 32 ≡ v → ltb d (4294967295 - l) ≡ (ltb 0 v && ltb l v)
higher_told l v d hl small ne hd e = go (ltb 0 v) (ltb l v) refl refl
  where
    go : (p q : Bool) → ltb 0 v ≡ p → ltb l v ≡ q → ltb d (4294967295 - l) ≡ (p && q)
    go false q a b = le-ltb d (4294967295 - l) (omega (arith, e, ne, ltb-false 0 v a))
    go true true a b = lt-ltb d (4294967295 - l) (omega (arith, e, ltb-true l v b))
    go true false a b = le-ltb d (4294967295 - l) (omega (arith, e, ne, ltb-false l v b))

-- as `ahead` asks
module _ (s : Sizes) (l : ℕ) (small : l < 2 ^ 32) where
  pub ahead_lower : s.version ≡ 1 → Leading s l (record { from = 1; many = l })
  unfolding level_before
  ahead_lower e = record { told = λ v d sv ne hd ed. rw (eq-eqb s.version 1 e) (lower_told l v d small ne hd ed) }

  pub ahead_higher : (s.version ≡ 1 → ⊥) → Leading s l (record { from = l; many = 4294967295 - l })
  unfolding level_before
  ahead_higher n = record { told = λ v d sv ne hd ed. rw (ne_eqb s.version 1 n) (higher_told l v d small sv ne hd ed) }

pub ruleset ahead = (ahead_lower, ahead_higher)
