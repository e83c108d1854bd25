-- The order of labels: level, as the version has it, then first key, then chunk number.
use Rattle.std.proofs.Common.{◌≡◌, ℕ, zero, ◌<◌, Bool, true, false, cond, eqb, ltb, ◌≢◌, sym, refl, ap, ◌∙◌, true≢false, mod-lt, arith, ltb-false, lt-ltb, eq-eqb, ne_eqb, eqb-true}
use Rattle.sizes.specs.Orders.{by, down, lex}
use Rattle.sizes.specs.declared.Sizes.{Sizes}
use Rattle.placement.specs.declared.Label.{Label}
use Rattle.placement.specs.Labels.{level_before, within, before, same_label, home}
use Rattle.sizes.proofs.Laws.Orders.{Ordering, Tied, by_ordering, down_ordering, tied_one, same_tied, lex_first, lex_second, lex_decided, lex_tied, lex_ordering}
use Rattle.sizes.proofs.Laws.Sizes.{and_parts}

pub one_label : (a b : Label) → a.level ≡ b.level → a.first ≡ b.first → a.number ≡ b.number → a ≡ b
one_label a b p q r = λ j. record { level = p j; first = q j; number = r j }

-- AN ORDER OF LEVELS: it ties those that are the same, and no others
pub record Levels (p : Label → Label → Bool) : Type 0 where
  pub ordering : Ordering p
  pub tied : (a b : Label) → a.level ≡ b.level → Tied p a b
  pub one : (a b : Label) → Tied p a b → a.level ≡ b.level

-- lower levels first, or higher; and as the version has it
pub lower : Levels (by (λ w. w.level))
lower = record {
  ordering = by_ordering (λ w. w.level);
  tied = λ a b. same_tied a.level b.level;
  one = λ a b t. tied_one a.level b.level t.0 t.1;
}

higher : Levels (down (λ w. w.level))
higher = record {
  ordering = down_ordering (λ w. w.level);
  tied = λ a b e. same_tied b.level a.level (sym e);
  one = λ a b t. tied_one a.level b.level t.1 t.0;
}

levels : (s : Sizes) → Levels (λ a b. level_before s a.level b.level)
unfolding level_before
levels s = go (eqb s.version 1)
  where
    go : (t : Bool) → Levels (λ a b. cond t (ltb a.level b.level) (ltb b.level a.level))
    go true = lower
    go false = higher

-- LABELS, by such an order and then within a level
module _ {p : Label → Label → Bool} (v : Levels p) where
  pub within_ordering : Ordering (lex p within)
  within_ordering = lex_ordering p within v.ordering (lex_ordering _ _ (by_ordering (λ w. w.first)) (by_ordering (λ w. w.number)))

  pub within_one : (a b : Label) → lex p within a b ≡ false → lex p within b a ≡ false → a ≡ b
  within_one a b f g =
      let t = lex_tied p within a b (f, g) in
      let u = lex_tied (by (λ (w : Label). w.first)) (by (λ w. w.number)) a b t.1 in
      one_label a b (v.one a b t.0) (tied_one _ _ u.0.0 u.0.1) (tied_one _ _ u.1.0 u.1.1)

  -- the first part that differs decides
  module _ (a b : Label) (e : a.level ≡ b.level) where
    within_first : (a.first ≡ b.first → ⊥) → ltb a.first b.first ≡ lex p within a b
    within_first h =
        lex_decided (by (λ (w : Label). w.first)) (by (λ w. w.number)) a b (λ f. lt-ltb b.first a.first (omega (arith, h, ltb-false a.first b.first f))) ∙ lex_second p within a b (v.tied a b e)

    within_number : a.first ≡ b.first → ltb a.number b.number ≡ lex p within a b
    within_number f =
        lex_second (by (λ (w : Label). w.first)) (by (λ w. w.number)) a b (same_tied _ _ f) ∙ lex_second p within a b (v.tied a b e)

    pub by_first : a.first < b.first → lex p within a b ≡ true
    by_first l = sym (within_first (λ f. omega arith)) ∙ lt-ltb _ _ l

    pub by_number : a.first ≡ b.first → a.number < b.number → lex p within a b ≡ true
    by_number f l = sym (within_number f) ∙ lt-ltb _ _ l

-- lower levels first: in this order a set of orders has its chunks, in every version
abbrev pub lower_first : Label → Label → Bool
lower_first = lex (by (λ w. w.level)) within

pub lower_ordering : Ordering lower_first
lower_ordering = within_ordering lower

pub by_level : (a b : Label) → a.level < b.level → lower_first a b ≡ true
by_level a b l = lex_first (by (λ (w : Label). w.level)) within a b (lt-ltb a.level b.level l)

-- ---- the version's order, as the code compares
module _ (s : Sizes) where
  level_decides : (x y : ℕ) → (x ≡ y → ⊥) → level_before s x y ≡ false → level_before s y x ≡ true
  unfolding level_before
  level_decides x y n = go (eqb s.version 1)
    where
      go : (t : Bool) → cond t (ltb x y) (ltb y x) ≡ false → cond t (ltb y x) (ltb x y) ≡ true
      go true f = lt-ltb y x (omega (arith, n, ltb-false x y f))
      go false f = lt-ltb x y (omega (arith, n, ltb-false y x f))

  pub before_level : (a b : Label) → (a.level ≡ b.level → ⊥) → (t : Bool) → t ≡ level_before s a.level b.level → t ≡ before s a b
  unfolding before
  before_level a b h t e = e ∙ lex_decided (λ a b. level_before s a.level b.level) within a b (level_decides a.level b.level h)

  pub before_first : (a b : Label) → a.level ≡ b.level → (a.first ≡ b.first → ⊥) → ltb a.first b.first ≡ before s a b
  unfolding before
  before_first = within_first (levels s)

  pub before_number : (a b : Label) → a.level ≡ b.level → a.first ≡ b.first → ltb a.number b.number ≡ before s a b
  unfolding before
  before_number = within_number (levels s)

  pub before_next : (a b : Label) → a.level ≡ b.level → a.first ≡ b.first → a.number < b.number → before s a b ≡ true
  unfolding before
  before_next = by_number (levels s)

  -- as an order
  pub labels : Ordering (before s)
  unfolding before
  labels = within_ordering (levels s)

  pub labels_chain : (a b c : Label) → before s a b ≡ true → before s b c ≡ true → before s a c ≡ true
  labels_chain = labels.chain

  pub labels_strict : (a : Label) → before s a a ≡ false
  labels_strict = labels.strict

  -- labels of which none is before the other are one
  pub labels_one : (a b : Label) → before s a b ≡ false → before s b a ≡ false → a ≡ b
  unfolding before
  labels_one = within_one (levels s)

  -- in version 1 by lower levels first, in version 2 by higher
  pub before_lower : s.version ≡ 1 → (a b : Label) → before s a b ≡ lower_first a b
  unfolding before level_before
  before_lower e a b = rw (eq-eqb s.version 1 e)

  pub before_higher : s.version ≡ 2 → (a b : Label) → before s a b ≡ lex (down (λ w. w.level)) within a b
  unfolding before level_before
  before_higher e a b = rw (ne_eqb s.version 1 (λ f. omega (arith, e, f)))

pub ruleset before_parts = (before_level, before_first, before_number)

-- ---- one label, or two
pub same_is : (a b : Label) → same_label a b ≡ true → a ≡ b
unfolding same_label
same_is a b h =
    let p = and_parts _ _ h in
    let q = and_parts _ _ p.1 in
    one_label a b (eqb-true _ _ p.0) (eqb-true _ _ q.0) (eqb-true _ _ q.1)

pub is_same : (a b : Label) → a ≡ b → same_label a b ≡ true
unfolding same_label
is_same a b p = rw (eq-eqb _ _ (ap (λ (w : Label). w.level) p), eq-eqb _ _ (ap (λ (w : Label). w.first) p), eq-eqb _ _ (ap (λ (w : Label). w.number) p))

pub ne_same : (a b : Label) → a ≢ b → same_label a b ≡ false
ne_same a b n = go (same_label a b) refl
  where
    go : (t : Bool) → same_label a b ≡ t → same_label a b ≡ false
    go true e = absurd (n (same_is a b e))
    go false e = e

pub data LabelIs (a b : Label) : Type 0 where
  is : same_label a b ≡ true → a ≡ b → LabelIs a b
  isnt : same_label a b ≡ false → a ≢ b → LabelIs a b

pub label_is : (a b : Label) → LabelIs a b
label_is a b = go (same_label a b) refl
  where
    go : (t : Bool) → same_label a b ≡ t → LabelIs a b
    go true e = is e (same_is a b e)
    go false e = isnt e (λ p. true≢false (sym (is_same a b p) ∙ e))

-- a label is another than one before it
pub isnt_same : {p : Label → Label → Bool} → Ordering p → (a b : Label) → p b a ≡ true → same_label a b ≡ false
isnt_same {p} o a b h = go (label_is a b)
  where
    go : LabelIs a b → same_label a b ≡ false
    go (is e q) = absurd (true≢false (sym (rw q at h) ∙ o.strict b))
    go (isnt e n) = e

pub home_inside : (s : Sizes) → zero < s.blocks → (w : Label) → home s w < s.blocks
unfolding home
home_inside s h w = mod-lt _ h
