-- Insertion by ordered probes: walk from home, change the carried chunk for the first larger label, stop at an empty block.
use Rattle.std.proofs.Common.{◌≡◌, ℕ, zero, suc, ◌+◌, ◌%◌, ◌<◌, Bool, true, false, cond, ◌⊎◌, List, length, sym, refl, ap, ◌∙◌, inl, inr, true≢false, add-zero, mod-lt, arith}
use mathlib.Core.Bool.{false≢true}
use native.Mathlib.Nat.{suc-mod}
use native.Mathlib.Decide.{dec_lt, ℕ_discrete}
use Rattle.placement.specs.Blocks.{Block, empty, holds, around, stored, holds_smaller, Stands, SmallerTo, Rule3, how_many}
use Rattle.sizes.proofs.Laws.Round.{steps_to, steps_same, Which, which, less, same, more}
use Rattle.placement.proofs.Laws.Blocks.{around_mod, stored_there, stored_elsewhere, stored_mod, stored_long, Far, far, Ordered}
use Rattle.placement.proofs.Laws.Store.{after_store, before_store, stored_stands, store_keeps}
use Rattle.placement.proofs.Laws.Placed.{First, lands, store_count, Joined, join_empty}

abbrev pub insert_step : {A : Type 0} → (A → A → Bool) → A → Block A → (put_here go_on : List (Block A)) → (swap : A → List (Block A)) → List (Block A)
insert_step before c empty x y z = x
insert_step before c (holds d) x y z = cond (before d c) y (z d)

unfoldable pub insert_from : {A : Type 0} → (A → A → Bool) → (fuel i : ℕ) → (m : ℕ) → A → List (Block A) → List (Block A)
insert_from before zero i m c bs = bs
insert_from before (suc f) i m c bs =
    insert_step before c (around m bs i) (stored m bs i (holds c)) (insert_from before f (suc i) m c bs)
    (λ d. insert_from before f (suc i) m d (stored m bs i (holds c)))

-- the label of c is another than those that stand
abbrev pub Other : {A : Type 0} → (A → A → Bool) → (m : ℕ) → A → List (Block A) → Type 0
Other {A} before m c bs = (x : A) → Stands m bs x → before x c ≡ false → before c x ≡ true

pub suc_mod_same : (m i j : ℕ) → i % m ≡ j % m → suc i % m ≡ suc j % m
suc_mod_same m i j e = suc-mod i m ∙ ap (λ (x : ℕ). suc x % m) e ∙ sym (suc-mod j m)

module _ {A : Type 0} {home : A → ℕ} {before : A → A → Bool} {m : ℕ} (ord : Ordered home before m) where
  -- of alike labels none stands nearer its home
  none_nearer : (bs : List (Block A)) → Rule3 home before m bs → (c d : A) {i j : ℕ} (x : Far home m bs c i) (y : Far home m bs d j)
      → home c ≡ home d → before c d ≡ false → x.steps < y.steps → ⊥
  none_nearer bs r c d x y t p h =
      let z = r d y.steps y.few y.is x.steps h in
      let w : around m bs (home d + x.steps) ≡ holds c = rw (← t) x.is in
      true≢false (cc)

  -- one label stands in one block
  pub one_label : (bs : List (Block A)) → Rule3 home before m bs → (c d : A) (i j : ℕ) → around m bs i ≡ holds c → around m bs j ≡ holds d
      → before c d ≡ false → before d c ≡ false → i % m ≡ j % m
  one_label bs r c d i j e f p q = by (far ord bs c i e) (far ord bs d j f) (ord.tied c d p q) (which _ _)
    where
      by : (x : Far home m bs c i) (y : Far home m bs d j) → home c ≡ home d → Which x.steps y.steps → i % m ≡ j % m
      by x y t (less h) = absurd (none_nearer bs r c d x y t p h)
      by x y t (same h) = sym x.there ∙ ap (λ (n : ℕ). (home c + n) % m) h ∙ ap (λ (n : ℕ). (n + y.steps) % m) t ∙ y.there
      by x y t (more h) = absurd (none_nearer bs r d c y x (sym t) q h)

  -- a walk over smaller labels does not come round to an empty block
  pub room : (bs : List (Block A)) (c : A) (k g : ℕ) → around m bs g ≡ empty → SmallerTo home before m bs c k → k < m
  room bs c k g e s = go (dec_lt k m)
    where
      go : Dec (k < m) → k < m
      go (yes h) = h
      go (no h) =
          let t = steps_to m (home c) (ord.homes c) (g % m) (mod-lt g (omega (arith, ord.homes c))) in
          let z = s t.steps (omega (arith, t.few)) in
          let w = around_mod m bs (home c + t.steps) g t.there in
          absurd (false≢true (cc (z, w)))

  pub smaller_on : (bs : List (Block A)) (c : A) (k : ℕ) → SmallerTo home before m bs c k → holds_smaller before c (around m bs (home c + k)) ≡ true
      → SmallerTo home before m bs c (suc k)
  smaller_on bs c k s h l w = go (which l k)
    where
      go : Which l k → holds_smaller before c (around m bs (home c + l)) ≡ true
      go (less v) = s l v
      go (same v) = rw v h
      go (more v) = absurd (omega arith)

  -- an empty block is near
  pub record Near (fuel i : ℕ) (bs : List (Block A)) : Type 0 where
    pub gap : ℕ
    pub few : gap < fuel
    pub free : around m bs (i + gap) ≡ empty

  -- past a full block it is one step nearer
  nearer : (f i g : ℕ) (bs : List (Block A)) (d : A) → around m bs i ≡ holds d → g < suc f → around m bs (i + g) ≡ empty → Near f (suc i) bs
  nearer f i zero bs d e w h = absurd (true≢false (cc (add-zero i)))
  nearer f i (suc g) bs d e w h = record { gap = g; few = omega arith; free = ap (λ (x : ℕ). around m bs x) (omega arith) ∙ h }

  on_mod : (h k i : ℕ) → (h + k) % m ≡ i % m → (h + suc k) % m ≡ suc i % m
  on_mod h k i e = ap (λ (x : ℕ). x % m) (omega arith) ∙ suc_mod_same m (h + k) i e

  -- c is carried to the block i: every block from its home on held a smaller label
  pub record Carry (fuel i : ℕ) (c : A) (bs : List (Block A)) : Type 0 where
    pub long : length bs ≡ m
    pub rule_3 : Rule3 home before m bs
    pub other : Other before m c bs
    pub steps : ℕ
    pub there : (home c + steps) % m ≡ i % m
    pub smaller : SmallerTo home before m bs c steps
    pub near : Near fuel i bs

  -- at its home it has passed nothing
  pub carry_start : (c : A) (bs : List (Block A)) → length bs ≡ m → Rule3 home before m bs → Other before m c bs → First m c bs m (home c) → Carry m (home c) c bs
  carry_start c bs p r o f = record {
    long = p;
    rule_3 = r;
    other = o;
    steps = 0;
    there = ap (λ (x : ℕ). x % m) (add-zero (home c));
    smaller = λ l w. absurd (omega arith);
    near = record { gap = f.steps; few = f.few; free = f.free };
  }

  module _ {f i : ℕ} {c : A} {bs : List (Block A)} (y : Carry (suc f) i c bs) where
    abbrev now : List (Block A)
    now = stored m bs i (holds c)

    some : zero < m
    some = omega (arith, ord.homes c)

    few : y.steps < m
    few = room bs c y.steps (i + y.near.gap) y.near.free y.smaller

    -- the block is empty
    join_here : around m bs i ≡ empty → Joined home before m c bs now
    join_here e =
        rw (stored_mod m bs i (home c + y.steps) (holds c) (sym y.there))
        (join_empty ord bs c y.steps y.long few y.rule_3 y.smaller (around_mod m bs (home c + y.steps) i y.there ∙ e))

    -- the block holds d
    module _ (d : A) (e : around m bs i ≡ holds d) where
      next_near : Near f (suc i) bs
      next_near = nearer f i y.near.gap bs d e y.near.few y.near.free

      pub carry_on : before d c ≡ true → Carry f (suc i) c bs
      carry_on h = record {
        long = y.long;
        rule_3 = y.rule_3;
        other = y.other;
        steps = suc y.steps;
        there = on_mod (home c) y.steps i y.there;
        smaller = smaller_on bs c y.steps y.smaller (rw (around_mod m bs (home c + y.steps) i y.there, e) h);
        near = next_near;
      }

      -- c goes before d: c takes the block, and d is carried on
      module _ (h : before d c ≡ false) where
        goes_first : before c d ≡ true
        goes_first = y.other d (record { at = i; is = e }) h

        swap_rule : Rule3 home before m now
        swap_rule =
            rw (stored_mod m bs i (home c + y.steps) (holds c) (sym y.there))
            (store_keeps ord bs c y.steps y.long few y.rule_3 y.smaller
            (λ x w. ord.chain c d x goes_first (let u : holds_smaller before x (holds d) ≡ true = rw (around_mod m bs (home c + y.steps) i y.there, e) at w in u)))

        swap_other : Other before m d now
        swap_other x t n = go (ℕ_discrete (t.at % m) (i % m))
          where
            by : around m bs t.at ≡ holds x → ((t.at % m ≡ i % m) → ⊥) → (b : Bool) → before d x ≡ b → before d x ≡ true
            by z w true q = q
            by z w false q = absurd (w (sym (one_label bs y.rule_3 d x i t.at e z q n)))

            go : Dec (t.at % m ≡ i % m) → before d x ≡ true
            go (yes w) = let u = stored_there m bs i t.at (holds c) some y.long w in let z : x ≡ c = cc (t.is, u) in absurd (true≢false (cc goes_first))
            go (no w) = by (sym (stored_elsewhere m bs i t.at (holds c) w) ∙ t.is) w (before d x) refl

        swap_smaller : (x : Far home m bs d i) → SmallerTo home before m now d (suc x.steps)
        swap_smaller x =
            smaller_on now d x.steps
            (λ l w.
            rw (stored_elsewhere m bs i (home d + l) (holds c) (λ u. omega (arith, steps_same m (home d) (ord.homes d) l x.steps (omega (arith, x.few)) x.few (u ∙ sym x.there))))
            (y.rule_3 d x.steps x.few x.is l w))
            (rw (stored_there m bs i (home d + x.steps) (holds c) some y.long x.there) goes_first)

        pub carry_swap : Carry f (suc i) d now
        carry_swap =
            let x = far ord bs d i e in
            let n = next_near in
            record {
              long = stored_long m bs i (holds c) y.long;
              rule_3 = swap_rule;
              other = swap_other;
              steps = suc x.steps;
              there = on_mod (home d) x.steps i x.there;
              smaller = swap_smaller x;
              near = record {
                gap = n.gap;
                few = n.few;
                free = stored_elsewhere m bs i (suc i + n.gap) (holds c) (λ u. true≢false (cc (around_mod m bs (suc i + n.gap) i u, n.free))) ∙ n.free;
              };
            }

        swap_joined : (end : List (Block A)) → Joined home before m d now end → Joined home before m c bs end
        swap_joined end j = record {
          long = j.long;
          rule_3 = j.rule_3;
          stays = λ x t. stay x (before_store m bs i y.long some (holds c) x t);
          comes = j.stays c (stored_stands m bs i y.long some c);
          only = λ x t. only x (j.only x t);
          count = omega (arith, j.count, store_count m bs i (holds d) (holds c) y.long some e);
        }
          where
            stay : (x : A) → (around m bs i ≡ holds x) ⊎ Stands m now x → Stands m end x
            stay x (inl f) = let z : x ≡ d = cc in rw z j.comes
            stay x (inr t) = j.stays x t

            only : (x : A) → (x ≡ d) ⊎ Stands m now x → (x ≡ c) ⊎ Stands m bs x
            only x (inl f) = inr (record { at = i; is = rw f e })
            only x (inr t) = after_store m bs i y.long some c x t

  -- THE WALK joins the carried chunk to the table
  pub insert_keeps : (fuel i : ℕ) (c : A) (bs : List (Block A)) → Carry fuel i c bs → Joined home before m c bs (insert_from before fuel i m c bs)
  unfolding insert_from
  insert_keeps zero i c bs y = absurd (omega (arith, y.near.few))
  insert_keeps (suc f) i c bs y =
      go (around m bs i) refl (λ x. insert_keeps f (suc i) c bs x) (λ d x. insert_keeps f (suc i) d (stored m bs i (holds c)) x)
    where
      next : List (Block A)
      next = stored m bs i (holds c)

      go : (b : Block A) → around m bs i ≡ b
          → (Carry f (suc i) c bs → Joined home before m c bs (insert_from before f (suc i) m c bs))
          → ((d : A) → Carry f (suc i) d next → Joined home before m d next (insert_from before f (suc i) m d next))
          → Joined home before m c bs (insert_step before c b next (insert_from before f (suc i) m c bs) (λ d. insert_from before f (suc i) m d next))
      go empty e on swap = join_here y e
      go (holds d) e on swap = test (before d c) refl
        where
          test : (t : Bool) → before d c ≡ t → Joined home before m c bs (cond t (insert_from before f (suc i) m c bs) (insert_from before f (suc i) m d next))
          test true h = on (carry_on y d e h)
          test false h = swap_joined y d e h (insert_from before f (suc i) m d next) (swap d (carry_swap y d e h))

  -- THE INSERTION of a chunk whose label is absent, where some block is empty
  pub inserted : (c : A) (bs : List (Block A)) → length bs ≡ m → Rule3 home before m bs → Other before m c bs → how_many bs < m
      → Joined home before m c bs (insert_from before m (home c) m c bs)
  inserted c bs p r o n = insert_keeps m (home c) c bs (carry_start c bs p r o (lands m c bs (home c) (ord.homes c) p n))
