-- The placement by rising labels keeps rule 3 and holds just the chunks placed.
use Rattle.std.proofs.Common.{◌≡◌, ℕ, zero, suc, ◌+◌, ◌%◌, ◌<◌, ◌≤◌, Bool, true, false, ◌⊎◌, List, [], ◌∷◌, length, get_or, set, replicate, sym, refl, ap, ◌∙◌, inl, inr, true≢false, add-zero, mod-lt, arith}
use mathlib.Core.Bool.{false≢true}
use lib.ListN.{length-replicate, get_or-replicate}
use Rattle.placement.specs.Blocks.{Among, Block, empty, holds, around, stored, holds_smaller, Stands, SmallerTo, Rule3, is_free, place_from, placed, how_many}
use Rattle.sizes.proofs.Laws.Round.{steps_to}
use Rattle.placement.proofs.Laws.Blocks.{stored_long, Ordered}
use Rattle.placement.proofs.Laws.Unique.{one_arrangement}
use Rattle.placement.proofs.Laws.Store.{after_store, before_store, stored_stands, store_keeps}

abbrev pub weigh : {A : Type 0} → Block A → ℕ
weigh empty = 0
weigh (holds c) = 1

-- labels rise
abbrev pub Rising : {A : Type 0} → (A → A → Bool) → List A → Type 0
Rising before [] = Unit {0}
Rising before (c ∷ cs) = ((d : _) → Among d cs → before c d ≡ true) × Rising before cs

pub how_many_empty : (A : Type 0) (m : ℕ) → how_many (replicate {A = Block A} m empty) ≡ 0
unfolding how_many
how_many_empty A zero = refl
how_many_empty A (suc m) = how_many_empty A m

module _ {A : Type 0} where
  -- a block of the table is b
  pub record Place (bs : List (Block A)) (b : Block A) : Type 0 where
    pub at : ℕ
    pub inside : at < length bs
    pub is : get_or bs at empty ≡ b

  gap : (bs : List (Block A)) → how_many bs < length bs → Place bs empty
  unfolding how_many
  gap [] h = absurd (omega arith)
  gap (empty ∷ bs) h = record { at = 0; inside = omega arith; is = refl }
  gap (holds c ∷ bs) h = let g = gap bs (omega arith) in record { at = suc g.at; inside = omega (arith, g.inside); is = g.is }

  -- a store changes the number of full blocks by what it puts and what it goes over
  set_count : (bs : List (Block A)) (j : ℕ) (b : Block A) → j < length bs → how_many (set bs j b) + weigh (get_or bs j empty) ≡ how_many bs + weigh b
  unfolding how_many
  set_count [] j b h = absurd (omega arith)
  set_count (empty ∷ bs) zero empty h = refl
  set_count (empty ∷ bs) zero (holds c) h = omega arith
  set_count (holds d ∷ bs) zero empty h = omega arith
  set_count (holds d ∷ bs) zero (holds c) h = refl
  set_count (empty ∷ bs) (suc j) b h = set_count bs j b (omega arith)
  set_count (holds d ∷ bs) (suc j) b h = omega (arith, set_count bs j b (omega arith))

  pub store_count : (m : ℕ) (bs : List (Block A)) (i : ℕ) (a b : Block A) → length bs ≡ m → zero < m → around m bs i ≡ a → how_many (stored m bs i b) + weigh a ≡ how_many bs + weigh b
  unfolding around stored
  store_count m bs i a b p z e = ap (λ (x : Block A). how_many (set bs (i % m) b) + weigh x) (sym e) ∙ set_count bs (i % m) b (omega (arith, mod-lt i z))

module _ {A : Type 0} (m : ℕ) (c : A) (bs : List (Block A)) where
  pub record First (fuel i : ℕ) : Type 0 where
    pub steps : ℕ
    pub few : steps < fuel
    pub free : around m bs (i + steps) ≡ empty
    pub full : (l : ℕ) → l < steps → is_free (around m bs (i + l)) ≡ false
    pub is : place_from fuel i m c bs ≡ stored m bs (i + steps) (holds c)

  on : (i l : ℕ) → around m bs (suc i + l) ≡ around m bs (i + suc l)
  on i l = ap (λ (x : ℕ). around m bs x) (omega arith)

  first_free : (fuel i e : ℕ) → e < fuel → around m bs (i + e) ≡ empty → First fuel i
  unfolding place_from
  first_free zero i e l h = absurd (omega arith)
  first_free (suc f) i e l h = go (around m bs i) refl e l h (λ e' l' h'. first_free f (suc i) e' l' h')
    where
      here : around m bs (i + 0) ≡ around m bs i
      here = ap (λ (x : ℕ). around m bs x) (add-zero i)

      go : (b : Block A) → around m bs i ≡ b → (e : ℕ) → e < suc f → around m bs (i + e) ≡ empty
          → ((e' : ℕ) → e' < f → around m bs (suc i + e') ≡ empty → First f (suc i)) → First (suc f) i
      go empty q e l h rest = record { steps = 0; few = omega arith; free = here ∙ q; full = λ k w. absurd (omega arith); is = rw (q, add-zero) }
      go (holds d) q zero l h rest = absurd (true≢false (cc (here)))
      go (holds d) q (suc e) l h rest =
          let r = rest e (omega arith) (on i e ∙ h) in
          record {
            steps = suc r.steps;
            few = omega (arith, r.few);
            free = sym (on i r.steps) ∙ r.free;
            full = full r;
            is = rw q (r.is ∙ ap (λ (x : ℕ). stored m bs x (holds c)) (omega arith));
          }
        where
          full : (r : First f (suc i)) (k : ℕ) → k < suc r.steps → is_free (around m bs (i + k)) ≡ false
          full r zero w = rw (here, q)
          full r (suc k) w = rw (← on i k) (r.full k (omega arith))

  -- some block is free
  pub lands : (i : ℕ) → i < m → length bs ≡ m → how_many bs < m → First m i
  unfolding around
  lands i h p g =
      let z = gap bs (omega arith) in
      let s = steps_to m i h z.at (omega (arith, z.inside)) in
      first_free m i s.steps s.few (rw s.there z.is)

-- what the joining of c to bs leaves
pub record Joined {A : Type 0} (home : A → ℕ) (before : A → A → Bool) (m : ℕ) (c : A) (bs now : List (Block A)) : Type 0 where
  pub long : length now ≡ m
  pub rule_3 : Rule3 home before m now
  pub stays : (x : A) → Stands m bs x → Stands m now x
  pub comes : Stands m now c
  pub only : (x : A) → Stands m now x → (x ≡ c) ⊎ Stands m bs x
  pub count : how_many now ≡ suc (how_many bs)

-- what a placement of cs over bs leaves
pub record Placing {A : Type 0} (home : A → ℕ) (before : A → A → Bool) (m : ℕ) (cs : List A) (bs now : List (Block A)) : Type 0 where
  pub long : length now ≡ m
  pub rule_3 : Rule3 home before m now
  pub stays : (x : A) → Stands m bs x → Stands m now x
  pub comes : (x : A) → Among x cs → Stands m now x
  pub only : (x : A) → Stands m now x → Among x cs ⊎ Stands m bs x
  pub count : how_many now ≡ how_many bs + length cs

module _ {A : Type 0} {home : A → ℕ} {before : A → A → Bool} {m : ℕ} (ord : Ordered home before m) where
  full_smaller : (c : A) (bs : List (Block A)) (i : ℕ) → ((x : A) → Stands m bs x → before x c ≡ true) → (b : Block A) → around m bs i ≡ b
      → is_free b ≡ false → holds_smaller before c b ≡ true
  full_smaller c bs i all empty e f = absurd (true≢false f)
  full_smaller c bs i all (holds d) e f = all d (record { at = i; is = e })

  -- c goes to an empty block, and every block from its home on to there holds a smaller label
  pub join_empty : (bs : List (Block A)) (c : A) (k : ℕ) → length bs ≡ m → k < m → Rule3 home before m bs → SmallerTo home before m bs c k
      → around m bs (home c + k) ≡ empty → Joined home before m c bs (stored m bs (home c + k) (holds c))
  join_empty bs c k p g r s e = record {
    long = stored_long m bs (home c + k) (holds c) p;
    rule_3 = store_keeps ord bs c k p g r s (λ d h. absurd (false≢true (cc)));
    stays = λ x t. stay x (before_store m bs (home c + k) p (omega arith) (holds c) x t);
    comes = stored_stands m bs (home c + k) p (omega arith) c;
    only = after_store m bs (home c + k) p (omega arith) c;
    count = omega (arith, store_count m bs (home c + k) empty (holds c) p (omega arith) e);
  }
    where
      stay : (x : A) → (around m bs (home c + k) ≡ holds x) ⊎ Stands m (stored m bs (home c + k) (holds c)) x → Stands m (stored m bs (home c + k) (holds c)) x
      stay x (inl f) = absurd (true≢false (cc))
      stay x (inr t) = t

  -- one chunk, whose label is larger than all that stand
  place_one : (c : A) (bs : List (Block A)) → length bs ≡ m → how_many bs < m → Rule3 home before m bs → ((x : A) → Stands m bs x → before x c ≡ true)
      → Joined home before m c bs (place_from m (home c) m c bs)
  place_one c bs p g r all =
      let f = lands m c bs (home c) (ord.homes c) p g in
      rw f.is (join_empty bs c f.steps p f.few r (λ l h. full_smaller c bs (home c + l) all (around m bs (home c + l)) refl (f.full l h)) f.free)

  -- all chunks, by rising labels
  placed_all : (cs : List A) (bs : List (Block A)) → length bs ≡ m → how_many bs + length cs ≤ m → Rising before cs → Rule3 home before m bs
      → ((x c : A) → Stands m bs x → Among c cs → before x c ≡ true) → Placing home before m cs bs (placed home m cs bs)
  unfolding placed
  placed_all [] bs p g u r all = record { long = p; rule_3 = r; stays = λ x t. t; comes = λ x t. absurd t; only = λ x t. inr t; count = omega arith }
  placed_all (c ∷ cs) bs p g u r all =
      let one = place_one c bs p (omega arith) r (λ x t. all x c t (inl refl)) in
      go one (placed_all cs (place_from m (home c) m c bs) one.long (omega (arith, one.count)) u.1 one.rule_3 (λ x d t a. larger x d a (one.only x t)))
    where
      larger : (x d : A) → Among d cs → (x ≡ c) ⊎ Stands m bs x → before x d ≡ true
      larger x d a (inl e) = rw e (u.0 d a)
      larger x d a (inr t) = all x d t (inr a)

      go : {mid now : List (Block A)} → Joined home before m c bs mid → Placing home before m cs mid now → Placing home before m (c ∷ cs) bs now
      go {mid} {now} one rest = record {
        long = rest.long;
        rule_3 = rest.rule_3;
        stays = λ x t. rest.stays x (one.stays x t);
        comes = comes;
        only = λ x t. only x (rest.only x t);
        count = omega (arith, one.count, rest.count);
      }
        where
          comes : (x : A) → Among x (c ∷ cs) → Stands m now x
          comes x (inl e) = rest.stays x (rw e one.comes)
          comes x (inr a) = rest.comes x a

          then : (x : A) → (x ≡ c) ⊎ Stands m bs x → Among x (c ∷ cs) ⊎ Stands m bs x
          then x (inl e) = inl (inl e)
          then x (inr t) = inr t

          only : (x : A) → Among x cs ⊎ Stands m mid x → Among x (c ∷ cs) ⊎ Stands m bs x
          only x (inl a) = inl (inr a)
          only x (inr t) = then x (one.only x t)

  pub nothing : (x : A) → Stands m (replicate m empty) x → ⊥
  unfolding around
  nothing x t =
      let e : get_or (replicate {A = Block A} m empty) (t.at % m) empty ≡ empty =
      get_or-replicate m (t.at % m) empty empty (mod-lt t.at {m = m} (omega (arith, ord.homes x))) in
      true≢false (cc t.is)

  -- THE PLACEMENT of chunks with rising labels keeps rule 3 and holds each of them
  pub placement : (cs : List A) → Rising before cs → length cs ≤ m → Placing home before m cs (replicate m empty) (placed home m cs (replicate m empty))
  unfolding around
  placement cs u g =
      placed_all cs (replicate m empty) (length-replicate m empty) (omega (arith, how_many_empty A m)) u
      (λ c k h e. absurd (nothing c (record { at = home c + k; is = e }))) (λ x c t a. absurd (nothing x t))

none_stands : {A : Type 0} (bs : List (Block A)) (j : ℕ) (x : A) → how_many bs ≡ 0 → get_or bs j empty ≡ holds x → ⊥
unfolding how_many
none_stands [] j x h e = true≢false cc
none_stands (empty ∷ bs) zero x h e = true≢false cc
none_stands (empty ∷ bs) (suc j) x h e = none_stands bs j x h e
none_stands (holds c ∷ bs) j x h e = omega arith

module _ {A : Type 0} (before : A → A → Bool) (m : ℕ) (some : zero < m) (strict : (c : A) → before c c ≡ false) where
  -- if all chunks of cs stand, and no more blocks than cs has chunks are full, then nothing else stands
  pub counted : (cs : List A) (bs : List (Block A)) → length bs ≡ m → Rising before cs → ((c : A) → Among c cs → Stands m bs c) → how_many bs ≡ length cs
      → (x : A) → Stands m bs x → Among x cs
  unfolding around stored
  counted [] bs p u all n x t = none_stands bs (t.at % m) x n t.is
  counted (c ∷ cs) bs p u all n x t =
      go (before_store m bs i p some empty x t)
      (counted cs less (stored_long m bs i empty p) u.1 (λ d a. other d a (before_store m bs i p some empty d (all d (inr a))))
      (omega (arith, store_count m bs i (holds c) empty p some (all c (inl refl)).is)))
    where
      i : ℕ
      i = (all c (inl refl)).at

      less : List (Block A)
      less = stored m bs i empty

      other : (d : A) → Among d cs → (around m bs i ≡ holds d) ⊎ Stands m less d → Stands m less d
      other d a (inl e) = absurd (true≢false (cc (u.0 d a, strict c, (all c (inl refl)).is)))
      other d a (inr s) = s

      go : (around m bs i ≡ holds x) ⊎ Stands m less x → ((x : A) → Stands m less x → Among x cs) → Among x (c ∷ cs)
      go (inl e) rest = inl (cc (all c (inl refl)).is)
      go (inr s) rest = inr (rest x s)

module _ {A : Type 0} {home : A → ℕ} {before : A → A → Bool} {m : ℕ} (ord : Ordered home before m) where
  -- the table that keeps rule 3 and holds just cs is the placement of cs
  pub one_placement : (cs : List A) (bs : List (Block A)) → Rising before cs → length cs ≤ m → length bs ≡ m → Rule3 home before m bs
      → ((c : A) → Among c cs → Stands m bs c) → ((c : A) → Stands m bs c → Among c cs) → bs ≡ placed home m cs (replicate m empty)
  one_placement cs bs u g p r in_all only =
      let q = placement ord cs u g in
      one_arrangement ord bs (placed home m cs (replicate m empty)) p q.long r q.rule_3
      (λ c t. q.comes c (only c t)) (λ c t. back c (q.only c t))
    where
      back : (c : A) → Among c cs ⊎ Stands m (replicate m empty) c → Stands m bs c
      back c (inl a) = in_all c a
      back c (inr t) = absurd (nothing ord c t)

  -- the same, where the full blocks are counted
  pub one_placement_counted : (cs : List A) (bs : List (Block A)) → Rising before cs → length cs ≤ m → zero < m → length bs ≡ m → Rule3 home before m bs
      → ((c : A) → Among c cs → Stands m bs c) → how_many bs ≡ length cs → bs ≡ placed home m cs (replicate m empty)
  one_placement_counted cs bs u g z p r in_all n = one_placement cs bs u g p r in_all (counted before m z ord.strict cs bs p u in_all n)
