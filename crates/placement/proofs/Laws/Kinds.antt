-- THE PROMISE FOR CHUNKS OF ANY KIND: what search, insertion, change and removal of the theory do to the map that a table keeps. A version of the table is an instance of `Lawful`.
use Rattle.std.proofs.Common.{◌≡◌, ℕ, zero, suc, ◌%◌, ◌<◌, ◌≤◌, Bool, true, false, ◌≢◌, ◌⊎◌, List, [], ◌∷◌, length, get_or, replicate, sym, refl, ap, ◌∙◌, subst, inl, inr, true≢false, add-zero, arith}
use native.Mathlib.Decide.{ℕ_discrete}
use Rattle.sizes.specs.Orders.{sorted}
use Rattle.placement.specs.Blocks.{Among, Block, empty, holds, around, stored, Stands, Rule3, placed}
use Rattle.placement.specs.Kinds.{Kind, Holds, Keeps, with_chunk, without_label, map_of}
use Rattle.placement.proofs.Laws.Blocks.{Ordered, around_mod, around_inside, stored_there, stored_elsewhere, stored_long}
use Rattle.placement.proofs.Laws.Store.{Alike, before_store, stored_stands, change_keeps}
use Rattle.placement.proofs.Laws.Unique.{one_arrangement}
use Rattle.placement.proofs.Laws.Placed.{Place, Rising, Joined, Placing, how_many_empty, store_count, placement, nothing}
use Rattle.placement.proofs.Laws.Sorted.{Comparable, sorted_long, sorted_rises, placing_sorted}
use Rattle.placement.proofs.Laws.Insertion.{Other, one_label, insert_from, inserted}
use Rattle.placement.proofs.Laws.Removal.{Removed, removed_at, removed}
use Rattle.placement.proofs.Laws.Search.{Found, at_place, absent, search_from, Answer, search_right}

-- WHAT IS ASKED of a kind of chunks, of their homes in m blocks and of the order of their labels
pub record Lawful {A L R : Type 0} (k : Kind A L R) (home : A → ℕ) (before : A → A → Bool) (m : ℕ) : Type 0 where
  pub again : (c : A) → k.make (k.label c) (k.rows c) ≡ c
  pub labelled : (w : L) (ns : List R) → k.label (k.make w ns) ≡ w
  pub own : (c : A) → k.has c (k.label c) ≡ true
  pub only : (c : A) (w : L) → k.has c w ≡ true → k.label c ≡ w
  pub strict : (c : A) → before c c ≡ false
  pub chain : (c d e : A) → before c d ≡ true → before d e ≡ true → before c e ≡ true
  pub one : (c d : A) → before c d ≡ false → before d c ≡ false → k.label c ≡ k.label d
  pub alike : (c d : A) → k.label c ≡ k.label d → Alike home before c d
  pub inside : (c : A) → home c < m

data Labelled {A L R : Type 0} (k : Kind A L R) (c : A) (w : L) : Type 0 where
  is : k.has c w ≡ true → k.label c ≡ w → Labelled k c w
  isnt : k.has c w ≡ false → k.label c ≢ w → Labelled k c w

abbrev pub rows_found : {A L R : Type 0} → Kind A L R → Found A → List R
rows_found k (at_place i d) = k.rows d
rows_found k absent = []

-- the chunks that stand in a table, as a list
unfoldable pub held : {A : Type 0} → List (Block A) → List A
held [] = []
held (empty ∷ bs) = held bs
held (holds c ∷ bs) = c ∷ held bs

module _ {A : Type 0} where
  among_held : (bs : List (Block A)) (j : ℕ) (c : A) → get_or bs j empty ≡ holds c → Among c (held bs)
  unfolding held
  among_held [] j c e = absurd (true≢false cc)
  among_held (empty ∷ bs) zero c e = absurd (true≢false cc)
  among_held (empty ∷ bs) (suc j) c e = among_held bs j c e
  among_held (holds d ∷ bs) zero c e = inl cc
  among_held (holds d ∷ bs) (suc j) c e = inr (among_held bs j c e)

  held_stands : (bs : List (Block A)) (c : A) → Among c (held bs) → Place bs (holds c)
  unfolding held
  held_stands [] c a = absurd a
  held_stands (empty ∷ bs) c a = let r = held_stands bs c a in record { at = suc r.at; inside = omega (arith, r.inside); is = r.is }
  held_stands (holds d ∷ bs) c (inl e) = record { at = 0; inside = omega arith; is = ap holds (sym e) }
  held_stands (holds d ∷ bs) c (inr a) = let r = held_stands bs c a in record { at = suc r.at; inside = omega (arith, r.inside); is = r.is }

module _ {A L R : Type 0} {k : Kind A L R} {home : A → ℕ} {before : A → A → Bool} {m : ℕ} (law : Lawful k home before m) where
  -- ---- labels

  hasnt : (c : A) (w : L) → k.label c ≢ w → k.has c w ≡ false
  hasnt c w n = go (k.has c w) refl
    where
      go : (b : Bool) → k.has c w ≡ b → k.has c w ≡ false
      go true e = absurd (n (law.only c w e))
      go false e = e

  decided : (c : A) (w : L) → Labelled k c w
  decided c w = go (k.has c w) refl
    where
      go : (b : Bool) → k.has c w ≡ b → Labelled k c w
      go true e = is e (law.only c w e)
      go false e = isnt e (λ p. true≢false (sym (subst (λ (v : L). k.has c v ≡ true) p (law.own c)) ∙ e))

  made : (c : A) (w : L) (ns : List R) → k.label c ≡ w → k.rows c ≡ ns → k.make w ns ≡ c
  made c w ns p q = cc (law.again c)

  -- chunks of one label are not before one another
  apart : (c x : A) → k.label c ≡ k.label x → (before x c ≡ false) × (before c x ≡ false)
  apart c x e = let a = law.alike c x e in (a.right x ∙ law.strict x, a.left x ∙ law.strict x)

  pub ordered : Ordered home before m
  ordered = record {
    strict = law.strict;
    chain = law.chain;
    tied = λ c d p q. (law.alike c d (law.one c d p q)).home_same;
    like = λ c d e p q h. sym ((law.alike c d (law.one c d p q)).right e) ∙ h;
    homes = law.inside;
  }

  -- one label stands in one block
  pub one_place : (bs : List (Block A)) → Rule3 home before m bs → (c x : A) (i j : ℕ) → around m bs i ≡ holds c → around m bs j ≡ holds x → k.label c ≡ k.label x → j % m ≡ i % m
  one_place bs r c x i j e f p =
      let a = apart c x p in one_label ordered bs r x c j i f e a.0 a.1

  one_chunk : (bs : List (Block A)) → Rule3 home before m bs → (c x : A) → Stands m bs c → Stands m bs x → k.label c ≡ k.label x → c ≡ x
  one_chunk bs r c x t u p = cc (t.is, u.is, around_mod m bs u.at t.at (one_place bs r c x t.at u.at t.is u.is p))

  -- ---- tables that hold a map

  -- a label that the map has not is another than those that stand
  pub absent_other : (bs : List (Block A)) (F : L → List R) (c : A) → Holds k m bs F → F (k.label c) ≡ [] → Other before m c bs
  absent_other bs F c h e x t n = go (before c x) refl
    where
      go : (b : Bool) → before c x ≡ b → before c x ≡ true
      go true z = z
      go false z = let p = law.one x c n z in absurd (h.full x t (cc (h.told x t)))

  -- the chunk of a map that stands in one table stands in any that holds the map
  stands_too : (bs cs : List (Block A)) (F : L → List R) → Holds k m bs F → Holds k m cs F → (c : A) → Stands m bs c → Stands m cs c
  stands_too bs cs F x y c t =
      let e = x.told c t in
      subst (λ (d : A). Stands m cs d) (made c (k.label c) (F (k.label c)) refl (sym e)) (y.all (k.label c) (λ n. x.full c t (sym e ∙ n)))

  -- TWO TABLES that keep rule 3 and hold the same map are equal
  pub one_table : (bs cs : List (Block A)) (F : L → List R) → length bs ≡ m → length cs ≡ m → Rule3 home before m bs → Rule3 home before m cs → Holds k m bs F → Holds k m cs F → bs ≡ cs
  one_table bs cs F p q r r' x y =
      one_arrangement ordered bs cs p q r r' (stands_too bs cs F x y) (stands_too cs bs F y x)

  -- the table now has the chunk c, or has no more its label, and else what it had
  module _ (bs now : List (Block A)) (F : L → List R) (c : A) (h : Holds k m bs F) (stays : (x : A) → Stands m bs x → k.label c ≢ k.label x → Stands m now x) where
    rest : (w : L) → F w ≢ [] → k.label c ≢ w → Stands m now (k.make w (F w))
    rest w f q = stays (k.make w (F w)) (h.all w f) (λ e. q (e ∙ law.labelled w (F w)))

    holds_with : k.rows c ≢ [] → Stands m now c → ((x : A) → Stands m now x → (x ≡ c) ⊎ (Stands m bs x × (k.label c ≢ k.label x))) → Holds k m now (with_chunk k c F)
    holds_with n comes only = record { told = λ x t. told x (only x t); full = λ x t. full x (only x t); all = λ w f. all w f (decided c w) }
      where
        told : (x : A) → (x ≡ c) ⊎ (Stands m bs x × (k.label c ≢ k.label x)) → with_chunk k c F (k.label x) ≡ k.rows x
        told x (inl z) = rw (z, law.own c)
        told x (inr t) = rw (hasnt c (k.label x) t.1) (h.told x t.0)

        full : (x : A) → (x ≡ c) ⊎ (Stands m bs x × (k.label c ≢ k.label x)) → k.rows x ≢ []
        full x (inl z) = rw z n
        full x (inr t) = h.full x t.0

        all : (w : L) → with_chunk k c F w ≢ [] → Labelled k c w → Stands m now (k.make w (with_chunk k c F w))
        all w f (is z p) = rw (z, made c w (k.rows c) p refl) comes
        all w f (isnt z q) = rw z (rest w (rw z at f) q)

    holds_without : ((x : A) → Stands m now x → Stands m bs x × (k.label c ≢ k.label x)) → Holds k m now (without_label k c F)
    holds_without only = record {
      told = λ x t. rw (hasnt c (k.label x) (only x t).1) (h.told x (only x t).0);
      full = λ x t. h.full x (only x t).0;
      all = λ w f. all w f (decided c w);
    }
      where
        all : (w : L) → without_label k c F w ≢ [] → Labelled k c w → Stands m now (k.make w (without_label k c F w))
        all w f (is z p) = absurd (f (rw z))
        all w f (isnt z q) = rw z (rest w (rw z at f) q)

  -- INSERTION: one label more
  holds_joined : (bs now : List (Block A)) (F : L → List R) (c : A) → Holds k m bs F → F (k.label c) ≡ [] → k.rows c ≢ [] → Joined home before m c bs now → Holds k m now (with_chunk k c F)
  holds_joined bs now F c h e n j = holds_with bs now F c h (λ x t q. j.stays x t) n j.comes (λ x t. only x (j.only x t))
    where
      only : (x : A) → (x ≡ c) ⊎ Stands m bs x → (x ≡ c) ⊎ (Stands m bs x × (k.label c ≢ k.label x))
      only x (inl z) = inl z
      only x (inr t) = inr (t, λ p. h.full x t (cc (h.told x t)))

  -- REMOVAL: one label less
  holds_removed : (bs now : List (Block A)) (F : L → List R) (c : A) → Holds k m bs F → Removed home before m c bs now → Holds k m now (without_label k c F)
  holds_removed bs now F c h j = holds_without bs now F c h (λ x t q. stay x q (j.stays x t)) (λ x t. (j.only x t, λ p. let a = apart c x p in j.gone x a.0 a.1 t))
    where
      stay : (x : A) → k.label c ≢ k.label x → (x ≡ c) ⊎ Stands m now x → Stands m now x
      stay x q (inl z) = absurd (q (ap k.label (sym z)))
      stay x q (inr t) = t

  -- CHANGE: other rows under a label that stands
  holds_changed : (bs : List (Block A)) (F : L → List R) (c d : A) (i : ℕ) → length bs ≡ m → Rule3 home before m bs → Holds k m bs F → around m bs i ≡ holds c → k.label d ≡ k.label c → k.rows d ≢ []
      → Holds k m (stored m bs i (holds d)) (with_chunk k d F)
  holds_changed bs F c d i long r h e l n =
      holds_with bs now F d h (λ x t q. stay x q (before_store m bs i long some (holds d) x t)) n (stored_stands m bs i long some d) (λ x t. only x t (ℕ_discrete (t.at % m) (i % m)))
    where
      now : List (Block A)
      now = stored m bs i (holds d)

      some : zero < m
      some = omega (arith, law.inside c)

      stay : (x : A) → k.label d ≢ k.label x → (around m bs i ≡ holds x) ⊎ Stands m now x → Stands m now x
      stay x q (inl z) = let o : c ≡ x = cc in absurd (q (l ∙ ap k.label o))
      stay x q (inr t) = t

      only : (x : A) (t : Stands m now x) → Dec (t.at % m ≡ i % m) → (x ≡ d) ⊎ (Stands m bs x × (k.label d ≢ k.label x))
      only x t (yes u) = inl (cc (t.is, stored_there m bs i t.at (holds d) some long u))
      only x t (no u) =
          let o = sym (stored_elsewhere m bs i t.at (holds d) u) ∙ t.is in
          inr (record { at = t.at; is = o }, λ p. u (one_place bs r c x i t.at e o (sym l ∙ p)))

  -- ---- the map of some chunks

  map_told : (cs : List A) → ((c d : A) → Among c cs → Among d cs → k.label c ≡ k.label d → c ≡ d) → (c : A) → Among c cs → map_of k cs (k.label c) ≡ k.rows c
  map_told [] u c a = absurd a
  map_told (d ∷ cs) u c (inl e) = rw (e, law.own d)
  map_told (d ∷ cs) u c (inr a) = go (decided d (k.label c)) (map_told cs (λ x y p q. u x y (inr p) (inr q)) c a)
    where
      go : Labelled k d (k.label c) → map_of k cs (k.label c) ≡ k.rows c → map_of k (d ∷ cs) (k.label c) ≡ k.rows c
      go (is z p) h = rw (z, u d c (inl refl) (inr a) p)
      go (isnt z n) h = rw z h

  pub map_only : (P : A → Type 0) (cs : List A) → ((c : A) → Among c cs → P c) → (w : L) → map_of k cs w ≢ [] → P (k.make w (map_of k cs w))
  map_only P [] h w n = absurd (n refl)
  map_only P (d ∷ cs) h w n = go (decided d w) (λ n. map_only P cs (λ c a. h c (inr a)) w n)
    where
      go : Labelled k d w → (map_of k cs w ≢ [] → P (k.make w (map_of k cs w))) → P (k.make w (map_of k (d ∷ cs) w))
      go (is z p) rest = rw (z, made d w (k.rows d) p refl) (h d (inl refl))
      go (isnt z q) rest = rw z (rest (rw z at n))

  -- a table that keeps rule 3 and has just these chunks, all with rows, holds their map
  holds_map : (cs : List A) (bs : List (Block A)) → Rule3 home before m bs → ((c : A) → Among c cs → Stands m bs c) → ((c : A) → Stands m bs c → Among c cs)
      → ((c : A) → Stands m bs c → k.rows c ≢ []) → Holds k m bs (map_of k cs)
  holds_map cs bs r comes only n = record {
    told = λ c t. map_told cs (λ x y p q. one_chunk bs r x y (comes x p) (comes y q)) c (only c t);
    full = n;
    all = map_only (λ (c : A). Stands m bs c) cs comes;
  }

  -- a table that keeps rule 3, all of whose chunks have rows, holds the map read off it
  pub holds_read : (bs : List (Block A)) → length bs ≡ m → Rule3 home before m bs → ((c : A) → Stands m bs c → k.rows c ≢ []) → Holds k m bs (map_of k (held bs))
  unfolding around
  holds_read bs long r =
      holds_map (held bs) bs r (λ c a. let s = held_stands bs c a in record { at = s.at; is = around_inside m bs s.at (omega (arith, s.inside)) ∙ s.is }) (λ c t. among_held bs (t.at % m) c t.is)

  -- ---- THE PROMISES

  -- ONE TABLE keeps a map
  pub kept_once : {bs cs : List (Block A)} {F G : L → List R} {n n' : ℕ} → ((w : L) → F w ≡ G w) → Keeps k home before m bs F n → Keeps k home before m cs G n' → bs ≡ cs
  kept_once {bs} {cs} {G = G} e x y =
      one_table bs cs G x.long y.long x.rule_3 y.rule_3 (subst (λ (H : L → List R). Holds k m bs H) (λ j w. e w j) x.map) y.map

  -- INSERTION of an absent label
  pub put_in : {bs : List (Block A)} {F : L → List R} {n : ℕ} (c : A) → Keeps k home before m bs F n → F (k.label c) ≡ [] → k.rows c ≢ [] → n < m
      → Keeps k home before m (insert_from before m (home c) m c bs) (with_chunk k c F) (suc n)
  put_in {bs} {F} c q e full w =
      let j = inserted ordered c bs q.long q.rule_3 (absent_other bs F c q.map e) (omega (arith, q.count)) in
      record { long = j.long; rule_3 = j.rule_3; map = holds_joined bs _ F c q.map e full j; count = j.count ∙ ap suc q.count }

  -- REMOVAL of the chunk at a place
  pub take_out : {bs : List (Block A)} {F : L → List R} {n : ℕ} (c : A) (i : ℕ) → Keeps k home before m bs F (suc n) → around m bs i ≡ holds c
      → Keeps k home before m (removed_at home m i bs) (without_label k c F) n
  take_out {bs} {F} c i q e =
      let j = removed ordered i c bs q.long q.rule_3 e in
      record { long = j.long; rule_3 = j.rule_3; map = holds_removed bs _ F c q.map j; count = omega (arith, j.count, q.count) }

  -- CHANGE of the rows under a label
  pub change : {bs : List (Block A)} {F : L → List R} {n : ℕ} (c d : A) (i : ℕ) → Keeps k home before m bs F n → around m bs i ≡ holds c → k.label d ≡ k.label c
      → k.rows d ≢ [] → Keeps k home before m (stored m bs i (holds d)) (with_chunk k d F) n
  change {bs} {F} c d i q e l full = record {
    long = stored_long m bs i (holds d) q.long;
    rule_3 = change_keeps ordered bs c d i q.long q.rule_3 e (law.alike d c l);
    map = holds_changed bs F c d i q.long q.rule_3 q.map e l full;
    count = omega (arith, q.count, store_count m bs i (holds c) (holds d) q.long (omega (arith, law.inside c)) e);
  }

  pub search_answer : {bs : List (Block A)} {F : L → List R} {n : ℕ} (c : A) → Keeps k home before m bs F n → Answer before m c bs (search_from before m (home c) m c bs)
  search_answer {bs} c q = rw add-zero at (search_right ordered c bs q.rule_3 m 0 (λ l w. absurd (omega arith)) (add-zero m))

  -- SEARCH from the home of a label: its rows, or [] where it is absent
  pub search_kept : {bs : List (Block A)} {F : L → List R} {n : ℕ} (c : A) → Keeps k home before m bs F n
      → rows_found k (search_from before m (home c) m c bs) ≡ F (k.label c)
  search_kept {bs} {F} c q = go (search_from before m (home c) m c bs) (search_answer c q)
    where
      none : Answer before m c bs absent → (ns : List R) → F (k.label c) ≡ ns → [] ≡ ns
      none h [] e = refl
      none h (x ∷ ns) e =
          let a = apart c (k.make (k.label c) (F (k.label c))) (sym (law.labelled (k.label c) (F (k.label c)))) in
          absurd (true≢false (sym (h (k.make (k.label c) (F (k.label c))) (q.map.all (k.label c) (λ z. true≢false (cc))) a.0) ∙ a.1))

      go : (a : Found A) → Answer before m c bs a → rows_found k a ≡ F (k.label c)
      go (at_place i d) h = let p = law.one d c h.1 h.2 in cc (q.map.told d (record { at = i; is = h.0 }))
      go absent h = none h (F (k.label c)) refl

  -- chunks that can be compared rise once they are sorted
  pub chunks_rise : (cs : List A) → Comparable before cs → Rising before (sorted before cs)
  chunks_rise = sorted_rises before law.chain

  pub sorted_placement : (cs : List A) → Comparable before cs → length cs ≤ m → Placing home before m cs (replicate m empty) (placed home m (sorted before cs) (replicate m empty))
  sorted_placement cs u g = placing_sorted home before m cs _ _ (placement ordered (sorted before cs) (chunks_rise cs u) (omega (arith, sorted_long before cs)))

  -- THE PLACEMENT of chunks, sorted, keeps their map
  pub placed_keeps : (cs : List A) → Comparable before cs → length cs ≤ m → ((c : A) → Among c cs → k.rows c ≢ []) → Keeps k home before m (placed home m (sorted before cs) (replicate m empty)) (map_of k cs) (length cs)
  placed_keeps cs u g n =
      let q = sorted_placement cs u g in record {
        long = q.long;
        rule_3 = q.rule_3;
        map = holds_map cs _ q.rule_3 q.comes (λ c t. old c (q.only c t)) (λ c t. n c (old c (q.only c t)));
        count = omega (arith, q.count, how_many_empty A m);
      }
    where
      old : (c : A) → Among c cs ⊎ Stands m (replicate m empty) c → Among c cs
      old c (inl a) = a
      old c (inr t) = absurd (nothing ordered c t)
