-- Lists written into lists, the label at the front of a block, and two stores that an edit treats alike.
use Rattle.std.proofs.Common.{◌≡◌, ℕ, zero, suc, ◌+◌, ◌*◌, ◌%◌, ◌<◌, ◌≤◌, Bool, true, false, cond, eqb, List, [], ◌∷◌, ◌++◌, length, take, drop, sym, refl, ap, ◌∙◌, add-zero, mod-lt, arith, length-append, take-append-drop, length-take-le, get_or-drop, get_or-take, take_at}
use lib.Seq.{sets, sets-eq, take-append_seam, drop-append_seam}
use Rattle.placement.specs.Decode.{head_label, cut}
use Rattle.sizes.specs.Parts.{block_in}
use Rattle.placement.specs.Place.{label_in, Store, pull, settle, stays_at}
use Rattle.placement.specs.declared.Label.{Label}
use Rattle.sizes.specs.Numbers.{rows_in}
use Rattle.sizes.proofs.Laws.Numbers.{field_part}
use Rattle.sizes.proofs.Laws.Parts.{take_sets, drop_sets_add}

-- a list put into a list: what stands before its end
pub take_sets_end : {A : Type 0} (l : List A) (a : ℕ) (vs : List A) → a + length vs ≤ length l → take (a + length vs) (sets l a vs) ≡ take a l ++ vs
take_sets_end l a vs h =
    let e : length (take a l ++ vs) ≡ a + length vs = length-append (take a l) vs ∙ rw (length-take-le a l (omega arith)) in
    rw (sets-eq vs l a h) (take_at (take a l ++ vs) (drop (a + length vs) l) (a + length vs) e)

-- bytes written past a list
pub sets_past : (x l : List ℕ) (a : ℕ) (vs : List ℕ) → sets (x ++ l) (length x + a) vs ≡ x ++ sets l a vs
sets_past x l a vs =
    sym (take-append-drop (length x) (sets (x ++ l) (length x + a) vs))
    ∙ rw (take_sets (length x) (x ++ l) (length x + a) vs (omega arith), drop_sets_add, take-append_seam, drop-append_seam)

pub label_cell : (w : ℕ) (bs : List ℕ) (i : ℕ) → 8 ≤ w → label_in w bs i ≡ head_label (block_in w bs i)
unfolding label_in head_label block_in
label_cell w bs i h =
    let h0 : 0 < w = omega arith in
    let h2 : 2 + 2 ≤ w = omega arith in
    let h4 : 4 + 4 ≤ w = omega arith in
    rw (get_or-take w (drop (53 + i * w) bs) 0 0 h0, get_or-drop, add-zero, field_part 4 4 w (53 + i * w) bs h4, field_part 2 2 w (53 + i * w) bs h2)

-- TWO STORES: f takes what one holds to what the other holds, and each step of an edit with it
pub record Same {S R : Type 0} (s : Store S) (r : Store R) (m : ℕ) (f : R → S) (Valid : R → Type 0) : Type 0 where
  pub look : (x : R) → Valid x → (i : ℕ) → i < m → s.look (f x) i ≡ r.look x i
  pub copy : (x : R) → Valid x → (i j : ℕ) → i < m → j < m → s.copy (f x) i j ≡ f (r.copy x i j)
  pub swap : (x : R) → Valid x → (i j : ℕ) → i < m → j < m → s.swap (f x) i j ≡ f (r.swap x i j)
  pub clear : (x : R) → Valid x → (i : ℕ) → i < m → s.clear (f x) i ≡ f (r.clear x i)
  pub copy_valid : (x : R) → Valid x → (i j : ℕ) → i < m → j < m → Valid (r.copy x i j)
  pub swap_valid : (x : R) → Valid x → (i j : ℕ) → i < m → j < m → Valid (r.swap x i j)

pub cond_out : {S R : Type 0} (f : R → S) (t : Bool) (a b : R) → cond t (f a) (f b) ≡ f (cond t a b)
cond_out f true a b = refl
cond_out f false a b = refl

pub cond_valid : {R : Type 0} {a b : R} (Valid : R → Type 0) (t : Bool) → Valid a → Valid b → Valid (cond t a b)
cond_valid Valid true va vb = va
cond_valid Valid false va vb = vb

module _ {S R : Type 0} (s : Store S) (r : Store R) (m : ℕ) (f : R → S) (Valid : R → Type 0) (q : Same s r m f Valid) (pos : 0 < m) where
  pub pull_same : (home : Label → ℕ) (k e i : ℕ) (x : R) → Valid x → e < m → pull s home m k e i (f x) ≡ f (pull r home m k e i x)
  unfolding pull
  pull_same home zero e i x v h = q.clear x v e h
  pull_same home (suc k) e i x v h =
      let j : i % m < m = mod-lt i pos in
      let t : Bool = stays_at m e (i % m) (home (r.look x (i % m))) in
      rw (
        q.look x v (i % m) j,
        q.clear x v e h,
        q.copy x v (i % m) e j h,
        cond_out f t,
        pull_same home k (cond t e (i % m)) (suc i) (cond t x (r.copy x (i % m) e))
            (cond_valid Valid t v (q.copy_valid x v (i % m) e j h))
            (cond_valid (λ n. n < m) t h j),
        cond_out f (eqb (r.look x (i % m)).level 0),
      )

  pub settle_same : (before : Label → Label → Bool) (k e i : ℕ) (x : R) → Valid x → e < m → settle s before m k e i (f x) ≡ f (settle r before m k e i x)
  unfolding settle
  settle_same before zero e i x v h = refl
  settle_same before (suc k) e i x v h =
      let j : i % m < m = mod-lt i pos in
      let t : Bool = before (r.look x e) (r.look x (i % m)) in
      rw (q.look x v (i % m) j, q.look x v e h, q.swap x v (i % m) e j h, cond_out f t)
      (settle_same before k e (suc i) (cond t (r.swap x (i % m) e) x) (cond_valid Valid t (q.swap_valid x v (i % m) e j h) v) h)

pub length_zero : {A : Type 0} (l : List A) → length l ≡ 0 → l ≡ []
length_zero [] e = refl
length_zero (x ∷ l) e = absurd (omega arith)

pub cut_length : (w m : ℕ) (l : List ℕ) → length (cut w m l) ≡ m
unfolding rows_in
cut_length w zero l = refl
cut_length w (suc m) l = ap suc (cut_length w m (drop w l))
