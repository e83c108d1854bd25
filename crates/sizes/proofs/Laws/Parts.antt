-- Laws of bytes written over a list from a place on (`sets` of `lib.Seq`), and of the parts of the list afterwards.
use mathlib.Core.Path.{◌≡◌, refl, sym, ◌∙◌}
use mathlib.Core.Logic.{◌≢◌, ◌⊎◌, inl, inr, ⊎_elim}
use mathlib.Core.List.{List, [], ◌∷◌, ◌++◌}
use Prim.Native.Nat.{ℕ, suc, ◌+◌, ◌*◌, ◌-◌, ◌≤◌, ◌<◌}
use native.Mathlib.Numerals.{add-one}
use native.Mathlib.Omega.{arith}
use native.Mathlib.Nat.{mul-le-mul_right, add-zero, add-suc, suc-add}
use lib.ListN.{replicate, length, get_or, set, take, drop, length-take, length-drop, length-set}
use lib.Seq.{sets-eq, sets, set_comm, take_all, take-set-le, drop-set-lt, drop-set-add, get_or-set_other, take-suc, length-take-le, get_or-take, get_or-drop}
use borrow.Rule.Slice.PartMut.{put_mid}
use Rattle.std.proofs.lemmas.Slice.{put_mid-paste}
use Rattle.sizes.specs.Parts.{Apart, Forward, block_in, put_block, clear_in, copy_in, swap_in}
use Rattle.sizes.proofs.Laws.Bytes.{block_end}

module _ {A : Type 0} where
  -- one list after another
  pub sets_append : (l : List A) (a : ℕ) (xs ys : List A) → sets l a (xs ++ ys) ≡ sets (sets l a xs) (a + length xs) ys
  sets_append l a [] ys = rw add-zero
  sets_append l a (x ∷ xs) ys = rw (add-suc, ← suc-add) (sets_append (set l a x) (suc a) xs ys)

  -- a turn of a loop that writes vs: one store more
  pub sets_more : (l : List A) (a : ℕ) (vs : List A) (k : ℕ) (d : A) → k < length vs → set (sets l a (take k vs)) (a + k) (get_or vs k d) ≡ sets l a (take (k + 1) vs)
  sets_more l a vs k d h =
      let e : length (take k vs) ≡ k = length-take-le k vs (omega arith) in
      sym (rw (add-one, take-suc vs k d, sets_append, e))

  pub take_sets : (n : ℕ) (l : List A) (a : ℕ) (vs : List A) → n ≤ a → take n (sets l a vs) ≡ take n l
  take_sets n l a [] h = refl
  take_sets n l a (v ∷ vs) h = take_sets n (set l a v) (suc a) vs (omega arith) ∙ take-set-le n l a v h

  pub drop_sets : (n : ℕ) (l : List A) (a : ℕ) (vs : List A) → a + length vs ≤ n → drop n (sets l a vs) ≡ drop n l
  drop_sets n l a [] h = refl
  drop_sets n l a (v ∷ vs) h = drop_sets n (set l a v) (suc a) vs (omega arith) ∙ drop-set-lt n l a v (omega arith)

  pub drop_sets_add : (n : ℕ) (l : List A) (a : ℕ) (vs : List A) → drop n (sets l (n + a) vs) ≡ sets (drop n l) a vs
  drop_sets_add n l a [] = refl
  drop_sets_add n l a (v ∷ vs) = rw (← add-suc) (drop_sets_add n (set l (n + a) v) (suc a) vs ∙ rw drop-set-add)

  pub get_d_sets_before : (l : List A) (a : ℕ) (vs : List A) (j : ℕ) (d : A) → j < a → get_or (sets l a vs) j d ≡ get_or l j d
  get_d_sets_before l a [] j d h = refl
  get_d_sets_before l a (v ∷ vs) j d h = get_d_sets_before (set l a v) (suc a) vs j d (omega arith) ∙ get_or-set_other l a j v d (omega arith)

  pub get_d_sets_after : (l : List A) (a : ℕ) (vs : List A) (j : ℕ) (d : A) → a + length vs ≤ j → get_or (sets l a vs) j d ≡ get_or l j d
  get_d_sets_after l a [] j d h = refl
  get_d_sets_after l a (v ∷ vs) j d h = get_d_sets_after (set l a v) (suc a) vs j d (omega arith) ∙ get_or-set_other l a j v d (omega arith)

  pub set_sets : (l : List A) (a : ℕ) (vs : List A) (j : ℕ) (x : A) → (j < a) ⊎ (a + length vs ≤ j) → set (sets l a vs) j x ≡ sets (set l j x) a vs
  set_sets l a [] j x o = refl
  set_sets l a (v ∷ vs) j x o =
      let ne : a ≢ j = ⊎_elim (λ h. omega arith) (λ h. omega arith) o in
      set_sets (set l a v) (suc a) vs j x (⊎_elim (λ h. inl (omega arith)) (λ h. inr (omega arith)) o) ∙ rw (set_comm l a j v x ne)

  -- a part that lies before what was written, after it, and what was written
  pub part_before : (n b : ℕ) (l : List A) (a : ℕ) (vs : List A) → b + n ≤ a → take n (drop b (sets l a vs)) ≡ take n (drop b l)
  part_before n b l a vs h =
      let e : a ≡ b + (a - b) = omega arith in
      let f : n ≤ a - b = omega arith in
      rw (e, drop_sets_add, take_sets)

pub blocks_apart : (i j w : ℕ) → i ≢ j → Apart (53 + i * w) (53 + j * w) w
blocks_apart i j w ne =
    let h = block_end i j w in
    let k = block_end j i w in
    grind arith

pub blocks_forward : (i j w : ℕ) → Forward (53 + i * w) (53 + j * w) w
blocks_forward i j w =
    let h = block_end i j w in
    let k : j ≤ i → j * w ≤ i * w = λ l. mul-le-mul_right w l in
    grind arith

pub get_d_part : (n b : ℕ) (l : List ℕ) (k : ℕ) → k < n → get_or (take n (drop b l)) k 0 ≡ get_or l (b + k) 0
get_d_part n b l k h = rw (get_or-take, get_or-drop)

pub length_part : (n b : ℕ) (l : List ℕ) → b + n ≤ length l → length (take n (drop b l)) ≡ n
length_part n b l h = simp (length-take, length-drop) (omega arith)

-- what a loop keeps that writes vs, of n elements, over l from a on: k of them are written
pub record Written (l : List ℕ) (a : ℕ) (vs : List ℕ) (n : ℕ) (s : List ℕ) (k : ℕ) : Type 0 where
  pub within : k ≤ n
  pub count : length vs ≡ n
  pub same : length s ≡ length l
  pub is : s ≡ sets l a (take k vs)

module _ (l : List ℕ) (a : ℕ) (vs : List ℕ) (n : ℕ) where
  pub written_start : length vs ≡ n → Written l a vs n l 0
  written_start e = record { within = omega arith; count = e; same = refl; is = refl }

  module _ (s : List ℕ) (k : ℕ) (i : Written l a vs n s k) where
    pub written_more : k < n → (x : ℕ) → x ≡ get_or vs k 0 → Written l a vs n (set s (a + k) x) (k + 1)
    written_more h x e =
        let f : k < length vs = omega arith in
        record { within = omega arith; count = i.count; same = length-set s (a + k) x ∙ i.same; is = rw (e, i.is) (sets_more l a vs k 0 f) }

    pub written_end : n ≤ k → s ≡ sets l a vs
    written_end h = i.is ∙ rw (take_all k vs (omega arith))

    -- an element outside is as it was
    pub written_out : (j : ℕ) → (j < a) ⊎ (a + k ≤ j) → get_or s j 0 ≡ get_or l j 0
    written_out j (inl h) = rw i.is (get_d_sets_before l a (take k vs) j 0 h)
    written_out j (inr h) = rw i.is (get_d_sets_after l a (take k vs) j 0 (simp (length-take) (omega arith)))

-- as `copy` asks: what it reads was not written yet
pub copied : (l : List ℕ) (from to n : ℕ) (s : List ℕ) (k : ℕ) → Forward from to n → Written l to (take n (drop from l)) n s k → k < n
    → Written l to (take n (drop from l)) n (set s (to + k) (get_or s (from + k) 0)) (k + 1)
copied l from to n s k ap i h =
    written_more l to (take n (drop from l)) n s k i h (get_or s (from + k) 0)
    (written_out l to (take n (drop from l)) n s k i (from + k) (⊎_elim (λ b. inl (omega arith)) (λ b. inr (omega arith)) ap) ∙ sym (get_d_part n from l k h))

-- as `bring` asks
pub brought : (l from : List ℕ) (at start n : ℕ) (s : List ℕ) (k : ℕ) → Written l at (take n (drop start from)) n s k → k < n
    → Written l at (take n (drop start from)) n (set s (at + k) (get_or from (start + k) 0)) (k + 1)
brought l from at start n s k i h = written_more l at (take n (drop start from)) n s k i h (get_or from (start + k) 0) (sym (get_d_part n start from k h))

-- WHAT THE LIBRARY'S METHODS LEAVE of a list is a part written over it. They take a part by where it ends
pub part_of : {A : Type 0} (a n : ℕ) (l : List A) → take (a + n - a) (drop a l) ≡ take n (drop a l)
part_of a n l =
    let e : a + n - a ≡ n = omega arith in
    rw e

module _ {A : Type 0} (l : List A) (a n : ℕ) (vs : List A) (h : a + n ≤ length l) (e : length vs ≡ n) where
  pub part_written : (ys : List A) → ys ≡ vs → put_mid a (a + n - a) l ys ≡ sets l a vs
  part_written ys f =
      let g : a + length vs ≤ length l = omega arith in
      put_mid-paste a (a + n - a) l ys vs n f (omega arith) (sym e) ∙ rw (sets-eq vs l a g, e, take_all n vs (omega arith))

-- as the functions on blocks ask: their parts lie at 53 and as many blocks
pub forward_at : (i j w n a b : ℕ) → a ≡ 53 + i * w → b ≡ 53 + j * w → n ≡ w → Forward a b n
forward_at i j w n a b ea eb en = rw (ea, eb, en) (blocks_forward i j w)

pub apart_at : (i j w n a b : ℕ) → a ≡ 53 + i * w → b ≡ 53 + j * w → n ≡ w → (i ≡ j → ⊥) → Apart a b n
apart_at i j w n a b ea eb en ne = rw (ea, eb, en) (blocks_apart i j w ne)

pub clear_made : (w n : ℕ) (bs bs' : List ℕ) (i a : ℕ) → a ≡ 53 + i * w → n ≡ w → bs' ≡ sets bs a (replicate n 0) → bs' ≡ clear_in w bs i
unfolding clear_in put_block
clear_made w n bs bs' i a ea en e = e ∙ rw (ea, en)

pub copy_made : (w n : ℕ) (bs bs' : List ℕ) (i j a b : ℕ) → a ≡ 53 + i * w → b ≡ 53 + j * w → n ≡ w → bs' ≡ sets bs b (take n (drop a bs)) → bs' ≡ copy_in w bs i j
unfolding copy_in put_block block_in
copy_made w n bs bs' i j a b ea eb en e = e ∙ rw (ea, eb, en)

pub swap_made : (w n : ℕ) (bs bs' : List ℕ) (i j a b : ℕ) → a ≡ 53 + i * w → b ≡ 53 + j * w → n ≡ w → bs' ≡ sets (sets bs a (take n (drop b bs))) b (take n (drop a bs)) → bs' ≡ swap_in w bs i j
unfolding swap_in put_block block_in
swap_made w n bs bs' i j a b ea eb en e = e ∙ rw (ea, eb, en)
